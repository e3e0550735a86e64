use Rattle.abc_machine.proofs.Moving.{waits}
use Rattle.abc_machine.proofs.moves.go_on.Goals as goal

pub returns-in-Ok-clause-leads : goal.returns-in-Ok-clause-leads
returns-in-Ok-clause-leads c = λ units old new s h.
    waits units old new c.args.next c.in-Wait.frame c.in-Wait.work c.args.frames.now c.push.new.self s c.in-Wait.is c.in-Ok.ensures.ok h
