-- Answers for come_to.
use Rattle.std.proofs.Common.{map, ap}
use Rattle.abc_state.specs.Views.{scope_of, state_of}
use Rattle.abc_pending.specs.Views.{frame_of, next_weight}
use Rattle.abc_machine.specs.Pending.{frames_weight}
use Rattle.abc_machine.proofs.Falling.{lessens, lessens_on}
use Rattle.abc_machine.proofs.Moving.{answered, within_here}
use Rattle.abc_machine.proofs.moves.come_to.Goals as goal

pub returns-in-Give-clause-leads : goal.returns-in-Give-clause-leads
returns-in-Give-clause-leads c = λ units old lines ended stands.
    answered units (scope_of c.args.scope.now) old c.args.next c.in-Give.reply (map frame_of c.args.frames.now) c.in-Give.is stands c.answer.result (scope_of c.answer.new.scope) (map frame_of c.answer.new.frames)
    (state_of c.args.run.now c.args.targets.now lines ended) (state_of c.answer.new.run c.answer.new.targets lines ended) (c.answer.ensures.leads units lines ended)

pub returns-in-Give-clause-within : goal.returns-in-Give-clause-within
returns-in-Give-clause-within c = λ units old stands h k.
    c.answer.ensures.within units (within_here units (scope_of c.args.scope.now) old c.args.next c.in-Give.reply (map frame_of c.args.frames.now) c.in-Give.is stands k)

pub returns-in-Give-clause-falls : goal.returns-in-Give-clause-falls
returns-in-Give-clause-falls c = λ units weight left falls.
    lessens_on units c.answer.result (map frame_of c.answer.new.frames) (frames_weight (map frame_of c.args.frames.now)) (next_weight c.args.next) c.answer.new.run.left c.args.run.now.left weight left
    (ap next_weight c.in-Give.is) (c.answer.ensures.falls units) falls

pub returns-in_default-clause-falls : goal.returns-in_default-clause-falls
returns-in_default-clause-falls c = λ units weight left falls.
    lessens units c.go_on.result (map frame_of c.go_on.new.frames) (frames_weight (map frame_of c.args.frames.now)) (next_weight c.args.next) c.args.run.now.left weight left c.go_on.ensures.weighs falls
