use Rattle.std.proofs.Common.{◌≡◌, subst, arith}
use Rattle.abc_groups.specs.Program.{LAST_LINE}
use Rattle.abc_ground.specs.Typable.{IsTypableWith, IsTypeLine}
use Rattle.abc_check.proofs.Ending.{all_lines}
use Rattle.abc_check.proofs.types.UnitTypes.refuse.Goals as goal

pub returns-clause-fault : goal.returns-clause-fault
returns-clause-fault c = λ line e values w stands spelled no.
    let f : c.in_ok-line.line ≡ line = cc in
    let last : IsTypableWith values w c.args.command.now c.last_line.result → ⊥ = λ fits. no (all_lines values w c.args.command.now c.last_line.result LAST_LINE c.last_line.ensures.within c.last_line.ensures.ends fits) in
    subst (λ l. IsTypeLine (λ n. IsTypableWith values w c.args.command.now n) l) f (c.in_ok-line.ensures.line values w stands spelled (λ one. absurd (omega (arith, one))) last)
