use Rattle.std.proofs.Common.{◌≡◌, ℕ, ◌≤◌, List, sym, subst}
use Rattle.std.specs.Prelude.{Err, OnOk}
use Rattle.abc_groups.specs.Program.{LAST_LINE}
use Rattle.abc_ground.specs.Groups.{Cut}
use Rattle.abc_ground.specs.Typable.{Values, IsTypable, IsTypableWith, IsTypeLine}
use Rattle.abc_check.specs.Standing.{CallsAreSpelled, StandsFor}
use Rattle.abc_check.specs.declared.checker.Checker.{Checker as TheChecker}
use Rattle.abc_check.specs.declared.fault.CheckFault.TheVariants as fault
use Rattle.abc_check.proofs.Linewise.{no_command_fits}
use Rattle.abc_check.proofs.checker.Checker.check_command.Goals as goal

pub returns-in-Typable-clause-ok : goal.returns-in-Typable-clause-ok
returns-in-Typable-clause-ok c =
    subst (λ (x : TheChecker). OnOk c.check.result ((w : List Cut) → StandsFor x w → CallsAreSpelled w c.args.command.now → (n : ℕ) → n ≤ LAST_LINE → IsTypableWith c.args.targets.now w c.args.command.now n)) (sym c.in-Typable.is) c.check.ensures.ok

pub returns-in-Typable-clause-fault : goal.returns-in-Typable-clause-fault
returns-in-Typable-clause-fault c =
    subst (λ (x : TheChecker). (line : ℕ) → c.check.result ≡ Err (fault.TypeFault line) → (w : List Cut) → StandsFor x w → CallsAreSpelled w c.args.command.now
    → IsTypeLine (λ n. IsTypableWith c.args.targets.now w c.args.command.now n) line × (IsTypableWith c.args.targets.now w c.args.command.now LAST_LINE → ⊥)) (sym c.in-Typable.is) c.check.ensures.fault

pub returns-in-Untypable-clause-fault : goal.returns-in-Untypable-clause-fault
returns-in-Untypable-clause-fault c = λ line e w stands spelled.
    let never : (values : Values) → IsTypable values w → ⊥ = subst (λ (x : TheChecker). StandsFor x w) c.in-Untypable.is stands in
    let one : line ≡ 1 = cc in
    no_command_fits c.args.targets.now w c.args.command.now line (never c.args.targets.now) one
