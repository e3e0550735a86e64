use Rattle.std.proofs.Common.{◌≡◌, ◌∙◌, subst, sym, false, true}
use Rattle.abc_groups.specs.Program.{LAST_LINE}
use Rattle.abc_check.specs.Standing.{KnowsTypes}
use Rattle.abc_check.specs.declared.types.UnitTypes.{UnitTypes}
use Rattle.abc_ground.specs.Typable.{IsTypableWith}
use Rattle.abc_fewer.proofs.Cuts.{fewer_lines}
use Rattle.abc_check.proofs.types.UnitTypes.check_held.Goals as goal

pub returns-then-branch-clause-ok : goal.returns-then-branch-clause-ok
returns-then-branch-clause-ok c = λ values w stands spelled n le. fewer_lines values w c.args.command.now n LAST_LINE le ((c.in_ok-takes.ensures.exact values w stands spelled).0 c.if-branch.true)

pub returns-else-branch-clause-fault : goal.returns-else-branch-clause-fault
returns-else-branch-clause-fault c = λ line e values w stands spelled.
    let no : IsTypableWith values w c.args.command.now LAST_LINE → ⊥ = λ p. let f : false ≡ true = sym c.if-branch.false ∙ (c.in_ok-takes.ensures.exact values w stands spelled).1 p in cc in
    (c.refuse.ensures.fault line e values w (subst (λ (x : UnitTypes). KnowsTypes x values w) (sym c.takes.ensures.kept) stands) spelled no, no)
