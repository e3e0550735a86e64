use Rattle.std.proofs.Common.{◌≡◌, length}
use Rattle.abc_tree.specs.RegularItems.{refinement_by}
use Rattle.abc_tree.proofs.commands.Unit.refinement.Given as goal

abbrev pub invariant-rest : goal.invariant-rest
invariant-rest l = refinement_by l.name l.self.refinements ≡ refinement_by l.name l.rest

abbrev pub decreases-rest : goal.decreases-rest
decreases-rest l = length l.rest
