use Rattle.std.proofs.Common.{◌≡◌, [], length}
use Rattle.abc_expressions.specs.Addresses.{each_once}
use Rattle.abc_outline.specs.OwnNames.{command_words}
use Rattle.abc_outline.proofs.kinds.commands_of.Given as goal

abbrev pub invariant-loop-refinement : goal.invariant-loop-refinement
invariant-loop-refinement l = each_once l.commands (command_words l.ahead) ≡ each_once [] (command_words l.fn.refined)

abbrev pub decreases-loop-refinement : goal.decreases-loop-refinement
decreases-loop-refinement l = length l.ahead
