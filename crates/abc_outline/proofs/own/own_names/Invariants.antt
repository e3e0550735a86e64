use Rattle.std.proofs.Common.{◌≡◌, ◌+◌, List, [], length}
use Rattle.abc_expressions.specs.Addresses.{each_once}
use Rattle.abc_outline.specs.declared.edges.Edges.{Edges}
use Rattle.abc_outline.specs.Outline.{outline_of, setting_of}
use Rattle.abc_outline.specs.OwnNames.{given_names, names_from}
use Rattle.abc_outline.proofs.own.own_names.Given as goal

abbrev pub invariant-loop-row : goal.invariant-loop-row
invariant-loop-row l = (above : List Edges) × (l.outline ≡ outline_of (setting_of l.fn.rows) above) × (length above + length l.ahead ≡ length l.fn.rows)
    × (each_once l.own (names_from (setting_of l.fn.rows) above l.ahead) ≡ each_once (given_names (setting_of l.fn.rows).unit l.fn.targets) (names_from (setting_of l.fn.rows) [] l.fn.rows))

abbrev pub decreases-loop-row : goal.decreases-loop-row
decreases-loop-row l = length l.ahead
