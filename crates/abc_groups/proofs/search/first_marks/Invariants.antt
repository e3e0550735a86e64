use Rattle.std.proofs.Common.{◌≡◌, map, take}
use Rattle.abc_groups.specs.inner.Search.{away_mark}
use Rattle.abc_groups.proofs.search.first_marks.Given as goal

abbrev pub invariant-loop-here : goal.invariant-loop-here
invariant-loop-here l = l.marks.items ≡ map away_mark (take l.here-index l.there)
