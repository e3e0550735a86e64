use Rattle.std.proofs.Common.{◌≡◌, ◌-◌, ◌^◌, vec_len}
use Rattle.abc_num.specs.Names.{AreDifferent}
use Rattle.abc_groups.specs.Program.{texts}
use Rattle.abc_groups.specs.inner.Explored.{IsExplored}
use Rattle.abc_groups.proofs.explore.explore.Given as goal

abbrev pub invariant-found : goal.invariant-found
invariant-found g l = record {
  same : l.found.texts.keys ≡ texts l.found.templates.items;
  different : AreDifferent l.found.texts.keys;
  explored : IsExplored (g.P.Program.tells l.program) (texts l.from) l.found.texts.keys l.rows.items l.there.items;
}

abbrev pub decreases-found : goal.decreases-found
decreases-found g l = 2 ^ 63 - vec_len l.rows
