use Rattle.std.proofs.Common.{◌≡◌, take}
use Rattle.abc_num.specs.Names.{AreDifferent}
use Rattle.abc_groups.specs.Program.{texts}
use Rattle.abc_groups.specs.inner.Found.{IsNumbered}
use Rattle.abc_groups.proofs.found.Found.row.Given as goal

abbrev pub invariant-loop-t : goal.invariant-loop-t
invariant-loop-t l = record {
  same : l.self.texts.keys ≡ texts l.self.templates.items;
  different : AreDifferent l.self.texts.keys;
  numbered : IsNumbered l.fn.self.texts.keys (texts (take l.t-index l.ts)) l.row l.self.texts.keys;
}
