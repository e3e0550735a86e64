-- Flags that were set one by one.
use Rattle.std.proofs.Common.{◌≡◌, ◌≤◌, ℕ, Bool, false, List, drop, length, replicate, sym, ap, ◌∙◌}
use Rattle.abc_tree.specs.declared.formulas.NameId.{NameId}
use Rattle.abc_tree.specs.RegularItems.{AreFlags, numbers}
use Rattle.abc_tree.specs.inner.Bindings.{marked}
use Rattle.abc_tree.proofs.BoundNames.{are_flags}
use Rattle.abc_state.proofs.Parts.{none_behind}

pub flags_end : (count : ℕ) (ids : List NameId) (flags : List Bool) (n : ℕ) → length ids ≤ n → marked (replicate count false) (numbers ids) ≡ marked flags (numbers (drop n ids)) → AreFlags count (numbers ids) flags
flags_end count ids flags n l h = are_flags count (numbers ids) flags (sym (h ∙ ap (λ rest. marked flags (numbers rest)) (none_behind ids n l)))
