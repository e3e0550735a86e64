-- What contracts see of a journal.
use Rattle.std.specs.Prelude.{ℕ, Bool}
use Rattle.abc_journal.specs.declared.layout.Layout.{Layout}
use Rattle.abc_journal.specs.declared.layout.Bounds.{Bounds}

pub record View : Type 0 where
  pub layout : Layout
  pub bounds : Bounds
  pub sound : Bool
  -- how many bytes behind the gate of a record can be made up without taking memory
  pub reserved : ℕ
