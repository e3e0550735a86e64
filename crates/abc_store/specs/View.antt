-- What contracts see of a store.
use Rattle.std.specs.Prelude.{Bool}
use Rattle.abc_journal.specs.declared.layout.Layout.{Layout}
use Rattle.abc_journal.specs.declared.layout.Bounds.{Bounds}
use Rattle.abc_store.specs.Workspace.{Workspace}
use Rattle.abc_store.specs.Commit.{Work}

pub record View : Type 0 where
  pub kept : Workspace
  pub layout : Layout
  pub bounds : Bounds
  pub sound : Bool

-- its workspace, with the layout of its image
abbrev pub work_of : View → Work
work_of view = record { kept = view.kept; layout = view.layout }
