-- What is kept after a commit, by what was made before its first write.
use Rattle.std.specs.Prelude.{◌≡◌, ◌⊎◌, Bool, true, false, ◌&&◌, List, [], ◌∷◌}
use Rattle.abc_record.specs.declared.change.Change.{Change}
use Rattle.abc_record.specs.declared.change.Change.TheVariants.{SetTarget, DropTarget, SetUnit, DropUnit}
use Rattle.abc_store.specs.declared.later.Later.{Later}
use Rattle.abc_store.specs.declared.later.Later.TheVariants as later
use Rattle.abc_store.specs.Workspace.{Workspace, with_targets}

-- the contents that stand, these targets with the units that stand, or all of these
abbrev pub later_of : Workspace → Later → Workspace
later_of kept later.Standing = kept
later_of kept (later.Targets targets) = with_targets kept targets
later_of kept (later.Whole contents) = contents

-- what stands once the later contents are made up: still what stood before, or already the later contents
abbrev pub Stands : Workspace → Workspace → Later → Type 0
Stands before now later = (now ≡ before) ⊎ (now ≡ later_of now later)

abbrev pub is_of_target : Change → Bool
is_of_target (SetTarget name value) = true
is_of_target (DropTarget name) = true
is_of_target (SetUnit lines) = false
is_of_target (DropUnit template) = false

abbrev pub are_of_targets : List Change → Bool
are_of_targets [] = true
are_of_targets (change ∷ changes) = is_of_target change && are_of_targets changes
