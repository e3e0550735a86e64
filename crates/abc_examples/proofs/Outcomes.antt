-- What comes of some items: one with a fault, and one that no types fit.
use Rattle.std.specs.Prelude.{◌≡◌, ℕ, false, List, [], ◌∷◌, Option, Some, None, codes}
use Rattle.std.proofs.Common.{◌∙◌, ap}
use Rattle.std.specs.Fmt.{digits}
use Rattle.std.specs.Map.{keys_of}
use Rattle.abc_num.specs.declared.lines.Line.{Line}
use Rattle.abc_tree.specs.declared.commands.Item.{Item}
use Rattle.abc_tree.specs.declared.commands.Item.TheVariants as item
use Rattle.abc_faults.specs.declared.fault.Fault.{Fault}
use Rattle.abc_faults.specs.Faults.{item_fault}
use Rattle.abc_parse.specs.Readings.{item_of}
use Rattle.abc_journal.specs.declared.layout.Bounds.{Bounds}
use Rattle.abc_journal.specs.declared.layout.Layout.{Layout}
use Rattle.abc_turns.specs.Session.{came}
use Rattle.abc_store.specs.Workspace.{Workspace, empty}
use Rattle.abc_store.specs.Commit.{Work}
use Rattle.abc_outcome.specs.Reply.{fault_line}
use Rattle.abc_outcome.specs.Outcome.{Behind, outcome, on_item, on_fault, ends_with, unless_missing}
use Rattle.abc_examples.proofs.Units.{line}
use Rattle.abc_examples.proofs.Reading.{put_line, put, no_fault_with_x, read_with_x, foo_fault}
use Rattle.abc_examples.proofs.TypeLines.{x_is_a, reaches_none}

abbrev pub holding : Workspace → Layout → Work
holding kept layout = record { kept = kept; layout = layout }

-- what comes of lines that are read as an item
of_item : (told : Option ℕ) (bounds : Bounds) (steps k : ℕ) (work : Work) (lines : List Line) (behind : Behind) (it : Item)
    → item_fault lines (keys_of work.kept.targets) ≡ None → item_of lines (keys_of work.kept.targets) ≡ Some it → outcome told bounds steps k work lines behind ≡ on_item told bounds steps k work behind (Some it)
unfolding outcome
of_item told bounds steps k work lines behind it none is =
    ap (λ (fault : Option Fault). on_fault k work behind fault (on_item told bounds steps k work behind (item_of lines (keys_of work.kept.targets)))) none
    ∙ ap (λ (found : Option Item). on_item told bounds steps k work behind found) is

-- The third item is `FOO 1 2`: whatever is told of it, its fault is its reply, by its number; the work is as before, and it takes no line.
no_command : (told : Option ℕ) (bounds : Bounds) (steps : ℕ) (layout : Layout) (behind : Behind)
    → outcome told bounds steps 3 (holding empty layout) (line (codes "FOO 1 2") ∷ []) behind ≡ came (codes "[3] fault line 1: BadCommand\n") (holding empty layout) behind.lines false
unfolding outcome digits
no_command told bounds steps layout behind =
    ap (λ (fault : Option Fault). on_fault 3 (holding empty layout) behind fault (on_item told bounds steps 3 (holding empty layout) behind (item_of (line (codes "FOO 1 2") ∷ []) []))) foo_fault

-- An item of which a type line is told isn't served: x stays a text.
pub untyped : (bounds : Bounds) (steps : ℕ) (layout : Layout) (behind : Behind)
    → outcome (Some 1) bounds steps 1 (holding x_is_a layout) put_line behind ≡ came (codes "[1] fault line 1: TypeFault\n") (holding x_is_a layout) behind.lines false
unfolding digits
untyped bounds steps layout behind =
    of_item (Some 1) bounds steps 1 (holding x_is_a layout) put_line behind (item.Command put) no_fault_with_x read_with_x
    ∙ ap (λ (missing : Option (List ℕ)). unless_missing 1 (holding x_is_a layout) behind put missing (ends_with (holding x_is_a layout) behind.lines [] (fault_line 1 1 (codes "TypeFault")))) reaches_none
