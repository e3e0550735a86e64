-- Worked commits, by the sizes of their images, and worked images, computed.
use Rattle.std.proofs.Common.{◌≡◌, inl, ℕ, List, [], ◌∷◌, ◌++◌, take, refl, ap, false, true, arith, codes}
use Rattle.std.specs.Prelude.{Ok, Err, Some, option_map, option_and_then, pos}
use Rattle.abc_num.specs.Number.{whole_number, IsNumber}
use Rattle.abc_num.specs.declared.lines.Line.{Line}
use Rattle.abc_value.specs.Tree.{number}
use Rattle.abc_value.specs.Regular.{IsRegular}
use Rattle.abc_journal.specs.declared.layout.Layout.{Layout}
use Rattle.abc_journal.specs.declared.layout.Bounds.{Bounds}
use Rattle.abc_journal.specs.Image.{fresh_image, opened, read_image, settled_image, follow, live_slot, behind_gate}
use Rattle.abc_journal.specs.Commit.{committed}
use Rattle.abc_record.specs.declared.change.Change.{Change}
use Rattle.abc_tree.specs.declared.commands.Unit.{Unit as Routine}
use Rattle.abc_tree.specs.declared.commands.ActionNode.TheVariants as node
use Rattle.abc_tree.specs.declared.templates.TemplateKind.TheVariants as kind
use Rattle.abc_tree.specs.declared.templates.Word.TheVariants as word
use Rattle.abc_record.specs.declared.change.Change.TheVariants.{SetTarget, DropTarget, SetUnit, DropUnit}
use Rattle.abc_record.specs.Bytes.{in_four, in_eight, in_sixteen, spelled_text}
use Rattle.abc_record.specs.Spelling.{spelled_number, spelled_change, spelled}
use Rattle.abc_record.specs.Kept.{IsKept}
use Rattle.abc_store.specs.Workspace.{Workspace, empty, changed_by, unit_of_lines, with_routine, checkpoint_of}
use Rattle.abc_store.specs.Opening.{LeadsTo, OpensTo}
use Rattle.abc_store.specs.Commit.{Work, store_full, stored, payloads_committed, payloads_after}
use Rattle.abc_store.proofs.Images.{come_to, opens_by}
use Rattle.abc_store.proofs.Typed.{numbers_typed}

-- `PUT n IN x`, `DELETE x`, and the workspace in which x is n
abbrev pub put : ℕ → List Change
put n = SetTarget (codes "x") (number (whole_number (pos n))) ∷ []

abbrev pub delete : List Change
delete = DropTarget (codes "x") ∷ []

abbrev pub x_is : ℕ → Workspace
x_is n = record { targets = (codes "x", number (whole_number (pos n))) ∷ []; units = [] }

-- the layout of an image of the first generation, and of a later one in slot 1 or 0
abbrev pub first_at : ℕ → ℕ → Layout
first_at size gate = record { size = size; generation = 1; start = 64; gate = gate; first = 0; slot = 0; other = false }

abbrev pub later_at : ℕ → ℕ → ℕ → ℕ → ℕ → ℕ → Layout
later_at size generation start gate first slot = record { size = size; generation = generation; start = start; gate = gate; first = first; slot = slot; other = true }

abbrev pub works : Workspace → Layout → Work
works kept layout = record { kept = kept; layout = layout }

-- within this bound on the image, and with checkpoints due after so many bytes
abbrev pub within : ℕ → ℕ → Bounds
within image checkpoint = record { input = 1000; image = image; checkpoint = checkpoint }

changes_lead : (changed_by (put 1) empty ≡ Some (x_is 1)) × (changed_by (put 2) (x_is 1) ≡ Some (x_is 2)) × (changed_by delete (x_is 2) ≡ Some empty) × (changed_by delete empty ≡ Some empty)
changes_lead = (refl, refl, refl, refl)

-- the checkpoint after the first record goes behind it, and the one after the fourth to the front: 138, 174, 210, 101 bytes
first_is_due : stored (within 1000 36) (works empty (first_at 65 64)) (put 1) (x_is 1) ≡ Ok (works (x_is 1) (later_at 138 2 101 137 27 1))
unfolding committed checkpoint_of spelled_change spelled_text spelled_number in_four in_sixteen in_eight
first_is_due = refl

second_is_not : stored (within 1000 36) (works (x_is 1) (later_at 138 2 101 137 27 1)) (put 2) (x_is 2) ≡ Ok (works (x_is 2) (later_at 174 2 101 173 27 1))
unfolding committed checkpoint_of spelled_change spelled_text spelled_number in_four in_sixteen in_eight
second_is_not = refl

third_is_not : stored (within 1000 36) (works (x_is 2) (later_at 174 2 101 173 27 1)) (put 3) (x_is 3) ≡ Ok (works (x_is 3) (later_at 210 2 101 209 27 1))
unfolding committed checkpoint_of spelled_change spelled_text spelled_number in_four in_sixteen in_eight
third_is_not = refl

fourth_is_due : stored (within 1000 36) (works (x_is 3) (later_at 210 2 101 209 27 1)) (put 4) (x_is 4) ≡ Ok (works (x_is 4) (later_at 101 3 64 100 27 0))
unfolding committed checkpoint_of spelled_change spelled_text spelled_number in_four in_sixteen in_eight
fourth_is_due = refl

-- neither a record nor a checkpoint fits: the need is the checkpoint's
full_at_101 : stored (within 101 1000) (works (x_is 1) (first_at 101 100)) (put 2) (x_is 2) ≡ Err (store_full (record { layout = first_at 101 100; need = 138 }))
unfolding committed checkpoint_of spelled_change spelled_text spelled_number in_four in_sixteen in_eight
full_at_101 = refl

full_at_138 : stored (within 138 1000) (works (x_is 2) (first_at 137 136)) (put 3) (x_is 3) ≡ Err (store_full (record { layout = first_at 137 136; need = 174 }))
unfolding committed checkpoint_of spelled_change spelled_text spelled_number in_four in_sixteen in_eight
full_at_138 = refl

full_at_173 : stored (within 173 1000) (works (x_is 3) (first_at 173 172)) (put 4) (x_is 4) ≡ Err (store_full (record { layout = first_at 173 172; need = 210 }))
unfolding committed checkpoint_of spelled_change spelled_text spelled_number in_four in_sixteen in_eight
full_at_173 = refl

-- a checkpoint of no targets is taken and stays, though the record doesn't fit after it; the next one goes to the front and makes room
stays : stored (within 150 1000) (works empty (first_at 120 119)) (put 2) (x_is 2) ≡ Err (store_full (record { layout = later_at 134 2 120 133 4 1; need = 170 }))
unfolding committed checkpoint_of spelled_change spelled_text spelled_number in_four in_sixteen in_eight
stays = refl

makes_room : stored (within 150 1000) (works empty (later_at 134 2 120 133 4 1)) (put 2) (x_is 2) ≡ Ok (works (x_is 2) (later_at 114 3 64 113 4 0))
unfolding committed checkpoint_of spelled_change spelled_text spelled_number in_four in_sixteen in_eight
makes_room = refl

-- no change writes nothing, even where nothing fits and a checkpoint is due
nothing_is_written : stored (within 0 0) (works (x_is 1) (first_at 101 100)) [] (x_is 1) ≡ Ok (works (x_is 1) (first_at 101 100))
nothing_is_written = refl

-- the payloads then, in the same order: the due checkpoint alone, a record behind it, those that were there where nothing fits, the checkpoint that
-- stays without the record, and that with the record
due_alone : (ps : List (List ℕ)) → payloads_after (within 1000 36) (works empty (first_at 65 64)) (put 1) (x_is 1) ps ≡ checkpoint_of (x_is 1) ∷ []
unfolding committed payloads_committed checkpoint_of spelled_change spelled_text spelled_number in_four in_sixteen in_eight
due_alone ps = refl

record_behind : (ps : List (List ℕ)) → payloads_after (within 1000 36) (works (x_is 1) (later_at 138 2 101 137 27 1)) (put 2) (x_is 2) ps ≡ ps ++ spelled (put 2) ∷ []
unfolding committed payloads_committed checkpoint_of spelled_change spelled_text spelled_number in_four in_sixteen in_eight
record_behind ps = refl

full_leaves_all : (ps : List (List ℕ)) → payloads_after (within 101 1000) (works (x_is 1) (first_at 101 100)) (put 2) (x_is 2) ps ≡ ps
unfolding committed payloads_committed checkpoint_of spelled_change spelled_text spelled_number in_four in_sixteen in_eight
full_leaves_all ps = refl

checkpoint_stays : (ps : List (List ℕ)) → payloads_after (within 150 1000) (works empty (first_at 120 119)) (put 2) (x_is 2) ps ≡ checkpoint_of empty ∷ []
unfolding committed payloads_committed checkpoint_of spelled_change spelled_text spelled_number in_four in_sixteen in_eight
checkpoint_stays ps = refl

record_behind_room : (ps : List (List ℕ)) → payloads_after (within 150 1000) (works empty (later_at 134 2 120 133 4 1)) (put 2) (x_is 2) ps ≡ checkpoint_of empty ∷ spelled (put 2) ∷ []
unfolding committed payloads_committed checkpoint_of spelled_change spelled_text spelled_number in_four in_sixteen in_eight
record_behind_room ps = refl

nothing_is_added : (ps : List (List ℕ)) → payloads_after (within 0 0) (works (x_is 1) (first_at 101 100)) [] (x_is 1) ps ≡ ps
nothing_is_added ps = refl

-- ---- images

put_is_kept : IsKept (SetTarget (codes "x") (number (whole_number (pos 1))))
unfolding IsRegular IsNumber
put_is_kept = (((refl, tt), omega arith), inl (refl, omega arith))

one_leads : LeadsTo (spelled (put 1)) empty (x_is 1)
one_leads = record { changes = put 1; spells = record { kept = (omega arith, (put_is_kept, tt)); bytes_are = refl }; made = refl; limits = record { targets = omega arith; units = omega arith } }

-- 101 bytes: x is 1
one_opens : OpensTo (take 64 fresh_image ++ 1 ∷ behind_gate (spelled (put 1))) (x_is 1)
unfolding opened read_image settled_image follow live_slot spelled_change spelled_text spelled_number in_four in_sixteen in_eight
one_opens =
    opens_by (take 64 fresh_image ++ 1 ∷ behind_gate (spelled (put 1))) (record { layout = first_at 101 100; payloads = spelled (put 1) ∷ [] }) (Ok (x_is 1)) refl
    (come_to 64 (spelled (put 1) ∷ []) (x_is 1) (inl (x_is 1, one_leads, refl)) (numbers_typed (x_is 1).targets (refl, tt)))

-- ---- units

-- `HOW TO NIL: PASS`, and its unit
abbrev nil_lines : List Line
nil_lines = record { indent = 0; text = codes "HOW TO NIL: PASS"; long = false } ∷ []

abbrev nil : Routine
nil = record {
  template = record { kind = kind.Command; words = word.Key (codes "NIL") ∷ []; places = 0 };
  formals = [];
  names = [];
  shared = [];
  body = record { line = 1; node = node.Pass } ∷ [];
  refinements = [];
  lines = nil_lines;
}

-- `HOW TO RETURN one: RETURN 1`
abbrev one_lines : List Line
one_lines = record { indent = 0; text = codes "HOW TO RETURN one: RETURN 1"; long = false } ∷ []

-- a unit of these lines with another body takes the place of one, and dropping takes it away by the text of its template
units_change :
    (changed_by (DropUnit (codes "NIL") ∷ []) (record { targets = []; units = nil ∷ [] }) ≡ Some empty)
    × (changed_by (DropUnit (codes "nil") ∷ []) (record { targets = []; units = nil ∷ [] }) ≡ Some (record { targets = []; units = nil ∷ [] }))
    × ((unit : Routine) → unit_of_lines nil_lines ≡ Some unit → changed_by (SetUnit nil_lines ∷ []) (x_is 1) ≡ Some (record { targets = (codes "x", number (whole_number (pos 1))) ∷ []; units = unit ∷ [] }))
units_change = (refl, refl, λ unit is. ap (λ found. option_and_then (changed_by []) (option_map (with_routine (x_is 1)) found)) is)

abbrev put_x : Change
put_x = SetTarget (codes "x") (number (whole_number (pos 1)))

-- the checkpoint of x and a unit: 67 bytes
checkpoint_with_a_unit : (unit : Routine) → unit.lines ≡ one_lines
    → checkpoint_of (record { targets = (codes "x", number (whole_number (pos 1))) ∷ []; units = unit ∷ [] })
    ≡ 0 ∷ 0 ∷ 0 ∷ 2 ∷ 1 ∷ 0 ∷ 0 ∷ 0 ∷ 1 ∷ 120 ∷ 0 ∷ 0 ∷ 0 ∷ 0 ∷ 0 ∷ 0 ∷ 0 ∷ 0 ∷ 0 ∷ 0 ∷ 0 ∷ 0 ∷ 0 ∷ 0 ∷ 0 ∷ 0 ∷ 1 ∷ 3 ∷ 0 ∷ 0 ∷ 0 ∷ 1 ∷ 0 ∷ 0 ∷ 0 ∷ 0 ∷ 0 ∷ 0 ∷ 0 ∷ 27 ∷ codes "HOW TO RETURN one: RETURN 1"
unfolding checkpoint_of spelled_change spelled_text spelled_number in_four in_sixteen in_eight
checkpoint_with_a_unit unit is = ap (λ lines. spelled (put_x ∷ SetUnit lines ∷ [])) is
