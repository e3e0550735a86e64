-- What holds of what comes of items.
use Rattle.std.specs.Prelude.{◌≡◌, ◌⊎◌, ◌<◌, ◌≤◌, ℕ, Bool, true, false, List, ◌++◌, Option, Some, None, length}
use Rattle.std.specs.List.{AllByRecursion, Contains}
use Rattle.std.specs.Map.{keys_of}
use Rattle.abc_num.specs.declared.lines.Line.{Line}
use Rattle.abc_num.specs.declared.lines.RawLine.{RawLine}
use Rattle.abc_journal.specs.declared.layout.Bounds.{Bounds}
use Rattle.abc_tree.specs.Calls.{calls_in_action}
use Rattle.abc_tree.specs.declared.commands.Command.{Command}
use Rattle.abc_tree.specs.declared.commands.Unit.{Unit as Routine}
use Rattle.abc_tree.specs.Templates.{template_text}
use Rattle.abc_tree.specs.declared.templates.Template.{Template}
use Rattle.abc_tree.specs.declared.commands.Item.{Item}
use Rattle.abc_tree.specs.declared.commands.Item.TheVariants as item
use Rattle.abc_tree.specs.Units.{AreRising as AreInOrder}
use Rattle.abc_frames.specs.Maps.{AreRegular}
use Rattle.abc_meaning.specs.Regular.{IsShort}
use Rattle.abc_sound.specs.Checked.{IsNeverWrong}
use Rattle.abc_parse.specs.Readings.{item_of}
use Rattle.abc_groups.specs.Program.{IsFirstMissing, NoneIsMissing, called, LAST_LINE}
use Rattle.abc_groups.specs.Reach.{Leads}
use Rattle.abc_turns.specs.Session.{came, wants}
use Rattle.abc_store.specs.Commit.{Work}
use Rattle.abc_store.specs.Workspace.{Workspace, AreKeptUnits, IsWellTyped, with_targets}
use Rattle.abc_outcome.specs.Checks.{Check, IsExact, IsTypeLineOf, TakesCommand, TakesUnit}
use Rattle.abc_outcome.specs.Missing.{program, first_missing, called_by, line_to}
use Rattle.abc_outcome.specs.Reply.{ok_line, unit_line, said}
use Rattle.abc_outcome.specs.Outcome.{Behind, Outcome, outcome, run_of}

-- What an item comes to over some lines, it comes to over those and any further ones, and leaves these too; whether the input ends behind
-- them or not.
abbrev pub CameStays : Type 0
CameStays =
    (type_line : Option ℕ) (bounds : Bounds) (budget k : ℕ) (work later : Work) (item : List Line) (lines left more : List RawLine) (ended : Bool) (reply : List ℕ) (quits : Bool)
    → outcome type_line bounds budget k work item (record { lines = lines; ends = false }) ≡ came reply later left quits
    → outcome type_line bounds budget k work item (record { lines = lines ++ more; ends = ended }) ≡ came reply later (left ++ more) quits

-- An item leaves no more lines than there were.
abbrev pub LeavesNoMore : Type 0
LeavesNoMore =
    (type_line : Option ℕ) (bounds : Bounds) (budget k : ℕ) (work later : Work) (item : List Line) (lines left : List RawLine) (ended : Bool) (reply : List ℕ) (quits : Bool)
    → outcome type_line bounds budget k work item (record { lines = lines; ends = ended }) ≡ came reply later left quits → length left ≤ length lines

-- Where the input ends behind the lines, no further one is wanted.
abbrev pub ComesAtEnd : Type 0
ComesAtEnd = (type_line : Option ℕ) (bounds : Bounds) (budget k : ℕ) (work : Work) (item : List Line) (lines : List RawLine) → outcome type_line bounds budget k work item (record { lines = lines; ends = true }) ≡ wants → ⊥

-- no reply is empty
abbrev pub NoReplyIsEmpty : Type 0
NoReplyIsEmpty =
    (type_line : Option ℕ) (bounds : Bounds) (budget k : ℕ) (work later : Work) (item : List Line) (behind : Behind) (reply : List ℕ) (left : List RawLine) (quits : Bool)
    → outcome type_line bounds budget k work item behind ≡ came reply later left quits → 0 < length reply

-- a reply line that says that item k was accepted, which was read so: a command ran, a line that asks was answered, or this unit was set
pub data IsAccepting (k : ℕ) (read : Option Item) : List ℕ → Type 0 where
  ran : IsAccepting k read (ok_line k)
  set : (u : Routine) (missing : Option (List ℕ)) → read ≡ Some (item.Unit u) → IsAccepting k read (unit_line k (template_text u.template) missing)

-- the item was accepted, and says so behind what it wrote
abbrev pub IsServed : ℕ → Option Item → List ℕ → Type 0
IsServed k read reply = (output line : List ℕ) × IsAccepting k read line × (reply ≡ said output line)

-- the workspace is as before, and the session goes on
abbrev pub IsUnchanged : Work → Work → Bool → Type 0
IsUnchanged work later quits = (later.kept ≡ work.kept) × (quits ≡ false)

-- an item that is not accepted changes nothing, and doesn't quit
abbrev pub RefusalsChangeNothing : Type 0
RefusalsChangeNothing =
    (type_line : Option ℕ) (bounds : Bounds) (budget k : ℕ) (work later : Work) (item : List Line) (behind : Behind) (reply : List ℕ) (left : List RawLine) (quits : Bool)
    → outcome type_line bounds budget k work item behind ≡ came reply later left quits
    → IsServed k (item_of item (keys_of work.kept.targets)) reply ⊎ IsUnchanged work later quits

-- the missing template that is told is the least one that is reached; where none is told, none is missing
abbrev pub LeastIsMissing : Type 0
LeastIsMissing = (units : List Routine) (from : List (List ℕ)) (t : List ℕ) → first_missing units from ≡ Some t → IsFirstMissing (program units) from t

abbrev pub NoneIsLeft : Type 0
NoneIsLeft = (units : List Routine) (from : List (List ℕ)) → first_missing units from ≡ None → NoneIsMissing (program units) from

-- on this line a command calls the template, or one from which calls lead to it
abbrev pub LeadsFrom : List Routine → Command → List ℕ → ℕ → Type 0
LeadsFrom units c t line = (s : Template) × Contains (calls_in_action c.action) (line, s) × Leads (called (program units)) (template_text s) t

-- this is the least such line
pub record IsLeastLine (units : List Routine) (c : Command) (t : List ℕ) (line : ℕ) : Type 0 where
  pub leads : LeadsFrom units c t line
  pub least : (n : ℕ) → LeadsFrom units c t n → line ≤ n

-- the line that is told of a missing template is the least one from which calls lead to it
abbrev pub LeastLineIsTold : Type 0
LeastLineIsTold = (units : List Routine) (c : Command) (t : List ℕ) → first_missing units (called_by c) ≡ Some t → IsLeastLine units c t (line_to units t c)

-- an item has one type line at most: whatever is told of it, it comes to the same
abbrev pub TypeLinesAreOne : Type 0
TypeLinesAreOne =
    (bounds : Bounds) (budget k : ℕ) (work : Work) (item : List Line) (told other : Option ℕ) (behind : Behind) → 0 < length item
    → IsTypeLineOf work.kept item told → IsTypeLineOf work.kept item other → outcome told bounds budget k work item behind ≡ outcome other bounds budget k work item behind

-- up to each line it is so, or it isn't
abbrev pub IsDecided : (ℕ → Type 0) → Type 0
IsDecided takes = (n : ℕ) → takes n ⊎ (takes n → ⊥)

-- where each workspace is typable with an item up to a line, or isn't, there is a check that tells exactly the type lines
abbrev pub AnExactCheckIsThere : Type 0
AnExactCheckIsThere =
    ((kept : Workspace) (c : Command) → IsDecided (TakesCommand kept c)) → ((kept : Workspace) (u : Routine) → IsDecided (TakesUnit kept u)) → (check : Check) × IsExact check

-- a workspace as a store holds it
pub record IsHeld (kept : Workspace) : Type 0 where
  pub regular : AreRegular kept.targets
  pub units : AreKeptUnits kept.units
  pub in_order : AreInOrder kept.units

-- A command that reaches no missing unit, and that types fit with all its lines, is never wrong over such a workspace, whatever lines
-- stand behind it and how many steps it may take; and types fit the targets that it leaves.
abbrev pub AcceptedIsNeverWrong : Type 0
AcceptedIsNeverWrong =
    (kept : Workspace) (lines : List Line) (c : Command) → IsHeld kept → item_of lines (keys_of kept.targets) ≡ Some (item.Command c)
    → first_missing kept.units (called_by c) ≡ None → TakesCommand kept c LAST_LINE
    → (budget : ℕ) (behind : Behind) → AllByRecursion IsShort behind.lines
    → IsNeverWrong (run_of budget kept behind c).outcome × IsWellTyped (with_targets kept (run_of budget kept behind c).targets)
