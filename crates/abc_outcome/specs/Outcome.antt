-- What comes of an item: its reply, the work after it, the lines that it left, and whether the session ends with it; or it wants a line
-- that is not there.
use Rattle.std.specs.Prelude.{ℕ, Bool, true, false, List, [], ◌∷◌, length, Option, None, Some, Result, Ok, Err, if◌then◌else◌, nat_lt, codes}
use Rattle.std.specs.List.{list_all}
use Rattle.std.specs.Map.{keys_of}
use Rattle.abc_num.specs.declared.limits.TheConstants.{MOST_TARGETS, MOST_UNITS, MOST_DEPTH}
use Rattle.abc_num.specs.declared.lines.Line.{Line}
use Rattle.abc_num.specs.declared.lines.RawLine.{RawLine}
use Rattle.abc_tree.specs.Templates.{template_text}
use Rattle.abc_tree.specs.declared.commands.Command.{Command}
use Rattle.abc_tree.specs.declared.commands.Environment.{Environment}
use Rattle.abc_tree.specs.declared.commands.Item.{Item}
use Rattle.abc_tree.specs.declared.commands.Item.TheVariants as item
use Rattle.abc_tree.specs.declared.commands.Unit.{Unit as Routine}
use Rattle.abc_faults.specs.declared.fault.Fault.{Fault}
use Rattle.abc_faults.specs.declared.fault.FaultKind.TheVariants.{BadCommand}
use Rattle.abc_faults.specs.Faults.{item_fault}
use Rattle.abc_parse.specs.Readings.{item_of}
use Rattle.abc_frames.specs.Maps.{Targets}
use Rattle.abc_meaning.specs.State.{Stop, faulty, wrong}
use Rattle.abc_meaning.specs.State as run
use Rattle.abc_meaning.specs.Ran.{Outcome as End, done, quit, stopped, Ran, ran}
use Rattle.abc_journal.specs.declared.layout.Bounds.{Bounds}
use Rattle.abc_turns.specs.Session.{Came, came, wants}
use Rattle.abc_record.specs.declared.change.Change.{Change}
use Rattle.abc_record.specs.declared.change.Change.TheVariants.{SetUnit, DropUnit}
use Rattle.abc_store.specs.Workspace.{Workspace, changes_between, with_routine, with_targets, without_named}
use Rattle.abc_store.specs.Commit.{Work, Refusal, too_large, store_full, stored, work_after}
use Rattle.abc_inquiry.specs.declared.answering.Answered.{Answered}
use Rattle.abc_inquiry.specs.declared.answering.Answered.TheVariants.{Shows, Drops, NoUnit, NoTarget, TooLong}
use Rattle.abc_inquiry.specs.Inquiry.{inquiry}
use Rattle.abc_outcome.specs.Names.{fault_name, run_fault_name}
use Rattle.abc_outcome.specs.Reply.{ok_line, unit_line, fault_line, missing_line, said}
use Rattle.abc_outcome.specs.Spelled.{has_spelling}
use Rattle.abc_outcome.specs.Missing.{first_missing, line_to, called_by}

-- What stands behind an item: the lines of the input, and whether it ends behind them.
pub record Behind : Type 0 where
  pub lines : List RawLine
  pub ends : Bool

abbrev pub Outcome : Type 0
Outcome = Came Work RawLine

-- An item that ends in a reply line, after this output, leaves these lines and doesn't quit.
abbrev pub ends_with : Work → List RawLine → List ℕ → List ℕ → Outcome
ends_with work left output line = came (said output line) work left false

-- ---- what is kept

abbrev pub refusal_name : Refusal → List ℕ
refusal_name (too_large bytes) = codes "TooLarge"
refusal_name (store_full full) = codes "StoreFull"

-- an item that says this reply line where its changes are kept, behind what it wrote, leaves these lines, and then maybe quits
pub record Ending : Type 0 where
  pub output : List ℕ
  pub left : List RawLine
  pub line : List ℕ
  pub quits : Bool

-- the changes were kept, or refused
abbrev pub on_stored : ℕ → Work → Ending → Result Work Refusal → Outcome
on_stored k work ending (Ok later) = came (said ending.output ending.line) later ending.left ending.quits
on_stored k work ending (Err refusal) = ends_with (work_after work (Err refusal)) ending.left ending.output (fault_line k 1 (refusal_name refusal))

-- changes without a spelling are too large for one of any length
abbrev pub stored_if_spelled : Bounds → Work → List Change → Workspace → Result Work Refusal
stored_if_spelled bounds work changes later = if list_all has_spelling changes then stored bounds work changes later else Err (too_large 0)

-- an item that leaves these targets
abbrev pub kept_outcome : Bounds → ℕ → Work → Ending → Targets → Outcome
kept_outcome bounds k work ending targets =
    if nat_lt MOST_TARGETS (length targets) then ends_with work ending.left ending.output (fault_line k 1 (codes "TooManyTargets"))
    else on_stored k work ending (stored_if_spelled bounds work (changes_between work.kept (with_targets work.kept targets)) (with_targets work.kept targets))

-- ---- the type check

-- a line up to which no types fit keeps an item from being served
abbrev pub unless_unfit : ℕ → Work → Behind → Option ℕ → Outcome → Outcome
unless_unfit k work behind None served = served
unless_unfit k work behind (Some n) served = ends_with work behind.lines [] (fault_line k n (codes "TypeFault"))

-- ---- commands

-- a run that stopped on a line; no accepted one stops where no types fit
abbrev pub on_stop : ℕ → Work → List RawLine → List ℕ → ℕ → Stop → Outcome
on_stop k work left output line (faulty fault) = ends_with work left output (fault_line k line (run_fault_name fault))
on_stop k work left output line wrong = ends_with work left output (fault_line k line (codes "TypeFault"))
on_stop k work left output line run.wants = wants

-- a run that ended so
abbrev pub on_end : Bounds → ℕ → Work → List RawLine → List ℕ → Targets → End → Outcome
on_end bounds k work left output targets done = kept_outcome bounds k work (record { output = output; left = left; line = ok_line k; quits = false }) targets
on_end bounds k work left output targets quit = kept_outcome bounds k work (record { output = output; left = left; line = ok_line k; quits = true }) targets
on_end bounds k work left output targets (stopped line stop) = on_stop k work left output line stop

abbrev pub on_ran : Bounds → ℕ → Work → Ran → Outcome
on_ran bounds k work r = on_end bounds k work r.lines r.output r.targets r.outcome

-- a command runs over the targets, the units and the lines behind it
abbrev pub run_of : ℕ → Workspace → Behind → Command → Ran
run_of budget kept behind c = ran kept.units MOST_DEPTH c kept.targets behind.lines behind.ends budget

abbrev pub run_outcome : Bounds → ℕ → ℕ → Work → Behind → Command → Outcome
run_outcome bounds budget k work behind c = on_ran bounds k work (run_of budget work.kept behind c)

-- a unit that is missing keeps a command from running
abbrev pub unless_missing : ℕ → Work → Behind → Command → Option (List ℕ) → Outcome → Outcome
unless_missing k work behind c None run = run
unless_missing k work behind c (Some t) run = ends_with work behind.lines [] (missing_line k (line_to work.kept.units t c) t)

abbrev pub command_outcome : Option ℕ → Bounds → ℕ → ℕ → Work → Behind → Command → Outcome
command_outcome line bounds budget k work behind c =
    unless_missing k work behind c (first_missing work.kept.units (called_by c)) (unless_unfit k work behind line (run_outcome bounds budget k work behind c))

-- ---- units

-- a unit that is kept among these waits for the least missing template that it reaches there
abbrev pub accepted_line : ℕ → Routine → List Routine → List ℕ
accepted_line k u units = unit_line k (template_text u.template) (first_missing units (template_text u.template ∷ []))

abbrev pub accepted : ℕ → List RawLine → Routine → List Routine → Ending
accepted k left u units = record { output = []; left = left; line = accepted_line k u units; quits = false }

-- a unit takes the place of one with its template
abbrev pub set_outcome : Bounds → ℕ → Work → Behind → Routine → Outcome
set_outcome bounds k work behind u =
    if nat_lt MOST_UNITS (length (with_routine work.kept u).units) then ends_with work behind.lines [] (fault_line k 1 (codes "TooManyUnits"))
    else on_stored k work (accepted k behind.lines u (with_routine work.kept u).units) (stored_if_spelled bounds work (SetUnit u.lines ∷ []) (with_routine work.kept u))

abbrev pub unit_outcome : Option ℕ → Bounds → ℕ → Work → Behind → Routine → Outcome
unit_outcome line bounds k work behind u = unless_unfit k work behind line (set_outcome bounds k work behind u)

-- ---- lines that ask about the workspace

-- the workspace without the unit whose template is written so
abbrev pub without_unit : List ℕ → Workspace → Workspace
without_unit template kept = record { targets = kept.targets; units = without_named template kept.units }

-- a unit is taken out of the store
abbrev pub drop_outcome : Bounds → ℕ → Work → List RawLine → List ℕ → Outcome
drop_outcome bounds k work left template =
    on_stored k work (record { output = []; left = left; line = ok_line k; quits = false }) (stored bounds work (DropUnit template ∷ []) (without_unit template work.kept))

-- what such a line says of the workspace; or it takes out a unit
abbrev pub on_inquiry : Bounds → ℕ → Work → List RawLine → Answered → Outcome
on_inquiry bounds k work left (Shows output) = ends_with work left output (ok_line k)
on_inquiry bounds k work left NoUnit = ends_with work left [] (fault_line k 1 (codes "NoUnit"))
on_inquiry bounds k work left NoTarget = ends_with work left [] (fault_line k 1 (codes "NoTarget"))
on_inquiry bounds k work left TooLong = ends_with work left [] (fault_line k 1 (codes "TooLong"))
on_inquiry bounds k work left (Drops template) = drop_outcome bounds k work left template

abbrev pub inquiry_outcome : Bounds → ℕ → Work → Behind → Environment → Outcome
inquiry_outcome bounds k work behind asked = on_inquiry bounds k work behind.lines (inquiry work.kept asked)

-- ---- items

-- the item of lines without a fault; there always is one
abbrev pub on_item : Option ℕ → Bounds → ℕ → ℕ → Work → Behind → Option Item → Outcome
on_item line bounds budget k work behind None = ends_with work behind.lines [] (fault_line k 1 (fault_name BadCommand))
on_item line bounds budget k work behind (Some (item.Command c)) = command_outcome line bounds budget k work behind c
on_item line bounds budget k work behind (Some (item.Unit u)) = unit_outcome line bounds k work behind u
on_item line bounds budget k work behind (Some (item.Environment asked)) = inquiry_outcome bounds k work behind asked

abbrev pub on_fault : ℕ → Work → Behind → Option Fault → Outcome → Outcome
on_fault k work behind None whole = whole
on_fault k work behind (Some fault) whole = ends_with work behind.lines [] (fault_line k fault.line (fault_name fault.kind))

-- item k, by its type line and its lines, where these stand behind it: the first of these causes that is there, or what the item does
unfoldable pub outcome : Option ℕ → Bounds → ℕ → ℕ → Work → List Line → Behind → Outcome
outcome line bounds budget k work lines behind =
    on_fault k work behind (item_fault lines (keys_of work.kept.targets)) (on_item line bounds budget k work behind (item_of lines (keys_of work.kept.targets)))
