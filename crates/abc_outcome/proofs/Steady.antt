-- What an item comes to, by more lines and fewer.
use Rattle.std.proofs.Common.{◌≡◌, ◌≤◌, ℕ, suc, Bool, true, false, List, [], ◌∷◌, ◌++◌, length, nat_lt, Option, None, Some, Result, Ok, Err, if◌then◌else◌, refl, sym, ◌∙◌, ap, subst, arith, length-append}
use Rattle.std.specs.Map.{keys_of}
use Rattle.abc_num.specs.declared.limits.TheConstants.{MOST_TARGETS, MOST_UNITS, MOST_DEPTH}
use Rattle.abc_num.specs.declared.lines.Line.{Line}
use Rattle.abc_num.specs.declared.lines.RawLine.{RawLine}
use Rattle.abc_tree.specs.declared.commands.Command.{Command}
use Rattle.abc_tree.specs.declared.commands.Item.{Item}
use Rattle.abc_tree.specs.declared.commands.Item.TheVariants as item
use Rattle.abc_tree.specs.declared.commands.Unit.{Unit as Routine}
use Rattle.abc_faults.specs.declared.fault.Fault.{Fault}
use Rattle.abc_faults.specs.Faults.{item_fault}
use Rattle.abc_parse.specs.Readings.{item_of}
use Rattle.abc_frames.specs.Maps.{Targets}
use Rattle.abc_meaning.specs.State.{Stop, Got, gives, stops, Flow, faulty, wrong}
use Rattle.abc_meaning.specs.State as run
use Rattle.abc_meaning.specs.Ran.{Outcome as End, done, quit, stopped, Ran, ran, ran_as, standing, starting}
use Rattle.abc_meaning.specs.Meaning.{meaning}
use Rattle.abc_meaning.specs.Laws.{end_of, HasFewerLines, is_wanting, wants_more}
use Rattle.abc_meaning.proofs.Ended.{command_wants_none}
use Rattle.abc_meaning.proofs.Kept.{lines_are_taken}
use Rattle.abc_meaning.proofs.Longer.{command_is_same}
use Rattle.abc_journal.specs.declared.layout.Bounds.{Bounds}
use Rattle.abc_turns.specs.Session.{came, wants}
use Rattle.abc_record.specs.declared.change.Change.TheVariants.{SetUnit, DropUnit}
use Rattle.abc_store.specs.Workspace.{changes_between, with_routine, with_targets}
use Rattle.abc_store.specs.Commit.{Work, Refusal, too_large, store_full, stored}
use Rattle.abc_inquiry.specs.declared.answering.Answered.{Answered}
use Rattle.abc_inquiry.specs.declared.answering.Answered.TheVariants.{Shows, Drops, NoUnit, NoTarget, TooLong}
use Rattle.abc_inquiry.specs.Inquiry.{inquiry}
use Rattle.abc_outcome.specs.Missing.{first_missing, called_by}
use Rattle.abc_outcome.specs.Outcome.{Behind, Outcome, Ending, on_stored, stored_if_spelled, kept_outcome, on_stop, on_end, on_ran, run_of, run_outcome, unless_missing, unless_unfit, accepted, set_outcome, on_inquiry, without_unit, on_item, on_fault, outcome}
use Rattle.abc_outcome.specs.Laws.{CameStays, LeavesNoMore, ComesAtEnd}

-- ---- lines that a run leaves

ran_lines : (before : Targets) (budget : ℕ) (g : Got Flow) → (ran_as before budget g).lines ≡ (end_of g).lines
ran_lines before budget (gives flow s) = refl
ran_lines before budget (stops line stop s) = refl

-- they are an end of those before
pub lines_left : (units : List Routine) (c : Command) (targets : Targets) (lines : List RawLine) (ended : Bool) (budget : ℕ)
    → (taken : List RawLine) × (lines ≡ taken ++ (ran units MOST_DEPTH c targets lines ended budget).lines)
lines_left units c targets lines ended budget =
    let start = starting targets lines ended budget in
    let g = (meaning units (suc MOST_DEPTH)).acts (standing c) c.action start in
    let fewer : HasFewerLines start (end_of g) = (lines_are_taken units (suc MOST_DEPTH)).acts (standing c) c.action start in
    (fewer.taken, fewer.rest ∙ ap (λ ls. fewer.taken ++ ls) (sym (ran_lines targets budget g)))

-- ---- with more lines

module _ (more : List RawLine) where
  -- the second is the first with these lines left too, unless that wants a line
  abbrev Longer : Outcome → Outcome → Type 0
  Longer (came reply work left quits) out = out ≡ came reply work (left ++ more) quits
  Longer wants out = Unit {0}

  one_longer : (b : Bool) (x y x_more y_more : Outcome) → Longer x x_more → Longer y y_more → Longer (if b then x else y) (if b then x_more else y_more)
  one_longer true x y x_more y_more p q = p
  one_longer false x y x_more y_more p q = q

  abbrev longer_ending : Ending → Ending
  longer_ending ending = record { output = ending.output; left = ending.left ++ more; line = ending.line; quits = ending.quits }

  stored_longer : (k : ℕ) (work : Work) (ending : Ending) (found : Result Work Refusal) → Longer (on_stored k work ending found) (on_stored k work (longer_ending ending) found)
  stored_longer k work ending (Ok later) = refl
  stored_longer k work ending (Err (too_large bytes)) = refl
  stored_longer k work ending (Err (store_full full)) = refl

  kept_longer : (bounds : Bounds) (k : ℕ) (work : Work) (ending : Ending) (targets : Targets) → Longer (kept_outcome bounds k work ending targets) (kept_outcome bounds k work (longer_ending ending) targets)
  kept_longer bounds k work ending targets =
      one_longer (nat_lt MOST_TARGETS (length targets)) _ _ _ _ refl
      (stored_longer k work ending (stored_if_spelled bounds work (changes_between work.kept (with_targets work.kept targets)) (with_targets work.kept targets)))

  stop_longer : (k : ℕ) (work : Work) (left : List RawLine) (output : List ℕ) (line : ℕ) (stop : Stop) → Longer (on_stop k work left output line stop) (on_stop k work (left ++ more) output line stop)
  stop_longer k work left output line (faulty fault) = refl
  stop_longer k work left output line wrong = refl
  stop_longer k work left output line run.wants = tt

  end_longer : (bounds : Bounds) (k : ℕ) (work : Work) (left : List RawLine) (output : List ℕ) (targets : Targets) (end : End)
      → Longer (on_end bounds k work left output targets end) (on_end bounds k work (left ++ more) output targets end)
  end_longer bounds k work left output targets done = kept_longer bounds k work (record { output = output; left = left; line = _; quits = false }) targets
  end_longer bounds k work left output targets quit = kept_longer bounds k work (record { output = output; left = left; line = _; quits = true }) targets
  end_longer bounds k work left output targets (stopped line stop) = stop_longer k work left output line stop

  stop_wants : (k : ℕ) (work : Work) (left : List RawLine) (output : List ℕ) (line : ℕ) (stop : Stop) (out : Outcome) → is_wanting stop ≡ true → Longer (on_stop k work left output line stop) out
  stop_wants k work left output line (faulty fault) out w = absurd cc
  stop_wants k work left output line wrong out w = absurd cc
  stop_wants k work left output line run.wants out w = tt

  end_wants : (bounds : Bounds) (k : ℕ) (work : Work) (left : List RawLine) (output : List ℕ) (targets : Targets) (end : End) (out : Outcome) → wants_more end ≡ true
      → Longer (on_end bounds k work left output targets end) out
  end_wants bounds k work left output targets done out w = absurd cc
  end_wants bounds k work left output targets quit out w = absurd cc
  end_wants bounds k work left output targets (stopped line stop) out w = stop_wants k work left output line stop out w

  ran_longer : (bounds : Bounds) (k : ℕ) (work : Work) (r s : Ran) (b : Bool) → wants_more r.outcome ≡ b → (wants_more r.outcome ≡ false → s ≡ record r { lines = r.lines ++ more }) → Longer (on_ran bounds k work r) (on_ran bounds k work s)
  ran_longer bounds k work r s true w same = end_wants bounds k work r.lines r.output r.targets r.outcome (on_ran bounds k work s) w
  ran_longer bounds k work r s false w same =
      subst (λ (s : Ran). Longer (on_ran bounds k work r) (on_ran bounds k work s)) (sym (same w)) (end_longer bounds k work r.lines r.output r.targets r.outcome)

  module _ (type_line : Option ℕ) (bounds : Bounds) (budget k : ℕ) (work : Work) (lines : List RawLine) (ended : Bool) where
    abbrev there : Behind
    there = record { lines = lines; ends = false }

    abbrev with_more : Behind
    with_more = record { lines = lines ++ more; ends = ended }

    run_longer : (c : Command) → Longer (run_outcome bounds budget k work there c) (run_outcome bounds budget k work with_more c)
    run_longer c =
        ran_longer bounds k work (run_of budget work.kept there c) (run_of budget work.kept with_more c) (wants_more (run_of budget work.kept there c).outcome) refl
        (command_is_same work.kept.units MOST_DEPTH c work.kept.targets lines more ended budget)

    missing_longer : (c : Command) (missing : Option (List ℕ)) (x y : Outcome) → Longer x y → Longer (unless_missing k work there c missing x) (unless_missing k work with_more c missing y)
    missing_longer c None x y p = p
    missing_longer c (Some t) x y p = refl

    unfit_longer : (line : Option ℕ) (x y : Outcome) → Longer x y → Longer (unless_unfit k work there line x) (unless_unfit k work with_more line y)
    unfit_longer None x y p = p
    unfit_longer (Some n) x y p = refl

    set_longer : (u : Routine) → Longer (set_outcome bounds k work there u) (set_outcome bounds k work with_more u)
    set_longer u =
        one_longer (nat_lt MOST_UNITS (length (with_routine work.kept u).units)) _ _ _ _ refl
        (stored_longer k work (accepted k lines u (with_routine work.kept u).units) (stored_if_spelled bounds work (SetUnit u.lines ∷ []) (with_routine work.kept u)))

    inquiry_longer : (found : Answered) → Longer (on_inquiry bounds k work lines found) (on_inquiry bounds k work (lines ++ more) found)
    inquiry_longer (Shows output) = refl
    inquiry_longer NoUnit = refl
    inquiry_longer NoTarget = refl
    inquiry_longer TooLong = refl
    inquiry_longer (Drops template) =
        stored_longer k work (record { output = []; left = lines; line = _; quits = false }) (stored bounds work (DropUnit template ∷ []) (without_unit template work.kept))

    item_longer : (found : Option Item) → Longer (on_item type_line bounds budget k work there found) (on_item type_line bounds budget k work with_more found)
    item_longer None = refl
    item_longer (Some (item.Command c)) = missing_longer c (first_missing work.kept.units (called_by c)) _ _ (unfit_longer type_line _ _ (run_longer c))
    item_longer (Some (item.Unit u)) = unfit_longer type_line _ _ (set_longer u)
    item_longer (Some (item.Environment asked)) = inquiry_longer (inquiry work.kept asked)

    fault_longer : (fault : Option Fault) (x y : Outcome) → Longer x y → Longer (on_fault k work there fault x) (on_fault k work with_more fault y)
    fault_longer None x y p = p
    fault_longer (Some fault) x y p = refl

    outcome_longer : (item : List Line) → Longer (outcome type_line bounds budget k work item there) (outcome type_line bounds budget k work item with_more)
    unfolding outcome
    outcome_longer item = fault_longer (item_fault item (keys_of work.kept.targets)) _ _ (item_longer (item_of item (keys_of work.kept.targets)))

pub came_stays : CameStays
came_stays type_line bounds budget k work later item lines left more ended reply quits is =
    subst (λ (x : Outcome). Longer more x (outcome type_line bounds budget k work item (record { lines = lines ++ more; ends = ended }))) is (outcome_longer more type_line bounds budget k work lines ended item)

-- ---- the lines that are left, and the end of the input

-- there are at most so many lines left; and where the input ends, no line is wanted
abbrev Fits : ℕ → Bool → Outcome → Type 0
Fits n ends (came reply work left quits) = length left ≤ n
Fits n true wants = ⊥
Fits n false wants = Unit {0}

module _ (bounds : Bounds) (budget k : ℕ) (work : Work) (n : ℕ) (ends : Bool) where
  one_fits : (b : Bool) (x y : Outcome) → Fits n ends x → Fits n ends y → Fits n ends (if b then x else y)
  one_fits true x y p q = p
  one_fits false x y p q = q

  stored_fits : (ending : Ending) (found : Result Work Refusal) → length ending.left ≤ n → Fits n ends (on_stored k work ending found)
  stored_fits ending (Ok later) le = le
  stored_fits ending (Err (too_large bytes)) le = le
  stored_fits ending (Err (store_full full)) le = le

  kept_fits : (ending : Ending) (targets : Targets) → length ending.left ≤ n → Fits n ends (kept_outcome bounds k work ending targets)
  kept_fits ending targets le =
      one_fits (nat_lt MOST_TARGETS (length targets)) _ _ le
      (stored_fits ending (stored_if_spelled bounds work (changes_between work.kept (with_targets work.kept targets)) (with_targets work.kept targets)) le)

  wants_fits : (ends : Bool) → (ends ≡ true → ⊥) → Fits n ends wants
  wants_fits true not = not refl
  wants_fits false not = tt

  stop_fits : (left : List RawLine) (output : List ℕ) (line : ℕ) (stop : Stop) → (ends ≡ true → is_wanting stop ≡ false) → length left ≤ n → Fits n ends (on_stop k work left output line stop)
  stop_fits left output line (faulty fault) not le = le
  stop_fits left output line wrong not le = le
  stop_fits left output line run.wants not le = wants_fits ends (λ is. absurd (cc (not is)))

  end_fits : (left : List RawLine) (output : List ℕ) (targets : Targets) (end : End) → (ends ≡ true → wants_more end ≡ false) → length left ≤ n → Fits n ends (on_end bounds k work left output targets end)
  end_fits left output targets done not le = kept_fits (record { output = output; left = left; line = _; quits = false }) targets le
  end_fits left output targets quit not le = kept_fits (record { output = output; left = left; line = _; quits = true }) targets le
  end_fits left output targets (stopped line stop) not le = stop_fits left output line stop not le

  missing_fits : (behind : Behind) (c : Command) (missing : Option (List ℕ)) (x : Outcome) → length behind.lines ≤ n → Fits n ends x → Fits n ends (unless_missing k work behind c missing x)
  missing_fits behind c None x le p = p
  missing_fits behind c (Some t) x le p = le

  unfit_fits : (behind : Behind) (line : Option ℕ) (x : Outcome) → length behind.lines ≤ n → Fits n ends x → Fits n ends (unless_unfit k work behind line x)
  unfit_fits behind None x le p = p
  unfit_fits behind (Some m) x le p = le

  set_fits : (behind : Behind) (u : Routine) → length behind.lines ≤ n → Fits n ends (set_outcome bounds k work behind u)
  set_fits behind u le =
      one_fits (nat_lt MOST_UNITS (length (with_routine work.kept u).units)) _ _ le
      (stored_fits (accepted k behind.lines u (with_routine work.kept u).units) (stored_if_spelled bounds work (SetUnit u.lines ∷ []) (with_routine work.kept u)) le)

  inquiry_fits : (left : List RawLine) (found : Answered) → length left ≤ n → Fits n ends (on_inquiry bounds k work left found)
  inquiry_fits left (Shows output) le = le
  inquiry_fits left NoUnit le = le
  inquiry_fits left NoTarget le = le
  inquiry_fits left TooLong le = le
  inquiry_fits left (Drops template) le = stored_fits (record { output = []; left = left; line = _; quits = false }) (stored bounds work (DropUnit template ∷ []) (without_unit template work.kept)) le

  fault_fits : (behind : Behind) (fault : Option Fault) (x : Outcome) → length behind.lines ≤ n → Fits n ends x → Fits n ends (on_fault k work behind fault x)
  fault_fits behind None x le p = p
  fault_fits behind (Some fault) x le p = le

module _ (type_line : Option ℕ) (bounds : Bounds) (budget k : ℕ) (work : Work) (lines : List RawLine) (ends : Bool) where
  abbrev seen : Behind
  seen = record { lines = lines; ends = ends }

  none_at_end : (c : Command) (e : Bool) → e ≡ true → wants_more (run_of budget work.kept (record { lines = lines; ends = e }) c).outcome ≡ false
  none_at_end c true is = command_wants_none work.kept.units MOST_DEPTH c work.kept.targets lines budget
  none_at_end c false is = absurd cc

  run_fits : (c : Command) → Fits (length lines) ends (run_outcome bounds budget k work seen c)
  run_fits c =
      let r = run_of budget work.kept seen c in
      let left = lines_left work.kept.units c work.kept.targets lines ends budget in
      end_fits bounds budget k work (length lines) ends r.lines r.output r.targets r.outcome (none_at_end c ends) (let long = ap length left.1 in omega (arith, long, length-append left.0 r.lines))

  item_fits : (found : Option Item) → Fits (length lines) ends (on_item type_line bounds budget k work seen found)
  item_fits None = omega arith
  item_fits (Some (item.Command c)) = missing_fits bounds budget k work (length lines) ends seen c (first_missing work.kept.units (called_by c)) _ (omega arith)
      (unfit_fits bounds budget k work (length lines) ends seen type_line _ (omega arith) (run_fits c))
  item_fits (Some (item.Unit u)) = unfit_fits bounds budget k work (length lines) ends seen type_line _ (omega arith) (set_fits bounds budget k work (length lines) ends seen u (omega arith))
  item_fits (Some (item.Environment asked)) = inquiry_fits bounds budget k work (length lines) ends lines (inquiry work.kept asked) (omega arith)

  outcome_fits : (item : List Line) → Fits (length lines) ends (outcome type_line bounds budget k work item seen)
  unfolding outcome
  outcome_fits item = fault_fits bounds budget k work (length lines) ends seen (item_fault item (keys_of work.kept.targets)) _ (omega arith) (item_fits (item_of item (keys_of work.kept.targets)))

pub no_longer : LeavesNoMore
no_longer type_line bounds budget k work later item lines left ends reply quits is = subst (Fits (length lines) ends) is (outcome_fits type_line bounds budget k work lines ends item)

pub came_at_end : ComesAtEnd
came_at_end type_line bounds budget k work item lines is = subst (Fits (length lines) true) is (outcome_fits type_line bounds budget k work lines true item)
