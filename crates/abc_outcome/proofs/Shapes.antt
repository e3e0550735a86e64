-- Each item is refused with a reply line and changes nothing, or answers ok, or wants a line.
use Rattle.std.proofs.Common.{◌≡◌, ◌⊎◌, inl, inr, ◌<◌, ℕ, Bool, true, false, List, [], ◌∷◌, ◌++◌, length, nat_lt, decimal, codes, Option, None, Some, Result, Ok, Err, if◌then◌else◌, refl, subst, arith, length-append}
use Rattle.std.specs.Map.{keys_of}
use Rattle.abc_num.specs.declared.limits.TheConstants.{MOST_TARGETS, MOST_UNITS}
use Rattle.abc_num.specs.declared.lines.Line.{Line}
use Rattle.abc_num.specs.declared.lines.RawLine.{RawLine}
use Rattle.abc_tree.specs.Templates.{template_text}
use Rattle.abc_tree.specs.declared.commands.Command.{Command}
use Rattle.abc_tree.specs.declared.commands.Item.{Item}
use Rattle.abc_tree.specs.declared.commands.Item.TheVariants as item
use Rattle.abc_tree.specs.declared.commands.Unit.{Unit as Routine}
use Rattle.abc_faults.specs.declared.fault.Fault.{Fault}
use Rattle.abc_faults.specs.declared.fault.FaultKind.TheVariants.{BadCommand}
use Rattle.abc_faults.specs.Faults.{item_fault}
use Rattle.abc_parse.specs.Readings.{item_of}
use Rattle.abc_frames.specs.Maps.{Targets}
use Rattle.abc_meaning.specs.State.{Stop, faulty, wrong}
use Rattle.abc_meaning.specs.State as run
use Rattle.abc_meaning.specs.Ran.{Outcome as End, done, quit, stopped, Ran}
use Rattle.abc_journal.specs.declared.layout.Bounds.{Bounds}
use Rattle.abc_turns.specs.Session.{came, wants}
use Rattle.abc_record.specs.declared.change.Change.TheVariants.{SetUnit, DropUnit}
use Rattle.abc_store.specs.Workspace.{changes_between, with_routine, with_targets}
use Rattle.abc_store.specs.Commit.{Work, Refusal, too_large, store_full, stored}
use Rattle.abc_inquiry.specs.declared.answering.Answered.{Answered}
use Rattle.abc_inquiry.specs.declared.answering.Answered.TheVariants.{Shows, Drops, NoUnit, NoTarget, TooLong}
use Rattle.abc_inquiry.specs.Inquiry.{inquiry}
use Rattle.abc_outcome.specs.Names.{fault_name, run_fault_name}
use Rattle.abc_outcome.specs.Reply.{reply_line, ok_line, fault_line, said, ended}
use Rattle.abc_outcome.specs.Missing.{first_missing, line_to, called_by}
use Rattle.abc_outcome.specs.Outcome.{Behind, Outcome, Ending, ends_with, on_stored, stored_if_spelled, kept_outcome, on_stop, on_end, run_of, run_outcome, unless_missing, unless_unfit, command_outcome, accepted, set_outcome, unit_outcome, on_inquiry, without_unit, on_item, on_fault, outcome}
use Rattle.abc_outcome.specs.Laws.{IsAccepting, ran, set, IsServed, IsUnchanged, NoReplyIsEmpty, RefusalsChangeNothing}

pub data Shape (k : ℕ) (work : Work) (read : Option Item) : Outcome → Type 0 where
  refused : (w : Work) (left : List RawLine) (output text : List ℕ) → w.kept ≡ work.kept → Shape k work read (ends_with w left output (reply_line k text))
  served : (w : Work) (left : List RawLine) (output line : List ℕ) (quits : Bool) → IsAccepting k read line → Shape k work read (came (said output line) w left quits)
  waits : Shape k work read wants

module _ (k : ℕ) (work : Work) (read : Option Item) where
  fails : (w : Work) (left : List RawLine) (output : List ℕ) (n : ℕ) (name : List ℕ) → w.kept ≡ work.kept → Shape k work read (ends_with w left output (fault_line k n name))
  fails w left output n name e = refused w left output (codes "fault line " ++ decimal n ++ codes ": " ++ name) e

  one_of : (b : Bool) (x y : Outcome) → Shape k work read x → Shape k work read y → Shape k work read (if b then x else y)
  one_of true x y p q = p
  one_of false x y p q = q

  stored_shape : (ending : Ending) (found : Result Work Refusal) → IsAccepting k read ending.line → Shape k work read (on_stored k work ending found)
  stored_shape ending (Ok later) is = served later ending.left ending.output ending.line ending.quits is
  stored_shape ending (Err (too_large bytes)) is = fails work ending.left ending.output 1 (codes "TooLarge") refl
  stored_shape ending (Err (store_full full)) is = fails (record { kept = work.kept; layout = full.layout }) ending.left ending.output 1 (codes "StoreFull") refl

  kept_shape : (bounds : Bounds) (left : List RawLine) (output : List ℕ) (quits : Bool) (targets : Targets)
      → Shape k work read (kept_outcome bounds k work (record { output = output; left = left; line = ok_line k; quits = quits }) targets)
  kept_shape bounds left output quits targets =
      one_of (nat_lt MOST_TARGETS (length targets)) _ _ (fails work left output 1 (codes "TooManyTargets") refl)
      (stored_shape (record { output = output; left = left; line = ok_line k; quits = quits })
      (stored_if_spelled bounds work (changes_between work.kept (with_targets work.kept targets)) (with_targets work.kept targets)) ran)

  stop_shape : (left : List RawLine) (output : List ℕ) (line : ℕ) (stop : Stop) → Shape k work read (on_stop k work left output line stop)
  stop_shape left output line (faulty fault) = fails work left output line (run_fault_name fault) refl
  stop_shape left output line wrong = fails work left output line (codes "TypeFault") refl
  stop_shape left output line run.wants = waits

  end_shape : (bounds : Bounds) (left : List RawLine) (output : List ℕ) (targets : Targets) (end : End) → Shape k work read (on_end bounds k work left output targets end)
  end_shape bounds left output targets done = kept_shape bounds left output false targets
  end_shape bounds left output targets quit = kept_shape bounds left output true targets
  end_shape bounds left output targets (stopped line stop) = stop_shape left output line stop

  run_shape : (bounds : Bounds) (r : Ran) → Shape k work read (on_end bounds k work r.lines r.output r.targets r.outcome)
  run_shape bounds r = end_shape bounds r.lines r.output r.targets r.outcome

  missing_shape : (behind : Behind) (c : Command) (missing : Option (List ℕ)) (run : Outcome) → Shape k work read run → Shape k work read (unless_missing k work behind c missing run)
  missing_shape behind c None run p = p
  missing_shape behind c (Some t) run p = fails work behind.lines [] (line_to work.kept.units t c) (codes "Missing " ++ t) refl

  unfit_shape : (behind : Behind) (line : Option ℕ) (rest : Outcome) → Shape k work read rest → Shape k work read (unless_unfit k work behind line rest)
  unfit_shape behind None rest p = p
  unfit_shape behind (Some n) rest p = fails work behind.lines [] n (codes "TypeFault") refl

  command_shape : (type_line : Option ℕ) (bounds : Bounds) (budget : ℕ) (behind : Behind) (c : Command) → Shape k work read (command_outcome type_line bounds budget k work behind c)
  command_shape type_line bounds budget behind c =
      missing_shape behind c (first_missing work.kept.units (called_by c)) _
      (unfit_shape behind type_line (run_outcome bounds budget k work behind c) (run_shape bounds (run_of budget work.kept behind c)))

  set_shape : (bounds : Bounds) (behind : Behind) (u : Routine) → read ≡ Some (item.Unit u) → Shape k work read (set_outcome bounds k work behind u)
  set_shape bounds behind u is =
      one_of (nat_lt MOST_UNITS (length (with_routine work.kept u).units)) _ _ (fails work behind.lines [] 1 (codes "TooManyUnits") refl)
      (stored_shape (accepted k behind.lines u (with_routine work.kept u).units) (stored_if_spelled bounds work (SetUnit u.lines ∷ []) (with_routine work.kept u))
      (set u (first_missing (with_routine work.kept u).units (template_text u.template ∷ [])) is))

  unit_shape : (type_line : Option ℕ) (bounds : Bounds) (behind : Behind) (u : Routine) → read ≡ Some (item.Unit u) → Shape k work read (unit_outcome type_line bounds k work behind u)
  unit_shape type_line bounds behind u is = unfit_shape behind type_line (set_outcome bounds k work behind u) (set_shape bounds behind u is)

  inquiry_shape : (bounds : Bounds) (left : List RawLine) (found : Answered) → Shape k work read (on_inquiry bounds k work left found)
  inquiry_shape bounds left (Shows output) = served work left output (ok_line k) false ran
  inquiry_shape bounds left NoUnit = fails work left [] 1 (codes "NoUnit") refl
  inquiry_shape bounds left NoTarget = fails work left [] 1 (codes "NoTarget") refl
  inquiry_shape bounds left TooLong = fails work left [] 1 (codes "TooLong") refl
  inquiry_shape bounds left (Drops template) =
      stored_shape (record { output = []; left = left; line = ok_line k; quits = false }) (stored bounds work (DropUnit template ∷ []) (without_unit template work.kept)) ran

  fault_shape : (behind : Behind) (fault : Option Fault) (whole : Outcome) → Shape k work read whole → Shape k work read (on_fault k work behind fault whole)
  fault_shape behind None whole p = p
  fault_shape behind (Some fault) whole p = fails work behind.lines [] fault.line (fault_name fault.kind) refl

some_line : (k : ℕ) (text : List ℕ) → 0 < length (reply_line k text)
some_line k text = omega arith

some_said : (output line : List ℕ) → 0 < length line → 0 < length (said output line)
some_said output line h = omega (arith, h, length-append (ended output) line)

some_accepting : (k : ℕ) (read : Option Item) (line : List ℕ) → IsAccepting k read line → 0 < length line
some_accepting k read line ran = some_line k (codes "ok")
some_accepting k read line (set u None is) = some_line k (codes "unit " ++ template_text u.template)
some_accepting k read line (set u (Some missing) is) = some_line k (codes "unit " ++ template_text u.template ++ codes " waits for " ++ missing)

item_shape : (type_line : Option ℕ) (k : ℕ) (work : Work) (bounds : Bounds) (budget : ℕ) (behind : Behind) (found : Option Item) → Shape k work found (on_item type_line bounds budget k work behind found)
item_shape type_line k work bounds budget behind None = fails k work None work behind.lines [] 1 (fault_name BadCommand) refl
item_shape type_line k work bounds budget behind (Some (item.Command c)) = command_shape k work (Some (item.Command c)) type_line bounds budget behind c
item_shape type_line k work bounds budget behind (Some (item.Unit u)) = unit_shape k work (Some (item.Unit u)) type_line bounds behind u refl
item_shape type_line k work bounds budget behind (Some (item.Environment asked)) = inquiry_shape k work (Some (item.Environment asked)) bounds behind.lines (inquiry work.kept asked)

shape_of : (type_line : Option ℕ) (bounds : Bounds) (budget k : ℕ) (work : Work) (lines : List Line) (behind : Behind) → Shape k work (item_of lines (keys_of work.kept.targets)) (outcome type_line bounds budget k work lines behind)
unfolding outcome
shape_of type_line bounds budget k work lines behind =
    fault_shape k work (item_of lines (keys_of work.kept.targets)) behind (item_fault lines (keys_of work.kept.targets)) _ (item_shape type_line k work bounds budget behind (item_of lines (keys_of work.kept.targets)))

-- what holds of an item that came to something
abbrev IfCame : (List ℕ → Work → Bool → Type 0) → Outcome → Type 0
IfCame P (came reply later left quits) = P reply later quits
IfCame P wants = Unit {0}

some_reply : (k : ℕ) (work : Work) (read : Option Item) (out : Outcome) → Shape k work read out → IfCame (λ reply later quits. 0 < length reply) out
some_reply k work read out (refused w left output text e) = some_said output (reply_line k text) (some_line k text)
some_reply k work read out (served w left output line quits is) = some_said output line (some_accepting k read line is)
some_reply k work read out waits = tt

served_or_unchanged : (k : ℕ) (work : Work) (read : Option Item) (out : Outcome) → Shape k work read out → IfCame (λ reply later quits. IsServed k read reply ⊎ IsUnchanged work later quits) out
served_or_unchanged k work read out (refused w left output text e) = inr (e, refl)
served_or_unchanged k work read out (served w left output line quits is) = inl (output, line, is, refl)
served_or_unchanged k work read out waits = tt

pub no_reply_is_empty : NoReplyIsEmpty
no_reply_is_empty type_line bounds budget k work later lines behind reply left quits is =
    subst (IfCame (λ reply later quits. 0 < length reply)) is (some_reply k work (item_of lines (keys_of work.kept.targets)) (outcome type_line bounds budget k work lines behind) (shape_of type_line bounds budget k work lines behind))

pub refusals_change_nothing : RefusalsChangeNothing
refusals_change_nothing type_line bounds budget k work later lines behind reply left quits is =
    subst (IfCame (λ reply later quits. IsServed k (item_of lines (keys_of work.kept.targets)) reply ⊎ IsUnchanged work later quits)) is (served_or_unchanged k work (item_of lines (keys_of work.kept.targets)) (outcome type_line bounds budget k work lines behind) (shape_of type_line bounds budget k work lines behind))
