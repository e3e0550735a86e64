-- Where a line is asked for, the run wants one.
use Rattle.std.proofs.Common.{◌≡◌, ◌⊎◌, ℕ, Bool, true, false, List, [], Result, Ok, Err, inl, inr, refl, sym, ap, ◌∙◌, subst}
use Rattle.abc_num.specs.declared.lines.RawLine.{RawLine}
use Rattle.abc_frames.specs.Maps.{Targets}
use Rattle.abc_outside.specs.Lines.{Unread, lines_in}
use Rattle.abc_meaning.specs.State.{State, faulty, wrong, wants, Flow, Got, gives, stops}
use Rattle.abc_meaning.specs.Laws.{wants_line}
use Rattle.abc_meaning.specs.Ran.{ran_as}
use Rattle.abc_pending.specs.Leads.{as_flow}
use Rattle.abc_pending.specs.Pending.{Answer}
use Rattle.abc_tree.specs.declared.commands.Unit.{Unit as Routine}
use Rattle.abc_machine.specs.Machine.{Steps, pending}
use Rattle.abc_machine.specs.declared.machine.Machine.{Machine}
use Rattle.abc_machine.specs.declared.outcome.Stepped.{Stepped}
use Rattle.abc_machine.specs.declared.outcome.Stepped.TheVariants.{More}
use Rattle.abc_machine.specs.declared.outcome.RunStop.{RunStop}
use Rattle.abc_machine.specs.declared.outcome.RunStop.TheVariants.{Input as NoInput, Long}
use Rattle.abc_eval.specs.Runs.{WantsLine, WantsThere}
use Rattle.abc_eval.specs.inner.Coming.{LeadsOn}

module _ {L Input : Type 0} (may_be : Input → L → Type 0) (unread : Input → L → Unread) where
  -- a step wants a line where none is there yet: so does the run from its start, over each input that may be there
  pub step_wants : (go : List RawLine → Bool → Got Answer) (from_start : Input → Got Answer) (now there : L)
      → LeadsOn may_be (λ input. go (lines_in (unread input now)) (unread input now).ends) from_start now
      → (there ≡ now) × (wants_line (go [] false) ≡ true) → WantsThere may_be unread (λ input. wants_line (from_start input) ≡ true) there
  step_wants go from_start now there leads asks =
      subst (WantsThere may_be unread (λ input. wants_line (from_start input) ≡ true)) (sym asks.0)
      (λ input may none goes_on. ap wants_line (sym (leads input may)) ∙ ap (λ lines. wants_line (go lines (unread input now).ends)) none ∙ ap (λ ends. wants_line (go [] ends)) goes_on ∙ asks.1)

  -- what each run that wants a line tells
  pub wants_there_for : (P Q : Input → Type 0) → ((input : Input) → P input → Q input) → (there : L) → WantsThere may_be unread P there → WantsThere may_be unread Q there
  wants_there_for P Q goes there wanted = λ input may none goes_on. goes input (wanted input may none goes_on)

-- the pending work of a command wants a line: so does the command
pub flow_wants : (g : Got Flow) (h : Got Answer) → h ≡ as_flow g → wants_line h ≡ true → wants_line g ≡ true
flow_wants (gives f s) h e w = sym (ap wants_line e) ∙ w
flow_wants (stops line stop s) h e w = sym (ap wants_line e) ∙ w

pub ran_wants : (before : Targets) (budget : ℕ) (g : Got Flow) → wants_line g ≡ true → WantsLine (ran_as before budget g)
ran_wants before budget (gives f s) w = cc
ran_wants before budget (stops line (faulty f) s) w = cc
ran_wants before budget (stops line wrong s) w = cc
ran_wants before budget (stops line wants s) w = (line, refl)

-- after a step there is more: what is pending now leads to the same
pub leads_more : (units : List Routine) (r : Stepped) (m : Machine) (s : State) (g : Got Answer) → r ≡ More → Steps units (Ok r) m s g → pending units m s ≡ g
leads_more units r m s g e steps = sym (subst (λ r. Steps units (Ok r) m s g) e steps).1

-- the same stop, whatever there would be without it
pub same_stop : {A B : Type 0} (stop : RunStop) → ◌≡◌ {A = Result A RunStop} (Err stop) (Err Long) ⊎ ◌≡◌ {A = Result A RunStop} (Err stop) (Err NoInput)
    → ◌≡◌ {A = Result B RunStop} (Err stop) (Err Long) ⊎ ◌≡◌ {A = Result B RunStop} (Err stop) (Err NoInput)
same_stop stop (inl e) = let f : stop ≡ Long = cc in inl (ap Err f)
same_stop stop (inr e) = let f : stop ≡ NoInput = cc in inr (ap Err f)
