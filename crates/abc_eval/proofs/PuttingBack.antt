-- What a run came to, once targets of a run that ended by a fault are put back.
use Rattle.std.proofs.Common.{◌≡◌, ◌-◌, ◌≤◌, ℕ, List, Result, Ok, Err, refl, sym, ap, ◌∙◌, subst, arith}
use Rattle.std.specs.Prelude.{IfOk, IfErr, OnErr, IsErrOf}
use Rattle.abc_num.specs.declared.lines.RawLine.{RawLine}
use Rattle.abc_frames.specs.Maps.{Targets}
use Rattle.abc_value.specs.declared.faults.RunFault.{RunFault}
use Rattle.abc_outside.specs.Lines.{Unread, lines_in}
use Rattle.abc_meaning.specs.State.{State, Flow, goes_on, quits, returns, reports, Got, gives, stops}
use Rattle.abc_meaning.specs.Ran.{Ran as Meant, Outcome as MeantOutcome, stopped, ran_as}
use Rattle.abc_pending.specs.Leads.{as_flow}
use Rattle.abc_machine.specs.Outcomes.{End, end_of}
use Rattle.abc_machine.specs.Outcomes as machine
use Rattle.abc_machine.specs.Machine.{WantsOne}
use Rattle.abc_machine.specs.declared.outcome.Outcome.{Outcome as Ending}
use Rattle.abc_machine.specs.declared.outcome.RunStop.{RunStop}
use Rattle.abc_machine.specs.declared.outcome.RunStop.TheVariants.{Input, Long, Memory}
use Rattle.abc_eval.specs.Runs.{TellsNoMemory, IsRun, WantsLine, as_meant, outcome_of}
use Rattle.abc_eval.specs.inner.Coming.{Comes, IsEnd, end_as, targets_after, targets_after_outcome}
use Rattle.abc_eval.specs.declared.outcome.Outcome.{Outcome}
use Rattle.abc_eval.specs.declared.outcome.Outcome.TheVariants.{Done, Quit, Fault}
use Rattle.abc_eval.specs.declared.running.Ran.{Ran}
use Rattle.abc_ground.specs.Groups.{Cut}
use Rattle.abc_ground.specs.Typable.{IsTypable}

-- the targets that the meaning has afterwards, by how it ended
abbrev pub targets_by : MeantOutcome → Targets → Targets → Targets
targets_by (stopped line stop) before now = before
targets_by o before now = now

same_targets : (o : Outcome) (m : MeantOutcome) (before now : Targets) → m ≡ outcome_of o → targets_by m before now ≡ targets_after_outcome o before now
same_targets Done m before now e = ap (λ m. targets_by m before now) e
same_targets Quit m before now e = ap (λ m. targets_by m before now) e
same_targets (Fault line f) m before now e = ap (λ m. targets_by m before now) e

-- the run as the meaning has it, by its end
abbrev pub ran_by : Targets → ℕ → End → Meant
ran_by before budget end = record { outcome = end.outcome; targets = targets_by end.outcome before end.state.targets; output = end.state.output; lines = end.state.lines; steps = budget - end.state.left }

by_end : (before : Targets) (budget : ℕ) (g : Got Flow) → ran_as before budget g ≡ ran_by before budget (end_of (as_flow g))
by_end before budget (gives goes_on s) = refl
by_end before budget (gives quits s) = refl
by_end before budget (gives (returns v) s) = refl
by_end before budget (gives (reports b) s) = refl
by_end before budget (stops line stop s) = refl

-- equal parts
same_run : (o : MeantOutcome) (t u : Targets) (a b : List ℕ) (l m : List RawLine) (k j : ℕ) → t ≡ u → a ≡ b → l ≡ m → k ≡ j
    → ◌≡◌ {A = Meant} (record { outcome = o; targets = t; output = a; lines = l; steps = k }) (record { outcome = o; targets = u; output = b; lines = m; steps = j })
same_run o t u a b l m k j e f g h = rw (e, f, g, h) refl

-- a run that ended is what the command means
ended : (r : Ran) (before now : Targets) (unread : Unread) (budget : ℕ) (g : Got Flow) → IsEnd r now unread budget g → ran_as before budget g ≡ as_meant r (targets_after_outcome r.outcome before now) (lines_in unread)
ended r before now unread budget g h =
    by_end before budget g ∙ ap (ran_by before budget) h.ends
    ∙ same_run (outcome_of r.outcome) _ _ _ _ _ _ _ _ (same_targets r.outcome (outcome_of r.outcome) before h.end.targets refl ∙ ap (targets_after_outcome r.outcome before) h.targets_are) h.output_is h.lines_are h.steps_are

-- a run that wants a line
wanting : (before : Targets) (budget : ℕ) (g : Got Flow) → WantsOne (as_flow g) → WantsLine (ran_as before budget g)
wanting before budget (gives f s) h = let e = h.2 in cc
wanting before budget (stops line stop s) h = (h.0, ap (λ g. (ran_by before budget (end_of g)).outcome) h.2)

is_run_after : (r : Result Ran RunStop) (before now : Targets) (unread : Unread) (budget : ℕ) (g : Got Flow) → Comes r now unread budget g → IsRun r (targets_after r before now) (lines_in unread) (ran_as before budget g)
is_run_after (Ok r) before now unread budget g h = ended r before now unread budget g h
is_run_after (Err Long) before now unread budget g h = wanting before budget g h
is_run_after (Err Input) before now unread budget g h = tt
is_run_after (Err Memory) before now unread budget g h = tt

-- the same for the targets that were kept, and those that stand afterwards
pub run_after : (r : Result Ran RunStop) (before kept now after : Targets) (unread : Unread) (budget : ℕ) (g : Got Flow) → kept ≡ before → after ≡ targets_after r kept now → Comes r now unread budget g → IsRun r after (lines_in unread) (ran_as before budget g)
run_after r before kept now after unread budget g e h k =
    subst (λ t. IsRun r t (lines_in unread) (ran_as before budget g)) (ap (λ t. targets_after r t now) (sym e) ∙ sym h) (is_run_after r before now unread budget g k)

-- after a fault the targets are those that were put back
pub back_after_fault : (r : Result Ran RunStop) (before kept now after : Targets) → kept ≡ before → after ≡ targets_after r kept now
    → IfOk r (λ x. (line : ℕ) (fault : RunFault) → x.outcome ≡ Fault line fault → after ≡ before)
back_after_fault (Ok r) before kept now after e h = λ line fault is. h ∙ ap (λ o. targets_after_outcome o kept now) is ∙ e
back_after_fault (Err stop) before kept now after e h = tt

-- ---- what a machine that has ended leaves

outcome_as : (o : Outcome) (e : Ending) → end_as o ≡ e → machine.outcome_of e ≡ outcome_of o
outcome_as Done e is = ap machine.outcome_of (sym is)
outcome_as Quit e is = ap machine.outcome_of (sym is)
outcome_as (Fault line fault) e is = ap machine.outcome_of (sym is)

memory_as : (o : Outcome) (e : Ending) → end_as o ≡ e → machine.TellsNoMemory e → TellsNoMemory o
memory_as Done e is has = tt
memory_as Quit e is has = tt
memory_as (Fault line fault) e is has = subst machine.TellsNoMemory (sym is) has

module _ (e : Ending) (output : List ℕ) (steps : ℕ) where
  -- where the run is told it is what the machine came to
  pub comes : (r : Result Ran RunStop) → IfOk r (λ x. end_as x.outcome ≡ e) → IfOk r (λ x. x.output ≡ output) → IfOk r (λ x. x.steps ≡ steps) → IfErr r (λ stop. stop ≡ Memory)
      → (targets : Targets) (unread : Unread) (budget : ℕ) (g : Got Flow) (end : State) → machine.EndsSo e end (as_flow g) → end.targets ≡ targets → end.output ≡ output → end.lines ≡ lines_in unread → budget - end.left ≡ steps
      → Comes r targets unread budget g
  comes (Ok r) outcome_is output_is steps_are memory targets unread budget g end ends t o l s = record {
    end = end;
    ends = ends ∙ ap (λ (m : MeantOutcome). record { outcome = m; state = end }) (outcome_as r.outcome e outcome_is);
    targets_are = t;
    output_is = o ∙ sym output_is;
    lines_are = l;
    steps_are = s ∙ sym steps_are;
  }
  comes (Err Memory) outcome_is output_is steps_are memory targets unread budget g end ends t o l s = tt
  comes (Err Input) outcome_is output_is steps_are memory targets unread budget g end ends t o l s = tt
  comes (Err Long) outcome_is output_is steps_are memory targets unread budget g end ends t o l s = absurd (cc)

  pub keeps_memory : (r : Result Ran RunStop) → IfOk r (λ x. end_as x.outcome ≡ e) → machine.TellsNoMemory e → IfOk r (λ x. TellsNoMemory x.outcome)
  keeps_memory (Ok r) outcome_is has = memory_as r.outcome e outcome_is has
  keeps_memory (Err stop) outcome_is has = tt

pub keeps_steps : (r : Result Ran RunStop) (steps budget : ℕ) → IfOk r (λ x. x.steps ≡ steps) → steps ≤ budget → IfOk r (λ x. x.steps ≤ budget)
keeps_steps (Ok r) steps budget is few = omega (arith, is, few)
keeps_steps (Err stop) steps budget is few = tt

-- its only stop is want of memory
pub no_stop : (r : Result Ran RunStop) (stop : RunStop) → (stop ≡ Memory → ⊥) → IfErr r (λ s. s ≡ Memory) → IsErrOf r stop → ⊥
no_stop (Ok r) stop other memory is = cc
no_stop (Err s) stop other memory is = let same : s ≡ stop = cc in other (sym same ∙ memory)

-- ---- the targets stay typable

pub stays_typable : (r : Result Ran RunStop) (before after : Targets) (lines : List RawLine) (g : Meant) (w : List Cut) → IsRun r after lines g → OnErr r (after ≡ before) → IsTypable before w → IsTypable g.targets w → IsTypable after w
stays_typable (Ok r) before after lines g w run kept old new = subst (λ (m : Meant). IsTypable m.targets w) run new
stays_typable (Err stop) before after lines g w run kept old new = subst (λ (ts : Targets). IsTypable ts w) (sym kept) old
