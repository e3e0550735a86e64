use Rattle.std.proofs.Common.{◌≡◌, Bool, true, false, List, [], ◌∙◌, rules}
use Rattle.abc_num.specs.declared.lines.RawLine.{RawLine}
use Rattle.abc_outside.specs.Lines.{none_yet, Called}
use Rattle.abc_outside.proofs.Called.{called_for, called_then, failed_for}
use Rattle.abc_meaning.specs.State.{Got}
use Rattle.abc_meaning.specs.Laws.{wants_line}
use Rattle.abc_pending.specs.Pending.{Answer}
use Rattle.abc_machine.specs.Machine.{pending, state_within}
use Rattle.abc_eval.specs.Runs.{WantsThere}
use Rattle.abc_eval.proofs.Asking.{leads_more, same_stop, step_wants}
use Rattle.abc_eval.proofs.running.drive.Given.{Over}
use Rattle.abc_eval.proofs.running.drive.Goals.{After-step}
use Rattle.abc_eval.proofs.running.drive.Goals as goal

-- a reader on which the run from its start wants a line
abbrev Wants : (g : Over) → After-step g → g.row.L.Denot → Type 0
Wants g c =
    WantsThere g.L.Lines.may_be g.L.Lines.unread
    (λ input. wants_line (pending c.args.units.now c.args.machine.now (state_within c.args.machine.now c.args.targets.now (g.L.Lines.unread input c.args.lines.now) c.args.budget)) ≡ true)

-- what is pending, over the lines that are left
abbrev now : (g : Over) → After-step g → List RawLine → Bool → Got Answer
now g c lines ended = pending c.args.units.now c.turn.machine (record (state_within c.turn.machine c.turn.targets none_yet c.args.budget) { lines = lines; ended = ended })

asks : (g : Over) (c : After-step g) (there : g.row.L.Denot) → (there ≡ c.turn.lines) × (wants_line (now g c [] false) ≡ true) → Wants g c there
asks g c there h = step_wants g.L.Lines.may_be g.L.Lines.unread (now g c) _ c.turn.lines there c.turn.invariant.leads h

calls_on : (g : Over) (c : After-step g) → Called g.L.Lines.reads_on (Wants g c) c.args.lines.now c.step.new.lines
calls_on g c =
    called_then g.L.Lines.reads_on (Wants g c) g.met.L.Lines.reads_on_later c.args.lines.now c.turn.lines c.step.new.lines c.turn.invariant.calls
    (called_for g.L.Lines.reads_on _ (Wants g c) c.turn.lines c.step.new.lines (asks g c) c.step.ensures.calls)

pub turn-preserved : goal.turn-preserved
turn-preserved g c = record {
  busy = search rules;
  of = search rules;
  may_be = λ input may. c.turn.invariant.may_be input (c.step.ensures.may_be input may);
  leads = λ input may.
      leads_more c.args.units.now c.in-Ok-More.field-0 c.step.new.self (state_within c.step.new.self c.step.new.targets (g.L.Lines.unread input c.step.new.lines) c.args.budget) _ c.in-Ok-More.field-0-is (c.in-Ok-More.ensures.leads input may)
      ∙ c.turn.invariant.leads input (c.step.ensures.may_be input may);
  steps = search rules;
  bound = search rules;
  taken = search rules;
  faultless = search rules;
  calls = calls_on g (goal.at.turn-preserved g c).After-step;
}

pub returns-in-Ok-End-clause-calls : goal.returns-in-Ok-End-clause-calls
returns-in-Ok-End-clause-calls g c = calls_on g (goal.at.returns-in-Ok-End-clause-calls g c).After-step

pub returns-in-Err-clause-calls : goal.returns-in-Err-clause-calls
returns-in-Err-clause-calls g c = calls_on g (goal.at.returns-in-Err-clause-calls g c).After-step

pub returns-in-Err-clause-failed : goal.returns-in-Err-clause-failed
returns-in-Err-clause-failed g c = λ stops.
    let at = (goal.at.returns-in-Err-clause-failed g c).After-step in
    failed_for g.L.Lines.failed _ (Wants g at) c.step.new.lines (asks g at) (c.in-Err.ensures.failed (same_stop c.in-Err.stop stops))
