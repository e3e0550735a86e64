use Rattle.std.proofs.Common.{◌≡◌, ⊎_elim, true, refl, subst, arith}
use Rattle.abc_outside.specs.Lines.{lines_in}
use Rattle.abc_outside.proofs.Called.{called_for, failed_for}
use Rattle.abc_meaning.specs.State.{Flow, Got}
use Rattle.abc_meaning.specs.Laws.{wants_line}
use Rattle.abc_meaning.specs.Meaning.{meaning}
use Rattle.abc_meaning.specs.Ran.{standing, starting}
use Rattle.abc_pending.specs.Pending.{Answer}
use Rattle.abc_machine.specs.Outcomes.{EndsSo}
use Rattle.abc_machine.specs.Machine.{pending, state_within}
use Rattle.abc_machine.specs.declared.outcome.RunStop.TheVariants.{Input as NoInput, Long}
use Rattle.abc_eval.specs.Runs.{WantsThere}
use Rattle.abc_eval.proofs.Asking.{flow_wants, same_stop, wants_there_for}
use Rattle.abc_eval.proofs.PuttingBack.{comes, keeps_memory, keeps_steps, no_stop}
use Rattle.abc_eval.proofs.running.run.Given.{Over}
use Rattle.abc_eval.proofs.running.run.Goals.{After-drive}
use Rattle.abc_eval.proofs.running.run.Goals as goal

-- the command, and the work that is pending at its start, over an input
abbrev meant : (g : Over) → After-drive g → g.L.Lines.Input → Got Flow
meant g c input =
    (meaning c.args.units.now 1001).acts (standing c.args.c.now) c.args.c.now.action
    (starting c.args.targets.now (lines_in (g.L.Lines.unread input c.args.lines.now)) (g.L.Lines.unread input c.args.lines.now).ends c.args.budget)

abbrev WorkWants : (g : Over) → After-drive g → g.row.L.Denot → Type 0
WorkWants g c =
    WantsThere g.L.Lines.may_be g.L.Lines.unread
    (λ input. wants_line (pending c.args.units.now c.in-Ok.machine (state_within c.in-Ok.machine c.args.targets.now (g.L.Lines.unread input c.args.lines.now) c.args.budget)) ≡ true)

abbrev Wants : (g : Over) → After-drive g → g.row.L.Denot → Type 0
Wants g c = WantsThere g.L.Lines.may_be g.L.Lines.unread (λ input. wants_line (meant g c input) ≡ true)

asks : (g : Over) (c : After-drive g) (there : g.row.L.Denot) → WorkWants g c there → Wants g c there
asks g c there =
    wants_there_for g.L.Lines.may_be g.L.Lines.unread _ (λ input. wants_line (meant g c input) ≡ true)
    (λ input. flow_wants (meant g c input) _ (c.in-Ok.ensures.leads c.args.units.now c.args.targets.now (g.L.Lines.unread input c.args.lines.now) c.args.budget)) there

-- what the machine came to is what the command comes to
pub returns-in-Ok-drive-clause-ran : goal.returns-in-Ok-drive-clause-ran
returns-in-Ok-drive-clause-ran g c = λ input may.
    let at = (goal.at.returns-in-Ok-drive-clause-ran g c).After-drive in
    let state = state_within c.drive.new.machine c.drive.new.targets (g.L.Lines.unread input c.drive.new.lines) c.args.budget in
    let leads = c.in-Ok.ensures.leads c.args.units.now c.args.targets.now (g.L.Lines.unread input c.args.lines.now) c.args.budget in
    comes c.in-Ok-drive.end c.drive.new.machine.run.output c.drive.new.machine.steps c.ended.result c.ended.ensures.outcome c.ended.ensures.output c.ended.ensures.steps c.ended.ensures.memory c.drive.new.targets
    (g.L.Lines.unread input c.drive.new.lines) c.args.budget (meant g at input) state (subst (λ (a : Got Answer). EndsSo c.in-Ok-drive.end state a) leads (c.in-Ok-drive.ensures.ends input may)) refl refl refl
    (omega (arith, c.drive.ensures.steps))

pub returns-in-Ok-drive-clause-memory : goal.returns-in-Ok-drive-clause-memory
returns-in-Ok-drive-clause-memory g c =
    keeps_memory c.in-Ok-drive.end c.drive.new.machine.run.output c.drive.new.machine.steps c.ended.result c.ended.ensures.outcome c.in-Ok-drive.ensures.memory

pub returns-in-Ok-drive-clause-steps : goal.returns-in-Ok-drive-clause-steps
returns-in-Ok-drive-clause-steps g c = keeps_steps c.ended.result c.drive.new.machine.steps c.args.budget c.ended.ensures.steps c.drive.ensures.steps

pub returns-in-Ok-drive-clause-long : goal.returns-in-Ok-drive-clause-long
returns-in-Ok-drive-clause-long g c = λ is. absurd (no_stop c.ended.result Long (λ e. cc) c.ended.ensures.memory is)

pub returns-in-Ok-drive-clause-input : goal.returns-in-Ok-drive-clause-input
returns-in-Ok-drive-clause-input g c = λ is. absurd (no_stop c.ended.result NoInput (λ e. cc) c.ended.ensures.memory is)

pub returns-in-Ok-drive-clause-failed : goal.returns-in-Ok-drive-clause-failed
returns-in-Ok-drive-clause-failed g c = λ stops.
    absurd (⊎_elim (λ long. no_stop c.ended.result Long (λ e. cc) c.ended.ensures.memory long) (λ input. no_stop c.ended.result NoInput (λ e. cc) c.ended.ensures.memory input) stops)

pub returns-in-Ok-drive-clause-calls : goal.returns-in-Ok-drive-clause-calls
returns-in-Ok-drive-clause-calls g c =
    let at = (goal.at.returns-in-Ok-drive-clause-calls g c).After-drive in
    called_for g.L.Lines.reads_on (WorkWants g at) (Wants g at) c.args.lines.now c.drive.new.lines (asks g at) c.drive.ensures.calls

pub returns-in-Err-drive-clause-calls : goal.returns-in-Err-drive-clause-calls
returns-in-Err-drive-clause-calls g c =
    let at = (goal.at.returns-in-Err-drive-clause-calls g c).After-drive in
    called_for g.L.Lines.reads_on (WorkWants g at) (Wants g at) c.args.lines.now c.drive.new.lines (asks g at) c.drive.ensures.calls

pub returns-in-Err-drive-clause-failed : goal.returns-in-Err-drive-clause-failed
returns-in-Err-drive-clause-failed g c = λ stops.
    let at = (goal.at.returns-in-Err-drive-clause-failed g c).After-drive in
    failed_for g.L.Lines.failed (WorkWants g at) (Wants g at) c.drive.new.lines (asks g at) (c.in-Err-drive.ensures.failed (same_stop c.in-Err-drive.stop stops))
