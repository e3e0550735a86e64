use Rattle.std.proofs.Common.{rules, ◌≡◌, true}
use Rattle.std.specs.Prelude.{OnErr}
use Rattle.abc_outside.specs.Lines.{lines_in}
use Rattle.abc_outside.proofs.Called.{called_for, failed_for}
use Rattle.abc_meaning.specs.State.{Flow, Got}
use Rattle.abc_meaning.specs.Laws.{wants_line}
use Rattle.abc_meaning.specs.Meaning.{meaning}
use Rattle.abc_meaning.specs.Ran.{ran, ran_as, standing, starting}
use Rattle.abc_sound.specs.Checked.{IsNeverWrong}
use Rattle.abc_ground.specs.Groups.{whole}
use Rattle.abc_eval.specs.Runs.{WantsLine, WantsThere}
use Rattle.abc_eval.specs.inner.Coming.{targets_after}
use Rattle.abc_eval.proofs.PuttingBack.{back_after_fault, run_after, stays_typable}
use Rattle.abc_eval.proofs.Asking.{ran_wants, wants_there_for}
use Rattle.abc_eval.proofs.running.run_item.Given.{Over}
use Rattle.abc_eval.proofs.running.run_item.Goals.{After-run-answer, After-values_stay_regular}
use Rattle.abc_eval.proofs.running.run_item.Goals as goal

-- the command, over an input
abbrev meant : (g : Over) → After-run-answer g → g.L.Lines.Input → Got Flow
meant g c input =
    (meaning c.args.units.now 1001).acts (standing c.args.c.now) c.args.c.now.action
    (starting c.args.targets.now (lines_in (g.L.Lines.unread input c.args.lines.now)) (g.L.Lines.unread input c.args.lines.now).ends c.args.steps)

abbrev PartWants : (g : Over) → After-run-answer g → g.row.L.Denot → Type 0
PartWants g c = WantsThere g.L.Lines.may_be g.L.Lines.unread (λ input. wants_line (meant g c input) ≡ true)

abbrev Wants : (g : Over) → After-run-answer g → g.row.L.Denot → Type 0
Wants g c = WantsThere g.L.Lines.may_be g.L.Lines.unread (λ input. WantsLine (ran_as c.args.targets.now c.args.steps (meant g c input)))

asks : (g : Over) (c : After-run-answer g) (there : g.row.L.Denot) → PartWants g c there → Wants g c there
asks g c there =
    wants_there_for g.L.Lines.may_be g.L.Lines.unread (λ input. wants_line (meant g c input) ≡ true) (λ input. WantsLine (ran_as c.args.targets.now c.args.steps (meant g c input)))
    (λ input. ran_wants c.args.targets.now c.args.steps (meant g c input)) there

-- over each input the command is never wrong
never : (g : Over) (c : After-values_stay_regular g) (input : g.L.Lines.Input)
    → IsNeverWrong (ran c.args.units.now 1000 c.args.c.now c.args.targets.now (lines_in (g.L.Lines.unread input c.args.lines.now)) (g.L.Lines.unread input c.args.lines.now).ends c.args.steps).outcome
never g c input =
    let unread = g.L.Lines.unread input c.args.lines.now in
    let accepted = c.requires.accepted in
    c.checked_items_are_never_wrong.ensures.never c.args.units.now c.args.targets.now c.args.c.now accepted.0 accepted.1 accepted.2 1000 (lines_in unread) unread.ends c.args.steps
    (c.values_stay_regular.ensures.lines unread.ends unread.bytes)

pub returns-clause-never : goal.returns-clause-never
returns-clause-never g c = never g (goal.at.returns-clause-never g c).After-values_stay_regular

pub returns-in-Err-clause-never : goal.returns-in-Err-clause-never
returns-in-Err-clause-never g c = never g (goal.at.returns-in-Err-clause-never g c).After-values_stay_regular

-- and leaves the workspace typable

pub returns-clause-typable : goal.returns-clause-typable
returns-clause-typable g c = λ input may.
    let at = (goal.at.returns-clause-typable g c).After-run-answer in
    let accepted = c.requires.accepted in
    let unread = g.L.Lines.unread input c.args.lines.now in
    let before : c.in-Ok.kept ≡ c.args.targets.now = search rules in
    let after : c.put_back_unless_done.new.targets ≡ targets_after c.run-answer.result c.in-Ok.kept c.run-answer.new.targets = search rules in
    let kept : OnErr c.run-answer.result (c.put_back_unless_done.new.targets ≡ c.args.targets.now) = search rules in
    let run = run_after c.run-answer.result c.args.targets.now c.in-Ok.kept c.run-answer.new.targets c.put_back_unless_done.new.targets (g.L.Lines.unread input c.run-answer.new.lines) c.args.steps (meant g at input) before after
    (c.run-answer.ensures.ran input may) in
    stays_typable c.run-answer.result c.args.targets.now c.put_back_unless_done.new.targets (lines_in (g.L.Lines.unread input c.run-answer.new.lines)) (ran_as c.args.targets.now c.args.steps (meant g at input)) (whole c.args.units.now) run kept
    (accepted.2.0, accepted.2.1)
    (c.checked_items_are_never_wrong.ensures.typable c.args.units.now c.args.targets.now c.args.c.now accepted.0 accepted.1 accepted.2 1000 (lines_in unread) unread.ends c.args.steps
    (c.values_stay_regular.ensures.lines unread.ends unread.bytes))

-- after a fault they are those from before

pub returns-clause-faulted : goal.returns-clause-faulted
returns-clause-faulted g c = back_after_fault c.run-answer.result c.args.targets.now c.in-Ok.kept c.run-answer.new.targets c.put_back_unless_done.new.targets (search rules) (search rules)

pub returns-clause-calls : goal.returns-clause-calls
returns-clause-calls g c =
    let at = (goal.at.returns-clause-calls g c).After-run-answer in
    called_for g.L.Lines.reads_on (PartWants g at) (Wants g at) c.args.lines.now c.run-answer.new.lines (asks g at) c.run-answer.ensures.calls

pub returns-clause-failed : goal.returns-clause-failed
returns-clause-failed g c = λ stops.
    let at = (goal.at.returns-clause-failed g c).After-run-answer in
    failed_for g.L.Lines.failed (PartWants g at) (Wants g at) c.run-answer.new.lines (asks g at) (c.run-answer.ensures.failed stops)
