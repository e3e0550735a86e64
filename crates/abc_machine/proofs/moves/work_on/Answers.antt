use Rattle.std.proofs.Common.{map, inl, inr, Err, ap}
use Rattle.abc_outside.specs.Lines.{none_yet}
use Rattle.abc_state.specs.Views.{scope_of}
use Rattle.abc_pending.specs.Leads.{now}
use Rattle.abc_pending.specs.Steps.{state_with}
use Rattle.abc_pending.specs.Views.{frame_of, job_of, next_weight}
use Rattle.abc_pending.specs.Weights.{job_weight}
use Rattle.abc_machine.specs.Pending.{frames_weight}
use Rattle.abc_machine.proofs.Asking.{all_called, all_failed}
use Rattle.abc_machine.proofs.Falling.{lessens}
use Rattle.abc_machine.proofs.Moving.{wanted_of, within_now}
use Rattle.abc_machine.proofs.moves.work_on.Goals as goal

pub returns-in-Ok-clause-within : goal.returns-in-Ok-clause-within
returns-in-Ok-clause-within g c = λ h.
    c.come_to.ensures.within c.args.units.now (scope_of c.args.scope.now) c.in-Ok.ensures.scope
    (c.in-Ok.ensures.within (within_now c.args.units.now (scope_of c.args.scope.now) (map frame_of c.args.frames.now) h)) h

pub returns-in-Ok-clause-falls : goal.returns-in-Ok-clause-falls
returns-in-Ok-clause-falls g c = λ h.
    c.come_to.ensures.falls c.args.units.now (job_weight (job_of c.args.work.1)) c.args.run.now.left (c.in-Ok.ensures.falls (within_now c.args.units.now (scope_of c.args.scope.now) (map frame_of c.args.frames.now) h))

pub returns-in-Err-Long-clause-leads : goal.returns-in-Err-Long-clause-leads
returns-in-Err-Long-clause-leads g c = λ input may.
    wanted_of c.args.units.now (scope_of c.begin.new.scope) (scope_of c.args.scope.now) (map frame_of c.args.frames.now) c.in-Err-Long.field-0
    (state_with c.begin.new.run c.begin.new.targets (g.L.Lines.unread input c.args.lines.now)) (state_with c.begin.new.run c.begin.new.targets (g.L.Lines.unread input c.begin.new.lines))
    (now c.args.units.now (scope_of c.args.scope.now) c.args.work.0 (job_of c.args.work.1) (state_with c.args.run.now c.args.targets.now (g.L.Lines.unread input c.args.lines.now)))
    c.in-Err-Long.field-0-is (c.in-Err-Long.ensures.leads input may)

pub returns-in-Ok-clause-calls : goal.returns-in-Ok-clause-calls
returns-in-Ok-clause-calls g c =
    all_called (scope_of c.args.scope.now) (map frame_of c.args.frames.now) c.args.lines.now c.begin.new.lines g.L.Lines.reads_on c.args.units.now
    (now c.args.units.now (scope_of c.args.scope.now) c.args.work.0 (job_of c.args.work.1) (state_with c.args.run.now c.args.targets.now none_yet)) c.begin.ensures.calls

pub returns-in-Err-Halted-clause-calls : goal.returns-in-Err-Halted-clause-calls
returns-in-Err-Halted-clause-calls g c =
    all_called (scope_of c.args.scope.now) (map frame_of c.args.frames.now) c.args.lines.now c.begin.new.lines g.L.Lines.reads_on c.args.units.now
    (now c.args.units.now (scope_of c.args.scope.now) c.args.work.0 (job_of c.args.work.1) (state_with c.args.run.now c.args.targets.now none_yet)) c.begin.ensures.calls

pub returns-in-Err-Long-clause-calls : goal.returns-in-Err-Long-clause-calls
returns-in-Err-Long-clause-calls g c =
    all_called (scope_of c.args.scope.now) (map frame_of c.args.frames.now) c.args.lines.now c.begin.new.lines g.L.Lines.reads_on c.args.units.now
    (now c.args.units.now (scope_of c.args.scope.now) c.args.work.0 (job_of c.args.work.1) (state_with c.args.run.now c.args.targets.now none_yet)) c.begin.ensures.calls

pub returns-in-Err-Input-clause-calls : goal.returns-in-Err-Input-clause-calls
returns-in-Err-Input-clause-calls g c =
    all_called (scope_of c.args.scope.now) (map frame_of c.args.frames.now) c.args.lines.now c.begin.new.lines g.L.Lines.reads_on c.args.units.now
    (now c.args.units.now (scope_of c.args.scope.now) c.args.work.0 (job_of c.args.work.1) (state_with c.args.run.now c.args.targets.now none_yet)) c.begin.ensures.calls

pub returns-in-Err-Long-clause-failed : goal.returns-in-Err-Long-clause-failed
returns-in-Err-Long-clause-failed g c = λ stops.
    all_failed (scope_of c.args.scope.now) (map frame_of c.args.frames.now) c.args.lines.now c.begin.new.lines g.L.Lines.failed c.args.units.now
    (now c.args.units.now (scope_of c.args.scope.now) c.args.work.0 (job_of c.args.work.1) (state_with c.args.run.now c.args.targets.now none_yet)) (c.in-Err-Long.ensures.failed (inl (ap Err c.in-Err-Long.field-0-is)))

pub returns-in-Err-Input-clause-failed : goal.returns-in-Err-Input-clause-failed
returns-in-Err-Input-clause-failed g c = λ stops.
    all_failed (scope_of c.args.scope.now) (map frame_of c.args.frames.now) c.args.lines.now c.begin.new.lines g.L.Lines.failed c.args.units.now
    (now c.args.units.now (scope_of c.args.scope.now) c.args.work.0 (job_of c.args.work.1) (state_with c.args.run.now c.args.targets.now none_yet)) (c.in-Err-Input.ensures.failed (inr (ap Err c.in-Err-Input.field-0-is)))
