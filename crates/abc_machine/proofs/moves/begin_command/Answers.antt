use Rattle.std.proofs.Common.{map, inl, inr, Err, ap}
use Rattle.abc_outside.specs.Lines.{none_yet}
use Rattle.abc_state.specs.Views.{scope_of}
use Rattle.abc_pending.specs.Steps.{state_with}
use Rattle.abc_pending.specs.Views.{frame_of, next_weight}
use Rattle.abc_pending.specs.Weights.{action_size}
use Rattle.abc_pending.specs.declared.pending.Doing.TheVariants.{Item}
use Rattle.abc_machine.specs.Pending.{given, frames_weight}
use Rattle.abc_machine.proofs.Asking.{item_called, item_failed}
use Rattle.abc_machine.proofs.Falling.{lessens, spent_falls}
use Rattle.abc_machine.proofs.Moving.{wanted_of, within_now}
use Rattle.abc_machine.proofs.moves.begin_command.Goals as goal

pub returns-in-Ok-clause-within : goal.returns-in-Ok-clause-within
returns-in-Ok-clause-within g c = λ units h.
    c.go_on.ensures.within units (scope_of c.args.scope.now) (scope_of c.args.scope.now) c.in-Ok.ensures.scope (within_now units (scope_of c.args.scope.now) (map frame_of c.args.frames.now) h) h

pub returns-in-Ok-clause-falls : goal.returns-in-Ok-clause-falls
returns-in-Ok-clause-falls g c = λ units.
    lessens units c.go_on.result (map frame_of c.go_on.new.frames) (frames_weight (map frame_of c.args.frames.now)) (next_weight c.in-Ok.next) c.begin_item.new.run.left (action_size c.args.action.now) c.args.run.now.left
    c.go_on.ensures.weighs (spent_falls units (next_weight c.in-Ok.next) c.begin_item.new.run.left (action_size c.args.action.now) c.args.run.now.left c.in-Ok.ensures.falls.0 c.in-Ok.ensures.falls.1)

pub returns-in-Err-Long-clause-leads : goal.returns-in-Err-Long-clause-leads
returns-in-Err-Long-clause-leads g c = λ units input may.
    wanted_of units (scope_of c.args.scope.now) (scope_of c.args.scope.now) (map frame_of c.args.frames.now) c.in-Err-Long.field-0
    (state_with c.begin_item.new.run c.begin_item.new.targets (g.L.Lines.unread input c.args.lines.now)) (state_with c.begin_item.new.run c.begin_item.new.targets (g.L.Lines.unread input c.begin_item.new.lines))
    (given units (scope_of c.args.scope.now) (Item c.args.place c.args.action) (state_with c.args.run.now c.args.targets.now (g.L.Lines.unread input c.args.lines.now)))
    c.in-Err-Long.field-0-is (c.in-Err-Long.ensures.leads units input may)

pub returns-in-Ok-clause-calls : goal.returns-in-Ok-clause-calls
returns-in-Ok-clause-calls g c =
    item_called (scope_of c.args.scope.now) (map frame_of c.args.frames.now) c.args.lines.now c.begin_item.new.lines g.L.Lines.reads_on
    (λ units targets. given units (scope_of c.args.scope.now) (Item c.args.place c.args.action) (state_with c.args.run.now targets none_yet)) c.begin_item.ensures.calls

pub returns-in-Err-Halted-clause-calls : goal.returns-in-Err-Halted-clause-calls
returns-in-Err-Halted-clause-calls g c =
    item_called (scope_of c.args.scope.now) (map frame_of c.args.frames.now) c.args.lines.now c.begin_item.new.lines g.L.Lines.reads_on
    (λ units targets. given units (scope_of c.args.scope.now) (Item c.args.place c.args.action) (state_with c.args.run.now targets none_yet)) c.begin_item.ensures.calls

pub returns-in-Err-Long-clause-calls : goal.returns-in-Err-Long-clause-calls
returns-in-Err-Long-clause-calls g c =
    item_called (scope_of c.args.scope.now) (map frame_of c.args.frames.now) c.args.lines.now c.begin_item.new.lines g.L.Lines.reads_on
    (λ units targets. given units (scope_of c.args.scope.now) (Item c.args.place c.args.action) (state_with c.args.run.now targets none_yet)) c.begin_item.ensures.calls

pub returns-in-Err-Input-clause-calls : goal.returns-in-Err-Input-clause-calls
returns-in-Err-Input-clause-calls g c =
    item_called (scope_of c.args.scope.now) (map frame_of c.args.frames.now) c.args.lines.now c.begin_item.new.lines g.L.Lines.reads_on
    (λ units targets. given units (scope_of c.args.scope.now) (Item c.args.place c.args.action) (state_with c.args.run.now targets none_yet)) c.begin_item.ensures.calls

pub returns-in-Err-Long-clause-failed : goal.returns-in-Err-Long-clause-failed
returns-in-Err-Long-clause-failed g c = λ stops.
    item_failed (scope_of c.args.scope.now) (map frame_of c.args.frames.now) c.args.lines.now c.begin_item.new.lines g.L.Lines.failed
    (λ units targets. given units (scope_of c.args.scope.now) (Item c.args.place c.args.action) (state_with c.args.run.now targets none_yet)) (c.in-Err-Long.ensures.failed (inl (ap Err c.in-Err-Long.field-0-is)))

pub returns-in-Err-Input-clause-failed : goal.returns-in-Err-Input-clause-failed
returns-in-Err-Input-clause-failed g c = λ stops.
    item_failed (scope_of c.args.scope.now) (map frame_of c.args.frames.now) c.args.lines.now c.begin_item.new.lines g.L.Lines.failed
    (λ units targets. given units (scope_of c.args.scope.now) (Item c.args.place c.args.action) (state_with c.args.run.now targets none_yet)) (c.in-Err-Input.ensures.failed (inr (ap Err c.in-Err-Input.field-0-is)))
