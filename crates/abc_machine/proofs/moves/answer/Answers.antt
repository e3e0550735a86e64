use Rattle.std.proofs.Common.{map, refl, sym, ap, ◌∙◌, subst, inl}
use Rattle.abc_state.specs.Views.{scope_of, state_of}
use Rattle.abc_pending.specs.Leads.{below, resume}
use Rattle.abc_pending.specs.Views.{begin_of, frame_of, next_weight, reply_of}
use Rattle.abc_pending.specs.Weights.{IsWithin, frame_weight}
use Rattle.abc_machine.specs.Pending.{frames_weight}
use Rattle.abc_machine.specs.Moves.{Lessens}
use Rattle.abc_machine.proofs.Falling.{lessens}
use Rattle.abc_machine.proofs.Moving.{ends_at, popped, within_now, within_popped}
use Rattle.abc_machine.proofs.moves.answer.Goals as goal

pub returns-in-None-clause-leads : goal.returns-in-None-clause-leads
returns-in-None-clause-leads c = λ units lines ended.
    ends_at units (scope_of c.args.scope.now) c.args.frames.now (reply_of c.args.reply) c.outcome.result (state_of c.args.run.now c.args.targets.now lines ended) c.in-None.ensures.0 c.outcome.ensures.outcome

pub returns-in-Ok-clause-leads : goal.returns-in-Ok-clause-leads
returns-in-Ok-clause-leads c = λ units lines ended.
    let old = scope_of c.args.scope.now in
    let new = scope_of c.take_up.new.scope in
    let f = frame_of c.in-Some.frame in
    let s = state_of c.take_up.new.run c.take_up.new.targets lines ended in
    popped units c.go_on.result old new f (map frame_of c.pop.new.self) (map frame_of c.args.frames.now) (map frame_of c.go_on.new.frames) (reply_of c.args.reply)
    (state_of c.args.run.now c.args.targets.now lines ended) s (begin_of units new c.in-Ok.next s) (ap (map frame_of) c.in-Some.ensures) (c.in-Ok.ensures.leads units lines ended)
    (c.go_on.ensures.leads units (below old f) new s (c.in-Ok.ensures.below ∙ c.in-Ok.ensures.scope))

pub returns-in-Ok-clause-within : goal.returns-in-Ok-clause-within
returns-in-Ok-clause-within c = λ units h.
    let old = scope_of c.args.scope.now in
    let f = frame_of c.in-Some.frame in
    let k = within_popped units old f (map frame_of c.pop.new.self) (map frame_of c.args.frames.now) (ap (map frame_of) c.in-Some.ensures) h in
    c.go_on.ensures.within units (below old f) (scope_of c.take_up.new.scope) (c.in-Ok.ensures.below ∙ c.in-Ok.ensures.scope)
    (subst (IsWithin units) (sym c.in-Ok.ensures.scope) (within_now units (below old f) (map frame_of c.pop.new.self) k)) k

pub returns-in-Ok-clause-falls : goal.returns-in-Ok-clause-falls
returns-in-Ok-clause-falls c = λ units.
    let less = lessens units c.go_on.result (map frame_of c.go_on.new.frames) (frames_weight (map frame_of c.pop.new.self)) (next_weight c.in-Ok.next) c.take_up.new.run.left (frame_weight (frame_of c.in-Some.frame)) c.args.run.now.left
    c.go_on.ensures.weighs (inl (c.take_up.ensures.left, c.in-Ok.ensures.falls)) in
    subst (λ w. Lessens units c.go_on.result (map frame_of c.go_on.new.frames) c.take_up.new.run.left w c.args.run.now.left) (sym (ap (λ fs. frames_weight (map frame_of fs)) c.in-Some.ensures)) less

pub returns-in-Err-clause-leads : goal.returns-in-Err-clause-leads
returns-in-Err-clause-leads c = λ units lines ended.
    let old = scope_of c.args.scope.now in
    let new = scope_of c.take_up.new.scope in
    let f = frame_of c.in-Some.frame in
    let was = state_of c.args.run.now c.args.targets.now lines ended in
    let s = state_of c.take_up.new.run c.take_up.new.targets lines ended in
    let g = resume units (below old f) f (reply_of c.args.reply) was in
    popped units c.halted.result old new f (map frame_of c.pop.new.self) (map frame_of c.args.frames.now) (map frame_of c.pop.new.self) (reply_of c.args.reply) was s g (ap (map frame_of) c.in-Some.ensures) refl
    (c.halted.ensures.leads units (below old f) new (map frame_of c.pop.new.self) (map frame_of c.pop.new.self) s g (c.in-Err.ensures.leads units lines ended))
