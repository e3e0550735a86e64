use Rattle.std.proofs.Common.{◌≢◌, ◌∷◌, ◌+◌, ◌++◌, drop, length, option_map, ap, ◌∙◌, arith}
use Rattle.std.proofs.lemmas.Result.{err_from_is_err_and}
use Rattle.std.specs.Vec.Iter.{into_iter_items}
use Rattle.abc_acts.specs.inner.Binding.{bindings_all}
use Rattle.abc_acts.proofs.Adding.{apart_by_count, drop_at, more_behind, part_halts}
use Rattle.abc_acts.proofs.calls.add_actuals.Goals as goal

pub returns-then-formals-len : goal.returns-then-formals-len
returns-then-formals-len c =
    let apart : length c.args.formals.now ≢ length c.args.actuals.items = omega (arith, c.if-formals-len.true, c.len.ensures) in apart_by_count c.args.formals.now c.args.actuals.items apart

pub returns-in_err-add_actual : goal.returns-in_err-add_actual
returns-in_err-add_actual c =
    let p = err_from_is_err_and c.from_residual.result c.from_residual.ensures.1 in
    let place = c.loop-actual.place in
    let within = more_behind c.args.formals.now place (length (into_iter_items c.next.new.self)) (c.loop-actual.invariant.count ∙ ap length c.in-Some.ensures.steps.0) in
    rw (p.1, p.2) (part_halts c.index-formals-place.result (drop (place + 1) c.args.formals.now) c.in-Some.actual (into_iter_items c.next.new.self) _ c.args.found.now.items c.loop-actual.found.items c.add_actual.new.found.items c.in_err-add_actual.field-0.0
    (c.loop-actual.invariant.adds
    ∙ ap (λ ps. option_map (λ bs. c.loop-actual.found.items ++ bs) (bindings_all ps (into_iter_items c.loop-actual.actual-iterator))) (drop_at c.args.formals.now place c.index-formals-place.result within c.index-formals-place.is)
    ∙ ap (λ vs. option_map (λ bs. c.loop-actual.found.items ++ bs) (bindings_all (c.index-formals-place.result ∷ drop (place + 1) c.args.formals.now) vs)) c.in-Some.ensures.steps.0)
    c.in_err-add_actual.ensures)
