use Rattle.std.proofs.Common.{◌≡◌, ◌∙◌, ◌-◌, true, Some, is_some, map, ap, sym, subst, arith}
use Rattle.abc_meaning.specs.State.{gives, place as place_at}
use Rattle.abc_meaning.specs.Addresses.{address_within}
use Rattle.abc_meaning.specs.Meaning.{meaning}
use Rattle.abc_state.specs.Agrees.{Halts}
use Rattle.abc_state.specs.Views.{at, scope_of, state_of, step_of}
use Rattle.abc_pending.specs.AtOnce.{Tells, is_address_at_once, is_at_once}
use Rattle.abc_pending.specs.declared.at_once.TheConstants.{HEIGHT_AT_ONCE}
use Rattle.abc_pending.proofs.Addresses.{is_above, key_at_once, name_within, table_at_once, told_some, with_step, with_stop}
use Rattle.abc_pending.proofs.addressed.+steps_found.Goals as goal

pub returns-in-Name-clause-tells : goal.returns-in-Name-clause-tells
returns-in-Name-clause-tells t c = λ units lines ended.
    let s = state_of c.args.run.now c.args.targets.now lines ended in
    name_within (meaning units c.args.place.levels) (at (scope_of c.args.scope.now) c.args.place.line) c.args.high c.args.e.now s c.if-high-eq0.false c.in-Name.i c.in-Name.is
    ∙ ap (λ steps. gives (Some (place_at c.in-Name.i.0 (map step_of steps))) s) (sym c.new.ensures)

pub returns-in-Ok-Some-clause-tells : goal.returns-in-Ok-Some-clause-tells
returns-in-Ok-Some-clause-tells t c = λ units lines ended.
    let s = state_of c.args.run.now c.args.targets.now lines ended in
    let here = at (scope_of c.args.scope.now) c.args.place.line in
    let deep = meaning units c.args.place.levels in
    with_step deep here c.args.high c.args.e.now s c.if-high-eq0.false (λ p. Some (place_at p.0 (map step_of p.1))) c.args.place.line c.with_key.result c.in-Select.t c.in-Select.k
    (place_at c.in-Ok-Some.name (map step_of c.in-Ok-Some.steps)) c.in-Select.is
    (ap (λ t. address_within deep here (c.args.high - 1) t s) (sym c.get.ensures)
    ∙ told_some (λ p. Some (place_at p.0 (map step_of p.1))) c.args.place.line c.in-Ok-Some.field-0 (c.in-Ok-Some.name, c.in-Ok-Some.steps) s (address_within deep here (c.args.high - 1) c.get.result.now s) c.in-Ok-Some.field-0-is (c.in-Ok-Some.ensures.tells units lines ended))
    (c.with_key.ensures.tells c.args.place.line s (deep.value here c.in-Select.k s)
    (subst (λ k. Tells (λ v. v) c.args.place.line c.value_found.result s (deep.value here k s)) c.get-in-Ok-Some.ensures (c.value_found.ensures.tells units lines ended)))

pub returns-in-Ok-Some-clause-found : goal.returns-in-Ok-Some-clause-found
returns-in-Ok-Some-clause-found t c = λ height below told.
    let scope = scope_of c.args.scope.now in
    c.with_key.ensures.found (c.value_found.ensures.found HEIGHT_AT_ONCE
    (subst (λ k. is_at_once HEIGHT_AT_ONCE scope k ≡ true) (sym c.get-in-Ok-Some.ensures) (key_at_once scope c.args.e.now c.in-Select.t c.in-Select.k c.in-Select.is height told)))

pub returns-in-Ok-None-clause-found : goal.returns-in-Ok-None-clause-found
returns-in-Ok-None-clause-found t c = λ height below told.
    let scope = scope_of c.args.scope.now in
    let above = is_above scope c.args.e.now c.in-Select.t c.in-Select.k c.in-Select.is height told in
    sym (ap is_some c.in-Ok-None.field-0-is) ∙ c.in-Ok-None.ensures.found (height - 1) (omega (arith, above, below))
    (subst (λ t. is_address_at_once (height - 1) scope t ≡ true) (sym c.get.ensures) (table_at_once scope c.args.e.now c.in-Select.t c.in-Select.k c.in-Select.is height told))

pub returns-in-Err-clause-tells : goal.returns-in-Err-clause-tells
returns-in-Err-clause-tells t c = λ units lines ended.
    let s = state_of c.args.run.now c.args.targets.now lines ended in
    let here = at (scope_of c.args.scope.now) c.args.place.line in
    let deep = meaning units c.args.place.levels in
    with_stop deep here c.args.high c.args.e.now s c.if-high-eq0.false c.args.place.line c.in-Err.halt c.in-Select.t c.in-Select.k c.in-Select.is
    (subst (λ t. Halts c.args.place.line c.in-Err.halt s (address_within deep here (c.args.high - 1) t s)) c.get.ensures (c.in-Err.ensures.tells units lines ended))
