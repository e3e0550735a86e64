use Rattle.std.proofs.Common.{◌≡◌, ◌-◌, ◌≤◌, length, refl, sym, ap, subst, ◌∙◌, arith}
use Rattle.std.specs.Option.{option_map}
use Rattle.abc_record.specs.Place.{IsWrongAt}
use Rattle.abc_record.proofs.Leading.{is_spelling, is_only, too_short, wrong_short, wrong_behind, none_short, rest_within, same_place, is_nil, not_nil}
use Rattle.abc_record.proofs.reading.read_changes.Goals.{then-len-count-via-then-len-count, then-len-count-via-else-len-count+then-not-is_empty}
use Rattle.abc_record.proofs.reading.read_changes.Goals as goal

pub returns-in_default-clause-read : goal.returns-in_default-clause-read
returns-in_default-clause-read c = λ cs s. absurd (too_short c.args.b.now cs (sym c.four_of.ensures ∙ ap (option_map (λ x. (x.0, x.1.now))) c.in_default.is) s)

pub returns-in_default-clause-place : goal.returns-in_default-clause-place
returns-in_default-clause-place c = λ at e.
    subst (IsWrongAt c.args.b.now) (same_place 0 at e) (wrong_short c.args.b.now (none_short c.args.b.now (sym c.four_of.ensures ∙ ap (option_map (λ x. (x.0, x.1.now))) c.in_default.is)))

pub overflow_sub-result : goal.overflow_sub-result
overflow_sub-result c =
    let four = sym c.four_of.ensures ∙ ap (option_map (λ x. (x.0, x.1.now))) c.in-Some.is in
    rest_within c.args.b.now c.in-Some.bytes.now c.in-Some.count c.in_ok-changes.changes.items c.in_ok-changes.rest.now (λ i. omega (arith, c.type_inv.b i)) four c.in_ok-changes.ensures

pub returns-then-len-count-clause-read : goal.returns-then-len-count-clause-read
returns-then-len-count-clause-read c = λ cs s.
    (let four = sym c.four_of.ensures ∙ ap (option_map (λ x. (x.0, x.1.now))) c.in-Some.is in
    let o = is_only c.args.b.now c.in-Some.bytes.now c.in-Some.count c.in_ok-changes.changes.items c.in_ok-changes.rest.now four c.in_ok-changes.ensures cs s in
    let size : length c.in_ok-changes.changes.items ≡ length cs = ap length o.1 in
    elim c.then-len-count.branch [
      | then-len-count-via-then-len-count w ↦ absurd (omega (arith, w.if-len-count.true, size, o.0))
      | then-len-count-via-else-len-count+then-not-is_empty w ↦ absurd (not_nil c.in_ok-changes.rest.now w.is_empty.result w.is_empty.ensures w.if-not-is_empty.true o.2)
    ])

pub returns-then-len-count-clause-place : goal.returns-then-len-count-clause-place
returns-then-len-count-clause-place c = λ at e.
    (let four = sym c.four_of.ensures ∙ ap (option_map (λ x. (x.0, x.1.now))) c.in-Some.is in
    let b = c.args.b.now in
    let here = length b - length c.in_ok-changes.rest.now in
    subst (IsWrongAt b) (same_place here at e) (wrong_behind b c.in-Some.bytes.now c.in-Some.count c.in_ok-changes.changes.items c.in_ok-changes.rest.now here (λ i. omega (arith, c.type_inv.b i)) four c.in_ok-changes.ensures refl))

pub returns-clause-spelled : goal.returns-clause-spelled
returns-clause-spelled c =
    let four = sym c.four_of.ensures ∙ ap (option_map (λ x. (x.0, x.1.now))) c.in-Some.is in
    let all : c.in-Some.count ≤ length c.in_ok-changes.changes.items = omega arith in
    let none = is_nil c.in_ok-changes.rest.now c.is_empty.result c.is_empty.ensures c.if-not-is_empty.false in
    is_spelling c.args.b.now c.in-Some.bytes.now c.in-Some.count c.in_ok-changes.changes.items c.in_ok-changes.rest.now (λ i. omega (arith, c.type_inv.b i)) four c.in_ok-changes.ensures all none

pub returns-clause-read : goal.returns-clause-read
returns-clause-read c = λ cs s.
    (let four = sym c.four_of.ensures ∙ ap (option_map (λ x. (x.0, x.1.now))) c.in-Some.is in
    (is_only c.args.b.now c.in-Some.bytes.now c.in-Some.count c.in_ok-changes.changes.items c.in_ok-changes.rest.now four c.in_ok-changes.ensures cs s).1)
