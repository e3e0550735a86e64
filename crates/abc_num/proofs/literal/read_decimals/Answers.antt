use Rattle.std.proofs.Common.{◌≡◌, ◌+◌, ◌-◌, ◌*◌, ◌/◌, ◌^◌, ℕ, List, get_or, drop, length, sym, subst, arith}
use Rattle.std.specs.Int.{IsGcd}
use Rattle.abc_num.specs.Literal.{SpellsFraction, digits_value}
use Rattle.abc_num.proofs.Tails.{tail_divisor, tail_lowest, tail_equal, tail_more, tail_none, drop_before}
use Rattle.abc_num.proofs.literal.read_decimals.Goals as goal

pub nonzero_div-top : goal.nonzero_div-top
nonzero_div-top c =
    let at = c.loop-left.left in
    let digit = c.requires (at - 1) 0 (omega (arith, c.loop-left.invariant.0)) in
    let common = subst (λ d. IsGcd (d * c.loop-left.bottom + c.loop-left.top) (10 * c.loop-left.bottom) c.gcd-divisor.result) c.from.ensures c.gcd-divisor.ensures in
    tail_divisor _ _ _ _ _ c.loop-left.invariant.1 digit common

pub nonzero_div-bottom : goal.nonzero_div-bottom
nonzero_div-bottom c =
    let at = c.loop-left.left in
    let digit = c.requires (at - 1) 0 (omega (arith, c.loop-left.invariant.0)) in
    let common = subst (λ d. IsGcd (d * c.loop-left.bottom + c.loop-left.top) (10 * c.loop-left.bottom) c.gcd-divisor.result) c.from.ensures c.gcd-divisor.ensures in
    tail_divisor _ _ _ _ _ c.loop-left.invariant.1 digit common

pub loop-left-preserved : goal.loop-left-preserved
loop-left-preserved c =
    let at = c.loop-left.left in
    let b = c.args.b.now in
    let digit = c.requires (at - 1) 0 (omega (arith, c.loop-left.invariant.0)) in
    let common = subst (λ d. IsGcd (d * c.loop-left.bottom + c.loop-left.top) (10 * c.loop-left.bottom) c.gcd-divisor.result) c.from.ensures c.gcd-divisor.ensures in
    let more = tail_more _ _ _ _ _ c.loop-left.invariant.1 digit common c.if-bottom.false in
    let P : List ℕ → Type 0 = λ z. SpellsFraction z (((get_or b (at - 1) 0 - 48) * c.loop-left.bottom + c.loop-left.top) / c.gcd-divisor.result) (10 * c.loop-left.bottom / c.gcd-divisor.result) in
    let tail = subst P (sym (drop_before b at c.loop-left-test.true c.loop-left.invariant.0)) more in
    (omega (arith, c.loop-left.invariant.0), subst (λ d. SpellsFraction (drop (at - 1) b) ((d * c.loop-left.bottom + c.loop-left.top) / c.gcd-divisor.result) (10 * c.loop-left.bottom / c.gcd-divisor.result)) (sym c.from.ensures) tail)

pub returns-then-bottom-clause-none : goal.returns-then-bottom-clause-none
returns-then-bottom-clause-none c whole =
    let at = c.loop-left.left in
    let b = c.args.b.now in
    let x = ((get_or b (at - 1) 0 - 48) * c.loop-left.bottom + c.loop-left.top) / c.gcd-divisor.result in
    let y = 10 * c.loop-left.bottom / c.gcd-divisor.result in
    let digit = c.requires (at - 1) 0 (omega (arith, c.loop-left.invariant.0)) in
    let common = subst (λ d. IsGcd (d * c.loop-left.bottom + c.loop-left.top) (10 * c.loop-left.bottom) c.gcd-divisor.result) c.from.ensures c.gcd-divisor.ensures in
    let lowest = tail_lowest _ _ _ _ _ c.loop-left.invariant.1 digit common in
    let P : List ℕ → Type 0 = λ z. x * 10 ^ length z ≡ digits_value z * y in
    let equal = subst P (sym (drop_before b at c.loop-left-test.true c.loop-left.invariant.0)) (tail_equal _ _ _ _ _ c.loop-left.invariant.1 digit common) in
    tail_none b (at - 1) x y whole lowest equal c.if-bottom.true
