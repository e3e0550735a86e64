use Rattle.std.proofs.Common.{◌≡◌, ◌^◌, true, false, nat_eq, subst, sym, arith, inl, inr}
use Rattle.std.specs.Int.{IsGcd, ◌∣◌}
use Rattle.std.proofs.Math.Nat.{one-dvd}
use Rattle.std.proofs.lemmas.Bool.{cases_eq}
use Rattle.std.proofs.lemmas.Bool.Decides.{nat_tests}
use Rattle.abc_num.proofs.Divisors.{step_left}
use Rattle.abc_num.proofs.LowestTerms.{divisor_pos}
use Rattle.abc_num.proofs.Powers.{power_step, no_power_of_ten, divides_one}
use Rattle.abc_num.proofs.rounding.divides_power.Goals as goal
use Rattle.abc_num.proofs.rounding.divides_power.Goals.{then-loop-left-test+else-turns-gt0, else-loop-left-test}

pub returns-then-common-eq1-clause-divides_not : goal.returns-then-common-eq1-clause-divides_not
returns-then-common-eq1-clause-divides_not c p =
    let apart : IsGcd c.loop-left.left 10 1 = subst (λ g. IsGcd c.loop-left.left 10 g) c.if-common-eq1.true c.gcd-common.ensures in
    no_power_of_ten c.loop-left.left c.loop-left.turns apart c.loop-left-test.true (c.loop-left.invariant.1.0 p)

pub nonzero_div-left : goal.nonzero_div-left
nonzero_div-left c = divisor_pos c.loop-left.left 10 c.gcd-common.result (omega arith) c.gcd-common.ensures

pub loop-left-preserved : goal.loop-left-preserved
loop-left-preserved c =
    let i = c.loop-left.invariant in
    let s = power_step c.loop-left.left c.gcd-common.result c.loop-left.turns i.0 c.if-turns-gt0.true c.gcd-common.ensures in
    (step_left c.loop-left.left c.gcd-common.result c.loop-left.turns i.0 c.gcd-common.ensures, (λ p. s.0 (i.1.0 p), λ p. i.1.1 (s.1 p)))

pub returns-clause-divides : goal.returns-clause-divides
returns-clause-divides c = elim (cases_eq c.loop-left.left 1) [
  | inl e ↦ (let t : nat_eq c.loop-left.left 1 ≡ true = grind (arith, nat_tests) in rw t (c.loop-left.invariant.1.1 (subst (λ x. x ∣ (10 ^ c.loop-left.turns)) (sym e) (one-dvd _))))
  | inr n ↦ (let t : nat_eq c.loop-left.left 1 ≡ false = grind (arith, nat_tests) in rw t tt)
]

pub returns-clause-divides_not : goal.returns-clause-divides_not
returns-clause-divides_not c = elim (cases_eq c.loop-left.left 1) [
  | inl e ↦ (let t : nat_eq c.loop-left.left 1 ≡ true = grind (arith, nat_tests) in rw t tt)
  | inr n ↦ (let t : nat_eq c.loop-left.left 1 ≡ false = grind (arith, nat_tests) in rw t (λ p. elim c.loop-left-test.branch [
    | then-loop-left-test+else-turns-gt0 w ↦
        let none : c.loop-left.turns ≡ 0 = omega (arith, w.if-turns-gt0.false) in
        n (divides_one c.loop-left.left (subst (λ t. c.loop-left.left ∣ (10 ^ t)) none (c.loop-left.invariant.1.0 p)))
    | else-loop-left-test w ↦ n (omega (arith, w.loop-left-test.false))
  ]))
]
