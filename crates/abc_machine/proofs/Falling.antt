-- The number falls, whatever waits below.
use Rattle.std.proofs.Common.{◌≡◌, ◌<◌, ℕ, zero, suc, ◌+◌, ◌*◌, ◌^◌, List, inl, inr, Result, Ok, Err, refl, sym, ap, arith}
use Rattle.std.proofs.Math.Nat.{mul-lt-mul_of_pos_right, add-mul, mul-add, mul_comm, mul_assoc, pow-zero, pow-suc, pow-succ', zero-mul}
use Rattle.std.proofs.Math.Numerals.{add-one}
use Rattle.abc_tree.specs.declared.commands.Unit.{Unit as Routine}
use Rattle.abc_pending.specs.Pending.{Frame}
use Rattle.abc_pending.specs.Weights.{Falls, number_of, most_growth, units_size}
use Rattle.abc_machine.specs.Moves.{Weighs, Lessens}
use Rattle.abc_machine.specs.declared.moves.Moved.{Moved}
use Rattle.abc_machine.specs.declared.moves.Moved.TheVariants.{Goes, Ends}
use Rattle.abc_machine.specs.declared.outcome.RunStop.{RunStop}

-- what was paid for is at most so many times as heavy
four_times : (u a b : ℕ) → a < b → a < (4 + u) * b
four_times u a b h =
    let e = add-mul 4 u b in
    omega arith

-- a step was spent and the work is lighter
pub spent_falls : (us : List Routine) (a l b k : ℕ) → l + 1 ≡ k → a < b → Falls us l a k b
spent_falls us a l b k e h = inr (e, four_times _ a b h)

power_positive : (u l : ℕ) → 0 < (4 + u) ^ l
power_positive u zero = omega (arith, pow-zero (4 + u))
power_positive u (suc l) =
    let e = pow-suc (4 + u) l in
    let h = mul-lt-mul_of_pos_right {m = 0} {n = (4 + u) ^ l} {k = 4 + u} (power_positive u l) (omega arith) in
    omega (arith, zero-mul (4 + u))

-- what waits below takes part in the growth
below_grows : (u w a b : ℕ) → a < (4 + u) * b → a + w < (4 + u) * (b + w)
below_grows u w a b h =
    let d = mul-add (4 + u) b w in
    let e = add-mul 4 u w in
    omega arith

power_next : (m l k : ℕ) → l + 1 ≡ k → m ^ k ≡ m * m ^ l
power_next m l k e = rw (sym e, add-one l) (pow-succ' m l)

pub number_falls : (us : List Routine) (w a l b k : ℕ) → Falls us l a k b → number_of us (a + w) l < number_of us (b + w) k
unfolding number_of
number_falls us w a l b k (inl h) =
    rw (sym h.0) (mul-lt-mul_of_pos_right (omega (arith, h.1)) (power_positive _ l))
number_falls us w a l b k (inr h) =
    let p = mul-lt-mul_of_pos_right (below_grows _ w a b h.1) (power_positive (units_size us) l) in
    rw (power_next (most_growth us) l k h.0, sym (mul_assoc (b + w) (most_growth us) (most_growth us ^ l)), mul_comm (b + w) (most_growth us)) p

-- the number after a move
pub lessens : (us : List Routine) (r : Result Moved RunStop) (fs : List Frame) (w a l b k : ℕ) → Weighs r fs (a + w) → Falls us l a k b → Lessens us r fs l (b + w) k
lessens us (Ok (Goes d)) fs w a l b k h f =
    let less = number_falls us w a l b k f in
    rw h less
lessens us (Ok (Ends o)) fs w a l b k h f = tt
lessens us (Err e) fs w a l b k h f = tt

-- the number after a reply that is given at once
pub lessens_on : (us : List Routine) (r : Result Moved RunStop) (fs : List Frame) (w a l l2 b k : ℕ) → a ≡ 0 → Lessens us r fs l w l2 → Falls us l2 a k b → Lessens us r fs l (b + w) k
lessens_on us (Ok (Goes d)) fs w a l l2 b k e h f =
    let less = number_falls us w a l2 b k f in
    let light : a + w ≡ w = omega arith in
    let same : number_of us (a + w) l2 ≡ number_of us w l2 = ap (λ n. number_of us n l2) light in
    omega arith
lessens_on us (Ok (Ends o)) fs w a l l2 b k e h f = tt
lessens_on us (Err x) fs w a l l2 b k e h f = tt
