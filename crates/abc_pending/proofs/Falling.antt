-- How the pending work falls.
use Rattle.std.proofs.Common.{◌≡◌, ◌<◌, ◌≤◌, ℕ, ◌+◌, ◌*◌, List, Result, Ok, Err, IfOk, inl, inr, arith}
use Rattle.std.proofs.Math.Nat.{add-mul, mul-one}
use Rattle.abc_tree.specs.declared.commands.Unit.{Unit as Routine}
use Rattle.abc_pending.specs.Weights.{Falls, most_growth, units_size}
use Rattle.abc_pending.specs.declared.pending.Next.{Next}
use Rattle.abc_pending.specs.Views.{next_weight}

-- no step was spent
pub unspent : (us : List Routine) (l a b k : ℕ) → l ≡ k → a < b → Falls us l a k b
unspent us l a b k e h = inl (e, h)

-- a step was spent, and the work is not four times as heavy
pub four_times : (u a b : ℕ) → a < 4 * b → a < (4 + u) * b
four_times u a b h =
    let e = add-mul 4 u b in
    omega arith

pub spent_four : (us : List Routine) (l a b k : ℕ) → l + 1 ≡ k → a < 4 * b → Falls us l a k b
spent_four us l a b k e h = inr (e, four_times (units_size us) a b h)

pub spent_least : (us : List Routine) (l a b k : ℕ) → l + 1 ≡ k → a < b → Falls us l a k b
spent_least us l a b k e h = inr (e, four_times (units_size us) a b (omega arith))

-- or it is no heavier than all units
pub spent_most : (us : List Routine) (l a k : ℕ) → l + 1 ≡ k → a < most_growth us → Falls us l a k 1
spent_most us l a k e h =
    let m = mul-one (most_growth us) in
    inr (e, omega arith)

-- what is begun is lighter than so much
pub lighter : {E : Type 0} (r : Result Next E) (m n : ℕ) → m ≤ n → IfOk r (λ next. next_weight next < m) → IfOk r (λ next. next_weight next < n)
lighter (Ok next) m n e h = omega arith
lighter (Err x) m n e h = tt
