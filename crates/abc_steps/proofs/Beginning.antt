-- How much lighter the work is that some work begins.
use Rattle.std.proofs.Common.{◌≡◌, ◌<◌, ◌≤◌, ◌+◌, ℕ, List, Result, Ok, Err, IfOk, sym, subst, arith}
use Rattle.abc_tree.specs.declared.commands.Unit.{Unit as Routine}
use Rattle.abc_pending.specs.declared.pending.Next.{Next}
use Rattle.abc_pending.specs.Views.{next_weight}
use Rattle.abc_pending.specs.Weights.{Falls, most_growth}
use Rattle.abc_pending.proofs.Falling.{unspent, spent_four, spent_most}

module _ (us : List Routine) (l k b : ℕ) where
  -- no step was spent
  pub unspent_at_once : (n w : ℕ) → b ≡ n → l ≡ k → w < n → Falls us l w k b
  unspent_at_once n w e i h = unspent us l w b k i (omega arith)

  module _ {E : Type 0} (r : Result Next E) where
    pub unspent_if : (n : ℕ) → b ≡ n → l ≡ k → IfOk r (λ next. next_weight next < n) → IfOk r (λ next. Falls us l (next_weight next) k b)
    unspent_if n e i h = subst (λ m. IfOk r (λ next. Falls us l (next_weight next) k m)) (sym e) (lighter n r i h)
      where
        lighter : (n : ℕ) (r : Result Next E) → l ≡ k → IfOk r (λ next. next_weight next < n) → IfOk r (λ next. Falls us l (next_weight next) k n)
        lighter n (Ok next) i h = unspent us l (next_weight next) n k i h
        lighter n (Err x) i h = tt

    -- what the work begins with falls already
    pub falls_so : (n : ℕ) → b ≡ n → IfOk r (λ next. Falls us l (next_weight next) k n) → IfOk r (λ next. Falls us l (next_weight next) k b)
    falls_so n e h = subst (λ m. IfOk r (λ next. Falls us l (next_weight next) k m)) (sym e) h

-- a step was spent for a turn of WHILE
turn_falls : {E : Type 0} (us : List Routine) (l k t s : ℕ) (r : Result Next E) → IfOk r (λ next. (l + 1 ≡ k) × (next_weight next ≤ 5 + t + s + s + t)) → IfOk r (λ next. Falls us l (next_weight next) k (2 + t + s))
turn_falls us l k t s (Ok next) h =
    let w = h.1 in
    spent_four us l (next_weight next) (2 + t + s) k h.0 (omega arith)
turn_falls us l k t s (Err x) h = tt

pub spent_turn : {E : Type 0} (us : List Routine) (l k b t s : ℕ) (r : Result Next E) → b ≡ 2 + t + s
    → IfOk r (λ next. (l + 1 ≡ k) × (next_weight next ≤ 5 + t + s + s + t)) → IfOk r (λ next. Falls us l (next_weight next) k b)
spent_turn us l k b t s r e h = falls_so us l k b r (2 + t + s) e (turn_falls us l k t s r h)

-- a step was spent for a call
call_falls : {E : Type 0} (us : List Routine) (l k : ℕ) (r : Result Next E) → IfOk r (λ next. (l + 1 ≡ k) × (next_weight next < most_growth us)) → IfOk r (λ next. Falls us l (next_weight next) k 1)
call_falls us l k (Ok next) h = spent_most us l (next_weight next) k h.0 h.1
call_falls us l k (Err x) h = tt

pub spent_call : {E : Type 0} (us : List Routine) (l k b : ℕ) (r : Result Next E) → b ≡ 1
    → IfOk r (λ next. (l + 1 ≡ k) × (next_weight next < most_growth us)) → IfOk r (λ next. Falls us l (next_weight next) k b)
spent_call us l k b r e h = falls_so us l k b r 1 e (call_falls us l k r h)
