-- A step that was spent lets the pending work grow.
use Rattle.std.proofs.Common.{◌≡◌, ◌<◌, ◌⊎◌, ◌+◌, ◌*◌, ℕ, List, Result, Ok, Err, IfOk, inr, arith}
use Rattle.std.proofs.Math.Nat.{add-mul}
use Rattle.abc_tree.specs.declared.commands.Unit.{Unit as Routine}
use Rattle.abc_state.specs.declared.halt.Halt.{Halt}
use Rattle.abc_pending.specs.declared.pending.Next.{Next}
use Rattle.abc_pending.specs.Views.{next_weight}
use Rattle.abc_pending.specs.Weights.{most_growth, units_size}

-- what is begun is not four times as heavy
pub grows_less : (us : List Routine) (r : Result Next Halt) (l k n b : ℕ) → n < 4 * b → IfOk r (λ next. (l + 1 ≡ k) × (next_weight next ≡ n))
    → IfOk r (λ next. ((l ≡ k) × (next_weight next < b)) ⊎ ((l + 1 ≡ k) × (next_weight next < most_growth us * b)))
grows_less us (Ok next) l k n b h p =
    let e = add-mul 4 (units_size us) b in
    let w = p.1 in
    inr (p.0, omega arith)
grows_less us (Err h) l k n b less p = tt
