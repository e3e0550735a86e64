-- How a command goes on behind its last act, and what waits goes on with what is found at once.
use Rattle.std.proofs.Common.{◌≡◌, ℕ, Bool, List, Result, refl, ap, sym, subst}
use Rattle.abc_tree.specs.declared.commands.Unit.{Unit as Routine}
use Rattle.abc_value.specs.Tree.{Tree}
use Rattle.abc_meaning.specs.State.{State, Got, Run, gives, stops, after, goes_on}
use Rattle.abc_meaning.specs.Here.{Scope}
use Rattle.abc_state.specs.Agrees.{Halts}
use Rattle.abc_state.specs.declared.halt.Halt.{Halt}
use Rattle.abc_state.specs.declared.halt.Halt.TheVariants.{Fault, Wrong}
use Rattle.abc_pending.specs.declared.pending.Next.{Next}
use Rattle.abc_pending.specs.Pending.{Answer, val, truth}
use Rattle.abc_pending.specs.Leads.{as_flow, as_truth, as_val, done}
use Rattle.abc_pending.specs.Views.{Begins}

-- a command goes on behind its last act
pub goes_on_after : (g : Got (Unit {0})) → as_flow (after g (λ _. gives goes_on)) ≡ done g
goes_on_after (gives u t) = refl
goes_on_after (stops line stop t) = refl

-- a stop is one, whatever waits for a value or a truth value
pub wait_stops : (line : ℕ) (h : Halt) (s : State) (g : Got Tree) (go : Answer → Run Answer) → Halts line h s g → Halts line h s (after (as_val g) go)
wait_stops line (Fault f) s g go k = λ n. ap (λ x. after (as_val x) go) (k n)
wait_stops line Wrong s g go k = ap (λ x. after (as_val x) go) k

pub test_stops : (line : ℕ) (h : Halt) (s : State) (g : Got Bool) (go : Answer → Run Answer) → Halts line h s g → Halts line h s (after (as_truth g) go)
test_stops line (Fault f) s g go k = λ n. ap (λ x. after (as_truth x) go) (k n)
test_stops line Wrong s g go k = ap (λ x. after (as_truth x) go) k

-- and what waits goes on with what is found
module _ (units : List Routine) (scope : Scope) (line : ℕ) (r : Result Next Halt) (s t : State) (go : Answer → Run Answer) where
  pub wait_goes : (g : Got Tree) (v : Tree) → g ≡ gives v s → Begins units scope line r t (go (val v) s) → Begins units scope line r t (after (as_val g) go)
  wait_goes g v e b = subst (λ x. Begins units scope line r t (after (as_val x) go)) (sym e) b

  pub test_goes : (g : Got Bool) (b : Bool) → g ≡ gives b s → Begins units scope line r t (go (truth b) s) → Begins units scope line r t (after (as_truth g) go)
  test_goes g b e so = subst (λ x. Begins units scope line r t (after (as_truth x) go)) (sym e) so
