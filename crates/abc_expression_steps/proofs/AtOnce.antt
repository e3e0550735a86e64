-- A value that is found at once takes the place of the work that would have given it, and a stop is one, whatever is asked for.
use Rattle.std.proofs.Common.{◌≡◌, ℕ, List, Result, ap, sym, subst}
use Rattle.abc_tree.specs.declared.commands.Unit.{Unit as Routine}
use Rattle.abc_tree.specs.declared.formulas.Expr.TheVariants as e
use Rattle.abc_value.specs.Tree.{Tree}
use Rattle.abc_meaning.specs.State.{State, Got, gives, Run, after}
use Rattle.abc_meaning.specs.Here.{Scope}
use Rattle.abc_state.specs.Agrees.{Halts}
use Rattle.abc_state.specs.declared.halt.Halt.{Halt}
use Rattle.abc_state.specs.declared.halt.Halt.TheVariants.{Fault, Wrong}
use Rattle.abc_pending.specs.declared.pending.Next.{Next}
use Rattle.abc_pending.specs.Leads.{as_val}
use Rattle.abc_pending.specs.Views.{Begins}

-- what goes on with the value
module _ (units : List Routine) (scope : Scope) (line : ℕ) (r : Result Next Halt) (s : State) (g : Got Tree) (v : Tree) where
  pub val_goes : (go : Tree → Run Tree) → g ≡ gives v s → Begins units scope line r s (as_val (go v s)) → Begins units scope line r s (as_val (after g go))
  val_goes go e b = subst (λ x. Begins units scope line r s (as_val (after x go))) (sym e) b

-- a stop is one, whatever is asked for and whatever would follow
pub val_halts : (line : ℕ) (h : Halt) (s : State) (g : Got Tree) → Halts line h s g → Halts line h s (as_val g)
val_halts line (Fault f) s g k = λ n. ap as_val (k n)
val_halts line Wrong s g k = ap as_val k
