-- A change at an address that is found at once.
use Rattle.std.proofs.Common.{◌≡◌, ℕ, List, Result, ap, sym, subst}
use Rattle.abc_tree.specs.declared.commands.Unit.{Unit as Routine}
use Rattle.abc_value.specs.Tree.{Tree}
use Rattle.abc_meaning.specs.State.{State, Address, Got, gives, after}
use Rattle.abc_meaning.specs.Here.{Here, Scope as Names}
use Rattle.abc_state.specs.Agrees.{Halts}
use Rattle.abc_state.specs.declared.halt.Halt.{Halt}
use Rattle.abc_state.specs.declared.halt.Halt.TheVariants.{Fault, Wrong}
use Rattle.abc_pending.specs.declared.place.Changes.{Changes}
use Rattle.abc_pending.specs.declared.pending.Next.{Next}
use Rattle.abc_pending.specs.Leads.{change_by, done}
use Rattle.abc_pending.specs.Views.{Begins}

-- what goes on at the address
pub address_goes : (units : List Routine) (here : Here) (scope : Names) (line : ℕ) (r : Result Next Halt) (s t : State) (what : Changes) (v : Tree) (g : Got Address) (a : Address)
    → g ≡ gives a s → Begins units scope line r t (done (change_by here what v a s)) → Begins units scope line r t (done (after g (change_by here what v)))
address_goes units here scope line r s t what v g a is begins = subst (λ g. Begins units scope line r t (done (after g (change_by here what v)))) (sym is) begins

-- a stop is one, whatever is changed
pub address_stops : (here : Here) (line : ℕ) (h : Halt) (s : State) (what : Changes) (v : Tree) (g : Got Address) → Halts line h s g → Halts line h s (done (after g (change_by here what v)))
address_stops here line (Fault f) s what v g k = λ n. ap (λ g. done (after g (change_by here what v))) (k n)
address_stops here line Wrong s what v g k = ap (λ g. done (after g (change_by here what v))) k
