-- A value that is found at once takes the place of the work that would have given it.
use Rattle.std.proofs.Common.{◌≡◌, ◌<◌, ◌≤◌, ◌+◌, ◌-◌, ◌∷◌, ℕ, List, [], Result, IfOk, length, take, drop, slice_index_or, Bool, ap, sym, subst, arith}
use Rattle.std.proofs.lemmas.List.{take_all}
use Rattle.abc_tree.specs.declared.formulas.Link.{Link}
use Rattle.abc_tree.specs.declared.commands.Unit.{Unit as Routine}
use Rattle.abc_value.specs.Tree.{Tree}
use Rattle.abc_meaning.specs.State.{State, Got, gives, Run, after}
use Rattle.abc_meaning.specs.Here.{Scope}
use Rattle.abc_state.specs.declared.halt.Halt.{Halt}
use Rattle.abc_pending.specs.declared.pending.Next.{Next}
use Rattle.abc_pending.specs.Leads.{as_truth}
use Rattle.abc_pending.specs.Views.{Begins, next_weight}
use Rattle.abc_pending.specs.Weights.{expr_size, links_size}
use Rattle.abc_pending.proofs.Falling.{lighter}

-- what goes on with the value
module _ (units : List Routine) (scope : Scope) (line : ℕ) (r : Result Next Halt) (s : State) (g : Got Tree) (v : Tree) where
  pub truth_goes : (go : Tree → Run Bool) → g ≡ gives v s → Begins units scope line r s (as_truth (go v s)) → Begins units scope line r s (as_truth (after g go))
  truth_goes go e b = subst (λ x. Begins units scope line r s (as_truth (after x go))) (sym e) b

-- the rest of a chain is lighter by its first relation
pub chain_lighter : {E : Type 0} (r : Result Next E) (all : List Link) (link : Link) → 1 ≤ length all → link ≡ slice_index_or all 0 link
    → IfOk r (λ next. next_weight next < 4 + expr_size link.right + links_size (take (length all - 1) (drop 1 all))) → IfOk r (λ next. next_weight next < 2 + links_size all)
chain_lighter r [] link some is h = absurd (omega arith)
chain_lighter r (y ∷ ys) link some is h =
    let first : expr_size link.right ≡ expr_size y.right = ap (λ l. expr_size l.right) is in
    let others : links_size (take (length (y ∷ ys) - 1) ys) ≡ links_size ys = ap links_size (take_all (length (y ∷ ys) - 1) ys (omega arith)) in
    lighter r (4 + expr_size link.right + links_size (take (length (y ∷ ys) - 1) ys)) (2 + links_size (y ∷ ys)) (omega arith) h
