-- How a chain of relations goes on with the value for which it waited.
use Rattle.std.proofs.Common.{◌≡◌, ◌≤◌, ◌∷◌, ◌-◌, List, [], length, take, drop, slice_index_or, refl, sym, ap, ◌∙◌, arith, false, if◌then◌else◌}
use Rattle.std.proofs.lemmas.List.{take_all}
use Rattle.abc_tree.specs.declared.operations.Op.{Op}
use Rattle.abc_tree.specs.declared.formulas.Link.{Link}
use Rattle.abc_tree.specs.declared.commands.Unit.{Unit as Routine}
use Rattle.abc_value.specs.Tree.{Tree}
use Rattle.abc_meaning.specs.State.{State, Got, gives, stops, after}
use Rattle.abc_meaning.specs.Here.{Scope}
use Rattle.abc_meaning.specs.Holds.{compared, chain}
use Rattle.abc_meaning.specs.Meaning.{meaning}
use Rattle.abc_state.specs.Views.{at}
use Rattle.abc_pending.specs.declared.place.Place.{Place}
use Rattle.abc_pending.specs.Pending.{chain_next, in_test}
use Rattle.abc_pending.specs.Leads.{as_val, as_truth, resume}

module _ (units : List Routine) (scope : Scope) (p : Place) where
  -- a chain
  chain_then : (op : Op) (x : Tree) (links : List Link) (g : Got Tree)
      → as_truth (after g (λ y s. after (compared (at scope p.line) op x y s) (λ b. if b then chain (meaning units p.levels) (at scope p.line) y links else gives false))) ≡ after (as_val g) (resume units scope (in_test p (chain_next x op links)))
  chain_then op x links (gives y t) = refl
  chain_then op x links (stops line stop t) = refl

  pub chain_later : (x : Tree) (all : List Link) (link : Link) (s : State) → 1 ≤ length all → link ≡ slice_index_or all 0 link
      → as_truth (chain (meaning units p.levels) (at scope p.line) x all s) ≡ after (as_val ((meaning units p.levels).value (at scope p.line) link.right s)) (resume units scope (in_test p (chain_next x link.op (take (length all - 1) (drop 1 all)))))
  chain_later x [] link s h k = absurd (omega arith)
  chain_later x (y ∷ ys) link s h k =
      chain_then y.op x ys ((meaning units p.levels).value (at scope p.line) y.right s)
      ∙ ap (λ l. after (as_val ((meaning units p.levels).value (at scope p.line) l.right s)) (resume units scope (in_test p (chain_next x l.op ys)))) (sym k)
      ∙ ap (λ zs. after (as_val ((meaning units p.levels).value (at scope p.line) link.right s)) (resume units scope (in_test p (chain_next x link.op zs)))) (sym (take_all (length (y ∷ ys) - 1) ys (omega arith)))
