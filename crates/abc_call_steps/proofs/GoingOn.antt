-- How actuals begin, and go on with what they waited for.
use Rattle.std.proofs.Common.{◌≡◌, ◌≢◌, ◌-◌, List, [], Option, Result, subst, refl, sym, ap, ◌∙◌}
use Rattle.abc_tree.specs.declared.formulas.NameId.{NameId}
use Rattle.abc_tree.specs.declared.formulas.Expr.{Expr}
use Rattle.abc_tree.specs.declared.formulas.Expr.TheViews.{out-Expr, out-roll-Expr}
use Rattle.abc_tree.specs.declared.formulas.Expr.TheVariants as e
use Rattle.abc_tree.specs.declared.formulas.Expr.TheOpen.{Expr-F}
use Rattle.abc_tree.specs.declared.formulas.Fill.{Fill}
use Rattle.abc_tree.specs.declared.formulas.Piece.{Piece}
use Rattle.abc_tree.specs.declared.formulas.Pair.{Pair}
use Rattle.abc_tree.specs.declared.commands.Unit.{Unit as Routine}
use Rattle.abc_value.specs.Tree.{Tree}
use Rattle.abc_value.specs.declared.faults.RunFault.TheVariants.{NoValue}
use Rattle.abc_meaning.specs.State.{key, Address, State, Got, gives, stops, after}
use Rattle.abc_meaning.specs.Here.{Scope, refinement_at}
use Rattle.abc_meaning.specs.Value.{there, selected}
use Rattle.abc_meaning.specs.Addresses.{stepped}
use Rattle.abc_meaning.specs.Deeper.{Actual}
use Rattle.abc_meaning.specs.Actuals.{gather, located, name_actual, actual_with}
use Rattle.abc_meaning.specs.Meaning.{meaning}
use Rattle.abc_state.specs.Views.{at}
use Rattle.abc_state.specs.declared.halt.Halt.{Halt}
use Rattle.abc_pending.specs.declared.place.Place.{Place}
use Rattle.abc_pending.specs.declared.pending.Next.{Next}
use Rattle.abc_pending.specs.Pending.{actual_table, for_actual}
use Rattle.abc_pending.specs.Leads.{as_actual, composed_actual, resume}
use Rattle.abc_pending.specs.Views.{Begins}
use Rattle.abc_call_steps.proofs.Levels.{meaning_actual}

module _ (units : List Routine) (scope : Scope) (p : Place) where
  -- a part of a table as an actual
  table_then : (k : Expr) (g : Got Actual)
      → as_actual (after g (λ a s. after (there (at scope p.line) NoValue a.value s) (λ t s. after ((meaning units p.levels).value (at scope p.line) k s) (λ w s. after (selected (at scope p.line) t w s) (located (stepped (key w) a.address)))))) ≡ after (as_actual g) (resume units scope (for_actual p (actual_table k)))
  table_then k (gives a t) = refl
  table_then k (stops line stop t) = refl

module _ (units : List Routine) (scope : Scope) (p : Place) where
  -- an actual, from what it is a level deeper
  deeper : (a : Expr) (x : Expr-F Expr Fill Piece Pair) (s : State) → p.levels ≢ 0 → out-Expr a ≡ x
      → as_actual ((meaning units p.levels).actual (at scope p.line) a s) ≡ as_actual (actual_with units (meaning units (p.levels - 1)) (at scope p.line) x s)
  deeper a x s k h = ap as_actual (meaning_actual units p.levels (at scope p.line) a s k ∙ ap (λ y. actual_with units (meaning units (p.levels - 1)) (at scope p.line) y s) h)

  pub name_leads : (r : Result Next Halt) (a : Expr) (i : NameId) (s : State) → p.levels ≢ 0 → a ≡ e.Name i
      → Begins units scope p.line r s (as_actual (name_actual (meaning units (p.levels - 1)) (at scope p.line) i.0 (refinement_at scope i.0) s)) → Begins units scope p.line r s (as_actual ((meaning units p.levels).actual (at scope p.line) a s))
  name_leads r a i s k h b =
      subst (Begins units scope p.line r s) (sym (deeper a (Expr-F.Name i) s k (ap out-Expr (h ∙ sym (e.rolls-Name i)) ∙ out-roll-Expr (Expr-F.Name i)))) b

  pub select_later : (a t k u v : Expr) (s : State) → p.levels ≢ 0 → a ≡ e.Select t k → u ≡ t → v ≡ k
      → as_actual ((meaning units p.levels).actual (at scope p.line) a s) ≡ after (as_actual ((meaning units (p.levels - 1)).actual (at scope p.line) u s)) (resume units scope (for_actual (record { line = p.line; levels = p.levels - 1 }) (actual_table v)))
  select_later a t k u v s n h is_t is_k =
      rw (is_t, is_k)
      (deeper a (Expr-F.Select t k) s n (ap out-Expr (h ∙ sym (e.rolls-Select t k)) ∙ out-roll-Expr (Expr-F.Select t k))
      ∙ table_then units scope (record { line = p.line; levels = p.levels - 1 }) k ((meaning units (p.levels - 1)).actual (at scope p.line) t s))

  pub compound_later : (a : Expr) (es all : List Expr) (vs : List Tree) (spots : List (Option Address)) (s : State) → p.levels ≢ 0 → a ≡ e.Compound es → all ≡ es → vs ≡ [] → spots ≡ []
      → as_actual ((meaning units p.levels).actual (at scope p.line) a s) ≡ as_actual (after (gather (meaning units (p.levels - 1)) (at scope p.line) all (record { values = vs; addresses = spots }) s) (composed_actual (at scope p.line)))
  compound_later a es all vs spots s n h is_es none no_spots =
      rw (is_es, none, no_spots)
      (deeper a (Expr-F.Compound es) s n (ap out-Expr (h ∙ sym (e.rolls-Compound es)) ∙ out-roll-Expr (Expr-F.Compound es)))
