-- How an actual goes on that is an expression and no address.
use Rattle.std.proofs.Common.{◌≡◌, ◌≢◌, ◌-◌, List, None, refl, sym, ap, ◌∙◌}
use Rattle.abc_tree.specs.declared.formulas.Expr.{Expr, out-Expr}
use Rattle.abc_tree.specs.declared.formulas.Fill.{Fill}
use Rattle.abc_tree.specs.declared.formulas.Piece.{Piece}
use Rattle.abc_tree.specs.declared.formulas.Pair.{Pair}
use Rattle.abc_tree.specs.declared.formulas.Expr.TheOpen.{Expr-F}
use Rattle.abc_tree.specs.declared.commands.Unit.{Unit as Routine}
use Rattle.abc_value.specs.Tree.{Tree}
use Rattle.abc_meaning.specs.State.{State, Got, gives, stops, after}
use Rattle.abc_meaning.specs.Here.{Here, Scope}
use Rattle.abc_meaning.specs.Deeper.{Deeper}
use Rattle.abc_meaning.specs.Value.{value_with}
use Rattle.abc_meaning.specs.Actuals.{actual_with, located}
use Rattle.abc_meaning.specs.Meaning.{meaning}
use Rattle.abc_state.specs.Views.{at}
use Rattle.abc_pending.specs.declared.place.Place.{Place}
use Rattle.abc_pending.specs.Pending.{plain_actual, in_action}
use Rattle.abc_pending.specs.Leads.{as_val, as_actual, resume}
use Rattle.abc_pending.specs.Steps.{IsPlain}
use Rattle.abc_pending.proofs.Levels.{meaning_value}
use Rattle.abc_call_steps.proofs.Levels.{meaning_actual}

module _ (units : List Routine) (scope : Scope) (p : Place) where
  -- an actual that is an expression and no address
  plain_then : (inner : Place) (g : Got Tree) → inner.line ≡ p.line → as_actual (after g (located None)) ≡ after (as_val g) (resume units scope (in_action inner plain_actual))
  plain_then inner (gives v t) e = refl
  plain_then inner (stops line stop t) e = refl

  plain_with : (deep : Deeper) (here : Here) (x : Expr-F Expr Fill Piece Pair) (s : State) → IsPlain x → actual_with units deep here x s ≡ after (value_with units deep here x s) (located None)
  plain_with deep here (Expr-F.Number n) s h = refl
  plain_with deep here (Expr-F.Text all) s h = refl
  plain_with deep here (Expr-F.Name i) s h = absurd h
  plain_with deep here (Expr-F.Compound es) s h = absurd h
  plain_with deep here Expr-F.Empty s h = refl
  plain_with deep here (Expr-F.List fills) s h = refl
  plain_with deep here (Expr-F.Table pairs) s h = refl
  plain_with deep here (Expr-F.Select t k) s h = absurd h
  plain_with deep here (Expr-F.Apply1 op x) s h = refl
  plain_with deep here (Expr-F.Apply2 op x y) s h = refl
  plain_with deep here (Expr-F.Call template es) s h = refl

  pub plain_later : (inner : Place) (e : Expr) (s : State) → inner.line ≡ p.line → p.levels ≢ 0 → IsPlain (out-Expr e)
      → as_actual ((meaning units p.levels).actual (at scope p.line) e s) ≡ after (as_val ((meaning units p.levels).value (at scope p.line) e s)) (resume units scope (in_action inner plain_actual))
  plain_later inner e s k h plain =
      ap as_actual (meaning_actual units p.levels (at scope p.line) e s h ∙ plain_with (meaning units (p.levels - 1)) (at scope p.line) (out-Expr e) s plain ∙ ap (λ g. after g (located None)) (sym (meaning_value units p.levels (at scope p.line) e s h)))
      ∙ plain_then inner ((meaning units p.levels).value (at scope p.line) e s) k
