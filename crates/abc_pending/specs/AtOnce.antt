-- What is found at once, without work of its own.
use Rattle.std.specs.Prelude.{◌≡◌, ◌&&◌, ℕ, zero, suc, Bool, true, false, Option, Some, None, is_none, Result, Ok, Err, [], ◌∷◌}
use Rattle.abc_tree.specs.declared.operations.Op.{Op}
use Rattle.abc_tree.specs.declared.formulas.Expr.{Expr, out-Expr}
use Rattle.abc_tree.specs.declared.formulas.Fill.{Fill}
use Rattle.abc_tree.specs.declared.formulas.Piece.{Piece}
use Rattle.abc_tree.specs.declared.formulas.Pair.{Pair}
use Rattle.abc_tree.specs.declared.formulas.Expr.TheOpen.{Expr-F}
use Rattle.abc_tree.specs.declared.formulas.Test.{Test}
use Rattle.abc_tree.specs.declared.formulas.Test.TheOpen.{Test-F}
use Rattle.abc_value.specs.Tree.{Tree}
use Rattle.abc_meaning.specs.State.{State, Run, Got, gives, ◌>>=◌}
use Rattle.abc_meaning.specs.Here.{Here, Scope, refinement_at}
use Rattle.abc_meaning.specs.Deeper.{Deeper}
use Rattle.abc_state.specs.Agrees.{Halts}
use Rattle.abc_state.specs.declared.halt.Halt.{Halt}
use Rattle.abc_pending.specs.declared.at_once.TheConstants.{HEIGHT_AT_ONCE}

-- A node whose operands are found at once: a number, a name that is no refinement, an operation, a selection.
abbrev pub node_is_at_once : (Expr → Bool) → Scope → Expr-F Expr Fill Piece Pair → Bool
node_is_at_once operand scope (Expr-F.Number n) = true
node_is_at_once operand scope (Expr-F.Name i) = is_none (refinement_at scope i.0)
node_is_at_once operand scope (Expr-F.Apply1 op x) = operand x
node_is_at_once operand scope (Expr-F.Apply2 op x y) = operand x && operand y
node_is_at_once operand scope (Expr-F.Select t k) = operand t && operand k
node_is_at_once operand scope other = false

-- Whether the value of an expression is found without work of its own, where so many nodes may stand above its numbers and names.
unfoldable pub is_at_once : ℕ → Scope → Expr → Bool
is_at_once zero scope e = node_is_at_once (λ _. false) scope (out-Expr e)
is_at_once (suc height) scope e = node_is_at_once (is_at_once height scope) scope (out-Expr e)

-- An address: a name, or a selection from a table that is such an address, at a key that is found at once.
abbrev pub node_is_address : (Expr → Bool) → Scope → Expr-F Expr Fill Piece Pair → Bool
node_is_address table scope (Expr-F.Name i) = true
node_is_address table scope (Expr-F.Select t k) = is_at_once HEIGHT_AT_ONCE scope k && table t
node_is_address table scope other = false

-- Whether the address that an expression is is found without work of its own, where it has so many selections at most.
unfoldable pub is_address_at_once : ℕ → Scope → Expr → Bool
is_address_at_once zero scope e = node_is_address (λ _. false) scope (out-Expr e)
is_address_at_once (suc height) scope e = node_is_address (is_address_at_once height scope) scope (out-Expr e)

-- the row and the operands of a test that is one relation or a membership
abbrev pub operands_of : Test-F Test → Option (Op × (Expr × Expr))
operands_of (Test-F.Chain first (link ∷ [])) = Some (link.op, (first, link.right))
operands_of (Test-F.Member op e t) = Some (op, (e, t))
operands_of other = None

-- whether both operands are found at once, where there are some
abbrev pub are_at_once : Scope → Option (Op × (Expr × Expr)) → Bool
are_at_once scope None = false
are_at_once scope (Some p) = is_at_once HEIGHT_AT_ONCE scope p.1.0 && is_at_once HEIGHT_AT_ONCE scope p.1.1

-- Whether the truth value of a test is found so: of one relation, or of a membership, whose operands are.
abbrev pub is_truth_at_once : Scope → Test-F Test → Bool
is_truth_at_once scope t = are_at_once scope (operands_of t)

-- the values of two expressions, the first one's first
abbrev pub both : Deeper → Here → Expr → Expr → Run (Tree × Tree)
both deep here x y = do
  v ← deep.value here x
  w ← deep.value here y
  gives (v, w)

-- What is found at once is what the meaning gives, in the state as it is, or the meaning stops so. Where nothing is, nothing is said.
abbrev pub Tells : {A B : Type 0} → (A → B) → ℕ → Result (Option A) Halt → State → Got B → Type 0
Tells view line (Ok (Some a)) s g = g ≡ gives (view a) s
Tells view line (Ok None) s g = Unit {0}
Tells view line (Err h) s g = Halts line h s g
