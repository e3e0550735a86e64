-- What is found at once, by a node.
use Rattle.std.proofs.Common.{◌≡◌, ◌&&◌, ◌∙◌, ◌-◌, ◌<◌, nat_lt, ◌∷◌, [], if◌then◌else◌, unwrap_or, rules, ℕ, zero, suc, Bool, true, false, Option, Some, Result, List, is_none, ap, sym, subst, refl, arith}
use Rattle.std.proofs.Math.Numerals.{sub-one}
use Rattle.abc_tree.specs.declared.operations.Op.{Op}
use Rattle.abc_tree.specs.declared.formulas.Expr.{Expr, out-Expr, out-roll-Expr}
use Rattle.abc_tree.specs.declared.formulas.Expr.TheOpen.{Expr-F}
use Rattle.abc_tree.specs.declared.formulas.Expr.TheVariants as ex
use Rattle.abc_tree.specs.declared.formulas.Test.{Test}
use Rattle.abc_tree.specs.declared.formulas.Test.TheOpen.{Test-F}
use Rattle.abc_tree.specs.declared.formulas.NameId.{NameId}
use Rattle.abc_tree.specs.declared.commands.Unit.{Unit as Routine}
use Rattle.abc_value.specs.Tree.{Tree}
use Rattle.abc_meaning.specs.State.{State, Run, Got, gives, stops, after}
use Rattle.abc_meaning.specs.Here.{Here, Scope, refinement_at}
use Rattle.abc_meaning.specs.Deeper.{Deeper}
use Rattle.abc_meaning.specs.Value.{applied, applied_to_one, selected, value_with}
use Rattle.abc_meaning.specs.Holds.{compared, holds_with}
use Rattle.abc_state.specs.declared.halt.Halt.{Halt}
use Rattle.abc_pending.specs.AtOnce.{Tells, both, is_address_at_once, is_at_once, node_is_address, node_is_at_once, operands_of}

-- the layer of a node
pub name_out : (e : Expr) (i : NameId) → e ≡ ex.Name i → out-Expr e ≡ Expr-F.Name i
name_out e i is = ap out-Expr (is ∙ sym (ex.rolls-Name i)) ∙ out-roll-Expr (Expr-F.Name i)

pub one_out : (e x : Expr) (op : Op) → e ≡ ex.Apply1 op x → out-Expr e ≡ Expr-F.Apply1 op x
one_out e x op is = ap out-Expr (is ∙ sym (ex.rolls-Apply1 op x)) ∙ out-roll-Expr (Expr-F.Apply1 op x)

pub two_out : (e x y : Expr) (op : Op) → e ≡ ex.Apply2 op x y → out-Expr e ≡ Expr-F.Apply2 op x y
two_out e x y op is = ap out-Expr (is ∙ sym (ex.rolls-Apply2 op x y)) ∙ out-roll-Expr (Expr-F.Apply2 op x y)

pub select_out : (e x y : Expr) → e ≡ ex.Select x y → out-Expr e ≡ Expr-F.Select x y
select_out e x y is = ap out-Expr (is ∙ sym (ex.rolls-Select x y)) ∙ out-roll-Expr (Expr-F.Select x y)

-- a level of nodes
pub next_at_once : (height : ℕ) (scope : Scope) (e : Expr) → 0 < height → is_at_once height scope e ≡ node_is_at_once (is_at_once (height - 1) scope) scope (out-Expr e)
unfolding is_at_once
next_at_once zero scope e h = absurd (omega arith)
next_at_once (suc n) scope e h = rw sub-one refl

positive : (n : ℕ) → nat_lt 0 (suc n) ≡ true
positive n = search rules

pub at_once_is : (height : ℕ) (scope : Scope) (e : Expr) → is_at_once height scope e ≡ node_is_at_once (λ x. nat_lt 0 height && is_at_once (height - 1) scope x) scope (out-Expr e)
unfolding is_at_once
at_once_is zero scope e = refl
at_once_is (suc n) scope e = next_at_once (suc n) scope e (omega arith) ∙ ap (λ b. node_is_at_once (λ x. b && is_at_once (suc n - 1) scope x) scope (out-Expr e)) (sym (positive n))

pub next_address : (height : ℕ) (scope : Scope) (e : Expr) → 0 < height → is_address_at_once height scope e ≡ node_is_address (is_address_at_once (height - 1) scope) scope (out-Expr e)
unfolding is_address_at_once
next_address zero scope e h = absurd (omega arith)
next_address (suc n) scope e h = rw sub-one refl

pub address_is : (height : ℕ) (scope : Scope) (e : Expr) → is_address_at_once height scope e ≡ node_is_address (λ x. nat_lt 0 height && is_address_at_once (height - 1) scope x) scope (out-Expr e)
unfolding is_address_at_once
address_is zero scope e = refl
address_is (suc n) scope e = next_address (suc n) scope e (omega arith) ∙ ap (λ b. node_is_address (λ x. b && is_address_at_once (suc n - 1) scope x) scope (out-Expr e)) (sym (positive n))

-- whether the node is, of each kind
pub name_is : (height : ℕ) (scope : Scope) (e : Expr) (i : NameId) → e ≡ ex.Name i → is_at_once height scope e ≡ is_none (refinement_at scope i.0)
unfolding is_at_once
name_is zero scope e i is = ap (node_is_at_once (λ _. false) scope) (name_out e i is)
name_is (suc n) scope e i is = ap (node_is_at_once (is_at_once n scope) scope) (name_out e i is)

pub one_is : (height : ℕ) (scope : Scope) (e x : Expr) (op : Op) → e ≡ ex.Apply1 op x → 0 < height → is_at_once height scope e ≡ is_at_once (height - 1) scope x
one_is height scope e x op is h = next_at_once height scope e h ∙ ap (node_is_at_once (is_at_once (height - 1) scope) scope) (one_out e x op is)

pub two_is : (height : ℕ) (scope : Scope) (e x y : Expr) (op : Op) → e ≡ ex.Apply2 op x y → 0 < height → is_at_once height scope e ≡ (is_at_once (height - 1) scope x && is_at_once (height - 1) scope y)
two_is height scope e x y op is h = next_at_once height scope e h ∙ ap (node_is_at_once (is_at_once (height - 1) scope) scope) (two_out e x y op is)

pub select_is : (height : ℕ) (scope : Scope) (e x y : Expr) → e ≡ ex.Select x y → 0 < height → is_at_once height scope e ≡ (is_at_once (height - 1) scope x && is_at_once (height - 1) scope y)
select_is height scope e x y is h = next_at_once height scope e h ∙ ap (node_is_at_once (is_at_once (height - 1) scope) scope) (select_out e x y is)

-- a node with operands has one above it
pub is_high : (height : ℕ) (scope : Scope) (e : Expr) → node_is_at_once (λ _. false) scope (out-Expr e) ≡ false → is_at_once height scope e ≡ true → 0 < height
unfolding is_at_once
is_high zero scope e low h = cc
is_high (suc n) scope e low h = omega arith

-- a node that is found at once has operands that are
module _ (height : ℕ) (scope : Scope) (e x y : Expr) (told : is_at_once height scope e ≡ true) where
  pub name_at_once : (i : NameId) → e ≡ ex.Name i → is_none (refinement_at scope i.0) ≡ true
  name_at_once i is = sym (name_is height scope e i is) ∙ told

  pub operand_at_once : (op : Op) → e ≡ ex.Apply1 op x → is_at_once (height - 1) scope x ≡ true
  operand_at_once op is = sym (one_is height scope e x op is (is_high height scope e (ap (node_is_at_once (λ _. false) scope) (one_out e x op is)) told)) ∙ told

  pub operands_at_once : (op : Op) → e ≡ ex.Apply2 op x y → (is_at_once (height - 1) scope x && is_at_once (height - 1) scope y) ≡ true
  operands_at_once op is = sym (two_is height scope e x y op is (is_high height scope e (ap (node_is_at_once (λ _. false) scope) (two_out e x y op is)) told)) ∙ told

  pub selection_at_once : e ≡ ex.Select x y → (is_at_once (height - 1) scope x && is_at_once (height - 1) scope y) ≡ true
  selection_at_once is = sym (select_is height scope e x y is (is_high height scope e (ap (node_is_at_once (λ _. false) scope) (select_out e x y is)) told)) ∙ told

-- two values and what is made of them
abbrev pair : Tree → Tree → Run (Tree × Tree)
pair v w = gives (v, w)

module _ {B : Type 0} (f : Tree → Tree → Run B) where
  second_then : (v : Tree) (g : Got Tree) → after (after g (pair v)) (λ p. f p.0 p.1) ≡ after g (f v)
  second_then v (gives w t) = refl
  second_then v (stops line stop t) = refl

  both_after : (deep : Deeper) (here : Here) (y : Expr) (g : Got Tree)
      → after (after g (λ v t. after (deep.value here y t) (pair v))) (λ p. f p.0 p.1) ≡ after g (λ v t. after (deep.value here y t) (f v))
  both_after deep here y (gives v t) = second_then v (deep.value here y t)
  both_after deep here y (stops line stop t) = refl

  pub both_then : (deep : Deeper) (here : Here) (x y : Expr) (s : State) → after (both deep here x y s) (λ p. f p.0 p.1) ≡ after (deep.value here x s) (λ v t. after (deep.value here y t) (f v))
  both_then deep here x y s = both_after deep here y (deep.value here x s)

-- what is told of the operands' values is told of the node
module _ (units : List Routine) (deep : Deeper) (here : Here) (r : Result (Option Tree) Halt) (s : State) (e x y : Expr) where
  pub one_tells : (op : Op) → e ≡ ex.Apply1 op x → Tells (λ v. v) here.line r s (after (deep.value here x s) (applied_to_one here op)) → Tells (λ v. v) here.line r s (value_with units deep here (out-Expr e) s)
  one_tells op is h = subst (λ n. Tells (λ v. v) here.line r s (value_with units deep here n s)) (sym (one_out e x op is)) h

  pub two_tell : (op : Op) → e ≡ ex.Apply2 op x y → Tells (λ v. v) here.line r s (after (both deep here x y s) (λ p. applied here op p.0 p.1)) → Tells (λ v. v) here.line r s (value_with units deep here (out-Expr e) s)
  two_tell op is h =
      subst (λ n. Tells (λ v. v) here.line r s (value_with units deep here n s)) (sym (two_out e x y op is))
      (subst (Tells (λ v. v) here.line r s) (both_then (applied here op) deep here x y s) h)

  pub select_tells : e ≡ ex.Select x y → Tells (λ v. v) here.line r s (after (both deep here x y s) (λ p. selected here p.0 p.1)) → Tells (λ v. v) here.line r s (value_with units deep here (out-Expr e) s)
  select_tells is h =
      subst (λ n. Tells (λ v. v) here.line r s (value_with units deep here n s)) (sym (select_out e x y is))
      (subst (Tells (λ v. v) here.line r s) (both_then (selected here) deep here x y s) h)

-- a chain of one relation is that relation
abbrev on_to_none : Bool → Run Bool
on_to_none b = if b then gives true else gives false

module _ (deep : Deeper) (here : Here) (op : Op) where
  holds_or_not : (g : Got Bool) → after g on_to_none ≡ g
  holds_or_not (gives true t) = refl
  holds_or_not (gives false t) = refl
  holds_or_not (stops line stop t) = refl

  right_after : (v : Tree) (g : Got Tree) → after g (λ w t. after (compared here op v w t) on_to_none) ≡ after g (compared here op v)
  right_after v (gives w t) = holds_or_not (compared here op v w t)
  right_after v (stops line stop t) = refl

  left_after : (y : Expr) (g : Got Tree)
      → after g (λ v t. after (deep.value here y t) (λ w t. after (compared here op v w t) on_to_none)) ≡ after g (λ v t. after (deep.value here y t) (compared here op v))
  left_after y (gives v t) = right_after v (deep.value here y t)
  left_after y (stops line stop t) = refl

-- a test with operands is how they compare
abbrev pub row_of : Op → Expr → Expr → Op × (Expr × Expr)
row_of op x y = (op, (x, y))

module _ (units : List Routine) (deep : Deeper) (here : Here) (s : State) where
  abbrev compares : Op × (Expr × Expr) → Got Bool
  compares p = after (both deep here p.1.0 p.1.1 s) (λ q. compared here p.0 q.0 q.1)

  some_holds : (t : Test-F Test) (a p : Op × (Expr × Expr)) → Some a ≡ Some p → holds_with units deep here t s ≡ compares a → holds_with units deep here t s ≡ compares p
  some_holds t a p is h = subst (λ q. holds_with units deep here t s ≡ compares q) (ap (λ o. unwrap_or o a) is) h

  pub test_holds : (t : Test-F Test) (p : Op × (Expr × Expr)) → operands_of t ≡ Some p → holds_with units deep here t s ≡ compares p
  test_holds (Test-F.Chain first []) p is = cc
  test_holds (Test-F.Chain first (link ∷ [])) p is =
      some_holds (Test-F.Chain first (link ∷ [])) (row_of link.op first link.right) p is
      (left_after deep here link.op link.right (deep.value here first s) ∙ sym (both_then (compared here link.op) deep here first link.right s))
  test_holds (Test-F.Chain first (link ∷ other ∷ rest)) p is = cc
  test_holds (Test-F.Member op e t) p is = some_holds (Test-F.Member op e t) (row_of op e t) p is (sym (both_then (compared here op) deep here e t s))
  test_holds (Test-F.And t u) p is = cc
  test_holds (Test-F.Or t u) p is = cc
  test_holds (Test-F.Not t) p is = cc
  test_holds (Test-F.Quantified q bound train t) p is = cc
  test_holds (Test-F.Call template es) p is = cc
  test_holds (Test-F.Refinement i) p is = cc
