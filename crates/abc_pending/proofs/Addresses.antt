-- An address that is found at once, by a node.
use Rattle.std.proofs.Common.{◌≡◌, ◌≢◌, ◌&&◌, ◌∙◌, ◌-◌, ◌<◌, ℕ, zero, suc, ◌+◌, true, false, Option, Some, Result, Ok, [], ap, sym, subst, refl, arith}
use Rattle.abc_num.specs.declared.limits.TheConstants.{MOST_TREE_HEIGHT}
use Rattle.abc_tree.specs.declared.formulas.Expr.{Expr, out-Expr}
use Rattle.abc_tree.specs.declared.formulas.Expr.TheVariants as ex
use Rattle.abc_tree.specs.declared.formulas.NameId.{NameId}
use Rattle.abc_meaning.specs.State.{State, Address, Got, Run, gives, key, place, after}
use Rattle.abc_meaning.specs.Here.{Here, Scope}
use Rattle.abc_meaning.specs.Deeper.{Deeper}
use Rattle.abc_meaning.specs.Addresses.{address, address_with, address_within, stepped, whole}
use Rattle.abc_meaning.proofs.Carried.{left, right}
use Rattle.abc_state.specs.Agrees.{Halts}
use Rattle.abc_state.specs.declared.halt.Halt.{Halt}
use Rattle.abc_state.specs.declared.halt.Halt.TheVariants.{Fault, Wrong}
use Rattle.abc_pending.specs.AtOnce.{Tells, is_address_at_once, is_at_once, node_is_address}
use Rattle.abc_pending.specs.declared.at_once.TheConstants.{HEIGHT_AT_ONCE}
use Rattle.abc_pending.proofs.AtOnce.{name_out, next_address, select_out}
use Rattle.abc_pending.proofs.Levels.{address_next}

pub part_is : (height : ℕ) (scope : Scope) (e t k : Expr) → e ≡ ex.Select t k → 0 < height → is_address_at_once height scope e ≡ (is_at_once HEIGHT_AT_ONCE scope k && is_address_at_once (height - 1) scope t)
part_is height scope e t k is h = next_address height scope e h ∙ ap (node_is_address (is_address_at_once (height - 1) scope) scope) (select_out e t k is)

-- what is found at once has a key and a table that are, and a node above them
module _ (scope : Scope) (e t k : Expr) (is : e ≡ ex.Select t k) where
  none_above : node_is_address (λ _. false) scope (out-Expr e) ≡ true → false ≡ true
  none_above told = right (is_at_once HEIGHT_AT_ONCE scope k) false (sym (ap (node_is_address (λ _. false) scope) (select_out e t k is)) ∙ told)

  pub is_above : (height : ℕ) → is_address_at_once height scope e ≡ true → 0 < height
  unfolding is_address_at_once
  is_above zero told = let no : false ≡ true = none_above told in cc
  is_above (suc n) told = omega arith

  parts_at_once : (height : ℕ) → is_address_at_once height scope e ≡ true → (is_at_once HEIGHT_AT_ONCE scope k && is_address_at_once (height - 1) scope t) ≡ true
  parts_at_once height told = sym (part_is height scope e t k is (is_above height told)) ∙ told

  pub key_at_once : (height : ℕ) → is_address_at_once height scope e ≡ true → is_at_once HEIGHT_AT_ONCE scope k ≡ true
  key_at_once height told = left (is_at_once HEIGHT_AT_ONCE scope k) (is_address_at_once (height - 1) scope t) (parts_at_once height told)

  pub table_at_once : (height : ℕ) → is_address_at_once height scope e ≡ true → is_address_at_once (height - 1) scope t ≡ true
  table_at_once height told = right (is_at_once HEIGHT_AT_ONCE scope k) (is_address_at_once (height - 1) scope t) (parts_at_once height told)

-- a stop is one, whatever would follow
pub stops_on : {A B : Type 0} (line : ℕ) (h : Halt) (s : State) (g : Got A) (go : A → Run B) → Halts line h s g → Halts line h s (after g go)
stops_on line (Fault f) s g go k = λ n. ap (λ x. after x go) (k n)
stops_on line Wrong s g go k = ap (λ x. after x go) k

-- what is told of what was found
pub told_some : {A B : Type 0} (view : A → B) (line : ℕ) (o : Option A) (a : A) (s : State) (g : Got B) → o ≡ Some a → Tells view line (Ok o) s g → g ≡ gives (view a) s
told_some view line o a s g is h = subst (λ o. Tells view line (Ok o) s g) is h

module _ (deep : Deeper) (here : Here) (high : ℕ) (e : Expr) (s : State) (some : high ≢ 0) where
  pub name_within : (i : NameId) → e ≡ ex.Name i → address_within deep here high e s ≡ gives (Some (place i.0 [])) s
  name_within i is = address_next deep here high e s some ∙ ap (λ l. address_with deep here (address_within deep here (high - 1)) l s) (name_out e i is)

  pub select_within : (t k : Expr) → e ≡ ex.Select t k
      → address_within deep here high e s ≡ after (address_within deep here (high - 1) t s) (λ a s. after (deep.value here k s) (λ v. gives (stepped (key v) a)))
  select_within t k is = address_next deep here high e s some ∙ ap (λ l. address_with deep here (address_within deep here (high - 1)) l s) (select_out e t k is)

  -- a key more, and a stop in front of it
  pub with_step : {A : Type 0} (view : A → Option Address) (line : ℕ) (r : Result (Option A) Halt) (t k : Expr) (a : Address) → e ≡ ex.Select t k → address_within deep here (high - 1) t s ≡ gives (Some a) s
      → Tells view line r s (after (deep.value here k s) (λ v. gives (stepped (key v) (Some a)))) → Tells view line r s (address_within deep here high e s)
  with_step view line r t k a is table h =
      subst (Tells view line r s) (sym (select_within t k is ∙ ap (λ g. after g (λ a s. after (deep.value here k s) (λ v. gives (stepped (key v) a)))) table)) h

  pub with_stop : (line : ℕ) (h : Halt) (t k : Expr) → e ≡ ex.Select t k → Halts line h s (address_within deep here (high - 1) t s) → Halts line h s (address_within deep here high e s)
  with_stop line h t k is stop =
      subst (Halts line h s) (sym (select_within t k is)) (stops_on line h s (address_within deep here (high - 1) t s) (λ a s. after (deep.value here k s) (λ v. gives (stepped (key v) a))) stop)

pub whole_address : (deep : Deeper) (here : Here) (e : Expr) (s : State) → address deep here e s ≡ after (address_within deep here (MOST_TREE_HEIGHT + 1) e s) (whole here)
unfolding address
whole_address deep here e s = refl
