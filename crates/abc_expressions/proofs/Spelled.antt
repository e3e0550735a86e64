-- What is computed is what is spelled, and what answers mean by that.
use Rattle.std.proofs.Common.{◌≡◌, ◌≤◌, ℕ, Bool, true, false, List, [], Option, Some, None, refl, ap, sym, ◌∙◌, subst, arith}
use Rattle.std.specs.Prelude.{◌↔◌, Result, Ok, Err, IfOk, if◌then◌else◌}
use Rattle.std.proofs.lemmas.Option.{same_Some}
use Rattle.abc_num.specs.declared.limits.TheConstants.{MOST_BRACKETS}
use Rattle.abc_tree.specs.declared.formulas.Expr.{Expr}
use Rattle.abc_tree.specs.Regular.{is_address}
use Rattle.abc_expressions.specs.declared.fault.FormulaFault.{FormulaFault}
use Rattle.abc_expressions.specs.declared.fault.FormulaFault.TheVariants as fault
use Rattle.abc_expressions.specs.declared.frames.Group.TheVariants as grp
use Rattle.abc_expressions.specs.declared.lexemes.Lexeme.{Lexeme}
use Rattle.abc_expressions.specs.Addresses.{SpelledAddress}
use Rattle.abc_expressions.specs.Grammar.{Spells, Spelled}
use Rattle.abc_expressions.specs.Readings.{expression_of, single_of, only_address, address_of, Answers}
use Rattle.abc_expressions.specs.inner.Machine.{alone, reader, tree_of}
use Rattle.abc_tokens.proofs.Faults.{OneReading}
use Rattle.abc_expressions.proofs.AddressLaws.{spelled_address, address_spelled}
use Rattle.abc_expressions.proofs.Complete.{read_as}
use Rattle.abc_expressions.proofs.FrontLaws.{front_found}
use Rattle.abc_expressions.proofs.Sound.{reads, reads_single, alone_some}

-- ---- answers

-- what is of an answer, where exactly that is found of which something is true
module _ {X : Type 0} (is : X → Type 0) (found : Option X) (exact : (a : X) → is a ↔ (found ≡ Some a)) (x : Result X FormulaFault) where
  pub is_true : Answers x found → IfOk x is
  is_true = by_answer x
    where
      by_answer : (x : Result X FormulaFault) → Answers x found → IfOk x is
      by_answer (Ok a) h = (exact a).1 h
      by_answer (Err f) h = tt

  pub is_of_none : Answers x found → x ≡ Err fault.BadCommand → (a : X) → is a → ⊥
  is_of_none = by_answer x
    where
      by_answer : (x : Result X FormulaFault) → Answers x found → x ≡ Err fault.BadCommand → (a : X) → is a → ⊥
      by_answer (Ok a) h e b p = cc
      by_answer (Err fault.BadCommand) h e b p = let none : found ≡ None = h in let some : found ≡ Some b = (exact b).0 p in cc
      by_answer (Err fault.TooMany) h e b p = absurd h
      by_answer (Err fault.Memory) h e b p = cc

pub never_high : {X : Type 0} (found : Option X) (x : Result X FormulaFault) → Answers x found → x ≡ Err fault.TooMany → ⊥
never_high found (Ok a) h e = cc
never_high found (Err fault.BadCommand) h e = cc
never_high found (Err fault.TooMany) h e = h
never_high found (Err fault.Memory) h e = cc

-- ---- expressions

module _ (law : OneReading) (own : List (List ℕ)) (d : ℕ) (ts : List Lexeme) (a : Expr) where
  pub finds : Spelled own d a ts [] → (c : ℕ) → d ≤ c → tree_of (grp.Whole []) (reader own c) own d ts ≡ Some (a, [])
  finds h c le = read_as law own d a ts [] h tt c le

  pub expression_exact : Spelled own d a ts [] ↔ (alone (tree_of (grp.Whole []) (reader own d) own d ts) ≡ Some a)
  expression_exact = (
    λ p. ap alone (finds p d (omega arith)),
    λ e. reads law own d d ts [] a (alone_some (tree_of (grp.Whole []) (reader own d) own d ts) a e),
  )

  pub single_exact : Spells own d 1 a ts [] ↔ (alone (tree_of grp.Single (reader own d) own d ts) ≡ Some a)
  single_exact =
      let low : 1 ≤ 10 = omega arith in (
        λ p. ap alone (front_found law own d 1 ts a [] (p, tt)),
        λ e. reads_single law own d d 1 low ts [] a (alone_some (tree_of grp.Single (reader own d) own d ts) a e),
      )

pub one : OneReading → (own : List (List ℕ)) (d : ℕ) (ts : List Lexeme) (a b : Expr) → Spelled own d a ts [] → Spelled own d b ts [] → a ≡ b
one law own d ts a b p q =
    same_Some a b (sym ((expression_exact law own d ts a).0 p) ∙ (expression_exact law own d ts b).0 q)

pub one_place : OneReading → (own : List (List ℕ)) (d : ℕ) (ts : List Lexeme) (a b : Expr) → SpelledAddress own d a ts [] → SpelledAddress own d b ts [] → a ≡ b
one_place law own d ts a b p q = one law own d ts a b (address_spelled own d a ts [] p).0 (address_spelled own d b ts [] q).0

-- ---- the computed readings

pub is_expression_of : OneReading → (own : List (List ℕ)) (ts : List Lexeme) (a : Expr) → Spelled own MOST_BRACKETS a ts [] ↔ (expression_of own ts ≡ Some a)
unfolding expression_of
is_expression_of law own ts a = expression_exact law own MOST_BRACKETS ts a

pub is_single_of : OneReading → (own : List (List ℕ)) (ts : List Lexeme) (a : Expr) → Spells own MOST_BRACKETS 1 a ts [] ↔ (single_of own ts ≡ Some a)
unfolding single_of
is_single_of law own ts a = single_exact law own MOST_BRACKETS ts a

-- the answer of the machine is that of the reading
pub answers_whole : (own : List (List ℕ)) (ts : List Lexeme) (xs : List Expr) → xs ≡ [] → (x : Result Expr FormulaFault)
    → Answers x (alone (tree_of (grp.Whole xs) (reader own MOST_BRACKETS) own MOST_BRACKETS ts)) → Answers x (expression_of own ts)
unfolding expression_of
answers_whole own ts xs none x h = subst (λ (zs : List Expr). Answers x (alone (tree_of (grp.Whole zs) (reader own MOST_BRACKETS) own MOST_BRACKETS ts))) none h

pub answers_single : (own : List (List ℕ)) (ts : List Lexeme) (x : Result Expr FormulaFault)
    → Answers x (alone (tree_of grp.Single (reader own MOST_BRACKETS) own MOST_BRACKETS ts)) → Answers x (single_of own ts)
unfolding single_of
answers_single own ts x h = h

-- what is an expression and has the form of an address
of_form : (x : Option Expr) (a : Expr) → x ≡ Some a → is_address a ≡ true → only_address x ≡ Some a
of_form x a e is = ap only_address e ∙ ap (λ c. if c then Some a else None) is

by_form : (b a : Expr) (c : Bool) → is_address b ≡ c → (if c then Some b else None) ≡ Some a → (b ≡ a) × (is_address b ≡ true)
by_form b a true is h = (same_Some b a h, is)
by_form b a false is h = cc

form_of : (x : Option Expr) (a : Expr) → only_address x ≡ Some a → (x ≡ Some a) × (is_address a ≡ true)
form_of None a h = cc
form_of (Some b) a h = let p = by_form b a (is_address b) refl h in (ap (λ y. Some y) p.0, sym (ap is_address p.0) ∙ p.1)

pub is_address_of : OneReading → (own : List (List ℕ)) (ts : List Lexeme) (a : Expr) → SpelledAddress own MOST_BRACKETS a ts [] ↔ (address_of own ts ≡ Some a)
unfolding address_of
is_address_of law own ts a = (
  λ p. let q = address_spelled own MOST_BRACKETS a ts [] p in of_form (expression_of own ts) a ((is_expression_of law own ts a).0 q.0) q.1,
  λ e. let q = form_of (expression_of own ts) a e in spelled_address own MOST_BRACKETS a ts [] ((is_expression_of law own ts a).1 q.0) q.1,
)

-- ---- what answers say of addresses

module _ (law : OneReading) (own : List (List ℕ)) (ts : List Lexeme) where
  pub no_address : (x : Result Expr FormulaFault) → (x ≡ Err fault.BadCommand → (a : Expr) → Spelled own MOST_BRACKETS a ts [] → ⊥)
      → x ≡ Err fault.BadCommand → (a : Expr) → SpelledAddress own MOST_BRACKETS a ts [] → ⊥
  no_address x none e a p = none e a (address_spelled own MOST_BRACKETS a ts [] p).0

  pub other_form : (b : Expr) → Spelled own MOST_BRACKETS b ts [] → is_address b ≡ false → (a : Expr) → SpelledAddress own MOST_BRACKETS a ts [] → ⊥
  other_form b q is a p =
      let r = address_spelled own MOST_BRACKETS a ts [] p in
      let no_form : is_address a ≡ false = ap is_address (one law own MOST_BRACKETS ts a b r.0 q) ∙ is in
      let form = r.1 in
      cc
