-- An address fits as an expression where its keys do and each of its names outside keys gives a value.
use Rattle.std.proofs.Common.{◌≡◌, ℕ, Bool, true, List, [], ◌∷◌, ◌++◌, map, refl, ap, sym, ◌∙◌, subst, rules}
use Rattle.std.specs.Prelude.{◌&&◌}
use Rattle.std.specs.List.{AllByRecursion}
use Rattle.std.proofs.lemmas.Bool.{and_from, and_parts}
use Rattle.abc_tree.specs.Lists.{flat}
use Rattle.abc_tree.specs.Regular.{every}
use Rattle.abc_tree.specs.RegularItems.{address, addressed_in}
use Rattle.abc_tree.specs.declared.formulas.Expr.{Expr, the_lemmas}
use Rattle.abc_tree.specs.declared.formulas.Expr.TheVariants as e
use Rattle.abc_expressions.specs.Addresses as a
use Rattle.abc_expressions.specs.Addresses.{Addresses, SpelledAddress, SpellsAddress}
use Rattle.abc_expressions.specs.Grammar.{compound}
use Rattle.abc_expressions.specs.NamesOfTrees.{names_are}
use Rattle.abc_expressions.specs.declared.lexemes.Lexeme.{Lexeme}
use Rattle.abc_clauses.specs.Formulas.{fit}
use Rattle.abc_clauses.specs.inner.Naming.{address_is_fit}
use Rattle.abc_clauses.proofs.Keys.{on_compound, on_select}

abbrev outside : Expr → List ℕ
outside x = addressed_in (address x)

module _ (is : ℕ → Bool) where
  abbrev AllAre : List ℕ → Type 0
  AllAre ns = AllByRecursion (λ n. is n ≡ true) ns

  front_are : (xs ys : List ℕ) → AllAre (xs ++ ys) → AllAre xs
  front_are [] ys h = tt
  front_are (x ∷ xs) ys h = (h.0, front_are xs ys h.1)

  behind_are : (xs ys : List ℕ) → AllAre (xs ++ ys) → AllAre ys
  behind_are [] ys h = h
  behind_are (x ∷ xs) ys h = behind_are xs ys h.1

  name_names : (i : ℕ) → names_are is (e.Name (record { 0 = i })) ≡ is i
  name_names i = search (rules, the_lemmas)

  name_outside : (i : ℕ) → outside (e.Name (record { 0 = i })) ≡ i ∷ []
  name_outside i = search (rules, the_lemmas)

  select_names : (t k : Expr) → names_are is (e.Select t k) ≡ (names_are is t && names_are is k)
  select_names t k = search (rules, the_lemmas)

  select_outside : (t k : Expr) → outside (e.Select t k) ≡ outside t
  select_outside t k = search (rules, the_lemmas)

  compound_names : (parts : List Expr) → names_are is (e.Compound parts) ≡ every (map (names_are is) parts)
  compound_names parts = search (rules, the_lemmas)

  compound_outside : (parts : List Expr) → outside (e.Compound parts) ≡ flat (map outside parts)
  compound_outside parts = search (rules, the_lemmas)

  -- what holds of the parts holds of them together
  together : (parts : List Expr) → (every (map (address_is_fit is) parts) ≡ true → AllAre (flat (map outside parts)) → every (map (names_are is) parts) ≡ true)
      → (fit is (compound parts)).address ≡ true → AllAre (outside (compound parts)) → names_are is (compound parts) ≡ true
  together [] h f o = compound_names [] ∙ h (sym (on_compound is []) ∙ f) (subst AllAre (compound_outside []) o)
  together (x ∷ []) h f o =
      let q = h (and_from _ _ f refl) (subst AllAre (sym (append_nil_ (outside x))) o) in (and_parts (names_are is x) true q).0
    where
      append_nil_ : (ns : List ℕ) → ns ++ [] ≡ ns
      append_nil_ [] = refl
      append_nil_ (n ∷ ns) = ap (λ ms. n ∷ ms) (append_nil_ ns)
  together (x ∷ y ∷ parts) h f o =
      compound_names (x ∷ y ∷ parts) ∙ h (sym (on_compound is (x ∷ y ∷ parts)) ∙ f) (subst AllAre (compound_outside (x ∷ y ∷ parts)) o)

  module _ {own : List (List ℕ)} where
    mutual
      pub address_fits : {d : ℕ} {x : Expr} {ts rest : List Lexeme} → SpellsAddress own d x ts rest → (fit is x).address ≡ true → AllAre (outside x) → names_are is x ≡ true
      address_fits (a.name {i = i} h) f o = name_names i ∙ (subst AllAre (name_outside i) o).0
      address_fits (a.select {a = x} {parts = parts} p q) f o =
          let k = compound parts in
          let s = and_parts _ _ (sym (on_select is x k) ∙ f) in
          select_names x k ∙ and_from _ _ (address_fits p s.0 (subst AllAre (select_outside x k) o)) s.1
      address_fits (a.round {parts = parts} p) f o = together parts (parts_fit p) f o

      pub parts_fit : {d : ℕ} {parts : List Expr} {ts rest : List Lexeme} → Addresses own d parts ts rest → every (map (address_is_fit is) parts) ≡ true → AllAre (flat (map outside parts))
          → every (map (names_are is) parts) ≡ true
      parts_fit (a.one {a = x} p) f o = and_from _ _ (address_fits p (and_parts _ _ f).0 (front_are (outside x) [] o)) refl
      parts_fit (a.more {a = x} {parts = parts} p q) f o =
          let s = and_parts _ _ f in
          and_from _ _ (address_fits p s.0 (front_are (outside x) (flat (map outside parts)) o)) (parts_fit q s.1 (behind_are (outside x) (flat (map outside parts)) o))

    pub spelled_fits : {d : ℕ} {x : Expr} {ts rest : List Lexeme} → SpelledAddress own d x ts rest → (fit is x).address ≡ true → AllAre (outside x) → names_are is x ≡ true
    spelled_fits (parts, p, same) f o =
        subst (λ x. names_are is x ≡ true) (sym same) (together parts (parts_fit p) (subst (λ x. (fit is x).address ≡ true) same f) (subst (λ x. AllAre (outside x)) same o))
