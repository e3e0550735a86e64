-- The names in front of some tokens: those that FOR binds, and the formals of a unit.
use Rattle.std.specs.Prelude.{◌≡◌, Result, Ok, Err, ℕ, List, [], ◌∷◌, ◌++◌, map, Some, true, not, codes}
use Rattle.std.specs.List.{list_all}
use Rattle.abc_num.specs.Names.{number_of}
use Rattle.abc_tree.specs.declared.formulas.Bound.{Bound}
use Rattle.abc_expressions.specs.declared.fault.FormulaFault.{FormulaFault}
use Rattle.abc_expressions.specs.declared.fault.FormulaFault.TheVariants as fault
use Rattle.abc_expressions.specs.declared.lexemes.Lexeme.{Lexeme}
use Rattle.abc_expressions.specs.declared.lexemes.Lexeme.TheVariants as t
use Rattle.abc_formula.specs.declared.binding.BoundFront.{BoundFront}
use Rattle.abc_formula.specs.TestGrammar.{is_keyword, gathered, Binds, BindsPart}

-- the tokens ts up to IN and rest spell these names; a bracket may have one alone
abbrev pub IsBoundFront : List (List ℕ) → ℕ → List Lexeme → Bound → List Lexeme → Type 0
IsBoundFront own d ts a rest = (names : List Bound) × (token : Lexeme) × Binds own 1 d names ts (token ∷ rest) × (is_keyword (codes "IN") token ≡ true) × (a ≡ gathered names)

-- the tokens ts up to rest spell a formal: a name, or two or more formals in parentheses
abbrev pub IsFormalFront : List (List ℕ) → ℕ → List Lexeme → Bound → List Lexeme → Type 0
IsFormalFront own d ts a rest = BindsPart own 2 d a ts rest

-- the answer is the one of which this is true, or BadCommand where it's true of none
abbrev pub BindsOnly : (Bound → List Lexeme → Type 0) → Result BoundFront FormulaFault → Type 0
BindsOnly is (Ok front) = is front.bound front.rest.now × ((a : Bound) (rest : List Lexeme) → is a rest → (a ≡ front.bound) × (rest ≡ front.rest.now))
BindsOnly is (Err fault.BadCommand) = (a : Bound) (rest : List Lexeme) → is a rest → ⊥
BindsOnly is (Err fault.TooMany) = ⊥
BindsOnly is (Err fault.Memory) = Unit {0}

-- the name tokens, in their order
abbrev pub plain_names : List Lexeme → List (List ℕ)
plain_names [] = []
plain_names (t.Name x ∷ ts) = x ∷ plain_names ts
plain_names (t.Sign sign ∷ ts) = plain_names ts
plain_names (t.Number bytes ∷ ts) = plain_names ts
plain_names (t.Keyword x ∷ ts) = plain_names ts
plain_names (t.Text bytes ∷ ts) = plain_names ts
plain_names (t.Other ∷ ts) = plain_names ts

-- the tokens up to rest are those in front, among which is no IN, and their name tokens have these numbers
pub record AreNumbered (own : List (List ℕ)) (numbers : List ℕ) (ts front rest : List Lexeme) : Type 0 where
  pub all : ts ≡ front ++ rest
  pub before_in : list_all (λ token. not (is_keyword (codes "IN") token)) front ≡ true
  pub numbers_are : map (number_of own) (plain_names front) ≡ map (λ i. Some i) numbers
