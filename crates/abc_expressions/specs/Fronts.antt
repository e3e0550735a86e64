-- The tree in front of some tokens by the grammar alone: what is spelled up to tokens that can't go on with it.
use Rattle.std.specs.Prelude.{◌≡◌, ◌≢◌, ◌<◌, Result, Ok, Err, ℕ, List, [], ◌∷◌, Some}
use Rattle.abc_tree.specs.declared.formulas.Expr.{Expr}
use Rattle.abc_expressions.specs.declared.fault.FormulaFault.{FormulaFault}
use Rattle.abc_expressions.specs.declared.fault.FormulaFault.TheVariants as fault
use Rattle.abc_expressions.specs.declared.frames.Infix.{Infix}
use Rattle.abc_expressions.specs.declared.lexemes.Lexeme.{Lexeme}
use Rattle.abc_expressions.specs.declared.lexemes.Lexeme.TheVariants as t
use Rattle.abc_expressions.specs.declared.signs.Sign.TheVariants as s
use Rattle.abc_expressions.specs.declared.tree.ExpressionFront.{ExpressionFront}
use Rattle.abc_expressions.specs.Operators.{infix_of}
use Rattle.abc_expressions.specs.Grammar.{Spells}

-- a tree of level n ends before these tokens: no [ follows, and no operator that gives level n or a tighter one
abbrev pub EndsBefore : List (List ℕ) → ℕ → List Lexeme → Type 0
EndsBefore own n [] = Unit {0}
EndsBefore own n (token ∷ ts) = (token ≢ t.Sign s.Bracket) × ((i : Infix) → infix_of own token ≡ Some i → i.gives < n)

-- the tokens ts up to rest spell an expression of level n, which ends there
abbrev pub IsFront : List (List ℕ) → ℕ → ℕ → List Lexeme → Expr → List Lexeme → Type 0
IsFront own d n ts a rest = Spells own d n a ts rest × EndsBefore own n rest

-- the answer is the one tree and rest of which this is true, or BadCommand where it's true of none
abbrev pub FindsOnly : (Expr → List Lexeme → Type 0) → Result ExpressionFront FormulaFault → Type 0
FindsOnly is (Ok front) = is front.tree front.rest.now × ((a : Expr) (rest : List Lexeme) → is a rest → (a ≡ front.tree) × (rest ≡ front.rest.now))
FindsOnly is (Err fault.BadCommand) = (a : Expr) (rest : List Lexeme) → is a rest → ⊥
FindsOnly is (Err fault.TooMany) = ⊥
FindsOnly is (Err fault.Memory) = Unit {0}
