-- The one tree that tokens spell, computed, and what an answer says of it. The laws `computed_expression`, `computed_single` and
-- `computed_address` say that exactly what the grammar spells is found.
use Rattle.std.specs.Prelude.{◌≡◌, Result, Ok, Err, ℕ, List, [], Option, Some, None, if◌then◌else◌}
use Rattle.abc_num.specs.declared.limits.TheConstants.{MOST_BRACKETS}
use Rattle.abc_tree.specs.Regular.{is_address}
use Rattle.abc_tree.specs.declared.formulas.Expr.{Expr}
use Rattle.abc_expressions.specs.declared.fault.FormulaFault.{FormulaFault}
use Rattle.abc_expressions.specs.declared.fault.FormulaFault.TheVariants as fault
use Rattle.abc_expressions.specs.declared.frames.Group.TheVariants as g
use Rattle.abc_expressions.specs.declared.lexemes.Lexeme.{Lexeme}
use Rattle.abc_expressions.specs.declared.tree.ExpressionFront.{ExpressionFront}
use Rattle.abc_expressions.specs.inner.Machine.{alone, reader, tree_of, expression_of as front_of}

-- the expression, or several with commas between, that all the tokens spell, however high
unfoldable pub expression_of : List (List ℕ) → List Lexeme → Option Expr
expression_of own ts = alone (tree_of (g.Whole []) (reader own MOST_BRACKETS) own MOST_BRACKETS ts)

-- the single expression that all the tokens spell
unfoldable pub single_of : List (List ℕ) → List Lexeme → Option Expr
single_of own ts = alone (tree_of g.Single (reader own MOST_BRACKETS) own MOST_BRACKETS ts)

-- the single expression of this level at least in front of the tokens, where d brackets may open and c in a conversion, and the
-- tokens behind it
abbrev pub in_front : List (List ℕ) → ℕ → ℕ → ℕ → List Lexeme → Option (Expr × List Lexeme)
in_front own c level d ts = front_of (reader own c) own level d ts

abbrev pub only_address : Option Expr → Option Expr
only_address None = None
only_address (Some a) = if is_address a then Some a else None

-- the address that all the tokens spell
unfoldable pub address_of : List (List ℕ) → List Lexeme → Option Expr
address_of own ts = only_address (expression_of own ts)

-- the answer is what is found, which the map gives, or BadCommand where nothing is; want of memory says nothing
abbrev pub Tells : {X Y : Type 0} → (X → Y) → Result X FormulaFault → Option Y → Type 0
Tells view (Ok x) found = found ≡ Some (view x)
Tells view (Err fault.BadCommand) found = found ≡ None
Tells view (Err fault.TooMany) found = ⊥
Tells view (Err fault.Memory) found = Unit {0}

-- the answer is the tree that is found, or BadCommand where none is
abbrev pub Answers : {X : Type 0} → Result X FormulaFault → Option X → Type 0
Answers {X = X} = Tells (λ (x : X). x)

-- the answer is the tree in front that is found, with the tokens behind it
abbrev pub Finds : Result ExpressionFront FormulaFault → Option (Expr × List Lexeme) → Type 0
Finds = Tells (λ (front : ExpressionFront). (front.tree, front.rest.now))
