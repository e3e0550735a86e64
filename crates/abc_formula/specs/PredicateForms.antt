-- The three forms of a call of a unit's function or predicate.
use Rattle.std.specs.Prelude.{◌≡◌, ℕ, false, List, [], ◌∷◌}
use Rattle.abc_tree.specs.declared.formulas.Expr.{Expr}
use Rattle.abc_tree.specs.declared.templates.Template.{Template}
use Rattle.abc_expressions.specs.declared.frames.Kind.TheVariants as kind
use Rattle.abc_expressions.specs.declared.lexemes.Lexeme.{Lexeme}
use Rattle.abc_expressions.specs.declared.lexemes.Lexeme.TheVariants as t
use Rattle.abc_expressions.specs.Operators.{kind_of, begins, nullary, unary, binary}
use Rattle.abc_expressions.specs.Grammar.{Spells}

-- the tokens ts up to rest spell a call with this template and these actuals, by a name that is neither own nor predefined
pub data IsCall (own : List (List ℕ)) (d : ℕ) : Template → List Expr → List Lexeme → List Lexeme → Type 0 where
  -- name
  alone : {x : List ℕ} {rest : List Lexeme} → kind_of own x ≡ kind.Free → begins own rest ≡ false → IsCall own d (nullary x) [] (t.Name x ∷ rest) rest
  -- name E7
  before : {x : List ℕ} {a : Expr} {ts rest : List Lexeme} → kind_of own x ≡ kind.Free → Spells own d 7 a ts rest → IsCall own d (unary x) (a ∷ []) (t.Name x ∷ ts) rest
  -- E1 name E2
  between : {x : List ℕ} {a b : Expr} {ts us rest : List Lexeme} → kind_of own x ≡ kind.Free → Spells own d 1 a ts (t.Name x ∷ us) → Spells own d 2 b us rest
      → IsCall own d (binary x) (a ∷ b ∷ []) ts rest
