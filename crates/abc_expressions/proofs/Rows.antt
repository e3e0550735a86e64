-- Worked expressions, by computing.
use Rattle.std.specs.Prelude.{◌≡◌, ℕ, List, [], ◌∷◌, Option, Some, None, codes, pos, refl}
use Rattle.abc_num.specs.Number.{fraction}
use Rattle.abc_tokens.specs.Scanned as scanned
use Rattle.abc_tree.specs.declared.formulas.Expr.{Expr}
use Rattle.abc_tree.specs.declared.formulas.Expr.TheVariants as e
use Rattle.abc_tree.specs.declared.formulas.Fill.TheVariants as f
use Rattle.abc_tree.specs.declared.formulas.Piece.TheVariants as p
use Rattle.abc_tree.specs.declared.operations.Op.TheVariants as op
use Rattle.abc_expressions.specs.declared.texts.Part.TheVariants as part
use Rattle.abc_expressions.specs.Grammar.{own_name, paired}
use Rattle.abc_expressions.specs.Operators.{kind_of, nullary, unary, binary}
use Rattle.abc_num.specs.Ratio.{gcd_within, gcd, ratio}
use Rattle.abc_expressions.specs.inner.Numbers.{number_at}
use Rattle.abc_expressions.specs.inner.Machine.{read_tokens, converter, run, popped, finished, reach, lexed, has_bare, conversion_from, split, split_text}

-- the own names are x and t
abbrev read : List ℕ → Option Expr
read line = read_tokens (converter (codes "x" ∷ codes "t" ∷ []) 100) (codes "x" ∷ codes "t" ∷ []) 100 (lexed line)

abbrev whole : ℕ → Expr
whole n = e.Number (fraction (pos n) 1)

levels : read (codes "-1**2*3+f 4") ≡ Some (e.Apply2 op.Add (e.Apply2 op.Multiply (e.Apply1 op.Negate (e.Apply2 op.Power (whole 1) (whole 2))) (whole 3)) (e.Call (unary (codes "f")) (whole 4 ∷ [])))
unfolding run popped finished reach kind_of converter lexed has_bare conversion_from split number_at ratio gcd gcd_within scanned.scanned scanned.word_in_front scanned.ending
levels = refl

half : read (codes "12.50") ≡ Some (e.Number (fraction (pos 25) 2))
unfolding run popped finished reach kind_of converter lexed has_bare conversion_from split number_at ratio gcd gcd_within scanned.scanned scanned.word_in_front scanned.ending
half = refl

texts : read (codes "\"n is `x+1`!\", t@2") ≡ Some (e.Compound (e.Text (p.Chars (codes "n is ") ∷ p.Conversion (e.Apply2 op.Add (own_name 0) (whole 1)) ∷ p.Chars (codes "!") ∷ []) ∷ e.Apply2 op.Behead (own_name 1) (whole 2) ∷ []))
unfolding run popped finished reach kind_of converter lexed has_bare conversion_from split number_at ratio gcd gcd_within scanned.scanned scanned.word_in_front scanned.ending
texts = refl

doubled : read (codes "'it''s ``x``'") ≡ Some (e.Text (p.Chars (codes "it's `x`") ∷ []))
unfolding run popped finished reach kind_of converter lexed has_bare conversion_from split number_at ratio gcd gcd_within scanned.scanned scanned.word_in_front scanned.ending
doubled = refl

empty_text : read (codes "''") ≡ Some (e.Text [])
unfolding run popped finished reach kind_of converter lexed has_bare conversion_from split number_at ratio gcd gcd_within scanned.scanned scanned.word_in_front scanned.ending
empty_text = refl

nested : read (codes "\"a`\"b`\"c\"`\"`\"") ≡ Some (e.Text (p.Chars (codes "a") ∷ p.Conversion (e.Text (p.Chars (codes "b") ∷ p.Conversion (e.Text (p.Chars (codes "c") ∷ [])) ∷ [])) ∷ []))
unfolding run popped finished reach kind_of converter lexed has_bare conversion_from split number_at ratio gcd gcd_within scanned.scanned scanned.word_in_front scanned.ending
nested = refl

displays : read (codes "{1; 2..x; {}}") ≡ Some (e.List (f.One (whole 1) ∷ f.Range (whole 2) (own_name 0) ∷ f.One e.Empty ∷ []))
unfolding run popped finished reach kind_of converter lexed has_bare conversion_from split number_at ratio gcd gcd_within scanned.scanned scanned.word_in_front scanned.ending
displays = refl

tables : read (codes "{[1, x]: 2; ['a']: {[3]: 4}}") ≡ Some (e.Table (paired (e.Compound (whole 1 ∷ own_name 0 ∷ [])) (whole 2) ∷ paired (e.Text (p.Chars (codes "a") ∷ [])) (e.Table (paired (whole 3) (whole 4) ∷ [])) ∷ []))
unfolding run popped finished reach kind_of converter lexed has_bare conversion_from split number_at ratio gcd gcd_within scanned.scanned scanned.word_in_front scanned.ending
tables = refl

selections : read (codes "t[1][x, 2] min f x g t") ≡ Some (e.Call (binary (codes "g")) (e.Apply2 op.LeastAbove (e.Select (e.Select (own_name 1) (whole 1)) (e.Compound (own_name 0 ∷ whole 2 ∷ []))) (e.Call (unary (codes "f")) (own_name 0 ∷ [])) ∷ own_name 1 ∷ []))
unfolding run popped finished reach kind_of converter lexed has_bare conversion_from split number_at ratio gcd gcd_within scanned.scanned scanned.word_in_front scanned.ending
selections = refl

-- a sign begins no operand
without_place : read (codes "f -3") ≡ Some (e.Apply2 op.Subtract (e.Call (nullary (codes "f")) []) (whole 3))
unfolding run popped finished reach kind_of converter lexed has_bare conversion_from split number_at ratio gcd gcd_within scanned.scanned scanned.word_in_front scanned.ending
without_place = refl

-- a name with one place is no operand of @
trim_of_call : read (codes "t@f 3") ≡ None
unfolding run popped finished reach kind_of converter lexed has_bare conversion_from split number_at ratio gcd gcd_within scanned.scanned scanned.word_in_front scanned.ending
trim_of_call = refl

compound_in_list : read (codes "{1, 2}") ≡ None
unfolding run popped finished reach kind_of converter lexed has_bare conversion_from split number_at ratio gcd gcd_within scanned.scanned scanned.word_in_front scanned.ending
compound_in_list = refl

selection_of_sum : read (codes "1+t[2]") ≡ Some (e.Apply2 op.Add (whole 1) (e.Select (own_name 1) (whole 2)))
unfolding run popped finished reach kind_of converter lexed has_bare conversion_from split number_at ratio gcd gcd_within scanned.scanned scanned.word_in_front scanned.ending
selection_of_sum = refl

membership : read (codes "x in t") ≡ None
unfolding run popped finished reach kind_of converter lexed has_bare conversion_from split number_at ratio gcd gcd_within scanned.scanned scanned.word_in_front scanned.ending
membership = refl

-- a comment in a conversion leaves it open, also where a backquote stands in the comment
comment_in_conversion : split_text (codes "'a`1 \\ b`c'") ≡ None
unfolding has_bare conversion_from split number_at ratio gcd gcd_within scanned.scanned scanned.word_in_front scanned.ending
comment_in_conversion = refl

spaces_in_conversion : split_text (codes "'a` 1 `c'") ≡ Some (part.Characters (codes "a") ∷ part.Conversion (codes " 1 ") ∷ part.Characters (codes "c") ∷ [])
unfolding has_bare conversion_from split number_at ratio gcd gcd_within scanned.scanned scanned.word_in_front scanned.ending
spaces_in_conversion = refl
