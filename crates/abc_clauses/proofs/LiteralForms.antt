-- What expressions are as literals, and lines that are none.
use Rattle.std.proofs.Common.{◌≡◌, ℕ, true, false, List, [], ◌∷◌, map, Option, Some, None, refl, ap, ◌∙◌, rules}
use Rattle.std.specs.Prelude.{◌&&◌, is_some}
use Rattle.abc_value.specs.Tree.{Tree}
use Rattle.abc_print.specs.Computed.{literal_of}
use Rattle.abc_print.specs.Laws.{LinesAreComputed}
use Rattle.abc_print.specs.Lexemes.{IsLiteralLine}
use Rattle.abc_tree.specs.Regular.{every, is_literal, all_literals, only_literal}
use Rattle.abc_tree.specs.declared.formulas.Expr.{Expr, the_lemmas}
use Rattle.abc_tree.specs.declared.formulas.Expr.TheVariants as e
use Rattle.abc_clauses.specs.inner.Literals.{form_of}

compound_form : (parts : List Expr) → form_of (e.Compound parts) ≡ only_literal (all_literals (map form_of parts))
compound_form parts = search (rules, the_lemmas)

all_forms : (parts : List Expr) → all_literals (map form_of parts) ≡ every (map is_literal parts)
all_forms [] = refl
all_forms (part ∷ parts) = ap (λ b. is_literal part && b) (all_forms parts)

pub compound_literal : (parts : List Expr) → is_literal (e.Compound parts) ≡ every (map is_literal parts)
compound_literal parts = ap (λ x. x.literal) (compound_form parts) ∙ all_forms parts

-- a line that spells no value has none
pub no_literal : LinesAreComputed → (line : List ℕ) → ((value : Tree) → IsLiteralLine line value → ⊥) → is_some (literal_of line) ≡ false
no_literal law line never = by_value (literal_of line) refl
  where
    by_value : (x : Option Tree) → literal_of line ≡ x → is_some x ≡ false
    by_value None e = refl
    by_value (Some value) e = absurd (never value ((law line value).1 e))

pub one_literal : LinesAreComputed → (line : List ℕ) (value : Tree) → IsLiteralLine line value → is_some (literal_of line) ≡ true
one_literal law line value p = ap (λ x. is_some x) ((law line value).0 p)
