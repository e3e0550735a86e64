-- Regular expressions, tests, addresses and literals: what holds of each that is read from lines without a fault.
use Rattle.std.specs.Prelude.{ℕ, ◌+◌, Bool, true, false, not, ◌&&◌, ◌==◌, nat_le, nat_lt, List, [], ◌∷◌, length, map, Option, Some, None, int_lt, pos}
use Rattle.abc_num.specs.Number.{Fraction}
use Rattle.abc_num.specs.Characters.{are_characters}
use Rattle.abc_num.specs.declared.limits.TheConstants.{MOST_TREE_HEIGHT}
use Rattle.abc_tokens.specs.Kinds.{is_name, is_keyword}
use Rattle.abc_tokens.specs.Shape.{is_reserved}
use Rattle.abc_tree.specs.Roles.{is_prefix, is_infix, is_relation, is_membership}
use Rattle.abc_tree.specs.Height.{height, test_height}
use Rattle.abc_tree.specs.declared.operations.Op.{Op}
use Rattle.abc_tree.specs.declared.operations.Op.TheVariants as op
use Rattle.abc_tree.specs.declared.templates.Template.{Template}
use Rattle.abc_tree.specs.declared.templates.TemplateKind.{TemplateKind}
use Rattle.abc_tree.specs.declared.templates.TemplateKind.TheVariants as kind
use Rattle.abc_tree.specs.declared.templates.Word.{Word}
use Rattle.abc_tree.specs.declared.templates.Word.TheVariants as word
use Rattle.abc_tree.specs.declared.commands.RefinementKind.{RefinementKind}
use Rattle.abc_tree.specs.declared.commands.RefinementKind.TheVariants as refines
use Rattle.abc_tree.specs.declared.formulas.NameId.{NameId}
use Rattle.abc_tree.specs.declared.formulas.Bound.{Bound, fold-Bound}
use Rattle.abc_tree.specs.declared.formulas.Bound.TheOpen.{Bound-F}
use Rattle.abc_tree.specs.declared.formulas.Link.{Link}
use Rattle.abc_tree.specs.declared.formulas.Expr.{Expr, fold-Expr}
use Rattle.abc_tree.specs.declared.formulas.Expr.TheOpen.{Expr-F, Fill-F, Piece-F, Pair-F}
use Rattle.abc_tree.specs.declared.formulas.Test.{Test, fold-Test}
use Rattle.abc_tree.specs.declared.formulas.Test.TheOpen.{Test-F}

-- all of these
abbrev pub every : List Bool → Bool
every [] = true
every (b ∷ bs) = b && every bs

-- at least one
abbrev pub some : {X : Type 0} → List X → Bool
some [] = false
some (x ∷ xs) = true

-- how many words are places
abbrev pub count_places : List Word → ℕ
count_places [] = 0
count_places (word.Place ∷ ws) = count_places ws + 1
count_places (word.Key bytes ∷ ws) = count_places ws

-- keywords and places, no two of which stand side by side
abbrev pub are_command_words : List Word → Bool
are_command_words [] = true
are_command_words (word.Key bytes ∷ ws) = is_keyword bytes && are_command_words ws
are_command_words (word.Place ∷ []) = true
are_command_words (word.Place ∷ word.Place ∷ ws) = false
are_command_words (word.Place ∷ word.Key bytes ∷ ws) = is_keyword bytes && are_command_words ws

-- the words of a command: they begin with a keyword that isn't reserved
abbrev pub has_command_form : List Word → Bool
has_command_form (word.Key bytes ∷ ws) = not (is_reserved bytes) && are_command_words (word.Key bytes ∷ ws)
has_command_form _ = false

-- the words of a function or a predicate: a name, with a place behind it or at both sides, or with none
abbrev pub has_name_form : List Word → Bool
has_name_form (word.Key bytes ∷ []) = is_name bytes
has_name_form (word.Key bytes ∷ word.Place ∷ []) = is_name bytes
has_name_form (word.Place ∷ word.Key bytes ∷ word.Place ∷ []) = is_name bytes
has_name_form _ = false

abbrev pub has_form : TemplateKind → List Word → Bool
has_form kind.Command words = has_command_form words
has_form kind.Function words = has_name_form words
has_form kind.Predicate words = has_name_form words

-- a template has the form of its kind and the count of its places
abbrev pub is_regular_template : Template → Bool
is_regular_template t = has_form t.kind t.words && (t.places == count_places t.words)

abbrev pub is_function : TemplateKind → Bool
is_function kind.Function = true
is_function _ = false

abbrev pub is_predicate : TemplateKind → Bool
is_predicate kind.Predicate = true
is_predicate _ = false

abbrev pub is_command : TemplateKind → Bool
is_command kind.Command = true
is_command _ = false

-- a call has as many actuals as its template has places
abbrev pub is_call : (TemplateKind → Bool) → Template → ℕ → Bool
is_call is t actuals = is_regular_template t && is t.kind && (t.places == actuals)

-- What is known of the names where a tree stands: how many there are, and which refinement a name is.
pub record Names : Type 0 where
  pub count : ℕ
  pub refinement : ℕ → Option RefinementKind

-- a name that is a refinement is one of expressions
abbrev pub is_value_kind : Option RefinementKind → Bool
is_value_kind None = true
is_value_kind (Some refines.Expression) = true
is_value_kind (Some refines.Test) = false
is_value_kind (Some refines.Command) = false

abbrev pub is_test_kind : Option RefinementKind → Bool
is_test_kind (Some refines.Test) = true
is_test_kind _ = false

module _ (names : Names) where
  -- a name has a number of the names
  abbrev pub is_there : NameId → Bool
  is_there i = nat_lt i.0 names.count

  abbrev pub piece_is : Piece-F Bool Bool Bool Bool → Bool
  piece_is (Piece-F.Chars bytes) = are_characters bytes
  piece_is (Piece-F.Conversion e) = e

  abbrev pub fill_is : Fill-F Bool Bool Bool Bool → Bool
  fill_is (Fill-F.One e) = e
  fill_is (Fill-F.Range from to) = from && to

  abbrev pub pair_is : Pair-F Bool Bool Bool Bool → Bool
  pair_is pair = pair.key && pair.associate

  abbrev pub expression_is : Expr-F Bool Bool Bool Bool → Bool
  expression_is (Expr-F.Number n) = true
  expression_is (Expr-F.Text pieces) = every pieces
  expression_is (Expr-F.Name i) = is_there i && is_value_kind (names.refinement i.0)
  expression_is (Expr-F.Compound parts) = nat_le 2 (length parts) && every parts
  expression_is Expr-F.Empty = true
  expression_is (Expr-F.List fills) = some fills && every fills
  expression_is (Expr-F.Table pairs) = some pairs && every pairs
  expression_is (Expr-F.Select t k) = t && k
  expression_is (Expr-F.Apply1 op x) = is_prefix op && x
  expression_is (Expr-F.Apply2 op x y) = is_infix op && x && y
  expression_is (Expr-F.Call template actuals) = is_call is_function template (length actuals) && every actuals

  -- an expression whose parts are regular, whatever its height
  abbrev pub has_regular_parts : Expr → Bool
  has_regular_parts = fold-Expr Bool Bool Bool Bool expression_is fill_is piece_is pair_is

  -- and of the height that is allowed
  abbrev pub is_regular_expression : Expr → Bool
  is_regular_expression e = has_regular_parts e && nat_le (height e) MOST_TREE_HEIGHT

  -- names that are bound: two or more where they stand together
  abbrev pub bound_is : Bound-F Bool → Bool
  bound_is (Bound-F.One i) = is_there i
  bound_is (Bound-F.Several parts) = nat_le 2 (length parts) && every parts

  abbrev pub is_regular_bound : Bound → Bool
  is_regular_bound = fold-Bound Bool bound_is

  abbrev pub link_is : Link → Bool
  link_is link = is_relation link.op && has_regular_parts link.right

  abbrev pub test_is : Test-F Bool → Bool
  test_is (Test-F.Chain first links) = has_regular_parts first && some links && every (map link_is links)
  test_is (Test-F.Member op e t) = is_membership op && has_regular_parts e && has_regular_parts t
  test_is (Test-F.And a b) = a && b
  test_is (Test-F.Or a b) = a && b
  test_is (Test-F.Not a) = a
  test_is (Test-F.Quantified q bound train test) = is_regular_bound bound && has_regular_parts train && test
  test_is (Test-F.Call template actuals) = is_call is_predicate template (length actuals) && every (map has_regular_parts actuals)
  test_is (Test-F.Refinement i) = is_there i && is_test_kind (names.refinement i.0)

  abbrev pub is_regular_test : Test → Bool
  is_regular_test t = fold-Test Bool test_is t && nat_le (test_height t) MOST_TREE_HEIGHT

-- an address: a name, a selection of an address, or addresses together
abbrev pub address_is : Expr-F Bool Bool Bool Bool → Bool
address_is (Expr-F.Name i) = true
address_is (Expr-F.Select t k) = t
address_is (Expr-F.Compound parts) = every parts
address_is _ = false

abbrev pub is_address : Expr → Bool
is_address = fold-Expr Bool Bool Bool Bool address_is (λ fill. false) (λ piece. false) (λ pair. false)

-- What an expression is as a literal: a number as it is written, a number with at most one sign, or any literal.
pub record AsLiteral : Type 0 where
  pub plain : Option Fraction
  pub signed : Bool
  pub literal : Bool

abbrev pub no_literal : AsLiteral
no_literal = record { plain = None; signed = false; literal = false }

abbrev pub only_literal : Bool → AsLiteral
only_literal is = record { plain = None; signed = false; literal = is }

abbrev pub is_some : Option Fraction → Bool
is_some None = false
is_some (Some n) = true

-- a sign stands before a number alone
abbrev pub with_sign : Op → AsLiteral → AsLiteral
with_sign op.Plus x = record { plain = None; signed = is_some x.plain; literal = is_some x.plain }
with_sign op.Negate x = record { plain = None; signed = is_some x.plain; literal = is_some x.plain }
with_sign _ x = no_literal

-- a number is divided by a number that isn't 0
abbrev pub is_divisor : Option Fraction → Bool
is_divisor None = false
is_divisor (Some n) = int_lt (pos 0) n.numerator

abbrev pub divided : Op → AsLiteral → AsLiteral → AsLiteral
divided op.Divide x y = only_literal (x.signed && is_divisor y.plain)
divided _ x y = no_literal

abbrev pub all_literals : List AsLiteral → Bool
all_literals xs = every (map (λ (x : AsLiteral). x.literal) xs)

-- without conversions
abbrev pub piece_literal : Piece-F AsLiteral Bool Bool Bool → Bool
piece_literal (Piece-F.Chars bytes) = true
piece_literal (Piece-F.Conversion e) = false

-- without ranges
abbrev pub fill_literal : Fill-F AsLiteral Bool Bool Bool → Bool
fill_literal (Fill-F.One e) = e.literal
fill_literal (Fill-F.Range from to) = false

abbrev pub pair_literal : Pair-F AsLiteral Bool Bool Bool → Bool
pair_literal pair = pair.key.literal && pair.associate.literal

abbrev pub as_literal : Expr-F AsLiteral Bool Bool Bool → AsLiteral
as_literal (Expr-F.Number n) = record { plain = Some n; signed = true; literal = true }
as_literal (Expr-F.Text pieces) = only_literal (every pieces)
as_literal (Expr-F.Compound parts) = only_literal (all_literals parts)
as_literal (Expr-F.List fills) = only_literal (every fills)
as_literal (Expr-F.Table pairs) = only_literal (every pairs)
as_literal (Expr-F.Apply1 op x) = with_sign op x
as_literal (Expr-F.Apply2 op x y) = divided op x y
as_literal _ = no_literal

-- the form of a literal without `{}`
abbrev pub is_literal : Expr → Bool
is_literal e = (fold-Expr AsLiteral Bool Bool Bool as_literal fill_literal piece_literal pair_literal e).literal
