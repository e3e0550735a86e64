-- A literal without `{}` has one type: what has the form of an example has its type.
use Rattle.std.proofs.Common.{◌≡◌, ◌∙◌, refl, ap, sym, subst, Bool, true, ◌&&◌, List, [], ◌∷◌, map, length, Option, Some, None, is_some}
use Rattle.std.specs.Prelude.{option_map, nat_le}
use Rattle.std.specs.List.{AllByRecursion}
use Rattle.std.proofs.lemmas.Bool.{and_parts}
use Rattle.abc_num.specs.declared.types.Ground.{Ground}
use Rattle.abc_num.specs.declared.types.Ground.TheVariants as type
use Rattle.abc_value.specs.Tree.{Tree}
use Rattle.abc_value.specs.Types.{has}
use Rattle.abc_value.specs.Forms.{Form, a_number, a_text, a_compound, a_list, a_table, forms, both, joined, form_of, each_fits as each_of_forms, Fits}
use Rattle.abc_value.proofs.forms.Joins.{fits_joined, of_list, of_table}
use Rattle.abc_value.proofs.forms.Shaping.{form_has, a_type}
use Rattle.abc_tree.specs.Lists.{flat}
use Rattle.abc_tree.specs.Regular.{Names, every, some, has_regular_parts, expression_is, fill_is, piece_is, pair_is, AsLiteral, with_sign, divided, all_literals, piece_literal, fill_literal, pair_literal, as_literal}
use Rattle.abc_tree.specs.declared.operations.Op.{Op}
use Rattle.abc_tree.specs.declared.operations.Op.TheVariants as op
use Rattle.abc_tree.specs.declared.templates.Template.{Template}
use Rattle.abc_tree.specs.declared.formulas.Expr.{Expr, fold-Expr, roll-Expr, map-Expr}
use Rattle.abc_tree.specs.declared.formulas.Expr.TheOpen.{Expr-F, Fill-F, Pair-F}
use Rattle.abc_tree.specs.declared.formulas.Expr.TheFolds.{ind-Expr, fold-roll-Expr, fold-roll-Fill, fold-roll-Pair}
use Rattle.abc_tree.specs.declared.formulas.Fill.{Fill, fold-Fill, roll-Fill, map-Fill}
use Rattle.abc_tree.specs.declared.formulas.Piece.{Piece, fold-Piece}
use Rattle.abc_tree.specs.declared.formulas.Pair.{Pair, fold-Pair, roll-Pair, out-Pair, out-roll-Pair, map-Pair}
use Rattle.abc_predef.specs.declared.table.Letter.{Letter}
use Rattle.abc_predef.specs.declared.table.Letter.TheVariants as letter
use Rattle.abc_predef.specs.Signatures.{result_of}
use Rattle.abc_predef.specs.Takes.{StandsFor}
use Rattle.abc_ground.specs.Seen.{Node, Filled, filled, nodes, expression_seen, fill_seen, piece_seen, pair_seen, seen_fill, seen_pair}
use Rattle.abc_ground.specs.Fits.{Signature, Typing, AreAll, AreEntries, AreFields, ValueFits}
use Rattle.abc_meaning.specs.Fits.{agree, forms_in, fields_in, fill_form, piece_form, pair_form, literal_form, example_form}
use Rattle.abc_meaning.specs.Here.{Scope}
use Rattle.abc_meaning.proofs.Opened.{front}
use Rattle.abc_sound.proofs.Typed.{some_result}
use Rattle.abc_sound.proofs.Expressions.{Layer, names_for, see, see_fill, pair_opened, numeral_by, NodeFits, NodesFit, ExprFits, ExprsFit, exprs_fit, each_of_nodes, split_all, Elements, of_element, every_of, regular_fill, regular_piece, regular_pair, is_layer}

-- each type of the form is this one
abbrev pub IsOnly : Option Form → Ground → Type 0
IsOnly o t = (g : Ground) → Fits o g → g ≡ t

-- what has a type in common with such a form has its type
pub agreed_has : (v : Tree) (o : Option Form) (t : Ground) → IsOnly o t → agree (form_of v) o ≡ true → has v t
agreed_has v o t only h = by (joined (form_of v) o) refl h
  where
    by : (p : Option Form) → joined (form_of v) o ≡ p → is_some p ≡ true → has v t
    by None e h = absurd (cc)
    by (Some f) e h =
        let g = a_type f in
        let both = fits_joined (form_of v) o g.0 (subst (λ q. Fits q g.0) (sym e) g.1) in
        subst (has v) (only g.0 both.1) (form_has v g.0 both.0)

-- ---- what a literal is, layer by layer

abbrev form_fill : Fill → Option Form
form_fill = fold-Fill (Option Form) (Option Form) (Option Form) (Option Form × Option Form) literal_form fill_form piece_form pair_form

abbrev form_piece : Piece → Option Form
form_piece = fold-Piece (Option Form) (Option Form) (Option Form) (Option Form × Option Form) literal_form fill_form piece_form pair_form

abbrev form_pair : Pair → Option Form × Option Form
form_pair = fold-Pair (Option Form) (Option Form) (Option Form) (Option Form × Option Form) literal_form fill_form piece_form pair_form

abbrev lit : Expr → AsLiteral
lit = fold-Expr AsLiteral Bool Bool Bool as_literal fill_literal piece_literal pair_literal

abbrev lit_fill : Fill → Bool
lit_fill = fold-Fill AsLiteral Bool Bool Bool as_literal fill_literal piece_literal pair_literal

abbrev lit_piece : Piece → Bool
lit_piece = fold-Piece AsLiteral Bool Bool Bool as_literal fill_literal piece_literal pair_literal

abbrev lit_pair : Pair → Bool
lit_pair = fold-Pair AsLiteral Bool Bool Bool as_literal fill_literal piece_literal pair_literal

abbrev form_layer : Layer → Option Form
form_layer y = literal_form (map-Expr Expr Fill Piece Pair (Option Form) (Option Form) (Option Form) (Option Form × Option Form) example_form form_fill form_piece form_pair y)

abbrev lit_layer : Layer → AsLiteral
lit_layer y = as_literal (map-Expr Expr Fill Piece Pair AsLiteral Bool Bool Bool lit lit_fill lit_piece lit_pair y)

-- a sign and a quotient give numbers
sign_gives : (o : Op) (x : AsLiteral) → (with_sign o x).literal ≡ true → result_of o ≡ Some letter.Number
sign_gives op.Plus x h = refl
sign_gives op.Negate x h = refl
sign_gives _ x h = absurd (cc)

quotient_gives : (o : Op) (x y : AsLiteral) → (divided o x y).literal ≡ true → result_of o ≡ Some letter.Number
quotient_gives op.Divide x y h = refl
quotient_gives _ x y h = absurd (cc)

number_given : (o : Op) (parts : List Ground) (t : Ground) → result_of o ≡ Some letter.Number → ValueFits o parts (t ∷ []) → t ≡ type.Number
number_given o parts t is h =
    let r = some_result h.0 (result_of o) t h.2 in
    let same : Some r.0 ≡ Some letter.Number = sym r.1 ∙ is in
    let m : r.0 ≡ letter.Number = cc in
    subst (λ (l : Letter). StandsFor l h.0 t) m r.2

number_only : (o : Option Form) (t : Ground) → t ≡ type.Number → IsOnly (joined (Some a_number) o) t
number_only o t is g h = (fits_joined (Some a_number) o g h).0 ∙ sym is

-- ---- rows of forms, each of one type

abbrev EachOnly : List (Option Form) → List Ground → Type 0
EachOnly [] [] = Unit {0}
EachOnly (o ∷ os) (t ∷ ts) = IsOnly o t × EachOnly os ts
EachOnly _ _ = ⊥

abbrev FieldsFit : Option (List Form) → List Ground → Type 0
FieldsFit None gs = ⊥
FieldsFit (Some fs) gs = each_of_forms (forms fs) gs

more_fields : (o : Option Form) (p : Option (List Form)) (gs : List Ground) → FieldsFit (both (λ f fs. f ∷ fs) o p) gs → (x : Ground) × (xs : List Ground) × (gs ≡ x ∷ xs) × Fits o x × FieldsFit p xs
more_fields None p gs h = absurd h
more_fields (Some f) None gs h = absurd h
more_fields (Some f) (Some fs) [] h = absurd h
more_fields (Some f) (Some fs) (x ∷ xs) h = (x, xs, refl, h.0, h.1)

fields_only : (os : List (Option Form)) (ts : List Ground) → EachOnly os ts → (gs : List Ground) → FieldsFit (fields_in os) gs → gs ≡ ts
fields_only [] [] e [] h = refl
fields_only [] [] e (x ∷ xs) h = absurd h
fields_only [] (t ∷ ts) e gs h = absurd e
fields_only (o ∷ os) [] e gs h = absurd e
fields_only (o ∷ os) (t ∷ ts) e gs h =
    let m = more_fields o (fields_in os) gs h in
    m.2 ∙ (λ i. e.0 m.0 m.3 i ∷ fields_only os ts e.1 m.1 m.4 i)

of_fields : (o : Option (List Form)) (g : Ground) → Fits (option_map (λ fs. a_compound (forms fs)) o) g → (gs : List Ground) × (g ≡ type.Compound gs) × FieldsFit o gs
of_fields None g h = absurd h
of_fields (Some fs) g h = (h.0, h.1, h.2)

compound_only : (os : List (Option Form)) (ts : List Ground) (t : Ground) → EachOnly os ts → AreFields ts t → IsOnly (option_map (λ fs. a_compound (forms fs)) (fields_in os)) t
compound_only os [] t e a g h = absurd a
compound_only os (u ∷ []) t e a g h = absurd a
compound_only os (u ∷ v ∷ ts) t e a g h =
    let o = of_fields (fields_in os) g h in
    o.1 ∙ (ap type.Compound (fields_only os (u ∷ v ∷ ts) e o.0 o.2) ∙ sym a)

list_only : (o : Option Form) (os : List (Option Form)) (t e : Ground) → t ≡ type.List e → IsOnly o e → IsOnly (option_map a_list (forms_in (o ∷ os))) t
list_only o os t e is only g h =
    let l = of_list (joined o (forms_in os)) g h in
    l.1 ∙ (ap (λ x. type.List x) (only l.0 (fits_joined o (forms_in os) l.0 l.2).0) ∙ sym is)

table_only : (o p : Option Form) (os ps : List (Option Form)) (t k a : Ground) → t ≡ type.Table k a → IsOnly o k → IsOnly p a → IsOnly (both a_table (forms_in (o ∷ os)) (forms_in (p ∷ ps))) t
table_only o p os ps t k a is key associate g h =
    let l = of_table (joined o (forms_in os)) (joined p (forms_in ps)) g h in
    l.2 ∙ ((λ i. type.Table (key l.0 (fits_joined o (forms_in os) l.0 l.3).0 i) (associate l.1 (fits_joined p (forms_in ps) l.1 l.4).0 i)) ∙ sym is)

-- ---- literals that fit

module _ (allowed : Template → Option Signature → Type 0) (present : Template → Type 0) (scope : Scope) (g : Typing) where
  abbrev names : Names
  names = names_for scope

  abbrev Only : Expr → Type 0
  Only e = (t : Ground) → ExprFits allowed g e t → has_regular_parts names e ≡ true → (lit e).literal ≡ true → IsOnly (example_form e) t

  abbrev OnlyFill : Fill → Type 0
  OnlyFill f = (e : Ground) → AllByRecursion (Elements allowed present scope g e) (seen_fill f).parts → regular_fill names f ≡ true → lit_fill f ≡ true → IsOnly (form_fill f) e

  abbrev OnlyPiece : Piece → Type 0
  OnlyPiece p = Unit {0}

  abbrev OnlyPair : Pair → Type 0
  OnlyPair p =
      (k a : Ground) → ExprFits allowed g (out-Pair p).key k → ExprFits allowed g (out-Pair p).associate a → regular_pair names p ≡ true → lit_pair p ≡ true
      → IsOnly (form_pair p).0 k × IsOnly (form_pair p).1 a

  abbrev E : Type 0
  E = (e : Expr) × Only e

  abbrev F : Type 0
  F = (f : Fill) × OnlyFill f

  abbrev P : Type 0
  P = (p : Piece) × OnlyPiece p

  abbrev Q : Type 0
  Q = (p : Pair) × OnlyPair p

  abbrev opened : Expr-F E F P Q → Layer
  opened y = map-Expr E F P Q Expr Fill Piece Pair (λ e. e.0) (λ f. f.0) (λ p. p.0) (λ p. p.0) y

  each_only : (es : List E) (ts : List Ground) → ExprsFit allowed g (map (λ e. e.0) es) ts → AllByRecursion (λ e. has_regular_parts names e ≡ true) (map (λ e. e.0) es) → all_literals (map lit (map (λ e. e.0) es)) ≡ true
      → EachOnly (map example_form (map (λ e. e.0) es)) ts
  each_only [] [] f r l = tt
  each_only [] (t ∷ ts) f r l = absurd f
  each_only (e ∷ es) [] f r l = absurd f
  each_only (e ∷ es) (t ∷ ts) f r l =
      let s = and_parts (lit e.0).literal (all_literals (map lit (map (λ d. d.0) es))) l in
      (e.1 t f.0 r.0 s.0, each_only es ts f.1 r.1 s.1)

  -- the first filler tells
  fills_only : (fs : List F) (e t : Ground) → t ≡ type.List e → AllByRecursion (Elements allowed present scope g e) (filled (map seen_fill (map (λ f. f.0) fs)))
      → (some (map (regular_fill names) (map (λ f. f.0) fs)) && every (map (regular_fill names) (map (λ f. f.0) fs))) ≡ true → every (map lit_fill (map (λ f. f.0) fs)) ≡ true
      → IsOnly (option_map a_list (forms_in (map form_fill (map (λ f. f.0) fs)))) t
  fills_only [] e t is f r l = absurd (cc)
  fills_only (x ∷ fs) e t is f r l =
      let s = and_parts (regular_fill names x.0) (every (map (regular_fill names) (map (λ d. d.0) fs))) r in
      let v = and_parts (lit_fill x.0) (every (map lit_fill (map (λ d. d.0) fs))) l in
      list_only (form_fill x.0) (map form_fill (map (λ d. d.0) fs)) t e is (x.1 e (front (Elements allowed present scope g e) (seen_fill x.0).parts (filled (map seen_fill (map (λ d. d.0) fs))) f) s.0 v.0)

  -- the first pair tells
  pairs_only : (ps : List Q) (k a t : Ground) (own : List Ground) → t ≡ type.Table k a → NodesFit allowed g (nodes (flat (map seen_pair (map (λ p. p.0) ps)))) own → AreEntries k a own
      → (some (map (regular_pair names) (map (λ p. p.0) ps)) && every (map (regular_pair names) (map (λ p. p.0) ps))) ≡ true → every (map lit_pair (map (λ p. p.0) ps)) ≡ true
      → IsOnly (both a_table (forms_in (map (λ p. p.0) (map form_pair (map (λ p. p.0) ps)))) (forms_in (map (λ p. p.1) (map form_pair (map (λ p. p.0) ps))))) t
  pairs_only [] k a t own is f w r l = absurd (cc)
  pairs_only (p ∷ ps) k a t own is f w r l =
      let o = pair_opened allowed present scope g k a p.0 (flat (map seen_pair (map (λ d. d.0) ps))) own f w in
      let s = and_parts (regular_pair names p.0) (every (map (regular_pair names) (map (λ d. d.0) ps))) r in
      let v = and_parts (lit_pair p.0) (every (map lit_pair (map (λ d. d.0) ps))) l in
      let only = p.1 k a o.1 o.2 s.0 v.0 in
      table_only (form_pair p.0).0 (form_pair p.0).1 (map (λ p. p.0) (map form_pair (map (λ d. d.0) ps))) (map (λ p. p.1) (map form_pair (map (λ d. d.0) ps))) t k a is only.0 only.1

  layer_only : (y : Expr-F E F P Q) (t : Ground) → NodeFits allowed g (see (opened y)) (t ∷ []) → is_layer names (opened y) ≡ true → (lit_layer (opened y)).literal ≡ true → IsOnly (form_layer (opened y)) t
  layer_only (Expr-F.Number n) t f r l = λ h k. k ∙ sym (numeral_by allowed present scope g f.0 t f.2)
  layer_only (Expr-F.Text ps) t f r l = λ h k. (fits_joined (Some a_text) (forms_in (map form_piece (map (λ p. p.0) ps))) h k).0 ∙ sym f.2
  layer_only (Expr-F.Name i) t f r l = absurd (cc)
  layer_only (Expr-F.Compound es) t f r l =
      let s = and_parts (nat_le 2 (length (map (has_regular_parts names) (map (λ e. e.0) es)))) (every (map (has_regular_parts names) (map (λ e. e.0) es))) r in
      compound_only (map example_form (map (λ e. e.0) es)) f.0 t (each_only es f.0 (exprs_fit allowed g (map (λ e. e.0) es) f.0 f.1) (every_of (has_regular_parts names) (map (λ e. e.0) es) s.1) l) f.2
  layer_only Expr-F.Empty t f r l = absurd (cc)
  layer_only (Expr-F.List fs) t f r l =
      let w = f.2 in
      fills_only fs w.0 t w.1 (each_of_nodes allowed g (AreAll w.0) (split_all allowed g w.0) (filled (map seen_fill (map (λ f. f.0) fs))) f.0 f.1 w.2) r l
  layer_only (Expr-F.Table ps) t f r l = let w = f.2 in pairs_only ps w.0 w.1 t f.0 w.2 f.1 w.3 r l
  layer_only (Expr-F.Select x k) t f r l = absurd (cc)
  layer_only (Expr-F.Apply1 o x) t f r l = number_only (example_form x.0) t (number_given o f.0 t (sign_gives o (lit x.0) l) f.2)
  layer_only (Expr-F.Apply2 o x y) t f r l = number_only (joined (example_form x.0) (example_form y.0)) t (number_given o f.0 t (quotient_gives o (lit x.0) (lit y.0) l) f.2)
  layer_only (Expr-F.Call template es) t f r l = absurd (cc)

  expr_step : (y : Expr-F E F P Q) → Only (roll-Expr (opened y))
  expr_step y t f r l =
      subst (λ o. IsOnly o t) (sym (fold-roll-Expr (Option Form) (Option Form) (Option Form) (Option Form × Option Form) literal_form fill_form piece_form pair_form (opened y)))
      (layer_only y t (subst (λ x. NodeFits allowed g x (t ∷ [])) (fold-roll-Expr Node Filled (List Node) (List Node) expression_seen fill_seen piece_seen pair_seen (opened y)) f)
      (sym (fold-roll-Expr Bool Bool Bool Bool (expression_is names) (fill_is names) (piece_is names) (pair_is names) (opened y)) ∙ r)
      (sym (ap (λ (x : AsLiteral). x.literal) (fold-roll-Expr AsLiteral Bool Bool Bool as_literal fill_literal piece_literal pair_literal (opened y))) ∙ l))

  abbrev opened_fill : Fill-F E F P Q → Fill-F Expr Fill Piece Pair
  opened_fill y = map-Fill E F P Q Expr Fill Piece Pair (λ e. e.0) (λ f. f.0) (λ p. p.0) (λ p. p.0) y

  fill_layer : (y : Fill-F E F P Q) (e : Ground) → AllByRecursion (Elements allowed present scope g e) (see_fill (opened_fill y)).parts
      → fill_is names (map-Fill Expr Fill Piece Pair Bool Bool Bool Bool (has_regular_parts names) (regular_fill names) (regular_piece names) (regular_pair names) (opened_fill y)) ≡ true
      → fill_literal (map-Fill Expr Fill Piece Pair AsLiteral Bool Bool Bool lit lit_fill lit_piece lit_pair (opened_fill y)) ≡ true
      → IsOnly (fill_form (map-Fill Expr Fill Piece Pair (Option Form) (Option Form) (Option Form) (Option Form × Option Form) example_form form_fill form_piece form_pair (opened_fill y))) e
  fill_layer (Fill-F.One x) e f r l = x.1 e (of_element allowed present scope g x.0 e f.0) r l
  fill_layer (Fill-F.Range p q) e f r l = absurd (cc)

  fill_step : (y : Fill-F E F P Q) → OnlyFill (roll-Fill (opened_fill y))
  fill_step y e f r l =
      subst (λ o. IsOnly o e) (sym (fold-roll-Fill (Option Form) (Option Form) (Option Form) (Option Form × Option Form) literal_form fill_form piece_form pair_form (opened_fill y)))
      (fill_layer y e (subst (λ (x : Filled). AllByRecursion (Elements allowed present scope g e) x.parts) (fold-roll-Fill Node Filled (List Node) (List Node) expression_seen fill_seen piece_seen pair_seen (opened_fill y)) f)
      (sym (fold-roll-Fill Bool Bool Bool Bool (expression_is names) (fill_is names) (piece_is names) (pair_is names) (opened_fill y)) ∙ r)
      (sym (fold-roll-Fill AsLiteral Bool Bool Bool as_literal fill_literal piece_literal pair_literal (opened_fill y)) ∙ l))

  abbrev opened_pair : Pair-F E F P Q → Pair-F Expr Fill Piece Pair
  opened_pair y = map-Pair E F P Q Expr Fill Piece Pair (λ e. e.0) (λ f. f.0) (λ p. p.0) (λ p. p.0) y

  pair_step : (y : Pair-F E F P Q) → OnlyPair (roll-Pair (opened_pair y))
  pair_step y k a f h r l =
      let s = and_parts (has_regular_parts names y.key.0) (has_regular_parts names y.associate.0) (sym (fold-roll-Pair Bool Bool Bool Bool (expression_is names) (fill_is names) (piece_is names) (pair_is names) (opened_pair y)) ∙ r) in
      let v = and_parts (lit y.key.0).literal (lit y.associate.0).literal (sym (fold-roll-Pair AsLiteral Bool Bool Bool as_literal fill_literal piece_literal pair_literal (opened_pair y)) ∙ l) in
      subst (λ (o : Option Form × Option Form). IsOnly o.0 k × IsOnly o.1 a) (sym (fold-roll-Pair (Option Form) (Option Form) (Option Form) (Option Form × Option Form) literal_form fill_form piece_form pair_form (opened_pair y))) (
        y.key.1 k (subst (λ (x : Pair-F Expr Fill Piece Pair). ExprFits allowed g x.key k) (out-roll-Pair (opened_pair y)) f) s.0 v.0,
        y.associate.1 a (subst (λ (x : Pair-F Expr Fill Piece Pair). ExprFits allowed g x.associate a) (out-roll-Pair (opened_pair y)) h) s.1 v.1,
      )

  pub literal_only : (e : Expr) → Only e
  literal_only =
      ind-Expr Only OnlyFill OnlyPiece OnlyPair (λ x y is. subst (λ z. Only (roll-Expr z)) is (expr_step y)) (λ x y is. subst (λ z. OnlyFill (roll-Fill z)) is (fill_step y))
      (λ x y is. tt) (λ x y is. subst (λ z. OnlyPair (roll-Pair z)) is (pair_step y))
