-- What is spelled is regular, where no name is a refinement of another kind.
use Rattle.std.proofs.Common.{◌≡◌, ◌≤◌, ◌<◌, ℕ, suc, Bool, true, false, ◌&&◌, ◌||◌, List, [], ◌∷◌, ◌++◌, length, map, Option, Some, None, refl, ap, sym, ◌∙◌, subst, arith, rules}
use Rattle.std.specs.Prelude.{nat_le, nat_lt, if◌then◌else◌}
use Rattle.std.specs.List.{list_all}
use Rattle.std.specs.List.{position_or_len}
use Rattle.std.proofs.lemmas.Bool.{and_parts, le-leb, lt-ltb, ltb-true}
use Rattle.std.proofs.lemmas.Option.{same_Some}
use Rattle.abc_num.specs.Characters.{is_character}
use Rattle.abc_num.specs.Names.{number_of}
use Rattle.abc_num.specs.Text.{text_eq}
use Rattle.abc_num.specs.Number.{Fraction}
use Rattle.abc_tokens.specs.Bytes.{backquote}
use Rattle.abc_tokens.specs.declared.kinds.Token.{Token}
use Rattle.abc_tokens.specs.Tokens.{AreTokens}
use Rattle.abc_predef.specs.declared.table.TheConstants.{TABLE}
use Rattle.abc_predef.specs.Order.{named}
use Rattle.abc_tokens.specs.Kinds.{is_name}
use Rattle.abc_tree.specs.Regular.{Names, every, some, is_call, is_function, is_value_kind, has_regular_parts, expression_is, fill_is, piece_is, pair_is}
use Rattle.abc_tree.specs.Roles.{is_prefix, is_infix, is_membership}
use Rattle.abc_tree.specs.declared.formulas.Expr.{Expr, the_lemmas}
use Rattle.abc_tree.specs.declared.formulas.Expr.TheVariants as e
use Rattle.abc_tree.specs.declared.formulas.Fill.{Fill, fold-Fill, the_lemmas as fill_lemmas}
use Rattle.abc_tree.specs.declared.formulas.Fill.TheVariants as f
use Rattle.abc_tree.specs.declared.formulas.Pair.{Pair, fold-Pair, the_lemmas as pair_lemmas}
use Rattle.abc_tree.specs.declared.formulas.Piece.{Piece, fold-Piece, the_lemmas as piece_lemmas}
use Rattle.abc_tree.specs.declared.formulas.Piece.TheVariants as pc
use Rattle.abc_tree.specs.declared.operations.Op.{Op}
use Rattle.abc_tree.specs.declared.templates.Template.{Template}
use Rattle.abc_expressions.specs.declared.frames.Infix.{Infix}
use Rattle.abc_expressions.specs.declared.frames.Join.{Join}
use Rattle.abc_expressions.specs.declared.frames.Join.TheVariants as j
use Rattle.abc_expressions.specs.declared.frames.Kind.{Kind}
use Rattle.abc_expressions.specs.declared.frames.Kind.TheVariants as kind
use Rattle.abc_expressions.specs.declared.lexemes.Lexeme.{Lexeme}
use Rattle.abc_expressions.specs.declared.lexemes.Lexeme.TheVariants as t
use Rattle.abc_expressions.specs.declared.signs.Sign.{Sign}
use Rattle.abc_expressions.specs.declared.signs.Sign.TheVariants as s
use Rattle.abc_expressions.specs.declared.texts.Part.{Part}
use Rattle.abc_expressions.specs.declared.texts.Part.TheVariants as part
use Rattle.abc_expressions.specs.Lexemes.{seen}
use Rattle.abc_expressions.specs.NamesOfTrees.{IsFine, AreFine, names_are, expression_names_are, fill_names_are, piece_names_are, pair_names_are}
use Rattle.abc_expressions.specs.Operators.{given, kind_at, kind_of, lead, lead_by, sign_lead, infix_of, infix_by, sign_infix, leftward, nullary, unary, binary, joined1, joined2}
use Rattle.abc_expressions.specs.Grammar as c
use Rattle.abc_expressions.specs.Grammar.{compound, own_name, paired, Spells, Parts, Filler, Fills, Entry, Pairs, Pieces, Spelled}
use Rattle.abc_expressions.specs.Texts.{with_character, Splits, closing, doubled_quote, doubled_backquote, character, conversion}
use Rattle.abc_expressions.proofs.AddressNumbers.{own_number}
use Rattle.abc_expressions.proofs.TableFacts.{one_place, two_places}

-- ---- the characters of a text

abbrev PartsFine : List Part → Type 0
PartsFine [] = Unit {0}
PartsFine (part.Characters cs ∷ parts) = (list_all is_character cs ≡ true) × PartsFine parts
PartsFine (part.Conversion bytes ∷ parts) = PartsFine parts

with_fine : (c : ℕ) (parts : List Part) → is_character c ≡ true → PartsFine parts → PartsFine (with_character c parts)
with_fine c [] h p = (ap (λ x. x && true) h, tt)
with_fine c (part.Characters cs ∷ parts) h p = (ap (λ x. x && list_all is_character cs) h ∙ p.0, p.1)
with_fine c (part.Conversion bytes ∷ parts) h p = (ap (λ x. x && true) h, p)

behind_fine : (xs ys : List ℕ) → list_all is_character (xs ++ ys) ≡ true → list_all is_character ys ≡ true
behind_fine [] ys h = h
behind_fine (x ∷ xs) ys h = behind_fine xs ys (and_parts (is_character x) (list_all is_character (xs ++ ys)) h).1

parts_fine : {q : ℕ} {bytes : List ℕ} {parts : List Part} → Splits q bytes parts → list_all is_character bytes ≡ true → PartsFine parts
parts_fine closing h = tt
parts_fine {q = q} (doubled_quote {bytes = bytes} {parts = parts} p) h =
    let a = and_parts (is_character q) (list_all is_character (q ∷ bytes)) h in
    with_fine q parts a.0 (parts_fine p (and_parts (is_character q) (list_all is_character bytes) a.1).1)
parts_fine (doubled_backquote {bytes = bytes} {parts = parts} n p) h =
    with_fine backquote parts refl (parts_fine p (behind_fine (backquote ∷ backquote ∷ []) bytes h))
parts_fine (character {c = x} {bytes = bytes} {parts = parts} n m p) h =
    let a = and_parts (is_character x) (list_all is_character bytes) h in with_fine x parts a.0 (parts_fine p a.1)
parts_fine (conversion {bytes = bytes} {inner = inner} {rest = rest} n b is p) h =
    parts_fine p (behind_fine (backquote ∷ []) rest (behind_fine inner (backquote ∷ rest)
    (ap (list_all is_character) (sym is.is) ∙ behind_fine (backquote ∷ []) bytes h)))

-- ---- what joins operands

call_of : (x : List ℕ) → is_name x ≡ true → (is_call is_function (nullary x) 0 ≡ true) × (is_call is_function (unary x) 1 ≡ true) × (is_call is_function (binary x) 2 ≡ true)
call_of x h = (rw h refl, rw h refl, rw h refl)

-- joins one operand, and two, in a regular way
abbrev Joins1 : Join → Type 0
Joins1 (j.Op o) = is_prefix o ≡ true
Joins1 (j.Call f) = is_call is_function f 1 ≡ true

abbrev Joins2 : Join → Type 0
Joins2 (j.Op o) = is_infix o ≡ true
Joins2 (j.Call f) = is_call is_function f 2 ≡ true

-- the predefined operations of a name
abbrev OfTable : List ℕ → Kind → Type 0
OfTable x (kind.Own i) = Unit {0}
OfTable x (kind.Given one two) = (named TABLE (x, 1) ≡ one) × (named TABLE (x, 2) ≡ two)
OfTable x kind.Free = Unit {0}

of_given : (x : List ℕ) (p q : Option Op) → named TABLE (x, 1) ≡ p → named TABLE (x, 2) ≡ q → OfTable x (given p q)
of_given x None None h k = tt
of_given x None (Some two) h k = (h, k)
of_given x (Some one) q h k = (h, k)

of_table : (own : List (List ℕ)) (x : List ℕ) → OfTable x (kind_of own x)
unfolding kind_of
of_table own x = by_number (number_of own x)
  where
    by_number : (n : Option ℕ) → OfTable x (kind_at n x)
    by_number (Some i) = tt
    by_number None = of_given x (named TABLE (x, 1)) (named TABLE (x, 2)) refl refl

leads : (x : List ℕ) (k : Kind) (more : Bool) (join : Join) → is_name x ≡ true → OfTable x k → lead_by k x more ≡ Some join → Joins1 join
leads x (kind.Own i) more join h t e = cc
leads x (kind.Given None two) more join h t e = cc
leads x (kind.Given (Some o) two) more join h t e = let same : j.Op o ≡ join = cc in subst Joins1 same (one_place x o t.0)
leads x kind.Free true join h t e = let same : j.Call (unary x) ≡ join = cc in subst Joins1 same (call_of x h).1
leads x kind.Free false join h t e = cc

sign_leads : (sign : Sign) (join : Join) → sign_lead sign ≡ Some join → Joins1 join
sign_leads s.Plus join e = subst Joins1 (same_Some _ join e) refl
sign_leads s.Minus join e = subst Joins1 (same_Some _ join e) refl
sign_leads s.Hash join e = subst Joins1 (same_Some _ join e) refl
sign_leads s.StarSlash join e = subst Joins1 (same_Some _ join e) refl
sign_leads s.SlashStar join e = subst Joins1 (same_Some _ join e) refl
sign_leads _ join e = cc

lead_joins : (own : List (List ℕ)) (token : Lexeme) (ts : List Lexeme) (join : Join) → IsFine token → lead own token ts ≡ Some join → Joins1 join
lead_joins own (t.Name x) ts join h e = leads x (kind_of own x) _ join h (of_table own x) e
lead_joins own (t.Sign sign) ts join h e = sign_leads sign join e
lead_joins own (t.Number bytes) ts join h e = cc
lead_joins own (t.Keyword x) ts join h e = cc
lead_joins own (t.Text bytes) ts join h e = cc
lead_joins own t.Other ts join h e = cc

infixes : (x : List ℕ) (k : Kind) (i : Infix) → is_name x ≡ true → OfTable x k → infix_by k x ≡ Some i → Joins2 i.join
infixes x (kind.Own n) i h t e = cc
infixes x (kind.Given one None) i h t e = cc
infixes x (kind.Given one (Some o)) i h t e = by_member (is_membership o) refl e
  where
    by_member : (m : Bool) → is_membership o ≡ m → (if m then None else Some (leftward 1 (j.Op o))) ≡ Some i → Joins2 i.join
    by_member true is g = cc
    by_member false is g =
        subst (λ (i : Infix). Joins2 i.join) (same_Some (leftward 1 (j.Op o)) i g) (only_infix (is_infix o) refl (two_places x o h t.1))
      where
        only_infix : (y : Bool) → is_infix o ≡ y → (is_infix o || is_membership o) ≡ true → is_infix o ≡ true
        only_infix true is_so g = is_so
        only_infix false is_so g = let no : (is_infix o || is_membership o) ≡ false = ap (λ y. y || is_membership o) is_so ∙ is in cc
infixes x kind.Free i h t e = subst (λ (i : Infix). Joins2 i.join) (same_Some _ i e) (call_of x h).2

sign_infixes : (sign : Sign) (i : Infix) → sign_infix sign ≡ Some i → Joins2 i.join
sign_infixes s.LessLess i e = subst (λ (i : Infix). Joins2 i.join) (same_Some _ i e) refl
sign_infixes s.MoreLess i e = subst (λ (i : Infix). Joins2 i.join) (same_Some _ i e) refl
sign_infixes s.MoreMore i e = subst (λ (i : Infix). Joins2 i.join) (same_Some _ i e) refl
sign_infixes s.Caret i e = subst (λ (i : Infix). Joins2 i.join) (same_Some _ i e) refl
sign_infixes s.CaretCaret i e = subst (λ (i : Infix). Joins2 i.join) (same_Some _ i e) refl
sign_infixes s.Plus i e = subst (λ (i : Infix). Joins2 i.join) (same_Some _ i e) refl
sign_infixes s.Minus i e = subst (λ (i : Infix). Joins2 i.join) (same_Some _ i e) refl
sign_infixes s.Star i e = subst (λ (i : Infix). Joins2 i.join) (same_Some _ i e) refl
sign_infixes s.Slash i e = subst (λ (i : Infix). Joins2 i.join) (same_Some _ i e) refl
sign_infixes s.Hash i e = subst (λ (i : Infix). Joins2 i.join) (same_Some _ i e) refl
sign_infixes s.StarStar i e = subst (λ (i : Infix). Joins2 i.join) (same_Some _ i e) refl
sign_infixes s.At i e = subst (λ (i : Infix). Joins2 i.join) (same_Some _ i e) refl
sign_infixes s.Bar i e = subst (λ (i : Infix). Joins2 i.join) (same_Some _ i e) refl
sign_infixes _ i e = cc

infix_joins : (own : List (List ℕ)) (token : Lexeme) (i : Infix) → IsFine token → infix_of own token ≡ Some i → Joins2 i.join
infix_joins own (t.Name x) i h e = infixes x (kind_of own x) i h (of_table own x) e
infix_joins own (t.Sign sign) i h e = sign_infixes sign i e
infix_joins own (t.Number bytes) i h e = cc
infix_joins own (t.Keyword x) i h e = cc
infix_joins own (t.Text bytes) i h e = cc
infix_joins own t.Other i h e = cc

-- ---- a number of an own name is one of the names

number_within : (own : List (List ℕ)) (x : List ℕ) (i : ℕ) → number_of own x ≡ Some i → i < length own
number_within own x i h = by_test (nat_lt (position_or_len (text_eq x) own) (length own)) refl h
  where
    by_test : (b : Bool) → nat_lt (position_or_len (text_eq x) own) (length own) ≡ b → (if b then Some (position_or_len (text_eq x) own) else None) ≡ Some i → i < length own
    by_test true is e = subst (λ n. n < length own) (same_Some (position_or_len (text_eq x) own) i e) (ltb-true (position_or_len (text_eq x) own) (length own) is)
    by_test false is e = cc

-- ---- lists that have something

some_parts : {own : List (List ℕ)} {d : ℕ} {parts : List Expr} {ts rest : List Lexeme} → Parts own d parts ts rest → 1 ≤ length parts
some_parts (c.one p) = omega arith
some_parts (c.more p q) = omega arith

some_fills : {own : List (List ℕ)} {d : ℕ} {fills : List Fill} {ts rest : List Lexeme} → Fills own d fills ts rest → some fills ≡ true
some_fills (c.one_fill p) = refl
some_fills (c.more_fills p q) = refl

some_pairs : {own : List (List ℕ)} {d : ℕ} {pairs : List Pair} {ts rest : List Lexeme} → Pairs own d pairs ts rest → some pairs ≡ true
some_pairs (c.one_pair p) = refl
some_pairs (c.more_pairs p q) = refl

-- ---- the two folds, a layer at a time

pub both : (x y : Bool) → x ≡ true → y ≡ true → (x && y) ≡ true
both x y p q = ap (λ z. z && y) p ∙ q

module _ (names : Names) where
  abbrev regular : Expr → Bool
  regular = has_regular_parts names

  abbrev regular_fill : Fill → Bool
  regular_fill = fold-Fill Bool Bool Bool Bool (expression_is names) (fill_is names) (piece_is names) (pair_is names)

  abbrev regular_piece : Piece → Bool
  regular_piece = fold-Piece Bool Bool Bool Bool (expression_is names) (fill_is names) (piece_is names) (pair_is names)

  abbrev regular_pair : Pair → Bool
  regular_pair = fold-Pair Bool Bool Bool Bool (expression_is names) (fill_is names) (piece_is names) (pair_is names)

  abbrev is_value : ℕ → Bool
  is_value i = is_value_kind (names.refinement i)

  abbrev values : Expr → Bool
  values = names_are is_value

  abbrev values_fill : Fill → Bool
  values_fill = fold-Fill Bool Bool Bool Bool (expression_names_are is_value) (fill_names_are is_value) (piece_names_are is_value) (pair_names_are is_value)

  abbrev values_piece : Piece → Bool
  values_piece = fold-Piece Bool Bool Bool Bool (expression_names_are is_value) (fill_names_are is_value) (piece_names_are is_value) (pair_names_are is_value)

  abbrev values_pair : Pair → Bool
  values_pair = fold-Pair Bool Bool Bool Bool (expression_names_are is_value) (fill_names_are is_value) (piece_names_are is_value) (pair_names_are is_value)

  number_layer : (v : Fraction) → regular (e.Number v) ≡ true
  number_layer v = search (rules, the_lemmas)

  text_layer : (pieces : List Piece) → (regular (e.Text pieces) ≡ every (map regular_piece pieces)) × (values (e.Text pieces) ≡ every (map values_piece pieces))
  text_layer pieces = (search (rules, the_lemmas), search (rules, the_lemmas))

  pub name_layer : (i : ℕ) → (regular (own_name i) ≡ (nat_lt i names.count && is_value i)) × (values (own_name i) ≡ is_value i)
  name_layer i = (search (rules, the_lemmas), search (rules, the_lemmas))

  compound_layer : (xs : List Expr) → (regular (e.Compound xs) ≡ (nat_le 2 (length (map regular xs)) && every (map regular xs))) × (values (e.Compound xs) ≡ every (map values xs))
  compound_layer xs = (search (rules, the_lemmas), search (rules, the_lemmas))

  empty_layer : regular e.Empty ≡ true
  empty_layer = search (rules, the_lemmas)

  list_layer : (fills : List Fill) → (regular (e.List fills) ≡ (some fills && every (map regular_fill fills))) × (values (e.List fills) ≡ every (map values_fill fills))
  list_layer fills = (search (rules, the_lemmas), search (rules, the_lemmas))

  table_layer : (pairs : List Pair) → (regular (e.Table pairs) ≡ (some pairs && every (map regular_pair pairs))) × (values (e.Table pairs) ≡ every (map values_pair pairs))
  table_layer pairs = (search (rules, the_lemmas), search (rules, the_lemmas))

  select_layer : (x y : Expr) → (regular (e.Select x y) ≡ (regular x && regular y)) × (values (e.Select x y) ≡ (values x && values y))
  select_layer x y = (search (rules, the_lemmas), search (rules, the_lemmas))

  prefix_layer : (o : Op) (x : Expr) → (regular (e.Apply1 o x) ≡ (is_prefix o && regular x)) × (values (e.Apply1 o x) ≡ values x)
  prefix_layer o x = (search (rules, the_lemmas), search (rules, the_lemmas))

  infix_layer : (o : Op) (x y : Expr) → (regular (e.Apply2 o x y) ≡ (is_infix o && regular x && regular y)) × (values (e.Apply2 o x y) ≡ (values x && values y))
  infix_layer o x y = (search (rules, the_lemmas), search (rules, the_lemmas))

  pub call_layer : (f : Template) (xs : List Expr) → (regular (e.Call f xs) ≡ (is_call is_function f (length (map regular xs)) && every (map regular xs))) × (values (e.Call f xs) ≡ every (map values xs))
  call_layer f xs = (search (rules, the_lemmas), search (rules, the_lemmas))

  one_layer : (x : Expr) → (regular_fill (f.One x) ≡ regular x) × (values_fill (f.One x) ≡ values x)
  one_layer x = (search (rules, the_lemmas, fill_lemmas), search (rules, the_lemmas, fill_lemmas))

  range_layer : (x y : Expr) → (regular_fill (f.Range x y) ≡ (regular x && regular y)) × (values_fill (f.Range x y) ≡ (values x && values y))
  range_layer x y = (search (rules, the_lemmas, fill_lemmas), search (rules, the_lemmas, fill_lemmas))

  pair_layer : (x y : Expr) → (regular_pair (paired x y) ≡ (regular x && regular y)) × (values_pair (paired x y) ≡ (values x && values y))
  pair_layer x y = (search (rules, the_lemmas, pair_lemmas), search (rules, the_lemmas, pair_lemmas))

  chars_layer : (cs : List ℕ) → regular_piece (pc.Chars cs) ≡ list_all is_character cs
  chars_layer cs = search (rules, the_lemmas, piece_lemmas)

  conversion_layer : (x : Expr) → (regular_piece (pc.Conversion x) ≡ regular x) × (values_piece (pc.Conversion x) ≡ values x)
  conversion_layer x = (search (rules, the_lemmas, piece_lemmas), search (rules, the_lemmas, piece_lemmas))

  chars_values : (cs : List ℕ) → values_piece (pc.Chars cs) ≡ true
  chars_values cs = search (rules, the_lemmas, piece_lemmas)

  -- one part or several
  compound_values : (xs : List Expr) → values (compound xs) ≡ true → every (map values xs) ≡ true
  compound_values [] h = sym (compound_layer []).1 ∙ h
  compound_values (x ∷ []) h = both (values x) true h refl
  compound_values (x ∷ y ∷ xs) h = sym (compound_layer (x ∷ y ∷ xs)).1 ∙ h

  -- ---- the induction

  module _ (own : List (List ℕ)) (counted : names.count ≡ length own) (fine_line : (line : List ℕ) (ts : List Token) → AreTokens line ts → AreFine (map (seen line) ts)) where
    pub numbered : (x : List ℕ) (i : ℕ) → kind_of own x ≡ kind.Own i → nat_lt i names.count ≡ true
    numbered x i h = lt-ltb i names.count (subst (λ n. i < n) (sym counted) (number_within own x i (own_number own x i h)))

    join1_regular : (join : Join) (x : Expr) → Joins1 join → (values x ≡ true → regular x ≡ true) → values (joined1 join x) ≡ true → regular (joined1 join x) ≡ true
    join1_regular (j.Op o) x h ih v = (prefix_layer o x).0 ∙ both (is_prefix o) (regular x) h (ih (sym (prefix_layer o x).1 ∙ v))
    join1_regular (j.Call f) x h ih v =
        let vs = and_parts (values x) true (sym (call_layer f (x ∷ [])).1 ∙ v) in
        (call_layer f (x ∷ [])).0 ∙ both (is_call is_function f 1) (regular x && true) h (both (regular x) true (ih vs.0) refl)

    join2_regular : (join : Join) (x y : Expr) → Joins2 join → (values x ≡ true → regular x ≡ true) → (values y ≡ true → regular y ≡ true)
        → values (joined2 join x y) ≡ true → regular (joined2 join x y) ≡ true
    join2_regular (j.Op o) x y h p q v =
        let vs = and_parts (values x) (values y) (sym (infix_layer o x y).1 ∙ v) in
        (infix_layer o x y).0 ∙ infix_all o x y h (p vs.0) (q vs.1)
      where
        infix_all : (o : Op) (x y : Expr) → is_infix o ≡ true → regular x ≡ true → regular y ≡ true → (is_infix o && regular x && regular y) ≡ true
        infix_all o x y h p q = ap (λ z. z && regular x && regular y) h ∙ ap (λ z. true && z && regular y) p ∙ q
    join2_regular (j.Call f) x y h p q v =
        let vs = and_parts (values x) (values y && true) (sym (call_layer f (x ∷ y ∷ [])).1 ∙ v) in
        let ws = and_parts (values y) true vs.1 in
        (call_layer f (x ∷ y ∷ [])).0 ∙ both (is_call is_function f 2) (regular x && (regular y && true)) h (both (regular x) (regular y && true) (p vs.0) (both (regular y) true (q ws.0) refl))

    compound_regular : (xs : List Expr) → (every (map values xs) ≡ true → every (map regular xs) ≡ true) → 1 ≤ length xs → values (compound xs) ≡ true → regular (compound xs) ≡ true
    compound_regular [] ih l v = absurd (omega (arith, l))
    compound_regular (x ∷ []) ih l v = (and_parts (regular x) true (ih (compound_values (x ∷ []) v))).0
    compound_regular (x ∷ y ∷ xs) ih l v =
        (compound_layer (x ∷ y ∷ xs)).0 ∙ both (nat_le 2 (length (map regular (x ∷ y ∷ xs)))) (every (map regular (x ∷ y ∷ xs))) (le-leb 2 (suc (suc (length (map regular xs)))) (omega arith)) (ih (compound_values (x ∷ y ∷ xs) v))

    mutual
      spells : {d n : ℕ} {x : Expr} {ts rest : List Lexeme} → Spells own d n x ts rest → AreFine ts → (values x ≡ true → regular x ≡ true) × AreFine rest
      spells (c.number {v = v} h is) fine = ((λ vs. number_layer v), fine.1)
      spells (c.text {q = q} {bytes = bytes} {parts = parts} {pieces = pieces} h split p) fine =
          let chars = and_parts (is_character q) (list_all is_character bytes) fine.0 in (
            (λ vs. (text_layer pieces).0 ∙ spells_pieces p (parts_fine split chars.1) (sym (text_layer pieces).1 ∙ vs)),
            fine.1,
          )
      spells (c.name {i = i} {x = x} h is) fine =
          ((λ vs. (name_layer i).0 ∙ both (nat_lt i names.count) (is_value i) (numbered x i is) (sym (name_layer i).1 ∙ vs)), fine.1)
      spells (c.call {x = x} h is ends) fine =
          ((λ vs. (call_layer (nullary x) []).0 ∙ both (is_call is_function (nullary x) 0) true (call_of x fine.0).0 refl), fine.1)
      spells (c.before {join = join} {a = x} {t = token} {ts = ts} h l p) fine =
          let r = spells p fine.1 in (join1_regular join x (lead_joins own token ts join fine.0 l) r.0, r.1)
      spells (c.between {o = o} {a = x} {b = y} {t = token} h i p q) fine =
          let r = spells p fine in
          let u = spells q r.1.1 in
          (join2_regular o.join x y (infix_joins own token o r.1.0 i) r.0 u.0, u.1)
      spells (c.select {a = x} {parts = parts} h p q) fine =
          let r = spells p fine in
          let u = spells_parts q r.1.1 in (
            (λ vs.
                let both_are = and_parts (values x) (values (compound parts)) (sym (select_layer x (compound parts)).1 ∙ vs) in
                (select_layer x (compound parts)).0 ∙ both (regular x) (regular (compound parts)) (r.0 both_are.0) (compound_regular parts u.0 (some_parts q) both_are.1)),
            u.1.1,
          )
      spells (c.round {parts = parts} h q) fine = let u = spells_parts q fine.1 in (compound_regular parts u.0 (some_parts q), u.1.1)
      spells (c.empty h) fine = ((λ vs. empty_layer), fine.1.1)
      spells (c.list {fills = fills} h q) fine =
          let u = spells_fills q fine.1 in
          ((λ vs. (list_layer fills).0 ∙ both (some fills) (every (map regular_fill fills)) (some_fills q) (u.0 (sym (list_layer fills).1 ∙ vs))), u.1.1)
      spells (c.table {pairs = pairs} h q) fine =
          let u = spells_pairs q fine.1 in
          ((λ vs. (table_layer pairs).0 ∙ both (some pairs) (every (map regular_pair pairs)) (some_pairs q) (u.0 (sym (table_layer pairs).1 ∙ vs))), u.1.1)

      spells_parts : {d : ℕ} {parts : List Expr} {ts rest : List Lexeme} → Parts own d parts ts rest → AreFine ts → (every (map values parts) ≡ true → every (map regular parts) ≡ true) × AreFine rest
      spells_parts (c.one {a = x} p) fine =
          let r = spells p fine in ((λ vs. both (regular x) true (r.0 (and_parts (values x) true vs).0) refl), r.1)
      spells_parts (c.more {a = x} {parts = parts} p q) fine =
          let r = spells p fine in
          let u = spells_parts q r.1.1 in (
            (λ vs. let h = and_parts (values x) (every (map values parts)) vs in both (regular x) (every (map regular parts)) (r.0 h.0) (u.0 h.1)),
            u.1,
          )

      spells_filler : {d : ℕ} {fill : Fill} {ts rest : List Lexeme} → Filler own d fill ts rest → AreFine ts → (values_fill fill ≡ true → regular_fill fill ≡ true) × AreFine rest
      spells_filler (c.single {a = x} p) fine =
          let r = spells p fine in ((λ vs. (one_layer x).0 ∙ r.0 (sym (one_layer x).1 ∙ vs)), r.1)
      spells_filler (c.range {a = x} {b = y} p q) fine =
          let r = spells p fine in
          let u = spells q r.1.1 in (
            (λ vs. let h = and_parts (values x) (values y) (sym (range_layer x y).1 ∙ vs) in (range_layer x y).0 ∙ both (regular x) (regular y) (r.0 h.0) (u.0 h.1)),
            u.1,
          )

      spells_fills : {d : ℕ} {fills : List Fill} {ts rest : List Lexeme} → Fills own d fills ts rest → AreFine ts → (every (map values_fill fills) ≡ true → every (map regular_fill fills) ≡ true) × AreFine rest
      spells_fills (c.one_fill {fill = x} p) fine =
          let r = spells_filler p fine in ((λ vs. both (regular_fill x) true (r.0 (and_parts (values_fill x) true vs).0) refl), r.1)
      spells_fills (c.more_fills {fill = x} {fills = fills} p q) fine =
          let r = spells_filler p fine in
          let u = spells_fills q r.1.1 in (
            (λ vs. let h = and_parts (values_fill x) (every (map values_fill fills)) vs in both (regular_fill x) (every (map regular_fill fills)) (r.0 h.0) (u.0 h.1)),
            u.1,
          )

      spells_entry : {d : ℕ} {pair : Pair} {ts rest : List Lexeme} → Entry own d pair ts rest → AreFine ts → (values_pair pair ≡ true → regular_pair pair ≡ true) × AreFine rest
      spells_entry (c.entry {parts = parts} {a = x} p q) fine =
          let r = spells_parts p fine.1 in
          let u = spells q r.1.1.1 in (
            (λ vs.
                let h = and_parts (values (compound parts)) (values x) (sym (pair_layer (compound parts) x).1 ∙ vs) in
                (pair_layer (compound parts) x).0 ∙ both (regular (compound parts)) (regular x) (compound_regular parts r.0 (some_parts p) h.0) (u.0 h.1)),
            u.1,
          )

      spells_pairs : {d : ℕ} {pairs : List Pair} {ts rest : List Lexeme} → Pairs own d pairs ts rest → AreFine ts → (every (map values_pair pairs) ≡ true → every (map regular_pair pairs) ≡ true) × AreFine rest
      spells_pairs (c.one_pair {pair = x} p) fine =
          let r = spells_entry p fine in ((λ vs. both (regular_pair x) true (r.0 (and_parts (values_pair x) true vs).0) refl), r.1)
      spells_pairs (c.more_pairs {pair = x} {pairs = pairs} p q) fine =
          let r = spells_entry p fine in
          let u = spells_pairs q r.1.1 in (
            (λ vs. let h = and_parts (values_pair x) (every (map values_pair pairs)) vs in both (regular_pair x) (every (map regular_pair pairs)) (r.0 h.0) (u.0 h.1)),
            u.1,
          )

      spells_pieces : {d : ℕ} {parts : List Part} {pieces : List Piece} → Pieces own d parts pieces → PartsFine parts → every (map values_piece pieces) ≡ true → every (map regular_piece pieces) ≡ true
      spells_pieces c.none fine vs = refl
      spells_pieces (c.characters {cs = cs} {pieces = pieces} p) fine vs =
          both (regular_piece (pc.Chars cs)) (every (map regular_piece pieces)) (chars_layer cs ∙ fine.0)
          (spells_pieces p fine.1 (and_parts (values_piece (pc.Chars cs)) (every (map values_piece pieces)) vs).1)
      spells_pieces (c.conversion {bytes = bytes} {ts = ts} {fields = fields} {pieces = pieces} are p q) fine vs =
          let h = and_parts (values_piece (pc.Conversion (compound fields))) (every (map values_piece pieces)) vs in
          let r = spells_parts p (fine_line bytes ts are) in
          both (regular_piece (pc.Conversion (compound fields))) (every (map regular_piece pieces))
          ((conversion_layer (compound fields)).0 ∙ compound_regular fields r.0 (some_parts p) (sym (conversion_layer (compound fields)).1 ∙ h.0))
          (spells_pieces q fine h.1)

    pub spelled_regular : (d : ℕ) (x : Expr) (ts : List Lexeme) → AreFine ts → Spelled own d x ts [] → values x ≡ true → regular x ≡ true
    spelled_regular d x ts fine (parts, p, same) vs =
        ap regular same ∙ compound_regular parts (spells_parts p fine).0 (some_parts p) (ap values (sym same) ∙ vs)

    pub spells_regular : (d n : ℕ) (x : Expr) (ts rest : List Lexeme) → AreFine ts → Spells own d n x ts rest → (values x ≡ true → regular x ≡ true) × AreFine rest
    spells_regular d n x ts rest fine p = spells p fine
