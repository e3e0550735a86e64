-- The heading of a unit is the one that is computed for its tokens.
use Rattle.std.proofs.Common.{◌≡◌, ℕ, Bool, true, false, List, [], ◌∷◌, ◌++◌, length, Option, Some, None, refl, ap, sym, ◌∙◌, subst}
use Rattle.std.specs.Prelude.{option_map, codes, if◌then◌else◌}
use Rattle.std.proofs.lemmas.Option.{same_Some}
use Rattle.abc_num.specs.Text.{text_eq}
use Rattle.abc_num.proofs.Texts.{text_eq-Decides}
use Rattle.abc_num.specs.declared.limits.TheConstants.{MOST_LINE_BYTES}
use Rattle.abc_tokens.specs.Shape.{is_reserved}
use Rattle.abc_tree.specs.declared.formulas.Bound.{Bound}
use Rattle.abc_tree.specs.declared.formulas.Bound.TheVariants as b
use Rattle.abc_tree.specs.declared.templates.Template.{Template}
use Rattle.abc_tree.specs.declared.templates.Word.{Word}
use Rattle.abc_tree.specs.declared.templates.Word.TheVariants as w
use Rattle.abc_expressions.specs.declared.frames.Kind.{Kind}
use Rattle.abc_expressions.specs.declared.frames.Kind.TheVariants as kind
use Rattle.abc_expressions.specs.declared.lexemes.Lexeme.{Lexeme}
use Rattle.abc_expressions.specs.declared.lexemes.Lexeme.TheVariants as t
use Rattle.abc_expressions.specs.Operators.{kind_of, nullary, unary, binary}
use Rattle.abc_formula.specs.BoundFronts.{IsFormalFront}
use Rattle.abc_formula.specs.TestGrammar.{predicate, one_name}
use Rattle.abc_clauses.specs.Readings.{both, formal_place, place_of, places_of, command_by, formal_of, last_formal, before_of, between_name, between_by, between_of, named_of, function_of, pattern_by, pattern_of}
use Rattle.abc_clauses.specs.Says as says
use Rattle.abc_clauses.specs.Says.{SaysPlaces, SaysFunction, SaysPattern, command_template, ends_place}
use Rattle.abc_clauses.proofs.Found.{both_told, map_told, alone_told, if_told, unless_told}
use Rattle.abc_clauses.proofs.Fronts.{formal_found, formal_told, no_formal}

abbrev Title : Type 0
Title = Template × List Bound

abbrev Places : Type 0
Places = List Word × List Bound

abbrev Place : Type 0
Place = Word × List Bound

abbrev with_place : Place → Places → Places
with_place place read = (place.0 ∷ read.0, place.1 ++ read.1)

-- a name of one's own before a keyword or the end is a formal
pub place_found : (k : Kind) (i : ℕ) (ts : List Lexeme) → k ≡ kind.Own i → ends_place ts ≡ true → formal_place k ts ≡ Some (w.Place, b.One (record { 0 = i }) ∷ [])
place_found k i ts is e =
    ap (λ k. formal_place k ts) is ∙ ap (λ (c : Bool). if c then Some (w.Place, b.One (record { 0 = i }) ∷ []) else None) e

module _ (own : List (List ℕ)) where
  -- ---- the words and formals of a command

  pub places_found : {words : List Word} {formals : List Bound} {ts : List Lexeme} → SaysPlaces own words formals ts → places_of own ts ≡ Some (words, formals)
  places_found says.none = refl
  places_found (says.keyword {x = x} p) = ap (λ r. both with_place (Some (w.Key x, [])) r) (places_found p)
  places_found (says.formal {i = i} {x = x} {ts = ts} h e p) =
      ap (λ k. both with_place (formal_place k ts) (places_of own ts)) h
      ∙ ap (λ (c : Bool). both with_place (if c then Some (w.Place, b.One (record { 0 = i }) ∷ []) else None) (places_of own ts)) e
      ∙ ap (λ r. both with_place (Some (w.Place, b.One (record { 0 = i }) ∷ [])) r) (places_found p)

  formal_by : (x : List ℕ) (ts : List Lexeme) (k : Kind) → kind_of own x ≡ k → (place : Place) → formal_place k ts ≡ Some place → (read : Places) → SaysPlaces own read.0 read.1 ts
      → SaysPlaces own (with_place place read).0 (with_place place read).1 (t.Name x ∷ ts)
  formal_by x ts (kind.Own i) is place h read p =
      let m = if_told (ends_place ts) (Some (w.Place, b.One (record { 0 = i }) ∷ [])) place h in
      subst (λ (c : Place). SaysPlaces own (with_place c read).0 (with_place c read).1 (t.Name x ∷ ts)) (same_Some (w.Place, b.One (record { 0 = i }) ∷ []) place m.1)
      (says.formal is m.0 p)
  formal_by x ts (kind.Given one two) is place h read p = cc
  formal_by x ts kind.Free is place h read p = cc

  place_by : (token : Lexeme) (ts : List Lexeme) (place : Place) → place_of own token ts ≡ Some place → (read : Places) → SaysPlaces own read.0 read.1 ts
      → SaysPlaces own (with_place place read).0 (with_place place read).1 (token ∷ ts)
  place_by (t.Keyword x) ts place h read p =
      subst (λ (c : Place). SaysPlaces own (with_place c read).0 (with_place c read).1 (t.Keyword x ∷ ts)) (same_Some (w.Key x, []) place h) (says.keyword p)
  place_by (t.Name x) ts place h read p = formal_by x ts (kind_of own x) refl place h read p
  place_by (t.Sign sign) ts place h read p = cc
  place_by (t.Number bytes) ts place h read p = cc
  place_by (t.Text bytes) ts place h read p = cc
  place_by t.Other ts place h read p = cc

  pub places_told : (ts : List Lexeme) (places : Places) → places_of own ts ≡ Some places → SaysPlaces own places.0 places.1 ts
  places_told [] places h = subst (λ (c : Places). SaysPlaces own c.0 c.1 []) (same_Some ([], []) places h) says.none
  places_told (token ∷ ts) places h =
      let m = both_told with_place (place_of own token ts) (places_of own ts) places h in
      subst (λ (c : Places). SaysPlaces own c.0 c.1 (token ∷ ts)) m.4 (place_by token ts m.0 m.2 m.1 (places_told ts m.1 m.3))

  -- ---- functions

  last_found : (ts : List Lexeme) (a : Bound) → IsFormalFront own MOST_LINE_BYTES ts a [] → last_formal (formal_of own ts) ≡ Some a
  last_found ts a p = ap last_formal (formal_found own ts a [] p)

  last_by : (ts : List Lexeme) (a : Bound) (x : Option (Bound × List Lexeme)) → formal_of own ts ≡ x → last_formal x ≡ Some a → IsFormalFront own MOST_LINE_BYTES ts a []
  last_by ts a None is h = cc
  last_by ts a (Some (c, rest)) is h =
      let m = alone_told c rest a h in
      formal_told own ts a [] (is ∙ ap (λ us. Some (c, us)) m.0 ∙ ap (λ x. Some (x, [])) m.1)

  last_told : (ts : List Lexeme) (a : Bound) → last_formal (formal_of own ts) ≡ Some a → IsFormalFront own MOST_LINE_BYTES ts a []
  last_told ts a h = last_by ts a (formal_of own ts) refl h

  -- a name is a formal by itself
  behind_name : {d : ℕ} {x : List ℕ} {us rest : List Lexeme} {a : Bound} → IsFormalFront own d (t.Name x ∷ us) a rest → rest ≡ us
  behind_name (one_name h) = refl

  before_found : (x : List ℕ) (ts : List Lexeme) (a : Bound) → IsFormalFront own MOST_LINE_BYTES ts a [] → before_of own x ts ≡ Some (unary x, a ∷ [])
  before_found x ts a p = ap (option_map (λ a. (unary x, a ∷ []))) (last_found ts a p)

  named_found : (x : List ℕ) (ts : List Lexeme) (a : Bound) → IsFormalFront own MOST_LINE_BYTES ts a [] → named_of own x ts ≡ Some (unary x, a ∷ [])
  named_found x [] a p = absurd (no_formal own a [] p)
  named_found x (t.Name y ∷ []) a p = before_found x (t.Name y ∷ []) a p
  named_found x (t.Name y ∷ token ∷ us) a p = let e : [] ≡ token ∷ us = behind_name p in cc
  named_found x (t.Keyword y ∷ us) a p = before_found x (t.Keyword y ∷ us) a p
  named_found x (t.Sign sign ∷ us) a p = before_found x (t.Sign sign ∷ us) a p
  named_found x (t.Number bytes ∷ us) a p = before_found x (t.Number bytes ∷ us) a p
  named_found x (t.Text bytes ∷ us) a p = before_found x (t.Text bytes ∷ us) a p
  named_found x (t.Other ∷ us) a p = before_found x (t.Other ∷ us) a p

  between_found : (x : List ℕ) (ts us : List Lexeme) (a c : Bound) → IsFormalFront own MOST_LINE_BYTES ts a (t.Name x ∷ us) → IsFormalFront own MOST_LINE_BYTES us c []
      → between_of own ts ≡ Some (binary x, a ∷ c ∷ [])
  between_found x ts us a c p q =
      ap (λ x. between_by own x) (formal_found own ts a (t.Name x ∷ us) p) ∙ ap (option_map (λ c. (binary x, a ∷ c ∷ []))) (last_found us c q)

  two_names : (y x : List ℕ) (us : List Lexeme) (a c : Bound) → IsFormalFront own MOST_LINE_BYTES (t.Name y ∷ t.Name x ∷ us) a (t.Name x ∷ us)
      → IsFormalFront own MOST_LINE_BYTES us c [] → named_of own y (t.Name x ∷ us) ≡ Some (binary x, a ∷ c ∷ [])
  two_names y x [] a c p q = absurd (no_formal own c [] q)
  two_names y x (token ∷ us) a c p q = between_found x (t.Name y ∷ t.Name x ∷ token ∷ us) (token ∷ us) a c p q

  middle_found : (x : List ℕ) (ts us : List Lexeme) (a c : Bound) → IsFormalFront own MOST_LINE_BYTES ts a (t.Name x ∷ us) → IsFormalFront own MOST_LINE_BYTES us c []
      → function_of own ts ≡ Some (binary x, a ∷ c ∷ [])
  middle_found x [] us a c p q = between_found x [] us a c p q
  middle_found x (t.Name y ∷ vs) us a c p q =
      let e : t.Name x ∷ us ≡ vs = behind_name p in
      ap (λ vs. named_of own y vs) (sym e) ∙ two_names y x us a c (subst (λ vs. IsFormalFront own MOST_LINE_BYTES (t.Name y ∷ vs) a (t.Name x ∷ us)) (sym e) p) q
  middle_found x (t.Keyword y ∷ vs) us a c p q = between_found x (t.Keyword y ∷ vs) us a c p q
  middle_found x (t.Sign sign ∷ vs) us a c p q = between_found x (t.Sign sign ∷ vs) us a c p q
  middle_found x (t.Number bytes ∷ vs) us a c p q = between_found x (t.Number bytes ∷ vs) us a c p q
  middle_found x (t.Text bytes ∷ vs) us a c p q = between_found x (t.Text bytes ∷ vs) us a c p q
  middle_found x (t.Other ∷ vs) us a c p q = between_found x (t.Other ∷ vs) us a c p q

  pub function_found : {f : Template} {formals : List Bound} {ts : List Lexeme} → SaysFunction own f formals ts → function_of own ts ≡ Some (f, formals)
  function_found says.alone = refl
  function_found (says.before {x = x} {a = a} {ts = ts} p) = named_found x ts a p
  function_found (says.between {x = x} {a = a} {c = c} {ts = ts} {us = us} p q) = middle_found x ts us a c p q

  before_told : (x : List ℕ) (ts : List Lexeme) (title : Title) → before_of own x ts ≡ Some title → SaysFunction own title.0 title.1 (t.Name x ∷ ts)
  before_told x ts title h =
      let m = map_told (λ a. (unary x, a ∷ [])) (last_formal (formal_of own ts)) title h in
      subst (λ (c : Title). SaysFunction own c.0 c.1 (t.Name x ∷ ts)) m.2 (says.before (last_told ts m.0 m.1))

  between_rest : (ts : List Lexeme) (a : Bound) (rest : List Lexeme) (title : Title) → IsFormalFront own MOST_LINE_BYTES ts a rest → between_name own a rest ≡ Some title
      → SaysFunction own title.0 title.1 ts
  between_rest ts a [] title p h = cc
  between_rest ts a (t.Name x ∷ us) title p h =
      let m = map_told (λ c. (binary x, a ∷ c ∷ [])) (last_formal (formal_of own us)) title h in
      subst (λ (c : Title). SaysFunction own c.0 c.1 ts) m.2 (says.between p (last_told us m.0 m.1))
  between_rest ts a (t.Keyword x ∷ us) title p h = cc
  between_rest ts a (t.Sign sign ∷ us) title p h = cc
  between_rest ts a (t.Number bytes ∷ us) title p h = cc
  between_rest ts a (t.Text bytes ∷ us) title p h = cc
  between_rest ts a (t.Other ∷ us) title p h = cc

  between_front : (ts : List Lexeme) (x : Option (Bound × List Lexeme)) → formal_of own ts ≡ x → (title : Title) → between_by own x ≡ Some title → SaysFunction own title.0 title.1 ts
  between_front ts None is title h = cc
  between_front ts (Some (a, rest)) is title h = between_rest ts a rest title (formal_told own ts a rest is) h

  between_told : (ts : List Lexeme) (title : Title) → between_of own ts ≡ Some title → SaysFunction own title.0 title.1 ts
  between_told ts title h = between_front ts (formal_of own ts) refl title h

  named_told : (x : List ℕ) (ts : List Lexeme) (title : Title) → named_of own x ts ≡ Some title → SaysFunction own title.0 title.1 (t.Name x ∷ ts)
  named_told x [] title h = subst (λ (c : Title). SaysFunction own c.0 c.1 (t.Name x ∷ [])) (same_Some (nullary x, []) title h) says.alone
  named_told x (t.Name y ∷ []) title h = before_told x (t.Name y ∷ []) title h
  named_told x (t.Name y ∷ token ∷ us) title h = between_told (t.Name x ∷ t.Name y ∷ token ∷ us) title h
  named_told x (t.Keyword y ∷ us) title h = before_told x (t.Keyword y ∷ us) title h
  named_told x (t.Sign sign ∷ us) title h = before_told x (t.Sign sign ∷ us) title h
  named_told x (t.Number bytes ∷ us) title h = before_told x (t.Number bytes ∷ us) title h
  named_told x (t.Text bytes ∷ us) title h = before_told x (t.Text bytes ∷ us) title h
  named_told x (t.Other ∷ us) title h = before_told x (t.Other ∷ us) title h

  pub function_told : (ts : List Lexeme) (title : Title) → function_of own ts ≡ Some title → SaysFunction own title.0 title.1 ts
  function_told [] title h = between_told [] title h
  function_told (t.Name x ∷ ts) title h = named_told x ts title h
  function_told (t.Keyword x ∷ ts) title h = between_told (t.Keyword x ∷ ts) title h
  function_told (t.Sign sign ∷ ts) title h = between_told (t.Sign sign ∷ ts) title h
  function_told (t.Number bytes ∷ ts) title h = between_told (t.Number bytes ∷ ts) title h
  function_told (t.Text bytes ∷ ts) title h = between_told (t.Text bytes ∷ ts) title h
  function_told (t.Other ∷ ts) title h = between_told (t.Other ∷ ts) title h

  -- ---- what stands behind HOW TO

  -- RETURN and REPORT are reserved
  free_word : (x word : List ℕ) → is_reserved word ≡ true → is_reserved x ≡ false → text_eq x word ≡ false
  free_word x word reserved free = by_test (text_eq x word) refl
    where
      by_test : (c : Bool) → text_eq x word ≡ c → text_eq x word ≡ false
      by_test true e = let same : x ≡ word = (text_eq-Decides x word).0 e in let yes : is_reserved x ≡ true = ap is_reserved same ∙ reserved in absurd (let n : true ≡ false = sym yes ∙ free in cc)
      by_test false e = e

  command_found : (x : List ℕ) (words : List Word) (formals : List Bound) (ts : List Lexeme) → is_reserved x ≡ false → SaysPlaces own words formals (t.Keyword x ∷ ts)
      → pattern_by own x ts ≡ Some (command_template words (length formals), formals)
  command_found x words formals ts free p =
      ap (λ (c : Bool). if c then function_of own ts else (if text_eq x (codes "REPORT") then option_map (λ (read : Title). (predicate read.0, read.1)) (function_of own ts)
      else (if is_reserved x then None else command_by (places_of own (t.Keyword x ∷ ts))))) (free_word x (codes "RETURN") refl free)
      ∙ ap (λ (c : Bool). if c then option_map (λ (read : Title). (predicate read.0, read.1)) (function_of own ts)
      else (if is_reserved x then None else command_by (places_of own (t.Keyword x ∷ ts)))) (free_word x (codes "REPORT") refl free)
      ∙ ap (λ (c : Bool). if c then None else command_by (places_of own (t.Keyword x ∷ ts))) free
      ∙ ap command_by (places_found p)

  pub pattern_found : {f : Template} {formals : List Bound} {ts : List Lexeme} → SaysPattern own f formals ts → pattern_of own ts ≡ Some (f, formals)
  pattern_found (says.command {x = x} {words = words} {formals = formals} {ts = ts} free p) = command_found x words formals ts free p
  pattern_found (says.function p) = function_found p
  pattern_found (says.predicate_unit p) = ap (option_map (λ (read : Title). (predicate read.0, read.1))) (function_found p)

  command_told : (x : List ℕ) (ts : List Lexeme) (title : Title) → is_reserved x ≡ false → command_by (places_of own (t.Keyword x ∷ ts)) ≡ Some title
      → SaysPattern own title.0 title.1 (t.Keyword x ∷ ts)
  command_told x ts title free h =
      let m = map_told (λ (read : Places). (command_template read.0 (length read.1), read.1)) (places_of own (t.Keyword x ∷ ts)) title h in
      subst (λ (c : Title). SaysPattern own c.0 c.1 (t.Keyword x ∷ ts)) m.2 (says.command free (places_told (t.Keyword x ∷ ts) m.0 m.1))

  other_told : (x : List ℕ) (ts : List Lexeme) (title : Title) (c : Bool) → text_eq x (codes "REPORT") ≡ c
      → (if c then option_map (λ (read : Title). (predicate read.0, read.1)) (function_of own ts) else (if is_reserved x then None else command_by (places_of own (t.Keyword x ∷ ts)))) ≡ Some title
      → SaysPattern own title.0 title.1 (t.Keyword x ∷ ts)
  other_told x ts title true e h =
      let m = map_told (λ (read : Title). (predicate read.0, read.1)) (function_of own ts) title h in
      subst (λ (c : Title). SaysPattern own c.0 c.1 (t.Keyword x ∷ ts)) m.2
      (subst (λ y. SaysPattern own (predicate m.0.0) m.0.1 (t.Keyword y ∷ ts)) (sym ((text_eq-Decides x (codes "REPORT")).0 e)) (says.predicate_unit (function_told ts m.0 m.1)))
  other_told x ts title false e h =
      let m = unless_told (is_reserved x) (command_by (places_of own (t.Keyword x ∷ ts))) title h in command_told x ts title m.0 m.1

  keyed_told : (x : List ℕ) (ts : List Lexeme) (title : Title) (c : Bool) → text_eq x (codes "RETURN") ≡ c
      → (if c then function_of own ts else (if text_eq x (codes "REPORT") then option_map (λ (read : Title). (predicate read.0, read.1)) (function_of own ts)
      else (if is_reserved x then None else command_by (places_of own (t.Keyword x ∷ ts))))) ≡ Some title → SaysPattern own title.0 title.1 (t.Keyword x ∷ ts)
  keyed_told x ts title true e h =
      subst (λ y. SaysPattern own title.0 title.1 (t.Keyword y ∷ ts)) (sym ((text_eq-Decides x (codes "RETURN")).0 e)) (says.function (function_told ts title h))
  keyed_told x ts title false e h = other_told x ts title (text_eq x (codes "REPORT")) refl h

  pub pattern_told : (ts : List Lexeme) (title : Title) → pattern_of own ts ≡ Some title → SaysPattern own title.0 title.1 ts
  pattern_told [] title h = cc
  pattern_told (t.Keyword x ∷ ts) title h = keyed_told x ts title (text_eq x (codes "RETURN")) refl h
  pattern_told (t.Name x ∷ ts) title h = cc
  pattern_told (t.Sign sign ∷ ts) title h = cc
  pattern_told (t.Number bytes ∷ ts) title h = cc
  pattern_told (t.Text bytes ∷ ts) title h = cc
  pattern_told (t.Other ∷ ts) title h = cc
