-- The templates that lines say have the forms of their kinds.
use Rattle.std.proofs.Common.{◌≡◌, ℕ, suc, ◌+◌, Bool, true, false, List, [], ◌∷◌, ◌++◌, length, refl, ap, sym, ◌∙◌, subst, eq-eqb, arith}
use Rattle.std.specs.Prelude.{◌==◌, not}
use Rattle.std.specs.List.{list_all}
use Rattle.std.proofs.lemmas.Bool.{and_from}
use Rattle.abc_tokens.specs.Shape.{is_reserved}
use Rattle.abc_tree.specs.Regular.{Names, count_places, are_command_words, has_command_form, has_name_form, has_form, is_regular_template, is_regular_bound, is_call, is_command}
use Rattle.abc_tree.specs.declared.formulas.Bound.{Bound}
use Rattle.abc_tree.specs.declared.formulas.Bound.TheVariants as b
use Rattle.abc_tree.specs.declared.formulas.Expr.{Expr}
use Rattle.abc_tree.specs.declared.templates.Template.{Template}
use Rattle.abc_tree.specs.declared.templates.TemplateKind.TheVariants as template
use Rattle.abc_tree.specs.declared.templates.Word.{Word}
use Rattle.abc_tree.specs.declared.templates.Word.TheVariants as w
use Rattle.abc_expressions.specs.declared.lexemes.Lexeme.{Lexeme}
use Rattle.abc_expressions.specs.declared.lexemes.Lexeme.TheVariants as t
use Rattle.abc_formula.specs.TestGrammar as g
use Rattle.abc_formula.specs.TestGrammar.{gathered, Binds, BindsPart}
use Rattle.abc_clauses.specs.RegularClauses.{IsRegularTitle}
use Rattle.abc_clauses.specs.Says as says
use Rattle.abc_clauses.specs.Says.{ends_place, command_template, SaysWords, SaysPlaces, SaysFunction, SaysPattern}
use Rattle.abc_clauses.proofs.SoundTokens.{AreSound, sound_behind, part_sound}
use Rattle.abc_clauses.proofs.Spans.{Begins, NoWords, single_begins, single_plain}

-- no place is the first word
abbrev starts_key : List Word → Bool
starts_key [] = true
starts_key (w.Key x ∷ ws) = true
starts_key (w.Place ∷ ws) = false

-- the words behind a place are a command's
place_before : (ws : List Word) → starts_key ws ≡ true → are_command_words ws ≡ true → are_command_words (w.Place ∷ ws) ≡ true
place_before [] s h = refl
place_before (w.Key x ∷ ws) s h = h
place_before (w.Place ∷ ws) s h = cc

-- tokens that spell an expression have no keyword in front
no_place_ends : (front rest : List Lexeme) → Begins front → NoWords front → ends_place (front ++ rest) ≡ true → ⊥
no_place_ends [] rest b n h = absurd b
no_place_ends (t.Keyword x ∷ front) rest b n h = let e = n.0 in cc
no_place_ends (t.Name x ∷ front) rest b n h = cc
no_place_ends (t.Sign sign ∷ front) rest b n h = cc
no_place_ends (t.Number bytes ∷ front) rest b n h = cc
no_place_ends (t.Text bytes ∷ front) rest b n h = cc
no_place_ends (t.Other ∷ front) rest b n h = cc

-- a command's template has its form where its words have
template_regular : (words : List Word) (n : ℕ) → has_command_form words ≡ true → count_places words ≡ n → is_regular_template (command_template words n) ≡ true
template_regular words n f e = and_from _ _ f (eq-eqb n (count_places words) (sym e))

-- ---- calls

module _ {own : List (List ℕ)} where
  place_next : {words : List Word} {actuals : List Expr} {ts : List Lexeme} → SaysWords own words actuals ts → ends_place ts ≡ true → starts_key words ≡ true
  place_next says.none e = refl
  place_next (says.keyword p) e = refl
  place_next (says.actual {front = front} {rest = rest} is p e_2 q) e =
      absurd (no_place_ends front rest (single_begins p) (single_plain p) (sym (ap ends_place is) ∙ e))

  words_form : {words : List Word} {actuals : List Expr} {ts : List Lexeme} → SaysWords own words actuals ts → AreSound ts → are_command_words words ≡ true
  words_form says.none s = refl
  words_form (says.keyword p) s = and_from _ _ s.0.1 (words_form p s.1)
  words_form (says.actual {words = words} {front = front} {rest = rest} is p e q) s =
      place_before words (place_next q e) (words_form q (sound_behind front rest (subst AreSound is s)))

  words_count : {words : List Word} {actuals : List Expr} {ts : List Lexeme} → SaysWords own words actuals ts → count_places words ≡ length actuals
  words_count says.none = refl
  words_count (says.keyword p) = words_count p
  words_count (says.actual {words = words} {actuals = actuals} is p e q) =
      let more : count_places words ≡ length actuals = words_count q in
      let suc_is : length actuals + 1 ≡ suc (length actuals) = omega arith in ap (λ n. n + 1) more ∙ suc_is

  -- with a keyword in front that isn't reserved
  pub call_form : {words : List Word} {actuals : List Expr} {ts : List Lexeme} {x : List ℕ} → SaysWords own words actuals (t.Keyword x ∷ ts) → is_reserved x ≡ false → AreSound (t.Keyword x ∷ ts)
      → has_command_form words ≡ true
  call_form (says.keyword p) free s = and_from _ _ (ap not free) (and_from _ _ s.0.1 (words_form p s.1))
  call_form (says.actual {front = front} {rest = rest} is p e q) free s =
      absurd (no_place_ends front rest (single_begins p) (single_plain p) (sym (ap ends_place is)))

  pub call_regular : {words : List Word} {actuals : List Expr} {ts : List Lexeme} {x : List ℕ} → SaysWords own words actuals (t.Keyword x ∷ ts) → is_reserved x ≡ false → AreSound (t.Keyword x ∷ ts)
      → is_call is_command (command_template words (length actuals)) (length actuals) ≡ true
  call_regular {words = words} {actuals = actuals} p free s =
      and_from _ _ (and_from _ _ (template_regular words (length actuals) (call_form p free s) (words_count p)) refl) (eq-eqb (length actuals) (length actuals) refl)

-- ---- the headings of units

module _ {own : List (List ℕ)} (names : Names) (bound : (fewest d : ℕ) (several : List Bound) (ts rest : List Lexeme) → Binds own fewest d several ts rest → is_regular_bound names (gathered several) ≡ true) where
  places_next : {words : List Word} {formals : List Bound} {ts : List Lexeme} → SaysPlaces own words formals ts → ends_place ts ≡ true → starts_key words ≡ true
  places_next says.none e = refl
  places_next (says.keyword p) e = refl
  places_next (says.formal h e_2 p) e = cc

  places_form : {words : List Word} {formals : List Bound} {ts : List Lexeme} → SaysPlaces own words formals ts → AreSound ts → are_command_words words ≡ true
  places_form says.none s = refl
  places_form (says.keyword p) s = and_from _ _ s.0.1 (places_form p s.1)
  places_form (says.formal {words = words} h e p) s = place_before words (places_next p e) (places_form p s.1)

  places_count : {words : List Word} {formals : List Bound} {ts : List Lexeme} → SaysPlaces own words formals ts → count_places words ≡ length formals
  places_count says.none = refl
  places_count (says.keyword p) = places_count p
  places_count (says.formal {formals = formals} h e p) = let suc_is : length formals + 1 ≡ suc (length formals) = omega arith in ap (λ n. n + 1) (places_count p) ∙ suc_is

  -- a formal alone
  part_regular : {fewest d : ℕ} {a : Bound} {ts rest : List Lexeme} → BindsPart own fewest d a ts rest → is_regular_bound names a ≡ true
  part_regular {fewest = fewest} {d = d} {a = a} {ts = ts} {rest = rest} p = bound fewest d (a ∷ []) ts rest (g.last_name p)

  places_bounds : {words : List Word} {formals : List Bound} {ts : List Lexeme} → SaysPlaces own words formals ts → list_all (is_regular_bound names) formals ≡ true
  places_bounds says.none = refl
  places_bounds (says.keyword p) = places_bounds p
  places_bounds (says.formal {i = i} {x = x} {ts = ts} h e p) =
      let one : BindsPart own 0 0 (b.One (record { 0 = i })) (t.Name x ∷ ts) ts = g.one_name h in and_from _ _ (part_regular one) (places_bounds p)

  command_form : {words : List Word} {formals : List Bound} {ts : List Lexeme} {x : List ℕ} → SaysPlaces own words formals (t.Keyword x ∷ ts) → is_reserved x ≡ false → AreSound (t.Keyword x ∷ ts)
      → has_command_form words ≡ true
  command_form (says.keyword p) free s = and_from _ _ (ap not free) (and_from _ _ s.0.1 (places_form p s.1))

  -- a function's template and its formals
  record IsNamed (f : Template) (formals : List Bound) : Type 0 where
    form : has_name_form f.words ≡ true
    kind : f.kind ≡ template.Function
    count : (f.places == count_places f.words) ≡ true
    places : (length formals == f.places) ≡ true
    bounds : list_all (is_regular_bound names) formals ≡ true

  named : {f : Template} {formals : List Bound} {ts : List Lexeme} → SaysFunction own f formals ts → AreSound ts → IsNamed f formals
  named says.alone s = record { form = s.0.0; kind = refl; count = refl; places = refl; bounds = refl }
  named (says.before p) s = record { form = s.0.0; kind = refl; count = refl; places = refl; bounds = and_from _ _ (part_regular p) refl }
  named (says.between p q) s = record { form = (part_sound p s).0.0; kind = refl; count = refl; places = refl; bounds = and_from _ _ (part_regular p) (and_from _ _ (part_regular q) refl) }

  pub pattern_regular : {f : Template} {formals : List Bound} {ts : List Lexeme} → SaysPattern own f formals ts → AreSound ts → IsRegularTitle names f formals
  pattern_regular (says.command {words = words} {formals = formals} free p) s = record {
    template = template_regular words (length formals) (command_form p free s) (places_count p);
    places = eq-eqb (length formals) (length formals) refl;
    bounds = places_bounds p;
  }
  pattern_regular (says.function {f = f} p) s =
      let n = named p s.1 in
      record { template = and_from _ _ (subst (λ k. has_form k f.words ≡ true) (sym n.kind) n.form) n.count; places = n.places; bounds = n.bounds }
  pattern_regular (says.predicate_unit p) s = let n = named p s.1 in record { template = and_from _ _ n.form n.count; places = n.places; bounds = n.bounds }
