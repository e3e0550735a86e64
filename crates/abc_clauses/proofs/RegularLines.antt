-- What lines say is regular, as far as they tell.
use Rattle.std.proofs.Common.{◌≡◌, ◌≤◌, ℕ, suc, Bool, true, false, List, [], ◌∷◌, ◌++◌, length, map, Option, Some, None, refl, sym, ◌∙◌, subst, arith}
use Rattle.std.specs.Prelude.{◌↔◌, ◌&&◌, ◌||◌, nat_lt, nat_le, is_some, codes, option_map, Ok, All}
use Rattle.std.specs.List.{list_all, list_any}
use Rattle.std.proofs.lemmas.Bool.{and_from, and_parts, or_parts}
use Rattle.std.proofs.lemmas.Bool.Decides.{nat_tests}
use Rattle.std.proofs.lemmas.List.Folds.{list_any_at}
use Rattle.std.proofs.lemmas.List.Quantifiers.{position-Some}
use Rattle.abc_num.specs.Names.{number_of}
use Rattle.abc_num.specs.Text.{text_eq}
use Rattle.abc_num.specs.declared.limits.TheConstants.{MOST_BRACKETS, MOST_TREE_HEIGHT}
use Rattle.abc_tokens.specs.declared.kinds.Token.{Token}
use Rattle.abc_tokens.specs.Bytes.{is_small, is_capital}
use Rattle.abc_tokens.specs.Kinds.{IsSpelledSo, is_name, is_keyword}
use Rattle.abc_tokens.specs.ReadLine.{read_line}
use Rattle.abc_tokens.specs.Tokens.{AreTokens}
use Rattle.abc_tokens.specs.Words.{IsWord}
use Rattle.abc_tree.specs.Height.{height, test_height}
use Rattle.abc_tree.specs.Regular.{Names, every, has_regular_parts, is_address, is_regular_bound, is_regular_expression, is_regular_test}
use Rattle.abc_tree.specs.RegularItems.{Part, here, value, address, example, test, quits, returns, reports, calls, refinement, is_one_of, is_regular_part, node_parts, action_parts, way_of}
use Rattle.abc_tree.specs.declared.commands.ActionNode.{ActionNode}
use Rattle.abc_tree.specs.declared.commands.ActionNode.TheOpen.{ActionNode-F}
use Rattle.abc_tree.specs.declared.commands.ActionNode.TheVariants as action
use Rattle.abc_tree.specs.declared.formulas.Bound.{Bound}
use Rattle.abc_tree.specs.declared.formulas.Expr.{Expr}
use Rattle.abc_tree.specs.declared.formulas.Test.{Test}
use Rattle.abc_tree.specs.declared.templates.Word.{Word}
use Rattle.abc_expressions.specs.Addresses.{SpelledAddress}
use Rattle.abc_expressions.specs.Grammar.{Spells, Spelled}
use Rattle.abc_expressions.specs.NamesOfTrees.{names_give_values, AreFine}
use Rattle.abc_expressions.specs.Lexemes.{seen}
use Rattle.abc_expressions.specs.declared.lexemes.Lexeme.{Lexeme}
use Rattle.abc_expressions.specs.declared.lexemes.Lexeme.TheVariants as t
use Rattle.abc_expressions.specs.declared.signs.Sign.TheVariants as s
use Rattle.abc_formula.specs.BoundFronts.{IsBoundFront}
use Rattle.abc_formula.specs.RegularTests.{names_fit}
use Rattle.abc_formula.specs.TestGrammar.{gathered, Binds, Tests}
use Rattle.abc_formula.specs.declared.test_frames.Place.TheVariants as place
use Rattle.abc_clauses.specs.declared.clause.Clause.{Clause}
use Rattle.abc_clauses.specs.declared.clause.Head.{Head}
use Rattle.abc_clauses.specs.Fits.{value_fits, test_fits, fits_over, node_fits, head_fits, beside_fits, clause_fits}
use Rattle.abc_clauses.specs.Formulas.{value_is_high, test_is_high, high_over, node_is_high, head_is_high, beside_is_high, is_too_high}
use Rattle.abc_clauses.specs.Names.{Kinds, names_with, is_refinement}
use Rattle.abc_clauses.specs.Readings.{Said, clause_at, said_command, said_alternative, said_heading, said_refinement, command_of, alternative_of, heading_of, refinement_of}
use Rattle.abc_clauses.specs.RegularClauses.{any_exits, parts_in, IsRegularNode, IsRegularHead, IsRegularBeside, IsRegularClause, AreRegularLines}
use Rattle.abc_clauses.specs.Says as says
use Rattle.abc_clauses.specs.Says.{slashes, IsTest, calls_refinement, command_template, SaysWords, SaysSimple, SaysBeside, SaysCommand, SaysAlternative, SaysHeading, SaysRefinement}
use Rattle.abc_clauses.proofs.CommandForms.{call_regular, pattern_regular}
use Rattle.abc_clauses.proofs.Found.{map_told}
use Rattle.abc_clauses.proofs.Layers as layers
use Rattle.abc_clauses.proofs.SoundTokens.{AreSound, fine, sound_front, sound_behind, sound_sides, names_sound, sound_line}

-- ---- heights and names

is_low : (n : ℕ) → nat_lt MOST_TREE_HEIGHT n ≡ false → n ≤ MOST_TREE_HEIGHT
is_low n h = grind (arith, nat_tests)

low_test : (n : ℕ) → n ≤ MOST_TREE_HEIGHT → nat_le n MOST_TREE_HEIGHT ≡ true
low_test n h = grind (arith, nat_tests)

-- the keyword of a command refinement is one of them
one_of : (commands : List (List ℕ)) (x : List ℕ) → is_refinement commands x ≡ true → is_one_of commands x ≡ true
one_of commands x h = by_number (number_of commands x) refl h
  where
    by_number : (n : Option ℕ) → number_of commands x ≡ n → is_some n ≡ true → is_one_of commands x ≡ true
    by_number None e h_2 = cc
    by_number (Some i) e h_2 = let p = position-Some (text_eq x) commands i [] e in list_any_at (text_eq x) commands i [] p.0 p.1

-- what holds of formulas that are spelled
pub record SpelledLaws (own : List (List ℕ)) (names : Names) : Type 0 where
  pub expression : (a : Expr) (ts : List Lexeme) → AreFine ts → Spelled own MOST_BRACKETS a ts [] → names_give_values names a ≡ true → has_regular_parts names a ≡ true
  pub single : (a : Expr) (ts : List Lexeme) → AreFine ts → Spells own MOST_BRACKETS 1 a ts [] → names_give_values names a ≡ true → has_regular_parts names a ≡ true
  pub tested : (a : Test) (ts : List Lexeme) → AreFine ts → Tests own MOST_BRACKETS place.Whole a ts [] → names_fit names a ≡ true → test_height a ≤ MOST_TREE_HEIGHT
      → is_regular_test names a ≡ true
  pub bound : (fewest d : ℕ) (several : List Bound) (ts rest : List Lexeme) → Binds own fewest d several ts rest → is_regular_bound names (gathered several) ≡ true
  pub addressed : (a : Expr) (ts : List Lexeme) → SpelledAddress own MOST_BRACKETS a ts [] → Spelled own MOST_BRACKETS a ts [] × (is_address a ≡ true)

module _ (own : List (List ℕ)) (kinds : Kinds) (laws : SpelledLaws own (names_with own kinds)) (commands : List (List ℕ)) (text : List ℕ) where
  abbrev names : Names
  names = names_with own kinds

  abbrev fits : Expr → Bool
  fits = value_fits own kinds

  abbrev regular : Part → Bool
  regular = is_regular_part names commands any_exits

  -- ---- formulas

  value_regular : (e : Expr) (ts : List Lexeme) → AreSound ts → Spelled own MOST_BRACKETS e ts [] → fits e ≡ true → value_is_high e ≡ false → is_regular_expression names e ≡ true
  value_regular e ts sound p fit low = and_from _ _ (laws.expression e ts (fine ts sound) p fit) (low_test (height e) (is_low (height e) low))

  single_regular : (e : Expr) (ts : List Lexeme) → AreSound ts → Spells own MOST_BRACKETS 1 e ts [] → fits e ≡ true → value_is_high e ≡ false → is_regular_expression names e ≡ true
  single_regular e ts sound p fit low = and_from _ _ (laws.single e ts (fine ts sound) p fit) (low_test (height e) (is_low (height e) low))

  address_regular : (a : Expr) (ts : List Lexeme) → AreSound ts → SpelledAddress own MOST_BRACKETS a ts [] → fits a ≡ true → value_is_high a ≡ false → regular (address a) ≡ true
  address_regular a ts sound p fit low = let q = laws.addressed a ts p in and_from _ _ (value_regular a ts sound q.0 fit low) q.1

  test_regular : (a : Test) (ts : List Lexeme) → AreSound ts → IsTest own kinds a ts → test_fits own kinds a ≡ true → test_is_high a ≡ false → is_regular_test names a ≡ true
  test_regular a ts sound p fit low = laws.tested a ts (fine ts sound) p.0 fit (is_low (test_height a) low)

  -- ---- simple commands

  abbrev IsFit : ActionNode → Type 0
  IsFit node = (node_fits own kinds node ≡ true) × (node_is_high node ≡ false)

  abbrev IsRegular : ActionNode → Type 0
  IsRegular node = IsRegularNode names commands node

  -- a command of two formulas, which are regular where they fit and are low
  record IsOfTwo (node : ActionNode) (e a : Expr) (p q : Part) : Type 0 where
    parts : parts_in node ≡ here (p ∷ q ∷ [])
    fit : node_fits own kinds node ≡ (fits e && fits a)
    high : node_is_high node ≡ (value_is_high e || value_is_high a)

  two_regular : (node : ActionNode) (e a : Expr) (p q : Part) → IsOfTwo node e a p q → (fits e ≡ true → value_is_high e ≡ false → regular p ≡ true)
      → (fits a ≡ true → value_is_high a ≡ false → regular q ≡ true) → IsFit node → IsRegular node
  two_regular node e a p q is first second h =
      let f = and_parts (fits e) (fits a) (sym is.fit ∙ h.0) in
      let l = or_parts (value_is_high e) (value_is_high a) (sym is.high ∙ h.1) in
      record { parts = p ∷ q ∷ []; all = is.parts; regular = and_from _ _ (first f.0 l.0) (and_from _ _ (second f.1 l.1) refl) }

  -- a value in front of a keyword, and an address behind it
  placed_regular : (node : ActionNode) (e a : Expr) (front : List Lexeme) (x : List ℕ) (behind : List Lexeme) → IsOfTwo node e a (value e) (address a)
      → AreSound (front ++ t.Keyword x ∷ behind) → Spelled own MOST_BRACKETS e front [] → SpelledAddress own MOST_BRACKETS a behind [] → IsFit node → IsRegular node
  placed_regular node e a front x behind is sound p q h =
      let sides = sound_sides front (t.Keyword x) behind sound in
      two_regular node e a (value e) (address a) is (λ f l. value_regular e front sides.0 p f l) (λ f l. address_regular a behind sides.1 q f l) h

  actuals_regular : {words : List Word} {actuals : List Expr} {ts : List Lexeme} → SaysWords own words actuals ts → AreSound ts → every (map fits actuals) ≡ true
      → list_any value_is_high actuals ≡ false → list_all regular (map (λ e. value e) actuals) ≡ true
  actuals_regular says.none sound fit low = refl
  actuals_regular (says.keyword p) sound fit low = actuals_regular p sound.1 fit low
  actuals_regular (says.actual {a = a} {actuals = actuals} {front = front} {rest = rest} is p e q) sound fit low =
      let s = subst AreSound is sound in
      let f = and_parts (fits a) (every (map fits actuals)) fit in
      let l = or_parts (value_is_high a) (list_any value_is_high actuals) low in
      and_from _ _ (single_regular a front (sound_front front rest s) p f.0 l.0) (actuals_regular q (sound_behind front rest s) f.1 l.1)

  abbrev fit_layer : ActionNode-F Bool Bool Bool → Bool
  fit_layer = fits_over own kinds

  refined : (ts : List Lexeme) (x : List ℕ) → calls_refinement commands x ts ≡ true → is_one_of commands x ≡ true
  refined [] x h = one_of commands x h
  refined (token ∷ ts) x h = cc

  simple_regular : {line : List Lexeme} {node : ActionNode} → SaysSimple own kinds commands text line node → AreSound line → IsFit node → IsRegular node
  simple_regular (says.write {before = before} {after = after} {part = part} {ts = ts} is p) sound h =
      let s = (subst AreSound is sound).1 in
      record {
        parts = value part ∷ [];
        all = layers.on_write node_parts action_parts way_of before after (Some part);
        regular = and_from _ _ (value_regular part ts (sound_front ts (slashes after) (sound_behind (slashes before) (ts ++ slashes after) s)) p
            (sym (layers.on_write fit_layer (λ action. true) (λ alternative. true) before after (Some part)) ∙ h.0)
            (sym (layers.on_write high_over (λ action. true) (λ alternative. true) before after (Some part)) ∙ h.1)) refl;
      }
  simple_regular (says.write_lines {n = n} is) sound h = record { parts = []; all = layers.on_write node_parts action_parts way_of (suc n) 0 None; regular = refl }
  simple_regular (says.put {value = e} {address = a} {front = front} {behind = behind} is p q) sound h =
      placed_regular (action.Put e a) e a front (codes "IN") behind (record {
        parts = layers.on_put node_parts action_parts way_of e a;
        fit = layers.on_put fit_layer (λ action. true) (λ alternative. true) e a;
        high = layers.on_put high_over (λ action. true) (λ alternative. true) e a;
      }) (subst AreSound is sound).1 p q h
  simple_regular (says.insert {value = e} {address = a} {front = front} {behind = behind} is p q) sound h =
      placed_regular (action.Insert e a) e a front (codes "IN") behind (record {
        parts = layers.on_insert node_parts action_parts way_of e a;
        fit = layers.on_insert fit_layer (λ action. true) (λ alternative. true) e a;
        high = layers.on_insert high_over (λ action. true) (λ alternative. true) e a;
      }) (subst AreSound is sound).1 p q h
  simple_regular (says.remove {value = e} {address = a} {front = front} {behind = behind} is p q) sound h =
      placed_regular (action.Remove e a) e a front (codes "FROM") behind (record {
        parts = layers.on_remove node_parts action_parts way_of e a;
        fit = layers.on_remove fit_layer (λ action. true) (λ alternative. true) e a;
        high = layers.on_remove high_over (λ action. true) (λ alternative. true) e a;
      }) (subst AreSound is sound).1 p q h
  simple_regular (says.delete {address = a} {ts = ts} p) sound h = record {
    parts = address a ∷ [];
    all = layers.on_delete node_parts action_parts way_of a;
    regular = and_from _ _ (address_regular a ts sound.1 p (sym (layers.on_delete fit_layer (λ action. true) (λ alternative. true) a) ∙ h.0)
        (sym (layers.on_delete high_over (λ action. true) (λ alternative. true) a) ∙ h.1)) refl;
  }
  simple_regular (says.read_example {address = a} {example = e} {front = front} {behind = behind} is p q l r) sound h =
      let sides = sound_sides front (t.Keyword (codes "EG")) behind (subst AreSound is sound).1 in
      two_regular (action.ReadExample a e) a e (address a) (example e) (record {
        parts = layers.on_example node_parts action_parts way_of a e;
        fit = layers.on_example fit_layer (λ action. true) (λ alternative. true) a e;
        high = layers.on_example high_over (λ action. true) (λ alternative. true) a e;
      }) (λ f low. address_regular a front sides.0 p f low) (λ f low. and_from _ _ (value_regular e behind sides.1 q f low) l) h
  simple_regular (says.read_raw {address = a} {front = front} is p) sound h =
      let sides = sound_sides front (t.Keyword (codes "RAW")) [] (subst AreSound is sound).1 in
      record {
        parts = address a ∷ [];
        all = layers.on_raw node_parts action_parts way_of a;
        regular = and_from _ _ (address_regular a front sides.0 p (sym (layers.on_raw fit_layer (λ action. true) (λ alternative. true) a) ∙ h.0)
            (sym (layers.on_raw high_over (λ action. true) (λ alternative. true) a) ∙ h.1)) refl;
      }
  simple_regular (says.check {test = tree} {ts = ts} p) sound h = record {
    parts = test tree ∷ [];
    all = layers.on_check node_parts action_parts way_of tree;
    regular = and_from _ _ (test_regular tree ts sound.1 p (sym (layers.on_check fit_layer (λ action. true) (λ alternative. true) tree) ∙ h.0)
        (sym (layers.on_check high_over (λ action. true) (λ alternative. true) tree) ∙ h.1)) refl;
  }
  simple_regular says.pass sound h = record { parts = []; all = layers.on_pass node_parts action_parts way_of; regular = refl }
  simple_regular says.quit sound h = record { parts = quits ∷ []; all = layers.on_quit node_parts action_parts way_of; regular = refl }
  simple_regular (says.return {value = e} {ts = ts} p) sound h = record {
    parts = value e ∷ returns ∷ [];
    all = layers.on_return node_parts action_parts way_of e;
    regular = and_from _ _ (value_regular e ts sound.1 p (sym (layers.on_return fit_layer (λ action. true) (λ alternative. true) e) ∙ h.0)
        (sym (layers.on_return high_over (λ action. true) (λ alternative. true) e) ∙ h.1)) refl;
  }
  simple_regular (says.report {test = tree} {ts = ts} p) sound h = record {
    parts = test tree ∷ reports ∷ [];
    all = layers.on_report node_parts action_parts way_of tree;
    regular = and_from _ _ (test_regular tree ts sound.1 p (sym (layers.on_report fit_layer (λ action. true) (λ alternative. true) tree) ∙ h.0)
        (sym (layers.on_report high_over (λ action. true) (λ alternative. true) tree) ∙ h.1)) refl;
  }
  simple_regular says.succeed sound h = record { parts = reports ∷ []; all = layers.on_succeed node_parts action_parts way_of; regular = refl }
  simple_regular says.fail sound h = record { parts = reports ∷ []; all = layers.on_fail node_parts action_parts way_of; regular = refl }
  simple_regular (says.refinement {x = x} {ts = ts} free is) sound h =
      record { parts = refinement x ∷ []; all = layers.on_refinement node_parts action_parts way_of x; regular = and_from _ _ (refined ts x is) refl }
  simple_regular (says.call {x = x} {words = words} {actuals = actuals} {ts = ts} free is p) sound h =
      let f = command_template words (length actuals) in
      record {
        parts = calls f (length actuals) ∷ map (λ e. value e) actuals;
        all = layers.on_call node_parts action_parts way_of f actuals;
        regular = and_from _ _ (call_regular p free sound)
            (actuals_regular p sound (sym (layers.on_call fit_layer (λ action. true) (λ alternative. true) f actuals) ∙ h.0)
            (sym (layers.on_call high_over (λ action. true) (λ alternative. true) f actuals) ∙ h.1));
      }

  -- ---- lines

  -- a head and what stands beside it fit, and are low
  record IsFitLine (h : Head) (beside : Option ActionNode) : Type 0 where
    head_fit : head_fits own kinds h ≡ true
    beside_fit : beside_fits own kinds beside ≡ true
    head_low : head_is_high h ≡ false
    beside_low : beside_is_high beside ≡ false

  abbrev IsRegularLine : Head → Option ActionNode → Type 0
  IsRegularLine h beside = IsRegularHead names commands h × IsRegularBeside names commands beside

  beside_regular : {ts : List Lexeme} {beside : Option ActionNode} → SaysBeside own kinds commands text ts beside → AreSound ts → beside_fits own kinds beside ≡ true → beside_is_high beside ≡ false
      → IsRegularBeside names commands beside
  beside_regular says.nothing sound fit low = tt
  beside_regular (says.command p) sound fit low = simple_regular p sound (fit, low)

  bound_regular : {d : ℕ} {a : Bound} {ts rest : List Lexeme} → IsBoundFront own d ts a rest → is_regular_bound names a ≡ true
  bound_regular {d = d} {ts = ts} {rest = rest} (several, token, binds, is, same) =
      subst (λ (a : Bound). is_regular_bound names a ≡ true) (sym same) (laws.bound 1 d several ts (token ∷ rest) binds)

  rest_sound : {d : ℕ} {a : Bound} {ts rest : List Lexeme} → IsBoundFront own d ts a rest → AreSound ts → AreSound rest
  rest_sound (several, token, binds, is, same) sound = (names_sound binds sound).1

  command_regular : {line : List Lexeme} {h : Head} {beside : Option ActionNode} → SaysCommand own kinds commands text line h beside → AreSound line → IsFitLine h beside → IsRegularLine h beside
  command_regular (says.simple p) sound fit = (simple_regular p sound (fit.head_fit, fit.head_low), tt)
  command_regular (says.branch {test = tree} {front = front} {behind = behind} is p q) sound fit =
      let sides = sound_sides front (t.Sign s.Colon) behind (subst AreSound is sound).1 in
      (test_regular tree front sides.0 p fit.head_fit fit.head_low, beside_regular q sides.1 fit.beside_fit fit.beside_low)
  command_regular (says.while {test = tree} {front = front} {behind = behind} is p q) sound fit =
      let sides = sound_sides front (t.Sign s.Colon) behind (subst AreSound is sound).1 in
      (test_regular tree front sides.0 p fit.head_fit fit.head_low, beside_regular q sides.1 fit.beside_fit fit.beside_low)
  command_regular (says.each {train = train} {front = front} {rest = rest} {behind = behind} is p e q) sound fit =
      let sides = sound_sides front (t.Sign s.Colon) behind (subst AreSound is sound).1 in
      ((bound_regular p, single_regular train rest (rest_sound p sides.0) e fit.head_fit fit.head_low), beside_regular q sides.1 fit.beside_fit fit.beside_low)
  command_regular says.select sound fit = (tt, tt)
  command_regular (says.stray q) sound fit = (tt, beside_regular q sound.1.1 fit.beside_fit fit.beside_low)
  command_regular (says.share p) sound fit = (tt, tt)

  alternative_regular : {line : List Lexeme} {h : Head} {beside : Option ActionNode} → SaysAlternative own kinds commands text line h beside → AreSound line → IsFitLine h beside
      → IsRegularLine h beside
  alternative_regular (says.when {test = tree} {front = front} {behind = behind} is p q) sound fit =
      let sides = sound_sides front (t.Sign s.Colon) behind (subst AreSound is sound) in
      (test_regular tree front sides.0 p fit.head_fit fit.head_low, beside_regular q sides.1 fit.beside_fit fit.beside_low)
  alternative_regular (says.otherwise q) sound fit = (tt, beside_regular q sound.1.1 fit.beside_fit fit.beside_low)

  heading_regular : {line : List Lexeme} {h : Head} {beside : Option ActionNode} → SaysHeading own kinds commands text line h beside → AreSound line → IsFitLine h beside → IsRegularLine h beside
  heading_regular (says.heading {front = front} {behind = behind} is p q) sound fit =
      let sides = sound_sides front (t.Sign s.Colon) behind (subst AreSound is sound).1.1 in
      (pattern_regular names (λ fewest d several ts rest binds. laws.bound fewest d several ts rest binds) p sides.0, beside_regular q sides.1 fit.beside_fit fit.beside_low)

  refinement_regular : {line : List Lexeme} {h : Head} {beside : Option ActionNode} → SaysRefinement own kinds commands text line h beside → AreSound line → IsFitLine h beside
      → IsRegularLine h beside
  refinement_regular (says.named q) sound fit = (tt, beside_regular q sound.1.1 fit.beside_fit fit.beside_low)
  refinement_regular (says.keyed free q) sound fit = (tt, beside_regular q sound.1.1 fit.beside_fit fit.beside_low)

  -- ---- the clauses that are found

  fit_line : (clause : Clause) → clause_fits own kinds clause ≡ true → is_too_high clause ≡ false → IsFitLine clause.head clause.beside
  fit_line clause fit low =
      let f = and_parts (head_fits own kinds clause.head) (beside_fits own kinds clause.beside) fit in
      let l = or_parts (head_is_high clause.head) (beside_is_high clause.beside) low in
      record { head_fit = f.0; beside_fit = f.1; head_low = l.0; beside_low = l.1 }

  -- what is found and said is regular
  found_regular : (Says : List Lexeme → Head → Option ActionNode → Type 0) (said : List Lexeme → Option Said)
      → ((line : List Lexeme) (h : Head) (beside : Option ActionNode) → Says line h beside ↔ (said line ≡ Some (h, beside)))
      → ((line : List Lexeme) (h : Head) (beside : Option ActionNode) → Says line h beside → AreSound line → IsFitLine h beside → IsRegularLine h beside)
      → (n : ℕ) (line : List Lexeme) (clause : Clause) → AreSound line → option_map (clause_at n) (said line) ≡ Some clause
      → clause_fits own kinds clause ≡ true → is_too_high clause ≡ false → IsRegularClause names commands clause
  found_regular Says said law regular_says n line clause sound h fit low =
      let m = map_told (clause_at n) (said line) clause h in
      let f : IsFitLine m.0.0 m.0.1 = subst (λ (c : Clause). IsFitLine c.head c.beside) (sym m.2) (fit_line clause fit low) in
      let r = regular_says line m.0.0 m.0.1 ((law line m.0.0 m.0.1).1 m.1) sound f in
      subst (λ (c : Clause). IsRegularClause names commands c) m.2 (record { said = r.0; beside = r.1 })

-- ---- the laws of tokens and formulas

pub record LineLaws : Type 0 where
  pub all : (own : List (List ℕ)) (names : Names) → names.count ≡ length own → (d : ℕ) (a : Expr) (ts : List Lexeme) → AreFine ts → Spelled own d a ts [] → names_give_values names a ≡ true
      → has_regular_parts names a ≡ true
  pub single : (own : List (List ℕ)) (names : Names) → names.count ≡ length own → (d : ℕ) (a : Expr) (ts rest : List Lexeme) → AreFine ts → Spells own d 1 a ts rest → names_give_values names a ≡ true
      → has_regular_parts names a ≡ true
  pub low : (own : List (List ℕ)) (names : Names) → names.count ≡ length own → (d : ℕ) (a : Test) (ts : List Lexeme) → AreFine ts → Tests own d place.Whole a ts [] → names_fit names a ≡ true
      → test_height a ≤ MOST_TREE_HEIGHT → is_regular_test names a ≡ true
  pub bound : (own : List (List ℕ)) (names : Names) → names.count ≡ length own → (fewest d : ℕ) (several : List Bound) (ts rest : List Lexeme) → Binds own fewest d several ts rest
      → is_regular_bound names (gathered several) ≡ true
  pub addressed : (own : List (List ℕ)) (d : ℕ) (a : Expr) (ts rest : List Lexeme) → SpelledAddress own d a ts rest ↔ (Spelled own d a ts rest × (is_address a ≡ true))
  pub tokens : (line : List ℕ) (ts : List Token) → AreTokens line ts ↔ (read_line line ≡ Ok ts)
  pub spelled : (line : List ℕ) (ts : List Token) → AreTokens line ts → All (IsSpelledSo line) ts
  pub name : (bytes : List ℕ) → IsWord is_small bytes ↔ (is_name bytes ≡ true)
  pub keyword : (bytes : List ℕ) → IsWord is_capital bytes ↔ (is_keyword bytes ≡ true)

module _ (laws : LineLaws) (own : List (List ℕ)) (kinds : Kinds) (commands : List (List ℕ)) (text : List ℕ) where
  of_own : SpelledLaws own (names_with own kinds)
  of_own = record {
    expression = λ a ts f p v. laws.all own (names_with own kinds) refl MOST_BRACKETS a ts f p v;
    single = λ a ts f p v. laws.single own (names_with own kinds) refl MOST_BRACKETS a ts [] f p v;
    tested = λ a ts f p v l. laws.low own (names_with own kinds) refl MOST_BRACKETS a ts f p v l;
    bound = λ fewest d several ts rest p. laws.bound own (names_with own kinds) refl fewest d several ts rest p;
    addressed = λ a ts p. (laws.addressed own MOST_BRACKETS a ts []).0 p;
  }

  sound_text : (tokens : List Token) → read_line text ≡ Ok tokens → AreSound (map (seen text) tokens)
  sound_text tokens read = sound_line laws.name laws.keyword text tokens (laws.spelled text tokens ((laws.tokens text tokens).1 read))

  -- what is computed is what is said
  abbrev Computes : (List Lexeme → Head → Option ActionNode → Type 0) → (List Lexeme → Option Said) → Type 0
  Computes Says said = (line : List Lexeme) (h : Head) (beside : Option ActionNode) → Says line h beside ↔ (said line ≡ Some (h, beside))

  pub lines_regular : Computes (SaysCommand own kinds commands text) (said_command own kinds commands text) → Computes (SaysAlternative own kinds commands text) (said_alternative own kinds commands text)
      → Computes (SaysHeading own kinds commands text) (said_heading own kinds commands text) → Computes (SaysRefinement own kinds commands text) (said_refinement own kinds commands text)
      → AreRegularLines own kinds commands text
  unfolding command_of alternative_of heading_of refinement_of
  lines_regular by_command by_alternative by_heading by_refinement = record {
    command = λ n tokens clause read h fit low. found_regular own kinds of_own commands text (SaysCommand own kinds commands text) (said_command own kinds commands text) by_command
        (λ line h_2 beside p. command_regular own kinds of_own commands text p) n (map (seen text) tokens) clause (sound_text tokens read) h fit low;
    alternative = λ n tokens clause read h fit low. found_regular own kinds of_own commands text (SaysAlternative own kinds commands text) (said_alternative own kinds commands text) by_alternative
        (λ line h_2 beside p. alternative_regular own kinds of_own commands text p) n (map (seen text) tokens) clause (sound_text tokens read) h fit low;
    heading = λ n tokens clause read h fit low. found_regular own kinds of_own commands text (SaysHeading own kinds commands text) (said_heading own kinds commands text) by_heading
        (λ line h_2 beside p. heading_regular own kinds of_own commands text p) n (map (seen text) tokens) clause (sound_text tokens read) h fit low;
    refinement = λ n tokens clause read h fit low. found_regular own kinds of_own commands text (SaysRefinement own kinds commands text) (said_refinement own kinds commands text) by_refinement
        (λ line h_2 beside p. refinement_regular own kinds of_own commands text p) n (map (seen text) tokens) clause (sound_text tokens read) h fit low;
  }
