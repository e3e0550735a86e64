-- What is spelled as a test is regular, where its names fit.
use Rattle.std.proofs.Common.{◌≡◌, ◌≤◌, ℕ, suc, Bool, true, false, ◌&&◌, List, [], ◌∷◌, length, map, Some, None, refl, ap, sym, ◌∙◌, subst, arith, rules}
use Rattle.std.specs.Prelude.{◌==◌, nat_le, nat_lt, if◌then◌else◌}
use Rattle.std.proofs.lemmas.Bool.{and_parts, le-leb}
use Rattle.std.proofs.lemmas.List.{length-map}
use Rattle.std.proofs.lemmas.Option.{same_Some}
use Rattle.abc_num.specs.declared.limits.TheConstants.{MOST_TREE_HEIGHT}
use Rattle.abc_tokens.specs.declared.kinds.Token.{Token}
use Rattle.abc_tokens.specs.Tokens.{AreTokens}
use Rattle.abc_tree.specs.Height.{test_height}
use Rattle.abc_tree.specs.Regular.{Names, every, some, count_places, has_name_form, has_form, is_call, is_function, is_predicate, is_test_kind, has_regular_parts, is_regular_bound, link_is, is_regular_test}
use Rattle.abc_tree.specs.Roles.{is_relation, is_membership}
use Rattle.abc_tree.specs.declared.formulas.Bound.{Bound, the_lemmas as bounds}
use Rattle.abc_tree.specs.declared.formulas.Bound.TheVariants as b
use Rattle.abc_tree.specs.declared.formulas.Expr.{Expr}
use Rattle.abc_tree.specs.declared.formulas.Expr.TheVariants as e
use Rattle.abc_tree.specs.declared.formulas.Link.{Link}
use Rattle.abc_tree.specs.declared.formulas.Quantifier.{Quantifier}
use Rattle.abc_tree.specs.declared.formulas.Test.{Test, the_lemmas as tests}
use Rattle.abc_tree.specs.declared.formulas.Test.TheVariants as test
use Rattle.abc_tree.specs.declared.operations.Op.{Op}
use Rattle.abc_tree.specs.declared.templates.Template.{Template}
use Rattle.abc_tree.specs.declared.templates.TemplateKind.{TemplateKind}
use Rattle.abc_tree.specs.declared.templates.TemplateKind.TheVariants as template
use Rattle.abc_tree.specs.declared.templates.Word.{Word}
use Rattle.abc_expressions.specs.declared.frames.Kind.{Kind}
use Rattle.abc_expressions.specs.declared.frames.Kind.TheVariants as kind
use Rattle.abc_expressions.specs.declared.lexemes.Lexeme.{Lexeme}
use Rattle.abc_expressions.specs.declared.lexemes.Lexeme.TheVariants as t
use Rattle.abc_expressions.specs.declared.signs.Sign.{Sign}
use Rattle.abc_expressions.specs.declared.signs.Sign.TheVariants as s
use Rattle.abc_expressions.specs.Grammar.{own_name, Spells}
use Rattle.abc_expressions.specs.Lexemes.{seen}
use Rattle.abc_expressions.specs.NamesOfTrees.{AreFine, names_give_values}
use Rattle.abc_expressions.specs.Operators.{kind_of}
use Rattle.abc_expressions.proofs.RegularSpellings.{both, name_layer, call_layer, numbered, spells_regular}
use Rattle.abc_formula.specs.declared.test_frames.Place.{Place}
use Rattle.abc_formula.specs.declared.test_frames.Place.TheVariants as place
use Rattle.abc_formula.specs.RegularTests.{has_regular_test_parts, link_fits, names_fit}
use Rattle.abc_formula.specs.TestGrammar as g
use Rattle.abc_formula.specs.TestGrammar.{relation_by, relation_of, membership_by, membership_of, predicate, own_test, link, gathered, Binds, BindsPart, Relates, Tests, Parted}

-- ---- operations

relation_at : (sign : Sign) (o : Op) → relation_by sign ≡ Some o → is_relation o ≡ true
relation_at s.Less o h = subst (λ (o : Op). is_relation o ≡ true) (same_Some _ o h) refl
relation_at s.AtMost o h = subst (λ (o : Op). is_relation o ≡ true) (same_Some _ o h) refl
relation_at s.Equal o h = subst (λ (o : Op). is_relation o ≡ true) (same_Some _ o h) refl
relation_at s.Unequal o h = subst (λ (o : Op). is_relation o ≡ true) (same_Some _ o h) refl
relation_at s.AtLeast o h = subst (λ (o : Op). is_relation o ≡ true) (same_Some _ o h) refl
relation_at s.More o h = subst (λ (o : Op). is_relation o ≡ true) (same_Some _ o h) refl
relation_at _ o h = cc

relates_by : (token : Lexeme) (o : Op) → relation_of token ≡ Some o → is_relation o ≡ true
relates_by (t.Sign sign) o h = relation_at sign o h
relates_by (t.Number bytes) o h = cc
relates_by (t.Name x) o h = cc
relates_by (t.Keyword x) o h = cc
relates_by (t.Text bytes) o h = cc
relates_by t.Other o h = cc

membership_at : (k : Kind) (o : Op) → membership_by k ≡ Some o → is_membership o ≡ true
membership_at (kind.Own i) o h = cc
membership_at (kind.Given one None) o h = cc
membership_at (kind.Given one (Some two)) o h = by_test (is_membership two) refl h
  where
    by_test : (x : Bool) → is_membership two ≡ x → (if x then Some two else None) ≡ Some o → is_membership o ≡ true
    by_test true is e = subst (λ (o : Op). is_membership o ≡ true) (same_Some two o e) is
    by_test false is e = cc
membership_at kind.Free o h = cc

contains_by : (own : List (List ℕ)) (token : Lexeme) (o : Op) → membership_of own token ≡ Some o → is_membership o ≡ true
contains_by own (t.Name x) o h = membership_at (kind_of own x) o h
contains_by own (t.Number bytes) o h = cc
contains_by own (t.Keyword x) o h = cc
contains_by own (t.Text bytes) o h = cc
contains_by own (t.Sign sign) o h = cc
contains_by own t.Other o h = cc

-- the call of a function is, as a predicate, one of a predicate
as_predicate : (k : TemplateKind) (words : List Word) (m n : ℕ) → is_call is_function (record { kind = k; words = words; places = m }) n ≡ true
    → is_call is_predicate (record { kind = template.Predicate; words = words; places = m }) n ≡ true
as_predicate template.Function words m n h = h
as_predicate template.Predicate words m n h =
    let x = has_name_form words && (m == count_places words) in
    let no : false ≡ true = (and_parts x false (and_parts (x && false) (m == n) h).0).1 in cc
as_predicate template.Command words m n h =
    let x = has_form template.Command words && (m == count_places words) in
    let no : false ≡ true = (and_parts x false (and_parts (x && false) (m == n) h).0).1 in cc

three : (x y z : Bool) → x ≡ true → y ≡ true → z ≡ true → (x && y && z) ≡ true
three x y z p q r = ap (λ u. u && y && z) p ∙ ap (λ u. true && u && z) q ∙ r

-- ---- the folds, a layer at a time

module _ (names : Names) where
  abbrev regular : Expr → Bool
  regular = has_regular_parts names

  abbrev values : Expr → Bool
  values = names_give_values names

  abbrev regular_bound : Bound → Bool
  regular_bound = is_regular_bound names

  abbrev regular_link : Link → Bool
  regular_link = link_is names

  abbrev fitting_link : Link → Bool
  fitting_link = link_fits names

  abbrev tested : Test → Bool
  tested = has_regular_test_parts names

  abbrev fits : Test → Bool
  fits = names_fit names

  one_bound : (i : ℕ) → regular_bound (b.One (record { 0 = i })) ≡ nat_lt i names.count
  one_bound i = search (rules, bounds)

  several_bound : (xs : List Bound) → regular_bound (b.Several xs) ≡ (nat_le 2 (length (map regular_bound xs)) && every (map regular_bound xs))
  several_bound xs = search (rules, bounds)

  chain_layer : (x : Expr) (links : List Link) → (tested (test.Chain x links) ≡ (regular x && some links && every (map regular_link links)))
      × (fits (test.Chain x links) ≡ (values x && every (map fitting_link links)))
  chain_layer x links = (search (rules, tests), search (rules, tests))

  member_layer : (o : Op) (x y : Expr) → (tested (test.Member o x y) ≡ (is_membership o && regular x && regular y)) × (fits (test.Member o x y) ≡ (values x && values y))
  member_layer o x y = (search (rules, tests), search (rules, tests))

  and_layer : (x y : Test) → (tested (test.And x y) ≡ (tested x && tested y)) × (fits (test.And x y) ≡ (fits x && fits y))
  and_layer x y = (search (rules, tests), search (rules, tests))

  or_layer : (x y : Test) → (tested (test.Or x y) ≡ (tested x && tested y)) × (fits (test.Or x y) ≡ (fits x && fits y))
  or_layer x y = (search (rules, tests), search (rules, tests))

  not_layer : (x : Test) → (tested (test.Not x) ≡ tested x) × (fits (test.Not x) ≡ fits x)
  not_layer x = (search (rules, tests), search (rules, tests))

  quantified_layer : (q : Quantifier) (bound : Bound) (x : Expr) (y : Test) → (tested (test.Quantified q bound x y) ≡ (regular_bound bound && regular x && tested y))
      × (fits (test.Quantified q bound x y) ≡ (values x && fits y))
  quantified_layer q bound x y = (search (rules, tests), search (rules, tests))

  predicate_layer : (f : Template) (xs : List Expr) → (tested (test.Call f xs) ≡ (is_call is_predicate f (length xs) && every (map regular xs))) × (fits (test.Call f xs) ≡ every (map values xs))
  predicate_layer f xs = (search (rules, tests), search (rules, tests))

  refinement_layer : (i : ℕ) → (tested (own_test i) ≡ (nat_lt i names.count && is_test_kind (names.refinement i))) × (fits (own_test i) ≡ is_test_kind (names.refinement i))
  refinement_layer i = (search (rules, tests), search (rules, tests))

  -- ---- the induction

  module _ (own : List (List ℕ)) (counted : names.count ≡ length own) (fine_line : (line : List ℕ) (ts : List Token) → AreTokens line ts → AreFine (map (seen line) ts)) where
    gathered_regular : (xs : List Bound) → 1 ≤ length xs → every (map regular_bound xs) ≡ true → regular_bound (gathered xs) ≡ true
    gathered_regular [] l h = absurd (omega (arith, l))
    gathered_regular (x ∷ []) l h = (and_parts (regular_bound x) true h).0
    gathered_regular (x ∷ y ∷ xs) l h =
        several_bound (x ∷ y ∷ xs)
        ∙ both (nat_le 2 (length (map regular_bound (x ∷ y ∷ xs)))) (every (map regular_bound (x ∷ y ∷ xs))) (le-leb 2 (suc (suc (length (map regular_bound xs)))) (omega arith)) h

    some_names : {fewest d : ℕ} {xs : List Bound} {ts rest : List Lexeme} → Binds own fewest d xs ts rest → 1 ≤ length xs
    some_names (g.last_name p) = omega arith
    some_names (g.more_names p q) = omega arith

    mutual
      all_bound : {fewest d : ℕ} {xs : List Bound} {ts rest : List Lexeme} → Binds own fewest d xs ts rest → every (map regular_bound xs) ≡ true
      all_bound (g.last_name {a = x} p) = both (regular_bound x) true (part_bound p) refl
      all_bound (g.more_names {a = x} {more = more} p q) = both (regular_bound x) (every (map regular_bound more)) (part_bound p) (all_bound q)

      part_bound : {fewest d : ℕ} {x : Bound} {ts rest : List Lexeme} → BindsPart own fewest d x ts rest → regular_bound x ≡ true
      part_bound (g.one_name {i = i} {x = x} h) = one_bound i ∙ numbered names own counted fine_line x i h
      part_bound (g.round_names {more = more} many p) = gathered_regular more (some_names p) (all_bound p)

    pub bound_regular : (fewest d : ℕ) (xs : List Bound) (ts rest : List Lexeme) → Binds own fewest d xs ts rest → regular_bound (gathered xs) ≡ true
    bound_regular fewest d xs ts rest p = gathered_regular xs (some_names p) (all_bound p)

    mutual
      bound_fine : {fewest d : ℕ} {xs : List Bound} {ts rest : List Lexeme} → Binds own fewest d xs ts rest → AreFine ts → AreFine rest
      bound_fine (g.last_name p) fine = bound_part_fine p fine
      bound_fine (g.more_names p q) fine = bound_fine q (bound_part_fine p fine).1

      bound_part_fine : {fewest d : ℕ} {x : Bound} {ts rest : List Lexeme} → BindsPart own fewest d x ts rest → AreFine ts → AreFine rest
      bound_part_fine (g.one_name h) fine = fine.1
      bound_part_fine (g.round_names many p) fine = (bound_fine p fine.1).1

    spells : {d n : ℕ} {x : Expr} {ts rest : List Lexeme} → Spells own d n x ts rest → AreFine ts → (values x ≡ true → regular x ≡ true) × AreFine rest
    spells {d = d} {n = n} {x = x} {ts = ts} {rest = rest} p fine = spells_regular names own counted fine_line d n x ts rest fine p

    -- the same names, none of which is a refinement
    abbrev plain : Names
    plain = record { count = names.count; refinement = λ i. None }

    name_within : {d : ℕ} {i : ℕ} {ts rest : List Lexeme} → Spells own d 1 (own_name i) ts rest → AreFine ts → (nat_lt i names.count ≡ true) × AreFine rest
    name_within {d = d} {i = i} {ts = ts} {rest = rest} p fine =
        let r = spells_regular plain own counted fine_line d 1 (own_name i) ts rest fine p in
        ((and_parts (nat_lt i names.count) true (sym (name_layer plain i).0 ∙ r.0 (name_layer plain i).1)).0, r.1)

    link_regular : (token : Lexeme) (o : Op) (x : Expr) → relation_of token ≡ Some o → regular x ≡ true → regular_link (link o x) ≡ true
    link_regular token o x h p = both (is_relation o) (regular x) (relates_by token o h) p

    some_links : {d : ℕ} {links : List Link} {ts rest : List Lexeme} → Relates own d links ts rest → some links ≡ true
    some_links (g.last_link h p) = refl
    some_links (g.more_links h p q) = refl

    relates : {d : ℕ} {links : List Link} {ts rest : List Lexeme} → Relates own d links ts rest → AreFine ts → (every (map fitting_link links) ≡ true → every (map regular_link links) ≡ true) × AreFine rest
    relates (g.last_link {o = o} {a = x} {t = token} h p) fine =
        let r = spells p fine.1 in
        ((λ vs. both (regular_link (link o x)) true (link_regular token o x h (r.0 (and_parts (values x) true vs).0)) refl), r.1)
    relates (g.more_links {o = o} {a = x} {t = token} {links = links} h p q) fine =
        let r = spells p fine.1 in
        let u = relates q r.1 in (
          (λ vs.
              let w = and_parts (values x) (every (map fitting_link links)) vs in
              both (regular_link (link o x)) (every (map regular_link links)) (link_regular token o x h (r.0 w.0)) (u.0 w.1)),
          u.1,
        )

    call_regular : (f : Template) (xs : List Expr) → regular (e.Call f xs) ≡ true → tested (test.Call (predicate f) xs) ≡ true
    call_regular f xs h =
        let w = and_parts (is_call is_function f (length (map regular xs))) (every (map regular xs)) (sym (call_layer names f xs).0 ∙ h) in
        let n = subst (λ (n : ℕ). is_call is_function f n ≡ true) (length-map xs regular) w.0 in
        (predicate_layer (predicate f) xs).0 ∙ both (is_call is_predicate (predicate f) (length xs)) (every (map regular xs)) (as_predicate f.kind f.words f.places (length xs) n) w.1

    mutual
      spelled : {d : ℕ} {p : Place} {x : Test} {ts rest : List Lexeme} → Tests own d p x ts rest → AreFine ts → (fits x ≡ true → tested x ≡ true) × AreFine rest
      spelled (g.alone p) fine = parted p fine
      spelled (g.negated {a = x} h p) fine = let r = spelled p fine.1 in ((λ vs. (not_layer x).0 ∙ r.0 (sym (not_layer x).1 ∙ vs)), r.1)
      spelled (g.quantified {d = d} {quantifier = quantifier} {names = xs} {train = x} {a = y} h binds i p j q) fine =
          let r = spells p (bound_fine binds fine.1).1 in
          let u = spelled q r.1.1 in (
            (λ vs.
                let w = and_parts (values x) (fits y) (sym (quantified_layer quantifier (gathered xs) x y).1 ∙ vs) in
                (quantified_layer quantifier (gathered xs) x y).0
                ∙ three (regular_bound (gathered xs)) (regular x) (tested y) (gathered_regular xs (some_names binds) (all_bound binds)) (r.0 w.0) (u.0 w.1)),
            u.1,
          )
      spelled (g.both {a = x} {c = y} h p i q) fine =
          let r = parted p fine in
          let u = spelled q r.1.1 in
          ((λ vs. let w = and_parts (fits x) (fits y) (sym (and_layer x y).1 ∙ vs) in (and_layer x y).0 ∙ both (tested x) (tested y) (r.0 w.0) (u.0 w.1)), u.1)
      spelled (g.either {a = x} {c = y} h p i q) fine =
          let r = parted p fine in
          let u = spelled q r.1.1 in
          ((λ vs. let w = and_parts (fits x) (fits y) (sym (or_layer x y).1 ∙ vs) in (or_layer x y).0 ∙ both (tested x) (tested y) (r.0 w.0) (u.0 w.1)), u.1)

      parted : {d : ℕ} {x : Test} {ts rest : List Lexeme} → Parted own d x ts rest → AreFine ts → (fits x ≡ true → tested x ≡ true) × AreFine rest
      parted (g.round h p) fine = let r = spelled p fine.1 in (r.0, r.1.1)
      parted (g.chain {a = x} {links = links} h p q) fine =
          let r = spells p fine in
          let u = relates q r.1 in (
            (λ vs.
                let w = and_parts (values x) (every (map fitting_link links)) (sym (chain_layer x links).1 ∙ vs) in
                (chain_layer x links).0 ∙ three (regular x) (some links) (every (map regular_link links)) (r.0 w.0) (some_links q) (u.0 w.1)),
            u.1,
          )
      parted (g.member {o = o} {a = x} {c = y} {t = token} h p i q) fine =
          let r = spells p fine in
          let u = spells q r.1.1 in (
            (λ vs.
                let w = and_parts (values x) (values y) (sym (member_layer o x y).1 ∙ vs) in
                (member_layer o x y).0 ∙ three (is_membership o) (regular x) (regular y) (contains_by own token o i) (r.0 w.0) (u.0 w.1)),
            u.1,
          )
      parted (g.call {f = f} {actuals = xs} h p) fine =
          let r = spells p fine in
          ((λ vs. call_regular f xs (r.0 ((call_layer names f xs).1 ∙ sym (predicate_layer (predicate f) xs).1 ∙ vs))), r.1)
      parted (g.refinement {i = i} h p) fine =
          let r = name_within p fine in
          ((λ vs. (refinement_layer i).0 ∙ both (nat_lt i names.count) (is_test_kind (names.refinement i)) r.0 (sym (refinement_layer i).1 ∙ vs)), r.1)

    pub spelled_test : (d : ℕ) (p : Place) (x : Test) (ts rest : List Lexeme) → AreFine ts → Tests own d p x ts rest → fits x ≡ true → tested x ≡ true
    spelled_test d p x ts rest fine q vs = (spelled q fine).0 vs

    pub low_test : (d : ℕ) (x : Test) (ts : List Lexeme) → AreFine ts → Tests own d place.Whole x ts [] → fits x ≡ true → test_height x ≤ MOST_TREE_HEIGHT → is_regular_test names x ≡ true
    low_test d x ts fine q vs l = both (tested x) (nat_le (test_height x) MOST_TREE_HEIGHT) (spelled_test d place.Whole x ts [] fine q vs) (le-leb (test_height x) MOST_TREE_HEIGHT l)
