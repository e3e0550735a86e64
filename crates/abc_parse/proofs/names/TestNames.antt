-- The names that the quantifiers of a test bind are those that its tokens tell.
use Rattle.std.proofs.Common.{◌≡◌, ℕ, Bool, true, false, not, List, [], ◌∷◌, ◌++◌, map, Option, Some, refl, ap, sym, ◌∙◌, rules}
use Rattle.std.specs.Prelude.{◌||◌, codes, if◌then◌else◌}
use Rattle.std.specs.List.{list_all, list_any}
use Rattle.std.proofs.lemmas.Bool.{and_parts}
use Rattle.std.proofs.lemmas.List.{append_assoc, append-nil, map-append}
use Rattle.abc_num.specs.Names.{number_of}
use Rattle.abc_num.proofs.Texts.{text_eq-Decides}
use Rattle.abc_tree.specs.Lists.{flat}
use Rattle.abc_tree.specs.RegularItems.{bound_names, bounds_in_test}
use Rattle.abc_tree.specs.declared.formulas.Bound.{Bound, the_lemmas as bounds}
use Rattle.abc_tree.specs.declared.formulas.Bound.TheVariants as bound
use Rattle.abc_tree.specs.declared.formulas.Expr.{Expr}
use Rattle.abc_tree.specs.declared.formulas.Fill.{Fill}
use Rattle.abc_tree.specs.declared.formulas.Link.{Link}
use Rattle.abc_tree.specs.declared.formulas.NameId.{NameId}
use Rattle.abc_tree.specs.declared.formulas.Pair.{Pair}
use Rattle.abc_tree.specs.declared.formulas.Quantifier.{Quantifier}
use Rattle.abc_tree.specs.declared.formulas.Test.{Test, the_lemmas}
use Rattle.abc_tree.specs.declared.formulas.Test.TheVariants as test
use Rattle.abc_tree.specs.declared.operations.Op.{Op}
use Rattle.abc_tree.specs.declared.templates.Template.{Template}
use Rattle.abc_tree.proofs.BoundNames.{bound_and, bound_or, bound_quantified}
use Rattle.abc_expressions.specs.declared.frames.Infix.{Infix}
use Rattle.abc_expressions.specs.declared.frames.Join.{Join}
use Rattle.abc_expressions.specs.declared.lexemes.Lexeme.{Lexeme}
use Rattle.abc_expressions.specs.declared.lexemes.Lexeme.TheVariants as lexeme
use Rattle.abc_expressions.specs.Operators.{infix_of, lead}
use Rattle.abc_expressions.specs.Grammar as c
use Rattle.abc_expressions.specs.Grammar.{Entry, Filler, Fills, Pairs, Parts, Spells}
use Rattle.abc_formula.specs.BoundFronts.{AreNumbered, plain_names}
use Rattle.abc_formula.specs.TestGrammar as g
use Rattle.abc_formula.specs.TestGrammar.{Parted, Relates, Tests, gathered, is_keyword, membership_of, predicate, quantifier_of, relation_of}
use Rattle.abc_formula.specs.declared.test_frames.Place.{Place}
use Rattle.abc_formula.proofs.BoundNumbers.{names_numbered}
use Rattle.abc_outline.specs.LineNames.{is_in, is_quantifier, is_there, name_at, quantified}

-- ---- expressions have no quantifier

abbrev Passes : List Lexeme → List Lexeme → Type 0
Passes ts rest = quantified false ts ≡ quantified false rest

quiet_lead : (own : List (List ℕ)) (token : Lexeme) (ts : List Lexeme) (join : Join) → lead own token ts ≡ Some join → is_quantifier token ≡ false
quiet_lead own (lexeme.Keyword x) ts join h = cc
quiet_lead own (lexeme.Name x) ts join h = refl
quiet_lead own (lexeme.Sign x) ts join h = refl
quiet_lead own (lexeme.Number x) ts join h = refl
quiet_lead own (lexeme.Text x) ts join h = refl
quiet_lead own lexeme.Other ts join h = refl

quiet_infix : (own : List (List ℕ)) (token : Lexeme) (i : Infix) → infix_of own token ≡ Some i → is_quantifier token ≡ false
quiet_infix own (lexeme.Keyword x) i h = cc
quiet_infix own (lexeme.Name x) i h = refl
quiet_infix own (lexeme.Sign x) i h = refl
quiet_infix own (lexeme.Number x) i h = refl
quiet_infix own (lexeme.Text x) i h = refl
quiet_infix own lexeme.Other i h = refl

quiet_relation : (token : Lexeme) (o : Op) → relation_of token ≡ Some o → is_quantifier token ≡ false
quiet_relation (lexeme.Keyword x) o h = cc
quiet_relation (lexeme.Name x) o h = refl
quiet_relation (lexeme.Sign x) o h = refl
quiet_relation (lexeme.Number x) o h = refl
quiet_relation (lexeme.Text x) o h = refl
quiet_relation lexeme.Other o h = refl

quiet_membership : (own : List (List ℕ)) (token : Lexeme) (o : Op) → membership_of own token ≡ Some o → is_quantifier token ≡ false
quiet_membership own (lexeme.Keyword x) o h = cc
quiet_membership own (lexeme.Name x) o h = refl
quiet_membership own (lexeme.Sign x) o h = refl
quiet_membership own (lexeme.Number x) o h = refl
quiet_membership own (lexeme.Text x) o h = refl
quiet_membership own lexeme.Other o h = refl

keyword_told : (word : List ℕ) (token : Lexeme) → is_keyword word token ≡ true → token ≡ lexeme.Keyword word
keyword_told word (lexeme.Keyword x) h = ap lexeme.Keyword ((text_eq-Decides x word).0 h)
keyword_told word (lexeme.Name x) h = absurd cc
keyword_told word (lexeme.Sign x) h = absurd cc
keyword_told word (lexeme.Number x) h = absurd cc
keyword_told word (lexeme.Text x) h = absurd cc
keyword_told word lexeme.Other h = absurd cc

quiet_keyword : (word : List ℕ) (token : Lexeme) → is_quantifier (lexeme.Keyword word) ≡ false → is_keyword word token ≡ true → is_quantifier token ≡ false
quiet_keyword word token quiet h = ap is_quantifier (keyword_told word token h) ∙ quiet

passed : (token : Lexeme) (ts : List Lexeme) → is_quantifier token ≡ false → Passes (token ∷ ts) ts
passed token ts quiet = ap (λ b. quantified b ts) quiet

mutual
  passes : {own : List (List ℕ)} {d n : ℕ} {x : Expr} {ts rest : List Lexeme} → Spells own d n x ts rest → Passes ts rest
  passes (c.number h v) = refl
  passes (c.text h q p) = refl
  passes (c.name h q) = refl
  passes (c.call h q b) = refl
  passes {own = own} (c.before {join = join} {t = token} {ts = ts} h l p) = passed token ts (quiet_lead own token ts join l) ∙ passes p
  passes {own = own} (c.between {o = o} {t = token} {us = us} h i p q) = passes p ∙ passed token us (quiet_infix own token o i) ∙ passes q
  passes (c.select h p q) = passes p ∙ passes_parts q
  passes (c.round h q) = passes_parts q
  passes (c.empty h) = refl
  passes (c.list h q) = passes_fills q
  passes (c.table h q) = passes_pairs q

  passes_parts : {own : List (List ℕ)} {d : ℕ} {parts : List Expr} {ts rest : List Lexeme} → Parts own d parts ts rest → Passes ts rest
  passes_parts (c.one p) = passes p
  passes_parts (c.more p q) = passes p ∙ passes_parts q

  passes_filler : {own : List (List ℕ)} {d : ℕ} {fill : Fill} {ts rest : List Lexeme} → Filler own d fill ts rest → Passes ts rest
  passes_filler (c.single p) = passes p
  passes_filler (c.range p q) = passes p ∙ passes q

  passes_fills : {own : List (List ℕ)} {d : ℕ} {fills : List Fill} {ts rest : List Lexeme} → Fills own d fills ts rest → Passes ts rest
  passes_fills (c.one_fill p) = passes_filler p
  passes_fills (c.more_fills p q) = passes_filler p ∙ passes_fills q

  passes_entry : {own : List (List ℕ)} {d : ℕ} {pair : Pair} {ts rest : List Lexeme} → Entry own d pair ts rest → Passes ts rest
  passes_entry (c.entry p q) = passes_parts p ∙ passes q

  passes_pairs : {own : List (List ℕ)} {d : ℕ} {pairs : List Pair} {ts rest : List Lexeme} → Pairs own d pairs ts rest → Passes ts rest
  passes_pairs (c.one_pair p) = passes_entry p
  passes_pairs (c.more_pairs p q) = passes_entry p ∙ passes_pairs q

passes_links : {own : List (List ℕ)} {d : ℕ} {links : List Link} {ts rest : List Lexeme} → Relates own d links ts rest → Passes ts rest
passes_links (g.last_link {o = o} {t = token} {ts = ts} h p) = passed token ts (quiet_relation token o h) ∙ passes p
passes_links (g.more_links {o = o} {t = token} {ts = ts} h p q) = passed token ts (quiet_relation token o h) ∙ passes p ∙ passes_links q

-- ---- what stands behind a quantifier

pub not_so : (b : Bool) → not b ≡ true → b ≡ false
not_so false h = refl
not_so true h = absurd cc

in_follows : (front us : List Lexeme) (u : Lexeme) → is_in u ≡ true → list_any is_in (front ++ u ∷ us) ≡ true
in_follows [] us u i = ap (λ b. b || list_any is_in us) i
in_follows (token ∷ front) us u i = ap (λ b. is_in token || b) (in_follows front us u i) ∙ any_or (is_in token) where
  any_or : (b : Bool) → (b || true) ≡ true
  any_or true = refl
  any_or false = refl

one_front : (token : Lexeme) (front : List Lexeme) (xs : List (List ℕ)) → name_at token ++ (plain_names front ++ xs) ≡ plain_names (token ∷ front) ++ xs
one_front (lexeme.Name x) front xs = refl
one_front (lexeme.Keyword x) front xs = refl
one_front (lexeme.Sign x) front xs = refl
one_front (lexeme.Number x) front xs = refl
one_front (lexeme.Text x) front xs = refl
one_front lexeme.Other front xs = refl

-- the names up to IN are bound
bound_behind : (front us : List Lexeme) (u : Lexeme) → list_all (λ token. not (is_keyword (codes "IN") token)) front ≡ true → is_in u ≡ true
    → quantified true (front ++ u ∷ us) ≡ plain_names front ++ quantified false us
bound_behind [] us u p i = ap (λ b. if b then quantified false us else (if list_any is_in us then name_at u else []) ++ quantified true us) i
bound_behind (token ∷ front) us u p i =
    let h = and_parts (not (is_in token)) (list_all (λ token. not (is_keyword (codes "IN") token)) front) p in
    let rest : List Lexeme = front ++ u ∷ us in
    ap (λ b. if b then quantified false rest else (if list_any is_in rest then name_at token else []) ++ quantified true rest) (not_so (is_in token) h.0)
    ∙ ap (λ b. (if b then name_at token else []) ++ quantified true rest) (in_follows front us u i)
    ∙ ap (λ xs. name_at token ++ xs) (bound_behind front us u h.1 i) ∙ one_front token front (quantified false us)

-- ---- tests

pub of_several : (xs : List Bound) → bound_names (bound.Several xs) ≡ flat (map bound_names xs)
of_several xs = search (rules, bounds)

pub of_gathered : (xs : List Bound) → bound_names (gathered xs) ≡ flat (map bound_names xs)
of_gathered [] = of_several []
of_gathered (x ∷ []) = sym (append-nil (bound_names x))
of_gathered (x ∷ y ∷ xs) = of_several (x ∷ y ∷ xs)

bound_not : (x : Test) → bounds_in_test (test.Not x) ≡ bounds_in_test x
bound_not x = search (rules, the_lemmas)

bound_chain : (x : Expr) (links : List Link) → bounds_in_test (test.Chain x links) ≡ []
bound_chain x links = search (rules, the_lemmas)

bound_member : (o : Op) (x y : Expr) → bounds_in_test (test.Member o x y) ≡ []
bound_member o x y = search (rules, the_lemmas)

bound_call : (f : Template) (actuals : List Expr) → bounds_in_test (test.Call f actuals) ≡ []
bound_call f actuals = search (rules, the_lemmas)

bound_refinement : (i : NameId) → bounds_in_test (test.Refinement i) ≡ []
bound_refinement i = search (rules, the_lemmas)

abbrev some : ℕ → Option ℕ
some i = Some i

module _ (own : List (List ℕ)) where
  -- the names that are bound up to the rest have these numbers
  abbrev Bounds : List ℕ → List Lexeme → List Lexeme → Type 0
  Bounds is ts rest = (xs : List (List ℕ)) × (quantified false ts ≡ xs ++ quantified false rest) × (map (number_of own) xs ≡ map some is)

  no_bounds : (is : List ℕ) (ts rest : List Lexeme) → is ≡ [] → Passes ts rest → Bounds is ts rest
  no_bounds is ts rest e p = ([], p, ap (map some) (sym e))

  so_bounds : (is js : List ℕ) (ts us rest : List Lexeme) → Passes ts us → is ≡ js → Bounds is us rest → Bounds js ts rest
  so_bounds is js ts us rest p e (xs, q, m) = (xs, p ∙ q, m ∙ ap (map some) e)

  both_bounds : (is js : List ℕ) (ts us rest : List Lexeme) → Bounds is ts us → Bounds js us rest → Bounds (is ++ js) ts rest
  both_bounds is js ts us rest (xs, p, m) (ys, q, n) = (
    xs ++ ys,
    p ∙ ap (λ zs. xs ++ zs) q ∙ sym (append_assoc xs ys (quantified false rest)),
    map-append (number_of own) xs ys ∙ ap (λ zs. zs ++ map (number_of own) ys) m ∙ ap (λ zs. map some is ++ zs) n ∙ sym (map-append some is js),
  )

  -- SOME names IN
  bounds_behind : (is : List ℕ) (token : Lexeme) (q : Quantifier) (ts us : List Lexeme) (u : Lexeme) → quantifier_of token ≡ Some q → is_in u ≡ true
      → (front : List Lexeme) × AreNumbered own is ts front (u ∷ us) → Bounds is (token ∷ ts) us
  bounds_behind is token q ts us u h i (front, p) = (
    plain_names front,
    ap (λ b. quantified b ts) (ap is_there h) ∙ ap (quantified true) p.all ∙ bound_behind front us u p.before_in i,
    p.numbers_are,
  )

  mutual
    test_bounds : {d : ℕ} {place : Place} {x : Test} {ts rest : List Lexeme} → Tests own d place x ts rest → Bounds (bounds_in_test x) ts rest
    test_bounds (g.alone p) = part_bounds p
    test_bounds {rest = rest} (g.negated {a = x} {t = token} {ts = ts} h p) =
        so_bounds (bounds_in_test x) (bounds_in_test (test.Not x)) (token ∷ ts) ts rest (passed token ts (quiet_keyword (codes "NOT") token refl h)) (sym (bound_not x)) (test_bounds p)
    test_bounds {rest = rest} (g.quantified {quantifier = q} {names = names} {train = train} {a = x} {t = token} {u = u} {v = v} {ts = ts} {us = us} {vs = vs} h b i e w p) =
        let behind = so_bounds (bounds_in_test x) (bounds_in_test x) us vs rest (passes e ∙ passed v vs (quiet_keyword (codes "HAS") v refl w)) refl (test_bounds p) in
        let front = bounds_behind (flat (map bound_names names)) token q ts us u h i (names_numbered own b) in
        so_bounds (flat (map bound_names names) ++ bounds_in_test x) (bounds_in_test (test.Quantified q (gathered names) train x)) (token ∷ ts) (token ∷ ts) rest refl
        (ap (λ ns. ns ++ bounds_in_test x) (sym (of_gathered names)) ∙ sym (bound_quantified q (gathered names) train x))
        (both_bounds (flat (map bound_names names)) (bounds_in_test x) (token ∷ ts) us rest front behind)
    test_bounds {ts = ts} {rest = rest} (g.both {a = x} {c = y} {t = token} {us = us} h p k q) =
        let behind = so_bounds (bounds_in_test y) (bounds_in_test y) (token ∷ us) us rest (passed token us (quiet_keyword (codes "AND") token refl k)) refl (test_bounds q) in
        so_bounds (bounds_in_test x ++ bounds_in_test y) (bounds_in_test (test.And x y)) ts ts rest refl (sym (bound_and x y))
        (both_bounds (bounds_in_test x) (bounds_in_test y) ts (token ∷ us) rest (part_bounds p) behind)
    test_bounds {ts = ts} {rest = rest} (g.either {a = x} {c = y} {t = token} {us = us} h p k q) =
        let behind = so_bounds (bounds_in_test y) (bounds_in_test y) (token ∷ us) us rest (passed token us (quiet_keyword (codes "OR") token refl k)) refl (test_bounds q) in
        so_bounds (bounds_in_test x ++ bounds_in_test y) (bounds_in_test (test.Or x y)) ts ts rest refl (sym (bound_or x y))
        (both_bounds (bounds_in_test x) (bounds_in_test y) ts (token ∷ us) rest (part_bounds p) behind)

    part_bounds : {d : ℕ} {x : Test} {ts rest : List Lexeme} → Parted own d x ts rest → Bounds (bounds_in_test x) ts rest
    part_bounds {rest = rest} (g.round {a = x} {ts = ts} h p) =
        let h = test_bounds p in (h.0, h.1, h.2)
    part_bounds {ts = ts} {rest = rest} (g.chain {a = x} {links = links} h p q) = no_bounds (bounds_in_test (test.Chain x links)) ts rest (bound_chain x links) (passes p ∙ passes_links q)
    part_bounds {ts = ts} {rest = rest} (g.member {o = o} {a = x} {c = y} {t = token} {us = us} h p m q) =
        no_bounds (bounds_in_test (test.Member o x y)) ts rest (bound_member o x y) (passes p ∙ passed token us (quiet_membership own token o m) ∙ passes q)
    part_bounds {ts = ts} {rest = rest} (g.call {f = f} {actuals = actuals} h p) =
        no_bounds (bounds_in_test (test.Call (predicate f) actuals)) ts rest (bound_call (predicate f) actuals) (passes p)
    part_bounds {ts = ts} {rest = rest} (g.refinement {i = i} h p) =
        no_bounds (bounds_in_test (g.own_test i)) ts rest (bound_refinement (record { 0 = i })) (passes p)

  pub test_names : {d : ℕ} {place : Place} {x : Test} {ts : List Lexeme} → Tests own d place x ts [] → map (number_of own) (quantified false ts) ≡ map some (bounds_in_test x)
  test_names p = let h = test_bounds p in ap (map (number_of own)) (h.1 ∙ append-nil h.0) ∙ h.2
