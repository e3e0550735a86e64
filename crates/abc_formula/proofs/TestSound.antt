-- What is read as a test spells it.
use Rattle.std.proofs.Common.{◌≡◌, ℕ, zero, suc, ◌≤◌, ◌&&◌, Bool, true, false, List, [], ◌∷◌, ◌++◌, Option, Some, None, refl, ap, arith, sym, ◌∙◌, subst}
use Rattle.std.specs.Prelude.{codes, nat_le, ◌==◌, length, if◌then◌else◌}
use Rattle.std.proofs.lemmas.Bool.{and_parts, leb-true}
use Rattle.std.proofs.lemmas.List.{append_assoc}
use Rattle.abc_tree.specs.declared.formulas.Bound.{Bound}
use Rattle.abc_tree.specs.declared.formulas.Bound.TheVariants as b
use Rattle.abc_tree.specs.declared.formulas.Expr.{Expr}
use Rattle.abc_tree.specs.declared.formulas.Expr.TheOpen.{Expr-F}
use Rattle.abc_tree.specs.declared.formulas.Expr.TheViews.{out-Expr, roll-Expr, roll-out-Expr}
use Rattle.abc_tree.specs.declared.formulas.Expr.TheVariants as e
use Rattle.abc_tree.specs.declared.formulas.Fill.{Fill}
use Rattle.abc_tree.specs.declared.formulas.Link.{Link}
use Rattle.abc_tree.specs.declared.formulas.Pair.{Pair}
use Rattle.abc_tree.specs.declared.formulas.Piece.{Piece}
use Rattle.abc_tree.specs.declared.formulas.Quantifier.{Quantifier}
use Rattle.abc_tree.specs.declared.formulas.Test.{Test}
use Rattle.abc_tree.specs.declared.formulas.Test.TheVariants as test
use Rattle.abc_tree.specs.declared.operations.Op.{Op}
use Rattle.abc_expressions.specs.declared.frames.Kind.{Kind}
use Rattle.abc_expressions.specs.declared.frames.Kind.TheVariants as kind
use Rattle.abc_expressions.specs.declared.signs.Sign.{Sign}
use Rattle.abc_expressions.specs.declared.signs.Sign.TheVariants as s
use Rattle.abc_expressions.specs.declared.lexemes.Lexeme.{Lexeme}
use Rattle.abc_expressions.specs.declared.lexemes.Lexeme.TheVariants as t
use Rattle.abc_formula.specs.declared.test_frames.Place.{Place}
use Rattle.abc_formula.specs.declared.test_frames.Place.TheVariants as place
use Rattle.abc_formula.specs.declared.test_frames.Behind.TheVariants as behind
use Rattle.abc_formula.specs.declared.test_frames.NamesEnd.{NamesEnd}
use Rattle.abc_formula.specs.declared.test_frames.NamesEnd.TheVariants as end
use Rattle.abc_expressions.specs.Operators.{kind_of, sign_of}
use Rattle.abc_expressions.specs.Grammar.{Spells}
use Rattle.abc_expressions.specs.inner.Machine.{Found, reader, expression_of}
use Rattle.abc_tokens.proofs.Faults.{OneReading}
use Rattle.abc_formula.specs.TestGrammar.{is_keyword, quantifier_of, relation_of, membership_of, predicate, link, is_round, gathered, takes_and, takes_or, Binds, last_name, more_names, BindsPart, one_name, round_names, Relates, last_link, more_links, Tests, alone, negated, quantified, both, either, Parted, round, chain, member, call, refinement}
use Rattle.abc_formula.specs.inner.TestMachine.{FoundTest, Groups, onward, name_read, at_names_sign, at_name, behind_name, ends, is_end, names_end, names_in, FoundLinks, linked, links_by, links_in, lone_by, before, lone, chained, contained, part_by, part_of, Reads, closed, rounded, tight, wrapped, from_keyword, has_test, quantifies, front_by, behind_of, rest_of, joined, from_front, test_in}
use Rattle.abc_expressions.proofs.Sound.{reads_single}

same_found : {X : Type 0} (p q : X × List Lexeme) → Some p ≡ Some q → p ≡ q
same_found p q h = cc

-- ---- names

-- what is read as names from here on comes behind those
abbrev NamesSoFar : List (List ℕ) → ℕ → ℕ → List Bound → List Lexeme → List Lexeme → Type 0
NamesSoFar own fewest d names all ts = (more : List Bound) (rest : List Lexeme) → Binds own fewest d more ts rest → Binds own fewest d (names ++ more) all rest

module _ (own : List (List ℕ)) (fewest : ℕ) (how : NamesEnd) (most : ℕ) (all : List Lexeme) where
  -- names are wanted here
  abbrev Naming : Groups → ℕ → List Lexeme → Type 0
  Naming [] d ts = ⊥
  Naming (names ∷ []) d ts = (d ≡ most) × NamesSoFar own fewest d names all ts
  Naming (names ∷ outer ∷ groups) d ts = (us : List Lexeme) × NamesSoFar own fewest d names us ts × Naming (outer ∷ groups) (suc d) (t.Sign s.Open ∷ us)

  -- a name was read
  abbrev Named : Groups → ℕ → List Lexeme → Type 0
  Named [] d ts = ⊥
  Named (names ∷ groups) d ts = (front : List Bound) × (a : Bound) × (us : List Lexeme) × (names ≡ front ++ a ∷ []) × BindsPart own fewest d a us ts × Naming (front ∷ groups) d us

  abbrev NamesState : Bool → Groups → ℕ → List Lexeme → Type 0
  NamesState true groups d ts = Naming groups d ts
  NamesState false groups d ts = Named groups d ts

  abbrev NamesTold : List Bound → List Lexeme → Type 0
  NamesTold names us = (token : Lexeme) × Binds own fewest most names all (token ∷ us) × (ends how token ≡ true)

  so_far_more : (d : ℕ) (front : List Bound) (a : Bound) (all us ts : List Lexeme) → NamesSoFar own fewest d front all us → BindsPart own fewest d a us (t.Sign s.Comma ∷ ts)
      → NamesSoFar own fewest d (front ++ a ∷ []) all ts
  so_far_more d front a all us ts so p more rest q =
      subst (λ (x : List Bound). Binds own fewest d x all rest) (sym (append_assoc front (a ∷ []) more)) (so (a ∷ more) rest (more_names p q))

  -- behind a comma
  comma : (groups : Groups) (d : ℕ) (ts : List Lexeme) → Named groups d (t.Sign s.Comma ∷ ts) → Naming groups d ts
  comma [] d ts h = absurd h
  comma (names ∷ []) d ts (front, a, us, same, p, (e, so)) =
      (e, subst (λ (x : List Bound). NamesSoFar own fewest d x all ts) (sym same) (so_far_more d front a all us ts so p))
  comma (names ∷ outer ∷ groups) d ts (front, a, us, same, p, (vs, so, out)) =
      (vs, subst (λ (x : List Bound). NamesSoFar own fewest d x vs ts) (sym same) (so_far_more d front a vs us ts so p), out)

  close : (names outer : List Bound) (groups : Groups) (d : ℕ) (ts : List Lexeme) → fewest ≤ length names → Named (names ∷ outer ∷ groups) d (t.Sign s.Close ∷ ts)
      → Named ((outer ++ gathered names ∷ []) ∷ groups) (suc d) ts
  close names outer groups d ts many (front, a, us, same, p, (vs, so, out)) =
      let inner : Binds own fewest d names vs (t.Sign s.Close ∷ ts) = subst (λ (x : List Bound). Binds own fewest d x vs (t.Sign s.Close ∷ ts)) (sym same) (so (a ∷ []) (t.Sign s.Close ∷ ts) (last_name p)) in
      (outer, gathered names, t.Sign s.Open ∷ vs, refl, round_names many inner, out)

  at_end : (groups : Groups) (d : ℕ) (token : Lexeme) (ts us : List Lexeme) (found : List Bound) → Named groups d (token ∷ ts) → ends how token ≡ true
      → names_end ts groups ≡ Some (found, us) → NamesTold found us
  at_end [] d token ts us found h i e = absurd h
  at_end (names ∷ []) d token ts us found (front, a, vs, same, p, (m, so)) i e =
      let same_end = same_found (names, ts) (found, us) e in
      let f : names ≡ found = ap (λ x. x.0) same_end in
      let g : ts ≡ us = ap (λ x. x.1) same_end in
      let whole : Binds own fewest d names all (token ∷ ts) = subst (λ (x : List Bound). Binds own fewest d x all (token ∷ ts)) (sym same) (so (a ∷ []) (token ∷ ts) (last_name p)) in (
        token,
        subst (λ (x : List Bound). Binds own fewest most x all (token ∷ us)) f
            (subst (λ (x : ℕ). Binds own fewest x names all (token ∷ us)) m (subst (λ (x : List Lexeme). Binds own fewest d names all (token ∷ x)) g whole)),
        i,
      )
  at_end (names ∷ outer ∷ groups) d token ts us found h i e = cc

  module _ (token : Lexeme) (ts us : List Lexeme) (found : List Bound)
      (ih : (wants : Bool) (groups : Groups) (d : ℕ) → NamesState wants groups d ts → names_in own fewest how ts d groups wants ≡ Some (found, us) → NamesTold found us) where
    own_read : (k : Kind) (x : List ℕ) (groups : Groups) (d : ℕ) → kind_of own x ≡ k → Naming groups d (t.Name x ∷ ts) → name_read k (names_in own fewest how ts) d groups ≡ Some (found, us) → NamesTold found us
    own_read (kind.Own i) x [] d k h e = absurd h
    own_read (kind.Own i) x (names ∷ groups) d k h e =
        ih false ((names ++ b.One (record { 0 = i }) ∷ []) ∷ groups) d (names, b.One (record { 0 = i }), t.Name x ∷ ts, refl, one_name k, h) e
    own_read (kind.Given one two) x groups d k h e = cc
    own_read kind.Free x groups d k h e = cc

    opens : (sign : Sign) (groups : Groups) (d : ℕ) → Naming groups d (t.Sign sign ∷ ts) → at_names_sign sign (names_in own fewest how ts) d groups ≡ Some (found, us) → NamesTold found us
    opens s.Open groups zero h e = cc
    opens s.Open [] (suc d) h e = absurd h
    opens s.Open (names ∷ groups) (suc d) h e = ih true ([] ∷ names ∷ groups) d (ts, (λ more rest q. q), h) e
    opens _ groups d h e = cc

    wanted : (x : Lexeme) (groups : Groups) (d : ℕ) → Naming groups d (x ∷ ts) → at_name own x (names_in own fewest how ts) d groups ≡ Some (found, us) → NamesTold found us
    wanted (t.Name x) groups d h e = own_read (kind_of own x) x groups d refl h e
    wanted (t.Sign sign) groups d h e = opens sign groups d h e
    wanted (t.Number bytes) groups d h e = cc
    wanted (t.Keyword x) groups d h e = cc
    wanted (t.Text bytes) groups d h e = cc
    wanted t.Other groups d h e = cc

    closes : (names outer : List Bound) (groups : Groups) (d : ℕ) (many : Bool) → nat_le fewest (length names) ≡ many → Named (names ∷ outer ∷ groups) d (t.Sign s.Close ∷ ts)
        → (if many then names_in own fewest how ts (suc d) ((outer ++ gathered names ∷ []) ∷ groups) false else None) ≡ Some (found, us) → NamesTold found us
    closes names outer groups d true is h e = ih false ((outer ++ gathered names ∷ []) ∷ groups) (suc d) (close names outer groups d ts (leb-true fewest (length names) is) h) e
    closes names outer groups d false is h e = cc

    after_sign : (x : Lexeme) (groups : Groups) (d : ℕ) → Named groups d (x ∷ ts) → behind_name fewest (sign_of x) (names_in own fewest how ts) d groups ≡ Some (found, us) → NamesTold found us
    after_sign (t.Sign s.Comma) groups d h e = ih true groups d (comma groups d ts h) e
    after_sign (t.Sign s.Close) [] d h e = cc
    after_sign (t.Sign s.Close) (names ∷ []) d h e = cc
    after_sign (t.Sign s.Close) (names ∷ outer ∷ groups) d h e = closes names outer groups d (nat_le fewest (length names)) refl h e
    after_sign (t.Sign _) groups d h e = cc
    after_sign (t.Name x) groups d h e = cc
    after_sign (t.Number bytes) groups d h e = cc
    after_sign (t.Keyword x) groups d h e = cc
    after_sign (t.Text bytes) groups d h e = cc
    after_sign t.Other groups d h e = cc

    after_name : (is : Bool) (groups : Groups) (d : ℕ) → is_end how token groups ≡ is → Named groups d (token ∷ ts)
        → (if is then names_end ts groups else behind_name fewest (sign_of token) (names_in own fewest how ts) d groups) ≡ Some (found, us) → NamesTold found us
    after_name true groups d i h e = at_end groups d token ts us found h (and_parts (ends how token) (length groups == 1) i).0 e
    after_name false groups d i h e = after_sign token groups d h e

  names_told : (ts us : List Lexeme) (found : List Bound) (wants : Bool) (groups : Groups) (d : ℕ) → NamesState wants groups d ts → names_in own fewest how ts d groups wants ≡ Some (found, us) → NamesTold found us
  unfolding names_in
  names_told [] us found wants groups d h e = cc
  names_told (token ∷ ts) us found true groups d h e = wanted token ts us found (names_told ts us found) token groups d h e
  names_told (token ∷ ts) us found false groups d h e = after_name token ts us found (names_told ts us found) (is_end how token groups) groups d refl h e

-- the names up to what ends them are spelled
pub names_spelled : (own : List (List ℕ)) (fewest : ℕ) (how : NamesEnd) (d : ℕ) (ts us : List Lexeme) (found : List Bound) → names_in own fewest how ts d ([] ∷ []) true ≡ Some (found, us)
    → (token : Lexeme) × Binds own fewest d found ts (token ∷ us) × (ends how token ≡ true)
names_spelled own fewest how d ts us found e = names_told own fewest how d ts ts us found true ([] ∷ []) d (refl, λ more rest q. q) e

-- ---- lone expressions

call_is : (a : Expr) (f : _) (actuals : List Expr) → out-Expr a ≡ Expr-F.Call f actuals → e.Call f actuals ≡ a
call_is a f actuals h = sym (e.rolls-Call f actuals) ∙ ap roll-Expr (sym h) ∙ roll-out-Expr a

name_is : (a : Expr) (i : _) → out-Expr a ≡ Expr-F.Name i → e.Name i ≡ a
name_is a i h = sym (e.rolls-Name i) ∙ ap roll-Expr (sym h) ∙ roll-out-Expr a

module _ (own : List (List ℕ)) (d : ℕ) (ts us : List Lexeme) (not_round : is_round ts ≡ false) (result : Test × List Lexeme) where
  lone_by_told : (x : Expr-F Expr Fill Piece Pair) (a : Expr) → out-Expr a ≡ x → Spells own d 1 a ts us → before us (lone_by x) ≡ Some result → Parted own d result.0 ts result.1
  lone_by_told (Expr-F.Call f actuals) a h p g =
      let same = same_found (test.Call (predicate f) actuals, us) result g in
      let whole : Parted own d (test.Call (predicate f) actuals) ts us = call not_round (subst (λ (x : Expr). Spells own d 1 x ts us) (sym (call_is a f actuals h)) p) in
      subst (λ (x : Test × List Lexeme). Parted own d x.0 ts x.1) same whole
  lone_by_told (Expr-F.Name i) a h p g =
      let same = same_found (test.Refinement i, us) result g in
      let whole : Parted own d (test.Refinement i) ts us = refinement not_round (subst (λ (x : Expr). Spells own d 1 x ts us) (sym (name_is a i h)) p) in
      subst (λ (x : Test × List Lexeme). Parted own d x.0 ts x.1) same whole
  lone_by_told (Expr-F.Number n) a h p g = cc
  lone_by_told (Expr-F.Text pieces) a h p g = cc
  lone_by_told (Expr-F.Compound parts) a h p g = cc
  lone_by_told Expr-F.Empty a h p g = cc
  lone_by_told (Expr-F.List fills) a h p g = cc
  lone_by_told (Expr-F.Table pairs) a h p g = cc
  lone_by_told (Expr-F.Select x k) a h p g = cc
  lone_by_told (Expr-F.Apply1 o x) a h p g = cc
  lone_by_told (Expr-F.Apply2 o x y) a h p g = cc

  lone_told : (a : Expr) → Spells own d 1 a ts us → lone a us ≡ Some result → Parted own d result.0 ts result.1
  lone_told a p g = lone_by_told (out-Expr a) a refl p g

-- ---- expressions, chains and parts

-- what is found, and what is done with it
onward_told : {X Y : Type 0} (found : Option (X × List Lexeme)) (next : X → List Lexeme → Option Y) (y : Y) → onward found next ≡ Some y
    → (x : X) × (rest : List Lexeme) × (found ≡ Some (x, rest)) × (next x rest ≡ Some y)
onward_told None next y h = cc
onward_told (Some (x, rest)) next y h = (x, rest, refl, h)

linked_told : (l : Link) (found : FoundLinks) (result : List Link × List Lexeme) → linked l found ≡ Some result
    → (links : List Link) × (rest : List Lexeme) × (found ≡ Some (links, rest)) × (result ≡ (l ∷ links, rest))
linked_told l None result h = cc
linked_told l (Some (links, rest)) result h = (links, rest, refl, sym (same_found (l ∷ links, rest) result h))

wrapped_told : (wrap : Test → Test) (found : FoundTest) (result : Test × List Lexeme) → wrapped wrap found ≡ Some result
    → (a : Test) × (rest : List Lexeme) × (found ≡ Some (a, rest)) × (result ≡ (wrap a, rest))
wrapped_told wrap None result h = cc
wrapped_told wrap (Some (a, rest)) result h = (a, rest, refl, sym (same_found (wrap a, rest) result h))

chained_told : (a : Expr) (found : FoundLinks) (result : Test × List Lexeme) → chained a found ≡ Some result
    → (links : List Link) × (rest : List Lexeme) × (found ≡ Some (links, rest)) × (result ≡ (test.Chain a links, rest))
chained_told a None result h = cc
chained_told a (Some (links, rest)) result h = (links, rest, refl, sym (same_found (test.Chain a links, rest) result h))

contained_told : (a : Expr) (o : Op) (found : Found) (result : Test × List Lexeme) → contained a o found ≡ Some result
    → (other : Expr) × (rest : List Lexeme) × (found ≡ Some (other, rest)) × (result ≡ (test.Member o a other, rest))
contained_told a o None result h = cc
contained_told a o (Some (other, rest)) result h = (other, rest, refl, sym (same_found (test.Member o a other, rest) result h))

closed_told : (found : FoundTest) (result : Test × List Lexeme) → closed found ≡ Some result → found ≡ Some (result.0, t.Sign s.Close ∷ result.1)
closed_told None result h = cc
closed_told (Some (a, [])) result h = cc
closed_told (Some (a, t.Sign s.Close ∷ rest)) result h = ap (λ (x : Test × List Lexeme). with_close x) (same_found (a, rest) result h)
  where
    with_close : Test × List Lexeme → FoundTest
    with_close x = Some (x.0, t.Sign s.Close ∷ x.1)
closed_told (Some (a, t.Sign sign ∷ rest)) result h = cc
closed_told (Some (a, t.Number bytes ∷ rest)) result h = cc
closed_told (Some (a, t.Name x ∷ rest)) result h = cc
closed_told (Some (a, t.Keyword x ∷ rest)) result h = cc
closed_told (Some (a, t.Text bytes ∷ rest)) result h = cc
closed_told (Some (a, t.Other ∷ rest)) result h = cc

module _ (law : OneReading) (own : List (List ℕ)) (c : ℕ) where
  expression_told : (d n : ℕ) → n ≤ 10 → (ts rest : List Lexeme) (a : Expr) → expression_of (reader own c) own n d ts ≡ Some (a, rest) → Spells own d n a ts rest
  expression_told d n low ts rest a h = reads_single law own c d n low ts rest a h

  abbrev links_at : ℕ → ℕ → List Lexeme → FoundLinks
  links_at = links_in (reader own c) own

  -- a chain that begins with a relation
  abbrev LinksTold : ℕ → ℕ → Type 0
  LinksTold n d = (token : Lexeme) (ts : List Lexeme) (o : Op) (result : List Link × List Lexeme) → relation_of token ≡ Some o → links_at n d (token ∷ ts) ≡ Some result
      → Relates own d result.0 (token ∷ ts) result.1

  module _ (n d : ℕ) (token : Lexeme) (ts : List Lexeme) (o : Op) (a : Expr) (h : relation_of token ≡ Some o) (ih : LinksTold n d) where
    last : (us : List Lexeme) (result : List Link × List Lexeme) → Spells own d 1 a ts us → Some ([], us) ≡ Some result → Relates own d (link o a ∷ result.0) (token ∷ ts) result.1
    last us result p g =
        let none : List Link × List Lexeme = ([], us) in
        subst (λ (x : List Link × List Lexeme). Relates own d (link o a ∷ x.0) (token ∷ ts) x.1) (same_found none result g) (last_link h p)

    by_next : (x : Option Op) (v : Lexeme) (vs : List Lexeme) (result : List Link × List Lexeme) → relation_of v ≡ x → Spells own d 1 a ts (v ∷ vs)
        → links_at n d (v ∷ vs) ≡ Some result → Relates own d (link o a ∷ result.0) (token ∷ ts) result.1
    unfolding links_in
    by_next (Some o2) v vs result i p g = more_links h p (ih v vs o2 result i g)
    by_next None v vs result i p g = none_next n g
      where
        none_next : (n : ℕ) → links_at n d (v ∷ vs) ≡ Some result → Relates own d (link o a ∷ result.0) (token ∷ ts) result.1
        none_next zero g = cc
        none_next (suc n) g = last (v ∷ vs) result p (ap (λ x. links_by (reader own c) own (links_at n) x d v vs) (sym i) ∙ g)

    further : (us : List Lexeme) (result : List Link × List Lexeme) → Spells own d 1 a ts us → links_at n d us ≡ Some result → Relates own d (link o a ∷ result.0) (token ∷ ts) result.1
    unfolding links_in
    further [] result p g = last [] result p g
    further (v ∷ vs) result p g = by_next (relation_of v) v vs result refl p g

  links_told : (n d : ℕ) → LinksTold n d
  unfolding links_in
  links_told zero d token ts o result h g = cc
  links_told (suc n) d token ts o result h g =
      let q = onward_told (expression_of (reader own c) own 1 d ts) (λ a rest. linked (link o a) (links_at n d rest)) result
      (ap (λ x. links_by (reader own c) own (links_at n) x d token ts) (sym h) ∙ g) in
      let p : Spells own d 1 q.0 ts q.1 = expression_told d 1 (omega arith) ts q.1 q.0 q.2 in
      let w = linked_told (link o q.0) (links_at n d q.1) result q.3 in
      let found : List Link × List Lexeme = (w.0, w.1) in
      subst (λ (x : List Link × List Lexeme). Relates own d x.0 (token ∷ ts) x.1) (sym w.3) (further n d token ts o q.0 h (links_told n d) q.1 found p w.2)

  -- ---- parts

  module _ (n d : ℕ) (a : Expr) (ts us vs : List Lexeme) (not_round : is_round ts ≡ false) (result : Test × List Lexeme) where
    part_by_told : (token : Lexeme) (x y : Option Op) → relation_of token ≡ x → membership_of own token ≡ y → Spells own d 1 a ts (token ∷ vs)
        → part_by (reader own c) own x y n d a (token ∷ vs) vs ≡ Some result → Parted own d result.0 ts result.1
    part_by_told token (Some o) y h i p g =
        let w = chained_told a (links_at n d (token ∷ vs)) result g in
        let found : List Link × List Lexeme = (w.0, w.1) in
        subst (λ (x : Test × List Lexeme). Parted own d x.0 ts x.1) (sym w.3) (chain not_round p (links_told n d token vs o found h w.2))
    part_by_told token None (Some o) h i p g =
        let w = contained_told a o (expression_of (reader own c) own 2 d vs) result g in
        subst (λ (x : Test × List Lexeme). Parted own d x.0 ts x.1) (sym w.3) (member not_round p i (expression_told d 2 (omega arith) vs w.1 w.0 w.2))
    part_by_told token None None h i p g = lone_told own d ts (token ∷ vs) not_round result a p g

  part_told : (n d : ℕ) (a : Expr) (ts us : List Lexeme) → is_round ts ≡ false → (result : Test × List Lexeme) → Spells own d 1 a ts us
      → part_of (reader own c) own n d a us ≡ Some result → Parted own d result.0 ts result.1
  part_told n d a ts [] h result p g = lone_told own d ts [] h result a p g
  part_told n d a ts (token ∷ vs) h result p g = part_by_told n d a ts (token ∷ vs) vs h result token (relation_of token) (membership_of own token) refl refl p g

  abbrev test_at : ℕ → Reads
  test_at = test_in (reader own c) own

  -- what is read with so many tokens is right
  abbrev TestTold : ℕ → Type 0
  TestTold n = (p : Place) (d : ℕ) (ts : List Lexeme) (result : Test × List Lexeme) → test_at n p d ts ≡ Some result → Tests own d p result.0 ts result.1

  module _ (n : ℕ) (ih : TestTold n) where
    round_told : (d : ℕ) (ts : List Lexeme) (result : Test × List Lexeme) → is_round ts ≡ true → rounded (test_at n) d ts ≡ Some result → Parted own d result.0 ts result.1
    round_told zero ts result h g = cc
    round_told (suc d) [] result h g = cc
    round_told (suc d) (t.Sign s.Open ∷ ts) result h g =
        let inner : Test × List Lexeme = (result.0, t.Sign s.Close ∷ result.1) in
        round h (ih place.Whole d ts inner (closed_told (test_at n place.Whole d ts) result g))
    round_told (suc d) (t.Sign sign ∷ ts) result h g = cc
    round_told (suc d) (t.Number bytes ∷ ts) result h g = cc
    round_told (suc d) (t.Name x ∷ ts) result h g = cc
    round_told (suc d) (t.Keyword x ∷ ts) result h g = cc
    round_told (suc d) (t.Text bytes ∷ ts) result h g = cc
    round_told (suc d) (t.Other ∷ ts) result h g = cc

    tight_by : (x : Bool) (d : ℕ) (ts : List Lexeme) (result : Test × List Lexeme) → is_round ts ≡ x
        → (if x then rounded (test_at n) d ts else onward (expression_of (reader own c) own 1 d ts) (part_of (reader own c) own n d)) ≡ Some result → Parted own d result.0 ts result.1
    tight_by true d ts result h g = round_told d ts result h g
    tight_by false d ts result h g =
        let q = onward_told (expression_of (reader own c) own 1 d ts) (part_of (reader own c) own n d) result g in
        part_told n d q.0 ts q.1 h result (expression_told d 1 (omega arith) ts q.1 q.0 q.2) q.3

    tight_told : (d : ℕ) (ts : List Lexeme) (result : Test × List Lexeme) → tight (reader own c) own (test_at n) n d ts ≡ Some result → Parted own d result.0 ts result.1
    tight_told d ts result g = tight_by (is_round ts) d ts result refl g

    ended : (p : Place) (d : ℕ) (a : Test) (ts us : List Lexeme) (result : Test × List Lexeme) → Parted own d a ts us → Some (a, us) ≡ Some result → Tests own d p result.0 ts result.1
    ended p d a ts us result q g = subst (λ (x : Test × List Lexeme). Tests own d p x.0 ts x.1) (same_found (a, us) result g) (alone q)

    or_joined : (p : Place) (d : ℕ) (a : Test) (ts us : List Lexeme) (result : Test × List Lexeme) → Parted own d a ts us → (token : Lexeme) (vs : List Lexeme) → us ≡ token ∷ vs
        → takes_or p ≡ true → is_keyword (codes "OR") token ≡ true → wrapped (test.Or a) (test_at n place.Disjunct d (rest_of us)) ≡ Some result → Tests own d p result.0 ts result.1
    or_joined p d a ts us result q token vs same hk hl g =
        let w = wrapped_told (test.Or a) (test_at n place.Disjunct d (rest_of us)) result g in
        let found : Test × List Lexeme = (w.0, w.1) in
        let more : Tests own d place.Disjunct w.0 (rest_of us) w.1 = ih place.Disjunct d (rest_of us) found w.2 in
        subst (λ (x : Test × List Lexeme). Tests own d p x.0 ts x.1) (sym w.3)
        (either hk (subst (λ (x : List Lexeme). Parted own d a ts x) same q) hl (subst (λ (x : List Lexeme). Tests own d place.Disjunct w.0 (rest_of x) w.1) same more))

    -- how a part goes on
    joined_by : (p : Place) (d : ℕ) (a : Test) (ts us : List Lexeme) (result : Test × List Lexeme) → Parted own d a ts us → (i j k l : Bool) → (token : Lexeme) (vs : List Lexeme) → us ≡ token ∷ vs
        → takes_and p ≡ i → is_keyword (codes "AND") token ≡ j → takes_or p ≡ k → is_keyword (codes "OR") token ≡ l
        → joined (test_at n) d a us (if i && j then behind.And else (if k && l then behind.Or else behind.Ends)) ≡ Some result → Tests own d p result.0 ts result.1
    joined_by p d a ts us result q true true k l token vs same hi hj hk hl g =
        let w = wrapped_told (test.And a) (test_at n place.Conjunct d (rest_of us)) result g in
        let found : Test × List Lexeme = (w.0, w.1) in
        let more : Tests own d place.Conjunct w.0 (rest_of us) w.1 = ih place.Conjunct d (rest_of us) found w.2 in
        subst (λ (x : Test × List Lexeme). Tests own d p x.0 ts x.1) (sym w.3)
        (both hi (subst (λ (x : List Lexeme). Parted own d a ts x) same q) hj (subst (λ (x : List Lexeme). Tests own d place.Conjunct w.0 (rest_of x) w.1) same more))
    joined_by p d a ts us result q true false true true token vs same hi hj hk hl g = or_joined p d a ts us result q token vs same hk hl g
    joined_by p d a ts us result q false j true true token vs same hi hj hk hl g = or_joined p d a ts us result q token vs same hk hl g
    joined_by p d a ts us result q true false true false token vs same hi hj hk hl g = ended p d a ts us result q g
    joined_by p d a ts us result q true false false l token vs same hi hj hk hl g = ended p d a ts us result q g
    joined_by p d a ts us result q false j true false token vs same hi hj hk hl g = ended p d a ts us result q g
    joined_by p d a ts us result q false j false l token vs same hi hj hk hl g = ended p d a ts us result q g

    joined_told : (p : Place) (d : ℕ) (a : Test) (ts us : List Lexeme) (result : Test × List Lexeme) → Parted own d a ts us → joined (test_at n) d a us (behind_of p us) ≡ Some result
        → Tests own d p result.0 ts result.1
    joined_told p d a ts [] result q g = ended p d a ts [] result q g
    joined_told p d a ts (token ∷ vs) result q g =
        joined_by p d a ts (token ∷ vs) result q (takes_and p) (is_keyword (codes "AND") token) (takes_or p) (is_keyword (codes "OR") token) token vs refl refl refl refl refl g

    -- behind a quantifier
    has_told : (p : Place) (d : ℕ) (quantifier : Quantifier) (names : List Bound) (train : Expr) (token u : Lexeme) (ts us vs : List Lexeme) (result : Test × List Lexeme)
        → quantifier_of token ≡ Some quantifier → Binds own 1 d names ts (u ∷ us) → is_keyword (codes "IN") u ≡ true → Spells own d 1 train us vs
        → has_test (test_at n) d (test.Quantified quantifier (gathered names) train) (from_keyword (codes "HAS") vs) ≡ Some result → Tests own d p result.0 (token ∷ ts) result.1
    has_told p d quantifier names train token u ts us [] result h binds i trained g = cc
    has_told p d quantifier names train token u ts us (v ∷ vs) result h binds i trained g = by_has (is_keyword (codes "HAS") v) refl g
      where
        by_has : (x : Bool) → is_keyword (codes "HAS") v ≡ x → has_test (test_at n) d (test.Quantified quantifier (gathered names) train) (if x then Some vs else None) ≡ Some result
            → Tests own d p result.0 (token ∷ ts) result.1
        by_has false j g = cc
        by_has true j g =
            let w = wrapped_told (test.Quantified quantifier (gathered names) train) (test_at n place.Whole d vs) result g in
            let found : Test × List Lexeme = (w.0, w.1) in
            subst (λ (x : Test × List Lexeme). Tests own d p x.0 (token ∷ ts) x.1) (sym w.3) (quantified h binds i trained j (ih place.Whole d vs found w.2))

    quantifies_told : (p : Place) (d : ℕ) (quantifier : Quantifier) (token : Lexeme) (ts : List Lexeme) (result : Test × List Lexeme) → quantifier_of token ≡ Some quantifier
        → quantifies (reader own c) own (test_at n) quantifier d ts ≡ Some result → Tests own d p result.0 (token ∷ ts) result.1
    quantifies_told p d quantifier token ts result h g =
        let read = λ (names : List Bound) (us : List Lexeme). onward (expression_of (reader own c) own 1 d us) (λ train vs. has_test (test_at n) d (test.Quantified quantifier (gathered names) train) (from_keyword (codes "HAS") vs)) in
        let q = onward_told (names_in own 1 end.In ts d ([] ∷ []) true) read result g in
        let w = names_spelled own 1 end.In d ts q.1 q.0 q.2 in
        let r = onward_told (expression_of (reader own c) own 1 d q.1) (λ train vs. has_test (test_at n) d (test.Quantified quantifier (gathered q.0) train) (from_keyword (codes "HAS") vs)) result q.3 in
        has_told p d quantifier q.0 r.0 token w.0 ts q.1 r.1 result h w.1 w.2 (expression_told d 1 (omega arith) q.1 r.1 r.0 r.2) r.3

    tight_joined : (p : Place) (d : ℕ) (ts : List Lexeme) (result : Test × List Lexeme)
        → onward (tight (reader own c) own (test_at n) n d ts) (λ a rest. joined (test_at n) d a rest (behind_of p rest)) ≡ Some result → Tests own d p result.0 ts result.1
    tight_joined p d ts result g =
        let q = onward_told (tight (reader own c) own (test_at n) n d ts) (λ a rest. joined (test_at n) d a rest (behind_of p rest)) result g in
        let found : Test × List Lexeme = (q.0, q.1) in
        joined_told p d q.0 ts q.1 result (tight_told d ts found q.2) q.3

    -- by what the tokens begin with
    front_told : (p : Place) (d : ℕ) (token : Lexeme) (ts : List Lexeme) (result : Test × List Lexeme) (x : Bool) (y : Option Quantifier) → is_keyword (codes "NOT") token ≡ x → quantifier_of token ≡ y
        → from_front (reader own c) own (test_at n) n (front_by x y) p d (token ∷ ts) ≡ Some result → Tests own d p result.0 (token ∷ ts) result.1
    front_told p d token ts result true y h i g =
        let w = wrapped_told test.Not (test_at n place.Negated d ts) result g in
        let found : Test × List Lexeme = (w.0, w.1) in
        subst (λ (x : Test × List Lexeme). Tests own d p x.0 (token ∷ ts) x.1) (sym w.3) (negated h (ih place.Negated d ts found w.2))
    front_told p d token ts result false (Some quantifier) h i g = quantifies_told p d quantifier token ts result i g
    front_told p d token ts result false None h i g = tight_joined p d (token ∷ ts) result g

  test_told : (n : ℕ) → TestTold n
  unfolding test_in
  test_told zero p d ts result g = cc
  test_told (suc n) p d [] result g = tight_joined n (test_told n) p d [] result g
  test_told (suc n) p d (token ∷ ts) result g = front_told n (test_told n) p d token ts result (is_keyword (codes "NOT") token) (quantifier_of token) refl refl g

pub reads_test : OneReading → (own : List (List ℕ)) (c n : ℕ) (p : Place) (d : ℕ) (ts rest : List Lexeme) (a : Test) → test_in (reader own c) own n p d ts ≡ Some (a, rest)
    → Tests own d p a ts rest
reads_test law own c n p d ts rest a g = let result : Test × List Lexeme = (a, rest) in test_told law own c n p d ts result g
