-- What spells a test is read as that test.
use Rattle.std.proofs.Common.{◌≡◌, ℕ, zero, suc, ◌≤◌, ◌<◌, ◌⊎◌, inl, inr, Bool, true, false, ◌&&◌, List, [], ◌∷◌, ◌++◌, Some, None, refl, ap, arith, sym, ◌∙◌, subst, length}
use Rattle.std.specs.Prelude.{codes, nat_le, ◌==◌, if◌then◌else◌}
use Rattle.std.proofs.lemmas.Bool.{ne_eqb, le-leb}
use Rattle.std.proofs.lemmas.List.{append_assoc}
use Rattle.abc_num.specs.Text.{text_eq}
use Rattle.abc_tree.specs.declared.formulas.Bound.{Bound}
use Rattle.abc_tree.specs.declared.formulas.Expr.{Expr}
use Rattle.abc_tree.specs.declared.formulas.Expr.TheOpen.{Expr-F}
use Rattle.abc_tree.specs.declared.formulas.Expr.TheViews.{out-Expr, out-roll-Expr}
use Rattle.abc_tree.specs.declared.formulas.Expr.TheVariants as e
use Rattle.abc_tree.specs.declared.formulas.Link.{Link}
use Rattle.abc_tree.specs.declared.formulas.Quantifier.{Quantifier}
use Rattle.abc_tree.specs.declared.formulas.Quantifier.TheVariants as q
use Rattle.abc_tree.specs.declared.formulas.Test.{Test}
use Rattle.abc_tree.specs.declared.formulas.Test.TheVariants as test
use Rattle.abc_tree.specs.declared.operations.Op.{Op}
use Rattle.abc_tree.specs.declared.templates.Template.{Template}
use Rattle.abc_tree.specs.Roles.{is_membership}
use Rattle.abc_expressions.specs.declared.frames.Join.TheVariants as j
use Rattle.abc_expressions.specs.declared.frames.Kind.{Kind}
use Rattle.abc_expressions.specs.declared.frames.Kind.TheVariants as kind
use Rattle.abc_expressions.specs.declared.frames.Reach.TheVariants as r
use Rattle.abc_expressions.specs.declared.signs.Sign.TheVariants as s
use Rattle.abc_expressions.specs.declared.lexemes.Lexeme.{Lexeme}
use Rattle.abc_expressions.specs.declared.lexemes.Lexeme.TheVariants as t
use Rattle.abc_formula.specs.declared.test_frames.Place.{Place}
use Rattle.abc_formula.specs.declared.test_frames.Place.TheVariants as place
use Rattle.abc_formula.specs.declared.test_frames.Behind.TheVariants as behind
use Rattle.abc_formula.specs.declared.test_frames.Front.TheVariants as front
use Rattle.abc_formula.specs.declared.test_frames.NamesEnd.{NamesEnd}
use Rattle.abc_formula.specs.declared.test_frames.NamesEnd.TheVariants as end
use Rattle.abc_expressions.specs.Operators.{kind_of, infix_by, leftward, sign_of}
use Rattle.abc_expressions.specs.Grammar.{Spells, own_name}
use Rattle.abc_expressions.specs.inner.Machine.{reader, reach_by, reach, expression_of}
use Rattle.abc_tokens.proofs.Faults.{OneReading}
use Rattle.abc_formula.specs.TestGrammar.{is_keyword, quantifier_of, relation_of, membership_of, membership_by, link, is_round, gathered, takes_and, takes_or, Binds, last_name, more_names, BindsPart, one_name, round_names, Relates, last_link, more_links, Tests, alone, negated, quantified, both, either, Parted, round, chain, member, call, refinement}
use Rattle.abc_formula.specs.inner.TestMachine.{FoundTest, Groups, onward, name_read, behind_name, ends, is_end, names_end, names_in, FoundNames, FoundLinks, linked, links_by, links_in, lone_by, before, lone, chained, contained, part_by, part_of, Reads, closed, rounded, tight, wrapped, from_keyword, has_test, front_by, front_of, behind_of, joined, from_front, test_in}
use Rattle.abc_expressions.proofs.FrontLaws.{Ends, expression_found}
use Rattle.abc_formula.proofs.TestParts.{shorter, front_expression, keyword_is, end_keyword, end_by_relation}

-- ---- keywords

-- one keyword is not another
other_keyword : (word other x : List ℕ) → text_eq word other ≡ false → text_eq x word ≡ true → text_eq x other ≡ false
other_keyword word other x e h = let P : List ℕ → Type 0 = λ y. text_eq y other ≡ false in subst P (sym (keyword_is word x h)) e

not_other : (word other : List ℕ) (token : Lexeme) → text_eq word other ≡ false → is_keyword word token ≡ true → is_keyword other token ≡ false
not_other word other (t.Keyword x) e h = other_keyword word other x e h
not_other word other (t.Name x) e h = refl
not_other word other (t.Sign sign) e h = refl
not_other word other (t.Number bytes) e h = refl
not_other word other (t.Text bytes) e h = refl
not_other word other t.Other e h = refl

-- a quantifier is not NOT
by_words : (x : List ℕ) (quantifier : Quantifier) (i j k : Bool) → text_eq x (codes "SOME") ≡ i → text_eq x (codes "EACH") ≡ j → text_eq x (codes "NO") ≡ k
    → (if i then Some q.Exists else (if j then Some q.Each else (if k then Some q.No else None))) ≡ Some quantifier → text_eq x (codes "NOT") ≡ false
by_words x quantifier true j k hi hj hk h = other_keyword (codes "SOME") (codes "NOT") x refl hi
by_words x quantifier false true k hi hj hk h = other_keyword (codes "EACH") (codes "NOT") x refl hj
by_words x quantifier false false true hi hj hk h = other_keyword (codes "NO") (codes "NOT") x refl hk
by_words x quantifier false false false hi hj hk h = cc

not_negation : (token : Lexeme) (quantifier : Quantifier) → quantifier_of token ≡ Some quantifier → is_keyword (codes "NOT") token ≡ false
not_negation (t.Keyword x) quantifier h = by_words x quantifier (text_eq x (codes "SOME")) (text_eq x (codes "EACH")) (text_eq x (codes "NO")) refl refl refl h
not_negation (t.Name x) quantifier h = refl
not_negation (t.Sign sign) quantifier h = refl
not_negation (t.Number bytes) quantifier h = refl
not_negation (t.Text bytes) quantifier h = refl
not_negation t.Other quantifier h = refl

-- ---- where a part ends

-- a bracket that closes, AND or OR
abbrev Stops : Lexeme → Type 0
Stops token = (token ≡ t.Sign s.Close) ⊎ ((is_keyword (codes "AND") token ≡ true) ⊎ (is_keyword (codes "OR") token ≡ true))

abbrev StopsPart : List Lexeme → Type 0
StopsPart [] = Unit {0}
StopsPart (token ∷ ts) = Stops token

-- the end of all, or a bracket that closes
abbrev pub EndsTest : List Lexeme → Type 0
EndsTest [] = Unit {0}
EndsTest (token ∷ ts) = token ≡ t.Sign s.Close

stops_at_end : (ts : List Lexeme) → EndsTest ts → StopsPart ts
stops_at_end [] h = tt
stops_at_end (token ∷ ts) h = inl h

close_ends : (own : List (List ℕ)) → reach own (t.Sign s.Close) ≡ r.Ends
unfolding reach
close_ends own = refl

stop_ends : (own : List (List ℕ)) (token : Lexeme) → Stops token → reach own token ≡ r.Ends
stop_ends own token (inl h) = ap (reach own) h ∙ close_ends own
stop_ends own token (inr (inl h)) = end_keyword own (codes "AND") token h
stop_ends own token (inr (inr h)) = end_keyword own (codes "OR") token h

part_ends : (own : List (List ℕ)) (ts : List Lexeme) → StopsPart ts → Ends own ts
part_ends own [] h = tt
part_ends own (token ∷ ts) h = stop_ends own token h

keyword_relation : (word : List ℕ) (token : Lexeme) → is_keyword word token ≡ true → relation_of token ≡ None
keyword_relation word (t.Keyword x) h = refl
keyword_relation word (t.Name x) h = refl
keyword_relation word (t.Sign sign) h = cc
keyword_relation word (t.Number bytes) h = refl
keyword_relation word (t.Text bytes) h = refl
keyword_relation word t.Other h = refl

keyword_membership : (own : List (List ℕ)) (word : List ℕ) (token : Lexeme) → is_keyword word token ≡ true → membership_of own token ≡ None
keyword_membership own word (t.Keyword x) h = refl
keyword_membership own word (t.Name x) h = cc
keyword_membership own word (t.Sign sign) h = refl
keyword_membership own word (t.Number bytes) h = refl
keyword_membership own word (t.Text bytes) h = refl
keyword_membership own word t.Other h = refl

stop_relation : (token : Lexeme) → Stops token → relation_of token ≡ None
stop_relation token (inl h) = ap relation_of h
stop_relation token (inr (inl h)) = keyword_relation (codes "AND") token h
stop_relation token (inr (inr h)) = keyword_relation (codes "OR") token h

stop_membership : (own : List (List ℕ)) (token : Lexeme) → Stops token → membership_of own token ≡ None
stop_membership own token (inl h) = ap (membership_of own) h
stop_membership own token (inr (inl h)) = keyword_membership own (codes "AND") token h
stop_membership own token (inr (inr h)) = keyword_membership own (codes "OR") token h

-- ---- `in` and `not.in`

membership_relation : (own : List (List ℕ)) (token : Lexeme) (o : Op) → membership_of own token ≡ Some o → relation_of token ≡ None
membership_relation own (t.Name x) o h = refl
membership_relation own (t.Keyword x) o h = refl
membership_relation own (t.Sign sign) o h = cc
membership_relation own (t.Number bytes) o h = refl
membership_relation own (t.Text bytes) o h = refl
membership_relation own t.Other o h = refl

end_by_kind : (k : Kind) (x : List ℕ) (o : Op) → membership_by k ≡ Some o → reach_by (infix_by k x) (t.Name x) ≡ r.Ends
end_by_kind (kind.Own i) x o h = cc
end_by_kind (kind.Given one None) x o h = cc
end_by_kind (kind.Given one (Some two)) x o h = by_member (is_membership two) h
  where
    by_member : (is : Bool) → (if is then Some two else None) ≡ Some o → reach_by (if is then None else Some (leftward 1 (j.Op two))) (t.Name x) ≡ r.Ends
    by_member true h = refl
    by_member false h = cc
end_by_kind kind.Free x o h = cc

end_by_membership : (own : List (List ℕ)) (token : Lexeme) (o : Op) → membership_of own token ≡ Some o → reach own token ≡ r.Ends
unfolding reach
end_by_membership own (t.Name x) o h = end_by_kind (kind_of own x) x o h
end_by_membership own (t.Keyword x) o h = refl
end_by_membership own (t.Sign sign) o h = cc
end_by_membership own (t.Number bytes) o h = refl
end_by_membership own (t.Text bytes) o h = refl
end_by_membership own t.Other o h = refl

-- ---- names

many_enough : (fewest n : ℕ) (found : FoundNames) → fewest ≤ n → (if nat_le fewest n then found else None) ≡ found
many_enough fewest n found many = ap (λ c. if c then found else None) (le-leb fewest n many)

-- a comma ends no names, nor does a bracket within others
no_comma : (how : NamesEnd) (groups : Groups) → is_end how (t.Sign s.Comma) groups ≡ false
no_comma end.In groups = refl
no_comma end.Close groups = refl

no_end : (how : NamesEnd) (names outer : List Bound) (groups : Groups) → is_end how (t.Sign s.Close) (names ∷ outer ∷ groups) ≡ false
no_end end.In names outer groups = refl
no_end end.Close names outer groups = ne_eqb (length (names ∷ outer ∷ groups)) 1 (λ e. absurd (omega (arith, e)))

module _ (own : List (List ℕ)) (fewest : ℕ) (how : NamesEnd) where
  mutual
    unfolding names_in

    names_read : {d : ℕ} {more : List Bound} {ts rest : List Lexeme} → Binds own fewest d more ts rest → (so_far : List Bound) (groups : Groups)
        → names_in own fewest how ts d (so_far ∷ groups) true ≡ names_in own fewest how rest d ((so_far ++ more) ∷ groups) false
    names_read (last_name p) so_far groups = name_is_read p so_far groups
    names_read {d = d} {rest = rest} (more_names {a = a} {more = more} {us = us} p h) so_far groups =
        name_is_read p so_far groups ∙ ap (λ c. if c then names_end us ((so_far ++ a ∷ []) ∷ groups) else names_in own fewest how us d ((so_far ++ a ∷ []) ∷ groups) true) (no_comma how ((so_far ++ a ∷ []) ∷ groups))
        ∙ names_read h (so_far ++ a ∷ []) groups
        ∙ ap (λ x. names_in own fewest how rest d (x ∷ groups) false) (append_assoc so_far (a ∷ []) more)

    name_is_read : {d : ℕ} {a : Bound} {ts rest : List Lexeme} → BindsPart own fewest d a ts rest → (so_far : List Bound) (groups : Groups)
        → names_in own fewest how ts d (so_far ∷ groups) true ≡ names_in own fewest how rest d ((so_far ++ a ∷ []) ∷ groups) false
    name_is_read {d = d} {rest = rest} (one_name {i = i} {x = x} h) so_far groups = ap (λ k. name_read k (names_in own fewest how rest) d (so_far ∷ groups)) h
    name_is_read (round_names {d = d} {more = more} {ts = ts} {rest = rest} many p) so_far groups =
        names_read p [] (so_far ∷ groups)
        ∙ ap (λ c. if c then names_end rest (more ∷ so_far ∷ groups) else behind_name fewest s.Close (names_in own fewest how rest) d (more ∷ so_far ∷ groups)) (no_end how more so_far groups)
        ∙ many_enough fewest (length more) (names_in own fewest how rest (suc d) ((so_far ++ gathered more ∷ []) ∷ groups) false) many

pub names_found : (own : List (List ℕ)) (fewest : ℕ) (how : NamesEnd) {d : ℕ} {names : List Bound} {token : Lexeme} {ts us : List Lexeme} → Binds own fewest d names ts (token ∷ us) → ends how token ≡ true
    → names_in own fewest how ts d ([] ∷ []) true ≡ Some (names, us)
unfolding names_in
names_found own fewest how {d = d} {names = names} {token = token} {us = us} p h =
    names_read own fewest how p [] []
    ∙ ap (λ x. if x && (length (names ∷ []) == 1) then names_end us (names ∷ []) else behind_name fewest (sign_of token) (names_in own fewest how us) d (names ∷ [])) h

mutual
  shorter_names : {own : List (List ℕ)} {fewest d : ℕ} {more : List Bound} {ts rest : List Lexeme} → Binds own fewest d more ts rest → length rest < length ts
  shorter_names (last_name p) = shorter_name p
  shorter_names (more_names p h) = omega (arith, shorter_name p, shorter_names h)

  shorter_name : {own : List (List ℕ)} {fewest d : ℕ} {a : Bound} {ts rest : List Lexeme} → BindsPart own fewest d a ts rest → length rest < length ts
  shorter_name (one_name h) = omega arith
  shorter_name (round_names many p) = omega (arith, shorter_names p)

-- ---- a token at least

shorter_links : {own : List (List ℕ)} {d : ℕ} {links : List Link} {ts rest : List Lexeme} → Relates own d links ts rest → length rest < length ts
shorter_links (last_link h p) = omega (arith, shorter p)
shorter_links (more_links h p more) = omega (arith, shorter p, shorter_links more)

mutual
  pub shorter_test : {own : List (List ℕ)} {d : ℕ} {p : Place} {a : Test} {ts rest : List Lexeme} → Tests own d p a ts rest → length rest < length ts
  shorter_test (alone p) = shorter_part p
  shorter_test (negated h p) = omega (arith, shorter_test p)
  shorter_test (quantified h names i train j p) = omega (arith, shorter_names names, shorter train, shorter_test p)
  shorter_test (both h p i more) = omega (arith, shorter_part p, shorter_test more)
  shorter_test (either h p i more) = omega (arith, shorter_part p, shorter_test more)

  pub shorter_part : {own : List (List ℕ)} {d : ℕ} {a : Test} {ts rest : List Lexeme} → Parted own d a ts rest → length rest < length ts
  shorter_part (round h p) = omega (arith, shorter_test p)
  shorter_part (chain h p links) = omega (arith, shorter p, shorter_links links)
  shorter_part (member h p i other) = omega (arith, shorter p, shorter other)
  shorter_part (call h p) = shorter p
  shorter_part (refinement h p) = shorter p

-- ---- what a part begins with

pub front_part : {own : List (List ℕ)} {d : ℕ} {a : Test} {ts rest : List Lexeme} → Parted own d a ts rest → front_of ts ≡ front.Tight
front_part (round h p) = refl
front_part (chain h p links) = front_expression p
front_part (member h p i other) = front_expression p
front_part (call h p) = front_expression p
front_part (refinement h p) = front_expression p

-- ---- how a part is joined

behind_end : (p : Place) (ts : List Lexeme) → EndsTest ts → behind_of p ts ≡ behind.Ends
behind_end p [] h = refl
behind_end place.Whole (token ∷ ts) h = ap (λ token. behind_of place.Whole (token ∷ ts)) h
behind_end place.Conjunct (token ∷ ts) h = ap (λ token. behind_of place.Conjunct (token ∷ ts)) h
behind_end place.Disjunct (token ∷ ts) h = ap (λ token. behind_of place.Disjunct (token ∷ ts)) h
behind_end place.Negated (token ∷ ts) h = ap (λ token. behind_of place.Negated (token ∷ ts)) h

behind_and : (p : Place) (token : Lexeme) (ts : List Lexeme) → takes_and p ≡ true → is_keyword (codes "AND") token ≡ true → behind_of p (token ∷ ts) ≡ behind.And
behind_and p token ts h i =
    ap (λ x. if x && is_keyword (codes "AND") token then behind.And else (if takes_or p && is_keyword (codes "OR") token then behind.Or else behind.Ends)) h
    ∙ ap (λ x. if x then behind.And else (if takes_or p && is_keyword (codes "OR") token then behind.Or else behind.Ends)) i

behind_or : (p : Place) (token : Lexeme) (ts : List Lexeme) → takes_or p ≡ true → is_keyword (codes "OR") token ≡ true → behind_of p (token ∷ ts) ≡ behind.Or
behind_or p token ts h i =
    let n : is_keyword (codes "AND") token ≡ false = not_other (codes "OR") (codes "AND") token refl i in
    ap (λ x. if takes_and p && x then behind.And else (if takes_or p && is_keyword (codes "OR") token then behind.Or else behind.Ends)) n
    ∙ no_and (takes_and p) ∙ ap (λ x. if x && is_keyword (codes "OR") token then behind.Or else behind.Ends) h ∙ ap (λ x. if x then behind.Or else behind.Ends) i
  where
    no_and : (x : Bool) → (if x && false then behind.And else (if takes_or p && is_keyword (codes "OR") token then behind.Or else behind.Ends))
        ≡ (if takes_or p && is_keyword (codes "OR") token then behind.Or else behind.Ends)
    no_and true = refl
    no_and false = refl

-- ---- lone expressions

out_call : (f : Template) (actuals : List Expr) → out-Expr (e.Call f actuals) ≡ Expr-F.Call f actuals
out_call f actuals = ap out-Expr (sym (e.rolls-Call f actuals)) ∙ out-roll-Expr (Expr-F.Call f actuals)

out_name : (i : ℕ) → out-Expr (own_name i) ≡ Expr-F.Name (record { 0 = i })
out_name i = ap out-Expr (sym (e.rolls-Name (record { 0 = i }))) ∙ out-roll-Expr (Expr-F.Name (record { 0 = i }))

-- ---- the whole of it

begins_link : {own : List (List ℕ)} {d : ℕ} {links : List Link} {ts rest : List Lexeme} → Relates own d links ts rest → Ends own ts
begins_link {own = own} (last_link {o = o} {t = token} h p) = end_by_relation own token o h
begins_link {own = own} (more_links {o = o} {t = token} h p more) = end_by_relation own token o h

module _ (law : OneReading) (own : List (List ℕ)) (c : ℕ) where
  abbrev links_at : ℕ → ℕ → List Lexeme → FoundLinks
  links_at = links_in (reader own c) own

  abbrev after_relation : ℕ → ℕ → Op → Expr → List Lexeme → FoundLinks
  after_relation n d o a rest = linked (link o a) (links_at n d rest)

  no_links : (n d : ℕ) (rest : List Lexeme) → length rest ≤ n → StopsPart rest → links_at n d rest ≡ Some ([], rest)
  unfolding links_in
  no_links n d [] few stop = refl
  no_links zero d (token ∷ ts) few stop = absurd (omega arith)
  no_links (suc n) d (token ∷ ts) few stop = ap (λ x. links_by (reader own c) own (links_at n) x d token ts) (stop_relation token stop)

  links_found : {d : ℕ} {links : List Link} {ts rest : List Lexeme} → Relates own d links ts rest → (n : ℕ) → length ts ≤ n → d ≤ c → StopsPart rest
      → links_at n d ts ≡ Some (links, rest)
  unfolding links_in
  links_found (last_link h p) zero few deep stop = absurd (omega arith)
  links_found (more_links h p more) zero few deep stop = absurd (omega arith)
  links_found {d = d} {rest = rest} (last_link {o = o} {a = a} {t = token} {ts = ts} h p) (suc n) few deep stop =
      ap (λ x. links_by (reader own c) own (links_at n) x d token ts) h
      ∙ ap (λ x. onward x (after_relation n d o)) (expression_found law p c deep (part_ends own rest stop))
      ∙ ap (linked (link o a)) (no_links n d rest (omega (arith, shorter p)) stop)
  links_found {d = d} {rest = rest} (more_links {o = o} {a = a} {t = token} {links = links} {ts = ts} {us = us} h p more) (suc n) few deep stop =
      ap (λ x. links_by (reader own c) own (links_at n) x d token ts) h
      ∙ ap (λ x. onward x (after_relation n d o)) (expression_found law p c deep (begins_link more))
      ∙ ap (linked (link o a)) (links_found more n (omega (arith, shorter p)) deep stop)

  abbrev test_at : ℕ → Reads
  test_at = test_in (reader own c) own

  abbrev part_at : ℕ → ℕ → Expr → List Lexeme → FoundTest
  part_at = part_of (reader own c) own

  abbrev tight_at : ℕ → ℕ → List Lexeme → FoundTest
  tight_at n = tight (reader own c) own (test_at n) n

  part_chain : (n d : ℕ) (a : Expr) {links : List Link} {us rest : List Lexeme} → Relates own d links us rest → length us ≤ n → d ≤ c → StopsPart rest
      → part_at n d a us ≡ Some (test.Chain a links, rest)
  part_chain n d a (last_link {o = o} {t = token} {ts = ts} h p) few deep stop =
      ap (λ x. part_by (reader own c) own x (membership_of own token) n d a (token ∷ ts) ts) h ∙ ap (chained a) (links_found (last_link h p) n few deep stop)
  part_chain n d a (more_links {o = o} {t = token} {ts = ts} h p more) few deep stop =
      ap (λ x. part_by (reader own c) own x (membership_of own token) n d a (token ∷ ts) ts) h ∙ ap (chained a) (links_found (more_links h p more) n few deep stop)

  part_member : (n d : ℕ) (a other : Expr) (token : Lexeme) (o : Op) {us rest : List Lexeme} → membership_of own token ≡ Some o → Spells own d 2 other us rest → d ≤ c → StopsPart rest
      → part_at n d a (token ∷ us) ≡ Some (test.Member o a other, rest)
  part_member n d a other token o {us = us} {rest = rest} h p deep stop =
      ap (λ x. part_by (reader own c) own x (membership_of own token) n d a (token ∷ us) us) (membership_relation own token o h)
      ∙ ap (λ x. part_by (reader own c) own None x n d a (token ∷ us) us) h
      ∙ ap (contained a o) (expression_found law p c deep (part_ends own rest stop))

  part_lone : (n d : ℕ) (a : Expr) (rest : List Lexeme) → StopsPart rest → part_at n d a rest ≡ lone a rest
  part_lone n d a [] stop = refl
  part_lone n d a (token ∷ ts) stop =
      ap (λ x. part_by (reader own c) own x (membership_of own token) n d a (token ∷ ts) ts) (stop_relation token stop)
      ∙ ap (λ x. part_by (reader own c) own None x n d a (token ∷ ts) ts) (stop_membership own token stop)

  -- what is read of a part that is no test in parentheses
  plain : (next : Reads) (n d : ℕ) (a : Expr) (ts us : List Lexeme) → is_round ts ≡ false → expression_of (reader own c) own 1 d ts ≡ Some (a, us)
      → tight (reader own c) own next n d ts ≡ part_at n d a us
  plain next n d a ts us h e =
      ap (λ x. if x then rounded next d ts else onward (expression_of (reader own c) own 1 d ts) (part_at n d)) h ∙ ap (λ x. onward x (part_at n d)) e

  mutual
    unfolding test_in

    pub complete_test : {d : ℕ} {p : Place} {a : Test} {ts rest : List Lexeme} → Tests own d p a ts rest → (n : ℕ) → length ts ≤ n → d ≤ c → EndsTest rest
        → test_at n p d ts ≡ Some (a, rest)
    complete_test (alone q) zero few deep stop = absurd (omega (arith, shorter_part q))
    complete_test (negated h q) zero few deep stop = absurd (omega arith)
    complete_test (quantified h names i train j q) zero few deep stop = absurd (omega arith)
    complete_test (both h q i more) zero few deep stop = absurd (omega (arith, shorter_part q))
    complete_test (either h q i more) zero few deep stop = absurd (omega (arith, shorter_part q))
    complete_test {d = d} {p = p} {a = a} {ts = ts} {rest = rest} (alone q) (suc n) few deep stop =
        ap (λ x. from_front (reader own c) own (test_at n) n x p d ts) (front_part q)
        ∙ ap (λ x. onward x (λ a rest. joined (test_at n) d a rest (behind_of p rest))) (complete_part q n few deep (stops_at_end rest stop))
        ∙ ap (joined (test_at n) d a rest) (behind_end p rest stop)
    complete_test {d = d} {p = p} (negated {t = token} {ts = ts} h q) (suc n) few deep stop =
        ap (λ x. from_front (reader own c) own (test_at n) n (front_by x (quantifier_of token)) p d (token ∷ ts)) h
        ∙ ap (wrapped test.Not) (complete_test q n (omega arith) deep stop)
    complete_test {d = d} {p = p} (quantified {quantifier = quantifier} {names = names} {train = train} {t = token} {u = u} {v = v} {ts = ts} {us = us} {vs = vs} h binds i trained j q) (suc n) few deep stop =
        ap (λ x. from_front (reader own c) own (test_at n) n (front_by x (quantifier_of token)) p d (token ∷ ts)) (not_negation token quantifier h)
        ∙ ap (λ x. from_front (reader own c) own (test_at n) n (front_by false x) p d (token ∷ ts)) h
        ∙ ap (λ x. onward x (λ names us. onward (expression_of (reader own c) own 1 d us) (λ train vs. has_test (test_at n) d (test.Quantified quantifier (gathered names) train) (from_keyword (codes "HAS") vs))))
        (names_found own 1 end.In binds i)
        ∙ ap (λ x. onward x (λ train vs. has_test (test_at n) d (test.Quantified quantifier (gathered names) train) (from_keyword (codes "HAS") vs)))
        (expression_found law trained c deep (end_keyword own (codes "HAS") v j))
        ∙ ap (λ x. has_test (test_at n) d (test.Quantified quantifier (gathered names) train) (if x then Some vs else None)) j
        ∙ ap (wrapped (test.Quantified quantifier (gathered names) train)) (complete_test q n (omega (arith, shorter_names binds, shorter trained)) deep stop)
    complete_test {d = d} {p = p} {ts = ts} (both {a = a} {t = token} {us = us} h q i more) (suc n) few deep stop =
        ap (λ x. from_front (reader own c) own (test_at n) n x p d ts) (front_part q)
        ∙ ap (λ x. onward x (λ a rest. joined (test_at n) d a rest (behind_of p rest))) (complete_part q n few deep (inr (inl i)))
        ∙ ap (joined (test_at n) d a (token ∷ us)) (behind_and p token us h i)
        ∙ ap (wrapped (test.And a)) (complete_test more n (omega (arith, shorter_part q)) deep stop)
    complete_test {d = d} {p = p} {ts = ts} (either {a = a} {t = token} {us = us} h q i more) (suc n) few deep stop =
        ap (λ x. from_front (reader own c) own (test_at n) n x p d ts) (front_part q)
        ∙ ap (λ x. onward x (λ a rest. joined (test_at n) d a rest (behind_of p rest))) (complete_part q n few deep (inr (inr i)))
        ∙ ap (joined (test_at n) d a (token ∷ us)) (behind_or p token us h i)
        ∙ ap (wrapped (test.Or a)) (complete_test more n (omega (arith, shorter_part q)) deep stop)

    complete_part : {d : ℕ} {a : Test} {ts rest : List Lexeme} → Parted own d a ts rest → (n : ℕ) → length ts ≤ suc n → d ≤ c → StopsPart rest → tight_at n d ts ≡ Some (a, rest)
    complete_part (round {d = d} {ts = ts} h q) n few deep stop =
        ap (λ x. if x then rounded (test_at n) (suc d) (t.Sign s.Open ∷ ts) else onward (expression_of (reader own c) own 1 (suc d) (t.Sign s.Open ∷ ts)) (part_at n (suc d))) h
        ∙ ap closed (complete_test q n (omega arith) (omega arith) refl)
    complete_part {d = d} (chain {a = a} {ts = ts} {us = us} h p links) n few deep stop =
        plain (test_at n) n d a ts us h (expression_found law p c deep (begins_link links)) ∙ part_chain n d a links (omega (arith, shorter p)) deep stop
    complete_part {d = d} (member {o = o} {a = a} {c = other} {t = token} {ts = ts} {us = us} h p i q) n few deep stop =
        plain (test_at n) n d a ts (token ∷ us) h (expression_found law p c deep (end_by_membership own token o i)) ∙ part_member n d a other token o i q deep stop
    complete_part {d = d} {rest = rest} (call {f = f} {actuals = actuals} {ts = ts} h p) n few deep stop =
        plain (test_at n) n d (e.Call f actuals) ts rest h (expression_found law p c deep (part_ends own rest stop)) ∙ part_lone n d (e.Call f actuals) rest stop
        ∙ ap (λ x. before rest (lone_by x)) (out_call f actuals)
    complete_part {d = d} {rest = rest} (refinement {i = i} {ts = ts} h p) n few deep stop =
        plain (test_at n) n d (own_name i) ts rest h (expression_found law p c deep (part_ends own rest stop)) ∙ part_lone n d (own_name i) rest stop
        ∙ ap (λ x. before rest (lone_by x)) (out_name i)

-- tokens have at most one test
test_or : Test → FoundTest → Test
test_or x None = x
test_or x (Some found) = found.0

pub one_reading : OneReading → (own : List (List ℕ)) (d : ℕ) (a c : Test) (ts : List Lexeme) → Tests own d place.Whole a ts [] → Tests own d place.Whole c ts [] → a ≡ c
unfolding test_or
one_reading law own d a c ts p q =
    ap (test_or a) (sym (complete_test law own d p (length ts) (omega arith) (omega arith) tt) ∙ complete_test law own d q (length ts) (omega arith) (omega arith) tt)
