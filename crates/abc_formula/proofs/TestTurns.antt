-- What the inner functions for tests keep.
use Rattle.std.proofs.Common.{◌≡◌, ◌≢◌, ◌-◌, drop, take, ℕ, zero, suc, ◌≤◌, ◌<◌, List, [], ◌∷◌, ◌++◌, length, Some, None, Ok, Err, refl, ap, sym, ◌∙◌, subst, arith}
use Rattle.std.proofs.lemmas.List.Elements.{All-tail}
use Rattle.std.specs.Prelude.{Result, All, IfOk}
use Rattle.abc_expressions.specs.declared.fault.FormulaFault.{FormulaFault}
use Rattle.abc_expressions.specs.declared.fault.FormulaFault.TheVariants as fault
use Rattle.abc_expressions.specs.declared.tree.ExpressionFront.{ExpressionFront}
use Rattle.abc_formula.specs.declared.test_frames.Front.{Front}
use Rattle.abc_expressions.specs.declared.lexemes.Lexeme.{Lexeme}
use Rattle.abc_expressions.specs.Lexemes.{IsSpelled}
use Rattle.abc_tree.specs.declared.formulas.Expr.{Expr}
use Rattle.abc_tree.specs.declared.formulas.Link.{Link}
use Rattle.abc_tree.specs.declared.operations.Op.{Op}
use Rattle.std.proofs.lemmas.List.{append_assoc, append-nil, take_all}
use Rattle.abc_expressions.specs.inner.Machine.{Leaves, reader, expression_of}
use Rattle.abc_tokens.proofs.Faults.{OneReading}
use Rattle.abc_expressions.specs.Readings.{Finds}
use Rattle.abc_formula.specs.TestGrammar.{relation_of, link}
use Rattle.abc_formula.specs.declared.testing.Advance.{Advance}
use Rattle.abc_formula.specs.declared.testing.Advance.TheVariants as advance
use Rattle.abc_formula.specs.declared.testing.TestFront.{TestFront}
use Rattle.abc_formula.specs.declared.test_frames.Place.{Place}
use Rattle.abc_formula.specs.declared.test_frames.Place.TheVariants as place
use Rattle.abc_formula.specs.declared.test_frames.TestFrame.{TestFrame}
use Rattle.abc_tree.specs.declared.formulas.Quantifier.{Quantifier}
use Rattle.abc_tree.specs.declared.formulas.Test.{Test}
use Rattle.abc_expressions.specs.declared.signs.Sign.TheVariants as s
use Rattle.abc_expressions.specs.declared.lexemes.Lexeme.TheVariants as t
use Rattle.abc_formula.specs.declared.test_frames.Behind.TheVariants as behind
use Rattle.abc_formula.specs.declared.test_frames.Front.TheVariants as front
use Rattle.abc_formula.specs.inner.TestMachine.{FoundTest, Reads, rest_of, wrapped, joined, behind_of, quantifies, tight, closed, rounded, made, front_of, from_front, test_in, onward, FoundLinks, linked, links_by, links_in}
use Rattle.abc_formula.specs.inner.TestSteps.{Fewer, FindsLinks, FindsTest, Advances, Begins, folded, fold_test, wrapped_by, behind_close}
use Rattle.abc_expressions.proofs.Sound.{reads_single}
use Rattle.abc_formula.proofs.TestParts.{shorter, all_behind}

-- the tokens behind one expression are fewer
pub single_rest : OneReading → (own : List (List ℕ)) (left least : ℕ) (tokens : List Lexeme) (result : Result ExpressionFront FormulaFault) → All IsSpelled tokens → least ≤ 10
    → ((c : ℕ) → left ≤ c → Finds result (expression_of (reader own c) own least left tokens)) → IfOk result (λ front. Fewer front.rest.now tokens)
single_rest law own left least tokens (Ok front) all low finds =
    let p = reads_single law own left left least low tokens front.rest.now front.tree (finds left (omega arith)) in (shorter p, all_behind p all)
single_rest law own left least tokens (Err f) all low finds = tt

-- ---- chains

-- relations before those that are found
abbrev pub behind_links : List Link → FoundLinks → FoundLinks
behind_links links = made (λ more. links ++ more)

module _ (leaves : Leaves) (own : List (List ℕ)) (d n : ℕ) (tokens : List Lexeme) where
  -- these relations were read, and what is left is read with enough turns
  abbrev pub LinksAre : List Link → List Lexeme → Type 0
  LinksAre links ahead = (m : ℕ) × (length ahead ≤ m) × (links_in leaves own n d tokens ≡ behind_links links (links_in leaves own m d ahead))

  none_before : (found : FoundLinks) → found ≡ behind_links [] found
  none_before None = refl
  none_before (Some found) = refl

  one_before : (links : List Link) (l : Link) (found : FoundLinks) → behind_links links (linked l found) ≡ behind_links (links ++ l ∷ []) found
  one_before links l None = refl
  one_before links l (Some found) = ap (λ (x : List Link). before_rest x found.1) (sym (append_assoc links (l ∷ []) found.0))
    where
      before_rest : List Link → List Lexeme → FoundLinks
      before_rest x rest = Some (x, rest)

  pub links_start : length tokens ≤ n → LinksAre [] tokens
  links_start few = (n, few, none_before (links_in leaves own n d tokens))

  by_link : (links : List Link) (m : ℕ) (token : Lexeme) (rest us : List Lexeme) (o : Op) (a : Expr) → links_in leaves own n d tokens ≡ behind_links links (links_in leaves own (suc m) d (token ∷ rest))
      → relation_of token ≡ Some o → expression_of leaves own 1 d rest ≡ Some (a, us) → links_in leaves own n d tokens ≡ behind_links (links ++ link o a ∷ []) (links_in leaves own m d us)
  unfolding links_in
  by_link links m token rest us o a same h e =
      same ∙ ap (λ x. behind_links links (links_by leaves own (links_in leaves own m) x d token rest)) h
      ∙ ap (λ x. behind_links links (onward x (λ a rest. linked (link o a) (links_in leaves own m d rest)))) e ∙ one_before links (link o a) (links_in leaves own m d us)

  pub links_on : (links more : List Link) (ahead rest us : List Lexeme) (token : Lexeme) (o : Op) (a : Expr) → LinksAre links ahead → ahead ≡ token ∷ rest → relation_of token ≡ Some o
      → expression_of leaves own 1 d rest ≡ Some (a, us) → length us < length rest → more ≡ links ++ link o a ∷ [] → LinksAre more us
  links_on links more ahead rest us token o a (zero, few, same) split h e less added = let l : length ahead ≡ length (token ∷ rest) = ap length split in absurd (omega (arith, l, few))
  links_on links more ahead rest us token o a (suc m, few, same) split h e less added =
      let l : length ahead ≡ length (token ∷ rest) = ap length split in
      (m, omega (arith, l, few, less), by_link links m token rest us o a (same ∙ ap (λ ts. behind_links links (links_in leaves own (suc m) d ts)) split) h e ∙ ap (λ x. behind_links x (links_in leaves own m d us)) (sym added))

  refused_link : (links : List Link) (m : ℕ) (token : Lexeme) (rest : List Lexeme) (o : Op) → links_in leaves own n d tokens ≡ behind_links links (links_in leaves own (suc m) d (token ∷ rest))
      → relation_of token ≡ Some o → expression_of leaves own 1 d rest ≡ None → links_in leaves own n d tokens ≡ None
  unfolding links_in
  refused_link links m token rest o same h e =
      same ∙ ap (λ x. behind_links links (links_by leaves own (links_in leaves own m) x d token rest)) h
      ∙ ap (λ x. behind_links links (onward x (λ a rest. linked (link o a) (links_in leaves own m d rest)))) e

  pub links_refused : (links : List Link) (ahead rest : List Lexeme) (token : Lexeme) (o : Op) (f : FormulaFault) → LinksAre links ahead → ahead ≡ token ∷ rest → relation_of token ≡ Some o
      → Finds (Err f) (expression_of leaves own 1 d rest) → FindsLinks (Err f) (links_in leaves own n d tokens)
  links_refused links ahead rest token o fault.BadCommand (zero, few, same) split h e = let l : length ahead ≡ length (token ∷ rest) = ap length split in absurd (omega (arith, l, few))
  links_refused links ahead rest token o fault.BadCommand (suc m, few, same) split h e = refused_link links m token rest o (same ∙ ap (λ ts. behind_links links (links_in leaves own (suc m) d ts)) split) h e
  links_refused links ahead rest token o fault.TooMany state split h e = absurd e
  links_refused links ahead rest token o fault.Memory state split h e = tt

  all_there : (links : List Link) (ahead : List Lexeme) (found : FoundLinks) → found ≡ behind_links links (Some ([], ahead)) → found ≡ Some (links, ahead)
  all_there links ahead found h = h ∙ ap (λ (x : List Link). with_rest x) (append-nil links)
    where
      with_rest : List Link → FoundLinks
      with_rest x = Some (x, ahead)

  ends_here : (links : List Link) (m : ℕ) (token : Lexeme) (rest : List Lexeme) → links_in leaves own n d tokens ≡ behind_links links (links_in leaves own (suc m) d (token ∷ rest))
      → relation_of token ≡ None → links_in leaves own n d tokens ≡ Some (links, token ∷ rest)
  unfolding links_in
  ends_here links m token rest same h =
      all_there links (token ∷ rest) (links_in leaves own n d tokens) (same ∙ ap (λ x. behind_links links (links_by leaves own (links_in leaves own m) x d token rest)) h)

  pub links_end : (links : List Link) (ahead rest : List Lexeme) (token : Lexeme) → LinksAre links ahead → ahead ≡ token ∷ rest → relation_of token ≡ None → links_in leaves own n d tokens ≡ Some (links, ahead)
  links_end links ahead rest token (zero, few, same) split h = let l : length ahead ≡ length (token ∷ rest) = ap length split in absurd (omega (arith, l, few))
  links_end links ahead rest token (suc m, few, same) split h =
      ends_here links m token rest (same ∙ ap (λ ts. behind_links links (links_in leaves own (suc m) d ts)) split) h ∙ ap (λ (ts : List Lexeme). before_all ts) (sym split)
    where
      before_all : List Lexeme → FoundLinks
      before_all ts = Some (links, ts)

  pub links_last : (links : List Link) (ahead : List Lexeme) → LinksAre links ahead → ahead ≡ [] → links_in leaves own n d tokens ≡ Some (links, ahead)
  unfolding links_in
  links_last links ahead (m, few, same) split =
      all_there links ahead (links_in leaves own n d tokens) (same ∙ ap (λ ts. behind_links links (links_in leaves own m d ts)) split ∙ ap (λ (ts : List Lexeme). here ts) (sym split))
    where
      here : List Lexeme → FoundLinks
      here ts = behind_links links (Some ([], ts))

-- ---- tests

pub folded_none : (frames : List TestFrame) → folded frames None ≡ None
folded_none [] = refl
folded_none (frame ∷ frames) = folded_none frames

module _ (leaves : Leaves) (own : List (List ℕ)) (d n : ℕ) (tokens : List Lexeme) where
  abbrev whole : FoundTest
  whole = test_in leaves own n place.Whole d tokens

  -- what stands before the place was read, and what is left is read with enough turns
  abbrev pub TestIs : List TestFrame → Place → List Lexeme → Type 0
  TestIs frames p ahead = (m : ℕ) × (length ahead ≤ m) × (whole ≡ folded frames (test_in leaves own m p d ahead))

  -- what one part does, with enough turns
  abbrev pub PartDoes : List TestFrame → Place → List Lexeme → Result Advance FormulaFault → List TestFrame → Type 0
  PartDoes frames p ahead result new = (m : ℕ) → length ahead ≤ suc m
      → Advances frames (from_front leaves own (test_in leaves own m) m (front_of ahead) p d ahead) (λ q ts. test_in leaves own m q d ts) result new

  pub test_start : length tokens ≤ n → TestIs [] place.Whole tokens
  test_start few = (n, few, refl)

  pub test_goes : (frames new : List TestFrame) (p q : Place) (ahead : List Lexeme) (rest : _) → TestIs frames p ahead → PartDoes frames p ahead (Ok (advance.Goes q rest)) new
      → length rest.now < length ahead → TestIs new q rest.now
  unfolding test_in
  test_goes frames new p q ahead rest (zero, few, same) does less = absurd (omega (arith, few, less))
  test_goes frames new p q ahead rest (suc m, few, same) does less = (m, omega (arith, few, less), same ∙ does m few)

  pub test_ends : (frames new : List TestFrame) (p : Place) (ahead : List Lexeme) (front : TestFront) → TestIs frames p ahead → PartDoes frames p ahead (Ok (advance.Ends front)) new
      → length front.rest.now < length ahead → FindsTest (Ok front) whole
  unfolding test_in
  test_ends frames new p ahead front (zero, few, same) does less = absurd (omega (arith, few, less))
  test_ends frames new p ahead front (suc m, few, same) does less = same ∙ does m few

  pub test_refused : (frames new : List TestFrame) (p : Place) (ahead : List Lexeme) (f : FormulaFault) → TestIs frames p ahead → PartDoes frames p ahead (Err f) new → FindsTest (Err f) whole
  unfolding test_in
  test_refused frames new p ahead fault.BadCommand (zero, few, same) does = same ∙ folded_none frames
  test_refused frames new p ahead fault.BadCommand (suc m, few, same) does = same ∙ ap (folded frames) (does m few) ∙ folded_none frames
  test_refused frames new p ahead fault.TooMany (m, few, same) does = absurd (does m (omega (arith, few)))
  test_refused frames new p ahead fault.Memory state does = tt

-- ---- parts and what stands before them

pub rest_is : (ts us : List Lexeme) → us ≡ rest_of ts → All IsSpelled ts → (length us ≤ length ts) × All IsSpelled us
rest_is [] us same all = let l : length us ≡ 0 = ap length same in (omega (arith, l), subst (All IsSpelled) (sym same) all)
rest_is (token ∷ ts) us same all = let l : length us ≡ length ts = ap length same in (omega (arith, l), subst (All IsSpelled) (sym same) (All-tail IsSpelled token ts all))

-- NOT and a quantifier are tokens
pub fewer_behind : (ts us : List Lexeme) (x : Front) → us ≡ rest_of ts → front_of ts ≡ x → x ≢ front.Tight → All IsSpelled ts → Fewer us ts
fewer_behind [] us x same h n all = absurd (n (sym h))
fewer_behind (token ∷ ts) us x same h n all = let l : length us ≡ length ts = ap length same in (omega (arith, l), subst (All IsSpelled) (sym same) (All-tail IsSpelled token ts all))

pub folded_some : (frames : List TestFrame) (a : Test) (ts : List Lexeme) (found : FoundTest) → found ≡ Some (a, ts) → folded frames found ≡ Some (fold_test frames a, ts)
folded_some [] a ts found h = h
folded_some (frame ∷ frames) a ts found h = folded_some frames (wrapped_by frame a) ts (wrapped (wrapped_by frame) found) (ap (wrapped (wrapped_by frame)) h)

pub ends_joined : (frames : List TestFrame) (p : Place) (next : Reads) (d : ℕ) (a b : Test) (rest : List Lexeme) → behind_of p rest ≡ behind.Ends → b ≡ fold_test frames a
    → folded frames (joined next d a rest (behind_of p rest)) ≡ Some (b, rest)
ends_joined frames p next d a b rest h e =
    folded_some frames a rest (joined next d a rest (behind_of p rest)) (ap (joined next d a rest) h) ∙ ap (λ (x : Test). with_rest x) (sym e)
  where
    with_rest : Test → FoundTest
    with_rest x = Some (x, rest)

module _ (leaves : Leaves) (own : List (List ℕ)) (d n : ℕ) (p : Place) (ts : List Lexeme) (frames new : List TestFrame) where
  abbrev at_front : FoundTest
  at_front = from_front leaves own (test_in leaves own n) n (front_of ts) p d ts

  abbrev next_at : Place → List Lexeme → FoundTest
  next_at q us = test_in leaves own n q d us

  pub quantifier_refused : (quantifier : Quantifier) (rest : List Lexeme) (f : FormulaFault) → front_of ts ≡ front.Quantifies quantifier → rest ≡ rest_of ts
      → Begins d (λ next. quantifies leaves own next quantifier d rest) (Err f) → Advances frames at_front next_at (Err f) new
  quantifier_refused quantifier rest fault.BadCommand h same begins =
      ap (λ x. from_front leaves own (test_in leaves own n) n x p d ts) h ∙ ap (quantifies leaves own (test_in leaves own n) quantifier d) (sym same) ∙ begins (test_in leaves own n)
  quantifier_refused quantifier rest fault.TooMany h same begins = absurd begins
  quantifier_refused quantifier rest fault.Memory h same begins = tt

  pub tight_joins : (a : Test) (rest : List Lexeme) (result : Result Advance FormulaFault) → front_of ts ≡ front.Tight → tight leaves own (test_in leaves own n) n d ts ≡ Some (a, rest)
      → Advances frames (joined (test_in leaves own n) d a rest (behind_of p rest)) next_at result new → Advances frames at_front next_at result new
  tight_joins a rest result h e joins =
      let same : joined (test_in leaves own n) d a rest (behind_of p rest) ≡ at_front =
      sym (ap (λ x. from_front leaves own (test_in leaves own n) n x p d ts) h ∙ ap (λ x. onward x (λ a rest. joined (test_in leaves own n) d a rest (behind_of p rest))) e) in
      subst (λ (x : FoundTest). Advances frames x next_at result new) same joins

-- ---- tests in parentheses

pub closed_none : (a : Test) (ts : List Lexeme) → behind_close ts ≡ None → closed (Some (a, ts)) ≡ None
closed_none a [] h = refl
closed_none a (t.Sign s.Close ∷ rest) h = cc
closed_none a (t.Sign _ ∷ rest) h = refl
closed_none a (t.Number bytes ∷ rest) h = refl
closed_none a (t.Name x ∷ rest) h = refl
closed_none a (t.Keyword x ∷ rest) h = refl
closed_none a (t.Text bytes ∷ rest) h = refl
closed_none a (t.Other ∷ rest) h = refl

-- the test within isn't followed by `)`
pub round_refused : (next : Reads) (d : ℕ) (ts : List Lexeme) (a : Test) (rest : List Lexeme) → 1 ≤ length ts → 0 < d
    → next place.Whole (d - 1) (take (length ts - 1) (drop 1 ts)) ≡ Some (a, rest) → behind_close rest ≡ None → rounded next d ts ≡ None
round_refused next d [] a rest some more h e = absurd (omega arith)
round_refused next zero (token ∷ ts) a rest some more h e = absurd (omega arith)
round_refused next (suc d) (token ∷ ts) a rest some more h e =
    let same : suc d - 1 ≡ d = omega arith in
    let all : take (suc (length ts) - 1) ts ≡ ts = take_all (suc (length ts) - 1) ts (omega arith) in
    ap closed (ap (λ (x : ℕ). next place.Whole x ts) (sym same) ∙ ap (next place.Whole (suc d - 1)) (sym all) ∙ h) ∙ closed_none a rest e
