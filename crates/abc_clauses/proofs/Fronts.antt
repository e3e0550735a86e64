-- The names in front of IN and the formal in front are those that the grammar spells there.
use Rattle.std.proofs.Common.{◌≡◌, ◌≤◌, ℕ, zero, suc, true, List, [], ◌∷◌, length, Option, Some, None, refl, ap, sym, ◌∙◌, subst, arith}
use Rattle.std.specs.Prelude.{Result, Ok, Err, IfOk, All}
use Rattle.std.proofs.lemmas.List.Elements.{All-drop}
use Rattle.std.proofs.lemmas.Option.{same_Some}
use Rattle.abc_num.specs.declared.limits.TheConstants.{MOST_LINE_BYTES}
use Rattle.abc_tree.specs.declared.formulas.Bound.{Bound}
use Rattle.abc_tree.specs.declared.formulas.Bound.TheVariants as b
use Rattle.abc_expressions.specs.declared.fault.FormulaFault.{FormulaFault}
use Rattle.abc_expressions.specs.declared.fault.FormulaFault.TheVariants as fault
use Rattle.abc_expressions.specs.declared.frames.Kind.{Kind}
use Rattle.abc_expressions.specs.declared.frames.Kind.TheVariants as kind
use Rattle.abc_expressions.specs.declared.lexemes.Lexeme.{Lexeme}
use Rattle.abc_expressions.specs.declared.lexemes.Lexeme.TheVariants as t
use Rattle.abc_expressions.specs.declared.signs.Sign.TheVariants as s
use Rattle.abc_expressions.specs.Lexemes.{IsSpelled}
use Rattle.abc_expressions.specs.Operators.{kind_of}
use Rattle.abc_expressions.specs.Readings.{Tells}
use Rattle.abc_formula.specs.declared.binding.BoundFront.{BoundFront}
use Rattle.abc_formula.specs.declared.test_frames.NamesEnd.TheVariants as end
use Rattle.abc_formula.specs.BoundFronts.{IsBoundFront, IsFormalFront, BindsOnly}
use Rattle.abc_formula.specs.TestGrammar.{gathered, Binds, BindsPart, last_name, more_names, one_name, round_names}
use Rattle.abc_formula.specs.inner.TestMachine.{FoundNames, ends, names_in, gathered_found, only_several, formal_name, formal_in}
use Rattle.abc_formula.proofs.TestComplete.{names_found}
use Rattle.abc_formula.proofs.TestSound.{names_spelled}
use Rattle.abc_clauses.specs.Readings.{bound_of, formal_of}

abbrev FoundBound : Type 0
FoundBound = Option (Bound × List Lexeme)

-- what answers with the only one of which something is true tells what is found, where exactly that is true
module _ (is : Bound → List Lexeme → Type 0) (found : FoundBound) (told : (a : Bound) (rest : List Lexeme) → found ≡ Some (a, rest) → is a rest)
    (finds : (a : Bound) (rest : List Lexeme) → is a rest → found ≡ Some (a, rest)) where
  never : (x : FoundBound) → found ≡ x → ((a : Bound) (rest : List Lexeme) → is a rest → ⊥) → found ≡ None
  never None e lacks = e
  never (Some (a, rest)) e lacks = absurd (lacks a rest (told a rest e))

  pub only_tells : (x : Result BoundFront FormulaFault) → BindsOnly is x → Tells (λ (front : BoundFront). (front.bound, front.rest.now)) x found
  only_tells (Ok front) h = finds front.bound front.rest.now h.0
  only_tells (Err fault.BadCommand) h = never found refl h
  only_tells (Err fault.TooMany) h = h
  only_tells (Err fault.Memory) h = h

-- ---- names up to IN

module _ (own : List (List ℕ)) (ts : List Lexeme) (a : Bound) (rest : List Lexeme) where
  pub bound_found : IsBoundFront own MOST_LINE_BYTES ts a rest → bound_of own ts ≡ Some (a, rest)
  unfolding bound_of
  bound_found (names, token, binds, is, same) =
      ap gathered_found (names_found own 1 end.In binds is) ∙ ap (λ x. Some (x, rest)) (sym same)

  bound_by : (x : FoundNames) → names_in own 1 end.In ts MOST_LINE_BYTES ([] ∷ []) true ≡ x → gathered_found x ≡ Some (a, rest) → IsBoundFront own MOST_LINE_BYTES ts a rest
  bound_by None is h = cc
  bound_by (Some (names, us)) is h =
      let e = same_Some (gathered names, us) (a, rest) h in
      let w = names_spelled own 1 end.In MOST_LINE_BYTES ts us names is in
      (names, w.0, subst (λ (x : List Lexeme). Binds own 1 MOST_LINE_BYTES names ts (w.0 ∷ x)) (ap (λ x. x.1) e) w.1, w.2, sym (ap (λ x. x.0) e))

  pub bound_told : bound_of own ts ≡ Some (a, rest) → IsBoundFront own MOST_LINE_BYTES ts a rest
  unfolding bound_of
  bound_told h = bound_by (names_in own 1 end.In ts MOST_LINE_BYTES ([] ∷ []) true) refl h

-- ---- formals

several_found : (names : List Bound) (rest : List Lexeme) → 2 ≤ length names → only_several (Some (names, rest)) ≡ Some (gathered names, rest)
several_found [] rest many = absurd (omega arith)
several_found (a ∷ []) rest many = absurd (omega arith)
several_found (a ∷ c ∷ names) rest many = refl

formal_read : (own : List (List ℕ)) (d : ℕ) (ts : List Lexeme) (a : Bound) (rest : List Lexeme) → IsFormalFront own d ts a rest → formal_in own d ts ≡ Some (a, rest)
formal_read own d ts a rest (one_name h) = ap (λ k. formal_name k rest) h
formal_read own d ts a rest (round_names {more = more} many binds) =
    ap only_several (names_found own 2 end.Close binds refl) ∙ several_found more rest many

name_told : (own : List (List ℕ)) (d : ℕ) (x : List ℕ) (ts : List Lexeme) (a : Bound) (rest : List Lexeme) (k : Kind) → kind_of own x ≡ k
    → formal_name k ts ≡ Some (a, rest) → BindsPart own 2 d a (t.Name x ∷ ts) rest
name_told own d x ts a rest (kind.Own i) is h =
    let e = same_Some (b.One (record { 0 = i }), ts) (a, rest) h in
    subst (λ (y : Bound). BindsPart own 2 d y (t.Name x ∷ ts) rest) (ap (λ x. x.0) e)
    (subst (λ (us : List Lexeme). BindsPart own 2 d (b.One (record { 0 = i })) (t.Name x ∷ ts) us) (ap (λ x. x.1) e) (one_name is))
name_told own d x ts a rest (kind.Given one two) is h = cc
name_told own d x ts a rest kind.Free is h = cc

closing_is : (token : Lexeme) → ends end.Close token ≡ true → token ≡ t.Sign s.Close
closing_is (t.Sign s.Close) h = refl
closing_is (t.Sign _) h = cc
closing_is (t.Name x) h = cc
closing_is (t.Number bytes) h = cc
closing_is (t.Keyword x) h = cc
closing_is (t.Text bytes) h = cc
closing_is t.Other h = cc

round_told : (own : List (List ℕ)) (d : ℕ) (ts : List Lexeme) (a : Bound) (rest : List Lexeme) (x : FoundNames) → names_in own 2 end.Close ts d ([] ∷ []) true ≡ x
    → only_several x ≡ Some (a, rest) → BindsPart own 2 (suc d) a (t.Sign s.Open ∷ ts) rest
round_told own d ts a rest None is h = cc
round_told own d ts a rest (Some ([], us)) is h = cc
round_told own d ts a rest (Some (one ∷ [], us)) is h = cc
round_told own d ts a rest (Some (one ∷ two ∷ names, us)) is h =
    let e = same_Some (b.Several (one ∷ two ∷ names), us) (a, rest) h in
    let w = names_spelled own 2 end.Close d ts us (one ∷ two ∷ names) is in
    let inner : Binds own 2 d (one ∷ two ∷ names) ts (t.Sign s.Close ∷ rest) =
    subst (λ (u : Lexeme). Binds own 2 d (one ∷ two ∷ names) ts (u ∷ rest)) (closing_is w.0 w.2)
    (subst (λ (x : List Lexeme). Binds own 2 d (one ∷ two ∷ names) ts (w.0 ∷ x)) (ap (λ x. x.1) e) w.1) in
    subst (λ (y : Bound). BindsPart own 2 (suc d) y (t.Sign s.Open ∷ ts) rest) (ap (λ x. x.0) e) (round_names (omega arith) inner)

formal_by : (own : List (List ℕ)) (d : ℕ) (ts : List Lexeme) (a : Bound) (rest : List Lexeme) → formal_in own d ts ≡ Some (a, rest) → IsFormalFront own d ts a rest
formal_by own d [] a rest h = cc
formal_by own d (t.Name x ∷ ts) a rest h = name_told own d x ts a rest (kind_of own x) refl h
formal_by own zero (t.Sign s.Open ∷ ts) a rest h = cc
formal_by own (suc d) (t.Sign s.Open ∷ ts) a rest h = round_told own d ts a rest (names_in own 2 end.Close ts d ([] ∷ []) true) refl h
formal_by own d (t.Sign _ ∷ ts) a rest h = cc
formal_by own d (t.Number bytes ∷ ts) a rest h = cc
formal_by own d (t.Keyword x ∷ ts) a rest h = cc
formal_by own d (t.Text bytes ∷ ts) a rest h = cc
formal_by own d (t.Other ∷ ts) a rest h = cc

module _ (own : List (List ℕ)) (ts : List Lexeme) (a : Bound) (rest : List Lexeme) where
  pub formal_found : IsFormalFront own MOST_LINE_BYTES ts a rest → formal_of own ts ≡ Some (a, rest)
  unfolding formal_of
  formal_found p = formal_read own MOST_LINE_BYTES ts a rest p

  pub formal_told : formal_of own ts ≡ Some (a, rest) → IsFormalFront own MOST_LINE_BYTES ts a rest
  unfolding formal_of
  formal_told h = formal_by own MOST_LINE_BYTES ts a rest h

-- no formal is spelled by no tokens
pub no_formal : (own : List (List ℕ)) (a : Bound) (rest : List Lexeme) → IsFormalFront own MOST_LINE_BYTES [] a rest → ⊥
no_formal own a rest p = let x : FoundBound = None in let e : x ≡ Some (a, rest) = formal_read own MOST_LINE_BYTES [] a rest p in cc

-- ---- the tokens behind are spelled as those in front

abbrev pub SpelledOn : List Lexeme → List Lexeme → Type 0
SpelledOn ts rest = All IsSpelled ts → All IsSpelled rest

mutual
  names_on : {own : List (List ℕ)} {fewest d : ℕ} {names : List Bound} {ts rest : List Lexeme} → Binds own fewest d names ts rest → SpelledOn ts rest
  names_on (last_name p) h = name_on p h
  names_on (more_names {us = us} p q) h = names_on q (All-drop IsSpelled 1 (t.Sign s.Comma ∷ us) (name_on p h))

  name_on : {own : List (List ℕ)} {fewest d : ℕ} {a : Bound} {ts rest : List Lexeme} → BindsPart own fewest d a ts rest → SpelledOn ts rest
  name_on (one_name {x = x} {rest = rest} is) h = All-drop IsSpelled 1 (t.Name x ∷ rest) h
  name_on (round_names {ts = ts} {rest = rest} many q) h = All-drop IsSpelled 1 (t.Sign s.Close ∷ rest) (names_on q (All-drop IsSpelled 1 (t.Sign s.Open ∷ ts) h))

pub bound_on : {own : List (List ℕ)} {d : ℕ} {a : Bound} {ts rest : List Lexeme} → IsBoundFront own d ts a rest → SpelledOn ts rest
bound_on {rest = rest} (names, token, binds, is, same) h = All-drop IsSpelled 1 (token ∷ rest) (names_on binds h)

pub formal_on : {own : List (List ℕ)} {d : ℕ} {a : Bound} {ts rest : List Lexeme} → IsFormalFront own d ts a rest → SpelledOn ts rest
formal_on p h = name_on p h

-- what answers with the only one of which something is true, where that keeps tokens spelled, answers with tokens that are
pub only_spelled : (is : Bound → List Lexeme → Type 0) (ts : List Lexeme) → ((a : Bound) (rest : List Lexeme) → is a rest → SpelledOn ts rest) → All IsSpelled ts
    → (x : Result BoundFront FormulaFault) → BindsOnly is x → IfOk x (λ front. All IsSpelled front.rest.now)
only_spelled is ts keeps h (Ok front) p = keeps front.bound front.rest.now p.0 h
only_spelled is ts keeps h (Err f) p = tt

-- ---- the calls

pub bound_tells : (own : List (List ℕ)) (ts : List Lexeme) (x : Result BoundFront FormulaFault) → BindsOnly (IsBoundFront own MOST_LINE_BYTES ts) x
    → Tells (λ (front : BoundFront). (front.bound, front.rest.now)) x (bound_of own ts)
bound_tells own ts x h = only_tells (IsBoundFront own MOST_LINE_BYTES ts) (bound_of own ts) (λ a rest e. bound_told own ts a rest e) (λ a rest p. bound_found own ts a rest p) x h

pub formal_tells : (own : List (List ℕ)) (ts : List Lexeme) (x : Result BoundFront FormulaFault) → BindsOnly (IsFormalFront own MOST_LINE_BYTES ts) x
    → Tells (λ (front : BoundFront). (front.bound, front.rest.now)) x (formal_of own ts)
formal_tells own ts x h = only_tells (IsFormalFront own MOST_LINE_BYTES ts) (formal_of own ts) (λ a rest e. formal_told own ts a rest e) (λ a rest p. formal_found own ts a rest p) x h

pub bound_spelled : (own : List (List ℕ)) (ts : List Lexeme) → All IsSpelled ts → (x : Result BoundFront FormulaFault) → BindsOnly (IsBoundFront own MOST_LINE_BYTES ts) x
    → IfOk x (λ front. All IsSpelled front.rest.now)
bound_spelled own ts h x p = only_spelled (IsBoundFront own MOST_LINE_BYTES ts) ts (λ a rest q. bound_on q) h x p

pub formal_spelled : (own : List (List ℕ)) (ts : List Lexeme) → All IsSpelled ts → (x : Result BoundFront FormulaFault) → BindsOnly (IsFormalFront own MOST_LINE_BYTES ts) x
    → IfOk x (λ front. All IsSpelled front.rest.now)
formal_spelled own ts h x p = only_spelled (IsFormalFront own MOST_LINE_BYTES ts) ts (λ a rest q. formal_on q) h x p
