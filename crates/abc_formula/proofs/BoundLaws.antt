-- The names in front of some tokens are those that the grammar spells there.
use Rattle.std.proofs.Common.{◌≡◌, ◌≤◌, ℕ, zero, suc, true, List, [], ◌∷◌, length, Option, Some, None, refl, ap, sym, ◌∙◌, subst, arith}
use Rattle.std.specs.Prelude.{Result, Ok, Err}
use Rattle.std.proofs.lemmas.Option.{same_Some}
use Rattle.abc_tree.specs.declared.formulas.Bound.{Bound}
use Rattle.abc_tree.specs.declared.formulas.Bound.TheVariants as b
use Rattle.abc_expressions.specs.declared.fault.FormulaFault.{FormulaFault}
use Rattle.abc_expressions.specs.declared.fault.FormulaFault.TheVariants as fault
use Rattle.abc_expressions.specs.declared.frames.Kind.{Kind}
use Rattle.abc_expressions.specs.declared.frames.Kind.TheVariants as kind
use Rattle.abc_expressions.specs.declared.lexemes.Lexeme.{Lexeme}
use Rattle.abc_expressions.specs.declared.lexemes.Lexeme.TheVariants as t
use Rattle.abc_expressions.specs.declared.signs.Sign.TheVariants as s
use Rattle.abc_expressions.specs.Operators.{kind_of}
use Rattle.abc_formula.specs.declared.binding.BoundFront.{BoundFront}
use Rattle.abc_formula.specs.declared.test_frames.NamesEnd.TheVariants as end
use Rattle.abc_formula.specs.BoundFronts.{IsBoundFront, IsFormalFront, BindsOnly}
use Rattle.abc_formula.specs.TestGrammar.{gathered, Binds, BindsPart, one_name, round_names}
use Rattle.abc_formula.specs.inner.TestMachine.{FoundNames, ends, names_in, gathered_found, only_several, formal_name, formal_in}
use Rattle.abc_formula.specs.inner.TestSteps.{FindsBound}
use Rattle.abc_formula.proofs.TestComplete.{names_found}
use Rattle.abc_formula.proofs.TestSound.{names_spelled}

abbrev FoundBound : Type 0
FoundBound = Option (Bound × List Lexeme)

-- what finds exactly that of which this is true answers with the only one
only : (is : Bound → List Lexeme → Type 0) (found : FoundBound) → ((a : Bound) (rest : List Lexeme) → is a rest → found ≡ Some (a, rest))
    → ((a : Bound) (rest : List Lexeme) → found ≡ Some (a, rest) → is a rest) → (x : Result BoundFront FormulaFault) → FindsBound x found → BindsOnly is x
only is found finds told (Ok front) h = (
  told front.bound front.rest.now h,
  λ a rest p. let e = same_Some (a, rest) (front.bound, front.rest.now) (sym (finds a rest p) ∙ h) in (ap (λ x. x.0) e, ap (λ x. x.1) e),
)
only is found finds told (Err fault.BadCommand) h = λ a rest p. let r : FoundBound = None in let e : r ≡ Some (a, rest) = sym h ∙ finds a rest p in cc
only is found finds told (Err fault.TooMany) h = h
only is found finds told (Err fault.Memory) h = tt

-- ---- names up to IN

bound_found : (own : List (List ℕ)) (d : ℕ) (ts : List Lexeme) (a : Bound) (rest : List Lexeme) → IsBoundFront own d ts a rest
    → gathered_found (names_in own 1 end.In ts d ([] ∷ []) true) ≡ Some (a, rest)
bound_found own d ts a rest (names, token, binds, is, same) =
    ap gathered_found (names_found own 1 end.In binds is) ∙ ap (λ x. Some (x, rest)) (sym same)

bound_by : (own : List (List ℕ)) (d : ℕ) (ts : List Lexeme) (a : Bound) (rest : List Lexeme) (x : FoundNames) → names_in own 1 end.In ts d ([] ∷ []) true ≡ x
    → gathered_found x ≡ Some (a, rest) → IsBoundFront own d ts a rest
bound_by own d ts a rest None is h = cc
bound_by own d ts a rest (Some (names, us)) is h =
    let e = same_Some (gathered names, us) (a, rest) h in
    let w = names_spelled own 1 end.In d ts us names is in
    (names, w.0, subst (λ (x : List Lexeme). Binds own 1 d names ts (w.0 ∷ x)) (ap (λ x. x.1) e) w.1, w.2, sym (ap (λ x. x.0) e))

pub bound_only : (own : List (List ℕ)) (d : ℕ) (ts : List Lexeme) (x : Result BoundFront FormulaFault) → FindsBound x (gathered_found (names_in own 1 end.In ts d ([] ∷ []) true))
    → BindsOnly (IsBoundFront own d ts) x
bound_only own d ts x h =
    only (IsBoundFront own d ts) (gathered_found (names_in own 1 end.In ts d ([] ∷ []) true)) (bound_found own d ts)
    (λ a rest e. bound_by own d ts a rest (names_in own 1 end.In ts d ([] ∷ []) true) refl e) x h

-- ---- formals

several_found : (names : List Bound) (rest : List Lexeme) → 2 ≤ length names → only_several (Some (names, rest)) ≡ Some (gathered names, rest)
several_found [] rest many = absurd (omega arith)
several_found (a ∷ []) rest many = absurd (omega arith)
several_found (a ∷ c ∷ names) rest many = refl

formal_found : (own : List (List ℕ)) (d : ℕ) (ts : List Lexeme) (a : Bound) (rest : List Lexeme) → IsFormalFront own d ts a rest → formal_in own d ts ≡ Some (a, rest)
formal_found own d ts a rest (one_name h) = ap (λ k. formal_name k rest) h
formal_found own d ts a rest (round_names {more = more} many binds) =
    ap only_several (names_found own 2 end.Close binds refl) ∙ several_found more rest many

name_told : (own : List (List ℕ)) (d : ℕ) (x : List ℕ) (ts : List Lexeme) (a : Bound) (rest : List Lexeme) (k : Kind) → kind_of own x ≡ k
    → formal_name k ts ≡ Some (a, rest) → BindsPart own 2 d a (t.Name x ∷ ts) rest
name_told own d x ts a rest (kind.Own i) is h =
    let e = same_Some (b.One (record { 0 = i }), ts) (a, rest) h in
    subst (λ (y : Bound). BindsPart own 2 d y (t.Name x ∷ ts) rest) (ap (λ x. x.0) e)
    (subst (λ (us : List Lexeme). BindsPart own 2 d (b.One (record { 0 = i })) (t.Name x ∷ ts) us) (ap (λ x. x.1) e) (one_name is))
name_told own d x ts a rest (kind.Given one two) is h = cc
name_told own d x ts a rest kind.Free is h = cc

closing_is : (token : Lexeme) → ends end.Close token ≡ true → token ≡ t.Sign s.Close
closing_is (t.Sign s.Close) h = refl
closing_is (t.Sign _) h = cc
closing_is (t.Name x) h = cc
closing_is (t.Number bytes) h = cc
closing_is (t.Keyword x) h = cc
closing_is (t.Text bytes) h = cc
closing_is t.Other h = cc

round_told : (own : List (List ℕ)) (d : ℕ) (ts : List Lexeme) (a : Bound) (rest : List Lexeme) (x : FoundNames) → names_in own 2 end.Close ts d ([] ∷ []) true ≡ x
    → only_several x ≡ Some (a, rest) → BindsPart own 2 (suc d) a (t.Sign s.Open ∷ ts) rest
round_told own d ts a rest None is h = cc
round_told own d ts a rest (Some ([], us)) is h = cc
round_told own d ts a rest (Some (one ∷ [], us)) is h = cc
round_told own d ts a rest (Some (one ∷ two ∷ names, us)) is h =
    let e = same_Some (b.Several (one ∷ two ∷ names), us) (a, rest) h in
    let w = names_spelled own 2 end.Close d ts us (one ∷ two ∷ names) is in
    let inner : Binds own 2 d (one ∷ two ∷ names) ts (t.Sign s.Close ∷ rest) =
    subst (λ (u : Lexeme). Binds own 2 d (one ∷ two ∷ names) ts (u ∷ rest)) (closing_is w.0 w.2)
    (subst (λ (x : List Lexeme). Binds own 2 d (one ∷ two ∷ names) ts (w.0 ∷ x)) (ap (λ x. x.1) e) w.1) in
    subst (λ (y : Bound). BindsPart own 2 (suc d) y (t.Sign s.Open ∷ ts) rest) (ap (λ x. x.0) e) (round_names (omega arith) inner)

formal_told : (own : List (List ℕ)) (d : ℕ) (ts : List Lexeme) (a : Bound) (rest : List Lexeme) → formal_in own d ts ≡ Some (a, rest) → IsFormalFront own d ts a rest
formal_told own d [] a rest h = cc
formal_told own d (t.Name x ∷ ts) a rest h = name_told own d x ts a rest (kind_of own x) refl h
formal_told own zero (t.Sign s.Open ∷ ts) a rest h = cc
formal_told own (suc d) (t.Sign s.Open ∷ ts) a rest h = round_told own d ts a rest (names_in own 2 end.Close ts d ([] ∷ []) true) refl h
formal_told own d (t.Sign _ ∷ ts) a rest h = cc
formal_told own d (t.Number bytes ∷ ts) a rest h = cc
formal_told own d (t.Keyword x ∷ ts) a rest h = cc
formal_told own d (t.Text bytes ∷ ts) a rest h = cc
formal_told own d (t.Other ∷ ts) a rest h = cc

pub formal_only : (own : List (List ℕ)) (d : ℕ) (ts : List Lexeme) (x : Result BoundFront FormulaFault) → FindsBound x (formal_in own d ts) → BindsOnly (IsFormalFront own d ts) x
formal_only own d ts x h = only (IsFormalFront own d ts) (formal_in own d ts) (formal_found own d ts) (formal_told own d ts) x h
