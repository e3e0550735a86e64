-- The fault that is found is the first one.
use Rattle.std.proofs.Common.{◌≡◌, ◌≤◌, ◌<◌, ◌+◌, ◌⊎◌, inl, inr, ℕ, suc, Bool, true, false, List, [], ◌∷◌, length, Option, Some, None, refl, ap, sym, ◌∙◌, subst, arith}
use Rattle.std.specs.Prelude.{nat_le, ◌&&◌, if◌then◌else◌}
use Rattle.std.proofs.lemmas.Bool.{leb-true}
use Rattle.abc_outline.specs.declared.rows.Row.{Row}
use Rattle.abc_faults.specs.declared.facts.Facts.{Facts}
use Rattle.abc_faults.specs.declared.fault.Fault.{Fault}
use Rattle.abc_faults.specs.declared.fault.FaultKind.{FaultKind}
use Rattle.abc_faults.specs.declared.fault.FaultKind.TheVariants as k
use Rattle.abc_faults.specs.Causes.{KINDS, first_of, stands_between, cause}
use Rattle.abc_faults.specs.Faults.{or_else, fault_from, StandsAt, here, there, rank, NoLater, IsFirst}

pub both : (x y : Bool) → x && y ≡ true → (x ≡ true) × (y ≡ true)
both true y e = (refl, e)
both false y e = absurd cc

-- no kind of these comes before this one, and they stand in order
abbrev none_before : FaultKind → List FaultKind → Bool
none_before kind [] = true
none_before kind (other ∷ others) = nat_le (rank kind) (rank other) && none_before kind others

abbrev are_rising : List FaultKind → Bool
are_rising [] = true
are_rising (kind ∷ kinds) = none_before kind kinds && are_rising kinds

abbrev pub IsOneOf : FaultKind → List FaultKind → Type 0
IsOneOf x [] = ⊥
IsOneOf x (kind ∷ kinds) = (x ≡ kind) ⊎ IsOneOf x kinds

pub is_kind : (x : FaultKind) → IsOneOf x KINDS
is_kind k.LineTooLong = inl refl
is_kind k.TooManyLines = inr (inl refl)
is_kind k.BadByte = inr (inr (inl refl))
is_kind k.OpenText = inr (inr (inr (inl refl)))
is_kind k.BadNumber = inr (inr (inr (inr (inl refl))))
is_kind k.BadIndent = inr (inr (inr (inr (inr (inl refl)))))
is_kind k.BadCommand = inr (inr (inr (inr (inr (inr (inl refl))))))
is_kind k.EmptySuite = inr (inr (inr (inr (inr (inr (inr (inl refl)))))))
is_kind k.BadPlace = inr (inr (inr (inr (inr (inr (inr (inr (inl refl))))))))
is_kind k.NameTwice = inr (inr (inr (inr (inr (inr (inr (inr (inr (inl refl)))))))))
is_kind k.TooMany = inr (inr (inr (inr (inr (inr (inr (inr (inr (inr (inl refl))))))))))

before_it : (kind x : FaultKind) (kinds : List FaultKind) → none_before kind kinds ≡ true → IsOneOf x kinds → rank kind ≤ rank x
before_it kind x [] e h = absurd h
before_it kind x (other ∷ others) e (inl same) = subst (λ (y : FaultKind). rank kind ≤ rank y) (sym same) (leb-true (rank kind) (rank other) (both _ _ e).0)
before_it kind x (other ∷ others) e (inr more) = before_it kind x others (both _ _ e).1 more

-- the first of the kinds of which the test is true
abbrev IsFirstOf : Option FaultKind → (FaultKind → Bool) → List FaultKind → Type 0
IsFirstOf (Some kind) test kinds = (test kind ≡ true) × ((other : FaultKind) → IsOneOf other kinds → test other ≡ true → rank kind ≤ rank other)
IsFirstOf None test kinds = (other : FaultKind) → IsOneOf other kinds → test other ≡ true → ⊥

module _ (test : FaultKind → Bool) (kind : FaultKind) (kinds : List FaultKind) (low : none_before kind kinds ≡ true) where
  low_here : (other : FaultKind) → IsOneOf other (kind ∷ kinds) → rank kind ≤ rank other
  low_here other (inl same) = subst (λ (y : FaultKind). rank kind ≤ rank y) (sym same) (omega arith)
  low_here other (inr more) = before_it kind other kinds low more

  low_later : (e : test kind ≡ false) (first : FaultKind) → ((other : FaultKind) → IsOneOf other kinds → test other ≡ true → rank first ≤ rank other)
      → (other : FaultKind) → IsOneOf other (kind ∷ kinds) → test other ≡ true → rank first ≤ rank other
  low_later e first h other (inl same) t = let z : true ≡ false = sym t ∙ ap test same ∙ e in absurd cc
  low_later e first h other (inr more) t = h other more t

  none_later : (e : test kind ≡ false) → ((other : FaultKind) → IsOneOf other kinds → test other ≡ true → ⊥) → (other : FaultKind) → IsOneOf other (kind ∷ kinds) → test other ≡ true → ⊥
  none_later e h other (inl same) t = let z : true ≡ false = sym t ∙ ap test same ∙ e in cc
  none_later e h other (inr more) t = h other more t

  first_step : (b : Bool) → test kind ≡ b → (o : Option FaultKind) → IsFirstOf o test kinds → IsFirstOf (if b then Some kind else o) test (kind ∷ kinds)
  first_step true e o h = (e, λ other one t. low_here other one)
  first_step false e (Some first) h = (h.0, low_later e first h.1)
  first_step false e None h = none_later e h

first_is : (test : FaultKind → Bool) (kinds : List FaultKind) → are_rising kinds ≡ true → IsFirstOf (first_of test kinds) test kinds
first_is test [] e = λ other one t. one
first_is test (kind ∷ kinds) e =
    let q = both (none_before kind kinds) (are_rising kinds) e in
    first_step test kind kinds q.0 (test kind) refl (first_of test kinds) (first_is test kinds q.1)

-- where none stands
pub none_of : (test : FaultKind → Bool) (kinds : List FaultKind) → first_of test kinds ≡ None → (x : FaultKind) → IsOneOf x kinds → test x ≡ false
none_of test [] e x one = absurd one
none_of test (kind ∷ kinds) e x one = step (test kind) refl e one (λ f more. none_of test kinds f x more) where
  step : (b : Bool) → test kind ≡ b → (if b then Some kind else first_of test kinds) ≡ None → IsOneOf x (kind ∷ kinds)
      → (first_of test kinds ≡ None → IsOneOf x kinds → test x ≡ false) → test x ≡ false
  step true t e one ih = absurd cc
  step false t e (inl same) ih = ap test same ∙ t
  step false t e (inr more) ih = ih e more

pub or_none : (o : Option FaultKind) (n : ℕ) (more : Option Fault) → or_else o n more ≡ None → (o ≡ None) × (more ≡ None)
or_none None n more e = (refl, e)
or_none (Some x) n more e = absurd cc

later : {facts : Facts} {above rows : List Row} {n : ℕ} {kind : FaultKind} → StandsAt facts above rows n kind → length above < n
later (here h) = omega arith
later (there {above = above} {row = row} s) = let q = later s in let e : length (row ∷ above) ≡ suc (length above) = refl in omega arith

abbrev Told : Facts → List Row → List Row → Option Fault → Type 0
Told facts above rows None = (n : ℕ) (kind : FaultKind) → StandsAt facts above rows n kind → ⊥
Told facts above rows (Some at) = StandsAt facts above rows at.line at.kind × ((n : ℕ) (kind : FaultKind) → StandsAt facts above rows n kind → NoLater at n kind)

step_told : (facts : Facts) (above : List Row) (row : Row) (below : List Row) (first : Option FaultKind) → IsFirstOf first (stands_between facts above row below) KINDS
    → (more : Option Fault) → Told facts (row ∷ above) below more → Told facts above (row ∷ below) (or_else first (length above + 1) more)
step_told facts above row below (Some kind) q more told = (here q.0, least) where
  least : (n : ℕ) (other : FaultKind) → StandsAt facts above (row ∷ below) n other → NoLater (record { line = length above + 1; kind = kind }) n other
  least n other (here h) = inr (refl, q.1 other (is_kind other) h)
  least n other (there s) = let p = later s in inl (omega arith)
step_told facts above row below None q None told = no_cause where
  no_cause : (n : ℕ) (other : FaultKind) → StandsAt facts above (row ∷ below) n other → ⊥
  no_cause n other (here h) = q other (is_kind other) h
  no_cause n other (there s) = told n other s
step_told facts above row below None q (Some at) told = (there told.0, least) where
  least : (n : ℕ) (other : FaultKind) → StandsAt facts above (row ∷ below) n other → NoLater at n other
  least n other (here h) = absurd (q other (is_kind other) h)
  least n other (there s) = told.1 n other s

pub told : (facts : Facts) (above rows : List Row) → Told facts above rows (fault_from facts above rows)
told facts above [] = λ n kind s. elim s [ ]
told facts above (row ∷ below) =
    step_told facts above row below (cause facts above row below) (first_is (stands_between facts above row below) KINDS refl) (fault_from facts (row ∷ above) below) (told facts (row ∷ above) below)

pub found_first : (facts : Facts) (rows : List Row) (at : Fault) → fault_from facts [] rows ≡ Some at → IsFirst facts rows at
found_first facts rows at e = subst (Told facts [] rows) e (told facts [] rows)

pub none_stands : (facts : Facts) (rows : List Row) → fault_from facts [] rows ≡ None → (n : ℕ) (kind : FaultKind) → StandsAt facts [] rows n kind → ⊥
none_stands facts rows e = subst (Told facts [] rows) e (told facts [] rows)
