-- A table of places, written one after the other.
use Rattle.std.proofs.Common.{◌≡◌, ◌∙◌, ℕ, ◌+◌, ◌<◌, ◌⊎◌, inl, inr, List, length, get_or, set, ap, sym, arith}
use Rattle.std.specs.Prelude.{Some, slice_get}
use Rattle.std.proofs.lemmas.List.{get_or-set_same, get_or-set_other, length-map, get_or-map}
use Rattle.std.proofs.lemmas.Option.{slice_get-get_or, slice_get_within, same_Some}
use Rattle.std.proofs.lemmas.Bool.{cases_eq}
use Rattle.abc_terms.specs.declared.term.VarId.{VarId}
use Rattle.abc_terms.specs.Renamed.{variable, number_in}
use Rattle.abc_unify.specs.declared.forms.Known.{Known}
use Rattle.abc_unify.specs.Forms.{IsKnown}
use Rattle.abc_scheme.specs.inner.Places.{numbers, PlacedUpto}

-- the place of x is written where x stands
pub placed_next : (known : List ℕ) (k : ℕ) (table : List VarId) (x : ℕ) (a : VarId) → slice_get known k ≡ Some x → x < length table → a.0 ≡ k → PlacedUpto known k table → PlacedUpto known (k + 1) (set table x a)
placed_next known k table x a stands inside is placed = record {
  at_place = λ i y lt here. by_variable i y lt here (cases_eq y x);
  within = λ some y. within_by some y (cases_eq y x);
}
  where
    here_is : (y : ℕ) → y ≡ x → number_in (set table x a) y ≡ k
    here_is y e = ap (number_in (set table x a)) e ∙ (ap (λ (b : VarId). b.0) (get_or-set_same table x a (variable 0) inside) ∙ is)

    there_is : (y : ℕ) → (y ≡ x → ⊥) → number_in (set table x a) y ≡ number_in table y
    there_is y ne = ap (λ (b : VarId). b.0) (get_or-set_other table x y a (variable 0) ne)

    by_variable : (i y : ℕ) → i < k + 1 → slice_get known i ≡ Some y → (y ≡ x) ⊎ (y ≡ x → ⊥) → slice_get known (number_in (set table x a) y) ≡ Some y
    by_variable i y lt here (inl e) = ap (λ n. slice_get known n) (here_is y e) ∙ (stands ∙ ap Some (sym e))
    by_variable i y lt here (inr ne) = by_place (cases_eq i k)
      where
        by_place : (i ≡ k) ⊎ (i ≡ k → ⊥) → slice_get known (number_in (set table x a) y) ≡ Some y
        by_place (inl e) = absurd (ne (same_Some y x (sym here ∙ (ap (λ n. slice_get known n) e ∙ stands))))
        by_place (inr other) = ap (λ n. slice_get known n) (there_is y ne) ∙ placed.at_place i y (omega (arith, lt, other)) here

    within_by : 0 < length known → (y : ℕ) → (y ≡ x) ⊎ (y ≡ x → ⊥) → number_in (set table x a) y < length known
    within_by some y (inl e) = rw (here_is y e) (slice_get_within known k x stands)
    within_by some y (inr ne) = rw (there_is y ne) (placed.within some y)

-- the number of a known variable stands among the numbers
pub known_place : (all : List Known) (x : ℕ) → IsKnown all x → (i : ℕ) × (i < length (numbers all)) × (slice_get (numbers all) i ≡ Some x)
known_place all x known =
    let e : Known = known.0 in
    let i : ℕ = known.1.0 in
    let lt : i < length (numbers all) = rw length-map known.1.1 in
    let is : get_or (numbers all) i 0 ≡ x = get_or-map (λ (f : Known). f.at.0) all i e 0 known.1.1 ∙ (ap (λ (f : Known). f.at.0) known.1.2 ∙ known.2) in
    (i, lt, slice_get-get_or (numbers all) i 0 lt ∙ ap Some is)

-- the number of the variable at a place
pub number_at : (all : List Known) (i : ℕ) (e : Known) → i < length all → e ≡ get_or all i e → slice_get (numbers all) i ≡ Some e.at.0
number_at all i e lt is =
    let less : i < length (numbers all) = rw length-map lt in
    slice_get-get_or (numbers all) i 0 less ∙ ap Some (get_or-map (λ (f : Known). f.at.0) all i e 0 lt ∙ ap (λ (f : Known). f.at.0) (sym is))
