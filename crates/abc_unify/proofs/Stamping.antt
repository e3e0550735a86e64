-- Stamps at or below the base of a search stand for marks of 0, with which a search begins.
use Rattle.std.proofs.Common.{◌≡◌, ◌∙◌, ℕ, ◌+◌, ◌*◌, ◌-◌, ◌<◌, ◌≤◌, length, List, [], ◌∷◌, get_or, set, ap, refl, arith, zero, suc}
use Rattle.std.proofs.lemmas.List.{map-set}
use Rattle.std.proofs.lemmas.List.Elements.{All-head, All-tail, All-nil}
use Rattle.std.proofs.lemmas.List.Sums.{sum_by-cons}
use Rattle.std.specs.List.{All, sum_by}
use Rattle.abc_unify.specs.declared.kind.Kind.TheVariants.{Free}
use Rattle.abc_unify.specs.declared.kind.Slot.{Slot}
use Rattle.abc_unify.specs.declared.kind.Slot.TheVariants.{Root}
use Rattle.abc_unify.specs.inner.Slots.{IsRoot}
use Rattle.abc_unify.specs.inner.Cycles.{mark_weight, Marked}
use Rattle.abc_unify.specs.inner.Stamps.{marks_of}

pub none_above : (base : ℕ) (stamps : List ℕ) → All (λ s. s ≤ base) stamps → (i : ℕ) → get_or (marks_of base stamps) i 0 ≡ 0
none_above base [] low i = refl
none_above base (s ∷ stamps) low zero = let h : s ≤ base = All-head (λ t. t ≤ base) s stamps low in omega arith
none_above base (s ∷ stamps) low (suc i) = none_above base stamps (All-tail (λ t. t ≤ base) s stamps low) i

pub marked : (base : ℕ) (stamps : List ℕ) (at mark : ℕ) → marks_of base (set stamps at (base + mark)) ≡ set (marks_of base stamps) at mark
marked base stamps at mark =
    let above : base + mark - base ≡ mark = omega arith in
    map-set (λ s. s - base) stamps at (base + mark) ∙ ap (λ m. set (marks_of base stamps) at m) above

pub none_weight : (marks : List ℕ) → ((i : ℕ) → get_or marks i 0 ≡ 0) → sum_by mark_weight marks ≡ 2 * length marks
none_weight [] none = refl
none_weight (m ∷ marks) none =
    let here : mark_weight m ≡ 2 = ap mark_weight (none 0) in
    let rest : sum_by mark_weight marks ≡ 2 * length marks = none_weight marks (λ i. none (suc i)) in
    omega (arith, here, rest, sum_by-cons mark_weight m marks)

pub none_marked : (slots : List Slot) (marks : List ℕ) → length marks ≡ length slots → ((i : ℕ) → get_or marks i 0 ≡ 0) → Marked slots marks [] 2
none_marked slots marks count none = record {
  same_length = count;
  from_two = omega arith;
  inside = All-nil (λ i. i < length slots);
  roots = All-nil (λ i. IsRoot (get_or slots i (Root Free)));
  on_the_way = All-nil (λ i. get_or marks i 0 ≡ 1);
  all_on_the_way = λ i one. absurd (omega (arith, none i));
  early = λ i. omega (arith, none i);
  done = λ i two. absurd (omega (arith, none i));
  distinct = λ i j d h k. absurd (omega arith);
  path = λ v m i j d h k. absurd (omega arith);
  room = omega (arith, count, none_weight marks none);
}
