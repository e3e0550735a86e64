-- Regions by place: what `follow` finds, and that it reads no further than the closing gate.
use Rattle.std.proofs.Common.{◌≡◌, ◌≢◌, ◌⊎◌, inl, inr, ℕ, zero, suc, ◌+◌, ◌<◌, ◌≤◌, false, ◌||◌, List, [], ◌∷◌, ◌++◌, length, take, drop, get_or, refl, sym, ◌∙◌, ap, subst, arith, length-take, length-drop, w64}
use Rattle.std.proofs.lemmas.List.{take-take, drop-take, get_or-take}
use Rattle.std.proofs.lemmas.Bool.{le-ltb, lt-ltb, le-leb, lt-leb, eq-eqb, ne_eqb, cases_lt, cases_eq, or_right, or_from}
use Rattle.std.specs.Prelude.{Result, Ok, Err, nat_lt, nat_le}
use Rattle.std.specs.Int.{from_be_bytes}
use Rattle.abc_journal.specs.Image.{word_at, Region, with_first, follow}

-- a record with this payload stands at this place
pub record IsRecord (image : List ℕ) (at : ℕ) (p : List ℕ) : Type 0 where
  pub open_gate : get_or image at 0 ≡ 1
  pub count : word_at image (at + 1) ≡ length p
  pub payload : take (length p) (drop (at + 9) image) ≡ p
  pub within : at + 9 + length p ≤ length image

-- from this place on there are records with these payloads, up to the gate
abbrev pub Follows : List ℕ → ℕ → List (List ℕ) → ℕ → Type 0
Follows image at [] gate = (64 ≤ at) × (at ≡ gate)
Follows image at (p ∷ ps) gate = (64 ≤ at) × IsRecord image at p × Follows image (at + 9 + length p) ps gate

pub from_behind_head : (image : List ℕ) (at : ℕ) (ps : List (List ℕ)) (gate : ℕ) → Follows image at ps gate → 64 ≤ at
from_behind_head image at [] gate f = f.0
from_behind_head image at (p ∷ ps) gate f = f.0

pub reach : (image : List ℕ) (at : ℕ) (ps : List (List ℕ)) (gate : ℕ) → Follows image at ps gate → at + length ps ≤ gate
reach image at [] gate f = omega (arith, f.1)
reach image at (p ∷ ps) gate f = omega (arith, reach image (at + 9 + length p) ps gate f.2)

-- a record more
pub then_record : (image : List ℕ) (at : ℕ) (ps : List (List ℕ)) (gate : ℕ) (p : List ℕ) → Follows image at ps gate → IsRecord image gate p
    → Follows image at (ps ++ p ∷ []) (gate + 9 + length p)
then_record image at [] gate p f r =
    (f.0, subst (λ k. IsRecord image k p) (sym f.1) r, (omega (arith, f.0), ap (λ k. k + 9 + length p) f.1))
then_record image at (q ∷ ps) gate p f r = (f.0, f.1, then_record image (at + 9 + length q) ps gate p f.2 r)

module _ (n : ℕ) (image : List ℕ) (at : ℕ) where
  in_head : at < 64 → follow (suc n) image at ≡ Err at
  unfolding follow
  in_head lt = rw (lt-ltb at 64 lt) refl

  pub outside : length image ≤ at → follow (suc n) image at ≡ Err at
  unfolding follow
  outside past = rw (or_right (nat_lt at 64) (nat_le (length image) at) (le-leb (length image) at past)) refl

  module _ (behind : 64 ≤ at) (inside : at < length image) where
    within : (nat_lt at 64 || nat_le (length image) at) ≡ false
    within = or_from _ _ (le-ltb at 64 behind) (lt-leb (length image) at inside)

    pub at_closed : get_or image at 0 ≢ 1 → follow (suc n) image at ≡ Ok (record { payloads = []; gate = at })
    unfolding follow
    at_closed shut = rw (within, ne_eqb (get_or image at 0) 1 shut) refl

    pub at_broken : get_or image at 0 ≡ 1 → length image < at + 9 + word_at image (at + 1) → follow (suc n) image at ≡ Err at
    unfolding follow
    at_broken is_open short = rw (within, eq-eqb (get_or image at 0) 1 is_open, lt-ltb (length image) (at + 9 + word_at image (at + 1)) short) refl

    at_record : get_or image at 0 ≡ 1 → at + 9 + word_at image (at + 1) ≤ length image
        → follow (suc n) image at ≡ with_first (take (word_at image (at + 1)) (drop (at + 9) image)) (follow n image (at + 9 + word_at image (at + 1)))
    unfolding follow
    at_record is_open fits = rw (within, eq-eqb (get_or image at 0) 1 is_open, le-ltb (length image) (at + 9 + word_at image (at + 1)) fits) refl

no_fuel : (image : List ℕ) (at : ℕ) → follow zero image at ≡ Err at
unfolding follow
no_fuel image at = refl

-- a place in the head or past the image
pub no_place : (n : ℕ) (image : List ℕ) (at : ℕ) → 0 < n → (at < 64) ⊎ (length image ≤ at) → follow n image at ≡ Err at
no_place zero image at some out = absurd (omega arith)
no_place (suc n) image at some (inl early) = in_head n image at early
no_place (suc n) image at some (inr past) = outside n image at past

pub at_it : (n : ℕ) (image : List ℕ) (at : ℕ) (p : List ℕ) → 64 ≤ at → IsRecord image at p → follow (suc n) image at ≡ with_first p (follow n image (at + 9 + length p))
at_it n image at p behind r =
    at_record n image at behind (omega (arith, r.within)) r.open_gate (rw r.count r.within)
    ∙ ap (λ k. with_first (take k (drop (at + 9) image)) (follow n image (at + 9 + k))) r.count
    ∙ ap (λ l. with_first l (follow n image (at + 9 + length p))) r.payload

-- records and a closed gate
pub to_closed : (n : ℕ) (image : List ℕ) (at : ℕ) (ps : List (List ℕ)) (gate : ℕ) → Follows image at ps gate → length ps < n → gate < length image → get_or image gate 0 ≢ 1
    → follow n image at ≡ Ok (record { payloads = ps; gate = gate })
to_closed zero image at ps gate f enough inside shut = absurd (omega arith)
to_closed (suc n) image at [] gate f enough inside shut =
    ap (λ k. follow (suc n) image k) f.1 ∙ at_closed n image gate (omega (arith, f.0, f.1)) inside shut
to_closed (suc n) image at (p ∷ ps) gate f enough inside shut =
    at_it n image at p f.0 f.1 ∙ ap (λ r. with_first p r) (to_closed n image (at + 9 + length p) ps gate f.2 (omega arith) inside shut)

-- records and a place where something is wrong
pub to_wrong : (n : ℕ) (image : List ℕ) (at : ℕ) (ps : List (List ℕ)) (gate : ℕ) → Follows image at ps gate → length ps < n
    → ((m : ℕ) → follow (suc m) image gate ≡ Err gate) → follow n image at ≡ Err gate
to_wrong zero image at ps gate f enough wrong = absurd (omega arith)
to_wrong (suc n) image at [] gate f enough wrong = ap (λ k. follow (suc n) image k) f.1 ∙ wrong n
to_wrong (suc n) image at (p ∷ ps) gate f enough wrong =
    at_it n image at p f.0 f.1 ∙ ap (λ r. with_first p r) (to_wrong n image (at + 9 + length p) ps gate f.2 (omega arith) wrong)

-- what follow found is there
pub record Found (image : List ℕ) (at : ℕ) (region : Region) : Type 0 where
  pub follows : Follows image at region.payloads region.gate
  pub within : region.gate < length image
  pub closed : get_or image region.gate 0 ≢ 1

pub result_cases : {T : Type 0} (r : Result T ℕ) → ((x : T) × (r ≡ Ok x)) ⊎ ((e : ℕ) × (r ≡ Err e))
result_cases (Ok x) = inl (x, refl)
result_cases (Err e) = inr (e, refl)

pub ok_is : {T : Type 0} (r : Result T ℕ) (x y : T) → r ≡ Ok x → r ≡ Ok y → x ≡ y
ok_is r x y one other = cc

pub no_err : {T : Type 0} (r : Result T ℕ) (x : T) (e : ℕ) → r ≡ Err e → r ≡ Ok x → ⊥
no_err r x e one other = cc

pub found : (n : ℕ) (image : List ℕ) (at : ℕ) (region : Region) → follow n image at ≡ Ok region → Found image at region
found zero image at region is = absurd (no_err _ region at (no_fuel image at) is)
found (suc n) image at region is =
    elim (cases_lt at 64) [
      | inl early ↦ absurd (no_err _ region at (in_head n image at early) is)
      | inr behind ↦ elim (cases_lt at (length image)) [
        | inr past ↦ absurd (no_err _ region at (outside n image at past) is)
        | inl inside ↦ elim (cases_eq (get_or image at 0) 1) [
          | inr shut ↦ subst (λ r. Found image at r) (ok_is _ _ region (at_closed n image at behind inside shut) is) (record { follows = (behind, refl); within = inside; closed = shut })
          | inl is_open ↦ elim (cases_lt (length image) (at + 9 + word_at image (at + 1))) [
            | inl short ↦ absurd (no_err _ region at (at_broken n image at behind inside is_open short) is)
            | inr fits ↦ one_more (λ k r e. found n image k r e) (word_at image (at + 1)) behind is_open refl fits (sym (at_record n image at behind inside is_open fits) ∙ is)
          ]
        ]
      ]
    ]
  where
    one_more : ((k : ℕ) (r : Region) → follow n image k ≡ Ok r → Found image k r) → (count : ℕ) → 64 ≤ at → get_or image at 0 ≡ 1 → word_at image (at + 1) ≡ count → at + 9 + count ≤ length image
        → with_first (take count (drop (at + 9) image)) (follow n image (at + 9 + count)) ≡ Ok region → Found image at region
    one_more later count behind is_open reads fits more = elim (result_cases (follow n image (at + 9 + count))) [
      | inr err ↦ absurd (no_err _ region err.0 (ap (λ r. with_first (take count (drop (at + 9) image)) r) err.1) more)
      | inl ok ↦
          let payload = take count (drop (at + 9) image) in
          let count_is : length payload ≡ count = omega (arith, length-take count (drop (at + 9) image), length-drop (at + 9) image) in
          let rest = later (at + 9 + count) ok.0 ok.1 in
          let r : IsRecord image at payload = record { open_gate = is_open; count = reads ∙ sym count_is; payload = ap (λ k. take k (drop (at + 9) image)) count_is; within = omega (arith, count_is) } in
          let here : Found image at (record { payloads = payload ∷ ok.0.payloads; gate = ok.0.gate }) = record {
            follows = (behind, r, subst (λ k. Follows image (at + 9 + k) ok.0.payloads ok.0.gate) (sym count_is) rest.follows);
            within = rest.within;
            closed = rest.closed;
          } in
          subst (λ r. Found image at r) (ok_is _ _ region (ap (λ r. with_first payload r) ok.1) more) here
    ]

-- an image that agrees with another up to a place
module _ (image c : List ℕ) (place : ℕ) (same : take place c ≡ take place image) (long : place ≤ length c) where
  pub same_byte : (i : ℕ) → i < place → get_or c i 0 ≡ get_or image i 0
  same_byte i lt = sym (get_or-take place c i 0 lt) ∙ ap (λ (l : List ℕ). get_or l i 0) same ∙ get_or-take place image i 0 lt

  pub same_range : (at n : ℕ) → at + n ≤ place → take n (drop at c) ≡ take n (drop at image)
  same_range at n le =
      sym (drop-take at n c) ∙ ap (λ (l : List ℕ). drop at l) (sym (take-take (at + n) place c le) ∙ ap (λ (l : List ℕ). take (at + n) l) same ∙ take-take (at + n) place image le)
      ∙ drop-take at n image

  same_record : (at : ℕ) (p : List ℕ) → at + 9 + length p ≤ place → IsRecord image at p → IsRecord c at p
  same_record at p le r = record {
    open_gate = same_byte at (omega arith) ∙ r.open_gate;
    count = ap (λ (l : List ℕ). from_be_bytes w64 l) (same_range (at + 1) 8 (omega arith)) ∙ r.count;
    payload = same_range (at + 9) (length p) le ∙ r.payload;
    within = omega (arith, long);
  }

  pub same_region : (at : ℕ) (ps : List (List ℕ)) (gate : ℕ) → gate ≤ place → Follows image at ps gate → Follows c at ps gate
  same_region at [] gate le f = f
  same_region at (p ∷ ps) gate le f =
      (f.0, same_record at p (omega (arith, reach image (at + 9 + length p) ps gate f.2)) f.1, same_region (at + 9 + length p) ps gate le f.2)
