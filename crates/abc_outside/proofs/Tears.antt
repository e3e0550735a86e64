use Rattle.std.proofs.Common.{◌≡◌, ◌⊎◌, inl, inr, ⊎_elim, ℕ, zero, suc, ◌+◌, ◌-◌, ◌<◌, ◌≤◌, max, min, List, [], ◌∷◌, ◌++◌, length, take, drop, get_or, refl, sym, ◌∙◌, ap, subst, arith, length-append, length-take, length-drop}
use Rattle.std.proofs.lemmas.List.{take-take, take_all, take_at, drop_all, get_or-take, get_or-drop, ext_get_or, get_or_append_left, get_or-append_right, append-nil}
use Rattle.std.proofs.lemmas.Bool.{cases_lt}
use Rattle.abc_outside.specs.Stop.{Torn, Shortened}
use Rattle.abc_outside.specs.Ranges.{MayBe, Written, Past}

-- c, but in the range the base's bytes
patch : ℕ → ℕ → ℕ → List ℕ → List ℕ → List ℕ
patch zero zero s base c = c
patch zero (suc n) s base [] = []
patch zero (suc n) s base (x ∷ xs) = get_or base s 0 ∷ patch zero n (suc s) base xs
patch (suc at) n s base [] = []
patch (suc at) n s base (x ∷ xs) = x ∷ patch at n (suc s) base xs

length-patch : (at n s : ℕ) (base c : List ℕ) → length (patch at n s base c) ≡ length c
unfolding patch
length-patch zero zero s base c = refl
length-patch zero (suc n) s base [] = refl
length-patch zero (suc n) s base (x ∷ xs) = ap (λ k. suc k) (length-patch zero n (suc s) base xs)
length-patch (suc at) n s base [] = refl
length-patch (suc at) n s base (x ∷ xs) = ap (λ k. suc k) (length-patch at n (suc s) base xs)

take-patch : (at n s : ℕ) (base c : List ℕ) → take at (patch at n s base c) ≡ take at c
unfolding patch
take-patch zero n s base c = refl
take-patch (suc at) n s base [] = refl
take-patch (suc at) n s base (x ∷ xs) = ap (λ (l : List ℕ). x ∷ l) (take-patch at n (suc s) base xs)

drop-patch : (k at n s : ℕ) (base c : List ℕ) → k ≡ at + n → drop k (patch at n s base c) ≡ drop k c
unfolding patch
drop-patch k zero zero s base c is = refl
drop-patch k zero (suc n) s base [] is = refl
drop-patch zero zero (suc n) s base (x ∷ xs) is = absurd (omega arith)
drop-patch (suc k) zero (suc n) s base (x ∷ xs) is = drop-patch k zero n (suc s) base xs (omega arith)
drop-patch k (suc at) n s base [] is = refl
drop-patch zero (suc at) n s base (x ∷ xs) is = absurd (omega arith)
drop-patch (suc k) (suc at) n s base (x ∷ xs) is = drop-patch k at n (suc s) base xs (omega arith)

-- a place of it
data At (at n s : ℕ) (base c : List ℕ) (i : ℕ) : Type 0 where
  inside : at ≤ i → i < at + n → get_or (patch at n s base c) i 0 ≡ get_or base (s + i) 0 → At at n s base c i
  before : i < at → get_or (patch at n s base c) i 0 ≡ get_or c i 0 → At at n s base c i
  behind : at + n ≤ i → get_or (patch at n s base c) i 0 ≡ get_or c i 0 → At at n s base c i

place : (at n s : ℕ) (base c : List ℕ) (i : ℕ) → i < length c → At at n s base c i
unfolding patch
place zero zero s base c i lt = behind (omega arith) refl
place zero (suc n) s base [] i lt = absurd (omega arith)
place zero (suc n) s base (x ∷ xs) zero lt = inside (omega arith) (omega arith) (let e : s ≡ s + 0 = omega arith in ap (λ k. get_or base k 0) e)
place zero (suc n) s base (x ∷ xs) (suc i) lt = elim (place zero n (suc s) base xs i (omega arith)) [
  | inside a b e ↦ inside (omega arith) (omega arith) (e ∙ (let m : suc s + i ≡ s + suc i = omega arith in ap (λ k. get_or base k 0) m))
  | before a e ↦ absurd (omega arith)
  | behind a e ↦ behind (omega arith) e
]
place (suc at) n s base [] i lt = absurd (omega arith)
place (suc at) n s base (x ∷ xs) zero lt = before (omega arith) refl
place (suc at) n s base (x ∷ xs) (suc i) lt = elim (place at n (suc s) base xs i (omega arith)) [
  | inside a b e ↦ inside (omega arith) (omega arith) (e ∙ (let m : suc s + i ≡ s + suc i = omega arith in ap (λ k. get_or base k 0) m))
  | before a e ↦ before (omega arith) e
  | behind a e ↦ behind (omega arith) e
]

module _ (base : List ℕ) (loose : ℕ → Type 0) (least most at n : ℕ) (c : List ℕ) (within : at ≤ most) (sizes : least ≤ most) (may : MayBe base (Written loose at n) least (max most (at + n)) c) where
  abbrev d : List ℕ
  d = take most (patch at n 0 base c)

  size : length d ≡ min most (length c)
  size = omega (arith, length-take most (patch at n 0 base c), length-patch at n 0 base c)

  same_behind : drop (at + n) c ≡ drop (at + n) d
  same_behind = elim (cases_lt most (length c)) [
    | inl long ↦ drop_all (at + n) c (omega (arith, may.no_longer)) ∙ sym (drop_all (at + n) d (omega (arith, size, may.no_longer)))
    | inr short ↦ sym (ap (λ (l : List ℕ). drop (at + n) l) (take_all most (patch at n 0 base c) (omega (arith, length-patch at n 0 base c))) ∙ drop-patch (at + n) at n 0 base c refl)
  ]

  tears_so : Torn at n d c
  tears_so = record {
    before = sym (take-take at most (patch at n 0 base c) within ∙ take-patch at n 0 base c);
    after = same_behind;
    no_shorter = omega (arith, size);
    no_longer = omega (arith, size, may.no_longer);
  }

  old_place : (i : ℕ) → i < length c → At at n 0 base c i → loose i ⊎ (get_or (patch at n 0 base c) i 0 ≡ get_or base i 0)
  old_place i lt (inside a b e) = inr (e ∙ (let z : 0 + i ≡ i = omega arith in ap (λ k. get_or base k 0) z))
  old_place i lt (before a e) = ⊎_elim (λ w. ⊎_elim (λ l. inl l) (λ r. absurd (omega (arith, r.0, r.1))) w) (λ same. inr (e ∙ same)) (may.same i lt)
  old_place i lt (behind a e) = ⊎_elim (λ w. ⊎_elim (λ l. inl l) (λ r. absurd (omega (arith, r.0, r.1))) w) (λ same. inr (e ∙ same)) (may.same i lt)

  pub tears : (x : List ℕ) × MayBe base loose least most x × Torn at n x c
  tears = (
    d,
    record {
      no_shorter = omega (arith, size, may.no_shorter);
      no_longer = omega (arith, size);
      same = λ i lt. let below : i < most = omega (arith, size) in let inside_c : i < length c = omega (arith, size) in
          subst (λ v. loose i ⊎ (v ≡ get_or base i 0)) (sym (get_or-take most (patch at n 0 base c) i 0 below)) (old_place i inside_c (place at n 0 base c i inside_c));
    },
    tears_so,
  )

-- the base's bytes from a place on
fill : ℕ → ℕ → List ℕ → List ℕ
fill s zero base = []
fill s (suc n) base = get_or base s 0 ∷ fill (suc s) n base

length-fill : (s n : ℕ) (base : List ℕ) → length (fill s n base) ≡ n
unfolding fill
length-fill s zero base = refl
length-fill s (suc n) base = ap (λ k. suc k) (length-fill (suc s) n base)

get_or-fill : (s n : ℕ) (base : List ℕ) (i : ℕ) → i < n → get_or (fill s n base) i 0 ≡ get_or base (s + i) 0
unfolding fill
get_or-fill s zero base i lt = absurd (omega arith)
get_or-fill s (suc n) base zero lt = let e : s ≡ s + 0 = omega arith in ap (λ k. get_or base k 0) e
get_or-fill s (suc n) base (suc i) lt = get_or-fill (suc s) n base i (omega arith) ∙ (let m : suc s + i ≡ s + suc i = omega arith in ap (λ k. get_or base k 0) m)

module _ (base : List ℕ) (loose : ℕ → Type 0) (least most n : ℕ) (c : List ℕ) (sizes : least ≤ most) (may : MayBe base (Past loose n) (min least n) most c) where
  abbrev rest : ℕ
  rest = max (length c) least - n

  abbrev whole : List ℕ
  whole = take n c ++ fill n rest base

  long : length whole ≡ min n (length c) + rest
  long = omega (arith, length-append (take n c) (fill n rest base), length-take n c, length-fill n rest base)

  front : take n c ≡ take n whole
  front = elim (cases_lt (length c) n) [
    | inl short ↦
        let none : length (fill n rest base) ≤ 0 = omega (arith, length-fill n rest base, may.no_shorter) in
        sym (ap (λ (l : List ℕ). take n l) (ap (λ (l : List ℕ). take n c ++ l) (empty (fill n rest base) none) ∙ append-nil (take n c)) ∙ take-take n n c (omega arith))
    | inr enough ↦ sym (take_at (take n c) (fill n rest base) n (omega (arith, length-take n c)))
  ]
    where
      empty : (xs : List ℕ) → length xs ≤ 0 → xs ≡ []
      empty [] le = refl
      empty (x ∷ xs) le = absurd (omega arith)

  same_at : (i : ℕ) → i < length whole → loose i ⊎ (get_or whole i 0 ≡ get_or base i 0)
  same_at i lt = elim (cases_lt i (length (take n c))) [
    | inl in_front ↦
        let below : i < n = omega (arith, length-take n c) in
        let in_c : i < length c = omega (arith, length-take n c) in
        let is : get_or whole i 0 ≡ get_or c i 0 = get_or_append_left (take n c) (fill n rest base) 0 i in_front ∙ get_or-take n c i 0 below in
        ⊎_elim (λ w. ⊎_elim (λ l. inl l) (λ r. absurd (omega (arith, r))) w) (λ same. inr (is ∙ same)) (may.same i in_c)
    | inr in_rest ↦
        let full : length (take n c) ≡ n = omega (arith, length-take n c, long, may.no_shorter) in
        let inside : i - n < rest = omega (arith, long, full, length-take n c) in
        inr (get_or-append_right (take n c) (fill n rest base) n i 0 full (omega (arith, full)) ∙ get_or-fill n rest base (i - n) inside ∙ (let m : n + (i - n) ≡ i = omega (arith, full) in ap (λ k. get_or base k 0) m))
  ]

  pub shortens : (x : List ℕ) × MayBe base loose least most x × Shortened n x c
  shortens = (
    whole,
    record {
      no_shorter = omega (arith, long, may.no_shorter);
      no_longer = omega (arith, long, may.no_longer, sizes);
      same = same_at;
    },
    record {
      front = front;
      no_shorter = omega (arith, long, may.no_shorter);
      no_longer = omega (arith, long, may.no_shorter);
    },
  )

-- The other way round: what a torn image may be.
module _ (base : List ℕ) (loose : ℕ → Type 0) (least most at n : ℕ) (c d : List ℕ) (may : MayBe base loose least most d) (torn : Torn at n d c) where
  same_before : (i : ℕ) → i < at → get_or c i 0 ≡ get_or d i 0
  same_before i lt = sym (get_or-take at c i 0 lt) ∙ ap (λ (l : List ℕ). get_or l i 0) torn.before ∙ get_or-take at d i 0 lt

  same_after : (i : ℕ) → at + n ≤ i → get_or c i 0 ≡ get_or d i 0
  same_after i le =
      let e : at + n + (i - (at + n)) ≡ i = omega arith in
      sym (ap (λ k. get_or c k 0) e) ∙ sym (get_or-drop (at + n) c (i - (at + n)) 0) ∙ ap (λ (l : List ℕ). get_or l (i - (at + n)) 0) torn.after
      ∙ get_or-drop (at + n) d (i - (at + n)) 0 ∙ ap (λ k. get_or d k 0) e

  pub torn_may : MayBe base (Written loose at n) least (max most (at + n)) c
  torn_may = record {
    no_shorter = omega (arith, may.no_shorter, torn.no_shorter);
    no_longer = omega (arith, may.no_longer, torn.no_longer);
    same = λ i lt. elim (cases_lt i at) [
      | inl in_front ↦
          let within : i < length d = omega (arith, ap length torn.before, length-take at c, length-take at d) in
          ⊎_elim (λ l. inl (inl l)) (λ e. inr (same_before i in_front ∙ e)) (may.same i within)
      | inr not_in_front ↦ elim (cases_lt i (at + n)) [
        | inl in_range ↦ inl (inr (not_in_front, in_range))
        | inr past ↦
            let within : i < length d = omega (arith, ap length torn.after, length-drop (at + n) c, length-drop (at + n) d) in
            ⊎_elim (λ l. inl (inl l)) (λ e. inr (same_after i past ∙ e)) (may.same i within)
      ]
    ];
  }

module _ (base : List ℕ) (loose : ℕ → Type 0) (least most n : ℕ) (c d : List ℕ) (may : MayBe base loose least most d) (cut : Shortened n d c) where
  pub shortened_may : MayBe base (Past loose n) (min least n) most c
  shortened_may = record {
    no_shorter = omega (arith, may.no_shorter, cut.no_shorter);
    no_longer = omega (arith, may.no_longer, cut.no_longer);
    same = λ i lt. elim (cases_lt i n) [
      | inl in_front ↦
          let within : i < length d = omega (arith, cut.no_longer) in
          ⊎_elim (λ l. inl (inl l))
          (λ e. inr (sym (get_or-take n c i 0 in_front) ∙ ap (λ (l : List ℕ). get_or l i 0) cut.front ∙ get_or-take n d i 0 in_front ∙ e)) (may.same i within)
      | inr past ↦ inl (inr past)
    ];
  }

pub exact_synced : (base c : List ℕ) → MayBe base (λ i. ⊥) (length base) (length base) c → c ≡ base
exact_synced base c may = ext_get_or 0 c base (omega (arith, may.no_shorter, may.no_longer)) (λ i lt. ⊎_elim (λ never. absurd never) (λ e. e) (may.same i lt))
