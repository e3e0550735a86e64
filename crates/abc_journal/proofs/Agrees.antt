-- Images that agree on a range of places.
use Rattle.std.proofs.Common.{◌≡◌, ◌⊎◌, inl, inr, ℕ, ◌+◌, ◌-◌, ◌<◌, ◌≤◌, List, [], ◌∷◌, ◌++◌, length, take, drop, get_or, sym, ◌∙◌, ap, arith, append_assoc, length-append, length-take, take-append-drop, w64}
use Rattle.std.proofs.lemmas.List.{take-take, drop-take, drop-drop, take_all, take_at, drop_more, get_or-take, get_or-drop}
use Rattle.std.specs.Int.{from_be_bytes}
use Rattle.abc_outside.specs.Stop.{Torn, Extends, written}
use Rattle.abc_outside.proofs.Lists.{drop-written}
use Rattle.abc_journal.specs.Image.{word_at}
use Rattle.abc_journal.proofs.Follow.{IsRecord, Follows, reach}

abbrev pub Agrees : List ℕ → List ℕ → ℕ → ℕ → Type 0
Agrees image c low high = (at n : ℕ) → low ≤ at → at + n ≤ high → take n (drop at c) ≡ take n (drop at image)

-- ranges that agree, from parts that are equal
pub agrees_front : (image c : List ℕ) (place low : ℕ) → take place c ≡ take place image → Agrees image c low place
agrees_front image c place low same at n le within =
    sym (drop-take at n c) ∙ ap (λ (l : List ℕ). drop at l) (sym (take-take (at + n) place c within) ∙ ap (λ (l : List ℕ). take (at + n) l) same ∙ take-take (at + n) place image within)
    ∙ drop-take at n image

pub agrees_back : (image c : List ℕ) (place high : ℕ) → drop place c ≡ drop place image → Agrees image c place high
agrees_back image c place high same at n le within =
    let e : place + (at - place) ≡ at = omega (arith, le) in
    let back : (l : List ℕ) → drop (at - place) (drop place l) ≡ drop at l = λ l. drop-drop (at - place) place l ∙ ap (λ k. drop k l) e in
    ap (λ (l : List ℕ). take n l) (sym (back c) ∙ ap (λ (l : List ℕ). drop (at - place) l) same ∙ back image)

pub agrees_then : (a b c : List ℕ) (low high : ℕ) → Agrees a b low high → Agrees b c low high → Agrees a c low high
agrees_then a b c low high first second at n le within = second at n le within ∙ first at n le within

pub agrees_less : (image c : List ℕ) (low high low_in high_in : ℕ) → low ≤ low_in → high_in ≤ high → Agrees image c low high → Agrees image c low_in high_in
agrees_less image c low high low_in high_in low_le high_le same at n le within = same at n (omega (arith, le, low_le)) (omega (arith, within, high_le))

-- a range that a write leaves alone
pub agrees_torn : (d c : List ℕ) (at n low high : ℕ) → Torn at n d c → (high ≤ at) ⊎ (at + n ≤ low) → Agrees d c low high
agrees_torn d c at n low high torn (inl in_front) = agrees_less d c low at low high (omega arith) in_front (agrees_front d c at low torn.before)
agrees_torn d c at n low high torn (inr behind) = agrees_less d c (at + n) high low high behind (omega arith) (agrees_back d c (at + n) high torn.after)

pub agrees_extends : (image c : List ℕ) (low : ℕ) → Extends image c → Agrees image c low (length image)
agrees_extends image c low extends = agrees_front image c (length image) low (extends ∙ sym (take_all (length image) image (omega arith)))

pub longer : (image c : List ℕ) → Extends image c → length image ≤ length c
longer image c extends = omega (arith, ap length extends, length-take (length image) c)

module _ (image c : List ℕ) (low high : ℕ) (same : Agrees image c low high) where
  pub byte_is : (i : ℕ) → low ≤ i → i + 1 ≤ high → get_or c i 0 ≡ get_or image i 0
  byte_is i le within =
      let one : (l : List ℕ) → get_or (take 1 (drop i l)) 0 0 ≡ get_or l i 0 =
      λ l. get_or-take 1 (drop i l) 0 0 (omega arith) ∙ get_or-drop i l 0 0 ∙ (let e : i + 0 ≡ i = omega arith in ap (λ k. get_or l k 0) e) in
      sym (one c) ∙ ap (λ (l : List ℕ). get_or l 0 0) (same i 1 le within) ∙ one image

  pub word_is : (at : ℕ) → low ≤ at → at + 8 ≤ high → word_at c at ≡ word_at image at
  word_is at le within = ap (λ (l : List ℕ). from_be_bytes w64 l) (same at 8 le within)

  module _ (long : high ≤ length c) where
    record_is : (at : ℕ) (p : List ℕ) → low ≤ at → at + 9 + length p ≤ high → IsRecord image at p → IsRecord c at p
    record_is at p le within r = record {
      open_gate = byte_is at le (omega (arith, within)) ∙ r.open_gate;
      count = word_is (at + 1) (omega (arith, le)) (omega (arith, within)) ∙ r.count;
      payload = same (at + 9) (length p) (omega (arith, le)) within ∙ r.payload;
      within = omega (arith, long, within);
    }

    pub region_is : (at : ℕ) (ps : List (List ℕ)) (gate : ℕ) → low ≤ at → gate ≤ high → Follows image at ps gate → Follows c at ps gate
    region_is at [] gate le within f = f
    region_is at (p ∷ ps) gate le within f =
        (f.0, record_is at p le (omega (arith, within, reach image (at + 9 + length p) ps gate f.2)) f.1, region_is (at + 9 + length p) ps gate (omega (arith, le)) within f.2)

-- a write that is torn, in a wider range; and two in one range
pub torn_wider : (at n low m : ℕ) (d c : List ℕ) → low ≤ at → at + n ≤ low + m → Torn at n d c → Torn low m d c
torn_wider at n low m d c low_le high_le torn = record {
  before = sym (take-take low at c low_le) ∙ ap (λ (l : List ℕ). take low l) torn.before ∙ take-take low at d low_le;
  after =
      let e : at + n + (low + m - (at + n)) ≡ low + m = omega (arith, high_le) in
      let back : (l : List ℕ) → drop (low + m - (at + n)) (drop (at + n) l) ≡ drop (low + m) l = λ l. drop-drop (low + m - (at + n)) (at + n) l ∙ ap (λ k. drop k l) e in
      sym (back c) ∙ ap (λ (l : List ℕ). drop (low + m - (at + n)) l) torn.after ∙ back d;
  no_shorter = torn.no_shorter;
  no_longer = omega (arith, torn.no_longer, high_le);
}

pub torn_then : (at n : ℕ) (a b c : List ℕ) → Torn at n a b → Torn at n b c → Torn at n a c
torn_then at n a b c first second = record {
  before = second.before ∙ first.before;
  after = second.after ∙ first.after;
  no_shorter = omega (arith, first.no_shorter, second.no_shorter);
  no_longer = omega (arith, first.no_longer, second.no_longer);
}

-- a write behind a write is one write
pub written_then : (old front back : List ℕ) (at : ℕ) → at ≤ length old → written (written old at front) (at + length front) back ≡ written old at (front ++ back)
written_then old front back at le =
    let head : length (take at old ++ front) ≡ at + length front = omega (arith, length-append (take at old) front, length-take at old) in
    let rest = drop (at + length front) old in
    let to_front : take (at + length front) (written old at front) ≡ take at old ++ front = take_at (take at old ++ front) rest (at + length front) head in
    let beyond : drop (at + length front + length back) (written old at front) ≡ drop (at + length (front ++ back)) old =
    sym (drop-drop (length back) (at + length front) (written old at front)) ∙ ap (λ (l : List ℕ). drop (length back) l) (drop-written old front at le)
    ∙ drop-drop (length back) (at + length front) old ∙ (let e : at + length front + length back ≡ at + length (front ++ back) = omega (arith, length-append front back) in ap (λ k. drop k old) e) in
    ap (λ (l : List ℕ). l ++ back ++ drop (at + length front + length back) (written old at front)) to_front
    ∙ ap (λ (l : List ℕ). (take at old ++ front) ++ back ++ l) beyond
    ∙ ap (λ (l : List ℕ). l ++ drop (at + length (front ++ back)) old) (append_assoc (take at old) front back)

-- a write of one byte that left it
pub same_but_byte : (d c : List ℕ) (at : ℕ) → at < length d → Torn at 1 d c → get_or c at 0 ≡ get_or d at 0 → c ≡ d
same_but_byte d c at inside torn byte =
    let tail : drop at c ≡ drop at d =
    drop_more c at 0 (omega (arith, inside, torn.no_shorter)) ∙ ap (λ k. k ∷ drop (at + 1) c) byte ∙ ap (λ (l : List ℕ). get_or d at 0 ∷ l) torn.after ∙ sym (drop_more d at 0 inside) in
    sym (take-append-drop at c) ∙ ap (λ (l : List ℕ). l ++ drop at c) torn.before ∙ ap (λ (l : List ℕ). take at d ++ l) tail ∙ take-append-drop at d

-- the first byte of a range
pub first_byte : (c : List ℕ) (at n : ℕ) (byte : ℕ) (rest : List ℕ) → 0 < n → take n (drop at c) ≡ byte ∷ rest → get_or c at 0 ≡ byte
first_byte c at n byte rest some range =
    (let e : at ≡ at + 0 = omega arith in ap (λ k. get_or c k 0) e) ∙ sym (get_or-drop at c 0 0) ∙ sym (get_or-take n (drop at c) 0 0 some) ∙ ap (λ (l : List ℕ). get_or l 0 0) range
