-- A line that grows.
use Rattle.std.proofs.Common.{◌≡◌, ◌≢◌, ⊎_elim, ℕ, zero, suc, ◌+◌, ◌-◌, ◌<◌, ◌≤◌, Bool, true, false, cond, ◌||◌, List, [], ◌∷◌, ◌++◌, length, take, min, refl, sym, ◌∙◌, ap, arith, length-append, length-take, nat_lt}
use Rattle.std.proofs.lemmas.List.{take-append-le, take-take, take_all, append-nil, take_min}
use Rattle.std.specs.Prelude.{◌==◌}
use Rattle.std.proofs.lemmas.Bool.{cases_lt, lt-ltb, ltb-true, ltb-false}
use Rattle.std.proofs.lemmas.Bool.Decides.{nat_tests}
use Rattle.std.proofs.Math.Seq.{take-append-add, take-length}
use Rattle.abc_num.specs.Lines.{carriage_return, without_cr, raw_line}
use Rattle.abc_num.proofs.LineCuts.{dropped_cr, kept_byte}
use Rattle.abc_reader.specs.declared.line.TheConstants.{MOST_GATHERED}
use Rattle.abc_reader.specs.inner.LineReading.{Front, front_of, text_of}

long_sum : (most f b fits : ℕ) → fits ≡ min (most - min most f) b → (nat_lt most f || nat_lt fits b) ≡ nat_lt most (f + b)
long_sum most f b fits is = grind (arith, nat_tests)

-- at most n bytes of a front and what follows it
take_both : (n : ℕ) (front bytes : List ℕ) → take n front ++ take (min (n - length (take n front)) (length bytes)) bytes ≡ take n (front ++ bytes)
take_both n front bytes = ap (λ (l : List ℕ). take n front ++ l) (take_min (n - length (take n front)) bytes) ∙ ⊎_elim
    (λ short.
    let all = take_all n front (omega (arith, short)) in
    let room : n - length (take n front) ≡ n - length front = ap (λ (l : List ℕ). n - length l) all in
    let whole : n ≡ length front + (n - length front) = omega (arith, short) in
    ap (λ (l : List ℕ). l ++ take (n - length (take n front)) bytes) all ∙ ap (λ k. front ++ take k bytes) room
    ∙ sym (ap (λ k. take k (front ++ bytes)) whole ∙ take-append-add front bytes (n - length front)))
    (λ long.
    let none : n - length (take n front) ≡ 0 = omega (arith, length-take n front, long) in
    ap (λ k. take n front ++ take k bytes) none ∙ append-nil (take n front) ∙ sym (take-append-le n front bytes long))
    (cases_lt (length front) n)

-- a line that more bytes were added to, as far as there was room
pub added : (line : Front) (front bytes text : List ℕ) (fits : ℕ) → line ≡ front_of front → fits ≡ min (MOST_GATHERED - length line.bytes) (length bytes) → text ≡ line.bytes ++ take fits bytes
    → record { bytes = text; more = line.more || nat_lt fits (length bytes) } ≡ front_of (front ++ bytes)
added line front bytes text fits is room grown =
    let was : line.bytes ≡ take MOST_GATHERED front = ap (λ (l : Front). l.bytes) is in
    let long_was : line.more ≡ nat_lt MOST_GATHERED (length front) = ap (λ (l : Front). l.more) is in
    let fits_is : fits ≡ min (MOST_GATHERED - length (take MOST_GATHERED front)) (length bytes) = room ∙ ap (λ (l : List ℕ). min (MOST_GATHERED - length l) (length bytes)) was in
    let text_is : text ≡ take MOST_GATHERED (front ++ bytes) =
    grown ∙ ap (λ (l : List ℕ). l ++ take fits bytes) was ∙ ap (λ k. take MOST_GATHERED front ++ take k bytes) fits_is ∙ take_both MOST_GATHERED front bytes in
    let long_is : (line.more || nat_lt fits (length bytes)) ≡ nat_lt MOST_GATHERED (length (front ++ bytes)) =
    ap (λ t. t || nat_lt fits (length bytes)) long_was
    ∙ long_sum MOST_GATHERED (length front) (length bytes) fits (fits_is ∙ ap (λ n. min (MOST_GATHERED - n) (length bytes)) (length-take MOST_GATHERED front))
    ∙ ap (λ n. nat_lt MOST_GATHERED n) (sym (length-append front bytes)) in
    λ i. record { bytes = text_is i; more = long_is i }

-- the front of a text without the CR at its end
without_longer : (text : List ℕ) → length text ≤ suc (length (without_cr text))
without_longer [] = omega arith
without_longer (b ∷ []) = omega arith
without_longer (b ∷ (c ∷ text)) = omega (arith, without_longer (c ∷ text))

front_without : (n : ℕ) (text : List ℕ) → suc n ≤ length text → take n (without_cr text) ≡ take n text
front_without zero text long = refl
front_without (suc n) [] long = absurd (omega (arith, long))
front_without (suc n) (b ∷ []) long = absurd (omega (arith, long))
front_without (suc n) (b ∷ (c ∷ text)) long = ap (λ l. b ∷ l) (front_without n (c ∷ text) (omega (arith, long)))

pub empty : (text : List ℕ) → length text ≡ 0 → text ≡ without_cr text
empty [] none = refl
empty (b ∷ text) none = absurd (omega (arith, none))

pub dropped : (text front : List ℕ) (last : ℕ) → text ≡ front ++ (last ∷ []) → last ≡ carriage_return → front ≡ without_cr text
dropped text front last is cr = sym (ap without_cr (is ∙ ap (λ b. front ++ (b ∷ [])) cr) ∙ dropped_cr front)

pub kept : (text front : List ℕ) (last : ℕ) → text ≡ front ++ (last ∷ []) → last ≢ carriage_return → text ≡ without_cr text
kept text front last is other = is ∙ sym (ap without_cr is ∙ kept_byte last front other)

-- a text is a front of its bytes
without_is_front : (text : List ℕ) → take (length (without_cr text)) text ≡ without_cr text
without_is_front [] = refl
without_is_front (b ∷ []) = by_cr (b == carriage_return)
  where
    by_cr : (t : Bool) → take (length (cond t [] (b ∷ []))) (b ∷ []) ≡ cond t [] (b ∷ [])
    by_cr true = refl
    by_cr false = refl
without_is_front (b ∷ (c ∷ text)) = ap (λ l. b ∷ l) (without_is_front (c ∷ text))

text_is_front : (f : Front) (m : Bool) → take (length (cond m f.bytes (without_cr f.bytes))) f.bytes ≡ cond m f.bytes (without_cr f.bytes)
text_is_front f true = take-length f.bytes
text_is_front f false = without_is_front f.bytes

-- the line, made of the text that its front tells
pub finished : (front : Front) (bytes made : List ℕ) (n : ℕ) → front ≡ front_of bytes → n ≡ length (text_of front) → made ≡ take (min n 4096) front.bytes
    → record { bytes = made; long = nat_lt 4096 n } ≡ raw_line bytes
finished front bytes made n is count made_is = by_more front.more refl
  where
    text : take n front.bytes ≡ text_of front
    text = ap (λ k. take k front.bytes) count ∙ text_is_front front front.more

    within : n ≤ length front.bytes
    within = omega (arith, count, ap length text, length-take n front.bytes)

    bytes_are : front.bytes ≡ take MOST_GATHERED bytes
    bytes_are = ap (λ (f : Front). f.bytes) is

    more_is : front.more ≡ nat_lt MOST_GATHERED (length bytes)
    more_is = ap (λ (f : Front). f.more) is

    -- of the text, as far as a line goes
    cut_text : take (min n 4096) front.bytes ≡ take 4096 (take n front.bytes)
    cut_text = ⊎_elim
        (λ (long : 4096 < n). let e : min n 4096 ≡ 4096 = omega (arith, long) in ap (λ k. take k front.bytes) e ∙ sym (take-take 4096 n front.bytes (omega (arith, long))))
        (λ (short : n ≤ 4096). let e : min n 4096 ≡ n = omega (arith, short) in ap (λ k. take k front.bytes) e ∙ sym (take_all 4096 (take n front.bytes) (omega (arith, short, length-take n front.bytes)))) (cases_lt 4096 n)

    made_of : (whole : List ℕ) → take n front.bytes ≡ whole → made ≡ take 4096 whole
    made_of whole same = made_is ∙ cut_text ∙ ap (λ (l : List ℕ). take 4096 l) same

    long_of : (whole : List ℕ) → take n front.bytes ≡ whole → nat_lt 4096 n ≡ nat_lt 4096 (length whole)
    long_of whole same = let e : n ≡ length whole = omega (arith, within, length-take n front.bytes, ap length same) in ap (λ k. nat_lt 4096 k) e

    by_more : (m : Bool) → front.more ≡ m → record { bytes = made; long = nat_lt 4096 n } ≡ raw_line bytes
    by_more false whole =
        let short : length bytes ≤ MOST_GATHERED = ltb-false MOST_GATHERED (length bytes) (sym more_is ∙ whole) in
        let all : front.bytes ≡ bytes = bytes_are ∙ take_all MOST_GATHERED bytes short in
        let same : take n front.bytes ≡ without_cr bytes = text ∙ ap (λ m. cond m front.bytes (without_cr front.bytes)) whole ∙ ap without_cr all in
        let bytes_is = made_of (without_cr bytes) same in
        let long_is = long_of (without_cr bytes) same in
        λ i. record { bytes = bytes_is i; long = long_is i }
    by_more true cut =
        let long : MOST_GATHERED < length bytes = ltb-true MOST_GATHERED (length bytes) (sym more_is ∙ cut) in
        let same : take n front.bytes ≡ front.bytes = text ∙ ap (λ m. cond m front.bytes (without_cr front.bytes)) cut in
        let count : length front.bytes ≡ MOST_GATHERED = omega (arith, ap length bytes_are, length-take MOST_GATHERED bytes, long) in
        let bytes_is : made ≡ take 4096 (without_cr bytes) =
        made_of front.bytes same ∙ ap (λ (l : List ℕ). take 4096 l) bytes_are ∙ take-take 4096 MOST_GATHERED bytes (omega arith) ∙ sym (front_without 4096 bytes (omega (arith, long))) in
        let long_is : nat_lt 4096 n ≡ nat_lt 4096 (length (without_cr bytes)) =
        long_of front.bytes same ∙ lt-ltb 4096 (length front.bytes) (omega (arith, count)) ∙ sym (lt-ltb 4096 (length (without_cr bytes)) (omega (arith, long, without_longer bytes))) in
        λ i. record { bytes = bytes_is i; long = long_is i }
