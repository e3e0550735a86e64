-- Words that are tested for a number, and those that are parsed.
use Rattle.std.proofs.Common.{◌≡◌, ◌≢◌, ℕ, ◌^◌, ◌<◌, ◌≤◌, Bool, true, false, ◌&&◌, List, length, get_or, Ok, Err, Some, None, refl, sym, ap, ◌∙◌, arith}
use Rattle.std.specs.Prelude.{if◌then◌else◌, nat_lt, nat_le}
use Rattle.std.specs.Str.{all_ascii_digits}
use Rattle.std.specs.Str.Parse.{digits_value, ParsesUnsigned}
use Rattle.std.proofs.lemmas.Bool.{and_parts}
use Rattle.std.proofs.lemmas.Bool.Decides.{nat_tests}
use Rattle.std.proofs.lemmas.Str.Parse.{IsNumeralModel, numerals_by_value, tells_all_ascii_digits, parse_plain}
use Rattle.abc_words.specs.Words.{counted}
use Rattle.abc_words.proofs.Faultless.{both}

own : IsNumeralModel (λ ds. all_ascii_digits ds ≡ true) (digits_value 10)
own = numerals_by_value (λ ds. all_ascii_digits ds ≡ true) tells_all_ascii_digits

-- a word that was parsed to a number within the bounds
pub is_counted : (E : Type 0) (digits least most n : ℕ) (word : List ℕ) → ParsesUnsigned {E = E} 64 10 word (Ok n) → get_or word 0 0 ≢ 43 → length word ≤ digits → least ≤ n → n ≤ most
    → Some n ≡ counted digits least most word
is_counted E digits least most n word parsed plain short low high =
    let h = parse_plain own {E = E} 64 word (Ok n) parsed plain in
    let v = digits_value 10 word in
    let is : n ≡ v = h.1 in
    let some : 0 < length word = h.0.1 in
    let a : nat_lt 0 (length word) ≡ true = grind (arith, nat_tests) in
    let b : nat_le (length word) digits ≡ true = grind (arith, nat_tests) in
    let c : nat_le least v ≡ true = grind (arith, nat_tests) in
    let d : nat_le v most ≡ true = grind (arith, nat_tests) in
    ap Some is ∙ sym (ap (λ t. if t then Some v else None) (both (both (both (both a b) h.0.0) c) d))

-- a word that could not be parsed
pub not_counted : {E : Type 0} (digits least most : ℕ) (word : List ℕ) (e : E) → ParsesUnsigned 64 10 word (Err e) → get_or word 0 0 ≢ 43 → most < 2 ^ 64
    → None ≡ counted digits least most word
not_counted digits least most word e parsed plain fits = by (nat_lt 0 (length word) && nat_le (length word) digits && all_ascii_digits word && nat_le least v && nat_le v most) refl
  where
    v : ℕ
    v = digits_value 10 word

    never : (nat_lt 0 (length word) && nat_le (length word) digits && all_ascii_digits word && nat_le least v && nat_le v most) ≡ true → ⊥
    never t =
        let p = and_parts (nat_lt 0 (length word) && nat_le (length word) digits && all_ascii_digits word && nat_le least v) (nat_le v most) t in
        let q = and_parts (nat_lt 0 (length word) && nat_le (length word) digits && all_ascii_digits word) (nat_le least v) p.0 in
        let r = and_parts (nat_lt 0 (length word) && nat_le (length word) digits) (all_ascii_digits word) q.0 in
        let s = and_parts (nat_lt 0 (length word)) (nat_le (length word) digits) r.0 in
        let high = p.1 in
        let first = s.0 in
        let less : v < 2 ^ 64 = grind (arith, nat_tests) in
        let some : 0 < length word = grind (arith, nat_tests) in
        parse_plain own 64 word (Err e) parsed plain (r.1, some, less)

    by : (t : Bool) → (nat_lt 0 (length word) && nat_le (length word) digits && all_ascii_digits word && nat_le least v && nat_le v most) ≡ t → None ≡ (if t then Some v else None)
    by true is = absurd (never is)
    by false is = refl
