-- Decimals by long division, and where they end.
use Rattle.std.proofs.Common.{◌≡◌, ℕ, zero, suc, ◌+◌, ◌-◌, ◌*◌, ◌/◌, ◌%◌, ◌^◌, ◌<◌, ◌≤◌, Bool, true, false, List, [], ◌∷◌, ◌++◌, Some, None, refl, sym, ap, ◌∙◌, arith, add-one}
use Rattle.std.proofs.lemmas.Bool.Decides.{nat_tests}
use Rattle.std.proofs.lemmas.List.{append_assoc, append-nil}
use Rattle.std.proofs.Math.Nat.{div-add-mod, mul-add-mod_self_left, mul-add-div, mod-lt, mod-eq_of_lt, pow-suc, pow-zero}
use Rattle.abc_num.proofs.Decimal.{digit-below}
use Rattle.abc_value.specs.declared.numeral.TheConstants.{MOST_DECIMALS}
use Rattle.abc_value.specs.Printed.{first_from, ends_after, places, decimals}

-- ten times the rest has the rest of ten times the whole
pub rest_step : (a b : ℕ) → (10 * (a % b)) % b ≡ (10 * a) % b
rest_step a b =
    let whole : 10 * a ≡ b * (10 * (a / b)) + 10 * (a % b) = omega (arith, div-add-mod a b) in
    sym (ap (λ z. z % b) whole ∙ mul-add-mod_self_left b (10 * (a / b)) (10 * (a % b)))

-- the digit of ten times the rest is the last one of ten times the whole
pub digit_step : (a b : ℕ) → 0 < b → (10 * (a % b)) / b ≡ (10 * a) / b % 10
digit_step a b h =
    let whole : 10 * a ≡ b * (10 * (a / b)) + 10 * (a % b) = omega (arith, div-add-mod a b) in
    let parts : (10 * a) / b ≡ 10 * (a / b) + (10 * (a % b)) / b = ap (λ z. z / b) whole ∙ mul-add-div h (10 * (a / b)) (10 * (a % b)) in
    let small : (10 * (a % b)) / b < 10 = omega (arith, digit-below b (a % b) (mod-lt a h)) in
    sym (ap (λ z. z % 10) parts ∙ mul-add-mod_self_left 10 (a / b) ((10 * (a % b)) / b) ∙ mod-eq_of_lt small)

-- the rest of a power of ten more
pub power_rest : (top k b : ℕ) → (10 * ((top * 10 ^ k) % b)) % b ≡ (top * 10 ^ (k + 1)) % b
power_rest top k b =
    let more : 10 * (top * 10 ^ k) ≡ top * 10 ^ (k + 1) = omega (arith, ap (λ z. top * 10 ^ z) (add-one k), ap (λ z. top * z) (pow-suc 10 k)) in
    rest_step (top * 10 ^ k) b ∙ ap (λ z. z % b) more

pub decimal_more : (top b k : ℕ) → 0 < b → decimals top b (k + 1) ≡ decimals top b k ++ (48 + (10 * ((top * 10 ^ k) % b)) / b) ∷ []
decimal_more top b k h =
    let more : 10 * (top * 10 ^ k) ≡ top * 10 ^ suc k = omega (arith, ap (λ z. top * z) (pow-suc 10 k)) in
    ap (decimals top b) (add-one k)
    ∙ ap (λ z. decimals top b k ++ (48 + z) ∷ []) (sym (digit_step (top * 10 ^ k) b h ∙ ap (λ z. z / b % 10) more))

-- a search goes on past a number that does not pass, and stops at one that does
pub search_on : (passes : ℕ → Bool) (k n m : ℕ) → n ≡ suc m → passes k ≡ false → first_from passes k n ≡ first_from passes (k + 1) m
search_on passes k n m e fails =
    ap (first_from passes k) e ∙ rw fails (ap (λ z. first_from passes z m) (sym (add-one k)))

pub search_ends : (passes : ℕ → Bool) (k n m : ℕ) → n ≡ suc m → passes k ≡ true → first_from passes k n ≡ Some k
search_ends passes k n m e holds = ap (first_from passes k) e ∙ rw holds refl

pub ends_there : (b k rest : ℕ) → rest ≡ 10 ^ k % b → rest ≡ 0 → ends_after b k ≡ true
ends_there b k rest e z = grind (arith, nat_tests)

pub goes_past : (b k rest : ℕ) → rest ≡ 10 ^ k % b → (rest ≡ 0 → ⊥) → ends_after b k ≡ false
goes_past b k rest e n = grind (arith, nat_tests)

-- the places that are searched from k on
pub record IsSearched (b rest k : ℕ) : Type 0 where
  pub rest_is : rest ≡ 10 ^ k % b
  pub within : k ≤ MOST_DECIMALS + 1
  pub same : places b ≡ first_from (ends_after b) k (MOST_DECIMALS + 1 - k)

pub searched_none : (b : ℕ) → IsSearched b (1 % b) 0
unfolding places
searched_none b = record { rest_is = ap (λ z. z % b) (sym (pow-zero 10)); within = omega arith; same = refl }

pub searched_more : (b rest k : ℕ) → IsSearched b rest k → k < MOST_DECIMALS + 1 → (rest ≡ 0 → ⊥) → IsSearched b (10 * rest % b) (k + 1)
searched_more b rest k s h n =
    let power : 10 * (10 ^ k) ≡ 10 ^ (k + 1) = omega (arith, ap (λ z. 10 ^ z) (add-one k), pow-suc 10 k) in record {
      rest_is = ap (λ z. (10 * z) % b) s.rest_is ∙ rest_step (10 ^ k) b ∙ ap (λ z. z % b) power;
      within = omega arith;
      same = s.same ∙ search_on (ends_after b) k (MOST_DECIMALS + 1 - k) (MOST_DECIMALS + 1 - (k + 1)) (omega arith) (goes_past b k rest s.rest_is n);
    }

pub searched_found : (b rest k : ℕ) → IsSearched b rest k → k < MOST_DECIMALS + 1 → rest ≡ 0 → Some k ≡ places b
searched_found b rest k s h z =
    sym (s.same ∙ search_ends (ends_after b) k (MOST_DECIMALS + 1 - k) (MOST_DECIMALS - k) (omega arith) (ends_there b k rest s.rest_is z))

pub searched_all : (b rest k : ℕ) → IsSearched b rest k → MOST_DECIMALS + 1 ≤ k → None ≡ places b
searched_all b rest k s h =
    sym (s.same ∙ ap (first_from (ends_after b) k) (let e : MOST_DECIMALS + 1 - k ≡ zero = omega arith in e))

pub searched_less : (b rest k : ℕ) → 0 < b → IsSearched b rest k → rest < b
searched_less b rest k h s = omega (arith, s.rest_is, mod-lt (10 ^ k) h)

-- the decimals that are written from the first on
pub record IsWritten (before now : List ℕ) (top b rest k : ℕ) : Type 0 where
  pub rest_is : rest ≡ (top * 10 ^ k) % b
  pub is : now ≡ before ++ decimals top b k

pub written_none : (before : List ℕ) (top b : ℕ) → IsWritten before before top b (top % b) 0
written_none before top b = record {
  rest_is = ap (λ z. z % b) (let e : top ≡ top * 10 ^ 0 = omega (arith, ap (λ z. top * z) (pow-zero 10)) in e);
  is = sym (append-nil before);
}

pub written_less : (before now : List ℕ) (top b rest k : ℕ) → 0 < b → IsWritten before now top b rest k → rest < b
written_less before now top b rest k h w = omega (arith, w.rest_is, mod-lt (top * 10 ^ k) h)

pub written_more : (before now new : List ℕ) (top b rest k : ℕ) → 0 < b → IsWritten before now top b rest k → new ≡ now ++ (48 + (10 * rest) / b) ∷ [] → IsWritten before new top b ((10 * rest) % b) (k + 1)
written_more before now new top b rest k h w e = record {
  rest_is = ap (λ z. (10 * z) % b) w.rest_is ∙ power_rest top k b;
  is = e ∙ ap (λ z. z ++ (48 + (10 * rest) / b) ∷ []) w.is ∙ append_assoc before (decimals top b k) ((48 + (10 * rest) / b) ∷ [])
      ∙ ap (λ z. before ++ (decimals top b k ++ (48 + (10 * z) / b) ∷ [])) w.rest_is ∙ ap (λ z. before ++ z) (sym (decimal_more top b k h));
}
