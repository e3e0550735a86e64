-- A number token's digits in front of the point and behind it.
use Rattle.std.proofs.Common.{◌≡◌, ℕ, suc, ◌<◌, List, [], ◌∷◌, ◌++◌, length, get_or, take, drop, drop-cons, add-one, ◌+◌, refl, sym, ap, ◌∙◌, subst, arith, false, nat_eq, inl, inr}
use Rattle.std.specs.Prelude.{All}
use Rattle.std.proofs.lemmas.Bool.Decides.{nat_tests}
use Rattle.std.proofs.lemmas.List.{take-append-drop}
use Rattle.std.proofs.lemmas.List.Elements.{All-tail}
use Rattle.abc_num.specs.Literal.{point, IsDigit, IsDigits, IsNumberToken, in_front, behind}

no_point : (c : ℕ) (cs : List ℕ) → All IsDigit (c ∷ cs) → nat_eq c point ≡ false
no_point c cs a = let d = a 0 0 (omega arith) in grind (arith, nat_tests)

pub in_front-digits : (b : List ℕ) → All IsDigit b → in_front b ≡ b
in_front-digits [] a = refl
in_front-digits (c ∷ cs) a = rw (no_point c cs a) (ap (λ z. c ∷ z) (in_front-digits cs (All-tail IsDigit c cs a)))

pub behind-digits : (b : List ℕ) → All IsDigit b → behind b ≡ []
behind-digits [] a = refl
behind-digits (c ∷ cs) a = rw (no_point c cs a) (behind-digits cs (All-tail IsDigit c cs a))

pub in_front-point : (b d : List ℕ) → All IsDigit b → in_front (b ++ (point ∷ d)) ≡ b
in_front-point [] d a = refl
in_front-point (c ∷ cs) d a = rw (no_point c cs a) (ap (λ z. c ∷ z) (in_front-point cs d (All-tail IsDigit c cs a)))

pub behind-point : (b d : List ℕ) → All IsDigit b → behind (b ++ (point ∷ d)) ≡ d
behind-point [] d a = refl
behind-point (c ∷ cs) d a = rw (no_point c cs a) (behind-point cs d (All-tail IsDigit c cs a))

pub front_digits : (b : List ℕ) → IsNumberToken b → All IsDigit (in_front b)
front_digits b (inl i) = subst (All IsDigit) (sym (in_front-digits b i.1)) i.1
front_digits b (inr i) = subst (All IsDigit) (sym (ap in_front i.2 ∙ in_front-point i.0 i.1 i.3)) i.3

pub behind_digits : (b : List ℕ) → IsNumberToken b → All IsDigit (behind b)
behind_digits b (inl i) = subst (All IsDigit) (sym (behind-digits b i.1)) (λ k d h. absurd (omega arith))
behind_digits b (inr i) = subst (All IsDigit) (sym (ap behind i.2 ∙ behind-point i.0 i.1 i.3)) i.4.1

-- digits, a point at this place, and digits
pub IsNumberToken-at : (b : List ℕ) (at : ℕ) → at < length b → get_or b at 0 ≡ point → All IsDigit (take at b) → IsDigits (drop (at + 1) b) → IsNumberToken b
IsNumberToken-at b at h e front back =
    let parts : b ≡ take at b ++ (point ∷ drop (at + 1) b) =
    sym (take-append-drop at b)
    ∙ ap (λ z. take at b ++ z) (drop-cons b at 0 h)
    ∙ ap (λ c. take at b ++ (c ∷ drop (suc at) b)) e
    ∙ ap (λ k. take at b ++ (point ∷ drop k b)) (sym (add-one at)) in
    inr (take at b, drop (at + 1) b, parts, front, back)
