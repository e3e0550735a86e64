-- What follows the spaces and tabs at the front.
use Rattle.std.proofs.Common.{◌≡◌, ℕ, suc, ◌+◌, ◌-◌, Bool, true, false, ◌||◌, cond, List, [], ◌∷◌, length, take, drop, refl, ap, ◌∙◌, arith}
use Rattle.std.specs.Prelude.{◌==◌}
use Rattle.std.specs.List.{prefix_len}
use Rattle.std.proofs.lemmas.List.{take_rest}
use Rattle.abc_tokens.specs.Bytes.{space}
use Rattle.abc_tokens.specs.Shape.{tab, text_of}

abbrev pub is_front : ℕ → Bool
is_front b = (b == space) || (b == tab)

behind_on : (b : ℕ) (bytes : List ℕ) (x : Bool) → drop (prefix_len is_front bytes) bytes ≡ text_of bytes → drop (cond x (1 + prefix_len is_front bytes) 0) (b ∷ bytes) ≡ cond x (text_of bytes) (b ∷ bytes)
behind_on b bytes true h = let e : 1 + prefix_len is_front bytes ≡ suc (prefix_len is_front bytes) = omega arith in ap (λ n. drop n (b ∷ bytes)) e ∙ h
behind_on b bytes false h = refl

pub behind_front : (bytes : List ℕ) → drop (prefix_len is_front bytes) bytes ≡ text_of bytes
behind_front [] = refl
behind_front (b ∷ bytes) = behind_on b bytes (is_front b) (behind_front bytes)

pub text_behind : (bytes : List ℕ) (n : ℕ) → n ≡ prefix_len is_front bytes → take (length bytes - n) (drop n bytes) ≡ text_of bytes
text_behind bytes n e = take_rest bytes n ∙ ap (λ k. drop k bytes) e ∙ behind_front bytes
