-- The bytes of one line.
use Rattle.std.proofs.Common.{◌≡◌, ◌≢◌, ◌<◌, ◌+◌, ℕ, zero, suc, List, [], ◌∷◌, ◌++◌, length, take, get_or, min, refl, sym, ap, ◌∙◌, subst, arith}
use Rattle.std.specs.Prelude.{nat_lt}
use Rattle.std.proofs.lemmas.List.{take_min}
use Rattle.std.proofs.Math.Nat.{min_comm}
use Rattle.abc_num.specs.Lines.{HasNoLf, line_feed, carriage_return, without_cr, raw_line}
use Rattle.abc_num.proofs.LineCuts.{dropped_cr, kept_byte}

one_more_at : (bytes : List ℕ) (i d : ℕ) → i < length bytes → HasNoLf (take i bytes) → get_or bytes i d ≢ line_feed → HasNoLf (take (suc i) bytes)
one_more_at [] i d inside no_lf other = absurd (omega (arith, inside))
one_more_at (b ∷ bytes) zero d inside no_lf other = (other, tt)
one_more_at (b ∷ bytes) (suc i) d inside no_lf other = (no_lf.0, one_more_at bytes i d (omega (arith, inside)) no_lf.1 other)

-- a byte more that is no LF
pub one_more : (bytes : List ℕ) (i d : ℕ) → i < length bytes → HasNoLf (take i bytes) → get_or bytes i d ≢ line_feed → HasNoLf (take (i + 1) bytes)
one_more bytes i d inside no_lf other = let next : suc i ≡ i + 1 = omega arith in subst (λ n. HasNoLf (take n bytes)) next (one_more_at bytes i d inside no_lf other)

pub empty : (text : List ℕ) → length text ≡ 0 → text ≡ without_cr text
empty [] none = refl
empty (b ∷ text) none = absurd (omega (arith, none))

pub dropped : (text front : List ℕ) (last : ℕ) → text ≡ front ++ (last ∷ []) → last ≡ carriage_return → front ≡ without_cr text
dropped text front last is cr = sym (ap without_cr (is ∙ ap (λ b. front ++ (b ∷ [])) cr) ∙ dropped_cr front)

pub kept : (text front : List ℕ) (last : ℕ) → text ≡ front ++ (last ∷ []) → last ≢ carriage_return → text ≡ without_cr text
kept text front last is other = is ∙ sym (ap without_cr is ∙ kept_byte last front other)

-- the line, made of what is left without a CR
pub made : (text left bytes : List ℕ) (most : ℕ) → left ≡ without_cr text → most ≡ min (length left) 4096 → bytes ≡ take most left
    → raw_line text ≡ record { bytes = bytes; long = nat_lt 4096 (length left) }
made text left bytes most is most_is bytes_are =
    ap (λ l. record { bytes = take 4096 l; long = nat_lt 4096 (length l) }) (sym is)
    ∙ ap (λ b. record { bytes = b; long = nat_lt 4096 (length left) }) (sym (bytes_are ∙ (ap (λ n. take n left) (most_is ∙ min_comm (length left) 4096) ∙ take_min 4096 left)))
