-- Tokens of a line stand within it, and numbers among them are spelled as numbers.
use Rattle.std.proofs.Common.{◌≡◌, ℕ, suc, ◌+◌, ◌-◌, ◌≤◌, List, ◌∷◌, length, take, drop, sym, ap, ◌∙◌, subst, arith, length-drop, false}
use Rattle.std.specs.Prelude.{All, slice_range}
use Rattle.std.proofs.lemmas.List.{drop-drop}
use Rattle.std.proofs.lemmas.List.Elements.{All-nil, All-cons}
use Rattle.abc_num.specs.Literal.{IsNumberToken}
use Rattle.abc_tokens.specs.declared.kinds.Token.{Token}
use Rattle.abc_tokens.specs.declared.kinds.TokenKind.{TokenKind}
use Rattle.abc_tokens.specs.declared.kinds.TokenKind.TheVariants as kind
use Rattle.abc_tokens.specs.Words.{Spells}
use Rattle.abc_tokens.specs.Shape.{IsPlaced}
use Rattle.abc_tokens.specs.Tokens.{place, token, Tokens, none, comment, blank, word, text, other, open_text, AreTokens}
use Rattle.abc_tokens.proofs.TextLaws.{closes_ends}

-- the last bytes of the line
pub record IsSuffix (line bytes : List ℕ) : Type 0 where
  pub short : length bytes ≤ length line
  pub is : bytes ≡ drop (length line - length bytes) line

pub suffix_drop : (line bytes : List ℕ) (n : ℕ) → n ≤ length bytes → IsSuffix line bytes → IsSuffix line (drop n bytes)
suffix_drop line bytes n h s =
    let size : length (drop n bytes) ≡ length bytes - n = length-drop n bytes in
    let at : length line - length bytes + n ≡ length line - length (drop n bytes) = omega (arith, size, s.short) in record {
      short = omega (arith, size, s.short);
      is = ap (drop n) s.is ∙ drop-drop n (length line - length bytes) line ∙ ap (λ k. drop k line) at;
    }

pub taken : (line bytes : List ℕ) (n : ℕ) → IsSuffix line bytes → slice_range line (place (length line) bytes) (place (length line) bytes + n) ≡ take n bytes
taken line bytes n s =
    let p = place (length line) bytes in
    let many : p + n - p ≡ n = omega arith in
    ap (λ k. take k (drop p line)) many ∙ ap (take n) (sym s.is)

placed : (line : List ℕ) {bytes : List ℕ} {ts : List Token} {ns : List (List ℕ)} → Tokens false (length line) bytes ts ns → IsSuffix line bytes → All (IsPlaced line) ts
placed line none s = All-nil (IsPlaced line)
placed line comment s = All-nil (IsPlaced line)
placed line (blank {bytes = bytes} h) s = placed line h (suffix_drop line (_ ∷ bytes) 1 (omega arith) s)
placed line (word {k = k} {n = n} {bytes = bytes} {ts = ts} l h) s =
    All-cons (IsPlaced line) (token k (place (length line) bytes) (place (length line) bytes + n)) ts (record {
      ordered = omega arith;
      within = omega (arith, l.within, s.short);
      digits = λ e. let P : TokenKind → Type 0 = λ z. Spells z (take n bytes) in subst IsNumberToken (sym (taken line bytes n s)) (subst P e l.spelled);
    }) (placed line h (suffix_drop line bytes n l.within s))
placed line (text {q = q} {bytes = bytes} {rest = rest} {ts = ts} e c h) s =
    let ends = closes_ends c in
    let next : drop (suc ends.0) (q ∷ bytes) ≡ rest = ends.2 in
    let size : length rest ≡ length bytes - ends.0 = ap length (sym ends.2) ∙ length-drop ends.0 bytes in
    let more : IsSuffix line rest = subst (IsSuffix line) next (suffix_drop line (q ∷ bytes) (suc ends.0) (omega (arith, ends.1)) s) in
    All-cons (IsPlaced line) (token kind.Text (place (length line) (q ∷ bytes)) (place (length line) rest)) ts (record {
      ordered = omega (arith, size, more.short, s.short);
      within = omega (arith, more.short);
      digits = λ k. cc;
    }) (placed line h more)
placed line (other {b = b} {bytes = bytes} {ts = ts} n m u w h) s =
    All-cons (IsPlaced line) (token kind.Other (place (length line) (b ∷ bytes)) (place (length line) (b ∷ bytes) + 1)) ts (record {
      ordered = omega arith;
      within = omega (arith, s.short);
      digits = λ k. cc;
    }) (placed line h (suffix_drop line (b ∷ bytes) 1 (omega arith) s))
placed line (open_text e u w) s = cc

pub whole_suffix : (line : List ℕ) → IsSuffix line line
whole_suffix line = record { short = omega arith; is = ap (λ k. drop k line) (let e : 0 ≡ length line - length line = omega arith in e) }

pub placed_line : (line : List ℕ) (ts : List Token) → AreTokens line ts → All (IsPlaced line) ts
placed_line line ts are = placed line are.found.1 (whole_suffix line)
