-- Where a conversion ends: the place that its tokens, read from the front, reach is that of the first backquote with tokens before it.
use Rattle.std.proofs.Common.{◌≡◌, ℕ, suc, ◌+◌, ◌-◌, ◌<◌, ◌≤◌, List, [], ◌∷◌, ◌++◌, length, take, drop, Option, Some, None, refl, ap, sym, ◌∙◌, subst, arith, length-append, length-drop}
use Rattle.std.proofs.lemmas.List.{take_at}
use Rattle.std.specs.Prelude.{true, IfSome, IfNone}
use Rattle.abc_tokens.specs.Bytes.{backquote}
use Rattle.abc_tokens.specs.Texts.{Converts}
use Rattle.abc_tokens.specs.Tokens.{has_characters}
use Rattle.abc_tokens.specs.ConversionEnds.{EndsAt}
use Rattle.abc_tokens.proofs.Conversions.{Inner, inner_of}
use Rattle.abc_tokens.proofs.Faults.{OneReading}
use Rattle.abc_expressions.specs.inner.Machine.{conversion_from}
use Rattle.abc_expressions.specs.inner.Splitting.{IsEndAt}
use Rattle.abc_expressions.specs.Texts.{IsConversion, ReadsConversion}
use Rattle.abc_expressions.proofs.Conversions.{read_from_front, read_is_first}
use Rattle.abc_expressions.proofs.TextParts.{conversion_found, conversion_told}

-- what stands before this end
reads : (bytes : List ℕ) (n : ℕ) → EndsAt bytes n → ReadsConversion bytes (take n bytes) (drop (suc n) bytes)
reads bytes n (l, c, (ns, d, sound)) =
    let v : Inner bytes (drop (suc n) bytes) ns = inner_of d in
    let sizes : length bytes ≡ length v.inner + suc (length (drop (suc n) bytes)) = ap length v.is ∙ length-append v.inner (backquote ∷ drop (suc n) bytes) in
    let left = length-drop (suc n) bytes in
    let at : length v.inner ≡ n = omega (arith, sizes, left, l) in
    let same : take n bytes ≡ v.inner = ap (take n) v.is ∙ take_at v.inner (backquote ∷ drop (suc n) bytes) n at in
    (v.is ∙ ap (λ z. z ++ backquote ∷ drop (suc n) bytes) (sym same), c, (ns, d, sound))

-- and the other way round
ends : (bytes inner rest : List ℕ) → ReadsConversion bytes inner rest → EndsAt bytes (length inner)
ends bytes inner rest (is, c, (ns, d, sound)) =
    let sizes : length bytes ≡ length inner + suc (length rest) = ap length is ∙ length-append inner (backquote ∷ rest) in
    let front : take (length inner) bytes ≡ inner = ap (take (length inner)) is ∙ take_at inner (backquote ∷ rest) (length inner) refl in
    let behind : drop (suc (length inner)) bytes ≡ rest = ap (drop (suc (length inner))) is ∙ behind_at inner in
    (omega (arith, sizes), subst (λ z. has_characters z ≡ true) (sym front) c, (ns, subst (λ z. Converts bytes z ns) (sym behind) d, sound))
  where
    behind_at : (xs : List ℕ) → drop (suc (length xs)) (xs ++ backquote ∷ rest) ≡ rest
    behind_at [] = refl
    behind_at (x ∷ xs) = behind_at xs

module _ (law : OneReading) (bytes : List ℕ) where
  found : (n : ℕ) → EndsAt bytes n → IsEndAt bytes (Some n)
  found n h =
      let c : IsConversion bytes (take n bytes) (drop (suc n) bytes) = read_is_first law bytes (take n bytes) (drop (suc n) bytes) (reads bytes n h) in
      (h.0, conversion_found law (take n bytes) (drop (suc n) bytes) bytes [] c.is c.tokens c.first (omega arith))

  none : ((n : ℕ) → EndsAt bytes n → ⊥) → (x : Option (List ℕ)) → conversion_from [] bytes ≡ x → x ≡ None
  none h None e = refl
  none h (Some inner) e =
      let c = conversion_told law inner bytes [] (λ front more ts i t. omega arith) e in
      absurd (h (length inner) (ends bytes inner c.0 (read_from_front law bytes inner c.0 c.1)))

  pub end_found : (x : Option ℕ) → IfSome x (EndsAt bytes) → IfNone x ((n : ℕ) → EndsAt bytes n → ⊥) → IsEndAt bytes x
  end_found None h k = none k (conversion_from [] bytes) refl
  end_found (Some n) h k = found n h
