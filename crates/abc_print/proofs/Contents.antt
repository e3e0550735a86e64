-- The characters of a text, one at a time.
use Rattle.std.proofs.Common.{◌≡◌, ℕ, ◌+◌, ◌<◌, ◌≤◌, Bool, true, false, List, [], ◌∷◌, ◌++◌, length, drop, get_or, Option, Some, None, refl, sym, ap, ◌∙◌, subst, arith, length-append, inl, inr}
use Rattle.std.specs.Prelude.{◌⊎◌, ◌==◌, ◌||◌, if◌then◌else◌}
use Rattle.std.proofs.lemmas.List.{append_assoc, drop_more}
use Rattle.abc_value.specs.Regular.{IsCharacter, AreCharacters}
use Rattle.abc_value.proofs.trees.Itemised.{characters_at}
use Rattle.abc_tokens.specs.Bytes.{backquote}
use Rattle.abc_print.specs.Lexemes.{before, content}
use Rattle.abc_print.specs.inner.Lexing.{width}

-- characters before those that are found
abbrev pub behind : List ℕ → Option (List ℕ) → Option (List ℕ)
behind out None = None
behind out (Some cs) = Some (out ++ cs)

behind_before : (out : List ℕ) (c : ℕ) (o : Option (List ℕ)) → behind out (before c o) ≡ behind (out ++ c ∷ []) o
behind_before out c None = refl
behind_before out c (Some cs) = ap Some (sym (append_assoc out (c ∷ []) cs))

-- how many bytes a character takes, by whether it is one that stands twice, and whether it does
abbrev wide : Bool → Bool → Option ℕ
wide special same = if special then (if same then Some 2 else None) else Some 1

one_wide : (q c d : ℕ) (bytes : List ℕ) (special same : Bool) → wide special same ≡ Some 1 → (if special then (if same then before c (content q bytes) else None) else before c (content q (d ∷ bytes))) ≡ before c (content q (d ∷ bytes))
one_wide q c d bytes true true h = cc
one_wide q c d bytes true false h = cc
one_wide q c d bytes false same h = refl

two_wide : (q c d : ℕ) (bytes : List ℕ) (special same : Bool) → wide special same ≡ Some 2 → (if special then (if same then before c (content q bytes) else None) else before c (content q (d ∷ bytes))) ≡ before c (content q bytes)
two_wide q c d bytes true true h = refl
two_wide q c d bytes true false h = cc
two_wide q c d bytes false same h = cc

width_is : (special same : Bool) (w : ℕ) → wide special same ≡ Some w → (w ≡ 1) ⊎ (w ≡ 2)
width_is true true w h = inr (let e : 2 ≡ w = cc in sym e)
width_is true false w h = cc
width_is false same w h = inl (let e : 1 ≡ w = cc in sym e)

pub width_small : (q c d w : ℕ) → width q c d ≡ Some w → w ≤ 2
width_small q c d w e = elim (width_is ((c == q) || (c == backquote)) (d == c) w e) [ inl one ↦ omega arith | inr two ↦ omega arith ]

two_more : (bytes : List ℕ) (at : ℕ) → at + 1 < length bytes → drop at bytes ≡ get_or bytes at 0 ∷ get_or bytes (at + 1) 0 ∷ drop (at + 2) bytes
two_more bytes at h =
    let next : at + 1 + 1 ≡ at + 2 = omega arith in
    drop_more bytes at 0 (omega arith) ∙ ap (λ z. get_or bytes at 0 ∷ z) (drop_more bytes (at + 1) 0 h ∙ ap (λ k. get_or bytes (at + 1) 0 ∷ drop k bytes) next)

-- what was read of a text
pub record IsRead (q : ℕ) (bytes out : List ℕ) (at : ℕ) : Type 0 where
  pub same : content q bytes ≡ behind out (content q (drop at bytes))
  pub characters : AreCharacters out
  pub short : length out ≤ at
  pub within : at ≤ length bytes

behind_one : (b : List ℕ) (c : ℕ) → AreCharacters b → IsCharacter c → AreCharacters (b ++ c ∷ [])
behind_one [] c a h = (h, tt)
behind_one (d ∷ ds) c a h = (a.0, behind_one ds c a.1 h)

step_by : (q : ℕ) (bytes out : List ℕ) (at w : ℕ) → at + 1 < length bytes → width q (get_or bytes at 0) (get_or bytes (at + 1) 0) ≡ Some w → content q (drop at bytes) ≡ before (get_or bytes at 0) (content q (drop (at + w) bytes))
step_by q bytes out at w h e =
    let c = get_or bytes at 0 in
    let d = get_or bytes (at + 1) 0 in
    let rest = drop (at + 2) bytes in
    elim (width_is ((c == q) || (c == backquote)) (d == c) w e) [
      | inl one ↦ (
          let is = e ∙ ap Some one in
          let left : d ∷ rest ≡ drop (at + w) bytes = sym (drop_more bytes (at + 1) 0 h ∙ (let next : at + 1 + 1 ≡ at + 2 = omega arith in ap (λ k. d ∷ drop k bytes) next)) ∙ ap (λ k. drop (at + k) bytes) (sym one) in
          ap (content q) (two_more bytes at h) ∙ one_wide q c d rest ((c == q) || (c == backquote)) (d == c) is ∙ ap (λ z. before c (content q z)) left
          )
      | inr two ↦ (
          let is = e ∙ ap Some two in
          ap (content q) (two_more bytes at h) ∙ two_wide q c d rest ((c == q) || (c == backquote)) (d == c) is ∙ ap (λ k. before c (content q (drop (at + k) bytes))) (sym two)
          )
    ]

pub one_read : (q : ℕ) (bytes out new : List ℕ) (at w : ℕ) → IsRead q bytes out at → AreCharacters bytes → at + 1 < length bytes → width q (get_or bytes at 0) (get_or bytes (at + 1) 0) ≡ Some w → new ≡ out ++ get_or bytes at 0 ∷ [] → IsRead q bytes new (at + w)
one_read q bytes out new at w r a h e n =
    let c = get_or bytes at 0 in
    let wide : 1 ≤ w = elim (width_is ((c == q) || (c == backquote)) (get_or bytes (at + 1) 0 == c) w e) [ inl one ↦ omega arith | inr two ↦ omega arith ] in record {
      same = r.same ∙ ap (behind out) (step_by q bytes out at w h e) ∙ behind_before out c (content q (drop (at + w) bytes)) ∙ ap (λ z. behind z (content q (drop (at + w) bytes))) (sym n);
      characters = subst AreCharacters (sym n) (behind_one out c r.characters (characters_at bytes at 0 a (omega arith)));
      short = omega (arith, ap length n, length-append out (c ∷ []), r.short);
      within = omega (arith, width_small q c (get_or bytes (at + 1) 0) w e);
    }
