-- A conversion has one end.
use Rattle.std.proofs.Common.{◌≡◌, ℕ, zero, suc, ◌-◌, ◌<◌, ◌≤◌, Bool, true, false, List, [], ◌∷◌, ◌++◌, length, take, drop, Option, Some, None, refl, ap, sym, ◌∙◌, subst, arith, length-drop}
use Rattle.std.specs.Prelude.{◌==◌}
use Rattle.std.proofs.lemmas.Bool.{ne_eqb}
use Rattle.std.proofs.lemmas.Option.{same_Some}
use Rattle.abc_tokens.specs.declared.kinds.TokenKind.{TokenKind}
use Rattle.abc_tokens.specs.Bytes.{is_quote, space, backquote}
use Rattle.abc_tokens.specs.Words.{number_of}
use Rattle.abc_tokens.specs.Texts.{Closes, Converts, finish, blank, word, text, other}
use Rattle.abc_tokens.specs.Scanned.{word_in_front}
use Rattle.abc_tokens.proofs.InFront.{in_front, none_from_none, longest_in_front}
use Rattle.abc_tokens.proofs.TextLaws.{no_quote, no_bytes, word_no_space, word_no_backquote, word_no_quote, text_read, closes_ends}

-- how a conversion goes on up to the rest, with these numbers, by its first byte and the word in front
module _ (b : ℕ) (bytes rest : List ℕ) (ns : List (List ℕ)) where
  abbrev pub Next : Bool → Bool → Bool → Option (TokenKind × ℕ) → Type 0
  Next true k u w = Converts bytes rest ns
  Next false true u w = (bytes ≡ rest) × (ns ≡ [])
  Next false false true w = (more : List ℕ) × (ms : List (List ℕ)) × (us : List (List ℕ)) × (ns ≡ ms ++ us) × Closes b bytes more ms × Converts more rest us
  Next false false false None = Converts bytes rest ns
  Next false false false (Some w) = (us : List (List ℕ)) × (ns ≡ number_of w.0 (take w.1 (b ∷ bytes)) ++ us) × Converts (drop w.1 (b ∷ bytes)) rest us

  told : (s k u : Bool) (w : Option (TokenKind × ℕ)) → (b == space) ≡ s → (b == backquote) ≡ k → is_quote b ≡ u → word_in_front (b ∷ bytes) ≡ w → Next s k u w
      → Next (b == space) (b == backquote) (is_quote b) (word_in_front (b ∷ bytes))
  told s k u w es ek eu ew h =
      subst (λ x. Next x (b == backquote) (is_quote b) (word_in_front (b ∷ bytes))) (sym es)
      (subst (λ x. Next s x (is_quote b) (word_in_front (b ∷ bytes))) (sym ek)
      (subst (λ x. Next s k x (word_in_front (b ∷ bytes))) (sym eu)
      (subst (λ x. Next s k u x) (sym ew) h)))

  pub read_as : (s k u : Bool) (w : Option (TokenKind × ℕ)) → (b == space) ≡ s → (b == backquote) ≡ k → is_quote b ≡ u → word_in_front (b ∷ bytes) ≡ w
      → Next (b == space) (b == backquote) (is_quote b) (word_in_front (b ∷ bytes)) → Next s k u w
  read_as s k u w es ek eu ew h =
      subst (λ x. Next s k u x) ew
      (subst (λ x. Next s k x (word_in_front (b ∷ bytes))) eu
      (subst (λ x. Next s x (is_quote b) (word_in_front (b ∷ bytes))) ek
      (subst (λ x. Next x (b == backquote) (is_quote b) (word_in_front (b ∷ bytes))) es h)))

abbrev pub NextOf : List ℕ → List ℕ → List (List ℕ) → Type 0
NextOf [] rest ns = ⊥
NextOf (b ∷ bytes) rest ns = Next b bytes rest ns (b == space) (b == backquote) (is_quote b) (word_in_front (b ∷ bytes))

pub next : {bytes rest : List ℕ} {ns : List (List ℕ)} → Converts bytes rest ns → NextOf bytes rest ns
next finish = (refl, refl)
next (blank d) = d
next (word {kind = kind} {n = n} {bytes = []} l d) = let e = in_front kind n [] l in let z = no_bytes in cc
next (word {kind = kind} {n = n} {bytes = b ∷ bytes} {rest = rest} {ns = ns} l d) =
    let e = in_front kind n (b ∷ bytes) l in
    told b bytes rest (number_of kind (take n (b ∷ bytes)) ++ ns) false false false (Some (kind, n)) (word_no_space b bytes (kind, n) e) (word_no_backquote b bytes (kind, n) e) (word_no_quote b bytes (kind, n) e) e (ns, refl, d)
next (text {q = q} {bytes = bytes} {more = more} {rest = rest} {ms = ms} {ns = ns} u c d) =
    told q bytes rest (ms ++ ns) false false true (word_in_front (q ∷ bytes)) (no_quote (λ q. (q == space) ≡ false) refl refl q u) (no_quote (λ q. (q == backquote) ≡ false) refl refl q u) u refl (more, ms, ns, refl, c, d)
next (other {b = b} {bytes = bytes} {rest = rest} {ns = ns} s c k u n d) =
    told b bytes rest ns false false false None (ne_eqb b space s) (ne_eqb b backquote k) u (none_from_none (b ∷ bytes) n) d

shorter : (n k : ℕ) (b : ℕ) (bytes : List ℕ) → 0 < n → length (b ∷ bytes) ≤ suc k → length (drop n (b ∷ bytes)) ≤ k
shorter n k b bytes p l = let size : length (drop n (b ∷ bytes)) ≡ length (b ∷ bytes) - n = length-drop n (b ∷ bytes) in omega arith

-- the same rest, where it is so for all that is shorter
module _ (k b : ℕ) (bytes r t : List ℕ) (ns us : List (List ℕ)) (l : length (b ∷ bytes) ≤ suc k)
    (go : (more : List ℕ) (ns us : List (List ℕ)) → length more ≤ k → NextOf more r ns → NextOf more t us → r ≡ t) where
  same_rest : (x y u : Bool) (w : Option (TokenKind × ℕ)) → is_quote b ≡ u → word_in_front (b ∷ bytes) ≡ w → Next b bytes r ns x y u w → Next b bytes t us x y u w → r ≡ t
  same_rest true y u w eu ew d e = go bytes ns us (omega arith) (next d) (next e)
  same_rest false true u w eu ew d e = sym d.0 ∙ e.0
  same_rest false false true w eu ew (more, ms, vs, is, c, d) (other_more, ks, zs, at, a, e) =
      let same : other_more ≡ more = ap (λ x. x.0) (same_Some _ _ (sym (text_read a eu) ∙ text_read c eu)) in
      let at = closes_ends c in
      let size : length more ≡ length bytes - at.0 = ap length (sym at.2) ∙ length-drop at.0 bytes in
      go more vs zs (omega arith) (next d) (subst (λ x. NextOf x t zs) same (next e))
  same_rest false false false None eu ew d e = go bytes ns us (omega arith) (next d) (next e)
  same_rest false false false (Some w) eu ew (vs, is, d) (zs, at, e) = go (drop w.1 (b ∷ bytes)) vs zs (shorter w.1 k b bytes (longest_in_front (b ∷ bytes) w ew).1 l) (next d) (next e)

ends : (k : ℕ) (bytes r t : List ℕ) (ns us : List (List ℕ)) → length bytes ≤ k → NextOf bytes r ns → NextOf bytes t us → r ≡ t
ends k [] r t ns us l h g = absurd h
ends zero (b ∷ bytes) r t ns us l h g = absurd (omega arith)
ends (suc k) (b ∷ bytes) r t ns us l h g =
    same_rest k b bytes r t ns us l (λ more vs zs m d e. ends k more r t vs zs m d e) (b == space) (b == backquote) (is_quote b) (word_in_front (b ∷ bytes)) refl refl h g

pub one_end : {bytes r t : List ℕ} {ns us : List (List ℕ)} → Converts bytes r ns → Converts bytes t us → r ≡ t
one_end {bytes = bytes} {r = r} {t = t} {ns = ns} {us = us} d e = ends (length bytes) bytes r t ns us (omega arith) (next d) (next e)
