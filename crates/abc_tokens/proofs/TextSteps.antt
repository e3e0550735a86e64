-- The steps of reading within a text.
use Rattle.std.proofs.Common.{◌≡◌, ℕ, zero, suc, ◌-◌, ◌<◌, Bool, true, false, cond, List, [], ◌∷◌, ◌++◌, length, drop, get_or, Some, None, refl, ap, sym, ◌∙◌, subst, arith, inl, inr, ◌⊎◌, eqb-true, eq-eqb}
use Rattle.std.specs.Prelude.{◌==◌}
use Rattle.std.proofs.lemmas.List.{append-nil}
use Rattle.std.proofs.lemmas.Bool.{ne_eqb}
use Rattle.abc_tokens.specs.declared.texts.Step.{Step}
use Rattle.abc_tokens.specs.declared.texts.Turn.TheVariants.{Stays, Converts, Returns, Opens, Closes}
use Rattle.abc_tokens.specs.Bytes.{is_quote, space, backslash, backquote, begins}
use Rattle.abc_tokens.specs.Scanned.{Ending, ending, behind_text, at_word, word_in_front}
use Rattle.abc_tokens.specs.inner.Reading.{step_of, resumed, turned, IsStep, IsWordStep}
use Rattle.abc_tokens.proofs.Judging.{Judges-nil}

-- passing over bytes
pub ending_skip : (bytes : List ℕ) (n : ℕ) (inside : Bool) (quotes : List ℕ) (ns : List (List ℕ))
    → ending bytes n inside quotes ns ≡ ending (drop n bytes) 0 inside quotes ns
unfolding ending
ending_skip [] zero inside quotes ns = refl
ending_skip [] (suc n) inside quotes ns = refl
ending_skip (b ∷ bytes) zero inside quotes ns = refl
ending_skip (b ∷ bytes) (suc n) inside quotes ns = ending_skip bytes n inside quotes ns

module _ (b q : ℕ) (rest quotes : List ℕ) where
  -- what reading on gives by the four tests
  abbrev pub table : (x y z w : Bool) (ns : List (List ℕ)) → Ending
  table x y z w ns = cond x (cond y (ending rest 1 true (q ∷ quotes) ns) (behind_text (ending rest) rest quotes ns))
      (cond z (cond w (ending rest 1 true (q ∷ quotes) ns) (ending rest 0 false (q ∷ quotes) ns)) (ending rest 0 true (q ∷ quotes) ns))

  pub by_table : (x y z w : Bool) (ns : List (List ℕ)) → (b == q) ≡ x → begins (λ c. c == q) rest ≡ y → (b == backquote) ≡ z → begins (λ c. c == backquote) rest ≡ w
      → ending (b ∷ rest) 0 true (q ∷ quotes) ns ≡ table x y z w ns
  unfolding ending
  by_table x y z w ns ex ey ez ew =
      ap (λ x. table x (begins (λ c. c == q) rest) (b == backquote) (begins (λ c. c == backquote) rest) ns) ex
      ∙ ap (λ y. table x y (b == backquote) (begins (λ c. c == backquote) rest) ns) ey
      ∙ ap (λ z. table x y z (begins (λ c. c == backquote) rest) ns) ez
      ∙ ap (λ w. table x y z w ns) ew

  abbrev pub stays : (b == q) ≡ false → (b == backquote) ≡ false → IsStep (b ∷ rest) true (q ∷ quotes) (step_of Stays 1)
  stays x z = record { further = omega arith; within = omega arith; same = ([], Judges-nil, λ ns. by_table false _ false _ ns x refl z refl ∙ ap (ending rest 0 true (q ∷ quotes)) (sym (append-nil ns))) }

  abbrev pub closes : (b == q) ≡ true → begins (λ c. c == q) rest ≡ false → IsStep (b ∷ rest) true (q ∷ quotes) (step_of Closes 1)
  closes x y = record { further = omega arith; within = omega arith; same = ([], Judges-nil, λ ns. by_table true false _ _ ns x y refl refl ∙ behind quotes ns) }
    where
      behind : (qs : List ℕ) (ns : List (List ℕ)) → behind_text (ending rest) rest qs ns ≡ resumed rest false qs (ns ++ [])
      behind [] ns = ap (λ ms. Some (rest, ms)) (sym (append-nil ns))
      behind (p ∷ qs) ns = ap (ending rest 0 false (p ∷ qs)) (sym (append-nil ns))

  abbrev pub converts : (b == q) ≡ false → (b == backquote) ≡ true → begins (λ c. c == backquote) rest ≡ false → IsStep (b ∷ rest) true (q ∷ quotes) (step_of Converts 1)
  converts x z w = record { further = omega arith; within = omega arith; same = ([], Judges-nil, λ ns. by_table false _ true false ns x refl z w ∙ ap (ending rest 0 false (q ∷ quotes)) (sym (append-nil ns))) }

module _ (b c q : ℕ) (rest quotes : List ℕ) where
  pub past : (ns : List (List ℕ)) → ending (c ∷ rest) 1 true (q ∷ quotes) ns ≡ ending rest 0 true (q ∷ quotes) (ns ++ [])
  past ns = ending_skip (c ∷ rest) 1 true (q ∷ quotes) ns ∙ ap (ending rest 0 true (q ∷ quotes)) (sym (append-nil ns))

  -- the second of two marks is passed over
  pub mark_passed : (c == b) ≡ true → (b ≡ q) ⊎ (b ≡ backquote) → (x : Bool) → (b == q) ≡ x → (ns : List (List ℕ)) → ending (b ∷ c ∷ rest) 0 true (q ∷ quotes) ns ≡ ending (c ∷ rest) 1 true (q ∷ quotes) ns
  mark_passed e is true ex ns = by_table b q (c ∷ rest) quotes true true _ _ ns ex (subst (λ d. (c == d) ≡ true) (eqb-true b q ex) e) refl refl
  mark_passed e (inl h) false ex ns = let t : (b == q) ≡ true = eq-eqb b q h in cc
  mark_passed e (inr h) false ex ns = by_table b q (c ∷ rest) quotes false _ true true ns ex refl (eq-eqb b backquote h) (subst (λ d. (c == d) ≡ true) h e)

  abbrev pub doubled : (c == b) ≡ true → (b ≡ q) ⊎ (b ≡ backquote) → IsStep (b ∷ c ∷ rest) true (q ∷ quotes) (step_of Stays 2)
  doubled e is = record { further = omega arith; within = omega arith; same = ([], Judges-nil, λ ns. mark_passed e is (b == q) refl ns ∙ past ns) }

module _ (b q : ℕ) (rest quotes : List ℕ) where
  abbrev pub conversion_table : (s c k u : Bool) (ns : List (List ℕ)) → Ending
  conversion_table s c k u ns = cond s (ending rest 0 false (q ∷ quotes) ns) (cond c None (cond k (ending rest 0 true (q ∷ quotes) ns)
      (cond u (ending rest 0 true (b ∷ q ∷ quotes) ns) (at_word (ending rest) (b ∷ rest) (word_in_front (b ∷ rest)) (q ∷ quotes) ns))))

  pub by_conversion : (s c k u : Bool) (ns : List (List ℕ)) → (b == space) ≡ s → (b == backslash) ≡ c → (b == backquote) ≡ k → is_quote b ≡ u
      → ending (b ∷ rest) 0 false (q ∷ quotes) ns ≡ conversion_table s c k u ns
  unfolding ending
  by_conversion s c k u ns es ec ek eu =
      ap (λ s. conversion_table s (b == backslash) (b == backquote) (is_quote b) ns) es
      ∙ ap (λ c. conversion_table s c (b == backquote) (is_quote b) ns) ec
      ∙ ap (λ k. conversion_table s c k (is_quote b) ns) ek
      ∙ ap (λ u. conversion_table s c k u ns) eu

  abbrev pub blank : (b == space) ≡ true → IsStep (b ∷ rest) false (q ∷ quotes) (step_of Stays 1)
  blank s = record { further = omega arith; within = omega arith; same = ([], Judges-nil, λ ns. by_conversion true _ _ _ ns s refl refl refl ∙ ap (ending rest 0 false (q ∷ quotes)) (sym (append-nil ns))) }

  abbrev pub returns : (b == space) ≡ false → (b == backslash) ≡ false → (b == backquote) ≡ true → IsStep (b ∷ rest) false (q ∷ quotes) (step_of Returns 1)
  returns s c k = record { further = omega arith; within = omega arith; same = ([], Judges-nil, λ ns. by_conversion false false true _ ns s c k refl ∙ ap (ending rest 0 true (q ∷ quotes)) (sym (append-nil ns))) }

  abbrev pub opens : (b == space) ≡ false → (b == backslash) ≡ false → (b == backquote) ≡ false → is_quote b ≡ true → IsStep (b ∷ rest) false (q ∷ quotes) (step_of (Opens b) 1)
  opens s c k u = record { further = omega arith; within = omega arith; same = ([], Judges-nil, λ ns. by_conversion false false false true ns s c k u ∙ ap (ending rest 0 true (b ∷ q ∷ quotes)) (sym (append-nil ns))) }

  abbrev pub words : (step : Step) → (b == space) ≡ false → (b == backslash) ≡ false → (b == backquote) ≡ false → is_quote b ≡ false → IsWordStep (b ∷ rest) step → IsStep (b ∷ rest) false (q ∷ quotes) step
  words step s c k u w = record {
    further = w.further;
    within = w.within;
    same = (
      w.same.0,
      w.same.1,
      λ ns.
          by_conversion false false false false ns s c k u ∙ w.same.2 (q ∷ quotes) ns
          ∙ ap (λ t. turned t (drop step.length (b ∷ rest)) false (q ∷ quotes) (ns ++ w.same.0)) (sym w.stays),
    );
  }

-- the same by the first of some bytes
abbrev pub first : List ℕ → ℕ
first bytes = get_or bytes 0 0

pub text_stays : (bytes : List ℕ) (q : ℕ) (quotes : List ℕ) → 0 < length bytes → (first bytes ≡ q → ⊥) → (first bytes ≡ backquote → ⊥)
    → IsStep bytes true (q ∷ quotes) (step_of Stays 1)
text_stays [] q quotes l n m = absurd (omega arith)
text_stays (b ∷ rest) q quotes l n m = stays b q rest quotes (ne_eqb b q n) (ne_eqb b backquote m)

pub text_doubled : (bytes : List ℕ) (q : ℕ) (quotes : List ℕ) → 0 < length bytes → begins (λ c. c == first bytes) (drop 1 bytes) ≡ true
    → (first bytes ≡ q) ⊎ (first bytes ≡ backquote) → IsStep bytes true (q ∷ quotes) (step_of Stays 2)
text_doubled [] q quotes l d is = absurd (omega arith)
text_doubled (b ∷ []) q quotes l d is = cc
text_doubled (b ∷ c ∷ rest) q quotes l d is = doubled b c q rest quotes d is

pub text_closes : (bytes : List ℕ) (q : ℕ) (quotes : List ℕ) → 0 < length bytes → begins (λ c. c == first bytes) (drop 1 bytes) ≡ false
    → first bytes ≡ q → IsStep bytes true (q ∷ quotes) (step_of Closes 1)
text_closes [] q quotes l d is = absurd (omega arith)
text_closes (b ∷ rest) q quotes l d is = closes b q rest quotes (eq-eqb b q is) (subst (λ e. begins (λ c. c == e) rest ≡ false) is d)

pub text_converts : (bytes : List ℕ) (q : ℕ) (quotes : List ℕ) → 0 < length bytes → begins (λ c. c == first bytes) (drop 1 bytes) ≡ false
    → (first bytes ≡ q → ⊥) → first bytes ≡ backquote → IsStep bytes true (q ∷ quotes) (step_of Converts 1)
text_converts [] q quotes l d n is = absurd (omega arith)
text_converts (b ∷ rest) q quotes l d n is = converts b q rest quotes (ne_eqb b q n) (eq-eqb b backquote is) (subst (λ e. begins (λ c. c == e) rest ≡ false) is d)

-- a word of n bytes
pub word_step : (bytes : List ℕ) (n : ℕ) (quotes : List ℕ) (ms : List (List ℕ)) → 0 < n → ending (drop 1 bytes) (n - 1) false quotes ms ≡ ending (drop n bytes) 0 false quotes ms
word_step [] n quotes ms p = ending_skip [] (n - 1) false quotes ms ∙ ap (λ bs. ending bs 0 false quotes ms) (none (n - 1) ∙ sym (none n))
  where
    none : (n : ℕ) → drop {A = ℕ} n [] ≡ []
    none zero = refl
    none (suc n) = refl
word_step (b ∷ rest) zero quotes ms p = absurd (omega arith)
word_step (b ∷ rest) (suc n) quotes ms p = let e : suc n - 1 ≡ n = omega arith in
    ap (λ k. ending rest k false quotes ms) e ∙ ending_skip rest n false quotes ms
