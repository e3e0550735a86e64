-- What was asked, call after call.
use Rattle.std.proofs.Common.{◌≡◌, ◌≤◌, ℕ, suc, Bool, true, false, List, [], ◌∷◌, ◌++◌, refl, sym, ◌∙◌, ap, subst, append_assoc, arith}
use Rattle.std.proofs.lemmas.List.{append-nil}
use Rattle.std.specs.List.{AllByRecursion}
use Rattle.abc_num.proofs.Parts.{each_weaker}
use Rattle.abc_reader.specs.Asking.{Asked, AsksNow, Rises, AskedRising, next_ask}
use Rattle.abc_reader.specs.inner.LineReading.{WantsLine, AsksLine}

all-append : (P : ℕ × ℕ → Type 0) (xs ys : List (ℕ × ℕ)) → AllByRecursion P xs → AllByRecursion P ys → AllByRecursion P (xs ++ ys)
all-append P [] ys p q = q
all-append P (x ∷ xs) ys p q = (p.0, all-append P xs ys p.1 q)

pub none_asked : (P : ℕ × ℕ → Type 0) (old : List (ℕ × ℕ)) → Asked P old old
none_asked P old = record { extra = []; is = sym (append-nil old); each = tt }

pub asked_weaker : (P Q : ℕ × ℕ → Type 0) (old new : List (ℕ × ℕ)) → ((x : ℕ × ℕ) → P x → Q x) → Asked P old new → Asked Q old new
asked_weaker P Q old new f p = record { extra = p.extra; is = p.is; each = each_weaker P Q f p.extra p.each }

pub asked_then : (P : ℕ × ℕ → Type 0) (a b c : List (ℕ × ℕ)) → Asked P a b → Asked P b c → Asked P a c
asked_then P a b c p q = record {
  extra = p.extra ++ q.extra;
  is = q.is ∙ ap (λ (l : List (ℕ × ℕ)). l ++ q.extra) p.is ∙ append_assoc a p.extra q.extra;
  each = all-append P p.extra q.extra p.each q.each;
}

-- a read where no whole line is in hand
pub asks_more : (pending left : List ℕ) (taken spoken taken_now spoken_now : ℕ) (a b c : List (ℕ × ℕ)) → WantsLine pending left taken taken_now → spoken_now ≡ spoken
    → Asked (AsksLine pending left taken spoken) a b → Asked (AsksNow taken_now spoken_now) b c → Asked (AsksLine pending left taken spoken) a c
asks_more pending left taken spoken taken_now spoken_now a b c wants same so_far now =
    asked_then (AsksLine pending left taken spoken) a b c so_far
    (asked_weaker (AsksNow taken_now spoken_now) (AsksLine pending left taken spoken) b c (λ x ask. ((wants.0, ask.0 ∙ wants.1, wants.2, wants.3), ask.1 ∙ same)) now)

-- rising counts
rises-lower : (a b c : ℕ) (xs : List (ℕ × ℕ)) → a ≤ b → Rises b c xs → Rises a c xs
rises-lower a b c [] le p = omega (arith, le, p)
rises-lower a b c (x ∷ xs) le p = (omega (arith, le, p.0), p.1)

rises-then : (a b c : ℕ) (xs ys : List (ℕ × ℕ)) → Rises a b xs → Rises b c ys → Rises a c (xs ++ ys)
rises-then a b c [] ys p q = rises-lower a b c ys p q
rises-then a b c (x ∷ xs) ys p q = (p.0, rises-then (suc x.0) b c xs ys p.1 q)

rises-raise : (a b c : ℕ) (xs : List (ℕ × ℕ)) → b ≤ c → Rises a b xs → Rises a c xs
rises-raise a b c [] le p = omega (arith, le, p)
rises-raise a b c (x ∷ xs) le p = (p.0, rises-raise (suc x.0) b c xs le p.1)

pub none_rising : (a : ℕ) (old : List (ℕ × ℕ)) → AskedRising a a old old
none_rising a old = record { extra = []; is = sym (append-nil old); rises = omega arith }

pub rising_then : (a b c : ℕ) (old mid new : List (ℕ × ℕ)) → AskedRising a b old mid → AskedRising b c mid new → AskedRising a c old new
rising_then a b c old mid new p q = record {
  extra = p.extra ++ q.extra;
  is = q.is ∙ ap (λ (l : List (ℕ × ℕ)). l ++ q.extra) p.is ∙ append_assoc old p.extra q.extra;
  rises = rises-then a b c p.extra q.extra p.rises q.rises;
}

rising_raise : (a b c : ℕ) (old new : List (ℕ × ℕ)) → b ≤ c → AskedRising a b old new → AskedRising a c old new
rising_raise a b c old new le p = record { extra = p.extra; is = p.is; rises = rises-raise a b c p.extra le p.rises }

next_most : (taken : ℕ) (ended : Bool) → next_ask taken ended ≤ suc taken
next_most taken true = omega arith
next_most taken false = omega arith

next_open : (taken : ℕ) (ended : Bool) → ended ≡ false → next_ask taken ended ≡ taken
next_open taken true is = absurd (cc is)
next_open taken false is = refl

-- a read more, where the input has not ended
pub rising_read : (a taken taken_mid b : ℕ) (ended ended_mid : Bool) (old mid new : List (ℕ × ℕ)) → taken_mid ≡ taken → ended_mid ≡ ended → ended_mid ≡ false
    → AskedRising a (next_ask taken ended) old mid → AskedRising taken_mid b mid new → AskedRising a b old new
rising_read a taken taken_mid b ended ended_mid old mid new same same_ended going p q =
    let e : next_ask taken ended ≡ taken_mid = next_open taken ended (sym same_ended ∙ going) ∙ sym same in
    rising_then a taken_mid b old mid new (subst (λ n. AskedRising a n old mid) e p) q

-- at the end of a session
pub rising_ends : (a taken taken_now : ℕ) (ended : Bool) (old new : List (ℕ × ℕ)) → taken_now ≡ taken → AskedRising a (next_ask taken ended) old new → AskedRising a (suc taken_now) old new
rising_ends a taken taken_now ended old new same p = rising_raise a (next_ask taken ended) (suc taken_now) old new (omega (arith, next_most taken ended, same)) p
