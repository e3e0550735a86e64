-- Readers and what they read: what was read is spelled so, and what is spelled so is read, whatever follows.
use Rattle.std.proofs.Common.{◌≡◌, ℕ, zero, suc, ◌+◌, ◌^◌, ◌<◌, ◌≤◌, Bool, true, false, cond, ltb, List, [], ◌∷◌, ◌++◌, length, get_or, take, drop, Option, Some, None, refl, sym, ap, subst, ◌∙◌, append_assoc, arith, inl, inr}
use Rattle.std.specs.Int.{Width, w32, w64, byte_len, from_be_bytes, to_be_bytes}
use Rattle.std.specs.List.{flat_map, AllByRecursion}
use Rattle.std.proofs.lemmas.Bool.{cases_lt, ltb-false, le-ltb}
use Rattle.std.proofs.lemmas.List.{take_at, drop_at, take-append-drop, length-append, length-take, get_or-drop, get_or-take, get_or_past}
use Rattle.std.proofs.lemmas.List.Concat.{flat_map-cons}
use Rattle.std.proofs.lemmas.Nat.{be_bytes_4, be_bytes_8, from_be_bytes-to_be_bytes_4, from_be_bytes-to_be_bytes_8}
use Rattle.abc_record.specs.Bytes.{in_four, in_eight, spelled_text}
use Rattle.abc_record.specs.inner.Reading.{Found, ◌>>=◌, only, number_at, four_of, eight_of, counted_of, times}

abbrev pub IsBytes : List ℕ → Type 0
IsBytes bytes = (i : ℕ) → get_or bytes i 0 < 256

IsBytes-drop : (n : ℕ) (bytes : List ℕ) → IsBytes bytes → IsBytes (drop n bytes)
IsBytes-drop n bytes h i = rw get_or-drop (h (n + i))

IsBytes-take : (n : ℕ) (bytes : List ℕ) → IsBytes bytes → IsBytes (take n bytes)
IsBytes-take n bytes h i =
    elim (cases_lt i n) [
      | inl lt ↦ rw (get_or-take n bytes i 0 lt) (h i)
      | inr le ↦ rw (get_or_past (take n bytes) i 0 (omega (arith, length-take n bytes))) (omega arith)
    ]

pub IsBytes-rest : (b : ℕ) (bytes : List ℕ) → IsBytes (b ∷ bytes) → IsBytes bytes
IsBytes-rest b bytes h i = h (suc i)

-- the value of a step that did not fail
pub bind_some : {A B : Type 0} (r : Option A) (f : A → Option B) (y : B) → (r >>= f) ≡ Some y → (x : A) × (r ≡ Some x) × (f x ≡ Some y)
bind_some (Some x) f y e = (x, refl, e)
bind_some None f y e = absurd cc

-- a test that did not fail
pub not_refused : {A : Type 0} (b : Bool) (x : Option A) (y : A) → cond b None x ≡ Some y → (b ≡ false) × (x ≡ Some y)
not_refused true x y e = absurd cc
not_refused false x y e = (refl, e)

pub is_passed : {A : Type 0} (b : Bool) (x : Option A) (y : A) → cond b x None ≡ Some y → (b ≡ true) × (x ≡ Some y)
is_passed true x y e = (refl, e)
is_passed false x y e = absurd cc

abbrev found : {A : Type 0} → A → Option A
found x = Some x

pub some_is : {A : Type 0} (x y : A) → found x ≡ found y → x ≡ y
some_is x y e = cc

-- what a reader took from the front
pub record Takes (bytes text rest : List ℕ) : Type 0 where
  pub parts : bytes ≡ text ++ rest
  pub rest_fits : IsBytes rest

pub Takes-then : (a x b y c : List ℕ) → Takes a x b → Takes b y c → Takes a (x ++ y) c
Takes-then a x b y c p q = record { parts = p.parts ∙ ap (λ (t : List ℕ). x ++ t) q.parts ∙ sym (append_assoc x y c); rest_fits = q.rest_fits }

pub Takes-tag : (tag : ℕ) (a x b : List ℕ) → Takes a x b → Takes (tag ∷ a) (tag ∷ x) b
Takes-tag tag a x b p = record { parts = ap (λ (t : List ℕ). tag ∷ t) p.parts; rest_fits = p.rest_fits }

-- a reader of what is kept and spelled so
pub record Reads {A : Type 0} (Kept : A → Type 0) (spell : A → List ℕ) (read : List ℕ → Found A) : Type 0 where
  pub takes : (bytes rest : List ℕ) (x : A) → IsBytes bytes → read bytes ≡ Some (x, rest) → Takes bytes (spell x) rest × Kept x
  pub again : (x : A) (rest : List ℕ) → Kept x → read (spell x ++ rest) ≡ Some (x, rest)

-- ---- numbers

record IsWide (w : Width) (limit : ℕ) : Type 0 where
  pub len : (n : ℕ) → length (to_be_bytes w n) ≡ byte_len w
  pub back : (bytes : List ℕ) → length bytes ≡ byte_len w → IsBytes bytes → to_be_bytes w (from_be_bytes w bytes) ≡ bytes
  pub again : (n : ℕ) → n < limit → from_be_bytes w (to_be_bytes w n) ≡ n
  pub below : (bytes : List ℕ) → IsBytes bytes → from_be_bytes w bytes < limit

wide32 : IsWide w32 (2 ^ 32)
wide32 = record {
  len = λ n. refl;
  back = λ bytes len fits. be_bytes_4 bytes _ len fits refl;
  again = λ n lt. from_be_bytes-to_be_bytes_4 n lt;
  below = λ bytes fits. omega (arith, fits 0, fits 1, fits 2, fits 3);
}

wide64 : IsWide w64 (2 ^ 64)
wide64 = record {
  len = λ n. refl;
  back = λ bytes len fits. be_bytes_8 bytes _ len fits refl;
  again = λ n lt. from_be_bytes-to_be_bytes_8 n lt;
  below = λ bytes fits. omega (arith, fits 0, fits 1, fits 2, fits 3, fits 4, fits 5, fits 6, fits 7);
}

number_takes : (w : Width) (limit : ℕ) (wide : IsWide w limit) (bytes rest : List ℕ) (n : ℕ) → IsBytes bytes → number_at w bytes ≡ Some (n, rest) → Takes bytes (to_be_bytes w n) rest × (n < limit)
number_takes w limit wide bytes rest n fits e =
    let g = not_refused (ltb (length bytes) (byte_len w)) (Some (from_be_bytes w (take (byte_len w) bytes), drop (byte_len w) bytes)) (n, rest) e in
    let same = some_is (from_be_bytes w (take (byte_len w) bytes), drop (byte_len w) bytes) (n, rest) g.1 in
    let long : byte_len w ≤ length bytes = ltb-false _ _ g.0 in
    let n-is : from_be_bytes w (take (byte_len w) bytes) ≡ n = ap (λ (p : ℕ × List ℕ). p.0) same in
    let rest-is : drop (byte_len w) bytes ≡ rest = ap (λ (p : ℕ × List ℕ). p.1) same in
    let front : to_be_bytes w n ≡ take (byte_len w) bytes = rw (← n-is) (wide.back (take (byte_len w) bytes) (omega (arith, length-take (byte_len w) bytes)) (IsBytes-take (byte_len w) bytes fits)) in
    (record { parts = rw (front, ← rest-is) (sym (take-append-drop (byte_len w) bytes)); rest_fits = rw (← rest-is) (IsBytes-drop (byte_len w) bytes fits) }, rw (← n-is) (wide.below (take (byte_len w) bytes) (IsBytes-take (byte_len w) bytes fits)))

number_again : (w : Width) (limit : ℕ) (wide : IsWide w limit) (n : ℕ) (rest : List ℕ) → n < limit → number_at w (to_be_bytes w n ++ rest) ≡ Some (n, rest)
number_again w limit wide n rest lt =
    let len = wide.len n in
    let long : ltb (length (to_be_bytes w n ++ rest)) (byte_len w) ≡ false = le-ltb _ _ (omega (arith, length-append (to_be_bytes w n) rest)) in
    rw (long, take_at (to_be_bytes w n) rest (byte_len w) len, drop_at (to_be_bytes w n) rest (byte_len w) len, wide.again n lt) refl

pub four_reads : Reads (λ n. n < 2 ^ 32) in_four four_of
unfolding in_four four_of
four_reads = record {
  takes = λ bytes rest n fits e. number_takes w32 (2 ^ 32) wide32 bytes rest n fits e;
  again = λ n rest lt. number_again w32 (2 ^ 32) wide32 n rest lt;
}

pub eight_reads : Reads (λ n. n < 2 ^ 64) in_eight eight_of
unfolding in_eight eight_of
eight_reads = record {
  takes = λ bytes rest n fits e. number_takes w64 (2 ^ 64) wide64 bytes rest n fits e;
  again = λ n rest lt. number_again w64 (2 ^ 64) wide64 n rest lt;
}

-- ---- counted bytes

counted_takes : (bytes rest text : List ℕ) → IsBytes bytes → counted_of bytes ≡ Some (text, rest) → Takes bytes (spelled_text text) rest × (length text < 2 ^ 32)
unfolding counted_of spelled_text
counted_takes bytes rest text fits e =
    let b = bind_some (four_of bytes) (λ n. cond (ltb (length n.1) n.0) None (Some (take n.0 n.1, drop n.0 n.1))) (text, rest) e in
    let n = b.0 in
    let t = four_reads.takes bytes n.1 n.0 fits b.1 in
    let g = not_refused (ltb (length n.1) n.0) (Some (take n.0 n.1, drop n.0 n.1)) (text, rest) b.2 in
    let long : n.0 ≤ length n.1 = ltb-false _ _ g.0 in
    let len : length (take n.0 n.1) ≡ n.0 = omega (arith, length-take n.0 n.1) in
    let second : Takes n.1 (take n.0 n.1) (drop n.0 n.1) = record { parts = sym (take-append-drop n.0 n.1); rest_fits = IsBytes-drop n.0 n.1 t.0.rest_fits } in
    let both = Takes-then bytes (in_four n.0) n.1 (take n.0 n.1) (drop n.0 n.1) t.0 second in
    let whole : Takes bytes (spelled_text (take n.0 n.1)) (drop n.0 n.1) = subst (λ (k : ℕ). Takes bytes (in_four k ++ take n.0 n.1) (drop n.0 n.1)) (sym len) both in
    subst (λ (p : List ℕ × List ℕ). Takes bytes (spelled_text p.0) p.1 × (length p.0 < 2 ^ 32)) (some_is (take n.0 n.1, drop n.0 n.1) (text, rest) g.1) (whole, omega (arith, t.1))

counted_again : (text rest : List ℕ) → length text < 2 ^ 32 → counted_of (spelled_text text ++ rest) ≡ Some (text, rest)
unfolding counted_of spelled_text
counted_again text rest lt =
    let regrouped : spelled_text text ++ rest ≡ in_four (length text) ++ (text ++ rest) = append_assoc (in_four (length text)) text rest in
    let long : ltb (length (text ++ rest)) (length text) ≡ false = le-ltb _ _ (omega (arith, length-append text rest)) in
    ap counted_of regrouped ∙ rw (four_reads.again (length text) (text ++ rest) lt, long, take_at text rest (length text) refl, drop_at text rest (length text) refl) refl

pub counted_reads : Reads (λ text. length text < 2 ^ 32) spelled_text counted_of
counted_reads = record { takes = counted_takes; again = counted_again }

-- ---- tests

module _ {A : Type 0} (Kept : A → Type 0) (spell : A → List ℕ) (read : List ℕ → Found A) (reads : Reads Kept spell read) (test : A → Bool) where
  only_takes : (bytes rest : List ℕ) (x : A) → IsBytes bytes → only test (read bytes) ≡ Some (x, rest) → Takes bytes (spell x) rest × ((test x ≡ true) × Kept x)
  only_takes bytes rest x fits e =
      let b = bind_some (read bytes) (λ y. cond (test y.0) (Some y) None) (x, rest) e in
      let g = is_passed (test b.0.0) (Some b.0) (x, rest) b.2 in
      let same : b.0 ≡ (x, rest) = some_is b.0 (x, rest) g.1 in
      let t = reads.takes bytes rest x fits (b.1 ∙ ap (λ (p : A × List ℕ). Some p) same) in
      (t.0, (sym (ap (λ (p : A × List ℕ). test p.0) same) ∙ g.0, t.1))

  only_again : (x : A) (rest : List ℕ) → (test x ≡ true) × Kept x → only test (read (spell x ++ rest)) ≡ Some (x, rest)
  only_again x rest h = rw (reads.again x rest h.1, h.0) refl

  pub only_reads : Reads (λ x. (test x ≡ true) × Kept x) spell (λ bytes. only test (read bytes))
  only_reads = record { takes = only_takes; again = only_again }

-- ---- so many of a kind

module _ {A : Type 0} (Kept : A → Type 0) (spell : A → List ℕ) (one : List ℕ → Found A) (reads : Reads Kept spell one) where
  pub times_takes : (n : ℕ) (bytes rest : List ℕ) (xs : List A) → IsBytes bytes → times one n bytes ≡ Some (xs, rest) → Takes bytes (flat_map spell xs) rest × (length xs ≡ n) × AllByRecursion Kept xs
  unfolding times
  times_takes zero bytes rest xs fits e =
      subst (λ (y : List A × List ℕ). Takes bytes (flat_map spell y.0) y.1 × (length y.0 ≡ 0) × AllByRecursion Kept y.0) (some_is ([], bytes) (xs, rest) e) (record { parts = refl; rest_fits = fits }, refl, tt)
  times_takes (suc n) bytes rest xs fits e =
      let a = bind_some (one bytes) (λ first. times one n first.1 >>= λ others. Some (first.0 ∷ others.0, others.1)) (xs, rest) e in
      let b = bind_some (times one n a.0.1) (λ others. Some (a.0.0 ∷ others.0, others.1)) (xs, rest) a.2 in
      let first = reads.takes bytes a.0.1 a.0.0 fits a.1 in
      let second = times_takes n a.0.1 b.0.1 b.0.0 first.0.rest_fits b.1 in
      let both = Takes-then bytes (spell a.0.0) a.0.1 (flat_map spell b.0.0) b.0.1 first.0 second.0 in
      let made : List A × List ℕ = (a.0.0 ∷ b.0.0, b.0.1) in
      subst (λ (y : List A × List ℕ). Takes bytes (flat_map spell y.0) y.1 × (length y.0 ≡ suc n) × AllByRecursion Kept y.0) (some_is made (xs, rest) b.2) (rw flat_map-cons both, ap suc second.1, (first.1, second.2))

  pub times_again : (xs : List A) (rest : List ℕ) → AllByRecursion Kept xs → times one (length xs) (flat_map spell xs ++ rest) ≡ Some (xs, rest)
  unfolding times
  times_again [] rest fits = refl
  times_again (x ∷ xs) rest fits =
      let regrouped : flat_map spell (x ∷ xs) ++ rest ≡ spell x ++ (flat_map spell xs ++ rest) = ap (λ (y : List ℕ). y ++ rest) (flat_map-cons spell x xs) ∙ append_assoc (spell x) (flat_map spell xs) rest in
      ap (times one (suc (length xs))) regrouped ∙ rw (reads.again x (flat_map spell xs ++ rest) fits.0, times_again xs rest fits.1) refl

  -- their count in front
  abbrev pub spell_several : List A → List ℕ
  spell_several xs = in_four (length xs) ++ flat_map spell xs

  several_takes : (bytes rest : List ℕ) (xs : List A) → IsBytes bytes → (four_of bytes >>= λ n. times one n.0 n.1) ≡ Some (xs, rest) → Takes bytes (spell_several xs) rest × ((length xs < 2 ^ 32) × AllByRecursion Kept xs)
  several_takes bytes rest xs fits e =
      let a = bind_some (four_of bytes) (λ n. times one n.0 n.1) (xs, rest) e in
      let first = four_reads.takes bytes a.0.1 a.0.0 fits a.1 in
      let second = times_takes a.0.0 a.0.1 rest xs first.0.rest_fits a.2 in
      let both = Takes-then bytes (in_four a.0.0) a.0.1 (flat_map spell xs) rest first.0 second.0 in
      (subst (λ (k : ℕ). Takes bytes (in_four k ++ flat_map spell xs) rest) (sym second.1) both, (omega (arith, first.1, second.1), second.2))

  several_again : (xs : List A) (rest : List ℕ) → (length xs < 2 ^ 32) × AllByRecursion Kept xs → (four_of (spell_several xs ++ rest) >>= λ n. times one n.0 n.1) ≡ Some (xs, rest)
  several_again xs rest h =
      let regrouped : spell_several xs ++ rest ≡ in_four (length xs) ++ (flat_map spell xs ++ rest) = append_assoc (in_four (length xs)) (flat_map spell xs) rest in
      ap (λ (b : List ℕ). four_of b >>= λ n. times one n.0 n.1) regrouped ∙ rw (four_reads.again (length xs) (flat_map spell xs ++ rest) h.0) (times_again xs rest h.1)

  pub several_reads : Reads (λ xs. (length xs < 2 ^ 32) × AllByRecursion Kept xs) spell_several (λ bytes. four_of bytes >>= λ n. times one n.0 n.1)
  several_reads = record { takes = several_takes; again = several_again }
