-- The parts of a text that are computed are those that it has.
use Rattle.std.proofs.Common.{◌≡◌, ◌⊎◌, inl, inr, ℕ, zero, suc, ◌+◌, ◌≤◌, ◌<◌, Bool, true, false, ◌&&◌, List, [], ◌∷◌, ◌++◌, length, drop, Option, Some, None, refl, ap, sym, ◌∙◌, subst, arith, eqb-true, eq-eqb, length-append}
use Rattle.std.specs.Prelude.{◌==◌, if◌then◌else◌}
use Rattle.std.proofs.lemmas.Bool.{ne_eqb, eqb-false, cases_lt, and_parts}
use Rattle.std.proofs.lemmas.List.{append_assoc, append-nil}
use Rattle.abc_tokens.specs.declared.kinds.Token.{Token}
use Rattle.abc_tokens.specs.Bytes.{backquote, begins}
use Rattle.abc_expressions.specs.declared.texts.Part.{Part}
use Rattle.abc_expressions.specs.declared.texts.Part.TheVariants as part
use Rattle.abc_expressions.specs.Texts.{with_character, AreBare, IsConversion, Splits, closing, doubled_quote, doubled_backquote, character, conversion}
use Rattle.abc_expressions.specs.inner.Machine.{Splitting, has_bare, conversion_from, before_parts, converted, at_quote, at_backquote, split}
use Rattle.abc_tokens.proofs.Faults.{OneReading}
use Rattle.abc_expressions.proofs.Leaves.{bare_found, bare_told}

-- passing over bytes is dropping them
pub split_skip : (q : ℕ) (bytes : List ℕ) (n : ℕ) → split q bytes n ≡ split q (drop n bytes) 0
unfolding split
split_skip q [] zero = refl
split_skip q [] (suc n) = refl
split_skip q (b ∷ bytes) zero = refl
split_skip q (b ∷ bytes) (suc n) = split_skip q bytes n

-- ---- where a conversion ends

-- lists that begin alike
pub same_front : (xs ys us vs : List ℕ) → xs ++ us ≡ ys ++ vs → length xs ≡ length ys → (xs ≡ ys) × (us ≡ vs)
same_front [] [] us vs h e = (refl, h)
same_front [] (y ∷ ys) us vs h e = absurd (omega arith)
same_front (x ∷ xs) [] us vs h e = absurd (omega arith)
same_front (x ∷ xs) (y ∷ ys) us vs h e =
    let head : x ≡ y = cc in
    let tail : xs ++ us ≡ ys ++ vs = cc in
    let p = same_front xs ys us vs tail (omega arith) in
    (ap (λ z. z ∷ xs) head ∙ ap (λ zs. y ∷ zs) p.0, p.1)

head_is : (x y : ℕ) (xs ys : List ℕ) → x ∷ xs ≡ y ∷ ys → (x ≡ y) × (xs ≡ ys)
head_is x y xs ys h = (cc, cc)

drop_front : (xs ys : List ℕ) (y : ℕ) → drop (length xs + 1) (xs ++ y ∷ ys) ≡ ys
drop_front [] ys y = refl
drop_front (x ∷ xs) ys y = let e : length (x ∷ xs) + 1 ≡ suc (length xs + 1) = omega arith in ap (λ n. drop n (x ∷ (xs ++ y ∷ ys))) e ∙ drop_front xs ys y

-- what a byte gives by the two tests
abbrev pub table : (q b : ℕ) (bytes : List ℕ) (x y : Bool) → Splitting
table q b bytes x y = if x then at_quote q bytes (split q bytes) else (if y then at_backquote bytes (split q bytes) else before_parts (with_character b) (split q bytes 0))

pub by_table : (q b : ℕ) (bytes : List ℕ) (x y : Bool) → (b == q) ≡ x → (b == backquote) ≡ y → split q (b ∷ bytes) 0 ≡ table q b bytes x y
unfolding split
by_table q b bytes x y ex ey = ap (λ x. table q b bytes x (b == backquote)) ex ∙ ap (table q b bytes x) ey

module _ (law : OneReading) where
  found_on : (inner rest : List ℕ) (passed : List ℕ) (b : ℕ) (bytes : List ℕ) → passed ++ b ∷ bytes ≡ inner ++ backquote ∷ rest
      → ((ts : List Token) × AreBare inner ts)
      → ((front more : List ℕ) (ts : List Token) → passed ++ b ∷ bytes ≡ front ++ backquote ∷ more → AreBare front ts → length inner ≤ length front)
      → length passed ≤ length inner → (length passed < length inner → conversion_from (passed ++ b ∷ []) bytes ≡ Some inner)
      → (x : Bool) → ((b == backquote) && has_bare passed) ≡ x → (if x then Some passed else conversion_from (passed ++ b ∷ []) bytes) ≡ Some inner
  found_on inner rest passed b bytes is toks first le ih true e =
      let p = and_parts (b == backquote) (has_bare passed) e in
      let t = bare_told law passed p.1 in
      let q : passed ++ b ∷ bytes ≡ passed ++ backquote ∷ bytes = ap (λ z. passed ++ z ∷ bytes) (eqb-true b backquote p.0) in
      let same : length passed ≡ length inner = omega (arith, first passed bytes t.0 q t.1, le) in
      ap Some (same_front passed inner (b ∷ bytes) (backquote ∷ rest) is same).0
  found_on inner rest passed b bytes is toks first le ih false e = ih (less (cases_lt (length passed) (length inner)))
    where
      at_it : length passed ≡ length inner → ⊥
      at_it same =
          let p = same_front passed inner (b ∷ bytes) (backquote ∷ rest) is same in
          let h = head_is b backquote bytes rest p.1 in
          let t : has_bare passed ≡ true = ap has_bare p.0 ∙ bare_found law inner toks.0 toks.1 in
          let yes : ((b == backquote) && has_bare passed) ≡ true = ap (λ c. c && has_bare passed) (eq-eqb b backquote h.0) ∙ t in
          cc

      less : (length passed < length inner) ⊎ (length inner ≤ length passed) → length passed < length inner
      less (inl l) = l
      less (inr g) = absurd (at_it (omega (arith, le, g)))

  pub conversion_found : (inner rest : List ℕ) (bytes passed : List ℕ) → passed ++ bytes ≡ inner ++ backquote ∷ rest
      → ((ts : List Token) × AreBare inner ts)
      → ((front more : List ℕ) (ts : List Token) → passed ++ bytes ≡ front ++ backquote ∷ more → AreBare front ts → length inner ≤ length front)
      → length passed ≤ length inner → conversion_from passed bytes ≡ Some inner
  unfolding conversion_from
  conversion_found inner rest [] passed is toks first le =
      let size : length passed ≡ length inner + suc (length rest) = ap length (sym (append-nil passed) ∙ is) ∙ length-append inner (backquote ∷ rest) in
      absurd (omega arith)
  conversion_found inner rest (b ∷ bytes) passed is toks first le =
      let shift = append_assoc passed (b ∷ []) bytes in
      found_on inner rest passed b bytes is toks first le
      (λ l. conversion_found inner rest bytes (passed ++ b ∷ []) (shift ∙ is) toks (λ front more ts e t. first front more ts (sym shift ∙ e) t) (omega (arith, length-append passed (b ∷ []))))
      ((b == backquote) && has_bare passed) refl

  told_on : (inner passed : List ℕ) (b : ℕ) (bytes : List ℕ)
      → ((front more : List ℕ) (ts : List Token) → passed ++ b ∷ bytes ≡ front ++ backquote ∷ more → AreBare front ts → length passed ≤ length front)
      → (((front more : List ℕ) (ts : List Token) → passed ++ b ∷ bytes ≡ front ++ backquote ∷ more → AreBare front ts → length passed < length front)
      → conversion_from (passed ++ b ∷ []) bytes ≡ Some inner → (rest : List ℕ) × IsConversion (passed ++ b ∷ bytes) inner rest)
      → (x : Bool) → ((b == backquote) && has_bare passed) ≡ x → (if x then Some passed else conversion_from (passed ++ b ∷ []) bytes) ≡ Some inner
      → (rest : List ℕ) × IsConversion (passed ++ b ∷ bytes) inner rest
  told_on inner passed b bytes first ih true e h =
      let p = and_parts (b == backquote) (has_bare passed) e in
      let same : passed ≡ inner = cc in
      let q : passed ++ b ∷ bytes ≡ passed ++ backquote ∷ bytes = ap (λ z. passed ++ z ∷ bytes) (eqb-true b backquote p.0) in
      (bytes, subst (λ (z : List ℕ). IsConversion (passed ++ b ∷ bytes) z bytes) same (record { is = q; tokens = bare_told law passed p.1; first = first }))
  told_on inner passed b bytes first ih false e h =
      ih (λ front more ts is t. further front more ts is t (cases_lt (length passed) (length front))) h
    where
      further : (front more : List ℕ) (ts : List Token) → passed ++ b ∷ bytes ≡ front ++ backquote ∷ more → AreBare front ts
          → (length passed < length front) ⊎ (length front ≤ length passed) → length passed < length front
      further front more ts is t (inl l) = l
      further front more ts is t (inr g) =
          let same : length passed ≡ length front = omega (arith, first front more ts is t, g) in
          let p = same_front passed front (b ∷ bytes) (backquote ∷ more) is same in
          let h = head_is b backquote bytes more p.1 in
          let t : has_bare passed ≡ true = ap has_bare p.0 ∙ bare_found law front ts t in
          let yes : ((b == backquote) && has_bare passed) ≡ true = ap (λ c. c && has_bare passed) (eq-eqb b backquote h.0) ∙ t in
          cc

  pub conversion_told : (inner : List ℕ) (bytes passed : List ℕ)
      → ((front more : List ℕ) (ts : List Token) → passed ++ bytes ≡ front ++ backquote ∷ more → AreBare front ts → length passed ≤ length front)
      → conversion_from passed bytes ≡ Some inner → (rest : List ℕ) × IsConversion (passed ++ bytes) inner rest
  unfolding conversion_from
  conversion_told inner [] passed first h = cc
  conversion_told inner (b ∷ bytes) passed first h =
      let shift = append_assoc passed (b ∷ []) bytes in
      told_on inner passed b bytes first
      (λ more_first e.
      let q = conversion_told inner bytes (passed ++ b ∷ []) (λ front more ts is t. omega (arith, length-append passed (b ∷ []), more_first front more ts (sym shift ∙ is) t)) e in
      (q.0, subst (λ (z : List ℕ). IsConversion z inner q.0) shift q.1))
      ((b == backquote) && has_bare passed) refl h

  -- ---- the parts are found

  in_conversion : (q : ℕ) (bytes inner rest : List ℕ) (parts : List Part) → begins (λ c. c == backquote) bytes ≡ false → IsConversion bytes inner rest → split q rest 0 ≡ Some parts
      → at_backquote bytes (split q bytes) ≡ Some (part.Conversion inner ∷ parts)
  in_conversion q bytes inner rest parts nb c h =
      ap (λ x. if x then before_parts (with_character backquote) (split q bytes 1) else converted (conversion_from [] bytes) (split q bytes)) nb
      ∙ ap (λ x. converted x (split q bytes)) (conversion_found inner rest bytes [] c.is c.tokens c.first (omega arith))
      ∙ ap (before_parts (λ parts. part.Conversion inner ∷ parts))
      (split_skip q bytes (length inner + 1) ∙ ap (λ z. split q (drop (length inner + 1) z) 0) c.is ∙ ap (λ z. split q z 0) (drop_front inner rest backquote) ∙ h)

  pub split_found : {q : ℕ} {bytes : List ℕ} {parts : List Part} → Splits q bytes parts → split q bytes 0 ≡ Some parts
  unfolding split
  split_found {q = q} closing = by_table q q [] true (q == backquote) (eq-eqb q q refl) refl
  split_found {q = q} (doubled_quote {bytes = bytes} d) =
      by_table q q (q ∷ bytes) true (q == backquote) (eq-eqb q q refl) refl
      ∙ ap (λ c. if c then before_parts (with_character q) (split q bytes 0) else None) (eq-eqb q q refl)
      ∙ ap (before_parts (with_character q)) (split_found d)
  split_found {q = q} (doubled_backquote {bytes = bytes} n d) =
      by_table q backquote (backquote ∷ bytes) false true (ne_eqb backquote q (λ e. n (sym e))) refl
      ∙ ap (before_parts (with_character backquote)) (split_found d)
  split_found {q = q} (character {c = c} {bytes = bytes} n m d) =
      by_table q c bytes false false (ne_eqb c q n) (ne_eqb c backquote m) ∙ ap (before_parts (with_character c)) (split_found d)
  split_found {q = q} (conversion {bytes = bytes} {inner = inner} {rest = rest} {parts = parts} n nb c d) =
      by_table q backquote bytes false true (ne_eqb backquote q (λ e. n (sym e))) refl ∙ in_conversion q bytes inner rest parts nb c (split_found d)

  -- ---- what is found are the parts

  abbrev Reads : ℕ → List ℕ → Type 0
  Reads q bytes = (skip : ℕ) (parts : List Part) → split q bytes skip ≡ Some parts → Splits q (drop skip bytes) parts

  with_parts : (q : ℕ) (here : List ℕ) (add : List Part → List Part) (x : Splitting) (parts : List Part)
      → ((others : List Part) → x ≡ Some others → Splits q here (add others)) → before_parts add x ≡ Some parts → Splits q here parts
  with_parts q here add None parts f h = cc
  with_parts q here add (Some others) parts f h = let same : add others ≡ parts = cc in subst (λ (z : List Part). Splits q here z) same (f others refl)

  module _ (q b : ℕ) (bytes : List ℕ) (ih : Reads q bytes) where
    quote_told : (parts : List Part) → b ≡ q → (rest : List ℕ) → bytes ≡ rest → at_quote q rest (split q bytes) ≡ Some parts → Splits q (b ∷ rest) parts
    quote_told parts is [] e h =
        let same : [] ≡ parts = cc in
        subst (λ (z : List Part). Splits q (b ∷ []) z) same (subst (λ (z : ℕ). Splits q (z ∷ []) []) (sym is) closing)
    quote_told parts is (c ∷ rest) e h = twice (c == q) refl h
      where
        twice : (x : Bool) → (c == q) ≡ x → (if x then before_parts (with_character q) (split q bytes 1) else None) ≡ Some parts → Splits q (b ∷ c ∷ rest) parts
        twice false ex k = cc
        twice true ex k =
            with_parts q (b ∷ c ∷ rest) (with_character q) (split q bytes 1) parts
            (λ others o.
            let d : Splits q rest others = subst (λ (z : List ℕ). Splits q (drop 1 z) others) e (ih 1 others o) in
            subst (λ (z : ℕ). Splits q (z ∷ c ∷ rest) (with_character q others)) (sym is) (subst (λ (z : ℕ). Splits q (q ∷ z ∷ rest) (with_character q others)) (sym (eqb-true c q ex)) (doubled_quote d)))
            k

    not_q : b ≡ backquote → (b == q) ≡ false → q ≡ backquote → ⊥
    not_q is n e = eqb-false b q n (is ∙ sym e)

    backquote_told : (parts : List Part) → b ≡ backquote → (b == q) ≡ false → (x : Bool) (rest : List ℕ) → bytes ≡ rest → begins (λ c. c == backquote) rest ≡ x
        → (if x then before_parts (with_character backquote) (split q bytes 1) else converted (conversion_from [] rest) (split q bytes)) ≡ Some parts → Splits q (b ∷ rest) parts
    backquote_told parts is n true [] e ex h = cc
    backquote_told parts is n true (c ∷ rest) e ex h =
        with_parts q (b ∷ c ∷ rest) (with_character backquote) (split q bytes 1) parts
        (λ others o.
        let d : Splits q rest others = subst (λ (z : List ℕ). Splits q (drop 1 z) others) e (ih 1 others o) in
        subst (λ (z : ℕ). Splits q (z ∷ c ∷ rest) (with_character backquote others)) (sym is)
        (subst (λ (z : ℕ). Splits q (backquote ∷ z ∷ rest) (with_character backquote others)) (sym (eqb-true c backquote ex)) (doubled_backquote (not_q is n) d)))
        h
    backquote_told parts is n false rest e ex h = by_end (conversion_from [] rest) refl h
      where
        by_end : (x : Option (List ℕ)) → conversion_from [] rest ≡ x → converted x (split q bytes) ≡ Some parts → Splits q (b ∷ rest) parts
        by_end None ec k = cc
        by_end (Some inner) ec k =
            let c = conversion_told inner rest [] (λ front more ts i t. omega arith) ec in
            with_parts q (b ∷ rest) (λ others. part.Conversion inner ∷ others) (split q bytes (length inner + 1)) parts
            (λ others o.
            let d : Splits q c.0 others = subst (λ (z : List ℕ). Splits q z others) (ap (drop (length inner + 1)) (e ∙ c.1.is) ∙ drop_front inner c.0 backquote) (ih (length inner + 1) others o) in
            subst (λ (z : ℕ). Splits q (z ∷ rest) (part.Conversion inner ∷ others)) (sym is) (conversion (not_q is n) ex c.1 d))
            k

    table_told : (parts : List Part) (x y : Bool) → (b == q) ≡ x → (b == backquote) ≡ y → table q b bytes x y ≡ Some parts → Splits q (b ∷ bytes) parts
    table_told parts true y ex ey h = quote_told parts (eqb-true b q ex) bytes refl h
    table_told parts false true ex ey h = backquote_told parts (eqb-true b backquote ey) ex (begins (λ c. c == backquote) bytes) bytes refl refl h
    table_told parts false false ex ey h =
        with_parts q (b ∷ bytes) (with_character b) (split q bytes 0) parts (λ others o. character (eqb-false b q ex) (eqb-false b backquote ey) (ih 0 others o)) h

  reads : (q : ℕ) (bytes : List ℕ) → Reads q bytes
  unfolding split
  reads q [] zero parts h = cc
  reads q [] (suc skip) parts h = cc
  reads q (b ∷ bytes) (suc skip) parts h = reads q bytes skip parts h
  reads q (b ∷ bytes) zero parts h = table_told q b bytes (reads q bytes) parts (b == q) (b == backquote) refl refl h

  pub split_told : (q : ℕ) (bytes : List ℕ) (parts : List Part) → split q bytes 0 ≡ Some parts → Splits q bytes parts
  split_told q bytes parts h = reads q bytes 0 parts h
