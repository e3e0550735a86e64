-- A text is the longest that is spelled where it begins.
use Rattle.std.proofs.Common.{◌≡◌, ℕ, zero, suc, ◌+◌, ◌-◌, ◌≤◌, inl, inr, Bool, true, false, ◌&&◌, ◌||◌, cond, List, [], ◌∷◌, ◌++◌, length, take, drop, Option, Some, None, refl, ap, sym, ◌∙◌, subst, arith, length-append, length-drop, append_assoc}
use Rattle.std.specs.Prelude.{◌==◌, codes}
use Rattle.std.specs.List.{list_any, list_all}
use Rattle.std.proofs.lemmas.Bool.{ne_eqb, eq-eqb, eqb-true}
use Rattle.std.proofs.lemmas.List.{take-append-drop, take_at, drop_at, drop-drop, length-take-le}
use Rattle.std.proofs.lemmas.Option.{same_Some}
use Rattle.abc_tokens.specs.declared.kinds.TokenKind.{TokenKind}
use Rattle.abc_tokens.specs.declared.kinds.TokenKind.TheVariants as kind
use Rattle.abc_tokens.specs.Bytes.{is_small, is_capital, is_digit, is_quote, space, backquote, point, begins}
use Rattle.abc_tokens.specs.Words.{goes_on, second_signs, IsLongest, number_of}
use Rattle.abc_tokens.specs.Texts.{Closes, Converts, closing, doubled_quote, doubled_backquote, character, conversion, finish, blank, word, text, other, IsText, IsLongestText}
use Rattle.abc_tokens.specs.declared.kinds.Token.{Token}
use Rattle.abc_tokens.specs.Tokens as tk
use Rattle.abc_tokens.specs.Tokens.{Tokens, place, token}
use Rattle.abc_tokens.specs.Scanned.{tail_length, digits, decimals, number_length, is_double, is_single, word_in_front, ending, text_ending}
use Rattle.abc_tokens.proofs.Bare.{SpacesBehind, space_before}
use Rattle.abc_tokens.proofs.InFront.{in_front, none_from_none, longest_in_front, none_in_front}
use Rattle.abc_tokens.proofs.NumberTokens.{number_more, number_none}
use Rattle.abc_tokens.proofs.TextSteps as steps
use Rattle.abc_tokens.proofs.TextLaws.{ending_nil, converts_read, text_read, closes_ends, reads, Ends, no_word, no_quote}

-- ---- what stands behind a backquote changes no word before it

module _ (t r : List ℕ) where
  begins_same : (class : ℕ → Bool) (z : List ℕ) → begins class (z ++ backquote ∷ t) ≡ begins class (z ++ backquote ∷ r)
  begins_same class [] = refl
  begins_same class (b ∷ z) = refl

  tail_same : (letter : ℕ → Bool) → letter backquote ≡ false → (z : List ℕ) → tail_length letter (z ++ backquote ∷ t) ≡ tail_length letter (z ++ backquote ∷ r)
  tail_same letter n [] = ap (λ x. cond (((x || false) || false) || false) (suc (tail_length letter t)) 0) n ∙ sym (ap (λ x. cond (((x || false) || false) || false) (suc (tail_length letter r)) 0) n)
  tail_same letter n (b ∷ z) =
      ap (λ x. cond (goes_on letter b || ((b == point) && x)) (suc (tail_length letter (z ++ backquote ∷ t))) 0) (begins_same (goes_on letter) z)
      ∙ ap (λ k. cond (goes_on letter b || ((b == point) && begins (goes_on letter) (z ++ backquote ∷ r))) (suc k) 0) (tail_same letter n z)

  digits_same : (z : List ℕ) → digits (z ++ backquote ∷ t) ≡ digits (z ++ backquote ∷ r)
  digits_same [] = refl
  digits_same (b ∷ z) = ap (λ k. cond (is_digit b) (1 + k) 0) (digits_same z)

  decimals_same : (z : List ℕ) → decimals (z ++ backquote ∷ t) ≡ decimals (z ++ backquote ∷ r)
  decimals_same [] = refl
  decimals_same (b ∷ z) =
      ap (λ x. cond ((b == point) && x) (suc (digits (z ++ backquote ∷ t))) 0) (begins_same is_digit z)
      ∙ ap (λ k. cond ((b == point) && begins is_digit (z ++ backquote ∷ r)) (suc k) 0) (digits_same z)

  number_by : (b : ℕ) (z : List ℕ) → number_length (z ++ backquote ∷ t) ≡ number_length (z ++ backquote ∷ r) → (x : Bool) → is_digit b ≡ x
      → number_length ((b ∷ z) ++ backquote ∷ t) ≡ number_length ((b ∷ z) ++ backquote ∷ r)
  number_by b z ih true e = number_more b (z ++ backquote ∷ t) e ∙ ap suc ih ∙ sym (number_more b (z ++ backquote ∷ r) e)
  number_by b z ih false e = number_none b (z ++ backquote ∷ t) e ∙ decimals_same (b ∷ z) ∙ sym (number_none b (z ++ backquote ∷ r) e)

  number_same : (z : List ℕ) → number_length (z ++ backquote ∷ t) ≡ number_length (z ++ backquote ∷ r)
  number_same [] = refl
  number_same (b ∷ z) = number_by b z (number_same z) (is_digit b) refl

  pub word_same : (z : List ℕ) → word_in_front (z ++ backquote ∷ t) ≡ word_in_front (z ++ backquote ∷ r)
  unfolding word_in_front
  word_same [] = (no_word t).2 ∙ sym (no_word r).2
  word_same (b ∷ z) =
      ap (λ k. front k (tail_length is_capital (z ++ backquote ∷ t)) (begins is_digit (z ++ backquote ∷ t)) (number_length (b ∷ (z ++ backquote ∷ t))) (is_double b (z ++ backquote ∷ t))) (tail_same is_small refl z)
      ∙ ap (λ k. front (tail_length is_small (z ++ backquote ∷ r)) k (begins is_digit (z ++ backquote ∷ t)) (number_length (b ∷ (z ++ backquote ∷ t))) (is_double b (z ++ backquote ∷ t))) (tail_same is_capital refl z)
      ∙ ap (λ x. front (tail_length is_small (z ++ backquote ∷ r)) (tail_length is_capital (z ++ backquote ∷ r)) x (number_length (b ∷ (z ++ backquote ∷ t))) (is_double b (z ++ backquote ∷ t))) (begins_same is_digit z)
      ∙ ap (λ k. front (tail_length is_small (z ++ backquote ∷ r)) (tail_length is_capital (z ++ backquote ∷ r)) (begins is_digit (z ++ backquote ∷ r)) k (is_double b (z ++ backquote ∷ t))) (number_same (b ∷ z))
      ∙ ap (front (tail_length is_small (z ++ backquote ∷ r)) (tail_length is_capital (z ++ backquote ∷ r)) (begins is_digit (z ++ backquote ∷ r)) (number_length (b ∷ (z ++ backquote ∷ r)))) (begins_same (λ c. list_any (λ second. second == c) (second_signs b)) z)
    where
      front : ℕ → ℕ → Bool → ℕ → Bool → Option (TokenKind × ℕ)
      front small capital digit number double = cond (is_small b) (Some (kind.Name, suc small)) (cond (is_capital b) (Some (kind.Keyword, suc capital))
          (cond (is_digit b || ((b == point) && digit)) (Some (kind.Number, number)) (cond double (Some (kind.Sign, 2)) (cond (is_single b) (Some (kind.Sign, 1)) None))))

-- ---- nor does a backquote behind all

second_by : (x y z u v w : Bool) → list_any (λ s. s == backquote) (cond x (codes "*/") (cond y (codes "*") (cond z (codes "^") (cond u (codes "<=>") (cond v (codes "<=>") (cond w (codes ".") [])))))) ≡ false
second_by true y z u v w = refl
second_by false true z u v w = refl
second_by false false true u v w = refl
second_by false false false true v w = refl
second_by false false false false true w = refl
second_by false false false false false true = refl
second_by false false false false false false = refl

module _ (r : List ℕ) where
  pub begins_end : (class : ℕ → Bool) → class backquote ≡ false → (z : List ℕ) → begins class (z ++ backquote ∷ r) ≡ begins class z
  begins_end class n [] = n
  begins_end class n (b ∷ z) = refl

  tail_end : (letter : ℕ → Bool) → letter backquote ≡ false → (z : List ℕ) → tail_length letter (z ++ backquote ∷ r) ≡ tail_length letter z
  tail_end letter n [] = ap (λ x. cond (((x || false) || false) || false) (suc (tail_length letter r)) 0) n
  tail_end letter n (b ∷ z) =
      ap (λ x. cond (goes_on letter b || ((b == point) && x)) (suc (tail_length letter (z ++ backquote ∷ r))) 0) (begins_end (goes_on letter) (ap (λ x. (x || false) || false) n) z)
      ∙ ap (λ k. cond (goes_on letter b || ((b == point) && begins (goes_on letter) z)) (suc k) 0) (tail_end letter n z)

  digits_end : (z : List ℕ) → digits (z ++ backquote ∷ r) ≡ digits z
  digits_end [] = refl
  digits_end (b ∷ z) = ap (λ k. cond (is_digit b) (1 + k) 0) (digits_end z)

  decimals_end : (z : List ℕ) → decimals (z ++ backquote ∷ r) ≡ decimals z
  decimals_end [] = refl
  decimals_end (b ∷ z) =
      ap (λ x. cond ((b == point) && x) (suc (digits (z ++ backquote ∷ r))) 0) (begins_end is_digit refl z)
      ∙ ap (λ k. cond ((b == point) && begins is_digit z) (suc k) 0) (digits_end z)

  number_end_by : (b : ℕ) (z : List ℕ) → number_length (z ++ backquote ∷ r) ≡ number_length z → (x : Bool) → is_digit b ≡ x → number_length ((b ∷ z) ++ backquote ∷ r) ≡ number_length (b ∷ z)
  number_end_by b z ih true e = number_more b (z ++ backquote ∷ r) e ∙ ap suc ih ∙ sym (number_more b z e)
  number_end_by b z ih false e = number_none b (z ++ backquote ∷ r) e ∙ decimals_end (b ∷ z) ∙ sym (number_none b z e)

  number_end : (z : List ℕ) → number_length (z ++ backquote ∷ r) ≡ number_length z
  number_end [] = refl
  number_end (b ∷ z) = number_end_by b z (number_end z) (is_digit b) refl

  pub word_end : (z : List ℕ) → word_in_front (z ++ backquote ∷ r) ≡ word_in_front z
  unfolding word_in_front
  word_end [] = (no_word r).2
  word_end (b ∷ z) =
      ap (λ k. front k (tail_length is_capital (z ++ backquote ∷ r)) (begins is_digit (z ++ backquote ∷ r)) (number_length (b ∷ (z ++ backquote ∷ r))) (is_double b (z ++ backquote ∷ r))) (tail_end is_small refl z)
      ∙ ap (λ k. front (tail_length is_small z) k (begins is_digit (z ++ backquote ∷ r)) (number_length (b ∷ (z ++ backquote ∷ r))) (is_double b (z ++ backquote ∷ r))) (tail_end is_capital refl z)
      ∙ ap (λ x. front (tail_length is_small z) (tail_length is_capital z) x (number_length (b ∷ (z ++ backquote ∷ r))) (is_double b (z ++ backquote ∷ r))) (begins_end is_digit refl z)
      ∙ ap (λ k. front (tail_length is_small z) (tail_length is_capital z) (begins is_digit z) k (is_double b (z ++ backquote ∷ r))) (number_end (b ∷ z))
      ∙ ap (front (tail_length is_small z) (tail_length is_capital z) (begins is_digit z) (number_length (b ∷ z)))
      (begins_end (λ c. list_any (λ second. second == c) (second_signs b)) (second_by (b == 42) (b == 47) (b == 94) (b == 60) (b == 62) (b == point)) z)
    where
      front : ℕ → ℕ → Bool → ℕ → Bool → Option (TokenKind × ℕ)
      front small capital digit number double = cond (is_small b) (Some (kind.Name, suc small)) (cond (is_capital b) (Some (kind.Keyword, suc capital))
          (cond (is_digit b || ((b == point) && digit)) (Some (kind.Number, number)) (cond double (Some (kind.Sign, 2)) (cond (is_single b) (Some (kind.Sign, 1)) None))))

-- ---- the front of a text may stand before other bytes

-- what follows a text doesn't begin with its quote
pub closes_stops : {q : ℕ} {bytes rest : List ℕ} {ns : List (List ℕ)} → Closes q bytes rest ns → begins (λ b. b == q) rest ≡ false
closes_stops (closing h) = h
closes_stops (doubled_quote d) = closes_stops d
closes_stops (doubled_backquote d) = closes_stops d
closes_stops (character n m d) = closes_stops d
closes_stops (conversion h v d) = closes_stops d

-- the bytes of a text up to its last quote: it ends before all that doesn't begin with the quote, and else goes on
pub record TextFront (q : ℕ) (bytes rest : List ℕ) (ns : List (List ℕ)) : Type 0 where
  pub front : List ℕ
  pub is : bytes ≡ front ++ q ∷ rest
  pub ends : (t : List ℕ) → begins (λ b. b == q) t ≡ false → Closes q (front ++ q ∷ t) t ns
  pub passes : (t quotes : List ℕ) (ms : List (List ℕ)) → ending (front ++ q ∷ q ∷ t) 0 true (q ∷ quotes) ms ≡ ending t 0 true (q ∷ quotes) (ms ++ ns)

-- the bytes of a conversion up to its last backquote, which may stand before all; by themselves they are tokens, behind which spaces alone stand
pub record ConversionFront (bytes rest : List ℕ) (ns : List (List ℕ)) : Type 0 where
  pub front : List ℕ
  pub is : bytes ≡ front ++ backquote ∷ rest
  pub ends : (t : List ℕ) → Converts (front ++ backquote ∷ t) t ns
  pub tokens : (len : ℕ) → (ts : List Token) × Tokens false len front ts ns
      × ((line : List ℕ) (p : ℕ) → p + length front ≡ len → drop p line ≡ front → SpacesBehind line p ts)

-- a front that doesn't begin with a backquote
begins_front : (y more x : List ℕ) → begins (λ b. b == backquote) (y ++ backquote ∷ more) ≡ false → begins (λ b. b == backquote) (y ++ x) ≡ false
begins_front [] more x h = cc
begins_front (b ∷ y) more x h = h

module _ {k : TokenKind} {n : ℕ} {bytes rest : List ℕ} {ns : List (List ℕ)} (l : IsLongest k n bytes) (c : ConversionFront (drop n bytes) rest ns) where
  whole_front : bytes ≡ (take n bytes ++ c.front) ++ backquote ∷ rest
  whole_front = sym (take-append-drop n bytes) ∙ ap (λ x. take n bytes ++ x) c.is ∙ sym (append_assoc (take n bytes) c.front (backquote ∷ rest))

  word_ends : (t : List ℕ) → Converts ((take n bytes ++ c.front) ++ backquote ∷ t) t (number_of k (take n bytes) ++ ns)
  word_ends t =
      let e : word_in_front ((take n bytes ++ c.front) ++ backquote ∷ t) ≡ Some (k, n) =
      word_same t rest (take n bytes ++ c.front) ∙ ap word_in_front (sym whole_front) ∙ in_front k n bytes l in
      let m = (longest_in_front ((take n bytes ++ c.front) ++ backquote ∷ t) (k, n) e).0 in
      let size : length (take n bytes) ≡ n = length-take-le n bytes l.within in
      let parts = append_assoc (take n bytes) c.front (backquote ∷ t) in
      let dropped : drop n ((take n bytes ++ c.front) ++ backquote ∷ t) ≡ c.front ++ backquote ∷ t = ap (drop n) parts ∙ drop_at (take n bytes) (c.front ++ backquote ∷ t) n size in
      let taken : take n ((take n bytes ++ c.front) ++ backquote ∷ t) ≡ take n bytes = ap (take n) parts ∙ take_at (take n bytes) (c.front ++ backquote ∷ t) n size in
      subst (λ x. Converts ((take n bytes ++ c.front) ++ backquote ∷ t) t (number_of k x ++ ns)) taken (word m (subst (λ x. Converts x t ns) (sym dropped) (c.ends t)))

  word_tokens : (len : ℕ) → (ts : List Token) × Tokens false len (take n bytes ++ c.front) ts (number_of k (take n bytes) ++ ns)
      × ((line : List ℕ) (p : ℕ) → p + length (take n bytes ++ c.front) ≡ len → drop p line ≡ take n bytes ++ c.front → SpacesBehind line p ts)
  word_tokens len =
      let z = take n bytes ++ c.front in
      let e : word_in_front z ≡ Some (k, n) = sym (word_end rest z) ∙ ap word_in_front (sym whole_front) ∙ in_front k n bytes l in
      let m = (longest_in_front z (k, n) e).0 in
      let size : length (take n bytes) ≡ n = length-take-le n bytes l.within in
      let dropped : drop n z ≡ c.front = drop_at (take n bytes) c.front n size in
      let taken : take n z ≡ take n bytes = take_at (take n bytes) c.front n size in
      let behind = c.tokens len in (
        _,
        subst (λ x. Tokens false len z (token k (place len z) (place len z + n) ∷ behind.0) (number_of k x ++ ns)) taken
            (tk.word m (subst (λ x. Tokens false len x behind.0 ns) (sym dropped) behind.1)),
        λ line p total at.
            let many : length z ≡ n + length c.front = length-append (take n bytes) c.front ∙ ap (λ k. k + length c.front) size in
            let here : p + n ≡ place len z + n = omega arith in
            subst (λ x. SpacesBehind line x behind.0) here (behind.2 line (p + n) (omega arith) (sym (drop-drop n p line) ∙ ap (drop n) at ∙ dropped)),
      )

-- what a front begins with, where it stands before a backquote or alone
begins_alone : (class : ℕ → Bool) (z r : List ℕ) → begins class (z ++ backquote ∷ r) ≡ false → begins class z ≡ false
begins_alone class [] r h = refl
begins_alone class (b ∷ z) r h = h

mutual
  pub text_front : {q : ℕ} {bytes rest : List ℕ} {ns : List (List ℕ)} → Closes q bytes rest ns → is_quote q ≡ true → TextFront q bytes rest ns
  text_front (closing {q = q} {rest = rest} h) u = record {
    front = [];
    is = refl;
    ends = λ t b. closing b;
    passes = λ t quotes ms. (steps.doubled q q q t quotes (eq-eqb q q refl) (inl refl)).same.2 ms;
  }
  text_front (doubled_quote {q = q} {bytes = bytes} {rest = rest} {ns = ns} d) u = let f : TextFront q bytes rest ns = text_front d u in
      record {
        front = q ∷ q ∷ f.front;
        is = ap (λ x. q ∷ q ∷ x) f.is;
        ends = λ t b. doubled_quote (f.ends t b);
        passes = λ t quotes ms. (steps.doubled q q q (f.front ++ q ∷ q ∷ t) quotes (eq-eqb q q refl) (inl refl)).same.2 ms ∙ ending_nil (f.front ++ q ∷ q ∷ t) true (q ∷ quotes) ms ∙ f.passes t quotes ms;
      }
  text_front (doubled_backquote {q = q} {bytes = bytes} {rest = rest} {ns = ns} d) u = let f : TextFront q bytes rest ns = text_front d u in
      record {
        front = backquote ∷ backquote ∷ f.front;
        is = ap (λ x. backquote ∷ backquote ∷ x) f.is;
        ends = λ t b. doubled_backquote (f.ends t b);
        passes = λ t quotes ms. (steps.doubled backquote backquote q (f.front ++ q ∷ q ∷ t) quotes refl (inr refl)).same.2 ms ∙ ending_nil (f.front ++ q ∷ q ∷ t) true (q ∷ quotes) ms ∙ f.passes t quotes ms;
      }
  text_front (character {q = q} {c = c} {bytes = bytes} {rest = rest} {ns = ns} n m d) u = let f : TextFront q bytes rest ns = text_front d u in
      record {
        front = c ∷ f.front;
        is = ap (λ x. c ∷ x) f.is;
        ends = λ t b. character n m (f.ends t b);
        passes = λ t quotes ms. (steps.stays c q (f.front ++ q ∷ q ∷ t) quotes (ne_eqb c q n) (ne_eqb c backquote m)).same.2 ms ∙ ending_nil (f.front ++ q ∷ q ∷ t) true (q ∷ quotes) ms ∙ f.passes t quotes ms;
      }
  text_front (conversion {q = q} {bytes = bytes} {more = more} {rest = rest} {ms = ks} {ns = ns} h v d) u =
      let f : TextFront q more rest ns = text_front d u in
      let c : ConversionFront bytes more ks = conversion_front v in
      let y = c.front ++ backquote ∷ f.front in
      let h1 : begins (λ b. b == backquote) (c.front ++ backquote ∷ more) ≡ false = ap (begins (λ b. b == backquote)) (sym c.is) ∙ h in
      let parts : (x : List ℕ) → y ++ x ≡ c.front ++ backquote ∷ (f.front ++ x) = λ (x : List ℕ). append_assoc c.front (backquote ∷ f.front) x in
      let clear : (x : List ℕ) → begins (λ b. b == backquote) (y ++ x) ≡ false = λ (x : List ℕ). ap (begins (λ b. b == backquote)) (parts x) ∙ begins_front c.front more (backquote ∷ (f.front ++ x)) h1 in
      let converted : (x : List ℕ) → Converts (y ++ x) (f.front ++ x) ks = λ (x : List ℕ). subst (λ z. Converts z (f.front ++ x) ks) (sym (parts x)) (c.ends (f.front ++ x)) in
      record {
        front = backquote ∷ y;
        is = ap (λ x. backquote ∷ x) (c.is ∙ ap (λ x. c.front ++ backquote ∷ x) f.is ∙ sym (parts (q ∷ rest)));
        ends = λ t b. conversion (clear (q ∷ t)) (converted (q ∷ t)) (f.ends t b);
        passes = λ t quotes ms. (steps.converts backquote q (y ++ q ∷ q ∷ t) quotes (no_quote (λ q. (backquote == q) ≡ false) refl refl q u) refl (clear (q ∷ q ∷ t))).same.2 ms
            ∙ ending_nil (y ++ q ∷ q ∷ t) false (q ∷ quotes) ms ∙ converts_read (converted (q ∷ q ∷ t)) q quotes ms ∙ f.passes t quotes (ms ++ ks)
            ∙ ap (ending t 0 true (q ∷ quotes)) (append_assoc ms ks ns);
      }

  pub conversion_front : {bytes rest : List ℕ} {ns : List (List ℕ)} → Converts bytes rest ns → ConversionFront bytes rest ns
  conversion_front (finish {rest = rest}) = record { front = []; is = refl; ends = λ t. finish; tokens = λ len. ([], tk.none, λ line p total at. ap (list_all (λ b. b == space)) at) }
  conversion_front (blank {bytes = bytes} {rest = rest} {ns = ns} d) = let c : ConversionFront bytes rest ns = conversion_front d in
      record {
        front = space ∷ c.front;
        is = ap (λ x. space ∷ x) c.is;
        ends = λ t. blank (c.ends t);
        tokens = λ len. (
          (c.tokens len).0,
          tk.blank (c.tokens len).1,
          λ line p total at. space_before line c.front p (c.tokens len).0 at ((c.tokens len).2 line (p + 1) (omega arith) (sym (drop-drop 1 p line) ∙ ap (drop 1) at)),
        );
      }
  conversion_front (word {kind = k} {n = n} {bytes = bytes} {rest = rest} {ns = ns} l d) = let c : ConversionFront (drop n bytes) rest ns = conversion_front d in
      record { front = take n bytes ++ c.front; is = whole_front l c; ends = word_ends l c; tokens = word_tokens l c }
  conversion_front (text {q = q} {bytes = bytes} {more = more} {rest = rest} {ms = ks} {ns = ns} u d v) =
      let f : TextFront q bytes more ks = text_front d u in
      let c : ConversionFront more rest ns = conversion_front v in
      let parts : (x : List ℕ) → (f.front ++ q ∷ c.front) ++ x ≡ f.front ++ q ∷ (c.front ++ x) = λ (x : List ℕ). append_assoc f.front (q ∷ c.front) x in
      record {
        front = q ∷ (f.front ++ q ∷ c.front);
        is = ap (λ x. q ∷ x) (f.is ∙ ap (λ x. f.front ++ q ∷ x) c.is ∙ sym (parts (backquote ∷ rest)));
        ends = λ t. text u (subst (λ z. Closes q z (c.front ++ backquote ∷ t) ks) (sym (parts (backquote ∷ t)))
            (f.ends (c.front ++ backquote ∷ t) (begins_same t rest (λ b. b == q) c.front ∙ ap (begins (λ b. b == q)) (sym c.is) ∙ closes_stops d))) (c.ends t);
        tokens = λ len. (
          _,
          tk.text u (f.ends c.front (begins_alone (λ b. b == q) c.front rest (ap (begins (λ b. b == q)) (sym c.is) ∙ closes_stops d))) (c.tokens len).1,
          λ line p total at.
              let many : length (f.front ++ q ∷ c.front) ≡ length f.front + suc (length c.front) = length-append f.front (q ∷ c.front) in
              let k = suc (suc (length f.front)) in
              let quoted : length (f.front ++ q ∷ []) ≡ suc (length f.front) = omega (arith, length-append f.front (q ∷ [])) in
              let behind : drop (suc (length f.front)) (f.front ++ q ∷ c.front) ≡ c.front =
              ap (drop (suc (length f.front))) (sym (append_assoc f.front (q ∷ []) c.front)) ∙ drop_at (f.front ++ q ∷ []) c.front (suc (length f.front)) quoted in
              let here : p + k ≡ place len c.front = omega arith in
              subst (λ x. SpacesBehind line x (c.tokens len).0) here ((c.tokens len).2 line (p + k) (omega arith) (sym (drop-drop k p line) ∙ ap (drop k) at ∙ behind)),
        );
      }
  conversion_front (other {b = b} {bytes = bytes} {rest = rest} {ns = ns} s c k u n d) = let f : ConversionFront bytes rest ns = conversion_front d in
      record {
        front = b ∷ f.front;
        is = ap (λ x. b ∷ x) f.is;
        ends = λ t. other s c k u (none_in_front (b ∷ (f.front ++ backquote ∷ t)) (word_same t rest (b ∷ f.front) ∙ ap (λ x. word_in_front (b ∷ x)) (sym f.is) ∙ none_from_none (b ∷ bytes) n)) (f.ends t);
        tokens = λ len. (
          _,
          tk.other s c u (none_in_front (b ∷ f.front) (sym (word_end rest (b ∷ f.front)) ∙ ap (λ x. word_in_front (b ∷ x)) (sym f.is) ∙ none_from_none (b ∷ bytes) n)) (f.tokens len).1,
          λ line p total at.
              let here : p + 1 ≡ place len (b ∷ f.front) + 1 = omega arith in
              subst (λ x. SpacesBehind line x (f.tokens len).0) here ((f.tokens len).2 line (p + 1) (omega arith) (sym (drop-drop 1 p line) ∙ ap (drop 1) at)),
        );
      }

-- ---- the longest

ends_short : (bytes rest : List ℕ) → Ends bytes rest → length rest ≤ length bytes
ends_short bytes rest (k, l, e) = let size : length rest ≡ length bytes - k = ap length (sym e) ∙ length-drop k bytes in omega arith

module _ (q : ℕ) (bytes rest : List ℕ) (ns : List (List ℕ)) (u : is_quote q ≡ true) (d : Closes q bytes rest ns) where
  -- a text of j more bytes ends no later
  no_longer : (j : ℕ) → j ≤ length bytes → (ks : List (List ℕ)) → Closes q (take j bytes) [] ks → (t : List ℕ) → drop j bytes ≡ t → (x : Bool) → begins (λ b. b == q) t ≡ x → length rest ≤ length t
  no_longer j l ks e t f false h =
      let g = text_front e u in
      let same : bytes ≡ g.front ++ q ∷ t = sym (take-append-drop j bytes) ∙ ap (λ x. x ++ drop j bytes) g.is ∙ append_assoc g.front (q ∷ []) (drop j bytes) ∙ ap (λ x. g.front ++ q ∷ x) f in
      let other_end : text_ending (q ∷ bytes) ≡ Some (t, ks) = text_read (subst (λ x. Closes q x t ks) (sym same) (g.ends t h)) u in
      let size : length t ≡ length rest = ap (λ x. length x.0) (same_Some _ _ (sym other_end ∙ text_read d u)) in omega arith
  no_longer j l ks e [] f true h = cc
  no_longer j l ks e (c ∷ t) f true h =
      let g = text_front e u in
      let same : bytes ≡ g.front ++ q ∷ q ∷ t = sym (take-append-drop j bytes) ∙ ap (λ x. x ++ drop j bytes) g.is ∙ append_assoc g.front (q ∷ []) (drop j bytes) ∙ ap (λ x. g.front ++ q ∷ x) f
      ∙ ap (λ x. g.front ++ q ∷ x ∷ t) (eqb-true c q h) in
      let on : ending t 0 true (q ∷ []) ks ≡ Some (rest, ns) = sym (ap (λ x. ending x 0 true (q ∷ []) []) same ∙ g.passes t [] []) ∙ text_read d u in
      let left = reads rest ns t 0 true q [] ks on in
      let size : length left.0 ≤ length t = ends_short t left.0 (closes_ends left.2) in
      let last : length left.0 ≡ length rest = ap length left.3.0 in omega arith

  pub longest_text : IsLongestText (length (q ∷ bytes) - length rest) (q ∷ bytes)
  longest_text = record { within = omega arith; spelled = spelled (text_front d u); longest = longest }
    where
      spelled : TextFront q bytes rest ns → IsText (take (length (q ∷ bytes) - length rest) (q ∷ bytes))
      spelled f =
          let size : length bytes ≡ length f.front + suc (length rest) = ap length f.is ∙ length-append f.front (q ∷ rest) in
          let n : length (q ∷ bytes) - length rest ≡ suc (suc (length f.front)) = omega arith in
          let whole : bytes ≡ (f.front ++ q ∷ []) ++ rest = f.is ∙ sym (append_assoc f.front (q ∷ []) rest) in
          let front_size : length (f.front ++ q ∷ []) ≡ suc (length f.front) = omega (arith, length-append f.front (q ∷ [])) in
          let front : take (suc (length f.front)) bytes ≡ f.front ++ q ∷ [] = ap (take (suc (length f.front))) whole ∙ take_at (f.front ++ q ∷ []) rest (suc (length f.front)) front_size in
          subst (λ k. IsText (take k (q ∷ bytes))) (sym n) (subst (λ x. IsText (q ∷ x)) (sym front) (u, (ns, f.ends [] refl)))

      longest : (m : ℕ) → m ≤ length (q ∷ bytes) → IsText (take m (q ∷ bytes)) → m ≤ length (q ∷ bytes) - length rest
      longest zero l h = omega arith
      longest (suc j) l (v, (ks, e)) =
          let few : j ≤ length bytes = omega arith in
          let left : length rest ≤ length (drop j bytes) = no_longer j few ks e (drop j bytes) refl (begins (λ b. b == q) (drop j bytes)) refl in
          let size : length (drop j bytes) ≡ length bytes - j = length-drop j bytes in omega arith
