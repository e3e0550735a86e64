-- The reading that is computed ends a text exactly where the text is closed.
use Rattle.std.proofs.Common.{◌≡◌, ℕ, zero, suc, ◌+◌, ◌-◌, ◌≤◌, ◌<◌, ◌⊎◌, inl, inr, Bool, true, false, cond, List, [], ◌∷◌, ◌++◌, length, take, drop, Option, Some, None, refl, ap, sym, ◌∙◌, subst, arith, length-drop, eqb-true, eq-eqb}
use Rattle.std.specs.Prelude.{◌==◌}
use Rattle.std.proofs.lemmas.Bool.{ne_eqb, eqb-false, or_cases}
use Rattle.std.proofs.lemmas.List.{append-nil, append_assoc, drop-drop}
use Rattle.std.proofs.lemmas.Option.{same_Some}
use Rattle.abc_tokens.specs.declared.kinds.TokenKind.{TokenKind}
use Rattle.abc_tokens.specs.Bytes.{is_quote, space, backslash, backquote, begins}
use Rattle.abc_tokens.specs.Words.{IsLongest, number_of}
use Rattle.abc_tokens.specs.Texts.{Closes, Converts, closing, doubled_quote, doubled_backquote, character, conversion, finish, blank, word, text, other}
use Rattle.abc_tokens.specs.Scanned.{ending, text_ending, behind_text, at_word, word_in_front}
use Rattle.abc_tokens.specs.inner.Reading.{resumed}
use Rattle.abc_tokens.proofs.InFront.{in_front, none_from_none, longest_in_front, none_in_front}
use Rattle.abc_tokens.proofs.TextSteps as steps
use Rattle.abc_tokens.proofs.TextSteps.{word_step}

-- a quote by its two codes
pub quote_is : (q : ℕ) → is_quote q ≡ true → (q ≡ 34) ⊎ (q ≡ 39)
quote_is q h = by_cases (or_cases (q == 34) (q == 39) h)
  where
    by_cases : ((q == 34) ≡ true) ⊎ ((q == 39) ≡ true) → (q ≡ 34) ⊎ (q ≡ 39)
    by_cases (inl e) = inl (eqb-true q 34 e)
    by_cases (inr e) = inr (eqb-true q 39 e)

-- what no quote passes
pub no_quote : (P : ℕ → Type 0) → P 34 → P 39 → (q : ℕ) → is_quote q ≡ true → P q
no_quote P a b q h = by_cases (quote_is q h)
  where
    by_cases : (q ≡ 34) ⊎ (q ≡ 39) → P q
    by_cases (inl e) = subst P (sym e) a
    by_cases (inr e) = subst P (sym e) b

-- none of these bytes begins a word
pub no_word : (bytes : List ℕ) → (word_in_front (space ∷ bytes) ≡ None) × (word_in_front (backslash ∷ bytes) ≡ None) × (word_in_front (backquote ∷ bytes) ≡ None)
    × (word_in_front (34 ∷ bytes) ≡ None) × (word_in_front (39 ∷ bytes) ≡ None)
unfolding word_in_front
no_word [] = (refl, refl, refl, refl, refl)
no_word (b ∷ bytes) = (refl, refl, refl, refl, refl)

pub no_bytes : word_in_front [] ≡ None
unfolding word_in_front
no_bytes = refl

-- a word begins with none of them
module _ (b : ℕ) (bytes : List ℕ) (w : TokenKind × ℕ) (e : word_in_front (b ∷ bytes) ≡ Some w) where
  pub word_no_space : (b == space) ≡ false
  word_no_space = ne_eqb b space (λ h. let n : word_in_front (b ∷ bytes) ≡ None = subst (λ c. word_in_front (c ∷ bytes) ≡ None) (sym h) (no_word bytes).0 in cc)

  pub word_no_comment : (b == backslash) ≡ false
  word_no_comment = ne_eqb b backslash (λ h. let n : word_in_front (b ∷ bytes) ≡ None = subst (λ c. word_in_front (c ∷ bytes) ≡ None) (sym h) (no_word bytes).1 in cc)

  pub word_no_backquote : (b == backquote) ≡ false
  word_no_backquote = ne_eqb b backquote (λ h. let n : word_in_front (b ∷ bytes) ≡ None = subst (λ c. word_in_front (c ∷ bytes) ≡ None) (sym h) (no_word bytes).2 in cc)

  pub word_no_quote : is_quote b ≡ false
  word_no_quote = by_test (is_quote b) refl
    where
      by_test : (x : Bool) → is_quote b ≡ x → is_quote b ≡ false
      by_test false h = h
      by_test true h = let n : word_in_front (b ∷ bytes) ≡ None = no_quote (λ c. word_in_front (c ∷ bytes) ≡ None) (no_word bytes).3 (no_word bytes).4 b h in cc

-- ---- a closed text is read to its end

-- the numbers with none behind them
pub ending_nil : (bytes : List ℕ) (inside : Bool) (quotes : List ℕ) (ms : List (List ℕ)) → ending bytes 0 inside quotes (ms ++ []) ≡ ending bytes 0 inside quotes ms
ending_nil bytes inside quotes ms = ap (ending bytes 0 inside quotes) (append-nil ms)

ending_assoc : (bytes : List ℕ) (inside : Bool) (quotes : List ℕ) (ks ms ns : List (List ℕ)) → ending bytes 0 inside quotes ((ks ++ ms) ++ ns) ≡ ending bytes 0 inside quotes (ks ++ (ms ++ ns))
ending_assoc bytes inside quotes ks ms ns = ap (ending bytes 0 inside quotes) (append_assoc ks ms ns)

-- reading a word
past_word : (kind : TokenKind) (n : ℕ) (bytes : List ℕ) (q : ℕ) (quotes : List ℕ) (ms : List (List ℕ)) → IsLongest kind n bytes
    → ending bytes 0 false (q ∷ quotes) ms ≡ ending (drop n bytes) 0 false (q ∷ quotes) (ms ++ number_of kind (take n bytes))
past_word kind n [] q quotes ms l = let e = in_front kind n [] l in let z = no_bytes in cc
past_word kind n (b ∷ bytes) q quotes ms l =
    let e = in_front kind n (b ∷ bytes) l in
    steps.by_conversion b q bytes quotes false false false false ms (word_no_space b bytes (kind, n) e) (word_no_comment b bytes (kind, n) e) (word_no_backquote b bytes (kind, n) e) (word_no_quote b bytes (kind, n) e)
    ∙ ap (λ w. at_word (ending bytes) (b ∷ bytes) w (q ∷ quotes) ms) e
    ∙ word_step (b ∷ bytes) n (q ∷ quotes) (ms ++ number_of kind (take n (b ∷ bytes))) (longest_in_front (b ∷ bytes) (kind, n) e).1

mutual
  pub closes_read : {q : ℕ} {bytes rest : List ℕ} {ns : List (List ℕ)} → Closes q bytes rest ns → is_quote q ≡ true → (quotes : List ℕ) (ms : List (List ℕ))
      → ending bytes 0 true (q ∷ quotes) ms ≡ resumed rest false quotes (ms ++ ns)
  closes_read (closing {q = q} {rest = rest} h) u quotes ms = (steps.closes q q rest quotes (eq-eqb q q refl) h).same.2 ms
  closes_read (doubled_quote {q = q} {bytes = bytes} d) u quotes ms =
      (steps.doubled q q q bytes quotes (eq-eqb q q refl) (inl refl)).same.2 ms ∙ ending_nil bytes true (q ∷ quotes) ms ∙ closes_read d u quotes ms
  closes_read (doubled_backquote {q = q} {bytes = bytes} d) u quotes ms =
      (steps.doubled backquote backquote q bytes quotes refl (inr refl)).same.2 ms ∙ ending_nil bytes true (q ∷ quotes) ms ∙ closes_read d u quotes ms
  closes_read (character {q = q} {c = c} {bytes = bytes} n m d) u quotes ms =
      (steps.stays c q bytes quotes (ne_eqb c q n) (ne_eqb c backquote m)).same.2 ms ∙ ending_nil bytes true (q ∷ quotes) ms ∙ closes_read d u quotes ms
  closes_read (conversion {q = q} {bytes = bytes} {more = more} {rest = rest} {ms = ks} {ns = ns} h v d) u quotes ms =
      (steps.converts backquote q bytes quotes (no_quote (λ q. (backquote == q) ≡ false) refl refl q u) refl h).same.2 ms ∙ ending_nil bytes false (q ∷ quotes) ms
      ∙ converts_read v q quotes ms ∙ closes_read d u quotes (ms ++ ks) ∙ ap (resumed rest false quotes) (append_assoc ms ks ns)

  pub converts_read : {bytes rest : List ℕ} {ns : List (List ℕ)} → Converts bytes rest ns → (q : ℕ) (quotes : List ℕ) (ms : List (List ℕ))
      → ending bytes 0 false (q ∷ quotes) ms ≡ ending rest 0 true (q ∷ quotes) (ms ++ ns)
  converts_read (finish {rest = rest}) q quotes ms = (steps.returns backquote q rest quotes refl refl refl).same.2 ms
  converts_read (blank {bytes = bytes} d) q quotes ms = (steps.blank space q bytes quotes refl).same.2 ms ∙ ending_nil bytes false (q ∷ quotes) ms ∙ converts_read d q quotes ms
  converts_read (word {kind = kind} {n = n} {bytes = bytes} {rest = rest} {ns = ns} l d) q quotes ms =
      past_word kind n bytes q quotes ms l ∙ converts_read d q quotes (ms ++ number_of kind (take n bytes)) ∙ ending_assoc rest true (q ∷ quotes) ms (number_of kind (take n bytes)) ns
  converts_read (text {q = p} {bytes = bytes} {more = more} {rest = rest} {ms = ks} {ns = ns} u c d) q quotes ms =
      (steps.opens p q bytes quotes (no_quote (λ q. (q == space) ≡ false) refl refl p u) (no_quote (λ q. (q == backslash) ≡ false) refl refl p u) (no_quote (λ q. (q == backquote) ≡ false) refl refl p u) u).same.2 ms
      ∙ ending_nil bytes true (p ∷ q ∷ quotes) ms ∙ closes_read c u (q ∷ quotes) ms ∙ converts_read d q quotes (ms ++ ks) ∙ ending_assoc rest true (q ∷ quotes) ms ks ns
  converts_read (other {b = b} {bytes = bytes} s c k u n d) q quotes ms =
      steps.by_conversion b q bytes quotes false false false false ms (ne_eqb b space s) (ne_eqb b backslash c) (ne_eqb b backquote k) u
      ∙ ap (λ w. at_word (ending bytes) (b ∷ bytes) w (q ∷ quotes) ms) (none_from_none (b ∷ bytes) n)
      ∙ converts_read d q quotes ms

pub text_read : {q : ℕ} {bytes rest : List ℕ} {ns : List (List ℕ)} → Closes q bytes rest ns → is_quote q ≡ true → text_ending (q ∷ bytes) ≡ Some (rest, ns)
text_read d u = closes_read d u [] []

-- ---- what is read to its end is a closed text

module _ (rest : List ℕ) (ns : List (List ℕ)) where
  -- what stands behind a text within the open ones: the rest of the conversion and of the text round it, and so on
  abbrev pub Outer : List ℕ → List ℕ → List (List ℕ) → Type 0
  Outer [] bytes ms = (bytes ≡ rest) × (ms ≡ ns)
  Outer (q ∷ quotes) bytes ms = (more : List ℕ) × (ks : List (List ℕ)) × Converts bytes more ks
      × ((last : List ℕ) × (ls : List (List ℕ)) × Closes q more last ls × Outer quotes last ((ms ++ ks) ++ ls))

  abbrev pub TextLeft : ℕ → List ℕ → List ℕ → List (List ℕ) → Type 0
  TextLeft q quotes bytes ms = (last : List ℕ) × (ls : List (List ℕ)) × Closes q bytes last ls × Outer quotes last (ms ++ ls)

  abbrev pub Left : Bool → ℕ → List ℕ → List ℕ → List (List ℕ) → Type 0
  Left true q quotes bytes ms = TextLeft q quotes bytes ms
  Left false q quotes bytes ms = Outer (q ∷ quotes) bytes ms

  -- what reads to the end is there
  abbrev pub Reads : List ℕ → Type 0
  Reads bytes = (skip : ℕ) (inside : Bool) (q : ℕ) (quotes : List ℕ) (ms : List (List ℕ)) → ending bytes skip inside (q ∷ quotes) ms ≡ Some (rest, ns)
      → Left inside q quotes (drop skip bytes) ms

  outer_nil : (quotes bytes : List ℕ) (ms : List (List ℕ)) → Outer quotes bytes ms → Outer quotes bytes (ms ++ [])
  outer_nil quotes bytes ms h = subst (Outer quotes bytes) (sym (append-nil ms)) h

  module _ (b : ℕ) (bytes : List ℕ) (ih : Reads bytes) (q : ℕ) (quotes : List ℕ) (ms : List (List ℕ)) where
    -- behind the quote that ends the text
    ended : (qs : List ℕ) → behind_text (ending bytes) bytes qs ms ≡ Some (rest, ns) → Outer qs bytes (ms ++ [])
    ended [] e = let p = same_Some _ _ e in (ap (λ x. x.0) p, append-nil ms ∙ ap (λ x. x.1) p)
    ended (p ∷ qs) e = outer_nil (p ∷ qs) bytes ms (ih 0 false p qs ms e)

    at_quote : b ≡ q → (y : Bool) → begins (λ c. c == q) bytes ≡ y
        → cond y (ending bytes 1 true (q ∷ quotes) ms) (behind_text (ending bytes) bytes quotes ms) ≡ Some (rest, ns) → TextLeft q quotes (b ∷ bytes) ms
    at_quote is true h e = twice bytes h (ih 1 true q quotes ms e)
      where
        twice : (bs : List ℕ) → begins (λ c. c == q) bs ≡ true → TextLeft q quotes (drop 1 bs) ms → TextLeft q quotes (b ∷ bs) ms
        twice [] h t = cc
        twice (c ∷ bs) h (last, ls, d, o) = (last, ls, subst (λ x. Closes q (x ∷ c ∷ bs) last ls) (sym is) (subst (λ x. Closes q (q ∷ x ∷ bs) last ls) (sym (eqb-true c q h)) (doubled_quote d)), o)
    at_quote is false h e = (bytes, [], subst (λ x. Closes q (x ∷ bytes) bytes []) (sym is) (closing h), ended quotes e)

    at_backquote : b ≡ backquote → (w : Bool) → begins (λ c. c == backquote) bytes ≡ w
        → cond w (ending bytes 1 true (q ∷ quotes) ms) (ending bytes 0 false (q ∷ quotes) ms) ≡ Some (rest, ns) → TextLeft q quotes (b ∷ bytes) ms
    at_backquote is true h e = twice bytes h (ih 1 true q quotes ms e)
      where
        twice : (bs : List ℕ) → begins (λ c. c == backquote) bs ≡ true → TextLeft q quotes (drop 1 bs) ms → TextLeft q quotes (b ∷ bs) ms
        twice [] h t = cc
        twice (c ∷ bs) h (last, ls, d, o) = (last, ls, subst (λ x. Closes q (x ∷ c ∷ bs) last ls) (sym is) (subst (λ x. Closes q (backquote ∷ x ∷ bs) last ls) (sym (eqb-true c backquote h)) (doubled_backquote d)), o)
    at_backquote is false h e = converted (ih 0 false q quotes ms e)
      where
        converted : Outer (q ∷ quotes) bytes ms → TextLeft q quotes (b ∷ bytes) ms
        converted (more, ks, v, (last, ls, d, o)) = (
          last,
          ks ++ ls,
          subst (λ x. Closes q (x ∷ bytes) last (ks ++ ls)) (sym is) (conversion h v d),
          subst (Outer quotes last) (append_assoc ms ks ls) o,
        )

    at_character : (b == q) ≡ false → (b == backquote) ≡ false → ending bytes 0 true (q ∷ quotes) ms ≡ Some (rest, ns) → TextLeft q quotes (b ∷ bytes) ms
    at_character n m e = further (ih 0 true q quotes ms e)
      where
        further : TextLeft q quotes bytes ms → TextLeft q quotes (b ∷ bytes) ms
        further (last, ls, d, o) = (last, ls, character (eqb-false b q n) (eqb-false b backquote m) d, o)

    text_left : (x y z w : Bool) → (b == q) ≡ x → begins (λ c. c == q) bytes ≡ y → (b == backquote) ≡ z → begins (λ c. c == backquote) bytes ≡ w
        → ending (b ∷ bytes) 0 true (q ∷ quotes) ms ≡ Some (rest, ns) → TextLeft q quotes (b ∷ bytes) ms
    text_left true y z w ex ey ez ew e = at_quote (eqb-true b q ex) y ey (sym (steps.by_table b q bytes quotes true y z w ms ex ey ez ew) ∙ e)
    text_left false y true w ex ey ez ew e = at_backquote (eqb-true b backquote ez) w ew (sym (steps.by_table b q bytes quotes false y true w ms ex ey ez ew) ∙ e)
    text_left false y false w ex ey ez ew e = at_character ex ez (sym (steps.by_table b q bytes quotes false y false w ms ex ey ez ew) ∙ e)

    -- one more piece in front of what a conversion has left
    in_front_of : (bs : List ℕ) (ks : List (List ℕ)) → ((more : List ℕ) (ls : List (List ℕ)) → Converts bs more ls → Converts (b ∷ bytes) more (ks ++ ls))
        → Outer (q ∷ quotes) bs (ms ++ ks) → Outer (q ∷ quotes) (b ∷ bytes) ms
    in_front_of bs ks piece (more, ls, v, (last, us, d, o)) =
        (more, ks ++ ls, piece more ls v, (last, us, d, subst (λ x. Outer quotes last (x ++ us)) (append_assoc ms ks ls) o))

    at_word_left : (s : (b == space) ≡ false) (c : (b == backslash) ≡ false) (k : (b == backquote) ≡ false) (u : is_quote b ≡ false)
        → (found : Option (TokenKind × ℕ)) → word_in_front (b ∷ bytes) ≡ found → at_word (ending bytes) (b ∷ bytes) found (q ∷ quotes) ms ≡ Some (rest, ns)
        → Outer (q ∷ quotes) (b ∷ bytes) ms
    at_word_left s c k u None f e = further (ih 0 false q quotes ms e)
      where
        further : Outer (q ∷ quotes) bytes ms → Outer (q ∷ quotes) (b ∷ bytes) ms
        further (more, ls, v, t) = (more, ls, other (eqb-false b space s) (eqb-false b backslash c) (eqb-false b backquote k) u (none_in_front (b ∷ bytes) f) v, t)
    at_word_left s c k u (Some w) f e =
        let l = longest_in_front (b ∷ bytes) w f in
        let h : Outer (q ∷ quotes) (drop (w.1 - 1) bytes) (ms ++ number_of w.0 (take w.1 (b ∷ bytes))) = ih (w.1 - 1) false q quotes (ms ++ number_of w.0 (take w.1 (b ∷ bytes))) e in
        in_front_of (drop w.1 (b ∷ bytes)) (number_of w.0 (take w.1 (b ∷ bytes))) (λ more ls v. word l.0 v)
        (subst (λ bs. Outer (q ∷ quotes) bs (ms ++ number_of w.0 (take w.1 (b ∷ bytes)))) (dropped w.1 l.1) h)
      where
        dropped : (n : ℕ) → 0 < n → drop (n - 1) bytes ≡ drop n (b ∷ bytes)
        dropped zero p = absurd (omega arith)
        dropped (suc n) p = let z : suc n - 1 ≡ n = omega arith in ap (λ k. drop k bytes) z

    conversion_left : (s c k u : Bool) → (b == space) ≡ s → (b == backslash) ≡ c → (b == backquote) ≡ k → is_quote b ≡ u
        → steps.conversion_table b q bytes quotes s c k u ms ≡ Some (rest, ns) → Outer (q ∷ quotes) (b ∷ bytes) ms
    conversion_left true c k u es ec ek eu e = further (ih 0 false q quotes ms e)
      where
        further : Outer (q ∷ quotes) bytes ms → Outer (q ∷ quotes) (b ∷ bytes) ms
        further (more, ls, v, t) = (more, ls, subst (λ x. Converts (x ∷ bytes) more ls) (sym (eqb-true b space es)) (blank v), t)
    conversion_left false true k u es ec ek eu e = cc
    conversion_left false false true u es ec ek eu e =
        (bytes, [], subst (λ x. Converts (x ∷ bytes) bytes []) (sym (eqb-true b backquote ek)) finish, subst (TextLeft q quotes bytes) (sym (append-nil ms)) (ih 0 true q quotes ms e))
    conversion_left false false false true es ec ek eu e = further (ih 0 true b (q ∷ quotes) ms e)
      where
        further : TextLeft b (q ∷ quotes) bytes ms → Outer (q ∷ quotes) (b ∷ bytes) ms
        further (last, ls, d, o) = in_front_of last ls (λ more rs v. text eu d v) o
    conversion_left false false false false es ec ek eu e = at_word_left es ec ek eu (word_in_front (b ∷ bytes)) refl e

  pub reads : (bytes : List ℕ) → Reads bytes
  unfolding ending
  reads [] skip inside q quotes ms e = cc
  reads (b ∷ bytes) (suc skip) inside q quotes ms e = reads bytes skip inside q quotes ms e
  reads (b ∷ bytes) zero true q quotes ms e = text_left b bytes (reads bytes) q quotes ms (b == q) (begins (λ c. c == q) bytes) (b == backquote) (begins (λ c. c == backquote) bytes) refl refl refl refl e
  reads (b ∷ bytes) zero false q quotes ms e = conversion_left b bytes (reads bytes) q quotes ms (b == space) (b == backslash) (b == backquote) (is_quote b) refl refl refl refl e

pub text_closed : (q : ℕ) (bytes rest : List ℕ) (ns : List (List ℕ)) → text_ending (q ∷ bytes) ≡ Some (rest, ns) → Closes q bytes rest ns
text_closed q bytes rest ns e = closed (reads rest ns bytes 0 true q [] [] e)
  where
    closed : TextLeft rest ns q [] bytes [] → Closes q bytes rest ns
    closed (last, ls, d, (r, n)) = subst (λ x. Closes q bytes x ns) r (subst (Closes q bytes last) n d)

pub text_open : (q : ℕ) (bytes : List ℕ) → is_quote q ≡ true → text_ending (q ∷ bytes) ≡ None → (rest : List ℕ) (ns : List (List ℕ)) → ¬ (Closes q bytes rest ns)
text_open q bytes u e rest ns d = let f : text_ending (q ∷ bytes) ≡ Some (rest, ns) = text_read d u in cc

-- what is left behind a text is the end of its bytes
abbrev pub Ends : List ℕ → List ℕ → Type 0
Ends bytes rest = (k : ℕ) × (k ≤ length bytes) × (drop k bytes ≡ rest)

ends_same : (bytes : List ℕ) → Ends bytes bytes
ends_same bytes = (0, omega arith, refl)

pub ends_more : (b : ℕ) (bytes rest : List ℕ) → Ends bytes rest → Ends (b ∷ bytes) rest
ends_more b bytes rest (k, l, e) = (suc k, omega arith, e)

ends_on : (bytes more rest : List ℕ) → Ends bytes more → Ends more rest → Ends bytes rest
ends_on bytes more rest (k, l, e) (j, m, f) =
    let size : length bytes - k ≡ length more = sym (length-drop k bytes) ∙ ap length e in
    (k + j, omega arith, sym (drop-drop j k bytes) ∙ ap (drop j) e ∙ f)

mutual
  pub closes_ends : {q : ℕ} {bytes rest : List ℕ} {ns : List (List ℕ)} → Closes q bytes rest ns → Ends bytes rest
  closes_ends (closing {q = q} {rest = rest} h) = ends_more q rest rest (ends_same rest)
  closes_ends (doubled_quote {q = q} {bytes = bytes} {rest = rest} d) = ends_more q (q ∷ bytes) rest (ends_more q bytes rest (closes_ends d))
  closes_ends (doubled_backquote {bytes = bytes} {rest = rest} d) = ends_more backquote (backquote ∷ bytes) rest (ends_more backquote bytes rest (closes_ends d))
  closes_ends (character {c = c} {bytes = bytes} {rest = rest} n m d) = ends_more c bytes rest (closes_ends d)
  closes_ends (conversion {bytes = bytes} {more = more} {rest = rest} h v d) = ends_more backquote bytes rest (ends_on bytes more rest (converts_ends v) (closes_ends d))

  pub converts_ends : {bytes rest : List ℕ} {ns : List (List ℕ)} → Converts bytes rest ns → Ends bytes rest
  converts_ends (finish {rest = rest}) = ends_more backquote rest rest (ends_same rest)
  converts_ends (blank {bytes = bytes} {rest = rest} d) = ends_more space bytes rest (converts_ends d)
  converts_ends (word {n = n} {bytes = bytes} {rest = rest} l d) = ends_on bytes (drop n bytes) rest (n, l.within, refl) (converts_ends d)
  converts_ends (text {q = q} {bytes = bytes} {more = more} {rest = rest} u c d) = ends_more q bytes rest (ends_on bytes more rest (closes_ends c) (converts_ends d))
  converts_ends (other {b = b} {bytes = bytes} {rest = rest} s c k u n d) = ends_more b bytes rest (converts_ends d)
