-- A conversion by its tokens: what stands in one has tokens, and tokens that stand before a backquote are one.
use Rattle.std.proofs.Common.{◌≡◌, ℕ, suc, ◌+◌, ◌-◌, ◌≤◌, Bool, true, false, List, [], ◌∷◌, ◌++◌, length, take, drop, refl, ap, sym, ◌∙◌, subst, arith, append_assoc, length-append, length-drop, eqb-true}
use Rattle.std.specs.Prelude.{◌==◌}
use Rattle.std.specs.List.{list_all}
use Rattle.std.proofs.lemmas.Bool.{eqb-false}
use Rattle.std.proofs.lemmas.List.{drop-drop, drop-append-le, take-append-le}
use Rattle.abc_tokens.specs.declared.kinds.Token.{Token}
use Rattle.abc_tokens.specs.declared.kinds.TokenKind.{TokenKind}
use Rattle.abc_tokens.specs.Bytes.{is_quote, space, backquote, begins}
use Rattle.abc_tokens.specs.Words.{IsLongest, number_of}
use Rattle.abc_tokens.specs.Texts.{Closes, Converts, finish, blank, word, text, other}
use Rattle.abc_tokens.specs.Tokens as tk
use Rattle.abc_tokens.specs.Tokens.{Tokens, HasTokens, place}
use Rattle.abc_tokens.proofs.Bare.{SpacesBehind, space_behind}
use Rattle.abc_tokens.proofs.InFront.{in_front, none_from_none, longest_in_front, none_in_front}
use Rattle.abc_tokens.proofs.TextLaws.{no_quote, closes_ends}
use Rattle.abc_tokens.proofs.LongestTexts.{TextFront, text_front, closes_stops, word_end, begins_end, conversion_front}

-- what stands in a conversion, with its tokens
pub record Inner (bytes rest : List ℕ) (ns : List (List ℕ)) : Type 0 where
  pub inner : List ℕ
  pub is : bytes ≡ inner ++ backquote ∷ rest
  pub tokens : List Token
  pub has : HasTokens inner tokens ns
  pub bare : SpacesBehind inner 0 tokens

pub inner_of : {bytes rest : List ℕ} {ns : List (List ℕ)} → Converts bytes rest ns → Inner bytes rest ns
inner_of d =
    let c = conversion_front d in
    let t = c.tokens (length c.front) in
    record { inner = c.front; is = c.is; tokens = t.0; has = t.1; bare = t.2 c.front 0 (omega arith) refl }

-- a conversion ends at the backquote behind these bytes or before it, with the first of the numbers
pub record UpTo (t bytes : List ℕ) (ns : List (List ℕ)) : Type 0 where
  pub rest : List ℕ
  pub numbers : List (List ℕ)
  pub others : List (List ℕ)
  pub converts : Converts (bytes ++ backquote ∷ t) rest numbers
  pub all : ns ≡ numbers ++ others
  pub left : length t ≤ length rest

-- a text stands before more
text_before : {q : ℕ} {bytes rest : List ℕ} {ns : List (List ℕ)} (t : List ℕ) → is_quote q ≡ true → Closes q bytes rest ns → Closes q (bytes ++ backquote ∷ t) (rest ++ backquote ∷ t) ns
text_before {q = q} {bytes = bytes} {rest = rest} {ns = ns} t u c =
    let f : TextFront q bytes rest ns = text_front c u in
    let x = backquote ∷ t in
    let same : bytes ++ x ≡ f.front ++ q ∷ (rest ++ x) = ap (λ z. z ++ x) f.is ∙ append_assoc f.front (q ∷ rest) x in
    let stops : begins (λ b. b == q) (rest ++ x) ≡ false = begins_end t (λ b. b == q) (no_quote (λ q. (backquote == q) ≡ false) refl refl q u) rest ∙ closes_stops c in
    subst (λ z. Closes q z (rest ++ x) ns) (sym same) (f.ends (rest ++ x) stops)

module _ (t : List ℕ) where
  word_up_to : (k : TokenKind) (n : ℕ) (bytes : List ℕ) (ns : List (List ℕ)) → IsLongest k n bytes → UpTo t (drop n bytes) ns → UpTo t bytes (number_of k (take n bytes) ++ ns)
  word_up_to k n bytes ns l u =
      let x = backquote ∷ t in
      let m = (longest_in_front (bytes ++ x) (k, n) (word_end t bytes ∙ in_front k n bytes l)).0 in
      let behind : Converts (drop n (bytes ++ x)) u.rest u.numbers = subst (λ z. Converts z u.rest u.numbers) (sym (drop-append-le n bytes x l.within)) u.converts in
      record {
        rest = u.rest;
        numbers = number_of k (take n bytes) ++ u.numbers;
        others = u.others;
        converts = subst (λ z. Converts (bytes ++ x) u.rest (number_of k z ++ u.numbers)) (take-append-le n bytes x l.within) (word m behind);
        all = ap (λ z. number_of k (take n bytes) ++ z) u.all ∙ sym (append_assoc (number_of k (take n bytes)) u.numbers u.others);
        left = u.left;
      }

  other_up_to : (b : ℕ) (bytes : List ℕ) (ns : List (List ℕ)) → (x : Bool) → (b == backquote) ≡ x → (((b == backquote) ≡ false) → UpTo t (b ∷ bytes) ns) → UpTo t (b ∷ bytes) ns
  other_up_to b bytes ns false e f = f e
  other_up_to b bytes ns true e f = record {
    rest = bytes ++ backquote ∷ t;
    numbers = [];
    others = ns;
    converts = subst (λ z. Converts (z ∷ (bytes ++ backquote ∷ t)) (bytes ++ backquote ∷ t) []) (sym (eqb-true b backquote e)) finish;
    all = refl;
    left = omega (arith, length-append bytes (backquote ∷ t));
  }

  module _ (line : List ℕ) where
    up_to : {bytes : List ℕ} {ts : List Token} {ns : List (List ℕ)} → Tokens false (length line) bytes ts ns → (p : ℕ) → p + length bytes ≡ length line → drop p line ≡ bytes
        → SpacesBehind line p ts → UpTo t bytes ns
    up_to tk.none p total at h = record { rest = t; numbers = []; others = []; converts = finish; all = refl; left = omega arith }
    up_to tk.comment p total at h = let e = sym (ap (list_all (λ b. b == space)) at) ∙ h in cc
    up_to (tk.blank {bytes = bytes} {ts = ts} {ns = ns} d) p total at h =
        let u : UpTo t bytes ns = up_to d (p + 1) (omega arith) (sym (drop-drop 1 p line) ∙ ap (drop 1) at) (space_behind line bytes p ts at h) in
        record { rest = u.rest; numbers = u.numbers; others = u.others; converts = blank u.converts; all = u.all; left = u.left }
    up_to (tk.word {k = k} {n = n} {bytes = bytes} {ts = ts} {ns = ns} l d) p total at h =
        let size : length (drop n bytes) ≡ length bytes - n = length-drop n bytes in
        let few : n ≤ length bytes = l.within in
        let here : place (length line) bytes + n ≡ p + n = omega arith in
        word_up_to k n bytes ns l (up_to d (p + n) (omega arith) (sym (drop-drop n p line) ∙ ap (drop n) at) (subst (λ x. SpacesBehind line x ts) here h))
    up_to (tk.text {q = q} {bytes = bytes} {rest = rest} {ts = ts} {ms = ms} {ns = ns} u c d) p total at h =
        let end = closes_ends c in
        let few : end.0 ≤ length bytes = end.1 in
        let size : length rest ≡ length bytes - end.0 = ap length (sym end.2) ∙ length-drop end.0 bytes in
        let here : place (length line) rest ≡ p + suc end.0 = omega arith in
        let v : UpTo t rest ns = up_to d (p + suc end.0) (omega arith) (sym (drop-drop (suc end.0) p line) ∙ ap (drop (suc end.0)) at ∙ end.2) (subst (λ x. SpacesBehind line x ts) here h) in
        record {
          rest = v.rest;
          numbers = ms ++ v.numbers;
          others = v.others;
          converts = text u (text_before t u c) v.converts;
          all = ap (λ z. ms ++ z) v.all ∙ sym (append_assoc ms v.numbers v.others);
          left = v.left;
        }
    up_to (tk.other {b = b} {bytes = bytes} {ts = ts} {ns = ns} s c u n d) p total at h =
        let here : place (length line) (b ∷ bytes) + 1 ≡ p + 1 = omega arith in
        let v : UpTo t bytes ns = up_to d (p + 1) (omega arith) (sym (drop-drop 1 p line) ∙ ap (drop 1) at) (subst (λ x. SpacesBehind line x ts) here h) in
        other_up_to b bytes ns (b == backquote) refl (λ k. record {
          rest = v.rest;
          numbers = v.numbers;
          others = v.others;
          converts = other s c (eqb-false b backquote k) u (none_in_front (b ∷ (bytes ++ backquote ∷ t)) (word_end t (b ∷ bytes) ∙ none_from_none (b ∷ bytes) n)) v.converts;
          all = v.all;
          left = v.left;
        })
    up_to (tk.open_text y u n) p total at h = cc

pub tokens_up_to : (line t : List ℕ) (ts : List Token) (ns : List (List ℕ)) → HasTokens line ts ns → SpacesBehind line 0 ts → UpTo t line ns
tokens_up_to line t ts ns d h = up_to t line d 0 (omega arith) refl h
