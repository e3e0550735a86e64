-- Pieces of a line: bytes in front of others, and the lexemes that they are there.
use Rattle.std.proofs.Common.{◌≡◌, ℕ, zero, suc, ◌+◌, ◌-◌, ◌≤◌, Bool, true, false, ◌&&◌, cond, List, [], ◌∷◌, ◌++◌, map, length, take, drop, Some, refl, sym, ap, ◌∙◌, subst, arith, length-append}
use Rattle.std.specs.Prelude.{All, not, ◌||◌, ◌==◌}
use Rattle.std.specs.List.{list_all}
use Rattle.std.proofs.lemmas.List.{append_assoc}
use Rattle.std.proofs.Math.Seq.{take-append_seam, drop-append_seam}
use Rattle.std.proofs.lemmas.List.Elements.{All-nil, All-append}
use Rattle.std.proofs.lemmas.List.Folds.{list_all-append}
use Rattle.abc_value.specs.Tree.{Tree}
use Rattle.abc_tokens.specs.declared.kinds.Token.{Token}
use Rattle.abc_tokens.specs.declared.kinds.TokenKind.{TokenKind}
use Rattle.abc_tokens.specs.declared.kinds.TokenKind.TheVariants as kind
use Rattle.abc_tokens.specs.Bytes.{is_character, is_digit, is_quote, space, backslash, point, begins}
use Rattle.abc_tokens.specs.Words.{number_of}
use Rattle.abc_tokens.specs.Tokens.{place, token, HasTokens, AreTokens, IsSound}
use Rattle.abc_tokens.specs.Scanned.{Found, onto, scanned, with_text, with_word, word_in_front, text_ending}
use Rattle.abc_print.specs.declared.frames.Lexeme.{Lexeme}
use Rattle.abc_print.specs.Lexemes.{Seen, seen, HasLexemes, none, IsLiteralLine}
use Rattle.abc_print.specs.Literals.{IsLiteral}
use Rattle.abc_tokens.proofs.Placed.{IsSuffix, suffix_drop, whole_suffix, taken}
use Rattle.abc_tokens.proofs.Faults.{OneReading}
use Rattle.std.proofs.lemmas.Option.{same_Some}

-- the tokens of the last bytes of a line, as literals see them
pub record IsSeenAt (line bytes : List ℕ) (us : List Seen) : Type 0 where
  pub tokens : List Token
  pub numbers : List (List ℕ)
  pub found : scanned false (length line) bytes 0 ≡ Some (tokens, numbers)
  pub sound : All IsSound numbers
  pub same : map (seen line) tokens ≡ us

-- the bytes are characters, and these are their tokens in each line that ends with them
pub record AreSeen (bytes : List ℕ) (us : List Seen) : Type 0 where
  pub characters : list_all is_character bytes ≡ true
  pub at : (line : List ℕ) → IsSuffix line bytes → IsSeenAt line bytes us

-- and these are their lexemes
pub record Reads (bytes : List ℕ) (ls : List Lexeme) : Type 0 where
  pub tokens : List Seen
  pub are_seen : AreSeen bytes tokens
  pub lexemes : HasLexemes tokens ls

-- ---- one token in front

nothing : (len : ℕ) → scanned false len [] 0 ≡ Some ([], [])
unfolding scanned
nothing len = refl

end_seen : AreSeen [] []
end_seen = record {
  characters = refl;
  at = λ line s. record { tokens = []; numbers = []; found = nothing (length line); sound = All-nil IsSound; same = refl };
}

passed : (len : ℕ) (bytes : List ℕ) (n : ℕ) → scanned false len bytes n ≡ scanned false len (drop n bytes) 0
unfolding scanned
passed len [] zero = refl
passed len [] (suc n) = refl
passed len (b ∷ bytes) zero = refl
passed len (b ∷ bytes) (suc n) = passed len bytes n

behind_blank : (len : ℕ) (bytes : List ℕ) → scanned false len (space ∷ bytes) 0 ≡ scanned false len bytes 0
unfolding scanned
behind_blank len bytes = refl

blank_seen : (rest : List ℕ) (us : List Seen) → AreSeen rest us → AreSeen (space ∷ rest) us
blank_seen rest us h = record { characters = h.characters; at = at }
  where
    at : (line : List ℕ) → IsSuffix line (space ∷ rest) → IsSeenAt line (space ∷ rest) us
    at line s =
        let g = h.at line (suffix_drop line (space ∷ rest) 1 (omega arith) s) in
        record { tokens = g.tokens; numbers = g.numbers; found = behind_blank (length line) rest ∙ g.found; sound = g.sound; same = g.same }

-- a byte that begins no blank, comment or text
abbrev pub begins_word : ℕ → Bool
begins_word b = not (b == space) && (not (b == backslash) && not (is_quote b))

-- what a byte gives by the three tests
abbrev table : (len : ℕ) (b : ℕ) (bytes : List ℕ) (s c u : Bool) → Found
table len b bytes s c u = cond s (scanned false len bytes 0) (cond c (Some ([], []))
    (cond u (with_text false len (scanned false len bytes) (b ∷ bytes) (text_ending (b ∷ bytes)))
    (with_word false len (scanned false len bytes) (b ∷ bytes) (word_in_front (b ∷ bytes)))))

by_table : (len b : ℕ) (bytes : List ℕ) → scanned false len (b ∷ bytes) 0 ≡ table len b bytes (b == space) (b == backslash) (is_quote b)
unfolding scanned
by_table len b bytes = refl

at_word : (len b : ℕ) (bytes : List ℕ) (s c u : Bool) → (not s && (not c && not u)) ≡ true
    → table len b bytes s c u ≡ with_word false len (scanned false len bytes) (b ∷ bytes) (word_in_front (b ∷ bytes))
at_word len b bytes true c u h = cc
at_word len b bytes false true u h = cc
at_word len b bytes false false true h = cc
at_word len b bytes false false false h = refl

pub characters-append : (xs ys : List ℕ) → list_all is_character xs ≡ true → list_all is_character ys ≡ true → list_all is_character (xs ++ ys) ≡ true
characters-append xs ys h k = list_all-append is_character xs ys ∙ ap (λ z. z && list_all is_character ys) h ∙ k

module _ (b : ℕ) (word rest : List ℕ) where
  abbrev here : List ℕ
  here = b ∷ (word ++ rest)

  abbrev size : ℕ
  size = suc (length word)

  taken_here : take size here ≡ b ∷ word
  taken_here = ap (λ z. b ∷ z) (take-append_seam word rest)

  dropped_here : drop size here ≡ rest
  dropped_here = drop-append_seam word rest

  is_within : size ≤ length here
  is_within = omega (arith, length-append word rest)

  suffix_rest : (line : List ℕ) → IsSuffix line here → IsSuffix line rest
  suffix_rest line s = subst (IsSuffix line) dropped_here (suffix_drop line here size is_within s)

  module _ (us : List Seen) (good : list_all is_character (b ∷ word) ≡ true) (h : AreSeen rest us) where
    all_characters : list_all is_character here ≡ true
    all_characters = characters-append (b ∷ word) rest good h.characters

    -- the token in front is seen as its bytes
    seen_first : (line : List ℕ) → IsSuffix line here → (k : TokenKind) → seen line (token k (place (length line) here) (place (length line) here + size)) ≡ (k, b ∷ word)
    seen_first line s k = ap (λ z. (k, z)) (taken line here size s ∙ taken_here)

    pub word_seen : (k : TokenKind) → begins_word b ≡ true → word_in_front here ≡ Some (k, size) → All IsSound (number_of k (b ∷ word)) → AreSeen here ((k, b ∷ word) ∷ us)
    word_seen k first e sound = record { characters = all_characters; at = at }
      where
        at : (line : List ℕ) → IsSuffix line here → IsSeenAt line here ((k, b ∷ word) ∷ us)
        at line s =
            let len = length line in
            let t = token k (place len here) (place len here + size) in
            let g = h.at line (suffix_rest line s) in
            let less : size - 1 ≡ length word = omega arith in
            let found = by_table len b (word ++ rest) ∙ at_word len b (word ++ rest) (b == space) (b == backslash) (is_quote b) first
            ∙ ap (with_word false len (scanned false len (word ++ rest)) here) e
            ∙ ap (λ z. onto t (number_of k (take size here)) (scanned false len (word ++ rest) z)) less
            ∙ ap (λ z. onto t (number_of k z) (scanned false len (word ++ rest) (length word))) taken_here
            ∙ ap (onto t (number_of k (b ∷ word))) (passed len (word ++ rest) (length word) ∙ ap (λ z. scanned false len z 0) dropped_here ∙ g.found) in
            record {
              tokens = t ∷ g.tokens;
              numbers = number_of k (b ∷ word) ++ g.numbers;
              found = found;
              sound = All-append IsSound (number_of k (b ∷ word)) g.numbers sound g.sound;
              same = ap (λ z. z ∷ map (seen line) g.tokens) (seen_first line s k) ∙ ap (λ z. (k, b ∷ word) ∷ z) g.same;
            }

    at_text : (len : ℕ) (s c u : Bool) → s ≡ false → c ≡ false → u ≡ true
        → table len b (word ++ rest) s c u ≡ with_text false len (scanned false len (word ++ rest)) here (text_ending here)
    at_text len s c u es ec eu = rw (es, ec, eu) refl

    pub text_seen : (b == space) ≡ false → (b == backslash) ≡ false → is_quote b ≡ true → text_ending here ≡ Some (rest, []) → AreSeen here ((kind.Text, b ∷ word) ∷ us)
    text_seen es ec eu e = record { characters = all_characters; at = at }
      where
        at : (line : List ℕ) → IsSuffix line here → IsSeenAt line here ((kind.Text, b ∷ word) ∷ us)
        at line s =
            let len = length line in
            let t = token kind.Text (place len here) (place len here + size) in
            let g = h.at line (suffix_rest line s) in
            let long = length-append word rest in
            let end : place len rest ≡ place len here + size = omega (arith, long, s.short) in
            let skip : length here - 1 - length rest ≡ length word = omega (arith, long) in
            let found = by_table len b (word ++ rest) ∙ at_text len (b == space) (b == backslash) (is_quote b) es ec eu
            ∙ ap (with_text false len (scanned false len (word ++ rest)) here) e
            ∙ ap (λ z. onto (token kind.Text (place len here) z) [] (scanned false len (word ++ rest) (length here - 1 - length rest))) end
            ∙ ap (λ z. onto t [] (scanned false len (word ++ rest) z)) skip
            ∙ ap (onto t []) (passed len (word ++ rest) (length word) ∙ ap (λ z. scanned false len z 0) dropped_here ∙ g.found) in
            record {
              tokens = t ∷ g.tokens;
              numbers = g.numbers;
              found = found;
              sound = g.sound;
              same = ap (λ z. z ∷ map (seen line) g.tokens) (seen_first line s kind.Text) ∙ ap (λ z. (kind.Text, b ∷ word) ∷ z) g.same;
            }

-- ---- pieces

-- a number or a text could go on with this byte
abbrev pub goes_on : ℕ → Bool
goes_on b = is_digit b || ((b == point) || (b == 34))

-- no number or text goes on with these bytes
abbrev pub Fits : List ℕ → Type 0
Fits rest = begins goes_on rest ≡ false

-- the bytes are these lexemes, whatever stands behind them, as long as it fits
abbrev pub IsPiece : List ℕ → List Lexeme → Type 0
IsPiece front ls = (rest : List ℕ) (ms : List Lexeme) → Fits rest → Reads rest ms → Reads (front ++ rest) (ls ++ ms)

-- the same, whatever stands behind them
abbrev pub IsFree : List ℕ → List Lexeme → Type 0
IsFree front ls = (rest : List ℕ) (ms : List Lexeme) → Reads rest ms → Reads (front ++ rest) (ls ++ ms)

-- the first byte is there, and fits behind a piece
abbrev pub begins_apart : List ℕ → Bool
begins_apart b = begins (λ c. not (goes_on c)) b

pub apart_fits : (b rest : List ℕ) → begins_apart b ≡ true → Fits (b ++ rest)
apart_fits [] rest h = cc
apart_fits (c ∷ b) rest h = by_test (goes_on c) h
  where
    by_test : (t : Bool) → not t ≡ true → t ≡ false
    by_test true h = cc
    by_test false h = refl

regrouped : (a b rest : List ℕ) (ls ms ns : List Lexeme) → Reads (a ++ (b ++ rest)) (ls ++ (ms ++ ns)) → Reads ((a ++ b) ++ rest) ((ls ++ ms) ++ ns)
regrouped a b rest ls ms ns r = subst (λ x. Reads x ((ls ++ ms) ++ ns)) (sym (append_assoc a b rest)) (subst (Reads (a ++ (b ++ rest))) (sym (append_assoc ls ms ns)) r)

pub free_then_free : (a b : List ℕ) (ls ms : List Lexeme) → IsFree a ls → IsFree b ms → IsFree (a ++ b) (ls ++ ms)
free_then_free a b ls ms h k rest ns r = regrouped a b rest ls ms ns (h (b ++ rest) (ms ++ ns) (k rest ns r))

pub blank_piece : IsFree (space ∷ []) []
blank_piece rest ms r = record { tokens = r.tokens; are_seen = blank_seen rest r.tokens r.are_seen; lexemes = r.lexemes }

-- ---- a whole line

pub end_reads : Reads [] []
end_reads = record { tokens = []; are_seen = end_seen; lexemes = none }

-- a line has no other tokens than those that it is seen as
pub spelled_line : OneReading → (line : List ℕ) (ls : List Lexeme) (t : Tree) → Reads line ls → IsLiteral t ls → IsLiteralLine line t
spelled_line law line ls t r spells =
    let g = r.are_seen.at line (whole_suffix line) in
    let only : (us : List Token) (ns : List (List ℕ)) → HasTokens line us ns → us ≡ g.tokens =
    λ us ns k. ap (λ (p : List Token × List (List ℕ)). p.0) (same_Some _ _ (sym ((law line us ns).0 k) ∙ g.found)) in
    let tokens : AreTokens line g.tokens =
    record { characters = r.are_seen.characters; found = (g.numbers, (law line g.tokens g.numbers).1 g.found, g.sound); only = only } in
    (g.tokens, tokens, ls, subst (λ (us : List Seen). HasLexemes us ls) (sym g.same) r.lexemes, spells)
