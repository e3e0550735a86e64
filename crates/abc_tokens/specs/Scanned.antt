-- The same tokens computed, a byte at a time. The laws say that exactly the tokens are found.
use Rattle.std.specs.Prelude.{ℕ, zero, suc, ◌+◌, ◌-◌, Bool, true, false, ◌&&◌, ◌||◌, ◌==◌, List, [], ◌∷◌, ◌++◌, length, take, drop, Option, Some, None, if◌then◌else◌}
use Rattle.std.specs.List.{list_any, prefix_len}
use Rattle.abc_tokens.specs.declared.kinds.Token.{Token}
use Rattle.abc_tokens.specs.declared.kinds.TokenKind.{TokenKind}
use Rattle.abc_tokens.specs.declared.kinds.TokenKind.TheVariants as kind
use Rattle.abc_tokens.specs.Bytes.{is_small, is_capital, is_digit, is_quote, space, backslash, backquote, point, begins}
use Rattle.abc_tokens.specs.Words.{goes_on, single_signs, second_signs, number_of}
use Rattle.abc_tokens.specs.Tokens.{place, token}

-- the case of a word
abbrev pub letter : Bool → ℕ → Bool
letter capital b = if capital then is_capital b else is_small b

-- whether a word goes on with the first of these bytes
abbrev pub continues : (ℕ → Bool) → List ℕ → Bool
continues letter [] = false
continues letter (b ∷ bytes) = goes_on letter b || ((b == point) && begins (goes_on letter) bytes)

-- how many bytes the rest of a word has
abbrev pub tail_length : (ℕ → Bool) → List ℕ → ℕ
tail_length letter [] = 0
tail_length letter (b ∷ bytes) = if continues letter (b ∷ bytes) then suc (tail_length letter bytes) else 0

-- how many digits stand in front
abbrev pub digits : List ℕ → ℕ
digits bytes = prefix_len is_digit bytes

-- a point and a digit
abbrev pub begins_decimals : List ℕ → Bool
begins_decimals [] = false
begins_decimals (b ∷ bytes) = (b == point) && begins is_digit bytes

-- how many bytes a point and the digits behind it have
abbrev pub decimals : List ℕ → ℕ
decimals [] = 0
decimals (b ∷ bytes) = if begins_decimals (b ∷ bytes) then suc (digits bytes) else 0

abbrev pub number_length : List ℕ → ℕ
number_length bytes = digits bytes + decimals (drop (digits bytes) bytes)

abbrev pub is_double : ℕ → List ℕ → Bool
is_double b bytes = begins (λ c. list_any (λ second. second == c) (second_signs b)) bytes

abbrev pub is_single : ℕ → Bool
is_single b = list_any (λ sign. sign == b) single_signs

-- the name, keyword, number or sign in front, with its length
unfoldable pub word_in_front : List ℕ → Option (TokenKind × ℕ)
word_in_front [] = None
word_in_front (b ∷ bytes) = if is_small b then Some (kind.Name, suc (tail_length is_small bytes))
    else (if is_capital b then Some (kind.Keyword, suc (tail_length is_capital bytes))
    else (if is_digit b || begins_decimals (b ∷ bytes) then Some (kind.Number, number_length (b ∷ bytes))
    else (if is_double b bytes then Some (kind.Sign, 2)
    else (if is_single b then Some (kind.Sign, 1) else None))))

-- what is left behind a text, and the numbers in it; none where it isn't closed
abbrev pub Ending : Type 0
Ending = Option (List ℕ × List (List ℕ))

-- bytes to pass over, whether reading stands in the characters of a text, quotes of the open texts, numbers so far
abbrev pub Next : Type 0
Next = ℕ → Bool → List ℕ → List (List ℕ) → Ending

module _ (next : Next) where
  -- behind the quote that ends a text: at the end of all, or in a conversion
  abbrev pub behind_text : List ℕ → List ℕ → List (List ℕ) → Ending
  behind_text bytes [] ns = Some (bytes, ns)
  behind_text bytes (q ∷ quotes) ns = next 0 false (q ∷ quotes) ns

  abbrev pub in_text : ℕ → List ℕ → List ℕ → List (List ℕ) → Ending
  in_text b bytes [] ns = None
  in_text b bytes (q ∷ quotes) ns = if b == q then (if begins (λ c. c == q) bytes then next 1 true (q ∷ quotes) ns else behind_text bytes quotes ns)
      else (if b == backquote then (if begins (λ c. c == backquote) bytes then next 1 true (q ∷ quotes) ns else next 0 false (q ∷ quotes) ns)
      else next 0 true (q ∷ quotes) ns)

  abbrev pub at_word : List ℕ → Option (TokenKind × ℕ) → List ℕ → List (List ℕ) → Ending
  at_word bytes None quotes ns = next 0 false quotes ns
  at_word bytes (Some w) quotes ns = next (w.1 - 1) false quotes (ns ++ number_of w.0 (take w.1 bytes))

  abbrev pub in_conversion : ℕ → List ℕ → List ℕ → List (List ℕ) → Ending
  in_conversion b bytes quotes ns = if b == space then next 0 false quotes ns
      else (if b == backslash then None
      else (if b == backquote then next 0 true quotes ns
      else (if is_quote b then next 0 true (b ∷ quotes) ns
      else at_word (b ∷ bytes) (word_in_front (b ∷ bytes)) quotes ns)))

unfoldable pub ending : List ℕ → Next
ending [] skip inside quotes ns = None
ending (b ∷ bytes) (suc skip) inside quotes ns = ending bytes skip inside quotes ns
ending (b ∷ bytes) zero true quotes ns = in_text (ending bytes) b bytes quotes ns
ending (b ∷ bytes) zero false quotes ns = in_conversion (ending bytes) b bytes quotes ns

-- the same, of the text that begins here
abbrev pub text_ending : List ℕ → Ending
text_ending [] = None
text_ending (q ∷ bytes) = ending bytes 0 true (q ∷ []) []

abbrev pub Found : Type 0
Found = Option (List Token × List (List ℕ))

-- a token and numbers before those that are found
abbrev pub onto : Token → List (List ℕ) → Found → Found
onto t ms None = None
onto t ms (Some found) = Some (t ∷ found.0, ms ++ found.1)

module _ (loose : Bool) (len : ℕ) (next : ℕ → Found) where
  abbrev pub with_text : List ℕ → Ending → Found
  with_text here (Some end) = onto (token kind.Text (place len here) (place len end.0)) end.1 (next (length here - 1 - length end.0))
  with_text here None = if loose then Some (token kind.Text (place len here) len ∷ [], []) else None

  abbrev pub with_word : List ℕ → Option (TokenKind × ℕ) → Found
  with_word here (Some w) = onto (token w.0 (place len here) (place len here + w.1)) (number_of w.0 (take w.1 here)) (next (w.1 - 1))
  with_word here None = onto (token kind.Other (place len here) (place len here + 1)) [] (next 0)

  abbrev pub with_byte : ℕ → List ℕ → Found
  with_byte b bytes = if b == space then next 0
      else (if b == backslash then Some ([], [])
      else (if is_quote b then with_text (b ∷ bytes) (text_ending (b ∷ bytes))
      else with_word (b ∷ bytes) (word_in_front (b ∷ bytes))))

-- the tokens of the last bytes of a line of this length, behind those to pass over
unfoldable pub scanned : Bool → ℕ → List ℕ → ℕ → Found
scanned loose len [] skip = Some ([], [])
scanned loose len (b ∷ bytes) (suc skip) = scanned loose len bytes skip
scanned loose len (b ∷ bytes) zero = with_byte loose len (scanned loose len bytes) b bytes
