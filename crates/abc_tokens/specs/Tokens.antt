-- The tokens of a line, and its faults.
use Rattle.std.specs.Prelude.{◌≡◌, ◌≢◌, ℕ, ◌+◌, ◌-◌, pos, Bool, true, false, List, [], ◌∷◌, ◌++◌, length, take, drop, All, Any}
use Rattle.abc_num.specs.Literal.{literal_numerator, literal_denominator}
use Rattle.abc_num.specs.Number.{Fraction}
use Rattle.abc_num.specs.Ratio.{HasValue, IsNoNumber}
use Rattle.abc_tokens.specs.declared.kinds.Token.{Token}
use Rattle.abc_tokens.specs.declared.kinds.TokenFault.{TokenFault}
use Rattle.abc_tokens.specs.declared.kinds.TokenFault.TheVariants.{BadByte, OpenText, BadNumber, Memory}
use Rattle.abc_tokens.specs.declared.kinds.TokenKind.{TokenKind}
use Rattle.abc_tokens.specs.declared.kinds.TokenKind.TheVariants as kind
use Rattle.abc_num.specs.Characters.{are_characters}
use Rattle.abc_tokens.specs.Bytes.{is_quote, space, backslash}
use Rattle.abc_tokens.specs.Words.{IsLongest, BeginsNone, number_of}
use Rattle.abc_tokens.specs.Texts.{Closes}

-- where these bytes begin, which are the last of a line of this length
abbrev pub place : ℕ → List ℕ → ℕ
place len bytes = len - length bytes

abbrev pub token : TokenKind → ℕ → ℕ → Token
token kind start end = record { kind = kind; start = start; end = end }

-- The tokens of the last bytes of a line of this length, each as long as possible, and the numbers among them, those in
-- conversions too. Read loosely, a text that isn't closed is one token up to the end.
pub data Tokens (loose : Bool) (len : ℕ) : List ℕ → List Token → List (List ℕ) → Type 0 where
  none : Tokens loose len [] [] []
  comment : {bytes : List ℕ} → Tokens loose len (backslash ∷ bytes) [] []
  blank : {bytes : List ℕ} {ts : List Token} {ns : List (List ℕ)} → Tokens loose len bytes ts ns → Tokens loose len (space ∷ bytes) ts ns
  word : {k : TokenKind} {n : ℕ} {bytes : List ℕ} {ts : List Token} {ns : List (List ℕ)} → IsLongest k n bytes
      → Tokens loose len (drop n bytes) ts ns
      → Tokens loose len bytes (token k (place len bytes) (place len bytes + n) ∷ ts) (number_of k (take n bytes) ++ ns)
  text : {q : ℕ} {bytes rest : List ℕ} {ts : List Token} {ms ns : List (List ℕ)} → is_quote q ≡ true → Closes q bytes rest ms
      → Tokens loose len rest ts ns
      → Tokens loose len (q ∷ bytes) (token kind.Text (place len (q ∷ bytes)) (place len rest) ∷ ts) (ms ++ ns)
  other : {b : ℕ} {bytes : List ℕ} {ts : List Token} {ns : List (List ℕ)} → b ≢ space → b ≢ backslash → is_quote b ≡ false
      → BeginsNone (b ∷ bytes) → Tokens loose len bytes ts ns
      → Tokens loose len (b ∷ bytes) (token kind.Other (place len (b ∷ bytes)) (place len (b ∷ bytes) + 1) ∷ ts) ns
  open_text : {q : ℕ} {bytes : List ℕ} → loose ≡ true → is_quote q ≡ true
      → ((rest : List ℕ) (ns : List (List ℕ)) → ¬ (Closes q bytes rest ns))
      → Tokens loose len (q ∷ bytes) (token kind.Text (place len (q ∷ bytes)) len ∷ []) []

-- the tokens of a line, and the numbers among them
abbrev pub HasTokens : List ℕ → List Token → List (List ℕ) → Type 0
HasTokens line ts ns = Tokens false (length line) line ts ns

-- a number token has a value
abbrev pub IsSound : List ℕ → Type 0
IsSound n = (value : Fraction) × HasValue (pos (literal_numerator n)) (pos (literal_denominator n)) value

-- no number is the value of a number token
abbrev pub IsBadNumber : List ℕ → Type 0
IsBadNumber n = IsNoNumber (pos (literal_numerator n)) (pos (literal_denominator n))

-- each byte of the line is a character, those of a comment too
abbrev pub has_characters : List ℕ → Bool
has_characters line = are_characters line

-- these are the tokens of a line without a fault, and no others are
pub record AreTokens (line : List ℕ) (ts : List Token) : Type 0 where
  pub characters : has_characters line ≡ true
  pub found : (ns : List (List ℕ)) × HasTokens line ts ns × All IsSound ns
  pub only : (us : List Token) (ns : List (List ℕ)) → HasTokens line us ns → us ≡ ts

-- a text or conversion isn't closed: no list of tokens reads the line
pub record HasOpenText (line : List ℕ) : Type 0 where
  pub characters : has_characters line ≡ true
  pub unread : (ts : List Token) (ns : List (List ℕ)) → ¬ (HasTokens line ts ns)

-- the line is read, and the value of a number among its tokens is no number
pub record HasBadNumber (line : List ℕ) : Type 0 where
  pub characters : has_characters line ≡ true
  pub found : (ts : List Token) × (ns : List (List ℕ)) × HasTokens line ts ns × Any IsBadNumber ns

-- what each fault says of the line; Memory says nothing
abbrev pub HasFault : List ℕ → TokenFault → Type 0
HasFault line BadByte = has_characters line ≡ false
HasFault line OpenText = HasOpenText line
HasFault line BadNumber = HasBadNumber line
HasFault line Memory = Unit {0}
