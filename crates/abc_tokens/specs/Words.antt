-- Names, keywords, numbers and signs: what they are, and which stands in front of some bytes.
use Rattle.std.specs.Prelude.{◌≡◌, ◌⊎◌, ℕ, ◌≤◌, Bool, true, ◌||◌, ◌==◌, List, [], ◌∷◌, length, take, codes, if◌then◌else◌}
use Rattle.std.specs.List.{list_any}
use Rattle.abc_num.specs.Literal.{IsNumberToken}
use Rattle.abc_tokens.specs.declared.kinds.TokenKind.{TokenKind}
use Rattle.abc_tokens.specs.declared.kinds.TokenKind.TheVariants.{Name, Keyword, Number, Text, Sign, Other}
use Rattle.abc_tokens.specs.Bytes.{is_small, is_capital, is_digit, is_quote, point}

-- what a word goes on with: letters of its case, digits, quotes
abbrev pub goes_on : (ℕ → Bool) → ℕ → Bool
goes_on letter b = letter b || is_digit b || is_quote b

-- the rest of a word: characters that it goes on with, and points that stand between two characters of the word
abbrev pub IsTail : (ℕ → Bool) → List ℕ → Type 0
IsTail letter [] = Unit {0}
IsTail letter (b ∷ []) = goes_on letter b ≡ true
IsTail letter (b ∷ c ∷ bytes) = ((goes_on letter b ≡ true) × IsTail letter (c ∷ bytes)) ⊎ ((b ≡ point) × (goes_on letter c ≡ true) × IsTail letter (c ∷ bytes))

-- a letter, and the rest
abbrev pub IsWord : (ℕ → Bool) → List ℕ → Type 0
IsWord letter [] = ⊥
IsWord letter (b ∷ bytes) = (letter b ≡ true) × IsTail letter bytes

-- the signs of one character
abbrev pub single_signs : List ℕ
single_signs = codes "+-*/#^@|<=>()[]{},;:"

-- what follows a character in the signs of two: ** */ /* ^^ << <= <> >< >= >> ..
abbrev pub second_signs : ℕ → List ℕ
second_signs b = if b == 42 then codes "*/" else (if b == 47 then codes "*" else (if b == 94 then codes "^" else (if b == 60 then codes "<=>" else (if b == 62 then codes "<=>" else (if b == point then codes "." else [])))))

abbrev pub IsSign : List ℕ → Type 0
IsSign [] = ⊥
IsSign (b ∷ []) = list_any (λ sign. sign == b) single_signs ≡ true
IsSign (b ∷ c ∷ []) = list_any (λ second. second == c) (second_signs b) ≡ true
IsSign (b ∷ c ∷ d ∷ bytes) = ⊥

-- the bytes spell a token of this kind; texts, which hold tokens, stand for themselves
abbrev pub Spells : TokenKind → List ℕ → Type 0
Spells Name bytes = IsWord is_small bytes
Spells Keyword bytes = IsWord is_capital bytes
Spells Number bytes = IsNumberToken bytes
Spells Sign bytes = IsSign bytes
Spells Text bytes = ⊥
Spells Other bytes = ⊥

-- the first n of these bytes spell a token of this kind, and no more of them spell one of any kind
pub record IsLongest (kind : TokenKind) (n : ℕ) (bytes : List ℕ) : Type 0 where
  pub within : n ≤ length bytes
  pub spelled : Spells kind (take n bytes)
  pub longest : (other : TokenKind) (m : ℕ) → m ≤ length bytes → Spells other (take m bytes) → m ≤ n

-- no name, keyword, number or sign stands in front
abbrev pub BeginsNone : List ℕ → Type 0
BeginsNone bytes = (kind : TokenKind) (n : ℕ) → n ≤ length bytes → ¬ (Spells kind (take n bytes))

-- the numbers among the tokens: this one, if it is one
abbrev pub number_of : TokenKind → List ℕ → List (List ℕ)
number_of Number bytes = bytes ∷ []
number_of Name bytes = []
number_of Keyword bytes = []
number_of Sign bytes = []
number_of Text bytes = []
number_of Other bytes = []
