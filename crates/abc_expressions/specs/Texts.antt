-- The parts of a text.
use Rattle.std.specs.Prelude.{◌≡◌, ◌≢◌, ◌≤◌, ◌-◌, ℕ, Bool, true, false, ◌==◌, List, [], ◌∷◌, ◌++◌, length, drop, All}
use Rattle.std.specs.List.{list_all, slice_get}
use Rattle.std.specs.Option.{option_map_or}
use Rattle.abc_tokens.specs.Bytes.{space, backquote, begins}
use Rattle.abc_tokens.specs.Texts.{Converts}
use Rattle.abc_tokens.specs.Tokens.{AreTokens, IsSound, has_characters}
use Rattle.abc_tokens.specs.declared.kinds.Token.{Token}
use Rattle.abc_expressions.specs.declared.texts.Part.{Part}
use Rattle.abc_expressions.specs.declared.texts.Part.TheVariants as part

-- a character before the parts behind it
abbrev pub with_character : ℕ → List Part → List Part
with_character c [] = part.Characters (c ∷ []) ∷ []
with_character c (part.Characters cs ∷ parts) = part.Characters (c ∷ cs) ∷ parts
with_character c (part.Conversion bytes ∷ parts) = part.Characters (c ∷ []) ∷ part.Conversion bytes ∷ parts

-- where the last of these tokens ends, and 0 where there is none
abbrev pub end_of : List Token → ℕ
end_of ts = option_map_or (λ t. t.end) (slice_get ts (length ts - 1)) 0

-- spaces alone stand behind the tokens of these bytes, and no comment
abbrev pub is_bare : List ℕ → List Token → Bool
is_bare bytes ts = list_all (λ b. b == space) (drop (end_of ts) bytes)

-- these are the tokens of bytes without a fault and without a comment
abbrev pub AreBare : List ℕ → List Token → Type 0
AreBare bytes ts = AreTokens bytes ts × (is_bare bytes ts ≡ true)

-- what stands up to the first backquote before which there are tokens without a fault and without a comment
pub record IsConversion (bytes inner rest : List ℕ) : Type 0 where
  pub is : bytes ≡ inner ++ backquote ∷ rest
  pub tokens : (ts : List Token) × AreBare inner ts
  pub first : (front more : List ℕ) (ts : List Token) → bytes ≡ front ++ backquote ∷ more → AreBare front ts → length inner ≤ length front

-- the same, its tokens read from the front: they end at the backquote, each byte is a character, and the numbers among them have values
abbrev pub ReadsConversion : List ℕ → List ℕ → List ℕ → Type 0
ReadsConversion bytes inner rest = (bytes ≡ inner ++ backquote ∷ rest) × (has_characters inner ≡ true) × ((ns : List (List ℕ)) × Converts bytes rest ns × All IsSound ns)

-- these bytes are the parts of a text and the quote that ends it
pub data Splits (q : ℕ) : List ℕ → List Part → Type 0 where
  closing : Splits q (q ∷ []) []
  doubled_quote : {bytes : List ℕ} {parts : List Part} → Splits q bytes parts → Splits q (q ∷ q ∷ bytes) (with_character q parts)
  doubled_backquote : {bytes : List ℕ} {parts : List Part} → q ≢ backquote → Splits q bytes parts
      → Splits q (backquote ∷ backquote ∷ bytes) (with_character backquote parts)
  character : {c : ℕ} {bytes : List ℕ} {parts : List Part} → c ≢ q → c ≢ backquote → Splits q bytes parts → Splits q (c ∷ bytes) (with_character c parts)
  conversion : {bytes inner rest : List ℕ} {parts : List Part} → q ≢ backquote → begins (λ b. b == backquote) bytes ≡ false → IsConversion bytes inner rest
      → Splits q rest parts → Splits q (backquote ∷ bytes) (part.Conversion inner ∷ parts)
