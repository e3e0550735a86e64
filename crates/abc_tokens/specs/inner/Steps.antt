-- What the inner functions do: steps of the reading that is computed.
use Rattle.std.specs.Prelude.{ℕ, ◌<◌, ◌≤◌, Bool, true, false, List, length, Option, Some, None, IfSome, All, Any}
use Rattle.abc_tokens.specs.declared.kinds.TokenKind.{TokenKind}
use Rattle.abc_tokens.specs.declared.words.Word.{Word}
use Rattle.abc_tokens.specs.Tokens.{IsSound, IsBadNumber}

-- a word by its kind and length
abbrev pub word_of : Option Word → Option (TokenKind × ℕ)
word_of None = None
word_of (Some word) = Some (word.kind, word.length)

-- a word has a byte at least, and all its bytes stand here
abbrev pub IsSized : List ℕ → Option Word → Type 0
IsSized bytes found = IfSome found (λ word. (0 < word.length) × (word.length ≤ length bytes))

-- all of the numbers have values, or one has none
abbrev pub Judges : Bool → List (List ℕ) → Type 0
Judges true ns = All IsSound ns
Judges false ns = Any IsBadNumber ns
