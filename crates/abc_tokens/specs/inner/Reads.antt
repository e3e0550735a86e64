-- What the inner functions do with a line: steps of the tokens that are computed.
use Rattle.std.specs.Prelude.{◌≡◌, ◌≢◌, ℕ, ◌<◌, ◌≤◌, Bool, false, List, [], ◌∷◌, ◌++◌, length, drop, Some, None, slice_index, if◌then◌else◌}
use Rattle.abc_tokens.specs.declared.kinds.Token.{Token}
use Rattle.abc_tokens.specs.declared.kinds.TokenKind.TheVariants as kind
use Rattle.abc_tokens.specs.declared.kinds.TokenFault.{TokenFault}
use Rattle.abc_tokens.specs.declared.kinds.TokenFault.TheVariants.{BadByte, OpenText, BadNumber, Memory}
use Rattle.abc_tokens.specs.declared.scan.Read.{Read}
use Rattle.abc_tokens.specs.Bytes.{space, backslash}
use Rattle.abc_tokens.specs.Tokens.{token}
use Rattle.abc_tokens.specs.Scanned.{Found, onto, scanned}
use Rattle.abc_tokens.specs.inner.Steps.{Judges}

-- the tokens from this place of the line on
abbrev pub found_from : Bool → List ℕ → ℕ → Found
found_from loose line at = scanned loose (length line) (drop at line) 0

-- a token begins at start, and only spaces stand before it
pub record IsStart (line : List ℕ) (at start : ℕ) : Type 0 where
  pub from : at ≤ start
  pub within : start < length line
  pub no_space : slice_index line start ≢ space
  pub no_comment : slice_index line start ≢ backslash
  pub same : (loose : Bool) → found_from loose line at ≡ found_from loose line start

-- the token at this place, before those that are found behind it
pub record IsReadAt (line : List ℕ) (start : ℕ) (read : Read) : Type 0 where
  pub starts : read.token.start ≡ start
  pub further : start < read.token.end
  pub within : read.token.end ≤ length line
  pub found : (ns : List (List ℕ)) × Judges read.sound ns
      × ((loose : Bool) → found_from loose line start ≡ onto read.token ns (found_from loose line read.token.end))

-- a text that isn't closed begins at this place
abbrev pub IsOpenAt : List ℕ → ℕ → Type 0
IsOpenAt line start = (loose : Bool) → found_from loose line start ≡ (if loose then Some (token kind.Text start (length line) ∷ [], []) else None)

-- tokens and numbers before those that are found
abbrev pub prepended : List Token → List (List ℕ) → Found → Found
prepended ts ns None = None
prepended ts ns (Some found) = Some (ts ++ found.0, ns ++ found.1)

-- these are all tokens, and each number among them has a value or one has none
abbrev pub IsScan : List ℕ → List Token → Bool → Type 0
IsScan line ts sound = (ns : List (List ℕ)) × Judges sound ns × (found_from false line 0 ≡ Some (ts, ns))

-- why there are no tokens
abbrev pub ScanFault : List ℕ → TokenFault → Type 0
ScanFault line OpenText = found_from false line 0 ≡ None
ScanFault line Memory = Unit {0}
ScanFault line BadByte = ⊥
ScanFault line BadNumber = ⊥
