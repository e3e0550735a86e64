-- The tokens of a line or its fault, computed.
use Rattle.std.specs.Prelude.{ℕ, false, List, length, Some, None, Result, Ok, Err, if◌then◌else◌}
use Rattle.std.specs.List.{list_all}
use Rattle.abc_tokens.specs.declared.kinds.Token.{Token}
use Rattle.abc_tokens.specs.declared.kinds.TokenFault.{TokenFault}
use Rattle.abc_tokens.specs.declared.kinds.TokenFault.TheVariants.{BadByte, OpenText, BadNumber}
use Rattle.abc_tokens.specs.Tokens.{has_characters}
use Rattle.abc_tokens.specs.Scanned.{Found, scanned}
use Rattle.abc_tokens.specs.Values.{has_value}

-- what is found: no tokens where a text isn't closed; else they are good if each number among them has a value
abbrev pub judged : Found → Result (List Token) TokenFault
judged None = Err OpenText
judged (Some found) = if list_all has_value found.1 then Ok found.0 else Err BadNumber

-- the tokens of a line, or the first of its faults
unfoldable pub read_line : List ℕ → Result (List Token) TokenFault
read_line line = if has_characters line then judged (scanned false (length line) line 0) else Err BadByte
