-- All tokens of a line are a part of them.
use Rattle.std.proofs.Common.{ℕ, List, [], sym, subst}
use Rattle.std.proofs.lemmas.List.{append-nil}
use Rattle.abc_tokens.specs.declared.kinds.Token.{Token}
use Rattle.abc_tokens.specs.Tokens.{AreTokens}
use Rattle.abc_expressions.specs.Lexemes.{ArePart}

pub whole_part : (line : List ℕ) (ts : List Token) → AreTokens line ts → ArePart line ts
whole_part line ts are = ([], [], subst (AreTokens line) (sym (append-nil ts)) are)
