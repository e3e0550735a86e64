-- Tokens of a line stand within it, and numbers among them are spelled as numbers.
use Rattle.std.proofs.Common.{◌≡◌, ℕ, Bool, true, false, List, ◌++◌, All, get_or, map, Option, Some, None, refl}
use Rattle.std.specs.List.{slice_range}
use Rattle.std.proofs.lemmas.List.Elements.{All-map}
use Rattle.abc_tokens.specs.declared.kinds.Token.{Token}
use Rattle.abc_tokens.specs.declared.kinds.TokenFault.{TokenFault}
use Rattle.abc_tokens.specs.declared.kinds.TokenFault.TheVariants.{Memory}
use Rattle.abc_tokens.specs.declared.kinds.TokenKind.{TokenKind}
use Rattle.abc_tokens.specs.declared.kinds.TokenKind.TheVariants as kind
use Rattle.abc_tokens.specs.Tokens.{AreTokens, HasFault}
use Rattle.abc_num.specs.Literal.{IsNumberToken}
use Rattle.abc_num.proofs.Parts.{All-front, All-behind}
use Rattle.abc_tokens.proofs.Faults.{OneReading, no_tokens}
use Rattle.abc_tokens.proofs.Placed.{placed_line}
use Rattle.abc_expressions.specs.declared.lexemes.Lexeme.{Lexeme}
use Rattle.abc_expressions.specs.Lexemes.{seen, lexeme_of, ArePart, IsWithin, IsSpelled}
use Rattle.abc_expressions.specs.inner.Machine.{has_bare, lexed}
use Rattle.abc_expressions.proofs.Leaves.{bare_told, lexed_told}

spelled_as : (k : TokenKind) (bytes : List ℕ) → (k ≡ kind.Number → IsNumberToken bytes) → IsSpelled (lexeme_of k bytes)
spelled_as kind.Name bytes h = tt
spelled_as kind.Keyword bytes h = tt
spelled_as kind.Number bytes h = h refl
spelled_as kind.Sign bytes h = tt
spelled_as kind.Text bytes h = tt
spelled_as kind.Other bytes h = tt

module _ (line : List ℕ) where
  all_proper : (ts : List Token) → AreTokens line ts → All (λ t. IsWithin line t × IsSpelled (seen line t)) ts
  all_proper ts are k d l =
      let t = get_or ts k d in
      let p = placed_line line ts are k d l in
      ((p.ordered, p.within), spelled_as t.kind (slice_range line t.start t.end) p.digits)

  pub within_line : (ts : List Token) → AreTokens line ts → All (IsWithin line) ts
  within_line ts are k d l = (all_proper ts are k d l).0

  pub spelled_line : (ts : List Token) → AreTokens line ts → All IsSpelled (map (seen line) ts)
  spelled_line ts are = All-map IsSpelled (seen line) ts (λ k d l. (all_proper ts are k d l).1)

  pub within_part : (ts : List Token) → ArePart line ts → All (IsWithin line) ts
  within_part ts (front, behind, are) = All-behind (IsWithin line) front ts (All-front (IsWithin line) (front ++ ts) behind (within_line (front ++ ts ++ behind) are))

  pub spelled_part : (ts : List Token) → ArePart line ts → All IsSpelled (map (seen line) ts)
  spelled_part ts (front, behind, are) =
      All-map IsSpelled (seen line) ts (All-behind (λ t. IsSpelled (seen line t)) front ts
      (All-front (λ t. IsSpelled (seen line t)) (front ++ ts) behind (λ k d l. (all_proper (front ++ ts ++ behind) are k d l).1)))

-- ---- a line with a fault has no tokens

pub no_lexemes : OneReading → (line : List ℕ) (fault : TokenFault) → HasFault line fault → (fault ≡ Memory → ⊥) → lexed line ≡ None
no_lexemes law line fault h n = by_value (lexed line) refl
  where
    by_value : (x : Option (List Lexeme)) → lexed line ≡ x → lexed line ≡ None
    by_value None e = e
    by_value (Some ls) e = let t = lexed_told law line ls e in absurd (no_tokens law line fault h n t.0 t.1)

pub no_bare : OneReading → (line : List ℕ) (fault : TokenFault) → HasFault line fault → (fault ≡ Memory → ⊥) → has_bare line ≡ false
no_bare law line fault h n = by_value (has_bare line) refl
  where
    by_value : (x : Bool) → has_bare line ≡ x → has_bare line ≡ false
    by_value false e = e
    by_value true e = let t = bare_told law line e in absurd (no_tokens law line fault h n t.0 t.1.0)
