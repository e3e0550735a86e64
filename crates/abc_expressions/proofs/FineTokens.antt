-- The tokens of a line without a fault are fine.
use Rattle.std.proofs.Common.{◌≡◌, ℕ, true, List, [], ◌∷◌, ◌++◌, All, map, ◌↔◌, arith}
use Rattle.abc_num.specs.Characters.{are_characters}
use Rattle.abc_num.proofs.Parts.{All-front, All-behind}
use Rattle.abc_tokens.specs.declared.kinds.Token.{Token}
use Rattle.abc_tokens.specs.declared.kinds.TokenKind.{TokenKind}
use Rattle.abc_tokens.specs.declared.kinds.TokenKind.TheVariants as kind
use Rattle.abc_tokens.specs.Bytes.{is_small}
use Rattle.abc_tokens.specs.Kinds.{IsOfKind, IsSpelledSo, is_name}
use Rattle.abc_tokens.specs.Shape.{spelling}
use Rattle.abc_tokens.specs.Tokens.{AreTokens}
use Rattle.abc_tokens.specs.Words.{IsWord}
use Rattle.abc_expressions.specs.Lexemes.{seen, lexeme_of, ArePart}
use Rattle.abc_expressions.specs.NamesOfTrees.{IsFine, AreFine}

-- what tokens are said to be
abbrev pub SpelledTokens : Type 0
SpelledTokens = (line : List ℕ) (ts : List Token) → AreTokens line ts → All (IsSpelledSo line) ts

abbrev pub ComputedNames : Type 0
ComputedNames = (bytes : List ℕ) → IsWord is_small bytes ↔ (is_name bytes ≡ true)

module _ (spelled : SpelledTokens) (names : ComputedNames) where
  fine_kind : (k : TokenKind) (bytes : List ℕ) → IsOfKind k bytes → are_characters bytes ≡ true → IsFine (lexeme_of k bytes)
  fine_kind kind.Name bytes h cs = (names bytes).0 h
  fine_kind kind.Keyword bytes h cs = tt
  fine_kind kind.Number bytes h cs = tt
  fine_kind kind.Sign bytes h cs = tt
  fine_kind kind.Text bytes h cs = cs
  fine_kind kind.Other bytes h cs = tt

  all_fine : (line : List ℕ) (ts : List Token) → All (IsSpelledSo line) ts → AreFine (map (seen line) ts)
  all_fine line [] h = tt
  all_fine line (t ∷ ts) h =
      let s : IsSpelledSo line t = h 0 t (omega arith) in
      (fine_kind t.kind (spelling line t) s.kind s.characters, all_fine line ts (All-behind (IsSpelledSo line) (t ∷ []) ts h))

  pub fine_line : (line : List ℕ) (ts : List Token) → AreTokens line ts → AreFine (map (seen line) ts)
  fine_line line ts are = all_fine line ts (spelled line ts are)

  pub fine_part : (line : List ℕ) (ts : List Token) → ArePart line ts → AreFine (map (seen line) ts)
  fine_part line ts (front, behind, are) =
      all_fine line ts (All-behind (IsSpelledSo line) front ts (All-front (IsSpelledSo line) (front ++ ts) behind (spelled line (front ++ ts ++ behind) are)))
