-- The tokens of a line without a fault are sound: names, keywords and texts have the bytes of their kinds.
use Rattle.std.proofs.Common.{◌≡◌, ℕ, true, List, [], ◌∷◌, ◌++◌, All, map, ◌↔◌}
use Rattle.std.proofs.lemmas.List.Elements.{All-head, All-tail}
use Rattle.abc_num.specs.Characters.{are_characters}
use Rattle.abc_tokens.specs.declared.kinds.Token.{Token}
use Rattle.abc_tokens.specs.declared.kinds.TokenKind.{TokenKind}
use Rattle.abc_tokens.specs.declared.kinds.TokenKind.TheVariants as kind
use Rattle.abc_tokens.specs.Bytes.{is_small, is_capital}
use Rattle.abc_tokens.specs.Kinds.{IsOfKind, IsSpelledSo, is_name, is_keyword}
use Rattle.abc_tokens.specs.Shape.{spelling}
use Rattle.abc_tokens.specs.Words.{IsWord}
use Rattle.abc_tree.specs.declared.formulas.Bound.{Bound}
use Rattle.abc_expressions.specs.declared.lexemes.Lexeme.{Lexeme}
use Rattle.abc_expressions.specs.declared.lexemes.Lexeme.TheVariants as t
use Rattle.abc_expressions.specs.Lexemes.{seen, lexeme_of}
use Rattle.abc_expressions.specs.NamesOfTrees.{IsFine, AreFine}
use Rattle.abc_formula.specs.TestGrammar as g
use Rattle.abc_formula.specs.TestGrammar.{Binds, BindsPart}

-- the bytes of a keyword are one
abbrev pub IsKeyed : Lexeme → Type 0
IsKeyed (t.Keyword x) = is_keyword x ≡ true
IsKeyed (t.Name x) = Unit {0}
IsKeyed (t.Text bytes) = Unit {0}
IsKeyed (t.Number bytes) = Unit {0}
IsKeyed (t.Sign sign) = Unit {0}
IsKeyed t.Other = Unit {0}

abbrev pub AreSound : List Lexeme → Type 0
AreSound [] = Unit {0}
AreSound (token ∷ ts) = (IsFine token × IsKeyed token) × AreSound ts

pub fine : (ts : List Lexeme) → AreSound ts → AreFine ts
fine [] s = tt
fine (token ∷ ts) s = (s.0.0, fine ts s.1)

pub sound_front : (us vs : List Lexeme) → AreSound (us ++ vs) → AreSound us
sound_front [] vs s = tt
sound_front (token ∷ us) vs s = (s.0, sound_front us vs s.1)

pub sound_behind : (us vs : List Lexeme) → AreSound (us ++ vs) → AreSound vs
sound_behind [] vs s = s
sound_behind (token ∷ us) vs s = sound_behind us vs s.1

-- what stands at both sides of a token
pub sound_sides : (us : List Lexeme) (token : Lexeme) (vs : List Lexeme) → AreSound (us ++ token ∷ vs) → AreSound us × AreSound vs
sound_sides us token vs s = (sound_front us (token ∷ vs) s, (sound_behind us (token ∷ vs) s).1)

mutual
  pub names_sound : {own : List (List ℕ)} {fewest d : ℕ} {names : List Bound} {ts rest : List Lexeme} → Binds own fewest d names ts rest → AreSound ts → AreSound rest
  names_sound (g.last_name p) s = part_sound p s
  names_sound (g.more_names p q) s = names_sound q (part_sound p s).1

  pub part_sound : {own : List (List ℕ)} {fewest d : ℕ} {a : Bound} {ts rest : List Lexeme} → BindsPart own fewest d a ts rest → AreSound ts → AreSound rest
  part_sound (g.one_name h) s = s.1
  part_sound (g.round_names h q) s = (names_sound q s.1).1

module _ (name : (bytes : List ℕ) → IsWord is_small bytes ↔ (is_name bytes ≡ true)) (keyword : (bytes : List ℕ) → IsWord is_capital bytes ↔ (is_keyword bytes ≡ true)) where
  sound_kind : (k : TokenKind) (bytes : List ℕ) → IsOfKind k bytes → are_characters bytes ≡ true → IsFine (lexeme_of k bytes) × IsKeyed (lexeme_of k bytes)
  sound_kind kind.Name bytes h cs = ((name bytes).0 h, tt)
  sound_kind kind.Keyword bytes h cs = (tt, (keyword bytes).0 h)
  sound_kind kind.Number bytes h cs = (tt, tt)
  sound_kind kind.Sign bytes h cs = (tt, tt)
  sound_kind kind.Text bytes h cs = (cs, tt)
  sound_kind kind.Other bytes h cs = (tt, tt)

  pub sound_line : (line : List ℕ) (ts : List Token) → All (IsSpelledSo line) ts → AreSound (map (seen line) ts)
  sound_line line [] h = tt
  sound_line line (t ∷ ts) h =
      let s = All-head (IsSpelledSo line) t ts h in
      (sound_kind t.kind (spelling line t) s.kind s.characters, sound_line line ts (All-tail (IsSpelledSo line) t ts h))
