-- The signs of a display, with the blanks behind them.
use Rattle.std.proofs.Common.{◌≡◌, ℕ, true, false, cond, List, [], ◌∷◌, Option, Some, refl}
use Rattle.std.specs.Prelude.{codes}
use Rattle.std.specs.List.{list_all}
use Rattle.std.proofs.lemmas.List.Elements.{All-nil}
use Rattle.abc_tokens.specs.declared.kinds.TokenKind.{TokenKind}
use Rattle.abc_tokens.specs.declared.kinds.TokenKind.TheVariants as kind
use Rattle.abc_tokens.specs.Bytes.{is_character, begins}
use Rattle.abc_tokens.specs.Tokens.{IsSound}
use Rattle.abc_tokens.specs.Scanned.{word_in_front}
use Rattle.abc_print.specs.declared.frames.Mark.{Mark}
use Rattle.abc_print.specs.declared.frames.Mark.TheVariants as mark
use Rattle.abc_print.specs.declared.lexing.Class.TheVariants as class
use Rattle.abc_print.specs.Lexemes.{IsClass, class_of, sign_class}
use Rattle.abc_print.specs.Lexemes as lexemes
use Rattle.abc_print.specs.Literals.{sign}
use Rattle.abc_print.proofs.Pieces.{IsFree, begins_word, word_seen, free_then_free, blank_piece}

-- a sign that no sign of two characters begins with
pub alone : (rest : List ℕ) → cond {A = Option (TokenKind × ℕ)} (begins (λ c. false) rest) (Some (kind.Sign, 2)) (Some (kind.Sign, 1)) ≡ Some (kind.Sign, 1)
alone [] = refl
alone (c ∷ rest) = refl

class_is : (c : ℕ) (m : Mark) → sign_class c ≡ class.Mark m → IsClass (kind.Sign, c ∷ []) (class.Mark m)
unfolding class_of
class_is c m e = e

module _ (c : ℕ) (m : Mark) where
  one_sign : list_all is_character (c ∷ []) ≡ true → begins_word c ≡ true → sign_class c ≡ class.Mark m
      → ((rest : List ℕ) → word_in_front (c ∷ rest) ≡ Some (kind.Sign, 1)) → IsFree (c ∷ []) (sign m ∷ [])
  one_sign good first is front rest ms r = record {
    tokens = (kind.Sign, c ∷ []) ∷ r.tokens;
    are_seen = word_seen c [] rest r.tokens good r.are_seen kind.Sign first (front rest) (All-nil IsSound);
    lexemes = lexemes.sign (class_is c m is) r.lexemes;
  }

pub open_piece : IsFree (codes "(") (sign mark.Open ∷ [])
unfolding word_in_front
open_piece = one_sign 40 mark.Open refl refl refl alone

pub close_piece : IsFree (codes ")") (sign mark.Close ∷ [])
unfolding word_in_front
close_piece = one_sign 41 mark.Close refl refl refl alone

pub brace_piece : IsFree (codes "{") (sign mark.Brace ∷ [])
unfolding word_in_front
brace_piece = one_sign 123 mark.Brace refl refl refl alone

pub unbrace_piece : IsFree (codes "}") (sign mark.Unbrace ∷ [])
unfolding word_in_front
unbrace_piece = one_sign 125 mark.Unbrace refl refl refl alone

pub bracket_piece : IsFree (codes "[") (sign mark.Bracket ∷ [])
unfolding word_in_front
bracket_piece = one_sign 91 mark.Bracket refl refl refl alone

one_unbracket : IsFree (codes "]") (sign mark.Unbracket ∷ [])
unfolding word_in_front
one_unbracket = one_sign 93 mark.Unbracket refl refl refl alone

one_colon : IsFree (codes ":") (sign mark.Colon ∷ [])
unfolding word_in_front
one_colon = one_sign 58 mark.Colon refl refl refl alone

one_comma : IsFree (codes ",") (sign mark.Comma ∷ [])
unfolding word_in_front
one_comma = one_sign 44 mark.Comma refl refl refl alone

one_semicolon : IsFree (codes ";") (sign mark.Semicolon ∷ [])
unfolding word_in_front
one_semicolon = one_sign 59 mark.Semicolon refl refl refl alone

pub colon_piece : IsFree (codes "]: ") (sign mark.Unbracket ∷ sign mark.Colon ∷ [])
colon_piece =
    free_then_free (codes "]:") (codes " ") (sign mark.Unbracket ∷ sign mark.Colon ∷ []) []
    (free_then_free (codes "]") (codes ":") (sign mark.Unbracket ∷ []) (sign mark.Colon ∷ []) one_unbracket one_colon) blank_piece

pub comma_piece : IsFree (codes ", ") (sign mark.Comma ∷ [])
comma_piece = free_then_free (codes ",") (codes " ") (sign mark.Comma ∷ []) [] one_comma blank_piece

pub semicolon_piece : IsFree (codes "; ") (sign mark.Semicolon ∷ [])
semicolon_piece = free_then_free (codes ";") (codes " ") (sign mark.Semicolon ∷ []) [] one_semicolon blank_piece
