-- The value that a line spells, computed a token at a time. A law says that it is the value of the literal that the line is.
use Rattle.std.specs.Prelude.{ℕ, zero, ℤ, pos, ◌*ℤ◌, Bool, true, false, List, [], ◌∷◌, map, Option, Some, None, if◌then◌else◌}
use Rattle.std.specs.Option.{option_and_then, option_map}
use Rattle.std.specs.Result.{result_ok}
use Rattle.abc_num.specs.Number.{Fraction}
use Rattle.abc_num.specs.Literal.{literal_numerator, literal_denominator}
use Rattle.abc_num.specs.Ratio.{ratio}
use Rattle.abc_tokens.specs.ReadLine.{read_line}
use Rattle.abc_value.specs.Tree.{Tree, number, text}
use Rattle.abc_print.specs.declared.frames.Lexeme.{Lexeme}
use Rattle.abc_print.specs.declared.frames.Lexeme.TheVariants as lexeme
use Rattle.abc_print.specs.declared.lexing.Class.{Class}
use Rattle.abc_print.specs.declared.lexing.Class.TheVariants as class
use Rattle.abc_print.specs.declared.lexing.State.{State}
use Rattle.abc_print.specs.declared.lexing.State.TheVariants as state
use Rattle.abc_print.specs.Lexemes.{Seen, seen, class_of, content, with_sign}
use Rattle.abc_print.specs.inner.Machine.{value_of}

-- the number that digits spell
abbrev pub digits_value : List ℕ → Option Fraction
digits_value b = result_ok (ratio (pos (literal_numerator b)) (pos (literal_denominator b)))

abbrev pub is_zero : ℤ → Bool
is_zero (pos zero) = true
is_zero _ = false

-- a number over another that is not 0
abbrev pub quotient : Fraction → Fraction → Option Fraction
quotient x y = if is_zero y.numerator then None else result_ok (ratio (x.numerator *ℤ pos y.denominator) (y.numerator *ℤ pos x.denominator))

-- what a literal is read of, where the tokens are numbers, texts and signs
abbrev pub Lexemes : Type 0
Lexemes = Option (List Lexeme)

-- a lexeme, and those behind it
abbrev pub before : Lexeme → Lexemes → Lexemes
before l rest = option_map (λ ls. l ∷ ls) rest

-- what comes of the rest is a function of what was read of a number before it
module _ (next : State → Lexemes) where
  abbrev pub with_number : List ℕ → (Fraction → Lexemes) → Lexemes
  with_number b go = option_and_then go (digits_value b)

  -- a text without conversions
  abbrev pub with_text : List ℕ → Lexemes
  with_text [] = None
  with_text (q ∷ bytes) = option_and_then (λ cs. before (lexeme.Value (text cs)) (next state.Start)) (content q bytes)

  abbrev pub starts : Class → List ℕ → Lexemes
  starts class.Number b = with_number b (λ x. next (state.Numbered x))
  starts class.Text b = with_text b
  starts class.Plus b = next (state.Signed false)
  starts class.Minus b = next (state.Signed true)
  starts (class.Mark m) b = before (lexeme.Mark m) (next state.Start)
  starts class.Slash b = None
  starts class.Other b = None

  abbrev pub signs : Bool → Class → List ℕ → Lexemes
  signs s class.Number b = with_number b (λ x. next (state.Numbered (with_sign s x)))
  signs s _ b = None

  abbrev pub divides : Fraction → Class → List ℕ → Lexemes
  divides x class.Number b = with_number b (λ y. option_and_then (λ z. before (lexeme.Value (number z)) (next state.Start)) (quotient x y))
  divides x _ b = None

  abbrev pub numbered : Fraction → Class → List ℕ → Lexemes
  numbered x class.Slash b = next (state.Divided x)
  numbered x c b = before (lexeme.Value (number x)) (starts c b)

  abbrev pub at_token : State → Class → List ℕ → Lexemes
  at_token state.Start c b = starts c b
  at_token (state.Signed s) c b = signs s c b
  at_token (state.Numbered x) c b = numbered x c b
  at_token (state.Divided x) c b = divides x c b

abbrev pub at_end : State → Lexemes
at_end state.Start = Some []
at_end (state.Numbered x) = Some (lexeme.Value (number x) ∷ [])
at_end _ = None

-- the tokens as numbers, texts and signs
unfoldable pub lexemes_of : List Seen → State → Lexemes
lexemes_of [] s = at_end s
lexemes_of (t ∷ ts) s = at_token (lexemes_of ts) s (class_of t.0 t.1) t.1

-- the value that a line spells, if it spells one
unfoldable pub literal_of : List ℕ → Option Tree
literal_of line = option_and_then value_of (option_and_then (λ ts. lexemes_of (map (seen line) ts) state.Start) (result_ok (read_line line)))
