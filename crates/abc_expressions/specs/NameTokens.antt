-- The names among the tokens of a line, those in the conversions of its texts too.
use Rattle.std.specs.Prelude.{ℕ, zero, suc, List, [], ◌∷◌, ◌++◌, Option, Some, None}
use Rattle.abc_num.specs.Names.{number_of}
use Rattle.abc_num.specs.declared.limits.TheConstants.{MOST_BRACKETS}
use Rattle.abc_expressions.specs.declared.lexemes.Lexeme.{Lexeme}
use Rattle.abc_expressions.specs.declared.lexemes.Lexeme.TheVariants as t
use Rattle.abc_expressions.specs.declared.texts.Part.{Part}
use Rattle.abc_expressions.specs.declared.texts.Part.TheVariants as part
use Rattle.abc_expressions.specs.inner.Machine.{Splitting, lexed, split_text}

-- with the names that a conversion of some bytes has
module _ (inside : List ℕ → List (List ℕ)) where
  -- the names in the conversions among the parts of a text
  abbrev pub part_names : List Part → List (List ℕ)
  part_names [] = []
  part_names (part.Characters cs ∷ parts) = part_names parts
  part_names (part.Conversion bytes ∷ parts) = inside bytes ++ part_names parts

  -- bytes that are no text have none
  abbrev pub text_names : Splitting → List (List ℕ)
  text_names None = []
  text_names (Some parts) = part_names parts

  -- a name, or the names in the conversions of a text
  abbrev pub names_at : Lexeme → List (List ℕ)
  names_at (t.Name x) = x ∷ []
  names_at (t.Text bytes) = text_names (split_text bytes)
  names_at (t.Number bytes) = []
  names_at (t.Keyword x) = []
  names_at (t.Sign sign) = []
  names_at t.Other = []

  -- those of the tokens, in the order of the line
  abbrev pub names_among : List Lexeme → List (List ℕ)
  names_among [] = []
  names_among (token ∷ ts) = names_at token ++ names_among ts

  -- bytes that have no tokens have none
  abbrev pub lexed_names : Option (List Lexeme) → List (List ℕ)
  lexed_names None = []
  lexed_names (Some ts) = names_among ts

-- the names in a conversion with these bytes, and in conversions within it, to a depth
unfoldable pub conversion_names : ℕ → List ℕ → List (List ℕ)
conversion_names zero bytes = []
conversion_names (suc d) bytes = lexed_names (conversion_names d) (lexed bytes)

-- the names of a line's tokens, in the order of the line; no tree has conversions within more than this many others
unfoldable pub name_tokens : List Lexeme → List (List ℕ)
name_tokens ts = names_among (conversion_names MOST_BRACKETS) ts

-- a name, if it has a number among the own ones
abbrev pub own_at : Option ℕ → List ℕ → List (List ℕ)
own_at None x = []
own_at (Some i) x = x ∷ []

-- those of the names that are own
abbrev pub own_among : List (List ℕ) → List (List ℕ) → List (List ℕ)
own_among own [] = []
own_among own (x ∷ xs) = own_at (number_of own x) x ++ own_among own xs
