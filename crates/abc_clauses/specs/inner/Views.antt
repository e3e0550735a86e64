-- Answers of the code as the definitions see them.
use Rattle.std.specs.Prelude.{◌≡◌, Result, Ok, Err, ℕ, Bool, true, false, List, [], ◌∷◌, ◌++◌, All, Option, Some, None, option_map}
use Rattle.abc_tree.specs.declared.formulas.Bound.{Bound}
use Rattle.abc_tree.specs.declared.formulas.Expr.{Expr}
use Rattle.abc_tree.specs.declared.templates.Template.{Template}
use Rattle.abc_tree.specs.declared.templates.Word.{Word}
use Rattle.abc_expressions.specs.declared.fault.FormulaFault.{FormulaFault}
use Rattle.abc_expressions.specs.declared.fault.FormulaFault.TheVariants as fault
use Rattle.abc_expressions.specs.declared.lexemes.Lexeme.{Lexeme}
use Rattle.abc_expressions.specs.Lexemes.{IsSpelled}
use Rattle.abc_expressions.specs.declared.lexemes.Lexeme.TheVariants as t
use Rattle.abc_expressions.specs.declared.signs.Sign.TheVariants as s
use Rattle.abc_formula.specs.declared.binding.BoundFront.{BoundFront}
use Rattle.abc_clauses.specs.declared.calls.Calling.{Calling}
use Rattle.abc_clauses.specs.declared.headings.CommandTitle.{CommandTitle}
use Rattle.abc_clauses.specs.declared.headings.Title.{Title}
use Rattle.abc_clauses.specs.declared.lines.Saying.{Saying}
use Rattle.abc_clauses.specs.declared.cuts.Cut.{Cut}
use Rattle.abc_clauses.specs.Readings.{Said, words_of}

abbrev pub seen_cut : Cut → List Lexeme × List Lexeme
seen_cut cut = (cut.front.now, cut.behind.now)

abbrev pub AreSpelledParts : Cut → Type 0
AreSpelledParts cut = All IsSpelled cut.front.now × All IsSpelled cut.behind.now

-- ---- calls

abbrev pub Call : Type 0
Call = List Word × List Expr

abbrev pub seen_call : Calling → Call
seen_call calling = (calling.words, calling.actuals)

-- no keyword
abbrev pub is_plain : Lexeme → Bool
is_plain (t.Keyword x) = false
is_plain _ = true

-- a first token that is no keyword
abbrev pub starts_plain : List Lexeme → Bool
starts_plain [] = false
starts_plain (token ∷ ts) = is_plain token

-- what was read so far, and what is read of the rest
abbrev pub with_rest : Call → Option Call → Option Call
with_rest so_far rest = option_map (λ (r : Call). (so_far.0 ++ r.0, so_far.1 ++ r.1)) rest

-- a step of a call: what was read and what the tokens are is what is read then and what is left, which the map gives
abbrev pub TakesWord : {X : Type 0} → Result X FormulaFault → (X → List Lexeme) → List (List ℕ) → List Lexeme → Call → Call → Type 0
TakesWord (Ok rest) view own ts old new = with_rest old (words_of own ts) ≡ with_rest new (words_of own (view rest))
TakesWord (Err fault.BadCommand) view own ts old new = words_of own ts ≡ None
TakesWord (Err fault.TooMany) view own ts old new = ⊥
TakesWord (Err fault.Memory) view own ts old new = Unit {0}

-- ---- headings

abbrev pub seen_front : BoundFront → Bound × List Lexeme
seen_front front = (front.bound, front.rest.now)

abbrev pub seen_command : CommandTitle → List Word × List Bound
seen_command title = (title.words, title.formals)

abbrev pub seen_title : Title → Template × List Bound
seen_title title = (title.template, title.formals)

-- what was read so far, and what is read of the rest
abbrev pub with_places : List Word × List Bound → Option (List Word × List Bound) → Option (List Word × List Bound)
with_places so_far rest = option_map (λ (r : List Word × List Bound). (so_far.0 ++ r.0, so_far.1 ++ r.1)) rest

-- a word, and a formal if it is one, stand behind the others
abbrev pub TakesPlace : Result (Unit {0}) FormulaFault → Option (Word × List Bound) → List Word × List Bound → List Word × List Bound → Type 0
TakesPlace (Ok done) found old new = (place : Word × List Bound) × (found ≡ Some place) × (new.0 ≡ old.0 ++ place.0 ∷ []) × (new.1 ≡ old.1 ++ place.1)
TakesPlace (Err fault.BadCommand) found old new = found ≡ None
TakesPlace (Err fault.TooMany) found old new = ⊥
TakesPlace (Err fault.Memory) found old new = Unit {0}

-- ---- lines

abbrev pub is_comma : Lexeme → Bool
is_comma (t.Sign s.Comma) = true
is_comma _ = false

-- the names so far, and those of the rest
abbrev pub with_names : List (List ℕ) → Option (List (List ℕ)) → Option (List (List ℕ))
with_names names rest = option_map (λ more. names ++ more) rest

abbrev pub seen_saying : Saying → Said
seen_saying saying = (saying.head, saying.beside)
