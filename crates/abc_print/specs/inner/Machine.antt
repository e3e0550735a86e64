-- The same reading as a machine over the lexemes, one at a time. The laws say that exactly the literals are read.
use Rattle.std.specs.Prelude.{◌≡◌, List, [], ◌∷◌, ◌++◌, Option, Some, None, Result, Ok, Err}
use Rattle.abc_value.specs.Tree.{Tree, empty}
use Rattle.abc_value.specs.declared.faults.ValueFault.{ValueFault}
use Rattle.abc_value.specs.declared.faults.ValueFault.TheVariants as value_fault
use Rattle.abc_tokens.specs.declared.kinds.TokenFault.{TokenFault}
use Rattle.abc_tokens.specs.declared.kinds.TokenFault.TheVariants as token_fault
use Rattle.abc_print.specs.declared.faults.LiteralFault.{LiteralFault}
use Rattle.abc_print.specs.declared.faults.LiteralFault.TheVariants as fault
use Rattle.abc_print.specs.declared.frames.Mark.{Mark}
use Rattle.abc_print.specs.declared.frames.Mark.TheVariants as mark
use Rattle.abc_print.specs.declared.frames.Lexeme.{Lexeme}
use Rattle.abc_print.specs.declared.frames.Lexeme.TheVariants as lexeme
use Rattle.abc_print.specs.declared.frames.Frame.{Frame}
use Rattle.abc_print.specs.declared.frames.Frame.TheVariants as f
use Rattle.abc_print.specs.declared.frames.Turn.{Turn}
use Rattle.abc_print.specs.declared.frames.Turn.TheVariants as turn
use Rattle.abc_print.specs.Literals.{fielded, listed, tabled}

-- what happens on the lexemes that are left, with the open brackets and the turn
abbrev pub Next : Type 0
Next = List Frame → Turn → Option Tree

-- a key and its associate
abbrev pub pair_of : Tree → Tree → Tree × Tree
pair_of k a = (k, a)

-- what is done with a value that is there
abbrev pub given : Option Tree → (Tree → Option Tree) → Option Tree
given None go = None
given (Some t) go = go t

-- `{` and `}` with nothing between
abbrev pub emptied : Next → List Frame → Option Tree
emptied next (f.Elements [] ∷ stack) = next stack (turn.Behind empty)
emptied next _ = None

-- `{` and `[`
abbrev pub first_key : Next → List Frame → Option Tree
first_key next (f.Elements [] ∷ stack) = next (f.Key [] [] ∷ stack) turn.Part
first_key next _ = None

abbrev pub at_part : Mark → Next → List Frame → Option Tree
at_part mark.Open next stack = next (f.Round [] ∷ stack) turn.Part
at_part mark.Brace next stack = next (f.Elements [] ∷ stack) turn.Part
at_part mark.Unbrace next stack = emptied next stack
at_part mark.Bracket next stack = first_key next stack
at_part _ next stack = None

-- the `[` of a later key
abbrev pub later_key : Next → List Frame → Option Tree
later_key next (f.Pairs ps ∷ stack) = next (f.Key ps [] ∷ stack) turn.Part
later_key next _ = None

abbrev pub at_bracket : Mark → Next → List Frame → Option Tree
at_bracket mark.Bracket next stack = later_key next stack
at_bracket _ next stack = None

abbrev pub at_colon : Mark → Next → List Frame → Option Tree
at_colon mark.Colon next stack = next stack turn.Part
at_colon _ next stack = None

-- a comma behind a field
abbrev pub with_field : Next → List Frame → Tree → Option Tree
with_field next (f.Whole ts ∷ stack) t = next (f.Whole (ts ++ t ∷ []) ∷ stack) turn.Part
with_field next (f.Round ts ∷ stack) t = next (f.Round (ts ++ t ∷ []) ∷ stack) turn.Part
with_field next (f.Key ps ts ∷ stack) t = next (f.Key ps (ts ++ t ∷ []) ∷ stack) turn.Part
with_field next _ t = None

-- a semicolon behind an element or an associate
abbrev pub with_entry : Next → List Frame → Tree → Option Tree
with_entry next (f.Elements ts ∷ stack) t = next (f.Elements (ts ++ t ∷ []) ∷ stack) turn.Part
with_entry next (f.Associate ps k ∷ stack) t = next (f.Pairs (ps ++ pair_of k t ∷ []) ∷ stack) turn.Bracket
with_entry next _ t = None

abbrev pub closed : Next → List Frame → Tree → Option Tree
closed next (f.Round ts ∷ stack) t = given (fielded (ts ++ t ∷ [])) (λ v. next stack (turn.Behind v))
closed next _ t = None

abbrev pub unbracketed : Next → List Frame → Tree → Option Tree
unbracketed next (f.Key ps ts ∷ stack) t = given (fielded (ts ++ t ∷ [])) (λ k. next (f.Associate ps k ∷ stack) turn.Colon)
unbracketed next _ t = None

abbrev pub unbraced : Next → List Frame → Tree → Option Tree
unbraced next (f.Elements ts ∷ stack) t = given (listed (ts ++ t ∷ [])) (λ v. next stack (turn.Behind v))
unbraced next (f.Associate ps k ∷ stack) t = given (tabled (ps ++ pair_of k t ∷ [])) (λ v. next stack (turn.Behind v))
unbraced next _ t = None

abbrev pub behind : Mark → Next → List Frame → Tree → Option Tree
behind mark.Comma next stack t = with_field next stack t
behind mark.Semicolon next stack t = with_entry next stack t
behind mark.Close next stack t = closed next stack t
behind mark.Unbracket next stack t = unbracketed next stack t
behind mark.Unbrace next stack t = unbraced next stack t
behind _ next stack t = None

abbrev pub at_mark : Mark → Next → List Frame → Turn → Option Tree
at_mark m next stack turn.Part = at_part m next stack
at_mark m next stack turn.Bracket = at_bracket m next stack
at_mark m next stack turn.Colon = at_colon m next stack
at_mark m next stack (turn.Behind t) = behind m next stack t

abbrev pub at_value : Tree → Next → List Frame → Turn → Option Tree
at_value v next stack turn.Part = next stack (turn.Behind v)
at_value v next stack _ = None

abbrev pub at_lexeme : Lexeme → Next → List Frame → Turn → Option Tree
at_lexeme (lexeme.Value v) next stack turn = at_value v next stack turn
at_lexeme (lexeme.Mark m) next stack turn = at_mark m next stack turn

-- at the end of the lexemes
abbrev pub finished : List Frame → Tree → Option Tree
finished (f.Whole ts ∷ []) t = fielded (ts ++ t ∷ [])
finished _ t = None

abbrev pub at_end : List Frame → Turn → Option Tree
at_end stack (turn.Behind t) = finished stack t
at_end stack _ = None

unfoldable pub run : List Lexeme → Next
run [] stack turn = at_end stack turn
run (l ∷ ls) stack turn = at_lexeme l (run ls) stack turn

-- the value of all the lexemes
abbrev pub value_of : List Lexeme → Option Tree
value_of ls = run ls (f.Whole [] ∷ []) turn.Part

-- ---- what one step of the code does, whatever is done next

abbrev pub Steps : (Next → Option Tree) → Result Turn LiteralFault → List Frame → Type 0
Steps machine (Ok turn) stack = (next : Next) → machine next ≡ next stack turn
Steps machine (Err fault.BadInput) stack = (next : Next) → machine next ≡ None
Steps machine (Err fault.Memory) stack = Unit {0}

-- a value is given exactly where it is there
abbrev pub Gives : Result Tree LiteralFault → Option Tree → Type 0
Gives (Ok t) found = found ≡ Some t
Gives (Err fault.BadInput) found = found ≡ None
Gives (Err fault.Memory) found = Unit {0}

-- how a call on values refuses is how reading refuses
abbrev pub refusal : ValueFault → LiteralFault
refusal value_fault.Memory = fault.Memory
refusal _ = fault.BadInput

-- how a line that has no tokens is refused
abbrev pub unread : TokenFault → LiteralFault
unread token_fault.Memory = fault.Memory
unread _ = fault.BadInput
