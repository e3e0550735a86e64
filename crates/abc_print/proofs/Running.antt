-- Turns of the loop over the lexemes.
use Rattle.std.proofs.Common.{◌≡◌, List, [], ◌∷◌, ◌++◌, drop, length, Option, Some, None, refl, sym, ap, ◌∙◌, subst, arith, Result, Ok, Err}
use Rattle.std.specs.Option.{option_to_list}
use Rattle.abc_value.specs.Tree.{Tree}
use Rattle.abc_print.specs.declared.faults.LiteralFault.{LiteralFault}
use Rattle.abc_print.specs.declared.faults.LiteralFault.TheVariants as fault
use Rattle.abc_print.specs.declared.frames.Lexeme.{Lexeme}
use Rattle.abc_print.specs.declared.frames.Frame.{Frame}
use Rattle.abc_print.specs.declared.frames.Turn.{Turn}
use Rattle.abc_print.specs.declared.frames.Turn.TheVariants as turn
use Rattle.abc_print.specs.inner.Machine.{Steps, Gives, at_lexeme, at_end, run}

pub goes_on : (now rest : List Lexeme) (l : Lexeme) (stack new : List Frame) (at then : Turn) (found : Option Tree) → run now stack at ≡ found → now ≡ l ∷ rest
    → Steps (λ next. at_lexeme l next stack at) (Ok then) new → run rest new then ≡ found
unfolding run
goes_on now rest l stack new at then found h e s = sym (s (run rest)) ∙ ap (λ ls. run ls stack at) (sym e) ∙ h

pub refused : (now rest : List Lexeme) (l : Lexeme) (stack new : List Frame) (at : Turn) (found : Option Tree) (g : LiteralFault) → run now stack at ≡ found → now ≡ l ∷ rest
    → Steps (λ next. at_lexeme l next stack at) (Err g) new → Gives (Err g) found
unfolding run
refused now rest l stack new at found fault.BadInput h e s = sym h ∙ ap (λ ls. run ls stack at) e ∙ s (run rest)
refused now rest l stack new at found fault.Memory h e s = tt

pub ended : (now : List Lexeme) (stack : List Frame) (at : Turn) (found : Option Tree) → run now stack at ≡ found → now ≡ [] → found ≡ at_end stack at
unfolding run
ended now stack at found h e = sym h ∙ ap (λ ls. run ls stack at) e

-- the lexemes may end behind a part alone
pub unfinished : (stack : List Frame) (at : Turn) → ((t : Tree) → at ≡ turn.Behind t → ⊥) → at_end stack at ≡ None
unfinished stack turn.Part h = refl
unfinished stack turn.Bracket h = refl
unfinished stack turn.Colon h = refl
unfinished stack (turn.Behind t) h = absurd (h t refl)

-- nothing was left to take
pub none_left : (o : Option Lexeme) (old new : List Lexeme) → old ≡ option_to_list o ++ new → new ≡ drop 1 old → ((l : Lexeme) → o ≡ Some l → ⊥) → old ≡ []
none_left None [] new e h no_more = refl
none_left None (l ∷ ls) new e h no_more = absurd (let same = ap length (e ∙ h) in omega arith)
none_left (Some l) old new e h no_more = absurd (no_more l refl)

pub gives_found : (r : Result Tree LiteralFault) (x found : Option Tree) → Gives r x → found ≡ x → Gives r found
gives_found r x found h e = subst (Gives r) (sym e) h
