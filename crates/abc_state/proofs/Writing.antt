-- What is written, by its text.
use Rattle.std.proofs.Common.{◌≡◌, ℕ, List, ◌++◌, Option, Result, sym, subst}
use Rattle.abc_value.specs.Tree.{Tree}
use Rattle.abc_meaning.specs.State.{State, gives, after}
use Rattle.abc_meaning.specs.Here.{Here}
use Rattle.abc_meaning.specs.Acts.{newlines, say}
use Rattle.abc_state.specs.declared.halt.Halt.{Halt}
use Rattle.abc_state.specs.Agrees.{Agrees}
use Rattle.abc_state.specs.Words.{outer_text, write_out}

pub written_out : (here : Here) (before behind : ℕ) (part : Option Tree) (text : List ℕ) (s t : State) (r : Result (Unit {0}) Halt) → outer_text here part s ≡ gives text s
    → Agrees (λ _. tt) here.line r t (say here (newlines before ++ text ++ newlines behind) s) → Agrees (λ _. tt) here.line r t (write_out here before part behind s)
written_out here before behind part text s t r e h =
    subst (λ g. Agrees (λ _. tt) here.line r t (after g (λ b. say here (newlines before ++ b ++ newlines behind)))) (sym e) h
