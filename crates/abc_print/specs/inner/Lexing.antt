-- The same, a token at a time: steps of the code.
use Rattle.std.specs.Prelude.{◌≡◌, ◌≢◌, ◌↔◌, ℕ, pos, true, false, List, [], ◌∷◌, ◌++◌, ◌==◌, ◌||◌, Ok, Err, Result, Option, Some, None, if◌then◌else◌}
use Rattle.abc_tokens.specs.Bytes.{backquote}
use Rattle.abc_num.specs.Number.{Fraction}
use Rattle.abc_num.specs.Operations.{IsQuotient}
use Rattle.abc_tokens.specs.declared.kinds.Token.{Token}
use Rattle.abc_tokens.specs.Shape.{spelling}
use Rattle.abc_value.specs.Tree.{number, text}
use Rattle.abc_print.specs.declared.faults.LiteralFault.{LiteralFault}
use Rattle.abc_print.specs.declared.faults.LiteralFault.TheVariants as fault
use Rattle.abc_print.specs.declared.frames.Lexeme.{Lexeme}
use Rattle.abc_print.specs.declared.frames.Lexeme.TheVariants as lexeme
use Rattle.abc_print.specs.declared.lexing.Class.{Class}
use Rattle.abc_print.specs.declared.lexing.Class.TheVariants as class
use Rattle.abc_print.specs.declared.lexing.State.{State}
use Rattle.abc_print.specs.declared.lexing.State.TheVariants as state
use Rattle.abc_print.specs.Lexemes.{Seen, class_of, IsValueOf, with_sign, content}

-- a lexeme, and what goes on behind it
abbrev pub Then : Lexeme → (List Lexeme → Type 0) → List Lexeme → Type 0
Then l go ls = (ms : List Lexeme) × (ls ≡ l ∷ ms) × go ms

abbrev pub text_then : List ℕ → (List Lexeme → Type 0) → List Lexeme → Type 0
text_then [] go ls = ⊥
text_then (q ∷ bytes) go ls = (cs : List ℕ) × (content q bytes ≡ Some cs) × Then (lexeme.Value (text cs)) go ls

abbrev pub number_then : Class → List ℕ → (Fraction → Type 0) → Type 0
number_then class.Number b go = (x : Fraction) × IsValueOf b x × go x
number_then _ b go = ⊥

abbrev pub starts : Class → List ℕ → (State → List Lexeme → Type 0) → List Lexeme → Type 0
starts class.Number b next ls = (x : Fraction) × IsValueOf b x × next (state.Numbered x) ls
starts class.Text b next ls = text_then b (next state.Start) ls
starts class.Plus b next ls = next (state.Signed false) ls
starts class.Minus b next ls = next (state.Signed true) ls
starts (class.Mark m) b next ls = Then (lexeme.Mark m) (next state.Start) ls
starts class.Slash b next ls = ⊥
starts class.Other b next ls = ⊥

abbrev pub divides : Fraction → (State → List Lexeme → Type 0) → List Lexeme → Fraction → Type 0
divides x next ls y = (y.numerator ≢ pos 0) × (z : Fraction) × IsQuotient x y (Ok z) × Then (lexeme.Value (number z)) (next state.Start) ls

abbrev pub numbered : Class → List ℕ → (State → List Lexeme → Type 0) → Fraction → List Lexeme → Type 0
numbered class.Slash b next x ls = next (state.Divided x) ls
numbered c b next x ls = Then (lexeme.Value (number x)) (starts c b next) ls

abbrev pub at_token : Class → List ℕ → (State → List Lexeme → Type 0) → State → List Lexeme → Type 0
at_token c b next state.Start ls = starts c b next ls
at_token c b next (state.Signed s) ls = number_then c b (λ x. next (state.Numbered (with_sign s x)) ls)
at_token c b next (state.Numbered x) ls = numbered c b next x ls
at_token c b next (state.Divided x) ls = number_then c b (divides x next ls)

unfoldable pub lexed : List Seen → State → List Lexeme → Type 0
lexed [] state.Start ls = ls ≡ []
lexed [] (state.Numbered x) ls = ls ≡ lexeme.Value (number x) ∷ []
lexed [] (state.Signed s) ls = ⊥
lexed [] (state.Divided x) ls = ⊥
lexed (t ∷ ts) s ls = at_token (class_of t.0 t.1) t.1 (lexed ts) s ls

-- what is left to read gives the rest of the lexemes
abbrev pub Rest : List Lexeme → List Seen → State → List Lexeme → Type 0
Rest all ts s ls = (ms : List Lexeme) × (ls ≡ all ++ ms) × lexed ts s ms

-- the same, behind a token of this class
abbrev pub RestBy : List Lexeme → Class → List ℕ → List Seen → State → List Lexeme → Type 0
RestBy all c b ts s ls = (ms : List Lexeme) × (ls ≡ all ++ ms) × at_token c b (lexed ts) s ms

-- one token was read
abbrev pub Reads : List Lexeme → Class → List ℕ → State → List Lexeme → Result State LiteralFault → Type 0
Reads all c b s new (Ok after) = (ts : List Seen) (ls : List Lexeme) → RestBy all c b ts s ls ↔ Rest new ts after ls
Reads all c b s new (Err fault.BadInput) = (ts : List Seen) (ls : List Lexeme) → ¬ (RestBy all c b ts s ls)
Reads all c b s new (Err fault.Memory) = Unit {0}

-- a number is given exactly where these digits have one as their value
abbrev pub GivesNumber : Result Fraction LiteralFault → List ℕ → Type 0
GivesNumber (Ok x) b = IsValueOf b x
GivesNumber (Err fault.BadInput) b = (x : Fraction) → ¬ (IsValueOf b x)
GivesNumber (Err fault.Memory) b = ⊥

abbrev pub GivesQuotient : Result Fraction LiteralFault → Fraction → Fraction → Type 0
GivesQuotient (Ok z) x y = (y.numerator ≢ pos 0) × IsQuotient x y (Ok z) × ((w : Fraction) → IsQuotient x y (Ok w) → w ≡ z)
GivesQuotient (Err fault.BadInput) x y = (z : Fraction) → y.numerator ≢ pos 0 → ¬ (IsQuotient x y (Ok z))
GivesQuotient (Err fault.Memory) x y = ⊥

-- how many bytes the character c before d takes in a text
abbrev pub width : ℕ → ℕ → ℕ → Option ℕ
width q c d = if (c == q) || (c == backquote) then (if d == c then Some 2 else None) else Some 1

-- a token of a line was read
abbrev pub ReadsToken : List ℕ → List Lexeme → Token → State → List Lexeme → Result State LiteralFault → Type 0
ReadsToken line all t s new r = Reads all (class_of t.kind (spelling line t)) (spelling line t) s new r
