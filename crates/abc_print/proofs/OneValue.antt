-- A line spells at most one value: its tokens are the lexemes of one list.
use Rattle.std.proofs.Common.{◌≡◌, ℕ, zero, suc, Bool, true, false, List, [], ◌∷◌, map, ℤ, pos, sym, ap, ◌∙◌, subst}
use Rattle.std.specs.Prelude.{negsuc, neg_ℤ}
use Rattle.abc_num.specs.Number.{Fraction, fraction, IsNumber}
use Rattle.abc_value.specs.Tree.{Tree, number, text}
use Rattle.abc_tokens.specs.declared.kinds.Token.{Token}
use Rattle.abc_print.specs.declared.frames.Lexeme.{Lexeme}
use Rattle.abc_print.specs.declared.frames.Lexeme.TheVariants as lexeme
use Rattle.abc_print.specs.declared.lexing.Class.{Class}
use Rattle.abc_print.specs.declared.lexing.Class.TheVariants as class
use Rattle.abc_print.specs.declared.lexing.State.{State}
use Rattle.abc_print.specs.declared.lexing.State.TheVariants as state
use Rattle.abc_print.specs.Lexemes.{Seen, seen, class_of, IsValueOf, with_sign, HasLexemes, IsLiteralLine}
use Rattle.abc_print.specs.inner.Lexing.{Then, text_then, number_then, starts, divides, numbered, at_token, lexed}
use Rattle.abc_print.specs.inner.Machine.{value_of}
use Rattle.abc_print.proofs.Complete.{complete}
use Rattle.std.proofs.lemmas.Option.{same_Some}
use Rattle.abc_print.proofs.Tokenwise.{one_value, one_quotient}
use Rattle.abc_print.proofs.Words.{to_lexed}

-- what was read of a number is one
abbrev pub HasNumber : State → Type 0
HasNumber state.Start = Unit {0}
HasNumber (state.Signed s) = Unit {0}
HasNumber (state.Numbered x) = IsNumber x
HasNumber (state.Divided x) = IsNumber x

negated : (z : ℤ) (d : ℕ) → IsNumber (fraction z d) → IsNumber (fraction (neg_ℤ z) d)
unfolding IsNumber
negated (pos zero) d h = h
negated (pos (suc n)) d h = h
negated (negsuc n) d h = h

pub signed_number : (s : Bool) (x : Fraction) → IsNumber x → IsNumber (with_sign s x)
signed_number false x h = h
signed_number true x h = negated x.numerator x.denominator h

-- where both numbers are the value of one token, what follows from one number follows
number_once : (c : Class) (b : List ℕ) (P Q : Fraction → Type 0) (R : Type 0) → ((x : Fraction) → IsValueOf b x → P x → Q x → R)
    → number_then c b P → number_then c b Q → R
number_once class.Number b P Q R f h k = f h.0 h.1 h.2 (subst Q (one_value b k.0 h.0 k.1 h.1) k.2)
number_once class.Text b P Q R f h k = absurd h
number_once class.Plus b P Q R f h k = absurd h
number_once class.Minus b P Q R f h k = absurd h
number_once class.Slash b P Q R f h k = absurd h
number_once (class.Mark m) b P Q R f h k = absurd h
number_once class.Other b P Q R f h k = absurd h

then_once : (l : Lexeme) (go : List Lexeme → Type 0) → ((ls ms : List Lexeme) → go ls → go ms → ls ≡ ms) → (ls ms : List Lexeme) → Then l go ls → Then l go ms → ls ≡ ms
then_once l go one ls ms h k = h.1 ∙ ap (λ z. l ∷ z) (one h.0 k.0 h.2 k.2) ∙ sym k.1

module _ (next : State → List Lexeme → Type 0) (one : (s : State) (ls ms : List Lexeme) → HasNumber s → next s ls → next s ms → ls ≡ ms) where
  text_once : (b : List ℕ) (ls ms : List Lexeme) → text_then b (next state.Start) ls → text_then b (next state.Start) ms → ls ≡ ms
  text_once [] ls ms h k = absurd h
  text_once (q ∷ bytes) ls ms h k =
      let same : k.0 ≡ h.0 = same_Some _ _ (sym k.1 ∙ h.1) in
      then_once (lexeme.Value (text h.0)) (next state.Start) (λ us vs. one state.Start us vs tt) ls ms h.2
      (subst (λ cs. Then (lexeme.Value (text cs)) (next state.Start) ms) same k.2)

  start_once : (c : Class) (b : List ℕ) (ls ms : List Lexeme) → starts c b next ls → starts c b next ms → ls ≡ ms
  start_once class.Number b ls ms h k =
      number_once class.Number b (λ x. next (state.Numbered x) ls) (λ x. next (state.Numbered x) ms) (ls ≡ ms) (λ x v. one (state.Numbered x) ls ms v.0) h k
  start_once class.Text b ls ms h k = text_once b ls ms h k
  start_once class.Plus b ls ms h k = one (state.Signed false) ls ms tt h k
  start_once class.Minus b ls ms h k = one (state.Signed true) ls ms tt h k
  start_once (class.Mark m) b ls ms h k = then_once (lexeme.Mark m) (next state.Start) (λ us vs. one state.Start us vs tt) ls ms h k
  start_once class.Slash b ls ms h k = absurd h
  start_once class.Other b ls ms h k = absurd h

  -- a number that nothing divides
  whole_once : (c : Class) (b : List ℕ) (x : Fraction) (ls ms : List Lexeme) → Then (lexeme.Value (number x)) (starts c b next) ls → Then (lexeme.Value (number x)) (starts c b next) ms → ls ≡ ms
  whole_once c b x ls ms h k = then_once (lexeme.Value (number x)) (starts c b next) (start_once c b) ls ms h k

  numbered_once : (c : Class) (b : List ℕ) (x : Fraction) (ls ms : List Lexeme) → IsNumber x → numbered c b next x ls → numbered c b next x ms → ls ≡ ms
  numbered_once class.Slash b x ls ms n h k = one (state.Divided x) ls ms n h k
  numbered_once class.Number b x ls ms n h k = whole_once class.Number b x ls ms h k
  numbered_once class.Text b x ls ms n h k = whole_once class.Text b x ls ms h k
  numbered_once class.Plus b x ls ms n h k = whole_once class.Plus b x ls ms h k
  numbered_once class.Minus b x ls ms n h k = whole_once class.Minus b x ls ms h k
  numbered_once (class.Mark m) b x ls ms n h k = whole_once (class.Mark m) b x ls ms h k
  numbered_once class.Other b x ls ms n h k = whole_once class.Other b x ls ms h k

  divided_once : (x y : Fraction) (ls ms : List Lexeme) → IsNumber x → divides x next ls y → divides x next ms y → ls ≡ ms
  divided_once x y ls ms n h k =
      let same : k.1 ≡ h.1 = one_quotient x y h.1 k.1 n h.0 h.2 k.2 in
      then_once (lexeme.Value (number h.1)) (next state.Start) (λ us vs. one state.Start us vs tt) ls ms h.3
      (subst (λ z. Then (lexeme.Value (number z)) (next state.Start) ms) same k.3)

  token_once : (c : Class) (b : List ℕ) (s : State) (ls ms : List Lexeme) → HasNumber s → at_token c b next s ls → at_token c b next s ms → ls ≡ ms
  token_once c b state.Start ls ms n h k = start_once c b ls ms h k
  token_once c b (state.Signed s) ls ms n h k =
      number_once c b (λ x. next (state.Numbered (with_sign s x)) ls) (λ x. next (state.Numbered (with_sign s x)) ms) (ls ≡ ms)
      (λ x v. one (state.Numbered (with_sign s x)) ls ms (signed_number s x v.0)) h k
  token_once c b (state.Numbered x) ls ms n h k = numbered_once c b x ls ms n h k
  token_once c b (state.Divided x) ls ms n h k =
      number_once c b (divides x next ls) (divides x next ms) (ls ≡ ms) (λ y v. divided_once x y ls ms n) h k

lexed_once : (ts : List Seen) (s : State) (ls ms : List Lexeme) → HasNumber s → lexed ts s ls → lexed ts s ms → ls ≡ ms
unfolding lexed
lexed_once [] state.Start ls ms n h k = h ∙ sym k
lexed_once [] (state.Signed s) ls ms n h k = absurd h
lexed_once [] (state.Numbered x) ls ms n h k = h ∙ sym k
lexed_once [] (state.Divided x) ls ms n h k = absurd h
lexed_once (t ∷ ts) s ls ms n h k = token_once (lexed ts) (lexed_once ts) (class_of t.0 t.1) t.1 s ls ms n h k

-- no line spells two values
pub spells_once : (line : List ℕ) (t u : Tree) → IsLiteralLine line t → IsLiteralLine line u → t ≡ u
spells_once line t u h k =
    let tokens : k.0 ≡ h.0 = h.1.only k.0 k.1.found.0 k.1.found.1 in
    let others = subst (λ (us : List Token). HasLexemes (map (seen line) us) k.2) tokens k.3 in
    let lexemes = lexed_once (map (seen line) h.0) state.Start h.2 k.2 tt (to_lexed h.3) (to_lexed others) in
    same_Some _ _ (sym (complete t h.2 h.4) ∙ ap value_of lexemes ∙ complete u k.2 k.4)
