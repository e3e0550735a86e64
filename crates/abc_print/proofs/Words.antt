-- The lexemes as they are defined, and a token at a time.
use Rattle.std.proofs.Common.{◌≡◌, ℕ, true, false, List, [], ◌∷◌, refl, sym, ap, subst}
use Rattle.abc_num.specs.Number.{Fraction}
use Rattle.abc_value.specs.Tree.{number, text}
use Rattle.abc_print.specs.declared.frames.Lexeme.{Lexeme}
use Rattle.abc_print.specs.declared.frames.Lexeme.TheVariants as lexeme
use Rattle.abc_print.specs.declared.lexing.Class.{Class}
use Rattle.abc_print.specs.declared.lexing.Class.TheVariants as class
use Rattle.abc_print.specs.declared.lexing.State.{State}
use Rattle.abc_print.specs.declared.lexing.State.TheVariants as state
use Rattle.abc_print.specs.Lexemes.{Seen, class_of, IsClass, with_sign, IsSigned, unsigned, positive, negative, whole, divided, HasLexemes, none, numeral, quoted, sign}
use Rattle.abc_print.specs.inner.Lexing.{Then, at_token, starts, text_then, number_then, numbered, divides, lexed}

-- a step at a token whose class is known
at_class : (t : Seen) (ts : List Seen) (s : State) (ls : List Lexeme) (c : Class) → IsClass t c → at_token c t.1 (lexed ts) s ls → lexed (t ∷ ts) s ls
unfolding lexed
at_class t ts s ls c e h = subst (λ k. at_token k t.1 (lexed ts) s ls) (sym e) h

-- ---- what is defined is read

signed_to : {x : Fraction} {ts rest : List Seen} → IsSigned x ts rest → (ls : List Lexeme) → lexed rest (state.Numbered x) ls → lexed ts state.Start ls
signed_to (unsigned {t = t} {x = x} {rest = rest} e v) ls h = at_class t rest state.Start ls class.Number e (x, v, h)
signed_to (positive {t = t} {u = u} {x = x} {rest = rest} e f v) ls h =
    at_class t (u ∷ rest) state.Start ls class.Plus e (at_class u rest (state.Signed false) ls class.Number f (x, v, h))
signed_to (negative {t = t} {u = u} x {rest = rest} e f v) ls h =
    at_class t (u ∷ rest) state.Start ls class.Minus e (at_class u rest (state.Signed true) ls class.Number f (x, v, h))

flush : (c : Class) (b : List ℕ) (next : State → List Lexeme → Type 0) (x : Fraction) (ls : List Lexeme) → starts c b next ls → numbered c b next x (lexeme.Value (number x) ∷ ls)
flush class.Number b next x ls h = (ls, refl, h)
flush class.Text b next x ls h = (ls, refl, h)
flush class.Plus b next x ls h = (ls, refl, h)
flush class.Minus b next x ls h = (ls, refl, h)
flush class.Slash b next x ls h = absurd h
flush (class.Mark m) b next x ls h = (ls, refl, h)
flush class.Other b next x ls h = absurd h

flushed : (us : List Seen) (x : Fraction) (ls : List Lexeme) → lexed us state.Start ls → lexed us (state.Numbered x) (lexeme.Value (number x) ∷ ls)
unfolding lexed
flushed [] x ls h = ap (λ z. lexeme.Value (number x) ∷ z) h
flushed (t ∷ us) x ls h = flush (class_of t.0 t.1) t.1 (lexed us) x ls h

pub to_lexed : {ts : List Seen} {ls : List Lexeme} → HasLexemes ts ls → lexed ts state.Start ls
unfolding lexed
to_lexed none = refl
to_lexed (numeral (whole {x = x} {rest = rest} s) h) = signed_to s _ (flushed rest x _ (to_lexed h))
to_lexed (numeral (divided {t = t} {u = u} {x = x} {z = z} y {rest = rest} s e f v nz q) h) =
    signed_to s _ (at_class t (u ∷ rest) (state.Numbered x) _ class.Slash e (at_class u rest (state.Divided x) _ class.Number f (y, v, (nz, z, q, (_, refl, to_lexed h)))))
to_lexed (quoted {t = t} {q = q} {bytes = bytes} {cs = cs} {ts = ts} {ls = ls} e b c h) =
    at_class t ts state.Start (lexeme.Value (text cs) ∷ ls) class.Text e (subst (λ z. text_then z (lexed ts state.Start) (lexeme.Value (text cs) ∷ ls)) (sym b) (cs, c, (ls, refl, to_lexed h)))
to_lexed (sign {t = t} {m = m} {ts = ts} {ls = ls} e h) = at_class t ts state.Start (lexeme.Mark m ∷ ls) (class.Mark m) e (ls, refl, to_lexed h)

-- ---- what is read is defined

-- what a state says of what came before
abbrev Built : List Seen → State → List Lexeme → Type 0
Built ts state.Start ls = HasLexemes ts ls
Built ts (state.Signed false) ls = (t : Seen) → IsClass t class.Plus → HasLexemes (t ∷ ts) ls
Built ts (state.Signed true) ls = (t : Seen) → IsClass t class.Minus → HasLexemes (t ∷ ts) ls
Built ts (state.Numbered x) ls = (us : List Seen) → IsSigned x us ts → HasLexemes us ls
Built ts (state.Divided x) ls = (us : List Seen) (t : Seen) → IsClass t class.Slash → IsSigned x us (t ∷ ts) → HasLexemes us ls

module _ (t : Seen) (ts : List Seen) (goes : (s : State) (ls : List Lexeme) → lexed ts s ls → Built ts s ls) where
  by_text : (b : List ℕ) (ls : List Lexeme) → t.1 ≡ b → IsClass t class.Text → text_then b (lexed ts state.Start) ls → HasLexemes (t ∷ ts) ls
  by_text [] ls same e h = absurd h
  by_text (q ∷ bytes) ls same e h =
      subst (HasLexemes (t ∷ ts)) (sym h.2.1) (quoted e same h.1 (goes state.Start h.2.0 h.2.2))

  by_start : (c : Class) (ls : List Lexeme) → IsClass t c → starts c t.1 (lexed ts) ls → HasLexemes (t ∷ ts) ls
  by_start class.Number ls e h = goes (state.Numbered h.0) ls h.2 (t ∷ ts) (unsigned e h.1)
  by_start class.Text ls e h = by_text t.1 ls refl e h
  by_start class.Plus ls e h = goes (state.Signed false) ls h t e
  by_start class.Minus ls e h = goes (state.Signed true) ls h t e
  by_start (class.Mark m) ls e h = subst (HasLexemes (t ∷ ts)) (sym h.1) (sign e (goes state.Start h.0 h.2))
  by_start class.Slash ls e h = absurd h
  by_start class.Other ls e h = absurd h

  -- a number that nothing divides
  by_whole : (x : Fraction) (c : Class) (ls : List Lexeme) (us : List Seen) → IsClass t c → IsSigned x us (t ∷ ts) → Then (lexeme.Value (number x)) (starts c t.1 (lexed ts)) ls → HasLexemes us ls
  by_whole x c ls us e s h = subst (HasLexemes us) (sym h.1) (numeral (whole s) (by_start c h.0 e h.2))

  by_numbered : (x : Fraction) (c : Class) (ls : List Lexeme) (us : List Seen) → IsClass t c → IsSigned x us (t ∷ ts) → numbered c t.1 (lexed ts) x ls → HasLexemes us ls
  by_numbered x class.Slash ls us e s h = goes (state.Divided x) ls h us t e s
  by_numbered x class.Number ls us e s h = by_whole x class.Number ls us e s h
  by_numbered x class.Text ls us e s h = by_whole x class.Text ls us e s h
  by_numbered x class.Plus ls us e s h = by_whole x class.Plus ls us e s h
  by_numbered x class.Minus ls us e s h = by_whole x class.Minus ls us e s h
  by_numbered x (class.Mark m) ls us e s h = by_whole x (class.Mark m) ls us e s h
  by_numbered x class.Other ls us e s h = by_whole x class.Other ls us e s h

  by_plus : (c : Class) (ls : List Lexeme) (u : Seen) → IsClass t c → IsClass u class.Plus → number_then c t.1 (λ x. lexed ts (state.Numbered (with_sign false x)) ls) → HasLexemes (u ∷ t ∷ ts) ls
  by_plus class.Number ls u e f h = goes (state.Numbered h.0) ls h.2 (u ∷ t ∷ ts) (positive f e h.1)
  by_plus class.Text ls u e f h = absurd h
  by_plus class.Plus ls u e f h = absurd h
  by_plus class.Minus ls u e f h = absurd h
  by_plus class.Slash ls u e f h = absurd h
  by_plus (class.Mark m) ls u e f h = absurd h
  by_plus class.Other ls u e f h = absurd h

  by_minus : (c : Class) (ls : List Lexeme) (u : Seen) → IsClass t c → IsClass u class.Minus → number_then c t.1 (λ x. lexed ts (state.Numbered (with_sign true x)) ls) → HasLexemes (u ∷ t ∷ ts) ls
  by_minus class.Number ls u e f h = goes (state.Numbered (with_sign true h.0)) ls h.2 (u ∷ t ∷ ts) (negative h.0 f e h.1)
  by_minus class.Text ls u e f h = absurd h
  by_minus class.Plus ls u e f h = absurd h
  by_minus class.Minus ls u e f h = absurd h
  by_minus class.Slash ls u e f h = absurd h
  by_minus (class.Mark m) ls u e f h = absurd h
  by_minus class.Other ls u e f h = absurd h

  by_divided : (x : Fraction) (c : Class) (ls : List Lexeme) (us : List Seen) (u : Seen) → IsClass t c → IsClass u class.Slash → IsSigned x us (u ∷ t ∷ ts) → number_then c t.1 (divides x (lexed ts) ls) → HasLexemes us ls
  by_divided x class.Number ls us u e f s h =
      let d = h.2 in
      subst (HasLexemes us) (sym d.3.1) (numeral (divided h.0 s f e h.1 d.0 d.2) (goes state.Start d.3.0 d.3.2))
  by_divided x class.Text ls us u e f s h = absurd h
  by_divided x class.Plus ls us u e f s h = absurd h
  by_divided x class.Minus ls us u e f s h = absurd h
  by_divided x class.Slash ls us u e f s h = absurd h
  by_divided x (class.Mark m) ls us u e f s h = absurd h
  by_divided x class.Other ls us u e f s h = absurd h

from_lexed : (ts : List Seen) (s : State) (ls : List Lexeme) → lexed ts s ls → Built ts s ls
unfolding lexed
from_lexed [] state.Start ls h = subst (HasLexemes []) (sym h) none
from_lexed [] (state.Signed s) ls h = absurd h
from_lexed [] (state.Numbered x) ls h = λ us s. subst (HasLexemes us) (sym h) (numeral (whole s) none)
from_lexed [] (state.Divided x) ls h = absurd h
from_lexed (t ∷ ts) state.Start ls h = by_start t ts (λ s ms. from_lexed ts s ms) (class_of t.0 t.1) ls refl h
from_lexed (t ∷ ts) (state.Signed false) ls h = λ u f. by_plus t ts (λ s ms. from_lexed ts s ms) (class_of t.0 t.1) ls u refl f h
from_lexed (t ∷ ts) (state.Signed true) ls h = λ u f. by_minus t ts (λ s ms. from_lexed ts s ms) (class_of t.0 t.1) ls u refl f h
from_lexed (t ∷ ts) (state.Numbered x) ls h = λ us s. by_numbered t ts (λ r ms. from_lexed ts r ms) x (class_of t.0 t.1) ls us refl s h
from_lexed (t ∷ ts) (state.Divided x) ls h = λ us u f s. by_divided t ts (λ r ms. from_lexed ts r ms) x (class_of t.0 t.1) ls us u refl f s h

pub are_lexemes : (ts : List Seen) (ls : List Lexeme) → lexed ts state.Start ls → HasLexemes ts ls
are_lexemes ts ls h = from_lexed ts state.Start ls h
