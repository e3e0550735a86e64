-- What is computed of the tokens of a line is what the line spells.
use Rattle.std.proofs.Common.{◌≡◌, ◌≢◌, ℕ, zero, suc, Bool, true, false, List, [], ◌∷◌, map, Option, Some, None, Result, Ok, Err, ℤ, pos, refl, sym, ap, ◌∙◌, subst, arith}
use Rattle.std.specs.Prelude.{◌↔◌, negsuc, ◌*ℤ◌, length, if◌then◌else◌}
use Rattle.std.specs.Option.{option_and_then, option_map}
use Rattle.std.specs.Result.{result_ok}
use Rattle.std.proofs.lemmas.Option.{same_Some}
use Rattle.abc_num.proofs.Digits.{power-positive}
use Rattle.abc_num.specs.declared.number.NumFault.{NumFault}
use Rattle.abc_num.specs.Number.{Fraction, IsNumber}
use Rattle.abc_num.specs.Literal.{literal_numerator, literal_denominator, behind}
use Rattle.abc_num.specs.Ratio.{ratio, IsRatio}
use Rattle.abc_num.specs.Operations.{IsQuotient}
use Rattle.abc_num.proofs.Computed.{ratio_is, is_ratio}
use Rattle.abc_num.proofs.Order.{denominator-positive}
use Rattle.abc_num.proofs.Ratios.{pos_ne}
use Rattle.abc_num.proofs.Signs.{factor_ne}
use Rattle.abc_value.specs.Tree.{Tree, number, text}
use Rattle.abc_tokens.specs.declared.kinds.Token.{Token}
use Rattle.abc_tokens.specs.declared.kinds.TokenFault.{TokenFault}
use Rattle.abc_tokens.specs.Tokens.{AreTokens}
use Rattle.abc_tokens.specs.ReadLine.{read_line}
use Rattle.abc_print.specs.declared.frames.Lexeme.{Lexeme}
use Rattle.abc_print.specs.declared.frames.Lexeme.TheVariants as lexeme
use Rattle.abc_print.specs.declared.lexing.Class.{Class}
use Rattle.abc_print.specs.declared.lexing.Class.TheVariants as class
use Rattle.abc_print.specs.declared.lexing.State.{State}
use Rattle.abc_print.specs.declared.lexing.State.TheVariants as state
use Rattle.abc_print.specs.Lexemes.{Seen, seen, class_of, content, with_sign, IsValueOf, HasLexemes, IsLiteralLine}
use Rattle.abc_print.specs.inner.Lexing.{Then, text_then, number_then, lexed}
use Rattle.abc_print.specs.inner.Lexing as relation
use Rattle.abc_print.specs.inner.Machine.{value_of}
use Rattle.abc_print.specs.Computed.{digits_value, is_zero, quotient, Lexemes, before, with_number, with_text, starts, signs, divides, numbered, at_token, lexemes_of, literal_of}
use Rattle.abc_print.proofs.Complete.{complete}
use Rattle.abc_print.proofs.Sound.{sound}
use Rattle.abc_print.proofs.OneValue.{HasNumber, signed_number}
use Rattle.abc_print.proofs.Words.{to_lexed, are_lexemes}

-- ---- what is there
some_then : {A B : Type 0} (f : A → Option B) (o : Option A) (y : B) → option_and_then f o ≡ Some y → (x : A) × (o ≡ Some x) × (f x ≡ Some y)
some_then f None y e = absurd (cc)
some_then f (Some x) y e = (x, refl, e)

mapped : {A B : Type 0} (f : A → B) (o : Option A) (y : B) → option_map f o ≡ Some y → (x : A) × (o ≡ Some x) × (y ≡ f x)
mapped f None y e = absurd (cc)
mapped f (Some x) y e = (x, refl, sym (same_Some _ _ e))

told : (r : Result Fraction NumFault) (x : Fraction) → result_ok r ≡ Some x → r ≡ Ok x
told (Ok y) x e = ap Ok (same_Some _ _ e)
told (Err f) x e = absurd (cc)

-- ---- numbers
bottom_ne : (b : List ℕ) → pos (literal_denominator b) ≢ pos 0
bottom_ne b = pos_ne (literal_denominator b) (power-positive 10 (length (behind b)) (omega arith))

value_to : (b : List ℕ) (x : Fraction) → IsValueOf b x → digits_value b ≡ Some x
unfolding IsRatio
value_to b x h = ap result_ok (sym (ratio_is (pos (literal_numerator b)) (pos (literal_denominator b)) (Ok x) (bottom_ne b) h))

value_from : (b : List ℕ) (x : Fraction) → digits_value b ≡ Some x → IsValueOf b x
unfolding IsRatio
value_from b x e =
    is_ratio (pos (literal_numerator b)) (pos (literal_denominator b)) (Ok x) (bottom_ne b) (sym (told (ratio (pos (literal_numerator b)) (pos (literal_denominator b))) x e))

zero_is : (n : ℤ) → is_zero n ≡ true → n ≡ pos 0
zero_is (pos zero) e = refl
zero_is (pos (suc n)) e = absurd (cc)
zero_is (negsuc n) e = absurd (cc)

not_zero : (n : ℤ) → n ≢ pos 0 → is_zero n ≡ false
not_zero (pos zero) h = absurd (h refl)
not_zero (pos (suc n)) h = refl
not_zero (negsuc n) h = refl

zero_not : (n : ℤ) → is_zero n ≡ false → n ≢ pos 0
zero_not n e z = let bad : true ≡ false = sym (ap is_zero z) ∙ e in absurd (cc)

quotient_to : (x y z : Fraction) → IsNumber x → y.numerator ≢ pos 0 → IsQuotient x y (Ok z) → quotient x y ≡ Some z
quotient_to x y z h n q =
    let a = x.numerator *ℤ pos y.denominator in
    let b = y.numerator *ℤ pos x.denominator in
    ap (λ t. if t then None else result_ok (ratio a b)) (not_zero y.numerator n)
    ∙ ap result_ok (sym (ratio_is a b (Ok z) (factor_ne y.numerator x.denominator n (denominator-positive x h)) q))

quotient_by : (t : Bool) (x y z : Fraction) → is_zero y.numerator ≡ t → IsNumber x → (if t then None else result_ok (ratio (x.numerator *ℤ pos y.denominator) (y.numerator *ℤ pos x.denominator))) ≡ Some z
    → (y.numerator ≢ pos 0) × IsQuotient x y (Ok z)
quotient_by true x y z t h e = absurd (cc)
quotient_by false x y z t h e =
    let a = x.numerator *ℤ pos y.denominator in
    let b = y.numerator *ℤ pos x.denominator in
    let n = zero_not y.numerator t in
    (n, is_ratio a b (Ok z) (factor_ne y.numerator x.denominator n (denominator-positive x h)) (sym (told (ratio a b) z e)))

quotient_from : (x y z : Fraction) → IsNumber x → quotient x y ≡ Some z → (y.numerator ≢ pos 0) × IsQuotient x y (Ok z)
quotient_from x y z h e = quotient_by (is_zero y.numerator) x y z refl h e

-- ---- a token
number_is : (b : List ℕ) (P : Fraction → Type 0) (f : Fraction → Lexemes) (ls : List Lexeme) → ((x : Fraction) → IsNumber x → P x ↔ (f x ≡ Some ls))
    → number_then class.Number b P ↔ (option_and_then f (digits_value b) ≡ Some ls)
number_is b P f ls same = (
  λ h. ap (option_and_then f) (value_to b h.0 h.1) ∙ (same h.0 h.1.0).0 h.2,
  λ e. let found = some_then f (digits_value b) ls e in let v = value_from b found.0 found.1 in (found.0, v, (same found.0 v.0).1 found.2),
)

then_is : (l : Lexeme) (go : List Lexeme → Type 0) (rest : Lexemes) (ls : List Lexeme) → ((ms : List Lexeme) → go ms ↔ (rest ≡ Some ms)) → Then l go ls ↔ (before l rest ≡ Some ls)
then_is l go rest ls same = (
  λ h. ap (before l) ((same h.0).0 h.2) ∙ ap Some (sym h.1),
  λ e. let found = mapped (λ ms. l ∷ ms) rest ls e in (found.0, found.2, (same found.0).1 found.1),
)

nothing : {A : Type 0} (ls : A) → ⊥ ↔ (None ≡ Some ls)
nothing ls = (λ h. absurd h, λ e. cc)

module _ (next : State → List Lexeme → Type 0) (found : State → Lexemes) (same : (s : State) (ls : List Lexeme) → HasNumber s → next s ls ↔ (found s ≡ Some ls)) where
  text_is : (b : List ℕ) (ls : List Lexeme) → text_then b (next state.Start) ls ↔ (with_text found b ≡ Some ls)
  text_is [] ls = nothing ls
  text_is (q ∷ bytes) ls =
      let go : List ℕ → Lexemes = λ cs. before (lexeme.Value (text cs)) (found state.Start) in
      let one : (cs : List ℕ) → Then (lexeme.Value (text cs)) (next state.Start) ls ↔ (go cs ≡ Some ls) = λ cs. then_is (lexeme.Value (text cs)) (next state.Start) (found state.Start) ls (λ ms. same state.Start ms tt) in (
        λ h. ap (option_and_then go) h.1 ∙ (one h.0).0 h.2,
        λ e. let t = some_then go (content q bytes) ls e in (t.0, t.1, (one t.0).1 t.2),
      )

  start_is : (c : Class) (b : List ℕ) (ls : List Lexeme) → relation.starts c b next ls ↔ (starts found c b ≡ Some ls)
  start_is class.Number b ls = number_is b (λ x. next (state.Numbered x) ls) (λ x. found (state.Numbered x)) ls (λ x n. same (state.Numbered x) ls n)
  start_is class.Text b ls = text_is b ls
  start_is class.Plus b ls = same (state.Signed false) ls tt
  start_is class.Minus b ls = same (state.Signed true) ls tt
  start_is class.Slash b ls = nothing ls
  start_is (class.Mark m) b ls = then_is (lexeme.Mark m) (next state.Start) (found state.Start) ls (λ ms. same state.Start ms tt)
  start_is class.Other b ls = nothing ls

  whole_is : (c : Class) (b : List ℕ) (x : Fraction) (ls : List Lexeme) → Then (lexeme.Value (number x)) (relation.starts c b next) ls ↔ (before (lexeme.Value (number x)) (starts found c b) ≡ Some ls)
  whole_is c b x ls = then_is (lexeme.Value (number x)) (relation.starts c b next) (starts found c b) ls (start_is c b)

  numbered_is : (c : Class) (b : List ℕ) (x : Fraction) (ls : List Lexeme) → IsNumber x → relation.numbered c b next x ls ↔ (numbered found x c b ≡ Some ls)
  numbered_is class.Slash b x ls n = same (state.Divided x) ls n
  numbered_is class.Number b x ls n = whole_is class.Number b x ls
  numbered_is class.Text b x ls n = whole_is class.Text b x ls
  numbered_is class.Plus b x ls n = whole_is class.Plus b x ls
  numbered_is class.Minus b x ls n = whole_is class.Minus b x ls
  numbered_is (class.Mark m) b x ls n = whole_is (class.Mark m) b x ls
  numbered_is class.Other b x ls n = whole_is class.Other b x ls

  divided_is : (x y : Fraction) (ls : List Lexeme) → IsNumber x
      → relation.divides x next ls y ↔ (option_and_then (λ z. before (lexeme.Value (number z)) (found state.Start)) (quotient x y) ≡ Some ls)
  divided_is x y ls n =
      let go : Fraction → Lexemes = λ z. before (lexeme.Value (number z)) (found state.Start) in
      let one : (z : Fraction) → Then (lexeme.Value (number z)) (next state.Start) ls ↔ (go z ≡ Some ls) = λ z. then_is (lexeme.Value (number z)) (next state.Start) (found state.Start) ls (λ ms. same state.Start ms tt) in (
        λ h. ap (option_and_then go) (quotient_to x y h.1 n h.0 h.2) ∙ (one h.1).0 h.3,
        λ e. let t = some_then go (quotient x y) ls e in let q = quotient_from x y t.0 n t.1 in (q.0, t.0, q.1, (one t.0).1 t.2),
      )

  signs_is : (s : Bool) (c : Class) (b : List ℕ) (ls : List Lexeme) → number_then c b (λ x. next (state.Numbered (with_sign s x)) ls) ↔ (signs found s c b ≡ Some ls)
  signs_is s class.Number b ls = number_is b (λ x. next (state.Numbered (with_sign s x)) ls) (λ x. found (state.Numbered (with_sign s x))) ls (λ x n. same (state.Numbered (with_sign s x)) ls (signed_number s x n))
  signs_is s class.Text b ls = nothing ls
  signs_is s class.Plus b ls = nothing ls
  signs_is s class.Minus b ls = nothing ls
  signs_is s class.Slash b ls = nothing ls
  signs_is s (class.Mark m) b ls = nothing ls
  signs_is s class.Other b ls = nothing ls

  divides_is : (x : Fraction) (c : Class) (b : List ℕ) (ls : List Lexeme) → IsNumber x → number_then c b (relation.divides x next ls) ↔ (divides found x c b ≡ Some ls)
  divides_is x class.Number b ls n =
      number_is b (relation.divides x next ls) (λ y. option_and_then (λ z. before (lexeme.Value (number z)) (found state.Start)) (quotient x y)) ls (λ y k. divided_is x y ls n)
  divides_is x class.Text b ls n = nothing ls
  divides_is x class.Plus b ls n = nothing ls
  divides_is x class.Minus b ls n = nothing ls
  divides_is x class.Slash b ls n = nothing ls
  divides_is x (class.Mark m) b ls n = nothing ls
  divides_is x class.Other b ls n = nothing ls

  token_is : (c : Class) (b : List ℕ) (s : State) (ls : List Lexeme) → HasNumber s → relation.at_token c b next s ls ↔ (at_token found s c b ≡ Some ls)
  token_is c b state.Start ls n = start_is c b ls
  token_is c b (state.Signed s) ls n = signs_is s c b ls
  token_is c b (state.Numbered x) ls n = numbered_is c b x ls n
  token_is c b (state.Divided x) ls n = divides_is x c b ls n

-- ---- the tokens of a line
all_is : (ts : List Seen) (s : State) (ls : List Lexeme) → HasNumber s → lexed ts s ls ↔ (lexemes_of ts s ≡ Some ls)
unfolding lexed lexemes_of
all_is [] state.Start ls n = (λ e. ap Some (sym e), λ e. sym (same_Some _ _ e))
all_is [] (state.Signed s) ls n = nothing ls
all_is [] (state.Numbered x) ls n = (λ e. ap Some (sym e), λ e. sym (same_Some _ _ e))
all_is [] (state.Divided x) ls n = nothing ls
all_is (t ∷ ts) s ls n = token_is (lexed ts) (lexemes_of ts) (all_is ts) (class_of t.0 t.1) t.1 s ls n

-- a line has the tokens that are computed for it
abbrev pub TokensAreComputed : Type 0
TokensAreComputed = (line : List ℕ) (ts : List Token) → AreTokens line ts ↔ (read_line line ≡ Ok ts)

ok_then : {A B E : Type 0} (f : A → Option B) (r : Result A E) (y : B) → option_and_then f (result_ok r) ≡ Some y → (x : A) × (r ≡ Ok x) × (f x ≡ Some y)
ok_then f (Ok x) y e = (x, refl, e)
ok_then f (Err g) y e = absurd (cc)

pub line_is : TokensAreComputed → (line : List ℕ) (t : Tree) → IsLiteralLine line t ↔ (literal_of line ≡ Some t)
unfolding literal_of
line_is law line t = (
  λ h.
      let go : List Token → Lexemes = λ ts. lexemes_of (map (seen line) ts) state.Start in
      ap (λ r. option_and_then value_of (option_and_then go (result_ok r))) ((law line h.0).0 h.1)
      ∙ ap (option_and_then value_of) ((all_is (map (seen line) h.0) state.Start h.2 tt).0 (to_lexed h.3))
      ∙ complete t h.2 h.4,
  λ e.
      let go : List Token → Lexemes = λ ts. lexemes_of (map (seen line) ts) state.Start in
      let all = some_then value_of (option_and_then go (result_ok (read_line line))) t e in
      let tokens = ok_then go (read_line line) all.0 all.1 in
      (tokens.0, (law line tokens.0).1 tokens.1, all.0, are_lexemes (map (seen line) tokens.0) all.0 ((all_is (map (seen line) tokens.0) state.Start all.0 tt).1 tokens.2), sound t all.0 all.2),
)
