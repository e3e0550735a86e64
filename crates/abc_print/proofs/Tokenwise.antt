-- One token more.
use Rattle.std.proofs.Common.{◌≡◌, ◌≢◌, ℕ, pos, ◌*ℤ◌, Bool, List, [], ◌∷◌, ◌++◌, length, Result, Ok, Err, refl, sym, ap, ◌∙◌, subst, arith}
use Rattle.std.specs.Prelude.{◌↔◌, IsErrOf}
use Rattle.std.proofs.lemmas.List.{append_assoc}
use Rattle.abc_num.specs.Number.{Fraction, IsNumber}
use Rattle.abc_num.specs.declared.number.NumFault.{NumFault}
use Rattle.abc_num.specs.declared.number.NumFault.TheVariants as num_fault
use Rattle.abc_num.specs.Ratio.{IsRatio}
use Rattle.abc_num.proofs.LowestTerms.{number_lowest}
use Rattle.abc_num.specs.Literal.{literal_numerator, literal_denominator, behind}
use Rattle.abc_num.specs.Operations.{IsQuotient}
use Rattle.abc_num.proofs.OrderLaws.{one_number}
use Rattle.abc_num.proofs.Digits.{power-positive}
use Rattle.abc_num.proofs.Ratios.{IsRatio-number, IsRatio-no_number, pos_ne}
use Rattle.abc_num.proofs.Signs.{factor_ne}
use Rattle.abc_value.specs.Tree.{number}
use Rattle.abc_print.specs.declared.faults.LiteralFault.{LiteralFault}
use Rattle.abc_print.specs.declared.faults.LiteralFault.TheVariants as fault
use Rattle.abc_print.specs.declared.frames.Lexeme.{Lexeme}
use Rattle.abc_print.specs.declared.frames.Lexeme.TheVariants as lexeme
use Rattle.abc_print.specs.declared.lexing.Class.{Class}
use Rattle.abc_print.specs.declared.lexing.Class.TheVariants as class
use Rattle.abc_print.specs.declared.lexing.State.{State}
use Rattle.abc_print.specs.declared.lexing.State.TheVariants as state
use Rattle.abc_print.specs.Lexemes.{Seen, IsValueOf, with_sign}
use Rattle.abc_print.specs.inner.Lexing.{Then, at_token, lexed, RestBy, Reads, GivesNumber, GivesQuotient, starts, numbered, divides}

pub one_value : (b : List ℕ) (x y : Fraction) → IsValueOf b x → IsValueOf b y → x ≡ y
one_value b x y h k =
    one_number (pos (literal_numerator b)) (pos (literal_denominator b)) x y (pos_ne (literal_denominator b) (power-positive 10 (length (behind b)) (omega arith))) h.0 k.0 h.1 k.1

module _ (all : List Lexeme) (c : Class) (b : List ℕ) (s : State) where
  pub reads_same : (after : State) → ((ts : List Seen) (ms : List Lexeme) → at_token c b (lexed ts) s ms ↔ lexed ts after ms) → Reads all c b s all (Ok after)
  reads_same after f ts ls = (λ r. (r.0, r.1, (f ts r.0).0 r.2), λ r. (r.0, r.1, (f ts r.0).1 r.2))

  pub reads_push : (new : List Lexeme) (l : Lexeme) (after : State) → new ≡ all ++ l ∷ [] → ((ts : List Seen) (ms : List Lexeme) → at_token c b (lexed ts) s ms ↔ Then l (lexed ts after) ms) → Reads all c b s new (Ok after)
  reads_push new l after e f ts ls = (
    λ r.
        let g = (f ts r.0).0 r.2 in
        (g.0, r.1 ∙ ap (λ z. all ++ z) g.1 ∙ sym (append_assoc all (l ∷ []) g.0) ∙ ap (λ z. z ++ g.0) (sym e), g.2),
    λ r. (l ∷ r.0, r.1 ∙ ap (λ z. z ++ r.0) e ∙ append_assoc all (l ∷ []) r.0, (f ts (l ∷ r.0)).1 (r.0, refl, r.2)),
  )

  pub reads_never : (new : List Lexeme) → ((ts : List Seen) (ms : List Lexeme) → ¬ (at_token c b (lexed ts) s ms)) → Reads all c b s new (Err fault.BadInput)
  reads_never new f ts ls r = f ts r.0 r.2

  pub reads_refused : (new : List Lexeme) (g : LiteralFault) → (g ≡ fault.BadInput → (ts : List Seen) (ms : List Lexeme) → ¬ (at_token c b (lexed ts) s ms)) → Reads all c b s new (Err g)
  reads_refused new fault.BadInput f = reads_never new (f refl)
  reads_refused new fault.Memory f = tt

-- a number, whatever is done with it
module _ (b : List ℕ) (P : Fraction → Type 0) where
  pub with_number : (x : Fraction) → IsValueOf b x → ((y : Fraction) × IsValueOf b y × P y) ↔ P x
  with_number x h = (λ r. subst P (one_value b r.0 x r.1 h) r.2, λ p. (x, h, p))

pub no_number : (r : LiteralFault) (b : List ℕ) (P : Fraction → Type 0) → GivesNumber (Err r) b → ¬ ((y : Fraction) × IsValueOf b y × P y)
no_number fault.BadInput b P h r = h r.0 r.1
no_number fault.Memory b P h r = h

pub start_number : (all : List Lexeme) (b : List ℕ) (x : Fraction) → IsValueOf b x → Reads all class.Number b state.Start all (Ok (state.Numbered x))
start_number all b x h = reads_same all class.Number b state.Start (state.Numbered x) (λ ts ms. with_number b (λ y. lexed ts (state.Numbered y) ms) x h)

pub signed_number : (all : List Lexeme) (b : List ℕ) (s : Bool) (x : Fraction) → IsValueOf b x → Reads all class.Number b (state.Signed s) all (Ok (state.Numbered (with_sign s x)))
signed_number all b s x h = reads_same all class.Number b (state.Signed s) (state.Numbered (with_sign s x)) (λ ts ms. with_number b (λ y. lexed ts (state.Numbered (with_sign s y)) ms) x h)

pub one_quotient : (x y z w : Fraction) → IsNumber x → y.numerator ≢ pos 0 → IsQuotient x y (Ok z) → IsQuotient x y (Ok w) → w ≡ z
one_quotient x y z w n h p q =
    let a = x.numerator *ℤ pos y.denominator in
    let b = y.numerator *ℤ pos x.denominator in
    let u = IsRatio-number a b z p in
    let v = IsRatio-number a b w q in
    one_number a b w z (factor_ne y.numerator x.denominator h (number_lowest x n).1) v.0 u.0 v.1 u.1

pub quotient_refused : (x y : Fraction) (r : Result Fraction NumFault) (f : NumFault) → r ≡ Err f → (y.numerator ≢ pos 0 → IsQuotient x y r) → GivesQuotient (Err fault.BadInput) x y
quotient_refused x y r f e h z nz q =
    let a = x.numerator *ℤ pos y.denominator in
    let b = y.numerator *ℤ pos x.denominator in
    let none = IsRatio-no_number a b f (subst (IsRatio a b) e (h nz)) in
    let v = IsRatio-number a b z q in
    none z v.0 v.1

pub quotient_given : (x y z : Fraction) (r : Result Fraction NumFault) → r ≡ Ok z → IsNumber x → (IsErrOf r num_fault.DivisionByZero ↔ (y.numerator ≡ pos 0)) → (y.numerator ≢ pos 0 → IsQuotient x y r) → GivesQuotient (Ok z) x y
quotient_given x y z r e n zero h =
    let nz : y.numerator ≢ pos 0 = λ k. let bad = subst (λ s. IsErrOf s num_fault.DivisionByZero) e (zero.1 k) in cc in
    let q = subst (λ s. IsQuotient x y s) e (h nz) in
    (nz, q, λ w v. one_quotient x y z w n nz q v)

-- ---- a class that nothing begins with

no_quotient : (g : LiteralFault) (x y : Fraction) (next : State → List Lexeme → Type 0) (ms : List Lexeme) → GivesQuotient (Err g) x y → ¬ (divides x next ms y)
no_quotient fault.BadInput x y next ms h r = h r.1 r.0 r.2
no_quotient fault.Memory x y next ms h r = h

pub divided_no_quotient : (all new : List Lexeme) (b : List ℕ) (x y : Fraction) (g : LiteralFault) → IsValueOf b y → GivesQuotient (Err g) x y → Reads all class.Number b (state.Divided x) new (Err g)
divided_no_quotient all new b x y g v h =
    reads_refused all class.Number b (state.Divided x) new g (λ e ts ms r. no_quotient g x y (lexed ts) ms h ((with_number b (divides x (lexed ts) ms) y v).0 r))

pub divided_number : (all new : List Lexeme) (b : List ℕ) (x y z : Fraction) → IsValueOf b y → GivesQuotient (Ok z) x y → new ≡ all ++ lexeme.Value (number z) ∷ [] → Reads all class.Number b (state.Divided x) new (Ok state.Start)
divided_number all new b x y z v q e = reads_push all class.Number b (state.Divided x) new (lexeme.Value (number z)) state.Start e (λ ts ms. (
  λ r.
      let d = (with_number b (divides x (lexed ts) ms) y v).0 r in
      let same : d.1 ≡ z = q.2 d.1 d.2 in
      (d.3.0, d.3.1 ∙ ap (λ w. lexeme.Value (number w) ∷ d.3.0) same, d.3.2),
  λ r. (with_number b (divides x (lexed ts) ms) y v).1 (q.0, z, q.1, r),
))

-- ---- texts and signs

-- ---- a number that nothing divides

numbered_to : (c : Class) (b : List ℕ) (next : State → List Lexeme → Type 0) (x : Fraction) (ms : List Lexeme) → (c ≡ class.Slash → ⊥) → numbered c b next x ms → Then (lexeme.Value (number x)) (starts c b next) ms
numbered_to class.Slash b next x ms h r = absurd (h refl)
numbered_to class.Number b next x ms h r = r
numbered_to class.Text b next x ms h r = r
numbered_to class.Plus b next x ms h r = r
numbered_to class.Minus b next x ms h r = r
numbered_to (class.Mark m) b next x ms h r = r
numbered_to class.Other b next x ms h r = r

numbered_from : (c : Class) (b : List ℕ) (next : State → List Lexeme → Type 0) (x : Fraction) (ms : List Lexeme) → (c ≡ class.Slash → ⊥) → Then (lexeme.Value (number x)) (starts c b next) ms → numbered c b next x ms
numbered_from class.Slash b next x ms h r = absurd (h refl)
numbered_from class.Number b next x ms h r = r
numbered_from class.Text b next x ms h r = r
numbered_from class.Plus b next x ms h r = r
numbered_from class.Minus b next x ms h r = r
numbered_from (class.Mark m) b next x ms h r = r
numbered_from class.Other b next x ms h r = r

module _ (all mid : List Lexeme) (c : Class) (b : List ℕ) (x : Fraction) (h : c ≡ class.Slash → ⊥) (e : mid ≡ all ++ lexeme.Value (number x) ∷ []) where
  to_start : (ts : List Seen) (ls : List Lexeme) → RestBy all c b ts (state.Numbered x) ls → RestBy mid c b ts state.Start ls
  to_start ts ls r =
      let p = numbered_to c b (lexed ts) x r.0 h r.2 in
      (p.0, r.1 ∙ ap (λ z. all ++ z) p.1 ∙ sym (append_assoc all (lexeme.Value (number x) ∷ []) p.0) ∙ ap (λ z. z ++ p.0) (sym e), p.2)

  from_start : (ts : List Seen) (ls : List Lexeme) → RestBy mid c b ts state.Start ls → RestBy all c b ts (state.Numbered x) ls
  from_start ts ls r = (
    lexeme.Value (number x) ∷ r.0,
    r.1 ∙ ap (λ z. z ++ r.0) e ∙ append_assoc all (lexeme.Value (number x) ∷ []) r.0,
    numbered_from c b (lexed ts) x (lexeme.Value (number x) ∷ r.0) h (r.0, refl, r.2),
  )

  pub reads_flush : (new : List Lexeme) (r : Result State LiteralFault) → Reads mid c b state.Start new r → Reads all c b (state.Numbered x) new r
  reads_flush new (Ok after) f = λ ts ls. (λ r. (f ts ls).0 (to_start ts ls r), λ r. from_start ts ls ((f ts ls).1 r))
  reads_flush new (Err fault.BadInput) f = λ ts ls r. f ts ls (to_start ts ls r)
  reads_flush new (Err fault.Memory) f = tt
