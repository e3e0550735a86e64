-- The functions that read texts and tokens by recursion.
use Rattle.std.proofs.Common.{◌≡◌, ◌≤◌, ◌-◌, ℕ, zero, suc, List, [], ◌∷◌, ◌++◌, Option, Some, None, refl, ap, sym, ◌∙◌, subst, length, arith}
use Rattle.std.specs.Prelude.{Result, Ok, Err}
use Rattle.abc_tree.specs.declared.formulas.Expr.{Expr}
use Rattle.abc_tree.specs.declared.formulas.Pair.{Pair}
use Rattle.abc_tree.specs.declared.formulas.Piece.{Piece}
use Rattle.abc_expressions.specs.declared.fault.FormulaFault.{FormulaFault}
use Rattle.abc_expressions.specs.declared.fault.FormulaFault.TheVariants as fault
use Rattle.abc_expressions.specs.declared.frames.Frame.{Frame}
use Rattle.abc_expressions.specs.declared.frames.Frame.TheVariants as f
use Rattle.abc_expressions.specs.declared.frames.Group.TheVariants as grp
use Rattle.abc_expressions.specs.declared.frames.Operand.{Operand}
use Rattle.abc_expressions.specs.declared.frames.Step.{Step}
use Rattle.abc_expressions.specs.declared.frames.Step.TheVariants as step
use Rattle.abc_expressions.specs.declared.frames.Turn.{Turn}
use Rattle.abc_expressions.specs.declared.frames.Turn.TheVariants as turn
use Rattle.abc_expressions.specs.declared.lexemes.Lexeme.{Lexeme}
use Rattle.abc_expressions.specs.declared.signs.Sign.{Sign}
use Rattle.abc_expressions.specs.declared.signs.Sign.TheVariants as s
use Rattle.abc_expressions.specs.inner.Machine.{Found, Leaves, Converts, converter, leaf, wanted, in_display, at_pair, at_colon, at_end, at_token, finished, run, tree_of, alone, lexed, conversion_at, read_tokens}
use Rattle.abc_expressions.specs.inner.Steps.{Steps, Gives}
use Rattle.abc_expressions.specs.Readings.{Finds}

-- pieces that were found before others
abbrev pub after_pieces : List Piece → Option (List Piece) → Option (List Piece)
after_pieces xs None = None
after_pieces xs (Some ys) = Some (xs ++ ys)

-- ---- one token

pub wants_same : (here : List Lexeme) (x y : Operand) (d k : ℕ) (stack : List Frame) (z : Result Step FormulaFault) (e : ℕ) (new : List Frame) → x ≡ y
    → Steps here (λ next. wanted y next d stack k) z e new → Steps here (λ next. wanted x next d stack k) z e new
wants_same here x y d k stack z e new is p = subst (λ w. Steps here (λ next. wanted w next d stack k) z e new) (sym is) p

pub display_same : (here : List Lexeme) (a b : Sign) (x : Operand) (d k : ℕ) (stack : List Frame) (z : Result Step FormulaFault) (e : ℕ) (new : List Frame) → a ≡ b
    → Steps here (λ next. in_display b x next d stack k) z e new → Steps here (λ next. in_display a x next d stack k) z e new
display_same here a b x d k stack z e new is p = subst (λ w. Steps here (λ next. in_display w x next d stack k) z e new) (sym is) p

pub display_other : (here : List Lexeme) (a : Sign) (x y : Operand) (d k : ℕ) (stack : List Frame) (z : Result Step FormulaFault) (e : ℕ) (new : List Frame)
    → (a ≡ s.Unbrace → ⊥) → (a ≡ s.Bracket → ⊥) → x ≡ y
    → Steps here (λ next. wanted y next d (f.Inside k (grp.Fill []) ∷ stack) 1) z e new → Steps here (λ next. in_display a x next d stack k) z e new
display_other here s.Unbrace x y d k stack z e new n m is p = absurd (n refl)
display_other here s.Bracket x y d k stack z e new n m is p = absurd (m refl)
display_other here _ x y d k stack z e new n m is p = wants_same here x y d 1 (f.Inside k (grp.Fill []) ∷ stack) z e new is p

pub pair_same : (here : List Lexeme) (a b : Sign) (d k : ℕ) (stack : List Frame) (pairs : List Pair) (z : Result Step FormulaFault) (e : ℕ) (new : List Frame) → a ≡ b
    → Steps here (λ next. at_pair b next d stack k pairs) z e new → Steps here (λ next. at_pair a next d stack k pairs) z e new
pair_same here a b d k stack pairs z e new is p = subst (λ w. Steps here (λ next. at_pair w next d stack k pairs) z e new) (sym is) p

pub colon_same : (here : List Lexeme) (a b : Sign) (d k : ℕ) (stack : List Frame) (pairs : List Pair) (key : Expr) (z : Result Step FormulaFault) (e : ℕ) (new : List Frame) → a ≡ b
    → Steps here (λ next. at_colon b next d stack k pairs key) z e new → Steps here (λ next. at_colon a next d stack k pairs key) z e new
colon_same here a b d k stack pairs key z e new is p = subst (λ w. Steps here (λ next. at_colon w next d stack k pairs key) z e new) (sym is) p

-- ---- conversions

pub converted_is : (own : List (List ℕ)) (bytes there : List ℕ) (left : ℕ) (x : Option (List Lexeme)) (y : Option Expr) → (left ≡ 0 → ⊥) → bytes ≡ there → lexed there ≡ x
    → ((c : ℕ) → left - 1 ≤ c → read_tokens (converter own c) own (left - 1) x ≡ y) → (c : ℕ) → left ≤ c → conversion_at (converter own c) left bytes ≡ y
unfolding converter
converted_is own bytes there zero x y some is e h c le = absurd (some refl)
converted_is own bytes there (suc d) x y some is e h zero le = absurd (omega arith)
converted_is own bytes there (suc d) x y some is e h (suc c) le =
    let q : suc d - 1 ≡ d = omega arith in
    let low : suc d - 1 ≤ c = omega arith in
    ap (read_tokens (converter own c) own d) (ap lexed is ∙ e) ∙ ap (λ k. read_tokens (converter own c) own k x) (sym q) ∙ h c low

module _ (convert : Converts) (own : List (List ℕ)) (d : ℕ) (xs : List Expr) (us ts : List Lexeme) (none : xs ≡ []) (same : us ≡ ts) where
  read_here : (x : Found) → tree_of (grp.Whole xs) (leaf convert) own d us ≡ x → read_tokens convert own d (Some ts) ≡ alone x
  read_here x h =
      ap (λ z. alone (tree_of (grp.Whole []) (leaf convert) own d z)) (sym same)
      ∙ ap (λ z. alone (tree_of (grp.Whole z) (leaf convert) own d us)) (sym none) ∙ ap alone h

  pub read_alone : (a : Expr) (rest : List Lexeme) → tree_of (grp.Whole xs) (leaf convert) own d us ≡ Some (a, rest) → length rest ≡ 0 → read_tokens convert own d (Some ts) ≡ Some a
  read_alone a [] h e = read_here (Some (a, [])) h
  read_alone a (t ∷ rest) h e = absurd (omega arith)

  pub read_more : (a : Expr) (rest : List Lexeme) → tree_of (grp.Whole xs) (leaf convert) own d us ≡ Some (a, rest) → (length rest ≡ 0 → ⊥) → read_tokens convert own d (Some ts) ≡ None
  read_more a [] h e = absurd (e refl)
  read_more a (t ∷ rest) h e = read_here (Some (a, t ∷ rest)) h

  pub read_none : tree_of (grp.Whole xs) (leaf convert) own d us ≡ None → read_tokens convert own d (Some ts) ≡ None
  read_none h = read_here None h

-- ---- the loop over the tokens

module _ (leaves : Leaves) (own : List (List ℕ)) (left : List Lexeme) (d : ℕ) (stack : List Frame) (t : Turn) (all : Found) (so_far : run leaves own left d stack t ≡ all) where
  along : (token : Lexeme) (ts : List Lexeme) → left ≡ token ∷ ts → at_token leaves own token ts (run leaves own ts) d stack t ≡ all
  unfolding run
  along token ts is = ap (λ l. run leaves own l d stack t) (sym is) ∙ so_far

  pub goes_on : (token : Lexeme) (ts : List Lexeme) → left ≡ token ∷ ts → (e : ℕ) (new : List Frame) (u : Turn)
      → Steps (token ∷ ts) (λ next. at_token leaves own token ts next d stack t) (Ok (step.Goes u)) e new → run leaves own ts e new u ≡ all
  goes_on token ts is e new u h = sym (h (run leaves own ts)) ∙ along token ts is

  pub stops : (token : Lexeme) (ts : List Lexeme) → left ≡ token ∷ ts → (e : ℕ) (new : List Frame) (a : Expr)
      → Steps (token ∷ ts) (λ next. at_token leaves own token ts next d stack t) (Ok (step.Stops a)) e new → all ≡ Some (a, left)
  stops token ts is e new a h = sym (along token ts is) ∙ h (run leaves own ts) ∙ ap (λ z. Some (a, z)) (sym is)

  pub refused : (token : Lexeme) (ts : List Lexeme) → left ≡ token ∷ ts → (e : ℕ) (new : List Frame) (x : FormulaFault)
      → Steps (token ∷ ts) (λ next. at_token leaves own token ts next d stack t) (Err x) e new → Finds (Err x) all
  refused token ts is e new fault.BadCommand h = sym (along token ts is) ∙ h (run leaves own ts)
  refused token ts is e new fault.TooMany h = h
  refused token ts is e new fault.Memory h = tt

  at_last : left ≡ [] → at_end stack t ≡ all
  unfolding run
  at_last is = ap (λ l. run leaves own l d stack t) (sym is) ∙ so_far

  pub unended : left ≡ [] → ((k m : ℕ) (a : Expr) → t ≡ turn.Has k m a → ⊥) → all ≡ None
  unended is n = sym (at_last is) ∙ none_there t n
    where
      none_there : (t : Turn) → ((k m : ℕ) (a : Expr) → t ≡ turn.Has k m a → ⊥) → at_end stack t ≡ None
      none_there (turn.Has k m a) n = absurd (n k m a refl)
      none_there (turn.Wants k) n = refl
      none_there (turn.Display k) n = refl
      none_there (turn.Pair k pairs) n = refl
      none_there (turn.Colon k pairs key) n = refl

  pub ended : left ≡ [] → (k m : ℕ) (a : Expr) → t ≡ turn.Has k m a → finished stack a ≡ all
  ended is k m a e = sym (ap (at_end stack) e) ∙ at_last is

pub gives_front : (found all : Found) (rest : List Lexeme) → found ≡ all → rest ≡ [] → (a : Expr) → Gives (Ok a) found → all ≡ Some (a, rest)
gives_front found all rest e is a h = sym e ∙ h ∙ ap (λ z. Some (a, z)) (sym is)

pub gives_fault : (y : FormulaFault) (found all : Found) → found ≡ all → Gives (Err y) found → Finds (Err y) all
gives_fault fault.BadCommand found all e h = sym e ∙ h
gives_fault fault.TooMany found all e h = h
gives_fault fault.Memory found all e h = tt
