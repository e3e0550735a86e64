-- The tree in front of some tokens is the one that the grammar spells there.
use Rattle.std.proofs.Common.{◌≡◌, ◌≤◌, ℕ, List, [], ◌∷◌, Some, None, refl, ap, sym, ◌∙◌, subst, arith}
use Rattle.std.specs.Prelude.{Result, Ok, Err}
use Rattle.std.proofs.lemmas.Option.{same_Some}
use Rattle.abc_tree.specs.declared.formulas.Expr.{Expr}
use Rattle.abc_expressions.specs.declared.fault.FormulaFault.{FormulaFault}
use Rattle.abc_expressions.specs.declared.fault.FormulaFault.TheVariants as fault
use Rattle.abc_expressions.specs.declared.frames.Frame.TheVariants as f
use Rattle.abc_expressions.specs.declared.frames.Group.TheVariants as grp
use Rattle.abc_expressions.specs.declared.frames.Reach.{Reach}
use Rattle.abc_expressions.specs.declared.frames.Reach.TheVariants as r
use Rattle.abc_expressions.specs.declared.frames.Turn.TheVariants as turn
use Rattle.abc_expressions.specs.declared.lexemes.Lexeme.{Lexeme}
use Rattle.abc_expressions.specs.declared.tree.ExpressionFront.{ExpressionFront}
use Rattle.abc_expressions.specs.Fronts.{EndsBefore, IsFront, FindsOnly}
use Rattle.abc_expressions.specs.Grammar.{Spells}
use Rattle.abc_expressions.specs.inner.Machine.{Found, Leaves, reader, reach, within, taken, run, popped, finished, tree_at, expression_of}
use Rattle.abc_expressions.specs.Readings.{Finds}
use Rattle.abc_tokens.proofs.Faults.{OneReading}
use Rattle.abc_expressions.proofs.Complete.{complete}
use Rattle.abc_expressions.proofs.Levels.{grasp, Follows}
use Rattle.abc_expressions.proofs.Ending.{follows, stays_out}
use Rattle.abc_expressions.proofs.Sound.{reads_front}

stops_single : (leaves : Leaves) (own : List (List ℕ)) (d n : ℕ) (a : Expr) (rest : List Lexeme) → EndsBefore own n rest
    → run leaves own rest d (f.Inside n grp.Single ∷ []) (turn.Has n n a) ≡ Some (a, rest)
unfolding run popped finished
stops_single leaves own d n a [] end = refl
stops_single leaves own d n a (token ∷ ts) end =
    ap (λ x. taken x (run leaves own ts) d (f.Inside n grp.Single ∷ []) n a (Some (a, token ∷ ts))) (stays_out own token ts n n end)

pub front_found : OneReading → (own : List (List ℕ)) (d n : ℕ) (ts : List Lexeme) (a : Expr) (rest : List Lexeme) → IsFront own d n ts a rest
    → tree_at n grp.Single (reader own d) own d ts ≡ Some (a, rest)
front_found law own d n ts a rest h =
    complete law h.0 d n (f.Inside n grp.Single ∷ []) (omega arith) (omega arith) (follows own n rest h.1) ∙ stops_single (reader own d) own d n a rest h.1

-- what finds exactly that of which this is true answers with the only one
only : (is : Expr → List Lexeme → Type 0) (found : Found) → ((a : Expr) (rest : List Lexeme) → is a rest → found ≡ Some (a, rest))
    → ((a : Expr) (rest : List Lexeme) → found ≡ Some (a, rest) → is a rest) → (x : Result ExpressionFront FormulaFault) → Finds x found → FindsOnly is x
only is found finds told (Ok front) h = (
  told front.tree front.rest.now h,
  λ a rest p. let e = same_Some (a, rest) (front.tree, front.rest.now) (sym (finds a rest p) ∙ h) in (ap (λ x. x.0) e, ap (λ x. x.1) e),
)
only is found finds told (Err fault.BadCommand) h = λ a rest p. let r : Found = None in let e : r ≡ Some (a, rest) = sym h ∙ finds a rest p in cc
only is found finds told (Err fault.TooMany) h = h
only is found finds told (Err fault.Memory) h = tt

module _ (law : OneReading) (own : List (List ℕ)) (d : ℕ) (ts : List Lexeme) (x : Result ExpressionFront FormulaFault) where
  one_front : (n : ℕ) → n ≤ 10 → Finds x (tree_at n grp.Single (reader own d) own d ts) → FindsOnly (IsFront own d n ts) x
  one_front n low h =
      only (IsFront own d n ts) (tree_at n grp.Single (reader own d) own d ts) (front_found law own d n ts) (λ a rest e. reads_front law own d d n low ts rest a e) x h

  pub single_told : (n : ℕ) → ((c : ℕ) → d ≤ c → Finds x (expression_of (reader own c) own n d ts)) → n ≤ 10 → FindsOnly (IsFront own d n ts) x
  single_told n h low = one_front n low (h d (omega arith))

-- ---- before tokens that end every expression

abbrev pub Ends : List (List ℕ) → List Lexeme → Type 0
Ends own [] = Unit {0}
Ends own (token ∷ ts) = reach own token ≡ r.Ends

follows_end : (own : List (List ℕ)) (n : ℕ) (ts : List Lexeme) → Ends own ts → Follows own n ts
follows_end own n [] e = tt
follows_end own n (token ∷ ts) e = let P : Reach → Type 0 = λ x. grasp x ≤ n in subst P (sym e) (omega arith)

stops_here : (leaves : Leaves) (own : List (List ℕ)) (d n : ℕ) (a : Expr) (rest : List Lexeme) → Ends own rest
    → run leaves own rest d (f.Inside n grp.Single ∷ []) (turn.Has n n a) ≡ Some (a, rest)
unfolding run popped finished
stops_here leaves own d n a [] e = refl
stops_here leaves own d n a (token ∷ ts) e = ap (λ x. taken (within x n n) (run leaves own ts) d (f.Inside n grp.Single ∷ []) n a (Some (a, token ∷ ts))) e

pub expression_found : (law : OneReading) {own : List (List ℕ)} {d n : ℕ} {a : Expr} {ts rest : List Lexeme} → Spells own d n a ts rest → (c : ℕ) → d ≤ c → Ends own rest
    → expression_of (reader own c) own n d ts ≡ Some (a, rest)
expression_found law {own = own} {d = d} {n = n} {a = a} {rest = rest} p c deep e =
    complete law p c n (f.Inside n grp.Single ∷ []) deep (omega arith) (follows_end own n rest e) ∙ stops_here (reader own c) own d n a rest e
