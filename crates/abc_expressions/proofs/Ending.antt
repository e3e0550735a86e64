-- A token that free operand in front takes: what holds where each frame has passed it on.
use Rattle.std.proofs.Common.{◌≡◌, ℕ, ◌≤◌, ◌<◌, inl, inr, ◌&&◌, Bool, true, false, List, [], ◌∷◌, Option, Some, None, refl, ap, arith, subst}
use Rattle.std.specs.Prelude.{◌≢◌, nat_le, if◌then◌else◌}
use Rattle.std.proofs.lemmas.Bool.{leb-true, leb-false, lt-leb}
use Rattle.abc_tree.specs.declared.formulas.Expr.{Expr}
use Rattle.abc_expressions.specs.declared.frames.Infix.{Infix}
use Rattle.abc_expressions.specs.declared.frames.Reach.{Reach}
use Rattle.abc_expressions.specs.declared.frames.Reach.TheVariants as r
use Rattle.abc_expressions.specs.declared.lexemes.Lexeme.{Lexeme}
use Rattle.abc_expressions.specs.declared.lexemes.Lexeme.TheVariants as t
use Rattle.abc_expressions.specs.declared.signs.Sign.TheVariants as s
use Rattle.abc_expressions.specs.Fronts.{EndsBefore}
use Rattle.abc_expressions.specs.Grammar.{Spelled}
use Rattle.abc_expressions.specs.inner.Machine.{reach_by, reach, within}
use Rattle.abc_expressions.specs.Operators.{infix_of}
use Rattle.abc_expressions.proofs.Levels.{HasShape, ShapedReach, shaped_reach, reach_joins, grasp, Follows}

-- no comma goes on with several expressions
abbrev pub NoComma : List Lexeme → Type 0
NoComma [] = Unit {0}
NoComma (token ∷ ts) = token ≢ t.Sign s.Comma

-- the tokens ts up to rest spell an expression, or several with commas between, which end there
abbrev pub IsWholeFront : List (List ℕ) → ℕ → List Lexeme → Expr → List Lexeme → Type 0
IsWholeFront own d ts a rest = Spelled own d a ts rest × EndsBefore own 1 rest × NoComma rest

-- the operand of level m has what the token asks, where its place, of least level k, takes the token
abbrev pub Full : Reach → ℕ → ℕ → Type 0
Full (r.Joins i) k m = k ≤ i.gives → i.left ≤ m
Full r.Selects k m = 10 ≤ m
Full r.Ends k m = Unit {0}

-- a place of least level k doesn't take the token
abbrev pub Passed : Reach → ℕ → Type 0
Passed (r.Joins i) k = i.gives < k
Passed r.Selects k = ⊥
Passed r.Ends k = Unit {0}

passed_joins : (i : Infix) (k m : ℕ) (x y : Bool) → nat_le k i.gives ≡ x → nat_le i.left m ≡ y → (k ≤ i.gives → i.left ≤ m)
    → (if x && y then r.Joins i else r.Ends) ≡ r.Ends → i.gives < k
passed_joins i k m true true p q full e = cc
passed_joins i k m true false p q full e =
    let le = full (leb-true k i.gives p) in
    let more = leb-false i.left m q in
    absurd (omega arith)
passed_joins i k m false y p q full e = leb-false k i.gives p

passed_selects : (m : ℕ) (x : Bool) → nat_le 10 m ≡ x → 10 ≤ m → (if x then r.Selects else r.Ends) ≡ r.Ends → ⊥
passed_selects m true p le e = cc
passed_selects m false p le e = let more = leb-false 10 m p in absurd (omega arith)

pub passed : (x : Reach) (k m : ℕ) → Full x k m → within x k m ≡ r.Ends → Passed x k
passed (r.Joins i) k m full e = passed_joins i k m (nat_le k i.gives) (nat_le i.left m) refl refl full e
passed r.Selects k m full e = passed_selects m (nat_le 10 m) refl full e
passed r.Ends k m full e = tt

-- ---- the operand is full at first, and behind each frame that ends

pub full_at_first : (x : Reach) (k m : ℕ) → ShapedReach x → m ≡ 10 → Full x k m
full_at_first (r.Joins i) k m (inl p) e = λ le. omega arith
full_at_first (r.Joins i) k m (inr p) e = λ le. omega arith
full_at_first r.Selects k m p e = omega arith
full_at_first r.Ends k m p e = tt

pub full_between : (x : Reach) (i : Infix) (j k : ℕ) → ShapedReach x → HasShape i → k ≡ i.right → Passed x k → Full x j i.gives
full_between (r.Joins o) i j k (inl p) (inl q) e low = λ le. omega arith
full_between (r.Joins o) i j k (inl p) (inr q) e low = λ le. omega arith
full_between (r.Joins o) i j k (inr p) (inl q) e low = λ le. omega arith
full_between (r.Joins o) i j k (inr p) (inr q) e low = λ le. omega arith
full_between r.Selects i j k p q e low = absurd low
full_between r.Ends i j k p q e low = tt

pub full_before : (x : Reach) (j k : ℕ) → ShapedReach x → k ≡ 7 → Passed x k → Full x j 7
full_before (r.Joins o) j k (inl p) e low = λ le. omega arith
full_before (r.Joins o) j k (inr p) e low = λ le. omega arith
full_before r.Selects j k p e low = absurd low
full_before r.Ends j k p e low = tt

-- ---- what a place doesn't take, by the grammar

pub ends_before : (own : List (List ℕ)) (token : Lexeme) (ts : List Lexeme) (k : ℕ) → Passed (reach own token) k → EndsBefore own k (token ∷ ts)
unfolding reach
ends_before own token ts k p =
    let At : Reach → Type 0 = λ x. Passed x k in
    let Of : Lexeme → Type 0 = λ x. Passed (reach own x) k in (
      λ e. subst Of e p,
      λ i h. subst At (reach_joins own token i h) p,
    )

passed_by : (own : List (List ℕ)) (i : Option Infix) (token : Lexeme) (ts : List Lexeme) (k : ℕ) → infix_of own token ≡ i → EndsBefore own k (token ∷ ts) → Passed (reach_by i token) k
passed_by own (Some i) token ts k h end = end.1 i h
passed_by own None (t.Sign s.Bracket) ts k h end = absurd (end.0 refl)
passed_by own None _ ts k h end = tt

is_passed : (own : List (List ℕ)) (token : Lexeme) (ts : List Lexeme) (k : ℕ) → EndsBefore own k (token ∷ ts) → Passed (reach own token) k
unfolding reach
is_passed own token ts k end = passed_by own (infix_of own token) token ts k refl end

low_grasp : (x : Reach) (n : ℕ) → ShapedReach x → Passed x n → grasp x ≤ n
low_grasp (r.Joins i) n (inl p) low = omega arith
low_grasp (r.Joins i) n (inr p) low = omega arith
low_grasp r.Selects n p low = absurd low
low_grasp r.Ends n p low = omega arith

pub follows : (own : List (List ℕ)) (n : ℕ) (ts : List Lexeme) → EndsBefore own n ts → Follows own n ts
follows own n [] end = tt
follows own n (token ∷ ts) end = low_grasp (reach own token) n (shaped_reach own token) (is_passed own token ts n end)

within_none : (x : Reach) (k m : ℕ) → Passed x k → within x k m ≡ r.Ends
within_none (r.Joins i) k m low = ap (λ b. if b && nat_le i.left m then r.Joins i else r.Ends) (lt-leb k i.gives low)
within_none r.Selects k m low = absurd low
within_none r.Ends k m low = refl

pub stays_out : (own : List (List ℕ)) (token : Lexeme) (ts : List Lexeme) (k m : ℕ) → EndsBefore own k (token ∷ ts) → within (reach own token) k m ≡ r.Ends
stays_out own token ts k m end = within_none (reach own token) k m (is_passed own token ts k end)
