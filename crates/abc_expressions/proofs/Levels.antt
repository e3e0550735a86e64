-- What a token that goes on behind an operand asks, and what level matters to it.
use Rattle.std.proofs.Common.{◌≡◌, ℕ, suc, ◌≤◌, ◌<◌, ◌≢◌, ◌⊎◌, inl, inr, ◌&&◌, Bool, true, false, List, [], ◌∷◌, Option, Some, None, refl, ap, arith, sym, ◌∙◌}
use Rattle.std.specs.Prelude.{nat_le, if◌then◌else◌}
use Rattle.std.proofs.lemmas.Bool.{le-leb, lt-leb}
use Rattle.abc_tree.specs.declared.formulas.Expr.{Expr}
use Rattle.abc_tree.specs.declared.operations.Op.{Op}
use Rattle.abc_tree.specs.Roles.{is_membership}
use Rattle.abc_expressions.specs.declared.signs.Sign.{Sign}
use Rattle.abc_expressions.specs.declared.signs.Sign.TheVariants as s
use Rattle.abc_expressions.specs.declared.lexemes.Lexeme.{Lexeme}
use Rattle.abc_expressions.specs.declared.lexemes.Lexeme.TheVariants as t
use Rattle.abc_expressions.specs.declared.frames.Kind.{Kind}
use Rattle.abc_expressions.specs.declared.frames.Kind.TheVariants as kind
use Rattle.abc_expressions.specs.declared.frames.Infix.{Infix}
use Rattle.abc_expressions.specs.declared.frames.Join.{Join}
use Rattle.abc_expressions.specs.declared.frames.Join.TheVariants as j
use Rattle.abc_expressions.specs.declared.frames.Frame.{Frame}
use Rattle.abc_expressions.specs.declared.frames.Frame.TheVariants as f
use Rattle.abc_expressions.specs.declared.frames.Turn.TheVariants as turn
use Rattle.abc_expressions.specs.declared.frames.Reach.{Reach}
use Rattle.abc_expressions.specs.declared.frames.Reach.TheVariants as r
use Rattle.abc_expressions.specs.Operators.{kind_of, infix_by, sign_infix, infix_of, leftward, joined1, joined2}
use Rattle.abc_expressions.specs.inner.Machine.{Leaves, reach_by, reach, within, taken, popped, finished, run}

-- the levels of an operator: to the left, or those of a power
abbrev pub HasShape : Infix → Type 0
HasShape i = ((i.left ≡ i.gives) × (i.right ≡ suc i.gives) × (i.gives ≤ 9) × (i.gives ≢ 7) × (i.gives ≢ 8) × (1 ≤ i.gives)) ⊎ ((i.gives ≡ 8) × (i.left ≡ 9) × (i.right ≡ 7))

abbrev pub Shaped : Option Infix → Type 0
Shaped None = Unit {0}
Shaped (Some i) = HasShape i

shaped_member : (two : Op) (b : Bool) → Shaped (if b then None else Some (leftward 1 (j.Op two)))
shaped_member two true = tt
shaped_member two false = inl (refl, refl, omega arith, omega arith, omega arith, omega arith)

shaped_by : (k : Kind) (x : List ℕ) → Shaped (infix_by k x)
shaped_by (kind.Own i) x = tt
shaped_by (kind.Given one None) x = tt
shaped_by (kind.Given one (Some two)) x = shaped_member two (is_membership two)
shaped_by kind.Free x = inl (refl, refl, omega arith, omega arith, omega arith, omega arith)

shaped_sign : (sign : Sign) → Shaped (sign_infix sign)
shaped_sign s.LessLess = inl (refl, refl, omega arith, omega arith, omega arith, omega arith)
shaped_sign s.MoreLess = inl (refl, refl, omega arith, omega arith, omega arith, omega arith)
shaped_sign s.MoreMore = inl (refl, refl, omega arith, omega arith, omega arith, omega arith)
shaped_sign s.Caret = inl (refl, refl, omega arith, omega arith, omega arith, omega arith)
shaped_sign s.CaretCaret = inl (refl, refl, omega arith, omega arith, omega arith, omega arith)
shaped_sign s.Plus = inl (refl, refl, omega arith, omega arith, omega arith, omega arith)
shaped_sign s.Minus = inl (refl, refl, omega arith, omega arith, omega arith, omega arith)
shaped_sign s.Star = inl (refl, refl, omega arith, omega arith, omega arith, omega arith)
shaped_sign s.Slash = inl (refl, refl, omega arith, omega arith, omega arith, omega arith)
shaped_sign s.Hash = inl (refl, refl, omega arith, omega arith, omega arith, omega arith)
shaped_sign s.StarStar = inr (refl, refl, refl)
shaped_sign s.At = inl (refl, refl, omega arith, omega arith, omega arith, omega arith)
shaped_sign s.Bar = inl (refl, refl, omega arith, omega arith, omega arith, omega arith)
shaped_sign _ = tt

pub shaped : (own : List (List ℕ)) (token : Lexeme) → Shaped (infix_of own token)
shaped own (t.Name x) = shaped_by (kind_of own x) x
shaped own (t.Sign sign) = shaped_sign sign
shaped own (t.Number bytes) = tt
shaped own (t.Keyword x) = tt
shaped own (t.Text bytes) = tt
shaped own t.Other = tt

abbrev pub ShapedReach : Reach → Type 0
ShapedReach (r.Joins i) = HasShape i
ShapedReach _ = Unit {0}

shaped_reach_by : (i : Option Infix) (token : Lexeme) → Shaped i → ShapedReach (reach_by i token)
shaped_reach_by (Some i) token h = h
shaped_reach_by None (t.Sign s.Bracket) h = tt
shaped_reach_by None _ h = tt

pub shaped_reach : (own : List (List ℕ)) (token : Lexeme) → ShapedReach (reach own token)
unfolding reach
shaped_reach own token = shaped_reach_by (infix_of own token) token (shaped own token)

pub reach_joins : (own : List (List ℕ)) (token : Lexeme) (i : Infix) → infix_of own token ≡ Some i → reach own token ≡ r.Joins i
unfolding reach
reach_joins own token i h = ap (λ x. reach_by x token) h

-- what a token asks of the operand before it
abbrev pub grasp : Reach → ℕ
grasp (r.Joins i) = i.left
grasp r.Selects = 10
grasp r.Ends = 0

-- a tree of level n may stand before these tokens
abbrev pub Follows : List (List ℕ) → ℕ → List Lexeme → Type 0
Follows own n [] = Unit {0}
Follows own n (token ∷ ts) = grasp (reach own token) ≤ n

pub follows_more : (own : List (List ℕ)) (n m : ℕ) (ts : List Lexeme) → n ≤ m → Follows own n ts → Follows own m ts
follows_more own n m [] h g = tt
follows_more own n m (token ∷ ts) h g = omega arith

-- behind an operator's right side, what may follow the whole may follow that side
pub follows_right : (own : List (List ℕ)) (i : Infix) (ts : List Lexeme) → HasShape i → Follows own i.gives ts → Follows own i.right ts
follows_right own i [] h g = tt
follows_right own i (token ∷ ts) h g = right_grasp (reach own token) i (shaped_reach own token) h g
  where
    right_grasp : (x : Reach) (i : Infix) → ShapedReach x → HasShape i → grasp x ≤ i.gives → grasp x ≤ i.right
    right_grasp (r.Joins o) i (inl p) (inl q) g = omega arith
    right_grasp (r.Joins o) i (inl p) (inr q) g = omega arith
    right_grasp (r.Joins o) i (inr p) (inl q) g = omega arith
    right_grasp (r.Joins o) i (inr p) (inr q) g = omega arith
    right_grasp r.Selects i s (inl q) g = omega arith
    right_grasp r.Selects i s (inr q) g = omega arith
    right_grasp r.Ends i s h g = omega arith

-- ---- what level matters, and where a token ends what stands before it

within_level : (x : Reach) (k m n : ℕ) → grasp x ≤ n → n ≤ m → within x k m ≡ within x k n
within_level (r.Joins i) k m n g h =
    let p : i.left ≤ m = omega arith in
    ap (λ b. if nat_le k i.gives && b then r.Joins i else r.Ends) (le-leb i.left m p ∙ sym (le-leb i.left n g))
within_level r.Selects k m n g h =
    let p : 10 ≤ m = omega arith in
    ap (λ b. if b then r.Selects else r.Ends) (le-leb 10 m p ∙ sym (le-leb 10 n g))
within_level r.Ends k m n g h = refl

pub same_level : (read : Leaves) (own : List (List ℕ)) (ts : List Lexeme) (d : ℕ) (stack : List Frame) (k m n : ℕ) (a : Expr)
    → Follows own n ts → n ≤ m → run read own ts d stack (turn.Has k m a) ≡ run read own ts d stack (turn.Has k n a)
unfolding run
same_level read own [] d stack k m n a g h = refl
same_level read own (token ∷ ts) d stack k m n a g h =
    ap (λ x. taken x (run read own ts) d stack k a (popped own token ts (run read own ts) d stack a)) (within_level (reach own token) k m n g h)

abbrev GivesBelow : Reach → ℕ → Type 0
GivesBelow (r.Joins i) k = i.gives < k
GivesBelow _ k = Unit {0}

ends : (x : Reach) (k m n : ℕ) → GivesBelow x k → grasp x ≤ n → n < 10 → within x k m ≡ r.Ends
ends (r.Joins i) k m n h g l = ap (λ b. if b && nat_le i.left m then r.Joins i else r.Ends) (lt-leb k i.gives h)
ends r.Selects k m n h g l = absurd (omega arith)
ends r.Ends k m n h g l = refl

below_right : (x : Reach) (i : Infix) → ShapedReach x → HasShape i → grasp x ≤ i.gives → GivesBelow x i.right
below_right (r.Joins o) i (inl p) (inl q) g = omega arith
below_right (r.Joins o) i (inl p) (inr q) g = omega arith
below_right (r.Joins o) i (inr p) (inl q) g = omega arith
below_right (r.Joins o) i (inr p) (inr q) g = omega arith
below_right r.Selects i s h g = tt
below_right r.Ends i s h g = tt

below_seven : (x : Reach) → ShapedReach x → grasp x ≤ 7 → GivesBelow x 7
below_seven (r.Joins o) (inl p) g = omega arith
below_seven (r.Joins o) (inr p) g = omega arith
below_seven r.Selects s g = tt
below_seven r.Ends s g = tt

gives_below : (i : Infix) → HasShape i → i.gives < 10
gives_below i (inl p) = omega arith
gives_below i (inr p) = omega arith

pub stop_between : (read : Leaves) (own : List (List ℕ)) (ts : List Lexeme) (d : ℕ) (stack : List Frame) (k : ℕ) (i : Infix) (a c : Expr)
    → HasShape i → Follows own i.gives ts
    → run read own ts d (f.Between k i a ∷ stack) (turn.Has i.right i.right c) ≡ run read own ts d stack (turn.Has k i.gives (joined2 i.join a c))
unfolding run finished popped
stop_between read own [] d stack k i a c h g = refl
stop_between read own (token ∷ ts) d stack k i a c h g =
    ap (λ x. taken x (run read own ts) d (f.Between k i a ∷ stack) i.right c (popped own token ts (run read own ts) d (f.Between k i a ∷ stack) c))
    (ends (reach own token) i.right i.right i.gives (below_right (reach own token) i (shaped_reach own token) h g) g (gives_below i h))

pub stop_before : (read : Leaves) (own : List (List ℕ)) (ts : List Lexeme) (d : ℕ) (stack : List Frame) (k : ℕ) (join : Join) (c : Expr)
    → Follows own 7 ts
    → run read own ts d (f.Before k join ∷ stack) (turn.Has 7 7 c) ≡ run read own ts d stack (turn.Has k 7 (joined1 join c))
unfolding run finished popped
stop_before read own [] d stack k join c g = refl
stop_before read own (token ∷ ts) d stack k join c g =
    ap (λ x. taken x (run read own ts) d (f.Before k join ∷ stack) 7 c (popped own token ts (run read own ts) d (f.Before k join ∷ stack) c))
    (ends (reach own token) 7 7 7 (below_seven (reach own token) (shaped_reach own token) g) g (omega arith))
