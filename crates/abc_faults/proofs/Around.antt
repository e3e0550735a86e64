-- What is round a line, below another one.
use Rattle.std.proofs.Common.{◌≡◌, ◌≤◌, ◌<◌, ℕ, Bool, true, false, cond, List, [], ◌∷◌, refl, ap, ◌∙◌, arith}
use Rattle.std.specs.Prelude.{nat_lt, if◌then◌else◌}
use Rattle.std.proofs.lemmas.Bool.{lt-ltb, ltb-true}
use Rattle.abc_outline.specs.declared.edges.Edges.{Edges}
use Rattle.abc_outline.specs.declared.edges.Role.{Role}
use Rattle.abc_outline.specs.declared.edges.Role.TheVariants as role
use Rattle.abc_outline.specs.declared.edges.Setting.{Setting}
use Rattle.abc_outline.specs.declared.edges.Standing.{Standing}
use Rattle.abc_outline.specs.Outline.{left, chain, around, is_chosen, is_refinement, opens_select, role_of, round_by, first_role, may_be_heading, standing}
use Rattle.abc_faults.specs.Causes.{is_alternative}

pub not_lt : (n m : ℕ) → m ≤ n → nat_lt n m ≡ false
not_lt n m le = by (nat_lt n m) refl where
  by : (b : Bool) → nat_lt n m ≡ b → b ≡ false
  by true e = let h : n < m = ltb-true n m e in absurd (omega arith)
  by false e = refl

pub at_most : (n m : ℕ) → nat_lt n m ≡ false → m ≤ n
at_most n m e = let h : n < m → ⊥ = λ l. (let y : nat_lt n m ≡ true = lt-ltb n m l in cc) in omega arith

left_left : (r n : ℕ) → r ≤ n → (lines : List Standing) → left r (left n lines) ≡ left r lines
left_left r n le [] = refl
left_left r n le (line ∷ lines) = step (nat_lt line.edges.indent n) (nat_lt line.edges.indent r) refl refl (left_left r n le lines) where
  step : (bn br : Bool) → nat_lt line.edges.indent n ≡ bn → nat_lt line.edges.indent r ≡ br → left r (left n lines) ≡ left r lines
      → left r (cond bn (line ∷ lines) (left n lines)) ≡ cond br (line ∷ lines) (left r lines)
  step true true en er ih = ap (λ b. cond b (line ∷ lines) (left r lines)) er
  step true false en er ih = ap (λ b. cond b (line ∷ lines) (left r lines)) er
  step false true en er ih =
      let h : line.edges.indent < r = ltb-true line.edges.indent r er in
      let y : nat_lt line.edges.indent n ≡ true = lt-ltb line.edges.indent n (omega arith) in absurd cc
  step false false en er ih = ih

pub plain_round : (r : Role) (lines : List Standing) → is_refinement r ≡ false → round_by r lines ≡ lines
plain_round role.RefinementHeading lines e = absurd cc
plain_round role.UnitHeading lines e = refl
plain_round role.Alternative lines e = refl
plain_round role.Command lines e = refl

-- a line that is no refinement heading changes nothing round lines that aren't deeper; each stands next round deeper ones
module _ (setting : Setting) (line : Edges) (above : List Edges) where
  abbrev rest : List Standing
  rest = round_by (role_of setting above line) (left line.indent (chain setting above))

  pub around_same : is_refinement (role_of setting above line) ≡ false → (r : ℕ) → r ≤ line.indent → around setting r (line ∷ above) ≡ around setting r above
  around_same plain r le =
      ap (λ t. cond t (standing line (role_of setting above line) rest) (left r rest)) (not_lt line.indent r le)
      ∙ ap (left r) (plain_round (role_of setting above line) (left line.indent (chain setting above)) plain)
      ∙ left_left r line.indent le (chain setting above)

  pub around_first : (r : ℕ) → line.indent < r → around setting r (line ∷ above) ≡ standing line (role_of setting above line) rest
  around_first r lt = ap (λ t. cond t (standing line (role_of setting above line) rest) (left r rest)) (lt-ltb line.indent r lt)

  pub chosen_first : (r : ℕ) → line.indent < r → is_chosen (around setting r (line ∷ above)) ≡ opens_select line (role_of setting above line)
  chosen_first r lt = ap is_chosen (around_first r lt)

-- an alternative stands among alternatives, and nothing else does
first_chosen : (unit : Bool) → is_alternative (first_role unit) ≡ false
first_chosen true = refl
first_chosen false = refl

by_chosen : (chosen heading : Bool) → is_alternative (if chosen then role.Alternative else (if heading then role.RefinementHeading else role.Command)) ≡ chosen
by_chosen true heading = refl
by_chosen false true = refl
by_chosen false false = refl

pub chosen_role : (setting : Setting) (above : List Edges) (line : Edges) → is_alternative (role_of setting above line) ≡ is_chosen (around setting line.indent above)
chosen_role setting [] line = first_chosen setting.unit
chosen_role setting (before ∷ above) line = by_chosen (is_chosen (around setting line.indent (before ∷ above))) (may_be_heading setting before line)

-- no line but the first is the heading of a unit
pub not_first : (setting : Setting) (before : Edges) (above : List Edges) (line : Edges) → role_of setting (before ∷ above) line ≡ role.UnitHeading → ⊥
not_first setting before above line e = by (is_chosen (around setting line.indent (before ∷ above))) (may_be_heading setting before line) e where
  by : (chosen heading : Bool) → (if chosen then role.Alternative else (if heading then role.RefinementHeading else role.Command)) ≡ role.UnitHeading → ⊥
  by true heading e = cc
  by false true e = cc
  by false false e = cc
