-- What one step of the reading does, whatever is done next.
use Rattle.std.specs.Prelude.{◌≡◌, ◌≤◌, Result, Ok, Err, ℕ, ◌+◌, List, [], ◌∷◌, Some, None}
use Rattle.abc_tree.specs.declared.formulas.Expr.{Expr}
use Rattle.abc_expressions.specs.declared.fault.FormulaFault.{FormulaFault}
use Rattle.abc_expressions.specs.declared.fault.FormulaFault.TheVariants as fault
use Rattle.abc_expressions.specs.declared.frames.Frame.{Frame}
use Rattle.abc_expressions.specs.declared.frames.Frame.TheVariants as f
use Rattle.abc_expressions.specs.declared.frames.Group.{Group}
use Rattle.abc_expressions.specs.declared.frames.Group.TheVariants as g
use Rattle.abc_expressions.specs.declared.frames.Step.{Step}
use Rattle.abc_expressions.specs.declared.frames.Step.TheVariants as step
use Rattle.abc_expressions.specs.declared.frames.Turn.{Turn}
use Rattle.abc_expressions.specs.declared.frames.Turn.TheVariants as turn
use Rattle.abc_expressions.specs.declared.lexemes.Lexeme.{Lexeme}
use Rattle.abc_expressions.specs.Readings.{Tells}
use Rattle.abc_expressions.specs.inner.Machine.{Found, Next, reach, within, taken, popped}

-- the machine goes on with a turn, or stops before the tokens that stand here
abbrev pub Steps : List Lexeme → (Next → Found) → Result Step FormulaFault → ℕ → List Frame → Type 0
Steps here machine (Ok (step.Goes turn)) d stack = (next : Next) → machine next ≡ next d stack turn
Steps here machine (Ok (step.Stops a)) d stack = (next : Next) → machine next ≡ Some (a, here)
Steps here machine (Err fault.BadCommand) d stack = (next : Next) → machine next ≡ None
Steps here machine (Err fault.TooMany) d stack = ⊥
Steps here machine (Err fault.Memory) d stack = Unit {0}

abbrev pub behind : List (List ℕ) → Lexeme → List Lexeme → ℕ → List Frame → ℕ → ℕ → Expr → Next → Found
behind own token ts d stack k m a next = taken (within (reach own token) k m) next d stack k a (popped own token ts next d stack a)

-- ---- how many brackets are open

abbrev pub group_opens : Group → ℕ
group_opens (g.Whole parts) = 0
group_opens g.Single = 0
group_opens (g.Round parts) = 1
group_opens (g.Select table parts) = 1
group_opens (g.Key pairs parts) = 2
group_opens (g.Fill fills) = 1
group_opens (g.Range fills from) = 1
group_opens (g.Associate pairs key) = 1

abbrev pub opens : List Frame → ℕ
opens [] = 0
opens (f.Between k i a ∷ stack) = opens stack
opens (f.Before k join ∷ stack) = opens stack
opens (f.Inside k group ∷ stack) = group_opens group + opens stack

-- brackets that are open and have no frame: the { of a display before its first operand, and before and behind a key
abbrev pub held : Turn → ℕ
held (turn.Wants k) = 0
held (turn.Has k m a) = 0
held (turn.Display k) = 1
held (turn.Pair k pairs) = 1
held (turn.Colon k pairs key) = 1

-- those that are open and those that may open are no more than at first
abbrev pub Counts : ℕ → Result Step FormulaFault → ℕ → List Frame → Type 0
Counts most (Ok (step.Goes turn)) d stack = d + (opens stack + held turn) ≤ most
Counts most (Ok (step.Stops a)) d stack = Unit {0}
Counts most (Err fault) d stack = Unit {0}

-- ---- answers

-- the answer is this value, if there was memory
abbrev pub Brings : {X : Type 0} → Result X FormulaFault → X → Type 0
Brings (Ok x) given = given ≡ x
Brings (Err fault.BadCommand) given = ⊥
Brings (Err fault.TooMany) given = ⊥
Brings (Err fault.Memory) given = Unit {0}

-- the tree in front of no more tokens
abbrev pub Gives : Result Expr FormulaFault → Found → Type 0
Gives = Tells (λ (a : Expr). (a, []))
