-- What commands and turns mean where a level is left, and where none is.
use Rattle.std.proofs.Common.{◌≡◌, ◌≢◌, ℕ, zero, suc, ◌-◌, List, refl, if◌then◌else◌}
use Rattle.std.proofs.Math.Numerals.{sub-one}
use Rattle.abc_tree.specs.declared.formulas.Test.{Test}
use Rattle.abc_tree.specs.declared.commands.Action.{Action, out-Action}
use Rattle.abc_tree.specs.declared.commands.ActionNode.{out-ActionNode}
use Rattle.abc_tree.specs.declared.commands.Unit.{Unit as Routine}
use Rattle.abc_value.specs.declared.faults.RunFault.TheVariants.{TooDeep, BudgetSpent}
use Rattle.abc_meaning.specs.State.{State, faulty, stops, gives, after, goes_on}
use Rattle.abc_meaning.specs.Calls.{suite, then_on}
use Rattle.abc_meaning.specs.Here.{Here, at_line, spend}
use Rattle.abc_meaning.specs.Deeper.{Deeper}
use Rattle.abc_meaning.specs.Acts.{acts_with, turns}
use Rattle.abc_meaning.specs.Meaning.{meaning}

-- a test of WHILE is a step, and then a test
pub meaning_turn : (units : List Routine) (n : ℕ) (here : Here) (t : Test) (s : State) → n ≢ 0 → (meaning units n).turn here t s ≡ after (spend here s) (λ _. (meaning units n).holds here t)
unfolding meaning
meaning_turn units zero here t s h = absurd (h refl)
meaning_turn units (suc n) here t s h = refl

pub turn_at_zero : (units : List Routine) (n : ℕ) (here : Here) (t : Test) (s : State) → n ≡ 0 → (meaning units n).turn here t s ≡ stops here.line (faulty TooDeep) s
unfolding meaning
turn_at_zero units zero here t s h = refl
turn_at_zero units (suc n) here t s h = cc

pub meaning_acts : (units : List Routine) (n : ℕ) (here : Here) (a : Action) (s : State) → n ≢ 0
    → (meaning units n).acts here a s ≡ after (spend (at_line (out-Action a).line here) s) (λ _. acts_with units (meaning units (n - 1)) (at_line (out-Action a).line here) (out-ActionNode (out-Action a).node))
unfolding meaning
meaning_acts units zero here a s h = absurd (h refl)
meaning_acts units (suc n) here a s h = rw sub-one refl

pub acts_at_zero : (units : List Routine) (n : ℕ) (here : Here) (a : Action) (s : State) → n ≡ 0 → (meaning units n).acts here a s ≡ stops (at_line (out-Action a).line here).line (faulty TooDeep) s
unfolding meaning
acts_at_zero units zero here a s h = refl
acts_at_zero units (suc n) here a s h = cc

-- turns of WHILE
pub turns_at_zero : (deep : Deeper) (here : Here) (k : ℕ) (t : Test) (body : List Action) (s : State) → k ≡ 0 → turns deep here k t body s ≡ stops here.line (faulty BudgetSpent) s
unfolding turns
turns_at_zero deep here zero t body s h = refl
turns_at_zero deep here (suc k) t body s h = cc

pub turns_less : (deep : Deeper) (here : Here) (k : ℕ) (t : Test) (body : List Action) (s : State) → k ≢ 0 → turns deep here k t body s ≡ turns deep here (suc (k - 1)) t body s
turns_less deep here zero t body s h = absurd (h refl)
turns_less deep here (suc k) t body s h = rw sub-one refl

pub turns_begin : (deep : Deeper) (here : Here) (k : ℕ) (t : Test) (body : List Action) (s : State)
    → turns deep here (suc k) t body s ≡ after (deep.turn here t s) (λ b. if b then (λ s. after (suite deep here body s) (λ flow. then_on flow (turns deep here k t body))) else gives goes_on)
unfolding turns
turns_begin deep here k t body s = refl
