-- What expressions, tests and addresses mean where a level is left, and where none is.
use Rattle.std.proofs.Common.{◌≡◌, ◌≢◌, ℕ, zero, suc, ◌-◌, None, List, refl}
use Rattle.std.proofs.Math.Numerals.{sub-one}
use Rattle.abc_tree.specs.declared.formulas.Expr.{Expr, out-Expr}
use Rattle.abc_tree.specs.declared.formulas.Test.{Test, out-Test}
use Rattle.abc_tree.specs.declared.commands.Unit.{Unit as Routine}
use Rattle.abc_value.specs.declared.faults.RunFault.TheVariants.{TooDeep}
use Rattle.abc_meaning.specs.State.{State, faulty, gives, stops}
use Rattle.abc_meaning.specs.Here.{Here}
use Rattle.abc_meaning.specs.Value.{value_with}
use Rattle.abc_meaning.specs.Deeper.{Deeper}
use Rattle.abc_meaning.specs.Addresses.{address_within, address_with}
use Rattle.abc_meaning.specs.Holds.{holds_with}
use Rattle.abc_meaning.specs.Meaning.{meaning}

pub meaning_value : (units : List Routine) (n : ℕ) (here : Here) (e : Expr) (s : State) → n ≢ 0 → (meaning units n).value here e s ≡ value_with units (meaning units (n - 1)) here (out-Expr e) s
unfolding meaning
meaning_value units zero here e s h = absurd (h refl)
meaning_value units (suc n) here e s h = rw sub-one refl

pub value_at_zero : (units : List Routine) (n : ℕ) (here : Here) (e : Expr) (s : State) → n ≡ 0 → (meaning units n).value here e s ≡ stops here.line (faulty TooDeep) s
unfolding meaning
value_at_zero units zero here e s h = refl
value_at_zero units (suc n) here e s h = cc

pub meaning_holds : (units : List Routine) (n : ℕ) (here : Here) (t : Test) (s : State) → n ≢ 0 → (meaning units n).holds here t s ≡ holds_with units (meaning units (n - 1)) here (out-Test t) s
unfolding meaning
meaning_holds units zero here t s h = absurd (h refl)
meaning_holds units (suc n) here t s h = rw sub-one refl

pub holds_at_zero : (units : List Routine) (n : ℕ) (here : Here) (t : Test) (s : State) → n ≡ 0 → (meaning units n).holds here t s ≡ stops here.line (faulty TooDeep) s
unfolding meaning
holds_at_zero units zero here t s h = refl
holds_at_zero units (suc n) here t s h = cc

-- addresses, by the bound on their height
pub address_next : (deep : Deeper) (here : Here) (n : ℕ) (e : Expr) (s : State) → n ≢ 0 → address_within deep here n e s ≡ address_with deep here (address_within deep here (n - 1)) (out-Expr e) s
unfolding address_within
address_next deep here zero e s h = absurd (h refl)
address_next deep here (suc n) e s h = rw sub-one refl

pub address_at_zero : (deep : Deeper) (here : Here) (n : ℕ) (e : Expr) (s : State) → n ≡ 0 → address_within deep here n e s ≡ gives None s
unfolding address_within
address_at_zero deep here zero e s h = refl
address_at_zero deep here (suc n) e s h = cc
