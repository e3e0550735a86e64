-- What an answer of the code says of the meaning.
use Rattle.std.specs.Prelude.{◌≡◌, ◌≢◌, ℕ, Result, Ok, Err}
use Rattle.abc_value.specs.declared.faults.RunFault.TheVariants.{Memory}
use Rattle.abc_meaning.specs.State.{State, faulty, wrong, Got, gives, stops}
use Rattle.abc_state.specs.declared.halt.Halt.{Halt}
use Rattle.abc_state.specs.declared.halt.Halt.TheVariants.{Fault, Wrong}

-- The meaning stops so: with this fault, or because no types fit. Want of memory says nothing of it.
abbrev pub Halts : {B : Type 0} → ℕ → Halt → State → Got B → Type 0
Halts line (Fault f) s g = f ≢ Memory → g ≡ stops line (faulty f) s
Halts line Wrong s g = g ≡ stops line wrong s

-- The meaning goes on with what the answer gives, or it stops as the answer does, in the state s.
abbrev pub Leads : {A B : Type 0} → (A → Got B) → ℕ → Result A Halt → State → Got B → Type 0
Leads go line (Ok a) s g = g ≡ go a
Leads go line (Err h) s g = Halts line h s g

-- The answer is what the meaning gives, in the state s, or the meaning stops so.
abbrev pub Agrees : {A B : Type 0} → (A → B) → ℕ → Result A Halt → State → Got B → Type 0
Agrees view line r s g = Leads (λ a. gives (view a) s) line r s g
