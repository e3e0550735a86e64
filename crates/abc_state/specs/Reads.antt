-- What an answer of the input says of the meaning of taking a line.
use Rattle.std.specs.Prelude.{◌≡◌, ◌≢◌, ℕ, Result, Ok, Err}
use Rattle.abc_num.specs.declared.lines.RawLine.{RawLine}
use Rattle.abc_value.specs.declared.faults.RunFault.TheVariants.{Memory}
use Rattle.abc_meaning.specs.State.{State, faulty, wants, Got, gives, stops}
use Rattle.abc_state.specs.declared.reading.LineHalt.{LineHalt}
use Rattle.abc_state.specs.declared.reading.LineHalt.TheVariants.{Fault, Long, Input}

-- The line is what the meaning gives, in the state new; or the meaning stops so, in the state new or, where it wants a line, in the
-- state old. Want of memory, and a fault of the input, say nothing of it.
abbrev pub Reads : ℕ → Result RawLine LineHalt → State → State → Got RawLine → Type 0
Reads line (Ok l) old new g = g ≡ gives l new
Reads line (Err (Fault f)) old new g = f ≢ Memory → g ≡ stops line (faulty f) new
Reads line (Err Long) old new g = g ≡ stops line wants old
Reads line (Err Input) old new g = Unit {0}
