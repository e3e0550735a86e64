use Rattle.std.proofs.Common.{Ok, sym, subst}
use Rattle.abc_print.specs.declared.lexing.Class.{Class}
use Rattle.abc_print.specs.declared.lexing.State.TheVariants as state
use Rattle.abc_print.specs.inner.Lexing.{Reads}
use Rattle.abc_print.proofs.Tokenwise.{start_number}
use Rattle.abc_print.proofs.lexing.start.Goals as goal

pub returns-in_ok-x-in-Number : goal.returns-in_ok-x-in-Number
returns-in_ok-x-in-Number c =
    let all = c.args.all.now.items in
    let P : Class → Type 0 = λ k. Reads all k c.args.bytes.now state.Start all (Ok (state.Numbered c.in_ok-x-in-Number.x)) in
    subst P (sym c.in-Number.is) (start_number all c.args.bytes.now c.in_ok-x-in-Number.x c.in_ok-x-in-Number.ensures)
