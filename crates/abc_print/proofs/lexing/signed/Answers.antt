use Rattle.std.proofs.Common.{Ok, sym, subst}
use Rattle.abc_num.specs.Number.{Fraction}
use Rattle.abc_print.specs.declared.lexing.Class.{Class}
use Rattle.abc_print.specs.declared.lexing.Class.TheVariants as class
use Rattle.abc_print.specs.declared.lexing.State.TheVariants as state
use Rattle.abc_print.specs.inner.Lexing.{Reads}
use Rattle.abc_print.proofs.Tokenwise.{signed_number}
use Rattle.abc_print.proofs.lexing.signed.Goals as goal

pub returns-in_ok-x-in-Number : goal.returns-in_ok-x-in-Number
returns-in_ok-x-in-Number c =
    let all = c.args.all.now.items in
    let P : Class → Type 0 = λ k. Reads all k c.args.bytes.now (state.Signed c.args.negative) all (Ok (state.Numbered c.with_sign.result)) in
    let same = signed_number all c.args.bytes.now c.args.negative c.in_ok-x-in-Number.x c.in_ok-x-in-Number.ensures in
    let Q : Fraction → Type 0 = λ y. Reads all class.Number c.args.bytes.now (state.Signed c.args.negative) all (Ok (state.Numbered y)) in
    subst P (sym c.in-Number.is) (subst Q (sym c.with_sign.ensures) same)
