use Rattle.std.proofs.Common.{Err, Ok, sym, ap, ◌∙◌, ◌++◌, ◌∷◌, [], subst}
use Rattle.std.proofs.lemmas.Result.{err_from_is_err_and}
use Rattle.abc_print.specs.declared.frames.Lexeme.TheVariants as lexeme
use Rattle.abc_print.specs.declared.lexing.Class.{Class}
use Rattle.abc_print.specs.declared.lexing.State.TheVariants as state
use Rattle.abc_print.specs.inner.Lexing.{Reads}
use Rattle.abc_print.proofs.Tokenwise.{divided_no_quotient, divided_number}
use Rattle.abc_print.proofs.lexing.divided.Goals as goal

pub returns-in_err-z-in-Number : goal.returns-in_err-z-in-Number
returns-in_err-z-in-Number c =
    let p = err_from_is_err_and c.from_residual-in_err-z-in-Number.result c.from_residual-in_err-z-in-Number.ensures.1 in
    let g = c.in_err-z-in-Number.field-0.0 in
    let all = c.args.all.now.items in
    let P : Class → Type 0 = λ k. Reads all k c.args.bytes.now (state.Divided c.args.x) all (Err g) in
    rw (p.1, p.2) (subst P (sym c.in-Number.is) (divided_no_quotient all all c.args.bytes.now c.args.x c.in_ok-y-in-Number.y g c.in_ok-y-in-Number.ensures c.in_err-z-in-Number.ensures))

pub returns-in_ok-push_back-in-Number : goal.returns-in_ok-push_back-in-Number
returns-in_ok-push_back-in-Number c =
    let all = c.args.all.now.items in
    let new = c.push_back.new.self.items in
    let P : Class → Type 0 = λ k. Reads all k c.args.bytes.now (state.Divided c.args.x) new (Ok state.Start) in
    subst P (sym c.in-Number.is) (divided_number all new c.args.bytes.now c.args.x c.in_ok-y-in-Number.y c.in_ok-z-in-Number.z c.in_ok-y-in-Number.ensures c.in_ok-z-in-Number.ensures (c.in_ok-push_back-in-Number.ensures.items ∙ ap (λ t. all ++ lexeme.Value t ∷ []) c.number-in-Number.ensures))
