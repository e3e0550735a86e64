use Rattle.std.proofs.Common.{Err, [], sym, ◌∙◌}
use Rattle.std.proofs.lemmas.Result.{err_from_is_err_and}
use Rattle.abc_num.specs.declared.limits.TheConstants.{MOST_BRACKETS}
use Rattle.abc_expressions.proofs.AddressLaws.{spelled_address}
use Rattle.abc_expressions.proofs.Spelled.{no_address, other_form}
use Rattle.abc_expressions.proofs.addresses.whole_address.Goals as goal

pub returns-in_err-tree-clause-none : goal.returns-in_err-tree-clause-none
returns-in_err-tree-clause-none c =
    let p = err_from_is_err_and c.from_residual.result c.from_residual.ensures.1 in
    rw (p.1, p.2) (no_address c.one_reading.ensures c.args.own.now c.args.tokens.now (Err c.in_err-tree.field-0.0) c.in_err-tree.ensures.none)

pub returns-then-is_address-clause-found : goal.returns-then-is_address-clause-found
returns-then-is_address-clause-found c =
    spelled_address c.args.own.now MOST_BRACKETS c.in_ok-tree.tree c.args.tokens.now [] c.in_ok-tree.ensures.found (sym c.is_address.ensures ∙ c.if-is_address.true)

pub returns-else-is_address-clause-none : goal.returns-else-is_address-clause-none
returns-else-is_address-clause-none c e =
    other_form c.one_reading.ensures c.args.own.now c.args.tokens.now c.in_ok-tree.tree c.in_ok-tree.ensures.found (sym c.is_address.ensures ∙ c.if-is_address.false)
