use Rattle.std.proofs.Common.{◌≡◌, OnOk, subst}
use Rattle.abc_outline.proofs.Owned.{line_taken}
use Rattle.abc_outline.proofs.own.take_up_line.Goals as goal

pub returns : goal.returns
returns c =
    subst (λ xs. OnOk c.take_up_all-4.result (c.take_up_all-4.new.names ≡ xs))
    (line_taken c.args.line.now c.args.names.now c.take_up_all.new.names c.take_up_all-2.new.names c.take_up_all-3.new.names
    c.as_slice.result.now c.as_slice-2.result.now c.as_slice-3.result.now c.as_slice-4.result.now c.as_slice.ensures c.as_slice-2.ensures c.as_slice-3.ensures c.as_slice-4.ensures
    c.in_ok-take_up_all.ensures c.in_ok-take_up_all-2.ensures c.in_ok-take_up_all-3.ensures)
    c.take_up_all-4.ensures
