use Rattle.std.proofs.Common.{ap, arith}
use Rattle.abc_value.proofs.trees.Making.{text_too_long, text_small, text_invariant}
use Rattle.abc_value.proofs.value.Value.text_from.Goals as goal

pub returns-then-length-gt-MOST_ELEMENTS-clause-sizes : goal.returns-then-length-gt-MOST_ELEMENTS-clause-sizes
returns-then-length-gt-MOST_ELEMENTS-clause-sizes c = λ _. text_too_long c.args.codes.items (omega arith)

pub invariant_of-result : goal.invariant_of-result
invariant_of-result c =
    let is = text_invariant c.args.codes.items c.in_ok-new.field-0.value.items (ap (λ v. v.items) c.in_ok-new.ensures.ok) (omega arith) c.requires in
    (is.0, omega (arith, is.1), is.2)

pub returns-clause-sizes : goal.returns-clause-sizes
returns-clause-sizes c = text_small c.args.codes.items (omega arith)
