use Rattle.std.proofs.Common.{length, ap, subst, arith}
use Rattle.std.proofs.Math.Facts.{Fits-of_lt}
use Rattle.abc_value.proofs.trees.Making.{regular_sizes}
use Rattle.abc_record.specs.declared.change.Change.TheVariants.{SetTarget}
use Rattle.abc_record.specs.Kept.{IsKept}
use Rattle.abc_record.specs.Spelling.{spelled_change}
use Rattle.abc_record.proofs.Weights.{set_target_long, drop_target_long, set_unit_long, drop_unit_long}
use Rattle.abc_record.proofs.size.change_size.Goals as goal

pub overflow_add-result-in-SetTarget : goal.overflow_add-result-in-SetTarget
overflow_add-result-in-SetTarget c =
    let kept : IsKept (SetTarget c.in-SetTarget.name c.in-SetTarget.value) = subst IsKept c.in-SetTarget.is c.requires in
    let sizes = regular_sizes c.in-SetTarget.value c.weight.ensures.regular in
    Fits-of_lt (omega (arith, c.weight.ensures.weight, sizes.1, c.text_size.ensures, kept.0.1))

pub overflow_add-result-in-SetUnit : goal.overflow_add-result-in-SetUnit
overflow_add-result-in-SetUnit c = Fits-of_lt (omega (arith, c.lines_size.ensures.bound))

pub returns-in-SetTarget : goal.returns-in-SetTarget
returns-in-SetTarget c =
    let is = ap (λ change. length (spelled_change change)) c.in-SetTarget.is in
    omega (arith, is, set_target_long c.in-SetTarget.name c.in-SetTarget.value, c.text_size.ensures, c.weight.ensures.weight)

pub returns-in-DropTarget : goal.returns-in-DropTarget
returns-in-DropTarget c =
    let is = ap (λ change. length (spelled_change change)) c.in-DropTarget.is in
    omega (arith, is, drop_target_long c.in-DropTarget.name, c.text_size-in-DropTarget.ensures)

pub returns-in-SetUnit : goal.returns-in-SetUnit
returns-in-SetUnit c =
    let is = ap (λ change. length (spelled_change change)) c.in-SetUnit.is in
    omega (arith, is, set_unit_long c.in-SetUnit.lines, c.lines_size.ensures.size)

pub returns-in-DropUnit : goal.returns-in-DropUnit
returns-in-DropUnit c =
    let is = ap (λ change. length (spelled_change change)) c.in-DropUnit.is in
    omega (arith, is, drop_unit_long c.in-DropUnit.template, c.text_size-in-DropUnit.ensures)
