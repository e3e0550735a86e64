use Rattle.std.proofs.Common.{sym}
use Rattle.abc_value.specs.inner.Keeps.{kept_form}
use Rattle.abc_value.proofs.kept_forms.KeepingSteps.{inserted_into}
use Rattle.abc_value.proofs.elements.Elements.insert.Goals as goal

pub invariant_of-self-2 : goal.invariant_of-self-2
invariant_of-self-2 c =
    let xs = c.self.inside.items in
    inserted_into (kept_form c.in_ok-common.common) c.in_ok-common.common.whole xs c.insert.new.self c.args.place c.args.e c.in_ok-insert.ensures.ok
    (c.in_ok-common.ensures xs (sym c.len.ensures) c.self.invariant)
