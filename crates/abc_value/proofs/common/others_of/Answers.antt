use Rattle.std.proofs.Common.{[], refl}
use Rattle.std.specs.List.{between}
use Rattle.abc_value.specs.inner.Keeps.{kept_form, column}
use Rattle.abc_value.proofs.kept_forms.KeepingSteps.{if_ok, others_kept, front_length}
use Rattle.abc_value.proofs.common.others_of.Goals as goal

pub returns : goal.returns
returns c =
    let xs = column c.args.all.now in
    let i = c.args.place in
    let front = between 0 i xs in
    if_ok c.and-2.result (λ all h. others_kept (kept_form all) all.whole xs i c.len-end.result c.len-end.ensures
    (h front (front_length xs i c.requires) (c.in_ok-before.ensures [] refl c.new.ensures.none))) c.and-2.ensures
