use Rattle.abc_value.specs.inner.Keeps.{kept_form, column}
use Rattle.std.specs.List.{remove}
use Rattle.abc_value.proofs.kept_forms.Keeping.{replaced_kept}
use Rattle.abc_value.proofs.kept_forms.KeepingSteps.{if_ok, told, fewer_values, narrowed_kept}
use Rattle.abc_value.proofs.common.Common.replaced.Goals as goal

pub returns-in-Some : goal.returns-in-Some
returns-in-Some c =
    let xs = column c.args.all.now in
    let i = c.args.place in
    if_ok c.with.result (λ all h k. replaced_kept (kept_form all) all.whole c.args.v.now xs i c.requires
    (h (remove xs i) (fewer_values xs i c.len-others.result c.len-others.ensures c.requires) (told _ c.in_ok-rest.field-0 c.in-Some.rest c.in-Some.is c.in_ok-rest.ensures xs i c.requires c.at.ensures k))) c.with.ensures

pub returns-then-branch : goal.returns-then-branch
returns-then-branch c =
    let xs = column c.args.all.now in
    let i = c.args.place in
    if_ok c.of.result (λ all h k. narrowed_kept (kept_form c.args.self.now) (kept_form all) c.args.self.now.whole all.whole xs i c.at.result.now c.args.v.now c.requires c.at.ensures k (c.in_ok-takes.ensures c.if-branch.true) h) c.of.ensures

pub returns : goal.returns
returns c =
    let xs = column c.args.all.now in
    let i = c.args.place in
    if_ok c.with-2.result (λ all h k. replaced_kept (kept_form all) all.whole c.args.v.now xs i c.requires
    (h (remove xs i) (fewer_values xs i c.len-others.result c.len-others.ensures c.requires) c.in_ok-others_of.ensures)) c.with-2.ensures
