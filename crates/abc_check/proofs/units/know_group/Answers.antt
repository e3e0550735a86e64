use Rattle.std.proofs.Common.{List, sym, subst}
use Rattle.abc_principal.specs.declared.member.Member.{Member}
use Rattle.abc_principal.specs.Exact.{cuts_of}
use Rattle.abc_check.specs.inner.Groupwise.{AreFound}
use Rattle.abc_check.proofs.Knowing.{group_known, group_refused}
use Rattle.abc_fewer.proofs.Nodes.{nodes_called}
use Rattle.abc_unify.proofs.Faults.{clash_told}
use Rattle.abc_check.proofs.units.know_group.Goals as goal

pub returns-clause-ok : goal.returns-clause-ok
returns-clause-ok c = λ spelled groups k are low at knows.
    let w = cuts_of c.args.members.now in
    let found : AreFound w c.args.templates.now (cuts_of c.deref.result.now) = subst (λ (ms : List Member). AreFound w c.args.templates.now (cuts_of ms)) (sym c.deref.ensures.value) c.in_ok-group.ensures in
    group_known w c.requires.rising spelled nodes_called groups are k low c.args.templates.now (cuts_of c.deref.result.now) c.requires.ordered at found c.args.known.now knows c.put_all.new.known c.in_ok-principals.principals.items
    (c.in_ok-principals.ensures.ok w) c.in_ok-put_all.ensures

pub returns-in_err-principals-clause-clash : goal.returns-in_err-principals-clause-clash
returns-in_err-principals-clause-clash c = λ e spelled groups k are low at knows values typable.
    let w = cuts_of c.args.members.now in
    let found : AreFound w c.args.templates.now (cuts_of c.deref.result.now) = subst (λ (ms : List Member). AreFound w c.args.templates.now (cuts_of ms)) (sym c.deref.ensures.value) c.in_ok-group.ensures in
    group_refused w c.requires.rising spelled nodes_called groups are k low c.args.templates.now (cuts_of c.deref.result.now) c.requires.ordered at found c.args.known.now knows
    (c.group_principals.ensures.clash (clash_told c.group_principals.result c.from_residual-in_err-principals.result c.in_err-principals.field-0.0 c.in_err-principals.was c.from_residual-in_err-principals.ensures e) w) values typable
