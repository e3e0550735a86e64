use Rattle.std.proofs.Common.{◌+◌, List, take, sym, subst}
use Rattle.abc_principal.specs.declared.member.Member.{Member}
use Rattle.abc_principal.specs.Exact.{cuts_of}
use Rattle.abc_check.specs.inner.Groupwise.{AreFound}
use Rattle.abc_check.proofs.Taking.{found_more}
use Rattle.abc_check.proofs.units.group_members.Goals as goal

pub loop-t-preserved : goal.loop-t-preserved
loop-t-preserved c =
    subst (λ (ms : List Member). AreFound (cuts_of c.args.members.now) (take (c.loop-t.t-index + 1) c.args.templates.now) (cuts_of ms)) (sym c.in_ok-push.ensures.items)
    (found_more (cuts_of c.args.members.now) c.args.templates.now c.loop-t.t-index c.t-item.result c.loop-t.group.items c.in-Some.member c.loop-t-test.true c.t-item.is c.loop-t.invariant (sym c.in-Some.ensures))
