use Rattle.std.proofs.Common.{◌∙◌, sym}
use Rattle.abc_principal.proofs.Readings.{never_missing, vars_next, vars_whole}
use Rattle.abc_principal.proofs.reading.vars_of.Goals as goal

pub unreachable-requires : goal.unreachable-requires
unreachable-requires c = never_missing c.args.targets.now c.args.names.now c.loop-i.i c.index-names-i.result c.requires c.loop-i-test.true c.index-names-i.is (sym c.find.ensures ∙ c.in_default.is)

pub loop-i-preserved : goal.loop-i-preserved
loop-i-preserved c =
    vars_next c.args.targets.now c.args.names.now c.loop-i.i c.index-names-i.result c.loop-i.vars.items c.push.new.self.items c.in-Some.a c.loop-i-test.true c.index-names-i.is c.loop-i.invariant (sym c.find.ensures ∙ c.in-Some.is) c.in_ok-push.ensures.items

pub returns : goal.returns
returns c = vars_whole c.args.targets.now c.args.names.now c.loop-i.i c.loop-i.vars.items c.loop-i-test.false c.loop-i.invariant
