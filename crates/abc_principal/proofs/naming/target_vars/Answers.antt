use Rattle.std.proofs.Common.{[], List, subst, sym}
use Rattle.abc_terms.specs.declared.term.VarId.{VarId}
use Rattle.abc_principal.specs.TargetVars.{AreNamed}
use Rattle.abc_principal.proofs.Named.{named_none, named_next}
use Rattle.abc_principal.proofs.naming.target_vars.Goals as goal

pub loop-name-init : goal.loop-name-init
loop-name-init c =
    subst (λ (vs : List VarId). AreNamed c.args.g.now c.args.g.now c.args.targets.now c.args.targets.now [] vs) (sym c.new-vars.ensures.items) (named_none c.args.g.now c.args.targets.now c.requires)

pub target_var-requires : goal.target_var-requires
target_var-requires c = c.loop-name.invariant.made

pub loop-name-preserved : goal.loop-name-preserved
loop-name-preserved c =
    named_next c.args.g.now c.loop-name.g c.target_var.new.g c.args.targets.now c.loop-name.targets c.target_var.new.targets c.args.names.now c.loop-name.name-index c.name-item.result c.loop-name.vars.items c.push.new.self.items c.in_ok-a.a
    c.loop-name-test.true c.name-item.is c.loop-name.invariant c.in_ok-a.ensures.named c.in_ok-push.ensures.items
