use Rattle.std.proofs.Common.{List, length, ap, sym, subst, arith}
use Rattle.abc_terms.specs.declared.term.VarId.{VarId}
use Rattle.abc_principal.specs.inner.Grouped.{AreFresh}
use Rattle.abc_principal.proofs.Freshness.{fresh_none}
use Rattle.abc_principal.proofs.Loops.{freshening_next}
use Rattle.abc_principal.proofs.fresh.fresh_vars.Goals as goal

pub loop-init : goal.loop-init
loop-init c = record {
  made = subst (λ (vs : List VarId). AreFresh c.args.g.now c.args.g.now vs) (sym c.new-vars.ensures.items) (fresh_none c.args.g.now);
  many = ap length c.new-vars.ensures.items;
  within = omega arith;
}

pub loop-preserved : goal.loop-preserved
loop-preserved c =
    freshening_next c.args.g.now c.loop.g c.fresh.new.self c.loop.vars.items c.push.new.self.items c.in_ok-a.a c.loop.counter c.args.count c.loop.invariant c.loop-test.true c.in_ok-a.ensures.number c.in_ok-a.ensures.ok c.in_ok-push.ensures.items
