use Rattle.std.proofs.Common.{◌≡◌, ◌∙◌, ◌+◌, ◌∷◌, [], length, ap, arith}
use Rattle.std.proofs.lemmas.List.{length-append}
use Rattle.abc_scheme.proofs.Later.{later_fresh, made_pushed}
use Rattle.abc_scheme.proofs.copying.fresh_vars.Goals as goal

pub returns-in_err-push-clause-later : goal.returns-in_err-push-clause-later
returns-in_err-push-clause-later c = later_fresh c.args.g.now c.loop.g c.fresh.new.self c.loop.invariant.made.later c.in_ok-fresh.ensures.ok

pub loop-preserved : goal.loop-preserved
loop-preserved c =
    let a = c.in_ok-fresh.field-0 in
    let count : length c.push.new.self.items ≡ length c.loop.vars.items + 1 = ap length c.in_ok-push.ensures.items ∙ length-append c.loop.vars.items (a ∷ []) in
    record {
      made = made_pushed c.args.g.now c.loop.g c.fresh.new.self c.loop.vars.items c.push.new.self.items a c.loop.invariant.made c.in_ok-fresh.ensures.number c.in_ok-fresh.ensures.ok c.in_ok-push.ensures.items;
      count = omega (arith, count, c.loop.invariant.count);
      within = omega (arith, c.loop-test.true);
    }
