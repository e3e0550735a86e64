use Rattle.std.proofs.Common.{◌++◌, ◌∷◌, [], length, ap, arith}
use Rattle.std.proofs.Math.ListN.{length-append}
use Rattle.abc_groups.specs.inner.Search.{IsTaken}
use Rattle.abc_groups.proofs.Classing.{taken_step}
use Rattle.abc_groups.proofs.search.take_top.Goals as goal

pub loop-path-preserved-in-Continue-1 : goal.loop-path-preserved-in-Continue-1
loop-path-preserved-in-Continue-1 c =
    let t : IsTaken c.args.marks.now c.args.path.now.items (length (c.pop.new.self.items ++ c.in-Some.x ∷ [])) c.loop-path.marks (c.pop.new.self.items ++ c.in-Some.x ∷ []) c.loop-path.row.items = rw c.in-Some.ensures.items at c.loop-path.invariant.taken in
    record {
      early = omega (arith, ap length c.in-Some.ensures.items, length-append c.pop.new.self.items (c.in-Some.x ∷ []));
      taken = rw c.in_ok-push.ensures.items (taken_step _ _ _ _ _ _ c.requires.inside t);
    }
