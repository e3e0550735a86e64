use Rattle.std.proofs.Common.{◌≡◌, ◌∙◌, ◌≤◌, ◌++◌, ◌+◌, ◌∷◌, [], length, take, drop, ap, arith}
use Rattle.std.proofs.Math.ListN.{length-append, length-set}
use Rattle.abc_unify.specs.inner.Logs.{rolled, EntryIn}
use Rattle.abc_num.proofs.Parts.{All-front}
use Rattle.abc_unify.proofs.Logging.{popped, taken}
use Rattle.abc_unify.proofs.log.roll_back.Goals as goal

pub loop-log-preserved-in-Some : goal.loop-log-preserved-in-Some
loop-log-preserved-in-Some c =
    let items : c.loop-log.log.items ≡ c.pop.new.self.items ++ c.in-Some.entry ∷ [] = c.in-Some.ensures.items in
    let back : c.pop.new.self.items ++ c.in-Some.entry ∷ [] ≡ c.loop-log.log.items = cc in
    let more : length c.loop-log.log.items ≡ length c.pop.new.self.items + 1 = ap length items ∙ length-append c.pop.new.self.items (c.in-Some.entry ∷ []) in
    let keep : c.args.keep ≤ length c.pop.new.self.items = omega arith in
    rw c.put.ensures (record {
      keep = keep;
      inside = λ k d h. rw length-set (All-front (EntryIn (length c.loop-log.slots)) c.pop.new.self.items (c.in-Some.entry ∷ []) (rw items at c.loop-log.invariant.inside) k d h);
      same = popped c.loop-log.slots c.pop.new.self.items c.in-Some.entry c.args.keep keep ∙ (ap (λ l. rolled c.loop-log.slots (drop c.args.keep l)) back ∙ c.loop-log.invariant.same);
      older = taken c.pop.new.self.items c.in-Some.entry c.args.keep keep ∙ (ap (λ l. take c.args.keep l) back ∙ c.loop-log.invariant.older);
    })
