use Rattle.std.proofs.Common.{◌≡◌, ◌∷◌, [], ◌+◌, length, take, ap, subst, ◌∙◌, arith}
use Rattle.std.proofs.lemmas.List.{length-append}
use Rattle.abc_acts.proofs.Steps.{entry_more, front_taken}
use Rattle.abc_acts.proofs.calls.entry_of.Goals as goal

pub actuals-preserved : goal.actuals-preserved
actuals-preserved c =
    let split = c.in-Some.ensures.items in
    let inv = c.actuals.invariant in
    let size : length c.actuals.rest.items ≡ length c.pop.new.self.items + 1 = ap length split ∙ length-append c.pop.new.self.items (c.in-Some.actual ∷ []) in
    let n : c.len.result ≡ length c.pop.new.self.items = omega (arith, c.len.ensures) in
    let count : length c.args.ids.now ≡ length c.args.actuals.items = omega (arith, c.requires) in
    record {
      rest = front_taken c.args.actuals.items c.pop.new.self.items c.in-Some.actual (subst (λ r. r ≡ take (length r) c.args.actuals.items) split inv.rest);
      within = omega (arith, size, inv.within);
      begun = entry_more c.args.ids.now c.args.actuals.items c.actuals.rest.items c.pop.new.self.items c.in-Some.actual (record { 0 = 0 }) c.len.result c.actuals.names c.set_if_any.new.names c.actuals.formals.items c.push.new.self.items
          count n split inv.rest inv.within inv.begun c.in_ok-set_if_any.ensures c.in_ok-push.ensures.items;
    }
