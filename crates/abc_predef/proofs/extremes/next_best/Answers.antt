use Rattle.std.proofs.Common.{sym, ◌∙◌}
use Rattle.std.specs.Option.{option_map}
use Rattle.abc_predef.specs.inner.Places.{is_wanted, element_at}
use Rattle.abc_predef.proofs.Bests.{best_moves}
use Rattle.abc_predef.proofs.extremes.next_best.Goals as goal

pub returns-then-is_wanted_at : goal.returns-then-is_wanted_at
returns-then-is_wanted_at c xs h =
    best_moves c.args.end c.args.t.now xs (is_wanted c.args.end (option_map (λ e. e.now) c.args.e)) (element_at c.args.t.now c.args.i) c.args.best c.better_place.result
    (sym c.is_wanted_at.ensures ∙ c.if-is_wanted_at.true) c.better_place.ensures.within c.better_place.ensures.better h
