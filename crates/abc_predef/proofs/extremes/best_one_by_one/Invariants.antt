use Rattle.std.proofs.Common.{take}
use Rattle.std.specs.List.{filter}
use Rattle.std.specs.Option.{option_map}
use Rattle.abc_value.specs.Items.{elements_of}
use Rattle.abc_predef.specs.inner.Places.{IsPlaceOfBest, is_wanted}
use Rattle.abc_predef.proofs.extremes.best_one_by_one.Given as goal

abbrev pub invariant-loop-i : goal.invariant-loop-i
invariant-loop-i l = IsPlaceOfBest l.end l.t (filter (is_wanted l.end (option_map (λ e. e.now) l.e)) (take l.i (elements_of l.t))) l.best
