use Rattle.std.proofs.Common.{◌≡◌, ℕ, Option, sym, ap, ◌∙◌, subst}
use Rattle.std.specs.List.{filter}
use Rattle.std.specs.Option.{option_map}
use Rattle.abc_value.specs.Items.{elements_of}
use Rattle.abc_value.proofs.trees.Itemised.{elements_count}
use Rattle.abc_predef.specs.declared.extremes.Extreme.{Extreme}
use Rattle.abc_predef.specs.inner.Places.{IsPlaceOfBest, is_wanted}
use Rattle.abc_predef.proofs.Elements.{list_is_train}
use Rattle.abc_predef.proofs.Ends.{least_place, greatest_place}
use Rattle.abc_predef.proofs.extremes.best_in_list.Goals as goal

pub returns-in-Least : goal.returns-in-Least
returns-in-Least c =
    let e = option_map (λ e. e.now) c.args.e in
    let P : Extreme → Type 0 = λ end. IsPlaceOfBest end c.args.t.now (filter (is_wanted end e) (elements_of c.args.t.now)) c.place_within.result in
    subst P (sym c.in-Least.is)
    (least_place c.args.t.now e c.not_above.result c.len.result c.place_within.result c.requires c.not_above.ensures.regular c.not_above.ensures.front
    (c.len.ensures.length ∙ elements_count c.args.t.now (list_is_train c.args.t.now c.requires)) c.place_within.ensures)

pub returns-in-Greatest : goal.returns-in-Greatest
returns-in-Greatest c =
    let e = option_map (λ e. e.now) c.args.e in
    let P : Extreme → Type 0 = λ end. IsPlaceOfBest end c.args.t.now (filter (is_wanted end e) (elements_of c.args.t.now)) c.place_before.result in
    subst P (sym c.in-Greatest.is)
    (greatest_place c.args.t.now e c.below.result c.place_before.result c.requires c.below.ensures.regular c.below.ensures.front c.place_before.ensures)
