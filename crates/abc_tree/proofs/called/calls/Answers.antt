use Rattle.std.proofs.Common.{◌≡◌, ◌∙◌, [], map, ap, refl}
use Rattle.abc_tree.specs.Lists.{flat}
use Rattle.abc_tree.specs.Calls.{calls_in_action, calls_in_refinement, calls_in_unit, with_calls}
use Rattle.abc_tree.specs.Lined.{upto}
use Rattle.abc_tree.proofs.Calling.{two_upto}
use Rattle.abc_tree.proofs.called.calls.Goals as goal

pub returns : goal.returns
returns c =
    let unit = c.args.unit.now in
    let body : c.suite.new.self ≡ with_calls [] (upto c.args.n (flat (map calls_in_action unit.body))) =
    c.in_ok-suite.ensures ∙ ap (λ suite. with_calls c.new-called.result (upto c.args.n (flat (map calls_in_action suite)))) c.as_slice.ensures
    ∙ ap (λ found. with_calls found (upto c.args.n (flat (map calls_in_action unit.body)))) c.new-called.ensures in
    let more : c.refinements.new.self ≡ with_calls c.suite.new.self (upto c.args.n (flat (map calls_in_refinement unit.refinements))) =
    c.in_ok-refinements.ensures ∙ ap (λ rs. with_calls c.suite.new.self (upto c.args.n (flat (map calls_in_refinement rs)))) c.as_slice-2.ensures in
    c.into_vec.ensures ∙ two_upto c.args.n [] c.suite.new.self c.refinements.new.self (flat (map calls_in_action unit.body)) (flat (map calls_in_refinement unit.refinements)) (calls_in_unit unit) refl body more
