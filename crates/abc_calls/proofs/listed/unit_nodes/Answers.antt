use Rattle.std.proofs.Common.{◌≡◌, ◌∙◌, [], map, ap, refl}
use Rattle.abc_tree.specs.Lists.{flat}
use Rattle.abc_tree.specs.Lined.{upto}
use Rattle.abc_tree.specs.Calls.{in_text_order, unit_by}
use Rattle.abc_calls.specs.inner.Nodes.{nodes_in_action, nodes_in_refinement, with_nodes}
use Rattle.abc_calls.proofs.Listing.{two_upto, from_nothing}
use Rattle.abc_calls.proofs.listed.unit_nodes.Goals as goal

pub returns : goal.returns
returns c =
    let unit = c.args.unit.now in
    let body : c.suite.new.self ≡ with_nodes [] (upto c.args.n (flat (map nodes_in_action unit.body))) =
    c.in_ok-suite.ensures ∙ ap (λ suite. with_nodes c.new-listed.result (upto c.args.n (flat (map nodes_in_action suite)))) c.as_slice.ensures
    ∙ ap (λ found. with_nodes found (upto c.args.n (flat (map nodes_in_action unit.body)))) c.new-listed.ensures in
    let more : c.refinements.new.self ≡ with_nodes c.suite.new.self (upto c.args.n (flat (map nodes_in_refinement unit.refinements))) =
    c.in_ok-refinements.ensures ∙ ap (λ rs. with_nodes c.suite.new.self (upto c.args.n (flat (map nodes_in_refinement rs)))) c.as_slice-2.ensures in
    c.into_vec.ensures ∙ (two_upto c.args.n [] c.suite.new.self c.refinements.new.self (flat (map nodes_in_action unit.body)) (flat (map nodes_in_refinement unit.refinements)) (unit_by in_text_order unit) refl body more
    ∙ from_nothing (upto c.args.n (unit_by in_text_order unit)))
