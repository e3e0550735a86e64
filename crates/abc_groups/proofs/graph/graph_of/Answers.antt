use Rattle.std.proofs.Common.{◌≡◌, ◌∙◌, ◌<◌, ◌++◌, ◌∷◌, [], Some, None, length, slice_get, take, sym, ap, subst, arith, rules, vec_len}
use Rattle.std.proofs.lemmas.Option.{slice_get_within}
use Rattle.abc_groups.specs.Program.{EachOnce, graph_in}
use Rattle.abc_groups.proofs.UnitLaws.{each_once, graph_more, take_whole}
use Rattle.abc_groups.proofs.graph.graph_of.Goals as goal

pub units-smaller : goal.units-smaller
units-smaller c =
    let look : slice_get c.args.units.now (vec_len c.units.graph) ≡ Some c.in-Some.unit.now = ap (slice_get c.args.units.now) (sym c.len.ensures) ∙ sym c.in-Some.ensures.unit in
    let h : vec_len c.units.graph < length c.args.units.now = slice_get_within c.args.units.now (vec_len c.units.graph) c.in-Some.unit.now look in
    omega (arith, h, c.in_ok-push.ensures.len)

pub units-preserved : goal.units-preserved
units-preserved c =
    let n = vec_len c.units.graph in
    let look : slice_get c.args.units.now n ≡ Some c.in-Some.unit.now = ap (slice_get c.args.units.now) (sym c.len.ensures) ∙ sym c.in-Some.ensures.unit in
    c.in_ok-push.ensures.items ∙ ap (λ g. g ++ c.in_ok-entry.field-0 ∷ []) c.units.invariant ∙ ap (λ e. graph_in (take n c.args.units.now) ++ e ∷ []) c.in_ok-entry.ensures
    ∙ graph_more c.args.units.now n c.in-Some.unit.now look ∙ ap (λ k. graph_in (take k c.args.units.now)) (sym c.in_ok-push.ensures.len)

pub returns-clause-graph : goal.returns-clause-graph
returns-clause-graph c =
    let none : slice_get c.args.units.now (vec_len c.units.graph) ≡ None = search rules in
    c.units.invariant ∙ ap graph_in (take_whole c.args.units.now (vec_len c.units.graph) none)

pub returns-clause-once : goal.returns-clause-once
returns-clause-once c = subst EachOnce (sym (returns-clause-graph c)) (each_once c.args.units.now c.at.ensures.rising)
