use Rattle.std.proofs.Common.{rules, ◌≡◌, ◌+◌, ◌-◌, ◌/◌, ◌<◌, ◌∙◌, length, sym, ap, arith}
use Rattle.std.specs.Prelude.{slice_index_or}
use Rattle.std.proofs.lemmas.List.{get_or_default}
use Rattle.std.specs.declared.cmp.Ordering.{Ordering}
use Rattle.std.specs.declared.cmp.Ordering.TheVariants.{Less, Greater}
use Rattle.abc_tree.specs.Templates.{template_cmp}
use Rattle.abc_tree.proofs.Rising.{before_more, behind_more}
use Rattle.abc_tree.proofs.search.place_of.Given.{Over}
use Rattle.abc_tree.proofs.search.place_of.Goals.{After-cmp}
use Rattle.abc_tree.proofs.search.place_of.Goals as goal

-- the middle element, whose template was compared
compared : (g : Over) (c : After-cmp g) (o : Ordering) → c.cmp.result ≡ o → c.halves.low + (c.halves.high - c.halves.low) / 2 < length c.args.items.now
    → (d : _) → template_cmp (g.T.HasTemplate.key (slice_index_or c.args.items.now (c.halves.low + (c.halves.high - c.halves.low) / 2) d)) c.args.t.now ≡ o
compared g c o is inside d =
    let us = c.args.items.now in
    let middle = c.halves.low + (c.halves.high - c.halves.low) / 2 in
    let read : c.index-items-middle.result ≡ slice_index_or us middle c.index-items-middle.result = c.index-items-middle.is in
    ap (λ u. template_cmp (g.T.HasTemplate.key u) c.args.t.now) (get_or_default us middle d c.index-items-middle.result inside ∙ sym read) ∙ ap (λ u. template_cmp u c.args.t.now) (sym c.template.ensures) ∙ sym c.cmp.ensures ∙ is

pub halves-preserved-in-Less : goal.halves-preserved-in-Less
halves-preserved-in-Less g c =
    let i = c.halves.invariant in
    let us = c.args.items.now in
    let middle = c.halves.low + (c.halves.high - c.halves.low) / 2 in
    let lower : middle < c.halves.high = search rules in
    let inside : middle < length us = omega (arith, lower, i.inside) in
    record { rising = i.rising; in_order = omega (arith, lower); inside = i.inside; before = before_more g.T.HasTemplate.key us c.args.t.now middle i.rising inside (compared g (goal.at.halves-preserved-in-Less g c).After-cmp Less c.in-Less.is inside); behind = i.behind }

pub halves-preserved : goal.halves-preserved
halves-preserved g c =
    let i = c.halves.invariant in
    let us = c.args.items.now in
    let middle = c.halves.low + (c.halves.high - c.halves.low) / 2 in
    let lower : middle < c.halves.high = search rules in
    let inside : middle < length us = omega (arith, lower, i.inside) in
    record { rising = i.rising; in_order = omega arith; inside = omega (arith, inside); before = i.before; behind = behind_more g.T.HasTemplate.key us c.args.t.now middle i.rising (compared g (goal.at.halves-preserved g c).After-cmp Greater c.in-Greater.is inside) }
