use Rattle.std.proofs.Common.{rules, ◌≡◌, ◌+◌, ◌-◌, ◌/◌, ◌<◌, ◌∙◌, length, sym, arith}
use Rattle.std.specs.Prelude.{slice_index_or}
use Rattle.std.proofs.lemmas.List.{length-map}
use Rattle.std.specs.declared.cmp.Ordering.{Ordering}
use Rattle.std.specs.declared.cmp.Ordering.TheVariants.{Less, Equal, Greater}
use Rattle.abc_tree.specs.Templates.{template_cmp}
use Rattle.abc_tree.proofs.Rising.{before_more, behind_more}
use Rattle.abc_ground.specs.Groups.{template_of}
use Rattle.abc_principal.specs.Exact.{cut_in, cuts_of}
use Rattle.abc_check.proofs.Membering.{cut_compared}
use Rattle.abc_check.proofs.members.place_of.Goals.{After-cmp}
use Rattle.abc_check.proofs.members.place_of.Goals as goal

-- the middle unit, whose template was compared
compared : (c : After-cmp) (o : Ordering) → c.cmp.result ≡ o → c.halves.low + (c.halves.high - c.halves.low) / 2 < length c.args.members.now
    → (d : _) → template_cmp (template_of (slice_index_or (cuts_of c.args.members.now) (c.halves.low + (c.halves.high - c.halves.low) / 2) d)) c.args.t.now ≡ o
compared c o is inside = cut_compared c.args.members.now (c.halves.low + (c.halves.high - c.halves.low) / 2) c.index-members-middle.result inside c.index-members-middle.is c.args.t.now o (sym c.cmp.ensures ∙ is)

pub halves-init : goal.halves-init
halves-init c = record {
  in_order = omega arith;
  inside = omega arith;
  before = λ k d low high. absurd (omega (arith, high));
  behind = λ k d low high. absurd (omega (arith, low, high, length-map c.args.members.now cut_in));
}

pub halves-preserved-in-Less : goal.halves-preserved-in-Less
halves-preserved-in-Less c =
    let i = c.halves.invariant in
    let middle = c.halves.low + (c.halves.high - c.halves.low) / 2 in
    let lower : middle < c.halves.high = search rules in
    let inside : middle < length c.args.members.now = omega (arith, lower, i.inside) in
    record {
      in_order = omega (arith, lower);
      inside = i.inside;
      before = before_more template_of (cuts_of c.args.members.now) c.args.t.now middle c.requires (omega (arith, inside, length-map c.args.members.now cut_in)) (compared (goal.at.halves-preserved-in-Less c).After-cmp Less c.in-Less.is inside);
      behind = i.behind;
    }

pub halves-preserved : goal.halves-preserved
halves-preserved c =
    let i = c.halves.invariant in
    let middle = c.halves.low + (c.halves.high - c.halves.low) / 2 in
    let lower : middle < c.halves.high = search rules in
    let inside : middle < length c.args.members.now = omega (arith, lower, i.inside) in
    record {
      in_order = omega arith;
      inside = omega (arith, inside);
      before = i.before;
      behind = behind_more template_of (cuts_of c.args.members.now) c.args.t.now middle c.requires (compared (goal.at.halves-preserved c).After-cmp Greater c.in-Greater.is inside);
    }

pub returns-in-Equal-clause-found : goal.returns-in-Equal-clause-found
returns-in-Equal-clause-found c =
    let i = c.halves.invariant in
    let middle = c.halves.low + (c.halves.high - c.halves.low) / 2 in
    let lower : middle < c.halves.high = search rules in
    let inside : middle < length c.args.members.now = omega (arith, lower, i.inside) in
    record { inside = omega (arith, inside, length-map c.args.members.now cut_in); same = compared (goal.at.returns-in-Equal-clause-found c).After-cmp Equal c.in-Equal.is inside }

pub returns-clause-absent : goal.returns-clause-absent
returns-clause-absent c =
    let i = c.halves.invariant in
    record {
      inside = omega (arith, i.in_order, i.inside, length-map c.args.members.now cut_in);
      before = i.before;
      behind = λ k d low high. i.behind k d (omega (arith, low, i.in_order, c.halves-test.false)) high;
    }
