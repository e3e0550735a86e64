use Rattle.std.proofs.Common.{[], ◌∷◌, sym}
use Rattle.abc_tree.specs.declared.formulas.Bound.TheVariants as b
use Rattle.abc_tree.specs.declared.templates.Word.TheVariants as w
use Rattle.abc_clauses.proofs.Titles.{place_found}
use Rattle.abc_clauses.proofs.headings.CommandTitle.take_formal.Goals as goal

pub returns : goal.returns
returns c =
    ((w.Place, b.One (record { 0 = c.in-Own.i }) ∷ []), place_found c.args.kind c.in-Own.i c.args.rest.now c.in-Own.is (sym c.if-not-ends_place.ensures), c.in_ok-push.ensures.ok, c.in_ok-push-2.ensures.ok)
