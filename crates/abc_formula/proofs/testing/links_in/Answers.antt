use Rattle.std.proofs.Common.{◌∙◌, sym, ap, arith, subst, All, length}
use Rattle.std.proofs.lemmas.List.Elements.{All-tail}
use Rattle.std.proofs.lemmas.List.{nil_from_length}
use Rattle.std.proofs.lemmas.Result.{err_from_is_err_and}
use Rattle.abc_expressions.specs.Lexemes.{IsSpelled}
use Rattle.abc_expressions.specs.inner.Machine.{reader}
use Rattle.abc_formula.proofs.TestTurns.{LinksAre, links_start, links_on, links_refused, links_end, links_last}
use Rattle.abc_formula.proofs.testing.links_in.Goals as goal

pub loop-token-init : goal.loop-token-init
loop-token-init c = (
  omega arith,
  c.requires,
  λ n m low few. subst (λ links. LinksAre (reader c.args.own.now n) c.args.own.now c.args.left m c.args.tokens.now links c.args.tokens.now) (sym c.new-links.ensures)
      (links_start (reader c.args.own.now n) c.args.own.now c.args.left m c.args.tokens.now few),
)

pub returns-in_default-relation_of-clause-finds : goal.returns-in_default-relation_of-clause-finds
returns-in_default-relation_of-clause-finds c n m low few =
    links_end (reader c.args.own.now n) c.args.own.now c.args.left m c.args.tokens.now _ _ _ _ (c.loop-token.invariant.2 n m low few) c.in-Some.ensures.cases.0 (sym c.relation_of.ensures ∙ c.in_default-relation_of.is)

pub single-requires-clause-spelled : goal.single-requires-clause-spelled
single-requires-clause-spelled c = All-tail IsSpelled _ _ (subst (All IsSpelled) c.in-Some.ensures.cases.0 c.loop-token.invariant.1)

pub returns-in_err-front-clause-finds : goal.returns-in_err-front-clause-finds
returns-in_err-front-clause-finds c n m low few =
    let p = err_from_is_err_and c.from_residual.result c.from_residual.ensures.1 in
    rw (p.1, p.2) (links_refused (reader c.args.own.now n) c.args.own.now c.args.left m c.args.tokens.now _ _ _ _ _ c.in_err-front.field-0.0 (c.loop-token.invariant.2 n m low few) c.in-Some.ensures.cases.0
    (sym c.relation_of.ensures ∙ c.in-Some-relation_of.is) (c.in_err-front.ensures.finds n low))

pub loop-token-preserved : goal.loop-token-preserved
loop-token-preserved c =
    let l = ap length c.in-Some.ensures.cases.0 in (
      omega (arith, l, c.in_ok-front.ensures.rest.0, c.loop-token.invariant.0),
      c.in_ok-front.ensures.rest.1,
      λ n m low few. links_on (reader c.args.own.now n) c.args.own.now c.args.left m c.args.tokens.now _ _ _ _ _ _ _ _ (c.loop-token.invariant.2 n m low few) c.in-Some.ensures.cases.0
          (sym c.relation_of.ensures ∙ c.in-Some-relation_of.is) (c.in_ok-front.ensures.finds n low) c.in_ok-front.ensures.rest.0 c.in_ok-links.ensures.ok,
    )

pub returns-clause-finds : goal.returns-clause-finds
returns-clause-finds c n m low few =
    links_last (reader c.args.own.now n) c.args.own.now c.args.left m c.args.tokens.now _ _ (c.loop-token.invariant.2 n m low few) (nil_from_length _ c.in_default.ensures.cases)
