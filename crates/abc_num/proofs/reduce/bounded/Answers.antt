use Rattle.std.proofs.Common.{subst, sym, ◌∙◌, ap, arith}
use Rattle.abc_num.specs.Number.{fraction, signed, IsNumber}
use Rattle.abc_num.proofs.LowestTerms.{whole_is_number, proper_is_number, too_great}
use Rattle.abc_num.proofs.Ratios.{IsRatio-none, IsRatio-lowest}
use Rattle.abc_num.proofs.reduce.bounded.Goals as goal
use Rattle.abc_num.proofs.reduce.bounded.Goals.{else-top-2-via-then-top-2+else-bottom, else-top-2-via-else-top-2}

pub of_parts-requires-clause-number : goal.of_parts-requires-clause-number
of_parts-requires-clause-number c = whole_is_number c.args.negative c.args.top c.if-top.true

pub returns-then-top : goal.returns-then-top
returns-then-top c =
    IsRatio-lowest c.args.negative c.args.top c.args.bottom c.of_parts.result (c.of_parts.ensures ∙ ap (fraction (signed c.args.negative c.args.top)) (sym c.if-bottom-eq1.true))
    (subst (λ y. IsNumber (fraction (signed c.args.negative c.args.top) y)) (sym c.if-bottom-eq1.true) (whole_is_number c.args.negative c.args.top c.if-top.true))

pub returns-then-bottom-eq1 : goal.returns-then-bottom-eq1
returns-then-bottom-eq1 c =
    IsRatio-none _ _ (too_great c.args.negative c.args.top c.args.bottom c.requires.positive c.requires.lowest (λ _ h. absurd (omega (arith, c.if-top.false))) (λ k _ _. k c.if-bottom-eq1.true))

pub of_parts-requires-then-bottom-clause-number : goal.of_parts-requires-then-bottom-clause-number
of_parts-requires-then-bottom-clause-number c =
    proper_is_number c.args.negative c.args.top c.args.bottom c.requires.lowest c.requires.positive c.if-bottom-eq1.false c.if-bottom.true c.if-top-2.true

pub returns-then-bottom : goal.returns-then-bottom
returns-then-bottom c =
    IsRatio-lowest c.args.negative c.args.top c.args.bottom c.of_parts-then-bottom.result c.of_parts-then-bottom.ensures
    (proper_is_number c.args.negative c.args.top c.args.bottom c.requires.lowest c.requires.positive c.if-bottom-eq1.false c.if-bottom.true c.if-top-2.true)

pub returns : goal.returns
returns c =
    IsRatio-none _ _ (too_great c.args.negative c.args.top c.args.bottom c.requires.positive c.requires.lowest (λ e _. c.if-bottom-eq1.false e) (λ _ h k. elim c.else-top-2.branch [
      | else-top-2-via-then-top-2+else-bottom w ↦ absurd (omega (arith, w.if-bottom.false))
      | else-top-2-via-else-top-2 w ↦ absurd (omega (arith, w.if-top-2.false))
    ]))
