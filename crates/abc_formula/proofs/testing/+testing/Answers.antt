use Rattle.std.proofs.Common.{◌<◌, ◌∙◌, sym, arith, subst, length, length-drop, length-take, drop, ◌-◌}
use Rattle.std.proofs.lemmas.Bool.Decides.{nat_tests}
use Rattle.std.proofs.lemmas.Result.{err_from_is_err_and}
use Rattle.abc_formula.specs.declared.test_frames.Front.TheVariants as front
use Rattle.abc_formula.specs.declared.test_frames.Place.TheVariants as place
use Rattle.abc_expressions.specs.inner.Machine.{reader}
use Rattle.abc_formula.specs.inner.TestMachine.{test_in}
use Rattle.abc_formula.proofs.TestTurns.{TestIs, rest_is, fewer_behind, quantifier_refused, tight_joins, round_refused, test_start, test_goes, test_ends, test_refused}
use Rattle.abc_formula.proofs.testing.+testing.Goals as goal

pub read_part-quantified-requires-clause-spelled : goal.read_part-quantified-requires-clause-spelled
read_part-quantified-requires-clause-spelled t c = (rest_is c.args.tokens.now c.rest_of-in-Quantifies.result.now c.rest_of-in-Quantifies.ensures c.requires.spelled).1

pub read_part-returns-in_err-opened-in-Quantifies-clause-advances : goal.read_part-returns-in_err-opened-in-Quantifies-clause-advances
read_part-returns-in_err-opened-in-Quantifies-clause-advances t c n m low few =
    let p = err_from_is_err_and c.from_residual-in_err-opened-in-Quantifies.result c.from_residual-in_err-opened-in-Quantifies.ensures.1 in
    rw (p.1, p.2) (quantifier_refused (reader c.args.own.now n) c.args.own.now c.args.left m c.args.place c.args.tokens.now c.args.frames.now c.args.frames.now c.in-Quantifies.quantifier
    c.rest_of-in-Quantifies.result.now c.in_err-opened-in-Quantifies.field-0.0 (sym c.front_of.ensures ∙ c.in-Quantifies.is) c.rest_of-in-Quantifies.ensures
    (c.in_err-opened-in-Quantifies.ensures.begins n low))

pub read_part-returns-in_ok-push-in-Not-clause-rest : goal.read_part-returns-in_ok-push-in-Not-clause-rest
read_part-returns-in_ok-push-in-Not-clause-rest t c =
    fewer_behind c.args.tokens.now c.rest_of.result.now front.Not c.rest_of.ensures (sym c.front_of.ensures ∙ c.in-Not.is) (λ e. cc) c.requires.spelled

pub read_part-returns-in_ok-part-in-Tight-clause-advances : goal.read_part-returns-in_ok-part-in-Tight-clause-advances
read_part-returns-in_ok-part-in-Tight-clause-advances t c n m low few =
    tight_joins (reader c.args.own.now n) c.args.own.now c.args.left m c.args.place c.args.tokens.now c.args.frames.now c.join.new.frames c.in_ok-part-in-Tight.part.test
    c.in_ok-part-in-Tight.part.rest.now c.join.result (sym c.front_of.ensures ∙ c.in-Tight.is) (c.in_ok-part-in-Tight.ensures.finds n m low few) (c.join.ensures.joins (test_in (reader c.args.own.now n) c.args.own.now m) c.args.left)

pub test_in_front-loop-frames-init : goal.test_in_front-loop-frames-init
test_in_front-loop-frames-init t c = (
  omega arith,
  c.requires.spelled,
  λ n m low few. subst (λ frames. TestIs (reader c.args.own.now n) c.args.own.now c.args.left m c.args.tokens.now frames place.Whole c.args.tokens.now) (sym c.new-frames.ensures)
      (test_start (reader c.args.own.now n) c.args.own.now c.args.left m c.args.tokens.now few),
)

pub test_in_front-returns-in_err-next-clause-finds : goal.test_in_front-returns-in_err-next-clause-finds
test_in_front-returns-in_err-next-clause-finds t c n m low few =
    let p = err_from_is_err_and c.from_residual.result c.from_residual.ensures.1 in
    rw (p.1, p.2) (test_refused (reader c.args.own.now n) c.args.own.now c.args.left m c.args.tokens.now c.loop-frames.frames c.read_part.new.frames c.loop-frames.place c.loop-frames.ahead.now
    c.in_err-next.field-0.0 (c.loop-frames.invariant.2 n m low few) (λ k less. c.in_err-next.ensures.advances n k low less))

pub test_in_front-loop-frames-preserved : goal.test_in_front-loop-frames-preserved
test_in_front-loop-frames-preserved t c =
    let rest = rw c.in-Goes.is at c.in_ok-next.ensures.rest in (
      omega (arith, rest.0, c.loop-frames.invariant.0),
      rest.1,
      λ n m low few. test_goes (reader c.args.own.now n) c.args.own.now c.args.left m c.args.tokens.now c.loop-frames.frames c.read_part.new.frames c.loop-frames.place c.in-Goes.next
          c.loop-frames.ahead.now c.in-Goes.rest (c.loop-frames.invariant.2 n m low few) (λ k less. rw c.in-Goes.is at (c.in_ok-next.ensures.advances n k low less)) rest.0,
    )

pub test_in_front-returns-in-Ends-clause-finds : goal.test_in_front-returns-in-Ends-clause-finds
test_in_front-returns-in-Ends-clause-finds t c n m low few =
    let rest = rw c.in-Ends.is at c.in_ok-next.ensures.rest in
    test_ends (reader c.args.own.now n) c.args.own.now c.args.left m c.args.tokens.now c.loop-frames.frames c.read_part.new.frames c.loop-frames.place
    c.loop-frames.ahead.now c.in-Ends.front (c.loop-frames.invariant.2 n m low few) (λ k less. rw c.in-Ends.is at (c.in_ok-next.ensures.advances n k low less)) rest.0

pub round-returns-clause-finds : goal.round-returns-clause-finds
round-returns-clause-finds t c n m low few =
    let more : 0 < c.args.left = grind (arith, nat_tests) in
    round_refused (test_in (reader c.args.own.now n) c.args.own.now m) c.args.left c.args.tokens.now c.in_ok-front.front.test c.in_ok-front.front.rest.now c.in-len1-up.len_at_least more
    (c.in_ok-front.ensures.finds n m (omega (arith, low)) (omega (arith, few, length-drop 1 c.args.tokens.now, length-take (length c.args.tokens.now - 1) (drop 1 c.args.tokens.now)))) (sym c.in-None.ensures.found)
