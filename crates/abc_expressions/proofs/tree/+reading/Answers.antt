use Rattle.std.proofs.Common.{◌≤◌, [], ◌∷◌, All, Some, None, ap, sym, ◌∙◌, refl, length, arith, subst, eqb-true}
use Rattle.std.proofs.lemmas.List.{nil_from_length}
use Rattle.std.proofs.lemmas.List.Elements.{All-tail}
use Rattle.std.proofs.lemmas.Bool.{eqb-false}
use Rattle.std.proofs.lemmas.Result.{err_from_is_err_and}
use Rattle.abc_expressions.specs.declared.frames.Group.TheVariants as grp
use Rattle.abc_expressions.specs.inner.Machine.{converter, reader}
use Rattle.abc_expressions.specs.Lexemes.{IsSpelled}
use Rattle.abc_expressions.proofs.ReaderSteps.{opened_as}
use Rattle.abc_expressions.proofs.TreeSteps.{wants_same, display_same, display_other, pair_same, colon_same, converted_is, read_alone, read_more, read_none, goes_on, stops, refused, unended, ended, gives_front, gives_fault}
use Rattle.abc_expressions.proofs.tree.+reading.Goals as goal

pub advance-returns-in_ok-operand-in-Wants-clause-steps : goal.advance-returns-in_ok-operand-in-Wants-clause-steps
advance-returns-in_ok-operand-in-Wants-clause-steps t c n le =
    rw c.in-Wants.is (wants_same _ _ _ _ _ _ _ _ _ (c.in_ok-operand-in-Wants.ensures n le) (c.wants.ensures.steps (c.args.token.now ∷ c.args.rest.now)))

pub advance-returns-in-Unbrace-clause-steps : goal.advance-returns-in-Unbrace-clause-steps
advance-returns-in-Unbrace-clause-steps t c n le =
    rw c.in-Display.is (display_same _ _ _ _ _ _ _ _ _ _ (sym c.sign_of.ensures ∙ c.in-Unbrace.is) (c.empty.ensures.steps (c.args.token.now ∷ c.args.rest.now)))

pub advance-returns-in-Bracket-clause-steps : goal.advance-returns-in-Bracket-clause-steps
advance-returns-in-Bracket-clause-steps t c n le =
    rw c.in-Display.is (display_same _ _ _ _ _ _ _ _ _ _ (sym c.sign_of.ensures ∙ c.in-Bracket.is)
    (opened_as (ap (λ pairs. grp.Key pairs []) c.new.ensures) _ _ _ _ _ _ _ (c.at_pair.ensures.steps (c.args.token.now ∷ c.args.rest.now))))

pub advance-returns-in_ok-operand-in_default : goal.advance-returns-in_ok-operand-in_default
advance-returns-in_ok-operand-in_default t c = record {
  steps = λ n le. rw c.in-Display.is (display_other _ _ _ _ _ _ _ _ _ _ (λ e. c.in_default.not-Unbrace (c.sign_of.ensures ∙ e)) (λ e. c.in_default.not-Bracket (c.sign_of.ensures ∙ e))
      (c.in_ok-operand-in_default.ensures n le) (c.first_fill.ensures.steps (c.args.token.now ∷ c.args.rest.now)));
  counts = c.first_fill.ensures.counts;
  most = c.first_fill.ensures.most;
}

pub advance-returns-in-Pair-clause-steps : goal.advance-returns-in-Pair-clause-steps
advance-returns-in-Pair-clause-steps t c n le =
    rw c.in-Pair.is (pair_same _ _ _ _ _ _ _ _ _ _ (sym c.sign_of-in-Pair.ensures) (c.at_pair-in-Pair.ensures.steps (c.args.token.now ∷ c.args.rest.now)))

pub advance-returns-in-Colon-clause-steps : goal.advance-returns-in-Colon-clause-steps
advance-returns-in-Colon-clause-steps t c n le =
    rw c.in-Colon.is (colon_same _ _ _ _ _ _ _ _ _ _ _ (sym c.sign_of-in-Colon.ensures) (c.at_colon.ensures.steps (c.args.token.now ∷ c.args.rest.now)))

pub conversion-returns-in_default : goal.conversion-returns-in_default
conversion-returns-in_default t c n le = converted_is _ _ _ _ None None c.if-left-eq0.false (sym c.bytes.ensures) (sym c.in_ok-tokens.ensures.found ∙ c.in_default.is) (λ m low. refl) n le

pub conversion-returns-then-is_empty : goal.conversion-returns-then-is_empty
conversion-returns-then-is_empty t c n le =
    converted_is _ _ _ _ _ (Some c.in-Ok.front.tree) c.if-left-eq0.false (sym c.bytes.ensures) (sym c.in_ok-tokens.ensures.found ∙ c.in-Some.is)
    (λ m low. read_alone (converter c.args.own.now m) _ _ _ _ _ c.new.ensures c.as_slice.ensures _ _ (c.in-Ok.ensures m low)
    (eqb-true (length c.in-Ok.front.rest.now) 0 (sym c.is_empty.ensures ∙ c.if-is_empty.true))) n le

pub conversion-returns-in-Ok : goal.conversion-returns-in-Ok
conversion-returns-in-Ok t c n le =
    converted_is _ _ _ _ _ None c.if-left-eq0.false (sym c.bytes.ensures) (sym c.in_ok-tokens.ensures.found ∙ c.in-Some.is)
    (λ m low. read_more (converter c.args.own.now m) _ _ _ _ _ c.new.ensures c.as_slice.ensures _ _ (c.in-Ok.ensures m low)
    (eqb-false (length c.in-Ok.front.rest.now) 0 (sym c.is_empty.ensures ∙ c.if-is_empty.false))) n le

pub conversion-returns-in-Err-BadCommand : goal.conversion-returns-in-Err-BadCommand
conversion-returns-in-Err-BadCommand t c n le =
    converted_is _ _ _ _ _ None c.if-left-eq0.false (sym c.bytes.ensures) (sym c.in_ok-tokens.ensures.found ∙ c.in-Some.is)
    (λ m low. read_none (converter c.args.own.now m) _ _ _ _ _ c.new.ensures c.as_slice.ensures (rw c.in-Err-BadCommand.field-0-is at (c.in-Err-BadCommand.ensures m low))) n le

pub read_tree-returns-in_err-turn : goal.read_tree-returns-in_err-turn
read_tree-returns-in_err-turn t c n le =
    let low : c.loop-token.state.left ≤ n = omega (arith, c.loop-token.invariant.0, c.loop-token.invariant.1) in
    let p = err_from_is_err_and c.from_residual-in_err-turn.result c.from_residual-in_err-turn.ensures.1 in
    rw (p.1, p.2) (refused (reader c.args.own.now n) _ _ _ _ _ _ (c.loop-token.invariant.3 n le) _ _ c.in-Some.ensures.cases.0 _ _ _ (c.in_err-turn.ensures.steps n low))

pub read_tree-returns-in-Stops : goal.read_tree-returns-in-Stops
read_tree-returns-in-Stops t c n le =
    let low : c.loop-token.state.left ≤ n = omega (arith, c.loop-token.invariant.0, c.loop-token.invariant.1) in
    stops (reader c.args.own.now n) _ _ _ _ _ _ (c.loop-token.invariant.3 n le) _ _ c.in-Some.ensures.cases.0 c.advance.new.state.left c.advance.new.state.stack _ (rw c.in-Stops.is at (c.in_ok-turn.ensures.steps n low))

pub read_tree-loop-token-preserved : goal.read_tree-loop-token-preserved
read_tree-loop-token-preserved t c =
    let counts = rw c.in-Goes.is at c.in_ok-turn.ensures.counts in
    let most = c.in_ok-turn.ensures.most in (
      most ∙ c.loop-token.invariant.0,
      omega (arith, counts, most),
      All-tail IsSpelled _ _ (subst (All IsSpelled) c.in-Some.ensures.cases.0 c.loop-token.invariant.2),
      λ n le.
          let low : c.loop-token.state.left ≤ n = omega (arith, c.loop-token.invariant.0, c.loop-token.invariant.1) in
          goes_on (reader c.args.own.now n) _ _ _ _ _ _ (c.loop-token.invariant.3 n le) _ _ c.in-Some.ensures.cases.0 _ _ _ (rw c.in-Goes.is at (c.in_ok-turn.ensures.steps n low)),
    )

pub read_tree-returns-in_err-finish-in-Has : goal.read_tree-returns-in_err-finish-in-Has
read_tree-returns-in_err-finish-in-Has t c n le =
    let p = err_from_is_err_and c.from_residual-in_err-finish-in-Has.result c.from_residual-in_err-finish-in-Has.ensures.1 in
    rw (p.1, p.2) (gives_fault _ _ _ (ended (reader c.args.own.now n) _ _ _ _ _ _ (c.loop-token.invariant.3 n le) (nil_from_length _ c.in_default.ensures.cases) _ _ _ c.in-Has.is) c.in_err-finish-in-Has.ensures)

pub read_tree-returns-in-Has : goal.read_tree-returns-in-Has
read_tree-returns-in-Has t c n le =
    gives_front _ _ _ (ended (reader c.args.own.now n) _ _ _ _ _ _ (c.loop-token.invariant.3 n le) (nil_from_length _ c.in_default.ensures.cases) _ _ _ c.in-Has.is) (nil_from_length _ c.in_default.ensures.cases) _ c.in_ok-finish-in-Has.ensures

pub read_tree-returns : goal.read_tree-returns
read_tree-returns t c n le = unended (reader c.args.own.now n) _ _ _ _ _ _ (c.loop-token.invariant.3 n le) (nil_from_length _ c.in_default.ensures.cases) (λ k m a e. c.in_default-turn.not-Has k m a e)
