use Rattle.std.proofs.Common.{◌∙◌, sym, ap, arith, length, Ok, Err, All, subst}
use Rattle.std.proofs.lemmas.List.Elements.{All-tail}
use Rattle.std.proofs.lemmas.List.{nil_from_length}
use Rattle.abc_expressions.specs.Lexemes.{IsSpelled}
use Rattle.std.proofs.lemmas.Result.{err_from_is_err_and}
use Rattle.abc_formula.proofs.NameTurns.{wanted_on, behind_on, wanted_refused, behind_refused, ended, no_tokens, steps_of_sign, named_rest}
use Rattle.abc_formula.proofs.bounds.names_in.Goals as goal

pub returns-in_err-wants-clause-finds : goal.returns-in_err-wants-clause-finds
returns-in_err-wants-clause-finds c =
    let p = err_from_is_err_and c.from_residual-in_err-wants.result c.from_residual-in_err-wants.ensures.1 in
    rw (p.1, p.2) (wanted_refused _ _ _ _ _ _ _ _ _ _ c.loop-token.invariant.4 c.in-Some.ensures.cases.0 c.if-wants.true c.wanted.new.self.left c.wanted.new.self.groups c.in_err-wants.field-0.0 c.in_err-wants.ensures.steps)

pub returns-then-is_end-clause-finds : goal.returns-then-is_end-clause-finds
returns-then-is_end-clause-finds c =
    ended _ _ _ _ _ _ _ _ _ _ c.loop-token.invariant.4 c.in-Some.ensures.cases.0 c.if-wants.false (sym c.is_end.ensures ∙ c.if-is_end.true) _ c.end.ensures.finds

pub returns-in_err-wants-2-clause-finds : goal.returns-in_err-wants-2-clause-finds
returns-in_err-wants-2-clause-finds c =
    let p = err_from_is_err_and c.from_residual-in_err-wants-2.result c.from_residual-in_err-wants-2.ensures.1 in
    rw (p.1, p.2) (behind_refused _ _ _ _ _ _ _ _ _ _ c.loop-token.invariant.4 c.in-Some.ensures.cases.0 c.if-wants.false (sym c.is_end.ensures ∙ c.if-is_end.false) c.behind.new.self.left c.behind.new.self.groups c.in_err-wants-2.field-0.0
    (steps_of_sign _ _ c.loop-token.invariant.3 _ _ c.sign_of.ensures c.loop-token.naming.left c.loop-token.naming.groups (Err c.in_err-wants-2.field-0.0) c.behind.new.self.left c.behind.new.self.groups c.in_err-wants-2.ensures.steps))

pub loop-token-preserved-in_ok-wants : goal.loop-token-preserved-in_ok-wants
loop-token-preserved-in_ok-wants c =
    let l = ap length c.in-Some.ensures.cases.0 in (
      omega (arith, l, c.loop-token.invariant.0),
      All-tail IsSpelled _ _ (subst (All IsSpelled) c.in-Some.ensures.cases.0 c.loop-token.invariant.1),
      omega (arith, c.in_ok-wants.ensures.counts, c.loop-token.invariant.2),
      c.in_ok-wants.ensures.fewest ∙ c.loop-token.invariant.3,
      wanted_on _ _ _ _ _ _ _ _ _ _ c.loop-token.invariant.4 c.in-Some.ensures.cases.0 c.if-wants.true _ _ _ c.in_ok-wants.ensures.steps,
    )

pub loop-token-preserved : goal.loop-token-preserved
loop-token-preserved c =
    let l = ap length c.in-Some.ensures.cases.0 in (
      omega (arith, l, c.loop-token.invariant.0),
      All-tail IsSpelled _ _ (subst (All IsSpelled) c.in-Some.ensures.cases.0 c.loop-token.invariant.1),
      omega (arith, c.in_ok-wants-2.ensures.counts, c.loop-token.invariant.2),
      c.in_ok-wants-2.ensures.fewest ∙ c.loop-token.invariant.3,
      behind_on _ _ _ _ _ _ _ _ _ _ c.loop-token.invariant.4 c.in-Some.ensures.cases.0 c.if-wants.false (sym c.is_end.ensures ∙ c.if-is_end.false) c.behind.new.self.left c.behind.new.self.groups c.in_ok-wants-2.wants
          (steps_of_sign _ _ c.loop-token.invariant.3 _ _ c.sign_of.ensures c.loop-token.naming.left c.loop-token.naming.groups (Ok c.in_ok-wants-2.wants) c.behind.new.self.left c.behind.new.self.groups c.in_ok-wants-2.ensures.steps),
    )

pub returns-clause-finds : goal.returns-clause-finds
returns-clause-finds c = no_tokens _ _ _ _ _ _ _ _ c.loop-token.invariant.4 (nil_from_length _ c.in_default.ensures.cases)

pub returns-then-is_end-clause-rest : goal.returns-then-is_end-clause-rest
returns-then-is_end-clause-rest c =
    let l = ap length c.in-Some.ensures.cases.0 in
    named_rest _ _ _ c.end.ensures.rest (omega (arith, l, c.loop-token.invariant.0)) (All-tail IsSpelled _ _ (subst (All IsSpelled) c.in-Some.ensures.cases.0 c.loop-token.invariant.1))
