use Rattle.std.proofs.Common.{sym, ◌∙◌}
use Rattle.abc_clauses.specs.Readings.{shared_of}
use Rattle.abc_clauses.proofs.SharedNames.{goes_on}
use Rattle.abc_clauses.proofs.lines.shared.Goals as goal

pub loop-token-preserved : goal.loop-token-preserved
loop-token-preserved c =
    goes_on (shared_of c.args.tokens.now) c.loop-token.names c.push.new.self c.loop-token.ahead.now c.in-Some.token.now c.in-Some.rest.now c.in-Name.x c.in_ok-of.field-0 c.in-Some-split_first.comma.now c.in-Some-split_first.more.now
    c.loop-token.invariant c.in-Some.ensures.cases.0 c.in-Name.is c.in-Some-split_first.ensures.cases.0 (sym c.if-not-is_comma.ensures) c.in_ok-push.ensures.ok (c.in_ok-of.ensures ∙ c.bytes.ensures)
