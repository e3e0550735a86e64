use Rattle.std.proofs.Common.{refl}
use Rattle.abc_tokens.proofs.EndsSteps.{ends_first, ends_second, ends_last, no_token, a_token}
use Rattle.abc_tokens.proofs.shaping.Ends.with.Goals as goal

pub returns-then-is_none : goal.returns-then-is_none
returns-then-is_none c text ts w h = ends_first text c.args.token w ts c.args.self _ h (no_token _ _ c.is_none.ensures c.if-is_none.true) refl refl refl

pub returns-then-is_none-2 : goal.returns-then-is_none-2
returns-then-is_none-2 c text ts w h =
    let p = a_token _ _ c.is_none.ensures c.if-is_none.false in
    ends_second text c.args.token w ts c.args.self _ p.0 h p.1 (no_token _ _ c.is_none-2.ensures c.if-is_none-2.true) refl refl refl

pub returns : goal.returns
returns c text ts w h =
    let p = a_token _ _ c.is_none.ensures c.if-is_none.false in
    let q = a_token _ _ c.is_none-2.ensures c.if-is_none-2.false in
    ends_last text c.args.token w ts c.args.self _ p.0 q.0 h p.1 q.1 refl refl refl
