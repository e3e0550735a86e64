use Rattle.std.proofs.Common.{sym, ◌∙◌}
use Rattle.abc_state.specs.Views.{at, address_of, scope_of, state_of}
use Rattle.abc_acts.proofs.Acting.{put_lost, put_so}
use Rattle.abc_acts.proofs.fields.put_fields.Goals as goal

pub returns-then-not-matches_value-clause-agrees : goal.returns-then-not-matches_value-clause-agrees
returns-then-not-matches_value-clause-agrees c = λ line lines ended.
    put_lost (at (scope_of c.args.scope.now) line) (address_of c.args.spot.now) c.args.value.now (state_of c.args.run.now c.args.targets.now lines ended) (sym c.matches_value.ensures ∙ c.if-not-matches_value.true)

pub returns-clause-agrees : goal.returns-clause-agrees
returns-clause-agrees c = λ line lines ended.
    put_so (at (scope_of c.args.scope.now) line) (address_of c.args.spot.now) c.args.value.now (state_of c.args.run.now c.args.targets.now lines ended) (state_of c.put_matching.new.run c.put_matching.new.targets lines ended) c.put_matching.result
    (sym c.matches_value.ensures ∙ c.if-not-matches_value.false) (c.put_matching.ensures.agrees (sym c.matches_value.ensures ∙ c.if-not-matches_value.false) line lines ended)
