use Rattle.std.proofs.Common.{◌∙◌, ◌-◌, true, length, drop, take, ap}
use Rattle.std.specs.Prelude.{slice_get}
use Rattle.abc_tokens.specs.Shape.{is_first_by, is_spelled, tokens_found}
use Rattle.abc_tokens.specs.inner.Reads.{found_from}
use Rattle.abc_tokens.proofs.EndsSteps.{behind_front}
use Rattle.abc_tokens.proofs.ShapeLaws.{loose_are}
use Rattle.abc_tokens.proofs.shaping.is_first.Goals as goal

pub returns-clause-computed : goal.returns-clause-computed
returns-clause-computed c =
    let line = c.args.line.now in
    let front = c.front_of-front.result.bytes in
    let text = take (length line - front) (drop front line) in
    c.is_spelled.ensures ∙ ap (λ t. is_spelled text t c.args.word.now) c.first_of.ensures.first
    ∙ ap (λ bs. is_spelled bs (slice_get (tokens_found (found_from true bs 0)) 0) c.args.word.now) (behind_front line front c.front_of-front.ensures.text)

pub returns-clause-by_tokens : goal.returns-clause-by_tokens
returns-clause-by_tokens c ts ns d = returns-clause-computed c ∙ ap (λ us. is_first_by c.args.line.now us c.args.word.now) (loose_are c.args.line.now ts ns d)
