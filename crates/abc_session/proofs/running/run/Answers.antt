use Rattle.std.proofs.Common.{List, ℕ, subst}
use Rattle.std.specs.Prelude.{map}
use Rattle.abc_session.specs.Session.{session_of}
use Rattle.abc_session.specs.Told.{WithTold}
use Rattle.abc_session.specs.Serving.{IsSessionPoint}
use Rattle.abc_session.specs.Run.{steps_named}
use Rattle.abc_session.proofs.running.run.Goals as goal

pub returns-clause-headline : goal.returns-clause-headline
returns-clause-headline g c unmade told told_said told_input still work start =
    let words : List (List ℕ) = map (λ word. word.now) c.args.words.now in
    let old = g.H.Host.now c.args.host.now in
    subst (λ b. WithTold b (steps_named words) work old.left (λ types. (i s : List ℕ) → g.H.Host.stopped c.run_within.new.host (g.H.Host.clock c.args.host.now) i s
    → IsSessionPoint work (session_of types b (steps_named words) work old.left) old.said i s)) c.product.ensures
    (c.run_within.ensures.run.headline unmade told told_said told_input still work start)
