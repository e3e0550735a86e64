use Rattle.std.proofs.Common.{arith, ◌<◌, [], length}
use Rattle.std.proofs.lemmas.List.{take_rest}
use Rattle.abc_tokens.proofs.TextLoop.{goes_on, step_within, text_steps, conversion_steps}
use Rattle.abc_tokens.proofs.texts.next.Goals as goal

pub turned-requires-clause-fits : goal.turned-requires-clause-fits
turned-requires-clause-fits c =
    let w = step_within c.args.line.now c.args.here.at c.text_step-step.result.length (c.text_step-step.ensures []).within in
    let l : c.args.here.at < length c.args.line.now = c.requires.place.within in omega arith

pub turned-requires-2-clause-fits : goal.turned-requires-2-clause-fits
turned-requires-2-clause-fits c =
    let w = step_within c.args.line.now c.args.here.at c.in-Some.step.length (c.in-Some.ensures.some 0 []).within in
    let l : c.args.here.at < length c.args.line.now = c.requires.place.within in omega arith

pub returns-then-here-clause-some : goal.returns-then-here-clause-some
returns-then-here-clause-some c = goes_on _ _ _ _ _ _ _ (take_rest c.args.line.now c.args.here.at) c.requires.place
    (text_steps _ _ c.args.here _ c.if-here.true c.requires.place.is_open c.text_step-step.ensures)
    c.turned.ensures.at c.turned.ensures.sound c.turned.ensures.depth c.turned.ensures.same

pub returns-clause-some : goal.returns-clause-some
returns-clause-some c = goes_on _ _ _ _ _ _ _ (take_rest c.args.line.now c.args.here.at) c.requires.place
    (conversion_steps _ c.args.marks.now c.args.here _ c.if-here.false c.in-Some.ensures.some)
    c.turned-2.ensures.at c.turned-2.ensures.sound c.turned-2.ensures.depth c.turned-2.ensures.same
