use Rattle.std.proofs.Common.{◌∙◌, sym}
use Rattle.std.proofs.lemmas.List.{take_rest}
use Rattle.abc_tokens.proofs.Tails.{tail_more, tail_none}
use Rattle.abc_tokens.proofs.words.tail_length.Goals as goal

pub loop-count-preserved : goal.loop-count-preserved
loop-count-preserved c = tail_more _ _ _ _ _ (take_rest c.args.bytes.now c.loop-count.count) (sym c.continues.ensures.value ∙ c.loop-count-test.true) c.loop-count.invariant.1

pub returns-clause-value : goal.returns-clause-value
returns-clause-value c = tail_none _ _ _ _ _ (take_rest c.args.bytes.now c.loop-count.count) (sym c.continues.ensures.value ∙ c.loop-count-test.false) c.loop-count.invariant.1
