use Rattle.std.proofs.Common.{get_or}
use Rattle.abc_tokens.proofs.TextSteps.{text_stays, text_doubled, text_closes, text_converts}
use Rattle.abc_tokens.proofs.TextLoop.{rest_begins, is_mark, is_other}
use Rattle.abc_tokens.proofs.texts.text_step.Goals as goal

pub returns-then-b-ne96 : goal.returns-then-b-ne96
returns-then-b-ne96 c quotes = rw c.new.ensures (text_stays _ _ _ c.requires c.if-b-quote.true c.if-b-ne96.true)

pub returns-then-begins_with : goal.returns-then-begins_with
returns-then-begins_with c quotes = rw c.new-then-begins_with.ensures
    (text_doubled _ _ _ c.requires (rest_begins c.args.bytes.now (get_or c.args.bytes.now 0 0) _ _ c.begins_with.ensures.value c.if-begins_with.true) (is_mark c.else-b-quote.either))

pub returns-then-b-quote-2 : goal.returns-then-b-quote-2
returns-then-b-quote-2 c quotes = rw c.new-then-b-quote-2.ensures
    (text_closes _ _ _ c.requires (rest_begins c.args.bytes.now (get_or c.args.bytes.now 0 0) _ _ c.begins_with.ensures.value c.if-begins_with.false) c.if-b-quote-2.true)

pub returns : goal.returns
returns c quotes = rw c.new-2.ensures
    (text_converts _ _ _ c.requires (rest_begins c.args.bytes.now (get_or c.args.bytes.now 0 0) _ _ c.begins_with.ensures.value c.if-begins_with.false) c.if-b-quote-2.false (is_other c.else-b-quote.either c.if-b-quote-2.false))
