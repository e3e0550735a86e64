use Rattle.std.proofs.Common.{◌<◌, length, arith, sym, ap, ◌∙◌, subst, inr, Err}
use Rattle.std.proofs.lemmas.Result.{err_from_is_err_and}
use Rattle.std.proofs.lemmas.Bool.Decides.{nat_tests}
use Rattle.abc_predef.proofs.WordTables.{HasWords, words_next, word_fault}
use Rattle.abc_predef.proofs.collections.table_of_words.Goals as goal

pub returns-in_err-put_word : goal.returns-in_err-put_word
returns-in_err-put_word c =
    let p = err_from_is_err_and c.from_residual.result c.from_residual.ensures.1 in
    let some : 0 < length c.loop-rest.rest.now = grind (arith, nat_tests, c.is_empty.ensures, c.loop-rest-test.true) in
    inr (p.1 ∙ ap Err (p.2 ∙ word_fault c.args.b.now c.loop-rest.words c.loop-rest.rest.now c.word_len-end.result c.loop-rest.invariant some c.word_len-end.ensures.length c.in_err-put_word.field-0.0 c.requires.short c.in_err-put_word.ensures.fault))

pub loop-rest-preserved : goal.loop-rest-preserved
loop-rest-preserved c =
    let some : 0 < length c.loop-rest.rest.now = grind (arith, nat_tests, c.is_empty.ensures, c.loop-rest-test.true) in
    subst (HasWords c.args.b.now c.put_word.new.words) (sym c.behind-rest.ensures)
    (words_next c.args.b.now c.loop-rest.words c.loop-rest.rest.now c.word_len-end.result c.loop-rest.invariant some c.word_len-end.ensures.length c.put_word.new.words c.in_ok-put_word.ensures.ok)
