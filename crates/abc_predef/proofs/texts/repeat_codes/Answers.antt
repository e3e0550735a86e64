use Rattle.std.proofs.Common.{◌++◌, sym, ap, ◌∙◌}
use Rattle.std.specs.List.{repeat}
use Rattle.abc_predef.proofs.Codes.{empty_list, repeat-none, repeat-more}
use Rattle.abc_predef.proofs.texts.repeat_codes.Goals as goal

pub returns-then-is_empty-clause-ok : goal.returns-then-is_empty-clause-ok
returns-then-is_empty-clause-ok c =
    c.new.ensures.items ∙ sym (ap (repeat c.args.count) (empty_list c.args.part.now (sym c.is_empty.ensures ∙ c.if-is_empty.true)) ∙ repeat-none c.args.count)

pub loop-preserved : goal.loop-preserved
loop-preserved c =
    c.in_ok-extend_from_slice.ensures.items ∙ ap (λ xs. xs ++ c.args.part.now) c.loop.invariant ∙ repeat-more c.loop.counter c.args.part.now
