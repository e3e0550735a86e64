use Rattle.std.proofs.Common.{◌≡◌, ◌∙◌, length, sym, ap, subst, arith}
use Rattle.abc_tree.specs.Templates.{template_text}
use Rattle.abc_groups.specs.Program.{IsFirstMissing, texts}
use Rattle.abc_groups.specs.inner.Least.{IsLeastAt}
use Rattle.abc_groups.proofs.Leasts.{length_texts, name_read, nothing_is_missing, this_is_missing}
use Rattle.abc_groups.proofs.missing.first_missing_by.Goals as goal

pub returns-in-Some-clause-some : goal.returns-in-Some-clause-some
returns-in-Some-clause-some g c =
    let ts = c.in_ok-explored.explored.templates.items in
    let there = c.in_ok-explored.explored.there.items in
    let whole : length c.in_ok-explored.explored.rows.items ≡ length (texts ts) = c.in_ok-explored.ensures.whole ∙ sym (length_texts ts) in
    let l : IsLeastAt (texts ts) there (length ts) c.in-Some.i = c.in-Some.ensures in
    subst (IsFirstMissing (g.P.Program.tells c.args.program.now) (texts c.args.from.now))
    (name_read ts c.in-Some.i c.index.result.now l.0 c.index.ensures ∙ ap template_text (sym c.in_ok-copy-in-Some.ensures))
    (this_is_missing _ _ (texts ts) _ there c.in_ok-explored.ensures.explored whole c.in-Some.i (subst (λ n. IsLeastAt (texts ts) there n c.in-Some.i) (sym (length_texts ts)) l))

pub returns-clause-none : goal.returns-clause-none
returns-clause-none g c =
    let ts = c.in_ok-explored.explored.templates.items in
    let whole : length c.in_ok-explored.explored.rows.items ≡ length (texts ts) = c.in_ok-explored.ensures.whole ∙ sym (length_texts ts) in
    nothing_is_missing _ _ (texts ts) _ _ c.in_ok-explored.ensures.explored whole (λ k h. c.in-None.ensures k (omega (arith, h, length_texts ts)))
