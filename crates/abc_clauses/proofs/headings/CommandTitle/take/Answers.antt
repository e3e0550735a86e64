use Rattle.std.proofs.Common.{[], ◌∷◌, Some, ap, sym, ◌∙◌}
use Rattle.std.proofs.lemmas.List.{append-nil}
use Rattle.abc_tree.specs.declared.templates.Word.TheVariants as w
use Rattle.abc_clauses.specs.Readings.{place_of}
use Rattle.abc_clauses.proofs.headings.CommandTitle.take.Goals as goal

pub returns-in_ok-push-in-Keyword : goal.returns-in_ok-push-in-Keyword
returns-in_ok-push-in-Keyword c = (
  (w.Key c.in_ok-of-in-Keyword.field-0, []),
  ap (λ token. place_of c.args.own.now token c.args.rest.now) c.in-Keyword.is ∙ ap (λ x. Some (w.Key x, [])) (sym (c.in_ok-of-in-Keyword.ensures ∙ c.bytes.ensures)),
  c.in_ok-push-in-Keyword.ensures.ok,
  sym (append-nil c.args.self.now.formals),
)
