use Rattle.std.specs.Prelude.{slice_index_or}
use Rattle.std.proofs.lemmas.List.Elements.{All-map}
use Rattle.abc_outline.specs.ByTokens.{IsByTokens}
use Rattle.abc_outline.specs.Rows.{row_of}
use Rattle.abc_outline.proofs.Edging.{line_follows}
use Rattle.abc_outline.proofs.laws.edges_by_tokens.Goals as goal

pub returns-clause-row : goal.returns-clause-row
returns-clause-row c line = line_follows (record {
  tokens = c.computed_tokens.ensures.tokens;
  shape = c.shape_by_tokens.ensures.shape;
  first = c.shape_by_tokens.ensures.first;
  spelled = c.spelled_tokens.ensures;
}) line

pub returns-clause-rows : goal.returns-clause-rows
returns-clause-rows c lines = All-map IsByTokens row_of lines (λ k d l. line_follows (record {
  tokens = c.computed_tokens.ensures.tokens;
  shape = c.shape_by_tokens.ensures.shape;
  first = c.shape_by_tokens.ensures.first;
  spelled = c.spelled_tokens.ensures;
}) (slice_index_or lines k d))
