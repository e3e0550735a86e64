use Rattle.abc_parse.proofs.regular.TreesRegular.{templates_regular}
use Rattle.abc_parse.proofs.laws.regular_templates.Goals as goal

pub returns : goal.returns
returns c = templates_regular (record {
  commands = c.computed_command.ensures;
  alternatives = c.computed_alternative.ensures;
  headings = c.computed_heading.ensures;
  refinements = c.computed_refinement.ensures;
  kinds = c.edges_of_lines.ensures.heading;
}) c.lines_are_regular.ensures
