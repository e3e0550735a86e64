use Rattle.abc_clauses.proofs.RegularLines.{lines_regular}
use Rattle.abc_clauses.proofs.laws.lines_are_regular.Goals as goal

pub returns : goal.returns
returns c own kinds commands text = lines_regular (record {
  all = c.spelled_regular.ensures.all;
  single = c.spelled_regular.ensures.single;
  low = c.spelled_tests.ensures.low;
  bound = c.spelled_tests.ensures.bound;
  addressed = c.address_form.ensures;
  tokens = c.computed_tokens.ensures.tokens;
  spelled = c.spelled_tokens.ensures;
  name = c.computed_words.ensures.name;
  keyword = c.computed_words.ensures.keyword;
}) own kinds commands text (c.computed_command.ensures own kinds commands text) (c.computed_alternative.ensures own kinds commands text)
    (c.computed_heading.ensures own kinds commands text) (c.computed_refinement.ensures own kinds commands text)
