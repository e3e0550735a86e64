use Rattle.abc_clauses.proofs.LineEdges.{command_edges, alternative_edges, heading_edges, refinement_edges}
use Rattle.abc_clauses.proofs.laws.edges_of_lines.Goals as goal

pub returns-clause-command : goal.returns-clause-command
returns-clause-command c own kinds commands text n ts clause h = command_edges own kinds commands text n ts clause (c.computed_command.ensures own kinds commands text) h

pub returns-clause-alternative : goal.returns-clause-alternative
returns-clause-alternative c own kinds commands text n ts clause h = alternative_edges own kinds commands text n ts clause (c.computed_alternative.ensures own kinds commands text) h

pub returns-clause-heading : goal.returns-clause-heading
returns-clause-heading c own kinds commands text n ts clause h = heading_edges own kinds commands text n ts clause (c.computed_heading.ensures own kinds commands text) h

pub returns-clause-refinement : goal.returns-clause-refinement
returns-clause-refinement c own kinds commands text n ts clause h = refinement_edges own kinds commands text n ts clause (c.computed_refinement.ensures own kinds commands text) h
