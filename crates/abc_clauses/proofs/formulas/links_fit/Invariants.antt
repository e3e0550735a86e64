use Rattle.std.proofs.Common.{◌≡◌, drop, map}
use Rattle.abc_tree.specs.Regular.{every}
use Rattle.abc_clauses.specs.inner.Naming.{gives_value, names_of_link}
use Rattle.abc_clauses.proofs.formulas.links_fit.Given as goal

abbrev pub invariant-loop-link : goal.invariant-loop-link
invariant-loop-link l = every (map (names_of_link (gives_value l.kinds)) (drop l.link-index l.links)) ≡ every (map (names_of_link (gives_value l.kinds)) l.links)
