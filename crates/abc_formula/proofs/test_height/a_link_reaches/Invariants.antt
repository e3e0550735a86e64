use Rattle.std.proofs.Common.{◌<◌, ◌↔◌, map, drop}
use Rattle.abc_tree.specs.Height.{height, above}
use Rattle.abc_formula.proofs.test_height.a_link_reaches.Given as goal

abbrev pub invariant-loop-link : goal.invariant-loop-link
invariant-loop-link l = (l.least < above (map (λ link. height link.right) (drop l.link-index l.links))) ↔ (l.least < above (map (λ link. height link.right) l.links))
