use Rattle.std.proofs.Common.{◌≡◌, ◌≤◌, ◌-◌, length}
use Rattle.std.specs.List.{AllWithin}
use Rattle.std.specs.declared.cmp.Ordering.TheVariants.{Less, Greater}
use Rattle.abc_tree.specs.Templates.{template_cmp}
use Rattle.abc_tree.specs.Ordered.{RiseBy}
use Rattle.abc_tree.proofs.search.place_of.Given as goal

abbrev pub invariant-halves : goal.invariant-halves
invariant-halves g l = record {
  rising : RiseBy g.T.HasTemplate.key l.items;
  in_order : l.low ≤ l.high;
  inside : l.high ≤ length l.items;
  before : AllWithin (λ u. template_cmp (g.T.HasTemplate.key u) l.t ≡ Less) l.items 0 l.low;
  behind : AllWithin (λ u. template_cmp (g.T.HasTemplate.key u) l.t ≡ Greater) l.items l.high (length l.items);
}

abbrev pub decreases-halves : goal.decreases-halves
decreases-halves g l = l.high - l.low
