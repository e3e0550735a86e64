use Rattle.std.proofs.Common.{◌≡◌, ◌≤◌, ◌-◌, length}
use Rattle.std.specs.List.{AllWithin}
use Rattle.std.specs.declared.cmp.Ordering.TheVariants.{Less, Greater}
use Rattle.abc_tree.specs.Templates.{template_cmp}
use Rattle.abc_ground.specs.Groups.{template_of}
use Rattle.abc_principal.specs.Exact.{cuts_of}
use Rattle.abc_check.proofs.members.place_of.Given as goal

abbrev pub invariant-halves : goal.invariant-halves
invariant-halves l = record {
  in_order : l.low ≤ l.high;
  inside : l.high ≤ length l.members;
  before : AllWithin (λ c. template_cmp (template_of c) l.t ≡ Less) (cuts_of l.members) 0 l.low;
  behind : AllWithin (λ c. template_cmp (template_of c) l.t ≡ Greater) (cuts_of l.members) l.high (length (cuts_of l.members));
}

abbrev pub decreases-halves : goal.decreases-halves
decreases-halves l = l.high - l.low
