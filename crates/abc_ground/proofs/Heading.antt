-- The heading of a unit has no calls.
use Rattle.std.proofs.Common.{◌≡◌, ◌∙◌, List, [], ◌∷◌, ◌++◌, map, ap, subst, refl}
use Rattle.abc_tree.specs.declared.formulas.Bound.{Bound, roll-Bound, map-Bound}
use Rattle.abc_tree.specs.declared.formulas.Bound.TheOpen.{Bound-F}
use Rattle.abc_tree.specs.declared.formulas.Bound.TheFolds.{fold-roll-Bound, ind-Bound}
use Rattle.abc_tree.specs.declared.commands.Unit.{Unit as Routine}
use Rattle.abc_ground.specs.Seen.{Node, nodes, bound_seen, seen_bound, seen_heading}
use Rattle.abc_ground.specs.Calls.{templates, each_templates}

abbrev HasNone : Bound → Type 0
HasNone b = templates (seen_bound b) ≡ []

parts_none : (es : List ((b : Bound) × HasNone b)) → each_templates (nodes (map seen_bound (map (λ e. e.0) es))) ≡ []
parts_none [] = refl
parts_none (e ∷ es) = ap (λ ts. ts ++ each_templates (nodes (map seen_bound (map (λ e. e.0) es)))) e.1 ∙ parts_none es

layer : (y : Bound-F ((b : Bound) × HasNone b)) → HasNone (roll-Bound (map-Bound ((b : Bound) × HasNone b) Bound (λ e. e.0) y))
layer (Bound-F.One i) = ap templates (fold-roll-Bound Node bound_seen (Bound-F.One i))
layer (Bound-F.Several es) = ap templates (fold-roll-Bound Node bound_seen (Bound-F.Several (map (λ e. e.0) es))) ∙ parts_none es

pub bound_none : (b : Bound) → HasNone b
bound_none = ind-Bound HasNone (λ x y is. subst (λ z. HasNone (roll-Bound z)) is (layer y))

bounds_none : (bs : List Bound) → each_templates (nodes (map seen_bound bs)) ≡ []
bounds_none [] = refl
bounds_none (b ∷ bs) = ap (λ ts. ts ++ each_templates (nodes (map seen_bound bs))) (bound_none b) ∙ bounds_none bs

pub heading_none : (unit : Routine) → each_templates (nodes (seen_heading unit)) ≡ []
heading_none unit = bounds_none unit.formals
