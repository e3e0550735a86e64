-- Lists in the order of their elements' templates, one for each.
use Rattle.std.specs.Prelude.{◌≡◌, List, [], ◌∷◌, Bool, Option, Some, None, if◌then◌else◌}
use Rattle.std.specs.List.{AllByRecursion}
use Rattle.std.specs.declared.cmp.Ordering.TheVariants.{Less}
use Rattle.std.specs.Ordering.{match_ordering}
use Rattle.abc_tree.specs.Templates.{template_cmp}
use Rattle.abc_tree.specs.declared.templates.Template.{Template}

module _ {X : Type 0} (key : X → Template) where
  -- each element's template is less than those behind it
  abbrev pub RiseBy : List X → Type 0
  RiseBy [] = Unit {0}
  RiseBy (x ∷ xs) = AllByRecursion (λ y. template_cmp (key x) (key y) ≡ Less) xs × RiseBy xs

  -- the element with this template, if there is one
  abbrev pub found_by : Template → List X → Option X
  found_by t [] = None
  found_by t (x ∷ xs) = match_ordering (template_cmp (key x) t) (found_by t xs) (Some x) None

  -- the elements with one more, at its place; of two with one template the newer or the older stays
  abbrev pub placed_by : Bool → X → List X → List X
  placed_by newer new [] = new ∷ []
  placed_by newer new (x ∷ xs) = match_ordering (template_cmp (key x) (key new)) (x ∷ placed_by newer new xs) ((if newer then new else x) ∷ xs) (new ∷ x ∷ xs)

  -- the elements without the one with this template
  abbrev pub without_by : Template → List X → List X
  without_by t [] = []
  without_by t (x ∷ xs) = match_ordering (template_cmp (key x) t) (x ∷ without_by t xs) xs (x ∷ xs)
