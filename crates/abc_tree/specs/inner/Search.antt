-- Where an element is, or would go.
use Rattle.std.specs.Prelude.{◌≡◌, ◌<◌, ◌≤◌, ℕ, List, length, slice_index_or}
use Rattle.std.specs.List.{AllWithin}
use Rattle.std.specs.declared.cmp.Ordering.TheVariants.{Less, Equal, Greater}
use Rattle.abc_tree.specs.Templates.{template_cmp}
use Rattle.abc_tree.specs.declared.templates.Template.{Template}

-- the element at this place has the template
pub record IsAt {X : Type 0} (key : X → Template) (xs : List X) (t : Template) (i : ℕ) : Type 0 where
  pub inside : i < length xs
  pub same : (d : X) → template_cmp (key (slice_index_or xs i d)) t ≡ Equal

-- the elements before this place have lesser templates, and the others greater ones
pub record IsGap {X : Type 0} (key : X → Template) (xs : List X) (t : Template) (i : ℕ) : Type 0 where
  pub inside : i ≤ length xs
  pub before : AllWithin (λ x. template_cmp (key x) t ≡ Less) xs 0 i
  pub behind : AllWithin (λ x. template_cmp (key x) t ≡ Greater) xs i (length xs)
