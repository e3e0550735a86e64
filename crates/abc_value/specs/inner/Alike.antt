-- Elements that have the same sizes and the same form.
use Rattle.std.specs.Prelude.{◌≡◌, List, [], ◌∷◌}
use Rattle.std.specs.List.{AllByRecursion}
use Rattle.abc_value.specs.Tree.{Tree}
use Rattle.abc_value.specs.Sizes.{height_of, weight_of}
use Rattle.abc_value.specs.Forms.{form_of}

-- u has the sizes and the form of t
pub record IsLike (t u : Tree) : Type 0 where
  pub height : height_of u ≡ height_of t
  pub weight : weight_of u ≡ weight_of t
  pub form : form_of u ≡ form_of t

-- each has the sizes and the form of the first
abbrev pub AreAlike : List Tree → Type 0
AreAlike [] = Unit {0}
AreAlike (t ∷ ts) = AllByRecursion (IsLike t) (t ∷ ts)
