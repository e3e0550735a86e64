-- Lists of lists.
use Rattle.std.specs.Prelude.{List, [], ◌∷◌, ◌++◌}

-- one after the other
abbrev pub flat : {X : Type 0} → List (List X) → List X
flat [] = []
flat (xs ∷ xss) = xs ++ flat xss
