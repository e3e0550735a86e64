-- Types without variables.
use Rattle.std.specs.Prelude.{◌≡◌, ◌⊎◌, List, [], ◌∷◌, Bool, true, false, cond, IsTrue}
use Rattle.abc_num.specs.declared.types.Ground.{Ground, fold-Ground}
use Rattle.abc_num.specs.declared.types.Ground.TheOpen.{Ground-F}
use Rattle.abc_num.specs.declared.types.Ground.TheVariants as type

-- text is a train of text, a list of e and a table with associates e are trains of e
abbrev pub IsTrainOf : Ground → Ground → Type 0
IsTrainOf t e = ((t ≡ type.Text) × (e ≡ type.Text)) ⊎ ((t ≡ type.List e) ⊎ ((k : Ground) × (t ≡ type.Table k e)))

-- two or more
abbrev pub are_several : {A : Type 0} → List A → Bool
are_several [] = false
are_several (x ∷ []) = false
are_several (x ∷ (y ∷ rest)) = true

-- each of them is true
abbrev pub all_true : List Bool → Bool
all_true [] = true
all_true (b ∷ bs) = cond b (all_true bs) false

-- a type is proper where its parts are and it is no compound of fewer than two
abbrev pub proper_step : Ground-F Bool → Bool
proper_step Ground-F.Number = true
proper_step Ground-F.Text = true
proper_step (Ground-F.Compound fields) = cond (are_several fields) (all_true fields) false
proper_step (Ground-F.List element) = element
proper_step (Ground-F.Table key associate) = cond key associate false

abbrev pub is_proper : Ground → Bool
is_proper = fold-Ground Bool proper_step

-- each compound in the type has two parts or more
abbrev pub IsProper : Ground → Type 0
IsProper g = IsTrue (is_proper g)
