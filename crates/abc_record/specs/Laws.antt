-- What holds of spellings.
use Rattle.std.specs.Prelude.{◌≡◌, ℕ, List, ◌++◌, length}
use Rattle.abc_value.specs.Tree.{Tree}
use Rattle.abc_value.specs.Sizes.{weight_of}
use Rattle.abc_record.specs.declared.change.Change.{Change}
use Rattle.abc_record.specs.Spelling.{spelled_value, spelled_change}
use Rattle.abc_record.specs.Kept.{IsKept, IsSpelling}
use Rattle.abc_record.specs.Place.{IsWrongAt}

-- a spelling tells by itself where it ends and which change it is of
abbrev pub ChangesAreToldApart : Type 0
ChangesAreToldApart = (c d : Change) (r s : List ℕ) → IsKept c → IsKept d → spelled_change c ++ r ≡ spelled_change d ++ s → (c ≡ d) × (r ≡ s)

-- bytes are the spelling of one list of changes
abbrev pub OneListIsSpelled : Type 0
OneListIsSpelled = (cs ds : List Change) (b : List ℕ) → IsSpelling cs b → IsSpelling ds b → cs ≡ ds

-- bytes go wrong at one place
abbrev pub OnePlaceIsWrong : Type 0
OnePlaceIsWrong = (b : List ℕ) (x y : ℕ) → IsWrongAt b x → IsWrongAt b y → x ≡ y

-- the weight of a value is the length of its spelling
abbrev pub WeightIsLength : Type 0
WeightIsLength = (t : Tree) → length (spelled_value t) ≡ weight_of t
