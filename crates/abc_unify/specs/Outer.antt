-- Types by their outer forms: number, text, compound, list or table.
use Rattle.std.specs.Prelude.{◌≡◌, ℕ, List, map}
use Rattle.abc_num.specs.declared.types.Ground.{Ground, out-Ground}
use Rattle.abc_num.specs.declared.types.Ground.TheOpen.{Ground-F}
use Rattle.abc_terms.specs.declared.term.VarId.{VarId}

-- the types of some variables
abbrev pub types : (ℕ → Ground) → List VarId → List Ground
types v xs = map (λ x. v x.0) xs

-- a type of this outer form is a train of e
abbrev pub IsTrain : Ground-F Ground → Ground → Type 0
IsTrain Ground-F.Number e = ⊥
IsTrain Ground-F.Text e = out-Ground e ≡ Ground-F.Text
IsTrain (Ground-F.Compound fields) e = ⊥
IsTrain (Ground-F.List element) e = element ≡ e
IsTrain (Ground-F.Table key associate) e = associate ≡ e

-- a type of this outer form is a list of e, or a table with associates e
abbrev pub IsCollection : Ground-F Ground → Ground → Type 0
IsCollection Ground-F.Number e = ⊥
IsCollection Ground-F.Text e = ⊥
IsCollection (Ground-F.Compound fields) e = ⊥
IsCollection (Ground-F.List element) e = element ≡ e
IsCollection (Ground-F.Table key associate) e = associate ≡ e

-- a type of this outer form is number or text
abbrev pub IsPlain : Ground-F Ground → Type 0
IsPlain Ground-F.Number = Unit {0}
IsPlain Ground-F.Text = Unit {0}
IsPlain (Ground-F.Compound fields) = ⊥
IsPlain (Ground-F.List element) = ⊥
IsPlain (Ground-F.Table key associate) = ⊥

-- the type is text
abbrev pub IsText : Ground → Type 0
IsText g = out-Ground g ≡ Ground-F.Text
