-- What terms and demands mean where the variables have types.
use Rattle.std.specs.Prelude.{ℕ, ◌≡◌, ◌⊎◌, List}
use Rattle.std.specs.List.{All}
use Rattle.abc_num.specs.declared.types.Ground.{Ground}
use Rattle.abc_num.specs.declared.types.Ground.TheVariants as type
use Rattle.abc_num.specs.Types.{IsTrainOf}
use Rattle.abc_terms.specs.declared.term.Term.{Term, fold-Term}
use Rattle.abc_terms.specs.declared.term.Term.TheOpen.{Term-F}
use Rattle.abc_terms.specs.declared.demand.Demand.{Demand}
use Rattle.abc_terms.specs.declared.demand.Demand.TheVariants as demand

-- the type of a term whose parts have these types, where the variables have the types `v`
abbrev pub stands_step : (ℕ → Ground) → Term-F Ground → Ground
stands_step v (Term-F.Var a) = v a.0
stands_step v Term-F.Number = type.Number
stands_step v Term-F.Text = type.Text
stands_step v (Term-F.Compound fields) = type.Compound fields
stands_step v (Term-F.List element) = type.List element
stands_step v (Term-F.Table key associate) = type.Table key associate

-- the type that a term stands for, where the variables have the types `v`
abbrev pub stands_for : (ℕ → Ground) → Term → Ground
stands_for v = fold-Term Ground (stands_step v)

-- a list of e, or a table with associates e
abbrev pub IsCollectionOf : Ground → Ground → Type 0
IsCollectionOf t e = (t ≡ type.List e) ⊎ ((k : Ground) × (t ≡ type.Table k e))

-- number or text
abbrev pub IsNumberOrText : Ground → Type 0
IsNumberOrText t = (t ≡ type.Number) ⊎ (t ≡ type.Text)

-- the demand is met where the variables have the types `v`
abbrev pub Holds : (ℕ → Ground) → Demand → Type 0
Holds v (demand.Is a t) = v a.0 ≡ stands_for v t
Holds v (demand.Equal a b) = v a.0 ≡ v b.0
Holds v (demand.Train a e) = IsTrainOf (v a.0) (v e.0)
Holds v (demand.Collection a e) = IsCollectionOf (v a.0) (v e.0)
Holds v (demand.NumberOrText a) = IsNumberOrText (v a.0)

-- the types `v` meet all demands
abbrev pub MeetsAll : (ℕ → Ground) → List Demand → Type 0
MeetsAll v demands = All (Holds v) demands
