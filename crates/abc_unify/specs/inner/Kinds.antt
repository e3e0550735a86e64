-- What a kind says of a type, and what the merge of two kinds comes to.
use Rattle.std.specs.Prelude.{◌≡◌, ℕ, ◌+◌, ◌*◌, ◌<◌, ◌↔◌, List, [], ◌∷◌, length}
use Rattle.std.specs.List.{All}
use Rattle.abc_num.specs.declared.types.Ground.{Ground, out-Ground}
use Rattle.abc_num.specs.declared.types.Ground.TheOpen.{Ground-F}
use Rattle.abc_terms.specs.declared.term.VarId.{VarId}
use Rattle.abc_terms.specs.Nodes.{AreIn}
use Rattle.abc_unify.specs.Outer.{types, IsTrain, IsCollection, IsPlain}
use Rattle.abc_unify.specs.declared.kind.Kind.{Kind}
use Rattle.abc_unify.specs.declared.kind.Kind.TheVariants.{Free, Number, Text, NumberOrText, ListOf, TableOf, TrainOf, CollectionOf, Compound}
use Rattle.abc_unify.specs.declared.kind.Constraint.{Constraint}
use Rattle.abc_unify.specs.declared.kind.Constraint.TheVariants.{Equal, Is}
use Rattle.abc_unify.specs.declared.kind.Merge.{Merge}
use Rattle.abc_unify.specs.declared.kind.Merge.TheVariants.{Clash, Keep, Put}
use Rattle.abc_unify.specs.declared.kind.Residue.{Residue}
use Rattle.abc_unify.specs.declared.kind.Residue.TheVariants.{Nothing, One, Two, Parts}

-- a type of this outer form is of the kind, where the variables have the types `v`
abbrev pub Fits : (ℕ → Ground) → Ground-F Ground → Kind → Type 0
Fits v g Free = Unit {0}
Fits v g Number = g ≡ Ground-F.Number
Fits v g Text = g ≡ Ground-F.Text
Fits v g NumberOrText = IsPlain g
Fits v g (ListOf c) = g ≡ Ground-F.List (v c.0)
Fits v g (TableOf k a) = g ≡ Ground-F.Table (v k.0) (v a.0)
Fits v g (TrainOf e) = IsTrain g (v e.0)
Fits v g (CollectionOf e) = IsCollection g (v e.0)
Fits v g (Compound fields) = g ≡ Ground-F.Compound (types v fields)

-- the constraint holds
abbrev pub ConstraintHolds : (ℕ → Ground) → Constraint → Type 0
ConstraintHolds v (Equal a b) = v a.0 ≡ v b.0
ConstraintHolds v (Is a k) = Fits v (out-Ground (v a.0)) k

-- all constraints hold
abbrev pub ConstraintsHold : (ℕ → Ground) → List Constraint → Type 0
ConstraintsHold v constraints = All (ConstraintHolds v) constraints

-- the variables that a kind names
abbrev pub children : Kind → List VarId
children Free = []
children Number = []
children Text = []
children NumberOrText = []
children (ListOf c) = c ∷ []
children (TableOf k a) = k ∷ (a ∷ [])
children (TrainOf e) = e ∷ []
children (CollectionOf e) = e ∷ []
children (Compound fields) = fields

-- the kind names only some of the first n variables
abbrev pub KindIn : ℕ → Kind → Type 0
KindIn n k = AreIn n (children k)

-- the constraint names only some of the first n variables
abbrev pub ConstraintIn : ℕ → Constraint → Type 0
ConstraintIn n (Equal a b) = (a.0 < n) × (b.0 < n)
ConstraintIn n (Is a k) = (a.0 < n) × KindIn n k

-- all constraints name only some of the first n variables
abbrev pub ConstraintsIn : ℕ → List Constraint → Type 0
ConstraintsIn n constraints = All (ConstraintIn n) constraints

-- each of the one list is equal to its fellow of the other
abbrev pub pairs : List VarId → List VarId → List Constraint
pairs [] ys = []
pairs (x ∷ xs) [] = []
pairs (x ∷ xs) (y ∷ ys) = Equal x y ∷ pairs xs ys

-- the constraints of a residue, where a kind was held
abbrev pub constraints_of : Kind → Residue → List Constraint
constraints_of held Nothing = []
constraints_of held (One d) = d ∷ []
constraints_of held (Two d e) = d ∷ (e ∷ [])
constraints_of held (Parts fields) = pairs (children held) fields

-- the residue holds, as a fact and not yet as a list
abbrev pub ResidueHolds : (ℕ → Ground) → Kind → Residue → Type 0
ResidueHolds v held Nothing = Unit {0}
ResidueHolds v held (One d) = ConstraintHolds v d
ResidueHolds v held (Two d e) = ConstraintHolds v d × ConstraintHolds v e
ResidueHolds v held (Parts fields) = types v (children held) ≡ types v fields

-- parts are of a compound with as many fields
abbrev pub HasParts : ℕ → Kind → Type 0
HasParts n Free = ⊥
HasParts n Number = ⊥
HasParts n Text = ⊥
HasParts n NumberOrText = ⊥
HasParts n (ListOf c) = ⊥
HasParts n (TableOf k a) = ⊥
HasParts n (TrainOf e) = ⊥
HasParts n (CollectionOf e) = ⊥
HasParts n (Compound fields) = length fields ≡ n

-- the residue suits the kind that was held
abbrev pub ResidueFits : Kind → Residue → Type 0
ResidueFits held Nothing = Unit {0}
ResidueFits held (One d) = Unit {0}
ResidueFits held (Two d e) = Unit {0}
ResidueFits held (Parts fields) = HasParts (length fields) held

-- the same of the residue of a merge
abbrev pub MergeFits : Kind → Merge → Type 0
MergeFits held Clash = Unit {0}
MergeFits held (Keep residue) = ResidueFits held residue
MergeFits held (Put k residue) = ResidueFits held residue

-- the merge says the same as the two kinds of one variable
abbrev pub MergesTo : (ℕ → Ground) → Ground-F Ground → Kind → Kind → Merge → Type 0
MergesTo v g held added Clash = Fits v g held → Fits v g added → ⊥
MergesTo v g held added (Keep residue) = (Fits v g held × Fits v g added) ↔ (Fits v g held × ResidueHolds v held residue)
MergesTo v g held added (Put k residue) = (Fits v g held × Fits v g added) ↔ (Fits v g k × ResidueHolds v held residue)

-- the two kinds of one variable merge to this, whatever types there are
abbrev pub IsMerge : Kind → Kind → Merge → Type 0
IsMerge held added merge = (v : ℕ → Ground) (g : Ground-F Ground) → MergesTo v g held added merge

-- the residue names only some of the first n variables
abbrev pub ResidueIn : ℕ → Residue → Type 0
ResidueIn n Nothing = Unit {0}
ResidueIn n (One d) = ConstraintIn n d
ResidueIn n (Two d e) = ConstraintIn n d × ConstraintIn n e
ResidueIn n (Parts fields) = AreIn n fields

-- the merge names only some of the first n variables
abbrev pub MergeIn : ℕ → Merge → Type 0
MergeIn n Clash = Unit {0}
MergeIn n (Keep residue) = ResidueIn n residue
MergeIn n (Put k residue) = KindIn n k × ResidueIn n residue

-- what is still to do, as a number that falls
abbrev pub kind_weight : Kind → ℕ
kind_weight Free = 0
kind_weight Number = 1
kind_weight Text = 1
kind_weight NumberOrText = 1
kind_weight (ListOf c) = 4
kind_weight (TableOf k a) = 7
kind_weight (TrainOf e) = 4
kind_weight (CollectionOf e) = 4
kind_weight (Compound fields) = 3 * length fields + 1

-- the same of a constraint
abbrev pub constraint_weight : Constraint → ℕ
constraint_weight (Equal a b) = 3
constraint_weight (Is a k) = kind_weight k + 1

-- the same of a residue
abbrev pub residue_weight : Residue → ℕ
residue_weight Nothing = 0
residue_weight (One d) = constraint_weight d
residue_weight (Two d e) = constraint_weight d + constraint_weight e
residue_weight (Parts fields) = 3 * length fields

-- the same of a merge
abbrev pub merge_weight : Kind → Merge → ℕ
merge_weight held Clash = 0
merge_weight held (Keep residue) = kind_weight held + residue_weight residue
merge_weight held (Put k residue) = kind_weight k + residue_weight residue
