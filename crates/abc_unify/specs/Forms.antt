-- What the form of a variable says of the types that meet the demands.
use Rattle.std.specs.Prelude.{◌≡◌, ℕ, ◌+◌, ◌<◌, ◌≤◌, ◌⊎◌, List, [], ◌∷◌, ◌++◌, length, map}
use Rattle.std.specs.List.{All, Contains}
use Rattle.abc_num.specs.declared.types.Ground.{Ground, out-Ground}
use Rattle.abc_num.specs.declared.types.Ground.TheOpen.{Ground-F}
use Rattle.abc_terms.specs.declared.term.VarId.{VarId}
use Rattle.abc_terms.specs.declared.term.Term.TheVariants as term
use Rattle.abc_terms.specs.declared.demand.Demand.{Demand}
use Rattle.abc_terms.specs.declared.demand.Demand.TheVariants as demand
use Rattle.abc_terms.specs.Demands.{MeetsAll}
use Rattle.abc_num.specs.Types.{IsProper}
use Rattle.abc_terms.specs.Sizes.{size}
use Rattle.abc_unify.specs.declared.forms.Form.{Form}
use Rattle.abc_unify.specs.declared.forms.Form.TheVariants as form
use Rattle.abc_unify.specs.declared.forms.Known.{Known}
use Rattle.abc_unify.specs.declared.forms.VaryKind.{VaryKind}
use Rattle.abc_unify.specs.declared.forms.VaryKind.TheVariants as vary
use Rattle.abc_terms.specs.Nodes.{AreIn}
use Rattle.abc_unify.specs.Outer.{types, IsTrain, IsCollection, IsPlain, IsText}

-- types of the variables, in which each compound has two fields or more, that meet the demands
abbrev pub IsSolution : List Demand → (ℕ → Ground) → Type 0
IsSolution demands v = ((a : ℕ) → IsProper (v a)) × MeetsAll v demands

-- a type of this outer form is of the kind, where the variables have the types `v`
abbrev pub VaryFits : (ℕ → Ground) → Ground-F Ground → VaryKind → Type 0
VaryFits v g vary.Free = Unit {0}
VaryFits v g (vary.Train e) = IsTrain g (v e.0)
VaryFits v g (vary.Collection e) = IsCollection g (v e.0)
VaryFits v g vary.NumberOrText = IsPlain g

-- the type meets the form, where the variables have the types `v`
abbrev pub FormFits : (ℕ → Ground) → Ground → Form → Type 0
FormFits v g form.Number = out-Ground g ≡ Ground-F.Number
FormFits v g form.Text = out-Ground g ≡ Ground-F.Text
FormFits v g (form.Compound fields) = out-Ground g ≡ Ground-F.Compound (types v fields)
FormFits v g (form.List c) = out-Ground g ≡ Ground-F.List (v c.0)
FormFits v g (form.Table k e) = out-Ground g ≡ Ground-F.Table (v k.0) (v e.0)
FormFits v g (form.Varies root kind) = (g ≡ v root.0) × VaryFits v (out-Ground g) kind

-- the variable that a kind names
abbrev pub vary_names : VaryKind → List VarId
vary_names vary.Free = []
vary_names (vary.Train e) = e ∷ []
vary_names (vary.Collection e) = e ∷ []
vary_names vary.NumberOrText = []

-- the variables that a form leads to: the parts; the root and that of the kind
abbrev pub leads_on : Form → List VarId
leads_on form.Number = []
leads_on form.Text = []
leads_on (form.Compound fields) = fields
leads_on (form.List c) = c ∷ []
leads_on (form.Table k e) = k ∷ (e ∷ [])
leads_on (form.Varies root kind) = root ∷ vary_names kind

-- an outer form without its parts: number, text, list, table, or compound of so many
abbrev pub outer : Ground-F Ground → ℕ
outer Ground-F.Number = 0
outer Ground-F.Text = 1
outer (Ground-F.List element) = 2
outer (Ground-F.Table key associate) = 3
outer (Ground-F.Compound fields) = 4 + length fields

-- two types of one variable have different outer forms
abbrev pub HasTwoForms : List Demand → ℕ → Type 0
HasTwoForms demands a = (v w : ℕ → Ground) × IsSolution demands v × IsSolution demands w × (outer (out-Ground (v a)) ≡ outer (out-Ground (w a)) → ⊥)

-- some types that meet the demands differ at two variables
abbrev pub MayDiffer : List Demand → ℕ → ℕ → Type 0
MayDiffer demands a b = (v : ℕ → Ground) × IsSolution demands v × (v a ≡ v b → ⊥)

-- all types that meet the demands are the same at two variables
abbrev pub MustAgree : List Demand → ℕ → ℕ → Type 0
MustAgree demands a b = (v : ℕ → Ground) → MeetsAll v demands → v a ≡ v b

-- text is among the types of a train, and not among those of what is no train but a collection
abbrev pub HasText : List Demand → ℕ → VaryKind → Type 0
HasText demands a vary.Free = Unit {0}
HasText demands a (vary.Train e) = (v : ℕ → Ground) × IsSolution demands v × IsText (v a)
HasText demands a (vary.Collection e) = (v : ℕ → Ground) → MeetsAll v demands → IsText (v a) → ⊥
HasText demands a vary.NumberOrText = Unit {0}

-- types that meet the demands, of which only those are text that must be
abbrev pub IsLong : List Demand → (ℕ → Ground) → Type 0
IsLong demands m = MeetsAll m demands × ((x : ℕ) → IsText (m x) → (v : ℕ → Ground) → MeetsAll v demands → IsText (v x))

-- any type of the kind can be chosen for the variable, while all others keep theirs that may differ from it and are in
-- some measure not larger
abbrev pub IsOpen : List Demand → ℕ → VaryKind → Type 0
IsOpen demands a kind =
    (v m : ℕ → Ground) → MeetsAll v demands → IsLong demands m → (g : Ground) → VaryFits v (out-Ground g) kind
    → (w : ℕ → Ground) × MeetsAll w demands × (w a ≡ g) × ((x : ℕ) → MayDiffer demands x a → size (m x) ≤ size (m a) → w x ≡ v x)

-- the variable has types of different outer forms; its root is the first variable that always agrees with it
pub record IsVarying (n : ℕ) (demands : List Demand) (a : ℕ) (root : VarId) (kind : VaryKind) : Type 0 where
  pub two_forms : HasTwoForms demands a
  pub one_root : (x : ℕ) → x < n → MayDiffer demands x a ⊎ ((root.0 ≤ x) × MustAgree demands x a)
  pub text : HasText demands a kind
  pub is_open : IsOpen demands a kind

-- the same of a form that varies; of others nothing
abbrev pub VariesSo : ℕ → List Demand → ℕ → Form → Type 0
VariesSo n demands a form.Number = Unit {0}
VariesSo n demands a form.Text = Unit {0}
VariesSo n demands a (form.Compound fields) = Unit {0}
VariesSo n demands a (form.List c) = Unit {0}
VariesSo n demands a (form.Table k e) = Unit {0}
VariesSo n demands a (form.Varies root kind) = IsVarying n demands a root kind

-- the form of a variable among the first n, by the demands
pub record IsForm (n : ℕ) (demands : List Demand) (a : ℕ) (f : Form) : Type 0 where
  pub made : a < n
  pub inside : AreIn n (leads_on f)
  pub fits : (v : ℕ → Ground) → MeetsAll v demands → FormFits v (v a) f
  pub varies : VariesSo n demands a f
  pub long : (m : ℕ → Ground) × IsLong demands m

-- the variable is one of those whose form is known
abbrev pub IsKnown : List Known → ℕ → Type 0
IsKnown all x = (e : Known) × Contains all e × (e.at.0 ≡ x)

-- forms of some variables, and of all that these lead to
pub record AreForms (n : ℕ) (demands : List Demand) (all : List Known) : Type 0 where
  pub each : All (λ e. IsForm n demands e.at.0 e.form) all
  pub closed : All (λ e. All (λ x. IsKnown all x.0) (leads_on e.form)) all

-- the types meet all forms
abbrev pub AllFit : (ℕ → Ground) → List Known → Type 0
AllFit u all = All (λ e. FormFits u (u e.at.0) e.form) all

-- types of the known variables are part of some that meet the demands
abbrev pub IsPart : List Demand → (ℕ → Ground) → List Known → Type 0
IsPart demands u all = (w : ℕ → Ground) × IsSolution demands w × All (λ e. w e.at.0 ≡ u e.at.0) all

-- the form of a variable, as demands
abbrev pub said_kind : VarId → VaryKind → List Demand
said_kind a vary.Free = []
said_kind a (vary.Train e) = demand.Train a e ∷ []
said_kind a (vary.Collection e) = demand.Collection a e ∷ []
said_kind a vary.NumberOrText = demand.NumberOrText a ∷ []

abbrev pub said : VarId → Form → List Demand
said a form.Number = demand.Is a term.Number ∷ []
said a form.Text = demand.Is a term.Text ∷ []
said a (form.Compound fields) = demand.Is a (term.Compound (map term.Var fields)) ∷ []
said a (form.List c) = demand.Is a (term.List (term.Var c)) ∷ []
said a (form.Table k e) = demand.Is a (term.Table (term.Var k) (term.Var e)) ∷ []
said a (form.Varies root kind) = demand.Equal a root ∷ said_kind a kind

-- all forms, as demands
abbrev pub all_said : List Known → List Demand
all_said [] = []
all_said (e ∷ es) = said e.at e.form ++ all_said es
