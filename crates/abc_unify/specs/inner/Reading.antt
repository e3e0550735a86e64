-- How the slot of a root is read as a form.
use Rattle.std.specs.Prelude.{◌≡◌, ℕ, ◌+◌, ◌<◌, ◌⊎◌, List, length, slice_index}
use Rattle.std.specs.List.{All, Contains, sum_by}
use Rattle.abc_num.specs.declared.types.Ground.{Ground}
use Rattle.abc_terms.specs.declared.term.VarId.{VarId}
use Rattle.abc_unify.specs.declared.kind.Kind.{Kind}
use Rattle.abc_unify.specs.declared.kind.Kind.TheVariants as kind
use Rattle.abc_unify.specs.declared.kind.Slot.{Slot}
use Rattle.abc_unify.specs.declared.forms.Form.{Form}
use Rattle.abc_unify.specs.declared.forms.Form.TheVariants as form
use Rattle.abc_unify.specs.declared.forms.VaryKind.TheVariants as vary
use Rattle.abc_unify.specs.inner.Slots.{Meets, IsRanked}
use Rattle.abc_terms.specs.declared.demand.Demand.{Demand}
use Rattle.abc_unify.specs.declared.forms.Known.{Known}
use Rattle.abc_unify.specs.Outer.{IsText}
use Rattle.abc_unify.specs.inner.Cycles.{mark_weight}
use Rattle.abc_unify.specs.inner.States.{IsSolved}
use Rattle.abc_unify.specs.Forms.{leads_on, IsForm, IsKnown}

-- text is among the types of the variable
abbrev pub TextAt : List Slot → ℕ → Type 0
TextAt slots a = (v : ℕ → Ground) × Meets v slots × IsText (v a)

-- the kind has text among its types; that of a train is settled by its element
abbrev pub IsTextual : Kind → Type 0
IsTextual kind.Free = Unit {0}
IsTextual kind.Number = ⊥
IsTextual kind.Text = Unit {0}
IsTextual kind.NumberOrText = Unit {0}
IsTextual (kind.ListOf c) = ⊥
IsTextual (kind.TableOf k a) = ⊥
IsTextual (kind.TrainOf e) = ⊥
IsTextual (kind.CollectionOf e) = ⊥
IsTextual (kind.Compound fields) = ⊥

-- the kind of a train, or another
abbrev pub IsTrainKind : Kind → Type 0
IsTrainKind kind.Free = ⊥
IsTrainKind kind.Number = ⊥
IsTrainKind kind.Text = ⊥
IsTrainKind kind.NumberOrText = ⊥
IsTrainKind (kind.ListOf c) = ⊥
IsTrainKind (kind.TableOf k a) = ⊥
IsTrainKind (kind.TrainOf e) = Unit {0}
IsTrainKind (kind.CollectionOf e) = ⊥
IsTrainKind (kind.Compound fields) = ⊥

-- the form that the kind of a root is read as
abbrev pub IsRead : List Slot → VarId → Kind → Form → Type 0
IsRead slots root kind.Free f = f ≡ form.Varies root vary.Free
IsRead slots root kind.Number f = f ≡ form.Number
IsRead slots root kind.Text f = f ≡ form.Text
IsRead slots root kind.NumberOrText f = f ≡ form.Varies root vary.NumberOrText
IsRead slots root (kind.ListOf c) f = f ≡ form.List c
IsRead slots root (kind.TableOf k a) f = f ≡ form.Table k a
IsRead slots root (kind.TrainOf e) f = ((f ≡ form.Varies root (vary.Train e)) × TextAt slots e.0) ⊎ ((f ≡ form.Varies root (vary.Collection e)) × (TextAt slots e.0 → ⊥))
IsRead slots root (kind.CollectionOf e) f = f ≡ form.Varies root (vary.Collection e)
IsRead slots root (kind.Compound fields) f = f ≡ form.Compound fields

-- the classes that were seen rank above the one that is looked at
pub record IsSeenAbove (slots : List Slot) (seen : List ℕ) (at : ℕ) : Type 0 where
  pub rank : ℕ → ℕ
  pub ranked : IsRanked slots rank
  pub above : (i : ℕ) → slice_index seen i ≡ 1 → rank at < rank i
  pub small : (i : ℕ) → slice_index seen i < 2

-- the variable is one of those to look at
abbrev pub IsIn : List VarId → ℕ → Type 0
IsIn work i = (x : VarId) × Contains work x × (x.0 ≡ i)

-- the variables were marked and put onto the list, but those that were marked before
pub record IsQueued (marks : List ℕ) (work : List VarId) (marks2 : List ℕ) (work2 xs : List VarId) : Type 0 where
  pub same_length : length marks2 ≡ length marks
  pub small : (i : ℕ) → slice_index marks2 i < 2
  pub marked : All (λ x. slice_index marks2 x.0 ≡ 1) xs
  pub kept : (i : ℕ) → slice_index marks i ≡ 1 → slice_index marks2 i ≡ 1
  pub from : (i : ℕ) → slice_index marks2 i ≡ 1 → (slice_index marks i ≡ 1) ⊎ IsIn work2 i
  pub older : (x : VarId) → Contains work x → Contains work2 x
  pub inside : All (λ x. x.0 < length marks) work → All (λ x. x.0 < length marks) work2
  pub weight : sum_by mark_weight marks2 + length work2 ≡ sum_by mark_weight marks + length work

-- the forms found so far lead to what is marked, and what is marked is found or to be looked at
pub record IsGathering (slots : List Slot) (marks : List ℕ) (work : List VarId) (all : List Known) (wanted : List VarId) : Type 0 where
  pub count : length marks ≡ length slots
  pub small : (i : ℕ) → slice_index marks i < 2
  pub inside : All (λ x. x.0 < length slots) work
  pub each : (demands : List Demand) → IsSolved slots demands → All (λ e. IsForm (length slots) demands e.at.0 e.form) all
  pub led : All (λ e. All (λ x. slice_index marks x.0 ≡ 1) (leads_on e.form)) all
  pub found : (i : ℕ) → slice_index marks i ≡ 1 → IsIn work i ⊎ IsKnown all i
  pub wanted_marked : All (λ a. slice_index marks a.0 ≡ 1) wanted
