-- A scheme stands for exactly the types that the demands leave.
use Rattle.std.proofs.Common.{◌≡◌, ◌∙◌, ℕ, ◌<◌, List, [], ◌∷◌, length, get_or, map, ap, sym, subst, refl, arith}
use Rattle.std.specs.Prelude.{Some, slice_get, ◌↔◌}
use Rattle.std.specs.List.{All, Contains}
use Rattle.std.proofs.lemmas.List.{length-map}
use Rattle.std.proofs.lemmas.List.Elements.{All-nil, All-head, All-tail, All-weaker, All-contains, All-contains_itself}
use Rattle.std.proofs.lemmas.Option.{get_or_from_slice_get, slice_get_within}
use Rattle.abc_num.specs.declared.types.Ground.{Ground}
use Rattle.abc_terms.specs.declared.term.VarId.{VarId}
use Rattle.abc_terms.specs.declared.demand.Demand.{Demand}
use Rattle.abc_terms.specs.Demands.{MeetsAll}
use Rattle.abc_terms.specs.Nodes.{AreIn, DemandIn}
use Rattle.abc_terms.specs.Renamed.{number_in, renamed}
use Rattle.abc_terms.proofs.Renaming.{renamed_met, renamed_meets, all_renamed_in}
use Rattle.abc_unify.specs.declared.forms.Known.{Known}
use Rattle.abc_unify.specs.Graphs.{HasSolution}
use Rattle.abc_unify.specs.Outer.{types}
use Rattle.abc_unify.specs.Forms.{IsForm, IsKnown, AreForms, AllFit, all_said}
use Rattle.abc_unify.proofs.Deciding.{part_fits, decides_any, forms_said, forms_said_in}
use Rattle.abc_scheme.specs.declared.scheme.Scheme.{Scheme}
use Rattle.abc_scheme.specs.Schemes.{MayHave, IsInside}
use Rattle.abc_scheme.specs.inner.Places.{numbers, ArePlaces, placed_vars}
use Rattle.abc_scheme.proofs.Placing.{known_place}

-- the types of renamed variables
pub types_placed : (v : ℕ → Ground) (f : ℕ → ℕ) (vars : List VarId) → types v (placed_vars f vars) ≡ types (λ i. v (f i)) vars
types_placed v f [] = refl
types_placed v f (a ∷ vars) = ap (λ gs. v (f a.0) ∷ gs) (types_placed v f vars)

-- variables of the same types
types_as : (v w : ℕ → Ground) (vars : List VarId) → All (λ a. v a.0 ≡ w a.0) vars → types v vars ≡ types w vars
types_as v w [] same = refl
types_as v w (a ∷ vars) same =
    ap (λ g. g ∷ types v vars) (All-head (λ b. v b.0 ≡ w b.0) a vars same) ∙ ap (λ gs. w a.0 ∷ gs) (types_as v w vars (All-tail (λ b. v b.0 ≡ w b.0) a vars same))

-- types that agree at the known variables agree at one of them
agree_at : (v w : ℕ → Ground) (all : List Known) → All (λ e. v e.at.0 ≡ w e.at.0) all → (x : ℕ) → IsKnown all x → v x ≡ w x
agree_at v w all agree x known = subst (λ n. v n ≡ w n) known.2 (All-contains (λ e. v e.at.0 ≡ w e.at.0) all known.0 agree known.1)

module _ (n : ℕ) (demands : List Demand) (all : List Known) (table wanted : List VarId)
    (forms : AreForms n demands all) (solvable : HasSolution demands) (placed : ArePlaces (numbers all) table) (there : All (λ a. IsKnown all a.0) wanted) where
  placed_at : (x : ℕ) → IsKnown all x → slice_get (numbers all) (number_in table x) ≡ Some x
  placed_at x known =
      let stands : (i : ℕ) × (i < length (numbers all)) × (slice_get (numbers all) i ≡ Some x) = known_place all x known in
      placed.at_place stands.0 x stands.1 stands.2

  -- the types by places
  abbrev by_place : (ℕ → Ground) → ℕ → Ground
  by_place v i = v (get_or (numbers all) i 0)

  place_is : (v : ℕ → Ground) (x : ℕ) → IsKnown all x → v x ≡ by_place v (number_in table x)
  place_is v x known = ap v (sym (get_or_from_slice_get (numbers all) (number_in table x) x 0 (placed_at x known)))

  pub kept_to : (ts : List Ground) → MayHave demands wanted ts → MayHave (map (renamed (number_in table)) (all_said all)) (placed_vars (number_in table) wanted) ts
  kept_to ts h =
      let v : ℕ → Ground = h.0 in
      let u : ℕ → Ground = by_place v in
      let under : ℕ → Ground = λ x. u (number_in table x) in
      let agree : All (λ e. v e.at.0 ≡ under e.at.0) all = All-weaker (λ e. Contains all e) (λ e. v e.at.0 ≡ under e.at.0) (λ e c. place_is v e.at.0 (e, c, refl)) all (All-contains_itself all) in
      let fit : AllFit under all = part_fits n demands all forms under v h.1 agree in
      let met : MeetsAll u (map (renamed (number_in table)) (all_said all)) = renamed_met (number_in table) u (all_said all) ((forms_said under all).0 fit) in
      let same : types v wanted ≡ types under wanted = types_as v under wanted (All-weaker (λ a. IsKnown all a.0) (λ a. v a.0 ≡ under a.0) (λ a k. place_is v a.0 k) wanted there) in
      (u, met, types_placed u (number_in table) wanted ∙ (sym same ∙ h.2))

  pub kept_from : (ts : List Ground) → MayHave (map (renamed (number_in table)) (all_said all)) (placed_vars (number_in table) wanted) ts → MayHave demands wanted ts
  kept_from ts h =
      let under : ℕ → Ground = λ x. h.0 (number_in table x) in
      let met : MeetsAll under (all_said all) = renamed_meets (number_in table) h.0 (all_said all) h.1 in
      let part : (w : ℕ → Ground) × MeetsAll w demands × All (λ e. w e.at.0 ≡ under e.at.0) all = decides_any n demands all under solvable forms ((forms_said under all).1 met) in
      let same : types part.0 wanted ≡ types under wanted = types_as part.0 under wanted (All-weaker (λ a. IsKnown all a.0) (λ a. part.0 a.0 ≡ under a.0) (λ a k. agree_at part.0 under all part.2 a.0 k) wanted there) in
      (part.0, part.1, same ∙ (sym (types_placed h.0 (number_in table) wanted) ∙ h.2))

  pub own_in : AreIn (length all) (placed_vars (number_in table) wanted)
  own_in = each wanted there
    where
      each : (vars : List VarId) → All (λ a. IsKnown all a.0) vars → AreIn (length all) (placed_vars (number_in table) vars)
      each [] h = tt
      each (a ∷ vars) h =
          let lt : number_in table a.0 < length (numbers all) = slice_get_within (numbers all) (number_in table a.0) a.0 (placed_at a.0 (All-head (λ b. IsKnown all b.0) a vars h)) in
          (rw (sym (length-map all (λ (e : Known). e.at.0))) lt, each vars (All-tail (λ b. IsKnown all b.0) a vars h))

-- the demands are on places
pub demands_in : (n : ℕ) (demands : List Demand) (all : List Known) (table : List VarId) → AreForms n demands all → HasSolution demands → ArePlaces (numbers all) table
    → All (DemandIn (length all)) (map (renamed (number_in table)) (all_said all))
demands_in n demands [] table forms solvable placed = All-nil (DemandIn 0)
demands_in n demands (e ∷ all) table forms solvable placed =
    let less : (x : ℕ) → x < n → number_in table x < length (e ∷ all) =
    λ x lt. rw (sym (length-map (e ∷ all) (λ (f : Known). f.at.0))) (placed.within (omega arith) x) in
    all_renamed_in (number_in table) n (length (e ∷ all)) less (all_said (e ∷ all)) (forms_said_in n demands (e ∷ all) solvable forms.each)

-- the same of demands and variables that are equal to these
pub kept_exact : (n : ℕ) (demands : List Demand) (all : List Known) (table wanted : List VarId) → AreForms n demands all → HasSolution demands → ArePlaces (numbers all) table → All (λ a. IsKnown all a.0) wanted
    → (ds : List Demand) (own : List VarId) → ds ≡ map (renamed (number_in table)) (all_said all) → own ≡ placed_vars (number_in table) wanted → (ts : List Ground) → MayHave ds own ts ↔ MayHave demands wanted ts
kept_exact n demands all table wanted forms solvable placed there ds own ds_are own_are ts = (
  λ h. kept_from n demands all table wanted forms solvable placed there ts (subst (λ es. MayHave es (placed_vars (number_in table) wanted) ts) ds_are (subst (λ vars. MayHave ds vars ts) own_are h)),
  λ h. subst (λ vars. MayHave ds vars ts) (sym own_are) (subst (λ es. MayHave es (placed_vars (number_in table) wanted) ts) (sym ds_are) (kept_to n demands all table wanted forms solvable placed there ts h)),
)

pub kept_inside : (n : ℕ) (demands : List Demand) (all : List Known) (table wanted : List VarId) → AreForms n demands all → HasSolution demands → ArePlaces (numbers all) table → All (λ a. IsKnown all a.0) wanted
    → (s : Scheme) → s.count ≡ length all → s.demands ≡ map (renamed (number_in table)) (all_said all) → s.own ≡ placed_vars (number_in table) wanted → IsInside s
kept_inside n demands all table wanted forms solvable placed there s count ds_are own_are = record {
  demands = subst (λ m. All (DemandIn m) s.demands) (sym count) (subst (λ es. All (DemandIn (length all)) es) (sym ds_are) (demands_in n demands all table forms solvable placed));
  own = subst (λ m. AreIn m s.own) (sym count) (subst (λ vars. AreIn (length all) vars) (sym own_are) (own_in n demands all table wanted forms solvable placed there));
}

-- all known variables are among the first n
pub known_made : (n : ℕ) (demands : List Demand) (all : List Known) → AreForms n demands all → All (λ e. e.at.0 < n) all
known_made n demands all forms = All-weaker (λ e. IsForm n demands e.at.0 e.form) (λ e. e.at.0 < n) (λ e f. f.made) all forms.each
