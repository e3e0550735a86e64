-- A value asks that the type of its target is of its form.
use Rattle.std.proofs.Common.{◌≡◌, ◌∙◌, ℕ, ◌<◌, List, [], ◌∷◌, ◌++◌, get_or, ap, sym, subst, arith}
use Rattle.std.specs.Prelude.{None, Some, Ok, Err, OnOk, OnErr}
use Rattle.std.specs.List.{All}
use Rattle.std.specs.declared.result.Result.{Result}
use Rattle.std.proofs.lemmas.List.Elements.{All-append, All-cons, All-nil, All-push, All-weaker}
use Rattle.abc_num.proofs.Parts.{All-front, All-behind}
use Rattle.abc_num.specs.Types.{IsProper}
use Rattle.abc_num.specs.declared.types.Ground.{Ground}
use Rattle.abc_terms.specs.declared.term.VarId.{VarId}
use Rattle.abc_terms.specs.declared.demand.Demand.{Demand}
use Rattle.abc_terms.specs.declared.demand.Demand.TheVariants as demand
use Rattle.abc_terms.specs.Demands.{Holds, MeetsAll}
use Rattle.abc_terms.specs.Nodes.{DemandIn}
use Rattle.abc_unify.specs.Graphs.{Seen, with_demand, IsUnsolvable}
use Rattle.abc_value.specs.Tree.{Tree}
use Rattle.abc_value.specs.Types.{has}
use Rattle.abc_value.specs.Forms.{Form, fits, Fits, form_of}
use Rattle.abc_value.proofs.forms.Shaping.{has_form, form_has}
use Rattle.abc_ground.specs.Groups.{Cut}
use Rattle.abc_ground.specs.Typable.{Values, AreTypes}
use Rattle.abc_demand.specs.Typings.{Agree}
use Rattle.abc_scheme.specs.Later.{IsLater}
use Rattle.abc_scheme.proofs.Later.{later_demands}
use Rattle.abc_principal.specs.TargetVars.{AreNamed}
use Rattle.abc_principal.proofs.Finding.{agree_kept, agree_fewer}
use Rattle.abc_check.specs.Standing.{AreAsked}
use Rattle.abc_check.specs.inner.Shaped.{IsShapeVar, NoShapeVar, IsHeld, NotHeld}
use Rattle.abc_check.proofs.KindVars.{met_low}

-- one demand more is a way on, whether it was taken or refused
pub later_demand : {X E : Type 0} (r : Result X E) (s t u : Seen) (d : Demand) → IsLater s t → OnOk r (u ≡ with_demand t d) → OnErr r (u ≡ t) → IsLater s u
later_demand (Ok x) s t u d one is same = later_demands s t u (d ∷ []) one is
later_demand (Err e) s t u d one is same = subst (λ (y : Seen). IsLater s y) (sym same) one

abbrev Vars : Type 0
Vars = List (List ℕ × VarId)

module _ (name : List ℕ) (form : Form) (old mid last : Seen) (before after : Vars) (x a : VarId) (inside : All (DemandIn old.count) old.demands) (named : AreNamed old mid before after (name ∷ []) (x ∷ [])) where
  -- the target has the type of its variable
  target_type : (v : ℕ → Ground) (targets : List ℕ → Ground) → Agree after v targets → v x.0 ≡ targets name
  target_type v targets agree = ap (λ (gs : List Ground). get_or gs 0 (v x.0)) (named.from v targets agree)

  met_named : (v w : ℕ → Ground) → ((i : ℕ) → i < old.count → w i ≡ v i) → MeetsAll v old.demands → MeetsAll w mid.demands
  met_named v w low m = subst (λ ds. MeetsAll w ds) (sym named.asked) (met_low old.count old.demands v w inside low m)

  -- types that meet the demands, the target's and that of the form as one
  both_met : IsShapeVar form mid last a → (v : ℕ → Ground) (targets : List ℕ → Ground) → IsProper (targets name) → Agree before v targets → MeetsAll v old.demands → fits form (targets name)
      → (u : ℕ → Ground) × Agree after u targets × MeetsAll u (last.demands ++ demand.Equal x a ∷ [])
  both_met shaped v targets proper agree m f =
      let r : (w : ℕ → Ground) × ((i : ℕ) → i < old.count → w i ≡ v i) × Agree after w targets = named.to v targets agree in
      let q : (u : ℕ → Ground) × ((i : ℕ) → i < mid.count → u i ≡ r.0 i) × (u a.0 ≡ targets name) × MeetsAll u last.demands = shaped.to r.0 (targets name) proper (met_named v r.0 r.1 m) f in
      let agrees : Agree after q.0 targets = agree_kept mid.count after r.0 q.0 targets named.made q.1 r.2 in
      let here : Holds q.0 (demand.Equal x a) = target_type q.0 targets agrees ∙ sym q.2 in
      (q.0, agrees, All-append (Holds q.0) last.demands (demand.Equal x a ∷ []) q.3 (All-cons (Holds q.0) (demand.Equal x a) [] here (All-nil (Holds q.0))))

  pub held : (new : Seen) → IsShapeVar form mid last a → new ≡ with_demand last (demand.Equal x a) → IsHeld name form old new before after
  held new shaped is =
      let count : new.count ≡ last.count = ap (λ s. s.count) is in
      let asked : new.demands ≡ last.demands ++ demand.Equal x a ∷ [] = ap (λ s. s.demands) is in
      record {
        made = All-weaker (λ p. p.1.0 < mid.count) (λ p. p.1.0 < new.count) (λ p h. omega (arith, h, count, shaped.grows)) after named.made;
        fewer = λ v targets agree. agree_fewer before named.given.added v targets (subst (λ (vs : Vars). Agree vs v targets) named.given.behind agree);
        older = λ v m. subst (λ ds. MeetsAll v ds) named.asked (shaped.older v (All-front (Holds v) last.demands (demand.Equal x a ∷ []) (subst (λ ds. MeetsAll v ds) asked m)));
        from = λ v targets agree m.
            let all : MeetsAll v (last.demands ++ demand.Equal x a ∷ []) = subst (λ ds. MeetsAll v ds) asked m in
            let same : v x.0 ≡ v a.0 = All-behind (Holds v) last.demands (demand.Equal x a ∷ []) all 0 (demand.Equal x a) (omega arith) in
            subst (λ g. fits form g) (sym same ∙ target_type v targets agree) (shaped.from v (All-front (Holds v) last.demands (demand.Equal x a ∷ []) all));
        to = λ v targets proper agree m f.
            let r : (u : ℕ → Ground) × Agree after u targets × MeetsAll u (last.demands ++ demand.Equal x a ∷ []) = both_met shaped v targets proper agree m f in
            (r.0, r.1, subst (λ ds. MeetsAll r.0 ds) (sym asked) r.2);
      }

  pub never_equal : IsShapeVar form mid last a → IsUnsolvable (last.demands ++ demand.Equal x a ∷ []) → NotHeld name form old before
  never_equal shaped never v targets proper agree m f =
      let r : (u : ℕ → Ground) × Agree after u targets × MeetsAll u (last.demands ++ demand.Equal x a ∷ []) = both_met shaped v targets proper agree m f in
      never r.0 r.2

  pub never_shaped : NoShapeVar form mid → NotHeld name form old before
  never_shaped never v targets proper agree m f =
      let r : (w : ℕ → Ground) × ((i : ℕ) → i < old.count → w i ≡ v i) × Agree after w targets = named.to v targets agree in
      never r.0 (targets name) proper (met_named v r.0 r.1 m) f

-- ---- a value more

module _ (name : List ℕ) (value : Tree) (values : Values) (w : List Cut) where
  abbrev more_values : Values
  more_values = values ++ (name, value) ∷ []

  fewer_types : (targets : List ℕ → Ground) → AreTypes more_values w targets → AreTypes values w targets
  fewer_types targets types = record { proper = types.proper; held = All-front (λ (p : List ℕ × Tree). has p.1 (targets p.0)) values ((name, value) ∷ []) types.held; units = types.units }

  last_has : (targets : List ℕ → Ground) → AreTypes more_values w targets → has value (targets name)
  last_has targets types = All-behind (λ (p : List ℕ × Tree). has p.1 (targets p.0)) values ((name, value) ∷ []) types.held 0 (name, value) (omega arith)

  last_fits : (form : Form) (targets : List ℕ → Ground) → Some form ≡ form_of value → AreTypes more_values w targets → fits form (targets name)
  last_fits form targets is types = subst (λ o. Fits o (targets name)) (sym is) (has_form value (targets name) (last_has targets types))

  pub asked_more : (form : Form) (old new : Seen) (before after : Vars) → Some form ≡ form_of value → IsHeld name form old new before after → AreAsked old.demands before values w → AreAsked new.demands after more_values w
  asked_more form old new before after is held asked = record {
    from = λ v targets proper ts agree m.
        let types : AreTypes values w targets = asked.from v targets proper ts (held.fewer v targets agree) (held.older v m) in
        let here : has value (targets name) = form_has value (targets name) (subst (λ o. Fits o (targets name)) is (held.from v targets agree m)) in
        record { proper = types.proper; held = All-push (λ (p : List ℕ × Tree). has p.1 (targets p.0)) values (name, value) types.held here; units = types.units };
    to = λ targets types.
        let start : (v : ℕ → Ground) × Agree before v targets × MeetsAll v old.demands = asked.to targets (fewer_types targets types) in
        let r : (u : ℕ → Ground) × Agree after u targets × MeetsAll u new.demands = held.to start.0 targets (types.proper name) start.1 start.2 (last_fits form targets is types) in
        r;
  }

  pub never_more : (form : Form) (old : Seen) (before : Vars) → Some form ≡ form_of value → NotHeld name form old before → AreAsked old.demands before values w → (targets : List ℕ → Ground) → AreTypes more_values w targets → ⊥
  never_more form old before is never asked targets types =
      let start : (v : ℕ → Ground) × Agree before v targets × MeetsAll v old.demands = asked.to targets (fewer_types targets types) in
      never start.0 targets (types.proper name) start.1 start.2 (last_fits form targets is types)

  -- a value that no type has
  pub never_has : None ≡ form_of value → (targets : List ℕ → Ground) → AreTypes more_values w targets → ⊥
  never_has is targets types = subst (λ o. Fits o (targets name)) (sym is) (has_form value (targets name) (last_has targets types))
