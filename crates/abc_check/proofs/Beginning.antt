-- From what is asked for each unit to what is asked for a workspace without values.
use Rattle.std.proofs.Common.{◌≡◌, ℕ, List, [], sym, subst, refl}
use Rattle.std.specs.Prelude.{Option, None, Some, IsSome}
use Rattle.std.specs.List.{Contains}
use Rattle.std.proofs.lemmas.List.Elements.{All-nil}
use Rattle.abc_num.specs.declared.types.Ground.{Ground}
use Rattle.abc_terms.specs.declared.term.VarId.{VarId}
use Rattle.abc_terms.specs.declared.demand.Demand.{Demand}
use Rattle.abc_tree.specs.Templates.{template_text}
use Rattle.abc_tree.specs.declared.templates.Template.{Template}
use Rattle.abc_ground.specs.Fits.{Signature}
use Rattle.abc_ground.specs.Groups.{Cut, cut_of, template_of}
use Rattle.abc_ground.specs.Typable.{May, AreTypes}
use Rattle.abc_unify.specs.Graphs.{Seen}
use Rattle.abc_principal.specs.Exact.{Known}
use Rattle.abc_check.proofs.Somes.{not_some, is_there}
use Rattle.abc_check.specs.declared.types.UnitTypes.{UnitTypes}
use Rattle.abc_check.specs.Standing.{KnowsUnits, AreAsked, KnowsTypes}
use Rattle.abc_check.specs.inner.Asked.{HaveSome, SomeAsked}
use Rattle.abc_check.proofs.Alike.{may_alike}
use Rattle.abc_fewer.proofs.Ways.{cut_found}

module _ (w : List Cut) where
  -- each unit that is found is among the units
  units_from : (targets : List ℕ → Ground) → HaveSome w targets w → (t : Template) → IsSome (cut_of t w) → (s : Signature) × May w targets t s
  units_from targets some t there = by_cut (cut_of t w) refl there
    where
      by_cut : (o : Option Cut) → cut_of t w ≡ o → IsSome o → (s : Signature) × May w targets t s
      by_cut None is there = absurd (not_some Cut there)
      by_cut (Some c) is there =
          let f : Contains w c × (template_text t ≡ template_text (template_of c)) = cut_found w t c is in
          let m : (s : Signature) × May w targets (template_of c) s = some c f.0 in
          may_alike w targets (template_of c) t (sym f.1) m.0 m.1

  pub asked_whole : (demands : List Demand) (vars : List (List ℕ × VarId)) → ((c : Cut) → Contains w c → cut_of (template_of c) w ≡ Some c) → SomeAsked w w demands vars → AreAsked demands vars [] w
  asked_whole demands vars own asked = record {
    from = λ v targets proper ts agree met. record { proper = ts; held = All-nil _; units = units_from targets (asked.from v targets proper ts agree met) };
    to = λ targets types. asked.to targets types.proper (λ c m. types.units (template_of c) (is_there (cut_of (template_of c) w) c (own c m)));
  }

  -- nothing is typable where no types let each unit have a signature
  pub have_units : ((c : Cut) → Contains w c → cut_of (template_of c) w ≡ Some c) → (targets : List ℕ → Ground) → AreTypes [] w targets → HaveSome w targets w
  have_units own targets types c m = types.units (template_of c) (is_there (cut_of (template_of c) w) c (own c m))

  -- what is known of these
  pub joined : (types : UnitTypes) (graph : Seen) (vars : List (List ℕ × VarId)) (known : Known) → types.graph ≡ graph → types.targets ≡ vars → types.known ≡ known → KnowsUnits known w → AreAsked graph.demands vars [] w → KnowsTypes types [] w
  joined types graph vars known g t k knows asked = record {
    units = subst (λ (x : Known). KnowsUnits x w) (sym k) knows;
    asked = subst (λ (s : Seen). AreAsked s.demands types.targets [] w) (sym g) (subst (λ (vs : List (List ℕ × VarId)). AreAsked graph.demands vs [] w) (sym t) asked);
  }
