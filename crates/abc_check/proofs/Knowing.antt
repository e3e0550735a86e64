-- From groups to all units of a workspace.
use Rattle.std.proofs.Common.{◌≡◌, ◌∙◌, ◌<◌, ◌+◌, ℕ, suc, List, [], ◌∷◌, length, map, get_or, ap, sym, subst, refl, arith}
use Rattle.std.specs.Prelude.{Some, IsSome}
use Rattle.std.specs.List.{Contains, AllByRecursion}
use Rattle.abc_tree.specs.Ordered.{RiseBy}
use Rattle.abc_tree.specs.Templates.{template_text}
use Rattle.abc_tree.specs.declared.templates.Template.{Template}
use Rattle.std.proofs.lemmas.List.{length-map, get_or-map}
use Rattle.abc_groups.specs.declared.graph.Calls.{Calls}
use Rattle.abc_groups.specs.Groups.{AreGroups, group_at}
use Rattle.abc_groups.specs.Program.{program_of, texts}
use Rattle.abc_groups.proofs.Texts.{contains_map, map_contains}
use Rattle.abc_ground.specs.Fits.{Signature}
use Rattle.abc_ground.specs.Groups.{Cut, cut_of, template_of}
use Rattle.abc_ground.specs.Typable.{Values, May, IsTypable}
use Rattle.abc_principal.specs.declared.principal.Principal.{Principal}
use Rattle.abc_principal.specs.Exact.{Known, known_of, IsPrincipal, KnowsCalls, IsGroup, ArePrincipals, MayNothing}
use Rattle.abc_check.proofs.Somes.{is_there}
use Rattle.abc_check.specs.Cuts.{entries_in, CutsAreSpelled, NodesAreCalled}
use Rattle.abc_check.specs.Standing.{KnowsUnits}
use Rattle.abc_check.specs.inner.Groupwise.{IsKnown, KnowsGroups, AreFound, ArePut}
use Rattle.abc_fewer.proofs.Ways.{cut_same, cut_found}
use Rattle.abc_check.proofs.Finding.{program_there, cut_there}
use Rattle.abc_check.proofs.Grouping.{in_group, from_group, is_group, knows_calls, found_member}
use Rattle.abc_check.proofs.Putting.{knows_next}

pub none_known : (w : List Cut) (groups : List (List (List ℕ))) → KnowsGroups w groups 0 []
none_known w groups = record { missing = λ t e. refl; there = λ c g is low m. absurd (omega (arith, low)) }

module _ (w : List Cut) (rising : RiseBy template_of w) where
  -- the templates of a group have their units
  pub all_there : (groups : List (List (List ℕ))) (k : ℕ) (ts : List Template) → AreGroups (program_of (entries_in w)) groups → k < length groups → group_at groups k ≡ texts ts → AllByRecursion (λ t. IsSome (cut_of t w)) ts
  all_there groups k ts are low at = each ts (λ t m. subst (λ xs. Contains xs (template_text t)) (sym at) (map_contains template_text ts t m))
    where
      one : (t : Template) → Contains (group_at groups k) (template_text t) → IsSome (cut_of t w)
      one t m =
          let c : (c : Cut) × (cut_of t w ≡ Some c) = cut_there w rising t (are.there k (template_text t) low m) in
          is_there (cut_of t w) c.0 c.1

      each : (us : List Template) → ((t : Template) → Contains us t → Contains (group_at groups k) (template_text t)) → AllByRecursion (λ t. IsSome (cut_of t w)) us
      each [] among = tt
      each (u ∷ us) among = (one u (among u (0, omega arith, refl)), each us (λ t m. among t (suc m.0, omega (arith, m.1), m.2)))

  module _ (spelled : CutsAreSpelled w) (nodes : NodesAreCalled) (groups : List (List (List ℕ))) (are : AreGroups (program_of (entries_in w)) groups) where
    module _ (k : ℕ) (low : k < length groups) (ts : List Template) (cs : List Cut) (ordered : RiseBy (λ t. t) ts) (at : group_at groups k ≡ texts ts) (found : AreFound w ts cs) (known : Known) (knows : KnowsGroups w groups k known) where
      pub group_known : (new : Known) (ps : List Principal) → (IsGroup w cs → KnowsCalls w cs known → ArePrincipals w cs ps) → ArePut known new ps → KnowsGroups w groups (k + 1) new
      group_known new ps exact put =
          knows_next w groups k known new cs ps (exact (is_group w rising spelled nodes groups are k low ts cs at found ordered) (knows_calls w rising spelled nodes groups are k low ts cs at found known knows))
          (λ c m. (in_group w rising spelled nodes groups are k low ts cs at found c m).2)
          (λ d m is. from_group w rising spelled nodes groups are k low ts cs at found (template_of d) d m is)
          put knows

      pub group_refused : (IsGroup w cs → KnowsCalls w cs known → MayNothing w cs) → (values : Values) → IsTypable values w → ⊥
      group_refused nothing values (targets, types) =
          let x : (x : List ℕ) × Contains (group_at groups k) x = are.some k low in
          let t : (t : Template) × Contains ts t × (template_text t ≡ x.0) = contains_map template_text ts x.0 (subst (λ xs. Contains xs x.0) at x.1) in
          let c : (c : Cut) × Contains cs c × (cut_of t.0 w ≡ Some c) = found_member w ts cs t.0 found t.1 in
          let is : cut_of (template_of c.0) w ≡ Some c.0 = (in_group w rising spelled nodes groups are k low ts cs at found c.0 c.1).2 in
          let may : (s : Signature) × May w targets (template_of c.0) s = types.units (template_of c.0) (is_there (cut_of (template_of c.0) w) c.0 is) in
          nothing (is_group w rising spelled nodes groups are k low ts cs at found ordered) (knows_calls w rising spelled nodes groups are k low ts cs at found known knows) targets c.0 may.0 types.proper c.1 may.1

    -- with all groups all units are known
    pub all_known : (known : Known) → KnowsGroups w groups (length groups) known → KnowsUnits known w
    all_known known knows = record { missing = knows.missing; there = λ t c is. unit_known t c is }
      where
        unit_known : (t : Template) (c : Cut) → cut_of t w ≡ Some c → (p : Principal) × (known_of known (template_text t) ≡ Some p) × IsPrincipal w (template_of c) p
        unit_known t c is =
            let f : Contains w c × (template_text t ≡ template_text (template_of c)) = cut_found w t c is in
            let own : cut_of (template_of c) w ≡ Some c = sym (cut_same w t (template_of c) f.1) ∙ is in
            let g : (g : ℕ) × (g < length groups) × Contains (group_at groups g) (template_text (template_of c)) = are.found (template_text (template_of c)) (program_there w rising (template_of c) c own) in
            let p : IsKnown known w c = knows.there c g.0 own g.1 g.2 in
            (p.0, ap (known_of known) f.1 ∙ p.1, p.2)

-- ---- the groups that a loop goes over

pub groups_of : (w : List Cut) (graph : List Calls) (items all : List (List Template)) → graph ≡ entries_in w → items ≡ all → AreGroups (program_of graph) (map texts all) → AreGroups (program_of (entries_in w)) (map texts items)
groups_of w graph items all e same are = subst (λ g. AreGroups (program_of g) (map texts items)) e (subst (λ xs. AreGroups (program_of graph) (map texts xs)) (sym same) are)

pub group_low : (items : List (List Template)) (k : ℕ) → k < length items → k < length (map texts items)
group_low items k low = omega (arith, low, length-map items texts)

pub group_is : (items : List (List Template)) (k : ℕ) (item slice : List Template) → k < length items → item ≡ get_or items k item → slice ≡ item → group_at (map texts items) k ≡ texts slice
group_is items k item slice low at same = get_or-map texts items k item [] low ∙ ap texts (sym at ∙ sym same)
