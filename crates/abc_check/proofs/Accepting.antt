-- A command is accepted exactly where the workspace is typable with it.
use Rattle.std.proofs.Common.{◌≡◌, ℕ, ◌<◌, List, [], ap, sym, subst}
use Rattle.std.specs.Prelude.{Option, None, Some}
use Rattle.abc_num.specs.declared.types.Ground.{Ground}
use Rattle.abc_num.specs.declared.types.Ground.TheVariants as type
use Rattle.abc_num.specs.Types.{IsProper}
use Rattle.abc_num.proofs.Proper.{proper_number}
use Rattle.abc_terms.specs.declared.term.VarId.{VarId}
use Rattle.abc_terms.specs.declared.demand.Demand.{Demand}
use Rattle.abc_terms.specs.Demands.{MeetsAll}
use Rattle.abc_tree.specs.Calls.{command_nodes}
use Rattle.abc_tree.specs.declared.templates.Template.{Template}
use Rattle.abc_tree.specs.declared.commands.Command.{Command}
use Rattle.abc_unify.specs.Graphs.{Seen, HasSolution}
use Rattle.abc_ground.specs.Calls.{next_of, AreAllowed}
use Rattle.abc_ground.specs.Fits.{Signature, Typing}
use Rattle.abc_ground.specs.Groups.{Cut}
use Rattle.abc_ground.specs.Items.{CommandFits}
use Rattle.abc_ground.specs.Typable.{Values, AreTypes, IsOffered, IsTypable, IsTypableWith}
use Rattle.abc_ground.proofs.CallsSeen.{command_is_seen}
use Rattle.abc_ground.proofs.Listing.{CommandListed, commands_listed}
use Rattle.abc_demand.specs.declared.env.Signature.{Signature as SignatureVars}
use Rattle.abc_demand.specs.Typings.{signatures_of, var_of, Agree}
use Rattle.abc_demand.specs.Demanded.{IsDemanded, IsRefused, AreGiven}
use Rattle.abc_principal.specs.Exact.{Known, AreProper, AllProper}
use Rattle.abc_principal.specs.Calls.{MayCall, AreCalls, NoCalls}
use Rattle.abc_check.specs.Standing.{AreSpelled, KnowsUnits, AreAsked}
use Rattle.abc_principal.proofs.Finding.{agree_fewer}
use Rattle.abc_check.specs.inner.Asked.{CommandAt}
use Rattle.abc_check.proofs.Offering.{all_offered, all_called}

abbrev Vars : Type 0
Vars = List (List ℕ × VarId)

-- types of all targets from those of variables: a target without a variable is a number
abbrev found_type : (ℕ → Ground) → Option VarId → Ground
found_type v None = type.Number
found_type v (Some a) = v a.0

abbrev targets_of : Vars → (ℕ → Ground) → List ℕ → Ground
targets_of vars v name = found_type v (var_of vars name)

targets_agree : (vars : Vars) (v : ℕ → Ground) → Agree vars v (targets_of vars v)
targets_agree vars v name a e = ap (found_type v) e

found_proper : (v : ℕ → Ground) → AllProper v → (o : Option VarId) → IsProper (found_type v o)
found_proper v proper None = proper_number
found_proper v proper (Some a) = proper a.0

targets_proper : (vars : Vars) (v : ℕ → Ground) → AllProper v → AreProper (targets_of vars v)
targets_proper vars v proper name = found_proper v proper (var_of vars name)

-- where types meet all that is asked the workspace is typable
pub typable_of : (demands : List Demand) (vars : Vars) (values : Values) (w : List Cut) → AreAsked demands vars values w → HasSolution demands → IsTypable values w
typable_of demands vars values w asked has = (targets_of vars has.0, asked.from has.0 (targets_of vars has.0) has.1 (targets_proper vars has.0 has.1) (targets_agree vars has.0) has.2)

agree_before : (n m : ℕ) (before after : Vars) (v : ℕ → Ground) (targets : List ℕ → Ground) → AreGiven n m before after → Agree after v targets → Agree before v targets
agree_before n m before after v targets given agree = agree_fewer before given.added v targets (subst (λ (vs : Vars). Agree vs v targets) given.behind agree)

-- a command fits at offered signatures exactly where it fits at a list of them
listed : (w : List Cut) (targets : List ℕ → Ground) (n : ℕ) (c : Command) (g : Typing) → CommandListed (λ t o. IsOffered w targets t o) targets n c g (command_nodes n c)
listed w targets n c g = subst (λ ts. CommandListed (λ t o. IsOffered w targets t o) targets n c g ts) (command_is_seen n c) (commands_listed (λ t o. IsOffered w targets t o) targets n c g)

module _ (known : Known) (values : Values) (w : List Cut) (c : Command) (n : ℕ) (knows : KnowsUnits known w) (spelled : AreSpelled w (command_nodes n c)) where
  module _ (s0 s1 : Seen) (vars0 vars1 : Vars) (templates : List Template) (calls : List (Option SignatureVars)) (asked : AreAsked s0.demands vars0 values w) (are : AreCalls [] known [] s0 s1 vars0 vars1 templates calls) (nodes : templates ≡ command_nodes n c) where
    -- what meets all demands is a typing of all
    pub accepted : (s2 : Seen) (vars2 : Vars) → IsDemanded s1 s2 vars1 vars2 (CommandAt calls c n) → AreGiven s1.count s2.count vars1 vars2 → HasSolution s2.demands → IsTypableWith values w c n
    accepted s2 vars2 demanded given has =
        let targets : List ℕ → Ground = targets_of vars2 has.0 in
        let proper : AreProper targets = targets_proper vars2 has.0 has.1 in
        let agree2 : Agree vars2 has.0 targets = targets_agree vars2 has.0 in
        let agree1 : Agree vars1 has.0 targets = agree_before s1.count s2.count vars1 vars2 has.0 targets given agree2 in
        let agree0 : Agree vars0 has.0 targets = agree_before s0.count s1.count vars0 vars1 has.0 targets are.given agree1 in
        let met1 : MeetsAll has.0 s1.demands = demanded.older has.0 has.2 in
        let types : AreTypes values w targets = asked.from has.0 targets has.1 proper agree0 (are.older has.0 met1) in
        let called : AreAllowed (MayCall [] known [] targets) templates (signatures_of has.0 calls) = are.from has.0 targets has.1 agree1 met1 in
        let offered : AreAllowed (λ t o. IsOffered w targets t o) (command_nodes n c) (signatures_of has.0 calls) = all_offered known w targets knows proper (command_nodes n c) (signatures_of has.0 calls) spelled (subst (λ ts. AreAllowed (MayCall [] known [] targets) ts (signatures_of has.0 calls)) nodes called) in
        let typed : CommandAt calls c n has.0 targets = demanded.from has.0 targets agree2 has.2 in
        (targets, types, (typed.0, (listed w targets n c typed.0).1 (signatures_of has.0 calls, offered, typed.1)))

    -- a typing of all would meet the demands
    pub refuted : IsRefused s1 vars1 (CommandAt calls c n) → IsTypableWith values w c n → ⊥
    refuted refused (targets, types, (g, fits)) =
        let start : (v : ℕ → Ground) × Agree vars0 v targets × MeetsAll v s0.demands = asked.to targets types in
        let l : (ss : List (Option Signature)) × AreAllowed (λ t o. IsOffered w targets t o) (command_nodes n c) ss × CommandFits next_of targets n c g ss [] = (listed w targets n c g).0 fits in
        let called : AreAllowed (MayCall [] known [] targets) templates l.0 = subst (λ ts. AreAllowed (MayCall [] known [] targets) ts l.0) (sym nodes) (all_called known w targets knows types.proper (command_nodes n c) l.0 spelled l.1) in
        let r : (v : ℕ → Ground) × ((i : ℕ) → i < s0.count → v i ≡ start.0 i) × Agree vars1 v targets × (signatures_of v calls ≡ l.0) × MeetsAll v s1.demands = are.to start.0 targets l.0 start.1 start.2 called in
        refused r.0 targets r.2 r.4 (g, subst (λ ss. CommandFits next_of targets n c g ss []) (sym r.3) l.2)

  -- nor can calls be without signatures then
  pub uncalled : (s0 : Seen) (vars0 : Vars) (templates : List Template) → AreAsked s0.demands vars0 values w → templates ≡ command_nodes n c → NoCalls [] known [] s0 vars0 templates → IsTypableWith values w c n → ⊥
  uncalled s0 vars0 templates asked nodes none (targets, types, (g, fits)) =
      let start : (v : ℕ → Ground) × Agree vars0 v targets × MeetsAll v s0.demands = asked.to targets types in
      let l : (ss : List (Option Signature)) × AreAllowed (λ t o. IsOffered w targets t o) (command_nodes n c) ss × CommandFits next_of targets n c g ss [] = (listed w targets n c g).0 fits in
      none start.0 targets l.0 start.1 start.2 (subst (λ ts. AreAllowed (MayCall [] known [] targets) ts l.0) (sym nodes) (all_called known w targets knows types.proper (command_nodes n c) l.0 spelled l.1))
