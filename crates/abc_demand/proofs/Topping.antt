-- The demands of a unit and of a command, from those of its names, its heading and its body.
use Rattle.std.proofs.Common.{◌≡◌, ◌∙◌, ℕ, zero, suc, ◌+◌, ◌<◌, ◌≤◌, Bool, true, false, not, List, [], ◌∷◌, ◌++◌, length, map, ap, sym, subst, refl, arith}
use Rattle.std.specs.Prelude.{Option, None, Some, Ok, Err, OnOk, slice_get, slice_index_or}
use Rattle.std.specs.declared.result.Result.{Result}
use Rattle.std.specs.Option.{option_map}
use Rattle.std.specs.List.{All, Contains}
use Rattle.std.proofs.lemmas.List.{length-map}
use Rattle.std.proofs.lemmas.List.Elements.{All-append, All-nil, All-weaker, All-head, All-tail}
use Rattle.std.proofs.lemmas.Map.Views.{list_any-from_Contains, Contains-from_any}
use Rattle.std.proofs.lemmas.Cmp.{nat_eq_equiv}
use Rattle.std.proofs.lemmas.Bool.Decides.{Decides-eqb}
use Rattle.abc_num.specs.declared.types.Ground.{Ground}
use Rattle.abc_terms.specs.declared.term.VarId.{VarId}
use Rattle.abc_terms.specs.Demands.{Holds, MeetsAll}
use Rattle.abc_terms.specs.Nodes.{DemandIn}
use Rattle.abc_terms.proofs.Below.{meets_below}
use Rattle.abc_unify.specs.Graphs.{Seen, IsUnsolvable}
use Rattle.abc_tree.specs.RegularItems.{AreFlags, is_among, shared_names, bounds_of, parts_of}
use Rattle.abc_tree.specs.declared.commands.Command.{Command}
use Rattle.abc_tree.specs.declared.commands.Unit.{Unit as Routine}
use Rattle.abc_ground.specs.Seen.{nodes, seen_heading, unit_upto, command_upto}
use Rattle.abc_ground.specs.Fits.{Signature, Typing, each_fits}
use Rattle.abc_ground.specs.Calls.{next_of}
use Rattle.abc_ground.specs.Items.{IsTarget, HasResult, UnitFits, CommandFits}
use Rattle.abc_demand.specs.declared.env.Env.{Env}
use Rattle.abc_demand.specs.declared.env.Signature.{Signature as SignatureVars}
use Rattle.abc_demand.specs.declared.scope.Scope.{Scope}
use Rattle.abc_demand.specs.Typings.{types_of, type_of, signature_of, signatures_of, var_of, Agree, AreMade, IsMade, SignatureMade, CallMade, EnvMade, result_var}
use Rattle.abc_demand.specs.Demanded.{UnitTyped, CommandTyped, IsDemanded, IsRefused, AreGiven}
use Rattle.abc_demand.specs.inner.Drafts.{Drafted, start}
use Rattle.abc_demand.specs.inner.Leads.{Leads}
use Rattle.abc_demand.specs.inner.Named.{role, roles, RoleFits, RolesFit, Named}
use Rattle.abc_demand.specs.inner.Walks.{scene, vars_bound, var_bound, calls_bound, scope_bound}
use Rattle.abc_demand.specs.inner.Wholes.{own_scene, HeadAndBody, CommandBody, UnitAsked, CommandAsked}
use Rattle.abc_demand.proofs.Leading.{All-left, All-right}
use Rattle.abc_demand.proofs.NameLemmas.{agree_kept}
use Rattle.abc_demand.proofs.Alike.{calls_alike, own_alike}

-- ---- the types of names, by their roles

-- the names with these flags from the j-th on have the types of targets
abbrev Flagged : (List ℕ → Ground) → List (List ℕ) → ℕ → List Bool → List Ground → Type 0
Flagged targets names j flags ts = (i : ℕ) (text : List ℕ) → slice_get flags i ≡ Some true → slice_get names (j + i) ≡ Some text → slice_get ts i ≡ Some (targets text)

role_to : (targets : List ℕ → Ground) (o : Option (List ℕ)) (t : Ground) → ((text : List ℕ) → o ≡ Some text → t ≡ targets text) → RoleFits targets o t
role_to targets None t h = tt
role_to targets (Some text) t h = h text refl

role_from : (targets : List ℕ → Ground) (o : Option (List ℕ)) (t : Ground) → RoleFits targets o t → (text : List ℕ) → o ≡ Some text → t ≡ targets text
role_from targets None t h text e = absurd (cc)
role_from targets (Some name) t h text e = let f : name ≡ text = cc in h ∙ ap targets f

fit_to : (targets : List ℕ → Ground) (names : List (List ℕ)) (j : ℕ) (flags : List Bool) (ts : List Ground) → length ts ≡ length flags → Flagged targets names j flags ts → RolesFit targets (roles names j flags) ts
fit_to targets names j [] [] long h = tt
fit_to targets names j [] (t ∷ ts) long h = absurd (omega (arith, long))
fit_to targets names j (f ∷ fs) [] long h = absurd (omega (arith, long))
fit_to targets names j (f ∷ fs) (t ∷ ts) long h = (first f refl, fit_to targets names (suc j) fs ts (omega (arith, long)) (λ i text e n. h (suc i) text e (let k : j + suc i ≡ suc j + i = omega arith in ap (λ m. slice_get names m) k ∙ n)))
  where
    first : (b : Bool) → f ≡ b → RoleFits targets (role names j f) t
    first true is =
        subst (λ c. RoleFits targets (role names j c) t) (sym is)
        (role_to targets (slice_get names j) t (λ text e.
        let k : j + 0 ≡ j = omega arith in
        let g : Some t ≡ Some (targets text) = h 0 text (ap (λ (c : Bool). Some c) is) (ap (λ m. slice_get names m) k ∙ e) in
        cc))
    first false is = subst (λ c. RoleFits targets (role names j c) t) (sym is) tt

fit_long : (targets : List ℕ → Ground) (names : List (List ℕ)) (j : ℕ) (flags : List Bool) (ts : List Ground) → RolesFit targets (roles names j flags) ts → length ts ≡ length flags
fit_long targets names j [] [] h = refl
fit_long targets names j [] (t ∷ ts) h = absurd h
fit_long targets names j (f ∷ fs) [] h = absurd h
fit_long targets names j (f ∷ fs) (t ∷ ts) h = ap suc (fit_long targets names (suc j) fs ts h.1)

fit_from : (targets : List ℕ → Ground) (names : List (List ℕ)) (j : ℕ) (flags : List Bool) (ts : List Ground) → RolesFit targets (roles names j flags) ts → Flagged targets names j flags ts
fit_from targets names j [] ts h i text e n = absurd (cc)
fit_from targets names j (f ∷ fs) [] h i text e n = absurd h
fit_from targets names j (f ∷ fs) (t ∷ ts) h zero text e n =
    let is : f ≡ true = cc in
    let k : j ≡ j + 0 = omega arith in
    let r : RoleFits targets (slice_get names j) t = subst (λ c. RoleFits targets (role names j c) t) is h.0 in
    ap (λ (g : Ground). Some g) (role_from targets (slice_get names j) t r text (ap (λ m. slice_get names m) k ∙ n))
fit_from targets names j (f ∷ fs) (t ∷ ts) h (suc i) text e n = let k : suc j + i ≡ j + suc i = omega arith in fit_from targets names (suc j) fs ts h.1 i text e (ap (λ m. slice_get names m) k ∙ n)

-- ---- flags of targets

-- the flags tell which numbers are those of targets
pub record AreTargets (names : List (List ℕ)) (flags : List Bool) (Are : ℕ → Type 0) : Type 0 where
  pub long : length flags ≡ length names
  pub yes : (i : ℕ) → slice_get flags i ≡ Some true → Are i
  pub all : (i : ℕ) → i < length flags → Are i → slice_get flags i ≡ Some true

some_at : (names : List (List ℕ)) (i : ℕ) (text : List ℕ) → slice_get names i ≡ Some text → i < length names
some_at [] i text e = absurd (cc)
some_at (n ∷ names) zero text e = omega arith
some_at (n ∷ names) (suc i) text e = omega (arith, some_at names i text e)

pub targets_fit : (targets : List ℕ → Ground) (names : List (List ℕ)) (flags : List Bool) (Are : ℕ → Type 0) (ts : List Ground) → AreTargets names flags Are → length ts ≡ length names → ((i : ℕ) → Are i → IsTarget targets names ts i) → RolesFit targets (roles names 0 flags) ts
targets_fit targets names flags Are ts a long h = fit_to targets names 0 flags ts (long ∙ sym a.long) (λ i text e n. h i (a.yes i e) text (let k : i ≡ 0 + i = omega arith in ap (λ m. slice_get names m) k ∙ n))

pub fit_targets : (targets : List ℕ → Ground) (names : List (List ℕ)) (flags : List Bool) (Are : ℕ → Type 0) (ts : List Ground) → AreTargets names flags Are → RolesFit targets (roles names 0 flags) ts → (length ts ≡ length names) × ((i : ℕ) → Are i → IsTarget targets names ts i)
fit_targets targets names flags Are ts a fit =
    (fit_long targets names 0 flags ts fit ∙ a.long, λ i is text n. fit_from targets names 0 flags ts fit i text (a.all i (let lt : i < length names = some_at names i text n in omega (arith, lt, a.long)) is) (let k : 0 + i ≡ i = omega arith in ap (λ m. slice_get names m) k ∙ n))

get_at : (flags : List Bool) (i : ℕ) (d : Bool) → i < length flags → slice_get flags i ≡ Some (slice_index_or flags i d)
get_at [] i d lt = absurd (omega (arith, lt))
get_at (f ∷ fs) zero d lt = refl
get_at (f ∷ fs) (suc i) d lt = get_at fs i d (omega (arith, lt))

got_at : (flags : List Bool) (i : ℕ) → slice_get flags i ≡ Some true → (i < length flags) × (slice_index_or flags i false ≡ true)
got_at [] i e = absurd (cc)
got_at (f ∷ fs) zero e = (omega arith, let g : f ≡ true = cc in g)
got_at (f ∷ fs) (suc i) e = let r : (i < length fs) × (slice_index_or fs i false ≡ true) = got_at fs i e in (omega (arith, r.0), r.1)

among_is : (ns : List ℕ) (m : ℕ) → is_among ns m ≡ true → Contains ns m
among_is ns m e = Contains-from_any (λ x y. (Decides-eqb x y).0) m ns e

is_among_of : (ns : List ℕ) (m : ℕ) → Contains ns m → is_among ns m ≡ true
is_among_of ns m c = list_any-from_Contains nat_eq_equiv m ns c

pub flags_are : (names : List (List ℕ)) (ns : List ℕ) (flags : List Bool) → AreFlags (length names) ns flags → AreTargets names flags (λ i. Contains ns i)
flags_are names ns flags a = record {
  long = a.all;
  yes = λ i e. let r : (i < length flags) × (slice_index_or flags i false ≡ true) = got_at flags i e in among_is ns i (sym (a.each i false (omega (arith, r.0, a.all))) ∙ r.1);
  all = λ i lt is. get_at flags i false lt ∙ ap (λ (b : Bool). Some b) (a.each i false (omega (arith, lt, a.all)) ∙ is_among_of ns i is);
}

-- the other flags
flip_at : (flags : List Bool) (i : ℕ) (b : Bool) → slice_get flags i ≡ Some b → slice_get (map not flags) i ≡ Some (not b)
flip_at [] i b e = absurd (cc)
flip_at (f ∷ fs) zero b e = let g : f ≡ b = cc in ap (λ (c : Bool). Some (not c)) g
flip_at (f ∷ fs) (suc i) b e = flip_at fs i b e

flip_of : (flags : List Bool) (i : ℕ) → slice_get (map not flags) i ≡ Some true → (i < length flags) × (slice_index_or flags i false ≡ false)
flip_of [] i e = absurd (cc)
flip_of (true ∷ fs) zero e = absurd (let g : Some false ≡ Some true = e in cc)
flip_of (false ∷ fs) zero e = (omega arith, refl)
flip_of (f ∷ fs) (suc i) e = let r : (i < length fs) × (slice_index_or fs i false ≡ false) = flip_of fs i e in (omega (arith, r.0), r.1)

not_among : (b : Bool) → (b ≡ true → ⊥) → b ≡ false
not_among true h = absurd (h refl)
not_among false h = refl

pub others_are : (names : List (List ℕ)) (ns : List ℕ) (flags : List Bool) → AreFlags (length names) ns flags → AreTargets names (map not flags) (λ i. Contains ns i → ⊥)
others_are names ns flags a = record {
  long = length-map flags not ∙ a.all;
  yes = λ i e is.
      let r : (i < length flags) × (slice_index_or flags i false ≡ false) = flip_of flags i e in
      let t : true ≡ false = sym (is_among_of ns i is) ∙ (sym (a.each i false (omega (arith, r.0, a.all))) ∙ r.1) in
      cc;
  all = λ i lt none.
      let low : i < length flags = omega (arith, lt, length-map flags not) in
      let off : slice_index_or flags i false ≡ false = a.each i false (omega (arith, low, a.all)) ∙ not_among (is_among ns i) (λ t. none (among_is ns i t)) in
      flip_at flags i false (get_at flags i false low ∙ ap (λ (b : Bool). Some b) off);
}

-- ---- the whole

module _ (old next : Seen) (d0 d1 d2 : Drafted) (before after : List (List ℕ × VarId)) (names : List (List ℕ)) (flags : List Bool) (Are : ℕ → Type 0) (vars : List VarId) (env : Env) (s : Scope)
    (begun : d0 ≡ start old.count) (named : Named d0 d1 before after (roles names 0 flags) vars) (targets_are : AreTargets names flags Are) (s_names : s.names ≡ vars) (s_calls : s.calls ≡ env.calls)
    (made : EnvMade old.count env) (asked : All (DemandIn old.count) old.demands) (same_targets : env.targets ≡ before)
    (counted : next.count ≡ d2.count) (whole : next.demands ≡ old.demands ++ d2.demands) where
  first_count : d0.count ≡ old.count
  first_count = ap (λ d. d.count) begun

  low_count : old.count ≤ d1.count
  low_count = omega (arith, first_count, named.grows)

  no_demands : d1.demands ≡ []
  no_demands = named.asked ∙ ap (λ d. d.demands) begun

  older : (v : ℕ → Ground) → MeetsAll v next.demands → MeetsAll v old.demands
  older v m = All-left (Holds v) old.demands d2.demands (subst (λ ds. MeetsAll v ds) whole m)

  newer : (v : ℕ → Ground) → MeetsAll v next.demands → MeetsAll v d2.demands
  newer v m = All-right (Holds v) old.demands d2.demands (subst (λ ds. MeetsAll v ds) whole m)

  -- types of the names that fit extend
  abbrev Extends : (ℕ → Ground) → (List ℕ → Ground) → List Ground → (ℕ → Ground) → Type 0
  Extends v targets ts w = ((i : ℕ) → i < old.count → w i ≡ v i) × (types_of w vars ≡ ts) × Agree after w targets

  extend : (v : ℕ → Ground) (targets : List ℕ → Ground) (ts : List Ground) → Agree before v targets → length ts ≡ length names → ((i : ℕ) → Are i → IsTarget targets names ts i) → (w : ℕ → Ground) × Extends v targets ts w
  extend v targets ts agree long are =
      let r : (w : ℕ → Ground) × ((i : ℕ) → i < d0.count → w i ≡ v i) × (types_of w vars ≡ ts) × Agree after w targets = named.to v targets ts agree (targets_fit targets names flags Are ts targets_are long are) in
      (r.0, (λ i h. r.1 i (omega (arith, h, first_count)), r.2, r.3))

  -- and then meet the demands
  finish : {X : Type 0} (see : (ℕ → Ground) → X) (Q : X → Type 0) → Leads see d1 d2 (λ x ts. (ts ≡ []) × Q x) [] → (v : ℕ → Ground) (targets : List ℕ → Ground) (ts : List Ground) (w : ℕ → Ground) → MeetsAll v old.demands → Extends v targets ts w → Q (see w)
      → (u : ℕ → Ground) × ((i : ℕ) → i < old.count → u i ≡ v i) × Agree after u targets × MeetsAll u (old.demands ++ d2.demands)
  finish see Q l v targets ts w met e q =
      let none : All (DemandIn d1.count) d1.demands = subst (λ ds. All (DemandIn d1.count) ds) (sym no_demands) (All-nil (DemandIn d1.count)) in
      let nothing : MeetsAll w d1.demands = subst (λ ds. MeetsAll w ds) (sym no_demands) (All-nil (Holds w)) in
      let r : (u : ℕ → Ground) × ((i : ℕ) → i < d1.count → u i ≡ w i) × (map u [] ≡ []) × MeetsAll u d2.demands = l.to w [] none nothing (refl, q) in
      let low : (i : ℕ) → i < old.count → r.0 i ≡ v i = λ i h. r.1 i (omega (arith, h, low_count)) ∙ e.0 i h in
      (r.0, low, agree_kept d1.count after w r.0 targets named.made r.1 e.2, All-append (Holds r.0) old.demands d2.demands (meets_below old.count v r.0 (λ i h. sym (low i h)) old.demands asked met) r.3)

  names_fit : (v : ℕ → Ground) (targets : List ℕ → Ground) → Agree after v targets → (length (types_of v s.names) ≡ length names) × ((i : ℕ) → Are i → IsTarget targets names (types_of v s.names) i)
  names_fit v targets agree =
      subst (λ vs. (length (types_of v vs) ≡ length names) × ((i : ℕ) → Are i → IsTarget targets names (types_of v vs) i)) (sym s_names) (fit_targets targets names flags Are (types_of v vars) targets_are (named.from v targets agree))

  calls_here : (v : ℕ → Ground) → signatures_of v s.calls ≡ signatures_of v env.calls
  calls_here v = ap (signatures_of v) s_calls

  calls_kept : (v w : ℕ → Ground) → ((i : ℕ) → i < old.count → w i ≡ v i) → signatures_of w s.calls ≡ signatures_of v env.calls
  calls_kept v w same = calls_here w ∙ calls_alike old.count w v same env.calls made.calls

  -- a unit
  module _ (unit : Routine) (n : ℕ) (unit_names : unit.names ≡ names) (Are_is : (i : ℕ) → Contains (shared_names unit) i → Are i) (is_Are : (i : ℕ) → Are i → Contains (shared_names unit) i)
      (own_result : (v : ℕ → Ground) (sig : SignatureVars) → env.own ≡ Some sig → type_of v s.result ≡ type_of v sig.result) (leads : Leads (own_scene s env.own) d1 d2 (λ y ts. (ts ≡ []) × HeadAndBody unit n y) []) where
    own_is : (v : ℕ → Ground) (o : Option SignatureVars) (t : Signature) → option_map (signature_of v) o ≡ Some t → (sig : SignatureVars) × (o ≡ Some sig) × (signature_of v sig ≡ t)
    own_is v None t e = absurd (cc)
    own_is v (Some sig) t e = (sig, refl, let f : signature_of v sig ≡ t = cc in f)

    unit_from : (v : ℕ → Ground) (targets : List ℕ → Ground) → Agree after v targets → MeetsAll v next.demands → UnitTyped env unit n v targets
    unit_from v targets agree met =
        let h : HeadAndBody unit n (own_scene s env.own v) = (leads.from v (newer v met)).1.1 in
        let o : (sig : SignatureVars) × (env.own ≡ Some sig) × (signature_of v sig ≡ h.0) = own_is v env.own h.0 h.1 in
        let g : Typing = (scene s v).0 in
        let fit : (length (types_of v s.names) ≡ length names) × ((i : ℕ) → Are i → IsTarget targets names (types_of v s.names) i) = names_fit v targets agree in (
          o.0,
          o.1,
          (
            (scene s v).0,
            record {
              names = fit.0 ∙ ap length (sym unit_names);
              shared = λ i c. subst (λ ns. IsTarget targets ns (types_of v s.names) i) (sym unit_names) (fit.1 i (Are_is i c));
              formals = subst (λ (t : Signature). each_fits next_of (scene s v).0 (nodes (seen_heading unit)) t.formals (signatures_of v env.calls) (signatures_of v env.calls)) (sym o.2)
                  (subst (λ ss. each_fits next_of (scene s v).0 (nodes (seen_heading unit)) h.0.formals ss ss) (calls_here v) h.2);
              result = own_result v o.0 o.1;
              kind_of = subst (λ (t : Signature). HasResult unit.template.kind t.result) (sym o.2) h.3;
              body = subst (λ ss. each_fits next_of (scene s v).0 (unit_upto n unit) [] ss []) (calls_here v) h.4;
            },
          ),
        )

    unit_holds : (v : ℕ → Ground) (targets : List ℕ → Ground) (w : ℕ → Ground) → (t : UnitTyped env unit n v targets) → Extends v targets t.2.0.names w → HeadAndBody unit n (own_scene s env.own w)
    unit_holds v targets w t e =
        let sig : SignatureVars = t.0 in
        let fit : UnitFits next_of targets n unit t.2.0 (signature_of v t.0) (signatures_of v env.calls) [] = t.2.1 in
        let own_w : option_map (signature_of w) env.own ≡ Some (signature_of v t.0) = own_alike old.count w v e.0 env.own made.own ∙ ap (option_map (signature_of v)) t.1 in
        let result_w : type_of w s.result ≡ t.2.0.result = own_result w t.0 t.1 ∙ (let o : Some (signature_of w t.0) ≡ Some (signature_of v t.0) = ap (option_map (signature_of w)) (sym t.1) ∙ own_w in let p : signature_of w t.0 ≡ signature_of v t.0 = cc in ap (λ (q : Signature). q.result) p) ∙ sym fit.result in
        let typing : (scene s w).0 ≡ t.2.0 = typing_is (types_of w s.names) (type_of w s.result) t.2.0 (ap (types_of w) s_names ∙ e.1) result_w in (
          signature_of v t.0,
          own_w,
          subst (λ g. each_fits next_of g (nodes (seen_heading unit)) (signature_of v t.0).formals (signatures_of w s.calls) (signatures_of w s.calls)) (sym typing)
              (subst (λ ss. each_fits next_of t.2.0 (nodes (seen_heading unit)) (signature_of v t.0).formals ss ss) (sym (calls_kept v w e.0)) fit.formals),
          fit.kind_of,
          subst (λ g. each_fits next_of g (unit_upto n unit) [] (signatures_of w s.calls) []) (sym typing) (subst (λ ss. each_fits next_of t.2.0 (unit_upto n unit) [] ss []) (sym (calls_kept v w e.0)) fit.body),
        )
      where
        typing_is : (ns : List Ground) (r : Option Ground) (g : Typing) → ns ≡ g.names → r ≡ g.result → record { names = ns; result = r } ≡ g
        typing_is ns r g a b = ap (λ (ms : List Ground). record { names = ms; result = r }) a ∙ ap (λ (q : Option Ground). record { names = g.names; result = q }) b

    pub unit_meets : (v : ℕ → Ground) (targets : List ℕ → Ground) → Agree before v targets → MeetsAll v old.demands → UnitTyped env unit n v targets → (u : ℕ → Ground) × ((i : ℕ) → i < old.count → u i ≡ v i) × Agree after u targets × MeetsAll u (old.demands ++ d2.demands)
    unit_meets v targets agree met t =
        let fit : UnitFits next_of targets n unit t.2.0 (signature_of v t.0) (signatures_of v env.calls) [] = t.2.1 in
        let r : (w : ℕ → Ground) × Extends v targets t.2.0.names w = extend v targets t.2.0.names agree (fit.names ∙ ap length unit_names) (λ i are. subst (λ ns. IsTarget targets ns t.2.0.names i) unit_names (fit.shared i (is_Are i are))) in
        finish (own_scene s env.own) (λ y. HeadAndBody unit n y) leads v targets t.2.0.names r.0 met r.1 (unit_holds v targets r.0 t r.1)

    pub unit_demanded : IsDemanded old next env.targets after (UnitTyped env unit n)
    unit_demanded = record {
      older = older;
      from = unit_from;
      to = λ v targets agree met t.
          let r : (u : ℕ → Ground) × ((i : ℕ) → i < old.count → u i ≡ v i) × Agree after u targets × MeetsAll u (old.demands ++ d2.demands) = unit_meets v targets (subst (λ ps. Agree ps v targets) same_targets agree) met t in
          (r.0, r.1, r.2, subst (λ ds. MeetsAll r.0 ds) (sym whole) r.3);
    }

  -- a command
  module _ (c : Command) (n : ℕ) (command_names : c.names ≡ names) (Are_is : (i : ℕ) → (Contains (bounds_of (parts_of c.action)) i → ⊥) → Are i) (is_Are : (i : ℕ) → Are i → Contains (bounds_of (parts_of c.action)) i → ⊥)
      (no_result : s.result ≡ None) (leads : Leads (scene s) d1 d2 (λ y ts. (ts ≡ []) × CommandBody c n y) []) where
    command_from : (v : ℕ → Ground) (targets : List ℕ → Ground) → Agree after v targets → MeetsAll v next.demands → CommandTyped env c n v targets
    command_from v targets agree met =
        let h : CommandBody c n (scene s v) = (leads.from v (newer v met)).1.1 in
        let fit : (length (types_of v s.names) ≡ length names) × ((i : ℕ) → Are i → IsTarget targets names (types_of v s.names) i) = names_fit v targets agree in (
          (scene s v).0,
          record {
            names = fit.0 ∙ ap length (sym command_names);
            targets_are = λ i is. subst (λ ns. IsTarget targets ns (types_of v s.names) i) (sym command_names) (fit.1 i (Are_is i is));
            result = ap (type_of v) no_result;
            body = subst (λ ss. each_fits next_of (scene s v).0 (command_upto n c) [] ss []) (calls_here v) h;
          },
        )

    pub command_meets : (v : ℕ → Ground) (targets : List ℕ → Ground) → Agree before v targets → MeetsAll v old.demands → CommandTyped env c n v targets → (u : ℕ → Ground) × ((i : ℕ) → i < old.count → u i ≡ v i) × Agree after u targets × MeetsAll u (old.demands ++ d2.demands)
    command_meets v targets agree met t =
        let fit : CommandFits next_of targets n c t.0 (signatures_of v env.calls) [] = t.1 in
        let r : (w : ℕ → Ground) × Extends v targets t.0.names w = extend v targets t.0.names agree (fit.names ∙ ap length command_names) (λ i are. subst (λ ns. IsTarget targets ns t.0.names i) command_names (fit.targets_are i (is_Are i are))) in
        let typing : (scene s r.0).0 ≡ t.0 = typing_is (types_of r.0 s.names) (type_of r.0 s.result) t.0 (ap (types_of r.0) s_names ∙ r.1.1) (ap (type_of r.0) no_result ∙ sym fit.result) in
        finish (scene s) (λ y. CommandBody c n y) leads v targets t.0.names r.0 met r.1
        (subst (λ g. each_fits next_of g (command_upto n c) [] (signatures_of r.0 s.calls) []) (sym typing) (subst (λ ss. each_fits next_of t.0 (command_upto n c) [] ss []) (sym (calls_kept v r.0 r.1.0)) fit.body))
      where
        typing_is : (ns : List Ground) (r : Option Ground) (g : Typing) → ns ≡ g.names → r ≡ g.result → record { names = ns; result = r } ≡ g
        typing_is ns r g a b = ap (λ (ms : List Ground). record { names = ms; result = r }) a ∙ ap (λ (q : Option Ground). record { names = g.names; result = q }) b

    pub command_demanded : IsDemanded old next env.targets after (CommandTyped env c n)
    command_demanded = record {
      older = older;
      from = command_from;
      to = λ v targets agree met t.
          let r : (u : ℕ → Ground) × ((i : ℕ) → i < old.count → u i ≡ v i) × Agree after u targets × MeetsAll u (old.demands ++ d2.demands) = command_meets v targets (subst (λ ps. Agree ps v targets) same_targets agree) met t in
          (r.0, r.1, r.2, subst (λ ds. MeetsAll r.0 ds) (sym whole) r.3);
    }

-- ---- from what a draft asks

given_more : (n k m l : ℕ) (before after : List (List ℕ × VarId)) → n ≡ k → m ≤ l → AreGiven k m before after → AreGiven n l before after
given_more n k m l before after e le g = record {
  added = g.added;
  behind = g.behind;
  new = All-weaker (λ p. (var_of before p.0 ≡ None) × (k ≤ p.1.0) × (p.1.0 < m)) (λ p. (var_of before p.0 ≡ None) × (n ≤ p.1.0) × (p.1.0 < l)) (λ p h. (h.0, omega (arith, h.1, e), omega (arith, h.2, le))) g.added g.new;
}

module _ (old : Seen) (d0 d2 : Drafted) (env : Env) (after : List (List ℕ × VarId)) (begun : d0 ≡ start old.count) (made : EnvMade old.count env) (asked : All (DemandIn old.count) old.demands) where
  module _ (unit : Routine) (n : ℕ) (a : UnitAsked d0 d2 env after unit n) where
    own_result : (v : ℕ → Ground) (sig : SignatureVars) → env.own ≡ Some sig → type_of v a.scope.result ≡ type_of v sig.result
    own_result v sig e = ap (type_of v) (a.result ∙ ap result_var e)

    pub unit_done : (next : Seen) → next.count ≡ d2.count → next.demands ≡ old.demands ++ d2.demands → IsDemanded old next env.targets after (UnitTyped env unit n)
    unit_done next counted whole =
        unit_demanded old next d0 a.mid d2 env.targets after unit.names a.flags (λ i. Contains (shared_names unit) i) a.vars env a.scope begun a.named (flags_are unit.names (shared_names unit) a.flags a.are) a.names a.calls made asked refl counted whole
        unit n refl (λ i h. h) (λ i h. h) own_result a.leads

    pub unit_refused : IsUnsolvable (old.demands ++ d2.demands) → IsRefused old env.targets (UnitTyped env unit n)
    unit_refused none v targets agree met t =
        let next : Seen = record { count = d2.count; demands = old.demands ++ d2.demands; past = [] } in
        let r : (u : ℕ → Ground) × ((i : ℕ) → i < old.count → u i ≡ v i) × Agree after u targets × MeetsAll u (old.demands ++ d2.demands) =
        unit_meets old next d0 a.mid d2 env.targets after unit.names a.flags (λ i. Contains (shared_names unit) i) a.vars env a.scope begun a.named (flags_are unit.names (shared_names unit) a.flags a.are) a.names a.calls made asked refl refl refl
        unit n refl (λ i h. h) (λ i h. h) own_result a.leads v targets agree met t in
        none r.0 r.3

    pub unit_given : (next : Seen) → next.count ≡ d2.count → AreGiven old.count next.count env.targets after
    unit_given next counted = given_more old.count d0.count a.mid.count next.count env.targets after (sym (ap (λ d. d.count) begun)) (omega (arith, counted, a.leads.grows)) a.named.given

  module _ (c : Command) (n : ℕ) (a : CommandAsked d0 d2 env after c n) where
    pub command_done : (next : Seen) → next.count ≡ d2.count → next.demands ≡ old.demands ++ d2.demands → IsDemanded old next env.targets after (CommandTyped env c n)
    command_done next counted whole =
        command_demanded old next d0 a.mid d2 env.targets after c.names (map not a.flags) (λ i. Contains (bounds_of (parts_of c.action)) i → ⊥) a.vars env a.scope begun a.named (others_are c.names (bounds_of (parts_of c.action)) a.flags a.are) a.names a.calls made asked refl counted whole
        c n refl (λ i h. h) (λ i h. h) a.result a.leads

    pub command_refused : IsUnsolvable (old.demands ++ d2.demands) → IsRefused old env.targets (CommandTyped env c n)
    command_refused none v targets agree met t =
        let next : Seen = record { count = d2.count; demands = old.demands ++ d2.demands; past = [] } in
        let r : (u : ℕ → Ground) × ((i : ℕ) → i < old.count → u i ≡ v i) × Agree after u targets × MeetsAll u (old.demands ++ d2.demands) =
        command_meets old next d0 a.mid d2 env.targets after c.names (map not a.flags) (λ i. Contains (bounds_of (parts_of c.action)) i → ⊥) a.vars env a.scope begun a.named (others_are c.names (bounds_of (parts_of c.action)) a.flags a.are) a.names a.calls made asked refl refl refl
        c n refl (λ i h. h) (λ i h. h) a.result a.leads v targets agree met t in
        none r.0 r.3

    pub command_given : (next : Seen) → next.count ≡ d2.count → AreGiven old.count next.count env.targets after
    command_given next counted = given_more old.count d0.count a.mid.count next.count env.targets after (sym (ap (λ d. d.count) begun)) (omega (arith, counted, a.leads.grows)) a.named.given

-- ---- what a draft asks, from its parts

pub on_ok : {E : Type 0} (r : Result (Unit {0}) E) (A B : Type 0) → (A → B) → OnOk r A → OnOk r B
on_ok (Ok x) A B f a = f a
on_ok (Err e) A B f a = tt

pub on_ok_both : {E A B C : Type 0} (r : Result (Unit {0}) E) → OnOk r A → OnOk r B → (A → B → C) → OnOk r C
on_ok_both (Ok x) a b f = f a b
on_ok_both (Err e) a b f = tt

vars_low : (n : ℕ) (vars : List VarId) → AreMade n vars → vars_bound vars ≤ n
vars_low n [] made = omega arith
vars_low n (a ∷ vars) made = let rest : vars_bound vars ≤ n = vars_low n vars (All-tail (λ b. b.0 < n) a vars made) in let here : a.0 < n = All-head (λ b. b.0 < n) a vars made in omega (arith, rest, here)

var_low : (n : ℕ) (a : Option VarId) → IsMade n a → var_bound a ≤ n
var_low n None made = omega arith
var_low n (Some a) made = omega (arith, made)

calls_low : (n : ℕ) (calls : List (Option SignatureVars)) → All (CallMade n) calls → calls_bound calls ≤ n
calls_low n [] made = omega arith
calls_low n (None ∷ calls) made = calls_low n calls (All-tail (CallMade n) None calls made)
calls_low n (Some s ∷ calls) made =
    let here : SignatureMade n s = All-head (CallMade n) (Some s) calls made in
    let formals : vars_bound s.formals ≤ n = vars_low n s.formals here.formals in
    let result : var_bound s.result ≤ n = var_low n s.result here.result in
    let rest : calls_bound calls ≤ n = calls_low n calls (All-tail (CallMade n) (Some s) calls made) in
    omega (arith, formals, result, rest)

result_low : (n : ℕ) (own : Option SignatureVars) → CallMade n own → IsMade n (result_var own)
result_low n None made = tt
result_low n (Some s) made = made.result

pub scope_low : (n m : ℕ) (s : Scope) (vars : List VarId) (result : Option VarId) (calls : List (Option SignatureVars)) → n ≤ m → s.names ≡ vars → s.result ≡ result → s.calls ≡ calls → AreMade m vars → IsMade n result → All (CallMade n) calls → scope_bound s ≤ m
unfolding scope_bound
scope_low n m s vars result calls le a b c names r made =
    let one : vars_bound s.names ≤ m = vars_low m s.names (subst (λ vs. AreMade m vs) (sym a) names) in
    let two : var_bound s.result ≤ n = var_low n s.result (subst (λ o. IsMade n o) (sym b) r) in
    let three : calls_bound s.calls ≤ n = calls_low n s.calls (subst (λ cs. All (CallMade n) cs) (sym c) made) in
    omega (arith, one, two, three, le)

pub own_low : (n : ℕ) (env : Env) → EnvMade n env → IsMade n (result_var env.own)
own_low n env made = result_low n env.own made.own

pub flags_as : (count k : ℕ) (ns ms : List ℕ) (flags : List Bool) → count ≡ k → ns ≡ ms → AreFlags count ns flags → AreFlags k ms flags
flags_as count k ns ms flags e f a = subst (λ xs. AreFlags k xs flags) f (subst (λ j. AreFlags j ns flags) e a)

pub named_as : (old new : Drafted) (before after : List (List ℕ × VarId)) (names : List (List ℕ)) (fs gs : List Bool) (vars : List VarId) → fs ≡ gs → Named old new before after (roles names 0 fs) vars → Named old new before after (roles names 0 gs) vars
named_as old new before after names fs gs vars e n = subst (λ hs. Named old new before after (roles names 0 hs) vars) e n
