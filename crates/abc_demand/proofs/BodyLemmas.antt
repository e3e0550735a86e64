-- The parts of a unit, and of a command, together.
use Rattle.std.proofs.Common.{◌≡◌, ◌∙◌, ◌⊎◌, inl, inr, ℕ, zero, suc, ◌+◌, ◌<◌, ◌≤◌, List, [], ◌∷◌, ◌++◌, length, map, drop, ap, sym, subst, refl, arith}
use Rattle.std.specs.Prelude.{Option, None, Some}
use Rattle.std.specs.Option.{option_map}
use Rattle.std.proofs.lemmas.List.{length-map}
use Rattle.abc_num.specs.declared.types.Ground.{Ground}
use Rattle.abc_terms.specs.declared.term.VarId.{VarId}
use Rattle.abc_terms.specs.Demands.{MeetsAll}
use Rattle.abc_tree.specs.declared.templates.TemplateKind.{TemplateKind}
use Rattle.abc_tree.specs.declared.commands.Command.{Command}
use Rattle.abc_tree.specs.declared.commands.Unit.{Unit as Routine}
use Rattle.abc_tree.specs.Lists.{flat}
use Rattle.abc_tree.specs.Lined.{Lined, upto}
use Rattle.abc_tree.specs.declared.formulas.Bound.{Bound}
use Rattle.abc_tree.specs.declared.commands.Action.{Action}
use Rattle.abc_tree.specs.declared.commands.Refinement.{Refinement}
use Rattle.abc_tree.specs.declared.templates.TemplateKind.TheVariants as kinds
use Rattle.abc_ground.proofs.Heading.{heading_none}
use Rattle.abc_ground.specs.Seen.{Node, nodes, leaf, result, seen_bound, seen_heading, seen_action, seen_refinement, seen_unit, seen_command, unit_upto}
use Rattle.abc_ground.specs.Fits.{Signature, AreActuals, each_fits}
use Rattle.abc_ground.specs.Calls.{each_templates, next_of}
use Rattle.abc_ground.specs.Items.{HasResult}
use Rattle.abc_demand.specs.declared.env.Signature.{Signature as SignatureVars}
use Rattle.abc_demand.specs.declared.scope.Scope.{Scope}
use Rattle.abc_demand.specs.Typings.{types_of, type_of, signature_of, signatures_of, AreMade, SignatureMade, CallMade}
use Rattle.abc_demand.specs.inner.Drafts.{Drafted}
use Rattle.abc_demand.specs.inner.Leads.{IsLocal, Leads}
use Rattle.abc_demand.specs.inner.Walks.{Scene, scene, scope_bound, lists_of, numbers, Walked, Found, IsNever}
use Rattle.abc_demand.specs.inner.Wholes.{own_scene, HeadAndBody, CommandBody}
use Rattle.abc_demand.proofs.Alike.{own_alike}
use Rattle.abc_demand.proofs.Leading.{leads_seen, leads_as, leads_then, leads_beside}
use Rattle.abc_demand.proofs.Ranged.{none_past}
use Rattle.abc_demand.proofs.Ruling.{any_leads, never_bare}
use Rattle.abc_demand.proofs.Signed.{nodes_leave}
use Rattle.abc_demand.proofs.Turning.{upto_both}
use Rattle.abc_demand.proofs.Walking.{scope_local, found_all}

-- the same, said in another way, where nothing has a type of its own
pub leads_none_as : {X : Type 0} (see : (ℕ → Ground) → X) (old new : Drafted) (P : X → List Ground → Type 0) (Q : X → Type 0) → ((x : X) → P x [] → Q x) → ((x : X) → Q x → P x []) → Leads see old new P [] → Leads see old new (λ x ts. (ts ≡ []) × Q x) []
leads_none_as see old new P Q onward back l = record {
  first = l.first;
  grows = l.grows;
  there = l.there;
  inside = l.inside;
  from = λ v m. let r : MeetsAll v old.demands × P (see v) [] = l.from v m in (r.0, (refl, onward (see v) r.1));
  to = λ v ts made m q.
      let r : (w : ℕ → Ground) × ((i : ℕ) → i < old.count → w i ≡ v i) × (map w [] ≡ []) × MeetsAll w new.demands = l.to v [] made m (back (see v) q.1) in
      (r.0, r.1, sym q.0, r.3);
}

none_left : (ps qs : List Ground) → [] ≡ ps ++ qs → ps ≡ []
none_left [] qs e = refl
none_left (p ∷ ps) qs e = absurd (cc)

pub both_none : {X : Type 0} (see : (ℕ → Ground) → X) (old mid new : Drafted) (P Q : X → Type 0) → IsLocal see old.count → Leads see old mid (λ x ts. (ts ≡ []) × P x) [] → Leads see mid new (λ x ts. (ts ≡ []) × Q x) [] → Leads see old new (λ x ts. (ts ≡ []) × (P x × Q x)) []
both_none see old mid new P Q local one two =
    leads_none_as see old new (λ x ts. (ps : List Ground) × (qs : List Ground) × (ts ≡ ps ++ qs) × ((ps ≡ []) × P x) × ((qs ≡ []) × Q x)) (λ x. P x × Q x) (λ x h. (h.3.1, h.4.1)) (λ x h. ([], [], refl, (refl, h.0), (refl, h.1)))
    (leads_beside see old mid new (λ x ts. (ts ≡ []) × P x) (λ x ts. (ts ≡ []) × Q x) [] [] local one two)

pub own_local : (n : ℕ) (s : Scope) (own : Option SignatureVars) → scope_bound s ≤ n → CallMade n own → IsLocal (own_scene s own) n
own_local n s own bound made v w same =
    ap (λ (y : Scene). (y, option_map (signature_of v) own)) (scope_local n s bound v w same) ∙ ap (λ (o : Option Signature). (scene s w, o)) (own_alike n v w same own made)

actuals_same : (fs gs : List Ground) → AreActuals fs gs → gs ≡ fs
actuals_same [] [] h = refl
actuals_same [] (g ∷ gs) h = absurd h
actuals_same (f ∷ fs) [] h = absurd h
actuals_same (f ∷ fs) (g ∷ gs) h = ap (λ x. x ∷ gs) h.0 ∙ ap (λ xs. f ∷ xs) (actuals_same fs gs h.1)

same_actuals : (fs gs : List Ground) → gs ≡ fs → AreActuals fs gs
same_actuals fs gs e = subst (λ xs. AreActuals fs xs) (sym e) (alike fs)
  where
    alike : (xs : List Ground) → AreActuals xs xs
    alike [] = tt
    alike (x ∷ xs) = (refl, alike xs)

numbered : (v : ℕ → Ground) (vars : List VarId) → map v (numbers vars) ≡ types_of v vars
numbered v [] = refl
numbered v (a ∷ vars) = ap (λ gs. v a.0 ∷ gs) (numbered v vars)

-- ---- the end: all signatures are used
drop_short : (l : List (Option Signature)) (i : ℕ) → i < length l → drop i l ≡ [] → ⊥
drop_short [] i lt e = omega (arith, lt)
drop_short (x ∷ l) zero lt e = cc
drop_short (x ∷ l) (suc i) lt e = drop_short l i (omega (arith, lt)) e

many : (v : ℕ → Ground) (s : Scope) → length (signatures_of v s.calls) ≡ length s.calls
many v s = length-map s.calls (λ (c : Option SignatureVars). option_map (signature_of v) c)

pub end_none : (d : Drafted) (s : Scope) → length s.calls ≤ d.calls → Leads (scene s) d d (λ y ts. (ts ≡ []) × (drop d.calls y.1 ≡ [])) []
end_none d s le =
    any_leads (scene s) d (λ y ts. (ts ≡ []) × (drop d.calls y.1 ≡ [])) (λ v. (refl, none_past (signatures_of v s.calls) d.calls (omega (arith, many v s, le)))) (λ v t ts h. let e : t ∷ ts ≡ [] = h.0 in cc)

pub end_more : (old new : Drafted) (s : Scope) (a : VarId) → old.calls < length s.calls → a.0 ≡ old.count → IsNever old new a → Leads (scene s) old new (λ y ts. (ts ≡ []) × (drop old.calls y.1 ≡ [])) []
end_more old new s a lt number is =
    never_bare (scene s) old new (λ y ts. (ts ≡ []) × (drop old.calls y.1 ≡ [])) a number is (λ v ts h. drop_short (signatures_of v s.calls) old.calls (omega (arith, many v s, lt)) h.1)

-- ---- the body
pub body_leads : (s : Scope) (old mid new : Drafted) (xs : List Node) → scope_bound s ≤ old.count → old.calls ≡ 0 → Walked s old mid xs [] → Leads (scene s) mid new (λ y ts. (ts ≡ []) × (drop mid.calls y.1 ≡ [])) []
    → Leads (scene s) old new (λ y ts. (ts ≡ []) × each_fits next_of y.0 (nodes xs) [] y.1 []) []
body_leads s old mid new xs bound begun walked end =
    let first : Leads (scene s) old mid (λ y ts. each_fits next_of y.0 (nodes xs) ts y.1 (drop mid.calls y.1)) [] = subst (λ n. Leads (scene s) old mid (λ y ts. each_fits next_of y.0 (nodes xs) ts (drop n y.1) (drop mid.calls y.1)) []) begun walked.leads in
    leads_none_as (scene s) old new (λ y ts. (ps : List Ground) × (qs : List Ground) × (ts ≡ ps ++ qs) × each_fits next_of y.0 (nodes xs) ps y.1 (drop mid.calls y.1) × ((qs ≡ []) × (drop mid.calls y.1 ≡ []))) (λ y. each_fits next_of y.0 (nodes xs) [] y.1 [])
    (λ y h. subst (λ ss. each_fits next_of y.0 (nodes xs) [] y.1 ss) h.4.1 (subst (λ ps. each_fits next_of y.0 (nodes xs) ps y.1 (drop mid.calls y.1)) (none_left h.0 h.1 h.2) h.3))
    (λ y h.
    let left : drop mid.calls y.1 ≡ [] = used_up y h in
    ([], [], refl, subst (λ ss. each_fits next_of y.0 (nodes xs) [] y.1 ss) (sym left) h, (refl, left)))
    (leads_beside (scene s) old mid new (λ y ts. each_fits next_of y.0 (nodes xs) ts y.1 (drop mid.calls y.1)) (λ y ts. (ts ≡ []) × (drop mid.calls y.1 ≡ [])) [] [] (scope_local old.count s bound) first end)
  where
    used_up : (y : Scene) → each_fits next_of y.0 (nodes xs) [] y.1 [] → drop mid.calls y.1 ≡ []
    used_up y h = ap (λ n. drop n y.1) (walked.passed ∙ ap (λ n. n + length (each_templates (nodes xs))) begun) ∙ sym (nodes_leave y.0 (nodes xs) [] y.1 [] 0 h)

-- ---- the heading, the kind and the body
module _ (s : Scope) (sig : SignatureVars) where
  abbrev see : (ℕ → Ground) → Scene × Option Signature
  see = own_scene s (Some sig)

  abbrev Heading : List Node → Scene × Option Signature → Type 0
  Heading xs y = (t : Signature) × (y.1 ≡ Some t) × each_fits next_of y.0.0 (nodes xs) t.formals y.0.1 y.0.1

  abbrev Kind : TemplateKind → Scene × Option Signature → Type 0
  Kind kind y = (t : Signature) × (y.1 ≡ Some t) × HasResult kind t.result

  abbrev OwnFormals : Scene × Option Signature → List Ground → Type 0
  OwnFormals y ps = (t : Signature) × (y.1 ≡ Some t) × (ps ≡ t.formals)

  pub heading_leads : (old m1 m2 : Drafted) (xs : List Node) (vars : List VarId) → scope_bound s ≤ old.count → SignatureMade old.count sig → old.calls ≡ 0 → m1.calls ≡ 0 → Walked s old m1 xs (numbers vars)
      → Leads (lists_of sig.formals vars) m1 m2 (λ y ts. (ts ≡ []) × AreActuals y.0 y.1) [] → Leads (own_scene s (Some sig)) old m2 (λ y ts. (ts ≡ []) × Heading xs y) []
  heading_leads old m1 m2 xs vars bound made begun kept walked formals =
      let first : Leads (own_scene s (Some sig)) old m1 (λ y ps. each_fits next_of y.0.0 (nodes xs) ps (drop old.calls y.0.1) (drop m1.calls y.0.1)) (numbers vars) =
      leads_seen (own_scene s (Some sig)) (scene s) old m1 (λ y ps. each_fits next_of y.0 (nodes xs) ps (drop old.calls y.1) (drop m1.calls y.1)) (λ y ps. each_fits next_of y.0.0 (nodes xs) ps (drop old.calls y.0.1) (drop m1.calls y.0.1)) (numbers vars) (λ v ts h. h) (λ v ts h. h) walked.leads in
      let second : Leads {X = (Scene × Option Signature) × List Ground} (λ v. (own_scene s (Some sig) v, map v (numbers vars))) m1 m2 (λ z ts. (ts ≡ []) × OwnFormals z.0 z.1) [] =
      leads_seen {X = (Scene × Option Signature) × List Ground} (λ v. (own_scene s (Some sig) v, map v (numbers vars))) (lists_of sig.formals vars) m1 m2 (λ y ts. (ts ≡ []) × AreActuals y.0 y.1) (λ z ts. (ts ≡ []) × OwnFormals z.0 z.1) []
      (λ v ts h. (h.0, (signature_of v sig, refl, numbered v vars ∙ actuals_same (types_of v sig.formals) (types_of v vars) h.1)))
      (λ v ts h.
      let t : signature_of v sig ≡ h.1.0 = let e : Some (signature_of v sig) ≡ Some h.1.0 = h.1.1 in cc in
      (h.0, same_actuals (types_of v sig.formals) (types_of v vars) (sym (numbered v vars) ∙ (h.1.2 ∙ ap (λ (u : Signature). u.formals) (sym t))))) formals in
      leads_none_as (own_scene s (Some sig)) old m2 (λ y ts. (ps : List Ground) × each_fits next_of y.0.0 (nodes xs) ps (drop old.calls y.0.1) (drop m1.calls y.0.1) × ((ts ≡ []) × OwnFormals y ps)) (λ y. Heading xs y)
      (λ y h. (h.2.1.0, h.2.1.1, subst (λ ps. each_fits next_of y.0.0 (nodes xs) ps y.0.1 y.0.1) h.2.1.2 (subst (λ n. each_fits next_of y.0.0 (nodes xs) h.0 y.0.1 (drop n y.0.1)) kept (subst (λ n. each_fits next_of y.0.0 (nodes xs) h.0 (drop n y.0.1) (drop m1.calls y.0.1)) begun h.1))))
      (λ y h. (h.0.formals, subst (λ n. each_fits next_of y.0.0 (nodes xs) h.0.formals (drop n y.0.1) (drop m1.calls y.0.1)) (sym begun) (subst (λ n. each_fits next_of y.0.0 (nodes xs) h.0.formals y.0.1 (drop n y.0.1)) (sym kept) h.2), (refl, (h.0, h.1, refl))))
      (leads_then (own_scene s (Some sig)) old m1 m2 (λ y ps. each_fits next_of y.0.0 (nodes xs) ps (drop old.calls y.0.1) (drop m1.calls y.0.1)) (λ y ps ts. (ts ≡ []) × OwnFormals y ps) (numbers vars) [] (own_local old.count s (Some sig) bound made) first second)

  pub unit_leads : (old m1 m2 m3 m5 m6 : Drafted) (unit : Routine) (n : ℕ) (vars : List VarId) → scope_bound s ≤ old.count → SignatureMade old.count sig → old.calls ≡ 0 → m1.calls ≡ 0 → Walked s old m1 (seen_heading unit) (numbers vars)
      → Leads (lists_of sig.formals vars) m1 m2 (λ y ts. (ts ≡ []) × AreActuals y.0 y.1) [] → Leads (λ v. type_of v sig.result) m2 m3 (λ r ts. (ts ≡ []) × HasResult unit.template.kind r) []
      → m3.calls ≡ 0 → (xs : List Node) → nodes xs ≡ unit_upto n unit → Walked s m3 m5 xs [] → Leads (scene s) m5 m6 (λ y ts. (ts ≡ []) × (drop m5.calls y.1 ≡ [])) []
      → Leads (own_scene s (Some sig)) old m6 (λ y ts. (ts ≡ []) × HeadAndBody unit n y) []
  unit_leads old m1 m2 m3 m5 m6 unit n vars bound made begun kept walked formals kind ready xs seen_is body end =
      let grown2 : old.count ≤ m2.count = omega (arith, walked.leads.grows, formals.grows) in
      let bound3 : scope_bound s ≤ m3.count = omega (arith, bound, grown2, kind.grows) in
      let one : Leads (own_scene s (Some sig)) old m2 (λ y ts. (ts ≡ []) × Heading (seen_heading unit) y) [] = heading_leads old m1 m2 (seen_heading unit) vars bound made begun kept walked formals in
      let two : Leads (own_scene s (Some sig)) m2 m3 (λ y ts. (ts ≡ []) × Kind unit.template.kind y) [] =
      leads_seen (own_scene s (Some sig)) (λ v. type_of v sig.result) m2 m3 (λ r ts. (ts ≡ []) × HasResult unit.template.kind r) (λ y ts. (ts ≡ []) × Kind unit.template.kind y) [] (λ v ts h. (h.0, (signature_of v sig, refl, h.1)))
      (λ v ts h. let t : h.1.0 ≡ signature_of v sig = let e : Some (signature_of v sig) ≡ Some h.1.0 = h.1.1 in cc in (h.0, subst (λ (u : Signature). HasResult unit.template.kind u.result) t h.1.2)) kind in
      let three : Leads (own_scene s (Some sig)) m3 m6 (λ y ts. (ts ≡ []) × each_fits next_of y.0.0 (nodes xs) [] y.0.1 []) [] =
      leads_seen (own_scene s (Some sig)) (scene s) m3 m6 (λ y ts. (ts ≡ []) × each_fits next_of y.0 (nodes xs) [] y.1 []) (λ y ts. (ts ≡ []) × each_fits next_of y.0.0 (nodes xs) [] y.0.1 []) [] (λ v ts h. h) (λ v ts h. h) (body_leads s m3 m5 m6 xs bound3 ready body end) in
      let both : Leads (own_scene s (Some sig)) old m3 (λ y ts. (ts ≡ []) × (Heading (seen_heading unit) y × Kind unit.template.kind y)) [] =
      both_none (own_scene s (Some sig)) old m2 m3 (λ y. Heading (seen_heading unit) y) (λ y. Kind unit.template.kind y) (own_local old.count s (Some sig) bound made) one two in
      let all : Leads (own_scene s (Some sig)) old m6 (λ y ts. (ts ≡ []) × ((Heading (seen_heading unit) y × Kind unit.template.kind y) × each_fits next_of y.0.0 (nodes xs) [] y.0.1 [])) [] =
      both_none (own_scene s (Some sig)) old m3 m6 (λ y. Heading (seen_heading unit) y × Kind unit.template.kind y) (λ y. each_fits next_of y.0.0 (nodes xs) [] y.0.1 []) (own_local old.count s (Some sig) bound made) both three in
      leads_none_as (own_scene s (Some sig)) old m6 (λ y ts. (ts ≡ []) × ((Heading (seen_heading unit) y × Kind unit.template.kind y) × each_fits next_of y.0.0 (nodes xs) [] y.0.1 [])) (λ y. HeadAndBody unit n y)
      (λ y h.
      let head : Heading (seen_heading unit) y = h.1.0.0 in
      let k : Kind unit.template.kind y = h.1.0.1 in
      let t : k.0 ≡ head.0 = let e : Some k.0 ≡ Some head.0 = sym k.1 ∙ head.1 in cc in
      (head.0, head.1, head.2, subst (λ (u : Signature). HasResult unit.template.kind u.result) t k.2, subst (λ ns. each_fits next_of y.0.0 ns [] y.0.1 []) seen_is h.1.1))
      (λ y h. (refl, (((h.0, h.1, h.2), (h.0, h.1, h.3)), subst (λ ns. each_fits next_of y.0.0 ns [] y.0.1 []) (sym seen_is) h.4))) all

-- a unit with a signature, from its parts as they are lent
pub unit_whole : (s : Scope) (own : Option SignatureVars) (sig : SignatureVars) (old m1 m2 m3 m4 m5 m6 : Drafted) (unit : Routine) (n : ℕ) (bs : List Bound) (fs none vars : List VarId) (body : List Action) (refs : List Refinement)
    → own ≡ Some sig → bs ≡ unit.formals → fs ≡ sig.formals → body ≡ unit.body → refs ≡ unit.refinements → none ≡ [] → scope_bound s ≤ old.count → CallMade old.count own → old.calls ≡ 0 → Found s old m1 (map seen_bound bs) none vars
    → Leads (lists_of fs vars) m1 m2 (λ y ts. (ts ≡ []) × AreActuals y.0 y.1) [] → m2.calls ≡ m1.calls → Leads (λ v. type_of v sig.result) m2 m3 (λ r ts. (ts ≡ []) × HasResult unit.template.kind r) [] → m3.calls ≡ m2.calls
    → Walked s m3 m4 (upto n (flat (map (seen_action (leaf result)) body))) [] → Walked s m4 m5 (upto n (flat (map (seen_refinement unit.names) refs))) [] → Leads (scene s) m5 m6 (λ y ts. (ts ≡ []) × (drop m5.calls y.1 ≡ [])) []
    → Leads (own_scene s own) old m6 (λ y ts. (ts ≡ []) × HeadAndBody unit n y) []
unit_whole s own sig old m1 m2 m3 m4 m5 m6 unit n bs fs none vars body refs own_is bs_is fs_is body_is refs_is empty bound made begun found formals kept2 kind kept3 suite refinements end =
    let all : Walked s old m1 (map seen_bound bs) (numbers vars) × AreMade m1.count vars = found_all s old m1 (map seen_bound bs) none vars empty found in
    let heading : Walked s old m1 (seen_heading unit) (numbers vars) = subst (λ (xs : List Bound). Walked s old m1 (map seen_bound xs) (numbers vars)) bs_is all.0 in
    let quiet : length (each_templates (nodes (seen_heading unit))) ≡ 0 = ap length (heading_none unit) in
    let kept1 : m1.calls ≡ 0 = omega (arith, heading.passed, quiet, begun) in
    let ready : m3.calls ≡ 0 = kept3 ∙ (kept2 ∙ kept1) in
    let made_sig : SignatureMade old.count sig = subst (λ o. CallMade old.count o) own_is made in
    let formals2 : Leads (lists_of sig.formals vars) m1 m2 (λ y ts. (ts ≡ []) × AreActuals y.0 y.1) [] = subst (λ gs. Leads (lists_of gs vars) m1 m2 (λ y ts. (ts ≡ []) × AreActuals y.0 y.1) []) fs_is formals in
    let bound3 : scope_bound s ≤ m3.count = omega (arith, bound, heading.leads.grows, formals2.grows, kind.grows) in
    let xs : Lined Node = flat (map (seen_action (leaf result)) unit.body) in
    let ys : Lined Node = flat (map (seen_refinement unit.names) unit.refinements) in
    let first : Walked s m3 m4 (upto n (flat (map (seen_action (leaf result)) unit.body))) [] = subst (λ (zs : List Action). Walked s m3 m4 (upto n (flat (map (seen_action (leaf result)) zs))) []) body_is suite in
    let second : Walked s m4 m5 (upto n (flat (map (seen_refinement unit.names) unit.refinements))) [] = subst (λ (zs : List Refinement). Walked s m4 m5 (upto n (flat (map (seen_refinement unit.names) zs))) []) refs_is refinements in
    let whole : Walked s m3 m5 (upto n (seen_unit unit)) [] = upto_both s m3 m4 m5 n (flat (map (seen_action (leaf result)) unit.body)) (flat (map (seen_refinement unit.names) unit.refinements)) (seen_unit unit) refl bound3 first second in
    subst (λ o. Leads (own_scene s o) old m6 (λ y ts. (ts ≡ []) × HeadAndBody unit n y) []) (sym own_is)
    (unit_leads s sig old m1 m2 m3 m5 m6 unit n vars bound made_sig begun kept1 heading formals2 kind ready (upto n (seen_unit unit)) refl whole end)

-- one without
no_own : (v : ℕ → Ground) (own : Option SignatureVars) (t : Signature) → own ≡ None → option_map (signature_of v) own ≡ Some t → ⊥
no_own v own t e h = let f : None ≡ Some t = sym (ap (option_map (signature_of v)) e) ∙ h in cc

pub unit_nothing : (s : Scope) (own : Option SignatureVars) (old new : Drafted) (unit : Routine) (n : ℕ) (a : VarId) → own ≡ None → a.0 ≡ old.count → IsNever old new a → Leads (own_scene s own) old new (λ y ts. (ts ≡ []) × HeadAndBody unit n y) []
unit_nothing s own old new unit n a none number is = never_bare (own_scene s own) old new (λ y ts. (ts ≡ []) × HeadAndBody unit n y) a number is (λ v ts h. no_own v own h.1.0 none h.1.1)

-- ---- what a kind of unit has as its result
abbrev given_of : Option VarId → (ℕ → Ground) → Option Ground
given_of given v = type_of v given

has_some : (kind : TemplateKind) (g : Ground) → kind ≡ kinds.Function → HasResult kind (Some g)
has_some kind g e = subst (λ k. HasResult k (Some g)) (sym e) tt

pub function_some : (d : Drafted) (kind : TemplateKind) (given : Option VarId) (a : VarId) → kind ≡ kinds.Function → given ≡ Some a → Leads (λ v. type_of v given) d d (λ r ts. (ts ≡ []) × HasResult kind r) []
function_some d kind given a k e =
    any_leads (given_of given) d (λ r ts. (ts ≡ []) × HasResult kind r) (λ v. (refl, subst (λ o. HasResult kind (type_of v o)) (sym e) (has_some kind (v a.0) k))) (λ v t ts h. let f : t ∷ ts ≡ [] = h.0 in cc)

pub function_none : (old new : Drafted) (kind : TemplateKind) (given : Option VarId) (a : VarId) → kind ≡ kinds.Function → given ≡ None → a.0 ≡ old.count → IsNever old new a → Leads (λ v. type_of v given) old new (λ r ts. (ts ≡ []) × HasResult kind r) []
function_none old new kind given a k e number is =
    never_bare (given_of given) old new (λ r ts. (ts ≡ []) × HasResult kind r) a number is (λ v ts h. subst (λ q. HasResult q None) k (subst (λ o. HasResult kind (type_of v o)) e h.1))

none_fits : (kind : TemplateKind) (r : Option Ground) → (kind ≡ kinds.Command) ⊎ (kind ≡ kinds.Predicate) → r ≡ None → HasResult kind r
none_fits kind r (inl k) e = subst (λ q. HasResult q r) (sym k) (subst (λ o. HasResult kinds.Command o) (sym e) tt)
none_fits kind r (inr k) e = subst (λ q. HasResult q r) (sym k) (subst (λ o. HasResult kinds.Predicate o) (sym e) tt)

fits_none : (kind : TemplateKind) (r : Option Ground) → (kind ≡ kinds.Command) ⊎ (kind ≡ kinds.Predicate) → HasResult kind r → r ≡ None
fits_none kind None k h = refl
fits_none kind (Some g) (inl k) h = absurd (subst (λ q. HasResult q (Some g)) k h)
fits_none kind (Some g) (inr k) h = absurd (subst (λ q. HasResult q (Some g)) k h)

pub other_kind : (old new : Drafted) (kind : TemplateKind) (given : Option VarId) → (kind ≡ kinds.Command) ⊎ (kind ≡ kinds.Predicate) → Leads (λ v. type_of v given) old new (λ r ts. (ts ≡ []) × (r ≡ None)) [] → Leads (λ v. type_of v given) old new (λ r ts. (ts ≡ []) × HasResult kind r) []
other_kind old new kind given k l = leads_as (given_of given) old new (λ r ts. (ts ≡ []) × (r ≡ None)) (λ r ts. (ts ≡ []) × HasResult kind r) [] (λ r ts h. (h.0, none_fits kind r k h.1)) (λ r ts h. (h.0, fits_none kind r k h.1)) l

pub none_given : (d : Drafted) (given : Option VarId) → given ≡ None → Leads (λ v. type_of v given) d d (λ r ts. (ts ≡ []) × (r ≡ None)) []
none_given d given e = any_leads (given_of given) d (λ r ts. (ts ≡ []) × (r ≡ None)) (λ v. (refl, ap (type_of v) e)) (λ v t ts h. let f : t ∷ ts ≡ [] = h.0 in cc)

pub some_given : (old new : Drafted) (given : Option VarId) (a b : VarId) → given ≡ Some b → a.0 ≡ old.count → IsNever old new a → Leads (λ v. type_of v given) old new (λ r ts. (ts ≡ []) × (r ≡ None)) []
some_given old new given a b e number is =
    never_bare (given_of given) old new (λ r ts. (ts ≡ []) × (r ≡ None)) a number is (λ v ts h. let f : Some (v b.0) ≡ None = sym (ap (type_of v) e) ∙ h.1 in cc)

-- ---- a command
pub command_whole : (s : Scope) (old mid new : Drafted) (c : Command) (n : ℕ) → scope_bound s ≤ old.count → old.calls ≡ 0 → Walked s old mid (upto n (seen_command c)) [] → Leads (scene s) mid new (λ y ts. (ts ≡ []) × (drop mid.calls y.1 ≡ [])) []
    → Leads (scene s) old new (λ y ts. (ts ≡ []) × CommandBody c n y) []
command_whole s old mid new c n bound begun walked end = body_leads s old mid new (upto n (seen_command c)) bound begun walked end
