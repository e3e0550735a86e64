-- What is read for the members of a group is exactly what they may have.
use Rattle.std.proofs.Common.{◌≡◌, ◌∙◌, refl, ap, sym, subst, ℕ, List, [], ◌∷◌, length, map, arith}
use Rattle.std.specs.Prelude.{◌<◌, Option, None, Some, is_some, if◌then◌else◌}
use Rattle.std.specs.List.{All, Contains}
use Rattle.std.proofs.lemmas.List.{length-map, length-append}
use Rattle.std.proofs.lemmas.List.Elements.{All-nil, All-cons, All-head, All-tail}
use Rattle.abc_num.specs.Types.{IsProper}
use Rattle.abc_num.specs.declared.types.Ground.{Ground}
use Rattle.abc_num.specs.declared.types.Ground.TheVariants as type
use Rattle.abc_terms.specs.declared.term.VarId.{VarId}
use Rattle.abc_terms.specs.Demands.{Holds, MeetsAll}
use Rattle.abc_terms.specs.Nodes.{DemandIn}
use Rattle.abc_terms.proofs.Mending.{mended, mended_types, mended_is_proper, mended_proper, meets_mended}
use Rattle.abc_unify.specs.Graphs.{Seen}
use Rattle.abc_tree.specs.Ordered.{RiseBy}
use Rattle.abc_tree.specs.declared.formulas.Bound.{Bound, roll-Bound, map-Bound}
use Rattle.abc_tree.specs.declared.formulas.Bound.TheOpen.{Bound-F}
use Rattle.abc_tree.specs.declared.formulas.Bound.TheFolds.{fold-roll-Bound, ind-Bound}
use Rattle.abc_tree.specs.declared.templates.TemplateKind.{TemplateKind}
use Rattle.abc_tree.specs.declared.templates.TemplateKind.TheVariants as kind
use Rattle.abc_ground.specs.Seen.{Node, Nodes, node, nodes, leaf, name, fields, bound_seen, seen_bound}
use Rattle.abc_ground.specs.Calls.{next_of}
use Rattle.abc_ground.specs.Fits.{Signature, Typing, RuleFits, fits, each_fits}
use Rattle.abc_ground.specs.Groups.{Cut, template_of}
use Rattle.abc_ground.specs.Items.{HasResult}
use Rattle.abc_ground.specs.Typable.{IsProperSignature, May}
use Rattle.abc_demand.specs.declared.env.Signature.{Signature as SignatureVars}
use Rattle.abc_demand.specs.Typings.{signature_of, types_of, type_of, Agree}
use Rattle.abc_principal.specs.declared.principal.Principal.{Principal}
use Rattle.abc_principal.specs.Principals.{IsWhole, Has}
use Rattle.abc_principal.specs.Exact.{Known, AreProper, IsPrincipal, IsGroup, KnowsCalls, ArePrincipals, MayNothing, AllProper}
use Rattle.abc_principal.specs.inner.Grouped.{Each, gives_result, HasShape, MemberFits, AreSignatures, AreFitted, NoneFits, IsRead, AreRead}
use Rattle.abc_principal.specs.Calls.{Targets, own_of}
use Rattle.abc_principal.proofs.Asked.{proper_of, owns_alike}
use Rattle.abc_principal.proofs.Cutting.{one_found, first, behind, each_more, own_mapped, same_called, not_called}
use Rattle.abc_principal.proofs.Together.{may_have, together_at, TogetherAt}

meets_none : (v : ℕ → Ground) → MeetsAll v []
meets_none v = All-nil (Holds v)

-- ---- types that are mended

types_kept : (v : ℕ → Ground) (vars : List VarId) → All IsProper (types_of v vars) → types_of (mended_types v) vars ≡ types_of v vars
types_kept v [] proper = refl
types_kept v (a ∷ vars) proper =
    ap (λ g. g ∷ types_of (mended_types v) vars) (mended_proper (v a.0) (All-head IsProper (v a.0) (types_of v vars) proper)) ∙ ap (λ gs. v a.0 ∷ gs) (types_kept v vars (All-tail IsProper (v a.0) (types_of v vars) proper))

signature_kept : (v : ℕ → Ground) (own : SignatureVars) → IsProperSignature (signature_of v own) → signature_of (mended_types v) own ≡ signature_of v own
signature_kept v own proper =
    ap (λ gs. record { formals = gs; result = type_of (mended_types v) own.result }) (types_kept v own.formals proper.formals)
    ∙ ap (λ (g : Option Ground). record { formals = types_of v own.formals; result = g }) (result_kept own.result proper.result)
  where
    result_kept : (r : Option VarId) → ((g : Ground) → type_of v r ≡ Some g → IsProper g) → type_of (mended_types v) r ≡ type_of v r
    result_kept None h = refl
    result_kept (Some a) h = ap (λ (g : Ground). Some g) (mended_proper (v a.0) (h (v a.0) refl))

agree_kept : (vars : Targets) (v : ℕ → Ground) (targets : List ℕ → Ground) → AreProper targets → Agree vars v targets → Agree vars (mended_types v) targets
agree_kept vars v targets proper agree text a e = sym (mended_proper (targets text) (proper text)) ∙ ap mended (agree text a e)

-- ---- signatures that fit have the shape of their unit

-- a node that fits has one type
abbrev OneType : Node → Type 0
OneType x = (g : Typing) (ts : List Ground) (before after : List (Option Signature)) → fits next_of g x ts before after → length ts ≡ 1

name_one : (i : ℕ) → OneType (leaf (name i))
name_one i g ts before after h = one ts (subst (λ parts. RuleFits g (name i) parts ts) h.1.0 h.2)
  where
    one : (ts : List Ground) → RuleFits g (name i) [] ts → length ts ≡ 1
    one [] r = absurd r
    one (t ∷ []) r = refl
    one (t ∷ (u ∷ ts)) r = absurd r

fields_one : (xs : Nodes) → OneType (node fields xs)
fields_one xs g ts before after h = one h.0 ts h.2
  where
    one : (parts ts : List Ground) → RuleFits g fields parts ts → length ts ≡ 1
    one parts [] r = absurd r
    one parts (t ∷ []) r = refl
    one parts (t ∷ (u ∷ ts)) r = absurd r

abbrev HasOne : Bound → Type 0
HasOne b = OneType (seen_bound b)

layer : (y : Bound-F ((b : Bound) × HasOne b)) → HasOne (roll-Bound (map-Bound ((b : Bound) × HasOne b) Bound (λ e. e.0) y))
layer (Bound-F.One i) = subst OneType (sym (fold-roll-Bound Node bound_seen (Bound-F.One i))) (name_one i.0)
layer (Bound-F.Several es) = subst OneType (sym (fold-roll-Bound Node bound_seen (Bound-F.Several (map (λ e. e.0) es)))) (fields_one (nodes (map seen_bound (map (λ e. e.0) es))))

bound_one : (b : Bound) → HasOne b
bound_one = ind-Bound HasOne (λ x y is. subst (λ z. HasOne (roll-Bound z)) is (layer y))

heading_long : (g : Typing) (bs : List Bound) (own : List Ground) (before after : List (Option Signature)) → each_fits next_of g (nodes (map seen_bound bs)) own before after → length own ≡ length bs
heading_long g [] own before after h = ap length h.0
heading_long g (b ∷ bs) own before after h =
    let here : length h.0 ≡ 1 = bound_one b g h.0 before h.2 h.4 in
    let rest : length h.1 ≡ length bs = heading_long g bs h.1 h.2 after h.5 in
    ap length h.3 ∙ (length-append h.0 h.1 ∙ omega (arith, here, rest))

gives_so : (k : TemplateKind) (r : Option Ground) → HasResult k r → is_some r ≡ gives_result k
gives_so kind.Function None h = absurd h
gives_so kind.Function (Some g) h = refl
gives_so kind.Command None h = refl
gives_so kind.Command (Some g) h = absurd h
gives_so kind.Predicate None h = refl
gives_so kind.Predicate (Some g) h = absurd h

-- ---- the places of members

abbrev EachOwn : (Cut → SignatureVars → Type 0) → List Cut → List SignatureVars → Type 0
EachOwn P [] [] = Unit {0}
EachOwn P (c ∷ cs) (o ∷ os) = P c o × EachOwn P cs os
EachOwn P _ _ = ⊥

own_more : (P Q : Cut → SignatureVars → Type 0) (cs : List Cut) (os : List SignatureVars) → ((c : Cut) → Contains cs c → (o : SignatureVars) → P c o → Q c o) → EachOwn P cs os → EachOwn Q cs os
own_more P Q [] [] f h = tt
own_more P Q [] (o ∷ os) f h = absurd h
own_more P Q (c ∷ cs) [] f h = absurd h
own_more P Q (c ∷ cs) (o ∷ os) f h = (f c (first c cs) o h.0, own_more P Q cs os (λ d at. f d (behind c cs d at)) h.1)

-- each stands at its own place
own_placed : (cs : List Cut) (os : List SignatureVars) → RiseBy template_of cs → length os ≡ length cs → EachOwn (λ c o. own_of (template_of c) cs os ≡ Some o) cs os
own_placed [] [] rising long = tt
own_placed [] (o ∷ os) rising long = absurd (omega (arith, long))
own_placed (c ∷ cs) [] rising long = absurd (omega (arith, long))
own_placed (c ∷ cs) (o ∷ os) rising long = (
  ap (λ b. if b then Some o else own_of (template_of c) cs os) (same_called (template_of c) c refl),
  own_more (λ d z. own_of (template_of d) cs os ≡ Some z) (λ d z. own_of (template_of d) (c ∷ cs) (o ∷ os) ≡ Some z) cs os
      (λ d at z e. ap (λ b. if b then Some o else own_of (template_of d) cs os) (not_called c cs d rising.0 at) ∙ e) (own_placed cs os rising.1 (omega (arith, long))),
)

each_with : (P : Cut → Signature → Type 0) (Q : Signature → Type 0) (f : SignatureVars → Signature) (cs : List Cut) (os : List SignatureVars) → ((o : SignatureVars) → Q (f o)) → Each P cs (map f os) → Each (λ c s. P c s × Q s) cs (map f os)
each_with P Q f [] [] q h = tt
each_with P Q f [] (o ∷ os) q h = absurd h
each_with P Q f (c ∷ cs) [] q h = absurd h
each_with P Q f (c ∷ cs) (o ∷ os) q h = ((h.0, q o), each_with P Q f cs os q h.1)

module _ (start mid last : Seen) (vars : Targets) (members : List Cut) (known : Known) (owns : List SignatureVars) (empty : start.demands ≡ []) (signatures : AreSignatures start mid members owns) (w : List Cut) (group : IsGroup w members) (knows : KnowsCalls w members known) where
  -- types in which the signatures of members are these
  abbrev Assigned : List Signature → Type 0
  Assigned ss = (v : ℕ → Ground) × MeetsAll v mid.demands × (map (signature_of v) owns ≡ ss)

  shapes : (targets : List ℕ → Ground) (proper : AreProper targets) (ss : List Signature) → Each (λ c s. MemberFits members known ss targets c s × IsProperSignature s) members ss → Each HasShape members ss
  shapes targets proper ss each =
      each_more (λ c s. MemberFits members known ss targets c s × IsProperSignature s) HasShape members ss
      (λ c at s h. record { formals = heading_long h.0.0 c.unit.formals s.formals h.0.1 h.0.1 h.0.3.formals; gives = gives_so c.unit.template.kind s.result h.0.3.kind_of }) each

  assigned : (ss : List Signature) → Each HasShape members ss → Assigned ss
  assigned ss shape =
      let a : (v : ℕ → Ground) × ((i : ℕ) → i < start.count → v i ≡ type.Number) × (map (signature_of v) owns ≡ ss) = signatures.to (λ i. type.Number) ss shape in
      (a.0, subst (λ ds. MeetsAll a.0 ds) (sym (signatures.asked ∙ empty)) (meets_none a.0), a.2)

  fits_there : (v : ℕ → Ground) (targets : List ℕ → Ground) (ss : List Signature) → map (signature_of v) owns ≡ ss → Each (λ c s. MemberFits members known ss targets c s × IsProperSignature s) members ss → Each (MemberFits members known (map (signature_of v) owns) targets) members (map (signature_of v) owns)
  fits_there v targets ss e each = subst (λ zs. Each (MemberFits members known zs targets) members zs) (sym e) (each_more (λ c s. MemberFits members known ss targets c s × IsProperSignature s) (MemberFits members known ss targets) members ss (λ c at s h. h.0) each)

  pub never_fits : NoneFits members known owns mid [] members owns → MayNothing w members
  never_fits never targets c s proper in_c may =
      let t : TogetherAt w members known group knows targets proper c in_c s = together_at w members known group knows targets proper c in_c s may in
      let a : Assigned t.0 = assigned t.0 (shapes targets proper t.0 t.1) in
      never a.0 targets (λ text b e. absurd (cc)) a.1 (fits_there a.0 targets t.0 a.2 t.1)

  module _ (inside : All (DemandIn last.count) last.demands) (fitted : AreFitted members known owns mid last [] vars members owns) where
    one_exact : (c : Cut) → Contains members c → (own : SignatureVars) → own_of (template_of c) members owns ≡ Some own → (p : Principal) → IsRead last vars c own p → IsPrincipal w (template_of c) p
    one_exact c in_c own e p read = record { whole = read.whole; may = may; has = has }
      where
        may : (targets : List ℕ → Ground) (s : Signature) → AreProper targets → IsProperSignature s → Has p targets s → May w targets (template_of c) s
        may targets s proper s_proper had =
            let r : (v : ℕ → Ground) × MeetsAll v last.demands × Agree vars v targets × (signature_of v own ≡ s) = read.from targets s had in
            let u : ℕ → Ground = mended_types r.0 in
            let u_proper : AllProper u = λ a. mended_is_proper (r.0 a) in
            let each : Each (MemberFits members known (map (signature_of u) owns) targets) members (map (signature_of u) owns) =
            fitted.from u targets u_proper (agree_kept vars r.0 targets proper r.2) (meets_mended r.0 last.count last.demands inside r.1) in
            let same : signature_of u own ≡ s = signature_kept r.0 own (subst IsProperSignature (sym r.3) s_proper) ∙ r.3 in
            may_have w members known group knows targets proper (map (signature_of u) owns) (length-map owns (signature_of u) ∙ signatures.many) c in_c
            (each_with (MemberFits members known (map (signature_of u) owns) targets) IsProperSignature (signature_of u) members owns (λ o. proper_of u u_proper o) each) s
            (own_mapped (signature_of u) (template_of c) members owns own e ∙ ap Some same)

        has : (targets : List ℕ → Ground) (s : Signature) → AreProper targets → May w targets (template_of c) s → Has p targets s
        has targets s proper m =
            let t : TogetherAt w members known group knows targets proper c in_c s = together_at w members known group knows targets proper c in_c s m in
            let a : Assigned t.0 = assigned t.0 (shapes targets proper t.0 t.1) in
            let q : (u : ℕ → Ground) × ((i : ℕ) → i < mid.count → u i ≡ a.0 i) × Agree vars u targets × MeetsAll u last.demands = fitted.to a.0 targets (λ text b e. absurd (cc)) a.1 (fits_there a.0 targets t.0 a.2 t.1) in
            let all : map (signature_of q.0) owns ≡ t.0 = owns_alike mid.count q.0 a.0 q.1 owns signatures.made ∙ a.2 in
            let same : signature_of q.0 own ≡ s = one_found (own_of (template_of c) members t.0) (signature_of q.0 own) s (ap (λ zs. own_of (template_of c) members zs) (sym all) ∙ own_mapped (signature_of q.0) (template_of c) members owns own e) t.2 in
            subst (λ z. Has p targets z) same (read.to targets q.0 q.3 q.2)

    each_exact : (cs : List Cut) (os : List SignatureVars) (ps : List Principal) → ((c : Cut) → Contains cs c → Contains members c) → EachOwn (λ c o. own_of (template_of c) members owns ≡ Some o) cs os → AreRead last vars cs os ps → ArePrincipals w cs ps
    each_exact [] [] [] part own read = tt
    each_exact [] [] (p ∷ ps) part own read = absurd read
    each_exact [] (o ∷ os) ps part own read = absurd own
    each_exact (c ∷ cs) [] ps part own read = absurd own
    each_exact (c ∷ cs) (o ∷ os) [] part own read = absurd read
    each_exact (c ∷ cs) (o ∷ os) (p ∷ ps) part own read =
        (read.0.template, one_exact c (part c (first c cs)) o own.0 p read.0, each_exact cs os ps (λ d at. part d (behind c cs d at)) own.1 read.1)

    pub all_exact : (ps : List Principal) → AreRead last vars members owns ps → ArePrincipals w members ps
    all_exact ps read = each_exact members owns ps (λ c at. at) (own_placed members owns group.rising signatures.many) read

-- each of them is whole
pub all_whole : (g : Seen) (vars : Targets) (cs : List Cut) (owns : List SignatureVars) (ps : List Principal) → AreRead g vars cs owns ps → All IsWhole ps
all_whole g vars [] [] [] read = All-nil IsWhole
all_whole g vars [] [] (p ∷ ps) read = absurd read
all_whole g vars [] (o ∷ owns) ps read = absurd read
all_whole g vars (c ∷ cs) [] ps read = absurd read
all_whole g vars (c ∷ cs) (o ∷ owns) [] read = absurd read
all_whole g vars (c ∷ cs) (o ∷ owns) (p ∷ ps) read = All-cons IsWhole p ps read.0.whole (all_whole g vars cs owns ps read.1)
