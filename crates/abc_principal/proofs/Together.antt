-- The signatures that a unit may have are those at which all members of its group fit together.
use Rattle.std.proofs.Common.{◌≡◌, ◌∙◌, refl, ap, sym, subst, ℕ, zero, suc, ◌+◌, List, [], ◌∷◌, map, length, Option, Some, None, arith}
use Rattle.std.specs.Prelude.{◌≤◌, IsSome}
use Rattle.std.specs.List.{Contains}
use Rattle.abc_num.specs.declared.types.Ground.{Ground}
use Rattle.abc_tree.specs.Calls.{unit_nodes}
use Rattle.abc_tree.specs.Templates.{template_text}
use Rattle.abc_tree.specs.declared.templates.Template.{Template}
use Rattle.abc_ground.specs.Fits.{Signature}
use Rattle.abc_ground.specs.Calls.{AreAllowed}
use Rattle.abc_ground.specs.Groups.{Cut, cut_of, template_of, AreTogether}
use Rattle.abc_ground.specs.Typable.{IsProperSignature, IsUsed, FitsAt, MayWithin, May}
use Rattle.abc_principal.specs.declared.principal.Principal.{Principal}
use Rattle.abc_principal.specs.Principals.{Has}
use Rattle.abc_principal.specs.Exact.{Known, known_of, AreProper, IsPrincipal, IsGroup, KnowsCalls}
use Rattle.abc_principal.specs.inner.Grouped.{Each, MemberFits}
use Rattle.abc_principal.specs.Calls.{own_of, IsCall, IsKnownCall, MayCall}
use Rattle.abc_principal.proofs.Cutting.{some_of, is_there, not_none, first, behind, cut_same, found_text, together_then, together_text, own_found, own_made, own_there, each_long, each_made, each_own}
use Rattle.abc_principal.proofs.Levels.{Listed, listed_as, allowed_more, within_upto, proper_within}

abbrev or_nothing : Option Signature → Signature
or_nothing None = record { formals = []; result = None }
or_nothing (Some s) = s

module _ (w members : List Cut) (known : Known) (group : IsGroup w members) (knows : KnowsCalls w members known) (targets : List ℕ → Ground) (proper : AreProper targets) where
  -- a member fits at a signature that is proper
  abbrev pub Fits : List Signature → Cut → Signature → Type 0
  Fits own c s = MemberFits members known own targets c s × IsProperSignature s

  -- what is called there is together with each member
  together_call : (home d : Cut) (t : Template) → Contains members home → Contains members d → template_text (template_of d) ≡ template_text t → AreTogether w (template_of home) t
  together_call home d t at in_d e = together_text w (template_of home) (template_of d) t e (group.together home d at in_d)

  call_cut : (d : Cut) (t : Template) → Contains members d → template_text (template_of d) ≡ template_text t → cut_of t w ≡ Some d
  call_cut d t in_d e = cut_same w t (template_of d) (sym e) ∙ group.there d in_d

  -- ---- signatures at which all fit are those that the members may have
  module _ (own : List Signature) (long : length own ≡ length members) (home : Cut) (home_in : Contains members home) where
    abbrev member : Template → Signature
    member t = or_nothing (own_of t members own)

    abbrev Uses : ℕ → Template → Option Signature → Type 0
    Uses m t o = IsUsed w (template_of home) member (λ u g. MayWithin w targets m u g) t o

    abbrev FromLevel : (ℕ → Type 0) → Type 0
    FromLevel P = (n : ℕ) × ((m : ℕ) → n ≤ m → P m)

    call_level : (c : Cut) → Contains members c → (t : Template) → Contains (unit_nodes c.lines c.unit) t → (o : Option Signature) → MayCall members known own targets t o → FromLevel (λ m. Uses m t o)
    call_level c in_c t at o h = by_cut (cut_of t w) refl (own_of t members own) refl h
      where
        by_cut : (cut : Option Cut) → cut_of t w ≡ cut → (q : Option Signature) → own_of t members own ≡ q → IsCall q (known_of known (template_text t)) targets o → FromLevel (λ m. Uses m t o)
        by_cut None is (Some x) e k = let d = own_found t members own x e in absurd (not_none (cut_of t w) d.0 (call_cut d.0 t d.1 d.2) is)
        by_cut None is None e k =
            let o_none : o ≡ None = subst (λ p. IsKnownCall p targets o) (knows.missing c t in_c at is) k in
            (0, λ m le. record { missing = λ none. o_none; inside = λ there together. absurd (gone there); outside = λ there no. absurd (gone there) })
          where
            gone : IsSome (cut_of t w) → ⊥
            gone there = let r = some_of (cut_of t w) there in not_none (cut_of t w) r.0 r.1 is
        by_cut (Some d) is (Some x) e k =
            let f = own_found t members own x e in
            let is_together : AreTogether w (template_of home) t = together_call home f.0 t home_in f.1 f.2 in
            (0, λ m le. record { missing = λ none. absurd (not_none (cut_of t w) d is none); inside = λ there together. k ∙ ap Some (sym (ap or_nothing e)); outside = λ there no. absurd (no is_together) })
        by_cut (Some d) is None e k =
            let p : (p : Principal) × (known_of known (template_text t) ≡ Some p) × IsPrincipal w t p =
            knows.outside c t in_c at (is_there (cut_of t w) d is) (λ together. apart (together_then w (template_of home) (template_of c) t (group.together home c home_in in_c) together)) in
            let call : (s : Signature) × (o ≡ Some s) × IsProperSignature s × Has p.0 targets s = subst (λ q. IsKnownCall q targets o) p.1 k in
            let may : May w targets t call.0 = p.2.may targets call.0 proper call.2 call.3 in (
              may.0,
              λ m le.
                  record {
                    missing = λ none. absurd (not_none (cut_of t w) d is none);
                    inside = λ there together. absurd (apart together);
                    outside = λ there no. (call.0, call.1, within_upto w targets may.0 m t call.0 le may.1);
                  },
            )
          where
            apart : AreTogether w (template_of home) t → ⊥
            apart together =
                let in_d : Contains members d = group.all home d t home_in together is in
                let r = own_there t members own d long in_d (found_text t w d is) in
                not_none (own_of t members own) r.0 r.1 e

    calls_level : (c : Cut) → Contains members c → (ts : List Template) → ((t : Template) → Contains ts t → Contains (unit_nodes c.lines c.unit) t) → (ss : List (Option Signature)) → AreAllowed (MayCall members known own targets) ts ss → FromLevel (λ m. AreAllowed (Uses m) ts ss)
    calls_level c in_c [] part [] a = (0, λ m le. tt)
    calls_level c in_c [] part (s ∷ ss) a = absurd a
    calls_level c in_c (t ∷ ts) part [] a = absurd a
    calls_level c in_c (t ∷ ts) part (s ∷ ss) a =
        let one : FromLevel (λ m. Uses m t s) = call_level c in_c t (part t (first t ts)) s a.0 in
        let rest : FromLevel (λ m. AreAllowed (Uses m) ts ss) = calls_level c in_c ts (λ u at. part u (behind t ts u at)) ss a.1 in
        (one.0 + rest.0, λ m le. (one.1 m (omega (arith, le)), rest.1 m (omega (arith, le))))

    member_level : (c : Cut) → Contains members c → (s : Signature) → Fits own c s → FromLevel (λ m. FitsAt w targets (Uses m) c s)
    member_level c in_c s f =
        let l : FromLevel (λ m. AreAllowed (Uses m) (unit_nodes c.lines c.unit) f.0.1) = calls_level c in_c (unit_nodes c.lines c.unit) (λ t at. at) f.0.1 f.0.2 in
        (l.0, λ m le. (f.1, (f.0.0, (listed_as (Uses m) targets c.lines c.unit f.0.0 s).1 (f.0.1, l.1 m le, f.0.3))))

    group_level : (cs : List Cut) → ((c : Cut) → Contains cs c → Contains members c) → (ss : List Signature) → Each (Fits own) cs ss → FromLevel (λ m. Each (FitsAt w targets (Uses m)) cs ss)
    group_level [] part [] h = (0, λ m le. tt)
    group_level [] part (s ∷ ss) h = absurd h
    group_level (c ∷ cs) part [] h = absurd h
    group_level (c ∷ cs) part (s ∷ ss) h =
        let one : FromLevel (λ m. FitsAt w targets (Uses m) c s) = member_level c (part c (first c cs)) s h.0 in
        let rest : FromLevel (λ m. Each (FitsAt w targets (Uses m)) cs ss) = group_level cs (λ d at. part d (behind c cs d at)) ss h.1 in
        (one.0 + rest.0, λ m le. (one.1 m (omega (arith, le)), rest.1 m (omega (arith, le))))

    pub may_have : Each (Fits own) members own → (s : Signature) → own_of (template_of home) members own ≡ Some s → May w targets (template_of home) s
    may_have each s e =
        let l : FromLevel (λ m. Each (FitsAt w targets (Uses m)) members own) = group_level members (λ c at. at) own each in
        let n : ℕ = l.0 in
        let all : Each (FitsAt w targets (Uses n)) members own = l.1 n (omega arith) in (
          suc n,
          (
            is_there (cut_of (template_of home) w) home (group.there home home_in),
            (
              member,
              ap or_nothing e,
              λ m d together is.
                  let in_d : Contains members d = group.all home d m home_in together is in
                  let r : (z : Signature) × (own_of m members own ≡ Some z) × FitsAt w targets (Uses n) d z = each_own (FitsAt w targets (Uses n)) m members own d group.rising all in_d (found_text m w d is) in
                  subst (λ z. FitsAt w targets (Uses n) d z) (sym (ap or_nothing r.1)) r.2,
            ),
          ),
        )

  -- ---- and back
  module _ (home : Cut) (home_in : Contains members home) where
    -- all members fit at these
    abbrev pub TogetherAt : Signature → Type 0
    TogetherAt s = (own : List Signature) × Each (Fits own) members own × (own_of (template_of home) members own ≡ Some s)

    pub together_at : (s : Signature) → May w targets (template_of home) s → TogetherAt s
    together_at s (zero, h) = absurd h
    together_at s (suc n, h) = (own, each_made (Fits own) at_template members fits, own_is)
      where
        member : Template → Signature
        member = h.1.0

        at_template : Cut → Signature
        at_template c = member (template_of c)

        own : List Signature
        own = map at_template members

        call_back : (c : Cut) → Contains members c → (t : Template) → Contains (unit_nodes c.lines c.unit) t → (o : Option Signature) → IsUsed w (template_of home) member (λ u g. MayWithin w targets n u g) t o → MayCall members known own targets t o
        call_back c in_c t at o u = by_own (own_of t members own) refl
          where
            by_cut : own_of t members own ≡ None → (cut : Option Cut) → cut_of t w ≡ cut → IsKnownCall (known_of known (template_text t)) targets o
            by_cut e None is = subst (λ p. IsKnownCall p targets o) (sym (knows.missing c t in_c at is)) (u.missing is)
            by_cut e (Some d) is =
                let there : IsSome (cut_of t w) = is_there (cut_of t w) d is in
                let r : (g : Signature) × (o ≡ Some g) × MayWithin w targets n t g = u.outside there apart in
                let p : (p : Principal) × (known_of known (template_text t) ≡ Some p) × IsPrincipal w t p =
                knows.outside c t in_c at there (λ together. apart (together_then w (template_of home) (template_of c) t (group.together home c home_in in_c) together)) in
                subst (λ q. IsKnownCall q targets o) (sym p.1) (r.0, r.1, proper_within w targets n t r.0 r.2, p.2.has targets r.0 proper (n, r.2))
              where
                apart : AreTogether w (template_of home) t → ⊥
                apart together =
                    let in_d : Contains members d = group.all home d t home_in together is in
                    let x = own_there t members own d (each_long (λ c s. Unit {0}) members own (each_made (λ c s. Unit {0}) at_template members (λ c at. tt))) in_d (found_text t w d is) in
                    not_none (own_of t members own) x.0 x.1 e

            by_own : (q : Option Signature) → own_of t members own ≡ q → IsCall q (known_of known (template_text t)) targets o
            by_own (Some x) e =
                let d : (d : Cut) × Contains members d × (template_text (template_of d) ≡ template_text t) × (x ≡ at_template d) = own_made at_template t members x e in
                let same : t ≡ template_of d.0 = group.spelled c d.0 t in_c d.1 at (sym d.2) in
                u.inside (is_there (cut_of t w) d.0 (call_cut d.0 t d.1 d.2)) (together_call home d.0 t home_in d.1 d.2) ∙ ap (λ z. Some (member z)) same ∙ ap Some (sym d.3)
            by_own None e = by_cut e (cut_of t w) refl

        uses : Template → Option Signature → Type 0
        uses t o = IsUsed w (template_of home) member (λ u g. MayWithin w targets n u g) t o

        fits : (c : Cut) → Contains members c → Fits own c (at_template c)
        fits c in_c =
            let f : FitsAt w targets uses c (at_template c) = h.1.2 (template_of c) c (group.together home c home_in in_c) (group.there c in_c) in
            let l : Listed uses targets c.lines c.unit f.1.0 (at_template c) = (listed_as uses targets c.lines c.unit f.1.0 (at_template c)).0 f.1.1 in
            ((f.1.0, l.0, allowed_more uses (MayCall members known own targets) (unit_nodes c.lines c.unit) l.0 (λ t at o a. call_back c in_c t at o a) l.1, l.2), f.0)

        own_is : own_of (template_of home) members own ≡ Some s
        own_is =
            let r : (z : Signature) × (own_of (template_of home) members own ≡ Some z) × (z ≡ at_template home) =
            each_own (λ c z. z ≡ at_template c) (template_of home) members own home group.rising (each_made (λ c z. z ≡ at_template c) at_template members (λ c at. refl)) home_in refl in
            r.1 ∙ ap Some (r.2 ∙ h.1.1)
