-- Templates that are written alike: what one may have, the other may have some of.
use Rattle.std.proofs.Common.{◌≡◌, ◌∙◌, ℕ, zero, suc, List, [], ◌∷◌, sym, subst, refl}
use Rattle.std.specs.Prelude.{Option, Some, IsSome}
use Rattle.std.specs.List.{Contains, AllByRecursion}
use Rattle.abc_num.specs.declared.types.Ground.{Ground}
use Rattle.abc_tree.specs.Templates.{template_text}
use Rattle.abc_tree.specs.declared.templates.Template.{Template}
use Rattle.abc_tree.specs.declared.commands.Unit.{Unit as Routine}
use Rattle.abc_ground.specs.Calls.{any_allowed, next_of, each_templates, AreAllowed}
use Rattle.abc_ground.specs.Fits.{Signature, Typing}
use Rattle.abc_ground.specs.Groups.{Cut, cut_of, called, Way, AreTogether}
use Rattle.abc_ground.specs.Items.{UnitFits}
use Rattle.abc_ground.specs.Seen.{unit_upto}
use Rattle.abc_ground.specs.Typable.{IsUsed, FitsAt, MayWithin, May}
use Rattle.abc_ground.proofs.Listing.{units_listed}
use Rattle.abc_fewer.proofs.Ways.{cut_same}
use Rattle.abc_check.proofs.Offering.{allowed_weaker}

-- a unit that fits at what is allowed fits at what is weaker
any_template : (ts : List Template) → AllByRecursion (λ t. Unit {0}) ts
any_template [] = tt
any_template (t ∷ ts) = (tt, any_template ts)

fits_weaker : (P Q : Template → Option Signature → Type 0) → ((t : Template) (o : Option Signature) → P t o → Q t o) → (targets : List ℕ → Ground) (n : ℕ) (unit : Routine) (g : Typing) (s : Signature)
    → UnitFits (any_allowed P) targets n unit g s tt tt → UnitFits (any_allowed Q) targets n unit g s tt tt
fits_weaker P Q f targets n unit g s h =
    let l : (ss : List (Option Signature)) × AreAllowed P (each_templates (unit_upto n unit)) ss × UnitFits next_of targets n unit g s ss [] = (units_listed P targets n unit g s).0 h in
    (units_listed Q targets n unit g s).1 (l.0, allowed_weaker (λ t. Unit {0}) P Q (λ t o u p. f t o p) (each_templates (unit_upto n unit)) l.0 (any_template (each_templates (unit_upto n unit))) l.1, l.2)

module _ (w : List Cut) (a b : Template) (alike : template_text a ≡ template_text b) where
  way_before : (n : ℕ) (m : Template) → Way w n a m → Way w n b m
  way_before zero m h = sym alike ∙ h
  way_before (suc n) m h = (h.0, subst (λ o. Contains (called o) h.0) (cut_same w a b alike) h.1, h.2)

  way_behind : (n : ℕ) (m : Template) → Way w n m a → Way w n m b
  way_behind zero m h = h ∙ alike
  way_behind (suc n) m h = (h.0, h.1, way_behind n h.0 h.2)

  pub together_alike : (m : Template) → AreTogether w a m → AreTogether w b m
  together_alike m t = ((t.0.0, way_before t.0.0 m t.0.1), (t.1.0, way_behind t.1.0 m t.1.1))

module _ (w : List Cut) (targets : List ℕ → Ground) (a b : Template) (alike : template_text a ≡ template_text b) where
  used_alike : (member : Template → Signature) (may : Template → Signature → Type 0) (t : Template) (o : Option Signature) → IsUsed w a member may t o → IsUsed w b member may t o
  used_alike member may t o u = record {
    missing = u.missing;
    inside = λ some together. u.inside some (together_alike w b a (sym alike) t together);
    outside = λ some apart. u.outside some (λ together. apart (together_alike w a b alike t together));
  }

  pub may_alike : (s : Signature) → May w targets a s → (r : Signature) × May w targets b r
  may_alike s (n, h) = by_level n h
    where
      by_level : (k : ℕ) → MayWithin w targets k a s → (r : Signature) × May w targets b r
      by_level zero h = absurd h
      by_level (suc k) h =
          let before : Template → Option Signature → Type 0 = λ u o. IsUsed w a h.1.0 (λ v g. MayWithin w targets k v g) u o in
          let behind : Template → Option Signature → Type 0 = λ u o. IsUsed w b h.1.0 (λ v g. MayWithin w targets k v g) u o in
          let fits : (m : Template) (c : Cut) → AreTogether w b m → cut_of m w ≡ Some c → FitsAt w targets behind c (h.1.0 m) = λ m c together is.
          let f : FitsAt w targets before c (h.1.0 m) = h.1.2 m c (together_alike w b a (sym alike) m together) is in
          (f.0, (f.1.0, fits_weaker before behind (used_alike h.1.0 (λ v g. MayWithin w targets k v g)) targets c.lines c.unit f.1.0 (h.1.0 m) f.1.1)) in
          (h.1.0 b, (suc k, (subst (λ (o : Option Cut). IsSome o) (cut_same w a b alike) h.0, (h.1.0, refl, fits))))
