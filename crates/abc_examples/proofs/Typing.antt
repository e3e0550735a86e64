-- What fits a node of two parts of one type, and a unit that calls no other. By these lemmas the rows on types are told.
use Rattle.std.specs.Prelude.{◌≡◌, ℕ, zero, suc, List, [], ◌∷◌, ◌++◌, Option, Some, None, is_some}
use Rattle.std.proofs.Common.{◌∙◌, ap, sym, subst, refl}
use Rattle.std.specs.Ordering.{match_ordering}
use Rattle.std.specs.declared.cmp.Ordering.{Ordering}
use Rattle.std.specs.declared.cmp.Ordering.TheVariants.{Less, Equal, Greater}
use Rattle.abc_num.specs.declared.types.Ground.{Ground, out-Ground}
use Rattle.abc_num.specs.declared.types.Ground.TheOpen.{Ground-F}
use Rattle.abc_num.specs.declared.types.Ground.TheVariants as type
use Rattle.abc_terms.proofs.Grounds.{out_number, out_text}
use Rattle.abc_tree.specs.Templates.{template_cmp}
use Rattle.abc_tree.specs.declared.templates.Template.{Template}
use Rattle.abc_ground.specs.Seen.{Rule, Nodes, numeral, characters, name, result, leaf, over_two, one_type, no_nodes, more}
use Rattle.abc_ground.specs.Fits.{Signature, Typing, AreAll, RuleFits, fits, each_fits}
use Rattle.abc_ground.specs.Groups.{Cut, cut_of, template_of}
use Rattle.abc_ground.specs.Typable.{FitsAt, IsUsed, MayWithin, May}

pub number_is_no_text : type.Number ≡ type.Text → ⊥
number_is_no_text same = let f : Ground-F.Number ≡ Ground-F.Text = sym out_number ∙ (ap out-Ground same ∙ out_text) in cc

-- a command of two parts that have one type, as PUT and RETURN, and as a test by a sign
abbrev pub pair : Rule → Rule → Nodes
pair a b = more (over_two one_type (leaf a) (leaf b)) no_nodes

-- what fits this has one type
abbrev pub HasOne : Rule → Type 0
HasOne r = (g : Typing) (own : List Ground) → RuleFits g r [] own → (t : Ground) × (own ≡ t ∷ [])

pub numeral_has_one : HasOne numeral
numeral_has_one g [] h = absurd h
numeral_has_one g (t ∷ []) h = (t, refl)
numeral_has_one g (t ∷ u ∷ ts) h = absurd h

pub characters_have_one : HasOne characters
characters_have_one g [] h = absurd h
characters_have_one g (t ∷ []) h = (t, refl)
characters_have_one g (t ∷ u ∷ ts) h = absurd h

pub name_has_one : (i : ℕ) → HasOne (name i)
name_has_one i g [] h = absurd h
name_has_one i g (t ∷ []) h = (t, refl)
name_has_one i g (t ∷ u ∷ ts) h = absurd h

pub result_has_one : HasOne result
result_has_one g [] h = absurd h
result_has_one g (t ∷ []) h = (t, refl)
result_has_one g (t ∷ u ∷ ts) h = absurd h

module _ (uses : Template → Unit {0} → Option Signature → Unit {0} → Type 0) (g : Typing) where
  -- a node without parts fits as its rule says
  pub leaf_rule : (r : Rule) (own : List Ground) → fits uses g (leaf r) own tt tt → RuleFits g r [] own
  leaf_rule r own h = subst (λ parts. RuleFits g r parts own) h.1.0 h.2

  pub pair_fits : (a b : Rule) (e : Ground) → RuleFits g a [] (e ∷ []) → RuleFits g b [] (e ∷ []) → each_fits uses g (pair a b) [] tt tt
  pair_fits a b e first second = (
    [],
    [],
    tt,
    refl,
    (e ∷ e ∷ [], (e ∷ [], e ∷ [], tt, refl, ([], (refl, refl), first), (e ∷ [], [], tt, refl, ([], (refl, refl), second), (refl, refl))), (e, (refl, (refl, tt)))),
    (refl, refl),
  )

  -- both parts have one type
  pub pair_rule : (a b : Rule) → HasOne a → HasOne b → each_fits uses g (pair a b) [] tt tt → (e : Ground) × RuleFits g a [] (e ∷ []) × RuleFits g b [] (e ∷ [])
  pair_rule a b one_a one_b h = by_whole h.0 h.1 h.3 h.4
    where
      Both : Type 0
      Both = (e : Ground) × RuleFits g a [] (e ∷ []) × RuleFits g b [] (e ∷ [])

      by_parts : (parts : List Ground) → each_fits uses g (more (leaf a) (more (leaf b) no_nodes)) parts tt tt → RuleFits g one_type parts [] → Both
      by_parts parts k same =
          let first : RuleFits g a [] k.0 = leaf_rule a k.0 k.4 in
          let second : RuleFits g b [] k.5.0 = leaf_rule b k.5.0 k.5.4 in
          let t = one_a g k.0 first in
          let u = one_b g k.5.0 second in
          let tail : k.1 ≡ u.0 ∷ [] = k.5.3 ∙ (ap (λ rest. k.5.0 ++ rest) k.5.5.0 ∙ ap (λ own. own ++ []) u.1) in
          let whole : parts ≡ t.0 ∷ u.0 ∷ [] = k.3 ∙ (ap (λ rest. k.0 ++ rest) tail ∙ ap (λ own. own ++ (u.0 ∷ [])) t.1) in
          let all : AreAll same.0 (t.0 ∷ u.0 ∷ []) = subst (AreAll same.0) whole same.1 in
          (same.0, subst (λ x. RuleFits g a [] (x ∷ [])) all.0 (subst (λ own. RuleFits g a [] own) t.1 first), subst (λ x. RuleFits g b [] (x ∷ [])) all.1.0 (subst (λ own. RuleFits g b [] own) u.1 second))

      by_whole : (one rest : List Ground) → [] ≡ one ++ rest → fits uses g (over_two one_type (leaf a) (leaf b)) one tt tt → Both
      by_whole [] rest e k = by_parts k.0 k.1 k.2
      by_whole (t ∷ one) rest e k = absurd (cc)

-- ---- a workspace of one unit, which calls no other

pub cut_is : (t : Template) (c d : Cut) → cut_of t (c ∷ []) ≡ Some d → c ≡ d
cut_is t c d = by (template_cmp (template_of c) t)
  where
    by : (o : Ordering) → match_ordering o None (Some c) None ≡ Some d → c ≡ d
    by Less e = absurd (cc)
    by Equal e = cc
    by Greater e = absurd (cc)

module _ (c : Cut) (targets : List ℕ → Ground) where
  abbrev Allowed : Type 1
  Allowed = Template → Option Signature → Type 0

  abbrev w : List Cut
  w = c ∷ []

  module _ (t : Template) (s : Signature) (found : cut_of t w ≡ Some c) where
    -- it may have a signature at which it fits
    pub may_alone : ((allowed : Allowed) → FitsAt w targets allowed c s) → May w targets t s
    may_alone fit = (1, (ap is_some found, ((λ m. s), refl, λ m d together is. subst (λ x. FitsAt w targets (λ u o. IsUsed w t (λ v. s) (λ v z. MayWithin w targets 0 v z) u o) x s) (cut_is m c d is) (fit _))))

    -- and no other
    pub alone_fits : {P : Type 0} → May w targets t s → ((allowed : Allowed) → FitsAt w targets allowed c s → P) → P
    alone_fits (zero, h) go_on = absurd h
    alone_fits (suc n, h) go_on = go_on _ (subst (λ x. FitsAt w targets (λ u o. IsUsed w t h.1.0 (λ v z. MayWithin w targets n v z) u o) c x) h.1.1 (h.1.2 t c ((0, refl), (0, refl)) found))
