-- Signatures that units may have: over more groups, and as lists.
use Rattle.std.proofs.Common.{◌≡◌, subst, ℕ, zero, suc, List, [], ◌∷◌, Option, Some, ◌⊎◌, inl, inr, ◌↔◌, arith}
use Rattle.std.specs.Prelude.{◌<◌, ◌≤◌}
use Rattle.std.specs.List.{Contains}
use Rattle.std.proofs.lemmas.Bool.{cases_lt}
use Rattle.abc_num.specs.declared.types.Ground.{Ground}
use Rattle.abc_tree.specs.Calls.{unit_nodes}
use Rattle.abc_tree.specs.declared.templates.Template.{Template}
use Rattle.abc_tree.specs.declared.commands.Unit.{Unit as Routine}
use Rattle.abc_ground.specs.Fits.{Signature, Typing}
use Rattle.abc_ground.specs.Calls.{next_of, any_allowed, AreAllowed}
use Rattle.abc_ground.specs.Items.{UnitFits}
use Rattle.abc_ground.specs.Groups.{Cut, cut_of}
use Rattle.abc_ground.specs.Typable.{IsProperSignature, IsUsed, FitsAt, MayWithin}
use Rattle.abc_ground.proofs.CallsSeen.{unit_is_seen}
use Rattle.abc_ground.proofs.Listing.{units_listed, UnitListed}
use Rattle.abc_principal.proofs.Cutting.{some_of, first, behind, together_itself}

-- at what is allowed exactly where at a list of it
abbrev pub Listed : (Template → Option Signature → Type 0) → (List ℕ → Ground) → ℕ → Routine → Typing → Signature → Type 0
Listed allowed targets n unit g s = (ss : List (Option Signature)) × AreAllowed allowed (unit_nodes n unit) ss × UnitFits next_of targets n unit g s ss []

pub listed_as : (allowed : Template → Option Signature → Type 0) (targets : List ℕ → Ground) (n : ℕ) (unit : Routine) (g : Typing) (s : Signature) → UnitFits (any_allowed allowed) targets n unit g s tt tt ↔ Listed allowed targets n unit g s
listed_as allowed targets n unit g s = subst (λ ts. UnitListed allowed targets n unit g s ts) (unit_is_seen n unit) (units_listed allowed targets n unit g s)

pub allowed_more : (A B : Template → Option Signature → Type 0) (ts : List Template) (ss : List (Option Signature)) → ((t : Template) → Contains ts t → (o : Option Signature) → A t o → B t o) → AreAllowed A ts ss → AreAllowed B ts ss
allowed_more A B [] [] f a = tt
allowed_more A B [] (s ∷ ss) f a = absurd a
allowed_more A B (t ∷ ts) [] f a = absurd a
allowed_more A B (t ∷ ts) (s ∷ ss) f a = (f t (first t ts) s a.0, allowed_more A B ts ss (λ u at. f u (behind t ts u at)) a.1)

module _ (w : List Cut) (targets : List ℕ → Ground) where
  fits_more : (A B : Template → Option Signature → Type 0) → ((t : Template) (o : Option Signature) → A t o → B t o) → (c : Cut) (s : Signature) → FitsAt w targets A c s → FitsAt w targets B c s
  fits_more A B f c s h =
      let l : Listed A targets c.lines c.unit h.1.0 s = (listed_as A targets c.lines c.unit h.1.0 s).0 h.1.1 in
      (h.0, (h.1.0, (listed_as B targets c.lines c.unit h.1.0 s).1 (l.0, allowed_more A B (unit_nodes c.lines c.unit) l.0 (λ t at o a. f t o a) l.1, l.2)))

  used_more : (home : Template) (member : Template → Signature) (P Q : Template → Signature → Type 0) → ((u : Template) (g : Signature) → P u g → Q u g) → (t : Template) (o : Option Signature) → IsUsed w home member P t o → IsUsed w home member Q t o
  used_more home member P Q f t o h =
      record { missing = h.missing; inside = h.inside; outside = λ there no. let r : (g : Signature) × (o ≡ Some g) × P t g = h.outside there no in (r.0, r.1, f t r.0 r.2) }

  one_more : (n : ℕ) (t : Template) (s : Signature) → MayWithin w targets n t s → MayWithin w targets (suc n) t s
  one_more zero t s h = absurd h
  one_more (suc n) t s h = (
    h.0,
    (
      h.1.0,
      h.1.1,
      λ m c together e.
          fits_more (λ u o. IsUsed w t h.1.0 (λ u g. MayWithin w targets n u g) u o) (λ u o. IsUsed w t h.1.0 (λ u g. MayWithin w targets (suc n) u g) u o)
          (used_more t h.1.0 (λ u g. MayWithin w targets n u g) (λ u g. MayWithin w targets (suc n) u g) (one_more n)) c (h.1.0 m) (h.1.2 m c together e),
    ),
  )

  pub within_upto : (n m : ℕ) (t : Template) (s : Signature) → n ≤ m → MayWithin w targets n t s → MayWithin w targets m t s
  within_upto n zero t s le h = let e : n ≡ zero = omega (arith, le) in subst (λ k. MayWithin w targets k t s) e h
  within_upto n (suc m) t s le h = by (λ lt. within_upto n m t s lt h) (cases_lt n (suc m))
    where
      by : (n ≤ m → MayWithin w targets m t s) → (n < suc m) ⊎ (suc m ≤ n) → MayWithin w targets (suc m) t s
      by before (inl lt) = one_more m t s (before (omega (arith, lt)))
      by before (inr ge) = let e : n ≡ suc m = omega (arith, le, ge) in subst (λ k. MayWithin w targets k t s) e h

  pub proper_within : (n : ℕ) (t : Template) (s : Signature) → MayWithin w targets n t s → IsProperSignature s
  proper_within zero t s h = absurd h
  proper_within (suc n) t s h =
      let c : (c : Cut) × (cut_of t w ≡ Some c) = some_of (cut_of t w) h.0 in
      subst IsProperSignature h.1.1 (h.1.2 t c.0 (together_itself w t) c.1).0
