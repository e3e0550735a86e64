-- The values of targets, one after the other in the order of their names.
use Rattle.std.proofs.Common.{◌≡◌, ◌∙◌, ℕ, zero, suc, ◌+◌, List, [], ◌∷◌, ◌++◌, take, cond, ap, sym, subst, refl, append_assoc}
use Rattle.std.specs.Prelude.{Some, None, slice_get}
use Rattle.std.specs.List.Sorted.{IsStrictlySortedBy}
use Rattle.std.specs.Map.{keys_of}
use Rattle.std.specs.Ordering.{is_eq}
use Rattle.std.specs.declared.cmp.Ordering.TheVariants.{Less, Equal, Greater}
use Rattle.std.proofs.lemmas.List.Elements.{All-take}
use Rattle.abc_num.specs.Text.{text_cmp}
use Rattle.abc_num.specs.declared.types.Ground.{Ground}
use Rattle.abc_value.specs.Tree.{Tree}
use Rattle.abc_value.specs.Types.{has}
use Rattle.abc_frames.specs.Maps.{Targets, AreRising, value_of}
use Rattle.abc_frames.proofs.Merging.{itself, turned, IsBelow}
use Rattle.abc_terms.specs.declared.term.VarId.{VarId}
use Rattle.abc_terms.specs.declared.demand.Demand.{Demand}
use Rattle.abc_ground.specs.Groups.{Cut}
use Rattle.abc_ground.specs.Typable.{AreTypes, IsTypable}
use Rattle.abc_check.specs.Standing.{AreAsked}
use Rattle.abc_check.proofs.PartVars.{take_next}

-- a name that is greater than another
below_at : (n : List ℕ) (es : Targets) (i : ℕ) (m : List ℕ) → IsBelow n (keys_of es) → slice_get (keys_of es) i ≡ Some m → text_cmp n m ≡ Less
below_at n [] i m b at = absurd (cc)
below_at n (e ∷ es) zero m b at = let f : e.0 ≡ m = cc in subst (λ k. text_cmp n k ≡ Less) f b.0
below_at n (e ∷ es) (suc i) m b at = below_at n es i m b.1 at

-- each name has the value that stands beside it
pub own_value : (es : Targets) (i : ℕ) (n : List ℕ) → AreRising es → slice_get (keys_of es) i ≡ Some n → (value : Tree) × (slice_get es i ≡ Some (n, value)) × (value_of n es ≡ Some value)
unfolding IsStrictlySortedBy
own_value [] i n rising at = absurd (cc)
own_value (e ∷ es) zero n rising at =
    let f : e.0 ≡ n = cc in
    (e.1, ap (λ k. Some (k, e.1)) f, ap (λ o. cond (is_eq o) (Some e.1) (value_of n es)) (subst (λ k. text_cmp n k ≡ Equal) (sym f) (itself n)))
own_value (e ∷ es) (suc i) n rising at =
    let r : (value : Tree) × (slice_get es i ≡ Some (n, value)) × (value_of n es ≡ Some value) = own_value es i n rising.1 at in
    let greater : text_cmp n e.0 ≡ Greater = turned e.0 n (below_at e.0 es i n rising.0 at) in
    (r.0, r.1, ap (λ o. cond (is_eq o) (Some e.1) (value_of n es)) greater ∙ r.2)

-- types of all targets are types of the first ones
pub first_types : (es : Targets) (i : ℕ) (w : List Cut) (types : List ℕ → Ground) → AreTypes es w types → AreTypes (take i es) w types
first_types es i w types are = record { proper = are.proper; held = All-take (λ (p : List ℕ × Tree). has p.1 (types p.0)) i es are.held; units = are.units }

-- one target more, of those whose names these are
module _ (es : Targets) (i : ℕ) (names : List (List ℕ)) (name : List ℕ) (rising : AreRising es) (names_are : names ≡ keys_of es) (at : Some name ≡ slice_get names i) where
  own : (value : Tree) × (slice_get es i ≡ Some (name, value)) × (value_of name es ≡ Some value)
  own = own_value es i name rising (subst (λ (ns : List (List ℕ)). slice_get ns i ≡ Some name) names_are (sym at))

  pub asked_next : (w : List Cut) (demands : List Demand) (vars : List (List ℕ × VarId)) → ((value : Tree) → value_of name es ≡ Some value → AreAsked demands vars (take i es ++ (name, value) ∷ []) w) → AreAsked demands vars (take (i + 1) es) w
  asked_next w demands vars all = subst (λ (vs : Targets). AreAsked demands vars vs w) (take_next es i (name, own.0) own.1) (all own.0 own.2)

  pub never_next : (w : List Cut) → ((value : Tree) → value_of name es ≡ Some value → (types : List ℕ → Ground) → AreTypes (take i es ++ (name, value) ∷ []) w types → ⊥) → IsTypable es w → ⊥
  never_next w never (types, are) = never own.0 own.2 types (subst (λ (vs : Targets). AreTypes vs w types) (sym (take_next es i (name, own.0) own.1)) (first_types es (i + 1) w types are))

-- where no name is left, these are all
ended : (es : Targets) (i : ℕ) → slice_get (keys_of es) i ≡ None → take i es ≡ es
ended [] zero none = refl
ended [] (suc i) none = refl
ended (e ∷ es) zero none = absurd (cc)
ended (e ∷ es) (suc i) none = ap (λ ts. e ∷ ts) (ended es i none)

pub all_asked : (es : Targets) (i : ℕ) (names : List (List ℕ)) (w : List Cut) (demands : List Demand) (vars : List (List ℕ × VarId)) → names ≡ keys_of es → None ≡ slice_get names i
    → AreAsked demands vars (take i es) w → AreAsked demands vars es w
all_asked es i names w demands vars are none asked =
    subst (λ (vs : Targets). AreAsked demands vars vs w) (ended es i (subst (λ (ns : List (List ℕ)). slice_get ns i ≡ None) are (sym none))) asked

-- what came behind, and behind that
pub behind_then : (before between after : List (List ℕ × VarId)) → ((added : List (List ℕ × VarId)) × (between ≡ before ++ added)) → ((added : List (List ℕ × VarId)) × (after ≡ between ++ added)) → (added : List (List ℕ × VarId)) × (after ≡ before ++ added)
behind_then before between after one two = (one.0 ++ two.0, two.1 ∙ (ap (λ ps. ps ++ two.0) one.1 ∙ append_assoc before one.0 two.0))
