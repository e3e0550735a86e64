-- Addresses made step by step, of which types; and how high an address is.
use Rattle.std.proofs.Common.{◌≡◌, ◌∙◌, refl, ap, sym, subst, ℕ, suc, Bool, false, List, [], ◌∷◌, ◌++◌, map, Option, Some, None, arith}
use Rattle.std.specs.Prelude.{◌<◌, option_map}
use Rattle.std.specs.List.{AllByRecursion}
use Rattle.std.specs.Option.{IfSome}
use Rattle.abc_num.specs.declared.types.Ground.{Ground}
use Rattle.abc_num.specs.declared.types.Ground.TheVariants as type
use Rattle.abc_value.specs.Tree.{Tree}
use Rattle.abc_value.specs.Types.{has}
use Rattle.abc_value.proofs.forms.Joins.{compound_table}
use Rattle.abc_tree.specs.Height.{above, highest, height, height_over, piece_heights, fill_heights, pair_heights}
use Rattle.abc_tree.specs.Regular.{is_address, address_is}
use Rattle.abc_tree.specs.declared.formulas.Expr.{Expr, out-Expr, map-Expr}
use Rattle.abc_tree.specs.declared.formulas.Expr.TheViews.{roll-out-Expr}
use Rattle.abc_tree.specs.declared.formulas.Expr.TheFolds.{fold-roll-Expr}
use Rattle.abc_tree.specs.declared.formulas.Fill.{Fill, fold-Fill}
use Rattle.abc_tree.specs.declared.formulas.Piece.{Piece, fold-Piece}
use Rattle.abc_tree.specs.declared.formulas.Pair.{Pair, fold-Pair}
use Rattle.abc_ground.specs.Fits.{AreFields}
use Rattle.abc_meaning.specs.State.{key, Address, Addresses, place, several, no_addresses, more_addresses}
use Rattle.abc_meaning.specs.Addresses.{stepped, onto, gathered, together}
use Rattle.abc_sound.proofs.Changes.{AddressFits, AddressesFit, one_step}
use Rattle.abc_sound.proofs.Expressions.{Layer}

module _ (names : List Ground) where
  -- the address is there, and fits the type
  abbrev pub IsAddress : Ground → Option Address → Type 0
  IsAddress t o = (a : Address) × (o ≡ Some a) × AddressFits names a t

  abbrev pub AreAddresses : List Ground → List (Option Address) → Type 0
  AreAddresses [] [] = Unit {0}
  AreAddresses (t ∷ ts) (o ∷ os) = IsAddress t o × AreAddresses ts os
  AreAddresses _ _ = ⊥

  pub one_address_more : (ts : List Ground) (os : List (Option Address)) (t : Ground) (o : Option Address) → AreAddresses ts os → IsAddress t o → AreAddresses (ts ++ t ∷ []) (os ++ o ∷ [])
  one_address_more [] [] t o h k = (k, tt)
  one_address_more [] (p ∷ os) t o h k = absurd h
  one_address_more (u ∷ ts) [] t o h k = absurd h
  one_address_more (u ∷ ts) (p ∷ os) t o h k = (h.0, one_address_more ts os t o h.1 k)

  step_fits : (a : Address) (v : Tree) (l t : Ground) → AddressFits names a (type.Table l t) → has v l → IsAddress t (stepped (key v) (Some a))
  step_fits (place i steps) v l t h hv = (place i (steps ++ key v ∷ []), refl, (h.0, h.1, one_step h.0 (type.Table l t) steps v l t h.2 refl hv))
  step_fits (several all) v l t h hv = absurd (compound_table (type.Table l t) l t h.0 refl h.1)

  pub stepped_fits : (o : Option Address) (v : Tree) (l t : Ground) → IsAddress (type.Table l t) o → has v l → IsAddress t (stepped (key v) o)
  stepped_fits o v l t h hv = subst (λ p. IsAddress t (stepped (key v) p)) (sym h.1) (step_fits h.0 v l t h.2 hv)

  -- addresses together
  gathered_fit : (ts : List Ground) (os : List (Option Address)) → AreAddresses ts os → (all : Addresses) × (gathered os ≡ Some all) × AddressesFit names all ts
  gathered_fit [] [] h = (no_addresses, refl, tt)
  gathered_fit [] (o ∷ os) h = absurd h
  gathered_fit (t ∷ ts) [] h = absurd h
  gathered_fit (t ∷ ts) (o ∷ os) h =
      let rest = gathered_fit ts os h.1 in
      (more_addresses h.0.0 rest.0, (λ i. onto (h.0.1 i) (rest.1 i)), (h.0.2, rest.2))

  fields_type : (ts : List Ground) (t : Ground) → AreFields ts t → t ≡ type.Compound ts
  fields_type [] t h = absurd h
  fields_type (u ∷ []) t h = absurd h
  fields_type (u ∷ v ∷ ts) t h = h

  pub together_fits : (ts : List Ground) (os : List (Option Address)) (t : Ground) → AreFields ts t → AreAddresses ts os → IsAddress t (together os)
  together_fits ts os t is h =
      let all = gathered_fit ts os h in
      (several all.0, ap (λ o. option_map (λ x. several x) o) all.1, (ts, fields_type ts t is, all.2))

  -- an address that may be none
  pub step_if : (a : Option Address) (v : Tree) (l t : Ground) → IfSome a (λ x. AddressFits names x (type.Table l t)) → has v l → IfSome (stepped (key v) a) (λ x. AddressFits names x t)
  step_if None v l t h hv = tt
  step_if (Some (place i steps)) v l t h hv = (h.0, h.1, one_step h.0 (type.Table l t) steps v l t h.2 refl hv)
  step_if (Some (several all)) v l t h hv = tt

  abbrev pub AreIf : List Ground → List (Option Address) → Type 0
  AreIf [] [] = Unit {0}
  AreIf (t ∷ ts) (o ∷ os) = IfSome o (λ x. AddressFits names x t) × AreIf ts os
  AreIf _ _ = ⊥

  pub one_if_more : (ts : List Ground) (os : List (Option Address)) (t : Ground) (o : Option Address) → AreIf ts os → IfSome o (λ x. AddressFits names x t) → AreIf (ts ++ t ∷ []) (os ++ o ∷ [])
  one_if_more [] [] t o h k = (k, tt)
  one_if_more [] (p ∷ os) t o h k = absurd h
  one_if_more (u ∷ ts) [] t o h k = absurd h
  one_if_more (u ∷ ts) (p ∷ os) t o h k = (h.0, one_if_more ts os t o h.1 k)

  onto_if : (o : Option Address) (p : Option Addresses) (t : Ground) (ts : List Ground) → IfSome o (λ x. AddressFits names x t) → IfSome p (λ all. AddressesFit names all ts) → IfSome (onto o p) (λ all. AddressesFit names all (t ∷ ts))
  onto_if None p t ts h k = tt
  onto_if (Some a) None t ts h k = tt
  onto_if (Some a) (Some all) t ts h k = (h, k)

  gathered_if : (ts : List Ground) (os : List (Option Address)) → AreIf ts os → IfSome (gathered os) (λ all. AddressesFit names all ts)
  gathered_if [] [] h = tt
  gathered_if [] (o ∷ os) h = absurd h
  gathered_if (t ∷ ts) [] h = absurd h
  gathered_if (t ∷ ts) (o ∷ os) h = onto_if o (gathered os) t ts h.0 (gathered_if ts os h.1)

  pub together_if : (ts : List Ground) (os : List (Option Address)) (t : Ground) → AreFields ts t → AreIf ts os → IfSome (together os) (λ x. AddressFits names x t)
  together_if ts os t is h = by (gathered os) (gathered_if ts os h)
    where
      by : (o : Option Addresses) → IfSome o (λ all. AddressesFit names all ts) → IfSome (option_map (λ x. several x) o) (λ x. AddressFits names x t)
      by None k = tt
      by (Some all) k = (ts, fields_type ts t is, k)

-- whether it is an address, and how high it is, layer by layer
abbrev address_fill : Fill → Bool
address_fill = fold-Fill Bool Bool Bool Bool address_is (λ fill. false) (λ piece. false) (λ pair. false)

abbrev address_piece : Piece → Bool
address_piece = fold-Piece Bool Bool Bool Bool address_is (λ fill. false) (λ piece. false) (λ pair. false)

abbrev address_pair : Pair → Bool
address_pair = fold-Pair Bool Bool Bool Bool address_is (λ fill. false) (λ piece. false) (λ pair. false)

abbrev pub is_address_layer : Layer → Bool
is_address_layer y = address_is (map-Expr Expr Fill Piece Pair Bool Bool Bool Bool is_address address_fill address_piece address_pair y)

pub address_layer_is : (e : Expr) → is_address e ≡ is_address_layer (out-Expr e)
address_layer_is e = ap is_address (sym (roll-out-Expr e)) ∙ fold-roll-Expr Bool Bool Bool Bool address_is (λ fill. false) (λ piece. false) (λ pair. false) (out-Expr e)

abbrev heights_fill : Fill → List ℕ
heights_fill = fold-Fill ℕ (List ℕ) (List ℕ) (List ℕ) height_over fill_heights piece_heights pair_heights

abbrev heights_piece : Piece → List ℕ
heights_piece = fold-Piece ℕ (List ℕ) (List ℕ) (List ℕ) height_over fill_heights piece_heights pair_heights

abbrev heights_pair : Pair → List ℕ
heights_pair = fold-Pair ℕ (List ℕ) (List ℕ) (List ℕ) height_over fill_heights piece_heights pair_heights

abbrev pub height_layer : Layer → ℕ
height_layer y = height_over (map-Expr Expr Fill Piece Pair ℕ (List ℕ) (List ℕ) (List ℕ) height heights_fill heights_piece heights_pair y)

pub height_layer_is : (e : Expr) → height e ≡ height_layer (out-Expr e)
height_layer_is e = ap height (sym (roll-out-Expr e)) ∙ fold-roll-Expr ℕ (List ℕ) (List ℕ) (List ℕ) height_over fill_heights piece_heights pair_heights (out-Expr e)

highest_below : (es : List Expr) (n : ℕ) → highest (map height es) < n → AllByRecursion (λ e. height e < n) es
highest_below [] n h = tt
highest_below (e ∷ es) n h = (omega (arith, h), highest_below es n (omega (arith, h)))

pub parts_below : (es : List Expr) (n : ℕ) → above (map height es) < suc n → AllByRecursion (λ e. height e < n) es
parts_below [] n h = tt
parts_below (e ∷ es) n h = (omega (arith, h), highest_below es n (omega (arith, h)))
