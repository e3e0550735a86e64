-- What is said of values is carried over to what is made of them: fields, names, addresses. And what is said of a tree, to its parts.
use Rattle.std.proofs.Common.{◌≡◌, refl, subst, sym, ℕ, zero, suc, Bool, true, false, ◌&&◌, List, [], ◌∷◌, ◌++◌, map, Option, Some, None, if◌then◌else◌}
use Rattle.std.specs.Prelude.{slice_get, option_and_then, option_map}
use Rattle.std.specs.List.{AllByRecursion}
use Rattle.std.specs.Option.{IfSome}
use Rattle.std.specs.declared.cmp.Ordering.{Ordering}
use Rattle.std.specs.declared.cmp.Ordering.TheVariants.{Less, Equal, Greater}
use Rattle.std.specs.Ordering.{match_ordering}
use Rattle.abc_num.specs.Text.{text_eq}
use Rattle.abc_tree.specs.RegularItems.{refinement_by}
use Rattle.abc_tree.specs.Templates.{template_cmp}
use Rattle.abc_tree.specs.Units.{unit_of}
use Rattle.abc_tree.specs.declared.templates.Template.{Template}
use Rattle.abc_tree.specs.declared.formulas.Bound.{Bound, roll-Bound, map-Bound}
use Rattle.abc_tree.specs.declared.formulas.Bound.TheOpen.{Bound-F}
use Rattle.abc_tree.specs.declared.formulas.Bound.TheFolds.{fold-roll-Bound, ind-Bound}
use Rattle.abc_tree.specs.declared.commands.Refinement.{Refinement}
use Rattle.abc_tree.specs.declared.commands.Unit.{Unit as Routine}
use Rattle.abc_value.specs.Tree.{Tree, Trees, number, text, compound, list, table, no_trees, more, trees, listed}
use Rattle.abc_value.specs.Forms.{Form, both, form_of, elements_form}
use Rattle.abc_value.specs.Items.{elements_of}
use Rattle.abc_meaning.specs.State.{key, Address, Addresses, place, several, no_addresses, more_addresses}
use Rattle.abc_meaning.specs.Here.{Here, Scope, in_command, in_unit, line_in, at_line, within, refinement_named, refinement_at, names_in}
use Rattle.abc_meaning.specs.Fits.{train_elements}
use Rattle.abc_meaning.specs.Bindings.{Bindings, at_fields, at_compound, bindings_over, bindings}
use Rattle.abc_meaning.specs.Calls.{suite}
use Rattle.abc_meaning.specs.Value.{values}
use Rattle.abc_meaning.specs.Changing.{Part as Place, fielded, fielded_all, parts, parts_all}
use Rattle.abc_meaning.specs.Addresses.{stepped, onto, gathered, together as all_together}
use Rattle.abc_meaning.specs.Acts.{each}
use Rattle.abc_meaning.proofs.Opened.{together, one_more, in_refinements}
use Rattle.abc_meaning.proofs.Asked.{Facts, HasAny, HaveAll, HasStep, HasAddress, HaveAddresses, HasAddressIfAny, HasPlace, OwnLine, FitsPart, FitsSuite, FitsUnit, FitsScope, IsPlace, AreKept}

pub left : (a b : Bool) → (a && b) ≡ true → a ≡ true
left true b e = refl
left false b e = e

pub right : (a b : Bool) → (a && b) ≡ true → b ≡ true
right true b e = e
right false b e = cc

module _ (facts : Facts) where
  -- ---- of lists, options and fields

  abbrev pub HaveBindings : Bindings → Type 0
  HaveBindings bs = AllByRecursion (λ b. facts.HasTree b.1) bs

  abbrev pub HaveHeld : List (ℕ × Option Tree) → Type 0
  HaveHeld ps = AllByRecursion (λ p. HasAny facts p.1) ps

  abbrev pub HavePlaces : List Place → Type 0
  HavePlaces ps = AllByRecursion (HasPlace facts) ps

  abbrev pub HaveFields : List (Place × Tree) → Type 0
  HaveFields ps = AllByRecursion (λ p. HasPlace facts p.0 × facts.HasTree p.1) ps

  pub if_any : (o : Option Tree) → ((v : Tree) → o ≡ Some v → facts.HasTree v) → HasAny facts o
  if_any None h = tt
  if_any (Some v) h = h v refl

  pub to_names : (bs : Bindings) → HaveBindings bs → HaveHeld (map (λ b. (b.0, Some b.1)) bs)
  to_names [] h = tt
  to_names (b ∷ bs) h = (h.0, to_names bs h.1)

  pub listed_all : (vs : List Tree) → HaveAll facts vs → HaveAll facts (listed (trees vs))
  listed_all [] h = tt
  listed_all (v ∷ vs) h = (h.0, listed_all vs h.1)

  both_have : {X : Type 0} (Q : X → Type 0) (a b : Option (List X)) → IfSome a (AllByRecursion Q) → IfSome b (AllByRecursion Q) → IfSome (both (λ xs ys. xs ++ ys) a b) (AllByRecursion Q)
  both_have Q None b h k = tt
  both_have Q (Some xs) None h k = tt
  both_have Q (Some xs) (Some ys) h k = together Q xs ys h k

  abbrev Binds : Bound → Type 0
  Binds b = (v : Tree) → facts.HasTree v → IfSome (bindings b v) HaveBindings

  pub at_fields_have : (bs : List Bound) → AllByRecursion Binds bs → (ts : Trees) → HaveAll facts (listed ts) → IfSome (at_fields (map bindings bs) ts) HaveBindings
  at_fields_have [] all no_trees h = tt
  at_fields_have [] all (more t ts) h = tt
  at_fields_have (b ∷ bs) all no_trees h = tt
  at_fields_have (b ∷ bs) all (more t ts) h = both_have (λ b. facts.HasTree b.1) (bindings b t) (at_fields (map bindings bs) ts) (all.0 t h.0) (at_fields_have bs all.1 ts h.1)

  module _ (kept : AreKept facts) where
    at_compound_have : (bs : List Bound) → AllByRecursion Binds bs → (v : Tree) → facts.HasTree v → IfSome (at_compound (map bindings bs) v) HaveBindings
    at_compound_have bs all (compound ts) h = at_fields_have bs all ts (kept.parts (compound ts) h)
    at_compound_have bs all (number n) h = tt
    at_compound_have bs all (text b) h = tt
    at_compound_have bs all (list ts) h = tt
    at_compound_have bs all (table ps) h = tt

    abbrev B : Type 0
    B = (b : Bound) × Binds b

    each_binds : (bs : List B) → AllByRecursion Binds (map (λ b. b.0) bs)
    each_binds [] = tt
    each_binds (b ∷ bs) = (b.1, each_binds bs)

    bound_layer : (y : Bound-F B) (v : Tree) → facts.HasTree v → IfSome (bindings_over (map-Bound Bound (Tree → Option Bindings) bindings (map-Bound B Bound (λ b. b.0) y)) v) HaveBindings
    bound_layer (Bound-F.One i) v h = (h, tt)
    bound_layer (Bound-F.Several bs) v h = at_compound_have (map (λ b. b.0) bs) (each_binds bs) v h

    bound_step : (y : Bound-F B) → Binds (roll-Bound (map-Bound B Bound (λ b. b.0) y))
    bound_step y v h =
        subst (λ (f : Tree → Option Bindings). IfSome (f v) HaveBindings) (sym (fold-roll-Bound (Tree → Option Bindings) bindings_over (map-Bound B Bound (λ b. b.0) y))) (bound_layer y v h)

    pub binds : (b : Bound) → Binds b
    binds = ind-Bound Binds (λ x y is. subst (λ z. Binds (roll-Bound z)) is (bound_step y))

    pub all_bind : (bs : List Bound) → AllByRecursion Binds bs
    all_bind [] = tt
    all_bind (b ∷ bs) = (binds b, all_bind bs)

    -- the fields of a value, each at a place
    mutual
      pub fielded_has : (a : Address) (v : Tree) → HasAddress facts a → facts.HasTree v → IfSome (fielded a v) HaveFields
      fielded_has (place i steps) v a h = ((a, h), tt)
      fielded_has (several all) (compound ts) a h = fielded_all_have all ts a (kept.parts (compound ts) h)
      fielded_has (several all) (number n) a h = tt
      fielded_has (several all) (text b) a h = tt
      fielded_has (several all) (list ts) a h = tt
      fielded_has (several all) (table ps) a h = tt

      fielded_all_have : (all : Addresses) (ts : Trees) → HaveAddresses facts all → HaveAll facts (listed ts) → IfSome (fielded_all all ts) HaveFields
      fielded_all_have no_addresses no_trees a h = tt
      fielded_all_have no_addresses (more v vs) a h = tt
      fielded_all_have (more_addresses b rest) no_trees a h = tt
      fielded_all_have (more_addresses b rest) (more v vs) a h =
          both_have (λ p. HasPlace facts p.0 × facts.HasTree p.1) (fielded b v) (fielded_all rest vs) (fielded_has b v a.0 h.0) (fielded_all_have rest vs a.1 h.1)

    pub train_have : (t : Tree) → facts.HasTree t → IfSome (train_elements t) (HaveAll facts)
    train_have t h = by (option_and_then elements_form (form_of t))
      where
        by : (o : Option Form) → IfSome (option_map (λ _. elements_of t) o) (HaveAll facts)
        by None = tt
        by (Some s) = kept.elements t h

  mutual
    pub parts_have : (a : Address) → HasAddress facts a → HavePlaces (parts a)
    parts_have (place i steps) h = (h, tt)
    parts_have (several all) h = parts_all_have all h

    parts_all_have : (all : Addresses) → HaveAddresses facts all → HavePlaces (parts_all all)
    parts_all_have no_addresses h = tt
    parts_all_have (more_addresses a rest) h = together (HasPlace facts) (parts a) (parts_all rest) (parts_have a h.0) (parts_all_have rest h.1)

  -- ---- of addresses

  pub stepped_has : (k : Tree) (a : Option Address) → facts.HasTree k → HasAddressIfAny facts a → HasAddressIfAny facts (stepped (key k) a)
  stepped_has k None h a = tt
  stepped_has k (Some (place i steps)) h a = one_more (HasStep facts) steps (key k) a h
  stepped_has k (Some (several all)) h a = tt

  onto_has : (a : Option Address) (rest : Option Addresses) → HasAddressIfAny facts a → IfSome rest (HaveAddresses facts) → IfSome (onto a rest) (HaveAddresses facts)
  onto_has None rest h k = tt
  onto_has (Some a) None h k = tt
  onto_has (Some a) (Some rest) h k = (h, k)

  gathered_have : (found : List (Option Address)) → AllByRecursion (HasAddressIfAny facts) found → IfSome (gathered found) (HaveAddresses facts)
  gathered_have [] h = tt
  gathered_have (a ∷ rest) h = onto_has a (gathered rest) h.0 (gathered_have rest h.1)

  pub together_has : (found : List (Option Address)) → AllByRecursion (HasAddressIfAny facts) found → HasAddressIfAny facts (all_together found)
  together_has found h = by (gathered found) (gathered_have found h)
    where
      by : (o : Option Addresses) → IfSome o (HaveAddresses facts) → HasAddressIfAny facts (option_map (λ all. several all) o)
      by None h = tt
      by (Some all) h = h

  -- ---- of units and refinements

  pub unit_fits : (units : List Routine) (t : Template) → AllByRecursion (FitsUnit facts) units → IfSome (unit_of t units) (FitsUnit facts)
  unit_fits [] t h = tt
  unit_fits (u ∷ units) t h = by (template_cmp u.template t) (unit_fits units t h.1)
    where
      by : (o : Ordering) → IfSome (unit_of t units) (FitsUnit facts) → IfSome (match_ordering o (unit_of t units) (Some u) None) (FitsUnit facts)
      by Less rest = rest
      by Equal rest = h.0
      by Greater rest = tt

  abbrev pub FitsRefinement : Scope → Refinement → Type 0
  FitsRefinement scope r = FitsSuite facts scope r.suite

  found_fits : (scope : Scope) (name : List ℕ) (rs : List Refinement) → AllByRecursion (FitsRefinement scope) rs → IfSome (refinement_by name rs) (FitsRefinement scope)
  found_fits scope name [] h = tt
  found_fits scope name (r ∷ rs) h = by (text_eq r.name name) (found_fits scope name rs h.1)
    where
      by : (b : Bool) → IfSome (refinement_by name rs) (FitsRefinement scope) → IfSome (if b then Some r else refinement_by name rs) (FitsRefinement scope)
      by true rest = h.0
      by false rest = rest

  pub refinement_fits : (scope : Scope) (name : List ℕ) → FitsScope facts scope → IfSome (refinement_named scope name) (FitsRefinement scope)
  refinement_fits (in_command c) name h = tt
  refinement_fits (in_unit u) name h = found_fits (in_unit u) name u.refinements (in_refinements (FitsPart facts (in_unit u)) u h)

  pub name_fits : (scope : Scope) (i : ℕ) → FitsScope facts scope → IfSome (refinement_at scope i) (FitsRefinement scope)
  name_fits scope i h = by (slice_get (names_in scope) i)
    where
      by : (o : Option (List ℕ)) → IfSome (option_and_then (refinement_named scope) o) (FitsRefinement scope)
      by None = tt
      by (Some name) = refinement_fits scope name h

  -- ---- of places

  pub at_own_line : {here : Here} → IsPlace facts here → (line : ℕ) → OwnLine facts here.scope line → IsPlace facts (at_line line here)
  at_own_line {here} at line own = record { line = by here.scope own; scope = at.scope }
    where
      by : (scope : Scope) → OwnLine facts scope line → facts.IsLine (line_in scope line here.line)
      by (in_command c) own = own
      by (in_unit u) own = at.line

  pub within_unit : {here : Here} → IsPlace facts here → (u : Routine) → FitsUnit facts u → IsPlace facts (within u here)
  within_unit at u h = record { line = at.line; scope = h }
