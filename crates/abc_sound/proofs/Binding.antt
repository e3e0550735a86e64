-- Names that are set to the fields of values of their types.
use Rattle.std.proofs.Common.{◌≡◌, refl, ap, sym, subst, ℕ, List, [], ◌∷◌, ◌++◌, map, Option, Some, None}
use Rattle.std.specs.Prelude.{slice_get}
use Rattle.std.specs.List.{AllByRecursion}
use Rattle.abc_num.specs.declared.types.Ground.{Ground}
use Rattle.abc_num.specs.declared.types.Ground.TheVariants as type
use Rattle.abc_value.specs.Tree.{Tree, Trees, compound, no_trees, more, trees}
use Rattle.abc_value.specs.Forms.{both}
use Rattle.abc_value.specs.Types.{has, each_has}
use Rattle.abc_value.specs.Regular.{IsRegular, AllRegular}
use Rattle.abc_tree.specs.Lists.{flat}
use Rattle.abc_tree.specs.RegularItems.{bound_names, bound_over}
use Rattle.abc_tree.specs.declared.templates.Template.{Template}
use Rattle.abc_tree.specs.declared.formulas.Bound.{Bound, roll-Bound, map-Bound}
use Rattle.abc_tree.specs.declared.formulas.Bound.TheOpen.{Bound-F}
use Rattle.abc_tree.specs.declared.formulas.Bound.TheFolds.{fold-roll-Bound, ind-Bound}
use Rattle.abc_ground.specs.Seen.{Node, name, fields, bound_seen, seen_bound}
use Rattle.abc_ground.specs.Fits.{Signature, Typing, IsHad, AreFields, RuleFits}
use Rattle.abc_meaning.specs.Bindings.{Bindings, bindings, bindings_over, at_fields, at_compound}
use Rattle.abc_meaning.proofs.Opened.{together}
use Rattle.abc_sound.proofs.Typed.{fields_of}
use Rattle.abc_sound.proofs.Expressions.{NodeFits}
use Rattle.abc_sound.proofs.Testing.{BoundFits, BoundsFit, bounds_fit}
use Rattle.abc_sound.proofs.Values.{IsA, AreEach}

pub had_is : (o : Option Ground) (t : Ground) → IsHad o t → o ≡ Some t
had_is None t h = absurd h
had_is (Some u) t h = ap (λ x. Some x) (sym h)

-- the fields of a regular compound are regular
regular_fields : (ts : Trees) → IsRegular (compound ts) → AllRegular ts
unfolding IsRegular AllRegular
regular_fields ts h = h.2

first_regular : (t : Tree) (ts : Trees) → AllRegular (more t ts) → IsRegular t × AllRegular ts
unfolding AllRegular
first_regular t ts h = (h.0, h.1)

regular_row : (ts : List Ground) (vs : List Tree) → AreEach ts vs → AllRegular (trees vs)
unfolding AllRegular
regular_row [] [] h = tt
regular_row [] (v ∷ vs) h = absurd h
regular_row (t ∷ ts) [] h = absurd h
regular_row (t ∷ ts) (v ∷ vs) h = (h.0.1, regular_row ts vs h.1)

each_row : (ts : List Ground) (vs : List Tree) → AreEach ts vs → each_has (trees vs) ts
each_row [] [] h = tt
each_row [] (v ∷ vs) h = absurd h
each_row (t ∷ ts) [] h = absurd h
each_row (t ∷ ts) (v ∷ vs) h = (h.0.0, each_row ts vs h.1)

-- a name that has a type, and a value of it
abbrev pub IsBinding : List Ground → ℕ × Tree → Type 0
IsBinding names b = (t : Ground) × (slice_get names b.0 ≡ Some t) × IsA t b.1

abbrev pub AreBindings : List Ground → Bindings → Type 0
AreBindings names bs = AllByRecursion (IsBinding names) bs

-- they are there
abbrev pub AreBound : List Ground → Option Bindings → Type 0
AreBound names o = (bs : Bindings) × (o ≡ Some bs) × AreBindings names bs

-- a name that has a type
abbrev pub IsTypedName : List Ground → ℕ → Type 0
IsTypedName names i = (t : Ground) × (slice_get names i ≡ Some t)

module _ (allowed : Template → Option Signature → Type 0) (g : Typing) where
  both_bound : (o p : Option Bindings) → AreBound g.names o → AreBound g.names p → AreBound g.names (both (λ xs ys. xs ++ ys) o p)
  both_bound o p h k =
      subst (λ q. AreBound g.names (both (λ xs ys. xs ++ ys) q p)) (sym h.1)
      (subst (λ q. AreBound g.names (both (λ xs ys. xs ++ ys) (Some h.0) q)) (sym k.1) (h.0 ++ k.0, refl, together (IsBinding g.names) h.0 k.0 h.2 k.2))

  abbrev Binds : Bound → Type 0
  Binds b = (t : Ground) (v : Tree) → BoundFits allowed g b t → IsA t v → AreBound g.names (bindings b v)

  fields_bound : (bs : List Bound) → AllByRecursion Binds bs → (ts : List Ground) (vs : Trees) → BoundsFit allowed g bs ts → each_has vs ts → AllRegular vs → AreBound g.names (at_fields (map bindings bs) vs)
  fields_bound [] all [] no_trees f h r = ([], refl, tt)
  fields_bound [] all [] (more v vs) f h r = absurd h
  fields_bound [] all (t ∷ ts) vs f h r = absurd f
  fields_bound (b ∷ bs) all [] vs f h r = absurd f
  fields_bound (b ∷ bs) all (t ∷ ts) no_trees f h r = absurd h
  fields_bound (b ∷ bs) all (t ∷ ts) (more v vs) f h r =
      let q = first_regular v vs r in
      both_bound (bindings b v) (at_fields (map bindings bs) vs) (all.0 t v f.0 (h.0, q.0)) (fields_bound bs all.1 ts vs f.1 h.1 q.1)

  abbrev B : Type 0
  B = (b : Bound) × Binds b

  each_binds : (bs : List B) → AllByRecursion Binds (map (λ b. b.0) bs)
  each_binds [] = tt
  each_binds (b ∷ bs) = (b.1, each_binds bs)

  compound_is : (ts : List Ground) (t : Ground) → AreFields ts t → t ≡ type.Compound ts
  compound_is [] t h = absurd h
  compound_is (u ∷ []) t h = absurd h
  compound_is (u ∷ v ∷ ts) t h = h

  bound_layer : (y : Bound-F B) (t : Ground) (v : Tree) → NodeFits allowed g (bound_seen (map-Bound Bound Node seen_bound (map-Bound B Bound (λ b. b.0) y))) (t ∷ []) → IsA t v
      → AreBound g.names (bindings_over (map-Bound Bound (Tree → Option Bindings) bindings (map-Bound B Bound (λ b. b.0) y)) v)
  bound_layer (Bound-F.One i) t v f h = ((i.0, v) ∷ [], refl, ((t, had_is (slice_get g.names i.0) t (by f.0 f.2), h), tt))
    where
      by : (parts : List Ground) → RuleFits g (name i.0) parts (t ∷ []) → IsHad (slice_get g.names i.0) t
      by [] h = h
      by (p ∷ ps) h = absurd h
  bound_layer (Bound-F.Several bs) t v f h =
      let o = fields_of v f.0 (subst (has v) (compound_is f.0 t f.2) h.0) in
      subst (λ w. AreBound g.names (at_compound (map bindings (map (λ b. b.0) bs)) w)) (sym o.1)
      (fields_bound (map (λ b. b.0) bs) (each_binds bs) f.0 o.0 (bounds_fit allowed g (map (λ b. b.0) bs) f.0 f.1) o.2 (regular_fields o.0 (subst IsRegular o.1 h.1)))

  bound_step : (y : Bound-F B) → Binds (roll-Bound (map-Bound B Bound (λ b. b.0) y))
  bound_step y t v f h =
      subst (λ (of : Tree → Option Bindings). AreBound g.names (of v)) (sym (fold-roll-Bound (Tree → Option Bindings) bindings_over (map-Bound B Bound (λ b. b.0) y)))
      (bound_layer y t v (subst (λ x. NodeFits allowed g x (t ∷ [])) (fold-roll-Bound Node bound_seen (map-Bound B Bound (λ b. b.0) y)) f) h)

  -- the names match the fields of a value of their type
  pub bound_binds : (b : Bound) → Binds b
  bound_binds = ind-Bound Binds (λ x y is. subst (λ z. Binds (roll-Bound z)) is (bound_step y))

  all_bind : (bs : List Bound) → AllByRecursion Binds bs
  all_bind [] = tt
  all_bind (b ∷ bs) = (bound_binds b, all_bind bs)

  -- formals match actuals of their types
  pub formals_bind : (bs : List Bound) (ts : List Ground) (vs : List Tree) → BoundsFit allowed g bs ts → AreEach ts vs → AreBound g.names (at_fields (map bindings bs) (trees vs))
  formals_bind bs ts vs f h = fields_bound bs (all_bind bs) ts (trees vs) f (each_row ts vs h) (regular_row ts vs h)

  -- ---- each name that is bound has a type

  abbrev Names : Bound → Type 0
  Names b = (t : Ground) → BoundFits allowed g b t → AllByRecursion (IsTypedName g.names) (bound_names b)

  fields_named : (bs : List Bound) → AllByRecursion Names bs → (ts : List Ground) → BoundsFit allowed g bs ts → AllByRecursion (IsTypedName g.names) (flat (map bound_names bs))
  fields_named [] all ts f = tt
  fields_named (b ∷ bs) all [] f = absurd f
  fields_named (b ∷ bs) all (t ∷ ts) f = together (IsTypedName g.names) (bound_names b) (flat (map bound_names bs)) (all.0 t f.0) (fields_named bs all.1 ts f.1)

  abbrev C : Type 0
  C = (b : Bound) × Names b

  each_named : (bs : List C) → AllByRecursion Names (map (λ b. b.0) bs)
  each_named [] = tt
  each_named (b ∷ bs) = (b.1, each_named bs)

  names_layer : (y : Bound-F C) (t : Ground) → NodeFits allowed g (bound_seen (map-Bound Bound Node seen_bound (map-Bound C Bound (λ b. b.0) y))) (t ∷ [])
      → AllByRecursion (IsTypedName g.names) (bound_over (map-Bound Bound (List ℕ) bound_names (map-Bound C Bound (λ b. b.0) y)))
  names_layer (Bound-F.One i) t f = ((t, had_is (slice_get g.names i.0) t (by f.0 f.2)), tt)
    where
      by : (parts : List Ground) → RuleFits g (name i.0) parts (t ∷ []) → IsHad (slice_get g.names i.0) t
      by [] h = h
      by (p ∷ ps) h = absurd h
  names_layer (Bound-F.Several bs) t f = fields_named (map (λ b. b.0) bs) (each_named bs) f.0 (bounds_fit allowed g (map (λ b. b.0) bs) f.0 f.1)

  names_step : (y : Bound-F C) → Names (roll-Bound (map-Bound C Bound (λ b. b.0) y))
  names_step y t f =
      subst (AllByRecursion (IsTypedName g.names)) (sym (fold-roll-Bound (List ℕ) bound_over (map-Bound C Bound (λ b. b.0) y)))
      (names_layer y t (subst (λ x. NodeFits allowed g x (t ∷ [])) (fold-roll-Bound Node bound_seen (map-Bound C Bound (λ b. b.0) y)) f))

  pub bound_named : (b : Bound) → Names b
  bound_named = ind-Bound Names (λ x y is. subst (λ z. Names (roll-Bound z)) is (names_step y))

  -- a name by itself
  pub alone_named : (b : Bound) (t : Ground) (i : ℕ) → BoundFits allowed g b t → bound_names b ≡ i ∷ [] → IsTypedName g.names i
  alone_named b t i f is = (subst (AllByRecursion (IsTypedName g.names)) is (bound_named b t f)).0
