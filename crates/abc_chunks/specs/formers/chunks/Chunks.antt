-- `Chunks` as a type that may hold the type that holds it. Its value is the list of its elements.
use Rattle.std.specs.Prelude.{◌≡◌, ℕ, List, [], ◌∷◌, ◌++◌, map, Option, None, Some}
use mathlib.Core.Path.{refl, sym, ap, subst, ◌∙◌}
use mathlib.Core.Logic.{◌⊎◌, inl, inr}
use mathlib.Core.HLevel.{×_prop}
use mathlib.Core.Former.{Former, one_more, this, const, pair, or, list, list_count, list_put, via, children}
use native.Mathlib.Bridge.{le_prop}
use lib.ListN.{length-map}
use base.Stored.{gnil, code_map, coded_ℕ, Coded-set}
use base.Fml.{ftrue}
use denote.RattleType.{RattleType}
use denote.Memory.{part_of}
use denote.RawPtr.{Ptr}
use denote.Sharing.{nothing}
use denote.HoleLaws.{Alike}
use denote.HolePlaces.{Recodes, struct_places, enum_places, eachs, laid, one_value}
use denote.Hole.Carrier.{listed, list-listed}
use denote.Hole.Fix.{over}
use denote.Param.Weighed.{Weighed, w_list}
use denote.Model.Placed.{held, Held, view_places}
use Rattle.std.specs.Coded.{coded_list}
use Rattle.std.proofs.lemmas.List.{map-append}
use Rattle.std.specs.formers.vec.Vec as vec
use Rattle.std.specs.declared.rc.Rc.{Rc}
use Rattle.std.specs.contracts.rc.Rc as rc
use Rattle.std.specs.contracts.vec.Vec as vectors
use Rattle.std.specs.contracts.option.Option as option
use Rattle.std.specs.declared.alloc.Global.{Global}
use Rattle.std.specs.contracts.alloc.Global as heap
use Rattle.std.specs.contracts.impls.GlobalAllocator.TheImpl.{ghosts}
use Rattle.abc_chunks.specs.Towers.{Chunk, chunk_items, pieces, joined, items_of, sizes, totals_from, AreSizes, IsSound}
use Rattle.abc_chunks.specs.declared.tower.Tower.{Tower}
use Rattle.abc_chunks.specs.contracts.tower.Tower as tower
use Rattle.abc_chunks.specs.declared.chunks.Chunks.TheInside.{Inside}
use Rattle.abc_chunks.specs.declared.chunks.Chunks.TheView.{view, invariant}
use Rattle.abc_chunks.specs.contracts.chunks.Chunks as C
use Rattle.abc_chunks.specs.contracts.chunks.Chunks.TheInside as I

abbrev pub the_former : Former {0} → Former {0}
the_former g = list g

abbrev pub the_weighed : {g : Former {0}} → Weighed g → Weighed (the_former g)
the_weighed w = w_list w

pub the_empty : List ⊥
the_empty = []

abbrev pub the_items : (X : Type 0) → List X → List X
the_items X d = d

pub the_items_listed : (X : Type 0) (d : List X) → listed _ (children (the_former this) X d) ≡ the_items X d
the_items_listed X d = list-listed X d

-- ---- the formers of the fields
abbrev rc_of : Former {0} → Former {0}
rc_of g = via (pair (const Ptr) g) (λ X. Rc (g.Of X) Global) (λ X r. (r.ptr, r.value)) (λ X v. record { ptr = v.0; value = v.1 }) (λ X r. refl) (λ X v. refl)

abbrev chunk_former : Former {0}
chunk_former = rc_of (vec.the_former this Global)

abbrev tower_former : Former {0}
tower_former = via (pair (vec.the_former chunk_former Global) (const (List ℕ))) (λ X. Tower X) (λ X t. (t.chunks, t.totals)) (λ X v. record { chunks = v.0; totals = v.1 }) (λ X t. refl) (λ X v. refl)

abbrev Shared : Type 0 → Type 0
Shared X = Rc (Tower X) Global

module _ {X : Type 0} where
  abbrev split : Option (Shared X) → Unit {0} ⊎ Shared X
  split None = inl tt
  split (Some r) = inr r

  abbrev join : Unit {0} ⊎ Shared X → Option (Shared X)
  join (inl u) = None
  join (inr r) = Some r

  join-split : (o : Option (Shared X)) → join (split o) ≡ o
  join-split None = refl
  join-split (Some r) = refl

  split-join : (o : Unit {0} ⊎ Shared X) → split (join o) ≡ o
  split-join (inl u) = refl
  split-join (inr r) = refl

abbrev option_former : Former {0}
option_former = via (or (const (Unit {0})) (rc_of tower_former)) (λ X. Option (Shared X)) (λ X. split) (λ X. join) (λ X. join-split) (λ X. split-join)

abbrev fields : Former {0}
fields = via (pair (const Global) option_former) Inside (λ X a. (a.alloc, a.tower)) (λ X v. record { alloc = v.0; tower = v.1 }) (λ X a. refl) (λ X v. refl)

-- ---- the same sequence over other elements
abbrev rc_with : {A B : Type 0} → (A → B) → Rc A Global → Rc B Global
rc_with k r = record { ptr = r.ptr; value = k r.value }

module _ {X Y : Type 0} (h : X → Y) where
  abbrev chunk_over : Chunk X → Chunk Y
  chunk_over = rc_with (vec.mapped h)

  abbrev tower_over : Tower X → Tower Y
  tower_over t = record { chunks = vec.mapped chunk_over t.chunks; totals = t.totals }

  abbrev option_over : Option (Shared X) → Option (Shared Y)
  option_over None = None
  option_over (Some r) = Some (rc_with tower_over r)

  over_option : (o : Option (Shared X)) → option_former.map X Y h o ≡ option_over o
  over_option None = refl
  over_option (Some r) = refl

  joined_over : (cs : List (Chunk X)) → joined (map chunk_items (map chunk_over cs)) ≡ map h (joined (map chunk_items cs))
  joined_over [] = refl
  joined_over (c ∷ cs) = ap (λ ys. map h c.value.items ++ ys) (joined_over cs) ∙ sym (map-append h c.value.items (joined (map chunk_items cs)))

  sizes_over : (cs : List (Chunk X)) → sizes (map chunk_items (map chunk_over cs)) ≡ sizes (map chunk_items cs)
  sizes_over [] = refl
  sizes_over (c ∷ cs) = λ i. length-map c.value.items h i ∷ sizes_over cs i

  items_over : (o : Option (Shared X)) → items_of (option_over o) ≡ map h (items_of o)
  items_over None = refl
  items_over (Some r) = joined_over r.value.chunks.items

  abbrev IsSoundAt : List ℕ → List ℕ → Type 0
  IsSoundAt totals ks = (totals ≡ totals_from 0 ks) × AreSizes ks

  sound_over : (o : Option (Shared X)) → IsSound o → IsSound (option_over o)
  sound_over None s = tt
  sound_over (Some r) s = subst (IsSoundAt r.value.totals) (sym (sizes_over r.value.chunks.items)) s

  sound_back : (o : Option (Shared X)) → IsSound (option_over o) → IsSound o
  sound_back None s = tt
  sound_back (Some r) s = subst (IsSoundAt r.value.totals) (sizes_over r.value.chunks.items) s

-- ---- what is held, in order
module _ (X : Type 0) where
  abbrev atop : List X → Held X → Held X
  atop xs u = (list_count this (map (λ (x : X). tt) xs) u.0, list_put this X xs u.0 u.1)

  atop-append : (xs ys : List X) (u : Held X) → atop (xs ++ ys) u ≡ atop xs (atop ys u)
  atop-append [] ys u = refl
  atop-append (x ∷ xs) ys u = λ i. (one_more (atop-append xs ys u i).0, (x, (atop-append xs ys u i).1))

  abbrev piled : List (Chunk X) → Held X → Held X
  piled cs u = (list_count chunk_former (map (chunk_former.shape X) cs) u.0, list_put chunk_former X cs u.0 u.1)

  piled_is : (cs : List (Chunk X)) (u : Held X) → atop (joined (map chunk_items cs)) u ≡ piled cs u
  piled_is [] u = refl
  piled_is (c ∷ cs) u = atop-append c.value.items (joined (map chunk_items cs)) u ∙ ap (atop c.value.items) (piled_is cs u)

  keeps : (z : Global) (o : Option (Shared X)) → held (list this) X (items_of o) ≡ held fields X (record { alloc = z; tower = o })
  keeps z None = refl
  keeps z (Some r) = piled_is r.value.chunks.items (held (list this) X [])

AreSizes-prop : (ks : List ℕ) → IsProp (AreSizes ks)
AreSizes-prop [] = λ p q. refl
AreSizes-prop (k ∷ ks) = ×_prop (×_prop (λ p q. le_prop p q) (λ p q. le_prop p q)) (AreSizes-prop ks)

IsSound-prop : {X : Type 0} (o : Option (Shared X)) → IsProp (IsSound o)
IsSound-prop None = λ p q. refl
IsSound-prop (Some r) = ×_prop (Coded-set (coded_list coded_ℕ) _ _) (AreSizes-prop (sizes (pieces r.value)))

-- ---- the rows
abbrev rc_row : RattleType → RattleType
rc_row A = rc.the_row A heap.the_row ghosts

module _ (A B : RattleType) (k : A.Denot → B.Denot) where
  rc_places : Alike A B k → Alike (rc_row A) (rc_row B) (rc_with k)
  unfolding part_of
  rc_places a = record {
    mir_same = λ i. (rc_row (one_value A (a.mir_same i) (λ _. ftrue) (λ _ _. nothing) gnil)).mir;
    own_same = λ b i. (rc_row (one_value A (a.mir_same i) (a.own_same b.value i) (a.shr_same b.value i) gnil)).own_val (record { ptr = b.ptr; value = tt });
    shr_same = λ b i. (rc_row (one_value A (a.mir_same i) (a.own_same b.value i) (a.shr_same b.value i) gnil)).shr_at (record { ptr = b.ptr; value = tt });
  }

module _ (R S : RattleType) (h : R.Denot → S.Denot) where
  abbrev vec_of : RattleType → RattleType
  vec_of T = vectors.the_row T heap.the_row ghosts

  tower_places : Alike R S h → Alike (tower.the_row R) (tower.the_row S) (tower_over h)
  tower_places a =
      let chunk = rc_places (vec_of R) (vec_of S) (vec.mapped h) (vec.the_places heap.the_row ghosts R S h a) in
      struct_places (tower.the_type R) (tower.the_type S) (vec.mapped (chunk_over h), (λ n. n, tt)) (tower_over h) (λ d. refl) refl
      (laid _ _ _ (vec.the_places heap.the_row ghosts (rc_row (vec_of R)) (rc_row (vec_of S)) (chunk_over h) chunk), ((refl, (λ n. refl, λ n. refl)), tt))

  variant : (o : Option (Shared R.Denot))
      → (option.enum (rc_row (tower.the_row S))).as_values (option_over h o)
      ≡ eachs (option.enum (rc_row (tower.the_row R))).parts (option.enum (rc_row (tower.the_row S))).parts (tt, ((rc_with (tower_over h), tt), tt)) ((option.enum (rc_row (tower.the_row R))).as_values o)
  variant None = refl
  variant (Some r) = refl

  option_places : Alike R S h → Alike (option.the_row (rc_row (tower.the_row R))) (option.the_row (rc_row (tower.the_row S))) (option_over h)
  option_places a = enum_places (option.enum (rc_row (tower.the_row R))) (option.enum (rc_row (tower.the_row S))) (tt, ((rc_with (tower_over h), tt), tt)) (option_over h) variant refl
      (tt, ((laid _ _ _ (rc_places (tower.the_row R) (tower.the_row S) (tower_over h) (tower_places a)), tt), tt))

  pub the_places : Alike R S h → Alike (C.the_row R) (C.the_row S) ((the_former this).map R.Denot S.Denot h)
  the_places a = view_places fields (list this) view
      (λ X Y k u. ap items_of (over_option k u.tower) ∙ items_over k u.tower) (λ X u. keeps X u.alloc u.tower)
      R.Denot S.Denot h (C.the_row R).coded (C.the_row S).coded
      (invariant R.Denot) (invariant S.Denot) (λ u. IsSound-prop u.tower) (λ u. IsSound-prop u.tower)
      (λ u s. subst IsSound (sym (over_option h u.tower)) (sound_over h u.tower s))
      (λ u s. sound_back h u.tower (subst IsSound (over_option h u.tower) s))
      (over (I.the_row R)) (over (I.the_row S))
      (struct_places (I.the_type R) (I.the_type S) (λ n. n, (option_over h, tt)) _ (λ d i. (d.alloc, (over_option h d.tower i, tt))) refl
      ((refl, (λ n. refl, λ n. refl)), (laid _ _ _ (option_places a), tt)))

  pub the_codes_placed : Recodes R S h → Recodes (C.the_row R) (C.the_row S) ((the_former this).map R.Denot S.Denot h)
  the_codes_placed e d = sym (code_map R.coded.code S.coded.code h (λ x. sym (e x)) d)
