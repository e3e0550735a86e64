-- The units of a workspace as cuts, each at its place.
use Rattle.std.proofs.Common.{◌≡◌, ◌∙◌, ◌<◌, ℕ, zero, suc, ◌+◌, true, List, [], ◌∷◌, ◌++◌, length, map, take, set, get_or, ap, sym, subst, refl, arith}
use Rattle.std.specs.Prelude.{Some, None, slice_get, slice_index_or}
use Rattle.std.specs.List.{AllByRecursion, insert}
use Rattle.std.proofs.lemmas.List.{map-append, map-set, length-map, length-append, take_all, get_or-map}
use Rattle.std.specs.declared.cmp.Ordering.{Ordering}
use Rattle.std.specs.declared.cmp.Ordering.TheVariants.{Less}
use Rattle.abc_tree.specs.Templates.{template_cmp}
use Rattle.abc_tree.specs.Ordered.{RiseBy, placed_by}
use Rattle.abc_tree.specs.Units.{AreRising}
use Rattle.abc_tree.specs.inner.Search.{IsAt, IsGap}
use Rattle.abc_tree.specs.declared.templates.Template.{Template}
use Rattle.abc_tree.specs.declared.commands.Unit.{Unit as Routine}
use Rattle.abc_tree.proofs.Rising.{found_at, newer_at, none_in_gap, placed_in_gap, read_at, rise_placed}
use Rattle.abc_ground.specs.Groups.{Cut, cut_of, template_of, whole, with_cut}
use Rattle.abc_principal.specs.declared.member.Member.{Member}
use Rattle.abc_principal.specs.Exact.{cut_in, cuts_of}
use Rattle.abc_check.proofs.PartVars.{past, take_next}

-- a unit of which so many lines count
abbrev pub cut_after : Routine → ℕ → Cut
cut_after unit n = record { unit = unit; lines = n }

abbrev all_of : Routine → Cut
all_of u = cut_after u (length u.lines)

-- ---- the first units, one after the other

pub whole_next : (units : List Routine) (u : Routine) (ms more : List Member) (m : Member) (n : ℕ) → n ≡ length ms → slice_get units n ≡ Some u → cut_in m ≡ all_of u → cuts_of ms ≡ whole (take (length ms) units) → more ≡ ms ++ m ∷ []
    → cuts_of more ≡ whole (take (length more) units)
whole_next units u ms more m n count at is so_far pushed =
    let here : slice_get units (length ms) ≡ Some u = subst (λ i. slice_get units i ≡ Some u) count at in
    let next : length more ≡ length ms + 1 = ap length pushed ∙ length-append ms (m ∷ []) in
    ap cuts_of pushed
    ∙ (map-append cut_in ms (m ∷ [])
    ∙ (ap (λ (c : Cut). cuts_of ms ++ c ∷ []) is
    ∙ (ap (λ (cs : List Cut). cs ++ all_of u ∷ []) so_far
    ∙ (sym (map-append all_of (take (length ms) units) (u ∷ []))
    ∙ (ap whole (take_next units (length ms) u here)
    ∙ ap (λ i. whole (take i units)) (sym next))))))

-- and these are all
pub whole_ended : (units : List Routine) (ms : List Member) (n : ℕ) → n ≡ length ms → slice_get units n ≡ None → cuts_of ms ≡ whole (take (length ms) units) → cuts_of ms ≡ whole units
whole_ended units ms n count none so_far =
    let end : slice_get units (length ms) ≡ None = subst (λ i. slice_get units i ≡ None) count none in
    so_far ∙ ap whole (take_all (length ms) units (past units (length ms) end))

-- ---- the unit at a place

module _ (ms : List Member) (i : ℕ) (m : Member) (inside : i < length ms) (is : m ≡ get_or ms i m) where
  pub cut_read : (d : Cut) → slice_index_or (cuts_of ms) i d ≡ cut_in m
  cut_read d = get_or-map cut_in ms i m d inside ∙ ap cut_in (sym is)

  -- as its template was compared
  pub cut_compared : (t : Template) (o : Ordering) → template_cmp m.unit.now.template t ≡ o → (d : Cut) → template_cmp (template_of (slice_index_or (cuts_of ms) i d)) t ≡ o
  cut_compared t o is d = ap (λ (c : Cut). template_cmp (template_of c) t) (cut_read d) ∙ is

module _ (ms : List Member) (t : Template) (rising : RiseBy template_of (cuts_of ms)) where
  -- a place of a cut is one of a member
  pub inside_cuts : (i : ℕ) → i < length (cuts_of ms) → i < length ms
  inside_cuts i lt = omega (arith, lt, length-map ms cut_in)

  pub found_there : (i : ℕ) (m : Member) → IsAt template_of (cuts_of ms) t i → m ≡ get_or ms i m → Some (cut_in m) ≡ cut_of t (cuts_of ms)
  found_there i m at is =
      read_at (cuts_of ms) i (cut_in m) at.inside (sym (cut_read ms i m (inside_cuts i at.inside) is (cut_in m))) ∙ sym (found_at template_of (cuts_of ms) t i rising at)

  pub found_nowhere : (i : ℕ) → IsGap template_of (cuts_of ms) t i → None ≡ cut_of t (cuts_of ms)
  found_nowhere i gap = sym (none_in_gap template_of (cuts_of ms) t i gap)

-- ---- a unit at its place

map_insert : {X Y : Type 0} (f : X → Y) (xs : List X) (i : ℕ) (x : X) → map f (insert xs i x) ≡ insert (map f xs) i (f x)
map_insert f [] zero x = refl
map_insert f [] (suc i) x = refl
map_insert f (y ∷ xs) zero x = refl
map_insert f (y ∷ xs) (suc i) x = ap (λ ys. f y ∷ ys) (map_insert f xs i x)

module _ (ms : List Member) (units : List Routine) (unit : Routine) (n : ℕ) (m : Member) (are : cuts_of ms ≡ whole units) (is : cut_in m ≡ cut_after unit n) where
  pub cut_replaced : (next : List Member) (i : ℕ) → RiseBy template_of (cuts_of ms) → IsAt template_of (cuts_of ms) unit.template i → next ≡ set ms i m → cuts_of next ≡ with_cut unit n units
  cut_replaced next i rising at put =
      ap cuts_of put
      ∙ (map-set cut_in ms i m
      ∙ (ap (λ (c : Cut). set (cuts_of ms) i c) is
      ∙ (sym (newer_at template_of (cuts_of ms) (cut_after unit n) i rising at)
      ∙ ap (λ (cs : List Cut). placed_by template_of true (cut_after unit n) cs) are)))

  pub cut_inserted : (next : List Member) (i : ℕ) → IsGap template_of (cuts_of ms) unit.template i → next ≡ insert ms i m → cuts_of next ≡ with_cut unit n units
  cut_inserted next i gap put =
      ap cuts_of put
      ∙ (map_insert cut_in ms i m
      ∙ (ap (λ (c : Cut). insert (cuts_of ms) i c) is
      ∙ (sym (placed_in_gap template_of true (cuts_of ms) (cut_after unit n) i gap)
      ∙ ap (λ (cs : List Cut). placed_by template_of true (cut_after unit n) cs) are)))

-- ---- they rise by their templates

whole_below : (t : Routine) (us : List Routine) → AllByRecursion (λ (u : Routine). template_cmp t.template u.template ≡ Less) us → AllByRecursion (λ (c : Cut). template_cmp t.template (template_of c) ≡ Less) (whole us)
whole_below t [] a = tt
whole_below t (u ∷ us) a = (a.0, whole_below t us a.1)

pub whole_rises : (us : List Routine) → AreRising us → RiseBy template_of (whole us)
whole_rises [] r = tt
whole_rises (u ∷ us) r = (whole_below u us r.0, whole_rises us r.1)

pub cut_rises : (unit : Routine) (n : ℕ) (us : List Routine) → RiseBy template_of (whole us) → RiseBy template_of (with_cut unit n us)
cut_rises unit n us r = rise_placed template_of true (cut_after unit n) (whole us) r
