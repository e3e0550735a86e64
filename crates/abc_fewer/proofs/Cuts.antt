-- Units of which fewer lines count, or of which some are kept, are fewer.
use Rattle.std.proofs.Common.{◌≡◌, ◌∙◌, ◌≤◌, ◌⊎◌, inl, inr, ℕ, zero, suc, List, [], ◌∷◌, true, length, ap, subst, refl, arith}
use Rattle.std.specs.Prelude.{Option, Some, None}
use Rattle.std.specs.List.{Contains, AllByRecursion}
use Rattle.std.specs.Ordering.{match_ordering}
use Rattle.std.specs.declared.cmp.Ordering.{Ordering}
use Rattle.std.specs.declared.cmp.Ordering.TheVariants.{Less, Equal, Greater}
use Rattle.std.specs.Cmp.Lexicographic.{nat_list_cmp_total}
use Rattle.std.proofs.lemmas.Cmp.{tied_itself}
use Rattle.abc_tree.specs.Ordered.{RiseBy, placed_by}
use Rattle.abc_tree.specs.Templates.{template_text, template_cmp}
use Rattle.abc_tree.specs.Units.{AreRising}
use Rattle.abc_tree.specs.declared.commands.Unit.{Unit as Routine}
use Rattle.abc_ground.specs.Groups.{Cut, cut_of, template_of, whole, with_cut}
use Rattle.abc_ground.specs.Typable.{Values, IsTypable, IsTypableWith}
use Rattle.abc_tree.specs.declared.commands.Command.{Command}
use Rattle.abc_fewer.specs.Fewer.{AreFewer}
use Rattle.abc_fewer.proofs.Among.{either, contains_map, map_contains}
use Rattle.abc_fewer.proofs.Staying.{typable_stays, command_stays}
use Rattle.abc_fewer.proofs.Ways.{cut_same, cut_found}

-- ---- the same units, of each of which as many lines count, or fewer

abbrev IsShorter : Cut → Cut → Type 0
IsShorter c d = (d.unit ≡ c.unit) × (c.lines ≤ d.lines)

abbrev AreShorter : List Cut → List Cut → Type 0
AreShorter [] [] = Unit {0}
AreShorter (c ∷ cs) (d ∷ ds) = IsShorter c d × AreShorter cs ds
AreShorter _ _ = ⊥

-- one is found that is as long, or longer
abbrev IsFound : Cut → Option Cut → Type 0
IsFound c o = (d : Cut) × (o ≡ Some d) × (d.unit ≡ c.unit) × (c.lines ≤ d.lines)

itself : (w : List Cut) → AreShorter w w
itself [] = tt
itself (c ∷ w) = ((refl, omega arith), itself w)

shorter_fewer : (low high : List Cut) → AreShorter low high → AreFewer low high
shorter_fewer [] [] are t c e = absurd (cc)
shorter_fewer [] (d ∷ ds) are t c e = absurd are
shorter_fewer (x ∷ xs) [] are t c e = absurd are
shorter_fewer (x ∷ xs) (d ∷ ds) are t c e = by_order (template_cmp (template_of x) t) refl e (shorter_fewer xs ds are.1 t c)
  where
    same : template_cmp (template_of d) t ≡ template_cmp (template_of x) t
    same = ap (λ (r : Routine). template_cmp r.template t) are.0.0

    by_order : (o : Ordering) → template_cmp (template_of x) t ≡ o → match_ordering o (cut_of t xs) (Some x) None ≡ Some c → (cut_of t xs ≡ Some c → IsFound c (cut_of t ds)) → IsFound c (cut_of t (d ∷ ds))
    by_order Less is e rest =
        let r : IsFound c (cut_of t ds) = rest e in
        (r.0, ap (λ o. match_ordering o (cut_of t ds) (Some d) None) (same ∙ is) ∙ r.1, r.2, r.3)
    by_order Equal is e rest =
        let f : x ≡ c = cc in
        let shorter : IsShorter c d = subst (λ (y : Cut). IsShorter y d) f are.0 in
        (d, ap (λ o. match_ordering o (cut_of t ds) (Some d) None) (same ∙ is), shorter.0, shorter.1)
    by_order Greater is e rest = absurd (cc)

-- ---- a unit that is cut

abbrev cut_at : Routine → ℕ → Cut
cut_at unit n = record { unit = unit; lines = n }

module _ (unit : Routine) (m n : ℕ) (le : m ≤ n) where
  placed_shorter : (w : List Cut) → AreShorter (placed_by template_of true (cut_at unit m) w) (placed_by template_of true (cut_at unit n) w)
  placed_shorter [] = ((refl, le), tt)
  placed_shorter (x ∷ w) = by_order (template_cmp (template_of x) unit.template) (placed_shorter w)
    where
      by_order : (o : Ordering) → AreShorter (placed_by template_of true (cut_at unit m) w) (placed_by template_of true (cut_at unit n) w)
          → AreShorter (match_ordering o (x ∷ placed_by template_of true (cut_at unit m) w) (cut_at unit m ∷ w) (cut_at unit m ∷ x ∷ w)) (match_ordering o (x ∷ placed_by template_of true (cut_at unit n) w) (cut_at unit n ∷ w) (cut_at unit n ∷ x ∷ w))
      by_order Less rest = ((refl, omega arith), rest)
      by_order Equal rest = ((refl, le), itself w)
      by_order Greater rest = ((refl, le), itself (x ∷ w))

pub cut_fewer : (unit : Routine) (units : List Routine) (m n : ℕ) → m ≤ n → AreFewer (with_cut unit m units) (with_cut unit n units)
cut_fewer unit units m n le = shorter_fewer (with_cut unit m units) (with_cut unit n units) (placed_shorter unit m n le (whole units))

pub shorter_unit : (values : Values) (unit : Routine) (units : List Routine) (m n : ℕ) → m ≤ n → IsTypable values (with_cut unit n units) → IsTypable values (with_cut unit m units)
shorter_unit values unit units m n le = typable_stays (with_cut unit m units) (with_cut unit n units) (cut_fewer unit units m n le) values

-- a command on fewer of its lines
pub fewer_lines : (values : Values) (w : List Cut) (c : Command) (m n : ℕ) → m ≤ n → IsTypableWith values w c n → IsTypableWith values w c m
fewer_lines values w c m n le = command_stays w w (shorter_fewer w w (itself w)) values c m n le

-- ---- units that are kept

each_at : {X : Type 0} (P : X → Type 0) (xs : List X) (x : X) → AllByRecursion P xs → Contains xs x → P x
each_at P [] x each c = absurd (omega (arith, c.1))
each_at P (y ∷ xs) x each (zero, lt, e) = subst P e each.0
each_at P (y ∷ xs) x each (suc i, lt, e) = each_at P xs x each.1 (i, omega (arith, lt), e)

-- a unit is found by its own template
pub found_own : (w : List Cut) (c : Cut) → RiseBy template_of w → Contains w c → cut_of (template_of c) w ≡ Some c
found_own [] c rising m = absurd (omega (arith, m.1))
found_own (x ∷ w) c rising m = by_place (either x w c m) (found_own w c rising.1)
  where
    by_place : (x ≡ c) ⊎ Contains w c → (Contains w c → cut_of (template_of c) w ≡ Some c) → cut_of (template_of c) (x ∷ w) ≡ Some c
    by_place (inl e) rest =
        subst (λ (y : Cut). cut_of (template_of y) (x ∷ w) ≡ Some y) e (ap (λ o. match_ordering o (cut_of (template_of x) w) (Some x) None) (tied_itself nat_list_cmp_total (template_text (template_of x))))
    by_place (inr at) rest =
        let less : template_cmp (template_of x) (template_of c) ≡ Less = each_at (λ (y : Cut). template_cmp (template_of x) (template_of y) ≡ Less) w c rising.0 at in
        ap (λ o. match_ordering o (cut_of (template_of c) w) (Some x) None) less ∙ rest at

abbrev all_lines : Routine → Cut
all_lines u = record { unit = u; lines = length u.lines }

behind_whole : (unit : Routine) (units : List Routine) → AllByRecursion (λ (u : Routine). template_cmp unit.template u.template ≡ Less) units → AllByRecursion (λ c. template_cmp unit.template (template_of c) ≡ Less) (whole units)
behind_whole unit [] each = tt
behind_whole unit (u ∷ units) each = (each.0, behind_whole unit units each.1)

rising_whole : (units : List Routine) → AreRising units → RiseBy template_of (whole units)
rising_whole [] rising = tt
rising_whole (u ∷ units) rising = (behind_whole u units rising.0, rising_whole units rising.1)

module _ (kept units : List Routine) (rising : AreRising units) (among : (unit : Routine) → Contains kept unit → Contains units unit) where
  pub kept_fewer : AreFewer (whole kept) (whole units)
  kept_fewer t c is =
      let found : Contains (whole kept) c × (template_text t ≡ template_text (template_of c)) = cut_found (whole kept) t c is in
      let u : (u : Routine) × Contains kept u × (all_lines u ≡ c) = contains_map all_lines kept c found.0 in
      let at : Contains (whole units) c = subst (λ (d : Cut). Contains (whole units) d) u.2 (map_contains all_lines units u.0 (among u.0 u.1)) in
      (c, cut_same (whole units) t (template_of c) found.1 ∙ found_own (whole units) c (rising_whole units rising) at, refl, omega arith)

  pub kept_units : (values : Values) → IsTypable values (whole units) → IsTypable values (whole kept)
  kept_units values = typable_stays (whole kept) (whole units) kept_fewer values
