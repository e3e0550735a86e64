-- No name of an item has two roles that don't go together, by the names of all its lines.
use Rattle.std.proofs.Common.{◌≡◌, ◌⊎◌, inl, inr, ℕ, Bool, true, false, List, [], ◌∷◌, Option, Some, None, refl, ap, sym, ◌∙◌, subst}
use Rattle.std.specs.Prelude.{◌||◌, if◌then◌else◌, option_map, slice_get, unwrap_or}
use Rattle.std.specs.List.{AllByRecursion}
use Rattle.std.proofs.lemmas.Bool.{or_parts}
use Rattle.std.proofs.lemmas.Option.{slice_get-map}
use Rattle.abc_num.specs.Text.{text_eq}
use Rattle.abc_num.proofs.Texts.{text_eq-Decides}
use Rattle.abc_tree.specs.Regular.{is_value_kind}
use Rattle.abc_tree.specs.RegularItems.{name_at}
use Rattle.abc_expressions.specs.Addresses.{each_once}
use Rattle.abc_outline.specs.declared.refining.Refined.{Refined}
use Rattle.abc_outline.specs.declared.rows.Row.{Row}
use Rattle.abc_outline.specs.Outline.{is_refinement}
use Rattle.abc_outline.specs.OwnNames.{name_kinds}
use Rattle.abc_outline.specs.Refinements.{heading_name, kind_of_name, refined_at, refined_from}
use Rattle.abc_clauses.specs.Names as names_of_clauses
use Rattle.abc_clauses.specs.Names.{refinement_at}
use Rattle.abc_faults.specs.declared.facts.Facts.{Facts}
use Rattle.abc_faults.specs.declared.fault.FaultKind.TheVariants as k
use Rattle.abc_faults.specs.declared.sayings.Saying.{Saying}
use Rattle.abc_faults.specs.declared.taken_names.TakenNames.{TakenNames}
use Rattle.abc_faults.specs.Causes.{cause}
use Rattle.abc_faults.specs.Facts.{edges}
use Rattle.abc_faults.specs.Faults.{fault_from}
use Rattle.abc_faults.specs.Names.{clashes_above, clashes_with, is_one, meet, names_here, roles_again, taken, twice}
use Rattle.abc_faults.specs.Sayings.{AllSay, next_line, stop}
use Rattle.abc_faults.proofs.Leasts.{or_none}
use Rattle.abc_parse.proofs.each_thing.EachLine.{turned}
use Rattle.abc_parse.proofs.units.FewNames.{found_if, has, has_each}
use Rattle.abc_parse.proofs.spelling.Formed.{quiet, role_at}
use Rattle.abc_parse.proofs.units.Headings.{first_word, or_left, or_right}
use Rattle.abc_parse.proofs.names.NamesTold.{Among}
use Rattle.abc_parse.proofs.each_thing.SimpleNodes.{ReadingLaws}

-- ---- tests

either : (a b : Bool) → (a || b) ≡ true → (a ≡ true) ⊎ (b ≡ true)
either true b e = inl refl
either false b e = inr e

neither : (a b : Bool) → a ≡ false → b ≡ false → (a || b) ≡ false
neither a b p q = ap (λ a. a || b) p ∙ q

in_each : (found more : List (List ℕ)) (w : List ℕ) → has (each_once found more) w ≡ true → (has found w ≡ true) ⊎ (has more w ≡ true)
in_each found more w h = either (has found w) (has more w) (sym (has_each found more w) ∙ h)

in_neither : (found more : List (List ℕ)) (w : List ℕ) → has found w ≡ false → has more w ≡ false → has (each_once found more) w ≡ false
in_neither found more w p q = has_each found more w ∙ neither (has found w) (has more w) p q

each_left : (found more : List (List ℕ)) → Among found (each_once found more)
each_left found more w h = has_each found more w ∙ or_left (has found w) (has more w) h

each_right : (found more : List (List ℕ)) → Among more (each_once found more)
each_right found more w h = has_each found more w ∙ or_right (has found w) (has more w) h

-- a word of these is none of those
met : (names others : List (List ℕ)) → meet names others ≡ false → (w : List ℕ) → has others w ≡ true → has names w ≡ false
met names [] e w h = absurd cc
met names (x ∷ others) e w h =
    let q = or_parts (is_one names x) (meet names others) e in by q.0 (met names others q.1 w) (text_eq w x) refl
  where
    by : is_one names x ≡ false → (has others w ≡ true → has names w ≡ false) → (b : Bool) → text_eq w x ≡ b → has names w ≡ false
    by free later true t = subst (λ y. has names y ≡ false) (sym ((text_eq-Decides w x).0 t)) (sym (found_if (text_eq x) names) ∙ free)
    by free later false t = later (sym (ap (λ b. b || has others w) t) ∙ h)

unmet : (names others : List (List ℕ)) → meet names others ≡ false → (w : List ℕ) → has names w ≡ true → has others w ≡ false
unmet names others e w h = by (has others w) refl where
  by : (b : Bool) → has others w ≡ b → has others w ≡ false
  by true t = let z : has names w ≡ false = met names others e w t in absurd cc
  by false t = t

-- ---- names of all lines

-- these lines, and those below them, the last of which is first
abbrev pub whole : List Row → List Row → List Row
whole above [] = above
whole above (row ∷ rows) = whole (row ∷ above) rows

pub same_whole : (above rows : List Row) → whole [] (turned above rows) ≡ whole above rows
same_whole [] rows = refl
same_whole (row ∷ above) rows = same_whole above (row ∷ rows)

pub record IsApart (names : TakenNames) : Type 0 where
  pub put_refined : (w : List ℕ) → has names.put w ≡ true → has names.refined w ≡ false
  pub bound_roles : (w : List ℕ) → has names.bound w ≡ true → has names.roles w ≡ false
  pub bound_put : (w : List ℕ) → has names.bound w ≡ true → has names.put w ≡ false

-- the name of each is one of a refinement, and of those with a role
abbrev pub AreTaken : TakenNames → List Refined → Type 0
AreTaken names ss = AllByRecursion (λ s. (has names.refined s.name ≡ true) × (has names.roles s.name ≡ true)) ss

module _ (facts : Facts) where
  pub kept_put : (above rows : List Row) → Among (taken facts above).put (taken facts (whole above rows)).put
  kept_put above [] w h = h
  kept_put above (row ∷ rows) w h = kept_put (row ∷ above) rows w (each_left (taken facts above).put (names_here facts above row).put w h)

  pub kept_bound : (above rows : List Row) → Among (taken facts above).bound (taken facts (whole above rows)).bound
  kept_bound above [] w h = h
  kept_bound above (row ∷ rows) w h = kept_bound (row ∷ above) rows w (each_left (taken facts above).bound (names_here facts above row).bound w h)

  pub kept_refined : (above rows : List Row) → Among (taken facts above).refined (taken facts (whole above rows)).refined
  kept_refined above [] w h = h
  kept_refined above (row ∷ rows) w h = kept_refined (row ∷ above) rows w (each_left (taken facts above).refined (names_here facts above row).refined w h)

  abbrev roles_more : List Row → Row → List (List ℕ)
  roles_more above row = each_once (taken facts above).roles (names_here facts above row).named

  pub kept_roles : (above rows : List Row) → Among (taken facts above).roles (taken facts (whole above rows)).roles
  kept_roles above [] w h = h
  kept_roles above (row ∷ rows) w h =
      kept_roles (row ∷ above) rows w (each_left (roles_more above row) (names_here facts above row).refined w (each_left (taken facts above).roles (names_here facts above row).named w h))

  -- the names of a line are among those of all
  pub put_in : (above : List Row) (row : Row) (rows : List Row) → Among (names_here facts above row).put (taken facts (whole above (row ∷ rows))).put
  put_in above row rows w h = kept_put (row ∷ above) rows w (each_right (taken facts above).put (names_here facts above row).put w h)

  pub bound_in : (above : List Row) (row : Row) (rows : List Row) → Among (names_here facts above row).bound (taken facts (whole above (row ∷ rows))).bound
  bound_in above row rows w h = kept_bound (row ∷ above) rows w (each_right (taken facts above).bound (names_here facts above row).bound w h)

  pub refined_in : (above : List Row) (row : Row) (rows : List Row) → Among (names_here facts above row).refined (taken facts (whole above (row ∷ rows))).refined
  refined_in above row rows w h = kept_refined (row ∷ above) rows w (each_right (taken facts above).refined (names_here facts above row).refined w h)

  pub role_in : (above : List Row) (row : Row) (rows : List Row) → Among (names_here facts above row).refined (taken facts (whole above (row ∷ rows))).roles
  role_in above row rows w h = kept_roles (row ∷ above) rows w (each_right (roles_more above row) (names_here facts above row).refined w h)

  pub named_in : (above : List Row) (row : Row) (rows : List Row) → Among (names_here facts above row).named (taken facts (whole above (row ∷ rows))).roles
  named_in above row rows w h =
      kept_roles (row ∷ above) rows w
      (each_left (roles_more above row) (names_here facts above row).refined w (each_right (taken facts above).roles (names_here facts above row).named w h))

  -- ---- a line more

  pub once : (above : List Row) (row : Row) (rows : List Row) → cause facts above row rows ≡ None → twice (taken facts above) (names_here facts above row) ≡ false
  once above row rows fine = (or_parts (twice (taken facts above) (names_here facts above row)) _ (quiet facts above row rows fine k.NameTwice)).0

  module _ (above : List Row) (row : Row) (rows : List Row) (fine : cause facts above row rows ≡ None) (ih : IsApart (taken facts above)) where
    abbrev found : TakenNames
    found = taken facts above

    abbrev put : List (List ℕ)
    put = (names_here facts above row).put

    abbrev bound : List (List ℕ)
    bound = (names_here facts above row).bound

    abbrev named : List (List ℕ)
    named = (names_here facts above row).named

    abbrev refined : List (List ℕ)
    refined = (names_here facts above row).refined

    abbrev all : TakenNames
    all = taken facts (row ∷ above)

    clashes : (clashes_above found (names_here facts above row) ≡ false) × (clashes_with all (names_here facts above row) ≡ false)
    clashes =
        let t = or_parts (roles_again found (names_here facts above row)) (clashes_above found (names_here facts above row) || clashes_with all (names_here facts above row)) (once above row rows fine) in
        or_parts (clashes_above found (names_here facts above row)) (clashes_with all (names_here facts above row)) t.1

    bound_named : (meet found.bound named ≡ false) × (meet found.bound refined || (meet found.bound put || meet found.refined put) ≡ false)
    bound_named = or_parts (meet found.bound named) (meet found.bound refined || (meet found.bound put || meet found.refined put)) clashes.0

    bound_refined : (meet found.bound refined ≡ false) × (meet found.bound put || meet found.refined put ≡ false)
    bound_refined = or_parts (meet found.bound refined) (meet found.bound put || meet found.refined put) bound_named.1

    both_put : (meet found.bound put ≡ false) × (meet found.refined put ≡ false)
    both_put = or_parts (meet found.bound put) (meet found.refined put) bound_refined.1

    roles_bound : (meet all.roles bound ≡ false) × (meet all.put bound || meet all.put refined ≡ false)
    roles_bound = or_parts (meet all.roles bound) (meet all.put bound || meet all.put refined) clashes.1

    put_bound : (meet all.put bound ≡ false) × (meet all.put refined ≡ false)
    put_bound = or_parts (meet all.put bound) (meet all.put refined) roles_bound.1

    new_put : (w : List ℕ) → has all.put w ≡ true → has all.refined w ≡ false
    new_put w h = in_neither found.refined refined w (by (in_each found.put put w h)) (unmet all.put refined put_bound.1 w h) where
      by : (has found.put w ≡ true) ⊎ (has put w ≡ true) → has found.refined w ≡ false
      by (inl e) = ih.put_refined w e
      by (inr e) = met found.refined put both_put.1 w e

    new_bound : (w : List ℕ) → has all.bound w ≡ true → (has all.roles w ≡ false) × (has all.put w ≡ false)
    new_bound w h = by (in_each found.bound bound w h) where
      by : (has found.bound w ≡ true) ⊎ (has bound w ≡ true) → (has all.roles w ≡ false) × (has all.put w ≡ false)
      by (inl e) = (
        in_neither (roles_more above row) refined w (in_neither found.roles named w (ih.bound_roles w e) (unmet found.bound named bound_named.0 w e)) (unmet found.bound refined bound_refined.0 w e),
        in_neither found.put put w (ih.bound_put w e) (unmet found.bound put both_put.0 w e),
      )
      by (inr e) = (met all.roles bound roles_bound.0 w e, met all.put bound put_bound.0 w e)

    apart_further : IsApart all
    apart_further = record { put_refined = new_put; bound_roles = λ w h. (new_bound w h).0; bound_put = λ w h. (new_bound w h).1 }

  apart_from : (above rows : List Row) → fault_from facts above rows ≡ None → IsApart (taken facts above) → IsApart (taken facts (whole above rows))
  apart_from above [] f ih = ih
  apart_from above (row ∷ rows) f ih =
      let q = or_none (cause facts above row rows) _ _ f in apart_from (row ∷ above) rows q.1 (apart_further above row rows q.0 ih)

  pub all_apart : (rows : List Row) → fault_from facts [] rows ≡ None → IsApart (taken facts (whole [] rows))
  all_apart rows f = apart_from [] rows f (record { put_refined = λ w h. refl; bound_roles = λ w h. refl; bound_put = λ w h. refl })

  -- ---- refinements

  module _ (laws : ReadingLaws) where
    all_taken : (above : List Row) {rows : List Row} {lines : List Saying} → AllSay facts above rows lines → AreTaken (taken facts (whole above rows)) (refined_from facts.setting (edges above) rows)
    all_taken above stop = tt
    all_taken above {rows = row ∷ rows} (next_line {clause = clause} says say) = by (is_refinement (role_at facts above row)) refl (all_taken (row ∷ above) say) where
      names : TakenNames
      names = taken facts (whole above (row ∷ rows))

      ss : List Refined
      ss = refined_from facts.setting (edges (row ∷ above)) rows

      by : (b : Bool) → is_refinement (role_at facts above row) ≡ b → AreTaken (taken facts (whole (row ∷ above) rows)) ss
          → AreTaken (taken facts (whole (row ∷ above) rows)) (if b then refined_at facts.setting (edges above) row rows ∷ ss else ss)
      by false plain ih = ih
      by true heading ih =
          let x = heading_name row.read in
          let w = first_word laws facts above row rows clause says heading in
          let there : has (names_here facts above row).refined x ≡ true = ap (λ words. has words x) w.1 ∙ or_left (text_eq x x) (has w.0 x) ((text_eq-Decides x x).1 refl) in
          ((refined_in above row rows x there, role_in above row rows x there), ih)

    pub refinements_taken : (rows : List Row) {lines : List Saying} → AllSay facts [] rows lines → AreTaken (taken facts (whole [] rows)) (refined_from facts.setting [] rows)
    refinements_taken rows say = all_taken [] say

-- ---- a word that is no refinement has no kind

no_kind : (names : List (List ℕ)) (w : List ℕ) → has names w ≡ false → (ss : List Refined) → AllByRecursion (λ s. has names s.name ≡ true) ss → kind_of_name ss w ≡ None
no_kind names w n [] h = refl
no_kind names w n (s ∷ ss) h = by (no_kind names w n ss h.1) (text_eq s.name w) refl where
  by : kind_of_name ss w ≡ None → (b : Bool) → text_eq s.name w ≡ b → kind_of_name (s ∷ ss) w ≡ None
  by later true t =
      let z : has names w ≡ true = subst (λ x. has names x ≡ true) ((text_eq-Decides s.name w).0 t) h.0 in absurd cc
  by later false t = ap (λ b. if b then Some s.kind else kind_of_name ss w) t ∙ later

pub gives_value : (names : List (List ℕ)) (ss : List Refined) (refined : List (List ℕ)) → AllByRecursion (λ s. has refined s.name ≡ true) ss → (n : ℕ)
    → has refined (name_at names n) ≡ false → is_value_kind (refinement_at (name_kinds names ss) n) ≡ true
gives_value names ss refined h n free = ap (λ o. is_value_kind (names_of_clauses.kind_there o)) (slice_get-map (kind_of_name ss) names n) ∙ by (slice_get names n) refl where
  by : (o : Option (List ℕ)) → slice_get names n ≡ o → is_value_kind (names_of_clauses.kind_there (option_map (kind_of_name ss) (slice_get names n))) ≡ true
  by None e = ap (λ o. is_value_kind (names_of_clauses.kind_there (option_map (kind_of_name ss) o))) e
  by (Some x) e =
      let same : name_at names n ≡ x = ap (λ o. unwrap_or o []) e in
      let none : kind_of_name ss x ≡ None = no_kind refined x (subst (λ y. has refined y ≡ false) same free) ss h in
      ap (λ o. is_value_kind (names_of_clauses.kind_there (option_map (kind_of_name ss) o))) e ∙ ap is_value_kind none
