-- Which types a value has, by its kind and its parts.
use Rattle.std.proofs.Common.{◌≡◌, ◌∙◌, ◌↔◌, ◌⊎◌, ⊎_elim, inl, inr, suc, ◌≤◌, Bool, true, false, List, [], ◌∷◌, length, map, ap, sym, subst, refl, arith}
use Rattle.std.proofs.lemmas.List.{length-map}
use Rattle.abc_num.specs.declared.types.Ground.{Ground, out-Ground}
use Rattle.abc_num.specs.declared.types.Ground.TheOpen.{Ground-F}
use Rattle.abc_num.specs.declared.types.Ground.TheVariants as type
use Rattle.abc_value.specs.declared.value.Kind.{Kind}
use Rattle.abc_value.specs.declared.value.Kind.TheVariants as kind
use Rattle.abc_value.specs.Tree.{Tree, Trees, Pairs, number, text, compound, list, table, no_trees, more, no_pairs, pair, listed, listed_pairs}
use Rattle.abc_value.specs.Parts.{kind_of, parts_of, keys_of}
use Rattle.abc_value.specs.Sizes.{length_of, count, count_pairs}
use Rattle.abc_value.specs.Types.{has, each_has, all_have, pairs_have, each_listed, all_listed}
use Rattle.abc_value.proofs.forms.Grounds.{number_opens, text_opens, list_opens, table_opens, compound_opens, list_part, compound_part, key_part, associate_part}

-- the kind of the values that aren't empty and have a type
abbrev sort_in : Ground-F Ground → Kind
sort_in Ground-F.Number = kind.Number
sort_in Ground-F.Text = kind.Text
sort_in (Ground-F.Compound gs) = kind.Compound
sort_in (Ground-F.List g) = kind.List
sort_in (Ground-F.Table k a) = kind.Table

abbrev sort : Ground → Kind
sort g = sort_in (out-Ground g)

sort_number : sort type.Number ≡ kind.Number
sort_number = ap sort_in number_opens

sort_text : sort type.Text ≡ kind.Text
sort_text = ap sort_in text_opens

sort_compound : (gs : List Ground) → sort (type.Compound gs) ≡ kind.Compound
sort_compound gs = ap sort_in (compound_opens gs)

sort_list : (g : Ground) → sort (type.List g) ≡ kind.List
sort_list g = ap sort_in (list_opens g)

sort_table : (k a : Ground) → sort (type.Table k a) ≡ kind.Table
sort_table k a = ap sort_in (table_opens k a)

-- values of this kind have types of this sort
abbrev suit : Kind → Kind → Bool
suit kind.Number kind.Number = true
suit kind.Text kind.Text = true
suit kind.Compound kind.Compound = true
suit kind.List kind.List = true
suit kind.Table kind.Table = true
suit kind.Empty kind.List = true
suit kind.Empty kind.Table = true
suit _ _ = false

with_sort : (k s : Kind) (g : Ground) → suit k s ≡ true → sort g ≡ s → suit k (sort g) ≡ true
with_sort k s g e is = ap (suit k) is ∙ e

suits : (t : Tree) (g : Ground) → has t g → suit (kind_of t) (sort g) ≡ true
suits (number n) g h = with_sort kind.Number kind.Number g refl (ap sort h ∙ sort_number)
suits (text b) g h = with_sort kind.Text kind.Text g refl (ap sort h ∙ sort_text)
suits (compound ts) g h = with_sort kind.Compound kind.Compound g refl (ap sort h.1 ∙ sort_compound h.0)
suits (list no_trees) g h =
    ⊎_elim (λ e. with_sort kind.Empty kind.List g refl (ap sort e.1 ∙ sort_list e.0)) (λ e. with_sort kind.Empty kind.Table g refl (ap sort e.2 ∙ sort_table e.0 e.1)) h
suits (list (more t ts)) g h = with_sort kind.List kind.List g refl (ap sort h.1 ∙ sort_list h.0)
suits (table ps) g h = with_sort kind.Table kind.Table g refl (ap sort h.2 ∙ sort_table h.0 h.1)

-- no type of another sort
never : (t : Tree) (g : Ground) (s : Kind) → sort g ≡ s → suit (kind_of t) s ≡ false → has t g → ⊥
never t g s is apart h = let e : false ≡ true = sym apart ∙ ap (suit (kind_of t)) (sym is) ∙ suits t g h in cc

pub numbers : (t : Tree) → has t type.Number ↔ (kind_of t ≡ kind.Number)
numbers (number n) = (λ h. refl, λ h. refl)
numbers (text b) = (λ h. absurd (never (text b) type.Number kind.Number sort_number refl h), λ h. absurd (cc))
numbers (compound ts) = (λ h. absurd (never (compound ts) type.Number kind.Number sort_number refl h), λ h. absurd (cc))
numbers (list no_trees) = (λ h. absurd (never (list no_trees) type.Number kind.Number sort_number refl h), λ h. absurd (cc))
numbers (list (more t ts)) = (λ h. absurd (never (list (more t ts)) type.Number kind.Number sort_number refl h), λ h. absurd (cc))
numbers (table ps) = (λ h. absurd (never (table ps) type.Number kind.Number sort_number refl h), λ h. absurd (cc))

pub texts : (t : Tree) → has t type.Text ↔ (kind_of t ≡ kind.Text)
texts (number n) = (λ h. absurd (never (number n) type.Text kind.Text sort_text refl h), λ h. absurd (cc))
texts (text b) = (λ h. refl, λ h. refl)
texts (compound ts) = (λ h. absurd (never (compound ts) type.Text kind.Text sort_text refl h), λ h. absurd (cc))
texts (list no_trees) = (λ h. absurd (never (list no_trees) type.Text kind.Text sort_text refl h), λ h. absurd (cc))
texts (list (more t ts)) = (λ h. absurd (never (list (more t ts)) type.Text kind.Text sort_text refl h), λ h. absurd (cc))
texts (table ps) = (λ h. absurd (never (table ps) type.Text kind.Text sort_text refl h), λ h. absurd (cc))

each_to : (ts : Trees) (gs : List Ground) → each_has ts gs → each_listed (listed ts) gs
each_to no_trees [] h = tt
each_to no_trees (g ∷ gs) h = absurd h
each_to (more t ts) [] h = absurd h
each_to (more t ts) (g ∷ gs) h = (h.0, each_to ts gs h.1)

each_from : (ts : Trees) (gs : List Ground) → each_listed (listed ts) gs → each_has ts gs
each_from no_trees [] h = tt
each_from no_trees (g ∷ gs) h = absurd h
each_from (more t ts) [] h = absurd h
each_from (more t ts) (g ∷ gs) h = (h.0, each_from ts gs h.1)

-- no compound
no_compound : (t : Tree) (gs : List Ground) → suit (kind_of t) kind.Compound ≡ false → (kind_of t ≡ kind.Compound → ⊥)
    → has t (type.Compound gs) ↔ ((kind_of t ≡ kind.Compound) × each_listed (parts_of t) gs)
no_compound t gs apart other = (λ h. absurd (never t (type.Compound gs) kind.Compound (sort_compound gs) apart h), λ h. absurd (other h.0))

pub compounds : (t : Tree) (gs : List Ground) → has t (type.Compound gs) ↔ ((kind_of t ≡ kind.Compound) × each_listed (parts_of t) gs)
compounds (number n) gs = no_compound (number n) gs refl (λ e. cc)
compounds (text b) gs = no_compound (text b) gs refl (λ e. cc)
compounds (compound ts) gs = (λ h. (refl, subst (λ hs. each_listed (listed ts) hs) (sym (compound_part gs h.0 h.1)) (each_to ts h.0 h.2)), λ h. (gs, refl, each_from ts gs h.1))
compounds (list no_trees) gs = no_compound (list no_trees) gs refl (λ e. cc)
compounds (list (more t ts)) gs = no_compound (list (more t ts)) gs refl (λ e. cc)
compounds (table ps) gs = no_compound (table ps) gs refl (λ e. cc)

all_to : (ts : Trees) (g : Ground) → all_have ts g → all_listed (listed ts) g
all_to no_trees g h = tt
all_to (more t ts) g h = (h.0, all_to ts g h.1)

all_from : (ts : Trees) (g : Ground) → all_listed (listed ts) g → all_have ts g
all_from no_trees g h = tt
all_from (more t ts) g h = (h.0, all_from ts g h.1)

-- neither empty nor a list
no_list : (t : Tree) (g : Ground) → suit (kind_of t) kind.List ≡ false → (kind_of t ≡ kind.Empty → ⊥) → (kind_of t ≡ kind.List → ⊥)
    → has t (type.List g) ↔ ((kind_of t ≡ kind.Empty) ⊎ ((kind_of t ≡ kind.List) × all_listed (parts_of t) g))
no_list t g apart empty other = (λ h. absurd (never t (type.List g) kind.List (sort_list g) apart h), λ h. absurd (⊎_elim empty (λ e. other e.0) h))

pub lists : (t : Tree) (g : Ground) → has t (type.List g) ↔ ((kind_of t ≡ kind.Empty) ⊎ ((kind_of t ≡ kind.List) × all_listed (parts_of t) g))
lists (number n) g = no_list (number n) g refl (λ e. cc) (λ e. cc)
lists (text b) g = no_list (text b) g refl (λ e. cc) (λ e. cc)
lists (compound ts) g = no_list (compound ts) g refl (λ e. cc) (λ e. cc)
lists (list no_trees) g = (λ h. inl refl, λ h. inl (g, refl))
lists (list (more t ts)) g =
    (λ h. inr (refl, subst (λ e. all_listed (t ∷ listed ts) e) (sym (list_part g h.0 h.1)) (h.2, all_to ts h.0 h.3)), λ h. ⊎_elim (λ e. absurd (cc)) (λ e. (g, refl, e.1.0, all_from ts g e.1.1)) h)
lists (table ps) g = no_list (table ps) g refl (λ e. cc) (λ e. cc)

pairs_to : (ps : Pairs) (k a : Ground) → pairs_have ps k a → all_listed (map (λ p. p.0) (listed_pairs ps)) k × all_listed (map (λ p. p.1) (listed_pairs ps)) a
pairs_to no_pairs k a h = (tt, tt)
pairs_to (pair l b ps) k a h = let r : all_listed (map (λ p. p.0) (listed_pairs ps)) k × all_listed (map (λ p. p.1) (listed_pairs ps)) a = pairs_to ps k a h.2 in ((h.0, r.0), (h.1, r.1))

pairs_from : (ps : Pairs) (k a : Ground) → all_listed (map (λ p. p.0) (listed_pairs ps)) k → all_listed (map (λ p. p.1) (listed_pairs ps)) a → pairs_have ps k a
pairs_from no_pairs k a h i = tt
pairs_from (pair l b ps) k a h i = (h.0, i.0, pairs_from ps k a h.1 i.1)

-- neither empty nor a table
no_table : (t : Tree) (k a : Ground) → suit (kind_of t) kind.Table ≡ false → (kind_of t ≡ kind.Empty → ⊥) → (kind_of t ≡ kind.Table → ⊥)
    → has t (type.Table k a) ↔ ((kind_of t ≡ kind.Empty) ⊎ ((kind_of t ≡ kind.Table) × all_listed (keys_of t) k × all_listed (parts_of t) a))
no_table t k a apart empty other = (λ h. absurd (never t (type.Table k a) kind.Table (sort_table k a) apart h), λ h. absurd (⊎_elim empty (λ e. other e.0) h))

pub tables : (t : Tree) (k a : Ground) → has t (type.Table k a) ↔ ((kind_of t ≡ kind.Empty) ⊎ ((kind_of t ≡ kind.Table) × all_listed (keys_of t) k × all_listed (parts_of t) a))
tables (number n) k a = no_table (number n) k a refl (λ e. cc) (λ e. cc)
tables (text b) k a = no_table (text b) k a refl (λ e. cc) (λ e. cc)
tables (compound ts) k a = no_table (compound ts) k a refl (λ e. cc) (λ e. cc)
tables (list no_trees) k a = (λ h. inl refl, λ h. inr (k, a, refl))
tables (list (more t ts)) k a = no_table (list (more t ts)) k a refl (λ e. cc) (λ e. cc)
tables (table ps) k a = (
  λ h.
      let r : all_listed (map (λ p. p.0) (listed_pairs ps)) h.0 × all_listed (map (λ p. p.1) (listed_pairs ps)) h.1 = pairs_to ps h.0 h.1 h.3 in
      inr (refl, subst (λ g. all_listed (keys_of (table ps)) g) (sym (key_part k a h.0 h.1 h.2)) r.0, subst (λ g. all_listed (parts_of (table ps)) g) (sym (associate_part k a h.0 h.1 h.2)) r.1),
  λ h. ⊎_elim (λ e. absurd (cc)) (λ e. (k, a, refl, pairs_from ps k a e.1 e.2)) h,
)

listed_count : (ts : Trees) → length (listed ts) ≡ count ts
listed_count no_trees = refl
listed_count (more t ts) = ap suc (listed_count ts)

pairs_count : (ps : Pairs) → length (listed_pairs ps) ≡ count_pairs ps
pairs_count no_pairs = refl
pairs_count (pair k a ps) = ap suc (pairs_count ps)

-- no more parts and keys than the length
pub parts_few : (t : Tree) → length (parts_of t) ≤ length_of t
parts_few (number n) = omega arith
parts_few (text b) = omega arith
parts_few (compound ts) = omega (arith, listed_count ts)
parts_few (list ts) = omega (arith, listed_count ts)
parts_few (table ps) = omega (arith, pairs_count ps, length-map (listed_pairs ps) (λ (p : Tree × Tree). p.1))

pub keys_few : (t : Tree) → length (keys_of t) ≤ length_of t
keys_few (number n) = omega arith
keys_few (text b) = omega arith
keys_few (compound ts) = omega arith
keys_few (list ts) = omega arith
keys_few (table ps) = omega (arith, pairs_count ps, length-map (listed_pairs ps) (λ (p : Tree × Tree). p.0))
