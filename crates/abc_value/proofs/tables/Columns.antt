-- The keys and the associates of entries, as columns.
use Rattle.std.proofs.Common.{◌≡◌, ℕ, zero, suc, List, [], ◌∷◌, map, Option, Some, refl, ap}
use Rattle.std.specs.List.{insert, remove, slice_set}
use Rattle.abc_value.specs.Tree.{Tree, trees, pairs, table}
use Rattle.abc_value.specs.Forms.{Form, anything, a_table, both, joined, form_of, common, common_key, common_associate}
use Rattle.abc_value.specs.inner.Kept.{common_form}

-- a change of a list is one of each of its columns
pub column_insert : {X Y : Type 0} (part : X → Y) (xs : List X) (n : ℕ) (x : X) → map part (insert xs n x) ≡ insert (map part xs) n (part x)
column_insert part xs zero x = refl
column_insert part [] (suc n) x = refl
column_insert part (y ∷ ys) (suc n) x = ap (λ zs. part y ∷ zs) (column_insert part ys n x)

pub column_remove : {X Y : Type 0} (part : X → Y) (xs : List X) (n : ℕ) → map part (remove xs n) ≡ remove (map part xs) n
column_remove part [] zero = refl
column_remove part [] (suc n) = refl
column_remove part (y ∷ ys) zero = refl
column_remove part (y ∷ ys) (suc n) = ap (λ zs. part y ∷ zs) (column_remove part ys n)

pub column_set : {X Y : Type 0} (part : X → Y) (xs : List X) (n : ℕ) (x : X) → map part (slice_set xs n x) ≡ slice_set (map part xs) n (part x)
column_set part [] n x = refl
column_set part (y ∷ ys) zero x = refl
column_set part (y ∷ ys) (suc n) x = ap (λ zs. part y ∷ zs) (column_set part ys n x)

-- the form of the keys and of the associates of pairs
keys_common : (o : Option Form) (ps : List (Tree × Tree)) → common o (trees (map (λ p. p.0) ps)) ≡ common_key o (pairs ps)
keys_common o [] = refl
keys_common o (p ∷ ps) = keys_common (joined o (form_of p.0)) ps

associates_common : (o : Option Form) (ps : List (Tree × Tree)) → common o (trees (map (λ p. p.1) ps)) ≡ common_associate o (pairs ps)
associates_common o [] = refl
associates_common o (p ∷ ps) = associates_common (joined o (form_of p.1)) ps

pub table_form : (ps : List (Tree × Tree)) → both a_table (common_form (map (λ p. p.0) ps)) (common_form (map (λ p. p.1) ps)) ≡ form_of (table (pairs ps))
table_form ps = λ i. both a_table (keys_common (Some anything) ps i) (associates_common (Some anything) ps i)
