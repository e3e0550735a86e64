-- Changes of parts, computed.
use Rattle.std.proofs.Common.{◌≡◌, [], ◌∷◌, Some, Ok, Err, refl}
use Rattle.std.specs.Prelude.{ℕ, pos}
use Rattle.abc_num.specs.Number.{whole_number}
use Rattle.abc_value.specs.declared.faults.RunFault.TheVariants.{NoValue, NoKey}
use Rattle.abc_value.specs.Tree.{Tree, number, text, table, empty, no_pairs, pair}
use Rattle.abc_value.specs.Sizes.{size_fault, sizes_fault}
use Rattle.abc_meaning.specs.State.{key, faulty, wrong}
use Rattle.abc_meaning.specs.Changing.{changed, puts, inserts, deletes}

abbrev n : ℕ → Tree
n k = number (whole_number (pos k))

abbrev a : Tree
a = text (97 ∷ [])

-- `{[1]: {}; [2]: {["a"]: 1}}`
abbrev e : Tree
e = table (pair (n 1) empty (pair (n 2) (table (pair a (n 1) no_pairs)) no_pairs))

no_key : changed deletes NoValue (key (n 1) ∷ key (n 5) ∷ []) (Some e) ≡ Err (faulty NoKey)
no_key = refl

no_inner_key : changed (puts a) NoValue (key (n 3) ∷ key a ∷ []) (Some e) ≡ Err (faulty NoKey)
no_inner_key = refl

no_list_key : changed (inserts (n 1)) NoValue (key (n 3) ∷ []) (Some e) ≡ Err (faulty NoKey)
no_list_key = refl

no_key_of_it : changed deletes NoValue (key a ∷ []) (Some e) ≡ Err wrong
no_key_of_it = refl

no_list : changed (inserts (n 1)) NoValue (key (n 2) ∷ []) (Some e) ≡ Err wrong
no_list = refl

-- an inner table and its key fit, and the outer table doesn't fit with what is put
outer_clash : changed (puts (n 1)) NoValue (key (n 1) ∷ key (n 5) ∷ []) (Some e) ≡ Err wrong
unfolding size_fault sizes_fault
outer_clash = refl

deleted : changed deletes NoValue (key (n 2) ∷ key a ∷ []) (Some e) ≡ Ok (Some (table (pair (n 1) empty (pair (n 2) empty no_pairs))))
unfolding size_fault sizes_fault
deleted = refl
