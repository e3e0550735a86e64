-- A change that stops wants no line.
use Rattle.std.proofs.Common.{◌≡◌, Bool, true, false, List, [], ◌∷◌, Option, Some, None, Result, Ok, Err, if◌then◌else◌, refl}
use Rattle.abc_value.specs.declared.faults.ValueFault.{ValueFault}
use Rattle.abc_value.specs.declared.faults.RunFault.{RunFault}
use Rattle.abc_value.specs.declared.faults.RunFault.TheVariants.{NoElement, NoKey}
use Rattle.abc_value.specs.Tree.{Tree, list, table, trees, pairs}
use Rattle.abc_value.specs.Parts.{parts_of, pairs_of}
use Rattle.abc_value.specs.Changes.{add, is_element, without, with_pair, associate_of}
use Rattle.abc_value.specs.Items.{if_small}
use Rattle.abc_value.specs.Forms.{anything, form_of}
use Rattle.abc_meaning.specs.State.{Step, key, faulty, wrong}
use Rattle.abc_meaning.specs.Fits.{fits_table, fits_list}
use Rattle.abc_meaning.specs.Changing.{Change, Changed, changed, changed_to, with_associate, sized, puts, inserts, removes, deletes}
use Rattle.abc_meaning.specs.Laws.{is_wanting}

abbrev pub IsDecided : Changed → Type 0
IsDecided (Ok v) = Unit {0}
IsDecided (Err stop) = is_wanting stop ≡ false

sized_decided : (r : Result Tree ValueFault) → IsDecided (sized r)
sized_decided (Ok v) = tt
sized_decided (Err f) = refl

if_decided : (b : Bool) (c : Changed) → IsDecided c → IsDecided (if b then c else Err wrong)
if_decided true c is = is
if_decided false c is = refl

removed_decided : (b : Bool) (v : Tree) → IsDecided (if b then Ok (Some v) else Err (faulty NoElement))
removed_decided true v = tt
removed_decided false v = refl

to_decided : (c : Change) (missing : RunFault) (old : Option Tree) → IsDecided (changed_to c missing old)
to_decided (puts v) missing None = tt
to_decided (puts v) missing (Some t) = tt
to_decided (inserts v) missing None = refl
to_decided (inserts v) missing (Some t) = if_decided (fits_list t v) _ (sized_decided (if_small (list (trees (add v (parts_of t))))))
to_decided (removes v) missing None = refl
to_decided (removes v) missing (Some t) = if_decided (fits_list t v) _ (removed_decided (is_element v (parts_of t)) (list (trees (without v (parts_of t)))))
to_decided deletes missing None = refl
to_decided deletes missing (Some t) = tt

with_decided : (k t : Tree) (c : Changed) → IsDecided c → IsDecided (with_associate k t c)
with_decided k t (Ok (Some a)) is = if_decided (fits_table t k (form_of a)) _ (sized_decided (if_small (table (pairs (with_pair k a (pairs_of t))))))
with_decided k t (Ok None) is = tt
with_decided k t (Err stop) is = is

pub decided : (c : Change) (missing : RunFault) (steps : List Step) (old : Option Tree) → IsDecided (changed c missing steps old)
decided c missing [] old = to_decided c missing old
decided c missing (key k ∷ steps) (Some t) = if_decided (fits_table t k (Some anything)) _ (with_decided k t _ (decided c NoKey steps (associate_of k (pairs_of t))))
decided c missing (key k ∷ steps) None = refl
