-- What it is to change a part: to put a value there, to insert or remove an element, or to delete it.
use Rattle.std.specs.Prelude.{ℕ, Bool, true, List, [], ◌∷◌, ◌++◌, Option, Some, None, Result, Ok, Err, ◌==◌, if◌then◌else◌, is_some}
use Rattle.abc_value.specs.declared.faults.ValueFault.{ValueFault}
use Rattle.abc_value.specs.declared.faults.RunFault.{RunFault}
use Rattle.abc_value.specs.declared.faults.RunFault.TheVariants.{NoValue, NoKey, NoElement, NotAnAddress}
use Rattle.abc_value.specs.Tree.{Tree, Trees, compound, list, table, trees, pairs, table_of, no_trees, more}
use Rattle.abc_value.specs.Parts.{parts_of, pairs_of}
use Rattle.abc_value.specs.Changes.{add, is_element, without, with_pair, without_key, associate_of}
use Rattle.abc_value.specs.Items.{if_small}
use Rattle.abc_value.specs.Forms.{anything, both, form_of}
use Rattle.abc_value.specs.Faults.{run_fault_of_value}
use Rattle.abc_meaning.specs.State.{Step, key, Address, place, several, Addresses, no_addresses, more_addresses, Formal, Stop, faulty, wrong, Run, gives, becomes, ◌>>◌}
use Rattle.abc_meaning.specs.Here.{Here, look, assign, fault, halt, mistake}
use Rattle.abc_meaning.specs.Fits.{fits_table, fits_list}

-- a change of a part: a value is put there, an element is inserted or removed, or it is deleted
pub data Change : Type 0 where
  puts : Tree → Change
  inserts : Tree → Change
  removes : Tree → Change
  deletes : Change

-- a part of a name's value: the steps that lead to it
pub record Part : Type 0 where
  pub name : ℕ
  pub steps : List Step

-- what a change makes of a part that may have no value: its new value or none, or why it stops
abbrev pub Changed : Type 0
Changed = Result (Option Tree) Stop

abbrev pub sized : Result Tree ValueFault → Changed
sized (Ok v) = Ok (Some v)
sized (Err f) = Err (faulty (run_fault_of_value f))

-- a change where types fit what it works on
abbrev pub if_fit : Bool → Changed → Changed
if_fit fit c = if fit then c else Err wrong

-- the part itself; a value that isn't there is `missing`
abbrev pub changed_to : Change → RunFault → Option Tree → Changed
changed_to (puts v) missing old = Ok (Some v)
changed_to (inserts v) missing (Some t) = if_fit (fits_list t v) (sized (if_small (list (trees (add v (parts_of t))))))
changed_to (removes v) missing (Some t) =
    if_fit (fits_list t v) (if is_element v (parts_of t) then Ok (Some (list (trees (without v (parts_of t))))) else Err (faulty NoElement))
changed_to deletes missing (Some t) = Ok None
changed_to _ missing None = Err (faulty missing)

-- the table with a new associate at a key, or without the key
abbrev pub with_associate : Tree → Tree → Changed → Changed
with_associate k t (Ok (Some a)) = if_fit (fits_table t k (form_of a)) (sized (if_small (table (pairs (with_pair k a (pairs_of t))))))
with_associate k t (Ok None) = Ok (Some (table_of (without_key k (pairs_of t))))
with_associate k t (Err stop) = Err stop

-- The value whose part is changed, selection by selection from the name on: each table and its key must fit before what stands
-- there is looked at. Then from the inner part outwards: each table with its key and what stands there now.
abbrev pub changed : Change → RunFault → List Step → Option Tree → Changed
changed c missing [] old = changed_to c missing old
changed c missing (key k ∷ steps) (Some t) =
    if_fit (fits_table t k (Some anything)) (with_associate k t (changed c NoKey steps (associate_of k (pairs_of t))))
changed c missing (key k ∷ steps) None = Err (faulty missing)

-- the formal that has this name, if there is one
abbrev pub formal_named : ℕ → List Formal → Option Formal
formal_named i [] = None
formal_named i (f ∷ formals) = if f.name == i then Some f else formal_named i formals

-- it counts as changed from now on
abbrev pub marked : ℕ → List Formal → List Formal
marked i [] = []
marked i (f ∷ formals) = if f.name == i then record f { changed = true } ∷ formals else f ∷ marked i formals

-- the parts of an address, from left to right
abbrev mutual
  pub parts : Address → List Part
  parts (place i steps) = record { name = i; steps = steps } ∷ []
  parts (several all) = parts_all all

  pub parts_all : Addresses → List Part
  parts_all no_addresses = []
  parts_all (more_addresses a rest) = parts a ++ parts_all rest

-- each with the field that is put there, where the fields match
abbrev mutual
  pub fielded : Address → Tree → Option (List (Part × Tree))
  fielded (place i steps) v = Some ((record { name = i; steps = steps }, v) ∷ [])
  fielded (several all) (compound vs) = fielded_all all vs
  fielded (several all) v = None

  pub fielded_all : Addresses → Trees → Option (List (Part × Tree))
  fielded_all no_addresses no_trees = Some []
  fielded_all (more_addresses a rest) (more v vs) = both (λ xs ys. xs ++ ys) (fielded a v) (fielded_all rest vs)
  fielded_all _ _ = None

module _ (here : Here) where
  -- a formal whose actual is no address may not be changed
  abbrev pub marking : ℕ → List Formal → Option Formal → Run (Unit {0})
  marking i formals None = gives tt
  marking i formals (Some formal) = if is_some formal.address then becomes (λ s. record s { formals = marked i formals }) else fault here NotAnAddress

  abbrev pub mark : ℕ → Run (Unit {0})
  mark i s = marking i s.formals (formal_named i s.formals) s

  abbrev pub assigned : ℕ → Changed → Run (Unit {0})
  assigned i (Ok new) = becomes (assign here.scope i new)
  assigned i (Err stop) = halt here stop

  -- one part is changed
  abbrev pub change : Change → Part → Run (Unit {0})
  change c part = do
    mark part.name
    λ s. assigned part.name (changed c NoValue part.steps (look here.scope part.name s)) s

  abbrev pub put_parts : List (Part × Tree) → Run (Unit {0})
  put_parts [] = gives tt
  put_parts (p ∷ ps) = do
    change (puts p.1) p.0
    put_parts ps

  abbrev pub put_fields : Option (List (Part × Tree)) → Run (Unit {0})
  put_fields None = mistake here
  put_fields (Some ps) = put_parts ps

  -- a value is put, its fields from left to right
  abbrev pub put : Address → Tree → Run (Unit {0})
  put a v = put_fields (fielded a v)

  -- the parts are deleted from left to right
  abbrev pub delete : List Part → Run (Unit {0})
  delete [] = gives tt
  delete (p ∷ ps) = do
    change deletes p
    delete ps

  -- a list gets an element more or loses one; several places are no list
  abbrev pub change_list : Change → Address → Run (Unit {0})
  change_list c (place i steps) = change c (record { name = i; steps = steps })
  change_list c (several all) = mistake here
