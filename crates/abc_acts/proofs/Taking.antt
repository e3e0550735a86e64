-- What fits an element, and what is removed.
use Rattle.std.proofs.Common.{◌≡◌, ◌≢◌, Bool, true, false, Some, Result, Ok, Err, refl, sym, subst, ap, ◌∙◌}
use Rattle.std.specs.Prelude.{IsTrue, IfOk, if◌then◌else◌}
use Rattle.std.specs.List.{Contains}
use Rattle.abc_num.specs.declared.memory.OutOfMemory.{OutOfMemory}
use Rattle.abc_value.specs.declared.faults.RunFault.{RunFault}
use Rattle.abc_value.specs.declared.faults.RunFault.TheVariants.{NoElement}
use Rattle.abc_value.specs.declared.faults.ValueFault.{ValueFault}
use Rattle.abc_value.specs.declared.faults.ValueFault.TheVariants as of_value
use Rattle.abc_value.specs.Faults.{run_fault_of_value}
use Rattle.abc_state.specs.declared.halt.Halt.{Halt}
use Rattle.abc_state.specs.declared.halt.Halt.TheVariants.{Fault}
use Rattle.abc_acts.specs.inner.Changing.{Stops}
use Rattle.abc_value.specs.Tree.{Tree, number, text, compound, list, table, trees}
use Rattle.abc_value.specs.Parts.{IsList, parts_of}
use Rattle.abc_value.specs.Changes.{is_element, without}
use Rattle.abc_value.specs.Forms.{form_of}
use Rattle.abc_value.specs.Regular.{IsRegular, AllRegular}
use Rattle.abc_value.proofs.trees.Rows.{trees_listed}
use Rattle.abc_value.proofs.ordering.Found.{element_there, there_element}
use Rattle.abc_meaning.specs.State.{faulty}
use Rattle.abc_meaning.specs.Fits.{fits_list}
use Rattle.abc_meaning.specs.Changing.{removes, changed_to, if_fit}
use Rattle.abc_state.proofs.Forming.{list_agrees}

-- what fits an element is a list
pub list_fits : (t v : Tree) (r : Result Bool OutOfMemory) → IfOk r (λ b. b ≡ fits_list t v) → IfOk r (λ b. IsTrue b → IsList t)
list_fits t v (Ok b) h = λ e. list_agrees t (form_of v) (sym h ∙ e)
list_fits t v (Err e) h = tt

-- an element that is there is removed, and another one is not
pub removed : (t e new : Tree) (missing : RunFault) → fits_list t e ≡ true → Contains (parts_of t) e → new ≡ list (trees (without e (parts_of t))) → changed_to (removes e) missing (Some t) ≡ Ok (Some new)
removed t e new missing fit there is =
    ap (λ b. if_fit b (if is_element e (parts_of t) then Ok (Some (list (trees (without e (parts_of t))))) else Err (faulty NoElement))) fit
    ∙ ap (λ b. if b then Ok (Some (list (trees (without e (parts_of t))))) else Err (faulty NoElement)) (there_element e (parts_of t) there)
    ∙ ap (λ n. Ok (Some n)) (sym is)

parts_regular : (t : Tree) → IsList t → IsRegular t → AllRegular (trees (parts_of t))
unfolding IsRegular
parts_regular (number n) l r = absurd l
parts_regular (text b) l r = absurd l
parts_regular (compound ts) l r = absurd l
parts_regular (list ts) l r = subst AllRegular (sym (trees_listed ts)) r.2
parts_regular (table ps) l r = absurd l

pub not_removed : (t e : Tree) (missing : RunFault) → fits_list t e ≡ true → IsList t → IsRegular t → IsRegular e → (Contains (parts_of t) e → ⊥) → changed_to (removes e) missing (Some t) ≡ Err (faulty NoElement)
not_removed t e missing fit l r q none =
    ap (λ b. if_fit b (if is_element e (parts_of t) then Ok (Some (list (trees (without e (parts_of t))))) else Err (faulty NoElement))) fit
    ∙ ap (λ b. if b then Ok (Some (list (trees (without e (parts_of t))))) else Err (faulty NoElement)) (not_there (is_element e (parts_of t)) refl)
  where
    not_there : (b : Bool) → is_element e (parts_of t) ≡ b → is_element e (parts_of t) ≡ false
    not_there false h = h
    not_there true h = absurd (none (element_there e (parts_of t) q (parts_regular t l r) h))

pub remove_stops : (fault : ValueFault) (h : Halt) (t e : Tree) (missing : RunFault) → h ≡ Fault (run_fault_of_value fault) → fits_list t e ≡ true → IsList t → IsRegular t → IsRegular e
    → (fault ≢ of_value.Memory → (fault ≡ of_value.NoElement) × (Contains (parts_of t) e → ⊥)) → Stops h (changed_to (removes e) missing (Some t))
remove_stops fault h t e missing is fit l r q k = subst (λ x. Stops x (changed_to (removes e) missing (Some t))) (sym is) (λ n.
    let w = k (λ m. n (ap run_fault_of_value m)) in
    not_removed t e missing fit l r q w.1 ∙ ap (λ f. Err (faulty (run_fault_of_value f))) (sym w.0))
