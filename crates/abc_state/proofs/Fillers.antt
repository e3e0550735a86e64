-- Fillers of a list display, whose elements are made only at its end.
use Rattle.std.proofs.Common.{◌≡◌, ◌≢◌, ℕ, ◌+◌, ◌-◌, ℤ, pos, Bool, true, false, if◌then◌else◌, List, [], ◌∷◌, ◌++◌, length, get_or, Result, Ok, Err, Option, Some, None, refl, sym, ap, ◌∙◌, arith, inl, inr}
use Rattle.std.specs.Prelude.{◌+ℤ◌, ◌-ℤ◌}
use Rattle.std.proofs.lemmas.List.{append-nil}
use Rattle.std.proofs.lemmas.Grind.{flat_map-append}
use Rattle.std.specs.List.{flat_map}
use Rattle.abc_num.specs.Number.{whole_of}
use Rattle.abc_value.specs.declared.faults.ValueFault.{ValueFault}
use Rattle.abc_value.specs.declared.faults.ValueFault.TheVariants.{Memory}
use Rattle.abc_value.specs.Tree.{Tree, number, text, compound, list, table, trees, empty}
use Rattle.abc_value.specs.Sizes.{size_fault}
use Rattle.abc_value.specs.Changes.{in_order}
use Rattle.abc_value.specs.Parts.{parts_of}
use Rattle.abc_value.specs.Forms.{Form, joined, form_of}
use Rattle.abc_value.specs.Items.{IsAnswer, HaveRange, by_fault, count_of, numbers_from, number_range, characters_from, character_range, range_of}
use Rattle.abc_value.proofs.lists.Adding.{no_fault}
use Rattle.abc_value.proofs.lists.Checking.{range_in_order}
use Rattle.abc_meaning.specs.State.{State, Stop, faulty, wrong, Got, gives, stops, after, Run}
use Rattle.abc_meaning.specs.Here.{Here, mistake}
use Rattle.abc_meaning.specs.Fits.{have_range}
use Rattle.abc_meaning.specs.Value.{answer, range}
use Rattle.abc_state.specs.declared.displays.Filler.{Filler}
use Rattle.abc_state.specs.declared.displays.Filler.TheVariants.{Range}
use Rattle.abc_state.specs.Views.{made_elements, range_elements, filler_elements}
use Rattle.abc_state.specs.declared.halt.Halt.{Halt}
use Rattle.abc_state.specs.declared.halt.Halt.TheVariants.{Fault, Wrong}
use Rattle.abc_state.specs.Agrees.{Halts}
use Rattle.abc_state.specs.Words.{ranged, range_checked}

range_more : (fs : List Filler) (p q : Tree) → flat_map filler_elements (fs ++ Range p q ∷ []) ≡ flat_map filler_elements fs ++ range_elements p q
range_more fs p q = flat_map-append filler_elements fs (Range p q ∷ []) ∙ ap (λ l. flat_map filler_elements fs ++ l) (append-nil (range_elements p q))

same_value : (r t : Tree) (s : State) → gives r s ≡ gives t s → parts_of r ≡ parts_of t
same_value r t s e = let same : r ≡ t = cc in ap parts_of same

-- a range that gives a list has its elements
by_answer : (here : Here) (b : Bool) (r : Result Tree ValueFault) (t : Tree) (s : State) → (if b then answer here r else mistake here) s ≡ gives t s → (if b then made_elements r else []) ≡ parts_of t
by_answer here true (Ok r) t s e = same_value r t s e
by_answer here true (Err f) t s e = absurd (cc)
by_answer here false r t s e = absurd (cc)

-- whether it goes on
abbrev told : {A : Type 0} → Got A → Got (Unit {0})
told g = after g (λ _. gives tt)

-- where only a list goes on, there is one
by_check : (here : Here) (b : Bool) (r : Result Tree ValueFault) (s : State) → told ((if b then answer here r else mistake here) s) ≡ gives tt s
    → (t : Tree) × ((if b then answer here r else mistake here) s ≡ gives t s)
by_check here true (Ok t) s e = (t, refl)
by_check here true (Err f) s e = absurd (cc)
by_check here false r s e = absurd (cc)

-- so what was found with the range is what is kept with its ends
range_kept : (here : Here) (s : State) (fs : List Filler) (p q t : Tree) (form : Option Form) → range here p q s ≡ gives t s
    → ranged here (record { elements = flat_map filler_elements fs; form = form }) p q s ≡ gives (record { elements = flat_map filler_elements (fs ++ Range p q ∷ []); form = joined (joined form (form_of p)) (form_of q) }) s
range_kept here s fs p q t form e =
    ap (λ g. after g (λ r. gives (record { elements = flat_map filler_elements fs ++ parts_of r; form = joined (joined form (form_of p)) (form_of q) }))) e
    ∙ ap (λ l. gives (record { elements = l; form = joined (joined form (form_of p)) (form_of q) }) s)
    (ap (λ l. flat_map filler_elements fs ++ l) (sym (by_answer here (have_range p q) (range_of p q) t s e)) ∙ sym (range_more fs p q))

-- the same, by what is put behind the fillers, and by the forms that are joined
pub range_pushed : (here : Here) (s : State) (fs gs : List Filler) (p q v w : Tree) (f g h : Option Form) → range_checked here p q s ≡ gives tt s → v ≡ p → w ≡ q → gs ≡ fs ++ Range v w ∷ []
    → g ≡ joined f (form_of p) → h ≡ joined g (form_of q) → ranged here (record { elements = flat_map filler_elements fs; form = f }) p q s ≡ gives (record { elements = flat_map filler_elements gs; form = h }) s
range_pushed here s fs gs p q v w f g h goes first last all shape more =
    let made = by_check here (have_range p q) (range_of p q) s goes in
    let same : gs ≡ fs ++ Range p q ∷ [] = all ∙ (λ i. fs ++ Range (first i) (last i) ∷ []) in
    let form : h ≡ joined (joined f (form_of p)) (form_of q) = more ∙ ap (λ z. joined z (form_of q)) shape in
    range_kept here s fs p q made.0 f made.1 ∙ sym (λ i. gives (record { elements = flat_map filler_elements (same i); form = form i }) s)

-- ---- a check that stops, and what it stops
stopped : {A B : Type 0} (g : Got A) (go : A → Run B) (line : ℕ) (stop : Stop) (s : State) → told g ≡ stops line stop s → after g go ≡ stops line stop s
stopped (gives a t) go line stop s e = absurd (cc)
stopped (stops at why t) go line stop s e =
    let place : at ≡ line = cc in
    let cause : why ≡ stop = cc in
    let state : t ≡ s = cc in
    λ i. stops (place i) (cause i) (state i)

pub halted : {A B : Type 0} (g : Got A) (go : A → Run B) (line : ℕ) (h : Halt) (s : State) → Halts line h s (told g) → Halts line h s (after g go)
halted g go line (Fault f) s e = λ other. stopped g go line (faulty f) s (e other)
halted g go line Wrong s e = stopped g go line wrong s e

-- ---- a display of one filler
pub lone_filler : (fs : List Filler) (f : Filler) → length fs ≡ 1 → f ≡ get_or fs 0 f → filler_elements f ≡ flat_map filler_elements fs
lone_filler [] f one at = absurd (omega arith)
lone_filler (g ∷ []) f one at = ap filler_elements at ∙ sym (append-nil (filler_elements g))
lone_filler (g ∷ h ∷ hs) f one at = absurd (omega arith)

pub made_list : (p q v : Tree) → have_range p q ≡ true → HaveRange p q → IsAnswer (range_of p q) (Ok v) → v ≡ list (trees (in_order (range_elements p q)))
made_list p q v may fits (inl e) =
    let elements : range_elements p q ≡ parts_of v = (λ i. if may i then made_elements (sym e i) else []) in
    sym (range_in_order p q v fits (sym e)) ∙ ap (λ xs. list (trees (in_order xs))) (sym elements)
made_list p q v may fits (inr e) = absurd (cc)

-- a range that was made is small
small_made : (t v : Tree) (o : Option ValueFault) → size_fault t ≡ o → by_fault t o ≡ Ok v → size_fault v ≡ None
small_made t v None small e = let same : v ≡ t = cc in ap size_fault same ∙ small
small_made t v (Some f) small e = absurd (cc)

numbers_small : (o p : Option ℤ) (v : Tree) → number_range o p ≡ Ok v → size_fault v ≡ None
numbers_small None p v e = absurd (cc)
numbers_small (Some p) None v e = absurd (cc)
numbers_small (Some p) (Some q) v e = let t = list (trees (numbers_from p (count_of (q -ℤ p +ℤ pos 1)))) in small_made t v (size_fault t) refl e

characters_small : (b c : List ℕ) (v : Tree) → character_range b c ≡ Ok v → size_fault v ≡ None
characters_small [] c v e = absurd (cc)
characters_small (b ∷ []) [] v e = absurd (cc)
characters_small (b ∷ []) (c ∷ []) v e = let t = list (trees (characters_from b (c + 1 - b))) in small_made t v (size_fault t) refl e
characters_small (b ∷ []) (c ∷ d ∷ cs) v e = absurd (cc)
characters_small (b ∷ d ∷ bs) c v e = absurd (cc)

range_small : (p q v : Tree) → HaveRange p q → range_of p q ≡ Ok v → size_fault v ≡ None
range_small (number x) (number y) v h e = numbers_small (whole_of x) (whole_of y) v e
range_small (text b) (text c) v h e = characters_small b c v e
range_small (number x) (text c) v h e = absurd h
range_small (number x) (compound ts) v h e = absurd h
range_small (number x) (list ts) v h e = absurd h
range_small (number x) (table ps) v h e = absurd h
range_small (text b) (number y) v h e = absurd h
range_small (text b) (compound ts) v h e = absurd h
range_small (text b) (list ts) v h e = absurd h
range_small (text b) (table ps) v h e = absurd h
range_small (compound ts) q v h e = absurd h
range_small (list ts) q v h e = absurd h
range_small (table ps) q v h e = absurd h

pub made_small : (p q v : Tree) → have_range p q ≡ true → HaveRange p q → IsAnswer (range_of p q) (Ok v) → size_fault (list (trees (in_order (range_elements p q)))) ≡ None
made_small p q v may fits (inl e) = ap size_fault (sym (made_list p q v may fits (inl e))) ∙ range_small p q v fits (sym e)
made_small p q v may fits (inr e) = absurd (cc)

-- a range that was not made has no elements
empty_small : size_fault empty ≡ None
unfolding size_fault
empty_small = no_fault 0 0 5 (omega arith) (omega arith) (omega arith)

pub no_elements : (p q : Tree) → have_range p q ≡ false → range_elements p q ≡ []
no_elements p q none = ap (λ b. if b then made_elements (range_of p q) else []) none

either_empty : (b : Bool) (r : Result Tree ValueFault) (f : ValueFault) → Err f ≡ r → (if b then made_elements r else []) ≡ []
either_empty true (Ok t) f e = absurd (cc)
either_empty true (Err g) f e = refl
either_empty false r f e = refl

pub none_made : (p q : Tree) (f : ValueFault) → f ≢ Memory → IsAnswer (range_of p q) (Err f) → range_elements p q ≡ []
none_made p q f other (inl e) = either_empty (have_range p q) (range_of p q) f e
none_made p q f other (inr e) = absurd (other (cc))

pub empty_list : (xs : List Tree) (v : Tree) → xs ≡ [] → v ≡ empty → v ≡ list (trees (in_order xs))
empty_list xs v none e = e ∙ ap (λ es. list (trees (in_order es))) (sym none)

pub empty_fits : (xs : List Tree) → xs ≡ [] → size_fault (list (trees (in_order xs))) ≡ None
empty_fits xs none = ap (λ es. size_fault (list (trees (in_order es)))) none ∙ empty_small
