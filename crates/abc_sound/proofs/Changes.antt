-- A part that is changed keeps its type, and so does the whole.
use Rattle.std.proofs.Common.{◌≡◌, ◌∙◌, refl, sym, subst, Bool, true, false, List, [], ◌∷◌, ◌++◌, Option, Some, None, Ok, Err, if◌then◌else◌}
use Rattle.std.specs.Prelude.{slice_get}
use Rattle.std.specs.List.{AllByRecursion}
use Rattle.std.specs.Option.{IfSome}
use Rattle.std.specs.Ordering.{is_eq}
use Rattle.abc_num.specs.declared.types.Ground.{Ground}
use Rattle.abc_num.specs.declared.types.Ground.TheVariants as type
use Rattle.abc_value.specs.declared.faults.RunFault.{RunFault}
use Rattle.abc_value.specs.declared.faults.RunFault.TheVariants.{NoKey, NoElement}
use Rattle.abc_value.specs.declared.faults.ValueFault.{ValueFault}
use Rattle.abc_value.specs.Tree.{Tree, Trees, list, table, trees, pairs, no_trees, more}
use Rattle.abc_value.specs.Types.{has, each_has, all_have, pairs_have}
use Rattle.abc_value.specs.Forms.{anything, form_of, both}
use Rattle.abc_value.specs.Order.{order}
use Rattle.abc_value.specs.Parts.{parts_of, pairs_of}
use Rattle.abc_value.specs.Sizes.{size_fault}
use Rattle.abc_value.specs.Items.{by_fault, if_small}
use Rattle.abc_value.specs.Changes.{add, without, is_element, with_pair, without_key, associate_of}
use Rattle.abc_value.proofs.forms.Shaping.{has_form}
use Rattle.abc_predef.proofs.Typed.{typed_parts, add_typed, list_of_type, typed_pairs, with_typed}
use Rattle.abc_meaning.specs.State.{Step, key, Address, Addresses, place, several, no_addresses, more_addresses, faulty}
use Rattle.abc_meaning.specs.Changing.{Change, puts, inserts, removes, deletes, Part, Changed, sized, if_fit, changed_to, with_associate, changed, parts, parts_all, fielded, fielded_all}
use Rattle.abc_meaning.specs.Fits.{fits_table, fits_list}
use Rattle.abc_meaning.proofs.Opened.{together}
use Rattle.abc_sound.proofs.Leaving.{IsFine}
use Rattle.abc_sound.proofs.Typed.{table_fits, list_fits, table_has, selected_has, fields_of}

-- the steps lead from values of the one type to values of the other
abbrev pub StepsFit : Ground → List Step → Ground → Type 0
StepsFit t [] u = t ≡ u
StepsFit t (key k ∷ steps) u = (l : Ground) × (a : Ground) × (t ≡ type.Table l a) × has k l × StepsFit a steps u

-- what a change works on, where the part has the type
abbrev pub ChangeFits : Change → Ground → Type 0
ChangeFits (puts v) u = has v u
ChangeFits (inserts v) u = (e : Ground) × (u ≡ type.List e) × has v e
ChangeFits (removes v) u = (e : Ground) × (u ≡ type.List e) × has v e
ChangeFits deletes u = Unit {0}

-- what becomes of the part
abbrev pub ChangedFits : Ground → Changed → Type 0
ChangedFits u (Ok (Some v)) = has v u
ChangedFits u (Ok None) = Unit {0}
ChangedFits u (Err stop) = IsFine stop

abbrev pub Has : Ground → Tree → Type 0
Has g v = has v g

sized_by : (u : Ground) (t : Tree) (o : Option ValueFault) → has t u → ChangedFits u (sized (by_fault t o))
sized_by u t None h = h
sized_by u t (Some f) h = tt

sized_fits : (u : Ground) (t : Tree) → has t u → ChangedFits u (sized (if_small t))
sized_fits u t h = sized_by u t (size_fault t) h

fit_fits : (u : Ground) (b : Bool) (c : Changed) → b ≡ true → ChangedFits u c → ChangedFits u (if_fit b c)
fit_fits u true c e h = h
fit_fits u false c e h = absurd (cc)

without_typed : (v : Tree) (xs : List Tree) (e : Ground) → all_have (trees xs) e → all_have (trees (without v xs)) e
without_typed v [] e h = tt
without_typed v (x ∷ xs) e h = by (is_eq (order x v)) (without_typed v xs e h.1)
  where
    by : (b : Bool) → all_have (trees (without v xs)) e → all_have (trees (if b then xs else x ∷ without v xs)) e
    by true rest = h.1
    by false rest = (h.0, rest)

without_key_typed : (k : Tree) (ps : List (Tree × Tree)) (l a : Ground) → pairs_have (pairs ps) l a → pairs_have (pairs (without_key k ps)) l a
without_key_typed k [] l a h = tt
without_key_typed k (p ∷ ps) l a h = by (is_eq (order p.0 k)) (without_key_typed k ps l a h.2)
  where
    by : (b : Bool) → pairs_have (pairs (without_key k ps)) l a → pairs_have (pairs (if b then ps else p ∷ without_key k ps)) l a
    by true rest = h.2
    by false rest = (h.0, h.1, rest)

with_pair_has : (k a : Tree) (ps : List (Tree × Tree)) (l b : Ground) → pairs_have (pairs (with_pair k a ps)) l b → has (table (pairs (with_pair k a ps))) (type.Table l b)
with_pair_has k a ps l b h = (l, b, refl, h)

inserted_fits : (t v : Tree) (u e : Ground) → u ≡ type.List e → has t u → has v e → ChangedFits u (if_fit (fits_list t v) (sized (if_small (list (trees (add v (parts_of t)))))))
inserted_fits t v u e is ht hv =
    let h : has t (type.List e) = subst (has t) is ht in
    subst (λ d. ChangedFits d (if_fit (fits_list t v) (sized (if_small (list (trees (add v (parts_of t)))))))) (sym is)
    (fit_fits (type.List e) (fits_list t v) _ (list_fits t v e h hv) (sized_fits (type.List e) _ (list_of_type (add v (parts_of t)) e (add_typed v (parts_of t) e hv (typed_parts t e h)))))

removed_fits : (t v : Tree) (u e : Ground) → u ≡ type.List e → has t u → has v e
    → ChangedFits u (if_fit (fits_list t v) (if is_element v (parts_of t) then Ok (Some (list (trees (without v (parts_of t))))) else Err (faulty NoElement)))
removed_fits t v u e is ht hv =
    let h : has t (type.List e) = subst (has t) is ht in
    subst (λ d. ChangedFits d (if_fit (fits_list t v) (if is_element v (parts_of t) then Ok (Some (list (trees (without v (parts_of t))))) else Err (faulty NoElement)))) (sym is)
    (fit_fits (type.List e) (fits_list t v) _ (list_fits t v e h hv) (by (is_element v (parts_of t)) (list_of_type (without v (parts_of t)) e (without_typed v (parts_of t) e (typed_parts t e h)))))
  where
    by : (b : Bool) → has (list (trees (without v (parts_of t)))) (type.List e) → ChangedFits (type.List e) (if b then Ok (Some (list (trees (without v (parts_of t))))) else Err (faulty NoElement))
    by true k = k
    by false k = tt

changed_to_fits : (c : Change) (missing : RunFault) (old : Option Tree) (u : Ground) → ChangeFits c u → IfSome old (Has u) → ChangedFits u (changed_to c missing old)
changed_to_fits (puts v) missing old u h ho = h
changed_to_fits (inserts v) missing (Some t) u h ho = inserted_fits t v u h.0 h.1 ho h.2
changed_to_fits (inserts v) missing None u h ho = tt
changed_to_fits (removes v) missing (Some t) u h ho = removed_fits t v u h.0 h.1 ho h.2
changed_to_fits (removes v) missing None u h ho = tt
changed_to_fits deletes missing (Some t) u h ho = tt
changed_to_fits deletes missing None u h ho = tt

associate_fits : (k t : Tree) (c : Changed) (l a : Ground) → has t (type.Table l a) → has k l → ChangedFits a c → ChangedFits (type.Table l a) (with_associate k t c)
associate_fits k t (Ok (Some v)) l a ht hk hv =
    fit_fits (type.Table l a) (fits_table t k (form_of v)) _ (table_fits t k (form_of v) l a ht hk (has_form v a hv))
    (sized_fits (type.Table l a) _ (with_pair_has k v (pairs_of t) l a (with_typed k v (pairs_of t) l a hk hv (typed_pairs t l a ht))))
associate_fits k t (Ok None) l a ht hk hv = table_has (without_key k (pairs_of t)) l a (without_key_typed k (pairs_of t) l a (typed_pairs t l a ht))
associate_fits k t (Err stop) l a ht hk hv = hv

pub changed_fits : (c : Change) (missing : RunFault) (steps : List Step) (old : Option Tree) (t u : Ground) → ChangeFits c u → StepsFit t steps u → IfSome old (Has t) → ChangedFits t (changed c missing steps old)
changed_fits c missing [] old t u hc hs ho = subst (λ d. ChangedFits d (changed_to c missing old)) (sym hs) (changed_to_fits c missing old u hc (by old ho))
  where
    by : (o : Option Tree) → IfSome o (Has t) → IfSome o (Has u)
    by None h = tt
    by (Some v) h = subst (has v) hs h
changed_fits c missing (key k ∷ steps) None t u hc hs ho = tt
changed_fits c missing (key k ∷ steps) (Some v) t u hc hs ho =
    let h : has v (type.Table hs.0 hs.1) = subst (has v) hs.2 ho in
    subst (λ d. ChangedFits d (changed c missing (key k ∷ steps) (Some v))) (sym hs.2)
    (fit_fits (type.Table hs.0 hs.1) (fits_table v k (Some anything)) _ (table_fits v k (Some anything) hs.0 hs.1 h hs.3 tt)
    (associate_fits k v (changed c NoKey steps (associate_of k (pairs_of v))) hs.0 hs.1 h hs.3 (changed_fits c NoKey steps (associate_of k (pairs_of v)) hs.1 u hc hs.4 (selected_has k v hs.0 hs.1 h))))

-- a step more
pub one_step : (t u : Ground) (steps : List Step) (k : Tree) (l a : Ground) → StepsFit t steps u → u ≡ type.Table l a → has k l → StepsFit t (steps ++ key k ∷ []) a
one_step t u [] k l a hs is hk = (l, a, hs ∙ is, hk, refl)
one_step t u (key j ∷ steps) k l a hs is hk = (hs.0, hs.1, hs.2, hs.3, one_step hs.1 u steps k l a hs.4 is hk)

-- ---- addresses, where the names have these types
module _ (names : List Ground) where
  -- the part has the type
  abbrev pub PartFits : Part → Ground → Type 0
  PartFits p u = (t : Ground) × (slice_get names p.name ≡ Some t) × StepsFit t p.steps u

  abbrev mutual
    pub AddressFits : Address → Ground → Type 0
    AddressFits (place i steps) u = (t : Ground) × (slice_get names i ≡ Some t) × StepsFit t steps u
    AddressFits (several all) u = (ts : List Ground) × (u ≡ type.Compound ts) × AddressesFit all ts

    pub AddressesFit : Addresses → List Ground → Type 0
    AddressesFit no_addresses [] = Unit {0}
    AddressesFit no_addresses (t ∷ ts) = ⊥
    AddressesFit (more_addresses a rest) [] = ⊥
    AddressesFit (more_addresses a rest) (t ∷ ts) = AddressFits a t × AddressesFit rest ts

  -- some type
  abbrev pub HasPlace : Part → Type 0
  HasPlace p = (u : Ground) × PartFits p u

  abbrev pub HasField : Part × Tree → Type 0
  HasField p = (u : Ground) × PartFits p.0 u × has p.1 u

  mutual
    pub parts_fit : (a : Address) (u : Ground) → AddressFits a u → AllByRecursion HasPlace (parts a)
    parts_fit (place i steps) u h = ((u, h), tt)
    parts_fit (several all) u h = all_parts_fit all h.0 h.2

    all_parts_fit : (all : Addresses) (ts : List Ground) → AddressesFit all ts → AllByRecursion HasPlace (parts_all all)
    all_parts_fit no_addresses [] h = tt
    all_parts_fit no_addresses (t ∷ ts) h = tt
    all_parts_fit (more_addresses a rest) [] h = absurd h
    all_parts_fit (more_addresses a rest) (t ∷ ts) h = together HasPlace (parts a) (parts_all rest) (parts_fit a t h.0) (all_parts_fit rest ts h.1)

  -- the fields of a value of the type stand at the parts
  abbrev pub AreFielded : Option (List (Part × Tree)) → Type 0
  AreFielded o = (ps : List (Part × Tree)) × (o ≡ Some ps) × AllByRecursion HasField ps

  both_fielded : (o p : Option (List (Part × Tree))) → AreFielded o → AreFielded p → AreFielded (both (λ xs ys. xs ++ ys) o p)
  both_fielded o p h k =
      subst (λ q. AreFielded (both (λ xs ys. xs ++ ys) q p)) (sym h.1) (subst (λ q. AreFielded (both (λ xs ys. xs ++ ys) (Some h.0) q)) (sym k.1) (h.0 ++ k.0, refl, together HasField h.0 k.0 h.2 k.2))

  mutual
    pub fielded_fits : (a : Address) (v : Tree) (u : Ground) → AddressFits a u → has v u → AreFielded (fielded a v)
    fielded_fits (place i steps) v u h hv = ((record { name = i; steps = steps }, v) ∷ [], refl, ((u, h, hv), tt))
    fielded_fits (several all) v u h hv =
        let f = fields_of v h.0 (subst (has v) h.1 hv) in
        subst (λ w. AreFielded (fielded (several all) w)) (sym f.1) (all_fielded_fit all f.0 h.0 h.2 f.2)

    all_fielded_fit : (all : Addresses) (vs : Trees) (ts : List Ground) → AddressesFit all ts → each_has vs ts → AreFielded (fielded_all all vs)
    all_fielded_fit no_addresses no_trees [] h hv = ([], refl, tt)
    all_fielded_fit no_addresses no_trees (t ∷ ts) h hv = absurd h
    all_fielded_fit no_addresses (more v vs) [] h hv = absurd hv
    all_fielded_fit no_addresses (more v vs) (t ∷ ts) h hv = absurd h
    all_fielded_fit (more_addresses a rest) no_trees [] h hv = absurd h
    all_fielded_fit (more_addresses a rest) no_trees (t ∷ ts) h hv = absurd hv
    all_fielded_fit (more_addresses a rest) (more v vs) [] h hv = absurd h
    all_fielded_fit (more_addresses a rest) (more v vs) (t ∷ ts) h hv = both_fielded (fielded a v) (fielded_all rest vs) (fielded_fits a v t h.0 hv.0) (all_fielded_fit rest vs ts h.1 hv.1)
