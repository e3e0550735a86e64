-- Each kind of node: its parts were walked, and its own demands added.
use Rattle.std.proofs.Common.{◌≡◌, ◌∙◌, ℕ, ◌<◌, ◌≤◌, Bool, List, [], ◌∷◌, length, ap, sym, subst, refl}
use Rattle.std.specs.Prelude.{Option, None, Some, slice_get}
use Rattle.std.specs.Option.{option_map}
use Rattle.std.proofs.lemmas.Option.{slice_get-map, slice_get_past}
use Rattle.abc_num.specs.declared.types.Ground.{Ground}
use Rattle.abc_terms.specs.declared.term.VarId.{VarId}
use Rattle.abc_terms.specs.declared.term.Term.TheVariants as term
use Rattle.abc_terms.specs.declared.demand.Demand.TheVariants as demand
use Rattle.abc_tree.specs.declared.operations.Op.{Op}
use Rattle.abc_ground.specs.Seen.{Node, nodes, node, leaf, over, over_two, numeral, characters, name, result, fields, nothing, elements, entries, selection, row, test_row, one_type, train, member, line_of_text, any}
use Rattle.abc_ground.specs.Fits.{Typing, IsHad, ValueFits, TestFits, RuleFits}
use Rattle.abc_demand.specs.declared.scope.Scope.{Scope}
use Rattle.abc_demand.specs.Typings.{types_of, type_of, AreMade}
use Rattle.abc_demand.specs.inner.Drafts.{Drafted, IsAsked}
use Rattle.abc_demand.specs.inner.Leads.{Leads}
use Rattle.abc_demand.specs.inner.Walks.{scene, scope_bound, numbers, pair_of, Walked, IsNever, IsSelection, IsNothing, IsElements, IsEntries, IsFields, IsMember, IsLine, equals}
use Rattle.abc_demand.proofs.Leading.{leads_seen}
use Rattle.abc_demand.proofs.Ruling.{on, any_leads, own_leads, never_leads, numeral_leads, characters_leads, selection_leads, one_type_leads, member_leads, train_leads, fields_leads, nothing_leads, elements_leads, entries_leads, chain_leads, line_leads}
use Rattle.abc_demand.proofs.Walking.{walked_none, walked_node, walked_leaf, walked_two, walked_both, result_made}

fields_kept : (old new : Drafted) (vars : List VarId) (a : VarId) → IsFields old new vars a → new.calls ≡ old.calls
fields_kept old new [] a is = is.2.passed
fields_kept old new (x ∷ []) a is = is.2.passed
fields_kept old new (x ∷ y ∷ vars) a is = is.passed

module _ (s : Scope) where
  abbrev typed : (ℕ → Ground) → Typing
  typed v = (scene s v).0

  pub numeral_walked : (old new : Drafted) (a : VarId) → scope_bound s ≤ old.count → a.0 ≡ old.count → IsAsked old new 1 (demand.Is a term.Number ∷ []) → Walked s old new (leaf numeral ∷ []) (a.0 ∷ [])
  numeral_walked old new a made number is = walked_leaf s old new numeral (a.0 ∷ []) made (numeral_leads typed old new a number is) is.passed

  pub characters_walked : (old mid new : Drafted) (xs : List Node) (parts : List ℕ) (a : VarId) → scope_bound s ≤ old.count → Walked s old mid xs parts → a.0 ≡ mid.count → IsAsked mid new 1 (demand.Is a term.Text ∷ []) → Walked s old new (node characters (nodes xs) ∷ []) (a.0 ∷ [])
  characters_walked old mid new xs parts a made walked number is = walked_node s old mid new characters xs parts (a.0 ∷ []) made walked (characters_leads typed mid new parts a number is) is.passed

  pub fields_walked : (old mid new : Drafted) (xs : List Node) (vars : List VarId) (a : VarId) → scope_bound s ≤ old.count → Walked s old mid xs (numbers vars) → AreMade mid.count vars → a.0 ≡ mid.count → IsFields mid new vars a → Walked s old new (node fields (nodes xs) ∷ []) (a.0 ∷ [])
  fields_walked old mid new xs vars a made walked there number is = walked_node s old mid new fields xs (numbers vars) (a.0 ∷ []) made walked (fields_leads typed mid new vars a there number is) (fields_kept mid new vars a is)

  pub nothing_walked : (old new : Drafted) (a : VarId) → scope_bound s ≤ old.count → a.0 ≡ old.count → IsNothing old new a → Walked s old new (leaf nothing ∷ []) (a.0 ∷ [])
  nothing_walked old new a made number is = walked_leaf s old new nothing (a.0 ∷ []) made (nothing_leads typed old new a is.0 number is.1 is.2) is.2.passed

  pub elements_walked : (old mid new : Drafted) (xs : List Node) (vars : List VarId) (ranged : Bool) (a : VarId) → scope_bound s ≤ old.count → Walked s old mid xs (numbers vars) → AreMade mid.count vars → IsElements mid new vars ranged a → Walked s old new (node (elements ranged) (nodes xs) ∷ []) (a.0 ∷ [])
  elements_walked old mid new xs vars ranged a made walked there is = walked_node s old mid new (elements ranged) xs (numbers vars) (a.0 ∷ []) made walked (elements_leads typed mid new vars ranged is.0 a there is.1 is.2 is.3) is.3.passed

  pub entries_walked : (old mid new : Drafted) (xs : List Node) (vars : List VarId) (a : VarId) → scope_bound s ≤ old.count → Walked s old mid xs (numbers vars) → AreMade mid.count vars → IsEntries mid new vars a → Walked s old new (node entries (nodes xs) ∷ []) (a.0 ∷ [])
  entries_walked old mid new xs vars a made walked there is = walked_node s old mid new entries xs (numbers vars) (a.0 ∷ []) made walked (entries_leads typed mid new vars is.0 is.1 a there is.2 is.3 is.4 is.5) is.5.passed

  pub selection_walked : (old mid last new : Drafted) (x y : Node) (t k value : VarId) → scope_bound s ≤ old.count → Walked s old mid (x ∷ []) (t.0 ∷ []) → Walked s mid last (y ∷ []) (k.0 ∷ []) → t.0 < last.count → k.0 < last.count → value.0 ≡ last.count
      → IsSelection last new t k value → Walked s old new (over_two selection x y ∷ []) (value.0 ∷ [])
  selection_walked old mid last new x y t k value made one two ht hk number is =
      walked_two s old mid last new selection x y (t.0 ∷ []) (k.0 ∷ []) (value.0 ∷ []) made one two (selection_leads typed last new t k value is.0 ht hk number is.1 is.2) is.2.passed

  pub row_walked : (old mid new : Drafted) (op : Op) (x : Node) (a r : VarId) → scope_bound s ≤ old.count → Walked s old mid (x ∷ []) (a.0 ∷ []) → Leads (λ v. v a.0) mid new (λ g ts. ValueFits op (g ∷ []) ts) (r.0 ∷ []) → new.calls ≡ mid.calls → Walked s old new (over (row op) x ∷ []) (r.0 ∷ [])
  row_walked old mid new op x a r made walked l kept =
      walked_node s old mid new (row op) (x ∷ []) (a.0 ∷ []) (r.0 ∷ []) made walked
      (leads_seen (on typed (a.0 ∷ [])) (λ v. v a.0) mid new (λ g ts. ValueFits op (g ∷ []) ts) (λ y ts. RuleFits y.0 (row op) y.1 ts) (r.0 ∷ []) (λ v ts h. h) (λ v ts h. h) l) kept

  pub rows_walked : (old mid last new : Drafted) (op : Op) (x y : Node) (a b : VarId) (own : List ℕ) → scope_bound s ≤ old.count → Walked s old mid (x ∷ []) (a.0 ∷ []) → Walked s mid last (y ∷ []) (b.0 ∷ []) → Leads (pair_of a.0 b.0) last new (λ g ts. ValueFits op (g.0 ∷ g.1 ∷ []) ts) own → new.calls ≡ last.calls
      → Walked s old new (over_two (row op) x y ∷ []) own
  rows_walked old mid last new op x y a b own made one two l kept =
      walked_two s old mid last new (row op) x y (a.0 ∷ []) (b.0 ∷ []) own made one two
      (leads_seen (on typed (a.0 ∷ b.0 ∷ [])) (pair_of a.0 b.0) last new (λ g ts. ValueFits op (g.0 ∷ g.1 ∷ []) ts) (λ z ts. RuleFits z.0 (row op) z.1 ts) own (λ v ts h. h) (λ v ts h. h) l) kept

  pub test_walked : (old mid last new : Drafted) (op : Op) (x y : Node) (a b : VarId) → scope_bound s ≤ old.count → Walked s old mid (x ∷ []) (a.0 ∷ []) → Walked s mid last (y ∷ []) (b.0 ∷ []) → Leads (pair_of a.0 b.0) last new (λ g ts. TestFits op (g.0 ∷ g.1 ∷ []) ts) [] → new.calls ≡ last.calls
      → Walked s old new (over_two (test_row op) x y ∷ []) []
  test_walked old mid last new op x y a b made one two l kept =
      walked_two s old mid last new (test_row op) x y (a.0 ∷ []) (b.0 ∷ []) [] made one two
      (leads_seen (on typed (a.0 ∷ b.0 ∷ [])) (pair_of a.0 b.0) last new (λ g ts. TestFits op (g.0 ∷ g.1 ∷ []) ts) (λ z ts. RuleFits z.0 (test_row op) z.1 ts) [] (λ v ts h. h) (λ v ts h. h) l) kept

  pub alike_walked : (old mid last new : Drafted) (x y : Node) (a b : VarId) → scope_bound s ≤ old.count → Walked s old mid (x ∷ []) (a.0 ∷ []) → Walked s mid last (y ∷ []) (b.0 ∷ []) → a.0 < last.count → b.0 < last.count → IsAsked last new 0 (demand.Equal a b ∷ [])
      → Walked s old new (over_two one_type x y ∷ []) []
  alike_walked old mid last new x y a b made one two ha hb is = walked_two s old mid last new one_type x y (a.0 ∷ []) (b.0 ∷ []) [] made one two (one_type_leads typed last new a b ha hb is) is.passed

  pub member_walked : (old mid last new : Drafted) (x y : Node) (e t : VarId) → scope_bound s ≤ old.count → Walked s old mid (x ∷ []) (e.0 ∷ []) → Walked s mid last (y ∷ []) (t.0 ∷ []) → e.0 < last.count → t.0 < last.count → IsMember last new e t → Walked s old new (over_two member x y ∷ []) []
  member_walked old mid last new x y e t made one two he ht is = walked_two s old mid last new member x y (e.0 ∷ []) (t.0 ∷ []) [] made one two (member_leads typed last new e t is.0 he ht is.1 is.2) is.2.passed

  pub train_walked : (old mid last new : Drafted) (x y : Node) (e t : VarId) → scope_bound s ≤ old.count → Walked s old mid (x ∷ []) (e.0 ∷ []) → Walked s mid last (y ∷ []) (t.0 ∷ []) → e.0 < last.count → t.0 < last.count → IsAsked last new 0 (demand.Train t e ∷ [])
      → Walked s old new (over_two train x y ∷ []) []
  train_walked old mid last new x y e t made one two he ht is = walked_two s old mid last new train x y (e.0 ∷ []) (t.0 ∷ []) [] made one two (train_leads typed last new e t he ht is) is.passed

  pub line_walked : (old mid new : Drafted) (x : Node) (t : VarId) → scope_bound s ≤ old.count → Walked s old mid (x ∷ []) (t.0 ∷ []) → t.0 < mid.count → IsLine mid new t → Walked s old new (over line_of_text x ∷ []) []
  line_walked old mid new x t made one ht is = walked_node s old mid new line_of_text (x ∷ []) (t.0 ∷ []) [] made one (line_leads typed mid new t is.0 ht is.1 is.2) is.2.passed

  pub chain_walked : (old mid last new : Drafted) (x : Node) (xs : List Node) (a : VarId) (vars : List VarId) → scope_bound s ≤ old.count → Walked s old mid (x ∷ []) (a.0 ∷ []) → Walked s mid last xs (numbers vars) → a.0 < last.count → AreMade last.count vars → IsAsked last new 0 (equals vars a)
      → Walked s old new (node one_type (nodes (x ∷ xs)) ∷ []) []
  chain_walked old mid last new x xs a vars made one others ha there is =
      walked_node s old last new one_type (x ∷ xs) (a.0 ∷ numbers vars) [] made (walked_both s old mid last (x ∷ []) xs (a.0 ∷ []) (numbers vars) made one others) (chain_leads typed last new a vars ha there is) is.passed

  -- nothing is asked of parts
  pub any_walked : (old new : Drafted) (xs : List Node) (parts : List ℕ) → scope_bound s ≤ old.count → Walked s old new xs parts → Walked s old new (node any (nodes xs) ∷ []) []
  any_walked old new xs parts made walked = walked_node s old new new any xs parts [] made walked (any_leads (on typed parts) new (λ y ts. RuleFits y.0 any y.1 ts) (λ v. tt) (λ v t ts h. h)) refl

  pub nothing_asked : (d : Drafted) → scope_bound s ≤ d.count → Walked s d d (leaf any ∷ []) []
  nothing_asked d made = any_walked d d [] [] made (walked_none s d)

  -- a name that has a variable, and one that has none
  named_type : (v : ℕ → Ground) (i : ℕ) (o : Option VarId) → slice_get s.names i ≡ o → slice_get (types_of v s.names) i ≡ type_of v o
  named_type v i o e = slice_get-map (λ (b : VarId). v b.0) s.names i ∙ ap (option_map (λ (b : VarId). v b.0)) e

  had_is : (o : Option Ground) (g : Ground) → o ≡ Some g → (ts : List Ground) (i : ℕ) (names : List Ground) (r : Option Ground) → slice_get names i ≡ o → RuleFits (record { names = names; result = r }) (name i) [] ts → ts ≡ g ∷ []
  had_is o g e [] i names r is h = absurd h
  had_is o g e (t ∷ []) i names r is h = ap (λ u. u ∷ []) (subst (λ p. IsHad p t) (is ∙ e) h)
  had_is o g e (t ∷ u ∷ ts) i names r is h = absurd h

  pub name_walked : (d : Drafted) (i : ℕ) (a : VarId) → scope_bound s ≤ d.count → a.0 < d.count → slice_get s.names i ≡ Some a → Walked s d d (leaf (name i) ∷ []) (a.0 ∷ [])
  name_walked d i a made there found =
      walked_leaf s d d (name i) (a.0 ∷ []) made
      (own_leads (on typed []) d (λ y ts. RuleFits y.0 (name i) y.1 ts) a.0 there (λ v. subst (λ o. IsHad o (v a.0)) (sym (named_type v i (Some a) found)) refl)
      (λ v ts h. had_is (Some (v a.0)) (v a.0) refl ts i (types_of v s.names) (type_of v s.result) (named_type v i (Some a) found) h)) refl

  no_name : (g : Typing) (i : ℕ) (ts : List Ground) → slice_get g.names i ≡ None → RuleFits g (name i) [] ts → ⊥
  no_name g i [] e h = h
  no_name g i (t ∷ []) e h = subst (λ o. IsHad o t) e h
  no_name g i (t ∷ u ∷ ts) e h = h

  pub free_walked : (old new : Drafted) (i : ℕ) (a : VarId) → scope_bound s ≤ old.count → a.0 ≡ old.count → length s.names ≤ i → IsNever old new a → Walked s old new (leaf (name i) ∷ []) (a.0 ∷ [])
  free_walked old new i a made number past is =
      walked_leaf s old new (name i) (a.0 ∷ []) made
      (never_leads typed old new (on typed []) (λ y ts. RuleFits y.0 (name i) y.1 ts) a number is (λ v ts h. no_name (typed v) i ts (named_type v i None (slice_get_past s.names i past)) h)) is.2.passed

  -- what the unit gives
  given_is : (g : Ground) (names : List Ground) (r : Option Ground) (ts : List Ground) → r ≡ Some g → RuleFits (record { names = names; result = r }) result [] ts → ts ≡ g ∷ []
  given_is g names r [] e h = absurd h
  given_is g names r (t ∷ []) e h = ap (λ u. u ∷ []) (subst (λ o. IsHad o t) e h)
  given_is g names r (t ∷ u ∷ ts) e h = absurd h

  not_given : (names : List Ground) (r : Option Ground) (ts : List Ground) → r ≡ None → RuleFits (record { names = names; result = r }) result [] ts → ⊥
  not_given names r [] e h = h
  not_given names r (t ∷ []) e h = subst (λ o. IsHad o t) e h
  not_given names r (t ∷ u ∷ ts) e h = h

  pub result_walked : (d : Drafted) (a : VarId) → scope_bound s ≤ d.count → s.result ≡ Some a → Walked s d d (leaf result ∷ []) (a.0 ∷ [])
  result_walked d a made found =
      let had : (v : ℕ → Ground) → type_of v s.result ≡ Some (v a.0) = λ v. ap (type_of v) found in
      walked_leaf s d d result (a.0 ∷ []) made
      (own_leads (on typed []) d (λ y ts. RuleFits y.0 result y.1 ts) a.0 (result_made d.count s a made found) (λ v. subst (λ o. IsHad o (v a.0)) (sym (had v)) refl)
      (λ v ts h. given_is (v a.0) (types_of v s.names) (type_of v s.result) ts (had v) h)) refl

  pub no_result_walked : (old new : Drafted) (a : VarId) → scope_bound s ≤ old.count → a.0 ≡ old.count → s.result ≡ None → IsNever old new a → Walked s old new (leaf result ∷ []) (a.0 ∷ [])
  no_result_walked old new a made number none is =
      walked_leaf s old new result (a.0 ∷ []) made
      (never_leads typed old new (on typed []) (λ y ts. RuleFits y.0 result y.1 ts) a number is (λ v ts h. not_given (types_of v s.names) (type_of v s.result) ts (ap (type_of v) none) h)) is.2.passed
