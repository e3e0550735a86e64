-- One induction over all nodes, for all laws: what the steps of a run have, each node has.
use Rattle.std.proofs.Common.{◌≡◌, refl, ap, ℕ, zero, suc, Bool, true, false, not, ◌&&◌, List, [], ◌∷◌, map, Option, Some, None, Result, Ok, Err, if◌then◌else◌, is_some}
use Rattle.std.specs.Prelude.{length, nat_le}
use Rattle.std.specs.List.{list_all, AllByRecursion}
use Rattle.std.specs.Option.{IfSome}
use Rattle.abc_num.specs.Characters.{are_characters}
use Rattle.abc_num.specs.declared.limits.TheConstants.{MOST_TREE_HEIGHT}
use Rattle.abc_num.specs.declared.lines.RawLine.{RawLine}
use Rattle.abc_tree.specs.RegularItems.{bound_names, formal_names, line, value, address, test}
use Rattle.abc_tree.specs.declared.operations.Op.{Op}
use Rattle.abc_tree.specs.declared.formulas.Expr.{Expr, out-Expr}
use Rattle.abc_tree.specs.declared.formulas.Piece.{Piece, out-Piece}
use Rattle.abc_tree.specs.declared.formulas.Fill.{Fill, out-Fill}
use Rattle.abc_tree.specs.declared.formulas.Pair.{Pair, out-Pair}
use Rattle.abc_tree.specs.declared.formulas.Expr.TheOpen.{Expr-F, Fill-F, Piece-F, Pair-F}
use Rattle.abc_tree.specs.declared.formulas.Link.{Link}
use Rattle.abc_tree.specs.declared.formulas.Bound.{Bound}
use Rattle.abc_tree.specs.declared.formulas.Quantifier.{Quantifier}
use Rattle.abc_tree.specs.declared.formulas.Test.{Test, out-Test}
use Rattle.abc_tree.specs.declared.formulas.Test.TheOpen.{Test-F}
use Rattle.abc_tree.specs.declared.commands.Action.{Action, out-Action}
use Rattle.abc_tree.specs.declared.commands.ActionNode.{ActionNode, out-ActionNode}
use Rattle.abc_tree.specs.declared.commands.ActionNode.TheOpen.{ActionNode-F}
use Rattle.abc_tree.specs.declared.commands.Alternative.{Alternative, out-Alternative}
use Rattle.abc_tree.specs.declared.commands.Refinement.{Refinement}
use Rattle.abc_tree.specs.declared.commands.Unit.{Unit as Routine}
use Rattle.abc_value.specs.declared.faults.ValueFault.{ValueFault}
use Rattle.abc_value.specs.declared.faults.RunFault.{RunFault}
use Rattle.abc_value.specs.declared.faults.RunFault.TheVariants.{NoValue, NotAnAddress}
use Rattle.abc_value.specs.Tree.{Tree, number, trees}
use Rattle.abc_value.specs.Forms.{Form}
use Rattle.abc_value.specs.Parts.{parts_of, pairs_of}
use Rattle.abc_value.specs.Changes.{associate_of}
use Rattle.abc_value.specs.Items.{range_of}
use Rattle.abc_frames.specs.Maps.{Targets, Frame, value_of, with_value, without, value_at, with_value_at, without_at}
use Rattle.abc_print.specs.Computed.{literal_of}
use Rattle.abc_meaning.specs.State.{key, Address, place, several, Formal, Stop, gives, stops, Run, after, becomes, Flow, goes_on, quits, returns, reports}
use Rattle.abc_meaning.specs.Here.{Here, Scope, fault, is_bound, within, look, value_in, target_at, assign, assign_in}
use Rattle.abc_meaning.specs.Deeper.{Deeper, Actual}
use Rattle.abc_meaning.specs.Fits.{has_type, have_range, is_test as is_test_of}
use Rattle.abc_meaning.specs.Bindings.{Bindings, at_fields, assign_all, set_names, bind, bindings, held}
use Rattle.abc_meaning.specs.Calls.{then_on, apart, undone, returned, reported, with_bindings, suite, body_over, entered, called, function_call, predicate_call, refined, expression_refinement, test_refinement}
use Rattle.abc_meaning.specs.Value.{answer, row_answer, composed, there, selected, range, values, piece, pieces, Wording, filled, fillers, Filling, paired, entries, Tabling, name_value, value_with}
use Rattle.abc_meaning.specs.Holds.{decides, if_decided, compared, chain, quantified, over_train, refinement_test, holds_with}
use Rattle.abc_meaning.specs.Changing.{Change, Changed, Part as Place, marked, marking, mark, assigned, change, changed, formal_named, fielded, parts, put_parts, put_fields, put, delete, change_list, puts, inserts, removes, deletes}
use Rattle.abc_meaning.specs.Addresses.{whole, address_list, address_with, address_within, address as address_at}
use Rattle.abc_meaning.specs.Reading.{raw_value, of_form, literal_value}
use Rattle.abc_meaning.specs.Actuals.{located, name_actual, gather, Gathered, actual_with, actuals}
use Rattle.abc_meaning.specs.PutBack.{Entry, entry, named, with_formal, along, has_value, mark_all, delete_there, put_at, put_formal, put_one, put_back, body_with, called_with, command_call, command_refinement}
use Rattle.abc_meaning.specs.Acts.{checked, written, succeeds, select, turns, each, each_of, acts_with}
use Rattle.abc_meaning.specs.Meaning.{meaning}
use Rattle.abc_meaning.proofs.Opened.{together, one_more, InPiece, InFill, InPair, InLayer, InTestLayer, InNode, InWay, in_expr, in_test, in_action, in_body}
use Rattle.abc_meaning.specs.Laws.{is_wanting}
use Rattle.abc_meaning.proofs.Decided.{IsDecided, decided}
use Rattle.abc_meaning.proofs.Asked.{Facts, placing, Any, HasAny, HaveAll, HavePairs, HasAddress, HasAddressIfAny, HasPlace, HasChange, HasFlow, HasActual, FitsExpr, FitsTest, FitsPart, FitsSuite, FitsUnit, IsPlace, AreKept, IsLaw, IsGood}
use Rattle.abc_meaning.proofs.Carried.{left, right, HaveBindings, HaveHeld, HavePlaces, HaveFields, if_any, to_names, listed_all, at_fields_have, binds, all_bind, fielded_has, train_have, parts_have, stepped_has, together_has, unit_fits, FitsRefinement, refinement_fits, name_fits, at_own_line, within_unit}

module _ (facts : Facts) (P : (A : Type 0) → (A → Type 0) → Run A → Type 0) (law : IsLaw facts P) (kept : AreKept facts) where
  abbrev Fine : {A : Type 0} → (A → Type 0) → Run A → Type 0
  Fine {A} Q run = P A Q run

  given : {A : Type 0} {Q : A → Type 0} {a : A} → Q a → Fine Q (λ s. gives a s)
  given {A} {Q} {a} h = law.giving {A = A} {Q = Q} a h

  halted : {A : Type 0} {Q : A → Type 0} {here : Here} {stop : Stop} → IsPlace facts here → is_wanting stop ≡ false → Fine {A = A} Q (λ s. stops here.line stop s)
  halted {A} {Q} {here} {stop} at known = law.stopping {A = A} {Q = Q} here.line stop known at.line

  next : {A B : Type 0} {Q : A → Type 0} {R : B → Type 0} {run : Run A} {go : A → Run B} → Fine Q run → ((a : A) → Q a → Fine R (go a)) → Fine R (λ s. after (run s) go)
  next {A} {B} {Q} {R} {run} {go} h k = law.going_on {A = A} {B = B} {Q = Q} {R = R} run go h k

  if_fine : {A : Type 0} {Q : A → Type 0} (b : Bool) {run other : Run A} → (b ≡ true → Fine Q run) → Fine Q other → Fine Q (if b then run else other)
  if_fine true h k = h refl
  if_fine false h k = k

  abbrev HasEach : {A : Type 0} → (A → Type 0) → List A → Type 0
  HasEach Q xs = AllByRecursion Q xs

  -- ---- names

  placed_then : {A : Type 0} {Q : A → Type 0} (targets : Targets) (names : Frame) (formals : List Formal) (run : Run A) → facts.HasTargets targets → facts.HasNames names → facts.HasFormals formals
      → Fine Q run → Fine Q (λ s. run (placing targets names formals s))
  placed_then targets names formals run t n f h = law.going_on (becomes (placing targets names formals)) (λ _. run) (law.setting targets names formals t n f) (λ _ _. h)

  looking_in : {A : Type 0} {Q : A → Type 0} (target : Option (List ℕ)) (i : ℕ) (go : Option Tree → Run A) → ((v : Option Tree) → HasAny facts v → Fine Q (go v)) → Fine Q (λ s. go (value_in target i s) s)
  looking_in (Some name) i go h = law.seeing (λ targets names formals. go (value_of name targets)) (λ targets names formals t n f. h _ (law.value name targets t))
  looking_in None i go h = law.seeing (λ targets names formals. go (value_at i names)) (λ targets names formals t n f. h _ (law.name_value i names n))

  looking : {A : Type 0} {Q : A → Type 0} (scope : Scope) (i : ℕ) (go : Option Tree → Run A) → ((v : Option Tree) → HasAny facts v → Fine Q (go v)) → Fine Q (λ s. go (look scope i s) s)
  looking scope i go h = looking_in (target_at scope i) i go h

  assigning_in : (target : Option (List ℕ)) (i : ℕ) (v : Option Tree) → HasAny facts v → Fine Any (becomes (assign_in target i v))
  assigning_in (Some name) i (Some v) h =
      law.seeing (λ targets names formals. becomes (placing (with_value name v targets) names formals)) (λ targets names formals t n f. law.setting _ names formals (law.valued name v targets h t) n f)
  assigning_in (Some name) i None h = law.seeing (λ targets names formals. becomes (placing (without name targets) names formals)) (λ targets names formals t n f. law.setting _ names formals (law.emptied name targets t) n f)
  assigning_in None i (Some v) h =
      law.seeing (λ targets names formals. becomes (placing targets (with_value_at i v names) formals)) (λ targets names formals t n f. law.setting targets _ formals t (law.name_valued i v names h n) f)
  assigning_in None i None h = law.seeing (λ targets names formals. becomes (placing targets (without_at i names) formals)) (λ targets names formals t n f. law.setting targets _ formals t (law.name_emptied i names n) f)

  assigning : (scope : Scope) (i : ℕ) (v : Option Tree) → HasAny facts v → Fine Any (becomes (assign scope i v))
  assigning scope i v h = assigning_in (target_at scope i) i v h

  all_assigned : (scope : Scope) (ps : List (ℕ × Option Tree)) → HaveHeld facts ps → Fine Any (becomes (assign_all scope ps))
  all_assigned scope [] h = law.giving tt tt
  all_assigned scope (p ∷ ps) h = law.going_on (becomes (assign scope p.0 p.1)) (λ _. becomes (assign_all scope ps)) (assigning scope p.0 p.1 h.0) (λ _ _. all_assigned scope ps h.1)

  names_set : {here : Here} → IsPlace facts here → (bs : Option Bindings) → IfSome bs (HaveBindings facts) → Fine Any (set_names here bs)
  names_set at None h = halted at refl
  names_set {here} at (Some bs) h = all_assigned here.scope (map (λ b. (b.0, Some b.1)) bs) (to_names facts bs h)

  bound : {here : Here} → IsPlace facts here → (b : Bound) (v : Tree) → facts.HasTree v → Fine Any (bind here b v)
  bound at b v h = names_set at (bindings b v) (binds facts kept b v h)

  holding : {A : Type 0} {Q : A → Type 0} (scope : Scope) (names : List ℕ) (go : List (ℕ × Option Tree) → Run A) → ((vs : List (ℕ × Option Tree)) → HaveHeld facts vs → Fine Q (go vs)) → Fine Q (λ s. go (held scope names s) s)
  holding scope [] go h = h [] tt
  holding scope (i ∷ names) go h =
      looking scope i (λ v s. go ((i, v) ∷ held scope names s) s) (λ v hv. holding scope names (λ vs. go ((i, v) ∷ vs)) (λ vs hs. h _ (hv, hs)))

  -- ---- values

  answered : {here : Here} → IsPlace facts here → (r : Result Tree ValueFault) → ((v : Tree) → r ≡ Ok v → facts.HasTree v) → Fine facts.HasTree (answer here r)
  answered at (Ok v) h = given (h v refl)
  answered at (Err f) h = halted at refl

  row_answered : {here : Here} → IsPlace facts here → (r : Result Tree RunFault) → ((v : Tree) → r ≡ Ok v → facts.HasTree v) → Fine facts.HasTree (row_answer here r)
  row_answered at (Ok v) h = given (h v refl)
  row_answered at (Err f) h = halted at refl

  is_there : {here : Here} → IsPlace facts here → (f : RunFault) (v : Option Tree) → HasAny facts v → Fine facts.HasTree (there here f v)
  is_there at f None h = halted at refl
  is_there at f (Some v) h = given h

  is_composed : {here : Here} → IsPlace facts here → (vs : List Tree) → HaveAll facts vs → Fine facts.HasTree (composed here vs)
  is_composed at vs h = if_fine _ (λ two. answered at _ (λ v is. kept.composed vs v h (left (nat_le 2 (length vs)) (list_all has_type vs) two) is)) (halted at refl)

  is_selected : {here : Here} → IsPlace facts here → (t k : Tree) → facts.HasTree t → Fine facts.HasTree (selected here t k)
  is_selected at t k h = if_fine _ (λ _. is_there at _ (associate_of k (pairs_of t)) (kept.found k t h)) (halted at refl)

  is_range : {here : Here} → IsPlace facts here → (p q : Tree) → facts.HasTree p → facts.HasTree q → Fine facts.HasTree (range here p q)
  is_range at p q h k = if_fine (have_range p q) (λ _. answered at (range_of p q) (λ v is. kept.ranged p q v h k is)) (halted at refl)

  is_returned : {here : Here} → IsPlace facts here → (flow : Flow) → HasFlow facts flow → Fine facts.HasTree (returned here flow)
  is_returned at (returns v) h = given h
  is_returned at goes_on h = halted at refl
  is_returned at quits h = halted at refl
  is_returned at (reports b) h = halted at refl

  is_reported : {here : Here} → IsPlace facts here → (flow : Flow) → Fine Any (reported here flow)
  is_reported at (reports b) = given tt
  is_reported at goes_on = halted at refl
  is_reported at quits = halted at refl
  is_reported at (returns v) = halted at refl

  gone_on : (flow : Flow) (rest : Run Flow) → HasFlow facts flow → Fine (HasFlow facts) rest → Fine (HasFlow facts) (then_on flow rest)
  gone_on goes_on rest f h = h
  gone_on quits rest f h = given f
  gone_on (returns v) rest f h = given f
  gone_on (reports b) rest f h = given f

  -- ---- changes

  is_marked : {here : Here} → IsPlace facts here → (i : ℕ) (formals : List Formal) (found : Option Formal) → formal_named i formals ≡ found → facts.HasFormals formals → Fine Any (marking here i formals found)
  is_marked at i formals None e f = given tt
  is_marked {here} at i formals (Some formal) e f = if_address (is_some formal.address) refl
    where
      if_address : (b : Bool) → is_some formal.address ≡ b → Fine Any (if b then becomes (λ s. record s { formals = marked i formals }) else fault here NotAnAddress)
      if_address true is = law.seeing (λ targets names _. becomes (placing targets names (marked i formals))) (λ targets names _ t n _. law.setting targets names _ t n (law.formal_marked i formals formal e is f))
      if_address false is = halted at refl

  marks : {here : Here} → IsPlace facts here → (i : ℕ) → Fine Any (mark here i)
  marks {here} at i = law.seeing (λ targets names formals. marking here i formals (formal_named i formals)) (λ targets names formals t n f. is_marked at i formals (formal_named i formals) refl f)

  is_assigned : {here : Here} → IsPlace facts here → (i : ℕ) (c : Changed) → IsDecided c → ((v : Tree) → c ≡ Ok (Some v) → facts.HasTree v) → Fine Any (assigned here i c)
  is_assigned {here} at i (Ok new) known h = assigning here.scope i new (if_any facts new (λ v is. h v (ap Ok is)))
  is_assigned at i (Err stop) known h = halted at known

  changes : {here : Here} → IsPlace facts here → (c : Change) (part : Place) → HasChange facts c → HasPlace facts part → Fine Any (change here c part)
  changes {here} at c part hc hp =
      next (marks at part.name) (λ _ _. looking here.scope part.name (λ old. assigned here part.name (changed c NoValue part.steps old))
      (λ old ho. is_assigned at part.name _ (decided c NoValue part.steps old) (λ v is. kept.changes c NoValue part.steps old v hc hp ho is)))

  parts_put : {here : Here} → IsPlace facts here → (ps : List (Place × Tree)) → HaveFields facts ps → Fine Any (put_parts here ps)
  parts_put at [] h = given tt
  parts_put at (p ∷ ps) h = next (changes at (puts p.1) p.0 h.0.1 h.0.0) (λ _ _. parts_put at ps h.1)

  fields_put : {here : Here} → IsPlace facts here → (ps : Option (List (Place × Tree))) → IfSome ps (HaveFields facts) → Fine Any (put_fields here ps)
  fields_put at None h = halted at refl
  fields_put at (Some ps) h = parts_put at ps h

  is_put : {here : Here} → IsPlace facts here → (a : Address) (v : Tree) → HasAddress facts a → facts.HasTree v → Fine Any (put here a v)
  is_put at a v ha hv = fields_put at (fielded a v) (fielded_has facts kept a v ha hv)

  is_deleted : {here : Here} → IsPlace facts here → (ps : List Place) → HavePlaces facts ps → Fine Any (delete here ps)
  is_deleted at [] h = given tt
  is_deleted at (p ∷ ps) h = next (changes at deletes p tt h.0) (λ _ _. is_deleted at ps h.1)

  list_changed : {here : Here} → IsPlace facts here → (c : Change) (a : Address) → HasChange facts c → HasAddress facts a → Fine Any (change_list here c a)
  list_changed at c (place i steps) hc ha = changes at c _ hc ha
  list_changed at c (several all) hc ha = halted at refl

  -- ---- putting back

  all_marked : {here : Here} → IsPlace facts here → (ps : List Place) → Fine Any (mark_all here ps)
  all_marked at [] = given tt
  all_marked at (p ∷ ps) = next (marks at p.name) (λ _ _. all_marked at ps)

  if_all_there : {A : Type 0} {Q : A → Type 0} (scope : Scope) (ps : List Place) (go : Bool → Run A) → ((b : Bool) → Fine Q (go b)) → Fine Q (λ s. go (list_all (has_value scope s) ps) s)
  if_all_there scope [] go h = h true
  if_all_there scope (p ∷ ps) go h = looking scope p.name (λ v s. go (is_some (along p.steps v) && list_all (has_value scope s) ps) s)
      (λ v _. if_all_there scope ps (λ b. go (is_some (along p.steps v) && b)) (λ b. h _))

  deleted_there : {here : Here} → IsPlace facts here → (ps : List Place) → HavePlaces facts ps → Fine Any (delete_there here ps)
  deleted_there {here} at ps h = if_all_there here.scope ps (λ b s. if b then delete here ps s else gives tt s) deleted_if
    where
      deleted_if : (b : Bool) → Fine Any (λ s. if b then delete here ps s else gives tt s)
      deleted_if true = is_deleted at ps h
      deleted_if false = given tt

  put_there : {here : Here} → IsPlace facts here → (a : Address) (v : Option Tree) → HasAddress facts a → HasAny facts v → Fine Any (put_at here a v)
  put_there at a (Some v) ha hv = is_put at a v ha hv
  put_there at a None ha hv = next (all_marked at (parts a)) (λ _ _. deleted_there at (parts a) (parts_have facts a ha))

  formal_put : {here : Here} → IsPlace facts here → (a : Option Address) (v : Option Tree) → HasAddressIfAny facts a → HasAny facts v → Fine Any (put_formal here a v)
  formal_put at None v ha hv = given tt
  formal_put at (Some a) v ha hv = put_there at a v ha hv

  one_put : {here : Here} → IsPlace facts here → (names : Frame) (f : Formal) → facts.HasNames names → HasAddressIfAny facts f.address → Fine Any (put_one here names f)
  one_put at names f n h = if_fine f.changed (λ _. formal_put at f.address (value_at f.name names) h (law.name_value f.name names n)) (given tt)

  all_put : {here : Here} → IsPlace facts here → (fs : List Formal) (names : Frame) → facts.HasNames names → AllByRecursion (λ (f : Formal). HasAddressIfAny facts f.address) fs → Fine Any (put_back here fs names)
  all_put at [] names n h = given tt
  all_put at (f ∷ fs) names n h = next (one_put at names f n h.0) (λ _ _. all_put at fs names n h.1)

  -- ---- lines and output

  raw_read : {here : Here} → IsPlace facts here → (l : RawLine) → facts.HasRaw l → Fine facts.HasTree (raw_value here l)
  raw_read at l h = if_fine _ (λ both. given (kept.raw l h (right (not l.long) (are_characters l.bytes) both))) (halted at refl)

  has_form : {here : Here} → IsPlace facts here → (form : Option Form) (v : Option Tree) → HasAny facts v → Fine facts.HasTree (of_form here form v)
  has_form at form None h = halted at refl
  has_form at form (Some v) h = if_fine _ (λ _. given h) (halted at refl)

  literal_read : {here : Here} → IsPlace facts here → (form : Option Form) (l : RawLine) → facts.HasRaw l → Fine facts.HasTree (literal_value here form l)
  literal_read at form l h = if_fine l.long (λ _. halted at refl) (has_form at form (literal_of l.bytes) (kept.literal l h))

  is_checked : {here : Here} → IsPlace facts here → (b : Bool) → Fine Any (checked here b)
  is_checked at true = given tt
  is_checked at false = halted at refl

  -- ---- nodes, where those one level deeper have it

  module _ (deep : Deeper) (good : IsGood facts P deep) where
    in_suite : {here : Here} → IsPlace facts here → (body : List Action) → FitsSuite facts here.scope body → Fine (HasFlow facts) (suite deep here body)
    in_suite at [] h = given tt
    in_suite at (a ∷ rest) h = next (good.acts at a h.0) (λ flow f. gone_on flow _ f (in_suite at rest h.1))

    -- calls

    restored : (targets : Targets) (names : Frame) (formals : List Formal) (flow : Flow) → facts.HasTargets targets → facts.HasNames names → facts.HasFormals formals → HasFlow facts flow
        → Fine (HasFlow facts) (λ s. gives flow (placing targets names formals s))
    restored targets names formals flow t n f h = placed_then targets names formals (λ s. gives flow s) t n f (given h)

    is_apart : (run : Run Flow) → Fine (HasFlow facts) run → Fine (HasFlow facts) (apart run)
    is_apart run h = law.seeing (λ targets names formals s. after (run s) (λ flow t. gives flow (placing targets names formals t)))
        (λ targets names formals t n f. next h (λ flow hf. restored targets names formals flow t n f hf))

    is_undone : (run : Run Flow) → Fine (HasFlow facts) run → Fine (HasFlow facts) (undone run)
    is_undone run h = law.seeing (λ targets names _ s. after (run s) (λ flow t. gives flow (placing targets names t.formals t)))
        (λ targets names _ t n _. next h (λ flow hf. law.seeing (λ _ _ formals s. gives flow (placing targets names formals s)) (λ _ _ formals _ _ f. restored targets names formals flow t n f hf)))

    over_body : {here : Here} → IsPlace facts here → (u : Routine) (names : Frame) → FitsUnit facts u → facts.HasNames names → Fine (HasFlow facts) (body_over deep here u names)
    over_body {here} at u names fits n = is_apart _ (law.seeing (λ targets _ _ s. suite deep (within u here) u.body (placing targets names [] s))
        (λ targets _ _ t _ _. placed_then targets names [] (suite deep (within u here) u.body) t n law.formalless (in_suite (within_unit facts at u fits) u.body (in_body _ u fits))))

    all_bound : (bs : Bindings) (names : Frame) → HaveBindings facts bs → facts.HasNames names → facts.HasNames (with_bindings bs names)
    all_bound [] names h n = n
    all_bound (b ∷ bs) names h n = all_bound bs _ h.1 (law.name_valued b.0 b.1 names h.0 n)

    is_entered : {here : Here} → IsPlace facts here → (u : Routine) (bs : Option Bindings) → FitsUnit facts u → IfSome bs (HaveBindings facts) → Fine (HasFlow facts) (entered deep here u bs)
    is_entered at u None fits h = halted at refl
    is_entered at u (Some bs) fits h = over_body at u _ fits (all_bound bs [] h law.nameless)

    is_called : {here : Here} → IsPlace facts here → (unit : Option Routine) (vs : List Tree) → IfSome unit (FitsUnit facts) → HaveAll facts vs → Fine (HasFlow facts) (called deep here unit vs)
    is_called at None vs fits h = halted at refl
    is_called {here} at (Some u) vs fits h =
        next (law.spending here at.line) (λ _ _. is_entered at u (at_fields (map bindings u.formals) (trees vs)) fits (at_fields_have facts u.formals (all_bind facts kept u.formals) (trees vs) (listed_all facts vs h)))

    function_called : {here : Here} → IsPlace facts here → (unit : Option Routine) (vs : List Tree) → IfSome unit (FitsUnit facts) → HaveAll facts vs → Fine facts.HasTree (function_call deep here unit vs)
    function_called at unit vs fits h = next (is_called at unit vs fits h) (λ flow f. is_returned at flow f)

    predicate_called : {here : Here} → IsPlace facts here → (unit : Option Routine) (vs : List Tree) → IfSome unit (FitsUnit facts) → HaveAll facts vs → Fine Any (predicate_call deep here unit vs)
    predicate_called at unit vs fits h = next (is_called at unit vs fits h) (λ flow f. is_reported at flow)

    is_refined : {here : Here} → IsPlace facts here → (r : Refinement) → FitsRefinement facts here.scope r → Fine (HasFlow facts) (refined deep here r)
    is_refined {here} at r h = next (law.spending here at.line) (λ _ _. is_undone _ (in_suite at r.suite h))

    expression_refined : {here : Here} → IsPlace facts here → (r : Refinement) → FitsRefinement facts here.scope r → Fine facts.HasTree (expression_refinement deep here r)
    expression_refined at r h = next (is_refined at r h) (λ flow f. is_returned at flow f)

    test_refined : {here : Here} → IsPlace facts here → (r : Refinement) → FitsRefinement facts here.scope r → Fine Any (test_refinement deep here r)
    test_refined at r h = next (is_refined at r h) (λ flow f. is_reported at flow)

    -- expressions

    all_values : {here : Here} → IsPlace facts here → (es : List Expr) (found : List Tree) → HasEach (FitsExpr facts) es → HaveAll facts found → Fine (HaveAll facts) (values deep here es found)
    all_values at [] found h k = given k
    all_values at (e ∷ es) found h k = next (good.value at e h.0) (λ v hv. all_values at es _ h.1 (one_more facts.HasTree found v k hv))

    one_piece : {here : Here} → IsPlace facts here → (p : Piece-F Expr Fill Piece Pair) (found : Wording) → InPiece (λ n. facts.HasTree (number n)) p → Fine Any (piece deep here p found)
    one_piece at (Piece-F.Chars b) found h = given tt
    one_piece at (Piece-F.Conversion e) found h = next (good.value at e h) (λ v _. given tt)

    all_pieces : {here : Here} → IsPlace facts here → (ps : List Piece) (found : Wording) → HasEach (λ p. InPiece (λ n. facts.HasTree (number n)) (out-Piece p)) ps → Fine Any (pieces deep here ps found)
    all_pieces at [] found h = given tt
    all_pieces at (p ∷ ps) found h = next (one_piece at (out-Piece p) found h.0) (λ more _. all_pieces at ps more h.1)

    abbrev Fills : Filling → Type 0
    Fills found = HaveAll facts found.elements

    one_filled : {here : Here} → IsPlace facts here → (f : Fill-F Expr Fill Piece Pair) (found : Filling) → InFill (λ n. facts.HasTree (number n)) f → Fills found → Fine Fills (filled deep here f found)
    one_filled at (Fill-F.One e) found h k = next (good.value at e h) (λ v hv. given (one_more facts.HasTree found.elements v k hv))
    one_filled at (Fill-F.Range p q) found h k =
        next (good.value at p h.0) (λ x hx. next (good.value at q h.1) (λ y hy. next (is_range at x y hx hy) (λ r hr. given (together facts.HasTree found.elements (parts_of r) k (kept.parts r hr)))))

    all_fillers : {here : Here} → IsPlace facts here → (fs : List Fill) (found : Filling) → HasEach (λ f. InFill (λ n. facts.HasTree (number n)) (out-Fill f)) fs → Fills found → Fine Fills (fillers deep here fs found)
    all_fillers at [] found h k = given k
    all_fillers at (f ∷ fs) found h k = next (one_filled at (out-Fill f) found h.0 k) (λ more hm. all_fillers at fs more h.1 hm)

    abbrev Tables : Tabling → Type 0
    Tables found = HavePairs facts found.pairs

    one_paired : {here : Here} → IsPlace facts here → (p : Pair-F Expr Fill Piece Pair) (found : Tabling) → InPair (λ n. facts.HasTree (number n)) p → Tables found → Fine Tables (paired deep here p found)
    one_paired at p found h k =
        next (good.value at p.key h.0) (λ x hx. next (good.value at p.associate h.1) (λ y hy. given (one_more (λ (p : Tree × Tree). facts.HasTree p.0 × facts.HasTree p.1) found.pairs (x, y) k (hx, hy))))

    all_entries : {here : Here} → IsPlace facts here → (ps : List Pair) (found : Tabling) → HasEach (λ p. InPair (λ n. facts.HasTree (number n)) (out-Pair p)) ps → Tables found → Fine Tables (entries deep here ps found)
    all_entries at [] found h k = given k
    all_entries at (p ∷ ps) found h k = next (one_paired at (out-Pair p) found h.0 k) (λ more hm. all_entries at ps more h.1 hm)

    name_valued : {here : Here} → IsPlace facts here → (i : ℕ) (r : Option Refinement) → IfSome r (FitsRefinement facts here.scope) → Fine facts.HasTree (name_value deep here i r)
    name_valued at i (Some r) h = expression_refined at r h
    name_valued {here} at i None h = looking here.scope i (λ v. there here NoValue v) (λ v hv. is_there at NoValue v hv)

    module _ (units : List Routine) (fit : AllByRecursion (FitsUnit facts) units) where
      is_value : {here : Here} → IsPlace facts here → (e : Expr-F Expr Fill Piece Pair) → InLayer (λ n. facts.HasTree (number n)) e → Fine facts.HasTree (value_with units deep here e)
      is_value at (Expr-F.Number n) h = given h
      is_value at (Expr-F.Text all) h =
          next (all_pieces at all _ h) (λ found _. if_fine _ (λ both. answered at _ (λ v is. kept.worded found.characters v (right found.typed (are_characters found.characters) both) is)) (halted at refl))
      is_value {here} at (Expr-F.Name i) h = name_valued at i.0 _ (name_fits facts here.scope i.0 at.scope)
      is_value at (Expr-F.Compound es) h = next (all_values at es [] h tt) (λ vs hv. is_composed at vs hv)
      is_value at Expr-F.Empty h = given kept.nothing
      is_value at (Expr-F.List fills) h = next (all_fillers at fills _ h tt) (λ found hf. if_fine _ (λ _. answered at _ (λ v is. kept.listed found.elements v hf is)) (halted at refl))
      is_value at (Expr-F.Table pairs) h = next (all_entries at pairs _ h tt) (λ found hf. if_fine _ (λ _. answered at _ (λ v is. kept.tabled found.pairs v hf is)) (halted at refl))
      is_value at (Expr-F.Select t k) h = next (good.value at t h.0) (λ v hv. next (good.value at k h.1) (λ w _. is_selected at v w hv))
      is_value at (Expr-F.Apply1 op x) h = next (good.value at x h) (λ v hv. if_fine _ (λ _. row_answered at _ (λ w is. kept.one op v w hv is)) (halted at refl))
      is_value at (Expr-F.Apply2 op x y) h =
          next (good.value at x h.0) (λ u hu. next (good.value at y h.1) (λ v hv. if_fine _ (λ _. row_answered at _ (λ w is. kept.two op u v w hu hv is)) (halted at refl)))
      is_value at (Expr-F.Call template es) h = next (all_values at es [] h tt) (λ vs hv. function_called at _ vs (unit_fits facts units template fit) hv)

    -- tests

    is_compared : {here : Here} → IsPlace facts here → (op : Op) (x y : Tree) → Fine Any (compared here op x y)
    is_compared at op x y = if_fine (is_test_of op (x ∷ y ∷ [])) (λ _. given tt) (halted at refl)

    in_chain : {here : Here} → IsPlace facts here → (x : Tree) (links : List Link) → HasEach (λ (l : Link). FitsExpr facts l.right) links → Fine Any (chain deep here x links)
    in_chain at x [] h = given tt
    in_chain at x (l ∷ links) h = next (good.value at l.right h.0) (λ y _. next (is_compared at l.op x y) (λ b _. if_fine b (λ _. in_chain at y links h.1) (given tt)))

    is_quantified : {here : Here} → IsPlace facts here → (q : Quantifier) (names : Bound) (t : Test) (before : List (ℕ × Option Tree)) (es : List Tree) → FitsTest facts t → HaveHeld facts before → HaveAll facts es
        → Fine Any (quantified deep here q names t before es)
    is_quantified {here} at q names t before [] ft hb he = next (all_assigned here.scope before hb) (λ _ _. given {a = not (if_decided q)} tt)
    is_quantified {here} at q names t before (e ∷ es) ft hb he = next (law.spending here at.line) (λ _ _. next (bound at names e he.0) (λ _ _. next (good.holds at t ft) (λ b _.
        if_fine (decides q b) (λ _. given tt) (is_quantified at q names t before es ft hb he.1))))

    train_quantified : {here : Here} → IsPlace facts here → (q : Quantifier) (names : Bound) (t : Test) (es : Option (List Tree)) → FitsTest facts t → IfSome es (HaveAll facts) → Fine Any (over_train deep here q names t es)
    train_quantified at q names t None ft he = halted at refl
    train_quantified {here} at q names t (Some es) ft he = holding here.scope (bound_names names) (λ before. quantified deep here q names t before es) (λ before hb. is_quantified at q names t before es ft hb he)

    refinement_tested : {here : Here} → IsPlace facts here → (r : Option Refinement) → IfSome r (FitsRefinement facts here.scope) → Fine Any (refinement_test deep here r)
    refinement_tested at None h = halted at refl
    refinement_tested at (Some r) h = test_refined at r h

    is_test : (units : List Routine) → AllByRecursion (FitsUnit facts) units → {here : Here} → IsPlace facts here → (t : Test-F Test) → InTestLayer (λ n. facts.HasTree (number n)) t → Fine Any (holds_with units deep here t)
    is_test units fit at (Test-F.Chain first links) h = next (good.value at first h.0) (λ x _. in_chain at x links h.1)
    is_test units fit at (Test-F.Member op e t) h = next (good.value at e h.0) (λ x _. next (good.value at t h.1) (λ y _. is_compared at op x y))
    is_test units fit at (Test-F.And t u) h = next (good.holds at t h.0) (λ b _. if_fine b (λ _. good.holds at u h.1) (given tt))
    is_test units fit at (Test-F.Or t u) h = next (good.holds at t h.0) (λ b _. if_fine b (λ _. given tt) (good.holds at u h.1))
    is_test units fit at (Test-F.Not t) h = next (good.holds at t h) (λ b _. given tt)
    is_test units fit at (Test-F.Quantified q names train t) h = next (good.value at train h.0) (λ v hv. train_quantified at q names t _ h.1 (train_have facts kept v hv))
    is_test units fit at (Test-F.Call template es) h = next (all_values at es [] h tt) (λ vs hv. predicate_called at _ vs (unit_fits facts units template fit) hv)
    is_test units fit {here} at (Test-F.Refinement i) h = refinement_tested at _ (name_fits facts here.scope i.0 at.scope)

    -- addresses

    is_whole : {here : Here} → IsPlace facts here → (found : Option Address) → HasAddressIfAny facts found → Fine (HasAddress facts) (whole here found)
    is_whole at None h = halted at refl
    is_whole at (Some a) h = given h

    module _ {here : Here} (at : IsPlace facts here) (part : Expr → Run (Option Address)) (each_is : (e : Expr) → FitsExpr facts e → Fine (HasAddressIfAny facts) (part e)) where
      addresses_of : (es : List Expr) (found : List (Option Address)) → HasEach (FitsExpr facts) es → HasEach (HasAddressIfAny facts) found → Fine (HasEach (HasAddressIfAny facts)) (address_list deep here part es found)
      addresses_of [] found h k = given k
      addresses_of (e ∷ es) found h k = next (each_is e h.0) (λ a ha. addresses_of es _ h.1 (one_more (HasAddressIfAny facts) found a k ha))

      address_of : (e : Expr-F Expr Fill Piece Pair) → InLayer (λ n. facts.HasTree (number n)) e → Fine (HasAddressIfAny facts) (address_with deep here part e)
      address_of (Expr-F.Name i) h = given tt
      address_of (Expr-F.Select t k) h = next (each_is t h.0) (λ a ha. next (good.value at k h.1) (λ v hv. given (stepped_has facts v a hv ha)))
      address_of (Expr-F.Compound es) h = next (addresses_of es [] h tt) (λ found hf. given (together_has facts found hf))
      address_of (Expr-F.Number n) h = given tt
      address_of (Expr-F.Text all) h = given tt
      address_of Expr-F.Empty h = given tt
      address_of (Expr-F.List fills) h = given tt
      address_of (Expr-F.Table pairs) h = given tt
      address_of (Expr-F.Apply1 op x) h = given tt
      address_of (Expr-F.Apply2 op x y) h = given tt
      address_of (Expr-F.Call template es) h = given tt

    address_up_to : {here : Here} → IsPlace facts here → (high : ℕ) (e : Expr) → FitsExpr facts e → Fine (HasAddressIfAny facts) (address_within deep here high e)
    unfolding address_within
    address_up_to at zero e h = given tt
    address_up_to {here} at (suc high) e h = address_of at (address_within deep here high) (address_up_to at high) (out-Expr e) (in_expr _ e h)

    is_address : {here : Here} → IsPlace facts here → (e : Expr) → FitsExpr facts e → Fine (HasAddress facts) (address_at deep here e)
    unfolding address_at
    is_address at e h = next (address_up_to at (suc MOST_TREE_HEIGHT) e h) (λ found hf. is_whole at found hf)

    -- actuals

    name_located : {here : Here} → IsPlace facts here → (i : ℕ) (r : Option Refinement) → IfSome r (FitsRefinement facts here.scope) → Fine (HasActual facts) (name_actual deep here i r)
    name_located at i (Some r) h = next (expression_refined at r h) (λ v hv. given (hv, tt))
    name_located {here} at i None h =
        looking here.scope i (λ v s. gives (record { value = v; address = if is_bound here.scope i then None else Some (place i []) }) s) (λ v hv. given (hv, is_place (is_bound here.scope i)))
      where
        is_place : (b : Bool) → HasAddressIfAny facts (if b then None else Some (place i []))
        is_place true = tt
        is_place false = tt

    abbrev Gathers : Gathered → Type 0
    Gathers found = HaveAll facts found.values × HasEach (HasAddressIfAny facts) found.addresses

    is_gathered : {here : Here} → IsPlace facts here → (es : List Expr) (found : Gathered) → HasEach (FitsExpr facts) es → Gathers found → Fine Gathers (gather deep here es found)
    is_gathered at [] found h k = given k
    is_gathered at (e ∷ es) found h k =
        next (good.actual at e h.0) (λ a ha. next (is_there at NoValue a.value ha.0)
        (λ v hv. is_gathered at es _ h.1 (one_more facts.HasTree found.values v k.0 hv, one_more (HasAddressIfAny facts) found.addresses a.address k.1 ha.1)))

    module _ (units : List Routine) (fit : AllByRecursion (FitsUnit facts) units) where
      as_value : {here : Here} → IsPlace facts here → (e : Expr-F Expr Fill Piece Pair) → InLayer (λ n. facts.HasTree (number n)) e → Fine (HasActual facts) (λ s. after (value_with units deep here e s) (λ v. located None v))
      as_value at e h = next (is_value units fit at e h) (λ v hv. given (hv, tt))

      is_actual : {here : Here} → IsPlace facts here → (e : Expr-F Expr Fill Piece Pair) → InLayer (λ n. facts.HasTree (number n)) e → Fine (HasActual facts) (actual_with units deep here e)
      is_actual {here} at (Expr-F.Name i) h = name_located at i.0 _ (name_fits facts here.scope i.0 at.scope)
      is_actual at (Expr-F.Select t k) h =
          next (good.actual at t h.0) (λ a ha. next (is_there at NoValue a.value ha.0) (λ v hv. next (good.value at k h.1) (λ w hw. next (is_selected at v w hv) (λ x hx. given (hx, stepped_has facts w a.address hw ha.1)))))
      is_actual at (Expr-F.Compound es) h = next (is_gathered at es _ h (tt, tt)) (λ found hf. next (is_composed at found.values hf.0) (λ v hv. given (hv, together_has facts found.addresses hf.1)))
      is_actual at (Expr-F.Number n) h = as_value at (Expr-F.Number n) h
      is_actual at (Expr-F.Text all) h = as_value at (Expr-F.Text all) h
      is_actual at Expr-F.Empty h = as_value at Expr-F.Empty h
      is_actual at (Expr-F.List fills) h = as_value at (Expr-F.List fills) h
      is_actual at (Expr-F.Table pairs) h = as_value at (Expr-F.Table pairs) h
      is_actual at (Expr-F.Apply1 op x) h = as_value at (Expr-F.Apply1 op x) h
      is_actual at (Expr-F.Apply2 op x y) h = as_value at (Expr-F.Apply2 op x y) h
      is_actual at (Expr-F.Call template es) h = as_value at (Expr-F.Call template es) h

    all_actuals : {here : Here} → IsPlace facts here → (es : List Expr) (found : List Actual) → HasEach (FitsExpr facts) es → HasEach (HasActual facts) found → Fine (HasEach (HasActual facts)) (actuals deep here es found)
    all_actuals at [] found h k = given k
    all_actuals at (e ∷ es) found h k = next (good.actual at e h.0) (λ a ha. all_actuals at es _ h.1 (one_more (HasActual facts) found a k ha))

    -- calls of command units and refinements

    end_of_call : {here : Here} → IsPlace facts here → (names : Frame) (formals : List Formal) → facts.HasNames names → facts.HasFormals formals
        → Fine (HasFlow facts) (λ s. after (put_back here s.formals s.names (record s { names = names; formals = formals })) (λ _. gives goes_on))
    end_of_call {here} at names formals n f = law.seeing (λ targets inner own s. after (put_back here own inner (placing targets names formals s)) (λ _. gives goes_on))
        (λ targets inner own t hi ho. placed_then targets names formals (λ s. after (put_back here own inner s) (λ _. gives goes_on)) t n f (next (all_put at own inner hi (law.formal_addresses own ho)) (λ _ _. given tt)))

    abbrev IfEntry : Option Entry → Type 0
    IfEntry None = Unit {0}
    IfEntry (Some e) = facts.HasNames e.names × facts.HasFormals e.formals

    one_named : (i : ℕ) (v : Option Tree) (names : Frame) → HasAny facts v → facts.HasNames names → facts.HasNames (named i v names)
    one_named i None names h n = n
    one_named i (Some v) names h n = law.name_valued i v names h n

    with_one : (i : ℕ) (a : Actual) (e : Option Entry) → HasActual facts a → IfEntry e → IfEntry (with_formal i a e)
    with_one i a None h n = tt
    with_one i a (Some e) h n = (one_named i a.value e.names h.0 n.0, law.formal_more i a.address e.formals h.1 n.1)

    entry_names : (names : List ℕ) (found : List Actual) → HasEach (HasActual facts) found → IfEntry (entry names found)
    entry_names [] [] h = (law.nameless, law.formalless)
    entry_names (i ∷ names) (a ∷ found) h = with_one i a _ h.0 (entry_names names found h.1)
    entry_names [] (a ∷ found) h = tt
    entry_names (i ∷ names) [] h = tt

    with_body : {here : Here} → IsPlace facts here → (u : Routine) (e : Option Entry) → FitsUnit facts u → IfEntry e → Fine (HasFlow facts) (body_with deep here u e)
    with_body at u None fits own = halted at refl
    with_body {here} at u (Some e) fits own = law.seeing
        (λ targets names formals s. after (suite deep (within u here) u.body (placing targets e.names e.formals s))
        (λ flow t. after (put_back here t.formals t.names (record t { names = names; formals = formals })) (λ _. gives goes_on)))
        (λ targets names formals t n f. next (placed_then targets e.names e.formals (suite deep (within u here) u.body) t own.0 own.1 (in_suite (within_unit facts at u fits) u.body (in_body _ u fits))) (λ flow _. end_of_call at names formals n f))

    with_actuals : {here : Here} → IsPlace facts here → (unit : Option Routine) (found : List Actual) → IfSome unit (FitsUnit facts) → HasEach (HasActual facts) found → Fine (HasFlow facts) (called_with deep here unit found)
    with_actuals at None found fits h = halted at refl
    with_actuals {here} at (Some u) found fits h = next (law.spending here at.line) (λ _ _. with_body at u _ fits (entry_names (formal_names u) found h))

    command_called : {here : Here} → IsPlace facts here → (unit : Option Routine) (es : List Expr) → IfSome unit (FitsUnit facts) → HasEach (FitsExpr facts) es → Fine (HasFlow facts) (command_call deep here unit es)
    command_called at unit es fits h = next (all_actuals at es [] h tt) (λ found hf. with_actuals at unit found fits hf)

    command_refined : {here : Here} → IsPlace facts here → (r : Option Refinement) → IfSome r (FitsRefinement facts here.scope) → Fine (HasFlow facts) (command_refinement deep here r)
    command_refined at None h = halted at refl
    command_refined {here} at (Some r) h = next (law.spending here at.line) (λ _ _. next (in_suite at r.suite h) (λ flow _. given tt))

    -- commands

    is_written : {here : Here} → IsPlace facts here → (e : Option Expr) → IfSome e (FitsExpr facts) → Fine Any (written deep here e)
    is_written at None h = given tt
    is_written at (Some e) h = next (good.value at e h) (λ v _. if_fine (has_type v) (λ _. given tt) (halted at refl))

    has_succeeded : (here : Here) {there : Here} → IsPlace facts there → (t : Option Test) → IfSome t (FitsTest facts) → Fine Any (succeeds deep here there t)
    has_succeeded here at None h = given tt
    has_succeeded here at (Some t) h = good.holds at t h

    one_selected : {here : Here} → IsPlace facts here → (ways : List Alternative) → HasEach (InWay (FitsPart facts here.scope)) ways → Fine (HasFlow facts) (select deep here ways)
    one_selected at [] h = halted at refl
    one_selected {here} at (a ∷ rest) h =
        next (has_succeeded here (at_own_line facts at (out-Alternative a).line h.0.0) (out-Alternative a).test h.0.1) (λ b _. if_fine b (λ _. in_suite at (out-Alternative a).suite h.0.2) (one_selected at rest h.1))

    all_turns : {here : Here} → IsPlace facts here → (n : ℕ) (t : Test) (body : List Action) → FitsTest facts t → FitsSuite facts here.scope body → Fine (HasFlow facts) (turns deep here n t body)
    unfolding turns
    all_turns at zero t body ft fb = halted at refl
    all_turns at (suc n) t body ft fb = next (good.turn at t ft) (λ b _. if_fine b (λ _. next (in_suite at body fb) (λ flow f. gone_on flow _ f (all_turns at n t body ft fb))) (given tt))

    for_each : {here : Here} → IsPlace facts here → (names : Bound) (body : List Action) (es : List Tree) → FitsSuite facts here.scope body → HaveAll facts es → Fine (HasFlow facts) (each deep here names body es)
    for_each at names body [] fb he = given tt
    for_each {here} at names body (e ∷ es) fb he =
        next (law.spending here at.line) (λ _ _. next (bound at names e he.0) (λ _ _. next (in_suite at body fb) (λ flow f. gone_on flow _ f (for_each at names body es fb he.1))))

    for_each_of : {here : Here} → IsPlace facts here → (names : Bound) (body : List Action) (es : Option (List Tree)) → FitsSuite facts here.scope body → IfSome es (HaveAll facts) → Fine (HasFlow facts) (each_of deep here names body es)
    for_each_of at names body None fb he = halted at refl
    for_each_of at names body (Some es) fb he = for_each at names body es fb he

    is_command : (units : List Routine) → AllByRecursion (FitsUnit facts) units → {here : Here} → IsPlace facts here → (a : ActionNode-F ActionNode Action Alternative) → InNode (FitsPart facts here.scope) a
        → Fine (HasFlow facts) (acts_with units deep here a)
    is_command units fit {here} at (ActionNode-F.Write before e behind) h = next (is_written at e h) (λ b _. next (law.saying here _ at.line) (λ _ _. given tt))
    is_command units fit at (ActionNode-F.Put e a) h = next (good.value at e h.0) (λ v hv. next (is_address at a h.1) (λ to ht. next (is_put at to v ht hv) (λ _ _. given tt)))
    is_command units fit at (ActionNode-F.Insert e a) h = next (good.value at e h.0) (λ v hv. next (is_address at a h.1) (λ to ht. next (list_changed at (inserts v) to hv ht) (λ _ _. given tt)))
    is_command units fit at (ActionNode-F.Remove e a) h = next (good.value at e h.0) (λ v hv. next (is_address at a h.1) (λ to ht. next (list_changed at (removes v) to hv ht) (λ _ _. given tt)))
    is_command units fit at (ActionNode-F.Delete a) h = next (is_address at a h) (λ to ht. next (is_deleted at (parts to) (parts_have facts to ht)) (λ _ _. given tt))
    is_command units fit {here} at (ActionNode-F.ReadExample a e) h =
        next (law.taking here at.line) (λ l hl. next (literal_read at _ l hl) (λ v hv. next (is_address at a h) (λ to ht. next (is_put at to v ht hv) (λ _ _. given tt))))
    is_command units fit {here} at (ActionNode-F.ReadRaw a) h =
        next (law.taking here at.line) (λ l hl. next (raw_read at l hl) (λ v hv. next (is_address at a h) (λ to ht. next (is_put at to v ht hv) (λ _ _. given tt))))
    is_command units fit at (ActionNode-F.Check t) h = next (good.holds at t h) (λ b _. next (is_checked at b) (λ _ _. given tt))
    is_command units fit at ActionNode-F.Pass h = given tt
    is_command units fit at (ActionNode-F.If t body) h = next (good.holds at t h.0) (λ b _. if_fine b (λ _. in_suite at body h.1) (given tt))
    is_command units fit at (ActionNode-F.Select ways) h = one_selected at ways h
    is_command units fit {here} at (ActionNode-F.While t body) h = law.metering (λ left. turns deep here (suc left) t body) (λ left. all_turns at (suc left) t body h.0 h.1)
    is_command units fit at (ActionNode-F.For names train body) h = next (good.value at train h.0) (λ v hv. for_each_of at names body _ h.1 (train_have facts kept v hv))
    is_command units fit at ActionNode-F.Quit h = given tt
    is_command units fit at (ActionNode-F.Return e) h = next (good.value at e h) (λ v hv. given hv)
    is_command units fit at (ActionNode-F.Report t) h = next (good.holds at t h) (λ b _. given tt)
    is_command units fit at ActionNode-F.Succeed h = given tt
    is_command units fit at ActionNode-F.Fail h = given tt
    is_command units fit at (ActionNode-F.Call template es) h = command_called at _ es (unit_fits facts units template fit) h
    is_command units fit {here} at (ActionNode-F.Refinement name) h = command_refined at _ (refinement_fits facts here.scope name at.scope)

  -- all nodes at all levels
  pub all_nodes : (units : List Routine) → AllByRecursion (FitsUnit facts) units → (levels : ℕ) → IsGood facts P (meaning units levels)
  unfolding meaning
  all_nodes units fit zero = record {
    value = λ at e h. halted at refl;
    actual = λ at e h. halted at refl;
    holds = λ at t h. halted at refl;
    turn = λ at t h. halted at refl;
    acts = λ at a h. halted (at_own_line facts at (out-Action a).line (in_action _ a h).0) refl;
  }
  all_nodes units fit (suc n) = record {
    value = λ at e h. is_value (meaning units n) (all_nodes units fit n) units fit at (out-Expr e) (in_expr _ e h);
    actual = λ at e h. is_actual (meaning units n) (all_nodes units fit n) units fit at (out-Expr e) (in_expr _ e h);
    holds = λ at t h. is_test (meaning units n) (all_nodes units fit n) units fit at (out-Test t) (in_test _ t h);
    turn = λ at t h. next (law.spending _ at.line) (λ _ _. is_test (meaning units n) (all_nodes units fit n) units fit at (out-Test t) (in_test _ t h));
    acts = λ at a h.
        let own : IsPlace facts _ = at_own_line facts at (out-Action a).line (in_action _ a h).0 in
        next (law.spending _ own.line) (λ _ _. is_command (meaning units n) (all_nodes units fit n) units fit own (out-ActionNode (out-Action a).node) (in_action _ a h).1);
  }
