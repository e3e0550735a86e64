-- All nodes at all levels: where a tree fits and the state is typed, no part of a run is wrong.
use Rattle.std.proofs.Common.{◌≡◌, ◌∙◌, refl, ap, sym, subst, ℕ, zero, suc, Bool, true, false, not, ◌&&◌, List, [], ◌∷◌, ◌++◌, map, length, Option, Some, None, if◌then◌else◌, is_some, append_assoc, arith}
use Rattle.std.specs.Prelude.{◌<◌, slice_get, option_and_then, nat_le}
use Rattle.std.specs.List.{AllByRecursion, list_all}
use Rattle.std.specs.Option.{IfSome}
use Rattle.std.specs.Ordering.{nat_cmp}
use Rattle.std.proofs.lemmas.Bool.{and_parts}
use Rattle.std.proofs.lemmas.Bool.Decides.{nat_tests}
use Rattle.std.proofs.lemmas.List.{append-nil}
use Rattle.abc_num.specs.Characters.{are_characters}
use Rattle.abc_num.specs.Names.{number_of}
use Rattle.abc_num.specs.Number.{IsNumber}
use Rattle.abc_num.specs.Types.{IsTrainOf}
use Rattle.abc_num.specs.declared.limits.TheConstants.{MOST_TREE_HEIGHT}
use Rattle.abc_num.specs.declared.types.Ground.{Ground}
use Rattle.abc_num.specs.declared.types.Ground.TheVariants as type
use Rattle.abc_value.specs.declared.faults.RunFault.TheVariants.{NoValue}
use Rattle.abc_value.specs.Tree.{Tree, trees}
use Rattle.abc_value.specs.Types.{has}
use Rattle.abc_value.specs.Forms.{anything, form_of, joined, Fits}
use Rattle.abc_value.specs.Items.{elements_of}
use Rattle.abc_value.specs.Parts.{parts_of as elements_in}
use Rattle.abc_value.specs.Printed.{outer}
use Rattle.abc_value.specs.Regular.{IsRegular}
use Rattle.abc_value.proofs.forms.Joins.{joined_fits}
use Rattle.abc_value.proofs.forms.Shaping.{has_form}
use Rattle.abc_frames.specs.Maps.{Frame, with_value_at}
use Rattle.abc_tree.specs.Height.{height}
use Rattle.abc_tree.specs.Lists.{flat}
use Rattle.abc_tree.specs.Regular.{is_call, is_command, is_there, is_value_kind, is_test_kind, is_address}
use Rattle.abc_tree.specs.RegularItems.{Part, Parts, value, address, test, is_alone, parts_of, bound_names, bound_over, formal_names}
use Rattle.abc_tree.specs.Units.{unit_of}
use Rattle.abc_tree.specs.declared.operations.Op.{Op}
use Rattle.abc_tree.specs.declared.templates.Template.{Template}
use Rattle.abc_tree.specs.declared.formulas.NameId.{NameId}
use Rattle.abc_tree.specs.declared.formulas.Expr.{Expr, out-Expr}
use Rattle.abc_tree.specs.declared.formulas.Expr.TheOpen.{Expr-F, Fill-F, Piece-F, Pair-F}
use Rattle.abc_tree.specs.declared.formulas.Fill.{Fill, out-Fill}
use Rattle.abc_tree.specs.declared.formulas.Piece.{Piece, out-Piece}
use Rattle.abc_tree.specs.declared.formulas.Pair.{Pair, out-Pair}
use Rattle.abc_tree.specs.declared.formulas.Bound.{Bound, out-Bound, map-Bound}
use Rattle.abc_tree.specs.declared.formulas.Bound.TheOpen.{Bound-F}
use Rattle.abc_tree.specs.declared.formulas.Bound.TheViews.{roll-out-Bound}
use Rattle.abc_tree.specs.declared.formulas.Bound.TheFolds.{fold-roll-Bound}
use Rattle.abc_tree.specs.declared.formulas.Link.{Link}
use Rattle.abc_tree.specs.declared.formulas.Quantifier.{Quantifier}
use Rattle.abc_tree.specs.declared.formulas.Test.{Test, out-Test}
use Rattle.abc_tree.specs.declared.formulas.Test.TheOpen.{Test-F}
use Rattle.abc_tree.specs.declared.commands.Action.{Action, out-Action}
use Rattle.abc_tree.specs.declared.commands.ActionNode.{ActionNode, out-ActionNode}
use Rattle.abc_tree.specs.declared.commands.ActionNode.TheOpen.{ActionNode-F}
use Rattle.abc_tree.specs.declared.commands.Alternative.{Alternative, out-Alternative}
use Rattle.abc_tree.specs.declared.commands.Refinement.{Refinement}
use Rattle.abc_tree.specs.declared.commands.RefinementKind.{RefinementKind}
use Rattle.abc_tree.specs.declared.commands.RefinementKind.TheVariants as refines
use Rattle.abc_tree.specs.declared.commands.Unit.{Unit as Routine}
use Rattle.abc_ground.specs.Seen.{Node, leaf, name as name_rule, result, name_place, place_in}
use Rattle.abc_ground.specs.Fits.{Signature, Typing, IsHad, AreAll, AreActuals, IsGiven, CallFits, RuleFits}
use Rattle.abc_meaning.specs.State.{key, Address, place, State, gives, Run, after, Flow, goes_on, quits, returns, reports}
use Rattle.abc_meaning.specs.Here.{Here, Scope, in_unit, at_line, within, names_in, is_bound, look, refinement_named, refinement_at}
use Rattle.abc_meaning.specs.Deeper.{Deeper, Actual}
use Rattle.abc_meaning.specs.Fits.{has_type, train_elements, example_form, is_test as is_test_of}
use Rattle.abc_meaning.specs.Bindings.{Bindings, bindings, at_fields, bind, held}
use Rattle.abc_meaning.specs.Calls.{then_on, entering, returned, reported, with_bindings, suite, body_over, entered, called, function_call, predicate_call, refined, expression_refinement}
use Rattle.abc_meaning.specs.Value.{values, piece, pieces, Wording, filled, fillers, Filling, paired, entries, Tabling, name_value, there, value_with}
use Rattle.abc_meaning.specs.Holds.{decides, if_decided, compared, chain, quantified, over_train, refinement_test, holds_with}
use Rattle.abc_meaning.specs.Changing.{inserts, removes, parts, put, delete, change_list}
use Rattle.abc_meaning.specs.Addresses.{stepped, together, whole, address_list, address_with, address_within, address as address_run}
use Rattle.abc_meaning.specs.Actuals.{located, name_actual, gather, Gathered, actual_with, actuals}
use Rattle.abc_meaning.specs.PutBack.{Entry, entry, named, with_formal, leaving, body_with, command_call, command_refinement}
use Rattle.abc_meaning.specs.Acts.{newlines, checked, written, succeeds, select, turns, each, each_of, acts_with}
use Rattle.abc_meaning.specs.Meaning.{meaning}
use Rattle.abc_meaning.specs.Regular.{OfActual, OfFlow, AreValues, HasKeys, AreNumbers, IsNumberedScope, EachGivesValues}
use Rattle.abc_meaning.specs.Written.{numbers_in_part, numbers_in_parts}
use Rattle.abc_meaning.proofs.Opened.{together as both_all, one_more, AllParts}
use Rattle.abc_sound.proofs.Leaving.{Sure, sure, Any, Fine, after_leaves, given, halted, next, surely, seeing, passed, either, weaker, later}
use Rattle.abc_sound.proofs.Typed.{both_true, HaveAll, HavePairs, typed_has_type, train_has, relation_taken, membership_taken}
use Rattle.abc_sound.proofs.Changes.{Has, AddressFits, parts_fit}
use Rattle.abc_sound.proofs.States.{IsTyped, IsReady, Kept, kept_of, AreTargets, IsNamed, is_named, look_typed, put_in, name_put, numbers_same, spends, says, takes, regularly}
use Rattle.abc_sound.proofs.Expressions.{Layer, names_for, every_of, NodeFits, IsOne, name_one, fields_one, Elements, OkExpr, OkExprs, OkSome, OkPiece, OkFill, OkPair, OkLayer, ok_opened}
use Rattle.abc_sound.proofs.Testing.{BoundFits, BoundsFit, see_bound, bound_seen_is, OkTest, OkLink, OkTestLayer, ok_test_opened}
use Rattle.abc_sound.proofs.Commands.{Keeps, OkAction, OkSuite, OkAddress, OkWay, OkNode, ok_action_opened}
use Rattle.abc_sound.proofs.Literals.{literal_only}
use Rattle.abc_sound.proofs.Values.{IsA, AreEach, one_each_more, each_have, characters_together, outer_tested, ends, gave, composed_typed, there_typed, selected_typed, one_applied, two_applied, worded_typed, list_displayed, table_displayed, raw_typed, literal_typed, range_elements, ranged, elements_are}
use Rattle.abc_sound.proofs.Binding.{had_is, AreBindings, AreBound, bound_binds, formals_bind, bound_named}
use Rattle.abc_sound.proofs.Addressing.{IsAddress, AreAddresses, one_address_more, stepped_fits, together_fits, step_if, AreIf, one_if_more, together_if, is_address_layer, address_layer_is, height_layer, height_layer_is, parts_below}
use Rattle.abc_sound.proofs.Putting.{puts_value, deletes_all, changes_list, FitsBack, puts_back, binds_names, IsHeld, are_held, has_again}

module _ (units : List Routine) (types : List ℕ → Ground) (allowed : Template → Option Signature → Type 0) (present : Template → Type 0) (most : Scope → ℕ) where
  -- what a flow gives has a type that the place of a RETURN has
  abbrev pub FlowHas : Scope → Typing → Node → Flow → Type 0
  FlowHas scope g where_to (returns v) = (t : Ground) × has v t × Elements allowed present scope g t where_to
  FlowHas scope g where_to _ = Unit {0}

  abbrev pub FlowIs : Scope → Typing → Node → Flow → Type 0
  FlowIs scope g where_to flow = FlowHas scope g where_to flow × OfFlow IsRegular flow

  abbrev pub ActualHas : Typing → Ground → Actual → Type 0
  ActualHas g t a = IfSome a.value (Has t) × IfSome a.address (λ x. AddressFits g.names x t)

  abbrev pub ActualIs : Typing → Ground → Actual → Type 0
  ActualIs g t a = ActualHas g t a × OfActual IsRegular a

  -- where a node stands: what is known of the names, and of the refinements
  pub record IsPlace (scope : Scope) (g : Typing) : Type 0 where
    pub targets : AreTargets types scope g.names
    pub numbered : IsNumberedScope scope
    pub refined : (name : List ℕ) (r : Refinement) → refinement_named scope name ≡ Some r → OkSuite allowed present (most scope) scope g (place_in (names_in scope) r.kind r.name) r.suite
    pub expressed : (i : ℕ) (r : Refinement) (t : Ground) → refinement_at scope i ≡ Some r → is_value_kind ((names_for scope).refinement i) ≡ true → NodeFits allowed g (place_in (names_in scope) r.kind r.name) (t ∷ []) → slice_get g.names i ≡ Some t
    pub tested : (i : NameId) → (is_there (names_for scope) i && is_test_kind ((names_for scope).refinement i.0)) ≡ true → is_some (refinement_at scope i.0) ≡ true

  -- a unit at a signature
  pub record IsCalled (u : Routine) (s : Signature) : Type 0 where
    pub typing : Typing
    pub at : IsPlace (in_unit u) typing
    pub body : OkSuite allowed present (most (in_unit u)) (in_unit u) typing (leaf result) u.body
    pub formals : BoundsFit allowed typing u.formals s.formals
    pub gives : typing.result ≡ s.result

  abbrev pub CalledUnit : Template → Option Signature → Type 0
  CalledUnit t o = (u : Routine) × (s : Signature) × (unit_of t units ≡ Some u) × (o ≡ Some s) × IsCalled u s

  abbrev pub Ready : Typing → Kept → State → Type 0
  Ready g kept = IsReady types g.names kept

  -- each node is never wrong
  pub record IsGood (deep : Deeper) : Type 0 where
    pub value : (here : Here) (g : Typing) → IsPlace here.scope g → (kept : Kept) (e : Expr) (t : Ground) → OkExpr allowed present here.scope g e t → Fine (IsReady types g.names kept) (IsReady types g.names kept) Tree (IsA t) (deep.value here e)
    pub actual : (here : Here) (g : Typing) → IsPlace here.scope g → (kept : Kept) (e : Expr) (t : Ground) → OkExpr allowed present here.scope g e t → Fine (IsReady types g.names kept) (IsReady types g.names kept) Actual (ActualIs g t) (deep.actual here e)
    pub holds : (here : Here) (g : Typing) → IsPlace here.scope g → (kept : Kept) (t : Test) → OkTest allowed present here.scope g t → Fine (IsReady types g.names kept) (IsReady types g.names kept) Bool Any (deep.holds here t)
    pub turn : (here : Here) (g : Typing) → IsPlace here.scope g → (kept : Kept) (t : Test) → OkTest allowed present here.scope g t → Fine (IsReady types g.names kept) (IsReady types g.names kept) Bool Any (deep.turn here t)
    pub acts : (here : Here) (g : Typing) → IsPlace here.scope g → (kept : Kept) (where_to : Node) (a : Action) → OkAction allowed present (most here.scope) here.scope g where_to a
        → Fine (IsReady types g.names kept) (IsReady types g.names kept) Flow (FlowIs here.scope g where_to) (deep.acts here a)

  -- ---- the places of RETURN

  result_one : (g : Typing) (parts own : List Ground) → RuleFits g result parts own → IsOne allowed g own
  result_one g [] [] h = absurd h
  result_one g [] (t ∷ []) h = tt
  result_one g [] (t ∷ u ∷ ts) h = absurd h
  result_one g (p ∷ ps) own h = absurd h

  named_place_one : (g : Typing) (o : Option ℕ) (own : List Ground) → NodeFits allowed g (name_place o) own → IsOne allowed g own
  named_place_one g None own h = fields_one allowed g h.0 own h.2
  named_place_one g (Some i) own h = name_one allowed g i h.0 own h.2

  place_one : (g : Typing) (names : List (List ℕ)) (k : RefinementKind) (called : List ℕ) (own : List Ground) → NodeFits allowed g (place_in names k called) own → IsOne allowed g own
  place_one g names refines.Expression called own h = named_place_one g (number_of names called) own h
  place_one g names refines.Command called own h = result_one g h.0 own h.2
  place_one g names refines.Test called own h = result_one g h.0 own h.2

  -- the one type of a place
  of_place : (scope : Scope) (g : Typing) (where_to : Node) (t : Ground) → ((own : List Ground) → NodeFits allowed g where_to own → IsOne allowed g own) → Elements allowed present scope g t where_to → NodeFits allowed g where_to (t ∷ [])
  of_place scope g where_to t one h = by h.0 (one h.0 h.1) h.1 h.2
    where
      by : (own : List Ground) → IsOne allowed g own → NodeFits allowed g where_to own → AreAll t own → NodeFits allowed g where_to (t ∷ [])
      by [] o f a = absurd o
      by (u ∷ []) o f a = subst (λ x. NodeFits allowed g where_to (x ∷ [])) a.0 f
      by (u ∷ v ∷ ts) o f a = absurd o

  had_result : (g : Typing) (t : Ground) → NodeFits allowed g (leaf result) (t ∷ []) → IsHad g.result t
  had_result g t h = by h.0 h.2
    where
      by : (parts : List Ground) → RuleFits g result parts (t ∷ []) → IsHad g.result t
      by [] k = k
      by (p ∷ ps) k = absurd k

  given_result : (o : Option Ground) (r t : Ground) → IsHad o r → IsGiven true o (t ∷ []) → r ≡ t
  given_result None r t h k = absurd h
  given_result (Some q) r t h k = h ∙ sym k

  bound_names_are : (b : Bound) → bound_names b ≡ bound_over (map-Bound Bound (List ℕ) bound_names (out-Bound b))
  bound_names_are b = ap bound_names (sym (roll-out-Bound b)) ∙ fold-roll-Bound (List ℕ) bound_over (out-Bound b)

  had_by_name : (g : Typing) (i : ℕ) (parts : List Ground) (t : Ground) → RuleFits g (name_rule i) parts (t ∷ []) → IsHad (slice_get g.names i) t
  had_by_name g i [] t h = h
  had_by_name g i (p ∷ ps) t h = absurd h

  -- ---- the frame of a call

  abbrev Named : List Ground → Frame → Type 0
  Named names frame = AllByRecursion (λ e. IsNamed names e.0 e.1) frame

  bound_frame : (names : List Ground) (bs : Bindings) (frame : Frame) → AreBindings names bs → Named names frame → AreValues frame → Named names (with_bindings bs frame) × AreValues (with_bindings bs frame)
  bound_frame names [] frame h n r = (n, r)
  bound_frame names (b ∷ bs) frame h n r =
      bound_frame names bs (with_value_at b.0 b.1 frame) h.1 (put_in nat_cmp numbers_same (λ k v. IsNamed names k v) b.0 b.1 frame (is_named names b.0 h.0.0 b.1 h.0.1 h.0.2.0) n) (name_put b.0 b.1 frame h.0.2.1 r)

  actuals_each : (fs ts : List Ground) (vs : List Tree) → AreActuals fs ts → AreEach ts vs → AreEach fs vs
  actuals_each [] [] vs a h = h
  actuals_each [] (t ∷ ts) vs a h = absurd a
  actuals_each (f ∷ fs) [] vs a h = absurd a
  actuals_each (f ∷ fs) (t ∷ ts) [] a h = absurd h
  actuals_each (f ∷ fs) (t ∷ ts) (v ∷ vs) a h = ((subst (has v) a.0 h.0.0, h.0.1), actuals_each fs ts vs a.1 h.1)

  named_at : (scope : Scope) (i : ℕ) (r : Refinement) → refinement_at scope i ≡ Some r → (name : List ℕ) × (refinement_named scope name ≡ Some r)
  named_at scope i r e = by (slice_get (names_in scope) i) e
    where
      by : (o : Option (List ℕ)) → option_and_then (refinement_named scope) o ≡ Some r → (name : List ℕ) × (refinement_named scope name ≡ Some r)
      by None e = absurd (cc)
      by (Some name) e = (name, e)

  same_type : (o : Option Ground) (t u : Ground) → o ≡ Some t → o ≡ Some u → t ≡ u
  same_type o t u h k = by (sym h ∙ k)
    where
      by : Some t ≡ Some u → t ≡ u
      by e = cc

  module _ (deep : Deeper) (good : IsGood deep) where
    -- ---- suites

    module _ (here : Here) (g : Typing) (at : IsPlace here.scope g) (kept : Kept) where
      gone_on : (where_to : Node) (flow : Flow) (rest : Run Flow) → FlowIs here.scope g where_to flow → Fine (IsReady types g.names kept) (IsReady types g.names kept) Flow (FlowIs here.scope g where_to) rest
          → Fine (IsReady types g.names kept) (IsReady types g.names kept) Flow (FlowIs here.scope g where_to) (then_on flow rest)
      gone_on where_to goes_on rest f h = h
      gone_on where_to quits rest f h = given f
      gone_on where_to (returns v) rest f h = given f
      gone_on where_to (reports b) rest f h = given f

      ends_on : (where_to : Node) (flow : Flow) (rest : Run Flow) → FlowIs here.scope g where_to flow → Fine (IsReady types g.names kept) (IsTyped types g.names kept) Flow (FlowHas here.scope g where_to) rest
          → Fine (IsReady types g.names kept) (IsTyped types g.names kept) Flow (FlowHas here.scope g where_to) (then_on flow rest)
      ends_on where_to goes_on rest f h = h
      ends_on where_to quits rest f h = gave tt
      ends_on where_to (returns v) rest f h = gave f.0
      ends_on where_to (reports b) rest f h = gave tt

      in_suite : (where_to : Node) (body : List Action) → OkSuite allowed present (most here.scope) here.scope g where_to body → Fine (IsReady types g.names kept) (IsReady types g.names kept) Flow (FlowIs here.scope g where_to) (suite deep here body)
      in_suite where_to [] h = given (tt, tt)
      in_suite where_to (a ∷ rest) h = next (good.acts here g at kept where_to a h.0) (λ flow f. gone_on where_to flow (suite deep here rest) f (in_suite where_to rest h.1))

    module _ (here : Here) (g : Typing) (at : IsPlace here.scope g) (kept : Kept) where
      abbrev R : State → Type 0
      R = IsReady types g.names kept

      abbrev T : State → Type 0
      T = IsTyped types g.names kept

      -- ---- calls of functions and predicates

      -- the names of the caller are as before
      over_body : (u : Routine) (s : Signature) (c : IsCalled u s) (names : Frame) → Named c.typing.names names → AreValues names → Fine R R Flow (FlowIs (in_unit u) c.typing (leaf result)) (body_over deep here u names)
      over_body u s c names n r = record {
        leaves = λ t h.
            after_leaves (IsReady types c.typing.names []) R (FlowIs (in_unit u) c.typing (leaf result)) (FlowIs (in_unit u) c.typing (leaf result)) (suite deep (within u here) u.body (entering names t))
            (λ flow z. gives flow (record z { targets = t.targets; names = t.names; formals = t.formals }))
            ((in_suite (within u here) c.typing c.at [] (leaf result) u.body c.body).leaves (entering names t)
            (record { targets = h.0.targets; frame = n; formals = refl }, record { targets = h.1.targets; names = r; formals = tt; lines = h.1.lines }))
            (λ flow z q k. sure (q, (record { targets = h.0.targets; frame = h.0.frame; formals = h.0.formals }, record { targets = h.1.targets; names = h.1.names; formals = h.1.formals; lines = k.1.lines })));
      }

      is_entered : (u : Routine) (s : Signature) (c : IsCalled u s) (o : Option Bindings) → AreBound c.typing.names o → Fine R R Flow (FlowIs (in_unit u) c.typing (leaf result)) (entered deep here u o)
      is_entered u s c o h =
          let f = bound_frame c.typing.names h.0 [] h.2 tt tt in
          subst (λ p. Fine R R Flow (FlowIs (in_unit u) c.typing (leaf result)) (entered deep here u p)) (sym h.1) (over_body u s c (with_bindings h.0 []) f.0 f.1)

      is_called : (u : Routine) (s : Signature) (c : IsCalled u s) (vs : List Tree) → AreEach s.formals vs → Fine R R Flow (FlowIs (in_unit u) c.typing (leaf result)) (called deep here (Some u) vs)
      is_called u s c vs h =
          next (spends types g.names kept here) (λ _ _. is_entered u s c (at_fields (map bindings u.formals) (trees vs)) (formals_bind allowed c.typing u.formals s.formals vs c.formals h))

      value_returned : (u : Routine) (s : Signature) (c : IsCalled u s) (t : Ground) → IsGiven true s.result (t ∷ []) → (flow : Flow) → FlowIs (in_unit u) c.typing (leaf result) flow → Fine R T Tree (Has t) (returned here flow)
      value_returned u s c t is (returns v) f =
          let one = of_place (in_unit u) c.typing (leaf result) f.0.0 (λ own h. result_one c.typing h.0 own h.2) f.0.2 in
          let same : f.0.0 ≡ t = given_result s.result f.0.0 t (subst (λ o. IsHad o f.0.0) c.gives (had_result c.typing f.0.0 one)) is in
          gave (subst (has v) same f.0.1)
      value_returned u s c t is goes_on f = halted tt
      value_returned u s c t is quits f = halted tt
      value_returned u s c t is (reports b) f = halted tt

      truth_reported : (flow : Flow) → Fine R T Bool Any (reported here flow)
      truth_reported (reports b) = gave tt
      truth_reported goes_on = halted tt
      truth_reported quits = halted tt
      truth_reported (returns v) = halted tt

      module _ (called_is : (t : Template) (o : Option Signature) → allowed t o → present t → Sure (CalledUnit t o)) where
        function_called : (template : Template) (o : Option Signature) (ts : List Ground) (t : Ground) (vs : List Tree) → allowed template o → present template → CallFits true o ts (t ∷ []) → AreEach ts vs
            → Fine R T Tree (Has t) (function_call deep here (unit_of template units) vs)
        function_called template o ts t vs a p f h =
            surely (called_is template o a p) (λ c.
            let k : CallFits true (Some c.1) ts (t ∷ []) = subst (λ x. CallFits true x ts (t ∷ [])) c.3 f in
            subst (λ x. Fine R T Tree (Has t) (function_call deep here x vs)) (sym c.2)
            (next (is_called c.0 c.1 c.4 vs (actuals_each c.1.formals ts vs k.0 h)) (λ flow q. value_returned c.0 c.1 c.4 t k.1 flow q)))

        predicate_called : (template : Template) (o : Option Signature) (ts : List Ground) (vs : List Tree) → allowed template o → present template → CallFits false o ts [] → AreEach ts vs
            → Fine R T Bool Any (predicate_call deep here (unit_of template units) vs)
        predicate_called template o ts vs a p f h =
            surely (called_is template o a p) (λ c.
            let k : CallFits false (Some c.1) ts [] = subst (λ x. CallFits false x ts []) c.3 f in
            subst (λ x. Fine R T Bool Any (predicate_call deep here x vs)) (sym c.2)
            (next (is_called c.0 c.1 c.4 vs (actuals_each c.1.formals ts vs k.0 h)) (λ flow q. truth_reported flow)))

      -- ---- refinements

      is_refined : (name : List ℕ) (r : Refinement) → refinement_named here.scope name ≡ Some r → Fine R R Flow (FlowIs here.scope g (place_in (names_in here.scope) r.kind r.name)) (refined deep here r)
      is_refined name r is = next (spends types g.names kept here) (λ _ _. record {
        leaves = λ t h.
            after_leaves R R (FlowIs here.scope g (place_in (names_in here.scope) r.kind r.name)) (FlowIs here.scope g (place_in (names_in here.scope) r.kind r.name)) (suite deep here r.suite t)
            (λ flow z. gives flow (record z { targets = t.targets; names = t.names }))
            ((in_suite here g at kept (place_in (names_in here.scope) r.kind r.name) r.suite (at.refined name r is)).leaves t h)
            (λ flow z q k. sure (q, (record { targets = h.0.targets; frame = h.0.frame; formals = k.0.formals }, record { targets = h.1.targets; names = h.1.names; formals = k.1.formals; lines = k.1.lines })));
      })

      refined_returned : (i : ℕ) (r : Refinement) (t : Ground) → refinement_at here.scope i ≡ Some r → is_value_kind ((names_for here.scope).refinement i) ≡ true → slice_get g.names i ≡ Some t
          → (flow : Flow) → FlowIs here.scope g (place_in (names_in here.scope) r.kind r.name) flow → Fine R T Tree (Has t) (returned here flow)
      refined_returned i r t at_i kind is (returns v) f =
          let one = of_place here.scope g (place_in (names_in here.scope) r.kind r.name) f.0.0 (place_one g (names_in here.scope) r.kind r.name) f.0.2 in
          gave (subst (has v) (same_type (slice_get g.names i) f.0.0 t (at.expressed i r f.0.0 at_i kind one) is) f.0.1)
      refined_returned i r t at_i kind is goes_on f = halted tt
      refined_returned i r t at_i kind is quits f = halted tt
      refined_returned i r t at_i kind is (reports b) f = halted tt

      expression_refined : (i : ℕ) (r : Refinement) (t : Ground) → refinement_at here.scope i ≡ Some r → is_value_kind ((names_for here.scope).refinement i) ≡ true → slice_get g.names i ≡ Some t → Fine R T Tree (Has t) (expression_refinement deep here r)
      expression_refined i r t at_i kind is =
          let n = named_at here.scope i r at_i in
          next (is_refined n.0 r n.1) (λ flow f. refined_returned i r t at_i kind is flow f)

      test_refined : (i : NameId) → (is_there (names_for here.scope) i && is_test_kind ((names_for here.scope).refinement i.0)) ≡ true → Fine R T Bool Any (refinement_test deep here (refinement_at here.scope i.0))
      test_refined i is = by (refinement_at here.scope i.0) refl (at.tested i is)
        where
          by : (o : Option Refinement) → refinement_at here.scope i.0 ≡ o → is_some o ≡ true → Fine R T Bool Any (refinement_test deep here o)
          by None e is = absurd (cc)
          by (Some r) e is = let n = named_at here.scope i.0 r e in next (is_refined n.0 r n.1) (λ flow f. truth_reported flow)

      -- ---- expressions

      all_values : (es : List Expr) (ts : List Ground) (found : List Tree) (done : List Ground) → OkExprs allowed present here.scope g es ts → AreEach done found → Fine R R (List Tree) (AreEach (done ++ ts)) (values deep here es found)
      all_values [] [] found done h k = given (subst (λ ds. AreEach ds found) (sym (append-nil done)) k)
      all_values [] (t ∷ ts) found done h k = absurd h
      all_values (e ∷ es) [] found done h k = absurd h
      all_values (e ∷ es) (t ∷ ts) found done h k =
          next (good.value here g at kept e t h.0) (λ v hv. subst (λ ds. Fine R R (List Tree) (AreEach ds) (values deep here es (found ++ v ∷ []))) (append_assoc done (t ∷ []) ts)
          (all_values es ts (found ++ v ∷ []) (done ++ t ∷ []) h.1 (one_each_more done found t v k hv)))

      abbrev IsWorded : Wording → Type 0
      IsWorded found = (found.typed ≡ true) × (are_characters found.characters ≡ true)

      one_piece : (p : Piece-F Expr Fill Piece Pair) (found : Wording) → OkPiece allowed present here.scope g p → IsWorded found → Fine R R Wording IsWorded (piece deep here p found)
      one_piece (Piece-F.Chars b) found h k = given (k.0, characters_together found.characters b k.1 h)
      one_piece (Piece-F.Conversion e) found h k =
          next (good.value here g at kept e h.0 h.1) (λ v hv. given (both_true found.typed (has_type v) k.0 (typed_has_type v h.0 hv.0), characters_together found.characters (outer v) k.1 (outer_tested v hv.1)))

      all_pieces : (ps : List Piece) (found : Wording) → AllByRecursion (λ p. OkPiece allowed present here.scope g (out-Piece p)) ps → IsWorded found → Fine R R Wording IsWorded (pieces deep here ps found)
      all_pieces [] found h k = given k
      all_pieces (p ∷ ps) found h k = next (one_piece (out-Piece p) found h.0 k) (λ more hm. all_pieces ps more h.1 hm)

      abbrev IsFilling : Ground → Filling → Type 0
      IsFilling e found = HaveAll e found.elements × Fits found.form e

      one_filled : (e : Ground) (f : Fill-F Expr Fill Piece Pair) (found : Filling) → OkFill allowed present here.scope g e f → IsFilling e found → Fine R R Filling (IsFilling e) (filled deep here f found)
      one_filled e (Fill-F.One x) found h k =
          next (good.value here g at kept x e h) (λ v hv. given (one_more (Has e) found.elements v k.0 hv.0, joined_fits found.form (form_of v) e k.1 (has_form v e hv.0)))
      one_filled e (Fill-F.Range p q) found h k =
          next (good.value here g at kept p e h.0) (λ x hx. next (good.value here g at kept q e h.1) (λ y hy. next (ranged here x y e h.2 hx.0 hy.0)
          (λ r hr. given (
            both_all (Has e) found.elements (elements_in r) k.0 (range_elements e r hr),
            joined_fits (joined found.form (form_of x)) (form_of y) e (joined_fits found.form (form_of x) e k.1 (has_form x e hx.0)) (has_form y e hy.0),
          ))))

      all_fillers : (e : Ground) (fs : List Fill) (found : Filling) → AllByRecursion (λ f. OkFill allowed present here.scope g e (out-Fill f)) fs → IsFilling e found → Fine R R Filling (IsFilling e) (fillers deep here fs found)
      all_fillers e [] found h k = given k
      all_fillers e (f ∷ fs) found h k = next (one_filled e (out-Fill f) found h.0 k) (λ more hm. all_fillers e fs more h.1 hm)

      abbrev IsTabling : Ground → Ground → Tabling → Type 0
      IsTabling k a found = HavePairs k a found.pairs × Fits found.keys k × Fits found.associates a

      one_paired : (k a : Ground) (p : Pair-F Expr Fill Piece Pair) (found : Tabling) → OkPair allowed present here.scope g k a p → IsTabling k a found → Fine R R Tabling (IsTabling k a) (paired deep here p found)
      one_paired k a p found h j =
          next (good.value here g at kept p.key k h.0) (λ x hx. next (good.value here g at kept p.associate a h.1) (λ y hy. given (
            one_more (λ (q : Tree × Tree). has q.0 k × has q.1 a) found.pairs (x, y) j.0 (hx.0, hy.0),
            joined_fits found.keys (form_of x) k j.1 (has_form x k hx.0),
            joined_fits found.associates (form_of y) a j.2 (has_form y a hy.0),
          )))

      all_entries : (k a : Ground) (ps : List Pair) (found : Tabling) → AllByRecursion (λ p. OkPair allowed present here.scope g k a (out-Pair p)) ps → IsTabling k a found → Fine R R Tabling (IsTabling k a) (entries deep here ps found)
      all_entries k a [] found h j = given j
      all_entries k a (p ∷ ps) found h j = next (one_paired k a (out-Pair p) found h.0 j) (λ more hm. all_entries k a ps more h.1 hm)

      looked : (i : ℕ) (t : Ground) → slice_get g.names i ≡ Some t → Fine R T Tree (Has t) (λ s. there here NoValue (look here.scope i s) s)
      looked i t is = seeing (λ s. look here.scope i s) (λ v. there here NoValue v) (λ s h. ends (there_typed here NoValue (look here.scope i s) (look_typed types g.names kept here.scope at.targets i t s is h.0)))

      name_valued : (i : ℕ) (t : Ground) → slice_get g.names i ≡ Some t → is_value_kind ((names_for here.scope).refinement i) ≡ true → Fine R T Tree (Has t) (name_value deep here i (refinement_at here.scope i))
      name_valued i t is kind = by (refinement_at here.scope i) refl
        where
          by : (o : Option Refinement) → refinement_at here.scope i ≡ o → Fine R T Tree (Has t) (name_value deep here i o)
          by None e = looked i t is
          by (Some r) e = expression_refined i r t e kind is

      module _ (called_is : (t : Template) (o : Option Signature) → allowed t o → present t → Sure (CalledUnit t o)) where
        is_value : (y : Layer) (t : Ground) → OkLayer allowed present here.scope g y t → Fine R T Tree (Has t) (value_with units deep here y)
        is_value (Expr-F.Number n) t h = gave h
        is_value (Expr-F.Text ps) t h = next (all_pieces ps (record { characters = []; typed = true }) h.1 (refl, refl)) (λ found hf. ends (worded_typed here found t h.0 hf.0 hf.1))
        is_value (Expr-F.Name i) t h = name_valued i.0 t (had_is (slice_get g.names i.0) t h.0) h.1
        is_value (Expr-F.Compound es) t h = next (all_values es h.0 [] [] h.1 tt) (λ vs hv. ends (composed_typed here vs h.0 t (each_have h.0 vs hv) h.2))
        is_value Expr-F.Empty t h = gave h
        is_value (Expr-F.List fs) t h = next (all_fillers h.0 fs (record { elements = []; form = Some anything }) h.2 (tt, tt)) (λ found hf. ends (list_displayed here found t h.0 h.1 hf.0 hf.1))
        is_value (Expr-F.Table ps) t h =
            next (all_entries h.0 h.1 ps (record { pairs = []; keys = Some anything; associates = Some anything }) h.3 (tt, tt, tt)) (λ found hf. ends (table_displayed here found t h.0 h.1 h.2 hf.0 hf.1 hf.2))
        is_value (Expr-F.Select x k) t h = next (good.value here g at kept x (type.Table h.0 t) h.1) (λ v hv. next (good.value here g at kept k h.0 h.2) (λ w hw. ends (selected_typed here v w h.0 t hv.0 hw.0)))
        is_value (Expr-F.Apply1 op x) t h = next (good.value here g at kept x h.0 h.1) (λ v hv. ends (one_applied here op h.0 t v h.2 hv.0))
        is_value (Expr-F.Apply2 op x y) t h =
            next (good.value here g at kept x h.0 h.2) (λ v hv. next (good.value here g at kept y h.1 h.3) (λ w hw. ends (two_applied here op h.0 h.1 t v w h.4 hv.0 hw.0)))
        is_value (Expr-F.Call template es) t h =
            next (all_values es h.0 [] [] h.4 tt) (λ vs hv. function_called called_is template h.1 h.0 t vs h.2 h.3 h.5 hv)

      -- ---- tests

      in_chain : (e : Ground) (x : Tree) (links : List Link) → has x e → AllByRecursion (OkLink allowed present here.scope g e) links → Fine R T Bool Any (chain deep here x links)
      in_chain e x [] hx h = gave tt
      in_chain e x (link ∷ links) hx h =
          next (good.value here g at kept link.right e h.0.1) (λ y hy. next (given_if link.op x y (relation_taken link.op e x y h.0.0 hx hy.0)) (λ b _. either b (λ _. in_chain e y links hy.0 h.1) (gave tt)))
        where
          given_if : (op : Op) (x y : Tree) → is_test_of op (x ∷ y ∷ []) ≡ true → Fine R R Bool Any (compared here op x y)
          given_if op x y is = passed here (is_test_of op (x ∷ y ∷ [])) is (λ _. given tt)

      module _ (b : Bound) (e : Ground) (fits : BoundFits allowed g b e) where
        binds_one : (v : Tree) → IsA e v → Fine R R (Unit {0}) Any (bind here b v)
        binds_one v hv = binds_names types g.names kept here at.targets (bindings b v) (bound_binds allowed g b e v fits hv)

        is_quantified : (q : Quantifier) (t : Test) (before : List (ℕ × Option Tree)) (es : List Tree) → OkTest allowed present here.scope g t → AllByRecursion (IsHeld types g.names kept here at.targets) before → AllByRecursion (IsA e) es
            → Fine R T Bool Any (quantified deep here q b t before es)
        is_quantified q t before [] ok hb he = ends (next (has_again types g.names kept here at.targets before hb) (λ _ _. given {a = not (if_decided q)} tt))
        is_quantified q t before (v ∷ es) ok hb he =
            next (spends types g.names kept here) (λ _ _. next (binds_one v he.0) (λ _ _. next (good.holds here g at kept t ok) (λ x _. either (decides q x) (λ _. gave tt) (is_quantified q t before es ok hb he.1))))

        train_quantified : (q : Quantifier) (t : Test) (a : Ground) (v : Tree) → OkTest allowed present here.scope g t → IsTrainOf a e → IsA a v → Fine R T Bool Any (over_train deep here q b t (train_elements v))
        train_quantified q t a v ok is hv =
            let tr = train_has v a e hv.0 is in
            subst (λ o. Fine R T Bool Any (over_train deep here q b t o)) (sym tr.0)
            (seeing (λ s. held here.scope (bound_names b) s) (λ before. quantified deep here q b t before (elements_of v))
            (λ s h. is_quantified q t (held here.scope (bound_names b) s) (elements_of v) ok (are_held types g.names kept here at.targets (bound_names b) s (bound_named allowed g b e fits) h.0) (elements_are v e tr.1 hv.1)))

      module _ (called_is : (t : Template) (o : Option Signature) → allowed t o → present t → Sure (CalledUnit t o)) where
        is_test : (y : Test-F Test) → OkTestLayer allowed present here.scope g y → Fine R T Bool Any (holds_with units deep here y)
        is_test (Test-F.Chain first links) h = next (good.value here g at kept first h.0 h.1) (λ x hx. in_chain h.0 x links hx.0 h.2)
        is_test (Test-F.Member op x y) h =
            next (good.value here g at kept x h.0 h.2) (λ v hv. next (good.value here g at kept y h.1 h.3) (λ w hw. passed here (is_test_of op (v ∷ w ∷ [])) (membership_taken op h.0 h.1 v w h.4 hv.0 hw.0) (λ _. gave tt)))
        is_test (Test-F.And t u) h = next (good.holds here g at kept t h.0) (λ b _. either b (λ _. later (λ s k. k.0) (good.holds here g at kept u h.1)) (gave tt))
        is_test (Test-F.Or t u) h = next (good.holds here g at kept t h.0) (λ b _. either b (λ _. gave tt) (later (λ s k. k.0) (good.holds here g at kept u h.1)))
        is_test (Test-F.Not t) h = next (good.holds here g at kept t h) (λ b _. gave tt)
        is_test (Test-F.Quantified q b x t) h = next (good.value here g at kept x h.0 h.2) (λ v hv. train_quantified b h.1 h.3 q t h.0 v h.5 h.4 hv)
        is_test (Test-F.Call template es) h = next (all_values es h.0 [] [] h.4 tt) (λ vs hv. predicate_called called_is template h.1 h.0 vs h.2 h.3 h.5 hv)
        is_test (Test-F.Refinement i) h = test_refined i h

      -- ---- addresses

      abbrev GiveAddresses : (Expr → Run (Option Address)) → ℕ → Type 0
      GiveAddresses part n = (e : Expr) (t : Ground) → OkExpr allowed present here.scope g e t → is_address e ≡ true → height e < n → Fine R R (Option Address) (IsAddress g.names t) (part e)

      all_addresses : (part : Expr → Run (Option Address)) (n : ℕ) → GiveAddresses part n → (es : List Expr) (ts : List Ground) (found : List (Option Address)) (done : List Ground) → OkExprs allowed present here.scope g es ts → AllByRecursion (λ e. is_address e ≡ true) es
          → AllByRecursion (λ e. height e < n) es → AreAddresses g.names done found → Fine R R (List (Option Address)) (AreAddresses g.names (done ++ ts)) (address_list deep here part es found)
      all_addresses part n of [] [] found done h is low k = given (subst (λ ds. AreAddresses g.names ds found) (sym (append-nil done)) k)
      all_addresses part n of [] (t ∷ ts) found done h is low k = absurd h
      all_addresses part n of (e ∷ es) [] found done h is low k = absurd h
      all_addresses part n of (e ∷ es) (t ∷ ts) found done h is low k =
          next (of e t h.0 is.0 low.0) (λ o ho. subst (λ ds. Fine R R (List (Option Address)) (AreAddresses g.names ds) (address_list deep here part es (found ++ o ∷ []))) (append_assoc done (t ∷ []) ts)
          (all_addresses part n of es ts (found ++ o ∷ []) (done ++ t ∷ []) h.1 is.1 low.1 (one_address_more g.names done found t o k ho)))

      address_of : (part : Expr → Run (Option Address)) (n : ℕ) → GiveAddresses part n → (y : Layer) (t : Ground) → OkLayer allowed present here.scope g y t → is_address_layer y ≡ true → height_layer y < suc n → Fine R R (Option Address) (IsAddress g.names t) (address_with deep here part y)
      address_of part n of (Expr-F.Name i) t h is low = given (place i.0 [], refl, (t, had_is (slice_get g.names i.0) t h.0, refl))
      address_of part n of (Expr-F.Select x k) t h is low =
          next (of x (type.Table h.0 t) h.1 is (omega (arith, low))) (λ o ho. next (good.value here g at kept k h.0 h.2) (λ v hv. given (stepped_fits g.names o v h.0 t ho hv.0)))
      address_of part n of (Expr-F.Compound es) t h is low =
          next (all_addresses part n of es h.0 [] [] h.1 (every_of is_address es is) (parts_below es n low) tt) (λ found hf. given (together_fits g.names h.0 found t h.2 hf))
      address_of part n of (Expr-F.Number m) t h is low = absurd (cc)
      address_of part n of (Expr-F.Text ps) t h is low = absurd (cc)
      address_of part n of Expr-F.Empty t h is low = absurd (cc)
      address_of part n of (Expr-F.List fs) t h is low = absurd (cc)
      address_of part n of (Expr-F.Table ps) t h is low = absurd (cc)
      address_of part n of (Expr-F.Apply1 op x) t h is low = absurd (cc)
      address_of part n of (Expr-F.Apply2 op x y) t h is low = absurd (cc)
      address_of part n of (Expr-F.Call template es) t h is low = absurd (cc)

      address_up_to : (n : ℕ) → GiveAddresses (address_within deep here n) n
      unfolding address_within
      address_up_to zero e t h is low = absurd (omega (arith, low))
      address_up_to (suc n) e t h is low =
          address_of (address_within deep here n) n (address_up_to n) (out-Expr e) t (ok_opened allowed present here.scope g e t h) (sym (address_layer_is e) ∙ is) (subst (λ m. m < suc n) (height_layer_is e) low)

      is_whole : (o : Option Address) (t : Ground) → IsAddress g.names t o → Fine R R Address (λ a. AddressFits g.names a t) (whole here o)
      is_whole o t h = subst (λ p. Fine R R Address (λ a. AddressFits g.names a t) (whole here p)) (sym h.1) (given h.2)

      low_enough : (n : ℕ) → nat_le n MOST_TREE_HEIGHT ≡ true → n < suc MOST_TREE_HEIGHT
      low_enough n h = grind (arith, nat_tests)

      is_address_of : (e : Expr) (t : Ground) → OkAddress allowed present (most here.scope) here.scope g e t → Fine R R Address (λ a. AddressFits g.names a t) (address_run deep here e)
      unfolding address_run
      is_address_of e t h = next (address_up_to (suc MOST_TREE_HEIGHT) e t h.value h.is (low_enough (height e) h.low)) (λ o ho. is_whole o t ho)

      -- ---- actuals

      located_as : (a : Option Address) (v : Tree) (t : Ground) → has v t → IfSome a (λ x. AddressFits g.names x t) → Fine T T Actual (ActualHas g t) (located a v)
      located_as a v t hv ha = given (hv, ha)

      name_located : (i : ℕ) (t : Ground) → slice_get g.names i ≡ Some t → is_value_kind ((names_for here.scope).refinement i) ≡ true → Fine R T Actual (ActualHas g t) (name_actual deep here i (refinement_at here.scope i))
      name_located i t is kind = by (refinement_at here.scope i) refl
        where
          if_bound : (b : Bool) → IfSome (if b then None else Some (place i [])) (λ x. AddressFits g.names x t)
          if_bound true = tt
          if_bound false = (t, is, refl)

          by : (o : Option Refinement) → refinement_at here.scope i ≡ o → Fine R T Actual (ActualHas g t) (name_actual deep here i o)
          by None e =
              seeing (λ s. look here.scope i s) (λ v s. gives (record { value = v; address = if is_bound here.scope i then None else Some (place i []) }) s)
              (λ s h. gave (look_typed types g.names kept here.scope at.targets i t s is h.0, if_bound (is_bound here.scope i)))
          by (Some r) e = next (expression_refined i r t e kind is) (λ v hv. located_as None v t hv tt)

      abbrev IsGathered : List Ground → Gathered → Type 0
      IsGathered ts found = AreEach ts found.values × AreIf g.names ts found.addresses

      -- a value that is there
      is_there_now : (v : Option Tree) (t : Ground) → IfSome v (Has t) → IfSome v IsRegular → Fine R R Tree (IsA t) (there here NoValue v)
      is_there_now None t h k = halted tt
      is_there_now (Some v) t h k = given (h, k)

      all_gathered : (es : List Expr) (ts : List Ground) (found : Gathered) (done : List Ground) → OkExprs allowed present here.scope g es ts → IsGathered done found → Fine R R Gathered (IsGathered (done ++ ts)) (gather deep here es found)
      all_gathered [] [] found done h k = given (subst (λ ds. IsGathered ds found) (sym (append-nil done)) k)
      all_gathered [] (t ∷ ts) found done h k = absurd h
      all_gathered (e ∷ es) [] found done h k = absurd h
      all_gathered (e ∷ es) (t ∷ ts) found done h k =
          next (good.actual here g at kept e t h.0) (λ a ha. next (is_there_now a.value t ha.0.0 ha.1.0)
          (λ v hv. subst (λ ds. Fine R R Gathered (IsGathered ds) (gather deep here es (record { values = found.values ++ v ∷ []; addresses = found.addresses ++ a.address ∷ [] }))) (append_assoc done (t ∷ []) ts)
          (all_gathered es ts (record { values = found.values ++ v ∷ []; addresses = found.addresses ++ a.address ∷ [] }) (done ++ t ∷ []) h.1
          (one_each_more done found.values t v k.0 hv, one_if_more g.names done found.addresses t a.address k.1 ha.0.1))))

      module _ (called_is : (t : Template) (o : Option Signature) → allowed t o → present t → Sure (CalledUnit t o)) where
        as_value : (y : Layer) (t : Ground) → OkLayer allowed present here.scope g y t → Fine R T Actual (ActualHas g t) (λ s. after (value_with units deep here y s) (λ v. located None v))
        as_value y t h = next (is_value called_is y t h) (λ v hv. located_as None v t hv tt)

        is_actual : (y : Layer) (t : Ground) → OkLayer allowed present here.scope g y t → Fine R T Actual (ActualHas g t) (actual_with units deep here y)
        is_actual (Expr-F.Name i) t h = name_located i.0 t (had_is (slice_get g.names i.0) t h.0) h.1
        is_actual (Expr-F.Select x k) t h =
            next (good.actual here g at kept x (type.Table h.0 t) h.1) (λ a ha. next (is_there_now a.value (type.Table h.0 t) ha.0.0 ha.1.0) (λ v hv. next (good.value here g at kept k h.0 h.2)
            (λ w hw. next (ends (selected_typed here v w h.0 t hv.0 hw.0)) (λ x hx. located_as (stepped (key w) a.address) x t hx (step_if g.names a.address w h.0 t ha.0.1 hw.0)))))
        is_actual (Expr-F.Compound es) t h =
            next (all_gathered es h.0 (record { values = []; addresses = [] }) [] h.1 (tt, tt)) (λ found hf. next (ends (composed_typed here found.values h.0 t (each_have h.0 found.values hf.0) h.2))
            (λ v hv. located_as (together found.addresses) v t hv (together_if g.names h.0 found.addresses t h.2 hf.1)))
        is_actual (Expr-F.Number n) t h = as_value (Expr-F.Number n) t h
        is_actual (Expr-F.Text ps) t h = as_value (Expr-F.Text ps) t h
        is_actual Expr-F.Empty t h = as_value Expr-F.Empty t h
        is_actual (Expr-F.List fs) t h = as_value (Expr-F.List fs) t h
        is_actual (Expr-F.Table ps) t h = as_value (Expr-F.Table ps) t h
        is_actual (Expr-F.Apply1 op x) t h = as_value (Expr-F.Apply1 op x) t h
        is_actual (Expr-F.Apply2 op x y) t h = as_value (Expr-F.Apply2 op x y) t h
        is_actual (Expr-F.Call template es) t h = as_value (Expr-F.Call template es) t h

      abbrev AreActualsOf : List Ground → List Actual → Type 0
      AreActualsOf [] [] = Unit {0}
      AreActualsOf (t ∷ ts) (a ∷ found) = ActualIs g t a × AreActualsOf ts found
      AreActualsOf _ _ = ⊥

      one_actual_more : (ts : List Ground) (found : List Actual) (t : Ground) (a : Actual) → AreActualsOf ts found → ActualIs g t a → AreActualsOf (ts ++ t ∷ []) (found ++ a ∷ [])
      one_actual_more [] [] t a h k = (k, tt)
      one_actual_more [] (p ∷ found) t a h k = absurd h
      one_actual_more (u ∷ ts) [] t a h k = absurd h
      one_actual_more (u ∷ ts) (p ∷ found) t a h k = (h.0, one_actual_more ts found t a h.1 k)

      all_actuals : (es : List Expr) (ts : List Ground) (found : List Actual) (done : List Ground) → OkExprs allowed present here.scope g es ts → AreActualsOf done found → Fine R R (List Actual) (AreActualsOf (done ++ ts)) (actuals deep here es found)
      all_actuals [] [] found done h k = given (subst (λ ds. AreActualsOf ds found) (sym (append-nil done)) k)
      all_actuals [] (t ∷ ts) found done h k = absurd h
      all_actuals (e ∷ es) [] found done h k = absurd h
      all_actuals (e ∷ es) (t ∷ ts) found done h k =
          next (good.actual here g at kept e t h.0) (λ a ha. subst (λ ds. Fine R R (List Actual) (AreActualsOf ds) (actuals deep here es (found ++ a ∷ []))) (append_assoc done (t ∷ []) ts)
          (all_actuals es ts (found ++ a ∷ []) (done ++ t ∷ []) h.1 (one_actual_more done found t a k ha)))

      -- ---- calls of command units

      -- what the call begins with: names of their types, and formals whose addresses fit what they are in the unit
      abbrev IsEntry : List Ground → Entry → Type 0
      IsEntry inner e = Named inner e.names × AreValues e.names × AllByRecursion (FitsBack types g.names kept here at.targets inner) (map kept_of e.formals) × AllByRecursion HasKeys e.formals

      named_frame : (inner : List Ground) (i : ℕ) (t : Ground) (v : Option Tree) (frame : Frame) → slice_get inner i ≡ Some t → IfSome v (Has t) → IfSome v IsRegular → Named inner frame → AreValues frame → Named inner (named i v frame) × AreValues (named i v frame)
      named_frame inner i t None frame is h k n r = (n, r)
      named_frame inner i t (Some v) frame is h k n r = (put_in nat_cmp numbers_same (λ j w. IsNamed inner j w) i v frame (is_named inner i t v is h) n, name_put i v frame k r)

      abbrev IsEntered : List Ground → Option Entry → Type 0
      IsEntered inner o = (e : Entry) × (o ≡ Some e) × IsEntry inner e

      one_entered : (inner : List Ground) (i : ℕ) (t : Ground) (a : Actual) (o : Option Entry) → slice_get inner i ≡ Some t → ActualIs g t a → IsEntered inner o → IsEntered inner (with_formal i a o)
      one_entered inner i t a o is ha h =
          let n = named_frame inner i t a.value h.0.names is ha.0.0 ha.1.0 h.2.0 h.2.1 in
          subst (λ p. IsEntered inner (with_formal i a p)) (sym h.1)
          (record { names = named i a.value h.0.names; formals = record { name = i; address = a.address; changed = false } ∷ h.0.formals }, refl, (n.0, n.1, ((t, is, ha.0.1), h.2.2), (ha.1.1, h.2.3)))

      -- a formal by itself
      module _ (inner : Typing) where
        one_name : (b : Bound) (t : Ground) → is_alone (out-Bound b) ≡ true → BoundFits allowed inner b t → (i : ℕ) × (bound_names b ≡ i ∷ []) × (slice_get inner.names i ≡ Some t)
        one_name b t is f = by (out-Bound b) is (subst (λ x. NodeFits allowed inner x (t ∷ [])) (bound_seen_is b) f) (bound_names_are b)
          where
            by : (y : Bound-F Bound) → is_alone y ≡ true → NodeFits allowed inner (see_bound y) (t ∷ []) → bound_names b ≡ bound_over (map-Bound Bound (List ℕ) bound_names y) → (i : ℕ) × (bound_names b ≡ i ∷ []) × (slice_get inner.names i ≡ Some t)
            by (Bound-F.One i) is f e = (i.0, e, had_is (slice_get inner.names i.0) t (had_by_name inner i.0 f.0 t f.2))
            by (Bound-F.Several bs) is f e = absurd (cc)

        entry_fits : (bs : List Bound) (ts : List Ground) (found : List Actual) → list_all (λ b. is_alone (out-Bound b)) bs ≡ true → BoundsFit allowed inner bs ts → AreActualsOf ts found → IsEntered inner.names (entry (flat (map bound_names bs)) found)
        entry_fits [] [] [] is f h = (record { names = []; formals = [] }, refl, (tt, tt, tt, tt))
        entry_fits [] [] (a ∷ found) is f h = absurd h
        entry_fits [] (t ∷ ts) found is f h = absurd f
        entry_fits (b ∷ bs) [] found is f h = absurd f
        entry_fits (b ∷ bs) (t ∷ ts) [] is f h = absurd h
        entry_fits (b ∷ bs) (t ∷ ts) (a ∷ found) is f h =
            let s = and_parts (is_alone (out-Bound b)) (list_all (λ b. is_alone (out-Bound b)) bs) is in
            let n = one_name b t s.0 f.0 in
            subst (λ ns. IsEntered inner.names (entry (ns ++ flat (map bound_names bs)) (a ∷ found))) (sym n.1)
            (one_entered inner.names n.0 t a (entry (flat (map bound_names bs)) found) n.2 h.0 (entry_fits bs ts found s.1 f.1 h.1))

      actuals_of : (fs ts : List Ground) (found : List Actual) → AreActuals fs ts → AreActualsOf ts found → AreActualsOf fs found
      actuals_of [] [] found a h = h
      actuals_of [] (t ∷ ts) found a h = absurd a
      actuals_of (f ∷ fs) [] found a h = absurd a
      actuals_of (f ∷ fs) (t ∷ ts) [] a h = absurd h
      actuals_of (f ∷ fs) (t ∷ ts) (x ∷ found) a h = (subst (λ d. ActualIs g d x) a.0 h.0, actuals_of fs ts found a.1 h.1)

      -- the body, and the formals put back
      with_body : (where_to : Node) (u : Routine) (s : Signature) (c : IsCalled u s) (o : Option Entry) → IsEntered c.typing.names o → Fine R T Flow (FlowHas here.scope g where_to) (body_with deep here u o)
      with_body where_to u s c o h = subst (λ p. Fine R T Flow (FlowHas here.scope g where_to) (body_with deep here u p)) (sym h.1) (record {
        leaves = λ before k.
            after_leaves (IsReady types c.typing.names (map kept_of h.0.formals)) T (FlowIs (in_unit u) c.typing (leaf result)) (FlowHas here.scope g where_to)
            (suite deep (within u here) u.body (record before { names = h.0.names; formals = h.0.formals })) (leaving here before)
            ((in_suite (within u here) c.typing c.at (map kept_of h.0.formals) (leaf result) u.body c.body).leaves (record before { names = h.0.names; formals = h.0.formals })
            (record { targets = k.0.targets; frame = h.2.0; formals = refl }, record { targets = k.1.targets; names = h.2.1; formals = h.2.3; lines = k.1.lines }))
            (λ flow t q r.
            (next (puts_back types g.names kept here at.targets c.typing.names t.formals t.names (subst (AllByRecursion (FitsBack types g.names kept here at.targets c.typing.names)) (sym r.0.formals) h.2.2) r.0.frame) (λ _ _. given {a = goes_on} tt)).leaves
            (record t { names = before.names; formals = before.formals }) (record { targets = r.0.targets; frame = k.0.frame; formals = k.0.formals }));
      })

      module _ (called_is : (t : Template) (o : Option Signature) → allowed t o → present t → Sure (CalledUnit t o))
          (plain_is : (t : Template) (n : ℕ) (u : Routine) → is_call is_command t n ≡ true → unit_of t units ≡ Some u → list_all (λ b. is_alone (out-Bound b)) u.formals ≡ true) where
        command_called : (where_to : Node) (template : Template) (o : Option Signature) (ts : List Ground) (es : List Expr) → allowed template o → present template → CallFits false o ts [] → OkExprs allowed present here.scope g es ts → is_call is_command template (length es) ≡ true
            → Fine R T Flow (FlowHas here.scope g where_to) (command_call deep here (unit_of template units) es)
        command_called where_to template o ts es a p f h is =
            surely (called_is template o a p) (λ c.
            let k : CallFits false (Some c.1) ts [] = subst (λ x. CallFits false x ts []) c.3 f in
            subst (λ x. Fine R T Flow (FlowHas here.scope g where_to) (command_call deep here x es)) (sym c.2)
            (next (all_actuals es ts [] [] h tt) (λ found hf. next (spends types g.names kept here)
            (λ _ _. with_body where_to c.0 c.1 c.4 (entry (formal_names c.0) found) (entry_fits c.4.typing c.0.formals c.1.formals found (plain_is template (length es) c.0 is c.2) c.4.formals (actuals_of c.1.formals ts found k.0 hf))))))

        -- ---- commands

        is_written : (e : Option Expr) → IfSome e (OkSome allowed present here.scope g) → Fine R R (List ℕ) Any (written deep here e)
        is_written None h = given tt
        is_written (Some e) h = next (good.value here g at kept e h.0 h.1) (λ v hv. passed here (has_type v) (typed_has_type v h.0 hv.0) (λ _. given tt))

        has_succeeded : (there : Here) → IsPlace there.scope g → (t : Option Test) → IfSome t (OkTest allowed present there.scope g) → Fine R R Bool Any (succeeds deep here there t)
        has_succeeded there at_there None h = given tt
        has_succeeded there at_there (Some t) h = good.holds there g at_there kept t h

        is_checked : (b : Bool) → Fine R T (Unit {0}) Any (checked here b)
        is_checked true = gave tt
        is_checked false = halted tt

        module _ (where_to : Node) where
          abbrev FlowOk : Flow → Type 0
          FlowOk flow = FlowHas here.scope g where_to flow

          ending : (run : Run (Unit {0})) → Fine T T (Unit {0}) Any run → Fine R T Flow FlowOk (λ s. after (run s) (λ _. gives goes_on))
          ending run h = ends (next h (λ _ _. given {a = goes_on} tt))

          suite_ends : (body : List Action) → OkSuite allowed present (most here.scope) here.scope g where_to body → Fine R T Flow FlowOk (suite deep here body)
          suite_ends body h = later (λ s k. k.0) (weaker (in_suite here g at kept where_to body h) (λ flow f. f.0))

          one_selected : (ways : List Alternative) → AllByRecursion (OkWay allowed present (most here.scope) here.scope g where_to) ways → Fine R T Flow FlowOk (select deep here ways)
          one_selected [] h = halted tt
          one_selected (a ∷ rest) h =
              next (has_succeeded (at_line (out-Alternative a).line here) at (out-Alternative a).test h.0.1) (λ b _. either b (λ _. suite_ends (out-Alternative a).suite h.0.2) (one_selected rest h.1))

          all_turns : (n : ℕ) (t : Test) (body : List Action) → OkTest allowed present here.scope g t → OkSuite allowed present (most here.scope) here.scope g where_to body → Fine R T Flow FlowOk (turns deep here n t body)
          unfolding turns
          all_turns zero t body ht hb = halted tt
          all_turns (suc n) t body ht hb =
              next (good.turn here g at kept t ht) (λ b _. either b (λ _. next (in_suite here g at kept where_to body hb) (λ flow f. ends_on here g at kept where_to flow (turns deep here n t body) f (all_turns n t body ht hb))) (gave tt))

          for_each : (b : Bound) (e : Ground) → BoundFits allowed g b e → (body : List Action) (es : List Tree) → OkSuite allowed present (most here.scope) here.scope g where_to body → AllByRecursion (IsA e) es → Fine R T Flow FlowOk (each deep here b body es)
          for_each b e fits body [] hb he = gave tt
          for_each b e fits body (v ∷ es) hb he =
              next (spends types g.names kept here) (λ _ _. next (binds_one b e fits v he.0) (λ _ _. next (in_suite here g at kept where_to body hb)
              (λ flow f. ends_on here g at kept where_to flow (each deep here b body es) f (for_each b e fits body es hb he.1))))

          for_train : (b : Bound) (e a : Ground) (v : Tree) (body : List Action) → BoundFits allowed g b e → IsTrainOf a e → IsA a v → OkSuite allowed present (most here.scope) here.scope g where_to body → Fine R T Flow FlowOk (each_of deep here b body (train_elements v))
          for_train b e a v body fits is hv hb =
              let tr = train_has v a e hv.0 is in
              subst (λ o. Fine R T Flow FlowOk (each_of deep here b body o)) (sym tr.0) (for_each b e fits body (elements_of v) hb (elements_are v e tr.1 hv.1))

          refinement_ran : (name : List ℕ) → is_some (refinement_named here.scope name) ≡ true → Fine R T Flow FlowOk (command_refinement deep here (refinement_named here.scope name))
          refinement_ran name is = by (refinement_named here.scope name) refl is
            where
              by : (o : Option Refinement) → refinement_named here.scope name ≡ o → is_some o ≡ true → Fine R T Flow FlowOk (command_refinement deep here o)
              by None e is = absurd (cc)
              by (Some r) e is =
                  next (spends types g.names kept here) (λ _ _. next (in_suite here g at kept (place_in (names_in here.scope) r.kind r.name) r.suite (at.refined name r e)) (λ flow f. gave {a = goes_on} tt))

          is_done : (y : ActionNode-F ActionNode Action Alternative) → OkNode allowed present (most here.scope) here.scope g where_to y → Fine R T Flow FlowOk (acts_with units deep here y)
          is_done (ActionNode-F.Write before e behind) h = next (is_written e h) (λ b _. next (says types g.names kept here (newlines before ++ b ++ newlines behind)) (λ _ _. gave {a = goes_on} tt))
          is_done (ActionNode-F.Put e a) h =
              next (good.value here g at kept e h.0 h.1) (λ v hv. next (is_address_of a h.0 h.2) (λ to ht. ending (put here to v) (puts_value types g.names kept here at.targets to v h.0 ht hv.0)))
          is_done (ActionNode-F.Insert e a) h =
              next (good.value here g at kept e h.0 h.1) (λ v hv. next (is_address_of a (type.List h.0) h.2) (λ to ht. ending (change_list here (inserts v) to) (changes_list types g.names kept here at.targets (inserts v) to h.0 ht (h.0, refl, hv.0))))
          is_done (ActionNode-F.Remove e a) h =
              next (good.value here g at kept e h.0 h.1) (λ v hv. next (is_address_of a (type.List h.0) h.2) (λ to ht. ending (change_list here (removes v) to) (changes_list types g.names kept here at.targets (removes v) to h.0 ht (h.0, refl, hv.0))))
          is_done (ActionNode-F.Delete a) h = next (is_address_of a h.0 h.1) (λ to ht. ending (delete here (parts to)) (deletes_all types g.names kept here at.targets (parts to) (parts_fit g.names to h.0 ht)))
          is_done (ActionNode-F.ReadExample a e) h =
              next (takes types g.names kept here) (λ l _. next (literal_typed here (example_form e) l h.0 (literal_only allowed present here.scope g e h.0 h.2.typed h.2.regular h.2.is))
              (λ v hv. next (is_address_of a h.0 h.1) (λ to ht. ending (put here to v) (puts_value types g.names kept here at.targets to v h.0 ht hv))))
          is_done (ActionNode-F.ReadRaw a) h =
              next (takes types g.names kept here) (λ l _. next (raw_typed here l) (λ v hv. next (is_address_of a type.Text h) (λ to ht. ending (put here to v) (puts_value types g.names kept here at.targets to v type.Text ht hv))))
          is_done (ActionNode-F.Check t) h = next (good.holds here g at kept t h) (λ b _. next (is_checked b) (λ _ _. given {a = goes_on} tt))
          is_done ActionNode-F.Pass h = gave tt
          is_done (ActionNode-F.If t body) h = next (good.holds here g at kept t h.0) (λ b _. either b (λ _. suite_ends body h.1) (gave tt))
          is_done (ActionNode-F.Select ways) h = one_selected ways h
          is_done (ActionNode-F.While t body) h = seeing (λ (s : State). s.left) (λ left. turns deep here (suc left) t body) (λ s k. all_turns (suc s.left) t body h.0 h.1)
          is_done (ActionNode-F.For b x body) h = next (good.value here g at kept x h.0 h.2) (λ v hv. for_train b h.1 h.0 v body h.3 h.4 hv h.5)
          is_done ActionNode-F.Quit h = gave tt
          is_done (ActionNode-F.Return e) h = next (good.value here g at kept e h.0 h.1) (λ v hv. gave (h.0, hv.0, h.2))
          is_done (ActionNode-F.Report t) h = next (good.holds here g at kept t h) (λ b _. gave tt)
          is_done ActionNode-F.Succeed h = gave tt
          is_done ActionNode-F.Fail h = gave tt
          is_done (ActionNode-F.Call template es) h = command_called where_to template h.0.1 h.0.0 es h.0.2 h.0.3 h.0.5 h.0.4 h.1
          is_done (ActionNode-F.Refinement name) h = refinement_ran name h

  -- ---- all levels

  part_numbers : (scope : Scope) (g : Typing) (p : Part) → Keeps allowed present (most scope) scope g p → AreNumbers (numbers_in_part p)
  part_numbers scope g (value e) k = k.1
  part_numbers scope g (address e) k = k.1
  part_numbers scope g (test t) k = k.1
  part_numbers scope g _ k = tt

  parts_numbers : (scope : Scope) (g : Typing) (parts : Parts) → AllParts (Keeps allowed present (most scope) scope g) parts → AreNumbers (numbers_in_parts parts)
  parts_numbers scope g [] k = tt
  parts_numbers scope g (p ∷ ps) k = both_all IsNumber (numbers_in_part p.1) (numbers_in_parts ps) (part_numbers scope g p.1 k.0) (parts_numbers scope g ps k.1)

  module _ (called_is : (t : Template) (o : Option Signature) → allowed t o → present t → Sure (CalledUnit t o))
      (plain_is : (t : Template) (n : ℕ) (u : Routine) → is_call is_command t n ≡ true → unit_of t units ≡ Some u → list_all (λ b. is_alone (out-Bound b)) u.formals ≡ true)
      (regular : (levels : ℕ) → EachGivesValues (meaning units levels)) where
    pub all_good : (levels : ℕ) → IsGood (meaning units levels)
    unfolding meaning
    all_good zero = record {
      value = λ here g at kept e t ok. halted tt;
      actual = λ here g at kept e t ok. halted tt;
      holds = λ here g at kept t ok. halted tt;
      turn = λ here g at kept t ok. halted tt;
      acts = λ here g at kept where_to a ok. halted tt;
    }
    all_good (suc n) = record {
      value = λ here g at kept e t ok.
          regularly types g.names kept (is_value (meaning units n) (all_good n) here g at kept called_is (out-Expr e) t (ok_opened allowed present here.scope g e t ok)) (λ s v. (regular (suc n)).value here e s at.numbered ok.numbers v);
      actual = λ here g at kept e t ok.
          regularly types g.names kept (is_actual (meaning units n) (all_good n) here g at kept called_is (out-Expr e) t (ok_opened allowed present here.scope g e t ok)) (λ s v. (regular (suc n)).actual here e s at.numbered ok.numbers v);
      holds = λ here g at kept t ok.
          weaker (regularly types g.names kept (is_test (meaning units n) (all_good n) here g at kept called_is (out-Test t) (ok_test_opened allowed present here.scope g t ok)) (λ s v. (regular (suc n)).holds here t s at.numbered ok.numbers v)) (λ b q. tt);
      turn = λ here g at kept t ok.
          weaker (regularly types g.names kept (next (spends types g.names kept here) (λ _ _. is_test (meaning units n) (all_good n) here g at kept called_is (out-Test t) (ok_test_opened allowed present here.scope g t ok)))
          (λ s v. (regular (suc n)).turn here t s at.numbered ok.numbers v)) (λ b q. tt);
      acts = λ here g at kept where_to a ok.
          let o = ok_action_opened allowed present (most here.scope) here.scope g where_to a ok in
          regularly types g.names kept (next (spends types g.names kept (at_line (out-Action a).line here)) (λ _ _. is_done (meaning units n) (all_good n) (at_line (out-Action a).line here) g at kept called_is plain_is where_to (out-ActionNode (out-Action a).node) o.1))
          (λ s v. (regular (suc n)).acts here a s at.numbered (parts_numbers here.scope g (parts_of a) ok.parts) v);
    }
