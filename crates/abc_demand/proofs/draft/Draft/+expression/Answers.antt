use Rattle.std.proofs.Common.{◌≡◌, ◌∙◌, ◌++◌, ◌+◌, ℕ, [], ◌∷◌, List, true, map, take, drop, ap, sym, subst, refl, arith, IfOk}
use Rattle.abc_terms.specs.declared.term.Term.TheVariants as term
use Rattle.abc_tree.specs.Lists.{flat}
use Rattle.abc_tree.specs.declared.formulas.Fill.{Fill}
use Rattle.abc_tree.specs.declared.formulas.Pair.{out-Pair}
use Rattle.abc_ground.specs.Seen.{Node, leaf, node, nodes, over, over_two, row, call_of, numeral, name, characters, fields, nothing, elements, entries, selection, seen, seen_piece, seen_fill, seen_pair, any_ranged}
use Rattle.abc_demand.specs.inner.Walks.{Walked, Found, IsFields, IsElements, IsEntries, CalledAt, call_scene}
use Rattle.abc_demand.specs.inner.Leads.{Leads}
use Rattle.abc_demand.proofs.Asking.{asked_none, asked_term}
use Rattle.abc_demand.proofs.Noded.{numeral_walked, characters_walked, fields_walked, nothing_walked, elements_walked, entries_walked, selection_walked, row_walked, rows_walked}
use Rattle.abc_demand.proofs.Seeing.{first_seen, seen_number, seen_name, seen_empty, seen_select, seen_compound, seen_text, seen_table, seen_apply, seen_apply_two, seen_call, seen_chars, seen_conversion, seen_list, fill_one, fill_range, pair_parts, call_actuals}
use Rattle.abc_demand.proofs.Turning.{Turning, turning_first, turning_next, turning_last, passing_first, passing_next, passing_last, rest_at, rest_of, rest_none, rest_nothing}
use Rattle.abc_demand.proofs.Walking.{walked_none, walked_call, found_none, found_one, found_two, found_all, passed_call}
use Rattle.abc_demand.proofs.draft.Draft.+expression.Goals as goal

pub expression-returns-in_ok-a-in-Number-clause-walked : goal.expression-returns-in_ok-a-in-Number-clause-walked
expression-returns-in_ok-a-in-Number-clause-walked t c =
    let a = c.in_ok-a-in-Number.a in
    let old = c.args.self.now in
    let is : seen c.args.e.now ≡ leaf numeral = ap seen c.in-Number.is ∙ seen_number c.in-Number.field-0 in
    subst (λ x. Walked c.args.scope.now c.args.self.now c.number.new.self (x ∷ []) (a.0 ∷ [])) (sym is)
    (numeral_walked c.args.scope.now c.args.self.now c.number.new.self a c.requires c.in_ok-a-in-Number.ensures.number
    (asked_term c.args.self.now c.args.self.now c.number.new.self 0 [] (asked_none c.args.self.now) a term.Number c.in_ok-a-in-Number.ensures.number c.in_ok-a-in-Number.ensures.ok))

pub expression-returns-in-Name-clause-walked : goal.expression-returns-in-Name-clause-walked
expression-returns-in-Name-clause-walked t c =
    let is : seen c.args.e.now ≡ leaf (name c.in-Name.i.0) = ap seen c.in-Name.is ∙ seen_name c.in-Name.i in
    subst (λ x. IfOk c.name.result (λ a. Walked c.args.scope.now c.args.self.now c.name.new.self (x ∷ []) (a.0 ∷ []))) (sym is) c.name.ensures.walked

pub expression-returns-in-Text-clause-walked : goal.expression-returns-in-Text-clause-walked
expression-returns-in-Text-clause-walked t c =
    let is : seen c.args.e.now ≡ node characters (nodes (flat (map seen_piece c.as_slice.result.now))) = ap seen c.in-Text.is ∙ (seen_text c.in-Text.pieces ∙ ap (λ qs. node characters (nodes (flat (map seen_piece qs)))) (sym c.as_slice.ensures)) in
    subst (λ x. IfOk c.characters.result (λ a. Walked c.args.scope.now c.args.self.now c.characters.new.self (x ∷ []) (a.0 ∷ []))) (sym is) c.characters.ensures.walked

pub expression-returns-in-Compound-clause-walked : goal.expression-returns-in-Compound-clause-walked
expression-returns-in-Compound-clause-walked t c =
    let is : seen c.args.e.now ≡ node fields (nodes (map seen c.as_slice-in-Compound.result.now)) = ap seen c.in-Compound.is ∙ (seen_compound c.in-Compound.parts ∙ ap (λ qs. node fields (nodes (map seen qs))) (sym c.as_slice-in-Compound.ensures)) in
    subst (λ x. IfOk c.compound.result (λ a. Walked c.args.scope.now c.args.self.now c.compound.new.self (x ∷ []) (a.0 ∷ []))) (sym is) c.compound.ensures.walked

pub expression-returns-in_ok-a-in-Empty-clause-walked : goal.expression-returns-in_ok-a-in-Empty-clause-walked
expression-returns-in_ok-a-in-Empty-clause-walked t c =
    let a = c.in_ok-a-in-Empty.a in
    let is : seen c.args.e.now ≡ leaf nothing = ap seen c.in-Empty.is ∙ seen_empty in
    subst (λ x. Walked c.args.scope.now c.args.self.now c.nothing.new.self (x ∷ []) (a.0 ∷ [])) (sym is)
    (nothing_walked c.args.scope.now c.args.self.now c.nothing.new.self a c.requires c.in_ok-a-in-Empty.ensures.number c.in_ok-a-in-Empty.ensures.asked)

pub expression-returns-in-List-clause-walked : goal.expression-returns-in-List-clause-walked
expression-returns-in-List-clause-walked t c =
    let f : Fill → List Node = λ fill. (seen_fill fill).parts in
    let shape : List Fill → Node = λ gs. node (elements (any_ranged (map seen_fill gs))) (nodes (flat (map f gs))) in
    let is : seen c.args.e.now ≡ shape c.as_slice-in-List.result.now = ap seen c.in-List.is ∙ (seen_list c.in-List.fills ∙ ap shape (sym c.as_slice-in-List.ensures)) in
    subst (λ x. IfOk c.list.result (λ a. Walked c.args.scope.now c.args.self.now c.list.new.self (x ∷ []) (a.0 ∷ []))) (sym is) c.list.ensures.walked

pub expression-returns-in-Table-clause-walked : goal.expression-returns-in-Table-clause-walked
expression-returns-in-Table-clause-walked t c =
    let is : seen c.args.e.now ≡ node entries (nodes (flat (map seen_pair c.as_slice-in-Table.result.now))) = ap seen c.in-Table.is ∙ (seen_table c.in-Table.pairs ∙ ap (λ qs. node entries (nodes (flat (map seen_pair qs)))) (sym c.as_slice-in-Table.ensures)) in
    subst (λ x. IfOk c.table.result (λ a. Walked c.args.scope.now c.args.self.now c.table.new.self (x ∷ []) (a.0 ∷ []))) (sym is) c.table.ensures.walked

pub expression-returns-in_ok-a-in-Select-clause-walked : goal.expression-returns-in_ok-a-in-Select-clause-walked
expression-returns-in_ok-a-in-Select-clause-walked t c =
    let table = c.in_ok-table-in-Select.table in
    let key = c.in_ok-key-in-Select.key in
    let a = c.in_ok-a-in-Select.a in
    let x = c.get.result.now in
    let y = c.get-in-Select.result.now in
    let is : seen c.args.e.now ≡ over_two selection (seen x) (seen y) =
    ap seen c.in-Select.is ∙ (seen_select c.in-Select.t c.in-Select.k ∙ (ap (λ z. over_two selection (seen z) (seen c.in-Select.k)) (sym c.get.ensures) ∙ ap (λ z. over_two selection (seen x) (seen z)) (sym c.get-in-Select.ensures))) in
    subst (λ z. Walked c.args.scope.now c.args.self.now c.selection.new.self (z ∷ []) (a.0 ∷ [])) (sym is)
    (selection_walked c.args.scope.now c.args.self.now c.expression.new.self c.expression-in-Select.new.self c.selection.new.self (seen x) (seen y) table key a
    c.requires c.in_ok-table-in-Select.ensures.walked c.in_ok-key-in-Select.ensures.walked (omega (arith, c.in_ok-table-in-Select.ensures.there, c.in_ok-key-in-Select.ensures.grows)) c.in_ok-key-in-Select.ensures.there c.in_ok-a-in-Select.ensures.number c.in_ok-a-in-Select.ensures.asked)

pub expression-returns-in_ok-a-in-Apply1-clause-walked : goal.expression-returns-in_ok-a-in-Apply1-clause-walked
expression-returns-in_ok-a-in-Apply1-clause-walked t c =
    let a = c.in_ok-a-in-Apply1.a in
    let operand = c.in_ok-operand-in-Apply1.operand in
    let op = c.in-Apply1.op in
    let x = c.get-in-Apply1.result.now in
    let is : seen c.args.e.now ≡ over (row op) (seen x) = ap seen c.in-Apply1.is ∙ (seen_apply op c.in-Apply1.x ∙ ap (λ z. over (row op) (seen z)) (sym c.get-in-Apply1.ensures)) in
    subst (λ z. Walked c.args.scope.now c.args.self.now c.apply_one.new.self (z ∷ []) (a.0 ∷ [])) (sym is)
    (row_walked c.args.scope.now c.args.self.now c.expression-in-Apply1.new.self c.apply_one.new.self op (seen x) operand a c.requires c.in_ok-operand-in-Apply1.ensures.walked c.in_ok-a-in-Apply1.ensures.leads c.in_ok-a-in-Apply1.ensures.calls)

pub expression-returns-in_ok-a-in-Apply2-clause-walked : goal.expression-returns-in_ok-a-in-Apply2-clause-walked
expression-returns-in_ok-a-in-Apply2-clause-walked t c =
    let a = c.in_ok-a-in-Apply2.a in
    let first = c.in_ok-first-in-Apply2.first in
    let second = c.in_ok-second-in-Apply2.second in
    let op = c.in-Apply2.op in
    let x = c.get-in-Apply2.result.now in
    let y = c.get-in-Apply2-2.result.now in
    let is : seen c.args.e.now ≡ over_two (row op) (seen x) (seen y) =
    ap seen c.in-Apply2.is ∙ (seen_apply_two op c.in-Apply2.x c.in-Apply2.y ∙ (ap (λ z. over_two (row op) (seen z) (seen c.in-Apply2.y)) (sym c.get-in-Apply2.ensures) ∙ ap (λ z. over_two (row op) (seen x) (seen z)) (sym c.get-in-Apply2-2.ensures))) in
    subst (λ z. Walked c.args.scope.now c.args.self.now c.apply_two.new.self (z ∷ []) (a.0 ∷ [])) (sym is)
    (rows_walked c.args.scope.now c.args.self.now c.expression-in-Apply2.new.self c.expression-in-Apply2-2.new.self c.apply_two.new.self op (seen x) (seen y) first second (a.0 ∷ [])
    c.requires c.in_ok-first-in-Apply2.ensures.walked c.in_ok-second-in-Apply2.ensures.walked c.in_ok-a-in-Apply2.ensures.leads c.in_ok-a-in-Apply2.ensures.calls)

pub expression-returns-in_ok-a-in-Call-clause-walked : goal.expression-returns-in_ok-a-in-Call-clause-walked
expression-returns-in_ok-a-in-Call-clause-walked t c =
    let a = c.in_ok-a-in-Call.a in
    let called = c.in_ok-called-in-Call.called in
    let mid = c.actuals.new.self in
    let es = c.as_slice-in-Call.result.now in
    let t2 = c.in-Call.template in
    let is : seen c.args.e.now ≡ call_of true t2 (map seen es) = ap seen c.in-Call.is ∙ (seen_call t2 c.in-Call.actuals ∙ ap (λ ds. call_of true t2 (map seen ds)) (sym c.as_slice-in-Call.ensures)) in
    subst (λ z. Walked c.args.scope.now c.args.self.now c.called_value.new.self (z ∷ []) (a.0 ∷ [])) (sym is)
    (walked_call c.args.scope.now c.args.self.now mid c.called_value.new.self true t2 (map seen es) called.at called.vars.items (a.0 ∷ []) c.requires c.in_ok-called-in-Call.ensures.found
    (subst (λ vs. Leads (call_scene c.args.scope.now vs) mid c.called_value.new.self (λ z ts. CalledAt called.at true z ts) (a.0 ∷ [])) c.deref.ensures.value c.in_ok-a-in-Call.ensures.leads) c.in_ok-a-in-Call.ensures.calls)

pub expressions-loop-i-init : goal.expressions-loop-i-init
expressions-loop-i-init t c = turning_first c.args.scope.now c.args.self.now (map seen (drop c.args.from c.args.es.now)) (map seen (drop c.args.from c.args.es.now)) c.args.vars.now.items refl c.requires

pub expressions-loop-i-preserved : goal.expressions-loop-i-preserved
expressions-loop-i-preserved t c =
    let s = c.args.scope.now in
    let es = c.args.es.now in
    let x = c.index-es-i.result in
    let i = c.loop-i.i in
    let next = c.expression.new.self in
    turning_next s c.args.self.now c.loop-i.self next (map seen (drop c.args.from es)) (map seen (drop i es)) (map seen (drop (i + 1) es)) (seen x ∷ []) c.args.vars.now.items c.loop-i.vars.items c.push.new.self.items
    c.loop-i.invariant (rest_at seen es i x c.loop-i-test.true c.index-es-i.is)
    (found_one s c.loop-i.self next (seen x) c.in_ok-a.a c.loop-i.vars.items c.push.new.self.items c.in_ok-a.ensures.walked c.in_ok-push.ensures.items c.in_ok-a.ensures.there)

pub expressions-returns-clause-found : goal.expressions-returns-clause-found
expressions-returns-clause-found t c =
    turning_last c.args.scope.now c.args.self.now c.loop-i.self (map seen (drop c.args.from c.args.es.now)) (map seen (drop c.loop-i.i c.args.es.now)) c.args.vars.now.items c.loop-i.vars.items c.loop-i.invariant
    (rest_none seen c.args.es.now c.loop-i.i c.loop-i-test.false)

pub actuals-returns-clause-found : goal.actuals-returns-clause-found
actuals-returns-clause-found t c =
    let s = c.args.scope.now in
    let es = c.args.actuals.now in
    let n = c.in_ok-front.front in
    passed_call s c.args.self.now c.front.new.self c.pass.new.self c.expressions.new.self c.args.t.now (map seen es) (map seen (take n es)) (map seen (drop n es)) c.in_ok-at.at c.new-vars.result.items c.front.new.vars.items c.expressions.new.vars.items
    (λ gives. call_actuals gives c.args.t.now es n c.in_ok-front.ensures.count) c.new-vars.ensures.items c.in_ok-front.ensures.found c.in_ok-at.ensures.at c.in_ok-at.ensures.ok c.in_ok-expressions.ensures.found

pub front-returns-then-is_empty-clause-found : goal.front-returns-then-is_empty-clause-found
front-returns-then-is_empty-clause-found t c = found_none c.args.scope.now c.args.self.now c.args.vars.now.items

pub front-returns-then-not-starts_with_place-clause-found : goal.front-returns-then-not-starts_with_place-clause-found
front-returns-then-not-starts_with_place-clause-found t c = found_none c.args.scope.now c.args.self.now c.args.vars.now.items

pub front-returns-clause-found : goal.front-returns-clause-found
front-returns-clause-found t c =
    let s = c.args.scope.now in
    let x = c.index-actuals-0.result in
    let first : map seen (take 1 c.args.actuals.now) ≡ seen x ∷ [] = first_seen c.args.actuals.now x c.is_empty.result c.is_empty.ensures c.if-is_empty.false c.index-actuals-0.is in
    subst (λ xs. Found c.args.scope.now c.args.self.now c.expression.new.self xs c.args.vars.now.items c.push.new.self.items) (sym first)
    (found_one s c.args.self.now c.expression.new.self (seen x) c.in_ok-a.a c.args.vars.now.items c.push.new.self.items c.in_ok-a.ensures.walked c.in_ok-push.ensures.items c.in_ok-a.ensures.there)

pub characters-loop-piece-init : goal.characters-loop-piece-init
characters-loop-piece-init t c = ([], passing_first c.args.scope.now c.args.self.now (flat (map seen_piece c.args.pieces.now)) (flat (map seen_piece c.args.pieces.now)) refl c.requires)

pub characters-loop-piece-preserved : goal.characters-loop-piece-preserved
characters-loop-piece-preserved t c =
    let ps = c.args.pieces.now in
    let i = c.loop-piece.piece-index in
    let x = c.piece-item.result in
    let before = c.loop-piece.invariant in
    let walked : (own : List ℕ) × Walked c.args.scope.now c.loop-piece.self c.piece.new.self (seen_piece x) own = c.in_ok-piece.ensures.found in
    (before.0 ++ walked.0, passing_next c.args.scope.now c.args.self.now c.loop-piece.self c.piece.new.self (flat (map seen_piece ps)) (flat (map seen_piece (drop i ps))) (flat (map seen_piece (drop (i + 1) ps))) (seen_piece x) before.0 walked.0 before.1 (rest_of seen_piece ps i x c.loop-piece-test.true c.piece-item.is) walked.1)

pub characters-returns-clause-walked : goal.characters-returns-clause-walked
characters-returns-clause-walked t c =
    let a = c.in_ok-a.a in
    let mid = c.loop-piece.self in
    let ps = c.args.pieces.now in
    let all = c.loop-piece.invariant in
    let walked : Walked c.args.scope.now c.args.self.now mid (flat (map seen_piece ps)) all.0 =
    passing_last c.args.scope.now c.args.self.now mid (flat (map seen_piece ps)) (flat (map seen_piece (drop c.loop-piece.piece-index ps))) all.0 all.1 (rest_nothing seen_piece ps c.loop-piece.piece-index c.loop-piece-test.false) in
    characters_walked c.args.scope.now c.args.self.now mid c.text.new.self (flat (map seen_piece ps)) all.0 a c.requires walked c.in_ok-a.ensures.number
    (asked_term mid mid c.text.new.self 0 [] (asked_none mid) a term.Text c.in_ok-a.ensures.number c.in_ok-a.ensures.ok)

pub piece-returns-in-Chars-clause-found : goal.piece-returns-in-Chars-clause-found
piece-returns-in-Chars-clause-found t c =
    let is : seen_piece c.args.piece.now ≡ [] = ap seen_piece c.in-Chars.is ∙ seen_chars c.in-Chars.field-0 in
    ([], subst (λ xs. Walked c.args.scope.now c.args.self.now c.args.self.now xs []) (sym is) (walked_none c.args.scope.now c.args.self.now))

pub piece-returns-in_ok-expression-in-Conversion-clause-found : goal.piece-returns-in_ok-expression-in-Conversion-clause-found
piece-returns-in_ok-expression-in-Conversion-clause-found t c =
    let e = c.in-Conversion.e in
    let is : seen_piece c.args.piece.now ≡ seen e ∷ [] = ap seen_piece c.in-Conversion.is ∙ seen_conversion e in
    (c.in_ok-expression-in-Conversion.field-0.0 ∷ [], subst (λ xs. Walked c.args.scope.now c.args.self.now c.expression.new.self xs (c.in_ok-expression-in-Conversion.field-0.0 ∷ [])) (sym is) c.in_ok-expression-in-Conversion.ensures.walked)

pub compound-returns-clause-walked : goal.compound-returns-clause-walked
compound-returns-clause-walked t c =
    let a = c.in_ok-a.a in
    let mid = c.expressions.new.self in
    let vars = c.expressions.new.vars.items in
    let ps = c.args.parts.now in
    let all = found_all c.args.scope.now c.args.self.now mid (map seen ps) c.new-vars.result.items vars c.new-vars.ensures.items c.in_ok-expressions.ensures.found in
    fields_walked c.args.scope.now c.args.self.now mid c.fields.new.self (map seen ps) vars a c.requires all.0 all.1 c.in_ok-a.ensures.number (subst (λ vs. IsFields mid c.fields.new.self vs a) c.deref.ensures.value c.in_ok-a.ensures.asked)

pub list-loop-fill-init : goal.list-loop-fill-init
list-loop-fill-init t c =
    let f : Fill → List Node = λ fill. (seen_fill fill).parts in
    let all = flat (map f c.args.fills.now) in
    subst (λ vs. Turning c.args.scope.now c.args.self.now c.args.self.now all all [] vs) (sym c.new-vars.ensures.items) (turning_first c.args.scope.now c.args.self.now all all [] refl c.requires)

pub list-loop-fill-preserved : goal.list-loop-fill-preserved
list-loop-fill-preserved t c =
    let f : Fill → List Node = λ fill. (seen_fill fill).parts in
    let fs = c.args.fills.now in
    let i = c.loop-fill.fill-index in
    let x = c.fill-item.result in
    turning_next c.args.scope.now c.args.self.now c.loop-fill.self c.fill.new.self (flat (map f fs)) (flat (map f (drop i fs))) (flat (map f (drop (i + 1) fs))) (f x) [] c.loop-fill.vars.items c.fill.new.vars.items
    c.loop-fill.invariant (rest_of f fs i x c.loop-fill-test.true c.fill-item.is) c.in_ok-fill.ensures.found

pub list-returns-clause-walked : goal.list-returns-clause-walked
list-returns-clause-walked t c =
    let a = c.in_ok-a.a in
    let mid = c.loop-fill.self in
    let vars = c.loop-fill.vars.items in
    let fs = c.args.fills.now in
    let f : Fill → List Node = λ fill. (seen_fill fill).parts in
    let ranged = c.has_range.result in
    let found = turning_last c.args.scope.now c.args.self.now mid (flat (map f fs)) (flat (map f (drop c.loop-fill.fill-index fs))) [] vars c.loop-fill.invariant (rest_nothing f fs c.loop-fill.fill-index c.loop-fill-test.false) in
    let all = found_all c.args.scope.now c.args.self.now mid (flat (map f fs)) [] vars refl found in
    subst (λ r. Walked c.args.scope.now c.args.self.now c.elements.new.self (node (elements r) (nodes (flat (map f fs))) ∷ []) (a.0 ∷ [])) c.has_range.ensures
    (elements_walked c.args.scope.now c.args.self.now mid c.elements.new.self (flat (map f fs)) vars ranged a c.requires all.0 all.1 (subst (λ vs. IsElements mid c.elements.new.self vs ranged a) c.deref.ensures.value c.in_ok-a.ensures))

pub fill-returns-in_ok-push-in-One-clause-found : goal.fill-returns-in_ok-push-in-One-clause-found
fill-returns-in_ok-push-in-One-clause-found t c =
    let e = c.in-One.e in
    let a = c.in_ok-a-in-One.a in
    let is : (seen_fill c.args.fill.now).parts ≡ seen e ∷ [] = ap (λ f. (seen_fill f).parts) c.in-One.is ∙ fill_one e in
    subst (λ xs. Found c.args.scope.now c.args.self.now c.expression.new.self xs c.args.vars.now.items c.push.new.self.items) (sym is)
    (found_one c.args.scope.now c.args.self.now c.expression.new.self (seen e) a c.args.vars.now.items c.push.new.self.items c.in_ok-a-in-One.ensures.walked c.in_ok-push-in-One.ensures.items c.in_ok-a-in-One.ensures.there)

pub fill-returns-in_ok-push-in-Range-2-clause-found : goal.fill-returns-in_ok-push-in-Range-2-clause-found
fill-returns-in_ok-push-in-Range-2-clause-found t c =
    let x = c.in-Range.from in
    let y = c.in-Range.to in
    let a = c.in_ok-a-in-Range.a in
    let b = c.in_ok-b-in-Range.b in
    let mid = c.expression-in-Range.new.self in
    let next = c.expression-in-Range-2.new.self in
    let is : (seen_fill c.args.fill.now).parts ≡ seen x ∷ seen y ∷ [] = ap (λ f. (seen_fill f).parts) c.in-Range.is ∙ fill_range x y in
    subst (λ xs. Found c.args.scope.now c.args.self.now next xs c.args.vars.now.items c.push-in-Range-2.new.self.items) (sym is)
    (found_two c.args.scope.now c.args.self.now mid next (seen x) (seen y) a b c.args.vars.now.items c.push-in-Range.new.self.items c.push-in-Range-2.new.self.items c.requires
    c.in_ok-a-in-Range.ensures.walked c.in_ok-a-in-Range.ensures.there c.in_ok-b-in-Range.ensures.walked c.in_ok-b-in-Range.ensures.there c.in_ok-push-in-Range.ensures.items c.in_ok-push-in-Range-2.ensures.items)

pub table-loop-pair-init : goal.table-loop-pair-init
table-loop-pair-init t c =
    let all = flat (map seen_pair c.args.pairs.now) in
    subst (λ vs. Turning c.args.scope.now c.args.self.now c.args.self.now all all [] vs) (sym c.new-vars.ensures.items) (turning_first c.args.scope.now c.args.self.now all all [] refl c.requires)

pub table-loop-pair-preserved : goal.table-loop-pair-preserved
table-loop-pair-preserved t c =
    let ps = c.args.pairs.now in
    let i = c.loop-pair.pair-index in
    let x = c.pair-item.result in
    turning_next c.args.scope.now c.args.self.now c.loop-pair.self c.pair.new.self (flat (map seen_pair ps)) (flat (map seen_pair (drop i ps))) (flat (map seen_pair (drop (i + 1) ps))) (seen_pair x) [] c.loop-pair.vars.items c.pair.new.vars.items
    c.loop-pair.invariant (rest_of seen_pair ps i x c.loop-pair-test.true c.pair-item.is) c.in_ok-pair.ensures.found

pub table-returns-clause-walked : goal.table-returns-clause-walked
table-returns-clause-walked t c =
    let a = c.in_ok-a.a in
    let mid = c.loop-pair.self in
    let vars = c.loop-pair.vars.items in
    let ps = c.args.pairs.now in
    let found = turning_last c.args.scope.now c.args.self.now mid (flat (map seen_pair ps)) (flat (map seen_pair (drop c.loop-pair.pair-index ps))) [] vars c.loop-pair.invariant (rest_nothing seen_pair ps c.loop-pair.pair-index c.loop-pair-test.false) in
    let all = found_all c.args.scope.now c.args.self.now mid (flat (map seen_pair ps)) [] vars refl found in
    entries_walked c.args.scope.now c.args.self.now mid c.entries.new.self (flat (map seen_pair ps)) vars a c.requires all.0 all.1 (subst (λ vs. IsEntries mid c.entries.new.self vs a) c.deref.ensures.value c.in_ok-a.ensures)

pub pair-returns-clause-found : goal.pair-returns-clause-found
pair-returns-clause-found t c =
    let p = out-Pair c.args.pair.now in
    let mid = c.expression.new.self in
    let next = c.expression-2.new.self in
    subst (λ xs. Found c.args.scope.now c.args.self.now next xs c.args.vars.now.items c.push-2.new.self.items) (sym (pair_parts c.args.pair.now))
    (found_two c.args.scope.now c.args.self.now mid next (seen c.args.pair.now.key) (seen c.args.pair.now.associate) c.in_ok-k.k c.in_ok-a.a c.args.vars.now.items c.push.new.self.items c.push-2.new.self.items c.requires
    c.in_ok-k.ensures.walked c.in_ok-k.ensures.there c.in_ok-a.ensures.walked c.in_ok-a.ensures.there c.in_ok-push.ensures.items c.in_ok-push-2.ensures.items)
