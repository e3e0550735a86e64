use Rattle.std.proofs.Common.{◌∙◌, [], ◌∷◌, false, map, ap, sym, subst, OnOk}
use Rattle.abc_ground.specs.Seen.{seen, call_of}
use Rattle.abc_demand.specs.inner.Walks.{Walked, own_nodes, place_node}
use Rattle.abc_demand.proofs.Suites.{own_write, own_put, own_insert, own_remove, own_delete, own_read, own_raw, own_check, own_report, own_if, own_while, own_for, own_return, own_call, own_select, own_pass, own_quit, own_succeed, own_fail, own_refinement}
use Rattle.abc_demand.proofs.Walking.{walked_none}
use Rattle.abc_demand.proofs.draft.Draft.own.Goals as goal

pub returns-in-Pass-clause-walked : goal.returns-in-Pass-clause-walked
returns-in-Pass-clause-walked c = subst (λ xs. Walked c.args.scope.now c.args.self.now c.args.self.now xs []) (sym (ap (own_nodes (place_node c.args.place)) c.in-Pass.is ∙ own_pass (place_node c.args.place))) (walked_none c.args.scope.now c.args.self.now)

pub returns-in-Quit-clause-walked : goal.returns-in-Quit-clause-walked
returns-in-Quit-clause-walked c = subst (λ xs. Walked c.args.scope.now c.args.self.now c.args.self.now xs []) (sym (ap (own_nodes (place_node c.args.place)) c.in-Quit.is ∙ own_quit (place_node c.args.place))) (walked_none c.args.scope.now c.args.self.now)

pub returns-in-Succeed-clause-walked : goal.returns-in-Succeed-clause-walked
returns-in-Succeed-clause-walked c = subst (λ xs. Walked c.args.scope.now c.args.self.now c.args.self.now xs []) (sym (ap (own_nodes (place_node c.args.place)) c.in-Succeed.is ∙ own_succeed (place_node c.args.place))) (walked_none c.args.scope.now c.args.self.now)

pub returns-in-Fail-clause-walked : goal.returns-in-Fail-clause-walked
returns-in-Fail-clause-walked c = subst (λ xs. Walked c.args.scope.now c.args.self.now c.args.self.now xs []) (sym (ap (own_nodes (place_node c.args.place)) c.in-Fail.is ∙ own_fail (place_node c.args.place))) (walked_none c.args.scope.now c.args.self.now)

pub returns-in-Refinement-clause-walked : goal.returns-in-Refinement-clause-walked
returns-in-Refinement-clause-walked c = subst (λ xs. Walked c.args.scope.now c.args.self.now c.args.self.now xs []) (sym (ap (own_nodes (place_node c.args.place)) c.in-Refinement.is ∙ own_refinement (place_node c.args.place) c.in-Refinement.field-0)) (walked_none c.args.scope.now c.args.self.now)

pub returns-in-Select-clause-walked : goal.returns-in-Select-clause-walked
returns-in-Select-clause-walked c = subst (λ xs. Walked c.args.scope.now c.args.self.now c.args.self.now xs []) (sym (ap (own_nodes (place_node c.args.place)) c.in-Select.is ∙ own_select (place_node c.args.place) c.in-Select.field-0)) (walked_none c.args.scope.now c.args.self.now)

pub returns-in-Write-clause-walked : goal.returns-in-Write-clause-walked
returns-in-Write-clause-walked c = subst (λ xs. OnOk c.part.result (Walked c.args.scope.now c.args.self.now c.part.new.self xs [])) (sym (ap (own_nodes (place_node c.args.place)) c.in-Write.is ∙ own_write (place_node c.args.place) c.in-Write.before c.in-Write.part c.in-Write.after)) c.part.ensures.walked

pub returns-in-Put-clause-walked : goal.returns-in-Put-clause-walked
returns-in-Put-clause-walked c = subst (λ xs. OnOk c.alike.result (Walked c.args.scope.now c.args.self.now c.alike.new.self xs [])) (sym (ap (own_nodes (place_node c.args.place)) c.in-Put.is ∙ own_put (place_node c.args.place) c.in-Put.value c.in-Put.address)) c.alike.ensures.walked

pub returns-in-Insert-clause-walked : goal.returns-in-Insert-clause-walked
returns-in-Insert-clause-walked c = subst (λ xs. OnOk c.element.result (Walked c.args.scope.now c.args.self.now c.element.new.self xs [])) (sym (ap (own_nodes (place_node c.args.place)) c.in-Insert.is ∙ own_insert (place_node c.args.place) c.in-Insert.value c.in-Insert.address)) c.element.ensures.walked

pub returns-in-Remove-clause-walked : goal.returns-in-Remove-clause-walked
returns-in-Remove-clause-walked c = subst (λ xs. OnOk c.element-in-Remove.result (Walked c.args.scope.now c.args.self.now c.element-in-Remove.new.self xs [])) (sym (ap (own_nodes (place_node c.args.place)) c.in-Remove.is ∙ own_remove (place_node c.args.place) c.in-Remove.value c.in-Remove.address)) c.element-in-Remove.ensures.walked

pub returns-in-Delete-clause-walked : goal.returns-in-Delete-clause-walked
returns-in-Delete-clause-walked c = subst (λ xs. OnOk c.anything.result (Walked c.args.scope.now c.args.self.now c.anything.new.self xs [])) (sym (ap (own_nodes (place_node c.args.place)) c.in-Delete.is ∙ own_delete (place_node c.args.place) c.in-Delete.address)) c.anything.ensures.walked

pub returns-in-ReadExample-clause-walked : goal.returns-in-ReadExample-clause-walked
returns-in-ReadExample-clause-walked c = subst (λ xs. OnOk c.alike-in-ReadExample.result (Walked c.args.scope.now c.args.self.now c.alike-in-ReadExample.new.self xs [])) (sym (ap (own_nodes (place_node c.args.place)) c.in-ReadExample.is ∙ own_read (place_node c.args.place) c.in-ReadExample.address c.in-ReadExample.example)) c.alike-in-ReadExample.ensures.walked

pub returns-in-ReadRaw-clause-walked : goal.returns-in-ReadRaw-clause-walked
returns-in-ReadRaw-clause-walked c = subst (λ xs. OnOk c.line.result (Walked c.args.scope.now c.args.self.now c.line.new.self xs [])) (sym (ap (own_nodes (place_node c.args.place)) c.in-ReadRaw.is ∙ own_raw (place_node c.args.place) c.in-ReadRaw.address)) c.line.ensures.walked

pub returns-in-Check-clause-walked : goal.returns-in-Check-clause-walked
returns-in-Check-clause-walked c = subst (λ xs. OnOk c.test.result (Walked c.args.scope.now c.args.self.now c.test.new.self xs [])) (sym (ap (own_nodes (place_node c.args.place)) c.in-Check.is ∙ own_check (place_node c.args.place) c.in-Check.test)) c.test.ensures.walked

pub returns-in-Report-clause-walked : goal.returns-in-Report-clause-walked
returns-in-Report-clause-walked c = subst (λ xs. OnOk c.test-in-Report.result (Walked c.args.scope.now c.args.self.now c.test-in-Report.new.self xs [])) (sym (ap (own_nodes (place_node c.args.place)) c.in-Report.is ∙ own_report (place_node c.args.place) c.in-Report.test)) c.test-in-Report.ensures.walked

pub returns-in-If-clause-walked : goal.returns-in-If-clause-walked
returns-in-If-clause-walked c = subst (λ xs. OnOk c.test-in-If.result (Walked c.args.scope.now c.args.self.now c.test-in-If.new.self xs [])) (sym (ap (own_nodes (place_node c.args.place)) c.in-If.is ∙ own_if (place_node c.args.place) c.in-If.test c.in-If.field-1)) c.test-in-If.ensures.walked

pub returns-in-While-clause-walked : goal.returns-in-While-clause-walked
returns-in-While-clause-walked c = subst (λ xs. OnOk c.test-in-While.result (Walked c.args.scope.now c.args.self.now c.test-in-While.new.self xs [])) (sym (ap (own_nodes (place_node c.args.place)) c.in-While.is ∙ own_while (place_node c.args.place) c.in-While.test c.in-While.field-1)) c.test-in-While.ensures.walked

pub returns-in-For-clause-walked : goal.returns-in-For-clause-walked
returns-in-For-clause-walked c = subst (λ xs. OnOk c.for_each.result (Walked c.args.scope.now c.args.self.now c.for_each.new.self xs [])) (sym (ap (own_nodes (place_node c.args.place)) c.in-For.is ∙ own_for (place_node c.args.place) c.in-For.names c.in-For.train c.in-For.suite)) c.for_each.ensures.walked

pub returns-in-Return-clause-walked : goal.returns-in-Return-clause-walked
returns-in-Return-clause-walked c = subst (λ xs. OnOk c.given.result (Walked c.args.scope.now c.args.self.now c.given.new.self xs [])) (sym (ap (own_nodes (place_node c.args.place)) c.in-Return.is ∙ own_return (place_node c.args.place) c.in-Return.value)) c.given.ensures.walked

pub returns-in-Call-clause-walked : goal.returns-in-Call-clause-walked
returns-in-Call-clause-walked c =
    let t = c.in-Call.template in
    subst (λ xs. OnOk c.call.result (Walked c.args.scope.now c.args.self.now c.call.new.self xs []))
    (sym (ap (own_nodes (place_node c.args.place)) c.in-Call.is ∙ (own_call (place_node c.args.place) t c.in-Call.actuals ∙ ap (λ es. call_of false t (map seen es) ∷ []) (sym c.as_slice.ensures)))) c.call.ensures.walked
