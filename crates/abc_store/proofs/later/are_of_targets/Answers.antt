use Rattle.std.proofs.Common.{◌≡◌, ◌∙◌, ◌∷◌, ◌+◌, drop, sym, ap}
use Rattle.std.proofs.lemmas.List.{drop_more}
use Rattle.abc_record.specs.declared.change.Change.{Change}
use Rattle.abc_store.specs.inner.Later.{is_of_target, are_of_targets}
use Rattle.abc_store.proofs.Wholes.{unit_stops, target_goes_on}
use Rattle.abc_store.proofs.later.are_of_targets.Goals as goal

pub returns-then-is_of_unit : goal.returns-then-is_of_unit
returns-then-is_of_unit c =
    let changes = c.args.changes.now in
    let at = c.loop-change.change-index in
    let change = c.change-item.result in
    let first : drop at changes ≡ change ∷ drop (at + 1) changes = drop_more changes at change c.loop-change-test.true ∙ ap (λ (x : Change). x ∷ drop (at + 1) changes) (sym c.change-item.is) in
    sym (c.loop-change.invariant ∙ ap are_of_targets first ∙ unit_stops c.is_of_unit.result (is_of_target change) (are_of_targets (drop (at + 1) changes)) c.is_of_unit.ensures c.if-is_of_unit.true)

pub loop-change-preserved : goal.loop-change-preserved
loop-change-preserved c =
    let changes = c.args.changes.now in
    let at = c.loop-change.change-index in
    let change = c.change-item.result in
    let first : drop at changes ≡ change ∷ drop (at + 1) changes = drop_more changes at change c.loop-change-test.true ∙ ap (λ (x : Change). x ∷ drop (at + 1) changes) (sym c.change-item.is) in
    c.loop-change.invariant ∙ ap are_of_targets first ∙ target_goes_on c.is_of_unit.result (is_of_target change) (are_of_targets (drop (at + 1) changes)) c.is_of_unit.ensures c.if-is_of_unit.false
