use Rattle.std.proofs.Common.{rules, sym, ◌∙◌}
use Rattle.abc_state.specs.Views.{range_elements}
use Rattle.abc_state.proofs.Fillers.{made_list, made_small, no_elements, none_made, empty_list, empty_fits}
use Rattle.abc_state.proofs.displays.range_list.Goals as goal

pub returns-then-not-have_range-clause-value : goal.returns-then-not-have_range-clause-value
returns-then-not-have_range-clause-value c =
    empty_list (range_elements c.args.first.now c.args.last.now) _ (no_elements c.args.first.now c.args.last.now (sym c.have_range.ensures.computed ∙ c.if-not-have_range.true)) c.empty.ensures

pub returns-then-not-have_range-clause-sizes : goal.returns-then-not-have_range-clause-sizes
returns-then-not-have_range-clause-sizes c =
    empty_fits (range_elements c.args.first.now c.args.last.now) (no_elements c.args.first.now c.args.last.now (sym c.have_range.ensures.computed ∙ c.if-not-have_range.true))

pub returns-in-Ok-clause-value : goal.returns-in-Ok-clause-value
returns-in-Ok-clause-value c =
    made_list c.args.first.now c.args.last.now c.in-Ok.list (sym c.have_range.ensures.computed ∙ c.if-not-have_range.false) (c.have_range.ensures.fits c.if-not-have_range.false) c.in-Ok.ensures

pub returns-in-Ok-clause-sizes : goal.returns-in-Ok-clause-sizes
returns-in-Ok-clause-sizes c =
    made_small c.args.first.now c.args.last.now c.in-Ok.list (sym c.have_range.ensures.computed ∙ c.if-not-have_range.false) (c.have_range.ensures.fits c.if-not-have_range.false) c.in-Ok.ensures

pub returns-in-Err-clause-value : goal.returns-in-Err-clause-value
returns-in-Err-clause-value c =
    empty_list (range_elements c.args.first.now c.args.last.now) _ (none_made c.args.first.now c.args.last.now c.in-Err.field-0 (search rules) c.in-Err.ensures) c.empty-in-Err.ensures

pub returns-in-Err-clause-sizes : goal.returns-in-Err-clause-sizes
returns-in-Err-clause-sizes c =
    empty_fits (range_elements c.args.first.now c.args.last.now) (none_made c.args.first.now c.args.last.now c.in-Err.field-0 (search rules) c.in-Err.ensures)
