use Rattle.std.proofs.Common.{◌≡◌, List, subst, arith, IfOk}
use Rattle.std.specs.List.{flat_map}
use Rattle.std.proofs.lemmas.Result.{err_from_is_err_and}
use Rattle.abc_value.specs.Tree.{Tree, list, trees}
use Rattle.abc_value.specs.Changes.{in_order}
use Rattle.abc_value.specs.Sizes.{IsMakingOf}
use Rattle.abc_state.specs.Views.{filler_elements}
use Rattle.abc_state.proofs.Fillers.{lone_filler}
use Rattle.abc_state.proofs.Past.{list_past}
use Rattle.abc_state.proofs.displays.listed.Goals as goal

pub returns-in_err-elements-clause-sizes : goal.returns-in_err-elements-clause-sizes
returns-in_err-elements-clause-sizes c =
    let p = err_from_is_err_and c.from_residual.result c.from_residual.ensures.1 in
    rw (p.1, p.2) (list_past (flat_map filler_elements c.args.fillers.now) _ c.in_err-elements.ensures.err)

pub returns-then-fillers-eq1-clause-value : goal.returns-then-fillers-eq1-clause-value
returns-then-fillers-eq1-clause-value c =
    let P : List Tree → Type 0 = λ xs. IfOk c.filler_list.result (λ v. v ≡ list (trees (in_order xs))) in
    subst P (lone_filler c.args.fillers.now c.index-fillers-0.result (omega arith) c.index-fillers-0.is) c.filler_list.ensures.value

pub returns-then-fillers-eq1-clause-sizes : goal.returns-then-fillers-eq1-clause-sizes
returns-then-fillers-eq1-clause-sizes c =
    let P : List Tree → Type 0 = λ xs. IsMakingOf (list (trees (in_order xs))) c.filler_list.result in
    subst P (lone_filler c.args.fillers.now c.index-fillers-0.result (omega arith) c.index-fillers-0.is) c.filler_list.ensures.sizes
