use Rattle.std.proofs.Common.{◌≡◌, ◌++◌, map, sym, subst, ap, ◌∙◌, OnOk, rules}
use Rattle.abc_tree.specs.Lists.{flat}
use Rattle.abc_tree.specs.RegularItems.{bound_names}
use Rattle.abc_tree.specs.declared.formulas.Bound.{the_lemmas as bounds}
use Rattle.abc_meaning.specs.Bindings.{held}
use Rattle.abc_state.specs.Views.{scope_of, state_of}
use Rattle.abc_acts.specs.Views.{held_of}
use Rattle.abc_acts.proofs.binding.+keeping.Goals as goal

pub keep_bound-returns-in-Several : goal.keep_bound-returns-in-Several
keep_bound-returns-in-Several t c = λ lines ended.
    let e : bound_names c.args.bound.now ≡ flat (map bound_names c.in-Several.parts) = search (rules, bounds, c.in-Several.is) in
    subst (λ ns. OnOk c.keep_bounds.result (held_of c.keep_bounds.new.all ≡ held_of c.args.all.now ++ held (scope_of c.args.scope.now) ns (state_of c.args.run.now c.args.targets.now lines ended)))
    (ap (λ ps. flat (map bound_names ps)) c.as_slice.ensures ∙ sym e) (c.keep_bounds.ensures lines ended)
