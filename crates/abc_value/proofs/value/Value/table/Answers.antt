use Rattle.std.proofs.Common.{sym, ap, ◌∙◌, ◌≡◌, subst}
use Rattle.std.proofs.lemmas.Result.{IfOk-weaker}
use Rattle.abc_value.specs.Tree.{table_of, pairs}
use Rattle.abc_value.specs.Sizes.{IsMakingOf}
use Rattle.abc_value.specs.Regular.{IsRising, AllRegularPairs}
use Rattle.abc_value.specs.Changes.{placed}
use Rattle.abc_value.proofs.tables.MergingPairs.{placed_pairs}
use Rattle.abc_value.proofs.value.Value.table.Goals as goal

pub rising_table-requires-clause-rising : goal.rising_table-requires-clause-rising
rising_table-requires-clause-rising c =
    subst (λ ps. IsRising (pairs ps)) (sym (c.in_ok-entries_of.ensures.entries ∙ c.in_ok-ordered.ensures.value)) (placed_pairs c.args.pairs.items c.in_ok-ordered.ensures.regular).rising

pub rising_table-requires-clause-regular : goal.rising_table-requires-clause-regular
rising_table-requires-clause-regular c =
    subst (λ ps. AllRegularPairs (pairs ps)) (sym (c.in_ok-entries_of.ensures.entries ∙ c.in_ok-ordered.ensures.value)) (placed_pairs c.args.pairs.items c.in_ok-ordered.ensures.regular).regular

pub returns-clause-value : goal.returns-clause-value
returns-clause-value c =
    let same = c.in_ok-entries_of.ensures.entries ∙ c.in_ok-ordered.ensures.value in
    IfOk-weaker c.rising_table.result _ (λ v. v ≡ table_of (placed c.args.pairs.items)) (λ v e. e ∙ ap table_of same) c.rising_table.ensures.value

pub returns-clause-sizes : goal.returns-clause-sizes
returns-clause-sizes c =
    let same = c.in_ok-entries_of.ensures.entries ∙ c.in_ok-ordered.ensures.value in
    subst (λ ps. IsMakingOf (table_of ps) c.rising_table.result) same c.rising_table.ensures.sizes
