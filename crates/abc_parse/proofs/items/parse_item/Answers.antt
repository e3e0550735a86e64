use Rattle.abc_parse.proofs.computing.Said.{answers_slice, computed_of, fit_slice, tree_of}
use Rattle.abc_parse.proofs.regular.ItemsRegular.{answered}
use Rattle.abc_parse.specs.RegularTemplates.{HasRegularTemplates}
use Rattle.abc_parse.specs.RegularTrees.{IsNumberedItem, IsRegularItem}
use Rattle.abc_parse.proofs.items.parse_item.Goals as goal

pub parse_rows-requires-clause-fit : goal.parse_rows-requires-clause-fit
parse_rows-requires-clause-fit c =
    fit_slice c.args.lines.now c.as_slice.result.now c.in_ok-rows.rows c.as_slice-2.result.now c.as_slice.ensures c.in_ok-rows.ensures.rows c.as_slice-2.ensures c.requires.short c.in_ok-rows.ensures.spelled

pub returns-clause-computed : goal.returns-clause-computed
returns-clause-computed c =
    computed_of c.args.lines.now c.args.targets.now c.parse_rows.result
    (answers_slice c.args.lines.now c.as_slice.result.now c.in_ok-rows.rows c.as_slice-2.result.now c.as_slice.ensures c.in_ok-rows.ensures.rows c.as_slice-2.ensures c.args.targets.now c.parse_rows.result c.parse_rows.ensures)

pub returns-clause-tree : goal.returns-clause-tree
returns-clause-tree c =
    tree_of c.args.lines.now c.args.targets.now c.parse_rows.result
    (answers_slice c.args.lines.now c.as_slice.result.now c.in_ok-rows.rows c.as_slice-2.result.now c.as_slice.ensures c.in_ok-rows.ensures.rows c.as_slice-2.ensures c.args.targets.now c.parse_rows.result c.parse_rows.ensures)

pub returns-clause-regular : goal.returns-clause-regular
returns-clause-regular c =
    answered IsRegularItem c.args.lines.now c.args.targets.now c.regular_items.ensures c.parse_rows.result
    (computed_of c.args.lines.now c.args.targets.now c.parse_rows.result
    (answers_slice c.args.lines.now c.as_slice.result.now c.in_ok-rows.rows c.as_slice-2.result.now c.as_slice.ensures c.in_ok-rows.ensures.rows c.as_slice-2.ensures c.args.targets.now c.parse_rows.result c.parse_rows.ensures))

pub returns-clause-numbers : goal.returns-clause-numbers
returns-clause-numbers c =
    answered IsNumberedItem c.args.lines.now c.args.targets.now c.numbered_items.ensures c.parse_rows.result
    (computed_of c.args.lines.now c.args.targets.now c.parse_rows.result
    (answers_slice c.args.lines.now c.as_slice.result.now c.in_ok-rows.rows c.as_slice-2.result.now c.as_slice.ensures c.in_ok-rows.ensures.rows c.as_slice-2.ensures c.args.targets.now c.parse_rows.result c.parse_rows.ensures))

pub returns-clause-templates : goal.returns-clause-templates
returns-clause-templates c =
    answered HasRegularTemplates c.args.lines.now c.args.targets.now c.regular_templates.ensures c.parse_rows.result
    (computed_of c.args.lines.now c.args.targets.now c.parse_rows.result
    (answers_slice c.args.lines.now c.as_slice.result.now c.in_ok-rows.rows c.as_slice-2.result.now c.as_slice.ensures c.in_ok-rows.ensures.rows c.as_slice-2.ensures c.args.targets.now c.parse_rows.result c.parse_rows.ensures))
