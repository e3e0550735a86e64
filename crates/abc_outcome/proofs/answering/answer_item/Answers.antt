use Rattle.std.proofs.Common.{rules, ◌∙◌, inr, refl, ap}
use Rattle.std.specs.Map.{keys_of}
use Rattle.abc_store.specs.View.{work_of}
use Rattle.abc_outcome.specs.Outcome.{outcome}
use Rattle.abc_outcome.specs.inner.Steps.{HasTypeLine}
use Rattle.abc_outcome.proofs.Items.{comes_of, spelled_items, tells_parsed}
use Rattle.abc_outcome.proofs.Told.{comes_to, keeps_of}
use Rattle.abc_outcome.proofs.TypeLines.{has_line, or_else}
use Rattle.abc_outcome.proofs.answering.answer_item.Goals as goal

pub answer_parsed-requires-clause-spelled : goal.answer_parsed-requires-clause-spelled
answer_parsed-requires-clause-spelled g c =
    spelled_items c.units_are_set.ensures c.asked_can_be_spelled.ensures c.args.item.now c.in_ok-names.names c.parse_item.result c.requires.some c.requires.short c.parse_item.ensures.computed c.parse_item.ensures.tree

pub answer_parsed-requires-clause-regular : goal.answer_parsed-requires-clause-regular
answer_parsed-requires-clause-regular g c = c.parse_item.ensures.templates

pub answer_parsed-requires-clause-read : goal.answer_parsed-requires-clause-read
answer_parsed-requires-clause-read g c = c.parse_item.ensures.regular

pub answer_parsed-requires-clause-numbers : goal.answer_parsed-requires-clause-numbers
answer_parsed-requires-clause-numbers g c = c.parse_item.ensures.numbers

pub returns-clause-comes : goal.returns-clause-comes
returns-clause-comes g c line tells =
    let names = c.in_ok-names.ensures.names ∙ ap keys_of c.targets.ensures.targets in
    let out = outcome line c.args.store.now.bounds c.args.steps c.args.k (work_of c.args.store.now) c.args.item.now in
    comes_to g.H.Host.tells_image g.H.Host.tells_input g.H.Host.tells_said g.H.Host.now g.H.Host.clock g.H.Host.stopped c.args.store.now c.answer_parsed.new.store c.args.reader.now c.answer_parsed.new.reader c.args.host.now c.answer_parsed.new.host c.answer_parsed.result out
    (c.answer_parsed.ensures.comes line (tells_parsed c.args.store.now.kept line c.args.item.now c.in_ok-names.names c.parse_item.result names c.parse_item.ensures.computed tells) out
    (comes_of line c.args.store.now.bounds c.args.steps c.args.k (work_of c.args.store.now) c.args.item.now c.parse_item.result c.in_ok-names.names names
    c.parse_item.ensures.computed c.parse_item.ensures.tree c.parse_item.ensures.fault))

pub returns-clause-keeps : goal.returns-clause-keeps
returns-clause-keeps g c = keeps_of g.H.Host.tells_image g.H.Host.tells_input g.H.Host.tells_said g.H.Host.now g.H.Host.clock g.H.Host.stopped c.args.store.now c.answer_parsed.new.store c.args.reader.now c.answer_parsed.new.reader c.args.host.now c.answer_parsed.new.host c.answer_parsed.result c.answer_parsed.ensures.answered

pub returns-clause-told : goal.returns-clause-told
returns-clause-told g c =
    let kept = c.args.store.now.kept in
    or_else (HasTypeLine kept c.parse_item.result) _
    (has_line kept c.args.item.now c.in_ok-names.names c.parse_item.result (c.in_ok-names.ensures.names ∙ ap keys_of c.targets.ensures.targets) c.parse_item.ensures.computed c.parse_item.ensures.fault) (λ none. none) c.answer_parsed.ensures.told

pub returns-in_err-names-clause-told : goal.returns-in_err-names-clause-told
returns-in_err-names-clause-told g c = inr (search rules, record { store = refl; reader = refl; host = refl })
