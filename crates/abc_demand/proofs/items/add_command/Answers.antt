use Rattle.std.proofs.Common.{◌∙◌, ◌++◌, List, ap, subst, arith}
use Rattle.std.proofs.lemmas.Result.{on_ok_weaker}
use Rattle.abc_terms.specs.declared.demand.Demand.{Demand}
use Rattle.abc_unify.specs.Graphs.{IsUnsolvable}
use Rattle.abc_demand.specs.inner.Drafts.{Drafted, start}
use Rattle.abc_demand.proofs.Topping.{on_ok_both, command_done, command_refused, command_given}
use Rattle.abc_demand.proofs.items.add_command.Goals as goal

pub returns-clause-ok : goal.returns-clause-ok
returns-clause-ok c =
    let begun = c.new-draft.ensures ∙ ap start c.count.ensures.count in
    let asked = c.in_ok-add_command.ensures.asked in
    on_ok_both c.add.result c.add.ensures.count c.add.ensures.demands
    (λ count demands.
    command_done c.args.g.now c.new-draft.result c.add_command.new.self c.args.env.now c.add_command.new.env.targets begun c.requires c.count.ensures.made c.args.command.now c.args.upto asked c.add.new.g
    (omega (arith, count, c.finish-collected.ensures.made, asked.leads.first, asked.named.first, ap (λ (d : Drafted). d.first) begun))
    (demands ∙ ap (λ (ds : List Demand). c.args.g.now.demands ++ ds) c.finish-collected.ensures.demands))

pub returns-clause-given : goal.returns-clause-given
returns-clause-given c =
    let begun = c.new-draft.ensures ∙ ap start c.count.ensures.count in
    let asked = c.in_ok-add_command.ensures.asked in
    on_ok_weaker c.add.result
    (λ count.
    command_given c.args.g.now c.new-draft.result c.add_command.new.self c.args.env.now c.add_command.new.env.targets begun c.requires c.count.ensures.made c.args.command.now c.args.upto asked c.add.new.g
    (omega (arith, count, c.finish-collected.ensures.made, asked.leads.first, asked.named.first, ap (λ (d : Drafted). d.first) begun)))
    c.add.ensures.count

pub returns-clause-grows : goal.returns-clause-grows
returns-clause-grows c = on_ok_weaker c.add.result (λ count. omega (arith, count)) c.add.ensures.count

pub returns-clause-clash : goal.returns-clause-clash
returns-clause-clash c = λ e.
    let begun = c.new-draft.ensures ∙ ap start c.count.ensures.count in
    command_refused c.args.g.now c.new-draft.result c.add_command.new.self c.args.env.now c.add_command.new.env.targets begun c.requires c.count.ensures.made c.args.command.now c.args.upto c.in_ok-add_command.ensures.asked
    (subst (λ (ds : List Demand). IsUnsolvable (c.args.g.now.demands ++ ds)) c.finish-collected.ensures.demands (c.add.ensures.clash e))
