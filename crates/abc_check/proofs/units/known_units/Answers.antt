use Rattle.std.proofs.Common.{◌≡◌, ◌∙◌, length, map, sym, subst, arith}
use Rattle.std.proofs.lemmas.List.{length-map}
use Rattle.abc_groups.specs.Program.{EachOnce, texts}
use Rattle.abc_principal.specs.Exact.{Known, cuts_of}
use Rattle.abc_check.specs.inner.Groupwise.{KnowsGroups}
use Rattle.abc_check.proofs.Finding.{each_once}
use Rattle.abc_check.proofs.Knowing.{none_known, all_there, all_known, groups_of, group_low, group_is}
use Rattle.abc_fewer.proofs.Nodes.{nodes_called}
use Rattle.abc_unify.proofs.Faults.{clash_told}
use Rattle.abc_check.proofs.units.known_units.Goals as goal

pub groups-requires : goal.groups-requires
groups-requires c = subst EachOnce (sym (c.deref.ensures.value ∙ c.in_ok-graph.ensures)) (each_once (cuts_of c.args.members.now) c.requires)

pub loop-group-init : goal.loop-group-init
loop-group-init c = λ spelled.
    let w = cuts_of c.args.members.now in
    subst (λ (known : Known). KnowsGroups w (map texts c.deref-group-items.result.now) 0 known) (sym c.new-known.ensures) (none_known w (map texts c.deref-group-items.result.now))

pub know_group-requires-clause-there : goal.know_group-requires-clause-there
know_group-requires-clause-there c =
    let w = cuts_of c.args.members.now in
    let items = c.deref-group-items.result.now in
    let k = c.loop-group.group-index in
    let are = groups_of w c.deref.result.now items c.in_ok-all.all.items (c.deref.ensures.value ∙ c.in_ok-graph.ensures) c.deref-group-items.ensures.value c.in_ok-all.ensures.groups in
    all_there w c.requires (map texts items) k c.as_slice.result.now are (group_low items k c.loop-group-test.true) (group_is items k c.group-item.result c.as_slice.result.now c.loop-group-test.true c.group-item.is c.as_slice.ensures)

pub returns-in_err-know_group-clause-clash : goal.returns-in_err-know_group-clause-clash
returns-in_err-know_group-clause-clash c = λ e spelled values typable.
    let w = cuts_of c.args.members.now in
    let items = c.deref-group-items.result.now in
    let k = c.loop-group.group-index in
    let are = groups_of w c.deref.result.now items c.in_ok-all.all.items (c.deref.ensures.value ∙ c.in_ok-graph.ensures) c.deref-group-items.ensures.value c.in_ok-all.ensures.groups in
    c.know_group.ensures.clash (clash_told c.know_group.result c.from_residual-in_err-know_group.result c.in_err-know_group.field-0.0 c.in_err-know_group.was c.from_residual-in_err-know_group.ensures e) spelled (map texts items) k are (group_low items k c.loop-group-test.true) (group_is items k c.group-item.result c.as_slice.result.now c.loop-group-test.true c.group-item.is c.as_slice.ensures)
    (c.loop-group.invariant spelled) values typable

pub loop-group-preserved : goal.loop-group-preserved
loop-group-preserved c = λ spelled.
    let w = cuts_of c.args.members.now in
    let items = c.deref-group-items.result.now in
    let k = c.loop-group.group-index in
    let are = groups_of w c.deref.result.now items c.in_ok-all.all.items (c.deref.ensures.value ∙ c.in_ok-graph.ensures) c.deref-group-items.ensures.value c.in_ok-all.ensures.groups in
    c.in_ok-know_group.ensures.ok spelled (map texts items) k are (group_low items k c.loop-group-test.true) (group_is items k c.group-item.result c.as_slice.result.now c.loop-group-test.true c.group-item.is c.as_slice.ensures)
    (c.loop-group.invariant spelled)

pub returns-clause-ok : goal.returns-clause-ok
returns-clause-ok c = λ spelled.
    let w = cuts_of c.args.members.now in
    let items = c.deref-group-items.result.now in
    let k = c.loop-group.group-index in
    let are = groups_of w c.deref.result.now items c.in_ok-all.all.items (c.deref.ensures.value ∙ c.in_ok-graph.ensures) c.deref-group-items.ensures.value c.in_ok-all.ensures.groups in
    let all : k ≡ length (map texts items) = omega (arith, c.loop-group-test.false, c.loop-group.auto.group-index-end, length-map items texts) in
    all_known w c.requires spelled nodes_called (map texts items) are c.loop-group.known (subst (λ n. KnowsGroups w (map texts items) n c.loop-group.known) all (c.loop-group.invariant spelled))
