use Rattle.std.proofs.Common.{◌≡◌, ◌∙◌, ◌<◌, length, map, sym, ap, subst}
use Rattle.std.specs.List.{All}
use Rattle.std.proofs.lemmas.Result.{IfOk-weaker}
use Rattle.abc_groups.specs.Groups.{AreGroups}
use Rattle.abc_groups.specs.Program.{entry_texts, program_of, texts}
use Rattle.abc_groups.specs.inner.Explored.{row_of}
use Rattle.abc_groups.specs.inner.Named.{AreNamed}
use Rattle.abc_groups.specs.inner.Search.{AreNumberGroups}
use Rattle.abc_groups.proofs.Leasts.{length_texts}
use Rattle.abc_groups.proofs.Members.{away_alone, covers_entries, groups_named, members_in}
use Rattle.abc_groups.proofs.grouping.groups.Goals as goal

pub number_groups-requires-clause-away : goal.number_groups-requires-clause-away
number_groups-requires-clause-away c =
    let e = c.in_ok-explored.explored in
    let whole : length e.rows.items ≡ length (texts e.templates.items) = c.in_ok-explored.ensures.whole ∙ sym (length_texts e.templates.items) in
    rw (c.deref-2.ensures.value, c.deref-3.ensures.value) (away_alone _ _ (texts e.templates.items) e.rows.items e.there.items c.in_ok-explored.ensures.explored whole)

pub named-requires : goal.named-requires
named-requires c =
    let e = c.in_ok-explored.explored in
    let ts = e.templates.items in
    let whole : length e.rows.items ≡ length (texts ts) = c.in_ok-explored.ensures.whole ∙ sym (length_texts ts) in
    let n : AreNumberGroups e.rows.items e.there.items c.in_ok-numbers.numbers.items = rw (c.deref-2.ensures.value, c.deref-3.ensures.value) at c.in_ok-numbers.ensures in
    let seeds : texts c.deref.result.now ≡ entry_texts c.args.graph.now = ap texts c.deref.ensures.value ∙ c.in_ok-entries.ensures in
    rw (c.deref-4.ensures.value, c.deref-5.ensures.value) (λ g. subst (λ k. All (λ i. i < k) (row_of c.in_ok-numbers.numbers.items g)) (length_texts ts)
    (members_in (program_of c.in_ok-indexed.indexed.entries.now) (texts c.deref.result.now) (texts ts) e.rows.items e.there.items c.in_ok-explored.ensures.explored whole c.in_ok-explored.ensures.different
    (covers_entries c.args.graph.now c.in_ok-indexed.indexed.entries.now (texts c.deref.result.now) c.in_ok-indexed.ensures.entries seeds) c.in_ok-numbers.numbers.items n g))

pub returns-clause-groups : goal.returns-clause-groups
returns-clause-groups c =
    let e = c.in_ok-explored.explored in
    let ts = e.templates.items in
    let whole : length e.rows.items ≡ length (texts ts) = c.in_ok-explored.ensures.whole ∙ sym (length_texts ts) in
    let n : AreNumberGroups e.rows.items e.there.items c.in_ok-numbers.numbers.items = rw (c.deref-2.ensures.value, c.deref-3.ensures.value) at c.in_ok-numbers.ensures in
    let seeds : texts c.deref.result.now ≡ entry_texts c.args.graph.now = ap texts c.deref.ensures.value ∙ c.in_ok-entries.ensures in
    IfOk-weaker c.named.result (λ groups. AreNamed (texts c.deref-4.result.now) c.deref-5.result.now (map texts groups.items)) (λ groups. AreGroups (program_of c.args.graph.now) (map texts groups.items))
    (λ groups named.
    let fine : AreNamed (texts ts) c.in_ok-numbers.numbers.items (map texts groups.items) = subst (λ ns. AreNamed (texts ts) ns (map texts groups.items)) c.deref-5.ensures.value (subst (λ us. AreNamed (texts us) c.deref-5.result.now (map texts groups.items)) c.deref-4.ensures.value named) in
    subst (λ g. AreGroups (program_of g) (map texts groups.items)) c.in_ok-indexed.ensures.entries
    (groups_named (program_of c.in_ok-indexed.indexed.entries.now) (texts c.deref.result.now) (texts ts) e.rows.items e.there.items c.in_ok-explored.ensures.explored whole c.in_ok-explored.ensures.different
    (covers_entries c.args.graph.now c.in_ok-indexed.indexed.entries.now (texts c.deref.result.now) c.in_ok-indexed.ensures.entries seeds) c.in_ok-numbers.numbers.items n (map texts groups.items) fine))
    c.named.ensures.named
