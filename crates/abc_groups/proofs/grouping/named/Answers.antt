use Rattle.std.proofs.Common.{◌≡◌, ◌∙◌, ◌↔◌, ◌<◌, ◌+◌, ◌∷◌, [], length, map, take, sym, ap, subst}
use Rattle.std.specs.List.{All, Contains}
use Rattle.std.proofs.lemmas.List.{get_or_read, map-append}
use Rattle.std.proofs.lemmas.List.Elements.{All-push}
use Rattle.abc_tree.specs.Ordered.{RiseBy}
use Rattle.abc_tree.specs.declared.templates.Template.{Template}
use Rattle.abc_groups.specs.Program.{texts}
use Rattle.abc_groups.specs.inner.Explored.{row_of}
use Rattle.abc_groups.specs.inner.Found.{name_of}
use Rattle.abc_groups.specs.inner.Named.{AreNamed}
use Rattle.abc_groups.proofs.Members.{named_next}
use Rattle.abc_groups.proofs.grouping.named.Goals as goal

pub members-requires : goal.members-requires
members-requires c =
    let i = c.loop-row.row-index in
    let e : c.as_slice.result.now ≡ row_of c.args.numbers.now i = c.as_slice.ensures ∙ get_or_read c.args.numbers.now i c.row-item.result c.loop-row-test.true c.row-item.is [] in
    subst (λ row. All (λ k. k < length c.args.templates.now) row) (sym e) (c.requires i)

pub loop-row-preserved : goal.loop-row-preserved
loop-row-preserved c =
    let names = texts c.args.templates.now in
    let gs = c.loop-row.groups.items in
    let g = c.in_ok-in_order.field-0 in
    let row : texts c.deref.result.now ≡ map (name_of names) c.row-item.result = ap texts c.deref.ensures.value ∙ c.in_ok-group.ensures ∙ ap (map (name_of names)) c.as_slice.ensures in
    record {
      named = subst (λ all. AreNamed names (take (c.loop-row.row-index + 1) c.args.numbers.now) all) (sym (ap (map texts) c.in_ok-push.ensures.items ∙ map-append texts gs (g ∷ [])))
          (named_next names c.args.numbers.now c.loop-row.row-index c.row-item.result (map texts gs) (texts g) c.loop-row-test.true c.row-item.is
          (λ x. subst (λ z. Contains (texts g) x ↔ Contains z x) row (c.in_ok-in_order.ensures.same x)) c.loop-row.invariant.named);
      rising = subst (λ all. All (RiseBy (λ (t : Template). t)) all) (sym c.in_ok-push.ensures.items) (All-push (RiseBy (λ (t : Template). t)) gs g c.loop-row.invariant.rising c.in_ok-in_order.ensures.rising);
    }
