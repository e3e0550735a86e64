use Rattle.std.proofs.Common.{◌∙◌, sym, ap, subst, false, List}
use Rattle.std.specs.List.{insert}
use Rattle.abc_tree.specs.Ordered.{RiseBy}
use Rattle.abc_tree.specs.inner.Search.{IsAt, IsGap}
use Rattle.abc_tree.specs.declared.templates.Template.{Template}
use Rattle.abc_tree.proofs.Rising.{older_at, placed_in_gap, rise_placed}
use Rattle.abc_tree.proofs.called.Called.add.Goals as goal

pub place_of-requires : goal.place_of-requires
place_of-requires c = subst (λ (ts : List Template). RiseBy (λ t. t) ts) (sym c.deref.ensures.value) c.self.invariant

pub returns-in-Ok : goal.returns-in-Ok
returns-in-Ok c =
    let same = c.deref.ensures.value ∙ c.self.view_is in
    let rising = subst (λ (ts : List Template). RiseBy (λ t. t) ts) c.self.view_is c.self.invariant in
    sym (older_at (λ t. t) c.args.self.now c.args.t.now c.in-Ok.field-0 rising (subst (λ (ts : List Template). IsAt (λ t. t) ts c.args.t.now c.in-Ok.field-0) same c.in-Ok.ensures.found))

pub returns-in_ok-insert-in-Err : goal.returns-in_ok-insert-in-Err
returns-in_ok-insert-in-Err c =
    let same = c.deref.ensures.value ∙ c.self.view_is in
    c.in_ok-insert-in-Err.ensures.items ∙ ap (λ ts. insert ts c.in-Err.at c.in_ok-copy-in-Err.copy) c.self.view_is ∙ ap (λ t. insert c.args.self.now c.in-Err.at t) c.in_ok-copy-in-Err.ensures
    ∙ sym (placed_in_gap (λ t. t) false c.args.self.now c.args.t.now c.in-Err.at (subst (λ (ts : List Template). IsGap (λ t. t) ts c.args.t.now c.in-Err.at) same c.in-Err.ensures.absent))

pub invariant_of-self-in-Err : goal.invariant_of-self-in-Err
invariant_of-self-in-Err c =
    let rising = subst (λ (ts : List Template). RiseBy (λ t. t) ts) c.self.view_is c.self.invariant in
    subst (λ (ts : List Template). RiseBy (λ t. t) ts) (sym (returns-in_ok-insert-in-Err c)) (rise_placed (λ t. t) false c.args.t.now c.args.self.now rising)
