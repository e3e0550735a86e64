use Rattle.std.proofs.Common.{◌≡◌, ◌<◌, Some, not, length, is_some, sym, subst, ap, ◌∙◌, arith}
use Rattle.abc_acts.specs.inner.Changing.{IsFirstOf}
use Rattle.abc_acts.proofs.Steps.{first_within, get_there, marked_not, marked_so}
use Rattle.abc_acts.proofs.changes.mark_in.Goals as goal

pub index-requires : goal.index-requires
index-requires c =
    let l : c.in-Some.place < length c.args.formals.now.items = first_within c.args.name c.in-Some.place c.args.formals.now.items (subst (λ fs. IsFirstOf c.args.name c.in-Some.place fs) c.deref.ensures.value c.in-Some.ensures.some) in omega arith

pub index_mut-requires : goal.index_mut-requires
index_mut-requires c =
    let l : c.in-Some.place < length c.args.formals.now.items = first_within c.args.name c.in-Some.place c.args.formals.now.items (subst (λ fs. IsFirstOf c.args.name c.in-Some.place fs) c.deref.ensures.value c.in-Some.ensures.some) in omega arith

pub returns-then-is_none : goal.returns-then-is_none
returns-then-is_none c =
    let fs = c.args.formals.now.items in
    let first : IsFirstOf c.args.name c.in-Some.place fs = subst (λ fs. IsFirstOf c.args.name c.in-Some.place fs) c.deref.ensures.value c.in-Some.ensures.some in
    marked_not c.args.name c.in-Some.place fs c.index.result.now first (get_there fs c.in-Some.place c.index.result.now (first_within c.args.name c.in-Some.place fs first) c.index.ensures) (c.is_none.ensures ∙ ap not c.if-is_none.true)

pub returns : goal.returns
returns c =
    let fs = c.args.formals.now.items in
    let first : IsFirstOf c.args.name c.in-Some.place fs = subst (λ fs. IsFirstOf c.args.name c.in-Some.place fs) c.deref.ensures.value c.in-Some.ensures.some in
    let inside = first_within c.args.name c.in-Some.place fs first in
    let one = get_there fs c.in-Some.place c.index.result.now inside c.index.ensures in
    let two = get_there fs c.in-Some.place c.index_mut.result.now inside c.index_mut.ensures.value in
    let both : Some c.index.result.now ≡ Some c.index_mut.result.now = sym one ∙ two in
    let same : c.index.result.now ≡ c.index_mut.result.now = cc in
    marked_so c.args.name c.in-Some.place fs c.index_mut.result.now first two (ap (λ f. is_some f.address) (sym same) ∙ c.is_none.ensures ∙ ap not c.if-is_none.false)
