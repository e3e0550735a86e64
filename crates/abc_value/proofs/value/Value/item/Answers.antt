use Rattle.std.proofs.Common.{◌<◌, length, get_or, slice_get, sym, ap, ◌∙◌, subst, arith, inl, refl, Some, Err, [], ◌∷◌}
use Rattle.std.proofs.lemmas.Result.{err_from_is_err_and}
use Rattle.std.proofs.lemmas.List.{length-map}
use Rattle.std.proofs.lemmas.Option.{slice_get_read}
use Rattle.abc_value.specs.Tree.{text}
use Rattle.abc_value.specs.Regular.{IsCharacter}
use Rattle.abc_value.specs.Items.{elements_of, item_of}
use Rattle.abc_num.specs.Number.{whole_of}
use Rattle.abc_value.specs.View.{node_tree}
use Rattle.abc_value.proofs.trees.Rows.{listed_trees}
use Rattle.abc_value.proofs.trees.Making.{text_small}
use Rattle.abc_value.proofs.trees.Itemised.{found_in, fault_in, copy_answer, small_answer, element_is, characters_at, text_characters, character_at, associate_at, associates_count}
use Rattle.abc_value.proofs.value.Value.item.Goals as goal

pub returns-in_err-place : goal.returns-in_err-place
returns-in_err-place c =
    let p = err_from_is_err_and c.from_residual.result c.from_residual.ensures.1 in
    inl (p.1 ∙ ap Err p.2 ∙ sym (fault_in c.args.self.now c.args.i.now c.len.result c.in_err-place.field-0.0 c.requires c.len.ensures.length c.in_err-place.ensures))

pub text-requires : goal.text-requires
text-requires c =
    let b = c.in-Text.codes.value.items in
    let is = ap (λ t. length (elements_of t)) (sym c.self.view_is ∙ ap node_tree c.in-Text.is) in
    let f = found_in c.args.self.now c.args.i.now c.len.result c.in_ok-place.place c.requires c.len.ensures.length c.in_ok-place.ensures in
    let inside : c.in_ok-place.place < length b = omega (arith, f.inside, is, length-map b (λ d. text (d ∷ []))) in
    let here = ap (λ v. v.items) c.deref-in-Text.ensures in
    let character = characters_at b c.in_ok-place.place c.index.result.now (text_characters b (node_tree c.self.inside.node) (ap node_tree c.in-Text.is) c.self.invariant.2) inside in
    (subst IsCharacter (sym c.index.ensures) (subst (λ ds. IsCharacter (get_or ds c.in_ok-place.place c.index.result.now)) (sym here) character), tt)

pub index-requires-in-List : goal.index-requires-in-List
index-requires-in-List c =
    let f = found_in c.args.self.now c.args.i.now c.len.result c.in_ok-place.place c.requires c.len.ensures.length c.in_ok-place.ensures in
    let is = ap (λ t. length (elements_of t)) (sym c.self.view_is ∙ ap node_tree c.in-List.is) in
    omega (arith, f.inside, is, ap length (listed_trees c.in-List.parts))

pub index-requires-in-Table : goal.index-requires-in-Table
index-requires-in-Table c =
    let es = c.in-Table.entries in
    let f = found_in c.args.self.now c.args.i.now c.len.result c.in_ok-place.place c.requires c.len.ensures.length c.in_ok-place.ensures in
    let is = ap (λ t. length (elements_of t)) (sym c.self.view_is ∙ ap node_tree c.in-Table.is) in
    omega (arith, f.inside, is, associates_count es)

pub returns-in-Text : goal.returns-in-Text
returns-in-Text c =
    let b = c.in-Text.codes.value.items in
    let k = c.in_ok-place.place in
    let f = found_in c.args.self.now c.args.i.now c.len.result k c.requires c.len.ensures.length c.in_ok-place.ensures in
    let is = ap elements_of (sym c.self.view_is ∙ ap node_tree c.in-Text.is) in
    let read = c.index.ensures ∙ ap (λ v. get_or v.items k c.index.result.now) c.deref-in-Text.ensures in
    let at = ap (λ xs. slice_get xs k) is ∙ character_at b k c.index.result.now (omega (arith, f.inside, ap length is, length-map b (λ d. text (d ∷ [])))) ∙ ap (λ d. Some (text (d ∷ []))) (sym read) in
    small_answer (item_of c.args.self.now c.args.i.now) (text (c.index.result.now ∷ [])) c.text.result (element_is (elements_of c.args.self.now) (whole_of c.args.i.now) k (text (c.index.result.now ∷ [])) f at) (text_small (c.index.result.now ∷ []) (omega arith)) c.text.ensures.value c.text.ensures.sizes

pub returns-in-List : goal.returns-in-List
returns-in-List c =
    let xs = c.in-List.parts in
    let k = c.in_ok-place.place in
    let f = found_in c.args.self.now c.args.i.now c.len.result k c.requires c.len.ensures.length c.in_ok-place.ensures in
    let is = ap elements_of (sym c.self.view_is ∙ ap node_tree c.in-List.is) ∙ listed_trees xs in
    let at = ap (λ ys. slice_get ys k) is ∙ slice_get_read xs (length xs) k c.index-in-List.result.now refl (omega (arith, f.inside, ap length is)) c.index-in-List.ensures in
    copy_answer (item_of c.args.self.now c.args.i.now) c.index-in-List.result.now c.copy.result (element_is (elements_of c.args.self.now) (whole_of c.args.i.now) k c.index-in-List.result.now f at) c.copy.ensures.ok c.copy.ensures.err

pub returns-in-Table : goal.returns-in-Table
returns-in-Table c =
    let es = c.in-Table.entries in
    let k = c.in_ok-place.place in
    let f = found_in c.args.self.now c.args.i.now c.len.result k c.requires c.len.ensures.length c.in_ok-place.ensures in
    let is = ap elements_of (sym c.self.view_is ∙ ap node_tree c.in-Table.is) in
    let at = ap (λ ys. slice_get ys k) is ∙ associate_at es k c.index-in-Table.result.now (omega (arith, f.inside, ap length is, associates_count es)) c.index-in-Table.ensures in
    copy_answer (item_of c.args.self.now c.args.i.now) c.index-in-Table.result.now.associate c.copy-in-Table.result (element_is (elements_of c.args.self.now) (whole_of c.args.i.now) k c.index-in-Table.result.now.associate f at) c.copy-in-Table.ensures.ok c.copy-in-Table.ensures.err
