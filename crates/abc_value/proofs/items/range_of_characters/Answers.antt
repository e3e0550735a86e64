use Rattle.std.proofs.Common.{◌+◌, List, ◌∷◌, [], get_or, sym, ap, ◌∙◌, subst, arith, inr, Err}
use Rattle.std.proofs.lemmas.Result.{err_from_is_err_and}
use Rattle.abc_value.specs.Tree.{Tree, trees, text}
use Rattle.abc_value.specs.Regular.{AllRegular, IsOrdered}
use Rattle.abc_value.specs.inner.Alike.{AreAlike}
use Rattle.abc_value.proofs.trees.Making.{text_small}
use Rattle.abc_value.proofs.trees.Itemised.{only_memory}
use Rattle.abc_value.proofs.lists.Ranges.{push_character, characters_end, characters_ordered}
use Rattle.abc_value.proofs.lists.Checking.{told_letters, letters_regular, characters_alike}
use Rattle.abc_value.proofs.items.range_of_characters.Goals as goal

pub returns-in_err-text : goal.returns-in_err-text
returns-in_err-text c =
    let p = err_from_is_err_and c.from_residual-in_err-text.result c.from_residual-in_err-text.ensures.1 in
    inr (p.1 ∙ ap Err (p.2 ∙ only_memory (text ((get_or c.args.b.now 0 0 + c.loop-k.k) ∷ [])) c.in_err-text.field-0.0 (text_small ((get_or c.args.b.now 0 0 + c.loop-k.k) ∷ []) (omega arith)) c.in_err-text.ensures.sizes))

pub insert-requires-clause-place : goal.insert-requires-clause-place
insert-requires-clause-place c = characters_end _ c.loop-k.k c.loop-k.items c.loop-k.invariant

pub loop-k-preserved : goal.loop-k-preserved
loop-k-preserved c =
    push_character (get_or c.args.b.now 0 0) c.loop-k.k c.loop-k.items c.insert.new.self c.in_ok-text.field-0 c.loop-k.invariant c.in_ok-text.ensures.value c.in_ok-insert.ensures.ok

pub alike_list-requires-clause-ordered : goal.alike_list-requires-clause-ordered
alike_list-requires-clause-ordered c =
    let P : List Tree → Type 0 = λ xs. IsOrdered (trees xs) in
    subst P (sym c.loop-k.invariant) (characters_ordered (get_or c.args.b.now 0 0) c.loop-k.k)

pub alike_list-requires-clause-regular : goal.alike_list-requires-clause-regular
alike_list-requires-clause-regular c =
    let one = told_letters _ _ _ c.in_ok-check_characters.ensures in
    let P : List Tree → Type 0 = λ xs. AllRegular (trees xs) in
    subst P (sym c.loop-k.invariant) (letters_regular c.args.b.now c.args.c.now c.loop-k.k c.requires.first c.requires.last (omega (arith, one.0)) (omega (arith, one.1)) (omega arith))

pub alike_list-requires-clause-alike : goal.alike_list-requires-clause-alike
alike_list-requires-clause-alike c = subst AreAlike (sym c.loop-k.invariant) (characters_alike _ c.loop-k.k)
