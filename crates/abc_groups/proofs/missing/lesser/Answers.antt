use Rattle.std.proofs.Common.{◌≡◌, ◌<◌, ◌∙◌, false, length, sym, ap, subst, arith, rules}
use Rattle.std.specs.declared.cmp.Ordering.TheVariants.{Greater}
use Rattle.abc_num.specs.Text.{text_cmp}
use Rattle.abc_tree.specs.Templates.{template_text}
use Rattle.abc_groups.specs.Program.{texts}
use Rattle.abc_groups.specs.inner.Found.{name_of}
use Rattle.abc_groups.specs.inner.Least.{IsLeast, IsLeastAt}
use Rattle.abc_groups.proofs.Leasts.{away_read, least_first, least_new, name_read}
use Rattle.abc_groups.proofs.missing.lesser.Goals as goal

pub returns-in-None : goal.returns-in-None
returns-in-None c =
    let ts = c.args.explored.now.templates.items in
    let there = c.args.explored.now.there.items in
    let off : c.index.result.now ≡ false = search rules in
    least_first (texts ts) there c.args.i (away_read there c.args.i c.index.result.now (omega (arith, c.requires.inside, c.requires.as_many)) c.index.ensures off)
    (subst (IsLeast (texts ts) there c.args.i) c.in-None.is c.requires.best)

pub returns-in-Greater : goal.returns-in-Greater
returns-in-Greater c =
    let ts = c.args.explored.now.templates.items in
    let there = c.args.explored.now.there.items in
    let off : c.index.result.now ≡ false = search rules in
    let l : IsLeastAt (texts ts) there c.args.i c.in-Some.b = subst (IsLeast (texts ts) there c.args.i) c.in-Some.is c.requires.best in
    let low : c.in-Some.b < length ts = omega (arith, l.0, c.requires.inside) in
    let more : text_cmp (name_of (texts ts) c.in-Some.b) (name_of (texts ts) c.args.i) ≡ Greater =
    ap (λ x. text_cmp x (name_of (texts ts) c.args.i)) (name_read ts c.in-Some.b c.index-in-Some.result.now low c.index-in-Some.ensures)
    ∙ ap (text_cmp (template_text c.index-in-Some.result.now)) (name_read ts c.args.i c.index-in-Some-2.result.now c.requires.inside c.index-in-Some-2.ensures) ∙ sym c.cmp.ensures ∙ c.in-Greater.is in
    least_new (texts ts) there c.args.i c.in-Some.b (away_read there c.args.i c.index.result.now (omega (arith, c.requires.inside, c.requires.as_many)) c.index.ensures off) more l
