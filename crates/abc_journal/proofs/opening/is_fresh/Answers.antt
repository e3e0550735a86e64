use Rattle.std.proofs.Common.{◌≡◌, sym, ◌∙◌, arith}
use Rattle.std.proofs.lemmas.List.{take_all}
use Rattle.std.proofs.lemmas.Slice.Eq.{slice_eq-Decides}
use Rattle.std.proofs.lemmas.Bool.Decides.{Decides-eqb}
use Rattle.abc_journal.specs.Image.{fresh_image}
use Rattle.abc_journal.proofs.opening.is_fresh.Goals as goal

pub returns-clause-fresh : goal.returns-clause-fresh
returns-clause-fresh g c told =
    let image = (g.H.Host.now c.args.host.now).image in
    let size = c.requires.size told in
    let is : c.read_at.new.buf ≡ image = c.in_ok-read_at.ensures.bytes told ∙ take_all 65 image (omega (arith, size)) in
    let d = slice_eq-Decides Decides-eqb c.read_at.new.buf fresh_image c.eq.result c.eq.ensures in
    (λ same. sym is ∙ d.0 same, λ fresh. d.1 (is ∙ fresh))
