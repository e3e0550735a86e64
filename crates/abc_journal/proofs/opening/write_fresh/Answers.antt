use Rattle.std.proofs.Common.{inr, ◌∙◌, ap, arith}
use Rattle.abc_outside.specs.Stop.{written}
use Rattle.abc_journal.specs.Image.{fresh_image}
use Rattle.abc_journal.proofs.Image.{written_fresh}
use Rattle.abc_journal.proofs.opening.write_fresh.Goals as goal

pub returns-clause-image : goal.returns-clause-image
returns-clause-image g c told =
    let image = (g.H.Host.now c.args.host.now).image in
    let size = c.requires.size told in
    c.in_ok-write_through.ensures.image told ∙ ap (λ i. written i 0 fresh_image) c.is_fresh.ensures.image ∙ written_fresh image (omega (arith, size, c.requires.short))

pub returns-clause-durable : goal.returns-clause-durable
returns-clause-durable g c told i s stop =
    let image = (g.H.Host.now c.args.host.now).image in
    let size = c.requires.size told in
    inr (c.in_ok-write_through.ensures.durable i s stop
    ∙ c.in_ok-write_through.ensures.image told ∙ ap (λ i. written i 0 fresh_image) c.is_fresh.ensures.image ∙ written_fresh image (omega (arith, size, c.requires.short)))
