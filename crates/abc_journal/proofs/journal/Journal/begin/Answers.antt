use Rattle.std.proofs.Common.{rules, ◌≡◌, ◌<◌, [], length, Ok, Err, sym, ◌∙◌, ap, subst, arith}
use Rattle.abc_outside.proofs.Leaves.{one_call, run_after}
use Rattle.abc_journal.specs.Image.{opened, read_image}
use Rattle.abc_journal.specs.Journal.{HasLayout}
use Rattle.abc_journal.proofs.Image.{settled_short, settled_long}
use Rattle.abc_journal.proofs.Begin.{opened_short, fresh_layout, fresh_has_layout, opened_long, long_has_layout, begin_reads, begin_asks, begin_writes, passed_on}
use Rattle.abc_journal.proofs.journal.Journal.begin.Goals as goal

pub returns-in_err-size-clause-stops : goal.returns-in_err-size-clause-stops
returns-in_err-size-clause-stops g c told quiet ps has =
    begin_reads g.H.Host.clock g.H.Host.stopped _ _ ps has c.args.host.now quiet (g.met.H.Host.says_now c.args.host.now) c.size.new.self
    (one_call g.H.Host.clock g.H.Host.stopped c.args.host.now c.size.new.self _ c.size.ensures.time c.size.ensures.stop)

pub returns-in_err-write_fresh-clause-stops : goal.returns-in_err-write_fresh-clause-stops
returns-in_err-write_fresh-clause-stops g c told quiet ps has =
    let size = c.in_ok-size.ensures.size told in
    begin_writes g.H.Host.clock g.H.Host.stopped _ _ ps has c.args.host.now quiet (g.met.H.Host.says_now c.args.host.now) c.size.new.self c.write_fresh.new.host
    c.size.ensures.time c.size.ensures.stop (omega (arith, size)) c.write_fresh.ensures.stops

pub returns-then-size-clause-stops : goal.returns-then-size-clause-stops
returns-then-size-clause-stops g c told quiet ps has =
    let size = c.in_ok-size.ensures.size told in
    begin_writes g.H.Host.clock g.H.Host.stopped _ _ ps has c.args.host.now quiet (g.met.H.Host.says_now c.args.host.now) c.size.new.self c.write_fresh.new.host
    c.size.ensures.time c.size.ensures.stop (omega (arith, size)) c.write_fresh.ensures.stops

pub returns-then-size-clause-opened : goal.returns-then-size-clause-opened
returns-then-size-clause-opened g c told =
    let image = (g.H.Host.now c.args.host.now).image in
    let size = c.in_ok-size.ensures.size told in
    opened_short image (omega (arith, size)) ∙ ap (λ l. Ok (record { layout = l; payloads = [] })) (sym (ap (λ v. v.layout) c.with_layout.ensures))
    ∙ ap (λ ps. Ok (record { layout = c.with_layout.result.layout; payloads = ps })) (sym c.new.ensures.items)

pub returns-then-size-clause-layout : goal.returns-then-size-clause-layout
returns-then-size-clause-layout g c told =
    subst (λ l. HasLayout (g.H.Host.now c.write_fresh.new.host).image l) (sym (ap (λ v. v.layout) c.with_layout.ensures))
    (subst (λ i. HasLayout i fresh_layout) (sym (c.in_ok-write_fresh.ensures.image told)) fresh_has_layout)

pub returns-then-size-clause-image : goal.returns-then-size-clause-image
returns-then-size-clause-image g c told =
    let image = (g.H.Host.now c.args.host.now).image in
    let size = c.in_ok-size.ensures.size told in
    c.in_ok-write_fresh.ensures.image told ∙ sym (settled_short image (omega (arith, size)))

pub returns-in_err-layout-clause-refused : goal.returns-in_err-layout-clause-refused
returns-in_err-layout-clause-refused g c told =
    let image = (g.H.Host.now c.args.host.now).image in
    let size = c.in_ok-size.ensures.size told in
    let long : 65 < length image = omega (arith, size) in
    let e : c.from_residual-in_err-layout.result ≡ Err c.in_err-layout.field-0.0 = search rules in
    passed_on c.read_image.result c.from_residual-in_err-layout.result c.in_err-layout.field-0.0 _ (λ at. opened image ≡ Err at) c.in_err-layout.was e
    (λ at wrong. opened_long image (Err at) long (ap read_image (sym c.size.ensures.image) ∙ wrong)) (c.read_image.ensures.refused told)

pub returns-in_err-layout-clause-stops : goal.returns-in_err-layout-clause-stops
returns-in_err-layout-clause-stops g c told quiet ps has =
    begin_asks g.H.Host.clock g.H.Host.stopped _ _ ps has c.args.host.now quiet (g.met.H.Host.says_now c.args.host.now) c.size.new.self c.read_image.new.host
    c.size.ensures.time c.size.ensures.stop c.read_image.ensures.stops

pub returns-clause-stops : goal.returns-clause-stops
returns-clause-stops g c told quiet ps has =
    begin_asks g.H.Host.clock g.H.Host.stopped _ _ ps has c.args.host.now quiet (g.met.H.Host.says_now c.args.host.now) c.size.new.self c.read_image.new.host
    c.size.ensures.time c.size.ensures.stop c.read_image.ensures.stops

pub returns-clause-opened : goal.returns-clause-opened
returns-clause-opened g c told =
    let image = (g.H.Host.now c.args.host.now).image in
    let size = c.in_ok-size.ensures.size told in
    opened_long image (Ok (record { layout = c.in_ok-layout.layout; payloads = c.in_ok-layout.payloads.items })) (omega (arith, size)) (ap read_image (sym c.size.ensures.image) ∙ c.in_ok-layout.ensures.opened told)
    ∙ ap (λ l. Ok (record { layout = l; payloads = c.in_ok-layout.payloads.items })) (sym (ap (λ v. v.layout) c.with_layout-2.ensures))

pub returns-clause-layout : goal.returns-clause-layout
returns-clause-layout g c told =
    let image = (g.H.Host.now c.args.host.now).image in
    let size = c.in_ok-size.ensures.size told in
    let same : (g.H.Host.now c.read_image.new.host).image ≡ image = c.read_image.ensures.image ∙ c.size.ensures.image in
    subst (λ l. HasLayout (g.H.Host.now c.read_image.new.host).image l) (sym (ap (λ v. v.layout) c.with_layout-2.ensures))
    (subst (λ i. HasLayout i c.in_ok-layout.layout) (sym same)
    (long_has_layout image (record { layout = c.in_ok-layout.layout; payloads = c.in_ok-layout.payloads.items }) (omega (arith, size)) (ap read_image (sym c.size.ensures.image) ∙ c.in_ok-layout.ensures.opened told)))

pub returns-clause-image : goal.returns-clause-image
returns-clause-image g c told =
    let image = (g.H.Host.now c.args.host.now).image in
    let size = c.in_ok-size.ensures.size told in
    c.read_image.ensures.image ∙ c.size.ensures.image ∙ sym (settled_long image (omega (arith, size)))

pub returns-in_err-write_fresh-clause-fresh : goal.returns-in_err-write_fresh-clause-fresh
returns-in_err-write_fresh-clause-fresh g c told is =
    run_after g.H.Host.clock g.H.Host.stopped c.args.host.now c.size.new.self c.write_fresh.new.host _ _
    (one_call g.H.Host.clock g.H.Host.stopped c.args.host.now c.size.new.self _ c.size.ensures.time c.size.ensures.stop)
    (c.write_fresh.ensures.fresh told (c.size.ensures.image ∙ is)) c.size.ensures.stop

pub returns-then-size-clause-fresh : goal.returns-then-size-clause-fresh
returns-then-size-clause-fresh g c told is =
    run_after g.H.Host.clock g.H.Host.stopped c.args.host.now c.size.new.self c.write_fresh.new.host _ _
    (one_call g.H.Host.clock g.H.Host.stopped c.args.host.now c.size.new.self _ c.size.ensures.time c.size.ensures.stop)
    (c.write_fresh.ensures.fresh told (c.size.ensures.image ∙ is)) c.size.ensures.stop
