use Rattle.std.proofs.Common.{◌+◌, List, ℕ, length, ap, arith}
use Rattle.abc_outside.specs.Stop.{Torn, Leaves}
use Rattle.abc_outside.proofs.Leaves.{weaken}
use Rattle.abc_journal.specs.Checkpoint.{other_place}
use Rattle.abc_journal.proofs.Image.{has_payloads}
use Rattle.abc_journal.proofs.Agrees.{torn_wider}
use Rattle.abc_journal.proofs.Renewed.{place_within, slot_within}
use Rattle.abc_journal.proofs.Taken.{during_region, during_slot}
use Rattle.abc_journal.proofs.checkpoint.stage.Given.{Over}
use Rattle.abc_journal.proofs.checkpoint.stage.Goals.{After-write_through}
use Rattle.abc_journal.proofs.checkpoint.stage.Goals as goal

pub write_region-requires-clause-place : goal.write_region-requires-clause-place
write_region-requires-clause-place g c told =
    let has = has_payloads _ _ (c.requires.layout told) in
    place_within _ c.args.layout has.0 (c.requires.layout told) has.1 c.requires.shut c.args.place c.args.payload.now c.requires.place

pub returns-in_err-write_region-clause-stops : goal.returns-in_err-write_region-clause-stops
returns-in_err-write_region-clause-stops g c told quiet ps has =
    during_region g.H.Host.clock g.H.Host.stopped _ c.args.layout ps (c.requires.layout told) has _ c.args.host.now quiet (g.met.H.Host.says_now c.args.host.now) c.requires.shut c.args.place c.args.payload.now c.requires.place
    c.write_region.new.host c.write_region.ensures.stops

pub write_through-requires : goal.write_through-requires
write_through-requires g c told =
    let has = has_payloads _ _ (c.requires.layout told) in
    let within = slot_within _ c.args.layout has.0 (c.requires.layout told) has.1 c.requires.shut c.args.place c.args.payload.now c.requires.place in
    omega (arith, within, c.other_place.ensures, ap length (c.in_ok-write_region.ensures.image told))

-- the second step, which is torn within the slot
in_slot : (g : Over) (c : After-write_through g) → Leaves g.H.Host.clock g.H.Host.stopped c.write_region.new.host c.write_through.new.host
    (λ i s. (d : List ℕ) × g.H.Host.stopped c.write_region.new.host (g.H.Host.clock c.write_region.new.host) d s × Torn (other_place c.args.layout.slot + 1) 16 d i)
in_slot g c =
    let count = ap length c.slot_bytes-slot.ensures in
    weaken g.H.Host.clock g.H.Host.stopped c.write_region.new.host c.write_through.new.host _ _ c.write_through.ensures.stops
    (λ i s from. (from.0, from.1, torn_wider _ _ (other_place c.args.layout.slot + 1) 16 from.0 i (omega (arith, c.other_place.ensures)) (omega (arith, c.other_place.ensures, count)) from.2))

pub returns-in_err-write_through-clause-stops : goal.returns-in_err-write_through-clause-stops
returns-in_err-write_through-clause-stops g c told quiet ps has =
    during_slot g.H.Host.clock g.H.Host.stopped _ c.args.layout ps (c.requires.layout told) has _ c.args.host.now quiet (g.met.H.Host.says_now c.args.host.now) c.requires.shut c.args.place c.args.payload.now c.requires.place
    c.write_region.new.host c.write_region.ensures.stops c.write_through.new.host c.write_region.ensures.now (in_slot g (goal.at.returns-in_err-write_through-clause-stops g c).After-write_through)

pub returns-clause-stops : goal.returns-clause-stops
returns-clause-stops g c told quiet ps has =
    during_slot g.H.Host.clock g.H.Host.stopped _ c.args.layout ps (c.requires.layout told) has _ c.args.host.now quiet (g.met.H.Host.says_now c.args.host.now) c.requires.shut c.args.place c.args.payload.now c.requires.place
    c.write_region.new.host c.write_region.ensures.stops c.write_through.new.host c.write_region.ensures.now (in_slot g (goal.at.returns-clause-stops g c).After-write_through)
