use Rattle.std.proofs.Common.{◌≡◌, [], ◌∷◌, List, ℕ, length, take, ◌+◌, ◌∙◌, ap, subst}
use Rattle.std.specs.Prelude.{if◌then◌else◌, ◌==◌}
use Rattle.abc_outside.specs.Stop.{written, Torn, Leaves}
use Rattle.abc_journal.specs.Checkpoint.{other_place}
use Rattle.abc_journal.proofs.Taken.{during_gate, during_cut}
use Rattle.abc_journal.proofs.checkpoint.publish.Given.{Over}
use Rattle.abc_journal.proofs.checkpoint.publish.Goals.{In_ok-write_through}
use Rattle.abc_journal.proofs.checkpoint.publish.Goals as goal

-- the image with the gate open
opens_gate : (g : Over) (c : In_ok-write_through g) → g.H.Host.tells_image → (g.H.Host.now c.write_through.new.host).image ≡ written (g.H.Host.now c.args.host.now).image (other_place c.args.layout.slot) (1 ∷ [])
opens_gate g c told = c.in_ok-write_through.ensures.image told ∙ ap (λ k. written (g.H.Host.now c.args.host.now).image k (1 ∷ [])) c.other_place.ensures

pub returns-in_err-write_through-clause-stops : goal.returns-in_err-write_through-clause-stops
returns-in_err-write_through-clause-stops g c told base ps it durable =
    during_gate base _ c.args.layout c.args.place c.args.payload.now ps it g.H.Host.clock g.H.Host.stopped _ c.args.host.now durable (g.met.H.Host.says_now c.args.host.now) _
    (subst (λ k. Leaves g.H.Host.clock g.H.Host.stopped c.args.host.now c.write_through.new.host (λ i s. (d : List ℕ) × g.H.Host.stopped c.args.host.now (g.H.Host.clock c.args.host.now) d s × Torn k 1 d i)) c.other_place.ensures c.write_through.ensures.stops)

pub returns-in_err-cut_behind-clause-stops : goal.returns-in_err-cut_behind-clause-stops
returns-in_err-cut_behind-clause-stops g c told base ps it durable =
    let mid = (goal.at.returns-in_err-cut_behind-clause-stops g c).In_ok-write_through in
    during_cut base _ c.args.layout c.args.place c.args.payload.now ps it g.H.Host.clock g.H.Host.stopped _ c.args.host.now durable (g.met.H.Host.says_now c.args.host.now) c.write_through.new.host
    (subst (λ k. Leaves g.H.Host.clock g.H.Host.stopped c.args.host.now c.write_through.new.host (λ i s. (d : List ℕ) × g.H.Host.stopped c.args.host.now (g.H.Host.clock c.args.host.now) d s × Torn k 1 d i)) c.other_place.ensures c.write_through.ensures.stops)
    _ _ (opens_gate g mid told) c.in_ok-write_through.ensures.durable (λ i s stop. g.met.H.Host.says_now c.write_through.new.host i s stop ∙ c.write_through.ensures.rest.said) c.cut_behind.ensures.stops

pub returns-clause-stops : goal.returns-clause-stops
returns-clause-stops g c told base ps it durable =
    let mid = (goal.at.returns-clause-stops g c).In_ok-write_through in
    during_cut base _ c.args.layout c.args.place c.args.payload.now ps it g.H.Host.clock g.H.Host.stopped _ c.args.host.now durable (g.met.H.Host.says_now c.args.host.now) c.write_through.new.host
    (subst (λ k. Leaves g.H.Host.clock g.H.Host.stopped c.args.host.now c.write_through.new.host (λ i s. (d : List ℕ) × g.H.Host.stopped c.args.host.now (g.H.Host.clock c.args.host.now) d s × Torn k 1 d i)) c.other_place.ensures c.write_through.ensures.stops)
    _ _ (opens_gate g mid told) c.in_ok-write_through.ensures.durable (λ i s stop. g.met.H.Host.says_now c.write_through.new.host i s stop ∙ c.write_through.ensures.rest.said) c.cut_behind.ensures.stops

pub returns-clause-image : goal.returns-clause-image
returns-clause-image g c told =
    let mid = (goal.at.returns-clause-image g c).In_ok-write_through in
    c.in_ok-cut_behind.ensures.image told ∙ ap (λ (l : List ℕ). if c.args.place == 64 then take (c.args.place + 10 + length c.args.payload.now) l else l) (opens_gate g mid told)
