use Rattle.std.proofs.Common.{◌+◌, [], ◌∷◌, List, ℕ, length, ◌∙◌, ap, arith}
use Rattle.abc_outside.specs.Stop.{written, Torn}
use Rattle.abc_outside.proofs.Leaves.{one_call, call_after}
use Rattle.abc_journal.proofs.Writes.{first_now, next_now, three_writes}
use Rattle.abc_journal.proofs.checkpoint.write_region.Given.{Over}
use Rattle.abc_journal.proofs.checkpoint.write_region.Goals.{After-write_at, After-write_at-2, After-write_at-3}
use Rattle.abc_journal.proofs.checkpoint.write_region.Goals as goal

-- what a stop leaves after the first write, the second and the third
first : (g : Over) (c : After-write_at g) → (i s : List ℕ) → g.H.Host.stopped c.write_at.new.self (g.H.Host.clock c.write_at.new.self) i s
    → (d : List ℕ) × g.H.Host.stopped c.args.host.now (g.H.Host.clock c.args.host.now) d s × Torn c.args.place (10 + length c.args.payload.now) d i
first g c =
    let nine = ap length c.region_head.ensures in
    first_now g.H.Host.clock g.H.Host.stopped c.args.host.now c.args.place (10 + length c.args.payload.now) c.write_at.new.self _ _ (omega arith) (omega (arith, nine)) c.write_at.ensures.stop

second : (g : Over) (c : After-write_at-2 g) → ((i s : List ℕ) → g.H.Host.stopped c.write_at.new.self (g.H.Host.clock c.write_at.new.self) i s
    → (d : List ℕ) × g.H.Host.stopped c.args.host.now (g.H.Host.clock c.args.host.now) d s × Torn c.args.place (10 + length c.args.payload.now) d i) → (i s : List ℕ) → g.H.Host.stopped c.write_at-2.new.self (g.H.Host.clock c.write_at-2.new.self) i s
    → (d : List ℕ) × g.H.Host.stopped c.args.host.now (g.H.Host.clock c.args.host.now) d s × Torn c.args.place (10 + length c.args.payload.now) d i
second g c so_far =
    next_now g.H.Host.clock g.H.Host.stopped c.args.host.now c.args.place (10 + length c.args.payload.now) c.write_at.new.self c.write_at-2.new.self _ _ (omega arith) (omega arith)
    so_far c.write_at-2.ensures.stop

third : (g : Over) (c : After-write_at-3 g) → ((i s : List ℕ) → g.H.Host.stopped c.write_at-2.new.self (g.H.Host.clock c.write_at-2.new.self) i s
    → (d : List ℕ) × g.H.Host.stopped c.args.host.now (g.H.Host.clock c.args.host.now) d s × Torn c.args.place (10 + length c.args.payload.now) d i) → (i s : List ℕ) → g.H.Host.stopped c.write_at-3.new.self (g.H.Host.clock c.write_at-3.new.self) i s
    → (d : List ℕ) × g.H.Host.stopped c.args.host.now (g.H.Host.clock c.args.host.now) d s × Torn c.args.place (10 + length c.args.payload.now) d i
third g c so_far =
    next_now g.H.Host.clock g.H.Host.stopped c.args.host.now c.args.place (10 + length c.args.payload.now) c.write_at-2.new.self c.write_at-3.new.self _ _ (omega arith) (omega arith)
    so_far c.write_at-3.ensures.stop

pub returns-in_err-write_at-clause-now : goal.returns-in_err-write_at-clause-now
returns-in_err-write_at-clause-now g c = first g (goal.at.returns-in_err-write_at-clause-now g c).After-write_at

pub returns-in_err-write_at-clause-stops : goal.returns-in_err-write_at-clause-stops
returns-in_err-write_at-clause-stops g c =
    one_call g.H.Host.clock g.H.Host.stopped c.args.host.now c.write_at.new.self _ c.write_at.ensures.time (first g (goal.at.returns-in_err-write_at-clause-stops g c).After-write_at)

pub returns-in_err-write_at-2-clause-now : goal.returns-in_err-write_at-2-clause-now
returns-in_err-write_at-2-clause-now g c = let at = goal.at.returns-in_err-write_at-2-clause-now g c in second g at.After-write_at-2 (first g at.After-write_at)

pub returns-in_err-write_at-2-clause-stops : goal.returns-in_err-write_at-2-clause-stops
returns-in_err-write_at-2-clause-stops g c =
    let one = (goal.at.returns-in_err-write_at-2-clause-stops g c).After-write_at in
    call_after g.H.Host.clock g.H.Host.stopped c.args.host.now c.write_at.new.self c.write_at-2.new.self _
    (one_call g.H.Host.clock g.H.Host.stopped c.args.host.now c.write_at.new.self _ c.write_at.ensures.time (first g one)) c.write_at-2.ensures.time
    (second g (goal.at.returns-in_err-write_at-2-clause-stops g c).After-write_at-2 (first g one))

pub returns-in_err-write_at-3-clause-now : goal.returns-in_err-write_at-3-clause-now
returns-in_err-write_at-3-clause-now g c = let at = goal.at.returns-in_err-write_at-3-clause-now g c in third g at.After-write_at-3 (second g at.After-write_at-2 (first g at.After-write_at))

pub returns-in_err-write_at-3-clause-stops : goal.returns-in_err-write_at-3-clause-stops
returns-in_err-write_at-3-clause-stops g c =
    let at = goal.at.returns-in_err-write_at-3-clause-stops g c in
    call_after g.H.Host.clock g.H.Host.stopped c.args.host.now c.write_at-2.new.self c.write_at-3.new.self _
    (call_after g.H.Host.clock g.H.Host.stopped c.args.host.now c.write_at.new.self c.write_at-2.new.self _
    (one_call g.H.Host.clock g.H.Host.stopped c.args.host.now c.write_at.new.self _ c.write_at.ensures.time (first g at.After-write_at)) c.write_at-2.ensures.time (second g at.After-write_at-2 (first g at.After-write_at)))
    c.write_at-3.ensures.time (third g at.After-write_at-3 (second g at.After-write_at-2 (first g at.After-write_at)))

pub returns-clause-now : goal.returns-clause-now
returns-clause-now g c = let at = goal.at.returns-clause-now g c in third g at.After-write_at-3 (second g at.After-write_at-2 (first g at.After-write_at))

pub returns-clause-stops : goal.returns-clause-stops
returns-clause-stops g c =
    let at = goal.at.returns-clause-stops g c in
    call_after g.H.Host.clock g.H.Host.stopped c.args.host.now c.write_at-2.new.self c.write_at-3.new.self _
    (call_after g.H.Host.clock g.H.Host.stopped c.args.host.now c.write_at.new.self c.write_at-2.new.self _
    (one_call g.H.Host.clock g.H.Host.stopped c.args.host.now c.write_at.new.self _ c.write_at.ensures.time (first g at.After-write_at)) c.write_at-2.ensures.time (second g at.After-write_at-2 (first g at.After-write_at)))
    c.write_at-3.ensures.time (third g at.After-write_at-3 (second g at.After-write_at-2 (first g at.After-write_at)))

pub returns-clause-image : goal.returns-clause-image
returns-clause-image g c told =
    let image = (g.H.Host.now c.args.host.now).image in
    let place = c.args.place in
    let payload = c.args.payload.now in
    c.in_ok-write_at-3.ensures.image told
    ∙ ap (λ (i : List ℕ). written i (place + 9 + length payload) (0 ∷ [])) (c.in_ok-write_at-2.ensures.image told ∙ ap (λ (i : List ℕ). written i (place + 9) payload) (c.in_ok-write_at.ensures.image told ∙ ap (λ (b : List ℕ). written image place b) c.region_head.ensures))
    ∙ three_writes image place payload (c.requires.place told)
