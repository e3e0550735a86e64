use Rattle.std.proofs.Common.{rules, ◌≡◌, true, [], ◌∷◌, List, ℕ, ◌∙◌, ap, subst, arith}
use Rattle.abc_outside.specs.Stop.{written, Torn, Leaves}
use Rattle.abc_journal.specs.Journal.{HasLayout}
use Rattle.abc_journal.proofs.Image.{has_payloads}
use Rattle.abc_journal.proofs.Keeping.{other_within, closing_done}
use Rattle.abc_journal.proofs.Taken.{during_closing}
use Rattle.abc_journal.proofs.checkpoint.close_other.Goals as goal

pub write_through-requires : goal.write_through-requires
write_through-requires g c told =
    let image = (g.H.Host.now c.args.host.now).image in
    let h : HasLayout image c.args.layout = c.requires.layout told in
    let has = has_payloads image c.args.layout h in
    omega (arith, c.other_place.ensures, other_within image c.args.layout has.0 h has.1)

pub returns-in_err-write_through-clause-stops : goal.returns-in_err-write_through-clause-stops
returns-in_err-write_through-clause-stops g c told quiet ps has =
    let both : c.args.layout.other ≡ true = search rules in
    during_closing g.H.Host.clock g.H.Host.stopped _ c.args.layout ps (c.requires.layout told) has _ c.args.host.now quiet (g.met.H.Host.says_now c.args.host.now) both _
    (subst (λ k. Leaves g.H.Host.clock g.H.Host.stopped c.args.host.now c.write_through.new.host (λ i s. (d : List ℕ) × g.H.Host.stopped c.args.host.now (g.H.Host.clock c.args.host.now) d s × Torn k 1 d i)) c.other_place.ensures c.write_through.ensures.stops)

pub returns-clause-stops : goal.returns-clause-stops
returns-clause-stops g c told quiet ps has =
    let both : c.args.layout.other ≡ true = search rules in
    during_closing g.H.Host.clock g.H.Host.stopped _ c.args.layout ps (c.requires.layout told) has _ c.args.host.now quiet (g.met.H.Host.says_now c.args.host.now) both _
    (subst (λ k. Leaves g.H.Host.clock g.H.Host.stopped c.args.host.now c.write_through.new.host (λ i s. (d : List ℕ) × g.H.Host.stopped c.args.host.now (g.H.Host.clock c.args.host.now) d s × Torn k 1 d i)) c.other_place.ensures c.write_through.ensures.stops)

pub returns-clause-layout : goal.returns-clause-layout
returns-clause-layout g c told =
    let image = (g.H.Host.now c.args.host.now).image in
    let h : HasLayout image c.args.layout = c.requires.layout told in
    let has = has_payloads image c.args.layout h in
    let both : c.args.layout.other ≡ true = search rules in
    (closing_done image c.args.layout has.0 h has.1 both _ (c.in_ok-write_through.ensures.image told ∙ ap (λ k. written image k (0 ∷ [])) c.other_place.ensures)).0

pub returns-clause-kept : goal.returns-clause-kept
returns-clause-kept g c told ps has =
    let image = (g.H.Host.now c.args.host.now).image in
    let both : c.args.layout.other ≡ true = search rules in
    (closing_done image c.args.layout ps (c.requires.layout told) has both _ (c.in_ok-write_through.ensures.image told ∙ ap (λ k. written image k (0 ∷ [])) c.other_place.ensures)).1

pub returns-clause-size : goal.returns-clause-size
returns-clause-size g c told =
    let image = (g.H.Host.now c.args.host.now).image in
    let h : HasLayout image c.args.layout = c.requires.layout told in
    let has = has_payloads image c.args.layout h in
    let both : c.args.layout.other ≡ true = search rules in
    (closing_done image c.args.layout has.0 h has.1 both _ (c.in_ok-write_through.ensures.image told ∙ ap (λ k. written image k (0 ∷ [])) c.other_place.ensures)).2
