use Rattle.std.proofs.Common.{rules, ◌≡◌, ◌++◌, [], ◌∷◌, length, Ok, ◌+◌, ◌<◌, refl, sym, ◌∙◌, ap, subst, arith}
use Rattle.abc_outside.specs.Stop.{written}
use Rattle.abc_journal.specs.Image.{behind_gate, opened}
use Rattle.abc_journal.specs.Journal.{HasLayout, need_of, after_record}
use Rattle.abc_journal.proofs.Image.{has_payloads}
use Rattle.abc_journal.proofs.Append.{gate_within, length-staged, during_first, during_both, written_gate, open_kept, has_layout}
use Rattle.abc_journal.proofs.Full.{no_record}
use Rattle.abc_journal.proofs.journal.Journal.append.Given.{Over}
use Rattle.abc_journal.proofs.journal.Journal.append.Goals.{In_ok-write_through}
use Rattle.abc_journal.proofs.journal.Journal.append.Goals as goal

-- the journal's layout is that of the image
layout_of : (g : Over) (c : In_ok-write_through g) → g.H.Host.tells_image → HasLayout (g.H.Host.now c.args.host.now).image c.self.inside.layout
layout_of g c told = subst (λ v. HasLayout (g.H.Host.now c.args.host.now).image v.layout) (sym c.self.view_is) (c.requires.layout told)

-- the image with what stands behind the gate
staged : (g : Over) (c : In_ok-write_through g) → g.H.Host.tells_image → (g.H.Host.now c.write_through.new.host).image ≡ written (g.H.Host.now c.args.host.now).image (c.self.inside.layout.gate + 1) (behind_gate c.args.payload.now)
staged g c told =
    let bytes : c.deref.result.now ≡ behind_gate c.args.payload.now = search rules in
    c.in_ok-write_through.ensures.image told ∙ ap (λ b. written (g.H.Host.now c.args.host.now).image (c.self.inside.layout.gate + 1) b) bytes

pub write_through-requires : goal.write_through-requires
write_through-requires g c told =
    let h : HasLayout (g.H.Host.now c.args.host.now).image c.self.inside.layout = subst (λ v. HasLayout (g.H.Host.now c.args.host.now).image v.layout) (sym c.self.view_is) (c.requires.layout told) in
    let has = has_payloads _ _ h in
    gate_within _ _ has.0 h has.1 c.args.payload.now

pub write_through-requires-2 : goal.write_through-requires-2
write_through-requires-2 g c told =
    let mid = (goal.at.write_through-requires-2 g c).In_ok-write_through in
    let h = layout_of g mid told in
    let has = has_payloads _ _ h in
    let is = staged g mid told in
    omega (arith, ap length is, length-staged _ _ has.0 h has.1 c.args.payload.now, gate_within _ _ has.0 h has.1 c.args.payload.now)

pub returns-in_err-write_through-clause-stops : goal.returns-in_err-write_through-clause-stops
returns-in_err-write_through-clause-stops g c told quiet ps has =
    let image = (g.H.Host.now c.args.host.now).image in
    let h : HasLayout image c.self.inside.layout = subst (λ v. HasLayout image v.layout) (sym c.self.view_is) (c.requires.layout told) in
    during_first g.H.Host.clock g.H.Host.stopped _ _ ps h has c.args.payload.now _ c.args.host.now _ quiet (g.met.H.Host.says_now c.args.host.now) _ c.write_through.ensures.stops

pub returns-in_err-write_through-2-clause-stops : goal.returns-in_err-write_through-2-clause-stops
returns-in_err-write_through-2-clause-stops g c told quiet ps has =
    let mid = (goal.at.returns-in_err-write_through-2-clause-stops g c).In_ok-write_through in
    during_both g.H.Host.clock g.H.Host.stopped _ _ ps (layout_of g mid told) has c.args.payload.now _ c.args.host.now c.write_through.new.host quiet (g.met.H.Host.says_now c.args.host.now) _ c.write_through.ensures.stops
    (search rules) c.write_through-2.new.host _ (staged g mid told) c.in_ok-write_through.ensures.durable (λ i s stop. g.met.H.Host.says_now c.write_through.new.host i s stop ∙ c.write_through.ensures.rest.said) c.write_through-2.ensures.stops

pub returns-clause-stops : goal.returns-clause-stops
returns-clause-stops g c told quiet ps has =
    let mid = (goal.at.returns-clause-stops g c).In_ok-write_through in
    during_both g.H.Host.clock g.H.Host.stopped _ _ ps (layout_of g mid told) has c.args.payload.now _ c.args.host.now c.write_through.new.host quiet (g.met.H.Host.says_now c.args.host.now) _ c.write_through.ensures.stops
    (search rules) c.write_through-2.new.host _ (staged g mid told) c.in_ok-write_through.ensures.durable (λ i s stop. g.met.H.Host.says_now c.write_through.new.host i s stop ∙ c.write_through.ensures.rest.said) c.write_through-2.ensures.stops

pub returns-clause-kept : goal.returns-clause-kept
returns-clause-kept g c told ps has =
    let mid = (goal.at.returns-clause-kept g c).In_ok-write_through in
    let h = layout_of g mid told in
    let is = staged g mid told in
    let gate = written_gate _ _ ps h has c.args.payload.now _ (c.in_ok-write_through-2.ensures.image told ∙ ap (λ i. written i c.self.inside.layout.gate (1 ∷ [])) is) in
    subst (λ v. opened (g.H.Host.now c.write_through-2.new.host).image ≡ Ok (record { layout = after_record v.layout (length c.args.payload.now); payloads = ps ++ c.args.payload.now ∷ [] })) c.self.view_is
    (open_kept _ _ ps h has c.args.payload.now (search rules) _ gate.0 gate.1)

pub returns-clause-layout : goal.returns-clause-layout
returns-clause-layout g c told =
    let mid = (goal.at.returns-clause-layout g c).In_ok-write_through in
    let h = layout_of g mid told in
    let has = has_payloads _ _ h in
    let is = staged g mid told in
    let gate = written_gate _ _ has.0 h has.1 c.args.payload.now _ (c.in_ok-write_through-2.ensures.image told ∙ ap (λ i. written i c.self.inside.layout.gate (1 ∷ [])) is) in
    subst (λ l. HasLayout (g.H.Host.now c.write_through-2.new.host).image l) (sym c.with_record-self-inside.ensures) (has_layout _ _ has.0 h has.1 c.args.payload.now (search rules) _ gate.0 gate.1)

pub returns-then-need-self-clause-layouts : goal.returns-then-need-self-clause-layouts
returns-then-need-self-clause-layouts g c =
    let layout = c.args.self.now.layout in
    let bounds = c.args.self.now.bounds in
    let bytes = length c.args.payload.now in
    let past : bounds.image < need_of layout bytes = search rules in
    (record { layout = layout; need = need_of layout bytes }, no_record bounds layout bytes past, refl, search rules)
