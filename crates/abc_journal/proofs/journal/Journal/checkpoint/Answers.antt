use Rattle.std.proofs.Common.{rules, ◌≡◌, List, [], ◌∷◌, ℕ, length, Ok, None, refl, sym, ◌∙◌, ap, subst, arith}
use Rattle.abc_journal.specs.Image.{payloads_of}
use Rattle.abc_journal.specs.Journal.{HasLayout}
use Rattle.abc_journal.specs.Checkpoint.{closed_image, room_for, behind_need, after_checkpoint, staged, published, image_with_checkpoint}
use Rattle.abc_journal.specs.inner.Steps.{other_closed, IsStaged}
use Rattle.abc_journal.specs.Commit.{placed}
use Rattle.abc_journal.proofs.Image.{has_payloads}
use Rattle.abc_journal.proofs.Keeping.{other_within}
use Rattle.abc_journal.proofs.Renewed.{length-all}
use Rattle.abc_journal.proofs.Taken.{published_opened, published_layout, in_turn, same_some}
use Rattle.abc_journal.proofs.journal.Journal.checkpoint.Given.{Over}
use Rattle.abc_journal.proofs.journal.Journal.checkpoint.Goals.{In_ok-stage}
use Rattle.abc_journal.proofs.journal.Journal.checkpoint.Goals as goal

-- the image was staged over the one whose other slot is closed
staged_is : (g : Over) (c : In_ok-stage g) → g.H.Host.tells_image → (ps : List (List ℕ)) → payloads_of (g.H.Host.now c.args.host.now).image ≡ Ok ps
    → IsStaged (g.H.Host.now c.close_other.new.host).image (g.H.Host.now c.stage.new.host).image c.with_other_closed-layout.result c.in-Some.place c.args.payload.now ps
staged_is g c told ps has = record {
  has = subst (λ l. HasLayout (g.H.Host.now c.close_other.new.host).image l) (sym c.with_other_closed-layout.ensures) (c.in_ok-close_other.ensures.layout told);
  are = c.in_ok-close_other.ensures.kept told ps has;
  shut = ap (λ l. l.other) c.with_other_closed-layout.ensures;
  stands = search rules;
  rises = search rules;
  fits = search rules;
  is = c.in_ok-stage.ensures.image told;
}

pub publish-requires-clause-within : goal.publish-requires-clause-within
publish-requires-clause-within g c told =
    let has = has_payloads _ _ (c.requires.layout told) in
    let it = staged_is g (goal.at.publish-requires-clause-within g c).In_ok-stage told has.0 has.1 in
    omega (arith, ap length it.is, length-all _ c.with_other_closed-layout.result has.0 it.has it.are it.shut c.in-Some.place c.args.payload.now it.stands)

pub returns-in_err-publish-clause-stops : goal.returns-in_err-publish-clause-stops
returns-in_err-publish-clause-stops g c told quiet ps has =
    let it = staged_is g (goal.at.returns-in_err-publish-clause-stops g c).In_ok-stage told ps has in
    in_turn g.H.Host.clock g.H.Host.stopped c.args.host.now c.close_other.new.host c.stage.new.host c.publish.new.host ps (c.args.payload.now ∷ []) _ _ _ c.close_other.ensures.rest.said c.stage.ensures.rest.said
    (c.close_other.ensures.stops told quiet ps has) (c.stage.ensures.stops told (c.in_ok-close_other.ensures.quiet told quiet) ps it.are) (c.publish.ensures.stops told _ ps it c.in_ok-stage.ensures.durable)

pub returns-clause-stops : goal.returns-clause-stops
returns-clause-stops g c told quiet ps has =
    let it = staged_is g (goal.at.returns-clause-stops g c).In_ok-stage told ps has in
    in_turn g.H.Host.clock g.H.Host.stopped c.args.host.now c.close_other.new.host c.stage.new.host c.publish.new.host ps (c.args.payload.now ∷ []) _ _ _ c.close_other.ensures.rest.said c.stage.ensures.rest.said
    (c.close_other.ensures.stops told quiet ps has) (c.stage.ensures.stops told (c.in_ok-close_other.ensures.quiet told quiet) ps it.are) (c.publish.ensures.stops told _ ps it c.in_ok-stage.ensures.durable)

pub returns-clause-kept : goal.returns-clause-kept
returns-clause-kept g c told place room =
    let has = has_payloads _ _ (c.requires.layout told) in
    let bytes = length c.args.payload.now in
    let it = staged_is g (goal.at.returns-clause-kept g c).In_ok-stage told has.0 has.1 in
    let same : c.in-Some.place ≡ place =
    same_some (room_for c.args.self.now.layout c.args.self.now.bounds.image (length c.args.payload.now)) c.in-Some.place place
    (sym (ap (λ v. room_for v.layout v.bounds.image (length c.args.payload.now)) c.self.view_is) ∙ sym c.in-Some.ensures) room in
    published_opened _ _ c.with_other_closed-layout.result c.in-Some.place c.args.payload.now has.0 it _ (c.in_ok-publish.ensures.image told)
    ∙ ap (λ l. Ok (record { layout = after_checkpoint l c.in-Some.place (length c.args.payload.now); payloads = c.args.payload.now ∷ [] })) (c.with_other_closed-layout.ensures ∙ ap (λ v. other_closed v.layout) c.self.view_is)
    ∙ ap (λ p. Ok (record { layout = after_checkpoint c.args.self.now.layout p (length c.args.payload.now); payloads = c.args.payload.now ∷ [] })) same

pub returns-clause-layout : goal.returns-clause-layout
returns-clause-layout g c told =
    let has = has_payloads _ _ (c.requires.layout told) in
    let it = staged_is g (goal.at.returns-clause-layout g c).In_ok-stage told has.0 has.1 in
    subst (λ l. HasLayout (g.H.Host.now c.publish.new.host).image l) (sym c.with_checkpoint-self-inside.ensures)
    (published_layout _ _ c.with_other_closed-layout.result c.in-Some.place c.args.payload.now has.0 it _ (c.in_ok-publish.ensures.image told))

pub publish-requires-clause-slot : goal.publish-requires-clause-slot
publish-requires-clause-slot g c told =
    let has = has_payloads _ _ (c.requires.layout told) in
    let it = staged_is g (goal.at.publish-requires-clause-slot g c).In_ok-stage told has.0 has.1 in
    omega (arith, ap length it.is, length-all _ c.with_other_closed-layout.result has.0 it.has it.are it.shut c.in-Some.place c.args.payload.now it.stands, other_within _ c.with_other_closed-layout.result has.0 it.has it.are)

pub returns-in_default-clause-layouts : goal.returns-in_default-clause-layouts
returns-in_default-clause-layouts g c =
    let layout = c.args.self.now.layout in
    let bytes = length c.args.payload.now in
    let none : room_for layout c.args.self.now.bounds.image bytes ≡ None = search rules in
    (record { layout = layout; need = behind_need layout bytes }, ap (λ o. placed layout bytes o) none, refl, search rules)

pub returns-clause-bytes : goal.returns-clause-bytes
returns-clause-bytes g c told place room =
    let image = (g.H.Host.now c.args.host.now).image in
    let payload = c.args.payload.now in
    let same : c.in-Some.place ≡ place =
    same_some (room_for c.args.self.now.layout c.args.self.now.bounds.image (length c.args.payload.now)) c.in-Some.place place
    (sym (ap (λ v. room_for v.layout v.bounds.image (length c.args.payload.now)) c.self.view_is) ∙ sym c.in-Some.ensures) room in
    c.in_ok-publish.ensures.image told
    ∙ ap (λ i. published i c.with_other_closed-layout.result c.in-Some.place (length payload)) (c.in_ok-stage.ensures.image told ∙ ap (λ i. staged i c.with_other_closed-layout.result c.in-Some.place payload) (c.in_ok-close_other.ensures.image told))
    ∙ ap (λ l. published (staged (closed_image image c.self.inside.layout) l c.in-Some.place payload) l c.in-Some.place (length payload)) c.with_other_closed-layout.ensures
    ∙ ap (λ v. image_with_checkpoint image v.layout c.in-Some.place payload) c.self.view_is
    ∙ ap (λ p. image_with_checkpoint image c.args.self.now.layout p payload) same
