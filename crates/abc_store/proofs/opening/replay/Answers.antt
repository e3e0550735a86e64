use Rattle.std.proofs.Common.{◌≡◌, ◌∙◌, inl, inr, ℕ, ◌+◌, List, ◌∷◌, drop, length, rules, refl, sym, ap, subst, arith}
use Rattle.std.specs.Prelude.{Err}
use Rattle.std.proofs.lemmas.List.{drop_more}
use Rattle.abc_store.specs.Opening.{LeadsTo, LeadsNowhere, Make}
use Rattle.abc_store.proofs.Images.{from_nothing}
use Rattle.abc_store.proofs.opening.replay.Goals as goal

pub loop-payload-init : goal.loop-payload-init
loop-payload-init c = (c.args.start, omega (arith, c.ranges.start.fits), λ found made. from_nothing c.args.start c.new-contents.result c.args.payloads.now found c.new-contents.ensures made)

pub returns-in-Err-Nowhere-clause-refused : goal.returns-in-Err-Nowhere-clause-refused
returns-in-Err-Nowhere-clause-refused c =
    let i = c.loop-payload.invariant in
    let payloads = c.args.payloads.now in
    let at = c.loop-payload.payload-index in
    let first : drop at payloads ≡ c.payload-item.result ∷ drop (at + 1) payloads = drop_more payloads at c.payload-item.result c.loop-payload-test.true ∙ ap (λ (p : List ℕ). p ∷ drop (at + 1) payloads) (sym c.payload-item.is) in
    let nowhere : LeadsNowhere c.payload-item.result c.loop-payload.contents = subst (λ (p : List ℕ). LeadsNowhere p c.loop-payload.contents) c.bytes.ensures (c.follow.ensures.nowhere (search rules)) in
    (i.0, i.2 (Err i.0) (subst (λ (ps : List (List ℕ)). Make i.0 c.loop-payload.contents ps (Err i.0)) (sym first) (inr (nowhere, refl))), i.1)

pub loop-payload-preserved : goal.loop-payload-preserved
loop-payload-preserved c =
    let i = c.loop-payload.invariant in
    let payloads = c.args.payloads.now in
    let at = c.loop-payload.payload-index in
    let payload = c.payload-item.result in
    let first : drop at payloads ≡ payload ∷ drop (at + 1) payloads = drop_more payloads at payload c.loop-payload-test.true ∙ ap (λ (p : List ℕ). p ∷ drop (at + 1) payloads) (sym c.payload-item.is) in
    let leads : LeadsTo payload c.loop-payload.contents c.follow.new.contents =
    subst (λ (p : List ℕ). LeadsTo p c.loop-payload.contents c.follow.new.contents) c.bytes.ensures c.in-Ok.ensures.leads in (
      i.0 + 9 + length payload,
      search rules,
      λ found made.
          i.2 found (subst (λ (ps : List (List ℕ)). Make i.0 c.loop-payload.contents ps found) (sym first) (inl (c.follow.new.contents, leads, made))),
    )
