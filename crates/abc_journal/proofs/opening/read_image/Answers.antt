use Rattle.std.proofs.Common.{rules, ◌≡◌, ◌⊎◌, inl, inr, ◌≤◌, ◌<◌, List, ℕ, length, Ok, Err, refl, sym, ◌∙◌, ap, subst, arith}
use Rattle.std.specs.Prelude.{Result, Vec}
use Rattle.std.specs.declared.alloc.Global.{Global}
use Rattle.abc_journal.specs.declared.faults.BeginFault.{BeginFault}
use Rattle.abc_journal.specs.inner.Region.{IsRegion}
use Rattle.abc_journal.specs.Journal.{IfNotAStore}
use Rattle.abc_journal.specs.Image.{read_image, opened_at, follow}
use Rattle.abc_journal.proofs.Follow.{no_place}
use Rattle.abc_journal.proofs.Image.{head_wrong, region_wrong, region_right, refusal}
use Rattle.abc_journal.proofs.opening.read_image.Goals as goal

pub returns-in-Err-clause-refused : goal.returns-in-Err-clause-refused
returns-in-Err-clause-refused g c told =
    head_wrong (g.H.Host.now c.args.host.now).image c.read_at.new.buf (c.in_ok-read_at.ensures.bytes told) c.in-Err.at c.in-Err.ensures

pub returns-then-live-clause-refused : goal.returns-then-live-clause-refused
returns-then-live-clause-refused g c told =
    let image = (g.H.Host.now c.args.host.now).image in
    let size = c.requires.size told in
    let out : (c.in-Ok.live.start < 64) ⊎ (length image ≤ c.in-Ok.live.start) = elim c.then-live.either [ inl early ↦ inl early | inr past ↦ inr (omega (arith, past.1, size)) ] in
    region_wrong image c.read_at.new.buf (c.in_ok-read_at.ensures.bytes told) c.in-Ok.live c.in-Ok.ensures c.in-Ok.live.start
    (no_place (length image) image c.in-Ok.live.start (omega (arith, size, c.requires.long)) out)

-- the region of the image as it was
module _ (image now : List ℕ) (start : ℕ) (answer : Result (Vec (List ℕ) Global × ℕ) BeginFault) (same : now ≡ image) where
  of_image : IsRegion (follow (length now) now start) answer → IsRegion (follow (length image) image start) answer
  of_image it = subst (λ i. IsRegion (follow (length i) i start) answer) same it

pub returns-in_err-payloads-clause-refused : goal.returns-in_err-payloads-clause-refused
returns-in_err-payloads-clause-refused g c told =
    let image = (g.H.Host.now c.args.host.now).image in
    let it = of_image image _ c.in-Ok.live.start (Err c.in_err-payloads.field-0.0) c.read_at.ensures.image (c.in_err-payloads.ensures.region told) in
    let e : c.from_residual-in_err-payloads.result ≡ Err c.in_err-payloads.field-0.0 = search rules in
    subst (λ r. IfNotAStore r (λ at. read_image image ≡ Err at)) (sym e)
    (refusal image c.read_at.new.buf (c.in_ok-read_at.ensures.bytes told) c.in-Ok.live c.in-Ok.ensures _ c.in_err-payloads.field-0.0 refl it)

pub returns-clause-opened : goal.returns-clause-opened
returns-clause-opened g c told =
    let image = (g.H.Host.now c.args.host.now).image in
    let size = c.requires.size told in
    let it = of_image image _ c.in-Ok.live.start (Ok (c.in_ok-payloads.payloads, c.in_ok-payloads.gate)) c.read_at.ensures.image (c.in_ok-payloads.ensures.region told) in
    let right = region_right image c.read_at.new.buf (c.in_ok-read_at.ensures.bytes told) c.in-Ok.live c.in-Ok.ensures _ it in
    let layout : (opened_at (length image) c.in-Ok.live (record { payloads = c.in_ok-payloads.payloads.items; gate = c.in_ok-payloads.gate })).layout ≡ c.layout_of.result =
    (let held : c.deref.result.now ≡ c.in_ok-payloads.payloads.items = search rules in
    ap (λ k. (opened_at k c.in-Ok.live (record { payloads = c.in_ok-payloads.payloads.items; gate = c.in_ok-payloads.gate })).layout) (sym size)
    ∙ ap (λ ps. (opened_at c.args.size c.in-Ok.live (record { payloads = ps; gate = c.in_ok-payloads.gate })).layout) (sym held)
    ∙ sym c.layout_of.ensures) in
    right ∙ ap (λ l. Ok (record { layout = l; payloads = c.in_ok-payloads.payloads.items })) layout
