use Rattle.std.proofs.Common.{rules, ◌≡◌, ◌+◌, ◌<◌, List, ℕ, Bool, true, length, sym, ◌∙◌, ap, subst, arith}
use Rattle.abc_outside.proofs.Leaves.{run_after}
use Rattle.abc_journal.specs.Image.{record_open, follow}
use Rattle.abc_journal.specs.inner.Region.{IsFound, IsCutShort}
use Rattle.abc_journal.proofs.Follow.{Follows}
use Rattle.abc_journal.proofs.Found.{refused, ends_here, one_more, cut_short}
use Rattle.abc_journal.proofs.region.read_region.Goals as goal

pub returns-in_err-payload-clause-region : goal.returns-in_err-payload-clause-region
returns-in_err-payload-clause-region g c told =
    let image = (g.H.Host.now c.args.host.now).image in
    let i = c.records.invariant in
    let size = c.requires.size told in
    let inside : c.records.at < length image = omega (arith, i.within, size) in
    let gate : record_open image c.records.at ≡ true = sym (i.gate told) ∙ c.records-test.true in
    refused (List ℕ × Bool) (follow (length image) image c.args.start) c.from_residual-in_err-payload.result c.in_err-payload.field-0.0 _ (search rules) (c.in_err-payload.ensures.refused told)
    (λ wrong cut. cut_short image c.args.start c.records.at c.records.payloads.items (i.followed told) inside gate wrong (subst (λ m. IsCutShort m c.records.at wrong) i.image cut))

pub records-preserved : goal.records-preserved
records-preserved g c =
    let image = (g.H.Host.now c.args.host.now).image in
    let i = c.records.invariant in
    let payload = c.in_ok-payload.payload in
    let next_open = c.in_ok-payload.next_open in
    let place : c.records.at + 9 + length payload ≡ c.records.at + (9 + length c.bytes.result.now) = omega (arith, ap length c.bytes.ensures) in
    let it : g.H.Host.tells_image → IsFound image c.records.at payload next_open =
    λ told. subst (λ m. IsFound m c.records.at payload next_open) i.image (c.in_ok-payload.ensures.record told) in
    record {
      within = search rules;
      gate = λ told. (it told).next ∙ ap (λ k. record_open image k) place;
      followed = λ told.
          let inside : c.records.at < length image = omega (arith, i.within, c.requires.size told) in
          let open_gate : record_open image c.records.at ≡ true = sym (i.gate told) ∙ c.records-test.true in
          let more = one_more image c.args.start c.records.at c.records.payloads.items (i.followed told) inside open_gate payload next_open (it told) in
          subst (λ k. Follows image c.args.start c.push.new.self.items k) place
          (subst (λ ps. Follows image c.args.start ps (c.records.at + 9 + length payload)) (sym c.in_ok-push.ensures.items) more);
      image = search rules;
      keeps = search rules;
      stops = run_after g.H.Host.clock g.H.Host.stopped c.args.host.now c.records.host c.record_at.new.host _ _ i.stops c.record_at.ensures.stops i.now;
      now = λ m s stop. i.now m s (c.record_at.ensures.now m s stop);
      faultless = search rules;
    }

pub returns-clause-region : goal.returns-clause-region
returns-clause-region g c told =
    let image = (g.H.Host.now c.args.host.now).image in
    let i = c.records.invariant in
    let inside : c.records.at < length image = omega (arith, i.within, c.requires.size told) in
    ends_here image c.args.start c.records.at c.records.payloads.items (i.followed told) inside (sym (i.gate told) ∙ c.records-test.false)
