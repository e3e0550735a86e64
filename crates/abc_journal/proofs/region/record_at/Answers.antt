use Rattle.std.proofs.Common.{rules, ◌≡◌, ◌+◌, ◌-◌, ◌<◌, length, take, drop, get_or, Some, ◌∙◌, sym, ap, arith}
use Rattle.std.proofs.lemmas.List.{take_at}
use Rattle.std.specs.Prelude.{◌==◌, ◌++◌}
use Rattle.std.specs.Option.{option_eq}
use lib.Dec.{eqb}
use Rattle.abc_journal.proofs.Found.{is_found}
use Rattle.abc_journal.proofs.region.record_at.Goals as goal

pub returns-clause-record : goal.returns-clause-record
returns-clause-record g c told =
    let image = (g.H.Host.now c.args.host.now).image in
    let at = c.args.at in
    let count = c.in_ok-length.length in
    let buf = c.read_at.new.buf in
    let rest = drop (length buf) c.in_ok-bytes.bytes.items in
    let bytes = take c.in_ok-bytes.bytes.len (buf ++ rest) in
    let size = c.requires.size told in
    let inside : at + 9 + count < length image = omega (arith, size, c.if-room.false, c.if-room-length.false, c.if-room-length-2.false) in
    let len : c.in_ok-bytes.bytes.len ≡ count + 1 = search rules in
    let long : length buf ≡ c.in_ok-bytes.bytes.len = search rules in
    let asked : length c.deref_mut.result.now ≡ count + 1 = search rules in
    let read : bytes ≡ take (count + 1) (drop (at + 9) image) =
    take_at buf rest c.in_ok-bytes.bytes.len long
    ∙ c.in_ok-read_at.ensures.bytes told
    ∙ ap (λ k. take k (drop (at + 9) (g.H.Host.now c.length_at.new.host).image)) asked
    ∙ ap (λ i. take (count + 1) (drop (at + 9) i)) c.length_at.ensures.image in
    let last : c.in_ok-bytes.bytes.len - 1 ≡ count = omega (arith, len) in
    is_found image bytes c.from_vec.result at count c.eq-next_open.result (sym (c.in_ok-length.ensures.length told)) inside read
    (c.from_vec.ensures ∙ c.pop.ensures.rest ∙ ap (λ k. take k bytes) last)
    (c.eq-next_open.ensures ∙ ap (λ o. option_eq eqb o (Some 1)) (c.pop.ensures.value 0 (omega (arith, len))) ∙ ap (λ k. get_or bytes k 0 == 1) last)
