use Rattle.std.proofs.Common.{◌≡◌, ◌<◌, length, sym, ap, subst, ◌∙◌, arith}
use Rattle.abc_chunks.specs.declared.tower.TheConstants.{MOST_IN_CHUNK}
use Rattle.abc_chunks.specs.Towers.{joined, pieces, sizes, AreSizes}
use Rattle.abc_chunks.specs.inner.Spots.{IsSpot, piece_at}
use Rattle.abc_chunks.proofs.Joined.{parted_joined}
use Rattle.abc_chunks.proofs.Rooms.{behind_spot, behind_room}
use Rattle.abc_chunks.proofs.Shifts.{sizes_split, sizes_within}
use Rattle.abc_chunks.proofs.Written.{chunk_at}
use Rattle.abc_chunks.proofs.tower.Tower.room_for.Goals as goal

pub returns-clause-spot : goal.returns-clause-spot
returns-clause-spot g c =
    let s = c.spot_for-spot.ensures in
    let m = c.behind_cut.ensures in
    let within = sizes_within (pieces c.args.self.now) c.spot_for-spot.result.chunk s.chunk c.requires.sound.1 in
    let was = chunk_at c.args.self.now.chunks.items c.spot_for-spot.result.chunk c.index.result.now s.chunk c.index.ensures in
    let full : length (piece_at (pieces c.args.self.now) c.spot_for-spot.result.chunk) ≡ MOST_IN_CHUNK = omega (arith, c.if-len-lt-MOST_IN_CHUNK.false, c.len.ensures, ap (λ v. length v.items) c.deref.ensures, ap length was, within.1) in
    subst (λ yss. IsSpot yss c.args.place c.behind_cut.result.chunk c.behind_cut.result.at) (sym c.in_ok-split.ensures.ok)
    (behind_spot (pieces c.args.self.now) c.args.place c.spot_for-spot.result.chunk c.spot_for-spot.result.at c.cut_for-cut.result c.behind_cut.result.chunk c.behind_cut.result.at s (omega (arith, c.cut_for-cut.ensures.1, full))
    ((λ h. (ap (λ spot. spot.chunk) (m.0 h), ap (λ spot. spot.at) (m.0 h))), m.1))

pub returns-clause-room : goal.returns-clause-room
returns-clause-room g c =
    let s = c.spot_for-spot.ensures in
    let m = c.behind_cut.ensures in
    let within = sizes_within (pieces c.args.self.now) c.spot_for-spot.result.chunk s.chunk c.requires.sound.1 in
    let was = chunk_at c.args.self.now.chunks.items c.spot_for-spot.result.chunk c.index.result.now s.chunk c.index.ensures in
    let full : length (piece_at (pieces c.args.self.now) c.spot_for-spot.result.chunk) ≡ MOST_IN_CHUNK = omega (arith, c.if-len-lt-MOST_IN_CHUNK.false, c.len.ensures, ap (λ v. length v.items) c.deref.ensures, ap length was, within.1) in
    subst (λ yss. length (piece_at yss c.behind_cut.result.chunk) < MOST_IN_CHUNK) (sym c.in_ok-split.ensures.ok)
    (behind_room (pieces c.args.self.now) c.spot_for-spot.result.chunk c.spot_for-spot.result.at c.cut_for-cut.result c.behind_cut.result.chunk MOST_IN_CHUNK s.chunk full c.cut_for-cut.ensures.0 c.cut_for-cut.ensures.1
    ((λ h. ap (λ spot. spot.chunk) (m.0 h)), (λ h. (m.1 h).0)))

pub returns-clause-same : goal.returns-clause-same
returns-clause-same g c =
    ap joined c.in_ok-split.ensures.ok ∙ parted_joined (pieces c.args.self.now) c.spot_for-spot.result.chunk c.cut_for-cut.result c.spot_for-spot.ensures.chunk

pub returns-clause-sound : goal.returns-clause-sound
returns-clause-sound g c =
    let s = c.spot_for-spot.ensures in
    let within = sizes_within (pieces c.args.self.now) c.spot_for-spot.result.chunk s.chunk c.requires.sound.1 in
    let was = chunk_at c.args.self.now.chunks.items c.spot_for-spot.result.chunk c.index.result.now s.chunk c.index.ensures in
    let full : length (piece_at (pieces c.args.self.now) c.spot_for-spot.result.chunk) ≡ MOST_IN_CHUNK = omega (arith, c.if-len-lt-MOST_IN_CHUNK.false, c.len.ensures, ap (λ v. length v.items) c.deref.ensures, ap length was, within.1) in (
      c.split.ensures.totals,
      subst (λ yss. AreSizes (sizes yss)) (sym c.in_ok-split.ensures.ok)
          (sizes_split (pieces c.args.self.now) c.spot_for-spot.result.chunk c.cut_for-cut.result s.chunk c.requires.sound.1 c.cut_for-cut.ensures.0 (omega (arith, c.cut_for-cut.ensures.1, full)) within.1),
    )
