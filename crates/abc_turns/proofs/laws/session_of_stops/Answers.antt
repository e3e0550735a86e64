use Rattle.std.proofs.Common.{List, ℕ}
use Rattle.abc_outside.proofs.Leaves.{at_each}
use Rattle.abc_turns.proofs.Points.{point_start, point_item, point_later, heard_past, whole_past, session_points}
use Rattle.abc_turns.proofs.Endings.{between_later, broken_later, cut_later}
use Rattle.abc_turns.proofs.laws.session_of_stops.Goals as goal

pub returns-clause-points : goal.returns-clause-points
returns-clause-points g c after replies old new serves start image spoken stop =
    let said : _ → List ℕ = λ host. (g.H.Host.now host).said in
    at_each g.H.Host.clock g.H.Host.stopped old new _ (session_points g.H.Host.clock g.H.Host.stopped g.W.Opens.opens said after replies old new serves)
    (λ i s now. point_start g.W.Opens.opens after replies (said old) i s (start i s now).0 (start i s now).1) image spoken stop

pub returns-clause-item : goal.returns-clause-item
returns-clause-item g c = point_item g.W.Opens.opens

pub returns-clause-later : goal.returns-clause-later
returns-clause-later g c after after_left replies left first said i s served point = point_later g.W.Opens.opens after replies after_left left (Unit {0}) first said i s served tt point

pub returns-clause-heard : goal.returns-clause-heard
returns-clause-heard g c = heard_past

pub returns-clause-whole : goal.returns-clause-whole
returns-clause-whole g c = whole_past

pub returns-clause-between : goal.returns-clause-between
returns-clause-between g c after after_left replies left first said said_now host served p = between_later g.W.Opens.opens after replies after_left left first said said_now (g.H.Host.stopped host (g.H.Host.clock host)) served p

pub returns-clause-broken : goal.returns-clause-broken
returns-clause-broken g c after after_left replies left first said said_now host served p = broken_later g.W.Opens.opens after replies after_left left first said said_now (g.H.Host.stopped host (g.H.Host.clock host)) served p

pub returns-clause-cut_short : goal.returns-clause-cut_short
returns-clause-cut_short g c after after_left replies left first said said_now host served p = cut_later g.W.Opens.opens after replies after_left left first said said_now (g.H.Host.stopped host (g.H.Host.clock host)) served p
