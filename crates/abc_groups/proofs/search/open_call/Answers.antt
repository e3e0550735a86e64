use Rattle.std.proofs.Common.{arith, length, ◌<◌, get_or}
use Rattle.std.specs.List.{All}
use Rattle.abc_groups.proofs.Classing.{read_inside}
use Rattle.abc_groups.proofs.search.open_call.Goals as goal

pub open_in-requires-clause-row : goal.open_in-requires-clause-row
open_in-requires-clause-row c =
    let h : get_or c.args.path.now c.loop-k.k 0 < length c.args.graph.now = c.requires.inside c.loop-k.k 0 (omega arith) in
    let all : All (λ b. b < length c.args.graph.now) c.index-graph-path.result = read_inside _ _ _ c.requires.graph h c.index-graph-path.is in
    rw (c.as_slice.ensures, c.requires.same) all
