use Rattle.std.proofs.Common.{ℕ, List, [], drop, map}
use Rattle.abc_tree.specs.Lists.{flat}
use Rattle.abc_tree.specs.declared.formulas.Fill.{Fill}
use Rattle.abc_ground.specs.Seen.{seen, seen_piece, seen_fill, seen_pair}
use Rattle.abc_demand.proofs.Turning.{Turning, Passing}
use Rattle.abc_demand.proofs.draft.Draft.+expression.Given as goal

abbrev pub invariant-expressions-loop-i : goal.invariant-expressions-loop-i
invariant-expressions-loop-i l = Turning l.scope l.initial.self l.self (map seen (drop l.from l.es)) (map seen (drop l.i l.es)) l.initial.vars.items l.vars.items

abbrev pub invariant-characters-loop-piece : goal.invariant-characters-loop-piece
invariant-characters-loop-piece l = (own : List ℕ) × Passing l.scope l.initial.self l.self (flat (map seen_piece l.pieces)) (flat (map seen_piece (drop l.piece-index l.pieces))) own

abbrev pub invariant-list-loop-fill : goal.invariant-list-loop-fill
invariant-list-loop-fill l =
    Turning l.scope l.initial.self l.self (flat (map (λ (f : Fill). (seen_fill f).parts) l.fills)) (flat (map (λ (f : Fill). (seen_fill f).parts) (drop l.fill-index l.fills))) [] l.vars.items

abbrev pub invariant-table-loop-pair : goal.invariant-table-loop-pair
invariant-table-loop-pair l = Turning l.scope l.initial.self l.self (flat (map seen_pair l.pairs)) (flat (map seen_pair (drop l.pair-index l.pairs))) [] l.vars.items
