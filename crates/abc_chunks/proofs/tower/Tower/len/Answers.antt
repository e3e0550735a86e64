use Rattle.std.proofs.Common.{◌≡◌, length, get_or, ap, ◌∙◌, arith}
use Rattle.abc_chunks.specs.Towers.{pieces}
use Rattle.abc_chunks.proofs.Counts.{chunk_count, total_count}
use Rattle.abc_chunks.proofs.Totals.{total_last}
use Rattle.abc_chunks.proofs.tower.Tower.len.Goals as goal

pub at-requires : goal.at-requires
at-requires g c = omega (arith, c.len.ensures, chunk_count c.args.self.now, total_count c.args.self.now c.requires)

pub returns : goal.returns
returns g c =
    let t = c.args.self.now in
    let count = total_count t c.requires in
    let end : c.len.result ≡ length (pieces t) = omega (arith, c.len.ensures, chunk_count t) in
    let read = c.at.ensures in
    let whole = ap (λ n. get_or t.totals n 0) end ∙ ap (λ ts. get_or ts (length (pieces t)) 0) c.requires in
    omega (arith, read, whole, total_last 0 (pieces t))
