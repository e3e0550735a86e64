-- How many chunks and totals there are.
use Rattle.std.proofs.Common.{◌≡◌, suc, length, sym, ap, ◌∙◌}
use Rattle.std.specs.Vec.{vec_len}
use Rattle.std.proofs.lemmas.List.{length-map}
use Rattle.abc_chunks.specs.Towers.{chunk_items, pieces, HasTotals}
use Rattle.abc_chunks.specs.declared.tower.Tower.{Tower}
use Rattle.abc_chunks.proofs.Totals.{count_totals}

module _ {T : Type 0} where
  pub chunk_count : (t : Tower T) → vec_len t.chunks ≡ length (pieces t)
  chunk_count t = t.chunks.ok.0 ∙ sym (length-map t.chunks.items chunk_items)

  pub total_count : (t : Tower T) → HasTotals t → length t.totals ≡ suc (length (pieces t))
  total_count t h = ap length h ∙ count_totals 0 (pieces t)
