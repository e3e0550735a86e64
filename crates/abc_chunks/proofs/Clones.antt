-- Chunks that were cloned hold what they held.
use Rattle.std.proofs.Common.{◌≡◌, List, [], ◌∷◌, map, refl}
use Rattle.std.specs.List.{AllZip}
use Rattle.abc_chunks.specs.Towers.{Chunk, chunk_items}

module _ {T : Type 0} where
  pub pieces-clones : (xs ys : List (Chunk T)) → AllZip (λ c d. d.value ≡ c.value) xs ys → map chunk_items ys ≡ map chunk_items xs
  pieces-clones [] [] h = refl
  pieces-clones [] (y ∷ ys) h = absurd h
  pieces-clones (x ∷ xs) [] h = absurd h
  pieces-clones (x ∷ xs) (y ∷ ys) h = λ i. (h.0 i).items ∷ pieces-clones xs ys h.1 i
