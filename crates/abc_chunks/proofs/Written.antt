-- What is written to the chunks, as the lists of their elements.
use Rattle.std.proofs.Common.{◌≡◌, ◌≢◌, ℕ, zero, suc, ◌<◌, ◌≤◌, List, [], ◌∷◌, length, map, take, drop, get_or, slice_set, refl, sym, ap, ◌∙◌, arith, Result, Ok, Err, OnOk, OnErr}
use Rattle.std.specs.List.{insert, remove}
use Rattle.std.proofs.lemmas.List.{length-map, map-set, get_or-map}
use Rattle.std.proofs.Math.Seq.{map-set_same}
use Rattle.abc_chunks.specs.Towers.{Chunk, chunk_items}
use Rattle.abc_chunks.specs.inner.Spots.{piece_at, parted, if_empty, without_empty}

module _ {T : Type 0} where
  -- a chunk that was read
  pub chunk_at : (cs : List (Chunk T)) (k : ℕ) (c : Chunk T) → k < length (map chunk_items cs) → c ≡ get_or cs k c → chunk_items c ≡ piece_at (map chunk_items cs) k
  chunk_at cs k c h read =
      let l : k < length cs = omega (arith, length-map cs chunk_items) in
      ap chunk_items read ∙ sym (get_or-map chunk_items cs k c [] l)

  pub chunk_written : (cs : List (Chunk T)) (k : ℕ) (c : Chunk T) (ys : List T) → chunk_items c ≡ ys → map chunk_items (slice_set cs k c) ≡ slice_set (map chunk_items cs) k ys
  chunk_written cs k c ys e = map-set chunk_items cs k c ∙ ap (slice_set (map chunk_items cs) k) e

  pub chunk_kept : (cs : List (Chunk T)) (k : ℕ) (c d : Chunk T) → d ≡ get_or cs k d → chunk_items c ≡ chunk_items d → map chunk_items (slice_set cs k c) ≡ map chunk_items cs
  chunk_kept cs k c d read e = map-set_same chunk_items cs k c d (e ∙ ap chunk_items read)

  pub chunks_parted : (cs : List (Chunk T)) (k cut : ℕ) (low high : Chunk T) → k < length (map chunk_items cs) → chunk_items low ≡ take cut (piece_at (map chunk_items cs) k) → chunk_items high ≡ drop cut (piece_at (map chunk_items cs) k)
      → map chunk_items (slice_set (insert cs (suc k) high) k low) ≡ parted (map chunk_items cs) k cut
  chunks_parted [] k cut low high h e f = absurd (omega arith)
  chunks_parted (c ∷ cs) zero cut low high h e f = λ i. e i ∷ f i ∷ map chunk_items cs
  chunks_parted (c ∷ cs) (suc k) cut low high h e f = ap (λ xss. chunk_items c ∷ xss) (chunks_parted cs k cut low high (omega arith) e f)

  pub chunks_without : (cs : List (Chunk T)) (k : ℕ) → map chunk_items (remove cs k) ≡ remove (map chunk_items cs) k
  chunks_without [] zero = refl
  chunks_without [] (suc k) = refl
  chunks_without (c ∷ cs) zero = refl
  chunks_without (c ∷ cs) (suc k) = ap (λ xss. chunk_items c ∷ xss) (chunks_without cs k)

  if_it_is : (xs : List T) (yss zss : List (List T)) → length xs ≡ 0 → yss ≡ if_empty xs yss zss
  if_it_is [] yss zss h = refl
  if_it_is (x ∷ xs) yss zss h = absurd (omega arith)

  if_it_is_not : (xs : List T) (yss zss : List (List T)) → length xs ≢ 0 → zss ≡ if_empty xs yss zss
  if_it_is_not [] yss zss h = absurd (h refl)
  if_it_is_not (x ∷ xs) yss zss h = refl

  pub no_length : (xs : List T) → length xs ≡ 0 → xs ≡ []
  no_length [] h = refl
  no_length (x ∷ xs) h = absurd (omega arith)

  pub goes_empty : (cs : List (Chunk T)) (k : ℕ) → length (piece_at (map chunk_items cs) k) ≡ 0 → map chunk_items (remove cs k) ≡ without_empty (map chunk_items cs) k
  goes_empty cs k h = chunks_without cs k ∙ if_it_is (piece_at (map chunk_items cs) k) (remove (map chunk_items cs) k) (map chunk_items cs) h

  pub stays_full : (xss : List (List T)) (k : ℕ) → length (piece_at xss k) ≢ 0 → xss ≡ without_empty xss k
  stays_full xss k h = if_it_is_not (piece_at xss k) (remove xss k) xss h

-- what was put in and taken out again
pub put_back : {X : Type 0} (xs : List X) (i : ℕ) (x : X) → i ≤ length xs → remove (insert xs i x) i ≡ xs
put_back xs zero x h = refl
put_back [] (suc i) x h = absurd (omega arith)
put_back (y ∷ xs) (suc i) x h = ap (λ ys. y ∷ ys) (put_back xs i x (omega arith))

pub on_err_always : {T E P : Type 0} (r : Result T E) → P → OnErr r P
on_err_always (Ok x) h = tt
on_err_always (Err e) h = h

-- what holds at Ok and at Err
pub either_way : {T E P : Type 0} (r : Result T E) → OnOk r P → OnErr r P → P
either_way (Ok x) p q = p
either_way (Err e) p q = q
