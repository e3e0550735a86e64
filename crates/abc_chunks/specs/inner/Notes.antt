-- Counts in blocks: to each count the note of its block is added.
use Rattle.std.specs.Prelude.{◌≡◌, ◌+◌, ◌*◌, ◌/◌, ◌%◌, ◌^◌, ◌≤◌, ℕ, suc, List, [], ◌∷◌, ◌++◌, length, map, take, drop, slice_index_or}
use Rattle.abc_chunks.specs.declared.blocks.TheConstants.{BLOCK}

-- n more, modulo 2^64
abbrev pub plus : ℕ → ℕ → ℕ
plus n c = (c + n) % 2 ^ 64

-- the note of the block in which the place i stands
abbrev pub note_of : List ℕ → ℕ → ℕ
note_of ns i = slice_index_or ns (i / BLOCK) 0

-- the counts from the place i on, each with its note
abbrev pub noted_from : ℕ → List ℕ → List ℕ → List ℕ
noted_from i ns [] = []
noted_from i ns (c ∷ cs) = plus (note_of ns i) c ∷ noted_from (suc i) ns cs

abbrev pub noted : List ℕ → List ℕ → List ℕ
noted ns cs = noted_from 0 ns cs

-- there is a note for each block
abbrev pub AreNoted : List ℕ → List ℕ → Type 0
AreNoted ns cs = length cs ≤ BLOCK * length ns

-- d more from the place j on
abbrev pub shifted : ℕ → ℕ → List ℕ → List ℕ
shifted d j ts = take j ts ++ map (plus d) (drop j ts)

-- nothing is noted from the block b on
abbrev pub HasNoneFrom : ℕ → List ℕ → Type 0
HasNoneFrom b ns = (q : ℕ) → b ≤ q → slice_index_or ns q 0 ≡ 0
