-- Numbers and texts as bytes.
use Rattle.std.specs.Prelude.{ℕ, ◌/◌, ◌%◌, ◌^◌, List, ◌++◌, length}
use Rattle.std.specs.Int.{w32, w64, to_be_bytes}

-- a number in four bytes, the highest first
unfoldable pub in_four : ℕ → List ℕ
in_four n = to_be_bytes w32 n

-- the same in eight bytes
unfoldable pub in_eight : ℕ → List ℕ
in_eight n = to_be_bytes w64 n

-- the same in sixteen bytes: the higher half, and the lower
unfoldable pub in_sixteen : ℕ → List ℕ
in_sixteen n = in_eight (n / 2 ^ 64) ++ in_eight (n % 2 ^ 64)

-- a text: its length, and its bytes
unfoldable pub spelled_text : List ℕ → List ℕ
spelled_text text = in_four (length text) ++ text
