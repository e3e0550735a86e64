-- Taking a line, by what is unread.
use Rattle.std.proofs.Common.{◌≡◌, ◌≤◌, ℕ, List, [], ◌∷◌, length, Option, Some, None, zero, suc, take, subst, arith, refl, sym}
use Rattle.abc_value.specs.Tree.{Tree}
use Rattle.abc_num.specs.Lines.{without_cr}
use Rattle.abc_num.specs.declared.limits.TheConstants.{MOST_LINE_BYTES}
use Rattle.abc_num.specs.declared.lines.RawLine.{RawLine}
use Rattle.abc_outside.specs.Lines.{Unread, IsFirst}

-- a line that spells no value
pub no_literal : (o : Option Tree) → ((t : Tree) → o ≡ Some t → ⊥) → o ≡ None
no_literal None h = refl
no_literal (Some t) h = absurd (h t refl)

-- a line has no more bytes than a line may have
take_short : (n : ℕ) (b : List ℕ) → length (take n b) ≤ n
take_short zero b = omega arith
take_short (suc n) [] = omega arith
take_short (suc n) (x ∷ b) = let h = take_short n b in omega arith

pub short_first : (old new : Unread) (line : RawLine) → IsFirst old line new → length line.bytes ≤ MOST_LINE_BYTES
short_first old new line f = subst (λ l. length l.bytes ≤ MOST_LINE_BYTES) (sym f.is_line) (take_short MOST_LINE_BYTES (without_cr f.text))
