-- The lines of an item that is whole.
use Rattle.std.proofs.Common.{◌≡◌, ◌≤◌, ◌<◌, ℕ, zero, suc, Bool, true, false, List, [], ◌∷◌, ◌++◌, length, take, Option, Some, None, subst, arith}
use Rattle.std.specs.Prelude.{if◌then◌else◌, ◌==◌, ◌||◌, IfSome}
use Rattle.std.specs.List.{AllByRecursion}
use Rattle.abc_num.specs.declared.limits.TheConstants.{MOST_LINE_BYTES}
use Rattle.abc_num.specs.declared.lines.Line.{Line}
use Rattle.abc_num.specs.declared.lines.RawLine.{RawLine}
use Rattle.abc_tokens.specs.Bytes.{space}
use Rattle.abc_tokens.specs.Shape.{tab, text_of}
use Rattle.abc_layout.specs.Items.{line_of, is_blank, is_unit, opens, belongs, most_kept, Front, with_line, belonging, open_item}
use Rattle.abc_layout.specs.Items as layout
use Rattle.abc_layout.specs.SplitterView.{Finishes}
use Rattle.abc_reader.specs.Reading.{IsFit}
use Rattle.abc_reader.specs.inner.LineSteps.{IsShort}

-- a text is no longer than its line
text_within : (bytes : List ℕ) → length (text_of bytes) ≤ length bytes
text_within [] = omega arith
text_within (b ∷ bytes) = by_test ((b == space) || (b == tab)) (text_within bytes)
  where
    by_test : (x : Bool) → length (text_of bytes) ≤ length bytes → length (if x then text_of bytes else b ∷ bytes) ≤ suc (length bytes)
    by_test true within = omega (arith, within)
    by_test false within = omega arith

abbrev IsShortText : Line → Type 0
IsShortText line = length line.text ≤ MOST_LINE_BYTES

short_text : (line : RawLine) → IsShort line → IsShortText (line_of line)
short_text line short = omega (arith, text_within line.bytes, short)

abbrev FrontIsShort : Front → Type 0
FrontIsShort None = Unit {0}
FrontIsShort (Some front) = AllByRecursion IsShortText front.0

abbrev NextIsFit : layout.Next → Type 0
NextIsFit layout.over = Unit {0}
NextIsFit layout.not_yet = Unit {0}
NextIsFit (layout.whole item left) = IsFit item

with_short : (line : RawLine) (front : Front) → IsShort line → FrontIsShort front → FrontIsShort (with_line line front)
with_short line None short fits = tt
with_short line (Some front) short fits = (short_text line short, fits)

all_taken : (n : ℕ) (lines : List Line) → AllByRecursion IsShortText lines → AllByRecursion IsShortText (take n lines)
all_taken zero lines all = tt
all_taken (suc n) [] all = tt
all_taken (suc n) (line ∷ lines) all = (all.0, all_taken n lines all.1)

some_taken : (n : ℕ) (line : Line) (lines : List Line) → 0 < n → 0 < length (take n (line ∷ lines))
some_taken zero line lines some = absurd (omega (arith, some))
some_taken (suc n) line lines some = omega arith

opened_fit : (line : RawLine) (front : Front) → IsShort line → FrontIsShort front → NextIsFit (open_item line front)
opened_fit line None short fits = tt
opened_fit line (Some front) short fits = (some_taken most_kept (line_of line) front.0 (omega arith), all_taken most_kept (line_of line ∷ front.0) (short_text line short, fits))

no_front : (ended : Bool) → FrontIsShort (if ended then Some ([], []) else None)
no_front true = tt
no_front false = tt

no_next : (ended : Bool) → NextIsFit (if ended then layout.over else layout.not_yet)
no_next true = tt
no_next false = tt

module _ (ended : Bool) where
  short_by : (unit : Bool) (line : RawLine) (lines : List RawLine) (x y : Bool) → IsShort line → FrontIsShort (belonging ended unit lines)
      → FrontIsShort (if x then belonging ended unit lines else (if y then with_line line (belonging ended unit lines) else Some ([], line ∷ lines)))
  short_by unit line lines true y short fits = fits
  short_by unit line lines false true short fits = with_short line (belonging ended unit lines) short fits
  short_by unit line lines false false short fits = tt

  belonging_short : (unit : Bool) (lines : List RawLine) → AllByRecursion IsShort lines → FrontIsShort (belonging ended unit lines)
  belonging_short unit [] all = no_front ended
  belonging_short unit (line ∷ lines) all = short_by unit line lines (is_blank line) (belongs unit line) all.0 (belonging_short unit lines all.1)

  fit_by : (line : RawLine) (lines : List RawLine) (x y : Bool) → IsShort line → AllByRecursion IsShort lines → NextIsFit (layout.next ended lines)
      → NextIsFit (if x then layout.next ended lines else (if y then open_item line (belonging ended (is_unit line) lines) else layout.whole (line_of line ∷ []) lines))
  fit_by line lines true y short all fits = fits
  fit_by line lines false true short all fits = opened_fit line (belonging ended (is_unit line) lines) short (belonging_short (is_unit line) lines all)
  fit_by line lines false false short all fits = (omega arith, (short_text line short, tt))

  next_fit : (lines : List RawLine) → AllByRecursion IsShort lines → NextIsFit (layout.next ended lines)
  next_fit [] all = no_next ended
  next_fit (line ∷ lines) all = fit_by line lines (is_blank line) (opens line) all.0 all.1 (next_fit lines all.1)

pub fit : (ended : Bool) (lines left : List RawLine) (item : List Line) → AllByRecursion IsShort lines → layout.next ended lines ≡ layout.whole item left → IsFit item
fit ended lines left item all is = subst NextIsFit is (next_fit ended lines all)

pub all_short : (lines more : List RawLine) → AllByRecursion IsShort lines → AllByRecursion IsShort more → AllByRecursion IsShort (lines ++ more)
all_short [] more all others = others
all_short (line ∷ lines) more all others = (all.0, all_short lines more all.1 others)

pub end_fit : (lines : List RawLine) (found : Option (List Line)) → AllByRecursion IsShort lines → Finishes lines found → IfSome found IsFit
end_fit lines None all is = tt
end_fit lines (Some item) all is = fit true lines [] item all is
