use Rattle.std.proofs.Common.{◌≡◌, ℕ, ◌+◌, ◌<◌, Bool, true, false, List, [], ◌∷◌, ◌++◌, length, take, refl, ap, ◌∙◌, arith}
use Rattle.std.specs.Prelude.{nat_lt}
use Rattle.std.proofs.lemmas.Bool.Decides.{nat_tests}
use Rattle.std.proofs.lemmas.List.{take_all}
use Rattle.abc_num.specs.declared.limits.TheConstants.{MOST_LINE_BYTES}
use Rattle.abc_num.specs.declared.lines.RawLine.{RawLine}
use Rattle.abc_num.specs.Lines.{first_bytes, raw_line}
use Rattle.abc_num.proofs.LineCuts.{dropped_cr}
use Rattle.abc_value_tests.proofs.num.lines.inputs_are_cut.Goals as goal

full : (line : List ℕ) → length line ≡ MOST_LINE_BYTES → first_bytes line ≡ record { bytes = line; long = false }
full line h =
    let short : nat_lt MOST_LINE_BYTES (length line) ≡ false = grind (arith, nat_tests, h) in
    let all : take MOST_LINE_BYTES line ≡ line = take_all MOST_LINE_BYTES line (omega (arith, h)) in
    λ j. record { bytes = all j; long = short j }

over : (line : List ℕ) → length line ≡ MOST_LINE_BYTES + 1 → (first_bytes line).long ≡ true
over line h = grind (arith, nat_tests, h)

pub returns : goal.returns
returns c = record {
  two_lines = refl;
  no_line_yet = refl;
  empty_lines = refl;
  cr_before_lf = refl;
  cr_before_end = refl;
  cr_alone = refl;
  nothing = refl;
  full = λ line h. ap first_bytes (dropped_cr line) ∙ full line h;
  long = λ line h. ap (λ l. (first_bytes l).long) (dropped_cr line) ∙ over line h;
}
