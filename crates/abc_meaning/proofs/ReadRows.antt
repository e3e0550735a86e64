-- Lines that spell values, computed.
use Rattle.std.specs.Prelude.{◌≡◌, refl, pos, codes, Some, None}
use Rattle.abc_num.specs.Number.{fraction}
use Rattle.abc_tokens.specs.ReadLine.{read_line}
use Rattle.abc_tokens.specs.Values.{has_value}
use Rattle.abc_tokens.specs.Scanned.{scanned, ending, word_in_front}
use Rattle.abc_value.specs.Tree.{number, list, more, no_trees}
use Rattle.abc_value.specs.Sizes.{size_fault, sizes_fault}
use Rattle.abc_num.specs.Ratio.{ratio, gcd, gcd_within}
use Rattle.abc_print.specs.Computed.{literal_of, lexemes_of}
use Rattle.abc_print.specs.Lexemes.{class_of}
use Rattle.abc_print.specs.inner.Machine.{run}

reads_number : literal_of (codes "12.50") ≡ Some (number (fraction (pos 25) 2))
unfolding literal_of read_line has_value lexemes_of ratio gcd gcd_within scanned ending word_in_front class_of run size_fault sizes_fault
reads_number = refl

reads_list : literal_of (codes "{2; 1}") ≡ Some (list (more (number (fraction (pos 1) 1)) (more (number (fraction (pos 2) 1)) no_trees)))
unfolding literal_of read_line has_value lexemes_of ratio gcd gcd_within scanned ending word_in_front class_of run size_fault sizes_fault
reads_list = refl

reads_no_sum : literal_of (codes "1+1") ≡ None
unfolding literal_of read_line has_value lexemes_of ratio gcd gcd_within scanned ending word_in_front class_of run size_fault sizes_fault
reads_no_sum = refl
