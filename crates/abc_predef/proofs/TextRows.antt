-- The rows of texts, computed on values whose results were found elsewhere.
use Rattle.std.proofs.Common.{◌≡◌, refl, pos, negsuc, [], Ok, Err}
use Rattle.std.specs.Prelude.{codes}
use Rattle.std.specs.Fmt.{digits}
use Rattle.abc_num.specs.Number.{fraction}
use Rattle.abc_tree.specs.declared.operations.Op.TheVariants as op
use Rattle.abc_value.specs.declared.faults.RunFault.TheVariants as fault
use Rattle.abc_value.specs.Tree.{number, text, compound, list, table, no_trees, more, no_pairs, pair}
use Rattle.abc_value.specs.Printed.{places}
use Rattle.abc_predef.specs.Rows.{row_of_one, row_of_two}

join_rows :
    (row_of_two op.Join (text []) (text []) ≡ Ok (text []))
    × (row_of_two op.Join (text (codes "ab")) (text (codes "c")) ≡ Ok (text (codes "abc")))
    × (row_of_two op.Join (text []) (text (codes "x")) ≡ Ok (text (codes "x")))
join_rows = (refl, refl, refl)

repeat_rows :
    (row_of_two op.Repeat (text (codes "ab")) (number (fraction (pos 3) 1)) ≡ Ok (text (codes "ababab")))
    × (row_of_two op.Repeat (text (codes "x")) (number (fraction (pos 0) 1)) ≡ Ok (text []))
    × (row_of_two op.Repeat (text []) (number (fraction (pos 1000) 1)) ≡ Ok (text []))
    × (row_of_two op.Repeat (text (codes "ab")) (number (fraction (negsuc 0) 1)) ≡ Err fault.OutOfRange)
    × (row_of_two op.Repeat (text (codes "ab")) (number (fraction (pos 1) 2)) ≡ Err fault.NotWhole)
    × (row_of_two op.Repeat (text (codes "x")) (number (fraction (pos 1048577) 1)) ≡ Err fault.TooLong)
    × (row_of_two op.Repeat (text (codes "ab")) (number (fraction (pos 1000000000000000000000000000000) 1)) ≡ Err fault.TooLong)
    × (row_of_two op.Repeat (text []) (number (fraction (negsuc 0) 1)) ≡ Err fault.OutOfRange)
repeat_rows = (refl, refl, refl, refl, refl, refl, refl, refl)

behead_rows :
    (row_of_two op.Behead (text (codes "ABCD")) (number (fraction (pos 2) 1)) ≡ Ok (text (codes "BCD")))
    × (row_of_two op.Behead (text (codes "ABCD")) (number (fraction (pos 1) 1)) ≡ Ok (text (codes "ABCD")))
    × (row_of_two op.Behead (text (codes "ABCD")) (number (fraction (pos 5) 1)) ≡ Ok (text []))
    × (row_of_two op.Behead (text (codes "ABCD")) (number (fraction (pos 6) 1)) ≡ Err fault.OutOfRange)
    × (row_of_two op.Behead (text (codes "ABCD")) (number (fraction (pos 0) 1)) ≡ Err fault.OutOfRange)
    × (row_of_two op.Behead (text (codes "ab")) (number (fraction (pos 4) 1)) ≡ Err fault.OutOfRange)
    × (row_of_two op.Behead (text []) (number (fraction (pos 1) 1)) ≡ Ok (text []))
    × (row_of_two op.Behead (text []) (number (fraction (pos 2) 1)) ≡ Err fault.OutOfRange)
    × (row_of_two op.Behead (text (codes "ab")) (number (fraction (pos 1) 2)) ≡ Err fault.NotWhole)
    × (row_of_two op.Behead (text (codes "ab")) (number (fraction (negsuc 0) 1)) ≡ Err fault.OutOfRange)
    × (row_of_two op.Behead (text (codes "ab")) (number (fraction (pos 170141183460469231731687303715884105727) 1)) ≡ Err fault.OutOfRange)
behead_rows = (refl, refl, refl, refl, refl, refl, refl, refl, refl, refl, refl)

curtail_rows :
    (row_of_two op.Curtail (text (codes "ABCD")) (number (fraction (pos 3) 1)) ≡ Ok (text (codes "ABC")))
    × (row_of_two op.Curtail (text (codes "ABCD")) (number (fraction (pos 0) 1)) ≡ Ok (text []))
    × (row_of_two op.Curtail (text (codes "ABCD")) (number (fraction (pos 4) 1)) ≡ Ok (text (codes "ABCD")))
    × (row_of_two op.Curtail (text (codes "ABCD")) (number (fraction (pos 5) 1)) ≡ Err fault.OutOfRange)
    × (row_of_two op.Curtail (text (codes "ABCD")) (number (fraction (negsuc 0) 1)) ≡ Err fault.OutOfRange)
    × (row_of_two op.Curtail (text []) (number (fraction (pos 0) 1)) ≡ Ok (text []))
    × (row_of_two op.Curtail (text []) (number (fraction (pos 1) 1)) ≡ Err fault.OutOfRange)
    × (row_of_two op.Curtail (text (codes "ab")) (number (fraction (pos 3) 2)) ≡ Err fault.NotWhole)
    × (row_of_two op.Curtail (text (codes "ab")) (number (fraction (pos 170141183460469231731687303715884105727) 1)) ≡ Err fault.OutOfRange)
curtail_rows = (refl, refl, refl, refl, refl, refl, refl, refl, refl)

align_left_rows :
    (row_of_two op.AlignLeft (text (codes "x")) (number (fraction (pos 4) 1)) ≡ Ok (text (codes "x   ")))
    × (row_of_two op.AlignLeft (text (codes "ab")) (number (fraction (pos 5) 1)) ≡ Ok (text (codes "ab   ")))
    × (row_of_two op.AlignLeft (text (codes "abc")) (number (fraction (pos 2) 1)) ≡ Ok (text (codes "abc")))
    × (row_of_two op.AlignLeft (text (codes "abc")) (number (fraction (pos 3) 1)) ≡ Ok (text (codes "abc")))
    × (row_of_two op.AlignLeft (text []) (number (fraction (pos 3) 1)) ≡ Ok (text (codes "   ")))
    × (row_of_two op.AlignLeft (number (fraction (pos 1) 4)) (number (fraction (pos 6) 1)) ≡ Ok (text (codes "0.25  ")))
    × (row_of_two op.AlignLeft (number (fraction (negsuc 0) 3)) (number (fraction (pos 5) 1)) ≡ Ok (text (codes "-1/3 ")))
    × (row_of_two op.AlignLeft (list (more (number (fraction (pos 1) 1)) (more (number (fraction (pos 2) 1)) no_trees))) (number (fraction (pos 8) 1)) ≡ Ok (text (codes "{1; 2}  ")))
    × (row_of_two op.AlignLeft (compound (more (text (codes "a")) (more (number (fraction (pos 1) 1)) no_trees))) (number (fraction (pos 6) 1)) ≡ Ok (text (codes "a 1   ")))
    × (row_of_two op.AlignLeft (compound (more (compound (more (text (codes "a")) (more (number (fraction (pos 1) 1)) no_trees))) (more (text (codes "b")) no_trees))) (number (fraction (pos 14) 1)) ≡ Ok (text (codes "(\"a\", 1) b    ")))
    × (row_of_two op.AlignLeft (list no_trees) (number (fraction (pos 3) 1)) ≡ Ok (text (codes "{} ")))
    × (row_of_two op.AlignLeft (text (codes "x")) (number (fraction (pos 1) 2)) ≡ Err fault.NotWhole)
    × (row_of_two op.AlignLeft (text (codes "x")) (number (fraction (negsuc 0) 1)) ≡ Err fault.OutOfRange)
    × (row_of_two op.AlignLeft (text (codes "x")) (number (fraction (pos 0) 1)) ≡ Ok (text (codes "x")))
    × (row_of_two op.AlignLeft (text (codes "x")) (number (fraction (pos 1048577) 1)) ≡ Err fault.TooLong)
    × (row_of_two op.AlignLeft (table (pair (text (codes "k")) (number (fraction (pos 1) 1)) no_pairs)) (number (fraction (pos 11) 1)) ≡ Ok (text (codes "{[\"k\"]: 1} ")))
unfolding digits places
align_left_rows = (refl, refl, refl, refl, refl, refl, refl, refl, refl, refl, refl, refl, refl, refl, refl, refl)

center_rows :
    (row_of_two op.Center (text (codes "x")) (number (fraction (pos 4) 1)) ≡ Ok (text (codes " x  ")))
    × (row_of_two op.Center (text (codes "ab")) (number (fraction (pos 5) 1)) ≡ Ok (text (codes " ab  ")))
    × (row_of_two op.Center (text (codes "abc")) (number (fraction (pos 2) 1)) ≡ Ok (text (codes "abc")))
    × (row_of_two op.Center (text (codes "abc")) (number (fraction (pos 3) 1)) ≡ Ok (text (codes "abc")))
    × (row_of_two op.Center (text []) (number (fraction (pos 3) 1)) ≡ Ok (text (codes "   ")))
    × (row_of_two op.Center (number (fraction (pos 1) 4)) (number (fraction (pos 6) 1)) ≡ Ok (text (codes " 0.25 ")))
    × (row_of_two op.Center (number (fraction (negsuc 0) 3)) (number (fraction (pos 5) 1)) ≡ Ok (text (codes "-1/3 ")))
    × (row_of_two op.Center (list (more (number (fraction (pos 1) 1)) (more (number (fraction (pos 2) 1)) no_trees))) (number (fraction (pos 8) 1)) ≡ Ok (text (codes " {1; 2} ")))
    × (row_of_two op.Center (compound (more (text (codes "a")) (more (number (fraction (pos 1) 1)) no_trees))) (number (fraction (pos 6) 1)) ≡ Ok (text (codes " a 1  ")))
    × (row_of_two op.Center (compound (more (compound (more (text (codes "a")) (more (number (fraction (pos 1) 1)) no_trees))) (more (text (codes "b")) no_trees))) (number (fraction (pos 14) 1)) ≡ Ok (text (codes "  (\"a\", 1) b  ")))
    × (row_of_two op.Center (list no_trees) (number (fraction (pos 3) 1)) ≡ Ok (text (codes "{} ")))
    × (row_of_two op.Center (text (codes "x")) (number (fraction (pos 1) 2)) ≡ Err fault.NotWhole)
    × (row_of_two op.Center (text (codes "x")) (number (fraction (negsuc 0) 1)) ≡ Err fault.OutOfRange)
    × (row_of_two op.Center (text (codes "x")) (number (fraction (pos 0) 1)) ≡ Ok (text (codes "x")))
    × (row_of_two op.Center (text (codes "x")) (number (fraction (pos 1048577) 1)) ≡ Err fault.TooLong)
    × (row_of_two op.Center (table (pair (text (codes "k")) (number (fraction (pos 1) 1)) no_pairs)) (number (fraction (pos 11) 1)) ≡ Ok (text (codes "{[\"k\"]: 1} ")))
unfolding digits places
center_rows = (refl, refl, refl, refl, refl, refl, refl, refl, refl, refl, refl, refl, refl, refl, refl, refl)

align_right_rows :
    (row_of_two op.AlignRight (text (codes "x")) (number (fraction (pos 4) 1)) ≡ Ok (text (codes "   x")))
    × (row_of_two op.AlignRight (text (codes "ab")) (number (fraction (pos 5) 1)) ≡ Ok (text (codes "   ab")))
    × (row_of_two op.AlignRight (text (codes "abc")) (number (fraction (pos 2) 1)) ≡ Ok (text (codes "abc")))
    × (row_of_two op.AlignRight (text (codes "abc")) (number (fraction (pos 3) 1)) ≡ Ok (text (codes "abc")))
    × (row_of_two op.AlignRight (text []) (number (fraction (pos 3) 1)) ≡ Ok (text (codes "   ")))
    × (row_of_two op.AlignRight (number (fraction (pos 1) 4)) (number (fraction (pos 6) 1)) ≡ Ok (text (codes "  0.25")))
    × (row_of_two op.AlignRight (number (fraction (negsuc 0) 3)) (number (fraction (pos 5) 1)) ≡ Ok (text (codes " -1/3")))
    × (row_of_two op.AlignRight (list (more (number (fraction (pos 1) 1)) (more (number (fraction (pos 2) 1)) no_trees))) (number (fraction (pos 8) 1)) ≡ Ok (text (codes "  {1; 2}")))
    × (row_of_two op.AlignRight (compound (more (text (codes "a")) (more (number (fraction (pos 1) 1)) no_trees))) (number (fraction (pos 6) 1)) ≡ Ok (text (codes "   a 1")))
    × (row_of_two op.AlignRight (compound (more (compound (more (text (codes "a")) (more (number (fraction (pos 1) 1)) no_trees))) (more (text (codes "b")) no_trees))) (number (fraction (pos 14) 1)) ≡ Ok (text (codes "    (\"a\", 1) b")))
    × (row_of_two op.AlignRight (list no_trees) (number (fraction (pos 3) 1)) ≡ Ok (text (codes " {}")))
    × (row_of_two op.AlignRight (text (codes "x")) (number (fraction (pos 1) 2)) ≡ Err fault.NotWhole)
    × (row_of_two op.AlignRight (text (codes "x")) (number (fraction (negsuc 0) 1)) ≡ Err fault.OutOfRange)
    × (row_of_two op.AlignRight (text (codes "x")) (number (fraction (pos 0) 1)) ≡ Ok (text (codes "x")))
    × (row_of_two op.AlignRight (text (codes "x")) (number (fraction (pos 1048577) 1)) ≡ Err fault.TooLong)
    × (row_of_two op.AlignRight (table (pair (text (codes "k")) (number (fraction (pos 1) 1)) no_pairs)) (number (fraction (pos 11) 1)) ≡ Ok (text (codes " {[\"k\"]: 1}")))
unfolding digits places
align_right_rows = (refl, refl, refl, refl, refl, refl, refl, refl, refl, refl, refl, refl, refl, refl, refl, refl)

lower_rows :
    (row_of_one op.Lower (text []) ≡ Ok (text []))
    × (row_of_one op.Lower (text (codes "aZ z09{[@`")) ≡ Ok (text (codes "az z09{[@`")))
    × (row_of_one op.Lower (text (codes "Hello, World!")) ≡ Ok (text (codes "hello, world!")))
    × (row_of_one op.Lower (text (codes "  ab  c ")) ≡ Ok (text (codes "  ab  c ")))
    × (row_of_one op.Lower (text (codes "   ")) ≡ Ok (text (codes "   ")))
    × (row_of_one op.Lower (text (codes "abc")) ≡ Ok (text (codes "abc")))
    × (row_of_one op.Lower (text (codes " a b")) ≡ Ok (text (codes " a b")))
    × (row_of_one op.Lower (text (codes "it's")) ≡ Ok (text (codes "it's")))
lower_rows = (refl, refl, refl, refl, refl, refl, refl, refl)

upper_rows :
    (row_of_one op.Upper (text []) ≡ Ok (text []))
    × (row_of_one op.Upper (text (codes "aZ z09{[@`")) ≡ Ok (text (codes "AZ Z09{[@`")))
    × (row_of_one op.Upper (text (codes "Hello, World!")) ≡ Ok (text (codes "HELLO, WORLD!")))
    × (row_of_one op.Upper (text (codes "  ab  c ")) ≡ Ok (text (codes "  AB  C ")))
    × (row_of_one op.Upper (text (codes "   ")) ≡ Ok (text (codes "   ")))
    × (row_of_one op.Upper (text (codes "abc")) ≡ Ok (text (codes "ABC")))
    × (row_of_one op.Upper (text (codes " a b")) ≡ Ok (text (codes " A B")))
    × (row_of_one op.Upper (text (codes "it's")) ≡ Ok (text (codes "IT'S")))
upper_rows = (refl, refl, refl, refl, refl, refl, refl, refl)

stripped_rows :
    (row_of_one op.Stripped (text []) ≡ Ok (text []))
    × (row_of_one op.Stripped (text (codes "aZ z09{[@`")) ≡ Ok (text (codes "aZ z09{[@`")))
    × (row_of_one op.Stripped (text (codes "Hello, World!")) ≡ Ok (text (codes "Hello, World!")))
    × (row_of_one op.Stripped (text (codes "  ab  c ")) ≡ Ok (text (codes "ab  c")))
    × (row_of_one op.Stripped (text (codes "   ")) ≡ Ok (text []))
    × (row_of_one op.Stripped (text (codes "abc")) ≡ Ok (text (codes "abc")))
    × (row_of_one op.Stripped (text (codes " a b")) ≡ Ok (text (codes "a b")))
    × (row_of_one op.Stripped (text (codes "it's")) ≡ Ok (text (codes "it's")))
stripped_rows = (refl, refl, refl, refl, refl, refl, refl, refl)

split_rows :
    (row_of_one op.Split (text []) ≡ Ok (list no_trees))
    × (row_of_one op.Split (text (codes "aZ z09{[@`")) ≡ Ok (table (pair (number (fraction (pos 1) 1)) (text (codes "aZ")) (pair (number (fraction (pos 2) 1)) (text (codes "z09{[@`")) no_pairs))))
    × (row_of_one op.Split (text (codes "Hello, World!")) ≡ Ok (table (pair (number (fraction (pos 1) 1)) (text (codes "Hello,")) (pair (number (fraction (pos 2) 1)) (text (codes "World!")) no_pairs))))
    × (row_of_one op.Split (text (codes "  ab  c ")) ≡ Ok (table (pair (number (fraction (pos 1) 1)) (text (codes "ab")) (pair (number (fraction (pos 2) 1)) (text (codes "c")) no_pairs))))
    × (row_of_one op.Split (text (codes "   ")) ≡ Ok (list no_trees))
    × (row_of_one op.Split (text (codes "abc")) ≡ Ok (table (pair (number (fraction (pos 1) 1)) (text (codes "abc")) no_pairs)))
    × (row_of_one op.Split (text (codes " a b")) ≡ Ok (table (pair (number (fraction (pos 1) 1)) (text (codes "a")) (pair (number (fraction (pos 2) 1)) (text (codes "b")) no_pairs))))
    × (row_of_one op.Split (text (codes "it's")) ≡ Ok (table (pair (number (fraction (pos 1) 1)) (text (codes "it's")) no_pairs)))
split_rows = (refl, refl, refl, refl, refl, refl, refl, refl)
