-- What each row gives or tells.
use Rattle.std.specs.Prelude.{ℕ, pos, List, map, Bool, false, not, unwrap_or, Result, Ok, Err}
use Rattle.std.specs.Ordering.{is_eq, is_ne, is_lt, is_le, is_gt, is_ge}
use Rattle.abc_num.specs.Number.{Fraction, whole_number, whole_of}
use Rattle.abc_tree.specs.declared.operations.Op.{Op}
use Rattle.abc_tree.specs.declared.operations.Op.TheVariants as op
use Rattle.abc_value.specs.declared.faults.RunFault.{RunFault}
use Rattle.abc_value.specs.declared.faults.RunFault.TheVariants.{OutOfRange}
use Rattle.abc_value.specs.Tree.{Tree, number, text, list, trees}
use Rattle.abc_value.specs.Sizes.{length_of}
use Rattle.abc_value.specs.Order.{order}
use Rattle.abc_value.specs.Parts.{number_of, codes_of, keys_of}
use Rattle.abc_value.specs.Items.{item_of}
use Rattle.abc_value.specs.Printed.{outer}
use Rattle.abc_predef.specs.declared.aligned.Alignment.TheVariants.{Left, Center, Right}
use Rattle.abc_predef.specs.declared.extremes.Extreme.TheVariants.{Least, Greatest}
use Rattle.abc_predef.specs.Aligned.{aligned}
use Rattle.abc_predef.specs.Answers.{of_number_answer, of_value_answer}
use Rattle.abc_predef.specs.Numbers.{sum_of, difference_of, product_of, quotient_of, rest_of, power_of, rounding_of, negative_of, size_of, sign_of, floor_number, ceiling_number, nearest_number}
use Rattle.abc_predef.specs.Texts.{joined, repeated, from_place, first_part, small_letter, capital, stripped, split_of}
use Rattle.abc_predef.specs.Trains.{extreme_element, least_above, greatest_below, count_of, is_in}

-- the number that a value is
abbrev pub number_in : Tree → Fraction
number_in t = unwrap_or (number_of t) (whole_number (pos 0))

abbrev pub a_number : Fraction → Result Tree RunFault
a_number n = Ok (number n)

abbrev pub a_text : List ℕ → Result Tree RunFault
a_text b = Ok (text b)

-- the value of a row of one place, or its fault
abbrev pub row_of_one : Op → Tree → Result Tree RunFault
row_of_one op.Plus x = Ok x
row_of_one op.Negate x = a_number (negative_of (number_in x))
row_of_one op.Numerator x = a_number (whole_number (number_in x).numerator)
row_of_one op.Denominator x = a_number (whole_number (pos (number_in x).denominator))
row_of_one op.Size t = a_number (whole_number (pos (length_of t)))
row_of_one op.Abs x = a_number (size_of (number_in x))
row_of_one op.Sign x = a_number (sign_of (number_in x))
row_of_one op.Floor x = a_number (floor_number (number_in x))
row_of_one op.Ceiling x = a_number (ceiling_number (number_in x))
row_of_one op.Round x = a_number (nearest_number (number_in x))
row_of_one op.Keys t = Ok (list (trees (keys_of t)))
row_of_one op.Least t = of_value_answer (extreme_element Least t)
row_of_one op.Greatest t = of_value_answer (extreme_element Greatest t)
row_of_one op.Lower t = a_text (map small_letter (codes_of t))
row_of_one op.Upper t = a_text (map capital (codes_of t))
row_of_one op.Stripped t = a_text (stripped (codes_of t))
row_of_one op.Split t = Ok (split_of (codes_of t))
row_of_one _ x = Err OutOfRange

-- the value of a row of two places, or its fault
abbrev pub row_of_two : Op → Tree → Tree → Result Tree RunFault
row_of_two op.Add x y = of_number_answer (sum_of (number_in x) (number_in y))
row_of_two op.Subtract x y = of_number_answer (difference_of (number_in x) (number_in y))
row_of_two op.Multiply x y = of_number_answer (product_of (number_in x) (number_in y))
row_of_two op.Divide x y = of_number_answer (quotient_of (number_in x) (number_in y))
row_of_two op.Power x y = of_number_answer (power_of (number_in x) (number_in y))
row_of_two op.Join t u = of_value_answer (joined (codes_of t) (codes_of u))
row_of_two op.Repeat t n = of_value_answer (repeated (codes_of t) (whole_of (number_in n)))
row_of_two op.Behead t p = of_value_answer (from_place (codes_of t) (whole_of (number_in p)))
row_of_two op.Curtail t n = of_value_answer (first_part (codes_of t) (whole_of (number_in n)))
row_of_two op.AlignLeft x n = of_value_answer (aligned Left (outer x) (whole_of (number_in n)))
row_of_two op.Center x n = of_value_answer (aligned Center (outer x) (whole_of (number_in n)))
row_of_two op.AlignRight x n = of_value_answer (aligned Right (outer x) (whole_of (number_in n)))
row_of_two op.Count e t = a_number (whole_number (pos (count_of e t)))
row_of_two op.RoundTo n x = of_number_answer (rounding_of (number_in n) (number_in x))
row_of_two op.Modulo a n = of_number_answer (rest_of (number_in a) (number_in n))
row_of_two op.LeastAbove e t = of_value_answer (least_above e t)
row_of_two op.GreatestBelow e t = of_value_answer (greatest_below e t)
row_of_two op.Item t n = of_value_answer (item_of t (number_in n))
row_of_two _ x y = Err OutOfRange

-- whether a test holds
abbrev pub holds : Op → Tree → Tree → Bool
holds op.Less x y = is_lt (order x y)
holds op.AtMost x y = is_le (order x y)
holds op.Equal x y = is_eq (order x y)
holds op.Unequal x y = is_ne (order x y)
holds op.AtLeast x y = is_ge (order x y)
holds op.More x y = is_gt (order x y)
holds op.In e t = is_in e t
holds op.NotIn e t = not (is_in e t)
holds _ x y = false
