-- How values and changes are spelled as bytes. Each begins with a byte that tells its kind.
use Rattle.std.specs.Prelude.{ℕ, List, [], ◌∷◌, ◌++◌, length, nat_eq, if◌then◌else◌}
use Rattle.std.specs.Int.{w64, w128, cast_unsigned}
use Rattle.std.specs.List.{flat_map}
use Rattle.abc_num.specs.Number.{Fraction}
use Rattle.abc_num.specs.declared.lines.Line.{Line}
use Rattle.abc_value.specs.Tree.{Tree, Trees, Pairs, number, text, compound, list, table, no_trees, more, no_pairs, pair}
use Rattle.abc_value.specs.Sizes.{count, count_pairs}
use Rattle.abc_record.specs.declared.change.Change.{Change}
use Rattle.abc_record.specs.declared.change.Change.TheVariants.{SetTarget, DropTarget, SetUnit, DropUnit}
use Rattle.abc_record.specs.Bytes.{in_four, in_eight, in_sixteen, spelled_text}

-- a whole number: 0, and 128 bits in two's complement
abbrev pub spelled_whole : Fraction → List ℕ
spelled_whole n = 0 ∷ in_sixteen (cast_unsigned w128 n.numerator)

-- a fraction: 1, the numerator in 64 bits in two's complement, and the denominator
abbrev pub spelled_fraction : Fraction → List ℕ
spelled_fraction n = 1 ∷ in_eight (cast_unsigned w64 n.numerator) ++ in_eight n.denominator

unfoldable pub spelled_number : Fraction → List ℕ
spelled_number n = if nat_eq n.denominator 1 then spelled_whole n else spelled_fraction n

abbrev mutual
  -- a number; 2 and a text; 3, the count and the fields; 4, the count and the elements; 5, the count and the pairs
  pub spelled_value : Tree → List ℕ
  spelled_value (number n) = spelled_number n
  spelled_value (text b) = 2 ∷ spelled_text b
  spelled_value (compound ts) = 3 ∷ in_four (count ts) ++ spelled_values ts
  spelled_value (list ts) = 4 ∷ in_four (count ts) ++ spelled_values ts
  spelled_value (table ps) = 5 ∷ in_four (count_pairs ps) ++ spelled_pairs ps

  -- one after the other
  pub spelled_values : Trees → List ℕ
  spelled_values no_trees = []
  spelled_values (more t ts) = spelled_value t ++ spelled_values ts

  -- each key before its associate
  pub spelled_pairs : Pairs → List ℕ
  spelled_pairs no_pairs = []
  spelled_pairs (pair k a ps) = spelled_value k ++ spelled_value a ++ spelled_pairs ps

-- a line: its indentation, and its text
abbrev pub spelled_line : Line → List ℕ
spelled_line line = in_four line.indent ++ spelled_text line.text

-- 1, the name and the value; 2 and the name; 3, the count and the lines; 4 and the template
unfoldable pub spelled_change : Change → List ℕ
spelled_change (SetTarget name value) = 1 ∷ spelled_text name ++ spelled_value value
spelled_change (DropTarget name) = 2 ∷ spelled_text name
spelled_change (SetUnit lines) = 3 ∷ in_four (length lines) ++ flat_map spelled_line lines
spelled_change (DropUnit template) = 4 ∷ spelled_text template

-- changes, one after the other
abbrev pub spelled_changes : List Change → List ℕ
spelled_changes changes = flat_map spelled_change changes

-- a list of changes: their count, and they
abbrev pub spelled : List Change → List ℕ
spelled changes = in_four (length changes) ++ spelled_changes changes
