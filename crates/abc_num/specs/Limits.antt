-- The limits of the product, written a second time: definitions read the constants themselves.
use Rattle.std.specs.Prelude.{◌≡◌, ◌-◌, ◌^◌}
use Rattle.abc_num.specs.declared.limits.TheConstants.{MOST_UNITS, MOST_TARGETS, MOST_LINES, MOST_LINE_BYTES, TAB_WIDTH, MOST_NAMES, MOST_FORMALS, MOST_SUITES, MOST_TREE_HEIGHT, MOST_BRACKETS, FIRST_CHARACTER, LAST_CHARACTER, MOST_ELEMENTS, MOST_VALUE_HEIGHT, MOST_WEIGHT, MOST_OUTPUT, MOST_RECORD_BYTES, MOST_DEPTH, MOST_VARIABLES, LEAST_STEPS, MOST_STEPS, DEFAULT_STEPS, IMAGE_BOUND, INPUT_BOUND, CHECKPOINT_BOUND, LEAST_MADE, MOST_MADE}

-- of workspaces, lines and units
abbrev pub UnitsAreLimited : Type 0
UnitsAreLimited = (MOST_UNITS ≡ 4096) × (MOST_TARGETS ≡ 4096) × (MOST_LINES ≡ 2000) × (MOST_LINE_BYTES ≡ 4096) × (TAB_WIDTH ≡ 8) × (MOST_NAMES ≡ 1000) × (MOST_FORMALS ≡ 50) × (MOST_SUITES ≡ 50)

-- of trees and types
abbrev pub TreesAreLimited : Type 0
TreesAreLimited = (MOST_TREE_HEIGHT ≡ 100) × (MOST_BRACKETS ≡ 100) × (MOST_VARIABLES ≡ 2 ^ 32 - 1)

-- of values
abbrev pub ValuesAreLimited : Type 0
ValuesAreLimited = (FIRST_CHARACTER ≡ 32) × (LAST_CHARACTER ≡ 126) × (MOST_ELEMENTS ≡ 2 ^ 20) × (MOST_VALUE_HEIGHT ≡ 200) × (MOST_WEIGHT ≡ 2 ^ 28)

-- of runs
abbrev pub RunsAreLimited : Type 0
RunsAreLimited = (MOST_OUTPUT ≡ 2 ^ 24) × (MOST_RECORD_BYTES ≡ 2 ^ 28) × (MOST_DEPTH ≡ 1000) × (LEAST_STEPS ≡ 1) × (MOST_STEPS ≡ 10 ^ 12) × (DEFAULT_STEPS ≡ 10000000) × (IMAGE_BOUND ≡ 2 ^ 40) × (INPUT_BOUND ≡ 2 ^ 40) × (CHECKPOINT_BOUND ≡ 2 ^ 20) × (LEAST_MADE ≡ 1) × (MOST_MADE ≡ 10000)
