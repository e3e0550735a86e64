-- The fields of a compound that are put at an address, where they match.
use Rattle.std.specs.Prelude.{Bool, List, [], is_some, unwrap_or}
use Rattle.abc_value.specs.Tree.{Tree, trees}
use Rattle.abc_meaning.specs.State.{Address, row}
use Rattle.abc_meaning.specs.Changing.{Part, fielded, fielded_all}

abbrev pub have_match : List Address → List Tree → Bool
have_match all vs = is_some (fielded_all (row all) (trees vs))

-- each field with its place; none where they don't match
abbrev pub fields_at : Address → Tree → List (Part × Tree)
fields_at a v = unwrap_or (fielded a v) []

abbrev pub all_fields_at : List Address → List Tree → List (Part × Tree)
all_fields_at all vs = unwrap_or (fielded_all (row all) (trees vs)) []
