-- The names of the lines above, and when a name gets a second role.
use Rattle.std.specs.Prelude.{ℕ, Bool, true, false, ◌||◌, List, [], ◌∷◌, is_some}
use Rattle.std.specs.List.{list_any}
use Rattle.abc_num.specs.Names.{number_of, with_name}
use Rattle.abc_expressions.specs.Addresses.{each_once}
use Rattle.abc_expressions.specs.NameTokens.{own_among}
use Rattle.abc_outline.specs.declared.naming.LineNames.{LineNames}
use Rattle.abc_outline.specs.declared.rows.Row.{Row}
use Rattle.abc_outline.specs.LineNames.{names_of}
use Rattle.abc_outline.specs.OwnNames.{row_tokens}
use Rattle.abc_faults.specs.declared.facts.Facts.{Facts}
use Rattle.abc_faults.specs.declared.taken_names.Roles.{Roles}
use Rattle.abc_faults.specs.declared.taken_names.Roles.TheVariants.{Single, Second}
use Rattle.abc_faults.specs.declared.taken_names.TakenNames.{TakenNames}
use Rattle.abc_faults.specs.Facts.{place_below}

-- a name is one of these
abbrev pub is_one : List (List ℕ) → List ℕ → Bool
is_one names name = is_some (number_of names name)

abbrev pub meet : List (List ℕ) → List (List ℕ) → Bool
meet names others = list_any (is_one names) others

-- a name that was found before stands again among these
abbrev pub again : List (List ℕ) → List (List ℕ) → Bool
again found [] = false
again found (name ∷ names) = is_one found name || again (with_name found name) names

-- whether a name gets a second role
abbrev pub roles_of : Bool → Roles
roles_of true = Second
roles_of false = Single

-- the names of a line
abbrev pub names_here : Facts → List Row → Row → LineNames
names_here facts above row = names_of facts.setting.unit (place_below facts above row).role row.read

-- names, with those of one line more
abbrev pub taken_up : TakenNames → LineNames → TakenNames
taken_up taken here = record {
  roles = each_once (each_once taken.roles here.named) here.refined;
  refined = each_once taken.refined here.refined;
  bound = each_once taken.bound here.bound;
  put = each_once taken.put here.put;
}

abbrev pub no_names : TakenNames
no_names = record { roles = []; refined = []; bound = []; put = [] }

-- the names of these lines, the last of which is first
abbrev pub taken : Facts → List Row → TakenNames
taken facts [] = no_names
taken facts (row ∷ above) = taken_up (taken facts above) (names_here facts above row)

-- a formal, shared name or refinement of a line is one already
abbrev pub roles_again : TakenNames → LineNames → Bool
roles_again above here = again above.roles here.named || again (each_once above.roles here.named) here.refined

-- a name of a line is one of the lines above in a role that doesn't go with its own
abbrev pub clashes_above : TakenNames → LineNames → Bool
clashes_above above here = meet above.bound here.named || (meet above.bound here.refined || (meet above.bound here.put || meet above.refined here.put))

-- a name of a line is one of the lines above or of the line itself in such a role
abbrev pub clashes_with : TakenNames → LineNames → Bool
clashes_with all here = meet all.roles here.bound || (meet all.put here.bound || meet all.put here.refined)

-- A name gets a second role here: a formal, shared name or refinement that is one already; a bound name that is one of
-- these or stands as an address; a refinement that stands as an address.
abbrev pub twice : TakenNames → LineNames → Bool
twice above here = roles_again above here || (clashes_above above here || clashes_with (taken_up above here) here)

-- the names of an item that stand in these lines, the last of which is first
abbrev pub names_so_far : List (List ℕ) → List Row → List (List ℕ)
names_so_far names [] = []
names_so_far names (row ∷ above) = each_once (names_so_far names above) (own_among names (row_tokens row.read))
