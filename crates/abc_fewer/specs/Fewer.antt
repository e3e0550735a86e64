-- Workspaces with fewer units, or with fewer lines of them.
use Rattle.std.specs.Prelude.{◌≡◌, ◌≤◌, List, Some}
use Rattle.abc_tree.specs.declared.templates.Template.{Template}
use Rattle.abc_ground.specs.Groups.{Cut, cut_of}

-- Whatever unit is in the first is in the second too, with as many lines that count or more.
abbrev pub AreFewer : List Cut → List Cut → Type 0
AreFewer low high = (t : Template) (c : Cut) → cut_of t low ≡ Some c → (d : Cut) × (cut_of t high ≡ Some d) × (d.unit ≡ c.unit) × (c.lines ≤ d.lines)
