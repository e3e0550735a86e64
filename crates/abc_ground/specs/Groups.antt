-- Units of which some lines count, what they call, and the groups of those that lead to each other.
use Rattle.std.specs.Prelude.{◌≡◌, ℕ, zero, suc, true, List, map, length, Option, None, Some, []}
use Rattle.std.specs.List.{Contains}
use Rattle.abc_tree.specs.Ordered.{found_by, placed_by}
use Rattle.abc_tree.specs.Templates.{template_text}
use Rattle.abc_tree.specs.Calls.{called_upto}
use Rattle.abc_tree.specs.declared.templates.Template.{Template}
use Rattle.abc_tree.specs.declared.commands.Unit.{Unit as Routine}

-- a unit, and how many of its lines count
pub record Cut : Type 0 where
  pub unit : Routine
  pub lines : ℕ

abbrev pub template_of : Cut → Template
template_of c = c.unit.template

-- all lines of all units
abbrev pub whole : List Routine → List Cut
whole units = map (λ u. record { unit = u; lines = length u.lines }) units

-- these units, with this one in place of one with its template, cut after line n
abbrev pub with_cut : Routine → ℕ → List Routine → List Cut
with_cut unit n units = placed_by template_of true (record { unit = unit; lines = n }) (whole units)

-- the unit with a template, if it is not missing
abbrev pub cut_of : Template → List Cut → Option Cut
cut_of = found_by template_of

-- what a unit calls on the lines that count
abbrev pub called : Option Cut → List Template
called None = []
called (Some c) = called_upto c.lines c.unit

module _ (w : List Cut) where
  -- b is called from a, by so many calls one after the other; templates that are written alike are one
  abbrev pub Way : ℕ → Template → Template → Type 0
  Way zero a b = template_text a ≡ template_text b
  Way (suc n) a b = (c : Template) × Contains (called (cut_of a w)) c × Way n c b

  abbrev pub LeadsTo : Template → Template → Type 0
  LeadsTo a b = (n : ℕ) × Way n a b

  -- they are of one group: each leads to the other
  abbrev pub AreTogether : Template → Template → Type 0
  AreTogether a b = LeadsTo a b × LeadsTo b a
