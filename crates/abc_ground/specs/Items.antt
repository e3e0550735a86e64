-- Units and commands that fit up to a line.
use Rattle.std.specs.Prelude.{◌≡◌, ℕ, List, [], length, Option, Some, None, slice_get}
use Rattle.std.specs.List.{Contains}
use Rattle.abc_num.specs.declared.types.Ground.{Ground}
use Rattle.abc_tree.specs.declared.templates.Template.{Template}
use Rattle.abc_tree.specs.declared.templates.TemplateKind.{TemplateKind}
use Rattle.abc_tree.specs.declared.templates.TemplateKind.TheVariants as kind
use Rattle.abc_tree.specs.declared.commands.Command.{Command}
use Rattle.abc_tree.specs.declared.commands.Unit.{Unit as Routine}
use Rattle.abc_tree.specs.RegularItems.{parts_of, bounds_of, shared_names}
use Rattle.abc_ground.specs.Seen.{nodes, seen_heading, unit_upto, command_upto}
use Rattle.abc_ground.specs.Fits.{Signature, Typing, each_fits}

-- the name of this number is a target, and has its type
abbrev pub IsTarget : (List ℕ → Ground) → List (List ℕ) → List Ground → ℕ → Type 0
IsTarget targets names types i = (text : List ℕ) → slice_get names i ≡ Some text → slice_get types i ≡ Some (targets text)

-- a function has a result, and no other unit has one
abbrev pub HasResult : TemplateKind → Option Ground → Type 0
HasResult kind.Function None = ⊥
HasResult kind.Function (Some g) = Unit {0}
HasResult kind.Command None = Unit {0}
HasResult kind.Command (Some g) = ⊥
HasResult kind.Predicate None = Unit {0}
HasResult kind.Predicate (Some g) = ⊥

module _ {S : Type 0} (uses : Template → S → Option Signature → S → Type 0) (targets : List ℕ → Ground) (n : ℕ) where
  -- The unit fits up to line n, with these types of its names and this signature. Shared names are targets. The formals of
  -- the heading count whatever n is.
  pub record UnitFits (unit : Routine) (g : Typing) (s : Signature) (before after : S) : Type 0 where
    pub names : length g.names ≡ length unit.names
    pub shared : (i : ℕ) → Contains (shared_names unit) i → IsTarget targets unit.names g.names i
    pub formals : each_fits uses g (nodes (seen_heading unit)) s.formals before before
    pub result : g.result ≡ s.result
    pub kind_of : HasResult unit.template.kind s.result
    pub body : each_fits uses g (unit_upto n unit) [] before after

  -- The command fits up to line n. Each of its names that neither FOR nor a quantifier binds is a target.
  pub record CommandFits (c : Command) (g : Typing) (before after : S) : Type 0 where
    pub names : length g.names ≡ length c.names
    pub targets_are : (i : ℕ) → (Contains (bounds_of (parts_of c.action)) i → ⊥) → IsTarget targets c.names g.names i
    pub result : g.result ≡ None
    pub body : each_fits uses g (command_upto n c) [] before after
