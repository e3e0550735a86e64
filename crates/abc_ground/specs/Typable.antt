-- Which signatures a unit may have, typable workspaces, and the type line.
use Rattle.std.specs.Prelude.{◌≡◌, ℕ, zero, suc, ◌<◌, ◌≤◌, List, Option, Some, None, IsSome}
use Rattle.std.specs.List.{All}
use Rattle.abc_num.specs.declared.types.Ground.{Ground}
use Rattle.abc_num.specs.Types.{IsProper}
use Rattle.abc_value.specs.Tree.{Tree}
use Rattle.abc_value.specs.Types.{has}
use Rattle.abc_tree.specs.declared.templates.Template.{Template}
use Rattle.abc_tree.specs.declared.commands.Command.{Command}
use Rattle.abc_ground.specs.Fits.{Signature, Typing}
use Rattle.abc_ground.specs.Calls.{any_allowed}
use Rattle.abc_ground.specs.Items.{UnitFits, CommandFits}
use Rattle.abc_ground.specs.Groups.{Cut, cut_of, AreTogether}

-- each compound in the types has two parts or more
pub record IsProperSignature (s : Signature) : Type 0 where
  pub formals : All IsProper s.formals
  pub result : (g : Ground) → s.result ≡ Some g → IsProper g

module _ (w : List Cut) where
  -- The signature that a call of t uses in a unit of the group of `home`: none where the unit is missing, within the group
  -- that of the member, and of any other unit one that it may have.
  pub record IsUsed (home : Template) (member : Template → Signature) (may : Template → Signature → Type 0) (t : Template) (s : Option Signature) : Type 0 where
    pub missing : cut_of t w ≡ None → s ≡ None
    pub inside : IsSome (cut_of t w) → AreTogether w home t → s ≡ Some (member t)
    pub outside : IsSome (cut_of t w) → (AreTogether w home t → ⊥) → (g : Signature) × (s ≡ Some g) × may t g

  -- the types of all target names are given
  module _ (targets : List ℕ → Ground) where
    -- the unit fits at the signature, where its calls use what is allowed
    abbrev pub FitsAt : (Template → Option Signature → Type 0) → Cut → Signature → Type 0
    FitsAt allowed c s = IsProperSignature s × ((g : Typing) × UnitFits (any_allowed allowed) targets c.lines c.unit g s tt tt)

    -- the whole group of t fits at one signature for each member that gives t this one
    abbrev pub GroupMay : (Template → Signature → Type 0) → Template → Signature → Type 0
    GroupMay may t s =
        (member : Template → Signature) × (member t ≡ s) × ((m : Template) (c : Cut) → AreTogether w t m → cut_of m w ≡ Some c → FitsAt (λ u o. IsUsed t member may u o) c (member m))

    -- the same over at most n groups, each above the next
    abbrev pub MayWithin : ℕ → Template → Signature → Type 0
    MayWithin zero t s = ⊥
    MayWithin (suc n) t s = IsSome (cut_of t w) × GroupMay (λ u g. MayWithin n u g) t s

    -- the unit may have the signature
    abbrev pub May : Template → Signature → Type 0
    May t s = (n : ℕ) × MayWithin n t s

    -- the signature that a call of t uses in a command
    pub record IsOffered (t : Template) (s : Option Signature) : Type 0 where
      pub missing : cut_of t w ≡ None → s ≡ None
      pub there : IsSome (cut_of t w) → (g : Signature) × (s ≡ Some g) × May t g

    -- the command fits up to line n, its calls at signatures that the units may have
    abbrev pub CommandMayFit : Command → ℕ → Type 0
    CommandMayFit c n = (g : Typing) × CommandFits (any_allowed (λ t o. IsOffered t o)) targets n c g tt tt

-- targets and their values
abbrev pub Values : Type 0
Values = List (List ℕ × Tree)

-- types of all target names: each value has its target's type, and under them every unit may have some signature
pub record AreTypes (values : Values) (w : List Cut) (targets : List ℕ → Ground) : Type 0 where
  pub proper : (name : List ℕ) → IsProper (targets name)
  pub held : All (λ v. has v.1 (targets v.0)) values
  pub units : (t : Template) → IsSome (cut_of t w) → (s : Signature) × May w targets t s

-- the workspace is typable
abbrev pub IsTypable : Values → List Cut → Type 0
IsTypable values w = (targets : List ℕ → Ground) × AreTypes values w targets

-- the workspace is typable with a command cut after line n
abbrev pub IsTypableWith : Values → List Cut → Command → ℕ → Type 0
IsTypableWith values w c n = (targets : List ℕ → Ground) × AreTypes values w targets × CommandMayFit w targets c n

-- The type line: the least line n from 1 on such that nothing is typable with what is cut after line n. For a unit that is
-- the workspace `with_cut unit n`, for a command `IsTypableWith`.
pub record IsTypeLine (typable : ℕ → Type 0) (n : ℕ) : Type 0 where
  pub from : 1 ≤ n
  pub refused : typable n → ⊥
  pub before : (m : ℕ) → 1 ≤ m → m < n → typable m
