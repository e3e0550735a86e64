-- The calls of a tree in the order of the text, and the signatures that they use: given as a list, or by what each may use.
use Rattle.std.specs.Prelude.{◌≡◌, List, [], ◌∷◌, ◌++◌, Option}
use Rattle.abc_tree.specs.declared.templates.Template.{Template}
use Rattle.abc_ground.specs.Seen.{Node, Nodes, node, call, no_nodes, more}
use Rattle.abc_ground.specs.Fits.{Signature}

abbrev mutual
  -- the templates of the calls in a node
  pub templates : Node → List Template
  templates (node r xs) = each_templates xs
  templates (call gives t front back) = each_templates front ++ t ∷ each_templates back

  -- in each of these
  pub each_templates : Nodes → List Template
  each_templates no_nodes = []
  each_templates (more x xs) = templates x ++ each_templates xs

-- the next signature of a list
abbrev pub next_of : Template → List (Option Signature) → Option Signature → List (Option Signature) → Type 0
next_of t before s after = before ≡ s ∷ after

module _ (allowed : Template → Option Signature → Type 0) where
  -- any that is allowed
  abbrev pub any_allowed : Template → Unit {0} → Option Signature → Unit {0} → Type 0
  any_allowed t before s after = allowed t s

  -- each call has a signature that is allowed
  abbrev pub AreAllowed : List Template → List (Option Signature) → Type 0
  AreAllowed [] [] = Unit {0}
  AreAllowed (t ∷ ts) (s ∷ ss) = allowed t s × AreAllowed ts ss
  AreAllowed _ _ = ⊥
