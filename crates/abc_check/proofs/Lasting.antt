-- The greatest line in a command, form by form.
use Rattle.std.proofs.Common.{◌≡◌, ◌∙◌, ◌<◌, ◌+◌, ◌++◌, ℕ, List, [], ◌∷◌, map, take, length, get_or, ap, sym, refl, arith, rules}
use Rattle.std.specs.Prelude.{max}
use Rattle.abc_tree.specs.Height.{highest}
use Rattle.abc_tree.specs.declared.formulas.Bound.{Bound}
use Rattle.abc_tree.specs.declared.formulas.Expr.{Expr}
use Rattle.abc_tree.specs.declared.formulas.Test.{Test}
use Rattle.abc_tree.specs.declared.commands.Action.{Action, out-Action}
use Rattle.abc_tree.specs.declared.commands.ActionNode.{ActionNode, out-ActionNode, map-ActionNode, roll-ActionNode, the_lemmas as actions}
use Rattle.abc_tree.specs.declared.commands.ActionNode.TheOpen.{ActionNode-F}
use Rattle.abc_tree.specs.declared.commands.ActionNode.TheFolds.{fold-roll-ActionNode, fold-roll-Action, fold-roll-Alternative}
use Rattle.abc_tree.specs.declared.commands.ActionNode.TheViews.{roll-out-ActionNode, roll-out-Action, roll-out-Alternative}
use Rattle.abc_tree.specs.declared.commands.ActionNode.TheVariants as n
use Rattle.abc_tree.specs.declared.commands.Alternative.{Alternative, out-Alternative}
use Rattle.abc_check.proofs.Taking.{next_taken}
use Rattle.abc_check.specs.inner.Ends.{inner_last, action_last, alternative_last, last_of_action, last_of_alternative, last_of_inner}

module _ {X : Type 0} (f : X → ℕ) where
  highest_last : (xs : List X) (x : X) → highest (map f (xs ++ x ∷ [])) ≡ max (highest (map f xs)) (f x)
  highest_last [] x = omega arith
  highest_last (y ∷ ys) x =
      let rest : highest (map f (ys ++ x ∷ [])) ≡ max (highest (map f ys)) (f x) = highest_last ys x in
      omega (arith, rest)

  -- one more of those that a loop went over
  pub highest_next : (xs : List X) (i : ℕ) (x : X) (before m n : ℕ) → i < length xs → x ≡ get_or xs i x → m ≡ max before (highest (map f (take i xs))) → n ≡ max m (f x) → n ≡ max before (highest (map f (take (i + 1) xs)))
  highest_next xs i x before m n inside is e here =
      let more : highest (map f (take (i + 1) xs)) ≡ max (highest (map f (take i xs))) (f x) = ap (λ ys. highest (map f ys)) (sym (next_taken xs i x inside is)) ∙ highest_last (take i xs) x in
      omega (arith, e, here, more)

pub action_is : (a : Action) → last_of_action a ≡ max (out-Action a).line (last_of_inner (out-Action a).node)
action_is a = ap last_of_action (sym (roll-out-Action a)) ∙ fold-roll-Action ℕ ℕ ℕ inner_last action_last alternative_last (out-Action a)

pub alternative_is : (a : Alternative) → last_of_alternative a ≡ max (out-Alternative a).line (highest (map last_of_action (out-Alternative a).suite))
alternative_is a = ap last_of_alternative (sym (roll-out-Alternative a)) ∙ fold-roll-Alternative ℕ ℕ ℕ inner_last action_last alternative_last (out-Alternative a)

-- ---- the commands in a command

on_if : (t : Test) (suite : List Action) → last_of_inner (n.If t suite) ≡ highest (map last_of_action suite)
on_if t suite = search (rules, actions)

on_while : (t : Test) (suite : List Action) → last_of_inner (n.While t suite) ≡ highest (map last_of_action suite)
on_while t suite = search (rules, actions)

on_for : (names : Bound) (t : Expr) (suite : List Action) → last_of_inner (n.For names t suite) ≡ highest (map last_of_action suite)
on_for names t suite = search (rules, actions)

on_select : (ways : List Alternative) → last_of_inner (n.Select ways) ≡ highest (map last_of_alternative ways)
on_select ways = search (rules, actions)

module _ (x : ActionNode) where
  pub if_is : (t : Test) (suite actions : List Action) → x ≡ n.If t suite → actions ≡ suite → last_of_inner x ≡ highest (map last_of_action actions)
  if_is t suite actions is same = ap last_of_inner is ∙ (on_if t suite ∙ ap (λ xs. highest (map last_of_action xs)) (sym same))

  pub while_is : (t : Test) (suite actions : List Action) → x ≡ n.While t suite → actions ≡ suite → last_of_inner x ≡ highest (map last_of_action actions)
  while_is t suite actions is same = ap last_of_inner is ∙ (on_while t suite ∙ ap (λ xs. highest (map last_of_action xs)) (sym same))

  pub for_is : (names : Bound) (t : Expr) (suite actions : List Action) → x ≡ n.For names t suite → actions ≡ suite → last_of_inner x ≡ highest (map last_of_action actions)
  for_is names t suite actions is same = ap last_of_inner is ∙ (on_for names t suite ∙ ap (λ xs. highest (map last_of_action xs)) (sym same))

  pub select_is : (alternatives ways : List Alternative) → x ≡ n.Select alternatives → ways ≡ alternatives → last_of_inner x ≡ highest (map last_of_alternative ways)
  select_is alternatives ways is same = ap last_of_inner is ∙ (on_select alternatives ∙ ap (λ xs. highest (map last_of_alternative xs)) (sym same))

-- no other command has commands in it
abbrev opened : ActionNode-F ActionNode Action Alternative → ℕ
opened y = inner_last (map-ActionNode ActionNode Action Alternative ℕ ℕ ℕ last_of_inner last_of_action last_of_alternative y)

module _ (x : ActionNode) (no_if : (t : Test) (suite : List Action) → x ≡ n.If t suite → ⊥) (no_while : (t : Test) (suite : List Action) → x ≡ n.While t suite → ⊥) (no_for : (names : Bound) (t : Expr) (suite : List Action) → x ≡ n.For names t suite → ⊥) (no_select : (ways : List Alternative) → x ≡ n.Select ways → ⊥) where
  rolled : (y : ActionNode-F ActionNode Action Alternative) → out-ActionNode x ≡ y → x ≡ roll-ActionNode y
  rolled y is = sym (roll-out-ActionNode x) ∙ ap roll-ActionNode is

  by_form : (y : ActionNode-F ActionNode Action Alternative) → out-ActionNode x ≡ y → opened y ≡ 0
  by_form (ActionNode-F.Write before part after) is = refl
  by_form (ActionNode-F.Put v a) is = refl
  by_form (ActionNode-F.Insert v a) is = refl
  by_form (ActionNode-F.Remove v a) is = refl
  by_form (ActionNode-F.Delete a) is = refl
  by_form (ActionNode-F.ReadExample a e) is = refl
  by_form (ActionNode-F.ReadRaw a) is = refl
  by_form (ActionNode-F.Check t) is = refl
  by_form ActionNode-F.Pass is = refl
  by_form (ActionNode-F.If t suite) is = absurd (no_if t suite (rolled (ActionNode-F.If t suite) is ∙ n.rolls-If t suite))
  by_form (ActionNode-F.Select ways) is = absurd (no_select ways (rolled (ActionNode-F.Select ways) is ∙ n.rolls-Select ways))
  by_form (ActionNode-F.While t suite) is = absurd (no_while t suite (rolled (ActionNode-F.While t suite) is ∙ n.rolls-While t suite))
  by_form (ActionNode-F.For names t suite) is = absurd (no_for names t suite (rolled (ActionNode-F.For names t suite) is ∙ n.rolls-For names t suite))
  by_form ActionNode-F.Quit is = refl
  by_form (ActionNode-F.Return v) is = refl
  by_form (ActionNode-F.Report t) is = refl
  by_form ActionNode-F.Succeed is = refl
  by_form ActionNode-F.Fail is = refl
  by_form (ActionNode-F.Call t es) is = refl
  by_form (ActionNode-F.Refinement name) is = refl

  pub none_is : last_of_inner x ≡ 0
  none_is = ap last_of_inner (sym (roll-out-ActionNode x)) ∙ (fold-roll-ActionNode ℕ ℕ ℕ inner_last action_last alternative_last (out-ActionNode x) ∙ by_form (out-ActionNode x) refl)
