-- The line up to which a command reaches, and that more lines add nothing.
use Rattle.std.proofs.Common.{◌≡◌, ◌∙◌, ◌≤◌, ◌<◌, ◌+◌, ◌++◌, ℕ, Bool, true, false, List, [], ◌∷◌, map, take, length, get_or, ap, sym, subst, refl, arith}
use Rattle.std.proofs.lemmas.Bool.Decides.{nat_tests}
use Rattle.std.specs.Prelude.{nat_le}
use Rattle.abc_tree.specs.Lists.{flat}
use Rattle.abc_tree.specs.Lined.{Lined, at, upto}
use Rattle.abc_tree.specs.declared.formulas.Bound.{Bound}
use Rattle.abc_tree.specs.declared.formulas.Expr.{Expr}
use Rattle.abc_tree.specs.declared.formulas.Test.{Test}
use Rattle.abc_tree.specs.declared.commands.Action.{Action, out-Action}
use Rattle.abc_tree.specs.declared.commands.ActionNode.{ActionNode, out-ActionNode, map-ActionNode, roll-ActionNode}
use Rattle.abc_tree.specs.declared.commands.ActionNode.TheOpen.{ActionNode-F}
use Rattle.abc_tree.specs.declared.commands.ActionNode.TheViews.{roll-out-ActionNode}
use Rattle.abc_tree.specs.declared.commands.ActionNode.TheVariants as n
use Rattle.abc_tree.specs.declared.commands.Alternative.{Alternative, out-Alternative}
use Rattle.abc_tree.specs.declared.commands.Command.{Command}
use Rattle.abc_ground.specs.Seen.{Node, nodes, leaf, result, tested, At, seen_node, seen_action, seen_alternative, seen_command, inner_seen}
use Rattle.abc_ground.specs.Fits.{each_fits}
use Rattle.abc_ground.specs.Calls.{any_allowed}
use Rattle.abc_ground.specs.Groups.{Cut}
use Rattle.abc_ground.specs.Typable.{Values, IsOffered, IsTypableWith}
use Rattle.abc_demand.specs.inner.Walks.{own_nodes}
use Rattle.abc_demand.proofs.Suites.{action_parts, alternative_parts, inner_if, inner_while, inner_for, inner_select}
use Rattle.abc_check.proofs.Taking.{next_taken}
use Rattle.abc_check.specs.inner.Ends.{EndBy, of_action, of_alternative, of_inner}

-- ---- lists of nodes

ends_later : (xs : Lined Node) (m n : ℕ) → m ≤ n → EndBy m xs → EndBy n xs
ends_later [] m n le e = tt
ends_later (x ∷ xs) m n le e = (omega (arith, e.0, le), ends_later xs m n le e.1)

ends_both : (xs ys : Lined Node) (n : ℕ) → EndBy n xs → EndBy n ys → EndBy n (xs ++ ys)
ends_both [] ys n e f = f
ends_both (x ∷ xs) ys n e f = (e.0, ends_both xs ys n e.1 f)

ends_front : (xs ys : Lined Node) (n : ℕ) → EndBy n (xs ++ ys) → EndBy n xs × EndBy n ys
ends_front [] ys n e = (tt, e)
ends_front (x ∷ xs) ys n e = let r : EndBy n xs × EndBy n ys = ends_front xs ys n e.1 in ((e.0, r.0), r.1)

ends_at : (xs : List Node) (line n : ℕ) → line ≤ n → EndBy n (at line xs)
ends_at [] line n le = tt
ends_at (x ∷ xs) line n le = (le, ends_at xs line n le)

module _ {X : Type 0} (f : X → Lined Node) where
  ends_last : (xs : List X) (x : X) (m n : ℕ) → m ≤ n → EndBy m (flat (map f xs)) → EndBy n (f x) → EndBy n (flat (map f (xs ++ x ∷ [])))
  ends_last [] x m n le e here = ends_both (f x) [] n here tt
  ends_last (y ∷ ys) x m n le e here =
      let r : EndBy m (f y) × EndBy m (flat (map f ys)) = ends_front (f y) (flat (map f ys)) m e in
      ends_both (f y) (flat (map f (ys ++ x ∷ []))) n (ends_later (f y) m n le r.0) (ends_last ys x m n le r.1 here)

  -- one more of those that a loop went over
  pub ends_next : (xs : List X) (i : ℕ) (x : X) (m n : ℕ) → i < length xs → x ≡ get_or xs i x → m ≤ n → EndBy m (flat (map f (take i xs))) → EndBy n (f x) → EndBy n (flat (map f (take (i + 1) xs)))
  ends_next xs i x m n inside is le e here = subst (λ ys. EndBy n (flat (map f ys))) (next_taken xs i x inside is) (ends_last (take i xs) x m n le e here)

-- ---- a command, an alternative, and the commands in a command

pub action_ends : (a : Action) (n : ℕ) → (out-Action a).line ≤ n → EndBy n (of_inner (out-Action a).node) → EndBy n (of_action a)
action_ends a n le e =
    subst (EndBy n) (sym (action_parts (leaf result) a)) (ends_both (at (out-Action a).line (own_nodes (leaf result) (out-Action a).node)) (of_inner (out-Action a).node) n (ends_at (own_nodes (leaf result) (out-Action a).node) (out-Action a).line n le) e)

pub alternative_ends : (a : Alternative) (n : ℕ) → (out-Alternative a).line ≤ n → EndBy n (flat (map of_action (out-Alternative a).suite)) → EndBy n (of_alternative a)
alternative_ends a n le e =
    subst (EndBy n) (sym (alternative_parts (leaf result) a)) (ends_both (at (out-Alternative a).line (tested (out-Alternative a).test ∷ [])) (flat (map of_action (out-Alternative a).suite)) n (ends_at (tested (out-Alternative a).test ∷ []) (out-Alternative a).line n le) e)

module _ (x : ActionNode) (m : ℕ) where
  pub if_ends : (t : Test) (suite actions : List Action) → x ≡ n.If t suite → actions ≡ suite → EndBy m (flat (map of_action actions)) → EndBy m (of_inner x)
  if_ends t suite actions is same e = subst (λ y. EndBy m (of_inner y)) (sym is) (subst (EndBy m) (ap (λ xs. flat (map of_action xs)) same ∙ sym (inner_if (leaf result) t suite)) e)

  pub while_ends : (t : Test) (suite actions : List Action) → x ≡ n.While t suite → actions ≡ suite → EndBy m (flat (map of_action actions)) → EndBy m (of_inner x)
  while_ends t suite actions is same e = subst (λ y. EndBy m (of_inner y)) (sym is) (subst (EndBy m) (ap (λ xs. flat (map of_action xs)) same ∙ sym (inner_while (leaf result) t suite)) e)

  pub for_ends : (names : Bound) (t : Expr) (suite actions : List Action) → x ≡ n.For names t suite → actions ≡ suite → EndBy m (flat (map of_action actions)) → EndBy m (of_inner x)
  for_ends names t suite actions is same e = subst (λ y. EndBy m (of_inner y)) (sym is) (subst (EndBy m) (ap (λ xs. flat (map of_action xs)) same ∙ sym (inner_for (leaf result) names t suite)) e)

  pub select_ends : (alternatives ways : List Alternative) → x ≡ n.Select alternatives → ways ≡ alternatives → EndBy m (flat (map of_alternative ways)) → EndBy m (of_inner x)
  select_ends alternatives ways is same e = subst (λ y. EndBy m (of_inner y)) (sym is) (subst (EndBy m) (ap (λ xs. flat (map of_alternative xs)) same ∙ sym (inner_select (leaf result) alternatives)) e)

-- no other command has commands in it
abbrev opened : ActionNode-F ActionNode Action Alternative → Lined Node
opened y = inner_seen (leaf result) (map-ActionNode ActionNode Action Alternative At (Lined Node) (Lined Node) (seen_node (leaf result)) (seen_action (leaf result)) (seen_alternative (leaf result)) y)

module _ (x : ActionNode) (m : ℕ) (no_if : (t : Test) (suite : List Action) → x ≡ n.If t suite → ⊥) (no_while : (t : Test) (suite : List Action) → x ≡ n.While t suite → ⊥) (no_for : (names : Bound) (t : Expr) (suite : List Action) → x ≡ n.For names t suite → ⊥) (no_select : (ways : List Alternative) → x ≡ n.Select ways → ⊥) where
  rolled : (y : ActionNode-F ActionNode Action Alternative) → out-ActionNode x ≡ y → x ≡ roll-ActionNode y
  rolled y is = sym (roll-out-ActionNode x) ∙ ap roll-ActionNode is

  by_form : (y : ActionNode-F ActionNode Action Alternative) → out-ActionNode x ≡ y → EndBy m (opened y)
  by_form (ActionNode-F.Write before part after) is = tt
  by_form (ActionNode-F.Put v a) is = tt
  by_form (ActionNode-F.Insert v a) is = tt
  by_form (ActionNode-F.Remove v a) is = tt
  by_form (ActionNode-F.Delete a) is = tt
  by_form (ActionNode-F.ReadExample a e) is = tt
  by_form (ActionNode-F.ReadRaw a) is = tt
  by_form (ActionNode-F.Check t) is = tt
  by_form ActionNode-F.Pass is = tt
  by_form (ActionNode-F.If t suite) is = absurd (no_if t suite (rolled (ActionNode-F.If t suite) is ∙ n.rolls-If t suite))
  by_form (ActionNode-F.Select ways) is = absurd (no_select ways (rolled (ActionNode-F.Select ways) is ∙ n.rolls-Select ways))
  by_form (ActionNode-F.While t suite) is = absurd (no_while t suite (rolled (ActionNode-F.While t suite) is ∙ n.rolls-While t suite))
  by_form (ActionNode-F.For names t suite) is = absurd (no_for names t suite (rolled (ActionNode-F.For names t suite) is ∙ n.rolls-For names t suite))
  by_form ActionNode-F.Quit is = tt
  by_form (ActionNode-F.Return v) is = tt
  by_form (ActionNode-F.Report t) is = tt
  by_form ActionNode-F.Succeed is = tt
  by_form ActionNode-F.Fail is = tt
  by_form (ActionNode-F.Call t es) is = tt
  by_form (ActionNode-F.Refinement name) is = tt

  pub others_end : EndBy m (of_inner x)
  others_end = by_form (out-ActionNode x) refl

-- ---- lines behind the last one

none_behind : (line m n : ℕ) → line ≤ m → m ≤ n → nat_le line m ≡ nat_le line n
none_behind line m n low le = grind (arith, nat_tests)

upto_same : (xs : Lined Node) (m n : ℕ) → m ≤ n → EndBy m xs → upto m xs ≡ upto n xs
upto_same [] m n le e = refl
upto_same (x ∷ xs) m n le e = by_tests (nat_le x.0 m) (nat_le x.0 n) refl refl (upto_same xs m n le e.1)
  where
    by_tests : (a b : Bool) → nat_le x.0 m ≡ a → nat_le x.0 n ≡ b → upto m xs ≡ upto n xs → upto m (x ∷ xs) ≡ upto n (x ∷ xs)
    by_tests true true p q rest = rw (p, q) (ap (λ ys. x.1 ∷ ys) rest)
    by_tests true false p q rest = absurd (let f : true ≡ false = sym p ∙ (none_behind x.0 m n e.0 le ∙ q) in cc)
    by_tests false true p q rest = absurd (let f : false ≡ true = sym p ∙ (none_behind x.0 m n e.0 le ∙ q) in cc)
    by_tests false false p q rest = rw (p, q) rest

-- what is typable up to the last line is so on all lines
pub all_lines : (values : Values) (w : List Cut) (c : Command) (m n : ℕ) → m ≤ n → EndBy m (seen_command c) → IsTypableWith values w c m → IsTypableWith values w c n
all_lines values w c m n le e (targets, are, may) = (
  targets,
  are,
  (
    may.0,
    record {
      names = may.1.names;
      targets_are = may.1.targets_are;
      result = may.1.result;
      body = subst (λ xs. each_fits (any_allowed (λ t o. IsOffered w targets t o)) may.0 (nodes xs) [] tt tt) (upto_same (seen_command c) m n le e) may.1.body;
    },
  ),
)
