-- What holds of each thing in what a line makes, where it holds of what the line says and of the parts below it.
use Rattle.std.proofs.Common.{◌≡◌, ◌+◌, ℕ, suc, Bool, true, false, List, [], ◌∷◌, ◌++◌, map, Option, Some, None, refl, ap, sym, ◌∙◌, subst, arith, rules}
use Rattle.std.specs.Prelude.{option_map}
use Rattle.abc_tree.specs.Lists.{flat}
use Rattle.abc_tree.specs.RegularItems as piece
use Rattle.abc_tree.specs.RegularItems.{Part as Piece, Parts, here, inside, early, ways, tested, is_else, parts_of}
use Rattle.abc_tree.specs.inner.Bindings.{parts_in_node, way_in}
use Rattle.abc_tree.specs.declared.commands.Action.{Action}
use Rattle.abc_tree.specs.declared.commands.ActionNode.{ActionNode, the_lemmas as actions}
use Rattle.abc_tree.specs.declared.commands.ActionNode.TheVariants as node
use Rattle.abc_tree.specs.declared.commands.Alternative.{Alternative, roll-Alternative}
use Rattle.abc_tree.specs.declared.formulas.Bound.{Bound}
use Rattle.abc_tree.specs.declared.formulas.Expr.{Expr}
use Rattle.abc_tree.specs.declared.formulas.Test.{Test}
use Rattle.abc_clauses.specs.declared.clause.Head.{Head}
use Rattle.abc_clauses.specs.declared.clause.Head.TheVariants as head
use Rattle.abc_parse.specs.declared.parts.Part.{Part}
use Rattle.abc_parse.specs.declared.parts.Part.TheVariants as p
use Rattle.abc_parse.specs.Parts.{grown, alone, commands, alternatives, command, way, on}

-- ---- what is found

pub some_same : {X : Type 0} {x y : X} → (let s : Option X = Some x in s ≡ Some y) → x ≡ y
some_same e = cc

pub mapped : {X Y : Type 0} (f : X → Y) (o : Option X) (y : Y) → option_map f o ≡ Some y → (x : X) × (o ≡ Some x) × (y ≡ f x)
mapped f None y e = absurd cc
mapped f (Some x) y e = (x, refl, some_same (sym e))

-- ---- what stands in a command

pub action_is : (n : ℕ) (x : ActionNode) → parts_of (on n x) ≡ here (piece.line n ∷ []) ++ parts_in_node x
action_is n x = search (rules, actions)

pub if_is : (x : Test) (suite : List Action) → parts_in_node (node.If x suite) ≡ here (piece.test x ∷ []) ++ inside (map parts_of suite)
if_is x suite = search (rules, actions)

pub while_is : (x : Test) (suite : List Action) → parts_in_node (node.While x suite) ≡ here (piece.test x ∷ []) ++ inside (map parts_of suite)
while_is x suite = search (rules, actions)

pub for_is : (names : Bound) (x : Expr) (suite : List Action) → parts_in_node (node.For names x suite) ≡ here (piece.bound names ∷ piece.value x ∷ []) ++ inside (map parts_of suite)
for_is names x suite = search (rules, actions)

pub select_is : (alternatives : List Alternative) → parts_in_node (node.Select alternatives) ≡ ways (map way_in alternatives)
select_is alternatives = search (rules, actions)

pub way_parts_are : (n : ℕ) (x : Option Test) (suite : List Action)
    → (way_in (roll-Alternative (record { line = n; test = x; suite = suite }))).parts ≡ here (piece.line n ∷ tested x) ++ inside (map parts_of suite)
way_parts_are n x suite = search (rules, actions)

way_otherwise_is : (n : ℕ) (x : Option Test) (suite : List Action)
    → (way_in (roll-Alternative (record { line = n; test = x; suite = suite }))).otherwise ≡ is_else x
way_otherwise_is n x suite = search (rules, actions)

-- ---- ELSE is last

abbrev pub is_else_part : Part → Bool
is_else_part (p.Command a) = false
is_else_part (p.Alternative a) = (way_in a).otherwise
is_else_part p.Nothing = false

abbrev pub ElseIsLast : List Part → Type 0
ElseIsLast [] = Unit {0}
ElseIsLast (x ∷ []) = Unit {0}
ElseIsLast (x ∷ y ∷ xs) = (is_else_part x ≡ false) × ElseIsLast (y ∷ xs)

later_else : (x : Part) (xs : List Part) → ElseIsLast (x ∷ xs) → ElseIsLast xs
later_else x [] l = tt
later_else x (y ∷ xs) l = l.1

no_ways : (xs : List Part) (w : Alternative) (ws : List Alternative) → alternatives xs ≡ Some (w ∷ ws) → xs ≡ [] → ⊥
no_ways xs w ws e z = let f : alternatives xs ≡ Some [] = ap alternatives z in cc

not_else : (x : Part) (xs : List Part) (w : Alternative) (ws : List Alternative) → alternatives xs ≡ Some (w ∷ ws) → ElseIsLast (x ∷ xs) → is_else_part x ≡ false
not_else x [] w ws e l = absurd (no_ways [] w ws e refl)
not_else x (y ∷ xs) w ws e l = l.0

-- ---- suites that stand below a heading, counted from those open at it

abbrev pub depth_below : ℕ → Head → ℕ
depth_below d head.Select = d
depth_below d _ = suc d

-- of each thing that stands in a section, with so many suites round it
module _ (Q : Option ℕ → ℕ → Piece → Type 0) (o : Option ℕ) where
  abbrev pub All : ℕ → Parts → Type 0
  All d [] = Unit {0}
  All d (x ∷ xs) = Q o (d + x.0) x.1 × All d xs

  pub all_both : (d : ℕ) (xs ys : Parts) → All d xs → All d ys → All d (xs ++ ys)
  all_both d [] ys a b = b
  all_both d (x ∷ xs) ys a b = (a.0, all_both d xs ys a.1 b)

  pub all_deeper : (d : ℕ) (xs : Parts) → All (suc d) xs → All d (map (λ part. (suc part.0, part.1)) xs)
  all_deeper d [] a = tt
  all_deeper d (x ∷ xs) a = let e : suc d + x.0 ≡ d + suc x.0 = omega arith in (subst (λ n. Q o n x.1) e a.0, all_deeper d xs a.1)

  abbrev pub OfSuite : ℕ → List Action → Type 0
  OfSuite d suite = All d (flat (map parts_of suite))

  abbrev pub OfPart : ℕ → Part → Type 0
  OfPart d (p.Command a) = All d (parts_of a)
  OfPart d (p.Alternative a) = All d ((way_in a).parts)
  OfPart d p.Nothing = Unit {0}

  abbrev pub OfParts : ℕ → List Part → Type 0
  OfParts d [] = Unit {0}
  OfParts d (x ∷ xs) = OfPart d x × OfParts d xs

  -- what a line says, and what stands beside it in a suite of its own
  abbrev pub OfHead : ℕ → ℕ → Head → Type 0
  OfHead d n (head.Simple x) = All d (here (piece.line n ∷ []) ++ parts_in_node x)
  OfHead d n (head.If x) = All d (here (piece.line n ∷ piece.test x ∷ []))
  OfHead d n (head.While x) = All d (here (piece.line n ∷ piece.test x ∷ []))
  OfHead d n (head.For names x) = All d (here (piece.line n ∷ piece.bound names ∷ piece.value x ∷ []))
  OfHead d n head.Select = All d (here (piece.line n ∷ []))
  OfHead d n (head.When x) = All d (here (piece.line n ∷ piece.test x ∷ []))
  OfHead d n head.Otherwise = All d (here (piece.line n ∷ []))
  OfHead d n (head.Share names) = Unit {0}
  OfHead d n (head.Unit f formals) = Unit {0}
  OfHead d n (head.Refinement x) = Unit {0}

  abbrev pub OfBeside : ℕ → ℕ → Option ActionNode → Type 0
  OfBeside d n None = Unit {0}
  OfBeside d n (Some x) = All d (here (piece.line n ∷ []) ++ parts_in_node x)

  pub of_action : (d n : ℕ) (x : ActionNode) → All d (here (piece.line n ∷ []) ++ parts_in_node x) → All d (parts_of (on n x))
  of_action d n x a = subst (All d) (sym (action_is n x)) a

  pub suite_of_parts : (d : ℕ) (xs : List Part) (suite : List Action) → commands xs ≡ Some suite → OfParts d xs → OfSuite d suite
  suite_of_parts d [] suite e a = subst (OfSuite d) (some_same e) tt
  suite_of_parts d (p.Command x ∷ xs) suite e a =
      let m = mapped (λ actions. x ∷ actions) (commands xs) suite e in
      subst (OfSuite d) (sym m.2) (all_both d (parts_of x) (flat (map parts_of m.0)) a.0 (suite_of_parts d xs m.0 m.1 a.1))
  suite_of_parts d (p.Nothing ∷ xs) suite e a = suite_of_parts d xs suite e a.1
  suite_of_parts d (p.Alternative x ∷ xs) suite e a = absurd cc

  -- in the alternatives of a SELECT
  one_way : (d : ℕ) (x : Alternative) (xs : List Part) (ws : List Alternative) → alternatives xs ≡ Some ws → OfPart d (p.Alternative x) → ElseIsLast (p.Alternative x ∷ xs)
      → All d (ways (map way_in ws)) → All d (ways (map way_in (x ∷ ws)))
  one_way d x xs [] e a l ih = a
  one_way d x xs (w ∷ ws) e a l ih =
      let n : (way_in x).otherwise ≡ false = not_else (p.Alternative x) xs w ws e l in
      let q : All d (early (way_in x).otherwise) = subst (λ b. All d (early b)) (sym n) tt in
      all_both d (early (way_in x).otherwise ++ (way_in x).parts) (ways (map way_in (w ∷ ws))) (all_both d (early (way_in x).otherwise) ((way_in x).parts) q a) ih

  pub ways_of_parts : (d : ℕ) (xs : List Part) (ws : List Alternative) → alternatives xs ≡ Some ws → OfParts d xs → ElseIsLast xs → All d (ways (map way_in ws))
  ways_of_parts d [] ws e a l = subst (λ (ws : List Alternative). All d (ways (map way_in ws))) (some_same e) tt
  ways_of_parts d (p.Alternative x ∷ xs) ws e a l =
      let m = mapped (λ ways. x ∷ ways) (alternatives xs) ws e in
      subst (λ (ws : List Alternative). All d (ways (map way_in ws))) (sym m.2)
      (one_way d x xs m.0 m.1 a.0 l (ways_of_parts d xs m.0 m.1 a.1 (later_else (p.Alternative x) xs l)))
  ways_of_parts d (p.Command x ∷ xs) ws e a l = absurd cc
  ways_of_parts d (p.Nothing ∷ xs) ws e a l = absurd cc

  -- ---- lines

  suited : (d : ℕ) (suite : List Action) (all own : Parts) → all ≡ own ++ inside (map parts_of suite) → All d own → OfSuite (suc d) suite → All d all
  suited d suite all own e a s = subst (All d) (sym e) (all_both d own (inside (map parts_of suite)) a (all_deeper d (flat (map parts_of suite)) s))

  over_command : (d n : ℕ) (x : ActionNode) (own : Parts) (suite : List Action) → parts_in_node x ≡ own ++ inside (map parts_of suite) → All d (here (piece.line n ∷ []) ++ own) → OfSuite (suc d) suite
      → OfPart d (command n x)
  over_command d n x own suite e a s =
      suited d suite (parts_of (on n x)) (here (piece.line n ∷ []) ++ own) (action_is n x ∙ ap (λ xs. here (piece.line n ∷ []) ++ xs) e) a s

  over_way : (d n : ℕ) (x : Option Test) (suite : List Action) → All d (here (piece.line n ∷ tested x)) → OfSuite (suc d) suite → OfPart d (way n x suite)
  over_way d n x suite a s = suited d suite _ (here (piece.line n ∷ tested x)) (way_parts_are n x suite) a s

  module _ (d n : ℕ) (below : List Part) (part : Part) where
    pub over_part : (h : Head) → grown n h below ≡ Some part → OfHead d n h → OfParts (depth_below d h) below → ElseIsLast below → OfPart d part
    over_part (head.If x) e a b l =
        let m = mapped (λ suite. command n (node.If x suite)) (commands below) part e in
        subst (OfPart d) (sym m.2) (over_command d n (node.If x m.0) (here (piece.test x ∷ [])) m.0 (if_is x m.0) a (suite_of_parts (suc d) below m.0 m.1 b))
    over_part (head.While x) e a b l =
        let m = mapped (λ suite. command n (node.While x suite)) (commands below) part e in
        subst (OfPart d) (sym m.2) (over_command d n (node.While x m.0) (here (piece.test x ∷ [])) m.0 (while_is x m.0) a (suite_of_parts (suc d) below m.0 m.1 b))
    over_part (head.For names x) e a b l =
        let m = mapped (λ suite. command n (node.For names x suite)) (commands below) part e in
        subst (OfPart d) (sym m.2) (over_command d n (node.For names x m.0) (here (piece.bound names ∷ piece.value x ∷ [])) m.0 (for_is names x m.0) a (suite_of_parts (suc d) below m.0 m.1 b))
    over_part head.Select e a b l =
        let m = mapped (λ ways. command n (node.Select ways)) (alternatives below) part e in
        let w = ways_of_parts d below m.0 m.1 b l in
        subst (OfPart d) (sym m.2) (of_action d n (node.Select m.0) (a.0, subst (All d) (sym (select_is m.0)) w))
    over_part (head.When x) e a b l =
        let m = mapped (λ suite. way n (Some x) suite) (commands below) part e in
        subst (OfPart d) (sym m.2) (over_way d n (Some x) m.0 a (suite_of_parts (suc d) below m.0 m.1 b))
    over_part head.Otherwise e a b l =
        let m = mapped (λ suite. way n None suite) (commands below) part e in
        subst (OfPart d) (sym m.2) (over_way d n None m.0 a (suite_of_parts (suc d) below m.0 m.1 b))
    over_part (head.Simple x) e a b l = absurd cc
    over_part (head.Share x) e a b l = absurd cc
    over_part (head.Unit x y) e a b l = absurd cc
    over_part (head.Refinement x) e a b l = absurd cc

  module _ (d n : ℕ) (part : Part) where
    beside_part : (h : Head) (x : ActionNode) → grown n h (command n x ∷ []) ≡ Some part → OfHead d n h → OfBeside (suc d) n (Some x) → OfPart d part
    beside_part head.Select x e a b = absurd cc
    beside_part (head.If y) x e a b = over_part d n (command n x ∷ []) part (head.If y) e a (of_action (suc d) n x b, tt) tt
    beside_part (head.While y) x e a b = over_part d n (command n x ∷ []) part (head.While y) e a (of_action (suc d) n x b, tt) tt
    beside_part (head.For y z) x e a b = over_part d n (command n x ∷ []) part (head.For y z) e a (of_action (suc d) n x b, tt) tt
    beside_part (head.When y) x e a b = over_part d n (command n x ∷ []) part (head.When y) e a (of_action (suc d) n x b, tt) tt
    beside_part head.Otherwise x e a b = over_part d n (command n x ∷ []) part head.Otherwise e a (of_action (suc d) n x b, tt) tt
    beside_part (head.Simple y) x e a b = absurd cc
    beside_part (head.Share y) x e a b = absurd cc
    beside_part (head.Unit y z) x e a b = absurd cc
    beside_part (head.Refinement y) x e a b = absurd cc

    pub alone_part : (h : Head) (beside : Option ActionNode) → alone n h beside ≡ Some part → OfHead d n h → OfBeside (suc d) n beside → OfPart d part
    alone_part h (Some x) e a b = beside_part h x e a b
    alone_part (head.Simple x) None e a b = subst (OfPart d) (some_same e) (of_action d n x a)
    alone_part (head.Share x) None e a b = subst (OfPart d) (some_same e) tt
    alone_part (head.If x) None e a b = absurd cc
    alone_part (head.While x) None e a b = absurd cc
    alone_part (head.For x y) None e a b = absurd cc
    alone_part head.Select None e a b = absurd cc
    alone_part (head.When x) None e a b = absurd cc
    alone_part head.Otherwise None e a b = absurd cc
    alone_part (head.Unit x y) None e a b = absurd cc
    alone_part (head.Refinement x) None e a b = absurd cc

-- ---- only ELSE makes what ELSE makes

module _ (n : ℕ) (below : List Part) (part : Part) (is : is_else_part part ≡ true) where
  -- what is no ELSE
  no_command : {X : Type 0} (f : X → ActionNode) (o : Option X) → option_map (λ x. command n (f x)) o ≡ Some part → ⊥
  no_command f o e = let m = mapped (λ x. command n (f x)) o part e in let z : is_else_part part ≡ false = ap is_else_part m.2 in cc

  pub else_over : (h : Head) → grown n h below ≡ Some part → h ≡ head.Otherwise
  else_over head.Otherwise e = refl
  else_over (head.If x) e = absurd (no_command (λ suite. node.If x suite) (commands below) e)
  else_over (head.While x) e = absurd (no_command (λ suite. node.While x suite) (commands below) e)
  else_over (head.For x y) e = absurd (no_command (λ suite. node.For x y suite) (commands below) e)
  else_over head.Select e = absurd (no_command (λ ways. node.Select ways) (alternatives below) e)
  else_over (head.When x) e = absurd (
      let m = mapped (λ suite. way n (Some x) suite) (commands below) part e in
      let z : is_else_part part ≡ false = ap is_else_part m.2 ∙ way_otherwise_is n (Some x) m.0 in cc)
  else_over (head.Simple x) e = absurd cc
  else_over (head.Share x) e = absurd cc
  else_over (head.Unit x y) e = absurd cc
  else_over (head.Refinement x) e = absurd cc

pub else_alone : (n : ℕ) (part : Part) → is_else_part part ≡ true → (h : Head) (beside : Option ActionNode) → alone n h beside ≡ Some part → h ≡ head.Otherwise
else_alone n part is h (Some x) e = else_over n (command n x ∷ []) part is h e
else_alone n part is (head.Simple x) None e = absurd (let z : is_else_part part ≡ false = ap is_else_part (sym (some_same e)) in cc)
else_alone n part is (head.Share x) None e = absurd (let z : is_else_part part ≡ false = ap is_else_part (sym (some_same e)) in cc)
else_alone n part is (head.If x) None e = absurd cc
else_alone n part is (head.While x) None e = absurd cc
else_alone n part is (head.For x y) None e = absurd cc
else_alone n part is head.Select None e = absurd cc
else_alone n part is (head.When x) None e = absurd cc
else_alone n part is head.Otherwise None e = absurd cc
else_alone n part is (head.Unit x y) None e = absurd cc
else_alone n part is (head.Refinement x) None e = absurd cc
