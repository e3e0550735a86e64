-- The lines of what the lines of an item make don't fall.
use Rattle.std.proofs.Common.{◌≡◌, ◌≤◌, ◌+◌, ℕ, suc, Bool, true, false, cond, List, [], ◌∷◌, ◌++◌, length, map, Option, Some, None, refl, ap, sym, ◌∙◌, subst, arith, append_assoc}
use Rattle.std.specs.Prelude.{nat_lt, nat_le, ◌&&◌, if◌then◌else◌, option_map}
use Rattle.std.specs.List.{AllByRecursion, list_all}
use Rattle.std.proofs.lemmas.Bool.{and_from, and_parts, le-leb}
use Rattle.std.proofs.lemmas.List.{append-nil}
use Rattle.abc_num.specs.declared.limits.TheConstants.{MOST_LINES}
use Rattle.abc_num.specs.declared.lines.Line.{Line}
use Rattle.abc_tree.specs.Lists.{flat}
use Rattle.abc_tree.specs.RegularItems as piece
use Rattle.abc_tree.specs.RegularItems.{Part as Piece, Parts, do_not_fall, early, has_regular_lines, here, line_of, lines_of, parts_of, parts_of_unit, suite_parts, ways}
use Rattle.abc_tree.specs.inner.Bindings.{parts_in_node, way_in}
use Rattle.abc_tree.specs.declared.commands.Action.{Action}
use Rattle.abc_tree.specs.declared.commands.ActionNode.{ActionNode}
use Rattle.abc_tree.specs.declared.commands.ActionNode.TheVariants as node
use Rattle.abc_tree.specs.declared.commands.Alternative.{Alternative}
use Rattle.abc_tree.specs.declared.commands.Command.{Command}
use Rattle.abc_tree.specs.declared.commands.Refinement.{Refinement}
use Rattle.abc_tree.specs.declared.commands.RefinementKind.{RefinementKind}
use Rattle.abc_tree.specs.declared.commands.Unit.{Unit as Routine}
use Rattle.abc_outline.specs.declared.rows.Row.{Row}
use Rattle.abc_clauses.specs.declared.clause.Clause.{Clause}
use Rattle.abc_clauses.specs.declared.clause.Head.{Head}
use Rattle.abc_clauses.specs.declared.clause.Head.TheVariants as head
use Rattle.abc_faults.specs.declared.facts.Facts.{Facts}
use Rattle.abc_faults.specs.declared.sayings.Saying.{Saying}
use Rattle.abc_faults.specs.Facts.{edges, opens, place_below}
use Rattle.abc_faults.specs.Sayings.{AllSay, next_line, saying, stop}
use Rattle.abc_parse.specs.declared.cutting.Cut.{Cut}
use Rattle.abc_parse.specs.declared.parts.Part.{Part}
use Rattle.abc_parse.specs.declared.parts.Part.TheVariants as p
use Rattle.abc_parse.specs.declared.parts.Root.{Root}
use Rattle.abc_parse.specs.Parts.{alone, alternatives, command, commands, grown, on, way}
use Rattle.abc_parse.specs.Items.{refinement_kind}
use Rattle.abc_parse.specs.Readings.{action_in, command_of, command_over, command_with, cut_by, cut_of, first_action, first_action_in, made, one_more, suite_of, unit_of, with_roots}
use Rattle.abc_parse.specs.Roots as roots
use Rattle.abc_parse.specs.Roots.{kept, taken}
use Rattle.abc_parse.specs.Trees.{made_alone, made_over, refined, refinement_of, root}
use Rattle.abc_parse.proofs.each_thing.EachItem.{unit_told}
use Rattle.abc_parse.proofs.each_thing.EachLine.{found}
use Rattle.abc_parse.proofs.spelling.Formed.{Says}
use Rattle.abc_parse.proofs.each_thing.PartsMade.{action_is, for_is, if_is, mapped, select_is, some_same, way_parts_are, while_is}
use Rattle.abc_parse.proofs.each_thing.Titles.{line_number, line_told}
use Rattle.abc_parse.proofs.each_thing.SimpleNodes.{IsSimple, IsSimpleBeside, IsSimpleHead, ReadingLaws, clause_simple, is_no_line}

-- ---- numbers that rise up to the last one that may be

abbrev pub Rise : ℕ → ℕ → List ℕ → Type 0
Rise top k [] = k ≤ top
Rise top k (x ∷ xs) = (k ≤ x) × Rise top x xs

abbrev pub AllSame : ℕ → List ℕ → Type 0
AllSame n xs = AllByRecursion (λ x. x ≡ n) xs

rise_from : (top k m : ℕ) → k ≤ m → (xs : List ℕ) → Rise top m xs → Rise top k xs
rise_from top k m le [] r = omega arith
rise_from top k m le (x ∷ xs) r = let h = r.0 in (omega arith, r.1)

rise_same : (top n : ℕ) (xs ys : List ℕ) → AllSame n xs → Rise top n ys → Rise top n (xs ++ ys)
rise_same top n [] ys a r = r
rise_same top n (x ∷ xs) ys a r = let e = a.0 in (omega arith, subst (λ m. Rise top m (xs ++ ys)) (sym e) (rise_same top n xs ys a.1 r))

same_both : (n : ℕ) (xs ys : List ℕ) → AllSame n xs → AllSame n ys → AllSame n (xs ++ ys)
same_both n [] ys a b = b
same_both n (x ∷ xs) ys a b = (a.0, same_both n xs ys a.1 b)

none_fall : (top k : ℕ) (xs : List ℕ) → Rise top k xs → do_not_fall xs ≡ true
none_fall top k [] r = refl
none_fall top k (x ∷ []) r = refl
none_fall top k (x ∷ y ∷ xs) r = and_from _ _ (le-leb x y r.1.0) (none_fall top x (y ∷ xs) r.1)

below_last : (top k : ℕ) (xs : List ℕ) → Rise top k xs → k ≤ top
below_last top k [] r = r
below_last top k (x ∷ xs) r = let h = r.0 in let t = below_last top x xs r.1 in omega arith

-- they are lines, where so many lines are there
all_there : (top most k : ℕ) → top ≤ most → 1 ≤ k → (xs : List ℕ) → Rise top k xs → list_all (λ n. nat_le 1 n && nat_le n most && nat_le n top) xs ≡ true
all_there top most k few positive [] r = refl
all_there top most k few positive (x ∷ xs) r =
    let h = r.0 in
    let t = below_last top x xs r.1 in
    and_from _ _ (and_from _ _ (and_from _ _ (le-leb 1 x (omega arith)) (le-leb x most (omega arith))) (le-leb x top t)) (all_there top most x few (omega arith) xs r.1)

-- ---- the lines of parts

pub lines_both : (xs ys : Parts) → lines_of (xs ++ ys) ≡ lines_of xs ++ lines_of ys
lines_both [] ys = refl
lines_both (x ∷ xs) ys = ap (λ ns. line_of x.1 ++ ns) (lines_both xs ys) ∙ sym (append_assoc (line_of x.1) (lines_of xs) (lines_of ys))

pub lines_deeper : (xs : Parts) → lines_of (map (λ part. (suc part.0, part.1)) xs) ≡ lines_of xs
lines_deeper [] = refl
lines_deeper (x ∷ xs) = ap (λ ns. line_of x.1 ++ ns) (lines_deeper xs)

no_line_of : (x : Piece) → is_no_line x ≡ true → line_of x ≡ []
no_line_of (piece.line n) e = absurd cc
no_line_of (piece.value x) e = refl
no_line_of (piece.address x) e = refl
no_line_of (piece.example x) e = refl
no_line_of (piece.test x) e = refl
no_line_of (piece.bound x) e = refl
no_line_of piece.quits e = refl
no_line_of piece.returns e = refl
no_line_of piece.reports e = refl
no_line_of (piece.calls f n) e = refl
no_line_of (piece.refinement x) e = refl
no_line_of piece.early_else e = absurd cc

no_lines : (xs : List Piece) → list_all is_no_line xs ≡ true → lines_of (here xs) ≡ []
no_lines [] e = refl
no_lines (x ∷ xs) e =
    let q = and_parts (is_no_line x) (list_all is_no_line xs) e in ap (λ ns. ns ++ lines_of (here xs)) (no_line_of x q.0) ∙ no_lines xs q.1

abbrev pub lines_in : Part → List ℕ
lines_in (p.Command a) = lines_of (parts_of a)
lines_in (p.Alternative a) = lines_of ((way_in a).parts)
lines_in p.Nothing = []

abbrev pub lines_in_all : List Part → List ℕ
lines_in_all xs = flat (map lines_in xs)

abbrev pub root_lines : List Root → List ℕ
root_lines [] = []
root_lines (r ∷ roots) = lines_in r.part ++ root_lines roots

abbrev pub suite_lines : List Action → List ℕ
suite_lines suite = lines_of (flat (map parts_of suite))

commands_lines : (xs : List Part) (suite : List Action) → commands xs ≡ Some suite → suite_lines suite ≡ lines_in_all xs
commands_lines [] suite e = ap suite_lines (sym (some_same e))
commands_lines (p.Command x ∷ xs) suite e =
    let m = mapped (λ actions. x ∷ actions) (commands xs) suite e in
    ap suite_lines m.2 ∙ lines_both (parts_of x) (flat (map parts_of m.0)) ∙ ap (λ ns. lines_of (parts_of x) ++ ns) (commands_lines xs m.0 m.1)
commands_lines (p.Nothing ∷ xs) suite e = commands_lines xs suite e
commands_lines (p.Alternative x ∷ xs) suite e = absurd cc

abbrev way_lines : List Alternative → List ℕ
way_lines ws = flat (map (λ w. lines_of ((way_in w).parts)) ws)

ways_lines : (ws : List Alternative) → lines_of (ways (map way_in ws)) ≡ way_lines ws
ways_lines [] = refl
ways_lines (w ∷ []) = sym (append-nil (lines_of ((way_in w).parts)))
ways_lines (w ∷ z ∷ ws) =
    lines_both (early (way_in w).otherwise ++ (way_in w).parts) (ways (map way_in (z ∷ ws)))
    ∙ ap (λ ns. ns ++ lines_of (ways (map way_in (z ∷ ws)))) (lines_both (early (way_in w).otherwise) ((way_in w).parts) ∙ ap (λ ns. ns ++ lines_of ((way_in w).parts)) (no_early (way_in w).otherwise))
    ∙ ap (λ ns. lines_of ((way_in w).parts) ++ ns) (ways_lines (z ∷ ws))
  where
    no_early : (b : Bool) → lines_of (early b) ≡ []
    no_early true = refl
    no_early false = refl

alternatives_lines : (xs : List Part) (ws : List Alternative) → alternatives xs ≡ Some ws → way_lines ws ≡ lines_in_all xs
alternatives_lines [] ws e = ap way_lines (sym (some_same e))
alternatives_lines (p.Alternative x ∷ xs) ws e =
    let m = mapped (λ ways. x ∷ ways) (alternatives xs) ws e in ap way_lines m.2 ∙ ap (λ ns. lines_of ((way_in x).parts) ++ ns) (alternatives_lines xs m.0 m.1)
alternatives_lines (p.Command x ∷ xs) ws e = absurd cc
alternatives_lines (p.Nothing ∷ xs) ws e = absurd cc

-- ---- lines

module _ (n : ℕ) (below : List Part) (part : Part) where
  over_command : (x : ActionNode) (more : Parts) → parts_in_node x ≡ more → part ≡ command n x → lines_of more ≡ lines_in_all below → lines_in part ≡ n ∷ lines_in_all below
  over_command x more e is l = ap lines_in is ∙ ap lines_of (action_is n x ∙ ap (λ xs. here (piece.line n ∷ []) ++ xs) e) ∙ ap (λ ns. n ∷ ns) l

  over_suite : (suite : List Action) → commands below ≡ Some suite → lines_of (map (λ part. (suc part.0, part.1)) (flat (map parts_of suite))) ≡ lines_in_all below
  over_suite suite e = lines_deeper (flat (map parts_of suite)) ∙ commands_lines below suite e

  pub over_lines : (h : Head) → grown n h below ≡ Some part → lines_in part ≡ n ∷ lines_in_all below
  over_lines (head.If x) e = let m = mapped (λ suite. command n (node.If x suite)) (commands below) part e in over_command (node.If x m.0) _ (if_is x m.0) m.2 (over_suite m.0 m.1)
  over_lines (head.While x) e = let m = mapped (λ suite. command n (node.While x suite)) (commands below) part e in over_command (node.While x m.0) _ (while_is x m.0) m.2 (over_suite m.0 m.1)
  over_lines (head.For b x) e = let m = mapped (λ suite. command n (node.For b x suite)) (commands below) part e in over_command (node.For b x m.0) _ (for_is b x m.0) m.2 (over_suite m.0 m.1)
  over_lines head.Select e =
      let m = mapped (λ ways. command n (node.Select ways)) (alternatives below) part e in
      over_command (node.Select m.0) _ (select_is m.0) m.2 (ways_lines m.0 ∙ alternatives_lines below m.0 m.1)
  over_lines (head.When x) e =
      let m = mapped (λ suite. way n (Some x) suite) (commands below) part e in ap lines_in m.2 ∙ ap lines_of (way_parts_are n (Some x) m.0) ∙ ap (λ ns. n ∷ ns) (over_suite m.0 m.1)
  over_lines head.Otherwise e =
      let m = mapped (λ suite. way n None suite) (commands below) part e in ap lines_in m.2 ∙ ap lines_of (way_parts_are n None m.0) ∙ ap (λ ns. n ∷ ns) (over_suite m.0 m.1)
  over_lines (head.Simple x) e = absurd cc
  over_lines (head.Share x) e = absurd cc
  over_lines (head.Unit x y) e = absurd cc
  over_lines (head.Refinement x) e = absurd cc

node_lines : (n : ℕ) (x : ActionNode) → IsSimple x → AllSame n (lines_of (parts_of (on n x)))
node_lines n x is =
    let e : lines_of (parts_of (on n x)) ≡ n ∷ [] = ap lines_of (action_is n x) ∙ ap (λ ns. n ∷ ns) (ap lines_of is.all ∙ no_lines is.parts is.no_lines) in
    subst (AllSame n) (sym e) (refl, tt)

pub alone_lines : (n : ℕ) (part : Part) (h : Head) (beside : Option ActionNode) → IsSimpleHead h → IsSimpleBeside beside → alone n h beside ≡ Some part → AllSame n (lines_in part)
alone_lines n part h (Some x) a b e =
    let l = over_lines n (command n x ∷ []) part h e in
    subst (AllSame n) (sym l) (refl, same_both n (lines_of (parts_of (on n x))) [] (node_lines n x b) tt)
alone_lines n part (head.Simple x) None a b e = subst (λ x. AllSame n (lines_in x)) (some_same e) (node_lines n x a)
alone_lines n part (head.Share x) None a b e = subst (λ x. AllSame n (lines_in x)) (some_same e) tt
alone_lines n part (head.If x) None a b e = absurd cc
alone_lines n part (head.While x) None a b e = absurd cc
alone_lines n part (head.For x y) None a b e = absurd cc
alone_lines n part head.Select None a b e = absurd cc
alone_lines n part (head.When x) None a b e = absurd cc
alone_lines n part head.Otherwise None a b e = absurd cc
alone_lines n part (head.Unit x y) None a b e = absurd cc
alone_lines n part (head.Refinement x) None a b e = absurd cc

-- ---- roots

cut_lines : (n : ℕ) (rs : List Root) → root_lines rs ≡ lines_in_all (taken n rs) ++ root_lines (kept n rs)
cut_lines n [] = refl
cut_lines n (r ∷ rs) = step (nat_lt n r.indent) (cut_lines n rs) where
  step : (b : Bool) → root_lines rs ≡ lines_in_all (taken n rs) ++ root_lines (kept n rs)
      → root_lines (r ∷ rs) ≡ lines_in_all (cond b (r.part ∷ taken n rs) []) ++ root_lines (cond b (kept n rs) (r ∷ rs))
  step true ih = ap (λ ns. lines_in r.part ++ ns) ih ∙ sym (append_assoc (lines_in r.part) (lines_in_all (taken n rs)) (root_lines (kept n rs)))
  step false ih = refl

all_lines : (rs : List Root) → lines_in_all (roots.parts_of rs) ≡ root_lines rs
all_lines [] = refl
all_lines (r ∷ rs) = ap (λ ns. lines_in r.part ++ ns) (all_lines rs)

abbrev pub refinement_lines : List Refinement → List ℕ
refinement_lines [] = []
refinement_lines (r ∷ rs) = r.line ∷ (suite_lines r.suite ++ refinement_lines rs)

module _ (top : ℕ) (line : Saying) (simple_head : IsSimpleHead line.clause.head) (simple_beside : IsSimpleBeside line.clause.beside) (more : List ℕ) where
  abbrev n : ℕ
  n = line.clause.line

  rise_made : (rs new : List Root) → Rise top n (root_lines rs ++ more) → made line rs ≡ Some new → Rise top n (root_lines new ++ more)
  rise_made rs new r e = by (opens line.clause) e where
    by : (b : Bool) → (if b then option_map (λ part. root line part ∷ kept line.indent rs) (made_over line.clause (taken line.indent rs)) else option_map (λ part. root line part ∷ rs) (made_alone line.clause)) ≡ Some new
        → Rise top n (root_lines new ++ more)
    by true e =
        let m = mapped (λ part. root line part ∷ kept line.indent rs) (made_over line.clause (taken line.indent rs)) new e in
        let l = over_lines n (taken line.indent rs) m.0 line.clause.head m.1 in
        let whole : root_lines new ≡ n ∷ root_lines rs =
        ap root_lines m.2 ∙ ap (λ ns. ns ++ root_lines (kept line.indent rs)) l ∙ ap (λ ns. n ∷ ns) (sym (cut_lines line.indent rs)) in
        let le : n ≤ n = omega arith in
        subst (λ ns. Rise top n (ns ++ more)) (sym whole) (le, r)
    by false e =
        let m = mapped (λ part. root line part ∷ rs) (made_alone line.clause) new e in
        let a = alone_lines n m.0 line.clause.head line.clause.beside simple_head simple_beside m.1 in
        subst (λ rs. Rise top n (root_lines rs ++ more)) (sym m.2)
        (subst (Rise top n) (sym (append_assoc (lines_in m.0) (root_lines rs) more)) (rise_same top n (lines_in m.0) (root_lines rs ++ more) a r))

  rise_suite : (rs : List Root) (suite : List Action) → Rise top n (root_lines rs ++ more) → suite_of n line.clause.beside rs ≡ Some suite → Rise top n (suite_lines suite ++ more)
  rise_suite rs suite r e = by line.clause.beside simple_beside rs r e where
    by : (beside : Option ActionNode) → IsSimpleBeside beside → (rs : List Root) → Rise top n (root_lines rs ++ more) → suite_of n beside rs ≡ Some suite → Rise top n (suite_lines suite ++ more)
    by None b rs r e = subst (λ ns. Rise top n (ns ++ more)) (sym (commands_lines (roots.parts_of rs) suite e ∙ all_lines rs)) r
    by (Some x) b [] r e =
        let l : lines_of (parts_of (on n x) ++ []) ≡ lines_of (parts_of (on n x)) = lines_both (parts_of (on n x)) [] ∙ append-nil (lines_of (parts_of (on n x))) in
        subst (λ suite. Rise top n (suite_lines suite ++ more)) (some_same e)
        (rise_same top n (suite_lines (on n x ∷ [])) more (subst (AllSame n) (sym l) (node_lines n x b)) r)
    by (Some x) b (q ∷ rs) r e = absurd cc

-- ---- the lines of an item

module _ (top : ℕ) (laws : ReadingLaws) (facts : Facts) (kinds : List ℕ → RefinementKind) where
  abbrev pub DoRise : List Row → Cut → Type 0
  DoRise above cut = Rise top (length (edges above)) (root_lines cut.roots ++ refinement_lines cut.refinements)

  later : (n m : ℕ) → n ≡ m + 1 → n ≤ suc m
  later n m e = omega arith

  one_less : (n m : ℕ) → n + suc m ≤ top → suc n + m ≤ top
  one_less n m e = omega arith

  at_end : (n : ℕ) → n + 0 ≤ top → n ≤ top
  at_end n e = omega arith

  module _ (above : List Row) (row : Row) (clause : Clause) (says : Says facts above row clause) where
    pub simple : IsSimpleHead clause.head × IsSimpleBeside clause.beside
    simple =
        let t = line_told facts (place_below facts above row) row clause says in
        clause_simple laws facts (place_below facts above row).role (place_below facts above row).number row.line.text t.tokens clause t.says

    pub number : clause.line ≡ length (edges above) + 1
    number = line_number facts (place_below facts above row) row clause says

    cut_rises : (old new : Cut) (o : Option (List ℕ)) → cut_by kinds (saying row clause) o old ≡ Some new → DoRise (row ∷ above) old → DoRise above new
    cut_rises old new (Some x) e r =
        let m = mapped (λ suite. record { roots = []; refinements = refinement_of kinds x clause.line suite ∷ old.refinements }) (suite_of clause.line clause.beside old.roots) new e in
        let s = rise_from top clause.line (suc (length (edges above))) (later clause.line (length (edges above)) number) (root_lines old.roots ++ refinement_lines old.refinements) r in
        let t = rise_suite top (saying row clause) simple.0 simple.1 (refinement_lines old.refinements) old.roots m.0 s m.1 in
        let le : length (edges above) ≤ clause.line = (let e = number in omega arith) in
        subst (DoRise above) (sym m.2) (le, t)
    cut_rises old new None e r =
        let m = mapped (with_roots old) (made (saying row clause) old.roots) new e in
        let s = rise_from top clause.line (suc (length (edges above))) (later clause.line (length (edges above)) number) (root_lines old.roots ++ refinement_lines old.refinements) r in
        let t = rise_made top (saying row clause) simple.0 simple.1 (refinement_lines old.refinements) old.roots m.0 s m.1 in
        let le : length (edges above) ≤ clause.line = (let e = number in omega arith) in
        subst (DoRise above) (sym m.2) (rise_from top (length (edges above)) clause.line le (root_lines m.0 ++ refinement_lines old.refinements) t)

  pub each_rises : (above : List Row) {rows : List Row} {lines : List Saying} → AllSay facts above rows lines → length (edges above) + length rows ≤ top → (cut : Cut) → cut_of kinds lines ≡ Some cut
      → DoRise above cut
  each_rises above stop few cut e = subst (DoRise above) (some_same e) (at_end (length (edges above)) few)
  each_rises above {rows = row ∷ rows} (next_line {clause = clause} {lines = more} says say) few cut e =
      let c = found (cut_of kinds more) (one_more kinds (saying row clause)) cut e in
      cut_rises above row clause says c.0 cut (refined clause.head) c.2 (each_rises (row ∷ above) say (one_less (length (edges above)) (length rows) few) c.0 c.1)

rise_front : (top k : ℕ) (xs ys : List ℕ) → Rise top k (xs ++ ys) → Rise top k xs
rise_front top k [] ys r = below_last top k ys r
rise_front top k (x ∷ xs) ys r = (r.0, rise_front top x xs ys r.1)

unit_lines : (body : List Action) (rs : List Refinement) → lines_of (suite_parts body ++ flat (map (λ r. here (piece.line r.line ∷ []) ++ suite_parts r.suite) rs)) ≡ suite_lines body ++ refinement_lines rs
unit_lines body rs =
    lines_both (suite_parts body) (flat (map with_line rs)) ∙ ap (λ ns. ns ++ lines_of (flat (map with_line rs))) (lines_deeper (flat (map parts_of body)))
    ∙ ap (λ ns. suite_lines body ++ ns) (each rs)
  where
    with_line : Refinement → Parts
    with_line r = here (piece.line r.line ∷ []) ++ suite_parts r.suite

    each : (rs : List Refinement) → lines_of (flat (map with_line rs)) ≡ refinement_lines rs
    each [] = refl
    each (r ∷ rs) =
        lines_both (with_line r) (flat (map with_line rs)) ∙ ap (λ ns. r.line ∷ (ns ++ lines_of (flat (map with_line rs)))) (lines_deeper (flat (map parts_of r.suite)))
        ∙ ap (λ ns. r.line ∷ (suite_lines r.suite ++ ns)) (each rs)

action_lines : (top : ℕ) (new : List Root) (a : Action) (k : ℕ) → first_action_in new ≡ Some a → Rise top k (root_lines new ++ []) → Rise top k (lines_of (parts_of a))
action_lines top [] a k e r = absurd cc
action_lines top (q ∷ new) a k e r = by q.part e r where
  by : (part : Part) → action_in part ≡ Some a → Rise top k ((lines_in part ++ root_lines new) ++ []) → Rise top k (lines_of (parts_of a))
  by (p.Command x) e r =
      subst (λ (a : Action). Rise top k (lines_of (parts_of a))) (some_same e)
      (rise_front top k (lines_of (parts_of x)) (root_lines new) (rise_front top k (lines_of (parts_of x) ++ root_lines new) [] r))
  by (p.Alternative x) e r = absurd cc
  by p.Nothing e r = absurd cc

behind_first : (row : Row) (n : ℕ) → n ≡ length (edges []) + 1 → n ≤ length (edges (row ∷ []))
behind_first row n e = omega arith

first_positive : (n : ℕ) → n ≡ length (edges []) + 1 → 1 ≤ n
first_positive n e = omega arith

module _ (top : ℕ) (laws : ReadingLaws) (facts : Facts) (row : Row) {rows : List Row} (few : 1 + length rows ≤ top) where
  unit_rises : (all : List Line) {sayings : List Saying} → AllSay facts [] (row ∷ rows) sayings → (u : Routine) → unit_of facts all sayings ≡ Some u → Rise top 1 (lines_of (parts_of_unit u))
  unit_rises all (next_line {clause = clause} {lines = rest} says say) u e =
      let m = unit_told facts all (saying row clause) rest u e in
      let r = each_rises top laws facts (refinement_kind facts) (row ∷ []) say few m.cut m.cut_is in
      let more = refinement_lines m.cut.refinements in
      let number_is = number top laws facts (refinement_kind facts) [] row clause says in
      let s = rise_from top clause.line (length (edges (row ∷ []))) (behind_first row clause.line number_is) (root_lines m.cut.roots ++ more) r in
      let is = simple top laws facts (refinement_kind facts) [] row clause says in
      let t = rise_suite top (saying row clause) is.0 is.1 more m.cut.roots m.headed.body s m.title.body in
      let body : u.body ≡ m.headed.body = ap (λ (u : Routine). u.body) m.is in
      let refinements : u.refinements ≡ m.cut.refinements = ap (λ (u : Routine). u.refinements) m.is in
      subst (Rise top 1)
      (sym (unit_lines u.body u.refinements ∙ ap (λ b. suite_lines b ++ refinement_lines u.refinements) body ∙ ap (λ rs. suite_lines m.headed.body ++ refinement_lines rs) refinements))
      (rise_from top 1 clause.line (first_positive clause.line number_is) (suite_lines m.headed.body ++ more) t)

  pub regular_lines : top ≤ MOST_LINES → (all : List Line) → length all ≡ top → {sayings : List Saying} → AllSay facts [] (row ∷ rows) sayings → (u : Routine) → unit_of facts all sayings ≡ Some u
      → u.lines ≡ all → has_regular_lines u ≡ true
  regular_lines most all count say u e lines_are =
      let r = unit_rises all say u e in
      let xs = lines_of (parts_of_unit u) in
      and_from _ _ (none_fall top 1 xs r)
      (subst (λ n. list_all (λ line. nat_le 1 line && nat_le line MOST_LINES && nat_le line n) xs ≡ true) (sym (ap length lines_are ∙ count)) (all_there top MOST_LINES 1 most (omega arith) xs r))

  pub command_rises : {sayings : List Saying} → AllSay facts [] (row ∷ rows) sayings → (c : Command) → command_of facts sayings ≡ Some c → do_not_fall (lines_of (parts_of c.action)) ≡ true
  command_rises (next_line {clause = clause} {lines = rest} says say) c e =
      let line = saying row clause in
      let q = found (cut_of (refinement_kind facts) rest) (command_over facts line) c e in
      let m = mapped (command_with facts.names) (first_action line q.0.roots) c q.2 in
      let f = found (made line q.0.roots) first_action_in m.0 m.1 in
      let r = each_rises top laws facts (refinement_kind facts) (row ∷ []) say few q.0 q.1 in
      let s = rise_from top clause.line (length (edges (row ∷ []))) (behind_first row clause.line (number top laws facts (refinement_kind facts) [] row clause says))
      (root_lines q.0.roots ++ refinement_lines q.0.refinements) r in
      let is = simple top laws facts (refinement_kind facts) [] row clause says in
      let front = subst (Rise top clause.line) (sym (append-nil (root_lines q.0.roots))) (rise_front top clause.line (root_lines q.0.roots) (refinement_lines q.0.refinements) s) in
      let t = rise_made top line is.0 is.1 [] q.0.roots f.0 front f.1 in
      let a = action_lines top f.0 m.0 clause.line f.2 t in
      ap (λ (c : Command). do_not_fall (lines_of (parts_of c.action))) m.2 ∙ none_fall top clause.line (lines_of (parts_of m.0)) a
