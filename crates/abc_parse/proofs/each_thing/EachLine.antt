-- Each thing in what the lines of an item make has what each line has, from the last line to the first.
use Rattle.std.proofs.Common.{◌≡◌, ◌≤◌, ◌<◌, ◌+◌, inl, inr, ℕ, zero, suc, Bool, true, false, not, List, [], ◌∷◌, Option, Some, None, refl, ap, sym, ◌∙◌, subst, arith}
use Rattle.std.specs.Prelude.{nat_lt, nat_le, ◌==◌, ◌&&◌, ◌||◌, if◌then◌else◌, option_map}
use Rattle.std.proofs.lemmas.Bool.{le-leb, ltb-true, or_parts}
use Rattle.abc_tree.specs.RegularItems as piece
use Rattle.abc_tree.specs.RegularItems.{Part as Piece}
use Rattle.abc_tree.specs.declared.commands.Action.{Action}
use Rattle.abc_tree.specs.declared.commands.ActionNode.{ActionNode}
use Rattle.abc_tree.specs.declared.commands.Refinement.{Refinement}
use Rattle.abc_tree.specs.declared.commands.RefinementKind.{RefinementKind}
use Rattle.abc_outline.specs.declared.edges.Edges.{Edges}
use Rattle.abc_outline.specs.declared.edges.Role.{Role}
use Rattle.abc_outline.specs.declared.edges.Role.TheVariants as role
use Rattle.abc_outline.specs.declared.edges.Section.{Section}
use Rattle.abc_outline.specs.declared.rows.Row.{Row}
use Rattle.abc_outline.specs.Outline.{is_refinement, next_number, section_by, section_of, suites_at, suites_below}
use Rattle.abc_clauses.specs.declared.clause.Clause.{Clause}
use Rattle.abc_clauses.specs.declared.clause.Head.{Head}
use Rattle.abc_clauses.specs.declared.clause.Head.TheVariants as head
use Rattle.abc_faults.specs.declared.facts.Facts.{Facts}
use Rattle.abc_faults.specs.declared.fault.FaultKind.TheVariants as k
use Rattle.abc_faults.specs.declared.sayings.Saying.{Saying}
use Rattle.abc_faults.specs.Causes.{bad_indent, behind_refinement, cause, goes_on, head_misplaced, is_alternative, sight_of}
use Rattle.abc_faults.specs.Facts.{edges, opens, place_below}
use Rattle.abc_faults.specs.Faults.{fault_from}
use Rattle.abc_faults.specs.Sayings.{AllSay, next_line, saying, stop}
use Rattle.abc_parse.specs.declared.cutting.Cut.{Cut}
use Rattle.abc_parse.specs.declared.parts.Part.{Part}
use Rattle.abc_parse.specs.declared.parts.Root.{Root}
use Rattle.abc_parse.specs.Parts.{on}
use Rattle.abc_parse.specs.Readings.{and_then, cut_by, cut_of, made, one_more, suite_of, with_refinement, with_roots}
use Rattle.abc_parse.specs.Roots.{kept, parts_of, taken}
use Rattle.abc_parse.specs.Trees.{made_alone, made_over, refined, refinement_of, root}
use Rattle.abc_faults.proofs.Around.{not_first}
use Rattle.abc_parse.proofs.each_thing.EachPart.{AreGood, BeginsWith, IsDeepIn, IsFirstBelow, IsFirstLow, IsGood, IsLevel, IsPlaced, Siblings, all_kept, below_is, else_is_last, first_below, first_root, good_kept, good_parts, good_taken, plain_suites, same_section, section_at, siblings_alone, siblings_over}
use Rattle.abc_parse.proofs.spelling.Formed.{Says, ends, heading_head, it_suits, next_low, not_behind, not_refined, placed, quiet, role_at, selects}
use Rattle.abc_faults.proofs.Leasts.{or_none}
use Rattle.abc_parse.proofs.each_thing.PartsMade.{OfBeside, OfHead, OfPart, OfParts, OfSuite, all_both, alone_part, else_alone, else_over, is_else_part, mapped, of_action, over_part, some_same, suite_of_parts}

-- the rows of an item, by those above a row, the nearest first, and those from it on
abbrev pub turned : List Row → List Row → List Row
turned [] rows = rows
turned (row ∷ above) rows = turned above (row ∷ rows)

pub found : {X Y : Type 0} (o : Option X) (next : X → Option Y) (y : Y) → and_then o next ≡ Some y → (x : X) × (o ≡ Some x) × (next x ≡ Some y)
found None next y e = absurd cc
found (Some x) next y e = (x, refl, e)

-- ---- places

role_is : (r : Role) → is_refinement r ≡ true → r ≡ role.RefinementHeading
role_is role.RefinementHeading e = refl
role_is role.UnitHeading e = absurd cc
role_is role.Alternative e = absurd cc
role_is role.Command e = absurd cc

not_not : (b : Bool) → not b ≡ false → b ≡ true
not_not true e = refl
not_not false e = absurd cc

stands_inside : (n : ℕ) (level : Bool) → (n == 0) || not level ≡ false → (level ≡ true) × (0 < n)
stands_inside zero level e = absurd cc
stands_inside (suc n) level e = (not_not level (or_parts (suc n == 0) (not level) e).1, omega arith)

deep_by : (o : Option Section) (r : Role) (n : ℕ) → behind_refinement r n o ≡ false → is_refinement r ≡ false → IsDeepIn o n
deep_by None r n e plain = tt
deep_by (Some section) r n e plain = by (nat_le n section.indent) refl where
  by : (b : Bool) → nat_le n section.indent ≡ b → section.indent < n
  by true t =
      let z : not (is_refinement r) && true ≡ false = sym (ap (λ x. not (is_refinement r) && x) t) ∙ e in
      let y : not false && true ≡ false = sym (ap (λ x. not x && true) plain) ∙ z in absurd cc
  by false t = let h : n ≤ section.indent → ⊥ = λ le. (let y : nat_le n section.indent ≡ true = le-leb n section.indent le in cc) in omega arith

-- what stands beside the heading of a refinement stands in the one suite that the heading opens
abbrev pub depth_beside : ℕ → Head → ℕ
depth_beside d (head.Refinement x) = 1
depth_beside d _ = suc d

depth_suc : (d : ℕ) (h : Head) → refined h ≡ None → depth_beside d h ≡ suc d
depth_suc d (head.Refinement x) e = absurd cc
depth_suc d (head.Simple x) e = refl
depth_suc d (head.If x) e = refl
depth_suc d (head.While x) e = refl
depth_suc d (head.For x y) e = refl
depth_suc d head.Select e = refl
depth_suc d (head.When x) e = refl
depth_suc d head.Otherwise e = refl
depth_suc d (head.Share x) e = refl
depth_suc d (head.Unit x y) e = refl

depth_one : (d : ℕ) (h : Head) (x : List ℕ) → refined h ≡ Some x → depth_beside d h ≡ 1
depth_one d (head.Refinement y) x e = refl
depth_one d (head.Simple y) x e = absurd cc
depth_one d (head.If y) x e = absurd cc
depth_one d (head.While y) x e = absurd cc
depth_one d (head.For y z) x e = absurd cc
depth_one d head.Select x e = absurd cc
depth_one d (head.When y) x e = absurd cc
depth_one d head.Otherwise x e = absurd cc
depth_one d (head.Share y) x e = absurd cc
depth_one d (head.Unit y z) x e = absurd cc

module _ (Q : Option ℕ → ℕ → Piece → Type 0) (facts : Facts) where
  -- what a line says has it, and so has what stands beside it
  pub record Has (above : List Row) (row : Row) (clause : Clause) : Type 0 where
    pub said : OfHead Q (section_at facts.setting (edges (row ∷ above))) (suites_at facts.setting (edges above) row.edges) clause.line clause.head
    pub beside : OfBeside Q (section_at facts.setting (edges (row ∷ above))) (depth_beside (suites_at facts.setting (edges above) row.edges) clause.head) clause.line clause.beside

  abbrev pub OfRefinements : ℕ → List Refinement → Type 0
  OfRefinements n [] = Unit {0}
  OfRefinements n (r ∷ rs) = OfSuite Q (Some n) 1 r.suite × OfRefinements (n + 1) rs

  abbrev pub Sound : List Row → List Row → List Root → Type 0
  Sound above rows roots = AreGood Q facts.setting (edges above) (first_root roots) roots × Siblings rows roots × BeginsWith rows roots

  pub suite_has : (o : Option ℕ) (n : ℕ) (beside : Option ActionNode) (roots : List Root) (suite : List Action) → suite_of n beside roots ≡ Some suite → OfParts Q o 1 (parts_of roots)
      → OfBeside Q o 1 n beside → OfSuite Q o 1 suite
  suite_has o n None roots suite e a b = suite_of_parts Q o 1 (parts_of roots) suite e a
  suite_has o n (Some x) [] suite e a b = subst (OfSuite Q o 1) (some_same e) (all_both Q o 1 (piece.parts_of (on n x)) [] (of_action Q o 1 n x b) tt)
  suite_has o n (Some x) (r ∷ roots) suite e a b = absurd cc

  level_own : (above : List Edges) (n : ℕ) → IsPlaced facts.setting above n → IsLevel facts.setting above n n
  level_own above n (inl lt) = inl (lt, refl)
  level_own above n (inr t) = inr t

  -- ---- a line that is no heading

  module _ (above : List Row) (row : Row) (rows : List Row) (clause : Clause) (says : Says facts above row clause) (fine : cause facts above row rows ≡ None)
      (plain : is_refinement (role_at facts above row) ≡ false) (not_unit : role_at facts above row ≡ role.UnitHeading → ⊥) (unheaded : refined clause.head ≡ None) (has : Has above row clause) where
    abbrev o : Option ℕ
    o = section_at facts.setting (edges above)

    abbrev d : ℕ
    d = suites_at facts.setting (edges above) row.edges

    same_number : section_at facts.setting (edges (row ∷ above)) ≡ o
    same_number = ap (option_map (λ section. section.number)) (same_section (role_at facts above row) row.edges (section_of facts.setting (edges above)) plain)

    said_here : OfHead Q o d clause.line clause.head
    said_here = subst (λ s. OfHead Q s d clause.line clause.head) same_number has.said

    beside_here : OfBeside Q o (suc d) clause.line clause.beside
    beside_here = subst (λ s. OfBeside Q s (suc d) clause.line clause.beside) same_number
        (subst (λ n. OfBeside Q (section_at facts.setting (edges (row ∷ above))) n clause.line clause.beside) (depth_suc d clause.head unheaded) has.beside)

    -- no further line of its suite follows an ELSE
    none_goes_on : clause.head ≡ head.Otherwise → goes_on row.edges.indent rows ≡ false
    none_goes_on e =
        let b = placed facts above row clause says rows fine in
        let h : head_misplaced facts (sight_of facts above row) row.edges.indent rows clause.head ≡ false = (or_parts _ _ b).0 in
        let g : head_misplaced facts (sight_of facts above row) row.edges.indent rows head.Otherwise ≡ false = sym (ap (head_misplaced facts (sight_of facts above row) row.edges.indent rows) e) ∙ h in
        (or_parts (not (is_alternative (role_at facts above row))) (goes_on row.edges.indent rows) g).1

    pub part_over : (roots : List Root) (part : Part) → made_over clause (taken row.edges.indent roots) ≡ Some part → AreGood Q facts.setting (edges (row ∷ above)) (first_root roots) roots → OfPart Q o d part
    part_over roots part e g =
        let t = good_taken Q facts.setting row.edges (edges above) plain (first_root roots) roots g in
        let b = subst (λ n. OfParts Q o n (taken row.edges.indent roots))
        (below_is (role_at facts above row) row.edges clause.head clause.beside d (it_suits facts above row clause says) (selects facts above row clause says) plain not_unit) t in
        over_part Q o d clause.line (taken row.edges.indent roots) part clause.head e said_here b (else_is_last Q facts.setting row.edges (edges above) (first_root roots) roots g)

    pub part_alone : (part : Part) → made_alone clause ≡ Some part → OfPart Q o d part
    part_alone part e = alone_part Q o d clause.line part clause.head clause.beside e said_here beside_here

    -- below another one
    module _ (own : IsPlaced facts.setting (edges above) row.edges.indent) (inner : 0 < row.edges.indent) where
      new_good : (part : Part) (roots : List Root) → OfPart Q o d part → (is_else_part part ≡ true → IsFirstBelow row.edges.indent roots)
          → IsGood Q facts.setting (edges above) row.edges.indent (root (saying row clause) part) roots
      new_good part roots h l = record {
        falls = omega arith;
        inner = inner;
        level = level_own (edges above) row.edges.indent own;
        deep = deep_by (section_of facts.setting (edges above)) (role_at facts above row) row.edges.indent
            (sym (ap (behind_refinement (role_at facts above row) row.edges.indent) (same_section (role_at facts above row) row.edges (section_of facts.setting (edges above)) plain))
            ∙ not_behind facts above row clause says rows fine) plain;
        has = subst (λ n. OfPart Q o n part) (plain_suites facts.setting row.edges (edges above) plain) h;
        last = l;
      }

      over_roots : (roots new : List Root) → option_map (λ part. root (saying row clause) part ∷ kept row.edges.indent roots) (made_over clause (taken row.edges.indent roots)) ≡ Some new
          → Sound (row ∷ above) rows roots → Sound above (row ∷ rows) new
      over_roots roots new e s =
          let m = mapped (λ part. root (saying row clause) part ∷ kept row.edges.indent roots) (made_over clause (taken row.edges.indent roots)) new e in
          let l : is_else_part m.0 ≡ true → IsFirstBelow row.edges.indent (kept row.edges.indent roots) =
          λ is. first_below row.edges.indent roots (s.1 row.edges.indent (none_goes_on (else_over clause.line (taken row.edges.indent roots) m.0 is clause.head m.1))) in
          subst (Sound above (row ∷ rows)) (sym m.2) (
            (new_good m.0 (kept row.edges.indent roots) (part_over roots m.0 m.1 s.0) l, good_kept Q facts.setting row.edges (edges above) plain own (first_root roots) roots s.0),
            siblings_over row rows roots s.1 m.0,
            refl,
          )

      first_low : (rows : List Row) (roots : List Root) → opens clause ≡ false → fault_from facts (row ∷ above) rows ≡ None → BeginsWith rows roots → IsFirstLow row.edges.indent roots
      first_low rows [] n f b = tt
      first_low [] (r ∷ roots) n f b = absurd b
      first_low (next ∷ rest) (r ∷ roots) n f b =
          let low : next.edges.indent ≤ row.edges.indent = next_low facts above row next rest (ends facts above row clause says ∙ n) f in
          let same : r.indent ≡ next.edges.indent = b in omega arith

      alone_roots : (roots new : List Root) → opens clause ≡ false → fault_from facts (row ∷ above) rows ≡ None → option_map (λ part. root (saying row clause) part ∷ roots) (made_alone clause) ≡ Some new
          → Sound (row ∷ above) rows roots → Sound above (row ∷ rows) new
      alone_roots roots new n f e s =
          let m = mapped (λ part. root (saying row clause) part ∷ roots) (made_alone clause) new e in
          let same = all_kept row.edges.indent roots (first_low rows roots n f s.2) in
          let l : is_else_part m.0 ≡ true → IsFirstBelow row.edges.indent roots =
          λ is. subst (IsFirstBelow row.edges.indent) same (first_below row.edges.indent roots (s.1 row.edges.indent (none_goes_on (else_alone clause.line m.0 is clause.head clause.beside m.1)))) in
          subst (Sound above (row ∷ rows)) (sym m.2) (
            (
              new_good m.0 roots (part_alone m.0 m.1) l,
              subst (AreGood Q facts.setting (edges above) row.edges.indent) same (good_kept Q facts.setting row.edges (edges above) plain own (first_root roots) roots s.0),
            ),
            siblings_alone row rows roots s.1 m.0,
            refl,
          )

      pub made_roots : (roots new : List Root) → fault_from facts (row ∷ above) rows ≡ None → made (saying row clause) roots ≡ Some new → Sound (row ∷ above) rows roots → Sound above (row ∷ rows) new
      made_roots roots new f e s = by (opens clause) refl e where
        by : (b : Bool) → opens clause ≡ b
            → (if b then option_map (λ part. root (saying row clause) part ∷ kept row.edges.indent roots) (made_over clause (taken row.edges.indent roots))
            else option_map (λ part. root (saying row clause) part ∷ roots) (made_alone clause)) ≡ Some new
            → Sound above (row ∷ rows) new
        by true n e = over_roots roots new e s
        by false n e = alone_roots roots new n f e s

  -- ---- the heading of a refinement

  module _ (above : List Row) (row : Row) (rows : List Row) (clause : Clause) (heading : is_refinement (role_at facts above row) ≡ true) (x : List ℕ) (named : refined clause.head ≡ Some x)
      (has : Has above row clause) where
    abbrev count : ℕ
    count = next_number (section_of facts.setting (edges above))

    pub section_is : section_of facts.setting (edges (row ∷ above)) ≡ Some (record { number = count; indent = row.edges.indent })
    section_is = ap (λ r. section_by r row.edges (section_of facts.setting (edges above))) (role_is (role_at facts above row) heading)

    number_is : section_at facts.setting (edges (row ∷ above)) ≡ Some count
    number_is = ap (option_map (λ section. section.number)) section_is

    pub heading_suite : (roots : List Root) (suite : List Action) → suite_of clause.line clause.beside roots ≡ Some suite → Sound (row ∷ above) rows roots → OfSuite Q (Some count) 1 suite
    heading_suite roots suite e s =
        let d = suites_at facts.setting (edges above) row.edges in
        let a = good_parts Q facts.setting row.edges (edges above) (λ n positive deep. subst (λ s. IsDeepIn s n) section_is deep)
        (ap (λ r. suites_below row.edges r d) (role_is (role_at facts above row) heading)) (first_root roots) roots s.0 in
        let b = subst (λ n. OfBeside Q (section_at facts.setting (edges (row ∷ above))) n clause.line clause.beside) (depth_one d clause.head x named) has.beside in
        subst (λ s. OfSuite Q s 1 suite) number_is (suite_has (section_at facts.setting (edges (row ∷ above))) clause.line clause.beside roots suite e a b)

  -- ---- lines below another one

  row_placed : (before : Row) (above : List Row) (row : Row) (rows : List Row) → cause facts (before ∷ above) row rows ≡ None → is_refinement (role_at facts (before ∷ above) row) ≡ false
      → IsPlaced facts.setting (edges (before ∷ above)) row.edges.indent × (0 < row.edges.indent)
  row_placed before above row rows fine plain =
      let i : bad_indent (Some before.edges) (place_below facts (before ∷ above) row).level (role_at facts (before ∷ above) row) row.edges.indent ≡ false =
      quiet facts (before ∷ above) row rows fine k.BadIndent in
      by (nat_lt before.edges.indent row.edges.indent) refl i
    where
      by : (b : Bool) → nat_lt before.edges.indent row.edges.indent ≡ b
          → (if b then not before.edges.ends_in_colon else not (is_refinement (role_at facts (before ∷ above) row)) && ((row.edges.indent == 0) || not (place_below facts (before ∷ above) row).level)) ≡ false
          → IsPlaced facts.setting (edges (before ∷ above)) row.edges.indent × (0 < row.edges.indent)
      by true t i = let lt : before.edges.indent < row.edges.indent = ltb-true before.edges.indent row.edges.indent t in (inl lt, omega arith)
      by false t i =
          let z : not false && ((row.edges.indent == 0) || not (place_below facts (before ∷ above) row).level) ≡ false =
          sym (ap (λ x. not x && ((row.edges.indent == 0) || not (place_below facts (before ∷ above) row).level)) plain) ∙ i in
          let y = stands_inside row.edges.indent (place_below facts (before ∷ above) row).level z in (inr y.0, y.1)

  module _ (kinds : List ℕ → RefinementKind) (all : List Row)
      (each : (above : List Row) (row : Row) (rows : List Row) (clause : Clause) → turned above (row ∷ rows) ≡ all → Says facts above row clause → cause facts above row rows ≡ None → Has above row clause) where
    abbrev pub IsSoundCut : List Row → List Row → Cut → Type 0
    IsSoundCut above rows cut = Sound above rows cut.roots × OfRefinements (next_number (section_of facts.setting (edges above))) cut.refinements

    cut_step : (before : Row) (above : List Row) (row : Row) (rows : List Row) (clause : Clause) → Says facts (before ∷ above) row clause → cause facts (before ∷ above) row rows ≡ None
        → fault_from facts (row ∷ before ∷ above) rows ≡ None → Has (before ∷ above) row clause → (old new : Cut) → one_more kinds (saying row clause) old ≡ Some new
        → IsSoundCut (row ∷ before ∷ above) rows old → (b : Bool) → is_refinement (role_at facts (before ∷ above) row) ≡ b → IsSoundCut (before ∷ above) (row ∷ rows) new
    cut_step before above row rows clause says fine f has old new e ih true heading =
        let x = heading_head facts kinds (role_at facts (before ∷ above) row) clause.head clause.beside (it_suits facts (before ∷ above) row clause says) heading in
        let w : with_refinement kinds clause.line clause.beside x.0 old ≡ Some new = sym (ap (λ o. cut_by kinds (saying row clause) o old) x.1) ∙ e in
        let m = mapped (λ suite. record { roots = []; refinements = refinement_of kinds x.0 clause.line suite ∷ old.refinements }) (suite_of clause.line clause.beside old.roots) new w in
        let more = subst (λ s. OfRefinements (next_number s) old.refinements) (section_is (before ∷ above) row rows clause heading x.0 x.1 has) ih.1 in
        subst (IsSoundCut (before ∷ above) (row ∷ rows)) (sym m.2) (
          (tt, λ n e. tt, tt),
          (heading_suite (before ∷ above) row rows clause heading x.0 x.1 has old.roots m.0 m.1 ih.0, more),
        )
    cut_step before above row rows clause says fine f has old new e ih false plain =
        let r = role_at facts (before ∷ above) row in
        let n = not_refined facts kinds r clause.head clause.beside (it_suits facts (before ∷ above) row clause says) plain in
        let w : option_map (with_roots old) (made (saying row clause) old.roots) ≡ Some new = sym (ap (λ o. cut_by kinds (saying row clause) o old) n) ∙ e in
        let m = mapped (with_roots old) (made (saying row clause) old.roots) new w in
        let at = row_placed before above row rows fine plain in
        let s = made_roots (before ∷ above) row rows clause says fine plain (not_first facts.setting before.edges (edges above) row.edges) n has at.0 at.1 old.roots m.0 f m.1 ih.0 in
        let more = subst (λ s. OfRefinements (next_number s) old.refinements) (same_section r row.edges (section_of facts.setting (edges (before ∷ above))) plain) ih.1 in
        subst (IsSoundCut (before ∷ above) (row ∷ rows)) (sym m.2) (s, more)

    pub each_cut : (before : Row) (above : List Row) {rows : List Row} {lines : List Saying} → AllSay facts (before ∷ above) rows lines → fault_from facts (before ∷ above) rows ≡ None
        → turned (before ∷ above) rows ≡ all → (cut : Cut) → cut_of kinds lines ≡ Some cut → IsSoundCut (before ∷ above) rows cut
    each_cut before above stop f t cut e = subst (IsSoundCut (before ∷ above) []) (some_same e) ((tt, λ n e. tt, tt), tt)
    each_cut before above {rows = row ∷ rows} (next_line {clause = clause} {lines = more} says say) f t cut e =
        let q = or_none (cause facts (before ∷ above) row rows) _ _ f in
        let c = found (cut_of kinds more) (one_more kinds (saying row clause)) cut e in
        cut_step before above row rows clause says q.0 q.1 (each (before ∷ above) row rows clause t says q.0) c.0 cut c.2 (each_cut row (before ∷ above) say q.1 t c.0 c.1)
        (is_refinement (role_at facts (before ∷ above) row)) refl
