-- What lines spell is one thing, and is put together from the last line to the first.
use Rattle.std.proofs.Common.{◌≡◌, ◌≤◌, ◌<◌, ℕ, Bool, true, false, cond, List, [], ◌∷◌, Option, Some, None, refl, ap, sym, ◌∙◌, subst, arith}
use Rattle.std.specs.Prelude.{nat_lt}
use Rattle.std.proofs.lemmas.Bool.{ltb-true}
use Rattle.abc_tree.specs.declared.commands.Action.{Action}
use Rattle.abc_tree.specs.declared.commands.ActionNode.{ActionNode}
use Rattle.abc_tree.specs.declared.commands.Refinement.{Refinement}
use Rattle.abc_tree.specs.declared.commands.RefinementKind.{RefinementKind}
use Rattle.abc_clauses.specs.declared.clause.Head.{Head}
use Rattle.abc_clauses.specs.Edges.{has_suite_below}
use Rattle.abc_clauses.specs.declared.clause.Head.TheVariants as head
use Rattle.abc_faults.specs.declared.sayings.Saying.{Saying}
use Rattle.abc_parse.specs.declared.parts.Root.{Root}
use Rattle.abc_parse.specs.declared.parts.Part.{Part}
use Rattle.abc_parse.specs.Roots.{taken, kept, parts_of}
use Rattle.abc_parse.specs.Parts.{grown, alone, commands}
use Rattle.abc_faults.specs.Facts.{opens}
use Rattle.abc_parse.specs.Trees.{deeper, behind, root, made_alone, made_over, refinement_of, Reads, none, plain, over, Suited, Sections, end, same, refinement}
use Rattle.abc_parse.proofs.spelling.Cuts.{deeper_deeper, behind_deeper, behind_behind, front, taken_front}

-- one tree
same_part : {x y : Part} → (let s : Option Part = Some x in s ≡ Some y) → x ≡ y
same_part e = cc

-- a line doesn't make a part alone and another of what is below it
not_both : {Q : Type 0} (line : ℕ) (h : Head) (beside : Option ActionNode) (below : List Part) (x y : Part) → beside ≡ None → alone line h beside ≡ Some x → grown line h below ≡ Some y → Q
not_both line h (Some b) below x y e p q = absurd cc
not_both line (head.If t) None below x y e p q = absurd cc
not_both line (head.While t) None below x y e p q = absurd cc
not_both line (head.For b t) None below x y e p q = absurd cc
not_both line head.Select None below x y e p q = absurd cc
not_both line (head.When t) None below x y e p q = absurd cc
not_both line head.Otherwise None below x y e p q = absurd cc
not_both line (head.Simple n) None below x y e p q = absurd cc
not_both line (head.Share n) None below x y e p q = absurd cc
not_both line (head.Unit t f) None below x y e p q = absurd cc
not_both line (head.Refinement n) None below x y e p q = absurd cc

pub one_reading : {lines : List Saying} {xs ys : List Root} → Reads lines xs → Reads lines ys → xs ≡ ys
one_reading none none = refl
one_reading (plain {line = line} {part = x} {roots = roots} p r) (plain {part = y} {roots = ys} q s) =
    let e : x ≡ y = same_part (sym p ∙ q) in
    ap (λ z. root line z ∷ roots) e ∙ ap (λ l. root line y ∷ l) (one_reading r s)
one_reading (plain {line = line} {part = x} p r) (over {part = y} {below = below} c b g s) =
    not_both line.clause.line line.clause.head line.clause.beside (parts_of below) x y c p g
one_reading (over {line = line} {part = x} {below = below} c b g s) (plain {part = y} p r) =
    not_both line.clause.line line.clause.head line.clause.beside (parts_of below) y x c p g
one_reading (over {line = line} {part = x} {below = below} {roots = roots} c b g r) (over {part = y} {below = below2} {roots = ys} c2 b2 g2 s) =
    let e : x ≡ y = same_part (sym g ∙ ap (λ l. made_over line.clause (parts_of l)) (one_reading b b2) ∙ g2) in
    ap (λ z. root line z ∷ roots) e ∙ ap (λ l. root line y ∷ l) (one_reading r s)

-- what deeper lines spell is the deeper part of what all spell
module _ (n : ℕ) where
  abbrev pub Split : List Saying → List Root → Type 0
  Split lines roots = Reads (deeper n lines) (front n roots) × Reads (behind n lines) (kept n roots)

  plain_split : (line : Saying) (lines : List Saying) (part : Part) (roots : List Root) (b : Bool) → nat_lt n line.indent ≡ b
      → made_alone line.clause ≡ Some part → Reads lines roots → Split lines roots
      → Reads (cond b (line ∷ deeper n lines) []) (cond b (root line part ∷ front n roots) []) × Reads (cond b (behind n lines) (line ∷ lines)) (cond b (kept n roots) (root line part ∷ roots))
  plain_split line lines part roots true e p r ih = (plain p ih.0, ih.1)
  plain_split line lines part roots false e p r ih = (none, plain p r)

  over_split : (line : Saying) (lines : List Saying) (part : Part) (below roots : List Root) (b : Bool) → nat_lt n line.indent ≡ b
      → line.clause.beside ≡ None → Reads (deeper line.indent lines) below → made_over line.clause (parts_of below) ≡ Some part
      → Reads (behind line.indent lines) roots → Split (behind line.indent lines) roots
      → Reads (cond b (line ∷ deeper n lines) []) (cond b (root line part ∷ front n roots) []) × Reads (cond b (behind n lines) (line ∷ lines)) (cond b (kept n roots) (root line part ∷ roots))
  over_split line lines part below roots true e c d g r ih =
      let h : n < line.indent = ltb-true n line.indent e in
      let le : n ≤ line.indent = omega arith in
      let inner : Reads (deeper line.indent (deeper n lines)) below = subst (λ (l : List Saying). Reads l below) (sym (deeper_deeper n line.indent le lines)) d in
      let next : Reads (behind line.indent (deeper n lines)) (front n roots) = subst (λ (l : List Saying). Reads l (front n roots)) (sym (behind_deeper n line.indent le lines)) ih.0 in
      (over c inner g next, subst (λ (l : List Saying). Reads l (kept n roots)) (behind_behind n line.indent le lines) ih.1)
  over_split line lines part below roots false e c d g r ih = (none, over c d g r)

  pub split : {lines : List Saying} {roots : List Root} → Reads lines roots → Split lines roots
  split none = (none, none)
  split (plain {line = line} {lines = lines} {part = part} {roots = roots} p r) = plain_split line lines part roots (nat_lt n line.indent) refl p r (split r)
  split (over {line = line} {lines = lines} {part = part} {below = below} {roots = roots} c d g r) = over_split line lines part below roots (nat_lt n line.indent) refl c d g r (split r)

-- a line whose suite stands below it makes nothing alone, and another line nothing of what is below it
pub alone_none : (line : ℕ) (h : Head) (beside : Option ActionNode) → has_suite_below h beside ≡ true → alone line h beside ≡ None
alone_none line h (Some b) e = absurd cc
alone_none line (head.Simple n) None e = absurd cc
alone_none line (head.Share n) None e = absurd cc
alone_none line (head.If t) None e = refl
alone_none line (head.While t) None e = refl
alone_none line (head.For b t) None e = refl
alone_none line head.Select None e = refl
alone_none line (head.When t) None e = refl
alone_none line head.Otherwise None e = refl
alone_none line (head.Unit t f) None e = refl
alone_none line (head.Refinement n) None e = refl

pub beside_none : (h : Head) (beside : Option ActionNode) → has_suite_below h beside ≡ true → beside ≡ None
beside_none h None e = refl
beside_none h (Some b) e = absurd cc

pub grown_none : {Q : Type 0} (line : ℕ) (h : Head) (beside : Option ActionNode) (below : List Part) (y : Part) → has_suite_below h beside ≡ false → beside ≡ None → grown line h below ≡ Some y → Q
grown_none line h (Some b) below y n e q = absurd cc
grown_none line (head.Simple x) None below y n e q = absurd cc
grown_none line (head.Share x) None below y n e q = absurd cc
grown_none line (head.If t) None below y n e q = absurd cc
grown_none line (head.While t) None below y n e q = absurd cc
grown_none line (head.For b t) None below y n e q = absurd cc
grown_none line head.Select None below y n e q = absurd cc
grown_none line (head.When t) None below y n e q = absurd cc
grown_none line head.Otherwise None below y n e q = absurd cc
grown_none line (head.Unit t f) None below y n e q = absurd cc
grown_none line (head.Refinement x) None below y n e q = absurd cc

-- one more line
pub reads_over : (line : Saying) (lines : List Saying) (roots : List Root) (part : Part) → Reads lines roots → opens line.clause ≡ true
    → Some part ≡ made_over line.clause (taken line.indent roots) → Reads (line ∷ lines) (root line part ∷ kept line.indent roots)
reads_over line lines roots part r c g =
    let s = split line.indent r in
    over (beside_none line.clause.head line.clause.beside c) s.0 (sym (g ∙ ap (made_over line.clause) (taken_front line.indent roots))) s.1

pub reads_not_over : (line : Saying) (lines : List Saying) (roots : List Root) → Reads lines roots → opens line.clause ≡ true
    → None ≡ made_over line.clause (taken line.indent roots) → (more : List Root) → Reads (line ∷ lines) more → ⊥
reads_not_over line lines roots r c g more (plain {part = x} p q) =
    let e : None ≡ Some x = sym (alone_none line.clause.line line.clause.head line.clause.beside c) ∙ p in cc
reads_not_over line lines roots r c g more (over {part = x} {below = below} c2 d g2 q) =
    let s = split line.indent r in
    let e : None ≡ Some x = g ∙ ap (made_over line.clause) (taken_front line.indent roots) ∙ ap (λ l. made_over line.clause (parts_of l)) (one_reading s.0 d) ∙ g2 in cc

pub reads_not_plain : (line : Saying) (lines : List Saying) → opens line.clause ≡ false → None ≡ made_alone line.clause → (more : List Root) → Reads (line ∷ lines) more → ⊥
reads_not_plain line lines n g more (plain {part = x} p q) = let e : None ≡ Some x = g ∙ p in cc
reads_not_plain line lines n g more (over {part = x} {below = below} c d g2 q) = grown_none line.clause.line line.clause.head line.clause.beside (parts_of below) x n c g2

pub reads_plain : (line : Saying) (lines : List Saying) (roots : List Root) (part : Part) → Reads lines roots → Some part ≡ made_alone line.clause
    → Reads (line ∷ lines) (root line part ∷ roots)
reads_plain line lines roots part r g = plain (sym g) r

-- a unit is one list of parts for each list of lines
same_suite : {x y : List Action} → (let s : Option (List Action) = Some x in s ≡ Some y) → x ≡ y
same_suite e = cc

pub one_suite : (line : ℕ) (beside : Option ActionNode) (lines : List Saying) (xs ys : List Action) → Suited line beside lines xs → Suited line beside lines ys → xs ≡ ys
one_suite line (Some b) lines xs ys p q = p.1 ∙ sym q.1
one_suite line None lines xs ys p q = same_suite (sym p.2 ∙ ap (λ l. commands (parts_of l)) (one_reading p.1 q.1) ∙ q.2)

same_name : {x y : List ℕ} → (let s : Option (List ℕ) = Some x in s ≡ Some y) → x ≡ y
same_name e = cc

module _ (kinds : List ℕ → RefinementKind) where
  pub one_cut : {lines f g : List Saying} {xs ys : List Refinement} → Sections kinds lines f xs → Sections kinds lines g ys → (f ≡ g) × (xs ≡ ys)
  one_cut end end = (refl, refl)
  one_cut (same {line = line} a p) (same b q) = let e = one_cut p q in (ap (λ l. line ∷ l) e.0, e.1)
  one_cut (same a p) (refinement {name = x} n q t) = let z : None ≡ Some x = sym a ∙ n in absurd cc
  one_cut (refinement {name = x} n q t) (same a p) = let z : None ≡ Some x = sym a ∙ n in absurd cc
  one_cut (refinement {line = line} {front = f} {name = x} {suite = s} {more = m} n p t) (refinement {front = g} {name = y} {suite = u} {more = k} n2 q v) =
      let e = one_cut p q in
      let o : x ≡ y = same_name (sym n ∙ n2) in
      let z : s ≡ u = one_suite line.clause.line line.clause.beside g s u (subst (λ (l : List Saying). Suited line.clause.line line.clause.beside l s) e.0 t) v in
      (refl, ap (λ a. refinement_of kinds a line.clause.line s ∷ m) o ∙ ap (λ a. refinement_of kinds y line.clause.line a ∷ m) z ∙ ap (λ l. refinement_of kinds y line.clause.line u ∷ l) e.1)

pub empty_reads : (lines : List Saying) (roots : List Root) → Reads lines roots → roots ≡ [] → lines ≡ []
empty_reads [] roots r e = refl
empty_reads (line ∷ lines) roots r e = absurd (no_lines line lines (subst (λ (l : List Root). Reads (line ∷ lines) l) e r)) where
  no_lines : (line : Saying) (lines : List Saying) → Reads (line ∷ lines) [] → ⊥
  no_lines line lines r = elim r [ ]

pub not_empty_reads : (lines : List Saying) (roots : List Root) → Reads lines roots → lines ≡ [] → roots ≡ []
not_empty_reads [] roots r e = one_reading r none
not_empty_reads (line ∷ lines) roots r e = absurd cc
