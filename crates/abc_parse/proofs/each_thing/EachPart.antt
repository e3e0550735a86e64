-- Each thing in what the lines of an item make has what each line has: roots by the lines above them.
use Rattle.std.proofs.Common.{◌≡◌, ◌≤◌, ◌<◌, ◌+◌, ◌⊎◌, inl, inr, ℕ, suc, Bool, true, false, cond, List, [], ◌∷◌, Option, Some, None, refl, ap, sym, ◌∙◌, subst, arith}
use Rattle.std.specs.Prelude.{nat_lt, ◌==◌, option_map}
use Rattle.std.proofs.lemmas.Bool.{lt-ltb, ltb-true, cases_eq, eq-eqb, ne_eqb}
use Rattle.abc_tree.specs.RegularItems.{Part as Piece}
use Rattle.abc_tree.specs.declared.commands.ActionNode.{ActionNode}
use Rattle.abc_outline.specs.declared.edges.Edges.{Edges}
use Rattle.abc_outline.specs.declared.edges.Role.{Role}
use Rattle.abc_outline.specs.declared.edges.Role.TheVariants as role
use Rattle.abc_outline.specs.declared.edges.Section.{Section}
use Rattle.abc_outline.specs.declared.edges.Setting.{Setting}
use Rattle.abc_outline.specs.declared.edges.Standing.{Standing}
use Rattle.abc_outline.specs.declared.rows.Row.{Row}
use Rattle.abc_outline.specs.Outline.{around, begins_at, chain, is_refinement, left, not_deeper, opens_select, role_of, round_by, section_by, section_of, standing, stands_at, suites, suites_at, suites_below}
use Rattle.abc_clauses.specs.declared.clause.Head.{Head}
use Rattle.abc_clauses.specs.declared.clause.Head.TheVariants as head
use Rattle.abc_faults.specs.Causes.{goes_on}
use Rattle.abc_faults.specs.Facts.{suits}
use Rattle.abc_clauses.specs.Edges.{is_select}
use Rattle.abc_parse.specs.declared.parts.Root.{Root}
use Rattle.abc_parse.specs.declared.parts.Part.{Part}
use Rattle.abc_parse.specs.Roots.{kept, parts_of, taken}
use Rattle.abc_faults.proofs.Around.{around_first, around_same, at_most, not_lt, plain_round}
use Rattle.abc_parse.proofs.each_thing.PartsMade.{ElseIsLast, OfPart, OfParts, depth_below, is_else_part}

-- ---- the lines round a line

not_deeper_left : (k n : ℕ) → k < n → (lines : List Standing) → not_deeper k (left n lines) ≡ not_deeper k lines
not_deeper_left k n lt [] = refl
not_deeper_left k n lt (line ∷ lines) = step (nat_lt line.edges.indent n) refl (not_deeper_left k n lt lines) where
  step : (b : Bool) → nat_lt line.edges.indent n ≡ b → not_deeper k (left n lines) ≡ not_deeper k lines → not_deeper k (cond b (line ∷ lines) (left n lines)) ≡ not_deeper k (line ∷ lines)
  step true e ih = refl
  step false e ih =
      let low : n ≤ line.edges.indent = at_most line.edges.indent n e in
      ih ∙ sym (ap (λ b. cond b (not_deeper k lines) (line ∷ lines)) (lt-ltb k line.edges.indent (omega arith)))

module _ (setting : Setting) (row : Edges) (above : List Edges) where
  abbrev round : List Standing
  round = round_by (role_of setting above row) (left row.indent (chain setting above))

  pub stands_up : is_refinement (role_of setting above row) ≡ false → (k : ℕ) → k < row.indent → stands_at k (chain setting (row ∷ above)) ≡ true → stands_at k (chain setting above) ≡ true
  stands_up plain k lt e =
      sym (ap (begins_at k) (ap (λ b. cond b (not_deeper k round) (standing row (role_of setting above row) round)) (lt-ltb k row.indent lt)
      ∙ ap (not_deeper k) (plain_round (role_of setting above row) (left row.indent (chain setting above)) plain) ∙ not_deeper_left k row.indent lt (chain setting above))) ∙ e

  pub none_stands_deeper : (k : ℕ) → row.indent < k → stands_at k (chain setting (row ∷ above)) ≡ true → ⊥
  none_stands_deeper k lt e =
      let f : stands_at k (chain setting (row ∷ above)) ≡ (row.indent == k) =
      ap (begins_at k) (ap (λ b. cond b (not_deeper k round) (standing row (role_of setting above row) round)) (not_lt k row.indent (omega arith))) in
      let g : (row.indent == k) ≡ false = ne_eqb row.indent k (λ z. omega arith) in
      let z : true ≡ false = sym e ∙ f ∙ g in cc

plus_one : (d : ℕ) → d + 1 ≡ suc d
plus_one d = omega arith

-- the suites that are open below a line that is no heading
pub below_is : (r : Role) (ed : Edges) (h : Head) (beside : Option ActionNode) (d : ℕ) → suits r h beside ≡ true → opens_select ed r ≡ is_select h → is_refinement r ≡ false → (r ≡ role.UnitHeading → ⊥)
    → suites_below ed r d ≡ depth_below d h
below_is role.UnitHeading ed h beside d s e f u = absurd (u refl)
below_is role.RefinementHeading ed h beside d s e f u = absurd cc
below_is role.Command ed head.Select beside d s e f u = ap (λ b. cond b d (d + 1)) e
below_is role.Command ed (head.Simple x) beside d s e f u = ap (λ b. cond b d (d + 1)) e ∙ plus_one d
below_is role.Command ed (head.If x) beside d s e f u = ap (λ b. cond b d (d + 1)) e ∙ plus_one d
below_is role.Command ed (head.While x) beside d s e f u = ap (λ b. cond b d (d + 1)) e ∙ plus_one d
below_is role.Command ed (head.For x y) beside d s e f u = ap (λ b. cond b d (d + 1)) e ∙ plus_one d
below_is role.Command ed (head.When x) beside d s e f u = ap (λ b. cond b d (d + 1)) e ∙ plus_one d
below_is role.Command ed head.Otherwise beside d s e f u = ap (λ b. cond b d (d + 1)) e ∙ plus_one d
below_is role.Command ed (head.Share x) beside d s e f u = ap (λ b. cond b d (d + 1)) e ∙ plus_one d
below_is role.Command ed (head.Unit x y) beside d s e f u = ap (λ b. cond b d (d + 1)) e ∙ plus_one d
below_is role.Command ed (head.Refinement x) beside d s e f u = ap (λ b. cond b d (d + 1)) e ∙ plus_one d
below_is role.Alternative ed (head.When x) beside d s e f u = plus_one d
below_is role.Alternative ed head.Otherwise beside d s e f u = plus_one d
below_is role.Alternative ed (head.Simple x) beside d s e f u = absurd cc
below_is role.Alternative ed (head.If x) beside d s e f u = absurd cc
below_is role.Alternative ed (head.While x) beside d s e f u = absurd cc
below_is role.Alternative ed (head.For x y) beside d s e f u = absurd cc
below_is role.Alternative ed head.Select beside d s e f u = absurd cc
below_is role.Alternative ed (head.Share x) beside d s e f u = absurd cc
below_is role.Alternative ed (head.Unit x y) beside d s e f u = absurd cc
below_is role.Alternative ed (head.Refinement x) beside d s e f u = absurd cc

pub same_section : (r : Role) (ed : Edges) (old : Option Section) → is_refinement r ≡ false → section_by r ed old ≡ old
same_section role.RefinementHeading ed old e = absurd cc
same_section role.UnitHeading ed old e = refl
same_section role.Alternative ed old e = refl
same_section role.Command ed old e = refl

-- ---- roots

-- the first root is less deep, or there is none
abbrev pub IsFirstBelow : ℕ → List Root → Type 0
IsFirstBelow n [] = Unit {0}
IsFirstBelow n (r ∷ roots) = r.indent < n

-- the first root doesn't stand at n
abbrev pub IsFirstElsewhere : ℕ → List Root → Type 0
IsFirstElsewhere n [] = Unit {0}
IsFirstElsewhere n (r ∷ roots) = r.indent ≡ n → ⊥

abbrev pub IsFirstLow : ℕ → List Root → Type 0
IsFirstLow n [] = Unit {0}
IsFirstLow n (r ∷ roots) = r.indent ≤ n

abbrev pub first_root : List Root → ℕ
first_root [] = 0
first_root (r ∷ roots) = r.indent

pub first_below : (n : ℕ) (roots : List Root) → IsFirstElsewhere n (kept n roots) → IsFirstBelow n (kept n roots)
first_below n [] f = tt
first_below n (r ∷ roots) f = step (nat_lt n r.indent) refl f (first_below n roots) where
  step : (b : Bool) → nat_lt n r.indent ≡ b → IsFirstElsewhere n (cond b (kept n roots) (r ∷ roots)) → (IsFirstElsewhere n (kept n roots) → IsFirstBelow n (kept n roots))
      → IsFirstBelow n (cond b (kept n roots) (r ∷ roots))
  step true e f ih = ih f
  step false e f ih = by (cases_eq r.indent n) where
    by : (r.indent ≡ n) ⊎ (r.indent ≡ n → ⊥) → r.indent < n
    by (inl z) = absurd (f z)
    by (inr z) = let le : r.indent ≤ n = at_most n r.indent e in omega arith

pub all_kept : (n : ℕ) (roots : List Root) → IsFirstLow n roots → kept n roots ≡ roots
all_kept n [] l = refl
all_kept n (r ∷ roots) l = ap (λ b. cond b (kept n roots) (r ∷ roots)) (not_lt n r.indent l)

kept_kept : (k n : ℕ) → k < n → (roots : List Root) → kept k (kept n roots) ≡ kept k roots
kept_kept k n lt [] = refl
kept_kept k n lt (r ∷ roots) = step (nat_lt n r.indent) refl (kept_kept k n lt roots) where
  step : (b : Bool) → nat_lt n r.indent ≡ b → kept k (kept n roots) ≡ kept k roots → kept k (cond b (kept n roots) (r ∷ roots)) ≡ kept k (r ∷ roots)
  step true e ih = let gt : n < r.indent = ltb-true n r.indent e in ih ∙ sym (ap (λ b. cond b (kept k roots) (r ∷ roots)) (lt-ltb k r.indent (omega arith)))
  step false e ih = refl

-- where no further line of a suite follows, no further root of it does
abbrev pub Siblings : List Row → List Root → Type 0
Siblings rows roots = (n : ℕ) → goes_on n rows ≡ false → IsFirstElsewhere n (kept n roots)

module _ (row : Row) (rows : List Row) (roots : List Root) (s : Siblings rows roots) (part : Part) where
  abbrev new : Root
  new = record { indent = row.edges.indent; part = part }

  pub siblings_alone : Siblings (row ∷ rows) (new ∷ roots)
  siblings_alone n e = step (nat_lt n row.edges.indent) e where
    step : (b : Bool) → cond b (goes_on n rows) (row.edges.indent == n) ≡ false → IsFirstElsewhere n (cond b (kept n roots) (new ∷ roots))
    step true e = s n e
    step false e = λ z. (let y : (row.edges.indent == n) ≡ true = eq-eqb row.edges.indent n z in cc)

  pub siblings_over : Siblings (row ∷ rows) (new ∷ kept row.edges.indent roots)
  siblings_over n e = step (nat_lt n row.edges.indent) refl e where
    step : (b : Bool) → nat_lt n row.edges.indent ≡ b → cond b (goes_on n rows) (row.edges.indent == n) ≡ false
        → IsFirstElsewhere n (cond b (kept n (kept row.edges.indent roots)) (new ∷ kept row.edges.indent roots))
    step true t e = subst (IsFirstElsewhere n) (sym (kept_kept n row.edges.indent (ltb-true n row.edges.indent t) roots)) (s n e)
    step false t e = λ z. (let y : (row.edges.indent == n) ≡ true = eq-eqb row.edges.indent n z in cc)

-- the first root stands where the first line does
abbrev pub BeginsWith : List Row → List Root → Type 0
BeginsWith rows [] = Unit {0}
BeginsWith [] (r ∷ roots) = ⊥
BeginsWith (row ∷ rows) (r ∷ roots) = r.indent ≡ row.edges.indent

-- ---- roots that are good

abbrev pub last_indent : List Edges → ℕ
last_indent [] = 0
last_indent (line ∷ above) = line.indent

abbrev pub IsDeepIn : Option Section → ℕ → Type 0
IsDeepIn None n = Unit {0}
IsDeepIn (Some section) n = section.indent < n

module _ (setting : Setting) where
  -- deeper than the last line, or at the indentation of one round it
  abbrev pub IsPlaced : List Edges → ℕ → Type 0
  IsPlaced above n = (last_indent above < n) ⊎ (stands_at n (chain setting above) ≡ true)

  -- the same behind a root at m
  abbrev pub IsLevel : List Edges → ℕ → ℕ → Type 0
  IsLevel above m n = ((last_indent above < n) × (m ≡ n)) ⊎ (stands_at n (chain setting above) ≡ true)

  abbrev pub section_at : List Edges → Option ℕ
  section_at above = option_map (λ section. section.number) (section_of setting above)

  -- the suites that are open at a line of indentation n that is no heading
  abbrev pub suites_around : List Edges → ℕ → ℕ
  suites_around above n = suites (around setting n above)

  pub plain_suites : (row : Edges) (above : List Edges) → is_refinement (role_of setting above row) ≡ false → suites_at setting above row ≡ suites_around above row.indent
  plain_suites row above plain = ap suites (plain_round (role_of setting above row) (around setting row.indent above) plain)

-- none is open at the first line
pub none_round : (r : Role) → suites (round_by r []) ≡ 0
none_round role.RefinementHeading = refl
none_round role.UnitHeading = refl
none_round role.Alternative = refl
none_round role.Command = refl

module _ (Q : Option ℕ → ℕ → Piece → Type 0) (setting : Setting) where
  pub record IsGood (above : List Edges) (m : ℕ) (r : Root) (roots : List Root) : Type 0 where
    pub falls : r.indent ≤ m
    pub inner : 0 < r.indent
    pub level : IsLevel setting above m r.indent
    pub deep : IsDeepIn (section_of setting above) r.indent
    pub has : OfPart Q (section_at setting above) (suites_around setting above r.indent) r.part
    pub last : is_else_part r.part ≡ true → IsFirstBelow r.indent roots

  abbrev pub AreGood : List Edges → ℕ → List Root → Type 0
  AreGood above m [] = Unit {0}
  AreGood above m (r ∷ roots) = IsGood above m r roots × AreGood above r.indent roots

  -- below a line that is no heading
  module _ (row : Edges) (above : List Edges) (plain : is_refinement (role_of setting above row) ≡ false) where
    section_up : section_of setting (row ∷ above) ≡ section_of setting above
    section_up = same_section (role_of setting above row) row (section_of setting above) plain

    abbrev pub suites_here : ℕ
    suites_here = suites_below row (role_of setting above row) (suites_at setting above row)

    pub good_taken : (m : ℕ) (roots : List Root) → AreGood (row ∷ above) m roots
        → OfParts Q (section_at setting above) suites_here (taken row.indent roots)
    good_taken m [] g = tt
    good_taken m (r ∷ roots) g = step (nat_lt row.indent r.indent) refl (good_taken r.indent roots g.1) where
      step : (b : Bool) → nat_lt row.indent r.indent ≡ b → OfParts Q (section_at setting above) suites_here (taken row.indent roots)
          → OfParts Q (section_at setting above) suites_here (cond b (r.part ∷ taken row.indent roots) [])
      step true e ih = (
        subst (λ s. OfPart Q s suites_here r.part) (ap (option_map (λ section. section.number)) section_up)
            (subst (λ d. OfPart Q (section_at setting (row ∷ above)) d r.part) (ap suites (around_first setting row above r.indent (ltb-true row.indent r.indent e))) g.0.has),
        ih,
      )
      step false e ih = tt

  module _ (row : Edges) (above : List Edges) (plain : is_refinement (role_of setting above row) ≡ false) (own : IsPlaced setting above row.indent) where
    at_row : IsPlaced setting above row.indent → (k n : ℕ) → k ≡ row.indent → n ≡ k → IsLevel setting above n k
    at_row (inl lt) k n e f = inl (subst (λ x. last_indent above < x) (sym e) lt, f)
    at_row (inr t) k n e f = inr (subst (λ x. stands_at x (chain setting above) ≡ true) (sym e) t)

    level_up : (m k n : ℕ) → k ≤ row.indent → (k ≡ row.indent → n ≡ k) → IsLevel setting (row ∷ above) m k → IsLevel setting above n k
    level_up m k n le same (inl x) = absurd (let lt = x.0 in omega arith)
    level_up m k n le same (inr s) = by (cases_eq k row.indent) where
      by : (k ≡ row.indent) ⊎ (k ≡ row.indent → ⊥) → IsLevel setting above n k
      by (inl e) = at_row own k n e (same e)
      by (inr e) = inr (stands_up setting row above plain k (omega arith) s)

    good_up : (m n : ℕ) (r : Root) (roots : List Root) → r.indent ≤ row.indent → r.indent ≤ n → (r.indent ≡ row.indent → n ≡ r.indent) → IsGood (row ∷ above) m r roots → IsGood above n r roots
    good_up m n r roots le low same g = record {
      falls = low;
      inner = g.inner;
      level = level_up m r.indent n le same g.level;
      deep = subst (λ s. IsDeepIn s r.indent) (section_up row above plain) g.deep;
      has = subst (λ s. OfPart Q s (suites_around setting above r.indent) r.part) (ap (option_map (λ section. section.number)) (section_up row above plain))
          (subst (λ d. OfPart Q (section_at setting (row ∷ above)) d r.part) (ap suites (around_same setting row above plain r.indent le)) g.has);
      last = g.last;
    }

    pub up : (m : ℕ) → m ≤ row.indent → (roots : List Root) → AreGood (row ∷ above) m roots → AreGood above m roots
    up m le [] g = tt
    up m le (r ∷ roots) g = let f = g.0.falls in (good_up m m r roots (omega arith) f (λ e. omega arith) g.0, up r.indent (omega arith) roots g.1)

    pub good_kept : (m : ℕ) (roots : List Root) → AreGood (row ∷ above) m roots → AreGood above row.indent (kept row.indent roots)
    good_kept m [] g = tt
    good_kept m (r ∷ roots) g = step (nat_lt row.indent r.indent) refl (good_kept r.indent roots g.1) where
      step : (b : Bool) → nat_lt row.indent r.indent ≡ b → AreGood above row.indent (kept row.indent roots) → AreGood above row.indent (cond b (kept row.indent roots) (r ∷ roots))
      step true e ih = ih
      step false e ih = let le : r.indent ≤ row.indent = at_most row.indent r.indent e in (good_up m row.indent r roots le le (λ z. sym z) g.0, up r.indent le roots g.1)

  -- the roots below a line, the last of which alone may be an ELSE
  pub else_is_last : (row : Edges) (above : List Edges) (m : ℕ) (roots : List Root) → AreGood (row ∷ above) m roots → ElseIsLast (taken row.indent roots)
  else_is_last row above m [] g = tt
  else_is_last row above m (r ∷ []) g = step (nat_lt row.indent r.indent) where
    step : (b : Bool) → ElseIsLast (cond b (r.part ∷ []) [])
    step true = tt
    step false = tt
  else_is_last row above m (r ∷ q ∷ roots) g = step (nat_lt row.indent r.indent) (nat_lt row.indent q.indent) refl (else_is_last row above r.indent (q ∷ roots) g.1) where
    not_both : row.indent < q.indent → IsLevel setting (row ∷ above) r.indent q.indent → q.indent < r.indent → ⊥
    not_both deep (inl x) lt = let e = x.1 in omega arith
    not_both deep (inr s) lt = none_stands_deeper setting row above q.indent deep s

    no_else : row.indent < q.indent → (b : Bool) → is_else_part r.part ≡ b → b ≡ false
    no_else deep true e = absurd (not_both deep g.1.0.level (g.0.last e))
    no_else deep false e = refl

    step : (b c : Bool) → nat_lt row.indent q.indent ≡ c → ElseIsLast (cond c (q.part ∷ taken row.indent roots) []) → ElseIsLast (cond b (r.part ∷ cond c (q.part ∷ taken row.indent roots) []) [])
    step false c e ih = tt
    step true false e ih = tt
    step true true e ih = (no_else (ltb-true row.indent q.indent e) (is_else_part r.part) refl, ih)

  -- the roots of the suite of a heading, which are all deeper
  module _ (row : Edges) (above : List Edges) (deeper : (k : ℕ) → 0 < k → IsDeepIn (section_of setting (row ∷ above)) k → row.indent < k)
      (one : suites_below row (role_of setting above row) (suites_at setting above row) ≡ 1) where
    pub good_parts : (m : ℕ) (roots : List Root) → AreGood (row ∷ above) m roots → OfParts Q (section_at setting (row ∷ above)) 1 (parts_of roots)
    good_parts m [] g = tt
    good_parts m (r ∷ roots) g = (
      subst (λ d. OfPart Q (section_at setting (row ∷ above)) d r.part) (ap suites (around_first setting row above r.indent (deeper r.indent g.0.inner g.0.deep)) ∙ one) g.0.has,
      good_parts r.indent roots g.1,
    )
