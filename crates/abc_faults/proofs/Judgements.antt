-- What is found of a line, and what is kept of the lines above.
use Rattle.std.proofs.Common.{◌≡◌, ◌≤◌, ◌+◌, ℕ, suc, Bool, true, false, List, [], ◌∷◌, ◌++◌, length, Option, Some, None, refl, ap, sym, ◌∙◌, subst, arith, append_assoc, inl, inr}
use Rattle.std.specs.Prelude.{◌||◌, ◌&&◌, if◌then◌else◌, ◌==◌}
use Rattle.std.proofs.lemmas.Bool.{ne_eqb}
use Rattle.std.proofs.lemmas.List.{append-nil}
use Rattle.abc_num.specs.declared.limits.TheConstants.{MOST_LINES}
use Rattle.abc_expressions.specs.Addresses.{each_once}
use Rattle.abc_expressions.specs.NameTokens.{own_among}
use Rattle.abc_outline.specs.declared.edges.Place.{Place}
use Rattle.abc_outline.specs.declared.edges.Role.{Role}
use Rattle.abc_outline.specs.declared.naming.LineNames.{LineNames}
use Rattle.abc_outline.specs.declared.outlining.Outline.{Outline}
use Rattle.abc_outline.specs.declared.rows.Row.{Row}
use Rattle.abc_outline.specs.LineNames.{names_of}
use Rattle.abc_outline.specs.Outline.{place_of, outline_of}
use Rattle.abc_outline.specs.OwnNames.{row_tokens}
use Rattle.abc_clauses.specs.declared.clause.Clause.{Clause}
use Rattle.abc_faults.specs.declared.above.Above.{Above}
use Rattle.abc_faults.specs.declared.facts.Facts.{Facts}
use Rattle.abc_faults.specs.declared.fault.Fault.{Fault}
use Rattle.abc_faults.specs.declared.fault.FaultKind.{FaultKind}
use Rattle.abc_faults.specs.declared.fault.FaultKind.TheVariants as k
use Rattle.abc_faults.specs.declared.sayings.Saying.{Saying}
use Rattle.abc_faults.specs.declared.sight.Sight.{Sight}
use Rattle.abc_faults.specs.declared.taken_names.TakenNames.{TakenNames}
use Rattle.abc_faults.specs.Causes.{KINDS, all_share, cause, first_of, is_share, sight_of, stands}
use Rattle.abc_faults.specs.Facts.{clause_of, clause_read, edges, if_agrees, place_below}
use Rattle.abc_faults.specs.declared.verdict.Verdict.{Verdict}
use Rattle.abc_faults.specs.declared.verdict.Verdict.TheVariants as v
use Rattle.abc_faults.specs.Faults.{fault_from, or_else}
use Rattle.abc_faults.specs.Names.{names_here, names_so_far, taken, taken_up, twice}
use Rattle.abc_faults.specs.Sayings.{AllSay, next_line, saying, stop}
use Rattle.abc_faults.specs.inner.Verdicts.{Judges, JudgesClause, Settles, Takes, above_of, early_fault, late_fault}
use Rattle.abc_faults.proofs.Around.{at_most}

pub edges_length : (rows : List Row) → length (edges rows) ≡ length rows
edges_length [] = refl
edges_length (row ∷ rows) = ap suc (edges_length rows)

-- six tests before the rest
module _ (k1 k2 k3 k4 k5 k6 : FaultKind) where
  abbrev chain : Bool → Bool → Bool → Bool → Bool → Bool → Option FaultKind → Option FaultKind
  chain b1 b2 b3 b4 b5 b6 rest =
      if b1 then Some k1 else (if b2 then Some k2 else (if b3 then Some k3 else (if b4 then Some k4 else (if b5 then Some k5 else (if b6 then Some k6 else rest)))))

  six_found : (b1 b2 b3 b4 b5 b6 : Bool) (rest : Option FaultKind) (kind : FaultKind) → chain b1 b2 b3 b4 b5 b6 None ≡ Some kind → chain b1 b2 b3 b4 b5 b6 rest ≡ Some kind
  six_found true b2 b3 b4 b5 b6 rest kind e = e
  six_found false true b3 b4 b5 b6 rest kind e = e
  six_found false false true b4 b5 b6 rest kind e = e
  six_found false false false true b5 b6 rest kind e = e
  six_found false false false false true b6 rest kind e = e
  six_found false false false false false true rest kind e = e
  six_found false false false false false false rest kind e = absurd cc

  six_passed : (b1 b2 b3 b4 b5 b6 : Bool) (rest : Option FaultKind) → chain b1 b2 b3 b4 b5 b6 None ≡ None → (chain b1 b2 b3 b4 b5 b6 rest ≡ rest) × (b2 ≡ false)
  six_passed true b2 b3 b4 b5 b6 rest e = absurd cc
  six_passed false true b3 b4 b5 b6 rest e = absurd cc
  six_passed false false true b4 b5 b6 rest e = absurd cc
  six_passed false false false true b5 b6 rest e = absurd cc
  six_passed false false false false true b6 rest e = absurd cc
  six_passed false false false false false true rest e = absurd cc
  six_passed false false false false false false rest e = (refl, refl)

module _ (facts : Facts) (sight : Sight) (row : Row) (below : List Row) where
  abbrev tests : Option Clause → FaultKind → Bool
  tests clause = stands facts sight row below clause

  abbrev later_kinds : List FaultKind
  later_kinds = k.BadCommand ∷ k.EmptySuite ∷ k.BadPlace ∷ k.NameTwice ∷ k.TooMany ∷ []

  pub early_found : (clause : Option Clause) (kind : FaultKind) → early_fault sight.place row ≡ Some kind → first_of (tests clause) KINDS ≡ Some kind
  early_found clause kind e =
      six_found k.LineTooLong k.TooManyLines k.BadByte k.OpenText k.BadNumber k.BadIndent (tests clause k.LineTooLong) (tests clause k.TooManyLines) (tests clause k.BadByte)
      (tests clause k.OpenText) (tests clause k.BadNumber) (tests clause k.BadIndent) (first_of (tests clause) later_kinds) kind e

  passed : (clause : Option Clause) → early_fault sight.place row ≡ None → (first_of (tests clause) KINDS ≡ first_of (tests clause) later_kinds) × (tests clause k.TooManyLines ≡ false)
  passed clause e =
      six_passed k.LineTooLong k.TooManyLines k.BadByte k.OpenText k.BadNumber k.BadIndent (tests clause k.LineTooLong) (tests clause k.TooManyLines) (tests clause k.BadByte)
      (tests clause k.OpenText) (tests clause k.BadNumber) (tests clause k.BadIndent) (first_of (tests clause) later_kinds) e

  pub few_lines : early_fault sight.place row ≡ None → sight.place.number ≤ MOST_LINES
  few_lines e = at_most MOST_LINES sight.place.number (passed None e).1

  pub none_said : (clause : Option Clause) → clause ≡ None → early_fault sight.place row ≡ None → first_of (tests clause) KINDS ≡ Some k.BadCommand
  none_said clause n e = ap (λ o. first_of (tests o) KINDS) n ∙ (passed None e).0

  pub late_found : (clause : Option Clause) (c : Clause) (some : Option FaultKind) → clause ≡ Some c → early_fault sight.place row ≡ None → some ≡ late_fault facts sight row below c → first_of (tests clause) KINDS ≡ some
  late_found clause c some n e l = ap (λ o. first_of (tests o) KINDS) n ∙ (passed (Some c) e).0 ∙ sym l

  abbrev role_is : Role
  role_is = sight.place.role

  abbrev read : Option Clause
  read = clause_read facts role_is sight.place.number row.line.text row.read

  pub judged_none : read ≡ None → early_fault sight.place row ≡ None → Judges (v.Fault k.BadCommand) facts sight row below
  judged_none r e = none_said (clause_of facts sight.place row) (ap (if_agrees row.edges role_is) r) e

  pub judged_clause : (found : Verdict) (clause : Clause) → read ≡ Some clause → early_fault sight.place row ≡ None → JudgesClause found facts sight row below clause → Judges found facts sight row below
  judged_clause (v.Says said) clause r e j =
      let q : clause_of facts sight.place row ≡ Some clause = ap (if_agrees row.edges role_is) r ∙ ap (λ b. if b then Some clause else None) j.0 in
      (late_found (clause_of facts sight.place row) clause None q e (sym j.2), q ∙ ap (λ c. Some c) (sym j.1), few_lines e)
  judged_clause (v.Fault kind) clause r e (inl j) =
      let q : clause_of facts sight.place row ≡ None = ap (if_agrees row.edges role_is) r ∙ ap (λ b. if b then Some clause else None) j.0 in
      none_said (clause_of facts sight.place row) q e ∙ ap (λ x. Some x) (sym j.1)
  judged_clause (v.Fault kind) clause r e (inr j) =
      let q : clause_of facts sight.place row ≡ Some clause = ap (if_agrees row.edges role_is) r ∙ ap (λ b. if b then Some clause else None) j.0 in
      late_found (clause_of facts sight.place row) clause (Some kind) q e (sym j.1)

-- what comes of what a line is found to be
pub takes : (facts : Facts) (sight : Sight) (row : Row) (below : List Row) (found : Verdict) (old new : List Saying) (kind : Option FaultKind) → Judges found facts sight row below
    → Settles found row.edges.indent kind old new → Takes kind facts sight row below old new
takes facts sight row below (v.Fault kind) old new some j s = subst (λ (o : Option FaultKind). Takes o facts sight row below old new) (sym s) j
takes facts sight row below (v.Says clause) old new some j s = subst (λ (o : Option FaultKind). Takes o facts sight row below old new) (sym s.0) (j.0, j.2, clause, j.1, s.1)

-- one line further
module _ (facts : Facts) (rows above : List Row) (row : Row) (below ahead : List Row) (split : ahead ≡ row ∷ below) (same : fault_from facts above ahead ≡ fault_from facts [] rows)
    (sight : Sight) (sees : sight ≡ sight_of facts above row) where
  abbrev found_by : Sight → Option FaultKind
  found_by s = first_of (stands facts s row below (clause_of facts s.place row)) KINDS

  caused : found_by sight ≡ cause facts above row below
  caused = ap found_by sees

  here_is : fault_from facts above (row ∷ below) ≡ fault_from facts [] rows
  here_is = ap (fault_from facts above) (sym split) ∙ same

  number_is : sight.place.number ≡ length above + 1
  number_is = ap (λ (s : Sight). s.place.number) sees ∙ ap (λ n. n + 1) (edges_length above)

  pub few : sight.place.number ≤ MOST_LINES → length (row ∷ above) ≤ MOST_LINES
  few n = let e = number_is in omega (arith, e, n)

  pub fault_found : (kind : FaultKind) → found_by sight ≡ Some kind → Some (record { line = sight.place.number; kind = kind }) ≡ fault_from facts [] rows
  fault_found kind e =
      let f : Option Fault = fault_from facts (row ∷ above) below in
      ap (λ n. or_else (Some kind) n f) number_is ∙ ap (λ o. or_else o (length above + 1) f) (sym e ∙ caused) ∙ here_is

  pub fault_behind : found_by sight ≡ None → fault_from facts (row ∷ above) below ≡ fault_from facts [] rows
  fault_behind e = ap (λ o. or_else o (length above + 1) (fault_from facts (row ∷ above) below)) (sym e ∙ caused) ∙ here_is

  pub says_more : (clause : Clause) → clause_of facts sight.place row ≡ Some clause → (old new : List Saying) → new ≡ old ++ saying row clause ∷ []
      → ((more : List Saying) → AllSay facts above ahead more → AllSay facts [] rows (old ++ more)) → (more : List Saying) → AllSay facts (row ∷ above) below more → AllSay facts [] rows (new ++ more)
  says_more clause e old new n h more a =
      let s : clause_of facts (place_below facts above row) row ≡ Some clause = ap (λ (x : Sight). clause_of facts x.place row) (sym sees) ∙ e in
      let b : AllSay facts above ahead (saying row clause ∷ more) = subst (λ (l : List Row). AllSay facts above l (saying row clause ∷ more)) (sym split) (next_line s a) in
      subst (AllSay facts [] rows) (sym (append_assoc old (saying row clause ∷ []) more) ∙ ap (λ l. l ++ more) (sym n)) (h (saying row clause ∷ more) b)

-- behind the last line
pub all_said : (facts : Facts) (rows above ahead : List Row) (lines : List Saying) → length ahead ≡ 0 → fault_from facts above ahead ≡ fault_from facts [] rows
    → ((more : List Saying) → AllSay facts above ahead more → AllSay facts [] rows (lines ++ more)) → (fault_from facts [] rows ≡ None) × AllSay facts [] rows lines
all_said facts rows above [] lines e same says = (sym same, subst (AllSay facts [] rows) (append-nil lines) (says [] stop))
all_said facts rows above (row ∷ ahead) lines e same says = absurd (omega (arith, e))

-- what the lines above decide of a line
module _ (facts : Facts) (above : List Row) (row : Row) (old : Above) (e : old ≡ above_of facts above) (place : Place) (p : place ≡ place_of facts.setting (edges above) row.edges)
    (here : LineNames) (h : here ≡ names_of facts.setting.unit place.role row.read) where
  here_names : here ≡ names_here facts above row
  here_names = h ∙ ap (λ (x : Place). names_of facts.setting.unit x.role row.read) p

  pub twice_is : twice old.taken here ≡ twice (taken facts above) (names_here facts above row)
  twice_is = ap (λ (o : Above). twice o.taken here) e ∙ ap (twice (taken facts above)) here_names

  pub taken_is : taken_up old.taken here ≡ taken facts (row ∷ above)
  taken_is = ap (λ (o : Above). taken_up o.taken here) e ∙ ap (taken_up (taken facts above)) here_names

  pub used_is : each_once old.used (own_among facts.names (row_tokens row.read)) ≡ names_so_far facts.names (row ∷ above)
  used_is = ap (λ (o : Above). each_once o.used (own_among facts.names (row_tokens row.read))) e

  shares_by : (above : List Row) → (length (edges above) + 1 == 1) || (is_share row.read && all_share above) ≡ all_share (row ∷ above)
  shares_by [] = refl
  shares_by (r ∷ rows) = ap (λ b. b || (is_share row.read && all_share (r ∷ rows))) (not_one (length (edges rows))) where
    not_one : (n : ℕ) → (suc n + 1 == 1) ≡ false
    not_one n = ne_eqb (suc n + 1) 1 (λ e. omega arith)

  pub shares_is : (place.number == 1) || (is_share row.read && old.shares) ≡ all_share (row ∷ above)
  shares_is =
      ap (λ (x : Place). (x.number == 1) || (is_share row.read && old.shares)) p
      ∙ ap (λ (o : Above). (length (edges above) + 1 == 1) || (is_share row.read && o.shares)) e ∙ shares_by above

  abbrev sight_with : Place → Bool → Bool → ℕ → Sight
  sight_with a b c d = record { place = a; shares = b; twice = c; names = d }

  pub sight_is : (t : Bool) (n : ℕ) → t ≡ twice old.taken here → n ≡ length (each_once old.used (own_among facts.names (row_tokens row.read))) → sight_with place old.shares t n ≡ sight_of facts above row
  sight_is t n te ne =
      ap (λ x. sight_with x old.shares t n) p ∙ ap (λ (o : Above). sight_with (place_below facts above row) o.shares t n) e
      ∙ ap (λ x. sight_with (place_below facts above row) (all_share above) x n) (te ∙ twice_is)
      ∙ ap (λ x. sight_with (place_below facts above row) (all_share above) (twice (taken facts above) (names_here facts above row)) x) (ne ∙ ap length used_is)

  abbrev above_with : Outline → TakenNames → List (List ℕ) → Bool → Above
  above_with a b c d = record { outline = a; taken = b; used = c; shares = d }

  -- what is kept then of the lines above the next
  pub above_is : (outline : Outline) (names : TakenNames) (used : List (List ℕ)) (shares : Bool) → outline ≡ outline_of facts.setting (row.edges ∷ edges above) → names ≡ taken_up old.taken here
      → used ≡ each_once old.used (own_among facts.names (row_tokens row.read)) → shares ≡ ((place.number == 1) || (is_share row.read && old.shares)) → above_with outline names used shares ≡ above_of facts (row ∷ above)
  above_is outline names used shares o t u s =
      ap (λ x. above_with x names used shares) o ∙ ap (λ x. above_with (outline_of facts.setting (row.edges ∷ edges above)) x used shares) (t ∙ taken_is)
      ∙ ap (λ x. above_with (outline_of facts.setting (row.edges ∷ edges above)) (taken facts (row ∷ above)) x shares) (u ∙ used_is)
      ∙ ap (λ x. above_with (outline_of facts.setting (row.edges ∷ edges above)) (taken facts (row ∷ above)) (names_so_far facts.names (row ∷ above)) x) (s ∙ shares_is)
