-- What a type check tells is one line.
use Rattle.std.proofs.Common.{◌≡◌, ◌<◌, ◌≤◌, ◌⊎◌, inl, inr, ℕ, zero, suc, List, length, Option, None, Some, Result, Ok, Err, refl, sym, ap, subst, arith}
use Rattle.std.specs.Prelude.{IfOk, OnOk}
use Rattle.std.specs.Map.{keys_of}
use Rattle.abc_num.specs.declared.lines.Line.{Line}
use Rattle.abc_num.specs.declared.memory.OutOfMemory.{OutOfMemory}
use Rattle.abc_tree.specs.declared.commands.Command.{Command}
use Rattle.abc_tree.specs.declared.commands.Item.{Item}
use Rattle.abc_tree.specs.declared.commands.Item.TheVariants as item
use Rattle.abc_tree.specs.declared.commands.Unit.{Unit as Routine}
use Rattle.abc_groups.specs.Program.{LAST_LINE}
use Rattle.abc_ground.specs.Groups.{Cut, with_cut}
use Rattle.abc_ground.specs.Typable.{IsTypable, IsTypableWith, IsTypeLine, Values}
use Rattle.abc_faults.specs.Faults.{item_fault}
use Rattle.abc_journal.specs.declared.layout.Bounds.{Bounds}
use Rattle.abc_parse.specs.Readings.{item_of}
use Rattle.abc_check.specs.Cuts.{AllAreSpelled, CutsAreSpelled}
use Rattle.abc_check.specs.Standing.{CallsAreSpelled, StandsFor}
use Rattle.abc_check.specs.declared.checker.Checker.{Checker}
use Rattle.abc_check.specs.declared.fault.CheckFault.{CheckFault}
use Rattle.abc_check.specs.declared.fault.CheckFault.TheVariants.{TypeFault}
use Rattle.abc_store.specs.Commit.{Work}
use Rattle.abc_store.specs.Laws.{UnitsAreSet}
use Rattle.abc_store.specs.Workspace.{Workspace}
use Rattle.abc_outcome.specs.Checks.{TakesCommand, TakesUnit, TellsOf, TellsTypeLine}
use Rattle.abc_outcome.specs.Laws.{AnExactCheckIsThere, IsDecided, TypeLinesAreOne}
use Rattle.abc_outcome.specs.Missing.{called_by, first_missing}
use Rattle.abc_outcome.specs.Outcome.{Behind, Outcome, on_fault, on_item, outcome, run_outcome, unit_outcome, unless_missing, unless_unfit}

-- ---- one line

module _ (takes : ℕ → Type 0) where
  order : (m n : ℕ) → (m < n) ⊎ ((m ≡ n) ⊎ (n < m))
  order zero zero = inr (inl refl)
  order zero (suc n) = inl (omega arith)
  order (suc m) zero = inr (inr (omega arith))
  order (suc m) (suc n) = by_order (order m n)
    where
      by_order : (m < n) ⊎ ((m ≡ n) ⊎ (n < m)) → (suc m < suc n) ⊎ ((suc m ≡ suc n) ⊎ (suc n < suc m))
      by_order (inl lt) = inl (omega (arith, lt))
      by_order (inr (inl is)) = inr (inl (ap suc is))
      by_order (inr (inr lt)) = inr (inr (omega (arith, lt)))

  least_is_one : (m n : ℕ) → IsTypeLine takes m → IsTypeLine takes n → m ≡ n
  least_is_one m n p q = by_order (order m n)
    where
      by_order : (m < n) ⊎ ((m ≡ n) ⊎ (n < m)) → m ≡ n
      by_order (inl lt) = absurd (p.refused (q.before m p.from lt))
      by_order (inr (inl is)) = is
      by_order (inr (inr lt)) = absurd (q.refused (p.before n q.from lt))

  pub lines_are_one : (last : ℕ) (a b : Option ℕ) → TellsTypeLine takes last a → TellsTypeLine takes last b → a ≡ b
  lines_are_one last None None p q = refl
  lines_are_one last None (Some n) p q = absurd (q.1 p)
  lines_are_one last (Some m) None p q = absurd (p.1 q)
  lines_are_one last (Some m) (Some n) p q = ap Some (least_is_one m n p.0 q.0)

  -- what the check answered, as the line that it tells
  pub line_told : (last : ℕ) (checked : Result (Unit {0}) CheckFault) (told : Result (Option ℕ) OutOfMemory) → (told ≡ Ok None → checked ≡ Ok tt) → ((line : ℕ) → told ≡ Ok (Some line) → checked ≡ Err (TypeFault line))
      → OnOk checked (takes last) → ((line : ℕ) → checked ≡ Err (TypeFault line) → IsTypeLine takes line × (takes last → ⊥)) → IfOk told (TellsTypeLine takes last)
  line_told last checked (Ok None) none some ok fault = subst (λ (r : Result (Unit {0}) CheckFault). OnOk r (takes last)) (none refl) ok
  line_told last checked (Ok (Some line)) none some ok fault = fault line (some line refl)
  line_told last checked (Err e) none some ok fault = tt

-- what is claimed of Ok, claimed of it for less
ok_weaker : {P Q : Type 0} (checked : Result (Unit {0}) CheckFault) → (P → Q) → OnOk checked P → OnOk checked Q
ok_weaker (Ok done) less is = less is
ok_weaker (Err fault) less is = tt

module _ (values : Values) (told : Result (Option ℕ) OutOfMemory) (checked : Result (Unit {0}) CheckFault) (none : told ≡ Ok None → checked ≡ Ok tt) (some : (line : ℕ) → told ≡ Ok (Some line) → checked ≡ Err (TypeFault line)) where
  -- what a checker that stands for these units told of a command
  pub command_line : (checker : Checker) (w : List Cut) (c : Command) → StandsFor checker w → CallsAreSpelled w c
      → OnOk checked ((w : List Cut) → StandsFor checker w → CallsAreSpelled w c → (n : ℕ) → n ≤ LAST_LINE → IsTypableWith values w c n)
      → ((line : ℕ) → checked ≡ Err (TypeFault line) → (w : List Cut) → StandsFor checker w → CallsAreSpelled w c → IsTypeLine (λ n. IsTypableWith values w c n) line × (IsTypableWith values w c LAST_LINE → ⊥))
      → IfOk told (TellsTypeLine (λ n. IsTypableWith values w c n) LAST_LINE)
  command_line checker w c stands spelled ok fault =
      line_told (λ n. IsTypableWith values w c n) LAST_LINE checked told none some (ok_weaker checked (λ each. each w stands spelled LAST_LINE (omega arith)) ok) (λ line is. fault line is w stands spelled)

  -- what was told of a unit among these units
  pub unit_line : (u : Routine) (units : List Routine) → 1 ≤ length u.lines → AllAreSpelled u units
      → OnOk checked (CutsAreSpelled (with_cut u (length u.lines) units) → IsTypable values (with_cut u (length u.lines) units))
      → ((line : ℕ) → checked ≡ Err (TypeFault line) → AllAreSpelled u units → 1 ≤ length u.lines
      → IsTypeLine (λ n. IsTypable values (with_cut u n units)) line × (IsTypable values (with_cut u (length u.lines) units) → ⊥))
      → IfOk told (TellsTypeLine (λ n. IsTypable values (with_cut u n units)) (length u.lines))
  unit_line u units some_lines spelled ok fault =
      line_told (λ n. IsTypable values (with_cut u n units)) (length u.lines) checked told none some (ok_weaker checked (λ is. is (spelled (length u.lines))) ok) (λ line is. fault line is spelled some_lines)

-- ---- whatever is told as the type line, an item comes to the same

module _ (bounds : Bounds) (budget k : ℕ) (work : Work) (behind : Behind) (a b : Option ℕ) where
  command_same : (c : Command) (missing : Option (List ℕ)) → (missing ≡ None → a ≡ b)
      → (run : Outcome) → unless_missing k work behind c missing (unless_unfit k work behind a run) ≡ unless_missing k work behind c missing (unless_unfit k work behind b run)
  command_same c None same run = ap (λ (line : Option ℕ). unless_unfit k work behind line run) (same refl)
  command_same c (Some t) same run = refl

  item_same : (found : Option Item) → ((u : Routine) → found ≡ Some (item.Unit u) → 1 ≤ length u.lines) → TellsOf work.kept found a → TellsOf work.kept found b
      → on_item a bounds budget k work behind found ≡ on_item b bounds budget k work behind found
  item_same None some p q = refl
  item_same (Some (item.Environment asked)) some p q = refl
  item_same (Some (item.Command c)) some p q =
      command_same c (first_missing work.kept.units (called_by c)) (λ none. lines_are_one (TakesCommand work.kept c) LAST_LINE a b (p none) (q none)) (run_outcome bounds budget k work behind c)
  item_same (Some (item.Unit u)) some p q =
      ap (λ (line : Option ℕ). unit_outcome line bounds k work behind u) (lines_are_one (TakesUnit work.kept u) (length u.lines) a b (p (some u refl)) (q (some u refl)))

pub type_lines_are_one : UnitsAreSet → TypeLinesAreOne
unfolding outcome
type_lines_are_one set bounds budget k work lines told other behind from p q =
    ap (on_fault k work behind (item_fault lines (keys_of work.kept.targets)))
    (item_same bounds budget k work behind told other (item_of lines (keys_of work.kept.targets))
    (λ u is. subst (λ (ls : List Line). 1 ≤ length ls) (sym (set lines (keys_of work.kept.targets) u is).1) (omega (arith, from))) p q)

-- ---- an exact check

module _ (takes : ℕ → Type 0) (decided : IsDecided takes) where
  -- all these lines are taken, or one is the first that isn't
  abbrev Found : ℕ → Type 0
  Found n = ((m : ℕ) → 1 ≤ m → m ≤ n → takes m) ⊎ ((line : ℕ) × IsTypeLine takes line)

  up_to : (n : ℕ) → ((m : ℕ) → 1 ≤ m → m ≤ n → takes m) → takes (suc n) → (m : ℕ) → 1 ≤ m → m ≤ suc n → takes m
  up_to n each last m from upto = by_order (order takes m (suc n))
    where
      by_order : (m < suc n) ⊎ ((m ≡ suc n) ⊎ (suc n < m)) → takes m
      by_order (inl lt) = each m from (omega (arith, lt))
      by_order (inr (inl is)) = subst takes (sym is) last
      by_order (inr (inr lt)) = absurd (omega (arith, lt, upto))

  one_more : (n : ℕ) → Found n → takes (suc n) ⊎ (takes (suc n) → ⊥) → Found (suc n)
  one_more n (inr found) last = inr found
  one_more n (inl each) (inl last) = inl (up_to n each last)
  one_more n (inl each) (inr not) = inr (suc n, record { from = omega arith; refused = not; before = λ m from lt. each m from (omega (arith, lt)) })

  first_line : (n : ℕ) → Found n
  first_line zero = inl (λ m from upto. absurd (omega (arith, from, upto)))
  first_line (suc n) = one_more n (first_line n) (decided (suc n))

  line_is : (last : ℕ) → 1 ≤ last → takes last ⊎ (takes last → ⊥) → Found last → (line : Option ℕ) × TellsTypeLine takes last line
  line_is last from (inl is) found = (None, is)
  line_is last from (inr not) (inl each) = absurd (not (each last from (omega arith)))
  line_is last from (inr not) (inr found) = (Some found.0, (found.1, not))

  told : (last : ℕ) → (line : Option ℕ) × (1 ≤ last → TellsTypeLine takes last line)
  told zero = (None, λ from. absurd (omega (arith, from)))
  told (suc n) = let it = line_is (suc n) (omega arith) (decided (suc n)) (first_line (suc n)) in (it.0, λ from. it.1)

module _ (commands : (kept : Workspace) (c : Command) → IsDecided (TakesCommand kept c)) (units : (kept : Workspace) (u : Routine) → IsDecided (TakesUnit kept u)) (kept : Workspace) where
  told_of : (found : Option Item) → (line : Option ℕ) × TellsOf kept found line
  told_of None = (None, tt)
  told_of (Some (item.Environment asked)) = (None, tt)
  told_of (Some (item.Command c)) = let it = told (TakesCommand kept c) (commands kept c) LAST_LINE in (it.0, λ none. it.1 (omega arith))
  told_of (Some (item.Unit u)) = told (TakesUnit kept u) (units kept u) (length u.lines)

pub check_is_there : AnExactCheckIsThere
check_is_there commands units =
    ((λ kept lines. (told_of commands units kept (item_of lines (keys_of kept.targets))).0), (λ kept lines. (told_of commands units kept (item_of lines (keys_of kept.targets))).1))
