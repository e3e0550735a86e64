-- What is known where a node stands: in an accepted command, and in a unit at a signature.
use Rattle.std.proofs.Common.{◌≡◌, ◌∙◌, refl, ap, sym, subst, ℕ, zero, suc, Bool, true, false, not, ◌&&◌, List, [], ◌∷◌, ◌++◌, map, length, Option, Some, None, if◌then◌else◌, is_some, arith}
use Rattle.std.specs.Prelude.{◌<◌, ◌≤◌, ◌≢◌, ◌+◌, ◌==◌, ◌||◌, nat_le, nat_lt, cond, slice_get, slice_index_or, get_or, option_and_then, option_map, unwrap_or}
use Rattle.std.specs.List.{AllByRecursion, Contains, list_all, list_any, filter, prefix_len}
use Rattle.std.proofs.lemmas.Bool.{and_parts, or_parts}
use Rattle.std.proofs.lemmas.List.Kept.{AllPairs-cons}
use Rattle.std.proofs.lemmas.Bool.Decides.{nat_tests}
use Rattle.abc_num.specs.Names.{AreDifferent, number_of}
use Rattle.abc_num.specs.Number.{IsNumber}
use Rattle.abc_num.specs.Text.{text_eq}
use Rattle.abc_num.specs.declared.limits.TheConstants.{MOST_SUITES, MOST_LINES}
use Rattle.abc_num.specs.declared.types.Ground.{Ground}
use Rattle.abc_num.proofs.Texts.{text_eq-Decides}
use Rattle.abc_tree.specs.Calls.{calls_in_unit, calls_in_action, calls_in_refinement}
use Rattle.abc_tree.specs.Lined.{Lined}
use Rattle.abc_tree.specs.Lists.{flat}
use Rattle.abc_tree.specs.Regular.{is_there, is_value_kind, is_test_kind, is_call, is_command, is_regular_template}
use Rattle.abc_tree.specs.RegularItems.{Part, Parts, line, value, address, example, test, bound, quits, returns, reports, calls, refinement, early_else, here, parts_of, suite_parts, parts_of_unit, Exits, exits_of, refinement_exits, is_regular_part, are_regular_parts, line_of, lines_of, bounds_of, is_among, command_names, names_of, name_at, refinement_by, refinement_named, is_one_of, are_different, is_alone, has_plain_formals, is_command_refinement, command_refinements, shared_names, do_not_fall}
use Rattle.abc_tree.specs.declared.formulas.NameId.{NameId}
use Rattle.abc_tree.specs.declared.formulas.Bound.{Bound, out-Bound}
use Rattle.abc_tree.specs.declared.templates.Template.{Template}
use Rattle.abc_tree.specs.declared.templates.TemplateKind.{TemplateKind}
use Rattle.abc_tree.specs.declared.templates.TemplateKind.TheVariants as kind
use Rattle.abc_tree.specs.declared.commands.Action.{Action}
use Rattle.abc_tree.specs.declared.commands.Command.{Command}
use Rattle.abc_tree.specs.declared.commands.Refinement.{Refinement}
use Rattle.abc_tree.specs.declared.commands.RefinementKind.{RefinementKind}
use Rattle.abc_tree.specs.declared.commands.RefinementKind.TheVariants as refines
use Rattle.abc_tree.specs.declared.commands.Unit.{Unit as Routine}
use Rattle.abc_tree.specs.Units.{unit_of}
use Rattle.abc_tree.proofs.Opening.{open_command, RegularUnit, open_unit}
use Rattle.abc_tree.proofs.OneTemplate.{one_template}
use Rattle.abc_ground.specs.Seen.{Node, leaf, name as name_rule, result, name_place, place_in, seen_action, seen_refinement, seen_unit, seen_command}
use Rattle.abc_ground.specs.Fits.{Signature, Typing, IsHad, RuleFits}
use Rattle.abc_ground.specs.Calls.{any_allowed}
use Rattle.abc_ground.specs.Items.{UnitFits, CommandFits}
use Rattle.abc_ground.specs.Groups.{whole, cut_of}
use Rattle.abc_meaning.specs.Here.{Scope, in_command, in_unit, target_at, refinement_at, refinement_named as named_in}
use Rattle.abc_meaning.specs.Laws.{lines_in}
use Rattle.abc_meaning.specs.Regular.{AreNumbers}
use Rattle.abc_meaning.specs.Written.{numbers_in_part, numbers_in_parts}
use Rattle.abc_meaning.proofs.Opened.{front, behind, each_of_flat, AllParts, in_suite}
use Rattle.abc_sound.specs.Checked.{IsReadUnit, IsReadCommand, EndsBy, ReachesNoMissing}
use Rattle.abc_sound.proofs.Leaving.{Sure, sure, then_sure}
use Rattle.abc_sound.proofs.Expressions.{names_for, NodeFits}
use Rattle.abc_sound.proofs.Testing.{bounds_fit}
use Rattle.abc_sound.proofs.Commands.{InLines, Keeps, OkAction, OkSuite, ok_suite_of}
use Rattle.abc_sound.proofs.Binding.{had_is}
use Rattle.abc_sound.proofs.Nodes.{IsPlace, IsCalled, CalledUnit}
use Rattle.abc_sound.proofs.Units.{Allowed, Present, may_fits, lines_fit, calls_present, command_present, cut, cut_is, unit_has}

-- ---- tests of lists

all_pass : {X : Type 0} (f : X → Bool) (xs : List X) → list_all f xs ≡ true → AllByRecursion (λ x. f x ≡ true) xs
all_pass f [] h = tt
all_pass f (x ∷ xs) h = let p = and_parts (f x) (list_all f xs) h in (p.0, all_pass f xs p.1)

among_contains : (ns : List ℕ) (m : ℕ) → is_among ns m ≡ true → Contains ns m
among_contains [] m h = absurd (cc)
among_contains (n ∷ ns) m h = by (m == n) refl (λ k. among_contains ns m k) h
  where
    by : (b : Bool) → (m == n) ≡ b → (is_among ns m ≡ true → Contains ns m) → (b || is_among ns m) ≡ true → Contains (n ∷ ns) m
    by true e rest h = (0, omega arith, grind (arith, nat_tests))
    by false e rest h = let k = rest h in (suc k.0, omega (arith, k.1), k.2)

contains_among : (ns : List ℕ) (m : ℕ) → Contains ns m → is_among ns m ≡ true
contains_among [] m h = absurd (omega (arith, h.1))
contains_among (n ∷ ns) m h = by h.0 (λ k. contains_among ns m k) h.1 h.2
  where
    first : (b : Bool) → b ≡ true → (b || is_among ns m) ≡ true
    first true e = refl
    first false e = absurd (cc)

    rest : (b : Bool) → is_among ns m ≡ true → (b || is_among ns m) ≡ true
    rest true e = refl
    rest false e = e

    by : (k : ℕ) → (Contains ns m → is_among ns m ≡ true) → k < length (n ∷ ns) → slice_index_or (n ∷ ns) k m ≡ m → is_among (n ∷ ns) m ≡ true
    by zero later l is = first (m == n) (grind (arith, nat_tests))
    by (suc k) later l is = rest (m == n) (later (k, omega (arith, l), is))

-- ---- names

first_place : (names : List (List ℕ)) (i : ℕ) (t : List ℕ) → slice_get names i ≡ Some t → ((k : ℕ) → k < i → slice_get names k ≡ Some t → ⊥) → (prefix_len (λ x. not (text_eq t x)) names ≡ i) × (i < length names)
first_place [] i t is never = absurd (cc)
first_place (x ∷ names) zero t is never = by (text_eq t x) ((text_eq-Decides t x).1 (sym same))
  where
    same : x ≡ t
    same = cc

    by : (b : Bool) → b ≡ true → (cond (not b) (1 + prefix_len (λ x. not (text_eq t x)) names) 0 ≡ 0) × (0 < length (x ∷ names))
    by true e = (refl, omega arith)
    by false e = absurd (cc)
first_place (x ∷ names) (suc i) t is never = by (text_eq t x) refl (first_place names i t is (λ k l e. never (suc k) (omega (arith, l)) e))
  where
    by : (b : Bool) → text_eq t x ≡ b → (prefix_len (λ x. not (text_eq t x)) names ≡ i) × (i < length names) → (cond (not b) (1 + prefix_len (λ x. not (text_eq t x)) names) 0 ≡ suc i) × (suc i < length (x ∷ names))
    by true e rest = absurd (never 0 (omega arith) (ap (λ y. Some y) (sym ((text_eq-Decides t x).0 e))))
    by false e rest = (omega (arith, rest.0), omega (arith, rest.1))

read_or : {X : Type 0} (xs : List X) (i : ℕ) (d x : X) → slice_get xs i ≡ Some x → (slice_index_or xs i d ≡ x) × (i < length xs)
read_or [] i d x e = absurd (cc)
read_or (y ∷ xs) zero d x e = (cc, omega arith)
read_or (y ∷ xs) (suc i) d x e = let k = read_or xs i d x e in (k.0, omega (arith, k.1))

-- names that are told to be different are so
apart : (x : List ℕ) (names : List (List ℕ)) → is_one_of names x ≡ false → (i : ℕ) (d : List ℕ) → i < length names → x ≢ get_or names i d
apart x [] e i d l = absurd (omega (arith, l))
apart x (y ∷ names) e zero d l = λ same. let q = or_parts (text_eq x y) (list_any (text_eq x) names) e in let yes : text_eq x y ≡ true = (text_eq-Decides x y).1 same in absurd cc
apart x (y ∷ names) e (suc i) d l = let q = or_parts (text_eq x y) (list_any (text_eq x) names) e in apart x names q.1 i d (omega (arith, l))

differ : (names : List (List ℕ)) → are_different names ≡ true → AreDifferent names
differ [] e = λ i j d l within. absurd (omega (arith, within))
differ (x ∷ names) e = AllPairs-cons (λ s t. s ≢ t) x names (apart x names (no (is_one_of names x) q.0)) (differ names q.1)
  where
    q : (not (is_one_of names x) ≡ true) × (are_different names ≡ true)
    q = and_parts (not (is_one_of names x)) (are_different names) e

    no : (b : Bool) → not b ≡ true → b ≡ false
    no true h = absurd cc
    no false h = refl

-- the number of a name, where the names are different
number_is : (names : List (List ℕ)) (i : ℕ) (t : List ℕ) → AreDifferent names → slice_get names i ≡ Some t → number_of names t ≡ Some i
number_is names i t differ is =
    let p = first_place names i t is (λ k l e. differ k i t l (read_or names i t t is).1 ((read_or names k t t e).0 ∙ sym (read_or names i t t is).0)) in
    by (prefix_len (λ x. not (text_eq t x)) names) p.0 p.1
  where
    by : (k : ℕ) → k ≡ i → i < length names → cond (nat_lt k (length names)) (Some k) None ≡ Some i
    by k e l = let lt : nat_lt k (length names) ≡ true = grind (arith, nat_tests) in ap (λ b. cond b (Some k) None) lt ∙ ap (λ j. Some j) e

refinement_found : (P : Refinement → Type 0) (name : List ℕ) (rs : List Refinement) (r : Refinement) → AllByRecursion P rs → refinement_by name rs ≡ Some r → P r × (r.name ≡ name)
refinement_found P name [] r h e = absurd (cc)
refinement_found P name (x ∷ rs) r h e = by (text_eq x.name name) refl (λ k. refinement_found P name rs r h.1 k) e
  where
    by : (b : Bool) → text_eq x.name name ≡ b → (refinement_by name rs ≡ Some r → P r × (r.name ≡ name)) → (if b then Some x else refinement_by name rs) ≡ Some r → P r × (r.name ≡ name)
    by true is rest e = let same : x ≡ r = cc in (subst P same h.0, subst (λ (y : Refinement). y.name ≡ name) same ((text_eq-Decides x.name name).0 is))
    by false is rest e = rest e

-- a refinement that is named among some is found
named_found : (keep : Refinement → Bool) (name : List ℕ) (rs : List Refinement) → is_one_of (map (λ r. r.name) (filter keep rs)) name ≡ true → is_some (refinement_by name rs) ≡ true
named_found keep name [] h = absurd (cc)
named_found keep name (r ∷ rs) h = by (text_eq r.name name) refl (keep r) (λ k. named_found keep name rs k) h
  where
    same : text_eq name r.name ≡ true → text_eq r.name name ≡ true
    same e = (text_eq-Decides r.name name).1 (sym ((text_eq-Decides name r.name).0 e))

    either : (b c : Bool) → (b || c) ≡ true → b ≡ false → c ≡ true
    either true c h e = absurd (cc)
    either false c h e = h

    apart : (b : Bool) → text_eq name r.name ≡ b → text_eq r.name name ≡ false → b ≡ false
    apart true e f = let g : true ≡ false = sym (same e) ∙ f in absurd (cc)
    apart false e f = refl

    by : (b : Bool) → text_eq r.name name ≡ b → (k : Bool) → (is_one_of (map (λ r. r.name) (filter keep rs)) name ≡ true → is_some (refinement_by name rs) ≡ true)
        → is_one_of (map (λ r. r.name) (cond k (r ∷ filter keep rs) (filter keep rs))) name ≡ true → is_some (if b then Some r else refinement_by name rs) ≡ true
    by true is k rest h = refl
    by false is true rest h = rest (either (text_eq name r.name) (is_one_of (map (λ r. r.name) (filter keep rs)) name) h (apart (text_eq name r.name) refl is))
    by false is false rest h = rest h

kind_there : (o : Option Refinement) → is_test_kind (option_map (λ r. r.kind) o) ≡ true → is_some o ≡ true
kind_there None e = absurd (cc)
kind_there (Some r) e = refl

-- a name that is there, and is a test refinement, is found
test_found : (rs : List Refinement) (names : List (List ℕ)) (k : ℕ) → k < length names → is_test_kind (refinement_named (name_at names k) rs) ≡ true → is_some (option_and_then (λ name. refinement_by name rs) (slice_get names k)) ≡ true
test_found rs [] k l e = absurd (omega (arith, l))
test_found rs (x ∷ names) zero l e = kind_there (refinement_by x rs) e
test_found rs (x ∷ names) (suc k) l e = test_found rs names k (omega (arith, l)) e

within_lines : (n : ℕ) (ls : List ℕ) → AllByRecursion (λ l. (nat_le 1 l && nat_le l MOST_LINES && nat_le l n) ≡ true) ls → AllByRecursion (λ l. nat_le l n ≡ true) ls
within_lines n [] h = tt
within_lines n (l ∷ ls) h = ((and_parts (nat_le 1 l && nat_le l MOST_LINES) (nat_le l n) h.0).1, within_lines n ls h.1)

less_of : (k n : ℕ) → nat_lt k n ≡ true → k < n
less_of k n h = grind (arith, nat_tests)

-- ---- parts

module _ (allowed : Template → Option Signature → Type 0) (present : Template → Type 0) (most : ℕ) (scope : Scope) (g : Typing) where
  abbrev LineOk : Part → Type 0
  LineOk p = AllByRecursion (λ l. nat_le l most ≡ true) (line_of p)

  module _ (rs : List (List ℕ)) (found : (name : List ℕ) → is_one_of rs name ≡ true → is_some (named_in scope name) ≡ true) (exits : Exits) where
    keeps_part : (p : Part) → is_regular_part (names_for scope) rs exits p ≡ true → AreNumbers (numbers_in_part p) → LineOk p → Keeps allowed present most scope g p
    keeps_part (line l) r m k = k.0
    keeps_part (value e) r m k = (r, m)
    keeps_part (address e) r m k = (r, m)
    keeps_part (example e) r m k = r
    keeps_part (test t) r m k = (r, m)
    keeps_part (bound b) r m k = tt
    keeps_part quits r m k = tt
    keeps_part returns r m k = tt
    keeps_part reports r m k = tt
    keeps_part (calls t n) r m k = r
    keeps_part (refinement name) r m k = found name r
    keeps_part early_else r m k = tt

    keep_parts : (parts : Parts) → are_regular_parts (names_for scope) rs exits parts ≡ true → AllByRecursion (λ part. AreNumbers (numbers_in_part part.1)) parts → AllByRecursion (λ part. LineOk part.1) parts → AllParts (Keeps allowed present most scope g) parts
    keep_parts [] r m k = tt
    keep_parts (p ∷ parts) r m k =
        let s = and_parts (nat_le p.0 MOST_SUITES && is_regular_part (names_for scope) rs exits p.1) (list_all (λ part. nat_le part.0 MOST_SUITES && is_regular_part (names_for scope) rs exits part.1) parts) r in
        let v = and_parts (nat_le p.0 MOST_SUITES) (is_regular_part (names_for scope) rs exits p.1) s.0 in
        (keeps_part p.1 v.1 m.0 k.0, keep_parts parts s.1 m.1 k.1)

each_numbers : (parts : Parts) → AreNumbers (numbers_in_parts parts) → AllByRecursion (λ part. AreNumbers (numbers_in_part part.1)) parts
each_numbers parts h = each_of_flat IsNumber (λ part. numbers_in_part part.1) parts h

each_lines : (most : ℕ) (parts : Parts) → AllByRecursion (λ l. nat_le l most ≡ true) (lines_of parts) → AllByRecursion (λ part. AllByRecursion (λ l. nat_le l most ≡ true) (line_of part.1)) parts
each_lines most parts h = each_of_flat (λ l. nat_le l most ≡ true) (λ part. line_of part.1) parts h

module _ (units : List Routine) (types : List ℕ → Ground) (upto : ℕ) where
  -- the lines that count
  abbrev pub most : Scope → ℕ
  most (in_command c) = upto
  most (in_unit u) = length u.lines

  abbrev A : Template → Option Signature → Type 0
  A = Allowed (whole units) types

  abbrev H : Template → Type 0
  H = Present (whole units) types

  -- ---- a unit

  module _ (u : Routine) (read : IsReadUnit u) (s : Signature) (g : Typing) (fits : UnitFits (any_allowed (Allowed (whole units) types)) types (length u.lines) u g s tt tt)
      (calls_are : InLines (length u.lines) (Present (whole units) types) (calls_in_unit u)) where
    regular : RegularUnit u
    regular = open_unit u read.regular

    typed : InLines (length u.lines) (λ x. NodeFits A g x []) (seen_unit u)
    typed = lines_fit A g (length u.lines) (seen_unit u) fits.body

    abbrev rests : Parts
    rests = flat (map (λ r. here (line r.line ∷ []) ++ suite_parts r.suite) u.refinements)

    numbers_are : AllByRecursion (λ part. AreNumbers (numbers_in_part part.1)) (suite_parts u.body ++ rests)
    numbers_are = each_numbers (parts_of_unit u) read.numbers

    lines_are : AllByRecursion (λ part. AllByRecursion (λ l. nat_le l (length u.lines) ≡ true) (line_of part.1)) (suite_parts u.body ++ rests)
    lines_are = each_lines (length u.lines) (parts_of_unit u) (within_lines (length u.lines) (lines_of (parts_of_unit u)) (all_pass _ (lines_of (parts_of_unit u)) (and_parts (do_not_fall (lines_of (parts_of_unit u))) _ regular.lines).1))

    found : (name : List ℕ) → is_one_of (command_refinements u) name ≡ true → is_some (named_in (in_unit u) name) ≡ true
    found name h = named_found (λ r. is_command_refinement r.kind) name u.refinements h

    bodies : (are_regular_parts (names_of u) (command_refinements u) (exits_of u.template.kind) (suite_parts u.body) ≡ true) × (list_all (λ r. are_regular_parts (names_of u) (command_refinements u) (refinement_exits u.template.kind r.kind) (suite_parts r.suite)) u.refinements ≡ true)
    bodies = and_parts (are_regular_parts (names_of u) (command_refinements u) (exits_of u.template.kind) (suite_parts u.body)) _ regular.bodies

    abbrev NumbersOk : ℕ × Part → Type 0
    NumbersOk part = AreNumbers (numbers_in_part part.1)

    abbrev LinesOk : ℕ × Part → Type 0
    LinesOk part = AllByRecursion (λ l. nat_le l (length u.lines) ≡ true) (line_of part.1)

    abbrev CallsOk : ℕ × Template → Type 0
    CallsOk x = nat_le x.0 (length u.lines) ≡ true → H x.1

    abbrev SeenOk : ℕ × Node → Type 0
    SeenOk x = nat_le x.0 (length u.lines) ≡ true → NodeFits A g x.1 []

    abbrev calls_behind : Lined Template
    calls_behind = flat (map calls_in_refinement u.refinements)

    abbrev seen_behind : Lined Node
    seen_behind = flat (map (seen_refinement u.names) u.refinements)

    -- a suite of it
    suite_ok : (where_to : Node) (exits : Exits) (suite : List Action) → are_regular_parts (names_of u) (command_refinements u) exits (suite_parts suite) ≡ true → AllByRecursion NumbersOk (suite_parts suite) → AllByRecursion LinesOk (suite_parts suite)
        → AllByRecursion SeenOk (flat (map (seen_action where_to) suite)) → AllByRecursion CallsOk (flat (map calls_in_action suite)) → OkSuite A H (length u.lines) (in_unit u) g where_to suite
    suite_ok where_to exits suite r m k f c =
        ok_suite_of A H (length u.lines) (in_unit u) g where_to suite f (in_suite (Keeps A H (length u.lines) (in_unit u) g) suite (keep_parts A H (length u.lines) (in_unit u) g (command_refinements u) found exits (suite_parts suite) r m k)) c

    body_ok : OkSuite A H (length u.lines) (in_unit u) g (leaf result) u.body
    body_ok =
        suite_ok (leaf result) (exits_of u.template.kind) u.body bodies.0 (front NumbersOk (suite_parts u.body) rests numbers_are) (front LinesOk (suite_parts u.body) rests lines_are)
        (front SeenOk (flat (map (seen_action (leaf result)) u.body)) seen_behind typed) (front CallsOk (flat (map calls_in_action u.body)) calls_behind calls_are)

    abbrev RefinementOk : Refinement → Type 0
    RefinementOk r = OkSuite A H (length u.lines) (in_unit u) g (place_in u.names r.kind r.name) r.suite

    abbrev of : Refinement → Parts
    of r = here (line r.line ∷ []) ++ suite_parts r.suite

    each_refinement : (rs : List Refinement) → list_all (λ r. are_regular_parts (names_of u) (command_refinements u) (refinement_exits u.template.kind r.kind) (suite_parts r.suite)) rs ≡ true → AllByRecursion NumbersOk (flat (map of rs)) → AllByRecursion LinesOk (flat (map of rs))
        → AllByRecursion SeenOk (flat (map (seen_refinement u.names) rs)) → AllByRecursion CallsOk (flat (map calls_in_refinement rs)) → AllByRecursion RefinementOk rs
    each_refinement [] r m k f c = tt
    each_refinement (x ∷ rs) r m k f c =
        let s = and_parts (are_regular_parts (names_of u) (command_refinements u) (refinement_exits u.template.kind x.kind) (suite_parts x.suite)) (list_all (λ r. are_regular_parts (names_of u) (command_refinements u) (refinement_exits u.template.kind r.kind) (suite_parts r.suite)) rs) r in (
          suite_ok (place_in u.names x.kind x.name) (refinement_exits u.template.kind x.kind) x.suite s.0 (front NumbersOk (of x) (flat (map of rs)) m).1 (front LinesOk (of x) (flat (map of rs)) k).1
              (front SeenOk (seen_refinement u.names x) (flat (map (seen_refinement u.names) rs)) f) (front CallsOk (calls_in_refinement x) (flat (map calls_in_refinement rs)) c),
          each_refinement rs s.1 (behind NumbersOk (of x) (flat (map of rs)) m) (behind LinesOk (of x) (flat (map of rs)) k)
              (behind SeenOk (seen_refinement u.names x) (flat (map (seen_refinement u.names) rs)) f) (behind CallsOk (calls_in_refinement x) (flat (map calls_in_refinement rs)) c),
        )

    refinements_ok : AllByRecursion RefinementOk u.refinements
    refinements_ok =
        each_refinement u.refinements bodies.1 (behind NumbersOk (suite_parts u.body) rests numbers_are) (behind LinesOk (suite_parts u.body) rests lines_are)
        (behind SeenOk (flat (map (seen_action (leaf result)) u.body)) seen_behind typed) (behind CallsOk (flat (map calls_in_action u.body)) calls_behind calls_are)

    -- its targets have their types
    targets_typed : (i : ℕ) (name : List ℕ) (t : Ground) → target_at (in_unit u) i ≡ Some name → slice_get g.names i ≡ Some t → t ≡ types name
    targets_typed i name t e is = by (is_among (shared_names u) i) refl e
      where
        by : (b : Bool) → is_among (shared_names u) i ≡ b → (if b then slice_get u.names i else None) ≡ Some name → t ≡ types name
        by true shared e = let k : Some t ≡ Some (types name) = sym is ∙ fits.shared i (among_contains (shared_names u) i shared) name e in cc
        by false shared e = absurd (cc)

    -- an expression refinement gives what its name has
    expressed : (i : ℕ) (r : Refinement) (t : Ground) → refinement_at (in_unit u) i ≡ Some r → is_value_kind ((names_of u).refinement i) ≡ true → NodeFits A g (place_in u.names r.kind r.name) (t ∷ []) → slice_get g.names i ≡ Some t
    expressed i r t e kind f = by (slice_get u.names i) refl e kind
      where
        had : (o : Option ℕ) → o ≡ Some i → NodeFits A g (name_place o) (t ∷ []) → slice_get g.names i ≡ Some t
        had o is k = at_number (subst (λ p. NodeFits A g (name_place p) (t ∷ [])) is k)
          where
            at_number : NodeFits A g (leaf (name_rule i)) (t ∷ []) → slice_get g.names i ≡ Some t
            at_number k = had_is (slice_get g.names i) t (by_parts k.0 k.2)
              where
                by_parts : (parts : List Ground) → RuleFits g (name_rule i) parts (t ∷ []) → IsHad (slice_get g.names i) t
                by_parts [] h = h
                by_parts (p ∷ ps) h = absurd h

        of_kind : (k : RefinementKind) (called : List ℕ) → is_value_kind (Some k) ≡ true → slice_get u.names i ≡ Some called → NodeFits A g (place_in u.names k called) (t ∷ []) → slice_get g.names i ≡ Some t
        of_kind refines.Expression called kind is k = had (number_of u.names called) (number_is u.names i called (differ u.names regular.different) is) k
        of_kind refines.Test called kind is k = absurd (cc)
        of_kind refines.Command called kind is k = absurd (cc)

        by : (o : Option (List ℕ)) → slice_get u.names i ≡ o → option_and_then (named_in (in_unit u)) o ≡ Some r → is_value_kind (option_map (λ r. r.kind) (refinement_by (unwrap_or o []) u.refinements)) ≡ true → slice_get g.names i ≡ Some t
        by None is e kind = absurd (cc)
        by (Some called) is e kind =
            let n = (refinement_found RefinementOk called u.refinements r refinements_ok e).1 in
            of_kind r.kind r.name (subst (λ o. is_value_kind (option_map (λ r. r.kind) o) ≡ true) e kind) (is ∙ ap (λ x. Some x) (sym n)) f

    tested : (i : NameId) → (is_there (names_of u) i && is_test_kind ((names_of u).refinement i.0)) ≡ true → is_some (refinement_at (in_unit u) i.0) ≡ true
    tested i h =
        let p = and_parts (is_there (names_of u) i) (is_test_kind ((names_of u).refinement i.0)) h in
        test_found u.refinements u.names i.0 (less_of i.0 (length u.names) p.0) p.1

    pub unit_place : IsPlace units types A H most (in_unit u) g
    unit_place = record {
      targets = targets_typed;
      numbered = read.numbers;
      refined = λ name r e. (refinement_found RefinementOk name u.refinements r refinements_ok e).0;
      expressed = expressed;
      tested = tested;
    }

    pub unit_called : IsCalled units types A H most u s
    unit_called = record { typing = g; at = unit_place; body = body_ok; formals = bounds_fit A g u.formals s.formals fits.formals; gives = fits.result }

  -- ---- a unit that is called

  module _ (read : AllByRecursion IsReadUnit units) where
    found_cut : (t : Template) (o : Option Routine) → unit_of t units ≡ o → is_some (cut_of t (whole units)) ≡ true → (u : Routine) × (o ≡ Some u)
    found_cut t None e h = absurd (no (subst (λ p. is_some p ≡ true) (cut_is units t ∙ ap (λ p. option_map cut p) e) h))
      where
        no : false ≡ true → ⊥
        no e = cc
    found_cut t (Some u) e h = (u, refl)

    pub called_is : (t : Template) (o : Option Signature) → A t o → H t → Sure (CalledUnit units types A H most t o)
    called_is t o a h =
        let there = h t (0, refl) in
        let c = found_cut t (unit_of t units) refl there in
        let cut_eq : cut_of t (whole units) ≡ Some (cut c.0) = cut_is units t ∙ ap (λ p. option_map cut p) c.1 in
        then_sure (a there) (λ k.
        let f = may_fits (whole units) types t k.0 (cut c.0) k.2 cut_eq in
        let r = unit_has IsReadUnit units t c.0 read c.1 in
        sure (c.0, k.0, c.1, k.1, unit_called c.0 r.0 k.0 f.0 f.1 (calls_present (whole units) types t (cut c.0) h cut_eq)))

    plain : (k : TemplateKind) (bs : List Bound) → is_command k ≡ true → has_plain_formals k bs ≡ true → list_all (λ b. is_alone (out-Bound b)) bs ≡ true
    plain kind.Command bs e h = h
    plain kind.Function bs e h = absurd (cc)
    plain kind.Predicate bs e h = absurd (cc)

    -- the formals of a command unit are names by themselves
    pub plain_is : (t : Template) (n : ℕ) (u : Routine) → is_call is_command t n ≡ true → unit_of t units ≡ Some u → list_all (λ b. is_alone (out-Bound b)) u.formals ≡ true
    plain_is t n u h e =
        let p = and_parts (is_regular_template t && is_command t.kind) (t.places == n) h in
        let q = and_parts (is_regular_template t) (is_command t.kind) p.0 in
        let r = unit_has IsReadUnit units t u read e in
        let same : u.template ≡ t = one_template u.template t (open_unit u r.0.regular).template q.0 r.1 in
        plain u.template.kind u.formals (subst (λ x. is_command x.kind ≡ true) (sym same) q.1) (open_unit u r.0.regular).plain

  -- ---- an immediate command

  module _ (c : Command) (read : IsReadCommand c) (ends : EndsBy upto c) (g : Typing) (fits : CommandFits (any_allowed (Allowed (whole units) types)) types upto c g tt tt) where
    no_refinement : (i : ℕ) (r : Refinement) → refinement_at (in_command c) i ≡ Some r → ⊥
    no_refinement i r e = by (slice_get c.names i) e
      where
        by : (o : Option (List ℕ)) → option_and_then (named_in (in_command c)) o ≡ Some r → ⊥
        by None e = cc
        by (Some name) e = cc

    command_targets : (i : ℕ) (name : List ℕ) (t : Ground) → target_at (in_command c) i ≡ Some name → slice_get g.names i ≡ Some t → t ≡ types name
    command_targets i name t e is = by (is_among (bounds_of (parts_of c.action)) i) refl e
      where
        by : (b : Bool) → is_among (bounds_of (parts_of c.action)) i ≡ b → (if not b then slice_get c.names i else None) ≡ Some name → t ≡ types name
        by true b e = absurd (cc)
        by false b e =
            let k : Some t ≡ Some (types name) = sym is ∙ fits.targets_are i (λ among. true_false (sym (contains_among (bounds_of (parts_of c.action)) i among) ∙ b)) name e in cc
          where
            true_false : true ≡ false → ⊥
            true_false e = cc

    pub command_place : IsPlace units types A H most (in_command c) g
    command_place = record {
      targets = command_targets;
      numbered = tt;
      refined = λ name r e. absurd (cc);
      expressed = λ i r t e kind f. absurd (no_refinement i r e);
      tested = λ i h. absurd (no (and_parts (is_there (command_names c) i) false h).1);
    }
      where
        no : false ≡ true → ⊥
        no e = cc

    lines_low : (ls : List ℕ) → AllByRecursion (λ l. l ≤ upto) ls → AllByRecursion (λ l. nat_le l upto ≡ true) ls
    lines_low [] h = tt
    lines_low (l ∷ ls) h = (grind (arith, nat_tests), lines_low ls h.1)

    none_named : (name : List ℕ) → is_one_of [] name ≡ true → is_some (named_in (in_command c) name) ≡ true
    none_named name h = absurd (cc)

    pub command_ok : ReachesNoMissing (whole units) c upto → OkAction A H upto (in_command c) g (leaf result) c.action
    command_ok reach = record {
      typed = lines_fit A g upto (seen_command c) fits.body;
      parts = keep_parts A H upto (in_command c) g [] none_named (exits_of kind.Command) (parts_of c.action) (open_command c read.regular).parts (each_numbers (parts_of c.action) read.numbers)
          (each_lines upto (parts_of c.action) (lines_low (lines_in c.action) ends));
      called = command_present (whole units) types c upto reach;
    }
