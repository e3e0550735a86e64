-- Values stay regular.
use Rattle.std.proofs.Common.{◌+◌, ℕ, zero, suc, Bool, true, false, List, [], ◌∷◌, map, Some, refl, arith, if◌then◌else◌}
use Rattle.std.specs.Prelude.{length, nat_lt, cond, ◌==◌}
use Rattle.std.specs.List.{AllByRecursion}
use Rattle.std.specs.Option.{IfSome}
use Rattle.std.specs.BTreeMap.{insert_entry}
use Rattle.std.specs.Map.{lookup, remove_entry}
use Rattle.std.specs.Ordering.{match_ordering}
use Rattle.std.specs.declared.cmp.Ordering.{Ordering}
use Rattle.std.specs.declared.cmp.Ordering.TheVariants.{Less, Equal, Greater}
use Rattle.std.proofs.lemmas.List.{length-take}
use Rattle.abc_num.specs.Lines.{raw_line, without_cr, cut_at_lf}
use Rattle.abc_num.specs.Number.{IsNumber}
use Rattle.abc_num.specs.declared.limits.TheConstants.{MOST_OUTPUT, MOST_LINE_BYTES}
use Rattle.abc_num.specs.declared.lines.RawLine.{RawLine}
use Rattle.abc_num.proofs.Characters.{tested_characters}
use Rattle.abc_tree.specs.RegularItems.{Part, Parts, line, value, address, example, test, bound, quits, returns, reports, calls, refinement, early_else, parts_of, parts_of_unit}
use Rattle.abc_tree.specs.declared.commands.Unit.{Unit as Routine}
use Rattle.abc_value.specs.Tree.{Tree, number}
use Rattle.abc_value.specs.Regular.{IsRegular}
use Rattle.abc_value.specs.Parts.{pairs_of}
use Rattle.abc_value.proofs.trees.Making.{text_regular}
use Rattle.abc_frames.specs.Maps.{Targets, AreRegular}
use Rattle.abc_print.specs.Laws.{LinesAreComputed}
use Rattle.abc_meaning.specs.State.{Formal, State, Got, gives, stops, Run, after, Flow}
use Rattle.abc_meaning.specs.Here.{Here, Scope, in_command, in_unit, spend_of}
use Rattle.abc_meaning.specs.Changing.{marked}
use Rattle.abc_meaning.specs.Reading.{taken}
use Rattle.abc_meaning.specs.Acts.{say_unless}
use Rattle.abc_meaning.specs.Meaning.{meaning}
use Rattle.abc_meaning.specs.Ran.{ran_as, standing, starting}
use Rattle.abc_meaning.specs.Written.{Numbers, numbers_in_part, numbers_in_parts}
use Rattle.abc_meaning.specs.Regular.{AreValues, HasKeys, IsShort, HasValues, AreNumbers, IsNumbered, IsNumberedScope, Leaves, ValuesStayRegular, TargetsStayRegular, InputLinesAreShort}
use Rattle.abc_meaning.proofs.Opened.{each_of_flat}
use Rattle.abc_meaning.proofs.Asked.{Facts, Any, OwnLine, FitsPart, FitsUnit, FitsScope, IsPlace, AreKept, IsLaw, IsGood}
use Rattle.abc_meaning.proofs.Nodes.{all_nodes}
use Rattle.abc_meaning.proofs.RegularValues.{empty_regular, number_is, parts_regular, elements_regular, pairs_regular, found_regular, compound_is, text_is, list_display_is, table_display_is, range_is, changed_is}
use Rattle.abc_meaning.proofs.RegularRows.{one_is, two_is}
use Rattle.abc_meaning.proofs.RegularLiterals.{literal_is}

abbrev facts : Facts
facts = record { IsLine = Any; HasTree = IsRegular; HasRaw = IsShort; HasTargets = AreRegular; HasNames = AreValues; HasFormals = AllByRecursion HasKeys }

kept : LinesAreComputed → AreKept facts
kept computed = record {
  nothing = empty_regular;
  composed = λ vs v h two is. compound_is vs v h two is;
  worded = λ b v are is. text_is b v are is;
  listed = λ es v h is. list_display_is es v h is;
  tabled = λ ps v h is. table_display_is ps v h is;
  ranged = λ p q v h k is. range_is p q v h k is;
  parts = λ t h. parts_regular t h;
  elements = λ t h. elements_regular t h;
  found = λ k t h. found_regular k (pairs_of t) (pairs_regular t h);
  one = λ op v w h is. one_is op v w h is;
  two = λ op u v w h k is. two_is op u v w h k is;
  raw = λ l h are. text_regular l.bytes (omega (arith, h)) (tested_characters l.bytes are);
  literal = λ l h. literal_is computed l.bytes (omega (arith, h));
  changes = λ c missing steps old v hc hs ho is. changed_is c missing steps old v hc hs ho is;
}

-- ---- maps

module _ {K : Type 0} where
  abbrev Have : List (K × Tree) → Type 0
  Have es = AllByRecursion IsRegular (map (λ p. p.1) es)

  looked : (passes : K → Bool) (es : List (K × Tree)) → Have es → IfSome (lookup passes es) IsRegular
  looked passes [] h = tt
  looked passes (e ∷ es) h = by (passes e.0) (looked passes es h.1)
    where
      by : (b : Bool) → IfSome (lookup passes es) IsRegular → IfSome (cond b (Some e.1) (lookup passes es)) IsRegular
      by true rest = h.0
      by false rest = rest

  inserted : (R : K → K → Ordering) (k : K) (v : Tree) (es : List (K × Tree)) → IsRegular v → Have es → Have (insert_entry R es k v)
  inserted R k v [] hv h = (hv, tt)
  inserted R k v (e ∷ es) hv h = by (R k e.0) (inserted R k v es hv h.1)
    where
      by : (r : Ordering) → Have (insert_entry R es k v) → Have (match_ordering r ((k, v) ∷ e ∷ es) ((e.0, v) ∷ es) (e ∷ insert_entry R es k v))
      by Less rest = (hv, h)
      by Equal rest = (hv, h.1)
      by Greater rest = (h.0, rest)

  removed : (passes : K → Bool) (es : List (K × Tree)) → Have es → Have (remove_entry passes es)
  removed passes [] h = tt
  removed passes (e ∷ es) h = by (passes e.0) (removed passes es h.1)
    where
      by : (b : Bool) → Have (remove_entry passes es) → Have (cond b es (e ∷ remove_entry passes es))
      by true rest = h.1
      by false rest = (h.0, rest)

marked_keys : (i : ℕ) (formals : List Formal) → AllByRecursion HasKeys formals → AllByRecursion HasKeys (marked i formals)
marked_keys i [] h = tt
marked_keys i (f ∷ formals) h = by (f.name == i) (marked_keys i formals h.1)
  where
    by : (b : Bool) → AllByRecursion HasKeys (marked i formals) → AllByRecursion HasKeys (if b then record f { changed = true } ∷ formals else f ∷ marked i formals)
    by true rest = h
    by false rest = (h.0, rest)

-- ---- runs

record Runs (A : Type 0) (Q : A → Type 0) (run : Run A) : Type 0 where
  leaves : (s : State) → HasValues s → Leaves Q (run s)

after_leaves : {A B : Type 0} (Q : A → Type 0) (Q2 : B → Type 0) (g : Got A) (go : A → Run B) → Leaves Q g → ((a : A) → Q a → Runs B Q2 (go a)) → Leaves Q2 (after g go)
after_leaves Q Q2 (gives a t) go h k = (k a h.0).leaves t h.1
after_leaves Q Q2 (stops n stop t) go h k = h

spend_leaves : (n : ℕ) (here : Here) (s : State) → HasValues s → Leaves Any (spend_of n here s)
spend_leaves zero here s h = h
spend_leaves (suc n) here s h = (tt, record { targets = h.targets; names = h.names; formals = h.formals; lines = h.lines })

say_leaves : (here : Here) (b : List ℕ) (s : State) (full : Bool) → HasValues s → Leaves Any (say_unless full here b s)
say_leaves here b s true h = h
say_leaves here b s false h = (tt, record { targets = h.targets; names = h.names; formals = h.formals; lines = h.lines })

take_leaves : (here : Here) (lines : List RawLine) (ended : Bool) (s : State) → AllByRecursion IsShort lines → HasValues s → Leaves IsShort (taken here lines ended s)
take_leaves here [] true s l h = h
take_leaves here [] false s l h = h
take_leaves here (first ∷ lines) ended s l h = (l.0, record { targets = h.targets; names = h.names; formals = h.formals; lines = l.1 })

is_law : IsLaw facts Runs
is_law = record {
  giving = λ a q. record { leaves = λ s h. (q, h) };
  stopping = λ n stop _ _. record { leaves = λ s h. h };
  going_on = λ {A} {B} {Q} {R = Q2} run go h k. record { leaves = λ s v. after_leaves Q Q2 (run s) go (h.leaves s v) k };
  seeing = λ go h. record { leaves = λ s v. (h s.targets s.names s.formals v.targets v.names v.formals).leaves s v };
  setting = λ targets names formals t n f. record { leaves = λ s v. (tt, record { targets = t; names = n; formals = f; lines = v.lines }) };
  metering = λ go h. record { leaves = λ s v. (h s.left).leaves s v };
  spending = λ here _. record { leaves = λ s v. spend_leaves s.left here s v };
  saying = λ here b _. record { leaves = λ s v. say_leaves here b s (nat_lt MOST_OUTPUT (length s.output + length b)) v };
  taking = λ here _. record { leaves = λ s v. take_leaves here s.lines s.ended s v.lines v };
  value = λ name targets t. looked _ targets t;
  valued = λ name v targets h t. inserted _ name v targets h t;
  emptied = λ name targets t. removed _ targets t;
  nameless = tt;
  name_value = λ i names n. looked _ names n;
  name_valued = λ i v names h n. inserted _ i v names h n;
  name_emptied = λ i names n. removed _ names n;
  formalless = tt;
  formal_addresses = λ formals f. f;
  formal_more = λ i a formals h f. (h, f);
  formal_marked = λ i formals f e is h. marked_keys i formals h;
}

-- ---- trees whose numbers are numbers

each_number : (ns : Numbers) → AreNumbers ns → AllByRecursion (λ n. IsRegular (number n)) ns
each_number [] h = tt
each_number (n ∷ ns) h = (number_is n h.0, each_number ns h.1)

any_line : (scope : Scope) (n : ℕ) → OwnLine facts scope n
any_line (in_command c) n = tt
any_line (in_unit u) n = tt

part_fits : (scope : Scope) (part : Part) → AreNumbers (numbers_in_part part) → FitsPart facts scope part
part_fits scope (line n) h = any_line scope n
part_fits scope (value e) h = each_number _ h
part_fits scope (address e) h = each_number _ h
part_fits scope (test t) h = each_number _ h
part_fits scope (example e) h = tt
part_fits scope (bound b) h = tt
part_fits scope quits h = tt
part_fits scope returns h = tt
part_fits scope reports h = tt
part_fits scope (calls t n) h = tt
part_fits scope (refinement name) h = tt
part_fits scope early_else h = tt

parts_fit : (scope : Scope) (parts : Parts) → AreNumbers (numbers_in_parts parts) → AllByRecursion (λ part. FitsPart facts scope part.1) parts
parts_fit scope parts h = each parts (each_of_flat IsNumber (λ (part : ℕ × Part). numbers_in_part part.1) parts h)
  where
    each : (parts : Parts) → AllByRecursion (λ (part : ℕ × Part). AreNumbers (numbers_in_part part.1)) parts → AllByRecursion (λ part. FitsPart facts scope part.1) parts
    each [] h = tt
    each (part ∷ parts) h = (part_fits scope part.1 h.0, each parts h.1)

unit_fits : (u : Routine) → IsNumbered u → FitsUnit facts u
unit_fits u h = parts_fit (in_unit u) (parts_of_unit u) h

units_fit : (units : List Routine) → AllByRecursion IsNumbered units → AllByRecursion (FitsUnit facts) units
units_fit [] h = tt
units_fit (u ∷ units) h = (unit_fits u h.0, units_fit units h.1)

place : (here : Here) → IsNumberedScope here.scope → IsPlace facts here
place here h = record { line = tt; scope = by here.scope h }
  where
    by : (scope : Scope) → IsNumberedScope scope → FitsScope facts scope
    by (in_command c) h = tt
    by (in_unit u) h = unit_fits u h

-- ---- the laws

nodes : LinesAreComputed → (units : List Routine) (levels : ℕ) → AllByRecursion IsNumbered units → IsGood facts Runs (meaning units levels)
nodes computed units levels h = all_nodes facts Runs is_law (kept computed) units (units_fit units h) levels

pub values_stay_regular : LinesAreComputed → ValuesStayRegular
values_stay_regular computed units levels numbered = record {
  value = λ here e s at h v. ((nodes computed units levels numbered).value (place here at) e (each_number _ h)).leaves s v;
  actual = λ here e s at h v. ((nodes computed units levels numbered).actual (place here at) e (each_number _ h)).leaves s v;
  holds = λ here t s at h v. ((nodes computed units levels numbered).holds (place here at) t (each_number _ h)).leaves s v;
  turn = λ here t s at h v. ((nodes computed units levels numbered).turn (place here at) t (each_number _ h)).leaves s v;
  acts = λ here a s at h v. ((nodes computed units levels numbered).acts (place here at) a (parts_fit here.scope (parts_of a) h)).leaves s v;
}

ends_regular : (before : Targets) (budget : ℕ) (Q : Flow → Type 0) (g : Got Flow) → AreRegular before → Leaves Q g → AreRegular (ran_as before budget g).targets
ends_regular before budget Q (gives flow s) h k = k.1.targets
ends_regular before budget Q (stops n stop s) h k = h

pub targets_stay_regular : LinesAreComputed → TargetsStayRegular
targets_stay_regular computed units deepest c targets lines ended budget numbered h t l =
    let start = starting targets lines ended budget in
    ends_regular targets budget _ ((meaning units (suc deepest)).acts (standing c) c.action start) t
    ((values_stay_regular computed units (suc deepest) numbered).acts (standing c) c.action start tt h (record { targets = t; names = tt; formals = tt; lines = l }))

pub input_lines_are_short : InputLinesAreShort
input_lines_are_short ends bytes = each (cut_at_lf ends bytes)
  where
    each : (cut : List (List ℕ)) → AllByRecursion IsShort (map raw_line cut)
    each [] = tt
    each (b ∷ cut) = (omega (arith, length-take MOST_LINE_BYTES (without_cr b)), each cut)
