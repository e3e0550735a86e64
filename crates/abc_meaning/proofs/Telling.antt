-- The line on which a run stops.
use Rattle.std.proofs.Common.{◌≡◌, ◌+◌, ◌||◌, ℕ, zero, suc, Bool, true, false, List, [], ◌∷◌, ◌++◌, refl, sym, ap, subst}
use Rattle.std.specs.Prelude.{length, nat_lt, ◌==◌}
use Rattle.std.specs.List.{AllByRecursion}
use Rattle.std.proofs.lemmas.Bool.{eq-eqb, eqb-true}
use Rattle.abc_num.specs.declared.limits.TheConstants.{MOST_OUTPUT}
use Rattle.abc_num.specs.declared.lines.RawLine.{RawLine}
use Rattle.abc_tree.specs.RegularItems.{Part, Parts, line, value, address, example, test, bound, quits, returns, reports, calls, refinement, early_else, parts_of, line_of, lines_of, is_among}
use Rattle.abc_tree.specs.declared.commands.Action.{Action, out-Action}
use Rattle.abc_tree.specs.declared.commands.Command.{Command}
use Rattle.abc_tree.specs.declared.commands.Unit.{Unit as Routine}
use Rattle.abc_frames.specs.Maps.{Targets, value_of, value_at}
use Rattle.abc_meaning.specs.State.{State, Stop, Got, gives, stops, Run, after, Flow, goes_on, quits, returns, reports}
use Rattle.abc_meaning.specs.Here.{Here, Scope, in_command, in_unit, spend_of}
use Rattle.abc_meaning.specs.Reading.{taken}
use Rattle.abc_meaning.specs.Acts.{say_unless}
use Rattle.abc_meaning.specs.Meaning.{meaning}
use Rattle.abc_meaning.specs.Ran.{Outcome, stopped, ran_as, standing, starting}
use Rattle.abc_meaning.specs.Laws.{lines_in, told_by, StopsAt, StopsAmong, StopsTellTheirLine, CommandTellsItsLine}
use Rattle.abc_meaning.proofs.Opened.{in_action}
use Rattle.abc_meaning.proofs.Asked.{Any, IsLaw, IsGood, IsPlace, OwnLine, FitsPart}
use Rattle.abc_meaning.proofs.Nodes.{all_nodes}
use Rattle.abc_meaning.proofs.Everywhere.{facts, any_kept, some_any, all_addresses, units_fit, scope_fits, expr_fits, test_fits}

-- ---- numbers among others

in_front : (ms ns : List ℕ) (n : ℕ) → is_among ms n ≡ true → is_among (ms ++ ns) n ≡ true
in_front [] ns n is = cc
in_front (m ∷ ms) ns n is = by (n == m) is (in_front ms ns n)
  where
    by : (b : Bool) → (b || is_among ms n) ≡ true → (is_among ms n ≡ true → is_among (ms ++ ns) n ≡ true) → (b || is_among (ms ++ ns) n) ≡ true
    by true is rest = refl
    by false is rest = rest is

in_back : (ms ns : List ℕ) (n : ℕ) → is_among ns n ≡ true → is_among (ms ++ ns) n ≡ true
in_back [] ns n is = is
in_back (m ∷ ms) ns n is = by (n == m) (in_back ms ns n is)
  where
    by : (b : Bool) → is_among (ms ++ ns) n ≡ true → (b || is_among (ms ++ ns) n) ≡ true
    by true is = refl
    by false is = is

-- ---- runs that stop on the lines that are allowed

module _ (Allowed : ℕ → Type 0) where
  -- where it stops, the line is allowed; and what it gives
  abbrev Tells : {A : Type 0} → (A → Type 0) → Got A → Type 0
  Tells Q (gives a s) = Q a
  Tells Q (stops n stop s) = Allowed n

  record Told (A : Type 0) (Q : A → Type 0) (run : Run A) : Type 0 where
    tells : (s : State) → Tells Q (run s)

  after_tells : {A B : Type 0} (Q : A → Type 0) (Q2 : B → Type 0) (g : Got A) (go : A → Run B) → Tells Q g → ((a : A) → Q a → Told B Q2 (go a)) → Tells Q2 (after g go)
  after_tells Q Q2 (gives a t) go h k = (k a h).tells t
  after_tells Q Q2 (stops n stop t) go h k = h

  spend_tells : (n : ℕ) (here : Here) (s : State) → Allowed here.line → Tells Any (spend_of n here s)
  spend_tells zero here s is = is
  spend_tells (suc n) here s is = tt

  say_tells : (here : Here) (b : List ℕ) (s : State) (full : Bool) → Allowed here.line → Tells Any (say_unless full here b s)
  say_tells here b s true is = is
  say_tells here b s false is = tt

  take_tells : (here : Here) (lines : List RawLine) (ended : Bool) (s : State) → Allowed here.line → Tells Any (taken here lines ended s)
  take_tells here [] true s is = is
  take_tells here [] false s is = is
  take_tells here (l ∷ lines) ended s is = tt

  is_law : IsLaw (facts Allowed Any Any Any) Told
  is_law = record {
    giving = λ a q. record { tells = λ s. q };
    stopping = λ n stop _ is. record { tells = λ s. is };
    going_on = λ {A} {B} {Q} {R = Q2} run go h k. record { tells = λ s. after_tells Q Q2 (run s) go (h.tells s) k };
    seeing = λ go h. record { tells = λ s. (h s.targets s.names s.formals tt tt tt).tells s };
    setting = λ targets names formals _ _ _. record { tells = λ s. tt };
    metering = λ go h. record { tells = λ s. (h s.left).tells s };
    spending = λ here is. record { tells = λ s. spend_tells s.left here s is };
    saying = λ here b is. record { tells = λ s. say_tells here b s (nat_lt MOST_OUTPUT (length s.output + length b)) is };
    taking = λ here is. record { tells = λ s. take_tells here s.lines s.ended s is };
    value = λ name targets _. some_any (value_of name targets);
    valued = λ name v targets _ _. tt;
    emptied = λ name targets _. tt;
    nameless = tt;
    name_value = λ i names _. some_any (value_at i names);
    name_valued = λ i v names _ _. tt;
    name_emptied = λ i names _. tt;
    formalless = tt;
    formal_addresses = λ formals _. all_addresses Allowed Any Any Any formals;
    formal_more = λ i a formals _ _. tt;
    formal_marked = λ i formals f e is _. tt;
  }

  nodes : (units : List Routine) (levels : ℕ) → IsGood (facts Allowed Any Any Any) Told (meaning units levels)
  nodes units levels = all_nodes (facts Allowed Any Any Any) Told is_law (any_kept Allowed Any Any Any) units (units_fit Allowed Any Any Any units) levels

  place : (here : Here) → Allowed here.line → IsPlace (facts Allowed Any Any Any) here
  place here is = record { line = is; scope = scope_fits Allowed Any Any Any here.scope }

  -- each line of a command, where all of its lines are allowed
  lines_fit : (scope : Scope) (parts : Parts) → ((n : ℕ) → is_among (lines_of parts) n ≡ true → OwnLine (facts Allowed Any Any Any) scope n) → AllByRecursion (λ part. FitsPart (facts Allowed Any Any Any) scope part.1) parts
  lines_fit scope [] h = tt
  lines_fit scope (part ∷ parts) h = (first part.1 (λ n is. h n (in_front (line_of part.1) (lines_of parts) n is)), lines_fit scope parts (λ n is. h n (in_back (line_of part.1) (lines_of parts) n is)))
    where
      first : (p : Part) → ((n : ℕ) → is_among (line_of p) n ≡ true → OwnLine (facts Allowed Any Any Any) scope n) → FitsPart (facts Allowed Any Any Any) scope p
      first (line n) h = h n (ap (λ b. b || false) (eq-eqb n n refl))
      first (value e) h = expr_fits Allowed Any Any Any e
      first (address e) h = expr_fits Allowed Any Any Any e
      first (test t) h = test_fits Allowed Any Any Any t
      first (example e) h = tt
      first (bound b) h = tt
      first Part.quits h = tt
      first Part.returns h = tt
      first Part.reports h = tt
      first (calls t n) h = tt
      first (refinement name) h = tt
      first early_else h = tt

-- ---- the laws

at_place : {A : Type 0} (Q : A → Type 0) (n : ℕ) (g : Got A) → Tells (λ m. m ≡ n) Q g → StopsAt n g
at_place Q n (gives a s) h = tt
at_place Q n (stops m stop s) h = h

among : {A : Type 0} (Q : A → Type 0) (lines : List ℕ) (g : Got A) → Tells (λ m. is_among lines m ≡ true) Q g → StopsAmong lines g
among Q lines (gives a s) h = tt
among Q lines (stops m stop s) h = h

-- the first of these, and the others
first_among : (n : ℕ) (ns : List ℕ) → is_among (n ∷ ns) n ≡ true
first_among n ns = ap (λ b. b || is_among ns n) (eq-eqb n n refl)

later_among : (n m : ℕ) (ns : List ℕ) → is_among ns m ≡ true → is_among (n ∷ ns) m ≡ true
later_among n m ns is = by (m == n)
  where
    by : (b : Bool) → (b || is_among ns m) ≡ true
    by true = refl
    by false = is

action_tells : (units : List Routine) (levels : ℕ) (here : Here) (a : Action) (s : State) → StopsAmong (told_by here.scope here.line a) ((meaning units levels).acts here a s)
action_tells units levels here a s =
    among _ _ _ (((nodes Allowed units levels).acts (place Allowed here (at_first here.scope)) a (lines_fit Allowed here.scope (parts_of a) (own here.scope refl))).tells s)
  where
    Allowed : ℕ → Type 0
    Allowed m = is_among (told_by here.scope here.line a) m ≡ true

    at_first : (scope : Scope) → is_among (told_by scope here.line a) here.line ≡ true
    at_first (in_command c) = first_among here.line (lines_in a)
    at_first (in_unit u) = first_among here.line []

    own : (scope : Scope) → scope ≡ here.scope → (n : ℕ) → is_among (lines_in a) n ≡ true → OwnLine (facts Allowed Any Any Any) scope n
    own (in_command c) e n is = subst (λ scope. is_among (told_by scope here.line a) n ≡ true) e (later_among here.line n (lines_in a) is)
    own (in_unit u) e n is = tt

pub stops_tell_their_line : StopsTellTheirLine
stops_tell_their_line units levels = record {
  value = λ here e s. at_place _ here.line _ (((nodes (λ m. m ≡ here.line) units levels).value (place (λ m. m ≡ here.line) here refl) e (expr_fits (λ m. m ≡ here.line) Any Any Any e)).tells s);
  actual = λ here e s. at_place _ here.line _ (((nodes (λ m. m ≡ here.line) units levels).actual (place (λ m. m ≡ here.line) here refl) e (expr_fits (λ m. m ≡ here.line) Any Any Any e)).tells s);
  holds = λ here t s. at_place _ here.line _ (((nodes (λ m. m ≡ here.line) units levels).holds (place (λ m. m ≡ here.line) here refl) t (test_fits (λ m. m ≡ here.line) Any Any Any t)).tells s);
  turn = λ here t s. at_place _ here.line _ (((nodes (λ m. m ≡ here.line) units levels).turn (place (λ m. m ≡ here.line) here refl) t (test_fits (λ m. m ≡ here.line) Any Any Any t)).tells s);
  acts = λ here a s. action_tells units levels here a s;
}

-- a command's own line is the first of its lines
own_line : (a : Action) → is_among (lines_in a) (out-Action a).line ≡ true
own_line a = (in_action (FitsPart (facts (λ m. is_among (lines_in a) m ≡ true) Any Any Any) (in_command no_command)) a (lines_fit (λ m. is_among (lines_in a) m ≡ true) (in_command no_command) (parts_of a) (λ n is. is))).0
  where
    no_command : Command
    no_command = record { names = []; action = a }

ends_told : (a : Action) (before : Targets) (budget : ℕ) (g : Got Flow) → StopsAmong ((out-Action a).line ∷ lines_in a) g → (n : ℕ) (stop : Stop) → (ran_as before budget g).outcome ≡ stopped n stop → is_among (lines_in a) n ≡ true
ends_told a before budget (gives goes_on s) h n stop e = cc
ends_told a before budget (gives quits s) h n stop e = cc
ends_told a before budget (gives (returns v) s) h n stop e = cc
ends_told a before budget (gives (reports b) s) h n stop e = cc
ends_told a before budget (stops m why s) h n stop e = subst (λ k. is_among (lines_in a) k ≡ true) (ap line_told e) (by (m == (out-Action a).line) refl h)
  where
    line_told : Outcome → ℕ
    line_told (stopped k stop) = k
    line_told _ = m

    by : (b : Bool) → (m == (out-Action a).line) ≡ b → (b || is_among (lines_in a) m) ≡ true → is_among (lines_in a) m ≡ true
    by true e h = subst (λ k. is_among (lines_in a) k ≡ true) (sym (eqb-true m (out-Action a).line e)) (own_line a)
    by false e h = h

pub command_tells_its_line : CommandTellsItsLine
command_tells_its_line units deepest c targets lines ended budget n stop e =
    ends_told c.action targets budget ((meaning units (suc deepest)).acts (standing c) c.action (starting targets lines ended budget))
    (action_tells units (suc deepest) (standing c) c.action (starting targets lines ended budget)) n stop e
