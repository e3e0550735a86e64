-- What a command does.
use Rattle.std.specs.Prelude.{ℕ, zero, suc, ◌+◌, Bool, true, false, List, [], ◌∷◌, ◌++◌, length, replicate, nat_lt, Option, Some, None, if◌then◌else◌}
use Rattle.abc_num.specs.declared.limits.TheConstants.{MOST_OUTPUT}
use Rattle.abc_tree.specs.Units.{unit_of}
use Rattle.abc_tree.specs.declared.formulas.Expr.{Expr}
use Rattle.abc_tree.specs.declared.formulas.Bound.{Bound}
use Rattle.abc_tree.specs.declared.formulas.Test.{Test}
use Rattle.abc_tree.specs.declared.commands.Action.{Action}
use Rattle.abc_tree.specs.declared.commands.Alternative.{Alternative, out-Alternative}
use Rattle.abc_tree.specs.declared.commands.ActionNode.{ActionNode}
use Rattle.abc_tree.specs.declared.commands.ActionNode.TheOpen.{ActionNode-F}
use Rattle.abc_tree.specs.declared.commands.Unit.{Unit as Routine}
use Rattle.abc_value.specs.declared.faults.RunFault.TheVariants.{TooLong, CheckFailed, NoAlternative, BudgetSpent}
use Rattle.abc_value.specs.Tree.{Tree}
use Rattle.abc_value.specs.Printed.{outer}
use Rattle.abc_meaning.specs.State.{Run, gives, ◌>>=◌, ◌>>◌, Flow, goes_on, quits, returns, reports}
use Rattle.abc_meaning.specs.Here.{Here, at_line, spend, fault, mistake, refinement_named}
use Rattle.abc_meaning.specs.Fits.{has_type, train_elements, example_form}
use Rattle.abc_meaning.specs.Bindings.{bind}
use Rattle.abc_meaning.specs.Deeper.{Deeper}
use Rattle.abc_meaning.specs.Changing.{inserts, removes, parts, put, delete, change_list}
use Rattle.abc_meaning.specs.Addresses.{address}
use Rattle.abc_meaning.specs.Reading.{take_line, raw_value, literal_value}
use Rattle.abc_meaning.specs.Calls.{suite, then_on}
use Rattle.abc_meaning.specs.PutBack.{command_call, command_refinement}

abbrev pub newlines : ℕ → List ℕ
newlines n = replicate n 10

-- the output gets this behind it, unless it would be too long
abbrev pub say_unless : Bool → Here → List ℕ → Run (Unit {0})
say_unless true here b s = fault here TooLong s
say_unless false here b s = gives tt (record s { output = s.output ++ b })

abbrev pub say : Here → List ℕ → Run (Unit {0})
say here b s = say_unless (nat_lt MOST_OUTPUT (length s.output + length b)) here b s

-- nothing, where a test succeeded
abbrev pub checked : Here → Bool → Run (Unit {0})
checked here true = gives tt
checked here false = fault here CheckFailed

module _ (deep : Deeper) (here : Here) where
  -- the outer text of what is written
  abbrev pub written : Option Expr → Run (List ℕ)
  written None = gives []
  written (Some e) = do
    v ← deep.value here e
    if has_type v then gives (outer v) else mistake here

  -- an alternative succeeds where its test does, and ELSE does
  abbrev pub succeeds : Here → Option Test → Run Bool
  succeeds there None = gives true
  succeeds there (Some t) = deep.holds there t

  -- the suite of the first alternative that succeeds
  abbrev pub select : List Alternative → Run Flow
  select [] = fault here NoAlternative
  select (a ∷ rest) = do
    b ← succeeds (at_line (out-Alternative a).line here) (out-Alternative a).test
    if b then suite deep here (out-Alternative a).suite else select rest

  -- at most so many turns of WHILE; each is a step, so these are as many as the steps left and one
  unfoldable pub turns : ℕ → Test → List Action → Run Flow
  turns zero test body = fault here BudgetSpent
  turns (suc n) test body = do
    b ← deep.turn here test
    if b then (do
      flow ← suite deep here body
      then_on flow (turns n test body)) else gives goes_on

  -- a turn of FOR for each element
  abbrev pub each : Bound → List Action → List Tree → Run Flow
  each names body [] = gives goes_on
  each names body (e ∷ es) = do
    spend here
    bind here names e
    flow ← suite deep here body
    then_on flow (each names body es)

  abbrev pub each_of : Bound → List Action → Option (List Tree) → Run Flow
  each_of names body None = mistake here
  each_of names body (Some es) = each names body es

module _ (units : List Routine) (deep : Deeper) (here : Here) where
  abbrev pub acts_with : ActionNode-F ActionNode Action Alternative → Run Flow
  acts_with (ActionNode-F.Write before part behind) = do
    b ← written deep here part
    say here (newlines before ++ b ++ newlines behind)
    gives goes_on
  acts_with (ActionNode-F.Put e a) = do
    v ← deep.value here e
    where_to ← address deep here a
    put here where_to v
    gives goes_on
  acts_with (ActionNode-F.Insert e a) = do
    v ← deep.value here e
    where_to ← address deep here a
    change_list here (inserts v) where_to
    gives goes_on
  acts_with (ActionNode-F.Remove e a) = do
    v ← deep.value here e
    where_to ← address deep here a
    change_list here (removes v) where_to
    gives goes_on
  acts_with (ActionNode-F.Delete a) = do
    where_to ← address deep here a
    delete here (parts where_to)
    gives goes_on
  acts_with (ActionNode-F.ReadExample a e) = do
    line ← take_line here
    v ← literal_value here (example_form e) line
    where_to ← address deep here a
    put here where_to v
    gives goes_on
  acts_with (ActionNode-F.ReadRaw a) = do
    line ← take_line here
    v ← raw_value here line
    where_to ← address deep here a
    put here where_to v
    gives goes_on
  acts_with (ActionNode-F.Check t) = do
    b ← deep.holds here t
    checked here b
    gives goes_on
  acts_with ActionNode-F.Pass = gives goes_on
  acts_with (ActionNode-F.If t body) = do
    b ← deep.holds here t
    if b then suite deep here body else gives goes_on
  acts_with (ActionNode-F.Select alternatives) = select deep here alternatives
  acts_with (ActionNode-F.While t body) = λ s. turns deep here (suc s.left) t body s
  acts_with (ActionNode-F.For names train body) = do
    v ← deep.value here train
    each_of deep here names body (train_elements v)
  acts_with ActionNode-F.Quit = gives quits
  acts_with (ActionNode-F.Return e) = do
    v ← deep.value here e
    gives (returns v)
  acts_with (ActionNode-F.Report t) = do
    b ← deep.holds here t
    gives (reports b)
  acts_with ActionNode-F.Succeed = gives (reports true)
  acts_with ActionNode-F.Fail = gives (reports false)
  acts_with (ActionNode-F.Call template actuals) = command_call deep here (unit_of template units) actuals
  acts_with (ActionNode-F.Refinement name) = command_refinement deep here (refinement_named here.scope name)
