-- How READ goes on with its line, and how a suite falls to its first command.
use Rattle.std.proofs.Common.{◌≡◌, ◌<◌, ◌+◌, ℕ, List, [], ◌∷◌, Result, Ok, Err, IfOk, sym, ap, subst, ◌∙◌, arith}
use Rattle.abc_num.specs.declared.lines.RawLine.{RawLine}
use Rattle.abc_tree.specs.declared.formulas.Expr.{Expr}
use Rattle.abc_tree.specs.declared.commands.Action.{Action}
use Rattle.abc_tree.specs.declared.commands.Alternative.{Alternative}
use Rattle.abc_tree.specs.declared.commands.ActionNode.{ActionNode, out-ActionNode, out-roll-ActionNode}
use Rattle.abc_tree.specs.declared.commands.ActionNode.TheVariants as node
use Rattle.abc_tree.specs.declared.commands.ActionNode.TheOpen.{ActionNode-F}
use Rattle.abc_tree.specs.declared.commands.Unit.{Unit as Routine}
use Rattle.abc_value.specs.Tree.{Tree}
use Rattle.abc_meaning.specs.State.{State, Got, gives, Run, Flow, after, goes_on}
use Rattle.abc_meaning.specs.Here.{Here, Scope}
use Rattle.abc_meaning.specs.Acts.{acts_with}
use Rattle.abc_meaning.specs.Deeper.{Deeper}
use Rattle.abc_meaning.specs.Addresses.{address}
use Rattle.abc_meaning.specs.Changing.{put}
use Rattle.abc_state.specs.Agrees.{Halts}
use Rattle.abc_state.specs.declared.halt.Halt.{Halt}
use Rattle.abc_state.specs.declared.halt.Halt.TheVariants.{Fault, Wrong}
use Rattle.abc_pending.specs.declared.place.Changes.TheVariants.{Put}
use Rattle.abc_pending.specs.declared.pending.Next.{Next}
use Rattle.abc_pending.specs.declared.stopped.Stopped.{Stopped}
use Rattle.abc_pending.specs.Steps.{Starts}
use Rattle.abc_pending.specs.Leads.{as_flow, change_by, done}
use Rattle.abc_pending.specs.Views.{next_weight}
use Rattle.abc_pending.specs.Weights.{Falls, action_size, first_size}
use Rattle.abc_pending.proofs.Falling.{spent_least}
use Rattle.abc_command_steps.proofs.Acting.{goes_on_behind}

module _ (deep : Deeper) (here : Here) (a : Expr) where
  -- the value of the line is put where the address says
  abbrev pub keeps : Tree → Run Flow
  keeps v s = after (address deep here a s) (λ spot s. after (put here spot v s) (λ _. gives goes_on))

  pub read_on : (parse : RawLine → Run Tree) (g : Got RawLine) (l : RawLine) (s : State) (v : Tree) → g ≡ gives l s → parse l s ≡ gives v s
      → as_flow (after g (λ l s. after (parse l s) keeps)) ≡ done (after (address deep here a s) (change_by here Put v))
  read_on parse g l s v e k =
      ap (λ g. as_flow (after g (λ l s. after (parse l s) keeps))) e
      ∙ ap (λ g. as_flow (after g keeps)) k
      ∙ goes_on_behind (address deep here a s) (change_by here Put v)

  -- or the line spells none
  pub read_not : (parse : RawLine → Run Tree) (g : Got RawLine) (l : RawLine) (s : State) (line : ℕ) (h : Halt) → g ≡ gives l s → Halts line h s (parse l s)
      → Halts line h s (as_flow (after g (λ l s. after (parse l s) keeps)))
  read_not parse g l s line (Fault f) e k =
      λ n. ap (λ g. as_flow (after g (λ l s. after (parse l s) keeps))) e ∙ ap (λ g. as_flow (after g keeps)) (k n)
  read_not parse g l s line Wrong e k =
      ap (λ g. as_flow (after g (λ l s. after (parse l s) keeps))) e ∙ ap (λ g. as_flow (after g keeps)) k

-- an empty suite still weighs something
pub first_of_none : (body : List Action) → body ≡ [] → 0 < first_size body
first_of_none [] e = omega arith
first_of_none (a ∷ others) e = cc

-- a command was a step, and it is the first of its suite
pub first_falls : {E : Type 0} (us : List Routine) (l k : ℕ) (body : List Action) (a : Action) (r : Result Next E) → first_size body ≡ action_size a
    → IfOk r (λ next. (l + 1 ≡ k) × (next_weight next < action_size a)) → IfOk r (λ next. Falls us l (next_weight next) k (first_size body))
first_falls us l k body a (Ok next) e h =
    let w : next_weight next < first_size body = rw e h.1 in
    spent_least us l (next_weight next) (first_size body) k h.0 w
first_falls us l k body a (Err x) e h = tt

-- the layers of the two forms of READ
pub read_example_out : (a e : Expr) → out-ActionNode (node.ReadExample a e) ≡ ActionNode-F.ReadExample a e
read_example_out a e = ap out-ActionNode (sym (node.rolls-ReadExample a e)) ∙ out-roll-ActionNode (ActionNode-F.ReadExample a e)

pub read_raw_out : (a : Expr) → out-ActionNode (node.ReadRaw a) ≡ ActionNode-F.ReadRaw a
read_raw_out a = ap out-ActionNode (sym (node.rolls-ReadRaw a)) ∙ out-roll-ActionNode (ActionNode-F.ReadRaw a)

-- a command begins as its node does
pub node_starts : (units : List Routine) (scope : Scope) (r : Result Next Stopped) (old new : State) (deep : Deeper) (here : Here) (n m : ActionNode-F ActionNode Action Alternative) → n ≡ m
    → Starts units scope r old new (as_flow (acts_with units deep here m old)) → Starts units scope r old new (as_flow (acts_with units deep here n old))
node_starts units scope r old new deep here n m e k = subst (λ n. Starts units scope r old new (as_flow (acts_with units deep here n old))) (sym e) k
