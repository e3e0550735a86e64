-- A fold over simple commands, a layer at a time.
use Rattle.std.proofs.Common.{◌≡◌, ℕ, List, Option, rules}
use Rattle.abc_tree.specs.declared.commands.ActionNode.{ActionNode, fold-ActionNode, the_lemmas}
use Rattle.abc_tree.specs.declared.commands.ActionNode.TheOpen.{Action-F, ActionNode-F, Alternative-F}
use Rattle.abc_tree.specs.declared.commands.ActionNode.TheVariants as action
use Rattle.abc_tree.specs.declared.formulas.Expr.{Expr}
use Rattle.abc_tree.specs.declared.formulas.Test.{Test}
use Rattle.abc_tree.specs.declared.templates.Template.{Template}

module _ {A B C : Type 0} (f : ActionNode-F A B C → A) (g : Action-F A B C → B) (h : Alternative-F A B C → C) where
  abbrev folded : ActionNode → A
  folded = fold-ActionNode A B C f g h

  pub on_write : (before after : ℕ) (part : Option Expr) → folded (action.Write before part after) ≡ f (ActionNode-F.Write before part after)
  on_write before after part = search (rules, the_lemmas)

  pub on_put : (e a : Expr) → folded (action.Put e a) ≡ f (ActionNode-F.Put e a)
  on_put e a = search (rules, the_lemmas)

  pub on_insert : (e a : Expr) → folded (action.Insert e a) ≡ f (ActionNode-F.Insert e a)
  on_insert e a = search (rules, the_lemmas)

  pub on_remove : (e a : Expr) → folded (action.Remove e a) ≡ f (ActionNode-F.Remove e a)
  on_remove e a = search (rules, the_lemmas)

  pub on_delete : (a : Expr) → folded (action.Delete a) ≡ f (ActionNode-F.Delete a)
  on_delete a = search (rules, the_lemmas)

  pub on_example : (a e : Expr) → folded (action.ReadExample a e) ≡ f (ActionNode-F.ReadExample a e)
  on_example a e = search (rules, the_lemmas)

  pub on_raw : (a : Expr) → folded (action.ReadRaw a) ≡ f (ActionNode-F.ReadRaw a)
  on_raw a = search (rules, the_lemmas)

  pub on_check : (t : Test) → folded (action.Check t) ≡ f (ActionNode-F.Check t)
  on_check t = search (rules, the_lemmas)

  pub on_pass : folded action.Pass ≡ f ActionNode-F.Pass
  on_pass = search (rules, the_lemmas)

  pub on_quit : folded action.Quit ≡ f ActionNode-F.Quit
  on_quit = search (rules, the_lemmas)

  pub on_return : (e : Expr) → folded (action.Return e) ≡ f (ActionNode-F.Return e)
  on_return e = search (rules, the_lemmas)

  pub on_report : (t : Test) → folded (action.Report t) ≡ f (ActionNode-F.Report t)
  on_report t = search (rules, the_lemmas)

  pub on_succeed : folded action.Succeed ≡ f ActionNode-F.Succeed
  on_succeed = search (rules, the_lemmas)

  pub on_fail : folded action.Fail ≡ f ActionNode-F.Fail
  on_fail = search (rules, the_lemmas)

  pub on_call : (template : Template) (actuals : List Expr) → folded (action.Call template actuals) ≡ f (ActionNode-F.Call template actuals)
  on_call template actuals = search (rules, the_lemmas)

  pub on_refinement : (name : List ℕ) → folded (action.Refinement name) ≡ f (ActionNode-F.Refinement name)
  on_refinement name = search (rules, the_lemmas)
