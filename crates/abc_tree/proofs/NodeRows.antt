-- The call nodes of a tree in the order of the text, by computing.
use Rattle.std.specs.Prelude.{◌≡◌, ℕ, List, [], ◌∷◌, Some, codes}
use Rattle.std.proofs.Common.{rules}
use Rattle.abc_tree.specs.declared.formulas.Expr.{Expr, the_lemmas}
use Rattle.abc_tree.specs.declared.formulas.Expr.TheVariants as e
use Rattle.abc_tree.specs.declared.formulas.Test.{the_lemmas as tests}
use Rattle.abc_tree.specs.declared.formulas.Test.TheVariants as t
use Rattle.abc_tree.specs.declared.templates.Template.{Template}
use Rattle.abc_tree.specs.declared.templates.TemplateKind.TheVariants as kind
use Rattle.abc_tree.specs.declared.templates.Word.TheVariants as w
use Rattle.abc_tree.specs.declared.commands.ActionNode.{the_lemmas as actions}
use Rattle.abc_tree.specs.declared.commands.ActionNode.TheVariants as n
use Rattle.abc_tree.specs.declared.commands.Command.{Command}
use Rattle.abc_tree.specs.Calls.{calls_in, command_nodes}
use Rattle.abc_tree.proofs.RegularItemRows.{on, one}

abbrev of_one : List ℕ → Template
of_one name = record { kind = kind.Function; words = w.Key name ∷ w.Place ∷ []; places = 1 }

abbrev f : Template
f = of_one (codes "f")

abbrev g : Template
g = of_one (codes "g")

abbrev even : Template
even = record { kind = kind.Predicate; words = w.Key (codes "even") ∷ w.Place ∷ []; places = 1 }

abbrev plus : Template
plus = record { kind = kind.Function; words = w.Place ∷ w.Key (codes "plus") ∷ w.Place ∷ []; places = 2 }

-- (f 1) plus (g 1)
abbrev sum : Expr
sum = e.Call plus (e.Call f (one ∷ []) ∷ e.Call g (one ∷ []) ∷ [])

sum_in_text_order : command_nodes 1 (record { names = []; action = on 1 (n.Write 0 (Some sum) 0) }) ≡ f ∷ plus ∷ g ∷ []
sum_in_text_order = search (rules, the_lemmas, tests, actions)

sum_template_first : calls_in sum ≡ plus ∷ f ∷ g ∷ []
sum_template_first = search (rules, the_lemmas, tests, actions)

-- IF even f 1: on line 1, and WRITE (f 1) plus (g 1) on line 2
abbrev guarded : Command
guarded = record { names = []; action = on 1 (n.If (t.Call even (e.Call f (one ∷ []) ∷ [])) (on 2 (n.Write 0 (Some sum) 0) ∷ [])) }

first_line : command_nodes 1 guarded ≡ even ∷ f ∷ []
first_line = search (rules, the_lemmas, tests, actions)

both_lines : command_nodes 2 guarded ≡ even ∷ f ∷ f ∷ plus ∷ g ∷ []
both_lines = search (rules, the_lemmas, tests, actions)
