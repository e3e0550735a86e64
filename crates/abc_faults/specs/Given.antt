-- The heading of a function or predicate with a predefined name.
use Rattle.std.specs.Prelude.{Bool, true, false, not, ◌&&◌, [], ◌∷◌}
use Rattle.std.specs.List.{list_any}
use Rattle.abc_tree.specs.Regular.{is_command}
use Rattle.abc_tree.specs.declared.templates.Word.{Word}
use Rattle.abc_tree.specs.declared.templates.Word.TheVariants as w
use Rattle.abc_expressions.specs.Operators.{kind_of}
use Rattle.abc_expressions.specs.declared.frames.Kind.{Kind}
use Rattle.abc_expressions.specs.declared.frames.Kind.TheVariants as kind
use Rattle.abc_clauses.specs.declared.clause.Clause.{Clause}
use Rattle.abc_clauses.specs.declared.clause.Head.{Head}
use Rattle.abc_clauses.specs.declared.clause.Head.TheVariants as head

abbrev pub is_given : Kind → Bool
is_given (kind.Given one two) = true
is_given _ = false

-- a word that is a predefined name, where no name is own
abbrev pub is_given_word : Word → Bool
is_given_word (w.Key x) = is_given (kind_of [] x)
is_given_word w.Place = false

abbrev pub is_given_head : Head → Bool
is_given_head (head.Unit template formals) = not (is_command template.kind) && list_any is_given_word template.words
is_given_head _ = false

abbrev pub is_given_name : Clause → Bool
is_given_name clause = is_given_head clause.head
