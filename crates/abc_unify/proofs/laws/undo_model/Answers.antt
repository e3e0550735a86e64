use Rattle.std.proofs.Common.{sym, refl}
use Rattle.abc_unify.specs.Graphs.{with_variable, with_demand, with_demands, with_node}
use Rattle.abc_unify.proofs.Backward.{back_now, back_more, back_twice}
use Rattle.abc_unify.proofs.laws.undo_model.Goals as goal

pub returns-clause-mark : goal.returns-clause-mark
returns-clause-mark c s = sym (back_now s _ refl)

pub returns-clause-variable : goal.returns-clause-variable
returns-clause-variable c s m h = back_more s (with_variable s) m refl h

pub returns-clause-demand : goal.returns-clause-demand
returns-clause-demand c s d m h = back_more s (with_demand s d) m refl h

pub returns-clause-node : goal.returns-clause-node
returns-clause-node c s a t m h = back_more s (with_node s a t) m refl h

pub returns-clause-undo : goal.returns-clause-undo
returns-clause-undo c s k m h i = back_twice s k m h i

pub returns-clause-demands : goal.returns-clause-demands
returns-clause-demands c s more m h = back_more s (with_demands s more) m refl h
