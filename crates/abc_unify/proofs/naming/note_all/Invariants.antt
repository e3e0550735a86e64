use Rattle.std.proofs.Common.{ℕ, ◌<◌, get_or}
use Rattle.abc_terms.specs.declared.term.VarId.{VarId}
use Rattle.abc_unify.specs.inner.Naming.{IsNamed, HasGrown}
use Rattle.abc_unify.proofs.naming.note_all.Given as goal

abbrev pub invariant-loop-i : goal.invariant-loop-i
invariant-loop-i l = record {
  grown : HasGrown l.initial.named l.named;
  noted : (k : ℕ) (d : VarId) → k < l.i → IsNamed l.named (get_or l.xs k d).0;
}
