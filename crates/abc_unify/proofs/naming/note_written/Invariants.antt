use Rattle.std.proofs.Common.{ℕ, ◌<◌, get_or}
use Rattle.abc_unify.specs.declared.kind.Kind.TheVariants.{Free}
use Rattle.abc_unify.specs.declared.kind.Slot.TheVariants.{Root}
use Rattle.abc_unify.specs.declared.log.Entry.{Entry}
use Rattle.abc_unify.specs.inner.Naming.{NamesNoted, HasGrown}
use Rattle.abc_unify.proofs.naming.note_written.Given as goal

abbrev pub invariant-loop-i : goal.invariant-loop-i
invariant-loop-i l = record {
  grown : HasGrown l.initial.named l.named;
  now : (k : ℕ) (d : Entry) → k < l.i → NamesNoted l.named (get_or l.slots (get_or l.written k d).at.0 (Root Free));
  before : (k : ℕ) (d : Entry) → k < l.i → NamesNoted l.named (get_or l.written k d).was;
}
