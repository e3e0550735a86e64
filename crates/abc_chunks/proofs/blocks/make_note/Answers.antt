use Rattle.std.proofs.Common.{ap, ◌∙◌}
use Rattle.abc_chunks.specs.inner.Notes.{noted}
use Rattle.abc_chunks.proofs.Notes.{note_made}
use Rattle.abc_chunks.proofs.blocks.make_note.Goals as goal

pub returns-clause-same : goal.returns-clause-same
returns-clause-same c cs = ap (λ ns. noted ns cs) c.in_ok-push.ensures.items ∙ note_made c.args.notes.now.items cs
