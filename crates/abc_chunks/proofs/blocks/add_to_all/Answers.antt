use Rattle.std.proofs.Common.{rules}
use Rattle.std.proofs.lemmas.List.{take_all, drop_all}
use Rattle.std.proofs.lemmas.List.Edits.{map_over_more}
use Rattle.abc_chunks.specs.inner.Notes.{plus}
use Rattle.abc_chunks.proofs.blocks.add_to_all.Goals as goal

pub loop-i-preserved : goal.loop-i-preserved
loop-i-preserved c = search (rules, map_over_more (plus c.args.by))

pub returns : goal.returns
returns c = search (rules, take_all, drop_all)
