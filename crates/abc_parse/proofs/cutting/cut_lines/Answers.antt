use Rattle.abc_parse.specs.Items.{refinement_kind}
use Rattle.abc_parse.proofs.computing.Backward.{cuts_behind, left_none, no_misfit}
use Rattle.abc_parse.proofs.cutting.cut_lines.Goals as goal

pub made_of-requires : goal.made_of-requires
made_of-requires c e =
    no_misfit (refinement_kind c.args.facts.now) c.args.lines.now.items c.loop-line.lines.items c.pop_behind_first.new.lines.items c.loop-line.invariant.told.0 c.in-Some.line c.loop-line.cut
    c.loop-line.invariant.told.1 c.in-Some.ensures.0 c.loop-line.invariant.told.2 c.requires c.in-Some.ensures.1 (left_none c.add_line.result _ _ e c.add_line.ensures)

pub returns : goal.returns
returns c =
    cuts_behind (refinement_kind c.args.facts.now) c.args.lines.now.items c.loop-line.lines.items c.pop_behind_first.new.lines.items c.loop-line.invariant.told.0 c.loop-line.cut
    c.in_default.ensures c.loop-line.invariant.some c.loop-line.invariant.told.1 c.loop-line.invariant.told.2
