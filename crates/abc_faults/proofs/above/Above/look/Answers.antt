use Rattle.std.proofs.Common.{ap, ◌∙◌, length, arith}
use Rattle.abc_faults.specs.declared.above.Above.{Above}
use Rattle.abc_faults.specs.Facts.{edges}
use Rattle.abc_faults.specs.Names.{twice}
use Rattle.abc_faults.proofs.Judgements.{edges_length, above_is, sight_is}
use Rattle.abc_faults.proofs.above.Above.look.Goals as goal

pub next-requires : goal.next-requires
next-requires c =
    let r = c.requires in (
      c.args.facts.now.setting,
      edges r.0,
      ap (λ (o : Above). o.outline) r.1,
      omega (arith, edges_length r.0, r.2),
    )

pub returns-clause-sight : goal.returns-clause-sight
returns-clause-sight c above e =
    let place = c.in_ok-place.ensures.place c.args.facts.now.setting (edges above) (ap (λ (o : Above). o.outline) e) in
    sight_is c.args.facts.now above c.args.row.now c.args.self.now e c.in_ok-place.place place c.in_ok-here.here c.in_ok-here.ensures c.is_second.result c.len.result
    (c.is_second.ensures (twice c.args.self.now.taken c.in_ok-here.here) c.in_ok-roles.ensures.twice) (c.len.ensures.count ∙ ap length c.in_ok-use_row.ensures)

pub returns-clause-above : goal.returns-clause-above
returns-clause-above c above e =
    let place = c.in_ok-place.ensures.place c.args.facts.now.setting (edges above) (ap (λ (o : Above). o.outline) e) in
    let outline = c.in_ok-place.ensures.above c.args.facts.now.setting (edges above) (ap (λ (o : Above). o.outline) e) in
    above_is c.args.facts.now above c.args.row.now c.args.self.now e c.in_ok-place.place place c.in_ok-here.here c.in_ok-here.ensures
    c.next.new.self c.take_up.new.self c.use_row.new.used c.share_on-self.result outline c.in_ok-roles.ensures.taken c.in_ok-use_row.ensures c.share_on-self.ensures
