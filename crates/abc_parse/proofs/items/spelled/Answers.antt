use Rattle.abc_faults.specs.Facts.{facts_of}
use Rattle.abc_parse.proofs.computing.Said.{found_judged, spelled_judged}
use Rattle.abc_parse.proofs.items.spelled.Goals as goal

pub build-requires : goal.build-requires
build-requires c = found_judged c.in_ok-sayings.field-0 c.in_ok-facts.facts c.args.lines.now c.args.rows.now c.in-Says.sayings c.in_ok-sayings.ensures c.in-Says.is c.requires.some

pub returns-in_ok-build-in-Says : goal.returns-in_ok-build-in-Says
returns-in_ok-build-in-Says c =
    spelled_judged c.in_ok-sayings.field-0 c.in_ok-facts.facts c.args.lines.now c.args.rows.now c.in-Says.sayings c.in_ok-sayings.ensures c.in-Says.is
    (facts_of c.args.targets.now c.args.rows.now) c.in_ok-build-in-Says.field-0 c.in_ok-facts.ensures c.in_ok-build-in-Says.ensures
