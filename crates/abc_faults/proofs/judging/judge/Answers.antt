use Rattle.std.proofs.Common.{List, [], ◌∷◌, ◌++◌, refl, sym, subst, arith}
use Rattle.abc_faults.specs.declared.sayings.Saying.{Saying}
use Rattle.abc_faults.specs.Judging.{AreFit}
use Rattle.abc_faults.specs.Sayings.{AllSay}
use Rattle.abc_faults.specs.inner.Verdicts.{Takes}
use Rattle.abc_faults.proofs.Judgements.{all_said, few, fault_behind, fault_found, says_more}
use Rattle.abc_faults.proofs.judging.judge.Goals as goal

pub loop-row-init : goal.loop-row-init
loop-row-init c = (
  c.requires.fit,
  [],
  c.new-above.ensures,
  omega arith,
  refl,
  λ more a. subst (λ (old : List Saying). AllSay c.args.facts.now [] c.args.rows.now (old ++ more)) (sym c.new-lines.ensures) a,
)

pub take_line-requires : goal.take_line-requires
take_line-requires c = (subst AreFit c.in-Some.ensures.cases.0 c.loop-row.invariant.0).0

pub loop-row-preserved : goal.loop-row-preserved
loop-row-preserved c =
    let i = c.loop-row.invariant in
    let f = c.args.facts.now in
    let rows = c.args.rows.now in
    let row = c.in-Some.row.now in
    let below = c.in-Some.below.now in
    let ahead = c.loop-row.ahead.now in
    let split = c.in-Some.ensures.cases.0 in
    let sight = c.in_ok-sight.sight in
    let sees = c.in_ok-sight.ensures.sight i.1 i.2 in
    let t = subst (λ o. Takes o f sight row below c.loop-row.lines c.take_line.new.lines) c.in-None.is c.in_ok-kind.ensures in (
      (subst AreFit split i.0).1,
      row ∷ i.1,
      c.in_ok-sight.ensures.above i.1 i.2,
      few f rows i.1 row below ahead split i.4 sight sees t.1,
      fault_behind f rows i.1 row below ahead split i.4 sight sees t.0,
      says_more f rows i.1 row below ahead split i.4 sight sees t.2 t.3 c.loop-row.lines c.take_line.new.lines t.4 i.5,
    )

pub returns-in-Some-2 : goal.returns-in-Some-2
returns-in-Some-2 c =
    let i = c.loop-row.invariant in
    sym (fault_found c.args.facts.now c.args.rows.now i.1 c.in-Some.row.now c.in-Some.below.now c.loop-row.ahead.now c.in-Some.ensures.cases.0 i.4 c.in_ok-sight.sight
    (c.in_ok-sight.ensures.sight i.1 i.2) c.in-Some-2.kind (subst (λ o. Takes o c.args.facts.now c.in_ok-sight.sight c.in-Some.row.now c.in-Some.below.now c.loop-row.lines c.take_line.new.lines)
    c.in-Some-2.is c.in_ok-kind.ensures))

pub returns : goal.returns
returns c = let i = c.loop-row.invariant in all_said c.args.facts.now c.args.rows.now i.1 c.loop-row.ahead.now c.loop-row.lines c.in_default.ensures.cases i.4 i.5
