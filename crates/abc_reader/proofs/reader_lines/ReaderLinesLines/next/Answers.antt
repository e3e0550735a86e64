use Rattle.std.proofs.Common.{length, false, refl, arith}
use Rattle.std.proofs.lemmas.Bool.{false_from_ne_true}
use Rattle.abc_reader.specs.Lending.{one_call}
use Rattle.abc_reader.proofs.Inputs.{waits_at}
use Rattle.abc_reader.proofs.Lending.{asked_once}
use Rattle.abc_reader.proofs.reader_lines.ReaderLinesLines.next.Goals as goal

pub returns-clause-failed : goal.returns-clause-failed
returns-clause-failed g c stop = (
  refl,
  refl,
  c.next.ensures.failed_open stop,
  λ told. waits_at g.H.Host.tells_input c.args.self.now.reader.now (g.H.Host.now c.args.self.now.host.now).left c.next.new.self.taken told c.next.ensures.is_reader.0
      (false_from_ne_true c.args.self.now.reader.now.ended (λ is. c.next.ensures.ended_ends is stop)) (omega (arith, c.next.ensures.is_reader.1.within, c.next.ensures.reads_on.bound)) (c.next.ensures.wants told stop),
)

pub returns-clause-reads_on : goal.returns-clause-reads_on
returns-clause-reads_on g c =
    let old = c.args.self.now.reader.now in
    let host = g.H.Host.now c.args.self.now.host.now in
    let host_new = g.H.Host.now c.next.new.host in
    one_call _ _ (
      refl,
      refl,
      record {
        on = c.next.ensures.reads_on;
        no_fewer = c.next.ensures.no_fewer;
        used = c.next.ensures.used_up;
        asked = λ told_said told. asked_once g.H.Host.tells_input old host.left (length host.said) host.asked host_new.asked c.next.new.self.taken c.next.new.self.ended told c.next.ensures.is_reader.0
            (omega (arith, c.next.ensures.is_reader.1.within, c.next.ensures.reads_on.bound)) (c.next.ensures.asked told_said told) (c.next.ensures.reads_on.asks_rise told_said) c.next.ensures.reads_on.ended_asks;
      },
    )
