use Rattle.abc_store.proofs.Images.{append_left, append_opens, append_stops}
use Rattle.abc_store.proofs.steps.add_record.Goals as goal

pub returns-clause-opens : goal.returns-clause-opens
returns-clause-opens g c told kept later leads typed is =
    append_opens c.append.result (g.H.Host.now c.args.host.now).image (g.H.Host.now c.append.new.host).image c.args.payload.now kept later is leads typed _ (c.append.ensures.kept told)

pub returns-clause-payloads : goal.returns-clause-payloads
returns-clause-payloads g c told ps are = append_left c.append.result _ c.args.payload.now ps _ (c.append.ensures.kept told ps are)

pub returns-clause-stops : goal.returns-clause-stops
returns-clause-stops g c told quiet kept later leads typed is =
    append_stops g.H.Host.clock g.H.Host.stopped c.args.host.now c.append.new.host (g.H.Host.now c.args.host.now).image (g.H.Host.now c.args.host.now).said kept is c.args.payload.now later leads typed (c.append.ensures.stops told quiet)
