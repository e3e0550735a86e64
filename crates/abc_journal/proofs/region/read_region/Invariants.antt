use Rattle.std.proofs.Common.{◌≡◌, ◌<◌, ◌-◌, List, ℕ}
use Rattle.abc_outside.specs.Outside.{KeepsButStore}
use Rattle.abc_outside.specs.Stop.{Leaves}
use Rattle.abc_journal.specs.Image.{record_open}
use Rattle.abc_journal.proofs.Follow.{Follows}
use Rattle.abc_journal.proofs.region.read_region.Given as goal

abbrev pub invariant-records : goal.invariant-records
invariant-records g l = record {
  within : l.at < l.size;
  gate : g.H.Host.tells_image → l.is_open ≡ record_open (g.H.Host.now l.fn.host).image l.at;
  followed : g.H.Host.tells_image → Follows (g.H.Host.now l.fn.host).image l.start l.payloads.items l.at;
  image : (g.H.Host.now l.host).image ≡ (g.H.Host.now l.fn.host).image;
  keeps : KeepsButStore (g.H.Host.now l.fn.host) (g.H.Host.now l.host);
  stops : Leaves g.H.Host.clock g.H.Host.stopped l.fn.host l.host (g.H.Host.stopped l.fn.host (g.H.Host.clock l.fn.host));
  now : (c s : List ℕ) → g.H.Host.stopped l.host (g.H.Host.clock l.host) c s → g.H.Host.stopped l.fn.host (g.H.Host.clock l.fn.host) c s;
  faultless : (g.H.Host.now l.host).store_faults ≡ (g.H.Host.now l.fn.host).store_faults;
}

abbrev pub decreases-records : goal.decreases-records
decreases-records g l = l.size - l.at
