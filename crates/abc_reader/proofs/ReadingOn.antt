-- A reader that reads on, and on.
use Rattle.std.proofs.Common.{◌≡◌, ◌⊎◌, inl, inr, ℕ, suc, List, refl, sym, ◌∙◌, ap, subst, arith}
use Rattle.std.specs.Prelude.{Err, IsErrOf}
use Rattle.abc_outside.specs.Outside.{Outside}
use Rattle.abc_outside.specs.declared.lines.LineStop.{LineStop}
use Rattle.abc_outside.proofs.Leaves.{none_yet, run_after}
use Rattle.abc_reader.specs.Asking.{AskedRising, next_ask}
use Rattle.abc_reader.specs.Reading.{Reading, StandsAt, ReadsOn}
use Rattle.abc_reader.proofs.Asks.{none_rising, rising_then}

module _ {H : Type 0} (tells_input tells_said : Type 0) (tell : H → Outside) (clock : H → ℕ) (stopped : H → ℕ → List ℕ → List ℕ → Type 0) where
  pub reads_none : (a : Reading) (host : H) → ReadsOn tells_input tells_said tell clock stopped a a host host
  reads_none a host = record {
    bound = refl;
    rises = omega arith;
    total = λ told. refl;
    stays_ended = λ is. is;
    asks_rise = λ told. none_rising (next_ask a.taken a.ended) (tell host).asked;
    ended_asks = λ is. refl;
    rest = record { chosen = refl; image = refl; said = refl; store_faults = refl; sink_faults = refl; input_faults = omega arith };
    stops = none_yet clock stopped host _;
    now = λ image said stop. stop;
  }

  pub reads_then : (a b c : Reading) (old mid new : H) → ReadsOn tells_input tells_said tell clock stopped a b old mid → ReadsOn tells_input tells_said tell clock stopped b c mid new
      → ReadsOn tells_input tells_said tell clock stopped a c old new
  reads_then a b c old mid new p q = record {
    bound = q.bound ∙ p.bound;
    rises = omega (arith, p.rises, q.rises);
    total = λ told. q.total told ∙ p.total told;
    stays_ended = λ is. q.stays_ended (p.stays_ended is);
    asks_rise = λ told. rising_then (next_ask a.taken a.ended) (next_ask b.taken b.ended) (next_ask c.taken c.ended) (tell old).asked (tell mid).asked (tell new).asked (p.asks_rise told) (q.asks_rise told);
    ended_asks = λ is. q.ended_asks (p.stays_ended is) ∙ p.ended_asks is;
    rest = record {
      chosen = q.rest.chosen ∙ p.rest.chosen;
      image = q.rest.image ∙ p.rest.image;
      said = q.rest.said ∙ p.rest.said;
      store_faults = q.rest.store_faults ∙ p.rest.store_faults;
      sink_faults = q.rest.sink_faults ∙ p.rest.sink_faults;
      input_faults = omega (arith, p.rest.input_faults, q.rest.input_faults);
    };
    stops = run_after clock stopped old mid new _ _ p.stops q.stops (λ image said stop. p.now image said stop);
    now = λ image said stop. p.now image said (q.now image said stop);
  }

  -- a line is given back
  pub reads_back : (a b c : Reading) (old new : H) → c.taken ≡ b.taken → c.bound ≡ b.bound → c.ended ≡ b.ended
      → ReadsOn tells_input tells_said tell clock stopped a b old new → ReadsOn tells_input tells_said tell clock stopped a c old new
  reads_back a b c old new taken bound ended p = record {
    bound = bound ∙ p.bound;
    rises = omega (arith, p.rises, taken);
    total = λ told. omega (arith, p.total told, taken);
    stays_ended = λ is. ended ∙ p.stays_ended is;
    asks_rise = λ told. subst (λ t. AskedRising (next_ask a.taken a.ended) (next_ask t c.ended) (tell old).asked (tell new).asked) (sym taken)
        (subst (λ e. AskedRising (next_ask a.taken a.ended) (next_ask b.taken e) (tell old).asked (tell new).asked) (sym ended) (p.asks_rise told));
    ended_asks = p.ended_asks;
    rest = p.rest;
    stops = p.stops;
    now = p.now;
  }

-- a stop is the same, whatever else might have been answered
pub same_stop : {T U : Type 0} (stop a b : LineStop) → IsErrOf {T = T} (Err stop) a ⊎ IsErrOf {T = T} (Err stop) b → IsErrOf {T = U} (Err stop) a ⊎ IsErrOf {T = U} (Err stop) b
same_stop stop a b (inl is) = let same : stop ≡ a = cc is in inl (ap (λ s. Err s) same)
same_stop stop a b (inr is) = let same : stop ≡ b = cc is in inr (ap (λ s. Err s) same)

-- a reader that gave a line back stands as before
pub stands_back : (tells_input : Type 0) (b c : Reading) (now : Outside) → c.taken ≡ b.taken → c.bound ≡ b.bound → c.ended ≡ b.ended → suc c.used ≡ b.used → StandsAt tells_input b now → StandsAt tells_input c now
stands_back tells_input b c now taken bound ended used p = record {
  counts = p.counts ∙ sym taken;
  within = omega (arith, p.within, taken, bound);
  small = omega (arith, p.small, bound);
  no_more = omega (arith, p.no_more, taken, used);
  at_end = λ told is. p.at_end told (sym ended ∙ is);
}
