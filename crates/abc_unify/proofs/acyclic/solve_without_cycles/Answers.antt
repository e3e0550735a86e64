use Rattle.std.proofs.Common.{◌≡◌, ◌∙◌, ◌-◌, ◌++◌, length, take, drop, subst, rules}
use Rattle.abc_unify.proofs.Steps.{keeps_then}
use Rattle.abc_unify.specs.inner.Logs.{IsLogged}
use Rattle.abc_unify.specs.inner.Naming.{HasGrown}
use Rattle.abc_unify.specs.inner.Cycles.{IsSearched}
use Rattle.abc_unify.proofs.Logging.{logged_then, since}
use Rattle.abc_unify.proofs.Named.{grown_then}
use Rattle.abc_unify.proofs.Noting.{noted_since, written_since}
use Rattle.abc_unify.proofs.Ranking.{ranked_after}
use Rattle.abc_unify.proofs.acyclic.solve_without_cycles.Goals as goal

pub returns-in_err-make_text-clause-logged : goal.returns-in_err-make_text-clause-logged
returns-in_err-make_text-clause-logged c = logged_then _ _ _ _ _ _ c.loop-top.invariant.logged c.make_text.ensures.logged

pub returns-in-Clash-2-clause-logged : goal.returns-in-Clash-2-clause-logged
returns-in-Clash-2-clause-logged c = logged_then _ _ _ _ _ _ c.loop-top.invariant.logged c.make_text.ensures.logged

pub returns-in_err-solve-2-clause-logged : goal.returns-in_err-solve-2-clause-logged
returns-in_err-solve-2-clause-logged c = logged_then _ _ _ _ _ _ c.loop-top.invariant.logged (logged_then _ _ _ _ _ _ c.make_text.ensures.logged c.solve-in-Some.ensures.logged)

pub returns-in-Clash-3-clause-logged : goal.returns-in-Clash-3-clause-logged
returns-in-Clash-3-clause-logged c = logged_then _ _ _ _ _ _ c.loop-top.invariant.logged (logged_then _ _ _ _ _ _ c.make_text.ensures.logged c.solve-in-Some.ensures.logged)

pub loop-top-init : goal.loop-top-init
loop-top-init c =
    let one = rw c.in-Solved.is at c.in_ok-solve.ensures.solutions in
    let count : c.len-before.result ≡ length c.args.log.now.items = search rules in
    record {
      slots = c.in_ok-solve.ensures.slots;
      work = search rules;
      solutions = one;
      logged = c.solve.ensures.logged;
      noted = noted_since c.args.slots.now c.solve.new.slots c.args.log.now.items c.solve.new.log.items c.deref.result.now c.len-before.result c.args.named.now c.note_written.new.named c.solve.ensures.logged count c.deref.ensures.value c.requires.noted c.note_written.ensures.grown c.note_written.ensures.now c.note_written.ensures.before;
      grown = c.note_written.ensures.grown;
    }

pub note_written-requires-in-Some-clause-written : goal.note_written-requires-in-Some-clause-written
note_written-requires-in-Some-clause-written c =
    let logged : IsLogged c.args.slots.now c.args.log.now.items c.solve-in-Some.new.slots c.solve-in-Some.new.log.items = logged_then _ _ _ _ _ _ c.loop-top.invariant.logged (logged_then _ _ _ _ _ _ c.make_text.ensures.logged c.solve-in-Some.ensures.logged) in
    let count : c.len-before.result ≡ length c.args.log.now.items = search rules in
    written_since c.args.slots.now c.solve-in-Some.new.slots c.args.log.now.items c.solve-in-Some.new.log.items c.deref-in-Some.result.now c.len-before.result logged count c.deref-in-Some.ensures.value

pub loop-top-preserved : goal.loop-top-preserved
loop-top-preserved c =
    let one = rw c.in-Solved-2.is at c.in_ok-make_text.ensures.solutions in
    let two = rw c.in-Solved-3.is at c.in_ok-solve-2.ensures.solutions in
    let logged : IsLogged c.args.slots.now c.args.log.now.items c.solve-in-Some.new.slots c.solve-in-Some.new.log.items = logged_then _ _ _ _ _ _ c.loop-top.invariant.logged (logged_then _ _ _ _ _ _ c.make_text.ensures.logged c.solve-in-Some.ensures.logged) in
    let count : c.len-before.result ≡ length c.args.log.now.items = search rules in
    let grown : HasGrown c.args.named.now c.note_written-in-Some.new.named = grown_then c.args.named.now c.loop-top.named c.note_written-in-Some.new.named c.loop-top.invariant.grown c.note_written-in-Some.ensures.grown in
    record {
      slots = c.in_ok-solve-2.ensures.slots;
      work = search rules;
      solutions = keeps_then _ _ _ _ _ _ c.loop-top.invariant.solutions (keeps_then _ _ _ _ _ _ one two);
      logged = logged;
      noted = noted_since c.args.slots.now c.solve-in-Some.new.slots c.args.log.now.items c.solve-in-Some.new.log.items c.deref-in-Some.result.now c.len-before.result c.args.named.now c.note_written-in-Some.new.named logged count c.deref-in-Some.ensures.value c.requires.noted grown c.note_written-in-Some.ensures.now c.note_written-in-Some.ensures.before;
      grown = grown;
    }

pub returns-clause-ranked : goal.returns-clause-ranked
returns-clause-ranked c u =
    let logged : IsLogged c.args.slots.now c.args.log.now.items c.loop-top.slots c.loop-top.log.items = c.loop-top.invariant.logged in
    let count : c.len-before.result ≡ length c.args.log.now.items = search rules in
    let log : c.deref-in-loop-top.result.now ≡ c.args.log.now.items ++ logged.newer = c.deref-in-loop-top.ensures.value ∙ logged.log_is in
    let found : IsSearched c.loop-top.slots c.loop-top.named (take (length c.deref-in-loop-top.result.now - c.len-before.result) (drop c.len-before.result c.deref-in-loop-top.result.now)) = rw c.in_default.is at c.in_ok-top.ensures.none in
    let newer : IsSearched c.loop-top.slots c.loop-top.named logged.newer = subst (λ l. IsSearched c.loop-top.slots c.loop-top.named l) (since c.args.log.now.items logged.newer c.deref-in-loop-top.result.now c.len-before.result count log) found in
    ranked_after c.args.slots.now c.loop-top.slots logged.newer c.loop-top.named logged.back c.requires.slots c.loop-top.invariant.slots c.loop-top.invariant.noted.now newer c.requires.ranked.0 c.requires.ranked.1
