use Rattle.std.proofs.Common.{◌≡◌, ◌∙◌, length, sym, arith}
use Rattle.std.proofs.lemmas.List.{length-map}
use Rattle.abc_principal.specs.Exact.{cut_in, cuts_of}
use Rattle.abc_principal.proofs.Loops.{mapped_at}
use Rattle.abc_principal.proofs.Readings.{read_none, read_next, read_whole}
use Rattle.abc_principal.proofs.reading.principals.Goals as goal

pub loop-i-init : goal.loop-i-init
loop-i-init c = read_none c.args.g.now c.args.targets.now c.new-all.result.items c.new-all.ensures.items

pub loop-i-preserved : goal.loop-i-preserved
loop-i-preserved c =
    let members = c.args.members.now in
    let many : length (cuts_of members) ≡ length members = length-map members cut_in in
    let member = c.index-members-i.result in
    read_next c.args.g.now c.args.targets.now (cuts_of members) c.args.owns.now c.loop-i.i (cut_in member) c.index-owns-i.result c.loop-i.all.items c.push.new.self.items c.in_ok-one.one (omega (arith, many, c.loop-i-test.true)) (c.requires.same ∙ sym many)
    (mapped_at cut_in members c.loop-i.i member c.index-members-i.is) c.index-owns-i.is c.loop-i.invariant c.in_ok-one.ensures c.in_ok-push.ensures.items

pub returns : goal.returns
returns c =
    let members = c.args.members.now in
    let many : length (cuts_of members) ≡ length members = length-map members cut_in in
    read_whole c.args.g.now c.args.targets.now (cuts_of members) c.args.owns.now c.loop-i.i c.loop-i.all.items (omega (arith, many, c.loop-i-test.false)) (c.requires.same ∙ sym many) c.loop-i.invariant
