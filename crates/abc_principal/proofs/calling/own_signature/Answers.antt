use Rattle.std.proofs.Common.{◌≡◌, ◌∙◌, length, sym, arith}
use Rattle.std.proofs.lemmas.List.{length-map}
use Rattle.abc_principal.specs.Exact.{cut_in, cuts_of}
use Rattle.abc_principal.proofs.Loops.{mapped_at, search_next, search_found}
use Rattle.abc_principal.proofs.calling.own_signature.Goals as goal

pub loop-i-preserved : goal.loop-i-preserved
loop-i-preserved c =
    let members = c.args.members.now in
    let many : length (cuts_of members) ≡ length members = length-map members cut_in in
    let member = c.index-members-i.result in
    c.loop-i.invariant ∙ search_next c.args.t.now (cuts_of members) c.args.owns.now c.loop-i.i (cut_in member) (omega (arith, many, c.loop-i-test.true)) (c.requires ∙ sym many) (mapped_at cut_in members c.loop-i.i member c.index-members-i.is)
    (sym c.is.ensures ∙ c.if-is.false)

pub returns-then-is : goal.returns-then-is
returns-then-is c =
    let members = c.args.members.now in
    let many : length (cuts_of members) ≡ length members = length-map members cut_in in
    let member = c.index-members-i.result in
    search_found c.args.t.now (cuts_of members) c.args.owns.now c.loop-i.i (cut_in member) c.index-owns-i.result (omega (arith, many, c.loop-i-test.true)) (c.requires ∙ sym many) (mapped_at cut_in members c.loop-i.i member c.index-members-i.is)
    c.index-owns-i.is (sym c.is.ensures ∙ c.if-is.true) ∙ sym c.loop-i.invariant
