use Rattle.std.proofs.Common.{◌∙◌, ◌++◌, ◌∷◌, [], List, ℕ, ap, arith}
use Rattle.abc_principal.proofs.Readings.{named_there, names_next, names_whole}
use Rattle.abc_principal.proofs.reading.names_of.Goals as goal

pub unreachable-requires : goal.unreachable-requires
unreachable-requires c = named_there c.args.targets.now c.loop-i.i (omega (arith, c.loop-i-test.true, c.len-i-end.ensures)) c.in_default.ensures

pub loop-i-preserved : goal.loop-i-preserved
loop-i-preserved c =
    let names = c.loop-i.names.items in
    names_next c.args.targets.now c.loop-i.i c.in-Some.name.now names c.push.new.self.items (omega (arith, c.loop-i-test.true, c.len-i-end.ensures)) c.in-Some.ensures c.loop-i.invariant
    (c.in_ok-push.ensures.items ∙ ap (λ (n : List ℕ). names ++ n ∷ []) (c.in_ok-copy.ensures ∙ c.bytes.ensures))

pub returns : goal.returns
returns c = names_whole c.args.targets.now c.loop-i.i c.loop-i.names.items (omega (arith, c.loop-i-test.false, c.len-i-end.ensures)) c.loop-i.invariant
