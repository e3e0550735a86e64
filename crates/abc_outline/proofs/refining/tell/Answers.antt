use Rattle.std.proofs.Common.{◌≡◌, ◌+◌, ◌-◌, length, arith}
use Rattle.std.specs.Vec.{vec_len}
use Rattle.abc_outline.proofs.Told.{told_set}
use Rattle.abc_outline.proofs.refining.tell.Goals as goal

pub returns-in-Some : goal.returns-in-Some
returns-in-Some c =
    let n : (vec_len c.args.found.now - 1) + 1 ≡ length c.args.found.now.items = omega (arith, c.in-Some.ensures.item.3.0) in
    told_set c.args.told c.args.found.now.items c.in-Some.last.now c.told_kind-last.result (vec_len c.args.found.now - 1) n c.in-Some.ensures.value c.told_kind-last.ensures
