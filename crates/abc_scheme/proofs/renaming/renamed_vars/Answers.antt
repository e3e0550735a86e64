use Rattle.abc_unify.proofs.Among.{are_in_place}
use Rattle.abc_scheme.proofs.renaming.renamed_vars.Goals as goal

pub in_place-requires : goal.in_place-requires
in_place-requires c = are_in_place _ c.args.vars.now c.loop-i.i _ c.requires c.loop-i-test.true
