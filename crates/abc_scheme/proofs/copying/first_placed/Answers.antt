use Rattle.std.proofs.Common.{List, length, sym, subst}
use Rattle.abc_terms.specs.declared.term.VarId.{VarId}
use Rattle.abc_terms.specs.Nodes.{AreIn}
use Rattle.abc_scheme.proofs.Copies.{in_take}
use Rattle.abc_scheme.proofs.copying.first_placed.Goals as goal

pub renamed_vars-requires : goal.renamed_vars-requires
renamed_vars-requires c =
    in_take (length c.args.table.now) c.args.count c.as_slice-own.result.now (subst (λ (xs : List VarId). AreIn (length c.args.table.now) xs) (sym c.as_slice-own.ensures)
    (subst (λ n. AreIn n c.args.scheme.now.own) (sym c.requires.table) c.requires.inside.own))
