use Rattle.abc_unify.proofs.Deciding.{same_root, one_root, decides, decides_any, part_fits, part_proper, forms_said, forms_said_in}
use Rattle.abc_unify.proofs.laws.forms_decide.Goals as goal

pub returns-clause-roots : goal.returns-clause-roots
returns-clause-roots c n demands a b r s k l is is2 = (λ same v m. one_root n demands a b r s k l is is2 same v m.1, λ agree. same_root n demands a b r s k l is is2 agree)

pub returns-clause-decide : goal.returns-clause-decide
returns-clause-decide c n demands all u made solvable forms = (
  λ part. (part_proper demands all u part, part_fits n demands all forms u part.0 part.1.1 part.2),
  λ both. decides n demands all u made solvable forms both.0 both.1,
)

pub returns-clause-any : goal.returns-clause-any
returns-clause-any c n demands all u solvable forms = (λ part. part_fits n demands all forms u part.0 part.1 part.2, λ fit. decides_any n demands all u solvable forms fit)

pub returns-clause-said : goal.returns-clause-said
returns-clause-said c v all = forms_said v all

pub returns-clause-said_in : goal.returns-clause-said_in
returns-clause-said_in c n demands all solvable forms = forms_said_in n demands all solvable forms.each
