use Rattle.std.proofs.Common.{◌≡◌, Bool, true, false, refl, sym, ◌∙◌}
use Rattle.abc_faults.specs.declared.taken_names.Roles.TheVariants.{Single, Second}
use Rattle.abc_faults.specs.Names.{roles_of}
use Rattle.abc_faults.proofs.taken_names.Roles.is_second.Goals as goal

single : (b : Bool) → Single ≡ roles_of b → false ≡ b
single true e = absurd (cc)
single false e = refl

second : (b : Bool) → Second ≡ roles_of b → true ≡ b
second true e = refl
second false e = absurd (cc)

pub returns-in-Single : goal.returns-in-Single
returns-in-Single c = λ b e. single b (sym c.in-Single.is ∙ e)

pub returns-in-Second : goal.returns-in-Second
returns-in-Second c = λ b e. second b (sym c.in-Second.is ∙ e)
