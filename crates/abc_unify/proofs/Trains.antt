-- What kinds say of types.
use Rattle.std.proofs.Common.{◌≡◌, ◌∙◌, ◌↔◌, sym, subst}
use Rattle.abc_num.specs.declared.types.Ground.{Ground}
use Rattle.abc_num.specs.declared.types.Ground.TheOpen.{Ground-F}
use Rattle.abc_terms.proofs.Grounds.{out_same}
use Rattle.abc_unify.specs.Outer.{IsTrain}

train_of_one : (g : Ground-F Ground) (e f : Ground) → IsTrain g e → IsTrain g f → e ≡ f
train_of_one Ground-F.Number e f s t = absurd s
train_of_one Ground-F.Text e f s t = out_same e f (s ∙ sym t)
train_of_one (Ground-F.Compound fields) e f s t = absurd s
train_of_one (Ground-F.List element) e f s t = sym s ∙ t
train_of_one (Ground-F.Table key associate) e f s t = sym s ∙ t

-- the trains of two types are the trains of one
pub trains : (g : Ground-F Ground) (e f : Ground) → (IsTrain g e × IsTrain g f) ↔ (IsTrain g e × (e ≡ f))
trains g e f = (λ t. (t.0, train_of_one g e f t.0 t.1), λ t. (t.0, subst (λ h. IsTrain g h) t.1 t.0))
