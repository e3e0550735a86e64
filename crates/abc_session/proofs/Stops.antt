-- Why a session stopped, from why its caller stops.
use Rattle.std.proofs.Common.{◌≡◌, ◌⊎◌, ◌∙◌, ap, inl, inr}
use Rattle.std.specs.Prelude.{Result, Err, IsErrOf}
use Rattle.abc_session.specs.declared.serve.ServeStop.{ServeStop}

-- a session stops in one of two ways
pub either_stop : {A : Type 0} (r : Result A ServeStop) (e f g : ServeStop) (P Q : Type 0) → r ≡ Err e → (P → e ≡ f) → (Q → e ≡ g) → P ⊎ Q → IsErrOf r f ⊎ IsErrOf r g
either_stop r e f g P Q is p q (inl h) = inl (is ∙ ap (λ x. Err x) (p h))
either_stop r e f g P Q is p q (inr h) = inr (is ∙ ap (λ x. Err x) (q h))
