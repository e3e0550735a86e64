-- What is there, and what is not.
use Rattle.std.proofs.Common.{◌≡◌, true, false, sym, subst, refl}
use Rattle.std.specs.Prelude.{Option, None, Some, IsSome}

pub not_some : (X : Type 0) → IsSome {T = X} None → ⊥
not_some X e = let f : false ≡ true = e in cc

pub is_there : {X : Type 0} (o : Option X) (x : X) → o ≡ Some x → IsSome o
is_there o x is = subst (λ (p : Option _). IsSome p) (sym is) refl
