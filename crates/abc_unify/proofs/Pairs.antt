-- Pairs of two lists, one more at a time.
use Rattle.std.proofs.Common.{◌≡◌, ℕ, zero, suc, ◌+◌, ◌<◌, List, [], ◌∷◌, ◌++◌, length, take, get_or, ap, arith, refl, add-one}
use Rattle.abc_terms.specs.declared.term.VarId.{VarId}
use Rattle.abc_unify.specs.declared.kind.Constraint.TheVariants.{Equal}
use Rattle.abc_unify.specs.inner.Kinds.{pairs}

pairs_suc : (xs ys : List VarId) (i : ℕ) (d : VarId) → i < length xs → i < length ys → pairs (take (suc i) xs) (take (suc i) ys) ≡ pairs (take i xs) (take i ys) ++ Equal (get_or xs i d) (get_or ys i d) ∷ []
pairs_suc [] ys i d h k = absurd (omega arith)
pairs_suc (x ∷ xs) [] i d h k = absurd (omega arith)
pairs_suc (x ∷ xs) (y ∷ ys) zero d h k = refl
pairs_suc (x ∷ xs) (y ∷ ys) (suc i) d h k = ap (λ l. Equal x y ∷ l) (pairs_suc xs ys i d (omega arith) (omega arith))

pub pairs_more : (xs ys : List VarId) (i : ℕ) (d : VarId) → i < length xs → i < length ys → pairs (take (i + 1) xs) (take (i + 1) ys) ≡ pairs (take i xs) (take i ys) ++ Equal (get_or xs i d) (get_or ys i d) ∷ []
pairs_more xs ys i d h k = rw add-one (pairs_suc xs ys i d h k)
