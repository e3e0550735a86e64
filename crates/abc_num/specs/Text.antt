-- Texts as contracts see them: lists of codes.
use Rattle.std.specs.Prelude.{ℕ, List, Bool, ◌==◌}
use Rattle.std.specs.declared.cmp.Ordering.{Ordering}
use Rattle.std.specs.Ordering.{nat_cmp}
use Rattle.std.specs.Cmp.Lexicographic.{slice_cmp, pointwise}

-- by the first codes that differ; a proper front is less
abbrev pub text_cmp : List ℕ → List ℕ → Ordering
text_cmp = slice_cmp nat_cmp

-- of one length, with equal codes at each place
abbrev pub text_eq : List ℕ → List ℕ → Bool
text_eq = pointwise ◌==◌
