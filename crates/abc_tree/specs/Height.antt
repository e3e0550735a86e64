-- The height of an expression or a test: 0 where no expression or test is a part of it, and else one more than the greatest
-- height of these parts.
use Rattle.std.specs.Prelude.{ℕ, suc, max, List, [], ◌∷◌, map}
use Rattle.abc_tree.specs.Lists.{flat}
use Rattle.abc_tree.specs.declared.formulas.Expr.{Expr, fold-Expr}
use Rattle.abc_tree.specs.declared.formulas.Expr.TheOpen.{Expr-F, Fill-F, Piece-F, Pair-F}
use Rattle.abc_tree.specs.declared.formulas.Test.{Test, fold-Test}
use Rattle.abc_tree.specs.declared.formulas.Test.TheOpen.{Test-F}

-- the greatest of these
abbrev pub highest : List ℕ → ℕ
highest [] = 0
highest (h ∷ hs) = max h (highest hs)

-- the height above parts with these heights
abbrev pub above : List ℕ → ℕ
above [] = 0
above (h ∷ hs) = suc (max h (highest hs))

-- of a piece, a filler and a pair: the heights of the expressions in it
abbrev pub piece_heights : Piece-F ℕ (List ℕ) (List ℕ) (List ℕ) → List ℕ
piece_heights (Piece-F.Chars bytes) = []
piece_heights (Piece-F.Conversion e) = e ∷ []

abbrev pub fill_heights : Fill-F ℕ (List ℕ) (List ℕ) (List ℕ) → List ℕ
fill_heights (Fill-F.One e) = e ∷ []
fill_heights (Fill-F.Range from to) = from ∷ to ∷ []

abbrev pub pair_heights : Pair-F ℕ (List ℕ) (List ℕ) (List ℕ) → List ℕ
pair_heights pair = pair.key ∷ pair.associate ∷ []

abbrev pub height_over : Expr-F ℕ (List ℕ) (List ℕ) (List ℕ) → ℕ
height_over (Expr-F.Number n) = 0
height_over (Expr-F.Text pieces) = above (flat pieces)
height_over (Expr-F.Name i) = 0
height_over (Expr-F.Compound parts) = above parts
height_over Expr-F.Empty = 0
height_over (Expr-F.List fills) = above (flat fills)
height_over (Expr-F.Table pairs) = above (flat pairs)
height_over (Expr-F.Select t k) = above (t ∷ k ∷ [])
height_over (Expr-F.Apply1 op x) = above (x ∷ [])
height_over (Expr-F.Apply2 op x y) = above (x ∷ y ∷ [])
height_over (Expr-F.Call template actuals) = above actuals

-- the height of an expression
abbrev pub height : Expr → ℕ
height = fold-Expr ℕ (List ℕ) (List ℕ) (List ℕ) height_over fill_heights piece_heights pair_heights

abbrev pub test_height_over : Test-F ℕ → ℕ
test_height_over (Test-F.Chain first links) = above (height first ∷ map (λ link. height link.right) links)
test_height_over (Test-F.Member op e t) = above (height e ∷ height t ∷ [])
test_height_over (Test-F.And a b) = above (a ∷ b ∷ [])
test_height_over (Test-F.Or a b) = above (a ∷ b ∷ [])
test_height_over (Test-F.Not a) = above (a ∷ [])
test_height_over (Test-F.Quantified q names train test) = above (height train ∷ test ∷ [])
test_height_over (Test-F.Call template actuals) = above (map height actuals)
test_height_over (Test-F.Refinement i) = 0

-- the height of a test
abbrev pub test_height : Test → ℕ
test_height = fold-Test ℕ test_height_over
