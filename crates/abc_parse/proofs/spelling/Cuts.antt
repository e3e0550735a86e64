-- The lines below a line, cut again at a lesser indentation.
use Rattle.std.proofs.Common.{◌≡◌, ◌≤◌, ◌<◌, ℕ, Bool, true, false, cond, List, [], ◌∷◌, refl, ap, sym, ◌∙◌, arith}
use Rattle.std.specs.Prelude.{nat_lt}
use Rattle.std.proofs.lemmas.Bool.{lt-ltb, ltb-true}
use Rattle.abc_faults.specs.declared.sayings.Saying.{Saying}
use Rattle.abc_parse.specs.declared.parts.Root.{Root}
use Rattle.abc_parse.specs.Roots.{taken, parts_of}
use Rattle.abc_parse.specs.Trees.{deeper, behind}

module _ (n m : ℕ) (le : n ≤ m) where
  never : {Q : Type 0} (x : ℕ) → nat_lt m x ≡ true → nat_lt n x ≡ false → Q
  never x em en =
      let h : m < x = ltb-true m x em in
      let yes : nat_lt n x ≡ true = lt-ltb n x (omega arith) in absurd cc

  dd_step : (line : Saying) (lines : List Saying) (bm bn : Bool) → nat_lt m line.indent ≡ bm → nat_lt n line.indent ≡ bn → deeper m (deeper n lines) ≡ deeper m lines
      → deeper m (cond bn (line ∷ deeper n lines) []) ≡ cond bm (line ∷ deeper m lines) []
  dd_step line lines true true em en ih = ap (λ b. cond b (line ∷ deeper m (deeper n lines)) []) em ∙ ap (λ l. line ∷ l) ih
  dd_step line lines false true em en ih = ap (λ b. cond b (line ∷ deeper m (deeper n lines)) []) em
  dd_step line lines true false em en ih = never line.indent em en
  dd_step line lines false false em en ih = refl

  pub deeper_deeper : (lines : List Saying) → deeper m (deeper n lines) ≡ deeper m lines
  deeper_deeper [] = refl
  deeper_deeper (line ∷ lines) = dd_step line lines (nat_lt m line.indent) (nat_lt n line.indent) refl refl (deeper_deeper lines)

  bd_step : (line : Saying) (lines : List Saying) (bm bn : Bool) → nat_lt m line.indent ≡ bm → nat_lt n line.indent ≡ bn → behind m (deeper n lines) ≡ deeper n (behind m lines)
      → behind m (cond bn (line ∷ deeper n lines) []) ≡ deeper n (cond bm (behind m lines) (line ∷ lines))
  bd_step line lines true true em en ih = ap (λ b. cond b (behind m (deeper n lines)) (line ∷ deeper n lines)) em ∙ ih
  bd_step line lines false true em en ih = ap (λ b. cond b (behind m (deeper n lines)) (line ∷ deeper n lines)) em ∙ sym (ap (λ b. cond b (line ∷ deeper n lines) []) en)
  bd_step line lines true false em en ih = never line.indent em en
  bd_step line lines false false em en ih = sym (ap (λ b. cond b (line ∷ deeper n lines) []) en)

  pub behind_deeper : (lines : List Saying) → behind m (deeper n lines) ≡ deeper n (behind m lines)
  behind_deeper [] = refl
  behind_deeper (line ∷ lines) = bd_step line lines (nat_lt m line.indent) (nat_lt n line.indent) refl refl (behind_deeper lines)

  bb_step : (line : Saying) (lines : List Saying) (bm bn : Bool) → nat_lt m line.indent ≡ bm → nat_lt n line.indent ≡ bn → behind n (behind m lines) ≡ behind n lines
      → behind n (cond bm (behind m lines) (line ∷ lines)) ≡ cond bn (behind n lines) (line ∷ lines)
  bb_step line lines true true em en ih = ih
  bb_step line lines false true em en ih = ap (λ b. cond b (behind n lines) (line ∷ lines)) en
  bb_step line lines true false em en ih = never line.indent em en
  bb_step line lines false false em en ih = ap (λ b. cond b (behind n lines) (line ∷ lines)) en

  pub behind_behind : (lines : List Saying) → behind n (behind m lines) ≡ behind n lines
  behind_behind [] = refl
  behind_behind (line ∷ lines) = bb_step line lines (nat_lt m line.indent) (nat_lt n line.indent) refl refl (behind_behind lines)

-- the roots at the front that are deeper
abbrev pub front : ℕ → List Root → List Root
front n [] = []
front n (root ∷ roots) = cond (nat_lt n root.indent) (root ∷ front n roots) []

taken_step : (n : ℕ) (r : Root) (roots : List Root) (b : Bool) → taken n roots ≡ parts_of (front n roots) → cond b (r.part ∷ taken n roots) [] ≡ parts_of (cond b (r ∷ front n roots) [])
taken_step n r roots true ih = ap (λ l. r.part ∷ l) ih
taken_step n r roots false ih = refl

pub taken_front : (n : ℕ) (roots : List Root) → taken n roots ≡ parts_of (front n roots)
taken_front n [] = refl
taken_front n (r ∷ roots) = taken_step n r roots (nat_lt n r.indent) (taken_front n roots)
