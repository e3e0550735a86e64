-- Lines that put, one after the other.
use Rattle.std.proofs.Common.{◌≡◌, ℕ, suc, ◌+◌, List, ◌++◌, sym, ap, ◌∙◌, arith, append_assoc}
use Rattle.abc_make.specs.Input.{put_line, put_lines}

-- one line more
pub one_more : (front bytes new : List ℕ) (n : ℕ) → bytes ≡ front ++ put_lines n → new ≡ bytes ++ put_line (n + 1) → new ≡ front ++ put_lines (n + 1)
one_more front bytes new n so_far more =
    let e : suc n ≡ n + 1 = omega arith in
    more ∙ ap (λ b. b ++ put_line (n + 1)) so_far ∙ append_assoc front (put_lines n) (put_line (n + 1)) ∙ ap (λ m. front ++ (put_lines n ++ put_line m)) (sym e) ∙ ap (λ m. front ++ put_lines m) e
