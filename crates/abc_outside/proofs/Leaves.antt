-- How a run of calls goes on.
use Rattle.std.proofs.Common.{inl, inr, ⊎_elim, ℕ, List, arith}
use Rattle.abc_outside.specs.Stop.{Passes, Leaves}

module _ {H : Type 0} (clock : H → ℕ) (stopped : H → ℕ → List ℕ → List ℕ → Type 0) where
  -- before the first call
  pub none_yet : (old : H) (P : List ℕ → List ℕ → Type 0) → Leaves clock stopped old old P
  none_yet old P = record { later = omega arith; each = λ t c s le stop. inl stop }

  -- one call more, after which a stop leaves what has P
  pub call_after : (old mid new : H) (P : List ℕ → List ℕ → Type 0) → Leaves clock stopped old mid P → Passes (clock mid) (clock new) (stopped mid) (stopped new)
      → ((c s : List ℕ) → stopped new (clock new) c s → P c s) → Leaves clock stopped old new P
  call_after old mid new P so_far time here = record {
    later = omega (arith, so_far.later, time.later);
    each = λ t c s le stop. ⊎_elim (so_far.each t c s le) (λ now. inr (here c s now)) (time.nothing_else t c s (omega (arith, le, so_far.later)) stop);
  }

  pub one_call : (old new : H) (P : List ℕ → List ℕ → Type 0) → Passes (clock old) (clock new) (stopped old) (stopped new)
      → ((c s : List ℕ) → stopped new (clock new) c s → P c s) → Leaves clock stopped old new P
  one_call old new P time here = call_after old old new P (none_yet old P) time here

  -- a run and then a run
  pub run_after : (old mid new : H) (P Q : List ℕ → List ℕ → Type 0) → Leaves clock stopped old mid P → Leaves clock stopped mid new Q
      → ((c s : List ℕ) → Q c s → P c s) → Leaves clock stopped old new P
  run_after old mid new P Q so_far more here = record {
    later = omega (arith, so_far.later, more.later);
    each = λ t c s le stop. ⊎_elim (so_far.each t c s le) (λ q. inr (here c s q)) (more.each t c s (omega (arith, le, so_far.later)) stop);
  }

  pub weaken : (old new : H) (P Q : List ℕ → List ℕ → Type 0) → Leaves clock stopped old new Q → ((c s : List ℕ) → Q c s → P c s) → Leaves clock stopped old new P
  weaken old new P Q more here = run_after old old new P Q (none_yet old P) more here

  -- what every stop of the run leaves, where a stop at its start leaves what has P
  pub at_each : (old new : H) (P : List ℕ → List ℕ → Type 0) → Leaves clock stopped old new P → ((c s : List ℕ) → stopped old (clock old) c s → P c s)
      → (c s : List ℕ) → stopped new (clock old) c s → P c s
  at_each old new P run start c s stop = ⊎_elim (start c s) (λ p. p) (run.each (clock old) c s (omega arith) stop)
