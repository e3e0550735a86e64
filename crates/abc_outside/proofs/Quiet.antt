-- When a stop leaves the image as it reads.
use Rattle.std.proofs.Common.{◌≡◌, List, ℕ, sym, subst}
use Rattle.abc_outside.specs.Stop.{Extends, IsQuiet}

module _ {H : Type 0} (clock : H → ℕ) (stopped : H → ℕ → List ℕ → List ℕ → Type 0) where
  -- after a call that adds no image to those that a stop may leave
  pub quiet_after : (old new : H) (image image_new : List ℕ) → image_new ≡ image → IsQuiet clock stopped old image → ((c s : List ℕ) → stopped new (clock new) c s → stopped old (clock old) c s)
      → IsQuiet clock stopped new image_new
  quiet_after old new image image_new same quiet stops c s stop = subst (λ i. Extends i c) (sym same) (quiet c s (stops c s stop))
