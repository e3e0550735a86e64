-- The count of items that bounds a session is not seen.
use Rattle.std.proofs.Common.{◌≡◌, ◌≤◌, ◌<◌, ℕ, zero, suc, ◌+◌, Bool, true, false, List, [], ◌∷◌, length, refl, ◌∙◌, ap, arith}
use Rattle.abc_turns.specs.Session.{Next, no_item, not_yet, whole_item, Came, came, wants, Session, ends, waiting, then_turn, on_came, on_next, session_within, session}
use Rattle.abc_turns.specs.Steady.{IsSteady, Unfolds, Waits}

came_same : {W L : Type 0} (f g : W → List L → Session W) (x : Came W L) → ((v : W) (left : List L) (r : List ℕ) → x ≡ came r v left false → f v left ≡ g v left) → on_came x f ≡ on_came x g
came_same f g wants same = refl
came_same f g (came r v left true) same = refl
came_same f g (came r v left false) same = ap (λ s. then_turn r v s) (same v left r refl)

next_same : {W I L : Type 0} (f g : I → List L → Session W) (x : Next I L) → ((item : I) (left : List L) → x ≡ whole_item item left → f item left ≡ g item left) → on_next x f ≡ on_next x g
next_same f g no_item same = refl
next_same f g not_yet same = refl
next_same f g (whole_item item left) same = same item left refl

module _ {W I L : Type 0} (next : Bool → List L → Next I L) (outcome : Bool → ℕ → W → I → List L → Came W L) (steady : IsSteady next outcome) (ended : Bool) where
  same_within : (n m k : ℕ) (w : W) (lines : List L) → length lines < n → length lines < m → session_within next outcome ended n k w lines ≡ session_within next outcome ended m k w lines
  same_within zero m k w lines a b = absurd (omega (arith, a))
  same_within (suc n) zero k w lines a b = absurd (omega (arith, b))
  same_within (suc n) (suc m) k w lines a b =
      next_same (λ item left. on_came (outcome ended k w item left) (λ v rest. session_within next outcome ended n (suc k) v rest))
      (λ item left. on_came (outcome ended k w item left) (λ v rest. session_within next outcome ended m (suc k) v rest)) (next ended lines)
      (λ item left is. came_same (λ v rest. session_within next outcome ended n (suc k) v rest) (λ v rest. session_within next outcome ended m (suc k) v rest) (outcome ended k w item left)
      (λ v rest r same. same_within n m (suc k) v rest
      (omega (arith, a, steady.shorter ended lines left item is, steady.no_longer ended k w v item left rest r false same))
      (omega (arith, b, steady.shorter ended lines left item is, steady.no_longer ended k w v item left rest r false same))))

  unfolds_here : (k : ℕ) (w : W) (lines : List L) → session next outcome ended k w lines
      ≡ on_next (next ended lines) (λ item left. on_came (outcome ended k w item left) (λ v rest. session next outcome ended (suc k) v rest))
  unfolding session
  unfolds_here k w lines =
      next_same (λ item left. on_came (outcome ended k w item left) (λ v rest. session_within next outcome ended (length lines) (suc k) v rest))
      (λ item left. on_came (outcome ended k w item left) (λ v rest. session_within next outcome ended (suc (length rest)) (suc k) v rest)) (next ended lines)
      (λ item left is. came_same (λ v rest. session_within next outcome ended (length lines) (suc k) v rest) (λ v rest. session_within next outcome ended (suc (length rest)) (suc k) v rest) (outcome ended k w item left)
      (λ v rest r same. same_within (length lines) (suc (length rest)) (suc k) v rest
      (omega (arith, steady.shorter ended lines left item is, steady.no_longer ended k w v item left rest r false same)) (omega arith)))

pub unfolds : {W I L : Type 0} (next : Bool → List L → Next I L) (outcome : Bool → ℕ → W → I → List L → Came W L) → IsSteady next outcome → Unfolds next outcome
unfolds next outcome steady ended k w lines = unfolds_here next outcome steady ended k w lines

-- without lines there is no item, and while the input goes on there may be one
pub waits : {W I L : Type 0} (next : Bool → List L → Next I L) (outcome : Bool → ℕ → W → I → List L → Came W L) → IsSteady next outcome → Waits next outcome
waits {W} {I} {L} next outcome steady k w = unfolds next outcome steady false k w [] ∙ by_next (next false []) refl
  where
    later : I → List L → Session W
    later item left = on_came (outcome false k w item left) (λ v rest. session next outcome false (suc k) v rest)

    by_next : (x : Next I L) → next false [] ≡ x → on_next x later ≡ ends waiting
    by_next no_item is = absurd (steady.goes_on [] is)
    by_next not_yet is = refl
    by_next (whole_item item left) is = absurd (omega (arith, steady.shorter false [] left item is))
