-- What some lines settle is a front of every session whose lines go on.
use Rattle.std.proofs.Common.{◌≡◌, ◌≤◌, ◌<◌, ℕ, zero, suc, ◌+◌, Bool, true, false, List, [], ◌∷◌, ◌++◌, length, refl, sym, ap, subst, arith, length-append}
use Rattle.abc_turns.specs.Session.{Next, no_item, not_yet, whole_item, Came, came, wants, Ending, over, quit, waiting, Session, ends, then_turn, on_came, on_next, session_within, session}
use Rattle.abc_turns.specs.Steady.{IsSteady, IfQuit, IsFrontOf, Fronts}

none_served : {W : Type 0} (t : Session W) (e : Ending) → IfQuit e (t ≡ ends e) → IsFrontOf (ends e) t
none_served t e quits = record { later = t.turns; is = refl; quits = quits }

turn_more : {W : Type 0} (e : Ending) (s t : Session W) (r : List ℕ) (v : W) → IfQuit e (t ≡ s) → IfQuit e (then_turn r v t ≡ then_turn r v s)
turn_more over s t r v q = tt
turn_more quit s t r v q = ap (λ x. then_turn r v x) q
turn_more waiting s t r v q = tt

came_front : {W L : Type 0} (f g : W → List L → Session W) (more : List L) (x y : Came W L)
    → ((v : W) (left : List L) (r : List ℕ) → x ≡ came r v left false → IsFrontOf (f v left) (g v (left ++ more)))
    → ((v : W) (left : List L) (r : List ℕ) (q : Bool) → x ≡ came r v left q → y ≡ came r v (left ++ more) q)
    → IsFrontOf (on_came x f) (on_came y g)
came_front f g more wants y rec stays = none_served (on_came y g) waiting tt
came_front f g more (came r v left true) y rec stays =
    subst (λ z. IsFrontOf (on_came (came r v left true) f) (on_came z g)) (sym (stays v left r true refl)) (record { later = []; is = refl; quits = refl })
came_front f g more (came r v left false) y rec stays =
    let p : IsFrontOf (f v left) (g v (left ++ more)) = rec v left r refl in
    subst (λ z. IsFrontOf (on_came (came r v left false) f) (on_came z g)) (sym (stays v left r false refl))
    (record { later = p.later; is = ap (λ ts. record { reply = r; work = v } ∷ ts) p.is; quits = turn_more (f v left).ending (f v left) (g v (left ++ more)) r v p.quits })

next_front : {W I L : Type 0} (f g : I → List L → Session W) (more : List L) (x y : Next I L)
    → ((item : I) (left : List L) → x ≡ whole_item item left → IsFrontOf (f item left) (g item (left ++ more)))
    → ((item : I) (left : List L) → x ≡ whole_item item left → y ≡ whole_item item (left ++ more))
    → IsFrontOf (on_next x f) (on_next y g)
next_front f g more no_item y rec stays = none_served (on_next y g) over tt
next_front f g more not_yet y rec stays = none_served (on_next y g) waiting tt
next_front f g more (whole_item item left) y rec stays =
    subst (λ z. IsFrontOf (on_next (whole_item item left) f) (on_next z g)) (sym (stays item left refl)) (rec item left refl)

module _ {W I L : Type 0} (next : Bool → List L → Next I L) (outcome : Bool → ℕ → W → I → List L → Came W L) (steady : IsSteady next outcome) (ended : Bool) where
  fronts_within : (n m k : ℕ) (w : W) (lines more : List L) → length (lines ++ more) < m → IsFrontOf (session_within next outcome false n k w lines) (session_within next outcome ended m k w (lines ++ more))
  fronts_within zero m k w lines more long = none_served (session_within next outcome ended m k w (lines ++ more)) waiting tt
  fronts_within (suc n) zero k w lines more long = absurd (omega (arith, long))
  fronts_within (suc n) (suc m) k w lines more long =
      next_front (λ item left. on_came (outcome false k w item left) (λ v rest. session_within next outcome false n (suc k) v rest))
      (λ item left. on_came (outcome ended k w item left) (λ v rest. session_within next outcome ended m (suc k) v rest)) more (next false lines) (next ended (lines ++ more))
      (λ item left is. came_front (λ v rest. session_within next outcome false n (suc k) v rest) (λ v rest. session_within next outcome ended m (suc k) v rest) more (outcome false k w item left) (outcome ended k w item (left ++ more))
      (λ v rest r same. fronts_within n m (suc k) v rest more
      (omega (arith, long, length-append lines more, length-append rest more, steady.shorter false lines left item is, steady.no_longer false k w v item left rest r false same)))
      (λ v rest r q same. steady.came_stays ended k w v item left rest more r q same))
      (λ item left is. steady.item_stays ended lines left more item is)

pub fronts : {W I L : Type 0} (next : Bool → List L → Next I L) (outcome : Bool → ℕ → W → I → List L → Came W L) → IsSteady next outcome → Fronts next outcome
unfolding session
fronts next outcome steady ended k w lines more = fronts_within next outcome steady ended (suc (length lines)) (suc (length (lines ++ more))) k w lines more (omega arith)
