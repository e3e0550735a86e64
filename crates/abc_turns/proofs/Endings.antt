-- How a session ends, by the items that were served.
use Rattle.std.proofs.Common.{◌≡◌, ◌⊎◌, inl, inr, ⊎_elim, ℕ, suc, ◌+◌, ◌≤◌, List, ◌++◌, length, take, sym, ◌∙◌, ap, subst, arith, append_assoc, length-append}
use Rattle.std.specs.List.{concat}
use Rattle.std.proofs.lemmas.List.Folds.{concat-append}
use Rattle.std.proofs.Math.Seq.{take-append-add}
use Rattle.abc_turns.specs.Stops.{HasServed, IsBetween, IsBroken, IsCutShort}
use Rattle.abc_outside.specs.Stop.{Leaves}

-- the replies of some items more
concat_front : (done left : List (List ℕ)) (k : ℕ) → concat (take (length done + k) (done ++ left)) ≡ concat done ++ concat (take k left)
concat_front done left k = ap concat (take-append-add done left k) ∙ concat-append done (take k left)

-- what a stop now leaves, from what it left at the start and on the way
pub now_leaves : {H : Type 0} (clock : H → ℕ) (stopped : H → ℕ → List ℕ → List ℕ → Type 0) (old new : H) (P : List ℕ → List ℕ → Type 0)
    → ((host : H) (earlier later : ℕ) (c s : List ℕ) → earlier ≤ later → stopped host later c s → stopped host earlier c s)
    → Leaves clock stopped old new P → (c s : List ℕ) → stopped new (clock new) c s → stopped old (clock old) c s ⊎ P c s
now_leaves clock stopped old new P since leaves c s stop = leaves.each (clock old) c s (omega arith) (since new (clock old) (clock new) c s leaves.later stop)

module _ {W : Type 0} (opens : List ℕ → W → Type 0) (after : ℕ → W) (replies : List (List ℕ)) (after_left : ℕ → W) (left : List (List ℕ)) (first said said_now : List ℕ) (now : List ℕ → List ℕ → Type 0)
    (h : HasServed after replies after_left left (Unit {0}) first said) where
  more_said : (k : ℕ) → said_now ≡ said ++ concat (take k left) → said_now ≡ first ++ concat (take (length h.done + k) replies)
  more_said k is =
      is ∙ ap (λ (l : List ℕ). l ++ concat (take k left)) (h.is_said tt) ∙ append_assoc first (concat h.done) (concat (take k left))
      ∙ ap (λ (l : List ℕ). first ++ l) (sym (concat_front h.done left k) ∙ ap (λ rs. concat (take (length h.done + k) rs)) (sym h.split))

  no_more : (k : ℕ) → k ≤ length left → length h.done + k ≤ length replies
  no_more k le = omega (arith, ap length h.split, length-append h.done left, le)

  pub between_later : IsBetween opens after_left left said said_now now → IsBetween opens after replies first said_now now
  between_later p = record {
    k = length h.done + p.k;
    among = no_more p.k p.among;
    said_is = more_said p.k p.said_is;
    image = λ c s stop. subst (λ w. opens c w) (h.moved p.k) (p.image c s stop);
  }

  moved_more : (k : ℕ) → after_left (suc k) ≡ after (suc (length h.done + k))
  moved_more k = let e : length h.done + suc k ≡ suc (length h.done + k) = omega arith in h.moved (suc k) ∙ ap after e

  pub broken_later : IsBroken opens after_left left said said_now now → IsBroken opens after replies first said_now now
  broken_later p = record {
    k = length h.done + p.k;
    among = no_more p.k p.among;
    said_is = more_said p.k p.said_is;
    image = λ c s stop. ⊎_elim (λ before. inl (subst (λ w. opens c w) (h.moved p.k) before)) (λ more. inr (subst (λ w. opens c w) (moved_more p.k) more)) (p.image c s stop);
  }

  front_long : (k : ℕ) → length (concat (take (length h.done + k) replies)) ≡ length (concat h.done) + length (concat (take k left))
  front_long k = ap length (ap (λ rs. concat (take (length h.done + k) rs)) h.split ∙ concat_front h.done left k) ∙ length-append (concat h.done) (concat (take k left))

  pub cut_later : IsCutShort opens after_left left said said_now now → IsCutShort opens after replies first said_now now
  cut_later p =
      let e : length h.done + suc p.k ≡ suc (length h.done + p.k) = omega arith in
      record {
        k = length h.done + p.k;
        among = omega (arith, ap length h.split, length-append h.done left, p.among);
        count = length (concat h.done) + p.count;
        said_is = p.said_is ∙ ap (λ (l : List ℕ). l ++ take p.count (concat left)) (h.is_said tt) ∙ append_assoc first (concat h.done) (take p.count (concat left))
            ∙ ap (λ (l : List ℕ). first ++ l) (sym (take-append-add (concat h.done) (concat left) p.count) ∙ ap (λ (l : List ℕ). take (length (concat h.done) + p.count) l) (sym (ap concat h.split ∙ concat-append h.done left)));
        begun = omega (arith, front_long p.k, p.begun);
        cut = omega (arith, front_long (suc p.k), ap (λ n. length (concat (take n replies))) e, p.cut);
        image = λ c s stop. subst (λ w. opens c w) (moved_more p.k) (p.image c s stop);
      }
