-- The stops of a session, by the item that is served.
use Rattle.std.proofs.Common.{◌≡◌, inl, inr, ⊎_elim, ℕ, suc, ◌+◌, ◌-◌, ◌≤◌, List, [], ◌∷◌, ◌++◌, length, take, refl, sym, ◌∙◌, ap, subst, arith, append_assoc, length-append}
use Rattle.std.specs.List.{concat}
use Rattle.std.proofs.lemmas.List.{append-nil, take-append-le}
use Rattle.std.proofs.lemmas.List.Folds.{concat-append}
use Rattle.std.proofs.lemmas.Bool.Decides.{nat_tests}
use Rattle.std.proofs.lemmas.Bool.{le-ltb}
use Rattle.std.proofs.Math.Seq.{take-append-add}
use Rattle.abc_outside.specs.Stop.{Leaves}
use Rattle.abc_outside.proofs.Leaves.{run_after, weaken}
use Rattle.abc_turns.specs.Stops.{heard, whole, IsPoint, IsInCommit, IsInSaying, IsInItem, in_commit, in_saying, HasServed, IsIdle, Serves}

pub heard_none : (rs : List (List ℕ)) → heard rs 0 ≤ 0
heard_none [] = omega arith
heard_none (r ∷ rs) = omega arith

heard_step : (r : List ℕ) (rs : List (List ℕ)) (n : ℕ) → heard (r ∷ rs) n ≤ suc (heard rs (n - length r))
heard_step r rs n = grind (arith, nat_tests)

heard_one : (r : List ℕ) (rs : List (List ℕ)) (m : ℕ) → m ≤ length r → heard (r ∷ rs) m ≤ 1
heard_one r rs m le =
    let none : m - length r ≡ 0 = omega arith in
    omega (arith, heard_step r rs m, subst (λ k. heard rs k ≤ 0) (sym none) (heard_none rs))

-- beyond whole replies
pub heard_past : (xs rs : List (List ℕ)) (m : ℕ) → heard (xs ++ rs) (length (concat xs) + m) ≤ length xs + heard rs m
heard_past [] rs m = let same : 0 + m ≡ m = omega arith in subst (λ k. heard rs k ≤ 0 + heard rs m) (sym same) (omega arith)
heard_past (x ∷ xs) rs m =
    let n = length (concat (x ∷ xs)) + m in
    let rest : n - length x ≡ length (concat xs) + m = omega (arith, length-append x (concat xs)) in
    let tail : heard (xs ++ rs) (n - length x) ≤ length xs + heard rs m = subst (λ k. heard (xs ++ rs) k ≤ length xs + heard rs m) (sym rest) (heard_past xs rs m) in
    omega (arith, heard_step x (xs ++ rs) n, tail)

pub whole_past : (xs rs : List (List ℕ)) (m : ℕ) → length xs + whole rs m ≤ whole (xs ++ rs) (length (concat xs) + m)
whole_past [] rs m = let same : 0 + m ≡ m = omega arith in subst (λ k. 0 + whole rs m ≤ whole rs k) (sym same) (omega arith)
whole_past (x ∷ xs) rs m =
    let long : length (concat (x ∷ xs)) ≡ length x + length (concat xs) = length-append x (concat xs) in
    let n = length (concat (x ∷ xs)) + m in
    let rest : n - length x ≡ length (concat xs) + m = omega (arith, long) in
    let tail : length xs + whole rs m ≤ whole (xs ++ rs) (n - length x) = subst (λ k. length xs + whole rs m ≤ whole (xs ++ rs) k) (sym rest) (whole_past xs rs m) in
    rw (le-ltb n (length x) (omega (arith, long))) (omega (arith, tail))

module _ {W : Type 0} (opens : List ℕ → W → Type 0) where
  -- at the start of a session
  -- nothing was said yet, and at most one item is kept
  unsaid : (after : ℕ → W) (replies : List (List ℕ)) (said c s : List ℕ) (k : ℕ) → k ≤ length replies → k ≤ 1 → s ≡ said → opens c (after k) → IsPoint opens after replies said c s
  unsaid after replies said c s k among most is image = record {
    count = 0;
    front = is ∙ sym (append-nil said);
    inside = omega arith;
    k = k;
    among = among;
    image = image;
    all_heard = omega (arith, heard_none replies);
    one_more = omega (arith, most);
  }

  pub point_start : (after : ℕ → W) (replies : List (List ℕ)) (said c s : List ℕ) → s ≡ said → opens c (after 0) → IsPoint opens after replies said c s
  point_start after replies said c s is image = unsaid after replies said c s 0 (omega arith) (omega arith) is image

  -- while the first item is served
  pub point_item : (after : ℕ → W) (r : List ℕ) (rs : List (List ℕ)) (said c s : List ℕ) → IsInItem opens (after 0) (after 1) r said c s → IsPoint opens after (r ∷ rs) said c s
  point_item after r rs said c s (in_commit p) =
      ⊎_elim (λ old. point_start after (r ∷ rs) said c s p.nothing_said old) (λ new. unsaid after (r ∷ rs) said c s 1 (omega arith) (omega arith) p.nothing_said new) p.image
  point_item after r rs said c s (in_saying p) = record {
    count = p.count;
    front = p.front ∙ ap (λ (l : List ℕ). said ++ l) (sym (take-append-le p.count r (concat rs) p.inside));
    inside = omega (arith, length-append r (concat rs), p.inside);
    k = 1;
    among = omega arith;
    image = p.image;
    all_heard = heard_one r rs p.count p.inside;
    one_more = omega arith;
  }

  shifted : (after : ℕ → W) (done left : List (List ℕ)) (first said c s : List ℕ) → said ≡ first ++ concat done → IsPoint opens (λ k. after (length done + k)) left said c s → IsPoint opens after (done ++ left) first c s
  shifted after done left first said c s is_said p = record {
    count = length (concat done) + p.count;
    front = p.front ∙ ap (λ (l : List ℕ). l ++ take p.count (concat left)) is_said ∙ append_assoc first (concat done) (take p.count (concat left))
        ∙ ap (λ (l : List ℕ). first ++ l) (sym (ap (λ (l : List ℕ). take (length (concat done) + p.count) l) (concat-append done left) ∙ take-append-add (concat done) (concat left) p.count));
    inside = omega (arith, ap length (concat-append done left), length-append (concat done) (concat left), p.inside);
    k = length done + p.k;
    among = omega (arith, length-append done left, p.among);
    image = p.image;
    all_heard = omega (arith, heard_past done left p.count, p.all_heard);
    one_more = omega (arith, whole_past done left p.count, p.one_more);
  }

  -- a point of what is left is one of the whole
  pub point_later : (after : ℕ → W) (replies : List (List ℕ)) (after_left : ℕ → W) (left : List (List ℕ)) (tells_said : Type 0) (first said c s : List ℕ)
      → HasServed after replies after_left left tells_said first said → tells_said → IsPoint opens after_left left said c s → IsPoint opens after replies first c s
  point_later after replies after_left left tells_said first said c s h told p =
      subst (λ rs. IsPoint opens after rs first c s) (sym h.split) (shifted after h.done left first said c s (h.is_said told) (record {
        count = p.count;
        front = p.front;
        inside = p.inside;
        k = p.k;
        among = p.among;
        image = subst (λ w. opens c w) (h.moved p.k) p.image;
        all_heard = p.all_heard;
        one_more = p.one_more;
      }))

-- before the first item
pub none_served : {W : Type 0} (after : ℕ → W) (replies left : List (List ℕ)) (tells_said : Type 0) (said : List ℕ) → left ≡ replies → HasServed after replies after left tells_said said said
none_served after replies left tells_said said same = record {
  done = [];
  split = sym same;
  moved = λ k. let e : k ≡ 0 + k = omega arith in ap after e;
  is_said = λ told. sym (append-nil said);
}

-- one item
pub item_served : {W : Type 0} (after : ℕ → W) (r : List ℕ) (rs : List (List ℕ)) (tells_said : Type 0) (said said_later : List ℕ) → (tells_said → said_later ≡ said ++ r)
    → HasServed after (r ∷ rs) (λ k. after (suc k)) rs tells_said said said_later
item_served after r rs tells_said said said_later is_said = record {
  done = r ∷ [];
  split = refl;
  moved = λ k. let e : suc k ≡ length (r ∷ []) + k = omega arith in ap after e;
  is_said = λ told. is_said told ∙ ap (λ (l : List ℕ). said ++ l) (sym (append-nil r));
}

-- one run and then another
pub served_then : {W : Type 0} (after : ℕ → W) (replies : List (List ℕ)) (after_mid : ℕ → W) (mid : List (List ℕ)) (after_left : ℕ → W) (left : List (List ℕ)) (tells_said : Type 0) (first said_mid said : List ℕ)
    → HasServed after replies after_mid mid tells_said first said_mid → HasServed after_mid mid after_left left tells_said said_mid said → HasServed after replies after_left left tells_said first said
served_then after replies after_mid mid after_left left tells_said first said_mid said a b = record {
  done = a.done ++ b.done;
  split = a.split ∙ ap (λ rs. a.done ++ rs) b.split ∙ sym (append_assoc a.done b.done left);
  moved = λ k. let e : length a.done + (length b.done + k) ≡ length (a.done ++ b.done) + k = omega (arith, length-append a.done b.done) in b.moved k ∙ a.moved (length b.done + k) ∙ ap after e;
  is_said = λ told. b.is_said told ∙ ap (λ (l : List ℕ). l ++ concat b.done) (a.is_said told) ∙ append_assoc first (concat a.done) (concat b.done)
      ∙ ap (λ (l : List ℕ). first ++ l) (sym (concat-append a.done b.done));
}

-- all were served
pub all_said : {W : Type 0} (after : ℕ → W) (replies : List (List ℕ)) (after_left : ℕ → W) (tells_said : Type 0) (said said_later : List ℕ) → HasServed after replies after_left [] tells_said said said_later → tells_said → said_later ≡ said ++ concat replies
all_said after replies after_left tells_said said said_later h told = h.is_said told ∙ ap (λ rs. said ++ concat rs) (sym (h.split ∙ append-nil h.done))

pub last_after : {W : Type 0} (after : ℕ → W) (replies : List (List ℕ)) (after_left : ℕ → W) (tells_said : Type 0) (said said_later : List ℕ) → HasServed after replies after_left [] tells_said said said_later → after_left 0 ≡ after (length replies)
last_after after replies after_left tells_said said said_later h =
    let e : length h.done + 0 ≡ length replies = omega (arith, ap length (h.split ∙ append-nil h.done)) in h.moved 0 ∙ ap after e

module _ {H W : Type 0} (clock : H → ℕ) (stopped : H → ℕ → List ℕ → List ℕ → Type 0) (opens : List ℕ → W → Type 0) where
  -- an item from its two facts
  pub commit_then_say : (old mid new : H) (w w_new : W) (reply said : List ℕ) → Leaves clock stopped old mid (IsInCommit opens w w_new said) → Leaves clock stopped mid new (IsInSaying opens w_new reply said)
      → Leaves clock stopped old new (IsInItem opens w w_new reply said)
  commit_then_say old mid new w w_new reply said commit saying =
      run_after clock stopped old mid new _ _ (weaken clock stopped old mid _ _ commit (λ c s p. in_commit p)) saying (λ c s p. in_saying p)

  -- no item is served
  idle_points : (said : H → List ℕ) (after : ℕ → W) (replies : List (List ℕ)) (old new : H) → IsIdle clock stopped said opens (after 0) old new → Leaves clock stopped old new (IsPoint opens after replies (said old))
  idle_points said after replies old new idle = weaken clock stopped old new _ _ idle (λ c s p. point_start opens after replies (said old) c s p.0 p.1)

  -- the step of the induction: a run over some items, and one over what is left
  pub points_then : (old mid new : H) (after : ℕ → W) (replies : List (List ℕ)) (after_left : ℕ → W) (left : List (List ℕ)) (tells_said : Type 0) (said said_mid : List ℕ)
      → HasServed after replies after_left left tells_said said said_mid → tells_said
      → Leaves clock stopped old mid (IsPoint opens after replies said) → Leaves clock stopped mid new (IsPoint opens after_left left said_mid) → Leaves clock stopped old new (IsPoint opens after replies said)
  points_then old mid new after replies after_left left tells_said said said_mid so_far told first rest =
      run_after clock stopped old mid new _ _ first rest (λ c s p. point_later opens after replies after_left left tells_said said said_mid c s so_far told p)

  -- the stops of a session, wherever it ends
  pub session_points : (said : H → List ℕ) (after : ℕ → W) (replies : List (List ℕ)) (old new : H) → Serves clock stopped said opens after replies old new → Leaves clock stopped old new (IsPoint opens after replies (said old))
  session_points said after [] old new idle = idle_points said after [] old new idle
  session_points said after (r ∷ rs) old new (inl idle) = idle_points said after (r ∷ rs) old new idle
  session_points said after (r ∷ rs) old new (inr (inl item)) = weaken clock stopped old new _ _ item (λ c s p. point_item opens after r rs (said old) c s p)
  session_points said after (r ∷ rs) old new (inr (inr (mid, item, is_said, later))) =
      points_then old mid new after (r ∷ rs) (λ k. after (suc k)) rs (Unit {0}) (said old) (said mid)
      (item_served after r rs (Unit {0}) (said old) (said mid) (λ told. is_said)) tt
      (weaken clock stopped old mid _ _ item (λ c s p. point_item opens after r rs (said old) c s p))
      (session_points said (λ k. after (suc k)) rs mid new later)
