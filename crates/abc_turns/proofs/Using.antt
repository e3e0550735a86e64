-- The lines that were used, item by item.
use Rattle.std.proofs.Common.{◌≡◌, ℕ, suc, ◌+◌, Bool, false, List, [], ◌∷◌, ◌++◌, length, take, refl, sym, ◌∙◌, ap, arith, append_assoc, length-append}
use Rattle.std.specs.List.{concat}
use Rattle.std.proofs.lemmas.List.{append-nil, map-append}
use Rattle.std.proofs.Math.Seq.{take-append-add, take-length}
use Rattle.abc_turns.specs.Session.{Next, Came, waiting, Turn, Session, ends, then_turn, after_turns, session, replies_of, replies, work_after, works, last_work}
use Rattle.abc_turns.specs.Steady.{IsSteady, IsUsed}
use Rattle.abc_turns.specs.Stops.{HasServed}
use Rattle.abc_turns.proofs.Unfolding.{waits}

after_both : {W : Type 0} (turns later : List (Turn W)) (s : Session W) → after_turns turns (after_turns later s) ≡ after_turns (turns ++ later) s
after_both turns later s = ap (λ ts. record { turns = ts; ending = s.ending }) (sym (append_assoc turns later s.turns))

work_both : {W : Type 0} (start : W) (turns later : List (Turn W)) → work_after start (turns ++ later) ≡ work_after (work_after start turns) later
work_both start [] later = refl
work_both start (turn ∷ turns) later = work_both turn.work turns later

length_replies : {W : Type 0} (turns : List (Turn W)) → length (replies_of turns) ≡ length turns
length_replies [] = refl
length_replies (turn ∷ turns) = ap (λ n. suc n) (length_replies turns)

-- the work after all items
pub works_all : {W : Type 0} (start : W) (s : Session W) → works start s (length (replies s)) ≡ last_work start s
works_all start s = ap (λ n. work_after start (take n s.turns)) (length_replies s.turns) ∙ ap (work_after start) (take-length s.turns)

module _ {W I L : Type 0} (next : Bool → List L → Next I L) (outcome : Bool → ℕ → W → I → List L → Came W L) where
  -- before the first line
  pub none_used : (k : ℕ) (start : W) → IsUsed next outcome k start [] [] start
  none_used k start = record {
    goes = λ e more. let n : k ≡ k + 0 = omega arith in ap (λ m. session next outcome e m start more) n;
    work_is = refl;
  }

  -- lines that mean nothing
  pub blank_used : (k : ℕ) (start : W) (used : List L) → ((e : Bool) (more : List L) → session next outcome e k start (used ++ more) ≡ session next outcome e k start more) → IsUsed next outcome k start used [] start
  blank_used k start used blank = record {
    goes = λ e more. let n : k ≡ k + 0 = omega arith in blank e more ∙ ap (λ m. session next outcome e m start more) n;
    work_is = refl;
  }

  -- one item
  pub item_used : (k : ℕ) (start work : W) (used : List L) (reply : List ℕ) → ((e : Bool) (more : List L) → session next outcome e k start (used ++ more) ≡ then_turn reply work (session next outcome e (suc k) work more))
      → IsUsed next outcome k start used (record { reply = reply; work = work } ∷ []) work
  item_used k start work used reply item = record {
    goes = λ e more. let n : suc k ≡ k + 1 = omega arith in item e more ∙ ap (λ m. then_turn reply work (session next outcome e m work more)) n;
    work_is = refl;
  }

  -- lines that were used, and then further ones
  pub used_then : (k : ℕ) (start work last : W) (used more : List L) (turns later : List (Turn W)) → IsUsed next outcome k start used turns work → IsUsed next outcome (k + length turns) work more later last
      → IsUsed next outcome k start (used ++ more) (turns ++ later) last
  used_then k start work last used more turns later p q = record {
    goes = λ e lines.
        let n : k + length turns + length later ≡ k + length (turns ++ later) = omega (arith, length-append turns later) in
        ap (λ ls. session next outcome e k start ls) (append_assoc used more lines) ∙ p.goes e (more ++ lines) ∙ ap (after_turns turns) (q.goes e lines)
        ∙ after_both turns later (session next outcome e (k + length turns + length later) last lines)
        ∙ ap (λ m. after_turns (turns ++ later) (session next outcome e m last lines)) n;
    work_is = q.work_is ∙ ap (λ w. work_after w later) p.work_is ∙ sym (work_both start turns later);
  }

  module _ (k : ℕ) (start work : W) (used : List L) (turns : List (Turn W)) (p : IsUsed next outcome k start used turns work) where
    -- what they settle: their turns, and no more
    pub settled : IsSteady next outcome → session next outcome false k start used ≡ after_turns turns (ends waiting)
    settled steady =
        ap (λ ls. session next outcome false k start ls) (sym (append-nil used)) ∙ p.goes false [] ∙ ap (after_turns turns) (waits next outcome steady (k + length turns) work)

    pub settled_replies : IsSteady next outcome → replies (session next outcome false k start used) ≡ replies_of turns
    settled_replies steady = ap replies (settled steady) ∙ ap replies_of (append-nil turns)

    module _ (e : Bool) (left : List L) where
      abbrev whole : Session W
      whole = session next outcome e k start (used ++ left)

      abbrev rest : Session W
      rest = session next outcome e (k + length turns) work left

      -- they were served, and the rest is left
      pub used_served : (tells_said : Type 0) (said said_later : List ℕ) → (tells_said → said_later ≡ said ++ concat (replies_of turns))
          → HasServed (works start whole) (replies whole) (works work rest) (replies rest) tells_said said said_later
      used_served tells_said said said_later is_said = record {
        done = replies_of turns;
        split = ap replies (p.goes e left) ∙ map-append (λ turn. turn.reply) turns rest.turns;
        moved = λ n.
            ap (λ w. work_after w (take n rest.turns)) p.work_is ∙ sym (work_both start turns (take n rest.turns)) ∙ ap (work_after start) (sym (take-append-add turns rest.turns n))
            ∙ ap (λ (s : Session W). work_after start (take (length turns + n) s.turns)) (sym (p.goes e left))
            ∙ ap (λ m. works start whole (m + n)) (sym (length_replies turns));
        is_said = is_said;
      }
