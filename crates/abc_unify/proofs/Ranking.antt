-- After a local change the visited classes rank by their marks, and the others above them as before.
use Rattle.std.proofs.Common.{◌≡◌, ℕ, zero, suc, ◌+◌, ◌<◌, ◌≤◌, ◌⊎◌, inl, inr, List, [], ◌∷◌, Bool, true, false, cond, length, get_or, set, sym, ◌∙◌, ap, subst, arith, refl, get_or-set_other}
use Rattle.std.proofs.lemmas.Bool.{cases_eq, cases_lt}
use Rattle.std.proofs.lemmas.List.Elements.{All-head, All-tail}
use Rattle.std.proofs.lemmas.List.Sums.{sum_by-cons}
use Rattle.std.specs.List.{All, sum_by}
use Rattle.abc_terms.specs.declared.term.VarId.{VarId}
use Rattle.abc_unify.specs.declared.kind.Kind.{Kind}
use Rattle.abc_unify.specs.declared.kind.Kind.TheVariants.{Free}
use Rattle.abc_unify.specs.declared.kind.Slot.{Slot}
use Rattle.abc_unify.specs.declared.kind.Slot.TheVariants.{Link, Root}
use Rattle.abc_unify.specs.declared.log.Entry.{Entry}
use Rattle.abc_unify.specs.declared.cycle.Walk.{Walk}
use Rattle.abc_unify.specs.declared.cycle.Walk.TheVariants.{Cycle, Done}
use Rattle.abc_unify.specs.inner.Kinds.{children}
use Rattle.abc_unify.specs.inner.Naming.{IsNamed, NamesNoted}
use Rattle.abc_unify.specs.inner.Slots.{SlotsIn, SlotIn, root_of, IsAmong, IsChild, IsRanked}
use Rattle.abc_unify.specs.inner.Logs.{rolled}
use Rattle.abc_unify.specs.inner.Cycles.{IsDone, IsPassed, IsVisit, IsTurn, IsSearched}
use Rattle.abc_unify.proofs.Named.{child_named}
use Rattle.abc_unify.proofs.Solutions.{root_of-link, root_of-root}

-- a number by whether another is below two
abbrev pub either_rank : ℕ → ℕ → ℕ → ℕ
either_rank zero a b = a
either_rank (suc zero) a b = a
either_rank (suc (suc m)) a b = b

low_rank : (m a b : ℕ) → m < 2 → either_rank m a b ≡ a
low_rank zero a b h = refl
low_rank (suc zero) a b h = refl
low_rank (suc (suc m)) a b h = absurd (omega arith)

high_rank : (m a b : ℕ) → 2 ≤ m → either_rank m a b ≡ b
high_rank zero a b h = absurd (omega arith)
high_rank (suc zero) a b h = absurd (omega arith)
high_rank (suc (suc m)) a b h = refl

abbrev pub new_rank : (ℕ → ℕ) → List ℕ → ℕ → ℕ → ℕ
new_rank rank marks next i = either_rank (get_or marks i 0) (next + rank i) (get_or marks i 0)

pub still_passed : (named : List Bool) (marks marks2 : List ℕ) (r : ℕ) → ((i : ℕ) → 2 ≤ get_or marks i 0 → 2 ≤ get_or marks2 i 0) → IsPassed named marks r → IsPassed named marks2 r
still_passed named marks marks2 r more (inl done) = inl (more r done)
still_passed named marks marks2 r more (inr lone) = inr lone

pub visit_turns : (slots : List Slot) (named : List Bool) (before marks : List ℕ) (start : ℕ) (walk : Walk) → IsVisit slots before marks start walk → IsTurn slots named before marks start walk
visit_turns slots named before marks start (Cycle top) h = h
visit_turns slots named before marks start (Done next) h = (h.0, inl h.1, h.2)

among_sum : (f : ℕ → ℕ) (xs : List VarId) (x : ℕ) → IsAmong x xs → f x ≤ sum_by (λ y. f y.0) xs
among_sum f [] x c = absurd c
among_sum f (y ∷ ys) x (inl e) = let s : f x ≡ f y.0 = ap f e in omega (arith, sum_by-cons (λ z. f z.0) y ys)
among_sum f (y ∷ ys) x (inr c) = omega (arith, among_sum f ys x c, sum_by-cons (λ z. f z.0) y ys)

module _ (slots slots2 : List Slot) (rank : ℕ → ℕ) (marks : List ℕ) (next : ℕ) (named : List Bool) (old : IsRanked slots rank) (done : (i : ℕ) → 2 ≤ get_or marks i 0 → (get_or marks i 0 < next) × IsDone slots2 marks i) (kept : (i : ℕ) (k : Kind) → get_or marks i 0 < 2 → IsNamed named i → get_or slots2 i (Root Free) ≡ Root k → get_or slots i (Root Free) ≡ Root k) (roots : (x : ℕ) → get_or marks (root_of slots2 x) 0 < 2 → IsNamed named (root_of slots2 x) → root_of slots2 x ≡ root_of slots x) (led : (i : ℕ) (k : Kind) (x : ℕ) → get_or slots2 i (Root Free) ≡ Root k → IsChild k x → IsNamed named (root_of slots2 x)) where
  step_down : (i : ℕ) (k : Kind) (x : ℕ) → IsNamed named i → get_or slots2 i (Root Free) ≡ Root k → IsChild k x → ((get_or marks i 0 < 2) ⊎ (2 ≤ get_or marks i 0)) → ((get_or marks (root_of slots2 x) 0 < 2) ⊎ (2 ≤ get_or marks (root_of slots2 x) 0)) → new_rank rank marks next (root_of slots2 x) < new_rank rank marks next i
  step_down i k x n is c (inl a) (inl b) =
      let s : rank (root_of slots2 x) ≡ rank (root_of slots x) = ap rank (roots x b (led i k x is c)) in
      let f : rank (root_of slots x) < rank i = old.falls i k x (kept i k a n is) c in
      omega (arith, low_rank (get_or marks i 0) (next + rank i) (get_or marks i 0) a, low_rank (get_or marks (root_of slots2 x) 0) (next + rank (root_of slots2 x)) (get_or marks (root_of slots2 x) 0) b)
  step_down i k x n is c (inl a) (inr b) =
      omega (arith, (done (root_of slots2 x) b).0, low_rank (get_or marks i 0) (next + rank i) (get_or marks i 0) a, high_rank (get_or marks (root_of slots2 x) 0) (next + rank (root_of slots2 x)) (get_or marks (root_of slots2 x) 0) b)
  step_down i k x n is c (inr a) b =
      let d : (2 ≤ get_or marks (root_of slots2 x) 0) × (get_or marks (root_of slots2 x) 0 < get_or marks i 0) = (done i a).1 k x is c in
      omega (arith, high_rank (get_or marks i 0) (next + rank i) (get_or marks i 0) a, high_rank (get_or marks (root_of slots2 x) 0) (next + rank (root_of slots2 x)) (get_or marks (root_of slots2 x) 0) d.0)

  -- more than the ranks of all classes that the slot names
  abbrev pub above : Slot → ℕ
  above (Root k) = sum_by (λ y. new_rank rank marks next (root_of slots2 y.0)) (children k) + 1
  above (Link b) = 0

  -- what no slot names ranks above all that it names
  abbrev pub last_rank : ℕ → ℕ
  last_rank i = cond (get_or named i false) (new_rank rank marks next i) (above (get_or slots2 i (Root Free)))

  falls : (i : ℕ) (k : Kind) (x : ℕ) → get_or slots2 i (Root Free) ≡ Root k → IsChild k x → last_rank (root_of slots2 x) < last_rank i
  falls i k x is c = by_flag (get_or named i false) refl
    where
      child : last_rank (root_of slots2 x) ≡ new_rank rank marks next (root_of slots2 x)
      child = ap (λ b. cond b (new_rank rank marks next (root_of slots2 x)) (above (get_or slots2 (root_of slots2 x) (Root Free)))) (led i k x is c)

      by_flag : (b : Bool) → get_or named i false ≡ b → last_rank (root_of slots2 x) < last_rank i
      by_flag true n =
          let here : last_rank i ≡ new_rank rank marks next i = ap (λ b. cond b (new_rank rank marks next i) (above (get_or slots2 i (Root Free)))) n in
          omega (arith, here, child, step_down i k x n is c (cases_lt (get_or marks i 0) 2) (cases_lt (get_or marks (root_of slots2 x) 0) 2))
      by_flag false n =
          let here : last_rank i ≡ above (get_or slots2 i (Root Free)) = ap (λ b. cond b (new_rank rank marks next i) (above (get_or slots2 i (Root Free)))) n in
          let slot : above (get_or slots2 i (Root Free)) ≡ sum_by (λ y. new_rank rank marks next (root_of slots2 y.0)) (children k) + 1 = ap above is in
          omega (arith, here, slot, child, among_sum (λ y. new_rank rank marks next (root_of slots2 y)) (children k) x c)

  pub ranked_again : IsRanked slots2 last_rank
  ranked_again = record { falls = falls }

-- a slot that no entry names is as before
pub unwritten : (slots : List Slot) (log : List Entry) (i : ℕ) (P : ℕ → Type 0) → All (λ e. P e.at.0) log → P i ⊎ (get_or (rolled slots log) i (Root Free) ≡ get_or slots i (Root Free))
unwritten slots [] i P all = inr refl
unwritten slots (e ∷ log) i P all =
    elim (cases_eq i e.at.0) [
      | inl same ↦ inl (subst (λ j. P j) (sym same) (All-head (λ d. P d.at.0) e log all))
      | inr apart ↦ behind (get_or-set_other (rolled slots log) e.at.0 i e.was (Root Free) apart) (unwritten slots log i P (All-tail (λ d. P d.at.0) e log all))
    ]
  where
    behind : get_or (set (rolled slots log) e.at.0 e.was) i (Root Free) ≡ get_or (rolled slots log) i (Root Free) → (P i ⊎ (get_or (rolled slots log) i (Root Free) ≡ get_or slots i (Root Free))) → P i ⊎ (get_or (set (rolled slots log) e.at.0 e.was) i (Root Free) ≡ get_or slots i (Root Free))
    behind same (inl p) = inl p
    behind same (inr old) = inr (same ∙ old)

module _ (slots slots2 : List Slot) (newer : List Entry) (named : List Bool) (back : rolled slots2 newer ≡ slots) (inside : SlotsIn slots) (inside2 : SlotsIn slots2) (noted : All (NamesNoted named) slots2) (s : IsSearched slots2 named newer) where
  -- what is named and not marked as done was not written
  as_before : (i : ℕ) → get_or s.marks (root_of slots2 i) 0 < 2 → IsNamed named (root_of slots2 i) → get_or slots i (Root Free) ≡ get_or slots2 i (Root Free)
  as_before i low n = choose (unwritten slots2 newer i (λ j. IsPassed named s.marks (root_of slots2 j)) s.found)
    where
      choose : (IsPassed named s.marks (root_of slots2 i) ⊎ (get_or (rolled slots2 newer) i (Root Free) ≡ get_or slots2 i (Root Free))) → get_or slots i (Root Free) ≡ get_or slots2 i (Root Free)
      choose (inl (inl high)) = absurd (omega arith)
      choose (inl (inr lone)) = absurd (cc)
      choose (inr same) = ap (λ t. get_or t i (Root Free)) (sym back) ∙ same

  roots_before : (f x : ℕ) → x < f → get_or s.marks (root_of slots2 x) 0 < 2 → IsNamed named (root_of slots2 x) → root_of slots2 x ≡ root_of slots x
  roots_before zero x h low n = absurd (omega arith)
  roots_before (suc f) x h low n = by_slot (λ y below. roots_before f y (omega arith)) (get_or slots2 x (Root Free)) refl
    where
      by_slot : ((y : ℕ) → y < x → get_or s.marks (root_of slots2 y) 0 < 2 → IsNamed named (root_of slots2 y) → root_of slots2 y ≡ root_of slots y) → (t : Slot) → get_or slots2 x (Root Free) ≡ t → root_of slots2 x ≡ root_of slots x
      by_slot again (Root k) is = root_of-root slots2 x k is ∙ sym (root_of-root slots x k (as_before x low n ∙ is))
      by_slot again (Link b) is =
          let on : root_of slots2 x ≡ root_of slots2 b.0 = root_of-link slots2 x b inside2 is in
          let before : root_of slots x ≡ root_of slots b.0 = root_of-link slots x b inside (as_before x low n ∙ is) in
          let below : b.0 < x = subst (λ t. SlotIn (length slots2) x t) is (inside2 x) in
          on ∙ (again b.0 below (subst (λ r. get_or s.marks r 0 < 2) on low) (subst (λ r. IsNamed named r) on n) ∙ sym before)

  pub ranked_after : (rank : ℕ → ℕ) → IsRanked slots rank → (rank2 : ℕ → ℕ) × IsRanked slots2 rank2
  ranked_after rank old = (
    last_rank slots slots2 rank s.marks s.next named old
        (λ i two. (s.marked.early i, s.marked.done i two)) kept roots (child_named slots2 inside2 named noted),
    ranked_again slots slots2 rank s.marks s.next named old
        (λ i two. (s.marked.early i, s.marked.done i two)) kept roots (child_named slots2 inside2 named noted),
  )
    where
      kept : (i : ℕ) (k : Kind) → get_or s.marks i 0 < 2 → IsNamed named i → get_or slots2 i (Root Free) ≡ Root k → get_or slots i (Root Free) ≡ Root k
      kept i k low n is =
          let root : root_of slots2 i ≡ i = root_of-root slots2 i k is in
          as_before i (subst (λ r. get_or s.marks r 0 < 2) (sym root) low) (subst (λ r. IsNamed named r) (sym root) n) ∙ is

      roots : (x : ℕ) → get_or s.marks (root_of slots2 x) 0 < 2 → IsNamed named (root_of slots2 x) → root_of slots2 x ≡ root_of slots x
      roots x low n = roots_before (suc x) x (omega arith) low n
