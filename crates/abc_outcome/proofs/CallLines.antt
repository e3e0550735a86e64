-- The line that the search by halves finds is the least line with a call that leads there.
use Rattle.std.proofs.Common.{◌≡◌, ◌<◌, ◌≤◌, ◌+◌, ℕ, zero, suc, min, Bool, true, false, ◌&&◌, ◌||◌, nat_le, cond, List, [], ◌∷◌, map, filter, Option, Some, Contains, ◌↔◌, refl, sym, ap, subst, ◌∙◌, arith, leb-true, leb-false, le-leb}
use Rattle.std.proofs.lemmas.Bool.{lt-leb}
use Rattle.std.specs.List.{list_any}
use Rattle.std.specs.Bool.{one_answer}
use Rattle.std.specs.declared.cmp.Ordering.{Ordering}
use Rattle.std.specs.declared.cmp.Ordering.TheVariants.{Less, Equal, Greater}
use Rattle.std.specs.Ordering.{match_ordering}
use Rattle.abc_num.specs.Text.{text_eq}
use Rattle.abc_num.proofs.Texts.{text_eq-Decides}
use Rattle.abc_tree.specs.Calls.{with_call, with_calls, calls_in_action, command_called_upto}
use Rattle.abc_tree.specs.Lined.{Lined, upto}
use Rattle.abc_tree.specs.Templates.{template_cmp, template_text}
use Rattle.abc_tree.specs.declared.commands.Command.{Command}
use Rattle.abc_tree.specs.declared.commands.Unit.{Unit as Routine}
use Rattle.abc_tree.specs.declared.templates.Template.{Template}
use Rattle.abc_groups.specs.Reach.{IsFrom}
use Rattle.abc_groups.specs.Program.{LAST_LINE, called, texts}
use Rattle.abc_groups.proofs.Texts.{one_text}
use Rattle.abc_outcome.specs.Laws.{LeadsFrom, IsLeastLine}
use Rattle.abc_outcome.specs.Missing.{program, called_by, first_missing, leads_to, lines_to, least_number, line_to}
use Rattle.abc_outcome.specs.inner.Lines.{is_reached, IsWithin}
use Rattle.abc_outcome.proofs.Finding.{or_none, and_both, and_first, and_second, any_of, found_any}
use Rattle.abc_outcome.proofs.Firsts.{computed_first}
use Rattle.abc_outcome.proofs.Reached.{from_exactly, leads_exactly}

or_swap : (a b c : Bool) → (a || (b || c)) ≡ (b || (a || c))
or_swap true true c = refl
or_swap true false c = refl
or_swap false true c = refl
or_swap false false c = refl

or_turn : (a b c : Bool) → ((a || b) || c) ≡ (b || (a || c))
or_turn true true c = refl
or_turn true false c = refl
or_turn false true c = refl
or_turn false false c = refl

or_twice : (a b c : Bool) → a ≡ b → (a || c) ≡ (b || (a || c))
or_twice true true c e = refl
or_twice false false c e = refl
or_twice true false c e = refl
or_twice false true c e = absurd cc

-- ---- the calls up to a line

module _ (q : List ℕ → Bool) where
  one_more : (x : Template) (ys : List Template) → list_any q (texts (with_call x ys)) ≡ (q (template_text x) || list_any q (texts ys))
  one_more x [] = refl
  one_more x (y ∷ ys) = by_order (template_cmp y x) refl (one_more x ys)
    where
      by_order : (o : Ordering) → template_cmp y x ≡ o → list_any q (texts (with_call x ys)) ≡ (q (template_text x) || list_any q (texts ys))
          → list_any q (texts (match_ordering o (y ∷ with_call x ys) (y ∷ ys) (x ∷ y ∷ ys))) ≡ (q (template_text x) || (q (template_text y) || list_any q (texts ys)))
      by_order Less e more = ap (λ b. q (template_text y) || b) more ∙ or_swap (q (template_text y)) (q (template_text x)) (list_any q (texts ys))
      by_order Equal e more = or_twice (q (template_text y)) (q (template_text x)) (list_any q (texts ys)) (ap q (one_text (template_text y) (template_text x) e))
      by_order Greater e more = refl

  all_called : (found xs : List Template) → list_any q (texts (with_calls found xs)) ≡ (list_any q (texts found) || list_any q (texts xs))
  all_called found [] = sym (or_none (list_any q (texts found)))
  all_called found (x ∷ xs) =
      all_called (with_call x found) xs ∙ ap (λ b. b || list_any q (texts xs)) (one_more x found)
      ∙ or_turn (q (template_text x)) (list_any q (texts found)) (list_any q (texts xs))

  any_upto : (n : ℕ) (calls : Lined Template) → list_any q (texts (upto n calls)) ≡ list_any (λ call. nat_le call.0 n && q (template_text call.1)) calls
  any_upto n [] = refl
  any_upto n (call ∷ calls) = by_case (nat_le call.0 n) (any_upto n calls)
    where
      by_case : (b : Bool) → list_any q (texts (upto n calls)) ≡ list_any (λ call. nat_le call.0 n && q (template_text call.1)) calls
          → list_any q (texts (map (λ x. x.1) (cond b (call ∷ filter (λ x. nat_le x.0 n) calls) (filter (λ x. nat_le x.0 n) calls))))
          ≡ ((b && q (template_text call.1)) || list_any (λ call. nat_le call.0 n && q (template_text call.1)) calls)
      by_case true more = ap (λ b. q (template_text call.1) || b) more
      by_case false more = more

  any_line : (n : ℕ) (calls : Lined Template) → list_any (λ line. nat_le line n) (map (λ call. call.0) (filter (λ call. q (template_text call.1)) calls))
      ≡ list_any (λ call. nat_le call.0 n && q (template_text call.1)) calls
  any_line n [] = refl
  any_line n (call ∷ calls) = by_case (nat_le call.0 n) (q (template_text call.1)) refl (any_line n calls)
    where
      by_case : (a b : Bool) → nat_le call.0 n ≡ a
          → list_any (λ line. nat_le line n) (map (λ call. call.0) (filter (λ call. q (template_text call.1)) calls)) ≡ list_any (λ call. nat_le call.0 n && q (template_text call.1)) calls
          → list_any (λ line. nat_le line n) (map (λ call. call.0) (cond b (call ∷ filter (λ call. q (template_text call.1)) calls) (filter (λ call. q (template_text call.1)) calls)))
          ≡ ((a && b) || list_any (λ call. nat_le call.0 n && q (template_text call.1)) calls)
      by_case true true e more = ap (λ b. b || list_any (λ line. nat_le line n) (map (λ call. call.0) (filter (λ call. q (template_text call.1)) calls))) e
      by_case false true e more = ap (λ b. b || list_any (λ line. nat_le line n) (map (λ call. call.0) (filter (λ call. q (template_text call.1)) calls))) e ∙ more
      by_case true false e more = more
      by_case false false e more = more

-- ---- the least of some numbers

least_within : (a b n : ℕ) → (nat_le a n || nat_le b n) ≡ nat_le (min a b) n
least_within a b n = by_case (nat_le a n) (nat_le b n) refl refl
  where
    by_case : (x y : Bool) → nat_le a n ≡ x → nat_le b n ≡ y → (x || y) ≡ nat_le (min a b) n
    by_case true y e f = let h : a ≤ n = leb-true a n e in sym (le-leb (min a b) n (omega (arith, h)))
    by_case false true e f = let h : b ≤ n = leb-true b n f in sym (le-leb (min a b) n (omega (arith, h)))
    by_case false false e f = let h : n < a = leb-false a n e in let k : n < b = leb-false b n f in sym (lt-leb (min a b) n (omega (arith, h, k)))

any_least : (l : ℕ) (ls : List ℕ) (n : ℕ) → list_any (λ line. nat_le line n) (l ∷ ls) ≡ nat_le (least_number (l ∷ ls)) n
any_least l [] n = or_none (nat_le l n)
any_least l (m ∷ ms) n = ap (λ b. nat_le l n || b) (any_least m ms n) ∙ least_within l (least_number (m ∷ ms)) n

-- ---- the line that is found

reached_lines : (units : List Routine) (c : Command) (t : List ℕ) (n : ℕ) → is_reached units c t n ≡ list_any (λ line. nat_le line n) (lines_to units t (calls_in_action c.action))
unfolding is_reached
reached_lines units c t n =
    all_called (leads_to units t) [] (upto n (calls_in_action c.action)) ∙ any_upto (leads_to units t) n (calls_in_action c.action)
    ∙ sym (any_line (leads_to units t) n (calls_in_action c.action))

by_bounds : (reached : ℕ → Bool) (m first last : ℕ) → first ≤ last → last ≤ first → m ≤ last → ((n : ℕ) → first ≡ n + 1 → reached n ≡ false) → ((n : ℕ) → reached n ≡ nat_le m n) → first ≡ m
by_bounds reached m zero last p r h before each = omega (arith, p, r, h)
by_bounds reached m (suc k) last p r h before each = let low : k < m = leb-false m k (sym (each k) ∙ before k (omega arith)) in omega (arith, p, r, h, low)

pub line_found : (units : List Routine) (c : Command) (t : List ℕ) (first last : ℕ) → IsWithin (is_reached units c t) first last → last ≤ first → first ≡ line_to units t c
unfolding line_to
line_found units c t first last w le = by_list (lines_to units t (calls_in_action c.action)) (reached_lines units c t)
  where
    by_list : (ls : List ℕ) → ((n : ℕ) → is_reached units c t n ≡ list_any (λ line. nat_le line n) ls) → first ≡ least_number ls
    by_list [] each = let e : true ≡ false = sym w.last_does ∙ each last in absurd cc
    by_list (l ∷ ls) each =
        by_bounds (is_reached units c t) (least_number (l ∷ ls)) first last w.order le
        (leb-true (least_number (l ∷ ls)) last (sym (any_least l ls last) ∙ sym (each last) ∙ w.last_does)) w.none_before
        (λ n. each n ∙ any_least l ls n)

-- what is reached from calls is found among what they reach
pub reached_among : (units : List Routine) (c : Command) (t : List ℕ) (n : ℕ) (all : List (List ℕ))
    → ((x : List ℕ) → (Contains all x ↔ IsFrom (called (program units)) (texts (command_called_upto n c)) x)) → list_any (text_eq t) all ≡ is_reached units c t n
unfolding is_reached
reached_among units c t n all exact =
    one_answer (list_any (text_eq t) all) (list_any (leads_to units t) (texts (command_called_upto n c))) (
      λ e. let r = found_any (text_eq t) all e in (exact t).0 (subst (λ (x : List ℕ). Contains all x) (sym ((text_eq-Decides t r.0).0 r.2)) r.1),
      λ f. any_of (text_eq t) all t ((exact t).1 f) ((text_eq-Decides t t).1 refl),
    )
    (from_exactly units (texts (command_called_upto n c)) t)

-- what is reached from some call is reached from the calls up to the last line
pub reached_to : (units : List Routine) (c : Command) (t : List ℕ) → IsFrom (called (program units)) (texts (command_called_upto LAST_LINE c)) t → is_reached units c t LAST_LINE ≡ true
unfolding is_reached
reached_to units c t is = (from_exactly units (texts (command_called_upto LAST_LINE c)) t).1 is

-- ---- the line that is told

-- a call that leads there stands on one of the lines
on_line : (units : List Routine) (c : Command) (t : List ℕ) (n : ℕ) → LeadsFrom units c t n → list_any (λ line. nat_le line n) (lines_to units t (calls_in_action c.action)) ≡ true
on_line units c t n (s, there, leads) =
    any_line (leads_to units t) n (calls_in_action c.action)
    ∙ any_of (λ call. nat_le call.0 n && leads_to units t (template_text call.1)) (calls_in_action c.action) (n, s) there
    (and_both (nat_le n n) (leads_to units t (template_text s)) (le-leb n n (omega arith)) ((leads_exactly units (template_text s) t).1 leads))

-- and where one of the lines is no later than another, so is such a call
call_upto : (units : List Routine) (c : Command) (t : List ℕ) (n : ℕ) → list_any (λ line. nat_le line n) (lines_to units t (calls_in_action c.action)) ≡ true
    → (m : ℕ) × (m ≤ n) × LeadsFrom units c t m
call_upto units c t n e =
    let r = found_any (λ call. nat_le call.0 n && leads_to units t (template_text call.1)) (calls_in_action c.action) (sym (any_line (leads_to units t) n (calls_in_action c.action)) ∙ e) in
    let line = r.0.0 in
    let leads = leads_to units t (template_text r.0.1) in
    (line, leb-true line n (and_first (nat_le line n) leads r.2), (r.0.1, r.1, (leads_exactly units (template_text r.0.1) t).0 (and_second (nat_le line n) leads r.2)))

one_number : (a b : ℕ) → a ≤ b → b ≤ a → a ≡ b
one_number a b p q = omega (arith, p, q)

pub line_is_least : (units : List Routine) (c : Command) (t : List ℕ) → first_missing units (called_by c) ≡ Some t → IsLeastLine units c t (line_to units t c)
unfolding line_to
line_is_least units c t first =
    by_list (lines_to units t (calls_in_action c.action)) (on_line units c t) (call_upto units c t)
    (sym (reached_lines units c t LAST_LINE) ∙ reached_to units c t (computed_first units (called_by c) t first).reached)
  where
    by_list : (ls : List ℕ) → ((n : ℕ) → LeadsFrom units c t n → list_any (λ line. nat_le line n) ls ≡ true)
        → ((n : ℕ) → list_any (λ line. nat_le line n) ls ≡ true → (m : ℕ) × (m ≤ n) × LeadsFrom units c t m)
        → list_any (λ line. nat_le line LAST_LINE) ls ≡ true → IsLeastLine units c t (least_number ls)
    by_list [] on upto some = absurd cc
    by_list (l ∷ ls) on upto some =
        let m = least_number (l ∷ ls) in
        let low : (n : ℕ) → LeadsFrom units c t n → m ≤ n = λ n leads. leb-true m n (sym (any_least l ls n) ∙ on n leads) in
        let there = upto m (any_least l ls m ∙ le-leb m m (omega arith)) in
        record {
          leads = subst (LeadsFrom units c t) (one_number there.0 m there.1 (low there.0 there.2)) there.2;
          least = low;
        }
