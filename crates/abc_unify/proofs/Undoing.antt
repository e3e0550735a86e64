-- A graph that was solved at each point of its history still is, after calls that add and after going back.
use Rattle.std.proofs.Common.{◌≡◌, ℕ, zero, suc, ◌+◌, ◌<◌, ◌≤◌, List, [], ◌∷◌, ◌++◌, length, get_or, set, take, drop, sym, ◌∙◌, ap, subst, arith, refl}
use Rattle.std.proofs.Math.ListN.{length-append, get_or-append}
use Rattle.std.proofs.Math.Seq.{take-length, take-append_seam}
use Rattle.std.proofs.lemmas.List.{take-take, take-append-le, length-take-le, append-nil, take-append-drop, get_or_read, drop-append-le}
use Rattle.std.proofs.lemmas.Grind.{common_steps}
use Rattle.std.proofs.lemmas.List.Elements.{All-append, All-push, All-weaker, All-nil, All-head, All-tail}
use Rattle.std.proofs.lemmas.List.Quantifiers.{all_pairs_push}
use Rattle.std.specs.List.{All, AllPairs}
use Rattle.abc_terms.specs.declared.term.VarId.{VarId}
use Rattle.abc_terms.specs.declared.term.Term.{Term}
use Rattle.abc_terms.specs.declared.demand.Demand.{Demand}
use Rattle.abc_terms.specs.declared.demand.Demand.TheVariants as demand
use Rattle.abc_unify.specs.declared.kind.Slot.{Slot}
use Rattle.abc_unify.specs.declared.log.Entry.{Entry}
use Rattle.abc_unify.specs.declared.state.Point.{Point}
use Rattle.abc_unify.specs.inner.Logs.{rolled, EntryIn, IsLogged}
use Rattle.abc_unify.specs.Graphs.{Held, Seen, held_at, back_at, with_variable, with_demands, with_node}
use Rattle.abc_unify.specs.inner.States.{IsSolved, IsPast, IsBefore, IsKept, point_at, earlier}
use Rattle.abc_unify.proofs.Logging.{rolled-append, rolled_length, logged_nothing}
use Rattle.abc_unify.proofs.Among.{slot_in_more}
use Rattle.abc_unify.proofs.Solved.{nothing_solved}
use Rattle.abc_unify.proofs.Walking.{AllPairs-left}

take_set : (c i : ℕ) (x : Slot) (slots : List Slot) → take c (set slots i x) ≡ set (take c slots) i x
take_set zero i x slots = refl
take_set (suc c) i x [] = refl
take_set (suc c) zero x (s ∷ slots) = refl
take_set (suc c) (suc i) x (s ∷ slots) = ap (λ t. s ∷ t) (take_set c i x slots)

take_rolled : (c : ℕ) (slots : List Slot) (log : List Entry) → take c (rolled slots log) ≡ rolled (take c slots) log
take_rolled c slots [] = refl
take_rolled c slots (e ∷ log) = take_set c e.at.0 e.was (rolled slots log) ∙ ap (λ s. set s e.at.0 e.was) (take_rolled c slots log)

drop_split : {X : Type 0} (m n : ℕ) (xs : List X) → m ≤ n → n ≤ length xs → drop m xs ≡ drop m (take n xs) ++ drop n xs
drop_split m n xs h k = ap (drop m) (sym (take-append-drop n xs)) ∙ drop-append-le m (take n xs) (drop n xs) (omega (arith, length-take-le n xs k))

entries_more : (n m : ℕ) → n ≤ m → (log : List Entry) → All (EntryIn n) log → All (EntryIn m) log
entries_more n m h log inside = All-weaker (EntryIn n) (EntryIn m) (λ e low. (omega (arith, low.0), slot_in_more n m e.at.0 h e.was low.1)) log inside

module _ (slots slots2 added : List Slot) (log log2 : List Entry) (demands more : List Demand) (logged : IsLogged slots log slots2 log2) where
  same_length : length slots2 ≡ length slots
  same_length = sym (rolled_length slots2 logged.newer) ∙ ap length logged.back

  -- the first slots, taken back over what was written since
  first_back : (c w : ℕ) → c ≤ length slots → w ≤ length log → take c (rolled (slots2 ++ added) (drop w log2)) ≡ take c (rolled slots (drop w log))
  first_back c w hc hw =
      let l : drop w log2 ≡ drop w log ++ logged.newer = ap (drop w) logged.log_is ∙ (grind (arith, common_steps)) in
      let front : take c (slots2 ++ added) ≡ take c slots2 = take-append-le c slots2 added (omega (arith, same_length)) in
      take_rolled c (slots2 ++ added) (drop w log2)
      ∙ (ap (λ s. rolled s (drop w log2)) front
      ∙ (ap (λ d. rolled (take c slots2) d) l
      ∙ (sym (take_rolled c slots2 (drop w log ++ logged.newer))
      ∙ (ap (take c) (rolled-append slots2 (drop w log) logged.newer)
      ∙ ap (λ s. take c (rolled s (drop w log))) logged.back))))

  older_log : (w : ℕ) → w ≤ length log → take w log2 ≡ take w log
  older_log w h = ap (take w) logged.log_is ∙ take-append-le w log logged.newer h

  longer_log : length log ≤ length log2
  longer_log = omega (arith, ap length logged.log_is, length-append log logged.newer)

  past_more : (p : Point) → IsPast slots log demands p → IsPast (slots2 ++ added) log2 (demands ++ more) p
  past_more p past = record {
    few_variables = omega (arith, past.few_variables, same_length, length-append slots2 added);
    few_writes = omega (arith, past.few_writes, longer_log);
    few_demands = omega (arith, past.few_demands, length-append demands more);
    solved = subst (λ s. IsSolved s (take p.demands (demands ++ more))) (sym (first_back p.variables p.writes past.few_variables past.few_writes))
        (subst (λ d. IsSolved (take p.variables (rolled slots (drop p.writes log))) d) (sym (take-append-le p.demands demands more past.few_demands)) past.solved);
    entries = subst (λ l. All (EntryIn p.variables) l) (sym (older_log p.writes past.few_writes)) past.entries;
  }

  past_now : IsSolved slots demands → All (EntryIn (length slots)) log → IsPast (slots2 ++ added) log2 (demands ++ more) (point_at slots log demands)
  past_now solved entries =
      let l : drop (length log) log ≡ [] = grind (arith, common_steps) in
      let all : take (length slots) (rolled slots (drop (length log) log)) ≡ slots = ap (λ d. take (length slots) (rolled slots d)) l ∙ take-length slots in
      record {
        few_variables = omega (arith, same_length, length-append slots2 added);
        few_writes = longer_log;
        few_demands = omega (arith, length-append demands more);
        solved = subst (λ s. IsSolved s (take (length demands) (demands ++ more))) (sym (first_back (length slots) (length log) (omega arith) (omega arith) ∙ all))
            (subst (λ d. IsSolved slots d) (sym (take-append_seam demands more)) solved);
        entries = subst (λ l. All (EntryIn (length slots)) l) (sym (older_log (length log) (omega arith) ∙ take-length log)) entries;
      }

  -- a call adds writes, variables and demands, and the point before it
  pub kept_more : (history : List Point) → IsKept slots log demands history → IsSolved (slots2 ++ added) (demands ++ more) → IsKept (slots2 ++ added) log2 (demands ++ more) (history ++ point_at slots log demands ∷ [])
  kept_more history kept solved = record {
    solved = solved;
    entries = subst (λ l. All (EntryIn (length (slots2 ++ added))) l) (sym logged.log_is)
        (entries_more (length slots) (length (slots2 ++ added)) (omega (arith, same_length, length-append slots2 added)) (log ++ logged.newer)
        (All-append (EntryIn (length slots)) log logged.newer kept.entries logged.inside));
    past = All-push (IsPast (slots2 ++ added) log2 (demands ++ more)) history (point_at slots log demands)
        (All-weaker (IsPast slots log demands) (IsPast (slots2 ++ added) log2 (demands ++ more)) past_more history kept.past) (past_now kept.solved kept.entries);
    ordered = all_pairs_push IsBefore history (point_at slots log demands) kept.ordered (λ k d h. before (get_or history k d) (kept.past k d h));
  }
    where
      before : (p : Point) → IsPast slots log demands p → IsBefore p (point_at slots log demands)
      before p past = record { variables = past.few_variables; writes = past.few_writes; demands = past.few_demands }

-- what was held earlier stays
earlier_more : (demands more : List Demand) (history : List Point) → All (λ p. p.demands ≤ length demands) history → earlier (demands ++ more) history ≡ earlier demands history
earlier_more demands more [] h = refl
earlier_more demands more (p ∷ ps) h =
    let one : take p.demands (demands ++ more) ≡ take p.demands demands = take-append-le p.demands demands more (All-head (λ q. q.demands ≤ length demands) p ps h) in
    let rest : earlier (demands ++ more) ps ≡ earlier demands ps = earlier_more demands more ps (All-tail (λ q. q.demands ≤ length demands) p ps h) in
    cc

earlier-push : (demands : List Demand) (history : List Point) (p : Point) → earlier demands (history ++ p ∷ []) ≡ earlier demands history ++ record { count = p.variables; demands = take p.demands demands } ∷ []
earlier-push demands [] p = refl
earlier-push demands (q ∷ history) p = ap (λ t. record { count = q.variables; demands = take q.demands demands } ∷ t) (earlier-push demands history p)

few_demands_all : (slots : List Slot) (log : List Entry) (demands : List Demand) (history : List Point) → IsKept slots log demands history → All (λ p. p.demands ≤ length demands) history
few_demands_all slots log demands history kept = All-weaker (IsPast slots log demands) (λ p. p.demands ≤ length demands) (λ p past. past.few_demands) history kept.past

pub earlier_with : (slots : List Slot) (log : List Entry) (demands more : List Demand) (history : List Point) → IsKept slots log demands history → earlier (demands ++ more) (history ++ point_at slots log demands ∷ []) ≡ earlier demands history ++ record { count = length slots; demands = demands } ∷ []
earlier_with slots log demands more history kept =
    let rest : earlier (demands ++ more) history ≡ earlier demands history = earlier_more demands more history (few_demands_all slots log demands history kept) in
    let last : take (length demands) (demands ++ more) ≡ demands = take-append_seam demands more in
    earlier-push (demands ++ more) history (point_at slots log demands)
    ∙ (ap (λ t. t ++ record { count = length slots; demands = take (length demands) (demands ++ more) } ∷ []) rest
    ∙ ap (λ d. earlier demands history ++ record { count = length slots; demands = d } ∷ []) last)

pub earlier_length : (demands : List Demand) (history : List Point) → length (earlier demands history) ≡ length history
earlier_length demands [] = refl
earlier_length demands (p ∷ history) = ap suc (earlier_length demands history)

module _ (slots : List Slot) (log : List Entry) (demands : List Demand) (history : List Point) (kept : IsKept slots log demands history) (p : Point) (past : IsPast slots log demands p) where
  back_length : length (take p.variables (rolled slots (drop p.writes log))) ≡ p.variables
  back_length = length-take-le p.variables (rolled slots (drop p.writes log)) (omega (arith, past.few_variables, rolled_length slots (drop p.writes log)))

  past_back : (q : Point) → IsPast slots log demands q → IsBefore q p → IsPast (take p.variables (rolled slots (drop p.writes log))) (take p.writes log) (take p.demands demands) q
  past_back q old before =
      let split : drop q.writes log ≡ drop q.writes (take p.writes log) ++ drop p.writes log = drop_split q.writes p.writes log before.writes past.few_writes in
      let slots_same : take q.variables (rolled (take p.variables (rolled slots (drop p.writes log))) (drop q.writes (take p.writes log))) ≡ take q.variables (rolled slots (drop q.writes log)) =
      take_rolled q.variables (take p.variables (rolled slots (drop p.writes log))) (drop q.writes (take p.writes log))
      ∙ (ap (λ s. rolled s (drop q.writes (take p.writes log))) (take-take q.variables p.variables (rolled slots (drop p.writes log)) before.variables)
      ∙ (sym (take_rolled q.variables (rolled slots (drop p.writes log)) (drop q.writes (take p.writes log)))
      ∙ ap (take q.variables) (sym (rolled-append slots (drop q.writes (take p.writes log)) (drop p.writes log)) ∙ ap (λ d. rolled slots d) (sym split)))) in
      record {
        few_variables = omega (arith, before.variables, back_length);
        few_writes = omega (arith, before.writes, length-take-le p.writes log past.few_writes);
        few_demands = omega (arith, before.demands, length-take-le p.demands demands past.few_demands);
        solved = subst (λ s. IsSolved s (take q.demands (take p.demands demands))) (sym slots_same)
            (subst (λ d. IsSolved (take q.variables (rolled slots (drop q.writes log))) d) (sym (take-take q.demands p.demands demands before.demands)) old.solved);
        entries = subst (λ l. All (EntryIn q.variables) l) (sym (take-take q.writes p.writes log before.writes)) old.entries;
      }

  pub kept_back : (k : ℕ) → k < length history → p ≡ get_or history k p → IsKept (take p.variables (rolled slots (drop p.writes log))) (take p.writes log) (take p.demands demands) (take k history)
  kept_back k h is =
      let front : take k history ++ drop k history ≡ history = take-append-drop k history in
      let count : length (take k history) ≡ k = length-take-le k history (omega arith) in
      let read : (j : ℕ) (d : Point) → j < k → get_or history j d ≡ get_or (take k history) j d =
      λ j d low. ap (λ t. get_or t j d) (sym front) ∙ get_or-append (take k history) (drop k history) d j (omega (arith, count)) in
      record {
        solved = past.solved;
        entries = subst (λ n. All (EntryIn n) (take p.writes log)) (sym back_length) past.entries;
        past = λ j d low.
            let below : j < k = omega (arith, count) in
            past_back (get_or (take k history) j d)
            (subst (λ q. IsPast slots log demands q) (read j d below) (kept.past j d (omega arith)))
            (subst (λ q. IsBefore (get_or (take k history) j d) q) (default_free k d h is) (subst (λ q. IsBefore q (get_or history k d)) (read j d below) (kept.ordered j k d below h)));
        ordered = AllPairs-left IsBefore (take k history) (drop k history) (subst (λ t. AllPairs IsBefore t) (sym front) kept.ordered);
      }
    where
      default_free : (k : ℕ) (d : Point) → k < length history → p ≡ get_or history k p → get_or history k d ≡ p
      default_free k d h is = sym (get_or_read history k p h is d)

earlier_take : (k : ℕ) (demands : List Demand) (history : List Point) → take k (earlier demands history) ≡ earlier demands (take k history)
earlier_take zero demands history = refl
earlier_take (suc k) demands [] = refl
earlier_take (suc k) demands (q ∷ history) = ap (λ t. record { count = q.variables; demands = take q.demands demands } ∷ t) (earlier_take k demands history)

earlier_less : (n : ℕ) (demands : List Demand) (history : List Point) → All (λ q. q.demands ≤ n) history → earlier (take n demands) history ≡ earlier demands history
earlier_less n demands [] h = refl
earlier_less n demands (q ∷ history) h =
    let one : take q.demands (take n demands) ≡ take q.demands demands = take-take q.demands n demands (All-head (λ r. r.demands ≤ n) q history h) in
    let rest : earlier (take n demands) history ≡ earlier demands history = earlier_less n demands history (All-tail (λ r. r.demands ≤ n) q history h) in
    cc

earlier_at : (demands : List Demand) (history : List Point) (k : ℕ) (p : Point) (d : Held) → k < length history → p ≡ get_or history k p → get_or (earlier demands history) k d ≡ record { count = p.variables; demands = take p.demands demands }
earlier_at demands [] k p d h is = absurd (omega arith)
earlier_at demands (q ∷ history) zero p d h is = ap (λ (r : Point). record { count = r.variables; demands = take r.demands demands }) (sym is)
earlier_at demands (q ∷ history) (suc k) p d h is = earlier_at demands history k p d (omega arith) is

-- what callers see after going back
pub seen_back : (slots : List Slot) (log : List Entry) (demands : List Demand) (history : List Point) (k : ℕ) (p : Point) → IsKept slots log demands history → k < length history → p ≡ get_or history k p → (s : Seen) → s ≡ record { count = length slots; demands = demands; past = earlier demands history } → record { count = length (take p.variables (rolled slots (drop p.writes log))); demands = take p.demands demands; past = earlier (take p.demands demands) (take k history) } ≡ back_at s k
seen_back slots log demands history k p kept h is s seen_is =
    let past : IsPast slots log demands p = subst (λ q. IsPast slots log demands q) (sym is) (kept.past k p h) in
    let at : held_at s k ≡ record { count = p.variables; demands = take p.demands demands } =
    ap (λ (t : Seen). held_at t k) seen_is
    ∙ (get_or-append (earlier demands history) (record { count = length slots; demands = demands } ∷ []) (record { count = length slots; demands = demands }) k (omega (arith, earlier_length demands history))
    ∙ earlier_at demands history k p (record { count = length slots; demands = demands }) h is) in
    let count : length (take p.variables (rolled slots (drop p.writes log))) ≡ (held_at s k).count = back_length slots log demands history kept p past ∙ sym (ap (λ (t : Held). t.count) at) in
    let held_demands : take p.demands demands ≡ (held_at s k).demands = sym (ap (λ (t : Held). t.demands) at) in
    let old_past : earlier (take p.demands demands) (take k history) ≡ take k s.past =
    earlier_less p.demands demands (take k history) (few k p h is)
    ∙ (sym (earlier_take k demands history) ∙ sym (ap (λ (t : Seen). take k t.past) seen_is)) in
    ap (λ n. record { count = n; demands = take p.demands demands; past = earlier (take p.demands demands) (take k history) }) count
    ∙ (ap (λ d. record { count = (held_at s k).count; demands = d; past = earlier (take p.demands demands) (take k history) }) held_demands
    ∙ ap (λ t. record { count = (held_at s k).count; demands = (held_at s k).demands; past = t }) old_past)
  where
    few : (k : ℕ) (p : Point) → k < length history → p ≡ get_or history k p → All (λ q. q.demands ≤ p.demands) (take k history)
    few k p h is j d low =
        let count : length (take k history) ≡ k = length-take-le k history (omega arith) in
        let below : j < k = omega (arith, count) in
        let read : get_or history j d ≡ get_or (take k history) j d =
        ap (λ t. get_or t j d) (sym (take-append-drop k history)) ∙ get_or-append (take k history) (drop k history) d j low in
        let before : IsBefore (get_or history j d) (get_or history k d) = kept.ordered j k d below h in
        let last : get_or history k d ≡ p = sym (get_or_read history k p h is d) in
        omega (arith, ap (λ (q : Point). q.demands) read, ap (λ (q : Point). q.demands) last, before.demands)

module _ (slots : List Slot) (log : List Entry) (demands : List Demand) (history : List Point) (kept : IsKept slots log demands history) (p : Point) (is : p ≡ point_at slots log demands) where
  -- a free variable more
  pub kept_variable : (s : Slot) (slots3 : List Slot) (history3 : List Point) → slots3 ≡ slots ++ s ∷ [] → history3 ≡ history ++ p ∷ [] → IsSolved (slots ++ s ∷ []) demands → IsKept slots3 log demands history3
  kept_variable s slots3 history3 e f solved =
      let nil : demands ++ [] ≡ demands = append-nil demands in
      let all : IsKept (slots ++ s ∷ []) log (demands ++ []) (history ++ point_at slots log demands ∷ []) =
      kept_more slots slots (s ∷ []) log log demands [] (logged_nothing slots log) history kept (subst (λ d. IsSolved (slots ++ s ∷ []) d) (sym nil) solved) in
      let there : IsKept (slots ++ s ∷ []) log demands (history ++ point_at slots log demands ∷ []) = subst (λ d. IsKept (slots ++ s ∷ []) log d (history ++ point_at slots log demands ∷ [])) nil all in
      let same : history ++ point_at slots log demands ∷ [] ≡ history3 = ap (λ q. history ++ q ∷ []) (sym is) ∙ sym f in
      subst (λ t. IsKept t log demands history3) (sym e) (subst (λ t. IsKept (slots ++ s ∷ []) log demands t) same there)

  pub seen_variable : (s : Slot) (slots3 : List Slot) (history3 : List Point) → slots3 ≡ slots ++ s ∷ [] → history3 ≡ history ++ p ∷ [] → record { count = length slots3; demands = demands; past = earlier demands history3 } ≡ with_variable (record { count = length slots; demands = demands; past = earlier demands history })
  seen_variable s slots3 history3 e f =
      let nil : demands ++ [] ≡ demands = append-nil demands in
      let count : length slots3 ≡ length slots + 1 = ap length e ∙ length-append slots (s ∷ []) in
      let same : history3 ≡ history ++ point_at slots log demands ∷ [] = f ∙ ap (λ q. history ++ q ∷ []) is in
      let past : earlier demands history3 ≡ earlier demands history ++ record { count = length slots; demands = demands } ∷ [] =
      ap (earlier demands) same ∙ (ap (λ d. earlier d (history ++ point_at slots log demands ∷ [])) (sym nil) ∙ earlier_with slots log demands [] history kept) in
      let one : ℕ → Seen = λ n. record { count = n; demands = demands; past = earlier demands history3 } in
      let two : List Held → Seen = λ t. record { count = length slots + 1; demands = demands; past = t } in
      ap one count ∙ ap two past

  pub kept_node : (s : Slot) (d : Demand) (slots3 : List Slot) (demands3 : List Demand) (history3 : List Point) → slots3 ≡ slots ++ s ∷ [] → demands3 ≡ demands ++ d ∷ [] → history3 ≡ history ++ p ∷ [] → IsSolved (slots ++ s ∷ []) (demands ++ d ∷ []) → IsKept slots3 log demands3 history3
  kept_node s d slots3 demands3 history3 e g f solved =
      let all : IsKept (slots ++ s ∷ []) log (demands ++ d ∷ []) (history ++ point_at slots log demands ∷ []) =
      kept_more slots slots (s ∷ []) log log demands (d ∷ []) (logged_nothing slots log) history kept solved in
      let same : history ++ point_at slots log demands ∷ [] ≡ history3 = ap (λ q. history ++ q ∷ []) (sym is) ∙ sym f in
      subst (λ t. IsKept t log demands3 history3) (sym e) (subst (λ t. IsKept (slots ++ s ∷ []) log t history3) (sym g) (subst (λ t. IsKept (slots ++ s ∷ []) log (demands ++ d ∷ []) t) same all))

  pub seen_node : (s : Slot) (a : VarId) (t : Term) (slots3 : List Slot) (demands3 : List Demand) (history3 : List Point) → slots3 ≡ slots ++ s ∷ [] → demands3 ≡ demands ++ demand.Is a t ∷ [] → history3 ≡ history ++ p ∷ [] → record { count = length slots3; demands = demands3; past = earlier demands3 history3 } ≡ with_node (record { count = length slots; demands = demands; past = earlier demands history }) a t
  seen_node s a t slots3 demands3 history3 e g f =
      let count : length slots3 ≡ length slots + 1 = ap length e ∙ length-append slots (s ∷ []) in
      let same : history3 ≡ history ++ point_at slots log demands ∷ [] = f ∙ ap (λ q. history ++ q ∷ []) is in
      let past : earlier demands3 history3 ≡ earlier demands history ++ record { count = length slots; demands = demands } ∷ [] =
      ap (earlier demands3) same ∙ (ap (λ d. earlier d (history ++ point_at slots log demands ∷ [])) g ∙ earlier_with slots log demands (demand.Is a t ∷ []) history kept) in
      let one : ℕ → Seen = λ n. record { count = n; demands = demands3; past = earlier demands3 history3 } in
      let two : List Held → Seen = λ u. record { count = length slots + 1; demands = demands3; past = u } in
      let three : List Demand → Seen = λ d. record { count = length slots + 1; demands = d; past = earlier demands history ++ record { count = length slots; demands = demands } ∷ [] } in
      ap one count ∙ (ap two past ∙ ap three g)

  pub kept_demands : (more : List Demand) (slots2 slots3 : List Slot) (log2 : List Entry) (demands3 : List Demand) (history3 : List Point) → IsLogged slots log slots2 log2 → slots3 ≡ slots2 → demands3 ≡ demands ++ more → history3 ≡ history ++ p ∷ [] → IsSolved slots2 (demands ++ more) → IsKept slots3 log2 demands3 history3
  kept_demands more slots2 slots3 log2 demands3 history3 logged e g f solved =
      let nil : slots2 ++ [] ≡ slots2 = append-nil slots2 in
      let all : IsKept (slots2 ++ []) log2 (demands ++ more) (history ++ point_at slots log demands ∷ []) =
      kept_more slots slots2 [] log log2 demands more logged history kept (subst (λ t. IsSolved t (demands ++ more)) (sym nil) solved) in
      let same : history ++ point_at slots log demands ∷ [] ≡ history3 = ap (λ q. history ++ q ∷ []) (sym is) ∙ sym f in
      subst (λ t. IsKept t log2 demands3 history3) (nil ∙ sym e) (subst (λ t. IsKept (slots2 ++ []) log2 t history3) (sym g) (subst (λ t. IsKept (slots2 ++ []) log2 (demands ++ more) t) same all))

  pub seen_demands : (more : List Demand) (slots3 : List Slot) (demands3 : List Demand) (history3 : List Point) → length slots3 ≡ length slots → demands3 ≡ demands ++ more → history3 ≡ history ++ p ∷ [] → record { count = length slots3; demands = demands3; past = earlier demands3 history3 } ≡ with_demands (record { count = length slots; demands = demands; past = earlier demands history }) more
  seen_demands more slots3 demands3 history3 count g f =
      let same : history3 ≡ history ++ point_at slots log demands ∷ [] = f ∙ ap (λ q. history ++ q ∷ []) is in
      let past : earlier demands3 history3 ≡ earlier demands history ++ record { count = length slots; demands = demands } ∷ [] =
      ap (earlier demands3) same ∙ (ap (λ x. earlier x (history ++ point_at slots log demands ∷ [])) g ∙ earlier_with slots log demands more history kept) in
      let one : ℕ → Seen = λ n. record { count = n; demands = demands3; past = earlier demands3 history3 } in
      let two : List Held → Seen = λ u. record { count = length slots; demands = demands3; past = u } in
      let three : List Demand → Seen = λ x. record { count = length slots; demands = x; past = earlier demands history ++ record { count = length slots; demands = demands } ∷ [] } in
      ap one count ∙ (ap two past ∙ ap three g)

pub nothing_kept : IsKept [] [] [] []
nothing_kept = record {
  solved = nothing_solved;
  entries = All-nil (EntryIn 0);
  past = All-nil (IsPast [] [] []);
  ordered = λ i j d h k. absurd (omega arith);
}
