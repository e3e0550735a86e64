-- What slots name stays noted: after writes, with a variable more, and after going back.
use Rattle.std.proofs.Common.{◌≡◌, ◌∙◌, ℕ, ◌+◌, ◌-◌, ◌<◌, ◌≤◌, ◌⊎◌, inl, inr, List, [], ◌∷◌, ◌++◌, Bool, false, length, get_or, take, drop, sym, ap, subst, arith, refl}
use Rattle.std.proofs.Math.ListN.{length-append, get_or-append, get_or-eq_default}
use Rattle.std.proofs.lemmas.Bool.{cases_lt}
use Rattle.std.proofs.lemmas.List.{length-take-le, take-append-drop, get_or_default}
use Rattle.std.proofs.lemmas.List.Elements.{All-append, All-nil, All-take, All-weaker, All-push, All-cons, All-head, All-tail, All-set, All-drop}
use Rattle.std.specs.List.{All}
use Rattle.abc_unify.specs.declared.kind.Kind.TheVariants.{Free}
use Rattle.abc_unify.specs.declared.kind.Slot.{Slot}
use Rattle.abc_unify.specs.declared.kind.Slot.TheVariants.{Root}
use Rattle.abc_unify.specs.declared.log.Entry.{Entry}
use Rattle.abc_terms.specs.declared.term.VarId.{VarId}
use Rattle.abc_terms.specs.Nodes.{AreIn}
use Rattle.abc_unify.specs.inner.Slots.{SlotsIn, SlotIn}
use Rattle.abc_unify.specs.inner.Logs.{rolled, EntryIn, IsLogged}
use Rattle.abc_unify.specs.inner.Naming.{slot_names, IsNamed, NamesNoted, AreNoted, HasGrown}
use Rattle.abc_unify.proofs.Among.{names_in}
use Rattle.abc_unify.proofs.Logging.{rolled_length, since}
use Rattle.abc_unify.proofs.Ranking.{unwritten}
use Rattle.abc_unify.proofs.Named.{slot_noted, still_noted}

-- all is noted still where more is
pub noted_more : (slots : List Slot) (log : List Entry) (named named2 : List Bool) → AreNoted slots log named → HasGrown named named2 → AreNoted slots log named2
noted_more slots log named named2 noted grown = record {
  room = grown.same_length ∙ noted.room;
  now = All-weaker (NamesNoted named) (NamesNoted named2) (still_noted named named2 grown.kept) slots noted.now;
  before = All-weaker (λ e. NamesNoted named e.was) (λ e. NamesNoted named2 e.was) (λ e n. still_noted named named2 grown.kept e.was n) log noted.before;
}

-- after writes, where what they left and took away is noted
pub noted_after : (slots slots2 : List Slot) (log log2 : List Entry) (named named2 : List Bool) (logged : IsLogged slots log slots2 log2) → AreNoted slots log named → HasGrown named named2 → All (λ e. NamesNoted named2 (get_or slots2 e.at.0 (Root Free))) logged.newer → All (λ e. NamesNoted named2 e.was) logged.newer → AreNoted slots2 log2 named2
noted_after slots slots2 log log2 named named2 logged noted grown now before = record {
  room = grown.same_length ∙ (noted.room ∙ (ap length (sym logged.back) ∙ rolled_length slots2 logged.newer));
  now = λ i d low. subst (λ s. NamesNoted named2 s) (read i d low) (here i (unwritten slots2 logged.newer i (λ j. NamesNoted named2 (get_or slots2 j (Root Free))) now));
  before = subst (λ l. All (λ e. NamesNoted named2 e.was) l) (sym logged.log_is)
      (All-append (λ e. NamesNoted named2 e.was) log logged.newer (All-weaker (λ e. NamesNoted named e.was) (λ e. NamesNoted named2 e.was) (λ e n. still_noted named named2 grown.kept e.was n) log noted.before) before);
}
  where
    read : (i : ℕ) (d : Slot) → i < length slots2 → get_or slots2 i (Root Free) ≡ get_or slots2 i d
    read i d low = get_or_default slots2 i (Root Free) d low

    here : (i : ℕ) → (NamesNoted named2 (get_or slots2 i (Root Free)) ⊎ (get_or (rolled slots2 logged.newer) i (Root Free) ≡ get_or slots2 i (Root Free))) → NamesNoted named2 (get_or slots2 i (Root Free))
    here i (inl there) = there
    here i (inr same) =
        let old : NamesNoted named2 (get_or slots i (Root Free)) = still_noted named named2 grown.kept (get_or slots i (Root Free)) (slot_noted named slots noted.now i) in
        subst (λ s. NamesNoted named2 s) (ap (λ t. get_or t i (Root Free)) (sym logged.back) ∙ same) old

-- the same of the end of the log
pub noted_since : (slots slots2 : List Slot) (log log2 whole : List Entry) (n : ℕ) (named named2 : List Bool) (logged : IsLogged slots log slots2 log2) → n ≡ length log → whole ≡ log2 → AreNoted slots log named → HasGrown named named2 → All (λ e. NamesNoted named2 (get_or slots2 e.at.0 (Root Free))) (take (length whole - n) (drop n whole)) → All (λ e. NamesNoted named2 e.was) (take (length whole - n) (drop n whole)) → AreNoted slots2 log2 named2
noted_since slots slots2 log log2 whole n named named2 logged count is noted grown now before =
    let newer : take (length whole - n) (drop n whole) ≡ logged.newer = since log logged.newer whole n count (is ∙ logged.log_is) in
    noted_after slots slots2 log log2 named named2 logged noted grown
    (subst (λ l. All (λ e. NamesNoted named2 (get_or slots2 e.at.0 (Root Free))) l) newer now)
    (subst (λ l. All (λ e. NamesNoted named2 e.was) l) newer before)

-- the end of the log is of variables that were made
pub written_since : (slots slots2 : List Slot) (log log2 whole : List Entry) (n : ℕ) (logged : IsLogged slots log slots2 log2) → n ≡ length log → whole ≡ log2 → All (EntryIn (length slots2)) (take (length whole - n) (drop n whole))
written_since slots slots2 log log2 whole n logged count is =
    let newer : take (length whole - n) (drop n whole) ≡ logged.newer = since log logged.newer whole n count (is ∙ logged.log_is) in
    let same : length slots ≡ length slots2 = ap length (sym logged.back) ∙ rolled_length slots2 logged.newer in
    subst (λ l. All (EntryIn (length slots2)) l) (sym newer) (subst (λ m. All (EntryIn m) logged.newer) same logged.inside)

-- the same lists by other names
pub noted_as : (slots slots2 : List Slot) (log : List Entry) (named named2 : List Bool) → slots2 ≡ slots → named2 ≡ named → AreNoted slots log named → AreNoted slots2 log named2
noted_as slots slots2 log named named2 e f noted = subst (λ xs. AreNoted xs log named2) (sym e) (subst (λ ns. AreNoted slots log ns) (sym f) noted)

-- a variable more, whose slot is noted
pub noted_push : (slots : List Slot) (log : List Entry) (named named2 : List Bool) (s : Slot) → AreNoted slots log named → HasGrown (named ++ false ∷ []) named2 → NamesNoted named2 s → AreNoted (slots ++ s ∷ []) log named2
noted_push slots log named named2 s noted grown here = record {
  room = grown.same_length ∙ (length-append named (false ∷ []) ∙ (ap (λ n. n + 1) noted.room ∙ sym (length-append slots (s ∷ []))));
  now = All-push (NamesNoted named2) slots s (All-weaker (NamesNoted named) (NamesNoted named2) (still_noted named named2 longer) slots noted.now) here;
  before = All-weaker (λ e. NamesNoted named e.was) (λ e. NamesNoted named2 e.was) (λ e n. still_noted named named2 longer e.was n) log noted.before;
}
  where
    longer : (x : ℕ) → IsNamed named x → IsNamed named2 x
    longer x n = elim (cases_lt x (length named)) [
      | inl low ↦ grown.kept x (get_or-append named (false ∷ []) false x low ∙ n)
      | inr high ↦ absurd (let out : get_or named x false ≡ false = get_or-eq_default named false high in cc)
    ]

rolled_noted : (named : List Bool) (slots : List Slot) (log : List Entry) → All (NamesNoted named) slots → All (λ e. NamesNoted named e.was) log → All (NamesNoted named) (rolled slots log)
rolled_noted named slots [] now before = now
rolled_noted named slots (e ∷ log) now before =
    All-set (NamesNoted named) (rolled slots log) e.at.0 e.was (All-head (λ d. NamesNoted named d.was) e log before) (rolled_noted named slots log now (All-tail (λ d. NamesNoted named d.was) e log before))

module _ (named : List Bool) (c : ℕ) (few : c ≤ length named) where
  named_first : (x : ℕ) → x < c → IsNamed named x → IsNamed (take c named) x
  named_first x h n =
      let count : length (take c named) ≡ c = length-take-le c named few in
      sym (get_or-append (take c named) (drop c named) false x (omega (arith, h, count))) ∙ (ap (λ l. get_or l x false) (take-append-drop c named) ∙ n)

  names_first : (xs : List VarId) → AreIn c xs → All (λ x. IsNamed named x.0) xs → All (λ x. IsNamed (take c named) x.0) xs
  names_first [] i n = All-nil (λ x. IsNamed (take c named) x.0)
  names_first (x ∷ xs) i n = All-cons (λ y. IsNamed (take c named) y.0) x xs (named_first x.0 i.0 (All-head (λ y. IsNamed named y.0) x xs n)) (names_first xs i.1 (All-tail (λ y. IsNamed named y.0) x xs n))

  slot_first : (i : ℕ) → i < c → (s : Slot) → SlotIn c i s → NamesNoted named s → NamesNoted (take c named) s
  slot_first i h s inside n = names_first (slot_names s) (names_in c i h s inside) n

-- what slots name is noted after going back to the first c variables and the first w writes
pub noted_back : (slots : List Slot) (log : List Entry) (named : List Bool) (c w : ℕ) → c ≤ length slots → AreNoted slots log named → SlotsIn (take c (rolled slots (drop w log))) → All (EntryIn c) (take w log) → AreNoted (take c (rolled slots (drop w log))) (take w log) (take c named)
noted_back slots log named c w few noted inside entries = record {
  room = length-take-le c named in_named ∙ sym count;
  now = λ i d low.
      let h : i < c = omega (arith, low, count) in
      let n : NamesNoted named (get_or (take c back) i (Root Free)) = slot_noted named (take c back) (All-take (NamesNoted named) c back all) i in
      let s : SlotIn c i (get_or (take c back) i (Root Free)) = subst (λ m. SlotIn m i (get_or (take c back) i (Root Free))) count (inside i) in
      subst (λ s. NamesNoted (take c named) s) (get_or_default (take c back) i (Root Free) d low) (slot_first named c in_named i h (get_or (take c back) i (Root Free)) s n);
  before = λ k d low. entry_first (get_or (take w log) k d) (entries k d low) (All-take (λ e. NamesNoted named e.was) w log noted.before k d low);
}
  where
    back : List Slot
    back = rolled slots (drop w log)

    in_named : c ≤ length named
    in_named = omega (arith, few, noted.room)

    count : length (take c (rolled slots (drop w log))) ≡ c
    count = length-take-le c (rolled slots (drop w log)) (omega (arith, few, rolled_length slots (drop w log)))

    all : All (NamesNoted named) (rolled slots (drop w log))
    all = rolled_noted named slots (drop w log) noted.now (All-drop (λ e. NamesNoted named e.was) w log noted.before)

    entry_first : (e : Entry) → EntryIn c e → NamesNoted named e.was → NamesNoted (take c named) e.was
    entry_first e i n = slot_first named c in_named e.at.0 i.0 e.was i.1 n

pub nothing_noted : AreNoted [] [] []
nothing_noted = record {
  room = refl;
  now = All-nil (NamesNoted []);
  before = All-nil (λ e. NamesNoted [] e.was);
}
