-- A write with its entry is undone by the log.
use Rattle.std.proofs.Common.{◌≡◌, ℕ, zero, suc, ◌≤◌, ◌<◌, ◌-◌, List, [], ◌∷◌, ◌++◌, length, get_or, set, take, drop, sym, ◌∙◌, ap, subst, arith, refl, append_assoc}
use Rattle.std.proofs.Math.ListN.{length-set}
use Rattle.std.proofs.lemmas.Grind.{common_steps}
use Rattle.std.proofs.lemmas.List.Elements.{All-append, All-cons, All-nil}
use Rattle.std.specs.List.{All}
use Rattle.abc_unify.specs.declared.kind.Kind.TheVariants.{Free}
use Rattle.abc_unify.specs.declared.kind.Slot.{Slot}
use Rattle.abc_unify.specs.declared.kind.Slot.TheVariants.{Root}
use Rattle.abc_unify.specs.declared.log.Entry.{Entry}
use Rattle.abc_unify.specs.inner.Slots.{SlotIn, SlotsIn}
use Rattle.abc_unify.specs.inner.Logs.{rolled, EntryIn, IsLogged}

pub rolled-append : (slots : List Slot) (older newer : List Entry) → rolled slots (older ++ newer) ≡ rolled (rolled slots newer) older
rolled-append slots [] newer = refl
rolled-append slots (e ∷ older) newer = ap (λ s. set s e.at.0 e.was) (rolled-append slots older newer)

pub rolled_length : (slots : List Slot) (log : List Entry) → length (rolled slots log) ≡ length slots
rolled_length slots [] = refl
rolled_length slots (e ∷ log) = length-set (rolled slots log) e.at.0 e.was ∙ rolled_length slots log

set_back : (slots : List Slot) (i : ℕ) (x : Slot) → set (set slots i x) i (get_or slots i (Root Free)) ≡ slots
set_back [] i x = refl
set_back (s ∷ slots) zero x = refl
set_back (s ∷ slots) (suc i) x = ap (λ t. s ∷ t) (set_back slots i x)

pub logged_nothing : (slots : List Slot) (log : List Entry) → IsLogged slots log slots log
logged_nothing slots log = record {
  newer = [];
  log_is = grind (arith, common_steps);
  back = refl;
  inside = All-nil (EntryIn (length slots));
}

pub logged_write : (slots : List Slot) (log : List Entry) (i : ℕ) (x : Slot) (e : Entry) → i < length slots → e.at.0 ≡ i → e.was ≡ get_or slots i (Root Free) → SlotsIn slots → IsLogged slots log (set slots i x) (log ++ e ∷ [])
logged_write slots log i x e h at was slots_in = record {
  newer = e ∷ [];
  log_is = refl;
  back = ap (λ j. set (set slots i x) j e.was) at ∙ (ap (λ y. set (set slots i x) i y) was ∙ set_back slots i x);
  inside = All-cons (EntryIn (length slots)) e [] (subst (λ j. j < length slots) (sym at) h, subst (λ j. SlotIn (length slots) j e.was) (sym at) (subst (λ t. SlotIn (length slots) i t) (sym was) (slots_in i))) (All-nil (EntryIn (length slots)));
}

pub logged_then : (s : List Slot) (l : List Entry) (s2 : List Slot) (l2 : List Entry) (s3 : List Slot) (l3 : List Entry) → IsLogged s l s2 l2 → IsLogged s2 l2 s3 l3 → IsLogged s l s3 l3
logged_then s l s2 l2 s3 l3 one two =
    let count : length s ≡ length s2 = ap length (sym one.back) ∙ rolled_length s2 one.newer in
    record {
      newer = one.newer ++ two.newer;
      log_is = two.log_is ∙ (ap (λ x. x ++ two.newer) one.log_is ∙ (simp append_assoc));
      back = rolled-append s3 one.newer two.newer ∙ (ap (λ x. rolled x one.newer) two.back ∙ one.back);
      inside = All-append (EntryIn (length s)) one.newer two.newer one.inside (subst (λ n. All (EntryIn n) two.newer) (sym count) two.inside);
    }

pub popped : (slots : List Slot) (rest : List Entry) (e : Entry) (k : ℕ) → k ≤ length rest → rolled (set slots e.at.0 e.was) (drop k rest) ≡ rolled slots (drop k (rest ++ e ∷ []))
popped slots rest e k h =
    let d : drop k (rest ++ e ∷ []) ≡ drop k rest ++ e ∷ [] = grind (arith, common_steps) in
    sym (ap (λ l. rolled slots l) d ∙ rolled-append slots (drop k rest) (e ∷ []))

pub taken : (rest : List Entry) (e : Entry) (k : ℕ) → k ≤ length rest → take k rest ≡ take k (rest ++ e ∷ [])
taken rest e k h = grind (arith, common_steps)

-- the end of a log
pub since : (log newer whole : List Entry) (n : ℕ) → n ≡ length log → whole ≡ log ++ newer → take (length whole - n) (drop n whole) ≡ newer
since log newer whole n h e = grind (arith, common_steps)
