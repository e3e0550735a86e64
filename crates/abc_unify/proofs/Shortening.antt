-- A link that is led past the next one changes nothing but the way.
use Rattle.std.proofs.Common.{◌≡◌, ℕ, ◌+◌, ◌-◌, ◌<◌, ◌≤◌, List, length, drop, get_or, set, sym, ◌∙◌, ap, subst, arith, refl, get_or-set_other}
use Rattle.std.proofs.Math.ListN.{length-set, length-drop, get_or-append}
use Rattle.std.proofs.lemmas.List.{get_or-drop}
use Rattle.std.proofs.lemmas.List.Sums.{sum_by-set}
use Rattle.std.specs.List.{All}
use Rattle.abc_num.specs.declared.types.Ground.{Ground}
use Rattle.abc_terms.specs.declared.term.VarId.{VarId}
use Rattle.abc_unify.specs.declared.kind.Kind.TheVariants.{Free}
use Rattle.abc_unify.specs.declared.kind.Slot.{Slot}
use Rattle.abc_unify.specs.declared.kind.Slot.TheVariants.{Link, Root}
use Rattle.abc_unify.specs.declared.kind.Constraint.{Constraint}
use Rattle.abc_unify.specs.declared.log.Entry.{Entry}
use Rattle.abc_unify.specs.inner.Logs.{EntryIn, IsLogged}
use Rattle.abc_unify.specs.inner.Slots.{SlotHolds, Meets, SlotsIn, SlotIn, IsShortened, LeadsPast, KeepsSolutions, slot_weight}
use Rattle.abc_unify.proofs.Steps.{Meets-at_set, Meets-set, Meets-unset, SlotsIn-set}

pub shortened_nothing : (slots : List Slot) → SlotsIn slots → IsShortened slots slots
shortened_nothing slots inside = record {
  same_length = refl;
  inside = inside;
  onward = λ v m. m;
  back = λ v m. m;
  same_weight = refl;
}

pub shortened_then : (s s2 s3 : List Slot) → IsShortened s s2 → IsShortened s2 s3 → IsShortened s s3
shortened_then s s2 s3 one two = record {
  same_length = two.same_length ∙ one.same_length;
  inside = two.inside;
  onward = λ v m. two.onward v (one.onward v m);
  back = λ v m. one.back v (two.back v m);
  same_weight = two.same_weight ∙ one.same_weight;
}

-- two links in a row fall
pub past_below : (slots : List Slot) (a : ℕ) (beyond : VarId) → SlotsIn slots → LeadsPast slots a beyond → beyond.0 < a
past_below slots a beyond inside (next, one, two) =
    let first : next.0 < a = subst (λ s. SlotIn (length slots) a s) one (inside a) in
    let second : beyond.0 < next.0 = subst (λ s. SlotIn (length slots) next.0 s) two (inside next.0) in
    omega arith

pub halved : (slots : List Slot) (a : ℕ) (beyond : VarId) → a < length slots → SlotsIn slots → LeadsPast slots a beyond → IsShortened slots (set slots a (Link beyond))
halved slots a beyond h inside (next, one, two) = record {
  same_length = length-set slots a (Link beyond);
  inside = SlotsIn-set slots a (Link beyond) h inside low;
  onward = λ v m. Meets-set v slots a (Link beyond) h m (first v m ∙ second v m);
  back = λ v m. Meets-unset v slots a (Link beyond) m (subst (λ s. SlotHolds v (v a) s) (sym one) (Meets-at_set v slots a (Link beyond) h m ∙ sym (second_kept v m)));
  same_weight =
      let was : slot_weight (get_or slots a (Root Free)) ≡ 0 = ap slot_weight one in
      omega (arith, was, sum_by-set slot_weight slots a (Link beyond) (Root Free) h);
}
  where
    fall : next.0 < a
    fall = subst (λ s. SlotIn (length slots) a s) one (inside a)

    low : beyond.0 < a
    low = past_below slots a beyond inside (next, one, two)

    first : (v : ℕ → Ground) → Meets v slots → v a ≡ v next.0
    first v m = subst (λ s. SlotHolds v (v a) s) one (m a)

    second : (v : ℕ → Ground) → Meets v slots → v next.0 ≡ v beyond.0
    second v m = subst (λ s. SlotHolds v (v next.0) s) two (m next.0)

    second_kept : (v : ℕ → Ground) → Meets v (set slots a (Link beyond)) → v next.0 ≡ v beyond.0
    second_kept v m = subst (λ s. SlotHolds v (v next.0) s) (get_or-set_other slots a next.0 (Link beyond) (Root Free) (λ e. absurd (omega (arith, fall, e))) ∙ two) (m next.0)

pub shortened_keeps : (slots slots2 : List Slot) (work : List Constraint) → IsShortened slots slots2 → KeepsSolutions slots work slots2 work
shortened_keeps slots slots2 work short = record {
  onward = λ v m w. (short.onward v m, w);
  back = λ v m w. (short.back v m, w);
}

-- an entry of the end of a log that has grown since
pub written_at : (slots slots2 : List Slot) (log log2 : List Entry) (n from i : ℕ) (d : Entry) → All (EntryIn n) (drop from log) → IsLogged slots log slots2 log2 → from ≤ i → i < length log → EntryIn n (get_or log2 i d)
written_at slots slots2 log log2 n from i d written logged low high =
    let place : from + (i - from) ≡ i = omega arith in
    let count : i - from < length (drop from log) = omega (arith, length-drop from log) in
    let there : get_or (drop from log) (i - from) d ≡ get_or log i d = get_or-drop from log (i - from) d ∙ ap (λ j. get_or log j d) place in
    let same : get_or log2 i d ≡ get_or log i d = ap (λ l. get_or l i d) logged.log_is ∙ get_or-append log logged.newer d i high in
    subst (EntryIn n) (there ∙ sym same) (written (i - from) d count)
