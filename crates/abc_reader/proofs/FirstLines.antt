-- The line that is read is the first of what no line has used.
use Rattle.std.proofs.Common.{◌≡◌, inl, inr, ℕ, zero, suc, ◌+◌, ◌-◌, ◌<◌, ◌≤◌, Bool, true, false, List, [], ◌∷◌, ◌++◌, length, length-append, length-take, length-drop, take, drop, take-append-drop, refl, sym, ◌∙◌, ap, subst, arith, append_assoc, nat_lt, Option, Some, None}
use Rattle.std.specs.Prelude.{IfSome, IfNone, OnErr, Result, Ok, Err}
use Rattle.std.proofs.lemmas.List.{append-nil, take_all}
use Rattle.std.proofs.lemmas.Bool.{lt-ltb, le-ltb}
use Rattle.abc_num.specs.Lines.{HasNoLf, raw_line}
use Rattle.abc_num.specs.declared.lines.RawLine.{RawLine}
use Rattle.abc_outside.specs.Lines.{Unread, IsFirst, IsOver, IsWithinLine}
use Rattle.abc_reader.specs.inner.LineReading.{Front, going_on, pending_of, used_of, Consumes, ConsumesOpen, front_of, TookPart, IsLast, shown}
use Rattle.abc_reader.specs.declared.line.Gathered.{Gathered}
use Rattle.abc_reader.specs.declared.line_reader.LineReader.{LineReader}
use Rattle.abc_reader.proofs.Started.{IsStarted, all-append, total, all}

-- of these bytes up to the bound
abbrev unread : List ℕ → List ℕ → ℕ → ℕ → Unread
unread pending left taken bound = record { bytes = pending ++ take (bound - taken) left; ends = nat_lt (taken + length left) bound }

-- the bytes that were used and those that are pending are those that were taken
pub counted : (r : LineReader) → used_of r + length (pending_of r) ≡ r.taken
counted r = omega (arith, length-take (r.to - r.from) (drop r.from r.piece.items), length-drop r.from r.piece.items, r.in_piece, r.in_order, r.were_taken)

no_bytes : (bytes : List ℕ) → length (front_of bytes).bytes ≡ 0 → bytes ≡ []
no_bytes [] empty = refl
no_bytes (b ∷ bs) empty = absurd (omega (arith, empty))

module _ (p0 l0 : List ℕ) (t0 : ℕ) (line : Front) (pending left : List ℕ) (taken : ℕ) (s : IsStarted p0 l0 t0 line pending left taken) where
  -- the pending bytes end the line
  pub first : (new : List ℕ) (line_new : Front) (last : RawLine) (bound taken_new bound_new : ℕ) → taken ≤ bound → taken_new ≡ taken → bound_new ≡ bound → TookPart pending new line line_new true
      → ((bytes : List ℕ) → line_new ≡ front_of bytes → last ≡ raw_line bytes) → IsFirst (unread p0 l0 t0 bound) last (unread new left taken_new bound_new)
  first new line_new last bound taken_new bound_new le same_taken same_bound part made =
      let later = new ++ take (bound - taken) left in
      let text : List ℕ = s.bytes ++ part.part in
      record {
        text = text;
        no_lf = all-append s.bytes part.part s.no_lf part.no_lf;
        is_line = made text (part.grows s.bytes s.line_is);
        ends = (λ i. nat_lt (same_taken i + length left) (same_bound i)) ∙ ap (λ n. nat_lt n bound) (total p0 l0 t0 line pending left taken s);
        behind = inl (all p0 l0 t0 line pending left taken s bound le ∙ ap (λ (l : List ℕ). s.bytes ++ (l ++ take (bound - taken) left)) part.split
            ∙ ap (λ (l : List ℕ). s.bytes ++ l) (append_assoc part.part (10 ∷ new) (take (bound - taken) left)) ∙ sym (append_assoc s.bytes part.part (10 ∷ later))
            ∙ (λ i. text ++ 10 ∷ (new ++ take (sym same_bound i - sym same_taken i) left)));
      }

  -- all bytes since are in the line, but for those that are pending
  pub since : p0 ++ l0 ≡ s.bytes ++ (pending ++ left)
  since =
      ap (λ (l : List ℕ). p0 ++ l) (sym (take-append-drop s.more l0)) ∙ sym (append_assoc p0 (take s.more l0) (drop s.more l0))
      ∙ ap (λ (l : List ℕ). l ++ drop s.more l0) s.held ∙ ap (λ (l : List ℕ). (s.bytes ++ pending) ++ l) (sym s.rest) ∙ append_assoc s.bytes pending left

  -- wherever the bound is, and whether the input ends or not
  pub first_on : (new : List ℕ) (line_new : Front) (last : RawLine) → TookPart pending new line line_new true → ((bytes : List ℕ) → line_new ≡ front_of bytes → last ≡ raw_line bytes)
      → IsFirst (going_on (p0 ++ l0)) last (going_on (new ++ left))
  first_on new line_new last part made =
      let text : List ℕ = s.bytes ++ part.part in
      record {
        text = text;
        no_lf = all-append s.bytes part.part s.no_lf part.no_lf;
        is_line = made text (part.grows s.bytes s.line_is);
        ends = refl;
        behind = inl (since ∙ ap (λ (l : List ℕ). s.bytes ++ (l ++ left)) part.split ∙ ap (λ (l : List ℕ). s.bytes ++ l) (append_assoc part.part (10 ∷ new) left)
            ∙ sym (append_assoc s.bytes part.part (10 ∷ (new ++ left))));
      }

  -- what was consumed, where so many bytes were used at first and so many now
  pub consumed_open : (used used_now : ℕ) → used + length p0 ≡ t0 → used_now + length pending ≡ taken → ConsumesOpen (p0 ++ l0) (pending ++ left) used used_now
  consumed_open used used_now was is = record {
    whole = record { bytes = s.bytes; split = since; count = omega (arith, was, is, total p0 l0 t0 line pending left taken s, ap length since, length-append p0 l0, length-append pending left, length-append s.bytes (pending ++ left)) };
    no_lf = s.no_lf;
  }

  pub consumed_found : (new : List ℕ) (line_new : Front) (used used_now : ℕ) → used + length p0 ≡ t0 → used_now + length new ≡ taken → TookPart pending new line line_new true
      → Consumes (p0 ++ l0) (new ++ left) used used_now
  consumed_found new line_new used used_now was is part =
      let text : List ℕ = s.bytes ++ part.part in
      let all : p0 ++ l0 ≡ (text ++ 10 ∷ []) ++ (new ++ left) =
      since ∙ ap (λ (l : List ℕ). s.bytes ++ (l ++ left)) part.split ∙ ap (λ (l : List ℕ). s.bytes ++ l) (append_assoc part.part (10 ∷ new) left)
      ∙ sym (append_assoc s.bytes part.part (10 ∷ (new ++ left))) ∙ sym (append_assoc text (10 ∷ []) (new ++ left)) in
      record {
        bytes = text ++ 10 ∷ [];
        split = all;
        count = omega (arith, was, is, total p0 l0 t0 line pending left taken s, ap length all, length-append p0 l0, length-append new left, length-append (text ++ 10 ∷ []) (new ++ left));
      }

  -- at the end of the input all that was unread is the front of the line
  at_end : (bound : ℕ) → taken ≤ bound → pending ≡ [] → left ≡ [] → p0 ++ take (bound - t0) l0 ≡ s.bytes
  at_end bound le none end =
      let tail : take (bound - taken) left ≡ [] = take_all (bound - taken) left (omega (arith, ap length end)) ∙ end in
      all p0 l0 t0 line pending left taken s bound le ∙ ap (λ (l : List ℕ). s.bytes ++ (l ++ take (bound - taken) left)) none ∙ ap (λ (l : List ℕ). s.bytes ++ l) tail ∙ append-nil s.bytes

  ends_there : (bound : ℕ) → taken < bound → left ≡ [] → nat_lt (t0 + length l0) bound ≡ true
  ends_there bound lt end = lt-ltb (t0 + length l0) bound (omega (arith, lt, total p0 l0 t0 line pending left taken s, ap length end))

  none_later : (new : List ℕ) (n : ℕ) → new ≡ [] → left ≡ [] → new ++ take n left ≡ []
  none_later new n none end = ap (λ (l : List ℕ). l ++ take n left) none ∙ take_all n left (omega (arith, ap length end)) ∙ end

  -- a last line without LF
  pub first_last : (new : List ℕ) (last : RawLine) (bound taken_new bound_new : ℕ) → taken < bound → pending ≡ [] → left ≡ [] → new ≡ [] → taken_new ≡ taken → bound_new ≡ bound
      → ((bytes : List ℕ) → line ≡ front_of bytes → last ≡ raw_line bytes) → (length line.bytes ≡ 0 → ⊥) → IsFirst (unread p0 l0 t0 bound) last (unread new left taken_new bound_new)
  first_last new last bound taken_new bound_new lt none end new_none same_taken same_bound made some = record {
    text = s.bytes;
    no_lf = s.no_lf;
    is_line = made s.bytes s.line_is;
    ends = (λ i. nat_lt (same_taken i + length left) (same_bound i)) ∙ ap (λ n. nat_lt n bound) (total p0 l0 t0 line pending left taken s);
    behind = inr (
      at_end bound (omega (arith, lt)) none end,
      λ empty. some (ap (λ (l : Front). length l.bytes) s.line_is ∙ ap (λ (b : List ℕ). length (front_of b).bytes) empty),
      ends_there bound lt end,
      none_later new (bound_new - taken_new) new_none end,
    );
  }

  -- the input is over
  pub over : (bound : ℕ) → taken < bound → pending ≡ [] → left ≡ [] → length line.bytes ≡ 0 → IsOver (unread p0 l0 t0 bound)
  over bound lt none end empty = (at_end bound (omega (arith, lt)) none end ∙ no_bytes s.bytes (ap (λ (l : Front). length l.bytes) (sym s.line_is) ∙ empty), ends_there bound lt end)

  pub over_stays : (new : List ℕ) (bound taken_new bound_new : ℕ) → taken < bound → pending ≡ [] → left ≡ [] → new ≡ [] → taken_new ≡ taken → bound_new ≡ bound → length line.bytes ≡ 0
      → unread new left taken_new bound_new ≡ unread p0 l0 t0 bound
  over_stays new bound taken_new bound_new lt none end new_none same_taken same_bound empty =
      let bytes : new ++ take (bound_new - taken_new) left ≡ p0 ++ take (bound - t0) l0 = none_later new (bound_new - taken_new) new_none end ∙ sym (over bound lt none end empty).0 in
      let ends : nat_lt (taken_new + length left) bound_new ≡ nat_lt (t0 + length l0) bound =
      (λ i. nat_lt (same_taken i + length left) (same_bound i)) ∙ ap (λ n. nat_lt n bound) (total p0 l0 t0 line pending left taken s) in
      λ i. record { bytes = bytes i; ends = ends i }

  -- the bound is reached within the line
  pub within : (bound : ℕ) → taken ≡ bound → pending ≡ [] → IsWithinLine (unread p0 l0 t0 bound)
  within bound at_bound none =
      let room : bound - taken ≡ 0 = omega (arith, at_bound) in
      let bytes : p0 ++ take (bound - t0) l0 ≡ s.bytes =
      all p0 l0 t0 line pending left taken s bound (omega (arith, at_bound)) ∙ ap (λ (l : List ℕ). s.bytes ++ (l ++ take (bound - taken) left)) none ∙ ap (λ n. s.bytes ++ take n left) room ∙ append-nil s.bytes in
      (subst HasNoLf (sym bytes) s.no_lf, le-ltb (t0 + length l0) bound (omega (arith, at_bound, total p0 l0 t0 line pending left taken s)))

-- of the line at the end of the input, if there is one
pub last_first : (found : Option RawLine) (line : Gathered) (P : RawLine → Type 0) → IsLast line found
    → ((last : RawLine) → ((bytes : List ℕ) → shown line ≡ front_of bytes → last ≡ raw_line bytes) → (length line.bytes.items ≡ 0 → ⊥) → P last) → IfSome found P
last_first None line P is some = tt
last_first (Some last) line P is some = some last is.0 is.1

pub none_over : (found : Option RawLine) (line : Gathered) (P : Type 0) → IsLast line found → (length line.bytes.items ≡ 0 → P) → IfNone found P
none_over None line P is none = none is
none_over (Some last) line P is none = tt

-- of every answer that is an error
pub on_error : {A E : Type 0} (r : Result A E) (P : Type 0) → P → OnErr r P
on_error (Ok x) P p = tt
on_error (Err e) P p = p
