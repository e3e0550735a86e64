-- A line that is being read.
use Rattle.std.proofs.Common.{◌≡◌, ℕ, zero, suc, ◌+◌, ◌-◌, ◌<◌, ◌≤◌, Bool, true, false, List, [], ◌∷◌, ◌++◌, length, take, drop, refl, sym, ◌∙◌, ap, arith, append_assoc, length-append, length-drop, take-append-drop, nat_lt, Option, Some, None, MatchOption}
use Rattle.std.specs.Prelude.{IfSome}
use Rattle.std.proofs.lemmas.List.{append-nil, length-take-le, take_all, take_at, drop_at, drop-drop}
use Rattle.std.proofs.lemmas.Bool.{lt-ltb}
use Rattle.abc_num.specs.Lines.{HasNoLf, raw_line, raw_lines}
use Rattle.abc_num.specs.declared.lines.RawLine.{RawLine}
use Rattle.abc_num.proofs.LineCuts.{lines_ended, lines_last, lines_open}
use Rattle.abc_reader.specs.Reading.{UsesLines}
use Rattle.abc_reader.specs.inner.LineReading.{Front, front_of, TookPart, WantsLine, IsLast, shown}
use Rattle.abc_reader.specs.declared.line.Gathered.{Gathered}

-- Since these bytes were pending and these left, more were taken; a line has the first of them, which hold no LF.
pub record IsStarted (pending left : List ℕ) (taken : ℕ) (line : Front) (pending_now left_now : List ℕ) (taken_now : ℕ) : Type 0 where
  pub bytes : List ℕ
  pub more : ℕ
  pub within : more ≤ length left
  pub count : taken_now ≡ taken + more
  pub held : pending ++ take more left ≡ bytes ++ pending_now
  pub rest : left_now ≡ drop more left
  pub no_lf : HasNoLf bytes
  pub line_is : line ≡ front_of bytes

pub all-append : (xs ys : List ℕ) → HasNoLf xs → HasNoLf ys → HasNoLf (xs ++ ys)
all-append [] ys p q = q
all-append (x ∷ xs) ys p q = (p.0, all-append xs ys p.1 q)

take-nil : (k : ℕ) (none : List ℕ) → none ≡ [] → [] ≡ none ++ take k none
take-nil zero none is = sym (ap (λ (l : List ℕ). l ++ []) is)
take-nil (suc k) none is = sym (ap (λ (l : List ℕ). l ++ take (suc k) l) is)

pub take-add : (m n : ℕ) (xs : List ℕ) → take (m + n) xs ≡ take m xs ++ take n (drop m xs)
take-add zero n xs = let e : zero + n ≡ n = omega arith in ap (λ k. take k xs) e
take-add (suc m) n [] = let e : suc m + n ≡ suc (m + n) = omega arith in ap (λ (k : ℕ). take k []) e ∙ take-nil n [] refl
take-add (suc m) n (x ∷ xs) = let e : suc m + n ≡ suc (m + n) = omega arith in ap (λ k. take k (x ∷ xs)) e ∙ ap (λ (l : List ℕ). x ∷ l) (take-add m n xs)

module _ (p0 l0 : List ℕ) (t0 : ℕ) (line : Front) (pending left : List ℕ) (taken : ℕ) (s : IsStarted p0 l0 t0 line pending left taken) where
  pub total : taken + length left ≡ t0 + length l0
  total = omega (arith, s.within, s.count, ap length s.rest, length-drop s.more l0)

  -- the bytes up to the bound, from the start of the line on
  pub all : (bound : ℕ) → taken ≤ bound → p0 ++ take (bound - t0) l0 ≡ s.bytes ++ (pending ++ take (bound - taken) left)
  all bound le =
      let room : bound - t0 ≡ s.more + (bound - taken) = omega (arith, s.count, le) in
      ap (λ n. p0 ++ take n l0) room ∙ ap (λ (l : List ℕ). p0 ++ l) (take-add s.more (bound - taken) l0) ∙ sym (append_assoc p0 (take s.more l0) (take (bound - taken) (drop s.more l0)))
      ∙ ap (λ (l : List ℕ). l ++ take (bound - taken) (drop s.more l0)) s.held ∙ ap (λ (l : List ℕ). (s.bytes ++ pending) ++ take (bound - taken) l) (sym s.rest)
      ∙ append_assoc s.bytes pending (take (bound - taken) left)

  -- the pending bytes end the line
  pub found : (new : List ℕ) (line_new : Front) (last : RawLine) (bound : ℕ) → taken ≤ bound → TookPart pending new line line_new true → ((bytes : List ℕ) → line_new ≡ front_of bytes → last ≡ raw_line bytes)
      → raw_lines (nat_lt (t0 + length l0) bound) (p0 ++ take (bound - t0) l0) ≡ last ∷ raw_lines (nat_lt (taken + length left) bound) (new ++ take (bound - taken) left)
  found new line_new last bound le part made =
      let ends = nat_lt (t0 + length l0) bound in
      let later = new ++ take (bound - taken) left in
      let split : p0 ++ take (bound - t0) l0 ≡ (s.bytes ++ part.part) ++ 10 ∷ later =
      all bound le ∙ ap (λ (l : List ℕ). s.bytes ++ (l ++ take (bound - taken) left)) part.split
      ∙ ap (λ (l : List ℕ). s.bytes ++ l) (append_assoc part.part (10 ∷ new) (take (bound - taken) left)) ∙ sym (append_assoc s.bytes part.part (10 ∷ later)) in
      ap (λ (l : List ℕ). raw_lines ends l) split ∙ lines_ended (s.bytes ++ part.part) later ends (all-append s.bytes part.part s.no_lf part.no_lf)
      ∙ ap (λ (l : RawLine). l ∷ raw_lines ends later) (sym (made (s.bytes ++ part.part) (part.grows s.bytes s.line_is))) ∙ ap (λ n. last ∷ raw_lines (nat_lt n bound) later) (sym total)

  -- and the line is used with its LF
  pub uses : (new : List ℕ) (line_new : Front) (last : RawLine) → TookPart pending new line line_new true → ((bytes : List ℕ) → line_new ≡ front_of bytes → last ≡ raw_line bytes) → UsesLines p0 l0 t0 new left taken (last ∷ [])
  uses new line_new last part made =
      let bytes : List ℕ = s.bytes ++ part.part in
      let held_long : length p0 + s.more ≡ length s.bytes + length pending =
      omega (arith, ap length s.held, length-append p0 (take s.more l0), length-append s.bytes pending, length-take-le s.more l0 s.within) in
      let pending_long : length pending ≡ length part.part + (1 + length new) = omega (arith, ap length part.split, length-append part.part (10 ∷ new)) in
      record {
        bytes = bytes ++ 10 ∷ [];
        cut = λ ends more.
            ap (raw_lines ends) (append_assoc bytes (10 ∷ []) more) ∙ lines_ended bytes more ends (all-append s.bytes part.part s.no_lf part.no_lf)
            ∙ ap (λ (l : RawLine). l ∷ raw_lines ends more) (sym (made bytes (part.grows s.bytes s.line_is)));
        split = ap (λ (l : List ℕ). p0 ++ l) (sym (take-append-drop s.more l0)) ∙ sym (append_assoc p0 (take s.more l0) (drop s.more l0))
            ∙ ap (λ (l : List ℕ). l ++ drop s.more l0) s.held ∙ ap (λ (l : List ℕ). (s.bytes ++ pending) ++ l) (sym s.rest)
            ∙ ap (λ (l : List ℕ). (s.bytes ++ l) ++ left) part.split ∙ ap (λ (l : List ℕ). l ++ left) (sym (append_assoc s.bytes part.part (10 ∷ new)))
            ∙ append_assoc bytes (10 ∷ new) left ∙ sym (append_assoc bytes (10 ∷ []) (new ++ left));
        count = omega (arith, s.count, held_long, pending_long, length-append s.bytes part.part, length-append bytes (10 ∷ []));
      }

  -- the pending bytes don't end it
  pub went_on : (new : List ℕ) (line_new : Front) → TookPart pending new line line_new false → IsStarted p0 l0 t0 line_new [] left taken
  went_on new line_new part = record {
    bytes = s.bytes ++ part.part;
    more = s.more;
    within = s.within;
    count = s.count;
    held = s.held ∙ ap (λ (l : List ℕ). s.bytes ++ l) (part.split ∙ append-nil part.part) ∙ sym (append-nil (s.bytes ++ part.part));
    rest = s.rest;
    no_lf = all-append s.bytes part.part s.no_lf part.no_lf;
    line_is = part.grows s.bytes s.line_is;
  }

  -- nothing is pending, and more is read
  pub read_on : (new left_new : List ℕ) (taken_new : ℕ) → pending ≡ [] → left ≡ new ++ left_new → taken_new ≡ taken + length new → IsStarted p0 l0 t0 line new left_new taken_new
  read_on new left_new taken_new none bytes count =
      let rest_long : length left ≡ length new + length left_new = omega (arith, ap length bytes, length-append new left_new) in
      let piece : take (length new) (drop s.more l0) ≡ new = ap (λ (l : List ℕ). take (length new) l) (sym s.rest ∙ bytes) ∙ take_at new left_new (length new) refl in
      record {
        bytes = s.bytes;
        more = s.more + length new;
        within = omega (arith, s.within, ap length s.rest, length-drop s.more l0, rest_long);
        count = omega (arith, s.count, count);
        held = ap (λ (l : List ℕ). p0 ++ l) (take-add s.more (length new) l0) ∙ sym (append_assoc p0 (take s.more l0) (take (length new) (drop s.more l0)))
            ∙ ap (λ (l : List ℕ). l ++ take (length new) (drop s.more l0)) (s.held ∙ ap (λ (l : List ℕ). s.bytes ++ l) none ∙ append-nil s.bytes) ∙ ap (λ (l : List ℕ). s.bytes ++ l) piece;
        rest = sym (drop_at new left_new (length new) refl) ∙ ap (λ (l : List ℕ). drop (length new) l) (sym bytes ∙ s.rest) ∙ drop-drop (length new) s.more l0;
        no_lf = s.no_lf;
        line_is = s.line_is;
      }

  -- nothing is pending: no whole line is in hand
  pub wants : pending ≡ [] → WantsLine p0 l0 t0 taken
  wants none = (s.more, s.count, s.within, ap (λ (l : List ℕ). raw_lines false l) (s.held ∙ ap (λ (l : List ℕ). s.bytes ++ l) none ∙ append-nil s.bytes) ∙ lines_open s.bytes s.no_lf)

  whole : (bound : ℕ) → taken < bound → pending ≡ [] → left ≡ [] → raw_lines (nat_lt (t0 + length l0) bound) (p0 ++ take (bound - t0) l0) ≡ raw_lines true s.bytes
  whole bound lt none end =
      let ends : nat_lt (t0 + length l0) bound ≡ true = lt-ltb (t0 + length l0) bound (omega (arith, lt, total, ap length end)) in
      let tail : take (bound - taken) left ≡ [] = take_all (bound - taken) left (omega (arith, ap length end)) ∙ end in
      ap (λ e. raw_lines e (p0 ++ take (bound - t0) l0)) ends
      ∙ ap (λ (l : List ℕ). raw_lines true l) (all bound (omega (arith, lt)) ∙ ap (λ (l : List ℕ). s.bytes ++ (l ++ take (bound - taken) left)) none ∙ ap (λ (l : List ℕ). s.bytes ++ l) tail ∙ append-nil s.bytes)

  -- the input ends: without a byte there is no line
  pub ends_empty : (bound : ℕ) → taken < bound → pending ≡ [] → left ≡ [] → length line.bytes ≡ 0 → raw_lines (nat_lt (t0 + length l0) bound) (p0 ++ take (bound - t0) l0) ≡ []
  ends_empty bound lt none end empty = whole bound lt none end ∙ by_bytes s.bytes (ap (λ (l : Front). length l.bytes) (sym s.line_is) ∙ empty)
    where
      by_bytes : (bytes : List ℕ) → length (front_of bytes).bytes ≡ 0 → raw_lines true bytes ≡ []
      by_bytes [] empty = refl
      by_bytes (b ∷ bs) empty = absurd (omega (arith, empty))

  -- with one they are the last line
  pub ends_line : (bound : ℕ) (last : RawLine) → taken < bound → pending ≡ [] → left ≡ [] → ((bytes : List ℕ) → line ≡ front_of bytes → last ≡ raw_line bytes) → (length line.bytes ≡ 0 → ⊥)
      → raw_lines (nat_lt (t0 + length l0) bound) (p0 ++ take (bound - t0) l0) ≡ last ∷ []
  ends_line bound last lt none end made some =
      whole bound lt none end ∙ by_bytes s.bytes s.no_lf (λ empty. some (ap (λ (l : Front). length l.bytes) s.line_is ∙ empty)) ∙ ap (λ (l : RawLine). l ∷ []) (sym (made s.bytes s.line_is))
    where
      by_bytes : (bytes : List ℕ) → HasNoLf bytes → (length (front_of bytes).bytes ≡ 0 → ⊥) → raw_lines true bytes ≡ raw_line bytes ∷ []
      by_bytes [] none some = absurd (some refl)
      by_bytes (b ∷ bs) none some = lines_last b bs none

pub last_found : (found : Option RawLine) (line : Gathered) (before later : List RawLine) (ended : Bool) → IsLast line found → (length line.bytes.items ≡ 0 → before ≡ [])
    → ((last : RawLine) → ((bytes : List ℕ) → shown line ≡ front_of bytes → last ≡ raw_line bytes) → (length line.bytes.items ≡ 0 → ⊥) → before ≡ last ∷ []) → later ≡ [] → ended ≡ true
    → MatchOption found ((before ≡ []) × (later ≡ []) × (ended ≡ true)) (λ last. before ≡ last ∷ later)
last_found None line before later ended is none some end over = (none is, end, over)
last_found (Some last) line before later ended is none some end over = some last is.0 is.1 ∙ ap (λ ls. last ∷ ls) (sym end)

-- of every line that is found
pub if_found : {A : Type 0} (found : Option A) (P : A → Type 0) → ((x : A) → P x) → IfSome found P
if_found None P each = tt
if_found (Some x) P each = each x

pub none_left : (pending left : List ℕ) (ends : Bool) (n : ℕ) → pending ≡ [] → left ≡ [] → raw_lines ends (pending ++ take n left) ≡ []
none_left pending left ends n none end =
    ap (λ (l : List ℕ). raw_lines ends (l ++ take n left)) none ∙ ap (λ (l : List ℕ). raw_lines ends l) (take_all n left (omega (arith, ap length end)) ∙ end)
