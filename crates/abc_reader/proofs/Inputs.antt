-- The inputs that a reader may have.
use Rattle.std.proofs.Common.{◌≡◌, inl, inr, ℕ, zero, suc, ◌+◌, ◌-◌, ◌^◌, ◌≤◌, Bool, true, false, List, [], ◌∷◌, ◌++◌, length, take, Option, Some, None, refl, sym, ◌∙◌, ap, subst, arith, append_assoc, length-append}
use Rattle.std.specs.Prelude.{Result, Ok, Err, IfOk, OnOk, OnErr, IfSome, IsNone}
use Rattle.std.specs.List.{AllByRecursion}
use Rattle.std.proofs.lemmas.Bool.{false_from_ne_true}
use Rattle.std.proofs.lemmas.List.{take_at}
use Rattle.std.proofs.Math.Seq.{take-append-add}
use Rattle.abc_num.specs.Lines.{HasNoLf, line_feed, raw_lines}
use Rattle.abc_num.specs.declared.lines.RawLine.{RawLine}
use Rattle.abc_num.proofs.LineCuts.{lines_open}
use Rattle.abc_outside.specs.declared.lines.LineStop.{LineStop}
use Rattle.abc_outside.specs.Lines.{Unread, IsFirst, IsOver, IsWithinLine}
use Rattle.abc_reader.specs.Lending.{Used}
use Rattle.abc_reader.specs.Reading.{Reading, IsRaw, IsReader, MayBe, WaitsAt, bytes_of, bytes_used, ends_at, unread_in}
use Rattle.abc_reader.specs.inner.LineReading.{going_on, used_of, Consumes, ConsumesOpen}
use Rattle.abc_reader.specs.inner.LineSteps.{WantsBehind, some_line, reading_of}
use Rattle.abc_reader.specs.declared.line_reader.LineReader.{LineReader}
use Rattle.abc_reader.proofs.FirstLines.{counted}
use Rattle.abc_reader.proofs.RawLines.{first_cut}

-- the input that a reader may have after a call, it may have had before
pub may_be_before : (tells_input : Type 0) (input : Option ℕ) (old new : Reading) (left left_new : List ℕ) → bytes_used old ≤ bytes_used new → (old.ended ≡ true → new.ended ≡ true) → new.bound ≡ old.bound
    → (tells_input → new.taken + length left_new ≡ old.taken + length left) → MayBe tells_input input new left_new → MayBe tells_input input old left
may_be_before tells_input None old new left left_new used stays bound total m = m
may_be_before tells_input (Some n) old new left left_new used stays bound total m = (
  m.0,
  false_from_ne_true old.ended (λ is. absurd (cc (stays is, m.1))),
  omega (arith, used, m.2),
  omega (arith, total m.0, m.3),
  omega (arith, bound, m.4),
)

-- the front of what a line begins, cut behind it
cut_front : (old new text : List ℕ) (k j : ℕ) → old ≡ text ++ line_feed ∷ new → k ≡ length text + suc j → take k old ≡ text ++ line_feed ∷ take j new
cut_front old new text k j is count = ap (λ n. take n old) count ∙ ap (λ (l : List ℕ). take (length text + suc j) l) is ∙ take-append-add text (line_feed ∷ new) (suc j)

-- ---- a line that is read

module _ (tells_input : Type 0) (old new : Reading) (left left_new : List ℕ) where
  first_at : (n : ℕ) (line : RawLine) → IsReader old → IsReader new → bytes_used new ≤ n → new.taken + length left_new ≡ old.taken + length left
      → IsFirst (going_on (old.pending ++ left)) line (going_on (new.pending ++ left_new))
      → IsFirst (going_on (take (n - bytes_used old) (old.pending ++ left))) line (going_on (take (n - bytes_used new) (new.pending ++ left_new)))
  first_at n line is_old is_new le total first = record {
    text = first.text;
    no_lf = first.no_lf;
    is_line = first.is_line;
    ends = refl;
    behind = elim first.behind [
      | inl is ↦
          let long = ap length is in
          inl (cut_front (old.pending ++ left) (new.pending ++ left_new) first.text (n - bytes_used old) (n - bytes_used new) is
          (omega (arith, le, total, is_old.counted, is_new.counted, long, length-append old.pending left, length-append new.pending left_new, length-append first.text (line_feed ∷ (new.pending ++ left_new)))))
      | inr is ↦ absurd (cc is.2)
    ];
  }

  -- none was looked at
  pub first_read : (input : Option ℕ) (line : RawLine) → old.ahead ≡ [] → new.ahead ≡ [] → IsReader old → IsReader new → (tells_input → new.taken + length left_new ≡ old.taken + length left)
      → IsFirst (record { bytes = old.pending ++ take (old.bound - old.taken) left; ends = ends_at old left }) line (record { bytes = new.pending ++ take (new.bound - new.taken) left_new; ends = ends_at new left_new })
      → (new.ended ≡ false → IsFirst (going_on (old.pending ++ left)) line (going_on (new.pending ++ left_new)))
      → MayBe tells_input input new left_new → IsFirst (unread_in input old left) line (unread_in input new left_new)
  first_read None line none none_new is_old is_new total first first_on m =
      subst (λ (a : List RawLine). IsFirst (record { bytes = bytes_of a ++ (old.pending ++ take (old.bound - old.taken) left); ends = ends_at old left }) line (unread_in None new left_new)) (sym none)
      (subst (λ (a : List RawLine). IsFirst (record { bytes = old.pending ++ take (old.bound - old.taken) left; ends = ends_at old left }) line (record { bytes = bytes_of a ++ (new.pending ++ take (new.bound - new.taken) left_new); ends = ends_at new left_new })) (sym none_new)
      first)
  first_read (Some n) line none none_new is_old is_new total first first_on m =
      subst (λ (a : List RawLine). IsFirst (going_on (bytes_of a ++ take (n - bytes_used old) (old.pending ++ left))) line (unread_in (Some n) new left_new)) (sym none)
      (subst (λ (a : List RawLine). IsFirst (going_on (take (n - bytes_used old) (old.pending ++ left))) line (going_on (bytes_of a ++ take (n - bytes_used new) (new.pending ++ left_new)))) (sym none_new)
      (first_at n line is_old is_new m.2 (total m.0) (first_on m.1)))

  -- the end of the input
  pub over_read : (input : Option ℕ) → old.ahead ≡ [] → new.ended ≡ true
      → IsOver (record { bytes = old.pending ++ take (old.bound - old.taken) left; ends = ends_at old left })
      → MayBe tells_input input new left_new → IsOver (unread_in input old left)
  over_read None none ended over m =
      subst (λ (a : List RawLine). IsOver (record { bytes = bytes_of a ++ (old.pending ++ take (old.bound - old.taken) left); ends = ends_at old left })) (sym none) over
  over_read (Some n) none ended over m = absurd (cc (ended, m.1))

  pub over_stays_read : (input : Option ℕ) → old.ahead ≡ [] → new.ahead ≡ [] → new.ended ≡ true
      → (let was : Unread = record { bytes = old.pending ++ take (old.bound - old.taken) left; ends = ends_at old left } in record { bytes = new.pending ++ take (new.bound - new.taken) left_new; ends = ends_at new left_new } ≡ was)
      → MayBe tells_input input new left_new → unread_in input new left_new ≡ unread_in input old left
  over_stays_read None none none_new ended same m =
      ap (λ (a : List RawLine). record { bytes = bytes_of a ++ (new.pending ++ take (new.bound - new.taken) left_new); ends = ends_at new left_new }) none_new ∙ same
      ∙ ap (λ (a : List RawLine). record { bytes = bytes_of a ++ (old.pending ++ take (old.bound - old.taken) left); ends = ends_at old left }) (sym none)
  over_stays_read (Some n) none none_new ended same m = absurd (cc (ended, m.1))

-- ---- a bound within a line

no_lf_front : (k : ℕ) (bytes : List ℕ) → HasNoLf bytes → HasNoLf (take k bytes)
no_lf_front zero bytes none = tt
no_lf_front (suc k) [] none = tt
no_lf_front (suc k) (b ∷ bytes) none = (none.0, no_lf_front k bytes none.1)

-- of the front of a front
front_cut : (k m : ℕ) (xs ys : List ℕ) → k ≤ length xs + m → HasNoLf (xs ++ take m ys) → HasNoLf (take k (xs ++ ys))
front_cut zero m xs ys le none = tt
front_cut (suc k) zero [] ys le none = absurd (omega (arith, le))
front_cut (suc k) (suc m) [] [] le none = tt
front_cut (suc k) (suc m) [] (y ∷ ys) le none = (none.0, front_cut k m [] ys (omega (arith, le)) none.1)
front_cut (suc k) m (x ∷ xs) ys le none = (none.0, front_cut k m xs ys (omega (arith, le)) none.1)

pub within_read : (tells_input : Type 0) (input : Option ℕ) (old new : Reading) (left left_new : List ℕ) → old.ahead ≡ [] → IsReader old → new.bound ≡ old.bound
    → IsWithinLine (record { bytes = old.pending ++ take (old.bound - old.taken) left; ends = ends_at old left })
    → MayBe tells_input input new left_new → IsWithinLine (unread_in input old left)
within_read tells_input None old new left left_new none is_old bound within m =
    subst (λ (a : List RawLine). IsWithinLine (record { bytes = bytes_of a ++ (old.pending ++ take (old.bound - old.taken) left); ends = ends_at old left })) (sym none) within
within_read tells_input (Some n) old new left left_new none is_old bound within m =
    subst (λ (a : List RawLine). IsWithinLine (going_on (bytes_of a ++ take (n - bytes_used old) (old.pending ++ left)))) (sym none)
    (front_cut (n - bytes_used old) (old.bound - old.taken) old.pending left (omega (arith, m.4, bound, is_old.counted, is_old.within)) within.0, refl)

-- ---- a line that was looked at

pub first_ahead : (tells_input : Type 0) (input : Option ℕ) (old new : Reading) (left : List ℕ) (line : RawLine) → IsRaw line → old.ahead ≡ line ∷ [] → new.ahead ≡ [] → new.pending ≡ old.pending
    → new.taken ≡ old.taken → new.bound ≡ old.bound → bytes_used new ≡ bytes_used old → IsFirst (unread_in input old left) line (unread_in input new left)
first_ahead tells_input None old new left line raw ahead none pending taken bound used =
    let rest : List ℕ = old.pending ++ take (old.bound - old.taken) left in
    let same : record { bytes = rest; ends = ends_at old left } ≡ unread_in None new left =
    (λ i. record { bytes = bytes_of (sym none i) ++ (sym pending i ++ take (sym bound i - sym taken i) left); ends = ends_at (record { ahead = []; pending = []; used = 0; taken = sym taken i; bound = sym bound i; ended = false }) left }) in
    subst (λ (u : Unread). IsFirst (unread_in None old left) line u) same
    (subst (λ (a : List RawLine). IsFirst (record { bytes = bytes_of a ++ rest; ends = ends_at old left }) line (record { bytes = rest; ends = ends_at old left })) (sym ahead) (first_cut line rest (ends_at old left) raw))
first_ahead tells_input (Some n) old new left line raw ahead none pending taken bound used =
    let rest : List ℕ = take (n - bytes_used old) (old.pending ++ left) in
    let same : going_on rest ≡ unread_in (Some n) new left = (λ i. record { bytes = bytes_of (sym none i) ++ take (n - sym used i) (sym pending i ++ left); ends = false }) in
    subst (λ (u : Unread). IsFirst (unread_in (Some n) old left) line u) same
    (subst (λ (a : List RawLine). IsFirst (going_on (bytes_of a ++ rest)) line (going_on rest)) (sym ahead) (first_cut line rest false raw))

-- ---- where no line is to come yet

pub waits_at : (tells_input : Type 0) (r : Reading) (left : List ℕ) (n : ℕ) → tells_input → IsReader r → r.ended ≡ false → n ≤ r.bound → WantsBehind r left n → WaitsAt tells_input n r left
waits_at tells_input r left n told is going within wants =
    let none = wants.0 in
    let count : n - bytes_used r ≡ length r.pending + wants.1.0 = omega (arith, is.counted, wants.1.1) in (
      (told, going, omega (arith, is.counted, wants.1.1), omega (arith, wants.1.1, wants.1.2), within),
      ap (λ (a : List RawLine). raw_lines false (bytes_of a ++ take (n - bytes_used r) (r.pending ++ left))) none
          ∙ ap (λ k. raw_lines false (take k (r.pending ++ left))) count ∙ ap (raw_lines false) (take-append-add r.pending left wants.1.0) ∙ wants.1.3,
    )

-- ---- bytes that a call used

module _ (tells_input : Type 0) (old new : Reading) (left left_new : List ℕ) where
  -- a line that goes on in all that was consumed
  waits_in : (bytes : List ℕ) → tells_input → old.ahead ≡ [] → IsReader old → IsReader new → old.ended ≡ false → new.bound ≡ old.bound → new.taken + length left_new ≡ old.taken + length left
      → old.pending ++ left ≡ bytes ++ (new.pending ++ left_new) → bytes_used new ≡ bytes_used old + length bytes → HasNoLf bytes → WaitsAt tells_input (bytes_used new) old left
  waits_in bytes told none is_old is_new going bound total split count no_lf =
      let many : bytes_used new - bytes_used old ≡ length bytes = omega (arith, count) in (
        (told, going, omega (arith, count), omega (arith, is_new.counted, total), omega (arith, is_new.counted, is_new.within, bound)),
        ap (λ (a : List RawLine). raw_lines false (bytes_of a ++ take (bytes_used new - bytes_used old) (old.pending ++ left))) none
            ∙ ap (λ k. raw_lines false (take k (old.pending ++ left))) many ∙ ap (λ (l : List ℕ). raw_lines false (take (length bytes) l)) split
            ∙ ap (raw_lines false) (take_at bytes (new.pending ++ left_new) (length bytes) refl) ∙ lines_open bytes no_lf,
      )

  -- a line that ends
  used_line : (F : Type 0) (line : RawLine) → IsReader old → IsReader new → new.taken + length left_new ≡ old.taken + length left
      → IsFirst (going_on (old.pending ++ left)) line (going_on (new.pending ++ left_new)) → Used old left new left_new F
  used_line F line is_old is_new total first = elim first.behind [
    | inl is ↦
        let long = ap length is in
        record {
          bytes = first.text ++ line_feed ∷ [];
          split = is ∙ sym (append_assoc first.text (line_feed ∷ []) (new.pending ++ left_new));
          count = omega (arith, is_old.counted, is_new.counted, total, long, length-append old.pending left, length-append new.pending left_new, length-append first.text (line_feed ∷ (new.pending ++ left_new)), length-append first.text (line_feed ∷ []));
          whole = λ going. inl (inr (first.text, refl));
        }
    | inr is ↦ absurd (cc is.2)
  ]

  -- at the end of the input
  used_ended : (F : Type 0) → new.ended ≡ true → Consumes (old.pending ++ left) (new.pending ++ left_new) (bytes_used old) (bytes_used new) → Used old left new left_new F
  used_ended F ended c = record { bytes = c.bytes; split = c.split; count = c.count; whole = λ going. absurd (cc (ended, going)) }

  pub used_read : (r : Result (Option RawLine) LineStop) (e : Bool) → new.ended ≡ e → tells_input → old.ahead ≡ [] → IsReader old → IsReader new → (new.ended ≡ false → old.ended ≡ false) → new.bound ≡ old.bound
      → new.taken + length left_new ≡ old.taken + length left → OnOk r (Consumes (old.pending ++ left) (new.pending ++ left_new) (bytes_used old) (bytes_used new))
      → OnErr r (ConsumesOpen (old.pending ++ left) (new.pending ++ left_new) (bytes_used old) (bytes_used new))
      → IfOk r (λ found. IfSome found (λ line. new.ended ≡ false → IsFirst (going_on (old.pending ++ left)) line (going_on (new.pending ++ left_new))))
      → IfOk r (λ found. IsNone found → new.ended ≡ true) → Used old left new left_new (WaitsAt tells_input (bytes_used new) old left)
  used_read (Ok found) true is told none is_old is_new goes bound total consumes open_ first over = used_ended _ is consumes
  used_read (Ok None) false is told none is_old is_new goes bound total consumes open_ first over = absurd (cc (over refl, is))
  used_read (Ok (Some line)) false is told none is_old is_new goes bound total consumes open_ first over = used_line _ line is_old is_new total (first is)
  used_read (Err stop) e is told none is_old is_new goes bound total consumes open_ first over = record {
    bytes = open_.whole.bytes;
    split = open_.whole.split;
    count = open_.whole.count;
    whole = λ going. inr (waits_in open_.whole.bytes told none is_old is_new (goes going) bound total open_.whole.split open_.whole.count open_.no_lf);
  }

-- what holds of a reader by its parts
all_raw : (ahead : Option RawLine) → IfSome ahead IsRaw → AllByRecursion IsRaw (some_line ahead)
all_raw None raw = tt
all_raw (Some line) raw = (raw, tt)

pub reader_is : (ahead : Option RawLine) (lines : LineReader) → length (some_line ahead) ≤ used_of lines → IfSome ahead IsRaw → lines.bound ≤ 2 ^ 64 - 1 → IsReader (reading_of ahead lines)
reader_is ahead lines used raw small = record { counted = omega (arith, used, counted lines); within = lines.in_bound; small = small; raw = all_raw ahead raw }

pub reader_none : (ahead : Option RawLine) (lines : LineReader) → some_line ahead ≡ [] → lines.bound ≤ 2 ^ 64 - 1 → IsReader (reading_of ahead lines)
reader_none ahead lines none small =
    let long = ap length none in
    record { counted = omega (arith, long, counted lines); within = lines.in_bound; small = small; raw = subst (AllByRecursion IsRaw) (sym none) tt }

-- the input tells what it is
pub told_by : (tells_input : Type 0) (input : Option ℕ) (r : Reading) (left : List ℕ) → MayBe tells_input input r left → tells_input
told_by tells_input None r left m = m
told_by tells_input (Some n) r left m = m.0

pub if_both : {A : Type 0} (found : Option A) (P Q T : A → Type 0) → ((x : A) → P x → Q x → T x) → IfSome found P → IfSome found Q → IfSome found T
if_both None P Q T f p q = tt
if_both (Some x) P Q T f p q = f x p q
