-- Lines as they are cut out of bytes, and bytes that are cut into them.
use Rattle.std.proofs.Common.{◌≡◌, ⊎_elim, ℕ, zero, suc, ◌+◌, ◌<◌, ◌≤◌, Bool, true, false, List, [], ◌∷◌, ◌++◌, length, take, nat_lt, Option, Some, None, inl, refl, sym, ◌∙◌, ap, subst, arith, append_assoc, length-append, length-take}
use Rattle.std.specs.Prelude.{◌==◌, if◌then◌else◌, IfSome}
use Rattle.std.proofs.lemmas.List.{append-nil, take-append-le, take-take}
use Rattle.std.proofs.lemmas.Bool.{cases_lt, lt-ltb, le-ltb}
use Rattle.abc_num.specs.Lines.{line_feed, carriage_return, HasNoLf, without_cr, first_bytes, raw_line}
use Rattle.abc_num.specs.declared.limits.TheConstants.{MOST_LINE_BYTES}
use Rattle.abc_num.specs.declared.lines.RawLine.{RawLine}
use Rattle.abc_num.proofs.LineCuts.{dropped_cr}
use Rattle.abc_outside.specs.Lines.{IsFirst}
use Rattle.abc_reader.specs.Reading.{IsRaw, as_bytes, bytes_of}
use Rattle.abc_reader.specs.inner.LineReading.{Front, front_of, shown, TookPart, HasFront, IsLast}
use Rattle.abc_reader.specs.declared.line.Gathered.{Gathered}
use Rattle.abc_reader.proofs.Started.{all-append}

-- the line that is read grows by bytes without an LF
pub front_on : (old new : Front) (pending rest : List ℕ) → HasFront old → TookPart pending rest old new false → HasFront new
front_on old new pending rest front part = record { bytes = front.bytes ++ part.part; no_lf = all-append front.bytes part.part front.no_lf part.no_lf; is = part.grows front.bytes front.is }

pub front_found : (old new : Front) (pending rest : List ℕ) → HasFront old → TookPart pending rest old new true → HasFront new
front_found old new pending rest front part = record { bytes = front.bytes ++ part.part; no_lf = all-append front.bytes part.part front.no_lf part.no_lf; is = part.grows front.bytes front.is }

pub raw_front : (front : Front) (line : RawLine) → HasFront front → ((bytes : List ℕ) → front ≡ front_of bytes → line ≡ raw_line bytes) → IsRaw line
raw_front front line has made = (has.bytes, has.no_lf, made has.bytes has.is)

pub raw_last : (found : Option RawLine) (line : Gathered) → HasFront (shown line) → IsLast line found → IfSome found IsRaw
raw_last None line has is = tt
raw_last (Some last) line has is = raw_front (shown line) last has is.0

-- what is left of bytes without an LF has none
no_lf_taken : (n : ℕ) (bytes : List ℕ) → HasNoLf bytes → HasNoLf (take n bytes)
no_lf_taken zero bytes none = tt
no_lf_taken (suc n) [] none = tt
no_lf_taken (suc n) (b ∷ bytes) none = (none.0, no_lf_taken n bytes none.1)

no_lf_without : (bytes : List ℕ) → HasNoLf bytes → HasNoLf (without_cr bytes)
no_lf_without [] none = tt
no_lf_without (b ∷ []) none = by_cr (b == carriage_return)
  where
    by_cr : (t : Bool) → HasNoLf (if t then [] else b ∷ [])
    by_cr true = tt
    by_cr false = none
no_lf_without (b ∷ (c ∷ bytes)) none = (none.0, no_lf_without (c ∷ bytes) none.1)

-- the text of a line, with a byte for those that were dropped
abbrev kept_text : RawLine → List ℕ
kept_text line = line.bytes ++ (if line.long then 0 ∷ [] else [])

ne_lf : (b : ℕ) → b ≡ 0 → b ≡ line_feed → ⊥
ne_lf b zero_is is = absurd (omega (arith, zero_is, is))

no_lf_filler : (long : Bool) → HasNoLf (if long then 0 ∷ [] else [])
no_lf_filler true = (λ is. ne_lf 0 refl is, tt)
no_lf_filler false = tt

first_again : (n : ℕ) (text : List ℕ) → take n (take n text ++ (if nat_lt n (length text) then 0 ∷ [] else [])) ≡ take n text
first_again n text = ⊎_elim
    (λ (long : n < length text).
    ap (λ b. take n (take n text ++ (if b then 0 ∷ [] else []))) (lt-ltb n (length text) long)
    ∙ take-append-le n (take n text) (0 ∷ []) (omega (arith, length-take n text, long)) ∙ take-take n n text (omega arith))
    (λ (short : length text ≤ n).
    ap (λ b. take n (take n text ++ (if b then 0 ∷ [] else []))) (le-ltb n (length text) short)
    ∙ ap (λ (l : List ℕ). take n l) (append-nil (take n text)) ∙ take-take n n text (omega arith)) (cases_lt n (length text))

long_again : (n : ℕ) (text : List ℕ) → nat_lt n (length (take n text ++ (if nat_lt n (length text) then 0 ∷ [] else []))) ≡ nat_lt n (length text)
long_again n text = ⊎_elim
    (λ (long : n < length text).
    let is = lt-ltb n (length text) long in
    let many : n < length (take n text ++ 0 ∷ []) = omega (arith, length-append (take n text) (0 ∷ []), length-take n text, long) in
    ap (λ b. nat_lt n (length (take n text ++ (if b then 0 ∷ [] else [])))) is ∙ lt-ltb n (length (take n text ++ 0 ∷ [])) many ∙ sym is)
    (λ (short : length text ≤ n).
    let is = le-ltb n (length text) short in
    let few : length (take n text ++ []) ≤ n = omega (arith, length-append (take n text) [], length-take n text, short) in
    ap (λ b. nat_lt n (length (take n text ++ (if b then 0 ∷ [] else [])))) is ∙ le-ltb n (length (take n text ++ [])) few ∙ sym is) (cases_lt n (length text))

-- it is cut out of the bytes that stand for it
cut_again : (text : List ℕ) → raw_line (kept_text (raw_line text) ++ carriage_return ∷ []) ≡ raw_line text
cut_again text =
    let bytes = without_cr text in
    let first = first_again MOST_LINE_BYTES bytes in
    let long = long_again MOST_LINE_BYTES bytes in
    ap first_bytes (dropped_cr (kept_text (raw_line text))) ∙ (λ i. record { bytes = first i; long = long i })

-- a line that is cut out of bytes is the first of those that stand for it, whatever follows
pub first_cut : (line : RawLine) (rest : List ℕ) (goes : Bool) → IsRaw line → IsFirst (record { bytes = bytes_of (line ∷ []) ++ rest; ends = goes }) line (record { bytes = rest; ends = goes })
first_cut line rest goes raw =
    let text : List ℕ = kept_text line ++ carriage_return ∷ [] in
    record {
      text = text;
      no_lf = all-append (kept_text line) (carriage_return ∷ [])
          (subst (λ (l : RawLine). HasNoLf (kept_text l)) (sym raw.2)
          (all-append (raw_line raw.0).bytes (if (raw_line raw.0).long then 0 ∷ [] else []) (no_lf_taken MOST_LINE_BYTES (without_cr raw.0) (no_lf_without raw.0 raw.1)) (no_lf_filler (raw_line raw.0).long)))
          (λ is. absurd (omega (arith, is)), tt);
      is_line = raw.2 ∙ sym (cut_again raw.0) ∙ ap (λ (l : RawLine). raw_line (kept_text l ++ carriage_return ∷ [])) (sym raw.2);
      ends = refl;
      behind = inl (ap (λ (l : List ℕ). l ++ rest) (append-nil (as_bytes line))
          ∙ ap (λ (l : List ℕ). l ++ rest) (sym (append_assoc (kept_text line) (carriage_return ∷ []) (line_feed ∷ []))) ∙ append_assoc text (line_feed ∷ []) rest);
    }
