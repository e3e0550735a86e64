-- Bytes that end a line, and the lines that were read in them.
use Rattle.std.proofs.Common.{◌≡◌, inl, inr, ℕ, zero, suc, ◌+◌, ◌-◌, ◌≤◌, Bool, true, false, cond, List, [], ◌∷◌, ◌++◌, length, map, take, nat_lt, Some, refl, sym, ◌∙◌, ap, subst, arith, append_assoc}
use Rattle.std.specs.Prelude.{◌==◌}
use Rattle.std.specs.List.{AllByRecursion}
use Rattle.std.proofs.lemmas.List.{append-nil, map-append, length-map, take_at}
use Rattle.std.proofs.Math.Seq.{take-append-add}
use Rattle.abc_num.specs.Lines.{line_feed, onto, cut_at_lf, raw_line, raw_lines}
use Rattle.abc_num.specs.declared.lines.RawLine.{RawLine}
use Rattle.abc_outside.proofs.Unread.{first_is_first}
use Rattle.abc_outside.specs.Lines.{lines_in}
use Rattle.abc_reader.specs.Lending.{EndsLine}
use Rattle.abc_reader.specs.Reading.{Reading, IsRaw, IsReader, as_bytes, bytes_of, bytes_used, ends_at, lines_behind, unread_in, ReadLines}
use Rattle.abc_reader.proofs.RawLines.{first_cut}

-- ---- the line that was looked at

pub lines_ahead : (ahead : List RawLine) (rest : List ℕ) (ends : Bool) → AllByRecursion IsRaw ahead → raw_lines ends (bytes_of ahead ++ rest) ≡ ahead ++ raw_lines ends rest
lines_ahead [] rest ends raw = refl
lines_ahead (line ∷ ahead) rest ends raw =
    ap (raw_lines ends) (append_assoc (as_bytes line) (bytes_of ahead) rest ∙ ap (λ (l : List ℕ). l ++ (bytes_of ahead ++ rest)) (sym (append-nil (as_bytes line))))
    ∙ first_is_first (record { bytes = bytes_of (line ∷ []) ++ (bytes_of ahead ++ rest); ends = ends }) (record { bytes = bytes_of ahead ++ rest; ends = ends }) line
    (first_cut line (bytes_of ahead ++ rest) ends raw.0)
    ∙ ap (λ ls. line ∷ ls) (lines_ahead ahead rest ends raw.1)

-- what is to come of as many bytes of the input
pub lines_at_cut : (r : Reading) (left : List ℕ) (n more : ℕ) → IsReader r → n ≡ r.taken + more → lines_in (unread_in (Some n) r left) ≡ r.ahead ++ raw_lines false (r.pending ++ take more left)
lines_at_cut r left n more is count =
    let many : n - bytes_used r ≡ length r.pending + more = omega (arith, count, is.counted) in
    lines_ahead r.ahead (take (n - bytes_used r) (r.pending ++ left)) false is.raw
    ∙ ap (λ k. r.ahead ++ raw_lines false (take k (r.pending ++ left))) many ∙ ap (λ (l : List ℕ). r.ahead ++ raw_lines false l) (take-append-add r.pending left more)

-- ---- bytes that end a line are cut by themselves

some_line : (text : List ℕ) → (line : List ℕ) × (lines : List (List ℕ)) × (cut_at_lf false (text ++ line_feed ∷ []) ≡ line ∷ lines)
some_line [] = ([], [], refl)
some_line (b ∷ text) = let rest = some_line text in by_lf (b == line_feed) rest.0 rest.1 rest.2
  where
    by_lf : (is : Bool) (line : List ℕ) (lines : List (List ℕ)) → cut_at_lf false (text ++ line_feed ∷ []) ≡ line ∷ lines
        → (first : List ℕ) × (more : List (List ℕ)) × (cond is ([] ∷ cut_at_lf false (text ++ line_feed ∷ [])) (onto false b (cut_at_lf false (text ++ line_feed ∷ []))) ≡ first ∷ more)
    by_lf true line lines e = ([], cut_at_lf false (text ++ line_feed ∷ []), refl)
    by_lf false line lines e = (b ∷ line, lines, ap (onto false b) e)

onto_first : (ends : Bool) (b : ℕ) (all front rest : List (List ℕ)) (line : List ℕ) (lines : List (List ℕ)) → all ≡ front ++ rest → front ≡ line ∷ lines → onto ends b all ≡ onto false b front ++ rest
onto_first true b all front rest line lines e f = ap (onto true b) (e ∙ ap (λ ls. ls ++ rest) f) ∙ ap (λ ls. onto false b ls ++ rest) (sym f)
onto_first false b all front rest line lines e f = ap (onto false b) (e ∙ ap (λ ls. ls ++ rest) f) ∙ ap (λ ls. onto false b ls ++ rest) (sym f)

cut_on : (text more : List ℕ) (ends : Bool) → cut_at_lf ends (text ++ line_feed ∷ more) ≡ cut_at_lf false (text ++ line_feed ∷ []) ++ cut_at_lf ends more
cut_on [] more ends = refl
cut_on (b ∷ text) more ends = by_lf (cut_on text more ends) (b == line_feed)
  where
    by_lf : cut_at_lf ends (text ++ line_feed ∷ more) ≡ cut_at_lf false (text ++ line_feed ∷ []) ++ cut_at_lf ends more
        → (is : Bool) → cond is ([] ∷ cut_at_lf ends (text ++ line_feed ∷ more)) (onto ends b (cut_at_lf ends (text ++ line_feed ∷ more)))
        ≡ cond is ([] ∷ cut_at_lf false (text ++ line_feed ∷ [])) (onto false b (cut_at_lf false (text ++ line_feed ∷ []))) ++ cut_at_lf ends more
    by_lf on true = ap (λ (ls : List (List ℕ)). [] ∷ ls) on
    by_lf on false = let first = some_line text in onto_first ends b _ _ (cut_at_lf ends more) first.0 first.1 on first.2

pub closed_cut : (bytes : List ℕ) → EndsLine bytes → (ends : Bool) (more : List ℕ) → raw_lines ends (bytes ++ more) ≡ raw_lines false bytes ++ raw_lines ends more
closed_cut bytes (inl none) ends more = ap (λ (b : List ℕ). raw_lines ends (b ++ more)) none ∙ ap (λ (b : List ℕ). raw_lines false b ++ raw_lines ends more) (sym none)
closed_cut bytes (inr line) ends more =
    let text = line.0 in
    ap (λ (b : List ℕ). raw_lines ends (b ++ more)) line.1 ∙ ap (raw_lines ends) (append_assoc text (line_feed ∷ []) more) ∙ ap (map raw_line) (cut_on text more ends)
    ∙ map-append raw_line (cut_at_lf false (text ++ line_feed ∷ [])) (cut_at_lf ends more) ∙ ap (λ (b : List ℕ). raw_lines false b ++ raw_lines ends more) (sym line.1)

-- ---- behind some bytes there are no more lines

no_fewer_onto : (ends : Bool) (b : ℕ) (lines : List (List ℕ)) → length lines ≤ length (onto ends b lines)
no_fewer_onto true b [] = omega arith
no_fewer_onto false b [] = omega arith
no_fewer_onto true b (line ∷ lines) = omega arith
no_fewer_onto false b (line ∷ lines) = omega arith

cut_behind : (bytes more : List ℕ) (ends : Bool) → length (cut_at_lf ends more) ≤ length (cut_at_lf ends (bytes ++ more))
cut_behind [] more ends = omega arith
cut_behind (b ∷ bytes) more ends = by_lf (cut_behind bytes more ends) (b == line_feed)
  where
    by_lf : length (cut_at_lf ends more) ≤ length (cut_at_lf ends (bytes ++ more)) → (is : Bool) → length (cut_at_lf ends more) ≤ length (cond is ([] ∷ cut_at_lf ends (bytes ++ more)) (onto ends b (cut_at_lf ends (bytes ++ more))))
    by_lf fewer true = omega (arith, fewer)
    by_lf fewer false = omega (arith, fewer, no_fewer_onto ends b (cut_at_lf ends (bytes ++ more)))

pub lines_behind_fewer : (bytes more : List ℕ) (ends : Bool) → length (raw_lines ends more) ≤ length (raw_lines ends (bytes ++ more))
lines_behind_fewer bytes more ends = omega (arith, cut_behind bytes more ends, length-map (cut_at_lf ends more) raw_line, length-map (cut_at_lf ends (bytes ++ more)) raw_line)

-- ---- lines that were read

module _ (old new : Reading) (left left_new : List ℕ) (is_old : IsReader old) (is_new : IsReader new) (bound : new.bound ≡ old.bound) (total : new.taken + length left_new ≡ old.taken + length left)
    (bytes : List ℕ) (split : old.pending ++ left ≡ bytes ++ (new.pending ++ left_new)) (count : bytes_used new ≡ bytes_used old + length bytes) where
  pub same_ends : ends_at new left_new ≡ ends_at old left
  same_ends = (λ i. nat_lt (total i) (bound i))

  -- up to the bound
  pub behind_split : old.pending ++ take (old.bound - old.taken) left ≡ bytes ++ (new.pending ++ take (new.bound - new.taken) left_new)
  behind_split =
      let k = length old.pending + (old.bound - old.taken) in
      let same : k ≡ length bytes + (length new.pending + (new.bound - new.taken)) = omega (arith, count, bound, is_old.counted, is_new.counted, is_old.within, is_new.within) in
      sym (take-append-add old.pending left (old.bound - old.taken)) ∙ ap (λ (l : List ℕ). take k l) split ∙ ap (λ n. take n (bytes ++ (new.pending ++ left_new))) same
      ∙ take-append-add bytes (new.pending ++ left_new) (length new.pending + (new.bound - new.taken)) ∙ ap (λ (l : List ℕ). bytes ++ l) (take-append-add new.pending left_new (new.bound - new.taken))

  -- there are no more than before
  pub fewer_behind : length (lines_behind new left_new) ≤ length (lines_behind old left)
  fewer_behind = subst (λ (b : List ℕ). length (lines_behind new left_new) ≤ length (raw_lines (ends_at old left) b)) (sym behind_split)
      (subst (λ e. length (raw_lines (ends_at new left_new) (new.pending ++ take (new.bound - new.taken) left_new)) ≤ length (raw_lines e (bytes ++ (new.pending ++ take (new.bound - new.taken) left_new)))) same_ends
      (lines_behind_fewer bytes (new.pending ++ take (new.bound - new.taken) left_new) (ends_at new left_new)))

  -- in bytes that end a line
  pub read_closed : EndsLine bytes → ReadLines old left new left_new (raw_lines false bytes)
  read_closed closed = record {
    split = ap (raw_lines (ends_at old left)) behind_split ∙ closed_cut bytes closed (ends_at old left) (new.pending ++ take (new.bound - new.taken) left_new)
        ∙ ap (λ e. raw_lines false bytes ++ raw_lines e (new.pending ++ take (new.bound - new.taken) left_new)) (sym same_ends);
    ends = same_ends;
    bytes = λ going. record { bytes = bytes; cut = closed_cut bytes closed; split = split; count = omega (arith, count, is_old.counted, is_new.counted) };
  }

  -- up to the end of the input, where it was found
  pub read_ended : (lines : List RawLine) → new.ended ≡ true → lines_behind old left ≡ lines ++ lines_behind new left_new → ReadLines old left new left_new lines
  read_ended lines ended behind = record { split = behind; ends = same_ends; bytes = λ going. absurd (cc (ended, going)) }

  -- what is to come of the bytes that were used
  pub lines_used : lines_in (unread_in (Some (bytes_used new)) old left) ≡ old.ahead ++ raw_lines false bytes
  lines_used =
      let many : bytes_used new - bytes_used old ≡ length bytes = omega (arith, count) in
      lines_ahead old.ahead (take (bytes_used new - bytes_used old) (old.pending ++ left)) false is_old.raw
      ∙ ap (λ k. old.ahead ++ raw_lines false (take k (old.pending ++ left))) many
      ∙ ap (λ (l : List ℕ). old.ahead ++ raw_lines false (take (length bytes) l)) split ∙ ap (λ (l : List ℕ). old.ahead ++ raw_lines false l) (take_at bytes (new.pending ++ left_new) (length bytes) refl)

-- behind them only the line is to come that was looked at
pub lines_unused : (r : Reading) (left : List ℕ) → IsReader r → lines_in (unread_in (Some (bytes_used r)) r left) ≡ r.ahead
lines_unused r left is =
    let none : bytes_used r - bytes_used r ≡ 0 = omega arith in
    lines_ahead r.ahead (take (bytes_used r - bytes_used r) (r.pending ++ left)) false is.raw ∙ ap (λ k. r.ahead ++ raw_lines false (take k (r.pending ++ left))) none ∙ append-nil r.ahead
