-- Lines that are held, and what the next item is when more lines follow them.
use Rattle.std.proofs.Common.{◌≡◌, ◌⊎◌, inl, inr, Bool, true, false, List, [], ◌∷◌, ◌++◌, take, Some, None, refl, ap, sym, ◌∙◌}
use Rattle.std.specs.Prelude.{if◌then◌else◌}
use Rattle.abc_num.specs.declared.lines.Line.{Line}
use Rattle.abc_num.specs.declared.lines.RawLine.{RawLine}
use Rattle.abc_layout.specs.Items.{line_of, is_blank, is_unit, opens, belongs, most_kept, Front, with_line, belonging, Next, not_yet, whole, open_item, next}
use Rattle.abc_layout.specs.SplitterView.{Open, kept, held}

-- lines before those that belong
abbrev pub with_lines : List Line → Front → Front
with_lines lines None = None
with_lines lines (Some front) = Some (lines ++ front.0, front.1)

-- an item with these lines and those that belong
abbrev pub continued : List Line → Front → Next
continued lines None = not_yet
continued lines (Some front) = whole (take most_kept (lines ++ front.0)) front.1

with_none : (front : Front) → with_lines [] front ≡ front
with_none None = refl
with_none (Some front) = refl

with_more : (line : RawLine) (lines : List Line) (front : Front) → with_line line (with_lines lines front) ≡ with_lines (line_of line ∷ lines) front
with_more line lines None = refl
with_more line lines (Some front) = refl

with_line_none : (line : RawLine) (front : Front) → with_line line front ≡ None → front ≡ None
with_line_none line None e = refl
with_line_none line (Some front) e = cc

module _ (unit : Bool) where
  -- lines that all belong, and what follows them
  belonging_on : (lines : List RawLine) → belonging false unit lines ≡ None → (ended : Bool) (rest : List RawLine) → belonging ended unit (lines ++ rest) ≡ with_lines (kept lines) (belonging ended unit rest)
  belonging_on [] e ended rest = sym (with_none (belonging ended unit rest))
  belonging_on (line ∷ lines) e ended rest = by_tests (is_blank line) (belongs unit line) refl refl (belonging_on lines)
    where
      by_tests : (x y : Bool) → is_blank line ≡ x → belongs unit line ≡ y
          → (belonging false unit lines ≡ None → (ended : Bool) (rest : List RawLine) → belonging ended unit (lines ++ rest) ≡ with_lines (kept lines) (belonging ended unit rest))
          → belonging ended unit ((line ∷ lines) ++ rest) ≡ with_lines (kept (line ∷ lines)) (belonging ended unit rest)
      by_tests true y ex ey ih =
          let open_still : belonging false unit lines ≡ None = sym (ap (λ x. if x then belonging false unit lines else (if belongs unit line then with_line line (belonging false unit lines) else Some ([], line ∷ lines))) ex) ∙ e in
          ap (λ x. if x then belonging ended unit (lines ++ rest) else (if belongs unit line then with_line line (belonging ended unit (lines ++ rest)) else Some ([], line ∷ (lines ++ rest)))) ex
          ∙ ih open_still ended rest
          ∙ ap (λ ls. with_lines ls (belonging ended unit rest)) (sym (ap (λ x. if x then kept lines else line_of line ∷ kept lines) ex))
      by_tests false true ex ey ih =
          let open_still : belonging false unit lines ≡ None = with_line_none line (belonging false unit lines)
          (sym (ap (λ x. if x then belonging false unit lines else (if belongs unit line then with_line line (belonging false unit lines) else Some ([], line ∷ lines))) ex
          ∙ ap (λ y. if y then with_line line (belonging false unit lines) else Some ([], line ∷ lines)) ey) ∙ e) in
          ap (λ x. if x then belonging ended unit (lines ++ rest) else (if belongs unit line then with_line line (belonging ended unit (lines ++ rest)) else Some ([], line ∷ (lines ++ rest)))) ex
          ∙ ap (λ y. if y then with_line line (belonging ended unit (lines ++ rest)) else Some ([], line ∷ (lines ++ rest))) ey
          ∙ ap (with_line line) (ih open_still ended rest) ∙ with_more line (kept lines) (belonging ended unit rest)
          ∙ ap (λ ls. with_lines ls (belonging ended unit rest)) (sym (ap (λ x. if x then kept lines else line_of line ∷ kept lines) ex))
      by_tests false false ex ey ih =
          let whole_now : belonging false unit (line ∷ lines) ≡ Some ([], line ∷ lines) =
          ap (λ x. if x then belonging false unit lines else (if belongs unit line then with_line line (belonging false unit lines) else Some ([], line ∷ lines))) ex
          ∙ ap (λ y. if y then with_line line (belonging false unit lines) else Some ([], line ∷ lines)) ey in cc

-- one more line that means something, or nothing
kept_push : (lines : List RawLine) (line : RawLine) → is_blank line ≡ false → kept (lines ++ line ∷ []) ≡ kept lines ++ line_of line ∷ []
kept_push [] line e = ap (λ x. if x then [] else line_of line ∷ []) e
kept_push (l ∷ lines) line e = by_test (is_blank l) (kept_push lines line e)
  where
    by_test : (x : Bool) → kept (lines ++ line ∷ []) ≡ kept lines ++ line_of line ∷ []
        → (if x then kept (lines ++ line ∷ []) else line_of l ∷ kept (lines ++ line ∷ [])) ≡ (if x then kept lines else line_of l ∷ kept lines) ++ line_of line ∷ []
    by_test true h = h
    by_test false h = ap (λ ls. line_of l ∷ ls) h

kept_blank : (lines : List RawLine) (line : RawLine) → is_blank line ≡ true → kept (lines ++ line ∷ []) ≡ kept lines
kept_blank [] line e = ap (λ x. if x then [] else line_of line ∷ []) e
kept_blank (l ∷ lines) line e = ap (λ ls. if is_blank l then ls else line_of l ∷ ls) (kept_blank lines line e)

pub held_blank : (lines : List RawLine) (line : RawLine) → is_blank line ≡ true → held (lines ++ line ∷ []) ≡ held lines
held_blank [] line e = ap (λ x. if x then held [] else record { unit = is_unit line; lines = take most_kept (line_of line ∷ []) }) e
held_blank (l ∷ lines) line e =
    ap (λ h. if is_blank l then h else record { unit = is_unit l; lines = take most_kept (line_of l ∷ kept (lines ++ line ∷ [])) }) (held_blank lines line e)
    ∙ ap (λ ls. if is_blank l then held lines else record { unit = is_unit l; lines = take most_kept (line_of l ∷ ls) }) (kept_blank lines line e)

-- only blank lines so far
pub record IsEmpty (lines : List RawLine) : Type 0 where
  pub holds : held lines ≡ record { unit = false; lines = [] }
  pub goes : (ended : Bool) (rest : List RawLine) → next ended (lines ++ rest) ≡ next ended rest
  pub more : (line : RawLine) → is_blank line ≡ false → held (lines ++ line ∷ []) ≡ record { unit = is_unit line; lines = take most_kept (line_of line ∷ []) }

-- an item is open, with these lines
pub record IsOpened (lines : List RawLine) (unit : Bool) (first : Line) (others : List Line) : Type 0 where
  pub holds : held lines ≡ record { unit = unit; lines = take most_kept (first ∷ others) }
  pub goes : (ended : Bool) (rest : List RawLine) → next ended (lines ++ rest) ≡ continued (first ∷ others) (belonging ended unit rest)
  pub more : (line : RawLine) → is_blank line ≡ false → held (lines ++ line ∷ []) ≡ record { unit = unit; lines = take most_kept ((first ∷ others) ++ line_of line ∷ []) }

abbrev pub State : List RawLine → Type 0
State lines = IsEmpty lines ⊎ ((unit : Bool) × (first : Line) × (others : List Line) × IsOpened lines unit first others)

open_none : (line : RawLine) (front : Front) → open_item line front ≡ not_yet → front ≡ None
open_none line None e = refl
open_none line (Some front) e = cc

open_with : (line : RawLine) (lines : List Line) (front : Front) → open_item line (with_lines lines front) ≡ continued (line_of line ∷ lines) front
open_with line lines None = refl
open_with line lines (Some front) = refl

module _ (line : RawLine) (lines : List RawLine) where
  abbrev step : Bool → List RawLine → (x y : Bool) → Next
  step ended rest x y = if x then next ended rest else (if y then open_item line (belonging ended (is_unit line) rest) else whole (line_of line ∷ []) rest)

  by_state : (x y : Bool) → is_blank line ≡ x → opens line ≡ y → next false (line ∷ lines) ≡ not_yet → (next false lines ≡ not_yet → State lines) → State (line ∷ lines)
  by_state true y ex ey e ih = blank (ih (sym (ap (λ x. step false lines x (opens line)) ex) ∙ e))
    where
      hold : (ls : List RawLine) → held (line ∷ ls) ≡ held ls
      hold ls = ap (λ x. if x then held ls else record { unit = is_unit line; lines = take most_kept (line_of line ∷ kept ls) }) ex

      go : (ended : Bool) (rest : List RawLine) → next ended ((line ∷ lines) ++ rest) ≡ next ended (lines ++ rest)
      go ended rest = ap (λ x. step ended (lines ++ rest) x (opens line)) ex

      blank : State lines → State (line ∷ lines)
      blank (inl s) = inl (record { holds = hold lines ∙ s.holds; goes = λ ended rest. go ended rest ∙ s.goes ended rest; more = λ l b. hold (lines ++ l ∷ []) ∙ s.more l b })
      blank (inr (u, f, o, s)) = inr (u, f, o, record { holds = hold lines ∙ s.holds; goes = λ ended rest. go ended rest ∙ s.goes ended rest; more = λ l b. hold (lines ++ l ∷ []) ∙ s.more l b })
  by_state false true ex ey e ih = inr (is_unit line, line_of line, kept lines, record { holds = hold lines; goes = go; more = λ l b. hold (lines ++ l ∷ []) ∙ ap (λ ls. make (take most_kept (line_of line ∷ ls))) (kept_push lines l b) })
    where
      make : List Line → Open
      make ls = record { unit = is_unit line; lines = ls }

      hold : (ls : List RawLine) → held (line ∷ ls) ≡ record { unit = is_unit line; lines = take most_kept (line_of line ∷ kept ls) }
      hold ls = ap (λ x. if x then held ls else record { unit = is_unit line; lines = take most_kept (line_of line ∷ kept ls) }) ex

      open_still : belonging false (is_unit line) lines ≡ None
      open_still = open_none line (belonging false (is_unit line) lines) (sym (ap (λ x. step false lines x (opens line)) ex ∙ ap (step false lines false) ey) ∙ e)

      go : (ended : Bool) (rest : List RawLine) → next ended ((line ∷ lines) ++ rest) ≡ continued (line_of line ∷ kept lines) (belonging ended (is_unit line) rest)
      go ended rest = ap (λ x. step ended (lines ++ rest) x (opens line)) ex ∙ ap (step ended (lines ++ rest) false) ey
          ∙ ap (open_item line) (belonging_on (is_unit line) lines open_still ended rest) ∙ open_with line (kept lines) (belonging ended (is_unit line) rest)
  by_state false false ex ey e ih = let w : next false (line ∷ lines) ≡ whole (line_of line ∷ []) lines = ap (λ x. step false lines x (opens line)) ex ∙ ap (step false lines false) ey in cc

pub state : (lines : List RawLine) → next false lines ≡ not_yet → State lines
state [] e = inl (record { holds = refl; goes = λ ended rest. refl; more = λ l b. ap (λ x. if x then held [] else record { unit = is_unit l; lines = take most_kept (line_of l ∷ []) }) b })
state (line ∷ lines) e = by_state line lines (is_blank line) (opens line) refl refl e (state lines)
