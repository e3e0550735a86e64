-- What follows from the tests of spelling.
use Rattle.std.proofs.Common.{◌≡◌, ◌<◌, ◌^◌, ◌==◌, ℕ, Bool, true, false, not, ◌&&◌, List, [], ◌∷◌, length, nat_le, Option, None, Some, refl, sym, ap, subst, ◌∙◌, leb-true}
use Rattle.std.specs.Prelude.{option_map, option_and_then}
use Rattle.std.specs.List.{list_all, AllByRecursion}
use Rattle.abc_num.specs.Characters.{are_characters}
use Rattle.abc_num.specs.declared.limits.TheConstants.{MOST_LINES, MOST_LINE_BYTES}
use Rattle.abc_num.specs.declared.lines.Line.{Line}
use Rattle.abc_num.proofs.Characters.{tested_characters}
use Rattle.abc_tokens.specs.Bytes.{space}
use Rattle.abc_tree.specs.declared.commands.Unit.{Unit as Routine}
use Rattle.abc_frames.specs.Maps.{with_value, without}
use Rattle.abc_record.specs.declared.change.Change.{Change}
use Rattle.abc_record.specs.declared.change.Change.TheVariants.{SetTarget, DropTarget, SetUnit, DropUnit}
use Rattle.abc_record.specs.Kept.{IsFlush, IsKeptLine, AreKeptLines}
use Rattle.abc_record.specs.KeptTests.{is_kept_name, is_kept_line, is_flush}
use Rattle.abc_record.proofs.Changes.{name_told}
use Rattle.abc_store.specs.Workspace.{Workspace, changed_by, AreNamed, unit_of_lines, with_routine}
use Rattle.abc_store.proofs.Targets.{named_with, named_without}
use Rattle.abc_outcome.specs.Spelled.{has_spelling, is_spelled_line, are_spelled_lines}
use Rattle.abc_outcome.proofs.Finding.{and_both, and_first, and_second}

-- ---- the targets after changes whose names can be spelled have such names

pub named_after : (cs : List Change) (ws later : Workspace) → list_all has_spelling cs ≡ true → AreNamed ws.targets → changed_by cs ws ≡ Some later → AreNamed later.targets
named_after [] ws later k a e = let same : ws ≡ later = cc in subst (λ (w : Workspace). AreNamed w.targets) same a
named_after (SetTarget name value ∷ cs) ws later k a e =
    named_after cs (record { targets = with_value name value ws.targets; units = ws.units }) later (and_second (is_kept_name name) (list_all has_spelling cs) k)
    (named_with name value ws.targets (name_told name (and_first (is_kept_name name) (list_all has_spelling cs) k)) a) e
named_after (DropTarget name ∷ cs) ws later k a e =
    named_after cs (record { targets = without name ws.targets; units = ws.units }) later (and_second (is_kept_name name) (list_all has_spelling cs) k) (named_without name ws.targets a) e
named_after (SetUnit lines ∷ cs) ws later k a e = by_unit (unit_of_lines lines) (λ w. named_after cs w later (and_second (are_spelled_lines lines) (list_all has_spelling cs) k)) e
  where
    by_unit : (found : Option Routine) → ((w : Workspace) → AreNamed w.targets → changed_by cs w ≡ Some later → AreNamed later.targets)
        → option_and_then (changed_by cs) (option_map (with_routine ws) found) ≡ Some later → AreNamed later.targets
    by_unit None more f = absurd cc
    by_unit (Some unit) more f = more (with_routine ws unit) a f
named_after (DropUnit template ∷ cs) ws later k a e = absurd (cc)

-- ---- lines that can be spelled are kept

flush_told : (text : List ℕ) → is_flush text ≡ true → IsFlush text
flush_told [] e = tt
flush_told (b ∷ bytes) e = λ h. (let no : (b == space) ≡ true = ap (λ x. x == space) h in let f : false ≡ true = sym (ap not no) ∙ e in cc)

whole_told : (long : Bool) → not long ≡ true → long ≡ false
whole_told true e = absurd cc
whole_told false e = refl

pub line_told : (line : Line) → line.indent < 2 ^ 32 → is_spelled_line line ≡ true → IsKeptLine line
line_told line lt e =
    let kept = and_first (is_kept_line line.text) (not line.long) e in
    let rest = and_second (are_characters line.text) (nat_le (length line.text) MOST_LINE_BYTES && is_flush line.text) kept in
    record {
      indent = lt;
      characters = tested_characters line.text (and_first (are_characters line.text) (nat_le (length line.text) MOST_LINE_BYTES && is_flush line.text) kept);
      short = leb-true (length line.text) MOST_LINE_BYTES (and_first (nat_le (length line.text) MOST_LINE_BYTES) (is_flush line.text) rest);
      flush = flush_told line.text (and_second (nat_le (length line.text) MOST_LINE_BYTES) (is_flush line.text) rest);
      whole = whole_told line.long (and_second (is_kept_line line.text) (not line.long) e);
    }

pub spelled_told : (line : Line) → line.indent < 2 ^ 32 → is_kept_line line.text ≡ true → not line.long ≡ true → IsKeptLine line
spelled_told line lt kept whole = line_told line lt (and_both (is_kept_line line.text) (not line.long) kept whole)

pub lines_told : (lines : List Line) → are_spelled_lines lines ≡ true → AllByRecursion IsKeptLine lines → AreKeptLines lines
lines_told lines e each =
    let rest = and_second (nat_le 1 (length lines)) (nat_le (length lines) MOST_LINES && list_all is_spelled_line lines) e in (
      leb-true 1 (length lines) (and_first (nat_le 1 (length lines)) (nat_le (length lines) MOST_LINES && list_all is_spelled_line lines) e),
      leb-true (length lines) MOST_LINES (and_first (nat_le (length lines) MOST_LINES) (list_all is_spelled_line lines) rest),
      each,
    )
