-- The lines of what is unread.
use Rattle.std.proofs.Common.{◌≡◌, ◌≢◌, ℕ, true, List, [], ◌∷◌, inl, inr, refl, sym, ap, ◌∙◌}
use Rattle.abc_num.specs.Lines.{HasNoLf, raw_line, raw_lines}
use Rattle.abc_num.specs.declared.lines.RawLine.{RawLine}
use Rattle.abc_num.proofs.LineCuts.{lines_ended, lines_last, lines_open}
use Rattle.abc_outside.specs.Lines.{Unread, lines_in, IsFirst, IsOver, IsWithinLine}

-- a last line has a byte
last : (text : List ℕ) → text ≢ [] → HasNoLf text → raw_lines true text ≡ raw_line text ∷ []
last [] some no_lf = absurd (some refl)
last (b ∷ text) some no_lf = lines_last b text no_lf

pub first_is_first : (old new : Unread) (line : RawLine) → IsFirst old line new → lines_in old ≡ line ∷ lines_in new
first_is_first old new line first =
    let ends : raw_lines old.ends new.bytes ≡ raw_lines new.ends new.bytes = ap (λ e. raw_lines e new.bytes) (sym first.ends) in
    let named : (ls : List RawLine) → raw_line first.text ∷ ls ≡ line ∷ ls = λ ls. ap (λ l. l ∷ ls) (sym first.is_line) in
    elim first.behind [
      | inl split ↦ ap (raw_lines old.ends) split ∙ (lines_ended first.text new.bytes old.ends first.no_lf ∙ (ap (λ ls. raw_line first.text ∷ ls) ends ∙ named (raw_lines new.ends new.bytes)))
      | inr at_end ↦ ap (λ e. raw_lines e old.bytes) at_end.2 ∙ (ap (raw_lines true) at_end.0 ∙ (last first.text at_end.1 first.no_lf ∙ (named [] ∙ ap (λ bs. line ∷ raw_lines new.ends bs) (sym at_end.3))))
    ]

pub over_has_none : (unread : Unread) → IsOver unread → lines_in unread ≡ []
over_has_none unread over = ap (raw_lines unread.ends) over.0

pub within_has_none : (unread : Unread) → IsWithinLine unread → lines_in unread ≡ []
within_has_none unread within = ap (λ e. raw_lines e unread.bytes) within.1 ∙ lines_open unread.bytes within.0
