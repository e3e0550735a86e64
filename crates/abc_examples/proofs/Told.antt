-- What is told of a session over `PUT 1 IN x`, where there is no target, and where x is a text.
use Rattle.std.specs.Prelude.{◌≡◌, ℕ, true, false, List, [], ◌∷◌, nat_eq, Option, Some, None, codes, refl, if◌then◌else◌}
use Rattle.std.proofs.Common.{◌∙◌, ap, sym, subst, arith}
use Rattle.abc_num.specs.declared.lines.Line.{Line}
use Rattle.abc_num.specs.declared.lines.RawLine.{RawLine}
use Rattle.abc_tokens.specs.ReadLine.{read_line}
use Rattle.abc_tokens.specs.Scanned.{scanned, ending, word_in_front}
use Rattle.abc_tokens.specs.Values.{has_value}
use Rattle.abc_journal.specs.declared.layout.Bounds.{Bounds}
use Rattle.abc_turns.specs.Session.{Session, Next, whole_item, Came, came, wants, on_next, on_came, session, session_within, replies}
use Rattle.abc_reader.specs.Items.{next_item}
use Rattle.abc_store.specs.Workspace.{Workspace, empty}
use Rattle.abc_store.specs.Commit.{Work}
use Rattle.abc_outcome.specs.Checks.{Check, IsTypeLineOf}
use Rattle.abc_outcome.specs.Outcome as item
use Rattle.abc_session.specs.Session.{Told, item_came, lines_of, session_of}
use Rattle.abc_session.specs.Told.{IfWhole, IfGoesOn, AreToldOf, WithTold}
use Rattle.abc_session.specs.Exact.{IsChecked}
use Rattle.abc_examples.proofs.Reading.{put_line}
use Rattle.abc_examples.proofs.TypeLines.{x_is_a, accepted, has_no_line, refused, is_not_accepted, has_one_line}
use Rattle.abc_examples.proofs.Outcomes.{untyped}

abbrev input : List ℕ
input = codes "PUT 1 IN x\n"

abbrev bounds : Bounds
bounds = record { input = 100; image = 1000; checkpoint = 1000 }

-- a session that starts with this workspace, in a new store
abbrev start : Workspace → Work
start kept = record { kept = kept; layout = record { size = 65; generation = 1; start = 64; gate = 64; first = 0; slot = 0; other = false } }

-- the input is one item
one_item : next_item true (lines_of 100 input) ≡ whole_item put_line []
unfolding scanned ending word_in_front read_line has_value
one_item = refl

any_came : (c : Came Work RawLine) → IfGoesOn c (λ work left. Unit {0})
any_came wants = tt
any_came (came reply work left true) = tt
any_came (came reply work left false) = tt

abbrev OneTold : Told → Workspace → Next (List Line) RawLine → Type 0
OneTold types kept next = IfWhole next (λ lines left. IsTypeLineOf kept lines (types 1) × IfGoesOn (item_came types bounds 100 true 1 (start kept) lines left) (λ work rest. Unit {0}))

told_by : (types : Told) (kept : Workspace) → IsTypeLineOf kept put_line (types 1) → AreToldOf types bounds 100 (start kept) input 1
told_by types kept told = subst (OneTold types kept) (sym one_item) (told, any_came _)

told_of : (types : Told) (kept : Workspace) → AreToldOf types bounds 100 (start kept) input 1 → IsTypeLineOf kept put_line (types 1)
told_of types kept are = (subst (OneTold types kept) one_item are).0

-- ---- what is told

abbrev of_none : Told
of_none k = None

abbrev of_each : Told
of_each k = Some 1

-- line 1, of the second item
abbrev late : Told
late k = if nat_eq k 2 then Some 1 else None

-- of the item that is accepted no line is told
where_nothing_is : AreToldOf of_none bounds 100 (start empty) input 1
where_nothing_is = told_by of_none empty accepted

no_line_there : AreToldOf of_each bounds 100 (start empty) input 1 → ⊥
no_line_there are = has_no_line 1 (told_of of_each empty are)

-- where x is a text it is line 1
where_x_is_a_text : AreToldOf of_each bounds 100 (start x_is_a) input 1
where_x_is_a_text = told_by of_each x_is_a refused

-- of no item anything may be told
nothing_told : (types : Told) → AreToldOf types bounds 100 (start x_is_a) input 0
nothing_told types = tt

-- one item too late
told_too_late : AreToldOf late bounds 100 (start x_is_a) input 1 → ⊥
told_too_late are = is_not_accepted (told_of late x_is_a are)

-- one line too late
told_too_low : AreToldOf (λ k. Some 2) bounds 100 (start x_is_a) input 1 → ⊥
told_too_low are = absurd (omega (arith, has_one_line 2 (told_of (λ k. Some 2) x_is_a are)))

-- ---- the session by what is told

is_line_1 : (told : Option ℕ) → IsTypeLineOf x_is_a put_line told → told ≡ Some 1
is_line_1 None is = absurd (is_not_accepted is)
is_line_1 (Some n) is = ap (λ k. Some k) (has_one_line n is)

replies_by : (types : Told) → types 1 ≡ Some 1 → replies (session_of types bounds 100 (start x_is_a) input) ≡ codes "[1] fault line 1: TypeFault\n" ∷ []
unfolding session
replies_by types is =
    ap (λ next. replies (on_next next (λ lines left. on_came (item_came types bounds 100 true 1 (start x_is_a) lines left) behind))) one_item
    ∙ (ap (λ told. replies (on_came (item.outcome told bounds 100 1 (start x_is_a) put_line (record { lines = []; ends = true })) behind)) is
    ∙ ap (λ c. replies (on_came c behind)) (untyped bounds 100 (start x_is_a).layout (record { lines = []; ends = true })))
  where
    behind : Work → List RawLine → Session Work
    behind work left = session_within next_item (item_came types bounds 100) true 1 2 work left

-- the reply is so by all that may be told
has_its_reply : WithTold bounds 100 (start x_is_a) input (λ types. replies (session_of types bounds 100 (start x_is_a) input) ≡ codes "[1] fault line 1: TypeFault\n" ∷ [])
has_its_reply = record { items = 1; types = of_each; are_told = where_x_is_a_text; so = λ told are. replies_by told (is_line_1 (told 1) (told_of told x_is_a are)) }

-- ---- by a check

abbrev refusing : Check
refusing kept lines = Some 1

is_checked : IsChecked refusing bounds 100 (start x_is_a) input 1 of_each
is_checked = record { are_told = where_x_is_a_text; session_is = refl; front_is = λ n few. refl }

-- a check that tells a line where there is none
is_not_checked : (types : Told) → types 1 ≡ Some 1 → IsChecked refusing bounds 100 (start empty) input 1 types → ⊥
is_not_checked types is checked = has_no_line 1 (subst (λ told. IsTypeLineOf empty put_line told) is (told_of types empty checked.are_told))
