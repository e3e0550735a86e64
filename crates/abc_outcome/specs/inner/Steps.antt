-- The steps by which an item is answered.
use Rattle.std.specs.Prelude.{◌≡◌, ◌≤◌, ℕ, Bool, false, List, [], ◌++◌, length, Option, None, Some, Result, Ok, Err, codes}
use Rattle.abc_tree.specs.declared.commands.Command.{Command}
use Rattle.abc_tree.specs.declared.commands.Item.{Item}
use Rattle.abc_tree.specs.declared.commands.Item.TheVariants as item
use Rattle.abc_tree.specs.declared.commands.Unit.{Unit as Routine}
use Rattle.abc_parse.specs.declared.fault.ItemFault.{ItemFault}
use Rattle.abc_parse.specs.declared.fault.ItemFault.TheVariants.{At, Memory}
use Rattle.abc_journal.specs.declared.layout.Bounds.{Bounds}
use Rattle.abc_store.specs.declared.faults.CommitFault.{CommitFault}
use Rattle.abc_store.specs.declared.faults.CommitFault.TheVariants as commit
use Rattle.abc_store.specs.Commit.{Work}
use Rattle.abc_store.specs.Workspace.{Workspace, unit_of_lines}
use Rattle.abc_record.specs.Kept.{IsKeptText}
use Rattle.abc_inquiry.specs.declared.answering.Answered.{Answered}
use Rattle.abc_inquiry.specs.declared.answering.Answered.TheVariants.{Drops}
use Rattle.abc_inquiry.specs.Laws.{CanBeSpelled}
use Rattle.abc_outcome.specs.declared.answering.Answer.{Answer}
use Rattle.abc_outcome.specs.declared.answering.AnswerFault.{AnswerFault}
use Rattle.abc_outcome.specs.declared.answering.AnswerFault.TheVariants as stops
use Rattle.abc_outcome.specs.Checks.{TellsOf}
use Rattle.abc_outcome.specs.Names.{fault_name}
use Rattle.abc_outcome.specs.Missing.{called_by, first_missing, line_to}
use Rattle.abc_outcome.specs.Reply.{fault_line, missing_line}
use Rattle.abc_outcome.specs.Outcome.{Behind, Outcome, ends_with, on_item}

-- what comes of an item that was read, or in which a fault stands, by what stands behind it; want of memory says nothing of it
abbrev pub ComesOf : Option ℕ → Bounds → ℕ → ℕ → Work → Result Item ItemFault → (Behind → Outcome) → Type 0
ComesOf line bounds budget k work (Ok item) out = (behind : Behind) → out behind ≡ on_item line bounds budget k work behind (Some item)
ComesOf line bounds budget k work (Err (At fault)) out = (behind : Behind) → out behind ≡ ends_with work behind.lines [] (fault_line k fault.line (fault_name fault.kind))
ComesOf line bounds budget k work (Err Memory) out = Unit {0}

-- the item that was read
abbrev pub item_in : Result Item ItemFault → Option Item
item_in (Ok item) = Some item
item_in (Err fault) = None

-- The item that was read has a type line; one in which a fault stands needs none. For want of memory nothing was read.
abbrev pub HasTypeLine : Workspace → Result Item ItemFault → Type 0
HasTypeLine kept (Ok item) = (line : Option ℕ) × TellsOf kept (Some item) line
HasTypeLine kept (Err (At fault)) = Unit {0}
HasTypeLine kept (Err Memory) = ⊥

-- an item that is a unit is spelled by its own lines, of which there is one at least, and the template of a unit that is to be taken out can be spelled
abbrev pub IsSpelledItem : Item → Type 0
IsSpelledItem (item.Command c) = Unit {0}
IsSpelledItem (item.Unit u) = (unit_of_lines u.lines ≡ Some u) × (1 ≤ length u.lines)
IsSpelledItem (item.Environment asked) = CanBeSpelled asked

-- the template of a unit that is to be taken out can be spelled
abbrev pub IsSpelledAnswer : Answered → Type 0
IsSpelledAnswer (Drops template) = IsKeptText template
IsSpelledAnswer _ = Unit {0}

-- the answer that is this reply
abbrev pub refusing : List ℕ → Answer
refusing reply = record { reply = reply; quit = false }

-- either answer of a refusal: this reply, or want of memory
abbrev pub Refuses : List ℕ → Result Answer AnswerFault → Type 0
Refuses reply (Ok answer) = answer ≡ refusing reply
Refuses reply (Err fault) = fault ≡ stops.Memory

-- what keeps a command from running, as its reply line: it reaches a missing unit, or no types fit it
abbrev pub if_unfit : ℕ → Option ℕ → Option (List ℕ)
if_unfit k None = None
if_unfit k (Some n) = Some (fault_line k n (codes "TypeFault"))

abbrev pub if_missing : List Routine → ℕ → Command → Option (List ℕ) → Option (List ℕ) → Option (List ℕ)
if_missing units k c None unfit = unfit
if_missing units k c (Some t) unfit = Some (missing_line k (line_to units t c) t)

abbrev pub hindrance : Option ℕ → List Routine → ℕ → Command → Option (List ℕ)
hindrance line units k c = if_missing units k c (first_missing units (called_by c)) (if_unfit k line)

-- it is told by its reply; where nothing keeps the command, none is
abbrev pub IsHindered : Option (List ℕ) → Result (Option Answer) AnswerFault → Type 0
IsHindered None (Ok None) = Unit {0}
IsHindered None (Ok (Some answer)) = ⊥
IsHindered (Some line) (Ok None) = ⊥
IsHindered (Some line) (Ok (Some answer)) = answer ≡ refusing line
IsHindered hindrance (Err fault) = fault ≡ stops.Memory

-- whatever keeps it, the session goes on
abbrev pub Hinders : Result (Option Answer) AnswerFault → Type 0
Hinders (Ok None) = Unit {0}
Hinders (Ok (Some answer)) = answer.quit ≡ false
Hinders (Err fault) = fault ≡ stops.Memory

-- What is answered after a commit: what was written, and the reply line for that.
abbrev pub Closes : {T : Type 0} → List ℕ → List ℕ → List ℕ → List ℕ → Bool → Result T CommitFault → Result Answer AnswerFault → Type 0
Closes written kept full large quits (Ok x) result = result ≡ Ok (record { reply = written ++ kept; quit = quits })
Closes written kept full large quits (Err commit.StoreFault) result = result ≡ Err stops.StoreFault
Closes written kept full large quits (Err commit.Memory) result = result ≡ Err stops.Memory
Closes written kept full large quits (Err (commit.TooLarge bytes)) result = result ≡ Ok (record { reply = written ++ large; quit = false })
Closes written kept full large quits (Err (commit.StoreFull need limit)) result = result ≡ Ok (record { reply = written ++ full; quit = false })
