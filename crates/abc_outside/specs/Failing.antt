-- The calls of the host in memory that are to fail.
use Rattle.std.specs.Prelude.{ℕ, ◌-◌, ◌==◌, Bool, false, List, if◌then◌else◌}
use Rattle.std.specs.List.{list_any}
use Rattle.abc_outside.specs.declared.failing.CallKind.{CallKind}
use Rattle.abc_outside.specs.declared.failing.CallKind.TheVariants.{Choose, Read, Size, ReadAt, WriteAt, Cut, Sync, Say}
use Rattle.abc_outside.specs.declared.failing.Listed.{Listed}

-- the number of a kind
abbrev pub number_of : CallKind → ℕ
number_of Choose = 0
number_of Read = 1
number_of Size = 2
number_of ReadAt = 3
number_of WriteAt = 4
number_of Cut = 5
number_of Sync = 6
number_of Say = 7

-- this entry makes the next call of this kind fail
abbrev pub is_next : CallKind → Listed → Bool
is_next kind call = if number_of call.kind == number_of kind then call.wait == 1 else false

-- the next call of this kind is one of those that are to fail
abbrev pub is_due : CallKind → List Listed → Bool
is_due kind calls = list_any (is_next kind) calls

-- after a call of this kind
abbrev pub one_nearer : CallKind → Listed → Listed
one_nearer kind call = if number_of call.kind == number_of kind then record { kind = call.kind; wait = call.wait - 1 } else call
