use Rattle.std.proofs.Common.{◌≡◌}
use Rattle.std.specs.List.{repeat}
use Rattle.abc_predef.proofs.texts.repeat_codes.Given as goal

abbrev pub invariant-loop : goal.invariant-loop
invariant-loop l = l.all.items ≡ repeat l.counter l.part
