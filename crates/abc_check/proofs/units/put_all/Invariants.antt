use Rattle.std.proofs.Common.{◌≡◌, ◌++◌, List, length}
use Rattle.std.specs.List.{All}
use Rattle.abc_principal.specs.declared.principal.Principal.{Principal}
use Rattle.abc_principal.specs.Principals.{IsWhole}
use Rattle.abc_check.specs.inner.Groupwise.{ArePut}
use Rattle.abc_check.proofs.units.put_all.Given as goal

abbrev pub invariant-loop-principal : goal.invariant-loop-principal
invariant-loop-principal l = record {
  whole : All IsWhole l.principals.items;
  put : (done : List Principal) × (l.initial.principals.items ≡ l.principals.items ++ done) × ArePut l.initial.known l.known done;
}

abbrev pub decreases-loop-principal : goal.decreases-loop-principal
decreases-loop-principal l = length l.principals.items
