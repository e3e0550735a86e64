use Rattle.std.proofs.Common.{◌≡◌, ◌++◌, drop, option_map}
use Rattle.abc_value.specs.Parts.{parts_of}
use Rattle.abc_acts.specs.inner.Binding.{bindings_all}
use Rattle.abc_acts.proofs.binding.+bindings.Given as goal

abbrev pub invariant-add_fields-loop-place : goal.invariant-add_fields-loop-place
invariant-add_fields-loop-place l =
    option_map (λ bs. l.fn.found.items ++ bs) (bindings_all l.parts (parts_of l.compound))
    ≡ option_map (λ bs. l.found.items ++ bs) (bindings_all (drop l.place l.parts) (drop l.place (parts_of l.compound)))
