-- Words at which the command has no fault are words that it takes.
use Rattle.std.proofs.Common.{◌≡◌, true, false, List, [], refl, sym, ◌∙◌}
use Rattle.clap.specs.Faults.{fault_of, level_fault, walk_fault, settle_fault}
use Rattle.clap.specs.Takes.{takes}
use Rattle.clap.specs.Walk.{Text, Held, walk, walk_from, nothing_held}
use Rattle.clap.specs.Simple.{Shape, built}
use Rattle.clap.proofs.FaultLemmas.{leaf_fault}
use Rattle.clap.proofs.TakesLemmas.{leaf_takes}
use Rattle.abc_words.specs.Words.{abc}
use Rattle.abc_words.proofs.Faultless.{both, neither, walk_told, settle_told}

abbrev top : Shape
top = (built abc).top

pub taken : (words : List Text) → fault_of abc words ≡ [] → takes abc words ≡ true
taken words e =
    let end : Held = (walk top.rules [] nothing_held words).held in
    let none : level_fault top [] nothing_held words false [] ≡ [] = sym (leaf_fault (built abc) nothing_held words refl) ∙ e in
    let p = neither (walk_fault top [] (walk_from nothing_held) words) _ none in
    let q = neither (settle_fault top.rules top.args_override_self end) _ p.1 in
    leaf_takes (built abc) nothing_held words refl (both (walk_told top [] (walk_from nothing_held) words p.0) (both (settle_told top.rules top.args_override_self end q.0) refl))
