use Rattle.std.proofs.Common.{◌≡◌, ◌+◌, ◌∷◌, [], drop, sym, ap, ◌∙◌, arith}
use Rattle.abc_value.specs.Items.{elements_of}
use Rattle.abc_state.proofs.Parts.{at_place, past_end}
use Rattle.abc_acts.proofs.binding.Train.next.Goals as goal

pub returns-in_default-clause-none : goal.returns-in_default-clause-none
returns-in_default-clause-none c = λ e.
    let empty : c.args.self.now ≡ [] = sym c.self.view_is ∙ past_end (elements_of c.self.inside.value) c.self.inside.next (sym c.in_ok-element.ensures ∙ c.in_default.is) in (empty, empty)

pub returns-clause-some : goal.returns-clause-some
returns-clause-some c =
    let later : c.self.inside.next + 1 ≡ c.in-Some-checked_add.next = omega (arith, c.in-Some-checked_add.ensures) in
    sym c.self.view_is ∙ at_place (elements_of c.self.inside.value) c.self.inside.next c.in-Some.element (sym c.in_ok-element.ensures ∙ c.in-Some.is)
    ∙ ap (λ n. c.in-Some.element ∷ drop n (elements_of c.self.inside.value)) later
