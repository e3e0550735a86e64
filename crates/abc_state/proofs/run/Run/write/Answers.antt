use Rattle.std.proofs.Common.{option_map, sym, ap, refl, ◌∙◌}
use Rattle.abc_meaning.specs.State.{gives}
use Rattle.abc_state.specs.Views.{state_of}
use Rattle.abc_state.proofs.Writing.{written_out}
use Rattle.abc_state.proofs.run.Run.write.Goals as goal

pub returns-clause-agrees : goal.returns-clause-agrees
returns-clause-agrees c = λ targets lines ended here.
    let s = state_of c.args.self.now targets lines ended in
    written_out here c.args.before c.args.behind (option_map (λ v. v.now) c.args.part) c.deref.result.now s (state_of (record c.args.self.now { output = c.say.new.output }) targets lines ended) c.say.result
    (c.in_ok-text.ensures.ok here s ∙ ap (λ t. gives t s) (sym c.deref.ensures.value)) (c.say.ensures here s refl)
