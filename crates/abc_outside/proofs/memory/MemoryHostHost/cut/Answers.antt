use Rattle.std.proofs.Common.{◌∙◌, List, ap, drop, refl}
use Rattle.abc_outside.proofs.Calls.{cut_failed, cut_made}
use Rattle.abc_outside.proofs.memory.MemoryHostHost.cut.Goals as goal

pub returns-then-fails-clause-stop : goal.returns-then-fails-clause-stop
returns-then-fails-clause-stop c =
    let step = c.in-Ok.ensures.ok in
    let away = step.1 ∙ ap (λ (l : List _). drop c.args.size l) c.deref.ensures.value in
    (cut_failed _ _ c.args.size step.0 c.args.self.now.image.items _ c.args.self.now.said.items step.2 away refl).0

pub returns-clause-stop : goal.returns-clause-stop
returns-clause-stop c =
    let step = c.in-Ok.ensures.ok in
    let away = step.1 ∙ ap (λ (l : List _). drop c.args.size l) c.deref.ensures.value in
    (cut_made _ _ c.args.size step.0 c.args.self.now.image.items _ c.args.self.now.said.items step.2 away c.requires c.truncate.ensures.items).0

pub returns-then-fails-clause-shortened : goal.returns-then-fails-clause-shortened
returns-then-fails-clause-shortened c found =
    let step = c.in-Ok.ensures.ok in
    let away = step.1 ∙ ap (λ (l : List _). drop c.args.size l) c.deref.ensures.value in
    (cut_failed _ _ c.args.size step.0 c.args.self.now.image.items _ c.args.self.now.said.items step.2 away refl).2

pub returns-clause-shortened : goal.returns-clause-shortened
returns-clause-shortened c found =
    let step = c.in-Ok.ensures.ok in
    let away = step.1 ∙ ap (λ (l : List _). drop c.args.size l) c.deref.ensures.value in
    (cut_made _ _ c.args.size step.0 c.args.self.now.image.items _ c.args.self.now.said.items step.2 away c.requires c.truncate.ensures.items).2
