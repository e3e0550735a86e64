use Rattle.std.proofs.Common.{◌∙◌, List, ap, refl}
use Rattle.abc_outside.specs.Stop.{written}
use Rattle.abc_outside.proofs.Calls.{write_failed, write_made}
use Rattle.abc_outside.proofs.memory.MemoryHostHost.write_at.Goals as goal

pub returns-then-fails-clause-stop : goal.returns-then-fails-clause-stop
returns-then-fails-clause-stop c = let step = c.in-Ok.ensures.ok in (write_failed _ _ c.args.at _ step.0 c.args.self.now.image.items _ c.args.self.now.said.items step.2 step.1 c.in-Ok.ensures.image).0

pub returns-then-fails-clause-time : goal.returns-then-fails-clause-time
returns-then-fails-clause-time c = let step = c.in-Ok.ensures.ok in (write_failed _ _ c.args.at _ step.0 c.args.self.now.image.items _ c.args.self.now.said.items step.2 step.1 c.in-Ok.ensures.image).1

pub returns-clause-stop : goal.returns-clause-stop
returns-clause-stop c =
    let step = c.in-Ok.ensures.ok in
    let bytes = c.args.bytes.now in
    let made = c.write_over.ensures ∙ ap (λ (l : List _). written l c.args.at bytes) c.in-Ok.ensures.image in
    (write_made _ _ c.args.at _ step.0 c.args.self.now.image.items _ c.args.self.now.said.items step.2 step.1 bytes refl c.requires made).0

pub returns-clause-time : goal.returns-clause-time
returns-clause-time c =
    let step = c.in-Ok.ensures.ok in
    let bytes = c.args.bytes.now in
    let made = c.write_over.ensures ∙ ap (λ (l : List _). written l c.args.at bytes) c.in-Ok.ensures.image in
    (write_made _ _ c.args.at _ step.0 c.args.self.now.image.items _ c.args.self.now.said.items step.2 step.1 bytes refl c.requires made).1

pub returns-then-fails-clause-torn : goal.returns-then-fails-clause-torn
returns-then-fails-clause-torn c found = let step = c.in-Ok.ensures.ok in (write_failed _ _ c.args.at _ step.0 c.args.self.now.image.items _ c.args.self.now.said.items step.2 step.1 c.in-Ok.ensures.image).2

pub returns-clause-torn : goal.returns-clause-torn
returns-clause-torn c found =
    let step = c.in-Ok.ensures.ok in
    let bytes = c.args.bytes.now in
    let made = c.write_over.ensures ∙ ap (λ (l : List _). written l c.args.at bytes) c.in-Ok.ensures.image in
    (write_made _ _ c.args.at _ step.0 c.args.self.now.image.items _ c.args.self.now.said.items step.2 step.1 bytes refl c.requires made).2
