use Rattle.std.proofs.Common.{◌≡◌, ◌∷◌, [], ◌++◌, set, get_or, sym, subst, arith}
use Rattle.abc_unify.specs.inner.Reading.{IsQueued}
use Rattle.abc_unify.proofs.Gathering.{queued_new}
use Rattle.abc_unify.proofs.gather.queue.Goals as goal

pub returns : goal.returns
returns c =
    let at : c.index.result ≡ c.args.x.0 = c.index.ensures in
    let at2 : c.index-2.result ≡ c.args.x.0 = c.index-2.ensures in
    let white : get_or c.args.marks.now c.args.x.0 0 ≡ 0 = subst (λ i. get_or c.args.marks.now i 0 ≡ 0) at (omega (arith, c.if-marks-index-ne0.false)) in
    let new : IsQueued c.args.marks.now c.args.work.now.items (set c.args.marks.now c.args.x.0 1) (c.args.work.now.items ++ c.args.x ∷ []) (c.args.x ∷ []) = queued_new c.args.marks.now c.args.work.now.items c.requires.small c.args.x c.requires.x white in
    subst (λ i. IsQueued c.args.marks.now c.args.work.now.items (set c.args.marks.now i 1) c.push.new.self.items (c.args.x ∷ [])) (sym at2)
    (subst (λ w. IsQueued c.args.marks.now c.args.work.now.items (set c.args.marks.now c.args.x.0 1) w (c.args.x ∷ [])) (sym c.in_ok-push.ensures.items) new)
