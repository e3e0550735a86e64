use Rattle.std.proofs.Common.{◌≤◌, ◌<◌, arith, length, ap, ◌∙◌, ◌++◌, ◌∷◌, []}
use Rattle.std.proofs.lemmas.Bool.Decides.{nat_tests}
use Rattle.abc_layout.specs.Items.{most_kept}
use Rattle.abc_layout.specs.SplitterView.{Open}
use Rattle.abc_layout.proofs.Feeding.{kept_full, kept_more}
use Rattle.abc_layout.proofs.splitter.Splitter.go_on.Goals as goal

pub returns-then-is_full-clause-ok : goal.returns-then-is_full-clause-ok
returns-then-is_full-clause-ok c few =
    let many : most_kept ≤ length c.args.self.now.lines = grind (arith, nat_tests) in kept_full c.args.self.now _ few many

pub returns-clause-ok : goal.returns-clause-ok
returns-clause-ok c few =
    let new : Open = record { unit = c.self.inside.unit; lines = c.push.new.self.items } in
    let room : length c.args.self.now.lines < most_kept = grind (arith, nat_tests) in
    kept_more c.args.self.now new _ _ room (ap (λ o. o.unit) c.self.view_is) (c.in_ok-push.ensures.items ∙ ap (λ o. o.lines ++ c.in_ok-line.line ∷ []) c.self.view_is) c.in_ok-line.ensures
