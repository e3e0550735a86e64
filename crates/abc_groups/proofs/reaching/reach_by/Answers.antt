use Rattle.std.proofs.Common.{◌≡◌, ◌∙◌, ◌↔◌, ℕ, List, length, sym, subst}
use Rattle.std.specs.List.{Contains}
use Rattle.std.proofs.lemmas.Result.{IfOk-weaker}
use Rattle.abc_groups.specs.Reach.{IsFrom}
use Rattle.abc_groups.specs.Program.{called, texts}
use Rattle.abc_groups.proofs.Exploring.{found_exactly}
use Rattle.abc_groups.proofs.Leasts.{length_texts}
use Rattle.abc_groups.proofs.reaching.reach_by.Goals as goal

pub returns-clause-exact : goal.returns-clause-exact
returns-clause-exact g c =
    let ts = c.in_ok-explored.explored.templates.items in
    let whole : length c.in_ok-explored.explored.rows.items ≡ length (texts ts) = c.in_ok-explored.ensures.whole ∙ sym (length_texts ts) in
    IfOk-weaker c.in_order.result (λ all. (x : List ℕ) → (Contains (texts all) x ↔ Contains (texts c.deref.result.now) x)) (λ all. (x : List ℕ) → (Contains (texts all) x ↔ IsFrom (called (g.P.Program.tells c.args.program.now)) (texts c.args.from.now) x))
    (λ all same x.
    let found : Contains (texts ts) x ↔ IsFrom (called (g.P.Program.tells c.args.program.now)) (texts c.args.from.now) x = found_exactly (g.P.Program.tells c.args.program.now) (texts c.args.from.now) (texts ts) c.in_ok-explored.explored.rows.items c.in_ok-explored.explored.there.items c.in_ok-explored.ensures.explored whole x in
    let here : Contains (texts all) x ↔ Contains (texts ts) x = subst (λ us. Contains (texts all) x ↔ Contains (texts us) x) c.deref.ensures.value (same x) in
    (λ d. found.0 (here.0 d), λ f. here.1 (found.1 f)))
    c.in_order.ensures.same
