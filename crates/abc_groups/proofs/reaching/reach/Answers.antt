use Rattle.std.proofs.Common.{◌≡◌, ◌∙◌, ◌↔◌, ℕ, List, ap, subst}
use Rattle.std.specs.List.{Contains}
use Rattle.std.proofs.lemmas.Result.{IfOk-weaker}
use Rattle.abc_tree.specs.Templates.{template_text}
use Rattle.abc_groups.specs.Reach.{IsFrom, Reaches}
use Rattle.abc_groups.specs.Program.{called, if_any, program_of, texts}
use Rattle.abc_groups.proofs.reaching.reach.Goals as goal

pub returns-clause-exact : goal.returns-clause-exact
returns-clause-exact c =
    let entries = c.in_ok-indexed.indexed.entries.now in
    let t = template_text c.args.t.now in
    let seeds : texts c.deref.result.now ≡ called (program_of entries) t = ap texts c.deref.ensures.value ∙ c.listed-from.ensures ∙ ap if_any c.in_ok-called.ensures in
    IfOk-weaker c.reach_by.result (λ all. (x : List ℕ) → (Contains (texts all) x ↔ IsFrom (called (program_of entries)) (texts c.deref.result.now) x)) (λ all. (x : List ℕ) → (Contains (texts all) x ↔ Reaches (called (program_of c.args.graph.now)) t x))
    (λ all exact x.
    subst (λ g. Contains (texts all) x ↔ Reaches (called (program_of g)) t x) c.in_ok-indexed.ensures.entries
    (subst (λ s. Contains (texts all) x ↔ IsFrom (called (program_of entries)) s x) seeds (exact x)))
    c.reach_by.ensures.exact
