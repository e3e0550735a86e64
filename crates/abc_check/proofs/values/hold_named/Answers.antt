use Rattle.std.proofs.Common.{◌≡◌, ◌∙◌, [], ◌∷◌, ◌++◌, sym, subst}
use Rattle.std.specs.Prelude.{Some}
use Rattle.std.proofs.lemmas.Result.{on_ok_weaker}
use Rattle.abc_value.specs.Tree.{Tree}
use Rattle.abc_ground.specs.Typable.{AreTypes}
use Rattle.abc_check.specs.Standing.{AreAsked}
use Rattle.abc_check.proofs.values.hold_named.Goals as goal

pub returns-in-Some-clause-ok : goal.returns-in-Some-clause-ok
returns-in-Some-clause-ok c =
    on_ok_weaker c.hold_value.result
    (λ holds value at values w asked.
    let same : Some c.in-Some.value.now ≡ Some value = c.in-Some.ensures.value ∙ at in
    let f : c.in-Some.value.now ≡ value = cc in
    subst (λ (v : Tree). AreAsked c.hold_value.new.graph.demands c.hold_value.new.vars (values ++ (c.args.name.now, v) ∷ []) w) f (holds values w asked))
    c.hold_value.ensures.ok

pub returns-in-Some-clause-clash : goal.returns-in-Some-clause-clash
returns-in-Some-clause-clash c = λ e value at values w asked types are.
    let same : Some c.in-Some.value.now ≡ Some value = c.in-Some.ensures.value ∙ at in
    let f : value ≡ c.in-Some.value.now = cc in
    c.hold_value.ensures.clash e values w asked types (subst (λ (v : Tree). AreTypes (values ++ (c.args.name.now, v) ∷ []) w types) f are)
