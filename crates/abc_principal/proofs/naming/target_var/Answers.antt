use Rattle.std.proofs.Common.{◌∙◌, [], ◌∷◌, ◌++◌, ℕ, List, ap, sym}
use Rattle.abc_principal.proofs.Named.{named_found, named_new}
use Rattle.abc_principal.proofs.naming.target_var.Goals as goal

pub returns-in-Some-clause-named : goal.returns-in-Some-clause-named
returns-in-Some-clause-named c = named_found c.args.g.now c.args.targets.now c.args.name.now c.in-Some.a c.requires (sym c.find.ensures ∙ c.in-Some.is)

pub returns-clause-named : goal.returns-clause-named
returns-clause-named c =
    let before = c.args.targets.now in
    let a = c.in_ok-a.a in
    let text = c.in_ok-text.ensures ∙ c.bytes.ensures in
    let added = c.in_ok-add.ensures.ok ∙ ap (λ (n : List ℕ). before ++ (n, a) ∷ []) text in
    named_new c.args.g.now c.fresh.new.self before c.add.new.self c.args.name.now a c.requires (sym c.find.ensures ∙ c.in_default.is) c.in_ok-a.ensures.number c.in_ok-a.ensures.ok added
