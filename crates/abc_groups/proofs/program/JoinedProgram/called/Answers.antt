use Rattle.std.proofs.Common.{◌≡◌, ◌⊎◌, inl, inr, IfOk, Some, Less, Greater, Equal, option_map, sym, ap, ◌∙◌, subst}
use Rattle.std.specs.declared.cmp.Ordering.{Ordering}
use Rattle.abc_groups.specs.Program.{texts}
use Rattle.abc_groups.proofs.UnitLaws.{joined_new, joined_old}
use Rattle.abc_groups.proofs.program.JoinedProgram.called.Goals as goal

-- what isn't equal is another
apart_from : (o : Ordering) → (o ≡ Less) ⊎ (o ≡ Greater) → o ≡ Equal → ⊥
apart_from o (inl less) e = let f : Less ≡ Equal = sym less ∙ e in cc
apart_from o (inr greater) e = let f : Greater ≡ Equal = sym greater ∙ e in cc

pub returns-in_ok-calls-in-Equal : goal.returns-in_ok-calls-in-Equal
returns-in_ok-calls-in-Equal c =
    ap (λ ts. Some (texts ts)) c.in_ok-calls-in-Equal.ensures ∙ sym (joined_new c.args.self.now.new.now c.args.self.now.units.now c.args.t.now (sym c.cmp.ensures ∙ c.in-Equal.is))

pub returns-in-Less : goal.returns-in-Less
returns-in-Less c = subst (λ told. IfOk c.called.result (λ found. option_map (λ ts. texts ts.items) found ≡ told))
    (sym (joined_old c.args.self.now.new.now c.args.self.now.units.now c.args.t.now (λ e. apart_from c.cmp.result c.in-Less.is (c.cmp.ensures ∙ e))))
    c.called.ensures
