use Rattle.std.proofs.Common.{◌≡◌, ◌++◌, ◌-◌, Some, None, OnOk, ap, sym, ◌∙◌, subst}
use Rattle.std.proofs.lemmas.List.{append-nil}
use Rattle.abc_expressions.specs.NameTokens.{names_among, conversion_names}
use Rattle.abc_expressions.specs.inner.Machine.{lexed}
use Rattle.abc_expressions.proofs.NamesUsed.{in_conversion, no_depth}
use Rattle.abc_expressions.proofs.used.+names.Goals as goal

pub in_conversion-returns-then-left-eq0 : goal.in_conversion-returns-then-left-eq0
in_conversion-returns-then-left-eq0 t c =
    sym (ap (λ xs. c.args.names.now ++ xs) (no_depth c.args.left c.args.bytes.now c.if-left-eq0.true) ∙ append-nil c.args.names.now)

pub in_conversion-returns-in-Some : goal.in_conversion-returns-in-Some
in_conversion-returns-in-Some t c =
    let is = ap lexed (sym c.bytes.ensures) ∙ sym c.in_ok-tokens.ensures.found ∙ c.in-Some.is in
    let same = ap (names_among (conversion_names (c.args.left - 1))) c.as_slice.ensures ∙ sym (in_conversion c.args.left c.args.bytes.now (Some c.in-Some.tokens) c.if-left-eq0.false is) in
    subst (λ xs. OnOk c.in_tokens.result (c.in_tokens.new.names ≡ c.args.names.now ++ xs)) same c.in_tokens.ensures

pub in_conversion-returns-in-None : goal.in_conversion-returns-in-None
in_conversion-returns-in-None t c =
    let is = ap lexed (sym c.bytes.ensures) ∙ sym c.in_ok-tokens.ensures.found ∙ c.in-None.is in
    sym (ap (λ xs. c.args.names.now ++ xs) (in_conversion c.args.left c.args.bytes.now None c.if-left-eq0.false is) ∙ append-nil c.args.names.now)
