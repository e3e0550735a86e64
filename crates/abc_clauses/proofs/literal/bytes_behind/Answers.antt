use Rattle.std.proofs.Common.{List, sym, ap, ◌∙◌, subst, All}
use Rattle.std.specs.Prelude.{Ok}
use Rattle.abc_tokens.specs.Shape.{IsPlaced}
use Rattle.abc_tokens.specs.declared.kinds.Token.{Token}
use Rattle.abc_clauses.specs.Cuts.{bytes_by}
use Rattle.abc_clauses.proofs.literal.bytes_behind.Goals as goal

pub bytes_from-requires : goal.bytes_from-requires
bytes_from-requires c =
    subst (λ (ts : List Token). All (IsPlaced c.args.text.now) ts) (sym c.deref.ensures.value) (c.placed_tokens.ensures c.args.text.now c.in-Ok.tokens.items c.in-Ok.ensures.found)

pub returns-in-Ok-clause-bytes : goal.returns-in-Ok-clause-bytes
returns-in-Ok-clause-bytes c =
    c.bytes_from.ensures.bytes ∙ ap (λ (ts : List Token). bytes_by c.args.text.now c.args.others (Ok ts)) c.deref.ensures.value
    ∙ ap (λ r. bytes_by c.args.text.now c.args.others r) (sym ((c.computed_tokens.ensures.tokens c.args.text.now c.in-Ok.tokens.items).0 c.in-Ok.ensures.found))
