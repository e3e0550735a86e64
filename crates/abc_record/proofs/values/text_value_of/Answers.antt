use Rattle.std.proofs.Common.{sym, ap, ◌∙◌}
use Rattle.std.specs.Option.{option_map}
use Rattle.abc_record.proofs.Trees.{text_characters}
use Rattle.abc_record.proofs.values.text_value_of.Goals as goal

pub text-requires : goal.text-requires
text-requires c = text_characters c.args.bytes.now c.in-Some.rest.now c.in-Some.text.now (sym c.text_of.ensures ∙ ap (option_map (λ x. (x.0.now, x.1.now))) c.in-Some.is)
