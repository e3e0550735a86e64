use Rattle.std.proofs.Common.{refl, Ok}
use Rattle.abc_value.specs.Tree.{text}
use Rattle.abc_value.proofs.trees.Making.{text_small}
use Rattle.abc_value.proofs.trees.Itemised.{small_answer}
use Rattle.abc_predef.proofs.texts.short_text_from.Goals as goal

pub returns : goal.returns
returns c = small_answer (Ok (text c.args.codes.items)) (text c.args.codes.items) c.text_from.result refl (text_small c.args.codes.items c.requires.short) c.text_from.ensures.value c.text_from.ensures.sizes
