use Rattle.std.proofs.Common.{refl, Ok}
use Rattle.abc_value.specs.Tree.{text}
use Rattle.abc_value.proofs.trees.Making.{text_small}
use Rattle.abc_value.proofs.trees.Itemised.{small_answer}
use Rattle.abc_predef.proofs.texts.short_text.Goals as goal

pub returns : goal.returns
returns c = small_answer (Ok (text c.args.codes.now)) (text c.args.codes.now) c.text.result refl (text_small c.args.codes.now c.requires.short) c.text.ensures.value c.text.ensures.sizes
