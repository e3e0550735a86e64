use Rattle.abc_predef.proofs.Elements.{item_is}
use Rattle.abc_predef.proofs.trains.element.Goals as goal

pub returns : goal.returns
returns c = item_is c.args.t.now c.args.i c.place_number.result c.item.result c.requires.within c.place_number.ensures c.item.ensures
