use Rattle.std.proofs.Common.{sym, take, subst}
use Rattle.std.proofs.lemmas.List.{length-take-le}
use Rattle.abc_tokens.specs.Words.{Spells}
use Rattle.abc_tokens.specs.declared.kinds.TokenKind.{TokenKind}
use Rattle.abc_tokens.proofs.InFront.{longest_in_front}
use Rattle.abc_tokens.proofs.words.is_sound.Goals as goal

pub slice_bounds-has_value-end : goal.slice_bounds-has_value-end
slice_bounds-has_value-end c = sym (length-take-le _ _ (longest_in_front _ _ c.requires).0.within)

pub has_value-requires : goal.has_value-requires
has_value-requires c = let P : TokenKind → Type 0 = λ kind. Spells kind (take c.args.word.length c.args.bytes.now) in subst P c.in-Number.is (longest_in_front _ _ c.requires).0.spelled
