use Rattle.std.proofs.Common.{All, sym, subst}
use Rattle.abc_expressions.specs.Lexemes.{IsSpelled}
use Rattle.abc_expressions.proofs.TokenParts.{within_line}
use Rattle.abc_expressions.proofs.WholeLine.{whole_part}
use Rattle.abc_spellings.proofs.answer_readings.Goals as goal

pub lexemes_of-requires : goal.lexemes_of-requires
lexemes_of-requires c = within_line c.args.line.now c.args.toks.now c.requires

pub print_readings-requires : goal.print_readings-requires
print_readings-requires c =
    subst (All IsSpelled) (sym c.as_slice.ensures) (c.in_ok-lexemes.ensures.spelled (whole_part c.args.line.now c.args.toks.now c.requires))
