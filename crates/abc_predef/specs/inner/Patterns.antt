-- How the code tests a letter: by a join with the form of the types for which it stands.
use Rattle.abc_value.specs.Forms.{Form, anything, a_number, a_text, a_list, a_table}
use Rattle.abc_predef.specs.declared.table.Letter.{Letter}
use Rattle.abc_predef.specs.declared.table.Letter.TheVariants as letter

-- the form of the types for which a letter other than the one of trains stands, whatever e is
abbrev pub pattern_of : Letter → Form
pattern_of letter.Number = a_number
pattern_of letter.Text = a_text
pattern_of letter.Table = a_table anything anything
pattern_of letter.List = a_list anything
pattern_of letter.Words = a_table a_number a_text
pattern_of _ = anything

-- the letters that rows of two places have
abbrev pub IsOfTwo : Letter → Type 0
IsOfTwo letter.Number = Unit {0}
IsOfTwo letter.Text = Unit {0}
IsOfTwo letter.Element = Unit {0}
IsOfTwo letter.Train = Unit {0}
IsOfTwo _ = ⊥
