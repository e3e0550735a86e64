-- What is left of the text of a template.
use Rattle.std.specs.Prelude.{ℕ, List, ◌++◌, map}
use Rattle.abc_tree.specs.Templates.{written, behind}
use Rattle.abc_tree.specs.declared.templates.Letters.{Letters}

abbrev pub letters_of : Letters → List ℕ
letters_of letters = letters.bytes.now ++ behind (map written letters.words.now)
