-- How large a type is.
use Rattle.std.specs.Prelude.{ℕ, ◌+◌, sum}
use Rattle.abc_num.specs.declared.types.Ground.{Ground, fold-Ground}
use Rattle.abc_num.specs.declared.types.Ground.TheOpen.{Ground-F}

-- the size of a type from those of its parts
abbrev pub size_step : Ground-F ℕ → ℕ
size_step Ground-F.Number = 0
size_step Ground-F.Text = 0
size_step (Ground-F.Compound fields) = sum fields + 1
size_step (Ground-F.List element) = element + 1
size_step (Ground-F.Table key associate) = key + associate + 1

-- how many compounds, lists and tables a type has
abbrev pub size : Ground → ℕ
size = fold-Ground ℕ size_step
