-- What `Common` says of values, and the values of a column.
use Rattle.std.specs.Prelude.{List, map, Option}
use Rattle.std.specs.Option.{option_map}
use Rattle.abc_value.specs.Tree.{Tree}
use Rattle.abc_value.specs.Forms.{Form}
use Rattle.abc_value.specs.View.{entry_keys}
use Rattle.abc_value.specs.inner.Kept.{IsKept}
use Rattle.abc_value.specs.declared.value.Entry.{Entry}
use Rattle.abc_value.specs.declared.common.Common.{Common}
use Rattle.abc_value.specs.declared.table_shapes.TableShapes.{TableShapes}
use Rattle.abc_value.specs.declared.common.Column.{Column}
use Rattle.abc_value.specs.declared.common.Column.TheVariants.{Elements, Keys, Associates}

-- the form that is kept
abbrev pub kept_form : Common → Option Form
kept_form c = option_map (λ r. r.value) c.shape

-- what is kept is so of these values
abbrev pub Keeps : Common → List Tree → Type 0
Keeps c ts = IsKept (kept_form c) c.whole ts

abbrev pub entry_associates : List Entry → List Tree
entry_associates es = map (λ e. e.associate) es

abbrev pub column : Column → List Tree
column (Elements v) = v.now
column (Keys es) = entry_keys es.now
column (Associates es) = entry_associates es.now

-- what is kept of the keys and of the associates is so of these entries
abbrev pub KeepsBoth : TableShapes → List Entry → Type 0
KeepsBoth s es = Keeps s.keys (entry_keys es) × Keeps s.associates (entry_associates es)
