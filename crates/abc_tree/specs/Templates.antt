-- Templates as text, and their order.
use Rattle.std.specs.Prelude.{ℕ, List, [], ◌∷◌, ◌++◌, map, codes}
use Rattle.std.specs.declared.cmp.Ordering.{Ordering}
use Rattle.abc_num.specs.Text.{text_cmp}
use Rattle.abc_tree.specs.declared.templates.Template.{Template}
use Rattle.abc_tree.specs.declared.templates.TemplateKind.{TemplateKind}
use Rattle.abc_tree.specs.declared.templates.TemplateKind.TheVariants as kind
use Rattle.abc_tree.specs.declared.templates.Word.{Word}
use Rattle.abc_tree.specs.declared.templates.Word.TheVariants as word

-- a word as it is written; a place is an underscore
abbrev pub written : Word → List ℕ
written (word.Key bytes) = bytes
written word.Place = codes "_"

-- a space before each word
abbrev pub behind : List (List ℕ) → List ℕ
behind [] = []
behind (w ∷ ws) = 32 ∷ (w ++ behind ws)

-- words with one space between them
abbrev pub spaced : List (List ℕ) → List ℕ
spaced [] = []
spaced (w ∷ ws) = w ++ behind ws

-- the keyword before the words
abbrev pub with_kind : TemplateKind → List (List ℕ) → List (List ℕ)
with_kind kind.Command ws = ws
with_kind kind.Function ws = codes "RETURN" ∷ ws
with_kind kind.Predicate ws = codes "REPORT" ∷ ws

-- the text of a template
abbrev pub template_text : Template → List ℕ
template_text t = spaced (with_kind t.kind (map written t.words))

-- templates are ordered by the bytes of their texts
abbrev pub template_cmp : Template → Template → Ordering
template_cmp a b = text_cmp (template_text a) (template_text b)
