-- Templates by their texts.
use Rattle.std.specs.Prelude.{◌≡◌, ℕ, List}
use Rattle.std.specs.List.{AllByRecursion, Contains}
use Rattle.std.specs.Map.{keys_of}
use Rattle.abc_tree.specs.Templates.{template_text}
use Rattle.abc_tree.specs.declared.templates.Template.{Template}

-- each entry has the text of its template, and these texts are there and no others
pub record IsByText (these : List (List ℕ)) (entries : List (List ℕ × Template)) : Type 0 where
  pub named : AllByRecursion (λ e. e.0 ≡ template_text e.1) entries
  pub known : (x : List ℕ) → Contains these x → Contains (keys_of entries) x
  pub only : (x : List ℕ) → Contains (keys_of entries) x → Contains these x
