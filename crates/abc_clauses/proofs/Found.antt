-- What several readings together find.
use Rattle.std.proofs.Common.{◌≡◌, Bool, true, false, List, [], ◌∷◌, Option, Some, None, refl, ap, sym, ◌∙◌}
use Rattle.std.specs.Prelude.{ℕ, option_map, if◌then◌else◌}
use Rattle.std.proofs.lemmas.Option.{same_Some}
use Rattle.abc_num.specs.Text.{text_eq}
use Rattle.abc_num.proofs.Texts.{text_eq-Decides}
use Rattle.abc_expressions.specs.declared.lexemes.Lexeme.{Lexeme}
use Rattle.abc_clauses.specs.Cuts.{Cut}
use Rattle.abc_clauses.specs.Readings.{both, only_if, of_cut, if_alone, Spellings, spelled_by}

pub both_told : {X Y Z : Type 0} (f : X → Y → Z) (a : Option X) (b : Option Y) (z : Z) → both f a b ≡ Some z
    → (x : X) × (y : Y) × (a ≡ Some x) × (b ≡ Some y) × (f x y ≡ z)
both_told f None b z h = cc
both_told f (Some x) None z h = cc
both_told f (Some x) (Some y) z h = (x, y, refl, refl, same_Some (f x y) z h)

pub map_told : {X Z : Type 0} (f : X → Z) (a : Option X) (z : Z) → option_map f a ≡ Some z → (x : X) × (a ≡ Some x) × (f x ≡ z)
map_told f None z h = cc
map_told f (Some x) z h = (x, refl, same_Some (f x) z h)

pub only_told : {X : Type 0} (is : X → Bool) (a : Option X) (z : X) → only_if is a ≡ Some z → (a ≡ Some z) × (is z ≡ true)
only_told is None z h = cc
only_told is (Some x) z h = by_test (is x) refl h
  where
    by_test : (b : Bool) → is x ≡ b → (if b then Some x else None) ≡ Some z → (Some x ≡ Some z) × (is z ≡ true)
    by_test true e h = (h, ap is (sym (same_Some x z h)) ∙ e)
    by_test false e h = cc

pub only_found : {X : Type 0} (is : X → Bool) (a : Option X) (z : X) → a ≡ Some z → is z ≡ true → only_if is a ≡ Some z
only_found is a z h e = ap (only_if is) h ∙ ap (λ b. if b then Some z else None) e

pub alone_told : {X : Type 0} (x : X) (ts : List Lexeme) (z : X) → if_alone x ts ≡ Some z → (ts ≡ []) × (x ≡ z)
alone_told x [] z h = (refl, same_Some x z h)
alone_told x (token ∷ ts) z h = cc

pub cut_of : {X : Type 0} (read : List Lexeme → List Lexeme → Option X) (c : Option Cut) (z : X) → of_cut read c ≡ Some z
    → (cut : Cut) × (c ≡ Some cut) × (read cut.0 cut.1 ≡ Some z)
cut_of read None z h = cc
cut_of read (Some cut) z h = (cut, refl, h)

-- what is found where a test holds, and nothing else
pub if_told : {X : Type 0} (b : Bool) (a : Option X) (z : X) → (if b then a else None) ≡ Some z → (b ≡ true) × (a ≡ Some z)
if_told true a z h = (refl, h)
if_told false a z h = cc

pub unless_told : {X : Type 0} (b : Bool) (a : Option X) (z : X) → (if b then None else a) ≡ Some z → (b ≡ false) × (a ≡ Some z)
unless_told true a z h = cc
unless_told false a z h = (refl, h)

-- a word is spelled as the rows of a table say, and the spelling of each is another
module _ {X : Type 0} (spelling : X → List ℕ) where
  abbrev pub AreSpelled : Spellings X → Type 0
  AreSpelled [] = Unit {0}
  AreSpelled (row ∷ rows) = (spelling row.1 ≡ row.0) × AreSpelled rows

  word_by : (row : List ℕ × X) (rows : Spellings X) (x : List ℕ) (v : X) (b : Bool) → text_eq x row.0 ≡ b → spelling row.1 ≡ row.0 → (spelled_by rows x ≡ Some v → x ≡ spelling v)
      → (if b then Some row.1 else spelled_by rows x) ≡ Some v → x ≡ spelling v
  word_by row rows x v true e is later h = (text_eq-Decides x row.0).0 e ∙ sym is ∙ ap spelling (same_Some row.1 v h)
  word_by row rows x v false e is later h = later h

  pub word_of : (rows : Spellings X) → AreSpelled rows → (x : List ℕ) (v : X) → spelled_by rows x ≡ Some v → x ≡ spelling v
  word_of [] are x v h = cc
  word_of (row ∷ rows) are x v h = word_by row rows x v (text_eq x row.0) refl are.0 (word_of rows are.1 x v) h
