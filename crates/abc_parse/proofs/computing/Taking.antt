-- Parts are taken up one after the other.
use Rattle.std.proofs.Common.{◌≡◌, ◌<◌, ◌+◌, ℕ, List, [], ◌∷◌, ◌++◌, length, get_or, take, refl, ap, sym, ◌∙◌, append_assoc, append-nil}
use Rattle.std.proofs.lemmas.List.{take_more}
use Rattle.std.specs.Prelude.{unwrap_or}
use Rattle.abc_num.specs.Names.{number_of}
use Rattle.abc_parse.specs.Items.{all_shared, numbered, shared_by}
use Rattle.abc_faults.specs.declared.sayings.Saying.{Saying}

pub numbered_both : (names xs ys : List (List ℕ)) → numbered names (xs ++ ys) ≡ numbered names xs ++ numbered names ys
numbered_both names [] ys = refl
numbered_both names (x ∷ xs) ys = ap (λ l. record { 0 = unwrap_or (number_of names x) 0 } ∷ l) (numbered_both names xs ys)

all_shared_more : (lines : List Saying) (line : Saying) → all_shared (lines ++ line ∷ []) ≡ all_shared lines ++ shared_by line.clause.head
all_shared_more [] line = append-nil (shared_by line.clause.head)
all_shared_more (x ∷ lines) line =
    ap (λ l. shared_by x.clause.head ++ l) (all_shared_more lines line) ∙ sym (append_assoc (shared_by x.clause.head) (all_shared lines) (shared_by line.clause.head))

-- the names that one line more shares come last
pub shared_more : (names : List (List ℕ)) (lines : List Saying) (i : ℕ) (line : Saying) → i < length lines → line ≡ get_or lines i line
    → numbered names (all_shared (take (i + 1) lines)) ≡ numbered names (all_shared (take i lines)) ++ numbered names (shared_by line.clause.head)
shared_more names lines i line within e =
    ap (λ l. numbered names (all_shared l)) (take_more lines i line within ∙ ap (λ x. take i lines ++ x ∷ []) (sym e))
    ∙ ap (numbered names) (all_shared_more (take i lines) line)
    ∙ numbered_both names (all_shared (take i lines)) (shared_by line.clause.head)
