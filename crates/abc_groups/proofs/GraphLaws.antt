-- A graph whose entries are found by the places of their texts.
use Rattle.std.proofs.Common.{◌≡◌, ◌<◌, ◌+◌, ℕ, zero, suc, true, false, List, [], ◌∷◌, length, take, get_or, Some, None, if◌then◌else◌, refl, sym, ap, ◌∙◌, arith}
use Rattle.std.specs.Prelude.{position, slice_index_or}
use Rattle.std.specs.List.{IsDistinct, list_any}
use Rattle.std.proofs.lemmas.List.{get_or-map}
use Rattle.std.proofs.lemmas.List.Folds.{list_any_at}
use Rattle.std.proofs.lemmas.List.Quantifiers.{position-Some}
use Rattle.std.proofs.lemmas.Map.Keys.{IsDistinct-from_apart}
use Rattle.abc_num.specs.Text.{text_eq}
use Rattle.abc_num.proofs.Texts.{next_name}
use Rattle.indexmap.specs.IndexSet.{insert_key}
use Rattle.abc_tree.specs.Templates.{template_text}
use Rattle.abc_groups.specs.Program.{EachOnce, entry_texts, program_of, texts}
use Rattle.abc_groups.specs.inner.Found.{name_of}
use Rattle.abc_groups.specs.declared.graph.Calls.{Calls}
use Rattle.abc_groups.proofs.Texts.{eq_no, untrue}

not_this : (e : Calls) (graph : List Calls) (t : List ℕ) → text_eq t (template_text e.template) ≡ false → program_of (e ∷ graph) t ≡ program_of graph t
not_this e graph t miss = ap (λ b. if b then Some (texts e.called) else program_of graph t) miss

first_at : (graph : List Calls) (t : List ℕ) (i : ℕ) (d : Calls) → i < length (entry_texts graph) → text_eq t (name_of (entry_texts graph) i) ≡ true → ((k : ℕ) → k < i → text_eq t (name_of (entry_texts graph) k) ≡ false)
    → program_of graph t ≡ Some (texts (slice_index_or graph i d).called)
first_at [] t i d h hit before = absurd (omega (arith, h))
first_at (e ∷ graph) t zero d h hit before = ap (λ b. if b then Some (texts e.called) else program_of graph t) hit
first_at (e ∷ graph) t (suc i) d h hit before = not_this e graph t (before 0 (omega arith)) ∙ first_at graph t i d (omega (arith, h)) hit (λ k lt. before (suc k) (omega (arith, lt)))

pub program_at : (graph : List Calls) (t : List ℕ) (i : ℕ) (d : Calls) → position (text_eq t) (entry_texts graph) ≡ Some i → program_of graph t ≡ Some (texts (slice_index_or graph i d).called)
program_at graph t i d found =
    let p = position-Some (text_eq t) (entry_texts graph) i [] found in
    first_at graph t i d p.0 p.1 p.2

none_at : (graph : List Calls) (t : List ℕ) → ((k : ℕ) → k < length (entry_texts graph) → text_eq t (name_of (entry_texts graph) k) ≡ false) → program_of graph t ≡ None
none_at [] t all = refl
none_at (e ∷ graph) t all = not_this e graph t (all 0 (omega arith)) ∙ none_at graph t (λ k h. all (suc k) (omega (arith, h)))

pub program_none : (graph : List Calls) (t : List ℕ) → list_any (text_eq t) (entry_texts graph) ≡ false → program_of graph t ≡ None
program_none graph t none =
    none_at graph t (λ k h. untrue (text_eq t (name_of (entry_texts graph) k)) (λ hit. let f : true ≡ false = sym (list_any_at (text_eq t) (entry_texts graph) k [] h hit) ∙ none in cc))

same_length : (graph : List Calls) → length (entry_texts graph) ≡ length graph
same_length [] = refl
same_length (e ∷ graph) = ap suc (same_length graph)

-- one entry more
pub text_next : (graph : List Calls) (i : ℕ) (e : Calls) → EachOnce graph → i < length graph → e ≡ get_or graph i e → insert_key text_eq (take i (entry_texts graph)) (template_text e.template) ≡ take (i + 1) (entry_texts graph)
text_next graph i e once h at =
    let low : i < length (entry_texts graph) = omega (arith, h, same_length graph) in
    let read : get_or (entry_texts graph) i [] ≡ template_text e.template = get_or-map (λ (x : Calls). template_text x.template) graph i e [] h ∙ ap (λ (x : Calls). template_text x.template) (sym at) in
    let distinct : IsDistinct text_eq (entry_texts graph) = IsDistinct-from_apart text_eq (entry_texts graph) (λ i j d lt k. eq_no (get_or (entry_texts graph) i d) (get_or (entry_texts graph) j d) (once i j d lt k)) in
    ap (insert_key text_eq (take i (entry_texts graph))) (sym read) ∙ next_name (entry_texts graph) i [] distinct low

pub place_in : (graph : List Calls) (t : List ℕ) (i : ℕ) → position (text_eq t) (entry_texts graph) ≡ Some i → i < length graph
place_in graph t i found = omega (arith, (position-Some (text_eq t) (entry_texts graph) i [] found).0, same_length graph)
