-- Texts that get numbers, one after the other.
use Rattle.std.proofs.Common.{◌≡◌, ◌<◌, ◌+◌, ◌++◌, ℕ, Bool, true, false, List, [], ◌∷◌, length, take, get_or, map, Some, slice_get, if◌then◌else◌, refl, sym, ap, subst, ◌∙◌, arith}
use Rattle.std.specs.List.{All, Contains, list_any}
use Rattle.std.proofs.Math.ListN.{length-append, get_or-append}
use Rattle.std.proofs.lemmas.List.{map-append, take_more, append_assoc, append-nil}
use Rattle.std.proofs.lemmas.List.Elements.{All-append, All-cons, All-head, All-nil, All-tail, All-weaker, All-contains_itself, Contains-append_left, Contains-append_right}
use Rattle.std.proofs.lemmas.Option.{slice_get_within, get_or_from_slice_get}
use Rattle.abc_num.specs.Text.{text_eq}
use Rattle.abc_num.proofs.Texts.{text_eq-Decides}
use Rattle.abc_tree.specs.Templates.{template_text}
use Rattle.abc_tree.specs.declared.templates.Template.{Template}
use Rattle.indexmap.specs.IndexSet.{insert_key}
use Rattle.abc_groups.specs.Program.{texts}
use Rattle.abc_groups.specs.inner.Found.{IsNumbered, name_of}

-- an earlier name stays where it is
pub name_stays : (before more : List (List ℕ)) (i : ℕ) → i < length before → name_of (before ++ more) i ≡ name_of before i
name_stays before more i h = get_or-append before more [] i h

pub names_stay : (before more : List (List ℕ)) (row : List ℕ) → All (λ i. i < length before) row → map (name_of (before ++ more)) row ≡ map (name_of before) row
names_stay before more [] all = refl
names_stay before more (i ∷ row) all =
    let e = name_stays before more i (All-head (λ i. i < length before) i row all) in
    ap (λ x. x ∷ map (name_of (before ++ more)) row) e ∙ ap (λ (xs : List (List ℕ)). name_of before i ∷ xs) (names_stay before more row (All-tail (λ i. i < length before) i row all))

pub numbered_none : (names : List (List ℕ)) → IsNumbered names [] [] names
numbered_none names = record {
  more = [];
  grown = sym (append-nil names);
  new = All-nil (Contains []);
  inside = All-nil (λ i. i < length names);
  named = refl;
}

pub numbered_one : (before after : List (List ℕ)) (t : List ℕ) (i : ℕ) → after ≡ insert_key text_eq before t → (k : List ℕ) × (slice_get after i ≡ Some k) × (text_eq t k ≡ true) → IsNumbered before (t ∷ []) (i ∷ []) after
numbered_one before after t i keys at = by_test (list_any (text_eq t) before) refl
  where
    placed : All (λ i. i < length after) (i ∷ [])
    placed = All-cons (λ i. i < length after) i [] (slice_get_within after i at.0 at.1) (All-nil (λ i. i < length after))

    called : map (name_of after) (i ∷ []) ≡ t ∷ []
    called = ap (λ x. x ∷ []) (get_or_from_slice_get after i at.0 [] at.1 ∙ sym ((text_eq-Decides t at.0).0 at.2))

    by_test : (b : Bool) → list_any (text_eq t) before ≡ b → IsNumbered before (t ∷ []) (i ∷ []) after
    by_test true is = record {
      more = [];
      grown = keys ∙ ap (λ c. if c then before else before ++ t ∷ []) is ∙ sym (append-nil before);
      new = All-nil (Contains (t ∷ []));
      inside = placed;
      named = called;
    }
    by_test false is = record {
      more = t ∷ [];
      grown = keys ∙ ap (λ c. if c then before else before ++ t ∷ []) is;
      new = All-contains_itself (t ∷ []);
      inside = placed;
      named = called;
    }

pub numbered_more : (first xs : List (List ℕ)) (row : List ℕ) (mid ys : List (List ℕ)) (row2 : List ℕ) (last : List (List ℕ)) → IsNumbered first xs row mid → IsNumbered mid ys row2 last → IsNumbered first (xs ++ ys) (row ++ row2) last
numbered_more first xs row mid ys row2 last m n = record {
  more = m.more ++ n.more;
  grown = n.grown ∙ ap (λ z. z ++ n.more) m.grown ∙ append_assoc first m.more n.more;
  new = All-append (Contains (xs ++ ys)) m.more n.more (All-weaker (Contains xs) (Contains (xs ++ ys)) (λ x c. Contains-append_left xs ys x c) m.more m.new) (All-weaker (Contains ys) (Contains (xs ++ ys)) (λ x c. Contains-append_right xs ys x c) n.more n.new);
  inside = All-append (λ i. i < length last) row row2 (All-weaker (λ i. i < length mid) (λ i. i < length last) (λ i h. omega (arith, h, ap length n.grown, length-append mid n.more)) row m.inside) n.inside;
  named =
      map-append (name_of last) row row2
      ∙ ap (λ z. z ++ map (name_of last) row2) (ap (λ names. map (name_of names) row) n.grown ∙ names_stay mid n.more row m.inside ∙ m.named)
      ∙ ap (λ z. xs ++ z) n.named;
}

-- one template more
pub numbered_next : (first : List (List ℕ)) (ts : List Template) (k : ℕ) (t : Template) (row : List ℕ) (i : ℕ) (mid last : List (List ℕ)) → k < length ts → t ≡ get_or ts k t
    → IsNumbered first (texts (take k ts)) row mid → IsNumbered mid (template_text t ∷ []) (i ∷ []) last → IsNumbered first (texts (take (k + 1) ts)) (row ++ i ∷ []) last
numbered_next first ts k t row i mid last h at m n =
    let e : texts (take k ts) ++ template_text t ∷ [] ≡ texts (take (k + 1) ts) = sym (ap texts (take_more ts k t h ∙ ap (λ x. take k ts ++ x ∷ []) (sym at)) ∙ map-append template_text (take k ts) (t ∷ [])) in
    subst (λ z. IsNumbered first z (row ++ i ∷ []) last) e (numbered_more first (texts (take k ts)) row mid (template_text t ∷ []) (i ∷ []) last m n)
