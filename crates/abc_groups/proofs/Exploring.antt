-- What has been found grows, until all that is reached has been found.
use Rattle.std.proofs.Common.{◌≡◌, ◌<◌, ◌+◌, ◌++◌, ◌⊎◌, ◌↔◌, inl, inr, ℕ, Bool, false, List, [], ◌∷◌, length, get_or, map, Option, Some, None, slice_get, refl, sym, ap, subst, ◌∙◌, arith}
use Rattle.std.specs.Prelude.{is_some, option_map, slice_index_or}
use Rattle.std.specs.List.{All, Contains}
use Rattle.std.proofs.Math.ListN.{length-append, get_or-append}
use Rattle.std.proofs.Math.Seq.{get_or-append_seam}
use Rattle.std.proofs.lemmas.Bool.{cases_lt}
use Rattle.std.proofs.lemmas.List.{get_or_default, get_or-map, length-map}
use Rattle.std.proofs.lemmas.List.Elements.{All-append, All-cons, All-contains, All-head, All-nil, All-tail, All-weaker, Contains-append_left, Contains-get_or}
use Rattle.std.proofs.lemmas.Option.{slice_get_within, get_or_from_slice_get}
use Rattle.abc_tree.specs.Templates.{template_text}
use Rattle.abc_tree.specs.declared.templates.Template.{Template}
use Rattle.abc_groups.specs.Reach.{DoesCall, IsFrom}
use Rattle.abc_groups.specs.Program.{Program, called, if_any, texts}
use Rattle.abc_groups.specs.inner.Found.{IsNumbered, name_of}
use Rattle.abc_groups.specs.inner.Explored.{IsExplored, row_of}
use Rattle.abc_groups.proofs.Texts.{contains_map}
use Rattle.abc_groups.proofs.Walks.{along, from_more, from_seed}
use Rattle.abc_groups.proofs.Numbering.{name_stays, names_stay}

-- at the beginning the seeds are found
pub explored_none : (program : Program) (seeds names : List (List ℕ)) (row : List ℕ) → IsNumbered [] seeds row names → IsExplored program seeds names [] []
explored_none program seeds names row m = record {
  seeded = subst (All (Contains names)) m.named (in_row row m.inside);
  from = subst (All (IsFrom (called program) seeds)) (sym m.grown) (All-weaker (Contains seeds) (IsFrom (called program) seeds) (λ a c. from_seed (called program) seeds a c) m.more m.new);
  rows_in = omega arith;
  as_many = refl;
  inside = λ i h. absurd (omega (arith, h));
  named = λ i h. absurd (omega (arith, h));
  is_there = λ i h. absurd (omega (arith, h));
}
  where
    in_row : (row : List ℕ) → All (λ i. i < length names) row → All (Contains names) (map (name_of names) row)
    in_row [] all = All-nil (Contains names)
    in_row (i ∷ row) all = All-cons (Contains names) (name_of names i) (map (name_of names) row) (Contains-get_or names i [] (All-head (λ i. i < length names) i row all)) (in_row row (All-tail (λ i. i < length names) i row all))

is_some_map : {A B : Type 0} (f : A → B) (o : Option A) → is_some o ≡ is_some (option_map f o)
is_some_map f None = refl
is_some_map f (Some x) = refl

module _ (program : Program) (seeds names rows : List (List ℕ)) (there : List Bool) (e : IsExplored program seeds names rows there) where
  -- the calls of one template more are known
  pub explored_more : length rows < length names → (cs : List (List ℕ)) → cs ≡ called program (name_of names (length rows)) → (b : Bool) → b ≡ is_some (program (name_of names (length rows)))
      → (row : List ℕ) (names2 : List (List ℕ)) → IsNumbered names cs row names2 → IsExplored program seeds names2 (rows ++ row ∷ []) (there ++ b ∷ [])
  explored_more lt cs is b there_is row names2 m = record {
    seeded = All-weaker (Contains names) (Contains names2) (λ x c. subst (λ ns. Contains ns x) (sym m.grown) (Contains-append_left names m.more x c)) seeds e.seeded;
    from = subst (All (IsFrom (called program) seeds)) (sym m.grown) (All-append (IsFrom (called program) seeds) names m.more e.from
        (All-weaker (Contains cs) (IsFrom (called program) seeds) (λ x c. from_more (called program) seeds (name_of names (length rows)) x (e.from (length rows) [] lt) (subst (λ xs. Contains xs x) is c)) m.more m.new));
    rows_in = omega (arith, lt, more_rows, grown_length);
    as_many = omega (arith, e.as_many, more_rows, length-append there (b ∷ []));
    inside = λ i h. in_now i (place i h);
    named = λ i h. named_now i (place i h);
    is_there = λ i h. there_now i (place i h);
  }
    where
      more_rows : length (rows ++ row ∷ []) ≡ length rows + 1
      more_rows = length-append rows (row ∷ [])

      grown_length : length names2 ≡ length names + length m.more
      grown_length = ap length m.grown ∙ length-append names m.more

      place : (i : ℕ) → i < length (rows ++ row ∷ []) → (i < length rows) ⊎ (i ≡ length rows)
      place i h = elim (cases_lt i (length rows)) [
        | inl low ↦ inl low
        | inr high ↦ inr (omega (arith, high, h, more_rows))
      ]

      old_row : (i : ℕ) → i < length rows → row_of (rows ++ row ∷ []) i ≡ row_of rows i
      old_row i h = get_or-append rows (row ∷ []) [] i h

      new_row : (i : ℕ) → i ≡ length rows → row_of (rows ++ row ∷ []) i ≡ row
      new_row i at = ap (row_of (rows ++ row ∷ [])) at ∙ get_or-append_seam rows row [] []

      old_name : (i : ℕ) → i < length names → name_of names2 i ≡ name_of names i
      old_name i h = ap (λ ns. name_of ns i) m.grown ∙ name_stays names m.more i h

      in_now : (i : ℕ) → ((i < length rows) ⊎ (i ≡ length rows)) → All (λ k. k < length names2) (row_of (rows ++ row ∷ []) i)
      in_now i (inl h) = subst (All (λ k. k < length names2)) (sym (old_row i h)) (All-weaker (λ k. k < length names) (λ k. k < length names2) (λ k below. omega (arith, below, grown_length)) (row_of rows i) (e.inside i h))
      in_now i (inr at) = subst (All (λ k. k < length names2)) (sym (new_row i at)) m.inside

      named_now : (i : ℕ) → ((i < length rows) ⊎ (i ≡ length rows)) → map (name_of names2) (row_of (rows ++ row ∷ []) i) ≡ called program (name_of names2 i)
      named_now i (inl h) =
          ap (map (name_of names2)) (old_row i h) ∙ ap (λ ns. map (name_of ns) (row_of rows i)) m.grown ∙ names_stay names m.more (row_of rows i) (e.inside i h) ∙ e.named i h
          ∙ ap (called program) (sym (old_name i (omega (arith, h, e.rows_in))))
      named_now i (inr at) =
          ap (map (name_of names2)) (new_row i at) ∙ m.named ∙ is ∙ ap (called program) (sym (old_name (length rows) lt) ∙ ap (name_of names2) (sym at))

      there_now : (i : ℕ) → ((i < length rows) ⊎ (i ≡ length rows)) → slice_index_or (there ++ b ∷ []) i false ≡ is_some (program (name_of names2 i))
      there_now i (inl h) = get_or-append there (b ∷ []) false i (omega (arith, h, e.as_many)) ∙ e.is_there i h ∙ ap (λ t. is_some (program t)) (sym (old_name i (omega (arith, h, e.rows_in))))
      there_now i (inr at) =
          ap (λ k. slice_index_or (there ++ b ∷ []) k false) (at ∙ sym e.as_many) ∙ get_or-append_seam there b [] false ∙ there_is
          ∙ ap (λ t. is_some (program t)) (sym (old_name (length rows) lt) ∙ ap (name_of names2) (sym at))

  -- the same of what was read
  pub explored_next : {A : Type 0} (view : A → List (List ℕ)) (ts : List Template) (n : ℕ) (t : Template) → names ≡ texts ts → n ≡ length rows → slice_get ts n ≡ Some t
      → (found : Option A) → option_map view found ≡ program (template_text t) → (cs : List (List ℕ)) → cs ≡ if_any (option_map view found) → (b : Bool) → b ≡ is_some found
      → (row : List ℕ) (names2 : List (List ℕ)) → IsNumbered names cs row names2 → IsExplored program seeds names2 (rows ++ row ∷ []) (there ++ b ∷ [])
  explored_next view ts n t same at read found told cs listed b there_is row names2 m =
      let h : length rows < length ts = subst (λ k. k < length ts) at (slice_get_within ts n t read) in
      let name : template_text t ≡ name_of names (length rows) =
      sym (ap (λ ns. name_of ns (length rows)) same ∙ get_or-map template_text ts (length rows) t [] h
      ∙ ap template_text (ap (λ k. get_or ts k t) (sym at) ∙ get_or_from_slice_get ts n t t read)) in
      explored_more (omega (arith, h, ap length same, length-map ts template_text)) cs (listed ∙ ap if_any told ∙ ap (called program) name) b
      (there_is ∙ is_some_map view found ∙ ap is_some told ∙ ap (λ x. is_some (program x)) name) row names2 m

  module _ (whole : length rows ≡ length names) where
    -- the number of a template that was found
    pub place_of : (x : List ℕ) → Contains names x → (i : ℕ) × (i < length rows) × (name_of names i ≡ x)
    place_of x c = (c.0, omega (arith, c.1, whole), get_or_default names c.0 [] x c.1 ∙ c.2)

    closed : (a b : List ℕ) → Contains names a → DoesCall (called program) a b → Contains names b
    closed a b c call =
        let p : (i : ℕ) × (i < length rows) × (name_of names i ≡ a) = place_of a c in
        let row : map (name_of names) (row_of rows p.0) ≡ called program a = e.named p.0 p.1 ∙ ap (called program) p.2 in
        let k : (k : ℕ) × Contains (row_of rows p.0) k × (name_of names k ≡ b) = contains_map (name_of names) (row_of rows p.0) b (subst (λ xs. Contains xs b) (sym row) call) in
        subst (Contains names) k.2 (Contains-get_or names k.0 [] (All-contains (λ k. k < length names) (row_of rows p.0) k.0 (e.inside p.0 p.1) k.1))

    -- exactly what is reached was found
    pub found_exactly : (b : List ℕ) → (Contains names b ↔ IsFrom (called program) seeds b)
    found_exactly b = (λ c. All-contains (IsFrom (called program) seeds) names b e.from c, λ f. along (called program) (Contains names) closed f.2.0 f.0 b f.2.1 (All-contains (Contains names) seeds f.0 e.seeded f.1))
