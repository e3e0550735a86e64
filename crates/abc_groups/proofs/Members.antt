-- From groups of numbers to groups of templates.
use Rattle.std.proofs.Common.{◌≡◌, ◌≢◌, ◌<◌, ◌≤◌, ◌+◌, ◌++◌, ◌⊎◌, ◌↔◌, inl, inr, ℕ, zero, suc, Bool, true, false, List, [], ◌∷◌, length, take, get_or, map, Option, Some, None, if◌then◌else◌, refl, sym, ap, subst, ◌∙◌, arith}
use Rattle.std.specs.Prelude.{is_some}
use Rattle.std.specs.List.{All, Contains}
use Rattle.std.proofs.Math.ListN.{length-append, get_or-append}
use Rattle.std.proofs.Math.Seq.{get_or-append_seam}
use Rattle.std.proofs.lemmas.Bool.{cases_lt}
use Rattle.std.proofs.lemmas.List.{get_or_past, take_more}
use Rattle.std.proofs.lemmas.List.Elements.{All-contains, Contains-get_or}
use Rattle.abc_num.specs.Names.{AreDifferent}
use Rattle.abc_num.specs.Text.{text_eq}
use Rattle.abc_num.proofs.Texts.{text_eq-Decides}
use Rattle.abc_tree.specs.Templates.{template_text}
use Rattle.abc_groups.specs.Reach.{AreTogether, DoesCall, Leads, Way}
use Rattle.abc_groups.specs.Program.{Program, called, entry_texts, if_any, program_of, texts}
use Rattle.abc_groups.specs.Groups.{AreGroups, group_at}
use Rattle.abc_groups.specs.inner.Explored.{IsExplored, row_of}
use Rattle.abc_groups.specs.inner.Found.{name_of}
use Rattle.abc_groups.specs.inner.Least.{IsHere, IsAway}
use Rattle.abc_groups.specs.inner.Named.{AreNamed}
use Rattle.abc_groups.specs.inner.Search.{AreNumberGroups, IsInside}
use Rattle.abc_groups.specs.declared.graph.Calls.{Calls}
use Rattle.abc_groups.proofs.Exploring.{place_of}
use Rattle.abc_groups.proofs.Texts.{contains_map, map_contains}

some_at : {X : Type 0} (o : Option X) → o ≢ None → is_some o ≡ true
some_at None n = absurd (n refl)
some_at (Some x) n = refl

not_none : {X : Type 0} (o : Option X) → is_some o ≡ true → o ≢ None
not_none None e n = cc
not_none (Some x) e n = cc

none_in : {X : Type 0} (o : Option X) → is_some o ≡ false → o ≡ None
none_in None e = refl
none_in (Some x) e = absurd cc

-- a template whose unit is there has an entry
pub entry_found : (graph : List Calls) (x : List ℕ) → program_of graph x ≢ None → Contains (entry_texts graph) x
entry_found [] x n = absurd (n refl)
entry_found (e ∷ graph) x n = by_test (text_eq x (template_text e.template)) refl (entry_found graph x)
  where
    by_test : (b : Bool) → text_eq x (template_text e.template) ≡ b → (program_of graph x ≢ None → Contains (entry_texts graph) x) → Contains (entry_texts (e ∷ graph)) x
    by_test true is more = (zero, omega arith, sym ((text_eq-Decides x (template_text e.template)).0 is))
    by_test false is more =
        let c : Contains (entry_texts graph) x = more (λ none. n (ap (λ b. if b then Some (texts e.called) else program_of graph x) is ∙ none)) in
        (suc c.0, omega (arith, c.1), c.2)

pub covers_entries : (graph entries : List Calls) (seeds : List (List ℕ)) → entries ≡ graph → seeds ≡ entry_texts graph → (x : List ℕ) → program_of entries x ≢ None → Contains seeds x
covers_entries graph entries seeds same seeded x n = subst (λ s. Contains s x) (sym seeded) (subst (λ g. Contains (entry_texts g) x) same (entry_found entries x n))

here_in : (there : List Bool) (i : ℕ) → IsHere there i → i < length there
here_in there i here = elim (cases_lt i (length there)) [
  | inl low ↦ low
  | inr high ↦ let f : true ≡ false = sym here ∙ get_or_past there i false high in absurd cc
]

module _ (program : Program) (seeds names rows : List (List ℕ)) (there : List Bool) (e : IsExplored program seeds names rows there) (whole : length rows ≡ length names) where
  -- what number_groups asks
  pub rows_inside : IsInside rows
  rows_inside a = elim (cases_lt a (length rows)) [
    | inl low ↦ subst (λ n. All (λ b. b < n) (row_of rows a)) (sym whole) (e.inside a low)
    | inr high ↦ (λ k d h. absurd (omega (arith, h, ap length (get_or_past rows a [] high))))
  ]

  pub away_alone : (x : ℕ) → IsAway there x → row_of rows x ≡ []
  away_alone x off = elim (cases_lt x (length rows)) [
    | inl low ↦ empty (row_of rows x) (e.named x low ∙ ap if_any (none_in (program (name_of names x)) (sym (e.is_there x low) ∙ off)))
    | inr high ↦ get_or_past rows x [] high
  ]
    where
      empty : (row : List ℕ) → map (name_of names) row ≡ [] → row ≡ []
      empty [] h = refl
      empty (i ∷ row) h = absurd cc

  way_up : (n a b : ℕ) → a < length rows → Way (row_of rows) n a b → Way (called program) n (name_of names a) (name_of names b)
  way_up zero a b h w = ap (name_of names) w
  way_up (suc n) a b h w =
      let low : w.0 < length names = All-contains (λ k. k < length names) (row_of rows a) w.0 (e.inside a h) w.1 in
      (name_of names w.0, subst (λ xs. Contains xs (name_of names w.0)) (e.named a h) (map_contains (name_of names) (row_of rows a) w.0 w.1), way_up n w.0 b (omega (arith, low, whole)) w.2)

  -- a call of a name is one of its number
  call_down : (a : ℕ) (y : List ℕ) → a < length rows → DoesCall (called program) (name_of names a) y → (k : ℕ) × Contains (row_of rows a) k × (name_of names k ≡ y) × (k < length rows)
  call_down a y h call =
      let k : (k : ℕ) × Contains (row_of rows a) k × (name_of names k ≡ y) = contains_map (name_of names) (row_of rows a) y (subst (λ xs. Contains xs y) (sym (e.named a h)) call) in
      let low : k.0 < length names = All-contains (λ k. k < length names) (row_of rows a) k.0 (e.inside a h) k.1 in
      (k.0, k.1, k.2, omega (arith, low, whole))

  way_down : (n a : ℕ) (y : List ℕ) → a < length rows → Way (called program) n (name_of names a) y → (b : ℕ) × (b < length rows) × (name_of names b ≡ y) × Way (row_of rows) n a b
  way_down zero a y h w = (a, h, w, refl)
  way_down (suc n) a y h w =
      let k : (k : ℕ) × Contains (row_of rows a) k × (name_of names k ≡ w.0) × (k < length rows) = call_down a w.0 h w.1 in
      let r : (b : ℕ) × (b < length rows) × (name_of names b ≡ y) × Way (row_of rows) n k.0 b = way_down n k.0 y k.3 (subst (λ z. Way (called program) n z y) (sym k.2) w.2) in
      (r.0, r.1, r.2, (k.0, k.1, r.3))

  module _ (different : AreDifferent names) where
    one_number : (i j : ℕ) → i < length rows → j < length rows → name_of names i ≡ name_of names j → i ≡ j
    one_number i j hi hj same = elim (cases_lt i j) [
      | inl less ↦ absurd (different i j [] less (omega (arith, hj, whole)) same)
      | inr more ↦ elim (cases_lt j i) [
        | inl less ↦ absurd (different j i [] less (omega (arith, hi, whole)) (sym same))
        | inr both ↦ omega (arith, more, both)
      ]
    ]

    leads_down : (i j : ℕ) → i < length rows → j < length rows → Leads (called program) (name_of names i) (name_of names j) → Leads (row_of rows) i j
    leads_down i j hi hj l =
        let r : (b : ℕ) × (b < length rows) × (name_of names b ≡ name_of names j) × Way (row_of rows) l.0 i b = way_down l.0 i (name_of names j) hi l.1 in
        (l.0, subst (λ b. Way (row_of rows) l.0 i b) (one_number r.0 j r.1 hj r.2) r.3)

    module _ (covers : (x : List ℕ) → program x ≢ None → Contains seeds x) (numbers : List (List ℕ)) (n : AreNumberGroups rows there numbers) where
      -- the members have numbers
      pub members_in : (g : ℕ) → All (λ i. i < length names) (row_of numbers g)
      members_in g = elim (cases_lt g (length numbers)) [
        | inl low ↦ (λ k d h. omega (arith, here_in there (get_or (row_of numbers g) k d) (n.present g (get_or (row_of numbers g) k d) low (Contains-get_or (row_of numbers g) k d h)), e.as_many, whole))
        | inr high ↦ (λ k d h. absurd (omega (arith, h, ap length (get_or_past numbers g [] high))))
      ]

      module _ (groups : List (List (List ℕ))) (named : AreNamed names numbers groups) where
        abbrev Member : ℕ → List ℕ → Type 0
        Member g x = (i : ℕ) × (i < length rows) × (name_of names i ≡ x) × Contains (row_of numbers g) i

        below : (g : ℕ) → g < length groups → g < length numbers
        below g h = omega (arith, h, named.as_many)

        member : (g : ℕ) (x : List ℕ) → g < length groups → Contains (group_at groups g) x → Member g x
        member g x h c =
            let i : (i : ℕ) × Contains (row_of numbers g) i × (name_of names i ≡ x) = contains_map (name_of names) (row_of numbers g) x ((named.members g x h).0 c) in
            let low : i.0 < length there = here_in there i.0 (n.present g i.0 (below g h) i.1) in
            (i.0, omega (arith, low, e.as_many), i.2, i.1)

        put : (g i : ℕ) (x : List ℕ) → g < length groups → name_of names i ≡ x → Contains (row_of numbers g) i → Contains (group_at groups g) x
        put g i x h same c = (named.members g x h).1 (subst (Contains (map (name_of names) (row_of numbers g))) same (map_contains (name_of names) (row_of numbers g) i c))

        here_number : (i : ℕ) (x : List ℕ) → i < length rows → name_of names i ≡ x → program x ≢ None → IsHere there i
        here_number i x h same is = e.is_there i h ∙ ap (λ z. is_some (program z)) same ∙ some_at (program x) is

        together_up : (i j : ℕ) (x y : List ℕ) → i < length rows → j < length rows → name_of names i ≡ x → name_of names j ≡ y → AreTogether (row_of rows) i j → AreTogether (called program) x y
        together_up i j x y hi hj ei ej t =
            subst (λ z. AreTogether (called program) x z) ej (subst (λ z. AreTogether (called program) z (name_of names j)) ei ((t.0.0, way_up t.0.0 i j hi t.0.1), (t.1.0, way_up t.1.0 j i hj t.1.1)))

        from_together : (g : ℕ) (x y : List ℕ) → g < length groups → Member g x → AreTogether (called program) x y → Contains (group_at groups g) y
        from_together g x y h m t =
            let r : (b : ℕ) × (b < length rows) × (name_of names b ≡ y) × Way (row_of rows) t.0.0 m.0 b = way_down t.0.0 m.0 y m.1 (subst (λ z. Way (called program) t.0.0 z y) (sym m.2) t.0.1) in
            let back : Leads (row_of rows) r.0 m.0 = leads_down r.0 m.0 r.1 m.1 (subst (λ z. Leads (called program) z (name_of names m.0)) (sym r.2) (subst (λ z. Leads (called program) y z) (sym m.2) t.1)) in
            put g r.0 y h r.2 ((n.exact g m.0 r.0 (below g h) m.3).1 ((t.0.0, r.3), back))

        pub groups_named : AreGroups program groups
        groups_named = record {
          exact = λ g x y h c. (
            (λ d. let i : Member g x = member g x h c in let j : Member g y = member g y h d in together_up i.0 j.0 x y i.1 j.1 i.2 j.2 ((n.exact g i.0 j.0 (below g h) i.3).0 j.3)),
            λ t. from_together g x y h (member g x h c) t,
          );
          some = λ g h. (name_of names (get_or (row_of numbers g) 0 0), put g (get_or (row_of numbers g) 0 0) (name_of names (get_or (row_of numbers g) 0 0)) h refl (Contains-get_or (row_of numbers g) 0 0 (n.some g (below g h))));
          there = λ g x h c.
              let i : Member g x = member g x h c in
              not_none (program x) (ap (λ z. is_some (program z)) (sym i.2) ∙ sym (e.is_there i.0 i.1) ∙ n.present g i.0 (below g h) i.3);
          found = λ x is.
              let i : (i : ℕ) × (i < length rows) × (name_of names i ≡ x) = place_of program seeds names rows there e whole x (All-contains (Contains names) seeds x e.seeded (covers x is)) in
              let f : (g : ℕ) × (g < length numbers) × Contains (row_of numbers g) i.0 = n.found i.0 i.1 (here_number i.0 x i.1 i.2 is) in
              let h : f.0 < length groups = omega (arith, f.1, named.as_many) in
              (f.0, h, put f.0 i.0 x h i.2 f.2);
          once = λ g k x hg hk cg ck.
              let i : Member g x = member g x hg cg in
              let j : Member k x = member k x hk ck in
              n.once g k i.0 (below g hg) (below k hk) i.3 (subst (Contains (row_of numbers k)) (one_number j.0 i.0 j.1 i.1 (j.2 ∙ sym i.2)) j.3);
          order = λ g x y h c call is.
              let i : Member g x = member g x h c in
              let k : (k : ℕ) × Contains (row_of rows i.0) k × (name_of names k ≡ y) × (k < length rows) = call_down i.0 y i.1 (subst (λ z. DoesCall (called program) z y) (sym i.2) call) in
              let f : (f : ℕ) × (f ≤ g) × Contains (row_of numbers f) k.0 = n.order g i.0 k.0 (below g h) i.3 k.1 (here_number k.0 y k.3 k.2 is) in
              (f.0, f.1, put f.0 k.0 y (omega (arith, f.1, h)) k.2 f.2);
        }

-- one group more
pub named_none : (names : List (List ℕ)) → AreNamed names [] []
named_none names = record { as_many = refl; members = λ g x h. absurd (omega (arith, h)) }

pub named_next : (names numbers : List (List ℕ)) (k : ℕ) (row : List ℕ) (groups : List (List (List ℕ))) (group : List (List ℕ)) → k < length numbers → row ≡ get_or numbers k row
    → ((x : List ℕ) → (Contains group x ↔ Contains (map (name_of names) row) x)) → AreNamed names (take k numbers) groups → AreNamed names (take (k + 1) numbers) (groups ++ group ∷ [])
named_next names numbers k row groups group h at same m =
    let e : take k numbers ++ row ∷ [] ≡ take (k + 1) numbers = sym (take_more numbers k row h ∙ ap (λ r. take k numbers ++ r ∷ []) (sym at)) in
    subst (λ ns. AreNamed names ns (groups ++ group ∷ [])) e (record {
      as_many = omega (arith, m.as_many, length-append groups (group ∷ []), length-append (take k numbers) (row ∷ []));
      members = λ g x low. at_place g x low (cases_lt g (length groups));
    })
  where
    at_place : (g : ℕ) (x : List ℕ) → g < length (groups ++ group ∷ []) → ((g < length groups) ⊎ (length groups ≤ g))
        → (Contains (group_at (groups ++ group ∷ []) g) x ↔ Contains (map (name_of names) (row_of (take k numbers ++ row ∷ []) g)) x)
    at_place g x low (inl early) =
        let a : group_at (groups ++ group ∷ []) g ≡ group_at groups g = get_or-append groups (group ∷ []) [] g early in
        let b : row_of (take k numbers ++ row ∷ []) g ≡ row_of (take k numbers) g = get_or-append (take k numbers) (row ∷ []) [] g (omega (arith, early, m.as_many)) in
        subst (λ r. Contains (group_at (groups ++ group ∷ []) g) x ↔ Contains (map (name_of names) r) x) (sym b) (subst (λ r. Contains r x ↔ Contains (map (name_of names) (row_of (take k numbers) g)) x) (sym a) (m.members g x early))
    at_place g x low (inr late) =
        let here : g ≡ length groups = omega (arith, low, late, length-append groups (group ∷ [])) in
        let a : group_at (groups ++ group ∷ []) g ≡ group = ap (group_at (groups ++ group ∷ [])) here ∙ get_or-append_seam groups group [] [] in
        let b : row_of (take k numbers ++ row ∷ []) g ≡ row = ap (row_of (take k numbers ++ row ∷ [])) (here ∙ m.as_many) ∙ get_or-append_seam (take k numbers) row [] [] in
        subst (λ r. Contains (group_at (groups ++ group ∷ []) g) x ↔ Contains (map (name_of names) r) x) (sym b) (subst (λ r. Contains r x ↔ Contains (map (name_of names) row) x) (sym a) (same x))
