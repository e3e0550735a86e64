-- An item has no more names and formals than it may have.
use Rattle.std.proofs.Common.{◌≡◌, ◌≤◌, ◌+◌, ℕ, suc, Bool, true, false, ◌&&◌, not, cond, List, [], ◌∷◌, ◌++◌, length, Option, Some, None, refl, ap, sym, ◌∙◌, subst, arith, append_assoc}
use Rattle.std.specs.Prelude.{is_some, nat_lt, position, ◌||◌}
use Rattle.std.specs.List.{list_any, position_or_len}
use Rattle.std.proofs.lemmas.Bool.{lt-ltb, ltb-true, or_parts}
use Rattle.std.proofs.lemmas.List.Folds.{list_any-append}
use Rattle.abc_num.specs.Names.{number_of, with_name}
use Rattle.abc_num.specs.Text.{text_eq}
use Rattle.abc_num.specs.declared.limits.TheConstants.{MOST_FORMALS, MOST_NAMES}
use Rattle.abc_num.proofs.Texts.{text_eq-Decides}
use Rattle.abc_tree.specs.declared.formulas.Bound.{Bound}
use Rattle.abc_tree.specs.declared.templates.Template.{Template}
use Rattle.abc_expressions.specs.Addresses.{each_once}
use Rattle.abc_expressions.specs.NameTokens.{own_among, own_at}
use Rattle.abc_outline.specs.declared.rows.Row.{Row}
use Rattle.abc_outline.specs.OwnNames.{all_name_tokens, item_names, own_names, row_tokens, used_names}
use Rattle.abc_clauses.specs.declared.clause.Clause.{Clause}
use Rattle.abc_clauses.specs.declared.clause.Head.TheVariants as head
use Rattle.abc_clauses.specs.Formulas.{is_too_high}
use Rattle.abc_faults.specs.declared.facts.Facts.{Facts}
use Rattle.abc_faults.specs.declared.sayings.Saying.{Saying}
use Rattle.abc_faults.specs.Causes.{cause, places_in}
use Rattle.abc_faults.specs.Faults.{fault_from}
use Rattle.abc_faults.specs.Names.{names_so_far}
use Rattle.abc_faults.specs.Sayings.{AllSay, next_line, stop}
use Rattle.abc_faults.proofs.Around.{at_most, not_lt}
use Rattle.abc_parse.proofs.spelling.Formed.{Says}
use Rattle.abc_faults.proofs.Leasts.{or_none}
use Rattle.abc_parse.proofs.each_thing.Limits.{not_many}

-- ---- tests

or_false : (a : Bool) → (a || false) ≡ a
or_false true = refl
or_false false = refl

or_true : (a : Bool) → (a || true) ≡ true
or_true true = refl
or_true false = refl

or_or : (a b c : Bool) → ((a || b) || c) ≡ (a || (b || c))
or_or true b c = refl
or_or false b c = refl

and_or : (a l o : Bool) → ((a && o) || (l && o)) ≡ ((a || l) && o)
and_or true true true = refl
and_or true true false = refl
and_or true false true = refl
and_or true false false = refl
and_or false true true = refl
and_or false true false = refl
and_or false false true = refl
and_or false false false = refl

abbrev pub has : List (List ℕ) → List ℕ → Bool
has names x = list_any (text_eq x) names

module _ {X : Type 0} (p : X → Bool) where
  any_is : (xs : List X) → list_any p xs ≡ nat_lt (position_or_len p xs) (length xs)
  any_is [] = refl
  any_is (x ∷ xs) = step (p x) (any_is xs) where
    more : (k n : ℕ) (b : Bool) → nat_lt k n ≡ b → nat_lt (1 + k) (suc n) ≡ b
    more k n true e = let h = ltb-true k n e in lt-ltb (1 + k) (suc n) (omega arith)
    more k n false e = let h = at_most k n e in not_lt (1 + k) (suc n) (omega arith)

    step : (b : Bool) → list_any p xs ≡ nat_lt (position_or_len p xs) (length xs) → (b || list_any p xs) ≡ nat_lt (cond (not b) (1 + position_or_len p xs) 0) (suc (length xs))
    step true ih = sym (lt-ltb 0 (suc (length xs)) (omega arith))
    step false ih = ih ∙ sym (more (position_or_len p xs) (length xs) (nat_lt (position_or_len p xs) (length xs)) refl)

  some_if : (c : Bool) (i : ℕ) → is_some (cond c (Some i) None) ≡ c
  some_if true i = refl
  some_if false i = refl

  pub found_if : (xs : List X) → is_some (position p xs) ≡ list_any p xs
  found_if xs = some_if (nat_lt (position_or_len p xs) (length xs)) (position_or_len p xs) ∙ sym (any_is xs)

same_has : (names : List (List ℕ)) (x y : List ℕ) (b : Bool) → text_eq x y ≡ true → has names y ≡ b → has names x ≡ b
same_has names x y b e h = subst (λ z. has names z ≡ b) (sym ((text_eq-Decides x y).0 e)) h

-- ---- names, each once

has_with : (names : List (List ℕ)) (m x : List ℕ) → has (with_name names m) x ≡ (has names x || text_eq x m)
has_with names m x = by (has names m) refl (text_eq x m) refl where
  by : (b : Bool) → has names m ≡ b → (c : Bool) → text_eq x m ≡ c → has (cond b names (names ++ m ∷ [])) x ≡ (has names x || text_eq x m)
  by true e true t = let h : has names x ≡ true = same_has names x m true t e in h ∙ sym (ap (λ b. b || text_eq x m) h)
  by true e false t = sym (or_false (has names x)) ∙ sym (ap (λ c. has names x || c) t)
  by false e c t = list_any-append (text_eq x) names (m ∷ []) ∙ ap (λ b. has names x || b) (or_false (text_eq x m))

pub has_each : (found xs : List (List ℕ)) (x : List ℕ) → has (each_once found xs) x ≡ (has found x || has xs x)
has_each found [] x = sym (or_false (has found x))
has_each found (m ∷ xs) x = has_each (with_name found m) xs x ∙ ap (λ b. b || has xs x) (has_with found m x) ∙ or_or (has found x) (text_eq x m) (has xs x)

pub has_own : (own xs : List (List ℕ)) (x : List ℕ) → has (own_among own xs) x ≡ (has xs x && has own x)
has_own own [] x = refl
has_own own (m ∷ xs) x =
    list_any-append (text_eq x) (own_at (number_of own m) m) (own_among own xs) ∙ ap (λ b. b || has (own_among own xs) x) (by (number_of own m) refl (text_eq x m) refl)
    ∙ ap (λ b. (text_eq x m && has own x) || b) (has_own own xs x) ∙ and_or (text_eq x m) (has xs x) (has own x)
  where
    by : (o : Option ℕ) → number_of own m ≡ o → (c : Bool) → text_eq x m ≡ c → has (own_at o m) x ≡ (text_eq x m && has own x)
    by None e true t =
        let h : has own m ≡ false = sym (found_if (text_eq m) own) ∙ ap is_some e in
        sym (ap (λ c. c && has own x) t ∙ same_has own x m false t h)
    by (Some i) e true t =
        let h : has own m ≡ true = sym (found_if (text_eq m) own) ∙ ap is_some e in
        or_false (text_eq x m) ∙ t ∙ sym (ap (λ c. c && has own x) t ∙ same_has own x m true t h)
    by None e false t = sym (ap (λ c. c && has own x) t)
    by (Some i) e false t = or_false (text_eq x m) ∙ t ∙ sym (ap (λ c. c && has own x) t)

own_by : (o p : Option ℕ) (m : List ℕ) → is_some o ≡ is_some p → own_at o m ≡ own_at p m
own_by None None m e = refl
own_by (Some i) (Some j) m e = refl
own_by None (Some j) m e = absurd cc
own_by (Some i) None m e = absurd cc

same_own : (names own xs : List (List ℕ)) → ((x : List ℕ) → has xs x ≡ true → has names x ≡ has own x) → own_among names xs ≡ own_among own xs
same_own names own [] h = refl
same_own names own (m ∷ xs) h =
    let here : has (m ∷ xs) m ≡ true = ap (λ b. b || has xs m) ((text_eq-Decides m m).1 refl) in
    let e = found_if (text_eq m) names ∙ h m here ∙ sym (found_if (text_eq m) own) in
    ap (λ ns. ns ++ own_among names xs) (own_by (number_of names m) (number_of own m) m e)
    ∙ ap (λ ns. own_at (number_of own m) m ++ ns) (same_own names own xs (λ x t. h x (ap (λ b. text_eq x m || b) t ∙ or_true (text_eq x m))))

-- the names of an item are those of them that stand in its tokens
pub used_again : (own xs : List (List ℕ)) → each_once [] (own_among (each_once [] (own_among own xs)) xs) ≡ each_once [] (own_among own xs)
used_again own xs =
    ap (each_once []) (same_own (each_once [] (own_among own xs)) own xs (λ x t. has_each [] (own_among own xs) x ∙ has_own own xs x ∙ ap (λ b. b && has own x) t))

-- ---- line by line

own_both : (own xs ys : List (List ℕ)) → own_among own (xs ++ ys) ≡ own_among own xs ++ own_among own ys
own_both own [] ys = refl
own_both own (x ∷ xs) ys = ap (λ ns. own_at (number_of own x) x ++ ns) (own_both own xs ys) ∙ sym (append_assoc (own_at (number_of own x) x) (own_among own xs) (own_among own ys))

each_both : (found xs ys : List (List ℕ)) → each_once found (xs ++ ys) ≡ each_once (each_once found xs) ys
each_both found [] ys = refl
each_both found (x ∷ xs) ys = each_both (with_name found x) xs ys

module _ (facts : Facts) where
  names_after : List Row → List Row → List (List ℕ)
  names_after above rows = each_once (names_so_far facts.names above) (own_among facts.names (all_name_tokens rows))

  one_further : (above : List Row) (row : Row) (rows : List Row) → names_after above (row ∷ rows) ≡ names_after (row ∷ above) rows
  unfolding names_after
  one_further above row rows =
      ap (each_once (names_so_far facts.names above)) (own_both facts.names (row_tokens row.read) (all_name_tokens rows))
      ∙ each_both (names_so_far facts.names above) (own_among facts.names (row_tokens row.read)) (own_among facts.names (all_name_tokens rows))

  few_said : (above : List Row) (row : Row) (rows : List Row) (clause : Clause) → Says facts above row clause → cause facts above row rows ≡ None → length (names_so_far facts.names (row ∷ above)) ≤ MOST_NAMES
  few_said above row rows clause says fine =
      let m = not_many facts above row rows clause says fine in
      let n = or_parts (is_too_high clause) _ (or_parts _ _ m).1 in
      at_most MOST_NAMES (length (names_so_far facts.names (row ∷ above))) (or_parts (nat_lt MOST_NAMES (length (names_so_far facts.names (row ∷ above)))) _ n.1).0

  few_after : (above : List Row) (row : Row) {rows : List Row} {lines : List Saying} → AllSay facts (row ∷ above) rows lines → fault_from facts (row ∷ above) rows ≡ None
      → length (names_so_far facts.names (row ∷ above)) ≤ MOST_NAMES → length (names_after (row ∷ above) rows) ≤ MOST_NAMES
  unfolding names_after
  few_after above row stop f few = few
  few_after above row {rows = next ∷ rows} (next_line {clause = clause} says say) f few =
      let q = or_none (cause facts (row ∷ above) next rows) _ _ f in
      subst (λ ns. length ns ≤ MOST_NAMES) (sym (one_further (row ∷ above) next rows)) (few_after (row ∷ above) next say q.1 (few_said (row ∷ above) next rows clause says q.0))

  pub few_in_all : (row : Row) {rows : List Row} {lines : List Saying} → AllSay facts [] (row ∷ rows) lines → fault_from facts [] (row ∷ rows) ≡ None
      → length (each_once [] (own_among facts.names (all_name_tokens (row ∷ rows)))) ≤ MOST_NAMES
  unfolding names_after
  few_in_all row {rows = rows} (next_line {clause = clause} says say) f =
      let q = or_none (cause facts [] row rows) _ _ f in
      subst (λ ns. length ns ≤ MOST_NAMES) (sym (one_further [] row rows)) (few_after [] row say q.1 (few_said [] row rows clause says q.0))

  -- the formals of the heading
  pub few_places : (above : List Row) (row : Row) (rows : List Row) (clause : Clause) → Says facts above row clause → cause facts above row rows ≡ None → (f : Template) (formals : List Bound)
      → clause.head ≡ head.Unit f formals → length formals ≤ MOST_FORMALS
  few_places above row rows clause says fine f formals is =
      let m = not_many facts above row rows clause says fine in
      let n = or_parts (is_too_high clause) _ (or_parts _ _ m).1 in
      let e : nat_lt MOST_FORMALS (places_in clause.head) ≡ false = (or_parts (nat_lt MOST_NAMES (length (names_so_far facts.names (row ∷ above)))) _ n.1).1 in
      subst (λ h. places_in h ≤ MOST_FORMALS) is (at_most MOST_FORMALS (places_in clause.head) e)

pub few_names : (targets : List (List ℕ)) (rows : List Row) → length (each_once [] (own_among (item_names targets rows) (all_name_tokens rows))) ≤ MOST_NAMES
    → length (item_names targets rows) ≤ MOST_NAMES
unfolding item_names used_names
few_names targets rows few = subst (λ ns. length ns ≤ MOST_NAMES) (used_again (own_names targets rows) (all_name_tokens rows)) few
