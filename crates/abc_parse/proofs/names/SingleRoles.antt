-- No name of a unit has two roles.
use Rattle.std.proofs.Common.{◌≡◌, ◌⊎◌, inl, inr, ℕ, Bool, true, false, not, List, [], ◌∷◌, ◌++◌, map, Some, None, refl, ap, sym, ◌∙◌, subst}
use Rattle.std.specs.Prelude.{◌||◌, if◌then◌else◌}
use Rattle.std.proofs.lemmas.Bool.{and_from, and_parts, or_parts}
use Rattle.std.proofs.lemmas.List.Folds.{list_any-append}
use Rattle.abc_num.specs.Names.{with_name}
use Rattle.abc_num.specs.Text.{text_eq}
use Rattle.abc_num.proofs.Texts.{text_eq-Decides}
use Rattle.abc_tree.specs.RegularItems.{are_different, is_one_of}
use Rattle.abc_expressions.specs.Addresses.{each_once}
use Rattle.abc_outline.specs.declared.refining.Refined.{Refined}
use Rattle.abc_outline.specs.declared.rows.Row.{Row}
use Rattle.abc_outline.specs.Outline.{is_refinement}
use Rattle.abc_outline.specs.Refinements.{refined_at, refined_from}
use Rattle.abc_clauses.specs.declared.clause.Clause.{Clause}
use Rattle.abc_clauses.specs.declared.clause.Head.{Head}
use Rattle.abc_clauses.specs.declared.clause.Head.TheVariants as head
use Rattle.abc_faults.specs.declared.facts.Facts.{Facts}
use Rattle.abc_faults.specs.declared.sayings.Saying.{Saying}
use Rattle.abc_faults.specs.Causes.{cause}
use Rattle.abc_faults.specs.Facts.{edges}
use Rattle.abc_faults.specs.Faults.{fault_from}
use Rattle.abc_faults.specs.Names.{again, clashes_above, clashes_with, is_one, names_here, roles_again, taken, taken_up}
use Rattle.abc_faults.specs.Sayings.{AllSay, next_line, stop}
use Rattle.abc_faults.proofs.Leasts.{or_none}
use Rattle.abc_parse.specs.Items.{all_shared, refinement_kind, shared_by}
use Rattle.abc_parse.specs.Trees.{refined}
use Rattle.abc_parse.proofs.units.FewNames.{found_if, has, has_each}
use Rattle.abc_parse.proofs.spelling.Formed.{Says, heading_head, it_suits, role_at}
use Rattle.abc_parse.proofs.units.Headings.{first_word, or_left, or_right}
use Rattle.abc_parse.proofs.names.NamesTold.{Among}
use Rattle.abc_parse.proofs.names.RolesApart.{named_in, once, whole}
use Rattle.abc_parse.proofs.units.SharedNumbers.{shares_here}
use Rattle.abc_parse.proofs.each_thing.SimpleNodes.{ReadingLaws}
use Rattle.abc_parse.proofs.names.TestNames.{not_so}

-- ---- words

either : (a b : Bool) → (a || b) ≡ true → (a ≡ true) ⊎ (b ≡ true)
either true b e = inl refl
either false b e = inr e

-- no word of these is one of those
abbrev pub Apart : List (List ℕ) → List (List ℕ) → Type 0
Apart xs ys = (w : List ℕ) → has xs w ≡ true → has ys w ≡ false

pub in_both : (xs ys : List (List ℕ)) (w : List ℕ) → has (xs ++ ys) w ≡ true → (has xs w ≡ true) ⊎ (has ys w ≡ true)
in_both xs ys w h = either (has xs w) (has ys w) (sym (list_any-append (text_eq w) xs ys) ∙ h)

pub in_cons : (x : List ℕ) (xs : List (List ℕ)) (w : List ℕ) → has (x ∷ xs) w ≡ true → (w ≡ x) ⊎ (has xs w ≡ true)
in_cons x xs w h = by (either (text_eq w x) (has xs w) h) where
  by : (text_eq w x ≡ true) ⊎ (has xs w ≡ true) → (w ≡ x) ⊎ (has xs w ≡ true)
  by (inl e) = inl ((text_eq-Decides w x).0 e)
  by (inr e) = inr e

first_in : (x : List ℕ) (xs : List (List ℕ)) → has (x ∷ xs) x ≡ true
first_in x xs = or_left (text_eq x x) (has xs x) ((text_eq-Decides x x).1 refl)

-- a word that is among some isn't apart from them
pub never : (b : Bool) → b ≡ true → b ≡ false → ⊥
never true p q = cc
never false p q = cc

pub is_no : (b : Bool) → (b ≡ true → ⊥) → b ≡ false
is_no false h = refl
is_no true h = absurd (h refl)

pub apart_turned : (xs ys : List (List ℕ)) → Apart xs ys → Apart ys xs
apart_turned xs ys a w h = is_no (has xs w) (λ e. never (has ys w) h (a w e))

pub apart_both : (xs ys zs : List (List ℕ)) → Apart xs zs → Apart ys zs → Apart (xs ++ ys) zs
apart_both xs ys zs a b w h = by (in_both xs ys w h) where
  by : (has xs w ≡ true) ⊎ (has ys w ≡ true) → has zs w ≡ false
  by (inl e) = a w e
  by (inr e) = b w e

pub different_both : (xs ys : List (List ℕ)) → are_different xs ≡ true → are_different ys ≡ true → Apart xs ys → are_different (xs ++ ys) ≡ true
different_both [] ys d e a = e
different_both (x ∷ xs) ys d e a =
    let p = and_parts (not (is_one_of xs x)) (are_different xs) d in
    let free : is_one_of (xs ++ ys) x ≡ false = list_any-append (text_eq x) xs ys ∙ ap (λ b. b || has ys x) (not_so (is_one_of xs x) p.0) ∙ a x (first_in x xs) in
    and_from _ _ (ap not free) (different_both xs ys p.1 e (λ w h. a w (or_right (text_eq w x) (has xs w) h)))

-- words none of which stands again are new, and different
pub record AreNew (found xs : List (List ℕ)) : Type 0 where
  pub different : are_different xs ≡ true
  pub fresh : Apart xs found

pub new_words : (found xs : List (List ℕ)) → again found xs ≡ false → AreNew found xs
new_words found [] e = record { different = refl; fresh = λ w h. absurd cc }
new_words found (x ∷ xs) e =
    let q = or_parts (is_one found x) (again (with_name found x) xs) e in
    let ih = new_words (with_name found x) xs q.1 in
    let not_found : has found x ≡ false = sym (found_if (text_eq x) found) ∙ q.0 in
    let apart : (w : List ℕ) → has xs w ≡ true → (has found w ≡ false) × (text_eq w x || false ≡ false) =
    λ w h. or_parts (has found w) (text_eq w x || false) (sym (has_each found (x ∷ []) w) ∙ ih.fresh w h) in
    record {
      different = and_from _ _ (ap not (is_no (has xs x) (λ h. never (text_eq x x || false) (or_left (text_eq x x) false ((text_eq-Decides x x).1 refl)) (apart x h).1))) ih.different;
      fresh = λ w h. by w not_found (λ e. (apart w e).0) (in_cons x xs w h);
    }
  where
    by : (w : List ℕ) → has found x ≡ false → (has xs w ≡ true → has found w ≡ false) → (w ≡ x) ⊎ (has xs w ≡ true) → has found w ≡ false
    by w n later (inl same) = ap (has found) same ∙ n
    by w n later (inr e) = later e

pub again_front : (found xs ys : List (List ℕ)) → again found (xs ++ ys) ≡ false → again found xs ≡ false
again_front found [] ys e = refl
again_front found (x ∷ xs) ys e =
    let q = or_parts (is_one found x) (again (with_name found x) (xs ++ ys)) e in ap (λ b. b || again (with_name found x) xs) q.0 ∙ again_front (with_name found x) xs ys q.1

-- ---- line by line

abbrev pub words : List Refined → List (List ℕ)
words ss = map (λ (s : Refined). s.name) ss

head_shares : (h : Head) (names : List (List ℕ)) → shared_by h ≡ names → (names ≡ []) ⊎ (h ≡ head.Share names)
head_shares (head.Share x) names e = inr (ap (λ x. head.Share x) e)
head_shares (head.Simple x) names e = inl (sym e)
head_shares (head.If x) names e = inl (sym e)
head_shares (head.While x) names e = inl (sym e)
head_shares (head.For x y) names e = inl (sym e)
head_shares head.Select names e = inl (sym e)
head_shares (head.When x) names e = inl (sym e)
head_shares head.Otherwise names e = inl (sym e)
head_shares (head.Unit x y) names e = inl (sym e)
head_shares (head.Refinement x) names e = inl (sym e)

refined_shares : (h : Head) (x : List ℕ) → refined h ≡ Some x → shared_by h ≡ []
refined_shares (head.Refinement y) x e = refl
refined_shares (head.Share y) x e = absurd cc
refined_shares (head.Simple y) x e = absurd cc
refined_shares (head.If y) x e = absurd cc
refined_shares (head.While y) x e = absurd cc
refined_shares (head.For y z) x e = absurd cc
refined_shares head.Select x e = absurd cc
refined_shares (head.When y) x e = absurd cc
refined_shares head.Otherwise x e = absurd cc
refined_shares (head.Unit y z) x e = absurd cc

module _ (laws : ReadingLaws) (facts : Facts) (unit : facts.setting.unit ≡ true) where
  -- the words that the lines below share and refine
  pub record Below (above : List Row) (shared : List (List ℕ)) (ss : List Refined) : Type 0 where
    pub different : are_different shared ≡ true
    pub fresh : Apart shared (taken facts above).roles
    pub refined_fresh : Apart (words ss) (taken facts above).roles
    pub apart : Apart shared (words ss)

  module _ (above : List Row) (row : Row) (rows : List Row) (clause : Clause) (says : Says facts above row clause) (fine : cause facts above row rows ≡ None) where
    abbrev found : List (List ℕ)
    found = (taken facts above).roles

    abbrev named : List (List ℕ)
    named = (names_here facts above row).named

    abbrev refined_words : List (List ℕ)
    refined_words = (names_here facts above row).refined

    abbrev roles : List (List ℕ)
    roles = (taken facts (row ∷ above)).roles

    pub roles_new : (again found named ≡ false) × (again (each_once found named) refined_words ≡ false)
    roles_new =
        let names = names_here facts above row in
        let t = or_parts (roles_again (taken facts above) names) (clashes_above (taken facts above) names || clashes_with (taken_up (taken facts above) names) names) (once facts above row rows fine) in
        or_parts (again found named) (again (each_once found named) refined_words) t.0

    pub named_taken : Among named roles
    named_taken w h =
        has_each (each_once found named) refined_words w ∙ or_left (has (each_once found named) w) (has refined_words w) (has_each found named w ∙ or_right (has found w) (has named w) h)

    refined_taken : Among refined_words roles
    refined_taken w h = has_each (each_once found named) refined_words w ∙ or_right (has (each_once found named) w) (has refined_words w) h

    -- what is none of the roles up to this line is none of those above it
    less : (w : List ℕ) → has roles w ≡ false → has found w ≡ false
    less w h =
        let p = or_parts (has (each_once found named) w) (has refined_words w) (sym (has_each (each_once found named) refined_words w) ∙ h) in
        (or_parts (has found w) (has named w) (sym (has_each found named w) ∙ p.0)).0

    -- a line that is no heading of a refinement
    with_shared : (names shared : List (List ℕ)) (ss : List Refined) → (names ≡ []) ⊎ (clause.head ≡ head.Share names) → Below (row ∷ above) shared ss → Below above (names ++ shared) ss
    with_shared names shared ss (inl none) ih = subst (λ names. Below above (names ++ shared) ss) (sym none) (record {
      different = ih.different;
      fresh = λ w h. less w (ih.fresh w h);
      refined_fresh = λ w h. less w (ih.refined_fresh w h);
      apart = ih.apart;
    })
    with_shared names shared ss (inr is) ih =
        let same : named ≡ names = shares_here laws facts unit above row rows clause says names is in
        let new = new_words found names (subst (λ xs. again found xs ≡ false) same roles_new.0) in
        let there : Among names roles = λ w h. named_taken w (ap (λ xs. has xs w) same ∙ h) in
        record {
          different = different_both names shared new.different ih.different (λ w h. is_no (has shared w) (λ e. never (has roles w) (there w h) (ih.fresh w e)));
          fresh = apart_both names shared found new.fresh (λ w h. less w (ih.fresh w h));
          refined_fresh = λ w h. less w (ih.refined_fresh w h);
          apart = apart_both names shared (words ss) (λ w h. is_no (has (words ss) w) (λ e. never (has roles w) (there w h) (ih.refined_fresh w e))) ih.apart;
        }

    -- the heading of a refinement
    with_heading : (shared : List (List ℕ)) (s : Refined) (ss : List Refined) (rest : List (List ℕ)) → refined_words ≡ s.name ∷ rest → Below (row ∷ above) shared ss → Below above shared (s ∷ ss)
    with_heading shared s ss rest is ih = record {
      different = ih.different;
      fresh = λ w h. less w (ih.fresh w h);
      refined_fresh = λ w h. new_refined w (in_cons s.name (words ss) w h);
      apart = λ w h. is_no (has (words (s ∷ ss)) w) (λ e. not_both w h (in_cons s.name (words ss) w e));
    } where
      there : has roles s.name ≡ true
      there = refined_taken s.name (ap (λ xs. has xs s.name) is ∙ first_in s.name rest)

      is_new : has found s.name ≡ false
      is_new =
          let new = new_words (each_once found named) (s.name ∷ rest) (subst (λ xs. again (each_once found named) xs ≡ false) is roles_new.1) in
          (or_parts (has found s.name) (has named s.name) (sym (has_each found named s.name) ∙ new.fresh s.name (first_in s.name rest))).0

      new_refined : (w : List ℕ) → (w ≡ s.name) ⊎ (has (words ss) w ≡ true) → has found w ≡ false
      new_refined w (inl same) = ap (has found) same ∙ is_new
      new_refined w (inr e) = less w (ih.refined_fresh w e)

      not_both : (w : List ℕ) → has shared w ≡ true → (w ≡ s.name) ⊎ (has (words ss) w ≡ true) → ⊥
      not_both w h (inl same) = never (has roles s.name) there (ap (has roles) (sym same) ∙ ih.fresh w h)
      not_both w h (inr e) = never (has (words ss) w) e (ih.apart w h)

    one_line : (shared : List (List ℕ)) (ss : List Refined) → Below (row ∷ above) shared ss → (b : Bool) → is_refinement (role_at facts above row) ≡ b
        → Below above (shared_by clause.head ++ shared) (if b then refined_at facts.setting (edges above) row rows ∷ ss else ss)
    one_line shared ss ih false plain = with_shared (shared_by clause.head) shared ss (head_shares clause.head (shared_by clause.head) refl) ih
    one_line shared ss ih true heading =
        let x = heading_head facts (refinement_kind facts) (role_at facts above row) clause.head clause.beside (it_suits facts above row clause says) heading in
        let none : shared_by clause.head ≡ [] = refined_shares clause.head x.0 x.1 in
        let w = first_word laws facts above row rows clause says heading in
        let s = refined_at facts.setting (edges above) row rows in
        subst (λ names. Below above (names ++ shared) (s ∷ ss)) (sym none) (with_heading shared s ss w.0 w.1 ih)

  pub all_below : (above : List Row) {rows : List Row} {sayings : List Saying} → AllSay facts above rows sayings → fault_from facts above rows ≡ None
      → Below above (all_shared sayings) (refined_from facts.setting (edges above) rows)
  all_below above stop f = record { different = refl; fresh = λ w h. absurd cc; refined_fresh = λ w h. absurd cc; apart = λ w h. absurd cc }
  all_below above {rows = row ∷ rows} (next_line {clause = clause} {lines = more} says say) f =
      let q = or_none (cause facts above row rows) _ _ f in
      one_line above row rows clause says q.0 (all_shared more) (refined_from facts.setting (edges (row ∷ above)) rows) (all_below (row ∷ above) say q.1) (is_refinement (role_at facts above row)) refl

  -- each shared name is one of the roles
  pub shared_taken : (above : List Row) {rows : List Row} {sayings : List Saying} → AllSay facts above rows sayings → Among (all_shared sayings) (taken facts (whole above rows)).roles
  shared_taken above stop w h = absurd cc
  shared_taken above {rows = row ∷ rows} (next_line {clause = clause} {lines = more} says say) w h = by (shared_taken (row ∷ above) say w) (in_both (shared_by clause.head) (all_shared more) w h) where
    named_so : (names : List (List ℕ)) → has names w ≡ true → (names ≡ []) ⊎ (clause.head ≡ head.Share names) → has (taken facts (whole above (row ∷ rows))).roles w ≡ true
    named_so names e (inl none) = let z : false ≡ true = sym (ap (λ xs. has xs w) none) ∙ e in absurd cc
    named_so names e (inr is) = named_in facts above row rows w (ap (λ xs. has xs w) (shares_here laws facts unit above row rows clause says names is) ∙ e)

    by : (has (all_shared more) w ≡ true → has (taken facts (whole above (row ∷ rows))).roles w ≡ true) → (has (shared_by clause.head) w ≡ true) ⊎ (has (all_shared more) w ≡ true)
        → has (taken facts (whole above (row ∷ rows))).roles w ≡ true
    by later (inl e) = named_so (shared_by clause.head) e (head_shares clause.head (shared_by clause.head) refl)
    by later (inr e) = later e
