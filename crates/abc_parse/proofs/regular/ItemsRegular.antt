-- Each item is regular.
use Rattle.std.proofs.Common.{◌≡◌, ◌⊎◌, inl, inr, ◌+◌, ℕ, suc, Bool, true, false, not, List, [], ◌∷◌, ◌++◌, map, Option, Some, None, refl, ap, sym, ◌∙◌, subst}
use Rattle.std.specs.Prelude.{◌==◌, ◌&&◌, ◌||◌, Ok, Err, IfOk, Result, is_some, unwrap_or}
use Rattle.std.specs.List.{AllByRecursion, list_all}
use Rattle.std.proofs.lemmas.Bool.{and_from, eqb-true}
use Rattle.std.proofs.lemmas.List.{map-append}
use Rattle.abc_num.specs.Names.{number_of}
use Rattle.abc_num.specs.Text.{text_eq}
use Rattle.abc_num.proofs.Texts.{text_eq-Decides}
use Rattle.abc_num.specs.declared.lines.Line.{Line}
use Rattle.abc_tree.specs.Lists.{flat}
use Rattle.abc_tree.specs.Regular.{is_regular_bound}
use Rattle.abc_tree.specs.RegularItems as piece
use Rattle.abc_tree.specs.RegularItems.{Part as Piece, Parts, addressed, addressed_in, are_apart, are_different, are_regular_parts, bounds_in, bounds_of, command_refinements, exits_of, formal_names, has_single_roles, here, is_among, is_one_of, name_at, names_of, numbers, parts_of, parts_of_unit, refinement_exits, shared_names, suite_parts, is_regular_command, is_regular_unit}
use Rattle.abc_tree.specs.declared.commands.Command.{Command}
use Rattle.abc_tree.specs.declared.commands.Item.{Item}
use Rattle.abc_tree.specs.declared.commands.Item.TheVariants as item
use Rattle.abc_tree.specs.declared.commands.Refinement.{Refinement}
use Rattle.abc_tree.specs.declared.commands.Unit.{Unit as Routine}
use Rattle.abc_tree.specs.declared.formulas.NameId.{NameId}
use Rattle.abc_tree.specs.declared.templates.TemplateKind.TheVariants as kind
use Rattle.abc_tree.proofs.Opening.{close_command, close_unit}
use Rattle.abc_outline.specs.declared.edges.Role.{Role}
use Rattle.abc_outline.specs.declared.edges.Role.TheVariants as role
use Rattle.abc_outline.specs.declared.naming.LineNames.{LineNames}
use Rattle.abc_outline.specs.declared.refining.Refined.{Refined}
use Rattle.abc_outline.specs.declared.rows.Row.{Row}
use Rattle.abc_outline.specs.LineNames.{names_of as names_of_line}
use Rattle.abc_outline.specs.OwnNames.{refinements}
use Rattle.abc_outline.specs.Outline.{first_role}
use Rattle.abc_outline.specs.Rows.{rows_of}
use Rattle.abc_clauses.specs.declared.clause.Head.TheVariants as head
use Rattle.abc_faults.specs.declared.facts.Facts.{Facts}
use Rattle.abc_faults.specs.declared.sayings.Saying.{Saying}
use Rattle.abc_faults.specs.declared.taken_names.TakenNames.{TakenNames}
use Rattle.abc_faults.specs.Causes.{cause}
use Rattle.abc_faults.specs.Facts.{clause_by, facts_of, place_below}
use Rattle.abc_faults.specs.Faults.{fault_from}
use Rattle.abc_faults.specs.Names.{again, names_here, taken}
use Rattle.abc_faults.specs.Sayings.{AllSay, next_line, saying}
use Rattle.abc_faults.proofs.Leasts.{or_none}
use Rattle.abc_parse.specs.declared.fault.ItemFault.{ItemFault}
use Rattle.abc_parse.specs.Items.{all_shared, numbered}
use Rattle.abc_parse.specs.Readings.{command_of, item_of, unit_of}
use Rattle.abc_parse.specs.RegularTrees.{IsNumberedItem, IsRegularItem}
use Rattle.abc_parse.proofs.regular.WellFormed.{IsWellFormed, IsWellFormedCommand, IsWellFormedUnit}
use Rattle.abc_parse.proofs.each_thing.EachItem.{command_told, unit_told}
use Rattle.abc_parse.proofs.each_thing.EachLine.{OfRefinements}
use Rattle.abc_parse.proofs.units.FewNames.{found_if, has}
use Rattle.abc_parse.proofs.regular.Formulas.{AreRead, IsGood, LinesAreRegular, names_of_all, rows_read, sections_taken, told_by}
use Rattle.abc_parse.proofs.units.Headings.{AreSame, behind_title, or_left, or_right, same_refinements}
use Rattle.abc_parse.proofs.names.NamesTold.{Among, IsTold, Words, among_left, among_right, numbered_name, numbered_words, words_among}
use Rattle.abc_meaning.specs.Written.{numbers_in_part, numbers_in_parts}
use Rattle.abc_parse.proofs.regular.NumbersRead.{AreAll, all_both}
use Rattle.abc_parse.proofs.computing.Opened.{Makes, MakesCommand, MakesUnit, item_made}
use Rattle.abc_parse.proofs.each_thing.PartsMade.{All}
use Rattle.abc_parse.proofs.names.RolesApart.{AreTaken, IsApart, all_apart, named_in}
use Rattle.abc_parse.proofs.regular.Settled.{well_formed}
use Rattle.abc_parse.proofs.units.SharedNumbers.{shared_known}
use Rattle.abc_parse.proofs.each_thing.SimpleNodes.{ReadingLaws}
use Rattle.abc_parse.proofs.names.SingleRoles.{Apart, Below, all_below, again_front, apart_both, apart_turned, different_both, in_cons, is_no, named_taken, never, new_words, roles_new, shared_taken, words}
use Rattle.abc_parse.proofs.units.TitleNames.{heading_formals}
use Rattle.abc_parse.proofs.each_thing.Titles.{line_told, title_said}
use Rattle.abc_parse.proofs.regular.TreesRegular.{Known, Pieces, Right, all_right, bounds_right, command_good, deeper_pieces, good_right, no_sections, pieces_of, suites_right, title_regular, unit_good}

-- ---- numbers and words

words_both : (names xs : List (List ℕ)) (ms ns : List ℕ) → Words names xs ms → Words names xs ns → Words names xs (ms ++ ns)
words_both names xs [] ns a b = b
words_both names xs (m ∷ ms) ns a b = (a.0, words_both names xs ms ns a.1 b)

pieces_both : (P : Piece → Type 0) (xs ys : Parts) → Pieces P xs → Pieces P ys → Pieces P (xs ++ ys)
pieces_both P [] ys a b = b
pieces_both P (x ∷ xs) ys a b = (a.0, pieces_both P xs ys a.1 b)

bounds_told : (names : List (List ℕ)) (told : LineNames) (parts : Parts) → Pieces (IsTold names told) parts → Words names told.bound (bounds_of parts)
bounds_told names told [] h = tt
bounds_told names told (x ∷ parts) h = words_both names told.bound (bounds_in x.1) (bounds_of parts) h.0.1 (bounds_told names told parts h.1)

addresses_told : (names : List (List ℕ)) (told : LineNames) (parts : Parts) → Pieces (IsTold names told) parts → Words names told.put (addressed parts)
addresses_told names told [] h = tt
addresses_told names told (x ∷ parts) h = words_both names told.put (addressed_in x.1) (addressed parts) h.0.0 (addresses_told names told parts h.1)

module _ (names xs ys : List (List ℕ)) (a : Apart xs ys) where
  not_among : (m : ℕ) → has xs (name_at names m) ≡ true → (ns : List ℕ) → Words names ys ns → is_among ns m ≡ false
  not_among m h [] t = refl
  not_among m h (n ∷ ns) t = by (not_among m h ns t.1) (m == n) refl where
    by : is_among ns m ≡ false → (b : Bool) → (m == n) ≡ b → ((m == n) || is_among ns m) ≡ false
    by later true e =
        let same : m ≡ n = eqb-true m n e in
        absurd (never (has ys (name_at names m)) (ap (λ k. has ys (name_at names k)) same ∙ t.0) (a (name_at names m) h))
    by later false e = ap (λ b. b || is_among ns m) e ∙ later

  apart_numbers : (ms ns : List ℕ) → Words names xs ms → Words names ys ns → are_apart ms ns ≡ true
  apart_numbers [] ns s t = refl
  apart_numbers (m ∷ ms) ns s t = and_from _ _ (ap not (not_among m s.0 ns t)) (apart_numbers ms ns s.1 t)

  none_of_them : (ns : List ℕ) → Words names xs ns → list_all (λ name. not (is_one_of ys name)) (map (name_at names) ns) ≡ true
  none_of_them [] h = refl
  none_of_them (n ∷ ns) h = and_from _ _ (ap not (a (name_at names n) h.0)) (none_of_them ns h.1)

same_text : (x : List ℕ) → text_eq x x ≡ true
same_text x = (text_eq-Decides x x).1 refl

-- the words of numbers that were told are among these
words_in : (names xs : List (List ℕ)) (ns : List ℕ) → ((w : List ℕ) → has (map (name_at names) ns) w ≡ true → has xs w ≡ true) → Words names xs ns
words_in names xs [] h = tt
words_in names xs (n ∷ ns) h = (h (name_at names n) (or_left _ _ (same_text (name_at names n))), words_in names xs ns (λ w e. h w (or_right (text_eq w (name_at names n)) _ e)))

-- the words that a unit shares, by their numbers
shared_words : (names xs : List (List ℕ)) → AllByRecursion (λ x. has names x ≡ true) xs → map (name_at names) (numbers (numbered names xs)) ≡ xs
shared_words names [] h = refl
shared_words names (x ∷ xs) h = ap (λ y. y ∷ map (name_at names) (numbers (numbered names xs))) (by (number_of names x) refl) ∙ ap (λ ys. x ∷ ys) (shared_words names xs h.1) where
  by : (o : Option ℕ) → number_of names x ≡ o → name_at names (unwrap_or (number_of names x) 0) ≡ x
  by (Some i) e = ap (λ o. name_at names (unwrap_or o 0)) e ∙ numbered_name names x i e
  by None e = absurd (never (has names x) h.0 (sym (found_if (text_eq x) names) ∙ ap is_some e))

-- the words of refinements are those of their headings
same_words : (ss : List Refined) (rs : List Refinement) → AreSame ss rs → words ss ≡ map (λ (r : Refinement). r.name) rs
same_words [] [] h = refl
same_words (s ∷ ss) (r ∷ rs) h = ap (λ x. x ∷ words ss) (sym h.0) ∙ ap (λ xs. r.name ∷ xs) (same_words ss rs h.2)
same_words [] (r ∷ rs) h = absurd h
same_words (s ∷ ss) [] h = absurd h

taken_words : (names : TakenNames) (ss : List Refined) → AreTaken names ss → (w : List ℕ) → has (words ss) w ≡ true → (has names.refined w ≡ true) × (has names.roles w ≡ true)
taken_words names [] h w e = absurd cc
taken_words names (s ∷ ss) h w e = by (taken_words names ss h.1 w) (in_cons s.name (words ss) w e) where
  by : (has (words ss) w ≡ true → (has names.refined w ≡ true) × (has names.roles w ≡ true)) → (w ≡ s.name) ⊎ (has (words ss) w ≡ true) → (has names.refined w ≡ true) × (has names.roles w ≡ true)
  by later (inl same) = (ap (has names.refined) same ∙ h.0.0, ap (has names.roles) same ∙ h.0.1)
  by later (inr t) = later t

-- ---- items

module _ (laws : ReadingLaws) (regular : LinesAreRegular) (lines : List Line) (targets : List (List ℕ)) (row : Row) (rows : List Row) (read : AreRead (row ∷ rows)) where
  abbrev all : List Row
  all = row ∷ rows

  abbrev facts : Facts
  facts = facts_of targets all

  abbrev told : LineNames
  told = told_by facts all

  abbrev Good : Option ℕ → ℕ → Piece → Type 0
  Good = IsGood facts told

  told_so : (o : Option ℕ) (d : ℕ) (x : Piece) → Good o d x → IsTold facts.names told x
  told_so o d x g = g.names

  -- ---- the parts of a unit

  suite_told : (o : Option ℕ) (parts : Parts) → All Good o 1 parts → Pieces (IsTold facts.names told) (map (λ part. (suc part.0, part.1)) parts)
  suite_told o parts h = deeper_pieces (IsTold facts.names told) parts (pieces_of Good (IsTold facts.names told) told_so o 1 parts h)

  refinements_told : (n : ℕ) (rs : List Refinement) → OfRefinements Good facts n rs
      → Pieces (IsTold facts.names told) (flat (map (λ (r : Refinement). here (piece.line r.line ∷ []) ++ suite_parts r.suite) rs))
  refinements_told n [] h = tt
  refinements_told n (r ∷ rs) h =
      pieces_both (IsTold facts.names told) (here (piece.line r.line ∷ []) ++ suite_parts r.suite) (flat (map (λ (r : Refinement). here (piece.line r.line ∷ []) ++ suite_parts r.suite) rs))
      ((tt, tt), suite_told (Some n) (flat (map parts_of r.suite)) h.0) (refinements_told (n + 1) rs h.1)

  -- ---- the roles of a unit

  record HasWords (u : Routine) : Type 0 where
    formals : List (List ℕ)
    shared : List (List ℕ)
    formals_are : map (name_at facts.names) (formal_names u) ≡ formals
    shared_are : map (name_at facts.names) (shared_names u) ≡ shared
    formals_differ : are_different formals ≡ true
    shared_differ : are_different shared ≡ true
    formals_shared : Apart formals shared
    formals_refined : Apart formals (words facts.sections)
    shared_refined : Apart shared (words facts.sections)
    formals_taken : Among formals told.named
    shared_taken_too : Among shared told.named

  unit_words : facts.setting.unit ≡ true → fault_from facts [] all ≡ None → {sayings : List Saying} → AllSay facts [] all sayings → (u : Routine) → unit_of facts lines sayings ≡ Some u → HasWords u
  unit_words unit f (next_line {clause = clause} {lines = rest} says say) u e =
      let m = unit_told facts lines (saying row clause) rest u e in
      let q = or_none (cause facts [] row rows) _ _ f in
      let t = line_told facts (place_below facts [] row) row clause says in
      let n = (place_below facts [] row).number in
      let r : (place_below facts [] row).role ≡ role.UnitHeading = ap first_role unit in
      let h = subst (λ (r : Role). clause_by facts r n row.line.text t.tokens ≡ Some clause) r t.says in
      let same : u.template ≡ m.headed.template = ap (λ (u : Routine). u.template) m.is in
      let formals : u.formals ≡ m.headed.formals = ap (λ (u : Routine). u.formals) m.is in
      let is : clause.head ≡ head.Unit u.template u.formals = m.title.is ∙ sym (ap (λ t. head.Unit t m.headed.formals) same) ∙ sym (ap (λ f. head.Unit u.template f) formals) in
      let said = title_said laws.headings facts n row.line.text t.tokens clause u.template u.formals h is in
      let title = heading_formals facts.setting.unit said.1 in
      let names : (names_here facts [] row).named ≡ title.names ++ title.more =
      ap (λ (r : Role). (names_of_line facts.setting.unit r row.read).named) r ∙ ap (λ read. (names_of_line facts.setting.unit role.UnitHeading read).named) t.are ∙ title.all in
      let below = subst (Below laws facts unit (row ∷ []) (all_shared rest)) (behind_title laws targets row rows unit) (all_below laws facts unit (row ∷ []) say q.1) in
      let new = (roles_new laws facts unit [] row rows clause says q.0).0 in
      let differ = new_words [] title.names (again_front [] title.names title.more (subst (λ xs. again [] xs ≡ false) names new)) in
      let there : Among title.names (names_here facts [] row).named = λ w h. ap (λ xs. has xs w) names ∙ among_left title.names title.more w h in
      let taken_there : Among title.names (taken facts (row ∷ [])).roles = λ w h. named_taken laws facts unit [] row rows clause says q.0 w (there w h) in
      let ids : u.shared ≡ numbered facts.names (all_shared rest) = ap (λ (u : Routine). u.shared) m.is in
      record {
        formals = title.names;
        shared = all_shared rest;
        formals_are = numbered_words facts.names title.names (formal_names u) title.numbers;
        shared_are = ap (λ (ids : List NameId). map (name_at facts.names) (numbers ids)) ids ∙ shared_words facts.names (all_shared rest) (shared_known laws targets row rows unit says say);
        formals_differ = differ.different;
        shared_differ = below.different;
        formals_shared = λ w h. is_no (has (all_shared rest) w) (λ e. never (has (taken facts (row ∷ [])).roles w) (taken_there w h) (below.fresh w e));
        formals_refined = λ w h. is_no (has (words facts.sections) w) (λ e. never (has (taken facts (row ∷ [])).roles w) (taken_there w h) (below.refined_fresh w e));
        shared_refined = below.apart;
        formals_taken = λ w h. named_in facts [] row rows w (there w h);
        shared_taken_too = shared_taken laws facts unit (row ∷ []) say;
      }

  single_roles : (u : Routine) → u.names ≡ facts.names → AreSame facts.sections u.refinements → are_different (map (λ (r : Refinement). r.name) u.refinements) ≡ true
      → AreTaken (names_of_all facts all) facts.sections → IsApart (names_of_all facts all) → HasWords u → Pieces (IsTold facts.names told) (parts_of_unit u) → has_single_roles u ≡ true
  single_roles u names_are same differ sections apart w parts = and_from _ _ (and_from _ _ different bounds) no_refinement where
    refined : List (List ℕ)
    refined = map (λ (r : Refinement). r.name) u.refinements

    refined_are : words facts.sections ≡ refined
    refined_are = same_words facts.sections u.refinements same

    texts_are : map (name_at facts.names) (formal_names u ++ shared_names u) ≡ w.formals ++ w.shared
    texts_are = map-append (name_at facts.names) (formal_names u) (shared_names u) ∙ ap (λ xs. xs ++ map (name_at facts.names) (shared_names u)) w.formals_are ∙ ap (λ xs. w.formals ++ xs) w.shared_are

    all_differ : are_different ((w.formals ++ w.shared) ++ refined) ≡ true
    all_differ =
        different_both (w.formals ++ w.shared) refined (different_both w.formals w.shared w.formals_differ w.shared_differ w.formals_shared) differ
        (subst (Apart (w.formals ++ w.shared)) refined_are (apart_both w.formals w.shared (words facts.sections) w.formals_refined w.shared_refined))

    different : are_different (map (name_at u.names) (formal_names u ++ shared_names u) ++ refined) ≡ true
    different =
        subst (λ names. are_different (map (name_at names) (formal_names u ++ shared_names u) ++ refined) ≡ true) (sym names_are)
        (ap (λ xs. are_different (xs ++ refined)) texts_are ∙ all_differ)

    bound_words : Words facts.names told.bound (bounds_of (parts_of_unit u))
    bound_words = bounds_told facts.names told (parts_of_unit u) parts

    put_words : Words facts.names told.put (addressed (parts_of_unit u))
    put_words = addresses_told facts.names told (parts_of_unit u) parts

    role_words : Words facts.names told.named (formal_names u ++ shared_names u)
    role_words = words_both facts.names told.named (formal_names u) (shared_names u)
        (words_in facts.names told.named (formal_names u) (λ x h. w.formals_taken x (ap (λ xs. has xs x) (sym w.formals_are) ∙ h)))
        (words_in facts.names told.named (shared_names u) (λ x h. w.shared_taken_too x (ap (λ xs. has xs x) (sym w.shared_are) ∙ h)))

    bounds : are_apart (bounds_of (parts_of_unit u)) (formal_names u ++ shared_names u ++ addressed (parts_of_unit u)) ≡ true
    bounds =
        apart_numbers facts.names told.bound (told.named ++ told.put)
        (λ x h. apart_turned (told.named ++ told.put) told.bound
        (apart_both told.named told.put told.bound (apart_turned told.bound told.named apart.bound_roles) (apart_turned told.bound told.put apart.bound_put)) x h)
        (bounds_of (parts_of_unit u)) (formal_names u ++ shared_names u ++ addressed (parts_of_unit u)) bound_words
        (words_both facts.names (told.named ++ told.put) (formal_names u ++ shared_names u) (addressed (parts_of_unit u))
        (words_among facts.names told.named (told.named ++ told.put) (among_left told.named told.put) (formal_names u ++ shared_names u) role_words)
        (words_among facts.names told.put (told.named ++ told.put) (among_right told.named told.put) (addressed (parts_of_unit u)) put_words))

    -- no bound name and no address is a refinement
    free : Apart (told.bound ++ told.put) refined
    free = subst (Apart (told.bound ++ told.put)) refined_are (apart_both told.bound told.put (words facts.sections)
        (λ x h. is_no (has (words facts.sections) x) (λ e. never (has told.named x) (taken_words (names_of_all facts all) facts.sections sections x e).1 (apart.bound_roles x h)))
        (λ x h. is_no (has (words facts.sections) x) (λ e. never (has told.refined x) (taken_words (names_of_all facts all) facts.sections sections x e).0 (apart.put_refined x h))))

    both_words : Words facts.names (told.bound ++ told.put) (bounds_of (parts_of_unit u) ++ addressed (parts_of_unit u))
    both_words = words_both facts.names (told.bound ++ told.put) (bounds_of (parts_of_unit u)) (addressed (parts_of_unit u))
        (words_among facts.names told.bound (told.bound ++ told.put) (among_left told.bound told.put) (bounds_of (parts_of_unit u)) bound_words)
        (words_among facts.names told.put (told.bound ++ told.put) (among_right told.bound told.put) (addressed (parts_of_unit u)) put_words)

    no_refinement : list_all (λ name. not (is_one_of refined name)) (map (name_at u.names) (bounds_of (parts_of_unit u) ++ addressed (parts_of_unit u))) ≡ true
    no_refinement =
        subst (λ names. list_all (λ name. not (is_one_of refined name)) (map (name_at names) (bounds_of (parts_of_unit u) ++ addressed (parts_of_unit u))) ≡ true) (sym names_are)
        (none_of_them facts.names (told.bound ++ told.put) refined free (bounds_of (parts_of_unit u) ++ addressed (parts_of_unit u)) both_words)

  -- ---- a unit

  unit_regular : (u : Routine) → MakesUnit lines facts row rows u → IsWellFormedUnit u → is_regular_unit u ≡ true
  unit_regular u m w =
      let q = unit_good laws regular lines targets row rows read m.say m.fine m.unit u m.is in
      let title = title_regular laws regular lines targets row rows read m.say m.fine u m.is in
      let same = same_refinements laws targets row rows m.unit m.fine lines m.say u m.is in
      let apart = all_apart facts all m.fine in
      let sections = sections_taken laws regular targets all read m.say in
      let body_parts = deeper_pieces (Right facts) (flat (map parts_of u.body)) (pieces_of Good (Right facts) (good_right facts told) None 1 (flat (map parts_of u.body)) q.0) in
      let body = all_right targets all u.refinements same (exits_of u.template.kind) (suite_parts u.body) w.body body_parts in
      let suites = suites_right targets all u.refinements told same u.template.kind 0 u.refinements w.refinements q.1 in
      let parts = pieces_both (IsTold facts.names told) (suite_parts u.body) (flat (map (λ (r : Refinement). here (piece.line r.line ∷ []) ++ suite_parts r.suite) u.refinements))
      (suite_told None (flat (map parts_of u.body)) q.0) (refinements_told 0 u.refinements q.1) in
      let bodies = subst (λ names. (are_regular_parts (Known names u.refinements) (command_refinements u) (exits_of u.template.kind) (suite_parts u.body)
      && list_all (λ (r : Refinement). are_regular_parts (Known names u.refinements) (command_refinements u) (refinement_exits u.template.kind r.kind) (suite_parts r.suite)) u.refinements) ≡ true)
      (sym title.names_are) (and_from _ _ body suites) in
      close_unit u (record {
        template = title.title.template;
        places = w.places;
        few_formals = w.few_formals;
        formals = subst (λ names. list_all (is_regular_bound (Known names u.refinements)) u.formals ≡ true) (sym title.names_are) (bounds_right targets all u.refinements same u.formals title.title.bounds);
        shared = w.shared;
        few_names = w.few_names;
        different = w.different;
        plain = w.plain;
        bodies = bodies;
        lines = w.lines;
        roles = single_roles u title.names_are same w.refinements_differ sections apart (unit_words m.unit m.fine m.say u m.is) parts;
      })

  -- ---- an immediate command

  command_named : {sayings : List Saying} → AllSay facts [] all sayings → (c : Command) → command_of facts sayings ≡ Some c → c.names ≡ facts.names
  command_named (next_line {clause = clause} {lines = rest} says say) c e = command_told facts (saying row clause) rest c e

  none_refined : facts.setting.unit ≡ false → AreSame facts.sections []
  unfolding refinements
  none_refined unit = subst (λ ss. AreSame ss []) (sym (no_sections facts.setting unit [] all)) tt

  command_regular : (c : Command) → MakesCommand facts row rows c → IsWellFormedCommand c → is_regular_command c ≡ true
  command_regular c m w =
      let q = command_good laws regular lines targets row rows read m.say m.fine m.unit c m.is in
      let apart = all_apart facts all m.fine in
      let names_are = command_named m.say c m.is in
      let parts = pieces_of Good (Right facts) (good_right facts told) None 0 (parts_of c.action) q in
      let names = pieces_of Good (IsTold facts.names told) told_so None 0 (parts_of c.action) q in
      close_command c (record {
        parts = subst (λ names. are_regular_parts (Known names []) [] (exits_of kind.Command) (parts_of c.action) ≡ true) (sym names_are)
            (all_right targets all [] (none_refined m.unit) (exits_of kind.Command) (parts_of c.action) w.parts parts);
        lines = w.lines;
        apart = apart_numbers facts.names told.bound told.put apart.bound_put (bounds_of (parts_of c.action)) (addressed (parts_of c.action))
            (bounds_told facts.names told (parts_of c.action) names) (addresses_told facts.names told (parts_of c.action) names);
        few_names = w.few_names;
      })

  item_regular : (it : Item) → Makes lines targets all it → IsWellFormed it → IsRegularItem it
  item_regular (item.Environment e) m w = tt
  item_regular (item.Command c) m w = command_regular c m w
  item_regular (item.Unit u) m w = unit_regular u m w

  -- ---- numbers

  numbered_so : (o : Option ℕ) (d : ℕ) (x : Piece) → Good o d x → AreAll (numbers_in_part x)
  numbered_so o d x g = g.numbers

  all_numbered : (parts : Parts) → Pieces (λ x. AreAll (numbers_in_part x)) parts → AreAll (numbers_in_parts parts)
  all_numbered [] h = tt
  all_numbered (x ∷ parts) h = all_both (numbers_in_part x.1) (numbers_in_parts parts) h.0 (all_numbered parts h.1)

  suite_numbered : (o : Option ℕ) (parts : Parts) → All Good o 1 parts → Pieces (λ x. AreAll (numbers_in_part x)) (map (λ part. (suc part.0, part.1)) parts)
  suite_numbered o parts h = deeper_pieces (λ x. AreAll (numbers_in_part x)) parts (pieces_of Good (λ x. AreAll (numbers_in_part x)) numbered_so o 1 parts h)

  refinements_numbered : (n : ℕ) (rs : List Refinement) → OfRefinements Good facts n rs
      → Pieces (λ x. AreAll (numbers_in_part x)) (flat (map (λ (r : Refinement). here (piece.line r.line ∷ []) ++ suite_parts r.suite) rs))
  refinements_numbered n [] h = tt
  refinements_numbered n (r ∷ rs) h =
      pieces_both (λ x. AreAll (numbers_in_part x)) (here (piece.line r.line ∷ []) ++ suite_parts r.suite)
      (flat (map (λ (r : Refinement). here (piece.line r.line ∷ []) ++ suite_parts r.suite) rs))
      (tt, suite_numbered (Some n) (flat (map parts_of r.suite)) h.0) (refinements_numbered (n + 1) rs h.1)

  item_numbered : (it : Item) → Makes lines targets all it → IsNumberedItem it
  item_numbered (item.Environment e) m = tt
  item_numbered (item.Command c) m =
      let q = command_good laws regular lines targets row rows read m.say m.fine m.unit c m.is in
      all_numbered (parts_of c.action) (pieces_of Good (λ x. AreAll (numbers_in_part x)) numbered_so None 0 (parts_of c.action) q)
  item_numbered (item.Unit u) m =
      let q = unit_good laws regular lines targets row rows read m.say m.fine m.unit u m.is in
      all_numbered (parts_of_unit u) (pieces_both (λ x. AreAll (numbers_in_part x)) (suite_parts u.body)
      (flat (map (λ (r : Refinement). here (piece.line r.line ∷ []) ++ suite_parts r.suite) u.refinements))
      (suite_numbered None (flat (map parts_of u.body)) q.0) (refinements_numbered 0 u.refinements q.1))

pub items_regular : ReadingLaws → LinesAreRegular → (lines : List Line) (targets : List (List ℕ)) (it : Item) → item_of lines targets ≡ Some it → IsRegularItem it
items_regular laws regular lines targets it e = by (rows_of lines) (rows_read lines) (item_made lines targets it e) where
  by : (rows : List Row) → AreRead rows → Makes lines targets rows it → IsRegularItem it
  by [] read m = absurd m
  by (row ∷ rows) read m = item_regular laws regular lines targets row rows read it m (well_formed laws lines targets it e)

pub items_numbered : ReadingLaws → LinesAreRegular → (lines : List Line) (targets : List (List ℕ)) (it : Item) → item_of lines targets ≡ Some it → IsNumberedItem it
items_numbered laws regular lines targets it e = by (rows_of lines) (rows_read lines) (item_made lines targets it e) where
  by : (rows : List Row) → AreRead rows → Makes lines targets rows it → IsNumberedItem it
  by [] read m = absurd m
  by (row ∷ rows) read m = item_numbered laws regular lines targets row rows read it m

-- the same of an answer
pub answered : (P : Item → Type 0) (lines : List Line) (targets : List (List ℕ)) → ((lines : List Line) (targets : List (List ℕ)) (it : Item) → item_of lines targets ≡ Some it → P it)
    → (answer : Result Item ItemFault) → IfOk answer (λ it. item_of lines targets ≡ Some it) → IfOk answer P
answered P lines targets law (Ok it) h = law lines targets it h
answered P lines targets law (Err x) h = tt
