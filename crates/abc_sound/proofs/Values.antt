-- Runs that make values of other values: each gives a value of its type, where these have theirs.
use Rattle.std.proofs.Common.{◌≡◌, refl, sym, subst, ℕ, suc, true, not, ◌&&◌, List, [], ◌∷◌, ◌++◌, map, length, Option, Some, None, Result, Ok, Err, is_some}
use Rattle.std.specs.Prelude.{nat_le}
use Rattle.std.proofs.Common.{arith}
use Rattle.std.proofs.lemmas.Bool.Decides.{nat_tests}
use Rattle.std.specs.List.{AllByRecursion, list_all}
use Rattle.std.specs.Option.{IfSome}
use Rattle.abc_num.specs.Characters.{IsCharacter, AreCharacters, are_characters}
use Rattle.abc_num.specs.declared.lines.RawLine.{RawLine}
use Rattle.abc_num.specs.declared.types.Ground.{Ground}
use Rattle.abc_num.specs.declared.types.Ground.TheVariants as type
use Rattle.abc_num.proofs.Characters.{characters_tested, tested_characters}
use Rattle.abc_value.specs.declared.faults.ValueFault.{ValueFault}
use Rattle.abc_value.specs.declared.faults.RunFault.{RunFault}
use Rattle.abc_value.specs.declared.faults.RunFault.TheVariants.{NoKey}
use Rattle.abc_value.specs.Tree.{Tree, Trees, Pairs, number, text, compound, list, table, trees, listed, listed_pairs, no_trees, more, no_pairs, pair, table_of}
use Rattle.abc_value.specs.Types.{has}
use Rattle.abc_value.specs.Forms.{Form, anything, Fits, form_of}
use Rattle.abc_value.specs.Items.{if_small, elements_of}
use Rattle.abc_value.specs.Changes.{in_order, placed, associate_of}
use Rattle.abc_value.specs.Parts.{parts_of, pairs_of}
use Rattle.abc_value.specs.Printed.{outer}
use Rattle.abc_value.specs.Regular.{IsRegular, AllRegular, AllRegularPairs}
use Rattle.abc_value.proofs.printed.Characters.{characters-append}
use Rattle.abc_value.proofs.trees.Making.{text_regular}
use Rattle.abc_value.proofs.printed.Outers.{outer_characters}
use Rattle.abc_print.specs.Computed.{literal_of}
use Rattle.abc_tree.specs.declared.operations.Op.{Op}
use Rattle.abc_predef.specs.Rows.{row_of_one, row_of_two}
use Rattle.abc_predef.proofs.Typed.{typed_parts}
use Rattle.abc_ground.specs.Fits.{AreFields, ValueFits}
use Rattle.abc_terms.specs.Demands.{IsNumberOrText}
use Rattle.abc_meaning.specs.State.{State, gives, Run}
use Rattle.abc_meaning.specs.Here.{Here}
use Rattle.abc_meaning.specs.Fits.{has_type, have_range, fits_table, gives_value, agree}
use Rattle.abc_meaning.specs.Value.{answer, row_answer, made, composed, applied_to_one, applied, there, selected, range, Filling, Tabling, Wording, worded, list_display, table_display}
use Rattle.abc_meaning.specs.Reading.{raw_value, of_form, literal_value}
use Rattle.abc_sound.proofs.Leaving.{Fine, sure, given, halted, passed, either, sooner}
use Rattle.abc_sound.proofs.Changes.{Has}
use Rattle.abc_sound.proofs.Literals.{IsOnly, agreed_has}
use Rattle.abc_sound.proofs.States.{IsTyped, IsReady, Kept}
use Rattle.abc_sound.proofs.Typed.{both_true, some_form, small_has, HaveAll, HavePairs, HaveEach, from_all, display_has, entries_have, compound_has, each_typed, table_fits, selected_has, range_has, one_taken, one_has, two_taken, two_has}

-- a value of the type, which is regular
abbrev pub IsA : Ground → Tree → Type 0
IsA t v = has v t × IsRegular v

-- values, each of its type
abbrev pub AreEach : List Ground → List Tree → Type 0
AreEach [] [] = Unit {0}
AreEach (t ∷ ts) (v ∷ vs) = IsA t v × AreEach ts vs
AreEach _ _ = ⊥

pub one_each_more : (ts : List Ground) (vs : List Tree) (t : Ground) (v : Tree) → AreEach ts vs → IsA t v → AreEach (ts ++ t ∷ []) (vs ++ v ∷ [])
one_each_more [] [] t v h k = (k, tt)
one_each_more [] (w ∷ vs) t v h k = absurd h
one_each_more (u ∷ ts) [] t v h k = absurd h
one_each_more (u ∷ ts) (w ∷ vs) t v h k = (h.0, one_each_more ts vs t v h.1 k)

pub each_have : (ts : List Ground) (vs : List Tree) → AreEach ts vs → HaveEach ts vs
each_have [] [] h = tt
each_have [] (v ∷ vs) h = absurd h
each_have (t ∷ ts) [] h = absurd h
each_have (t ∷ ts) (v ∷ vs) h = (h.0.0, each_have ts vs h.1)

-- characters that stand together
pub characters_together : (b c : List ℕ) → are_characters b ≡ true → are_characters c ≡ true → are_characters (b ++ c) ≡ true
characters_together b c h k = characters_tested (b ++ c) (characters-append b c (tested_characters b h) (tested_characters c k))

pub outer_tested : (v : Tree) → IsRegular v → are_characters (outer v) ≡ true
outer_tested v h = characters_tested (outer v) (outer_characters v h)

two_fields : (gs : List Ground) (vs : List Tree) (t : Ground) → AreFields gs t → HaveEach gs vs → (nat_le 2 (length vs) ≡ true) × (t ≡ type.Compound gs)
two_fields [] vs t a h = absurd a
two_fields (g ∷ []) vs t a h = absurd a
two_fields (g ∷ k ∷ gs) [] t a h = absurd h
two_fields (g ∷ k ∷ gs) (v ∷ []) t a h = absurd h.1
two_fields (g ∷ k ∷ gs) (v ∷ w ∷ vs) t a h = (two (length vs), a)
  where
    two : (n : ℕ) → nat_le 2 (suc (suc n)) ≡ true
    two n = grind (arith, nat_tests)

-- at the end of a node values need not be known to be regular
pub ends : {types : List ℕ → Ground} {names : List Ground} {kept : Kept} {A : Type 0} {Q : A → Type 0} {run : Run A} → Fine (IsTyped types names kept) (IsTyped types names kept) A Q run → Fine (IsReady types names kept) (IsTyped types names kept) A Q run
ends h = sooner (λ s k. k.0) h

pub gave : {types : List ℕ → Ground} {names : List Ground} {kept : Kept} {A : Type 0} {Q : A → Type 0} {a : A} → Q a → Fine (IsReady types names kept) (IsTyped types names kept) A Q (λ s. gives a s)
gave q = record { leaves = λ s h. sure (q, h.0) }

module _ {I : State → Type 0} where
  pub answered : (here : Here) {Q : Tree → Type 0} (r : Result Tree ValueFault) → ((v : Tree) → r ≡ Ok v → Q v) → Fine I I Tree Q (answer here r)
  answered here (Ok v) h = given (h v refl)
  answered here (Err f) h = halted tt

  pub row_answered : (here : Here) {Q : Tree → Type 0} (r : Result Tree RunFault) → ((v : Tree) → r ≡ Ok v → Q v) → Fine I I Tree Q (row_answer here r)
  row_answered here (Ok v) h = given (h v refl)
  row_answered here (Err f) h = halted tt

  pub made_typed : (here : Here) (v : Tree) (t : Ground) → has v t → Fine I I Tree (Has t) (made here v)
  made_typed here v t h = answered here (if_small v) (λ w is. small_has v w t h is)

  pub composed_typed : (here : Here) (vs : List Tree) (gs : List Ground) (t : Ground) → HaveEach gs vs → AreFields gs t → Fine I I Tree (Has t) (composed here vs)
  composed_typed here vs gs t h a =
      let w = two_fields gs vs t a h in
      passed here (nat_le 2 (length vs) && list_all has_type vs) (both_true (nat_le 2 (length vs)) (list_all has_type vs) w.0 (each_typed gs vs h))
      (λ _. made_typed here (compound (trees vs)) t (subst (has (compound (trees vs))) (sym w.1) (compound_has gs vs h)))

  pub there_typed : (here : Here) {Q : Tree → Type 0} (f : RunFault) (v : Option Tree) → IfSome v Q → Fine I I Tree Q (there here f v)
  there_typed here f None h = halted tt
  there_typed here f (Some v) h = given h

  pub selected_typed : (here : Here) (t k : Tree) (l a : Ground) → has t (type.Table l a) → has k l → Fine I I Tree (Has a) (selected here t k)
  selected_typed here t k l a ht hk = passed here (fits_table t k (Some anything)) (table_fits t k (Some anything) l a ht hk tt) (λ _. there_typed here NoKey (associate_of k (pairs_of t)) (selected_has k t l a ht))

  pub one_applied : (here : Here) (op : Op) (u t : Ground) (v : Tree) → ValueFits op (u ∷ []) (t ∷ []) → has v u → Fine I I Tree (Has t) (applied_to_one here op v)
  one_applied here op u t v h hv = passed here (gives_value op (v ∷ [])) (one_taken op u t v h hv) (λ _. row_answered here (row_of_one op v) (λ w is. one_has op u t v w h hv is))

  pub two_applied : (here : Here) (op : Op) (x y t : Ground) (v w : Tree) → ValueFits op (x ∷ y ∷ []) (t ∷ []) → has v x → has w y → Fine I I Tree (Has t) (applied here op v w)
  two_applied here op x y t v w h hv hw = passed here (gives_value op (v ∷ w ∷ [])) (two_taken op x y t v w h hv hw) (λ _. row_answered here (row_of_two op v w) (λ z is. two_has op x y t v w z h hv hw is))

  pub worded_typed : (here : Here) (found : Wording) (t : Ground) → t ≡ type.Text → found.typed ≡ true → are_characters found.characters ≡ true → Fine I I Tree (Has t) (worded here found)
  worded_typed here found t is typed are =
      passed here (found.typed && are_characters found.characters) (both_true found.typed (are_characters found.characters) typed are) (λ _. made_typed here (text found.characters) t is)

  pub list_displayed : (here : Here) (found : Filling) (t e : Ground) → t ≡ type.List e → HaveAll e found.elements → Fits found.form e → Fine I I Tree (Has t) (list_display here found)
  list_displayed here found t e is h f =
      passed here (is_some found.form) (some_form found.form e f) (λ _. made_typed here (list (trees (in_order found.elements))) t (subst (has (list (trees (in_order found.elements)))) (sym is) (display_has e found.elements h)))

  pub table_displayed : (here : Here) (found : Tabling) (t k a : Ground) → t ≡ type.Table k a → HavePairs k a found.pairs → Fits found.keys k → Fits found.associates a → Fine I I Tree (Has t) (table_display here found)
  table_displayed here found t k a is h f g =
      passed here (is_some found.keys && is_some found.associates) (both_true (is_some found.keys) (is_some found.associates) (some_form found.keys k f) (some_form found.associates a g))
      (λ _. made_typed here (table_of (placed found.pairs)) t (subst (has (table_of (placed found.pairs))) (sym is) (entries_have found.pairs k a h)))

  -- ---- lines

  pub raw_typed : (here : Here) (l : RawLine) → Fine I I Tree (Has type.Text) (raw_value here l)
  raw_typed here l = either {run = λ s. gives (text l.bytes) s} (not l.long && are_characters l.bytes) (λ _. given refl) (halted tt)

  form_typed : (here : Here) (form : Option Form) (v : Option Tree) (t : Ground) → IsOnly form t → Fine I I Tree (Has t) (of_form here form v)
  form_typed here form None t only = halted tt
  form_typed here form (Some v) t only = either (agree (form_of v) form) (λ is. given (agreed_has v form t only is)) (halted tt)

  pub literal_typed : (here : Here) (form : Option Form) (l : RawLine) (t : Ground) → IsOnly form t → Fine I I Tree (Has t) (literal_value here form l)
  literal_typed here form l t only = either l.long (λ _. halted tt) (form_typed here form (literal_of l.bytes) t only)

-- the elements of a range
pub range_elements : (e : Ground) (r : Tree) → has r (type.List e) → HaveAll e (parts_of r)
range_elements e r h = from_all e (parts_of r) (typed_parts r e h)

module _ {I : State → Type 0} where
  pub ranged : (here : Here) (p q : Tree) (e : Ground) → IsNumberOrText e → has p e → has q e → Fine I I Tree (Has (type.List e)) (range here p q)
  ranged here p q e is hp hq = let r = range_has e p q is hp hq in passed here (have_range p q) r.0 (λ _. answered here _ (λ v eq. r.1 v eq))

-- ---- the elements of a regular train are regular

part_regular : (t : Tree) (ts : Trees) → AllRegular (more t ts) → IsRegular t × AllRegular ts
unfolding AllRegular
part_regular t ts h = (h.0, h.1)

all_regular : (ts : Trees) → AllRegular ts → AllByRecursion IsRegular (listed ts)
all_regular no_trees h = tt
all_regular (more t ts) h = let p = part_regular t ts h in (p.0, all_regular ts p.1)

pair_regular : (k a : Tree) (ps : Pairs) → AllRegularPairs (pair k a ps) → IsRegular a × AllRegularPairs ps
unfolding AllRegularPairs
pair_regular k a ps h = (h.1, h.2)

associates_regular : (ps : Pairs) → AllRegularPairs ps → AllByRecursion IsRegular (map (λ p. p.1) (listed_pairs ps))
associates_regular no_pairs h = tt
associates_regular (pair k a ps) h = let p = pair_regular k a ps h in (p.0, associates_regular ps p.1)

one_character : (c : ℕ) → IsCharacter c → IsRegular (text (c ∷ []))
one_character c h = text_regular (c ∷ []) (omega arith) (h, tt)

characters_regular : (b : List ℕ) → AreCharacters b → AllByRecursion IsRegular (map (λ c. text (c ∷ [])) b)
characters_regular [] h = tt
characters_regular (c ∷ b) h = (one_character c h.0, characters_regular b h.1)

elements_regular : (t : Tree) → IsRegular t → AllByRecursion IsRegular (elements_of t)
unfolding IsRegular
elements_regular (number n) h = tt
elements_regular (text b) h = characters_regular b h.1
elements_regular (compound ts) h = all_regular ts h.2
elements_regular (list ts) h = all_regular ts h.2
elements_regular (table ps) h = associates_regular ps h.3

both_of : (e : Ground) (vs : List Tree) → HaveAll e vs → AllByRecursion IsRegular vs → AllByRecursion (IsA e) vs
both_of e [] h k = tt
both_of e (v ∷ vs) h k = ((h.0, k.0), both_of e vs h.1 k.1)

pub elements_are : (v : Tree) (e : Ground) → HaveAll e (elements_of v) → IsRegular v → AllByRecursion (IsA e) (elements_of v)
elements_are v e h k = both_of e (elements_of v) h (elements_regular v k)
