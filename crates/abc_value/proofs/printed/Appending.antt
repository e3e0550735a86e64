-- A text that is added to piece by piece.
use Rattle.std.proofs.Common.{◌≡◌, ℕ, zero, suc, ◌+◌, ◌<◌, ◌≤◌, List, [], ◌∷◌, ◌++◌, length, map, get_or, drop, refl, sym, ap, ◌∙◌, subst, arith, add-one, length-append, Result, Err}
use Rattle.std.proofs.lemmas.List.{drop_more, drop_all, append_assoc, append-nil}
use Rattle.std.specs.List.{flat_map}
use Rattle.abc_value.specs.declared.faults.PrintFault.{PrintFault}
use Rattle.abc_value.specs.declared.faults.PrintFault.TheVariants.{TooLong}
use Rattle.abc_value.specs.declared.value.Entry.{Entry}
use Rattle.abc_value.specs.Tree.{Tree, trees, pairs}
use Rattle.abc_value.specs.View.{as_pair}
use Rattle.abc_value.specs.Printed.{doubled, joined, display, displays, pair_display, pair_displays, plain, plains}
use Rattle.abc_value.specs.inner.Printing.{IsAdded, lead}

-- of all that is to stand behind `before`, `rest` is not there yet
pub record IsGoing (before all now rest : List ℕ) (most : ℕ) : Type 0 where
  pub is : before ++ all ≡ now ++ rest
  pub fits : length before ≤ most → length now ≤ most

pub begins : (before all : List ℕ) (most : ℕ) → IsGoing before all before all most
begins before all most = record { is = refl; fits = λ h. h }

-- what is left may be said in another way
pub says : (before all now rest other : List ℕ) (most : ℕ) → IsGoing before all now rest most → rest ≡ other → IsGoing before all now other most
says before all now rest other most g e = subst (λ r. IsGoing before all now r most) e g

pub goes_on : (before all now piece rest new : List ℕ) (most : ℕ) → IsGoing before all now (piece ++ rest) most → (new ≡ now ++ piece) × (length now ≤ most → length new ≤ most) → IsGoing before all new rest most
goes_on before all now piece rest new most g h = record {
  is = g.is ∙ sym (append_assoc now piece rest) ∙ ap (λ z. z ++ rest) (sym h.0);
  fits = λ k. h.1 (g.fits k);
}

-- a front that is too long makes the whole too long
pub too_long : (before all now piece rest : List ℕ) (most : ℕ) → IsGoing before all now (piece ++ rest) most → most < length (now ++ piece) → most < length (before ++ all)
too_long before all now piece rest most g h =
    let whole = ap length (g.is ∙ sym (append_assoc now piece rest)) ∙ length-append (now ++ piece) rest in
    omega (arith, whole)

pub ends : (before all now : List ℕ) (most : ℕ) → IsGoing before all now [] most → (now ≡ before ++ all) × (length before ≤ most → length now ≤ most)
ends before all now most g = (sym (g.is ∙ append-nil now), g.fits)

-- the answer where the piece has no place
pub refused : {A : Type 0} (before all now piece rest after : List ℕ) (most : ℕ) (r : Result A PrintFault) (f g : PrintFault) → IsGoing before all now (piece ++ rest) most → r ≡ Err f → f ≡ g → (g ≡ TooLong → most < length (now ++ piece)) → IsAdded before all after most r
refused before all now piece rest after most r f g i e same h =
    subst (IsAdded before all after most) (sym e) (λ k. too_long before all now piece rest most i (h (sym same ∙ k)))

-- what is left of texts with a separator, from a place on
abbrev pub left : List ℕ → ℕ → List (List ℕ) → List ℕ
left separator zero texts = joined separator texts
left separator (suc i) texts = flat_map (λ t. separator ++ t) texts

left_step : (separator t : List ℕ) (texts : List (List ℕ)) (i : ℕ) → left separator i (t ∷ texts) ≡ lead separator i ++ (t ++ left separator (suc i) texts)
left_step separator t texts zero = refl
left_step separator t texts (suc i) = append_assoc separator t (flat_map (λ u. separator ++ u) texts)

pub left_more : (separator : List ℕ) (texts : List (List ℕ)) (i : ℕ) (t : List ℕ) → i < length texts → t ≡ get_or texts i [] → left separator i (drop i texts) ≡ lead separator i ++ (t ++ left separator (i + 1) (drop (i + 1) texts))
left_more separator texts i t h e =
    ap (left separator i) (drop_more texts i [] h ∙ ap (λ u. u ∷ drop (i + 1) texts) (sym e))
    ∙ left_step separator t (drop (i + 1) texts) i
    ∙ ap (λ k. lead separator i ++ (t ++ left separator k (drop (i + 1) texts))) (sym (add-one i))

left_none : (separator : List ℕ) (i : ℕ) → left separator i [] ≡ []
left_none separator zero = refl
left_none separator (suc i) = refl

pub left_all : (separator : List ℕ) (texts : List (List ℕ)) (i : ℕ) → length texts ≤ i → left separator i (drop i texts) ≡ []
left_all separator texts i h = ap (left separator i) (drop_all i texts h) ∙ left_none separator i

-- the displays of parts are as many as the parts, and each stands at its place
pub displays_count : (xs : List Tree) → length (displays (trees xs)) ≡ length xs
displays_count [] = refl
displays_count (x ∷ xs) = ap suc (displays_count xs)

pub display_at : (xs : List Tree) (i : ℕ) (x : Tree) → i < length xs → x ≡ get_or xs i x → display x ≡ get_or (displays (trees xs)) i []
display_at [] i x h e = absurd (omega arith)
display_at (y ∷ ys) zero x h e = ap display e
display_at (y ∷ ys) (suc i) x h e = display_at ys i x (omega arith) e

pub plains_count : (xs : List Tree) → length (plains (trees xs)) ≡ length xs
plains_count [] = refl
plains_count (x ∷ xs) = ap suc (plains_count xs)

pub plain_at : (xs : List Tree) (i : ℕ) (x : Tree) → i < length xs → x ≡ get_or xs i x → plain x ≡ get_or (plains (trees xs)) i []
plain_at [] i x h e = absurd (omega arith)
plain_at (y ∷ ys) zero x h e = ap plain e
plain_at (y ∷ ys) (suc i) x h e = plain_at ys i x (omega arith) e

pub pairs_count : (es : List Entry) → length (pair_displays (pairs (map as_pair es))) ≡ length es
pairs_count [] = refl
pairs_count (e ∷ es) = ap suc (pairs_count es)

pub pair_at : (es : List Entry) (i : ℕ) (d : Entry) → i < length es → d ≡ get_or es i d → pair_display (as_pair d) ≡ get_or (pair_displays (pairs (map as_pair es))) i []
pair_at [] i d h e = absurd (omega arith)
pair_at (y ∷ ys) zero d h e = ap (λ (z : Entry). pair_display (as_pair z)) e
pair_at (y ∷ ys) (suc i) d h e = pair_at ys i d (omega arith) e

-- characters that are left
pub doubled_more : (b : List ℕ) (i : ℕ) → i < length b → flat_map doubled (drop i b) ≡ doubled (get_or b i 0) ++ flat_map doubled (drop (i + 1) b)
doubled_more b i h = ap (flat_map doubled) (drop_more b i 0 h)

pub doubled_all : (b : List ℕ) (i : ℕ) → length b ≤ i → flat_map doubled (drop i b) ≡ []
doubled_all [] zero h = refl
doubled_all [] (suc i) h = refl
doubled_all (c ∷ cs) zero h = absurd (omega arith)
doubled_all (c ∷ cs) (suc i) h = doubled_all cs i (omega arith)
