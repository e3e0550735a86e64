-- Where some types meet demands, proper ones do.
use Rattle.std.proofs.Common.{◌≡◌, ◌∙◌, ℕ, ◌≤◌, inl, inr, List, [], ◌∷◌, length, get_or, map, Bool, true, false, cond, ap, sym, subst, refl, arith}
use Rattle.std.proofs.lemmas.List.{length-map}
use Rattle.std.specs.List.{All}
use Rattle.abc_num.specs.Types.{IsTrainOf, are_several, all_true, proper_step, is_proper, IsProper}
use Rattle.abc_num.specs.declared.types.Ground.{Ground, fold-Ground, map-Ground}
use Rattle.abc_num.specs.declared.types.Ground.TheOpen.{Ground-F}
use Rattle.abc_num.specs.declared.types.Ground.TheViews.{roll-Ground}
use Rattle.abc_num.specs.declared.types.Ground.TheFolds.{fold-roll-Ground, ind-Ground}
use Rattle.abc_num.specs.declared.types.Ground.TheVariants as type
use Rattle.abc_num.specs.declared.types.Ground.TheVariants.{rolls-Number, rolls-Text, rolls-Compound, rolls-List, rolls-Table}
use Rattle.abc_terms.specs.declared.term.VarId.{VarId}
use Rattle.abc_terms.specs.declared.term.Term.{Term}
use Rattle.abc_terms.specs.declared.term.Term.TheOpen.{Term-F}
use Rattle.abc_terms.specs.declared.term.Term.TheViews.{out-Term, roll-Term, roll-out-Term}
use Rattle.abc_terms.specs.declared.term.Term.TheVariants as term
use Rattle.abc_terms.specs.declared.term.Term.TheVariants.{rolls-Var}
use Rattle.abc_terms.specs.declared.demand.Demand.{Demand}
use Rattle.abc_terms.specs.declared.demand.Demand.TheVariants as demand
use Rattle.abc_terms.specs.Demands.{stands_for, IsCollectionOf, IsNumberOrText, Holds, MeetsAll}
use Rattle.abc_terms.specs.Nodes.{IsNodeForm, DemandIn}
use Rattle.abc_terms.proofs.Terms.{stands_var, stands_number, stands_text, stands_list, stands_table, stands_compound, variable_is, variables_are}

abbrev pub mended_step : Ground-F Ground → Ground
mended_step Ground-F.Number = type.Number
mended_step Ground-F.Text = type.Text
mended_step (Ground-F.Compound fields) = cond (are_several fields) (type.Compound fields) type.Number
mended_step (Ground-F.List element) = type.List element
mended_step (Ground-F.Table key associate) = type.Table key associate

-- the type with number in place of each compound of fewer than two
abbrev pub mended : Ground → Ground
mended = fold-Ground Ground mended_step

pub mended_text : mended type.Text ≡ type.Text
mended_text = ap mended (sym rolls-Text) ∙ fold-roll-Ground Ground mended_step Ground-F.Text

pub mended_number : mended type.Number ≡ type.Number
mended_number = ap mended (sym rolls-Number) ∙ fold-roll-Ground Ground mended_step Ground-F.Number

pub mended_list : (g : Ground) → mended (type.List g) ≡ type.List (mended g)
mended_list g = ap mended (sym (rolls-List g)) ∙ fold-roll-Ground Ground mended_step (Ground-F.List g)

pub mended_table : (k g : Ground) → mended (type.Table k g) ≡ type.Table (mended k) (mended g)
mended_table k g = ap mended (sym (rolls-Table k g)) ∙ fold-roll-Ground Ground mended_step (Ground-F.Table k g)

pub mended_compound : (gs : List Ground) → mended (type.Compound gs) ≡ cond (are_several (map mended gs)) (type.Compound (map mended gs)) type.Number
mended_compound gs = ap mended (sym (rolls-Compound gs)) ∙ fold-roll-Ground Ground mended_step (Ground-F.Compound gs)

proper_number : is_proper type.Number ≡ true
proper_number = ap is_proper (sym rolls-Number) ∙ fold-roll-Ground Bool proper_step Ground-F.Number

proper_text : is_proper type.Text ≡ true
proper_text = ap is_proper (sym rolls-Text) ∙ fold-roll-Ground Bool proper_step Ground-F.Text

proper_list : (g : Ground) → is_proper (type.List g) ≡ is_proper g
proper_list g = ap is_proper (sym (rolls-List g)) ∙ fold-roll-Ground Bool proper_step (Ground-F.List g)

proper_table : (k g : Ground) → is_proper (type.Table k g) ≡ cond (is_proper k) (is_proper g) false
proper_table k g = ap is_proper (sym (rolls-Table k g)) ∙ fold-roll-Ground Bool proper_step (Ground-F.Table k g)

proper_compound : (gs : List Ground) → is_proper (type.Compound gs) ≡ cond (are_several (map is_proper gs)) (all_true (map is_proper gs)) false
proper_compound gs = ap is_proper (sym (rolls-Compound gs)) ∙ fold-roll-Ground Bool proper_step (Ground-F.Compound gs)

abbrev IsMended : Ground → Type 0
IsMended g = is_proper (mended g) ≡ true

all_mended : (es : List ((g : Ground) × IsMended g)) → all_true (map is_proper (map mended (map (λ e. e.0) es))) ≡ true
all_mended [] = refl
all_mended (e ∷ es) = ap (λ b. cond b (all_true (map is_proper (map mended (map (λ e. e.0) es)))) false) e.1 ∙ all_mended es

layer : (y : Ground-F ((g : Ground) × IsMended g)) → IsMended (roll-Ground (map-Ground ((g : Ground) × IsMended g) Ground (λ e. e.0) y))
layer Ground-F.Number = ap is_proper (fold-roll-Ground Ground mended_step Ground-F.Number) ∙ proper_number
layer Ground-F.Text = ap is_proper (fold-roll-Ground Ground mended_step Ground-F.Text) ∙ proper_text
layer (Ground-F.Compound []) = ap is_proper (fold-roll-Ground Ground mended_step (Ground-F.Compound [])) ∙ proper_number
layer (Ground-F.Compound (e ∷ [])) = ap is_proper (fold-roll-Ground Ground mended_step (Ground-F.Compound (e.0 ∷ []))) ∙ proper_number
layer (Ground-F.Compound (e ∷ (f ∷ es))) =
    ap is_proper (fold-roll-Ground Ground mended_step (Ground-F.Compound (map (λ e. e.0) (e ∷ (f ∷ es)))))
    ∙ (proper_compound (map mended (map (λ e. e.0) (e ∷ (f ∷ es)))) ∙ all_mended (e ∷ (f ∷ es)))
layer (Ground-F.List e) = ap is_proper (fold-roll-Ground Ground mended_step (Ground-F.List e.0)) ∙ (proper_list (mended e.0) ∙ e.1)
layer (Ground-F.Table e f) =
    ap is_proper (fold-roll-Ground Ground mended_step (Ground-F.Table e.0 f.0))
    ∙ (proper_table (mended e.0) (mended f.0) ∙ (ap (λ b. cond b (is_proper (mended f.0)) false) e.1 ∙ f.1))

pub mended_is_proper : (g : Ground) → IsProper (mended g)
mended_is_proper = ind-Ground IsMended (λ x y is. subst (λ z. IsMended (roll-Ground z)) is (layer y))

abbrev IsKept : Ground → Type 0
IsKept g = is_proper g ≡ true → mended g ≡ g

both_true : (a b : Bool) → cond a b false ≡ true → (a ≡ true) × (b ≡ true)
both_true true true e = (refl, refl)
both_true true false e = absurd (cc)
both_true false b e = absurd (cc)

all_kept : (es : List ((g : Ground) × IsKept g)) → all_true (map is_proper (map (λ e. e.0) es)) ≡ true → map mended (map (λ e. e.0) es) ≡ map (λ e. e.0) es
all_kept [] h = refl
all_kept (e ∷ es) h =
    let both : (is_proper e.0 ≡ true) × (all_true (map is_proper (map (λ e. e.0) es)) ≡ true) = both_true (is_proper e.0) (all_true (map is_proper (map (λ e. e.0) es))) h in
    let one : mended e.0 ≡ e.0 = e.1 both.0 in
    let rest : map mended (map (λ e. e.0) es) ≡ map (λ e. e.0) es = all_kept es both.1 in
    cc

several_kept : (es : List ((g : Ground) × IsKept g)) → are_several (map is_proper (map (λ e. e.0) es)) ≡ true → are_several (map mended (map (λ e. e.0) es)) ≡ true
several_kept [] h = absurd (cc)
several_kept (e ∷ []) h = absurd (cc)
several_kept (e ∷ (f ∷ es)) h = refl

kept_layer : (y : Ground-F ((g : Ground) × IsKept g)) → IsKept (roll-Ground (map-Ground ((g : Ground) × IsKept g) Ground (λ e. e.0) y))
kept_layer Ground-F.Number r = fold-roll-Ground Ground mended_step Ground-F.Number ∙ sym rolls-Number
kept_layer Ground-F.Text r = fold-roll-Ground Ground mended_step Ground-F.Text ∙ sym rolls-Text
kept_layer (Ground-F.Compound es) r =
    let is : cond (are_several (map is_proper (map (λ e. e.0) es))) (all_true (map is_proper (map (λ e. e.0) es))) false ≡ true = sym (proper_compound (map (λ e. e.0) es)) ∙ (ap is_proper (sym (rolls-Compound (map (λ e. e.0) es))) ∙ r) in
    let both : (are_several (map is_proper (map (λ e. e.0) es)) ≡ true) × (all_true (map is_proper (map (λ e. e.0) es)) ≡ true) = both_true (are_several (map is_proper (map (λ e. e.0) es))) (all_true (map is_proper (map (λ e. e.0) es))) is in
    ap mended (rolls-Compound (map (λ e. e.0) es)) ∙ (mended_compound (map (λ e. e.0) es)
    ∙ (ap (λ b. cond b (type.Compound (map mended (map (λ e. e.0) es))) type.Number) (several_kept es both.0)
    ∙ (ap type.Compound (all_kept es both.1) ∙ sym (rolls-Compound (map (λ e. e.0) es)))))
kept_layer (Ground-F.List e) r =
    let is : is_proper e.0 ≡ true = sym (proper_list e.0) ∙ (ap is_proper (sym (rolls-List e.0)) ∙ r) in
    ap mended (rolls-List e.0) ∙ (mended_list e.0 ∙ (ap type.List (e.1 is) ∙ sym (rolls-List e.0)))
kept_layer (Ground-F.Table e f) r =
    let is : cond (is_proper e.0) (is_proper f.0) false ≡ true = sym (proper_table e.0 f.0) ∙ (ap is_proper (sym (rolls-Table e.0 f.0)) ∙ r) in
    let both : (is_proper e.0 ≡ true) × (is_proper f.0 ≡ true) = both_true (is_proper e.0) (is_proper f.0) is in
    ap mended (rolls-Table e.0 f.0) ∙ (mended_table e.0 f.0 ∙ (ap (λ k. type.Table k (mended f.0)) (e.1 both.0) ∙ (ap (type.Table e.0) (f.1 both.1) ∙ sym (rolls-Table e.0 f.0))))

-- a proper type is as it was
pub mended_proper : (g : Ground) → IsProper g → mended g ≡ g
mended_proper = ind-Ground IsKept (λ x y is. subst (λ z. IsKept (roll-Ground z)) is (kept_layer y))

two_of : (gs : List Ground) → are_several (map is_proper gs) ≡ true → 2 ≤ length gs
two_of [] h = absurd (cc)
two_of (g ∷ []) h = absurd (cc)
two_of (g ∷ (h ∷ gs)) e = omega arith

-- a proper compound has two fields or more
pub proper_two : (gs : List Ground) → IsProper (type.Compound gs) → 2 ≤ length gs
proper_two gs r = two_of gs (both_true (are_several (map is_proper gs)) (all_true (map is_proper gs)) (sym (proper_compound gs) ∙ r)).0

module _ (v : ℕ → Ground) where
  abbrev pub mended_types : ℕ → Ground
  mended_types i = mended (v i)

  several : (xs : List VarId) → 2 ≤ length xs → are_several (map mended (map (λ x. v x.0) xs)) ≡ true
  several [] h = absurd (omega arith)
  several (x ∷ []) h = absurd (omega arith)
  several (x ∷ (y ∷ xs)) h = refl

  mapped : (xs : List VarId) → map mended (map (λ x. v x.0) xs) ≡ map (λ x. mended (v x.0)) xs
  mapped [] = refl
  mapped (x ∷ xs) = ap (λ gs. mended (v x.0) ∷ gs) (mapped xs)

  compound_mended : (xs : List VarId) → 2 ≤ length xs → mended (type.Compound (map (λ x. v x.0) xs)) ≡ type.Compound (map (λ x. mended (v x.0)) xs)
  compound_mended xs h =
      mended_compound (map (λ x. v x.0) xs)
      ∙ (ap (λ b. cond b (type.Compound (map mended (map (λ x. v x.0) xs))) type.Number) (several xs h)
      ∙ ap type.Compound (mapped xs))

  -- a term whose parts are variables stands for the mended type where these have mended types
  stands_mended : (n : ℕ) (f : Term-F Term) → IsNodeForm n f → mended (stands_for v (roll-Term f)) ≡ stands_for mended_types (roll-Term f)
  stands_mended n (Term-F.Var a) i = ap (λ t. mended (stands_for v t)) (rolls-Var a) ∙ (ap mended (stands_var v a) ∙ (sym (stands_var mended_types a) ∙ ap (stands_for mended_types) (sym (rolls-Var a))))
  stands_mended n Term-F.Number i = ap (λ t. mended (stands_for v t)) term.rolls-Number ∙ (ap mended (stands_number v) ∙ (mended_number ∙ (sym (stands_number mended_types) ∙ ap (stands_for mended_types) (sym term.rolls-Number))))
  stands_mended n Term-F.Text i = ap (λ t. mended (stands_for v t)) term.rolls-Text ∙ (ap mended (stands_text v) ∙ (mended_text ∙ (sym (stands_text mended_types) ∙ ap (stands_for mended_types) (sym term.rolls-Text))))
  stands_mended n (Term-F.Compound fields) i =
      let xs : (xs : List VarId) × (fields ≡ map term.Var xs) = variables_are n fields i.1 in
      let is : roll-Term (Term-F.Compound fields) ≡ term.Compound (map term.Var xs.0) = term.rolls-Compound fields ∙ ap term.Compound xs.1 in
      let two : 2 ≤ length xs.0 = subst (λ k. 2 ≤ k) (ap length xs.1 ∙ length-map xs.0 term.Var) i.0 in
      ap (λ t. mended (stands_for v t)) is ∙ (ap mended (stands_compound v xs.0) ∙ (compound_mended xs.0 two ∙ (sym (stands_compound mended_types xs.0) ∙ ap (stands_for mended_types) (sym is))))
  stands_mended n (Term-F.List element) i =
      let a : (a : VarId) × (element ≡ term.Var a) = variable_is n element i in
      let is : roll-Term (Term-F.List element) ≡ term.List (term.Var a.0) = term.rolls-List element ∙ ap term.List a.1 in
      ap (λ t. mended (stands_for v t)) is ∙ (ap mended (stands_list v a.0) ∙ (mended_list (v a.0.0) ∙ (sym (stands_list mended_types a.0) ∙ ap (stands_for mended_types) (sym is))))
  stands_mended n (Term-F.Table key associate) i =
      let k : (a : VarId) × (key ≡ term.Var a) = variable_is n key i.0 in
      let a : (a : VarId) × (associate ≡ term.Var a) = variable_is n associate i.1 in
      let is : roll-Term (Term-F.Table key associate) ≡ term.Table (term.Var k.0) (term.Var a.0) = term.rolls-Table key associate ∙ (ap (λ t. term.Table t associate) k.1 ∙ ap (term.Table (term.Var k.0)) a.1) in
      ap (λ t. mended (stands_for v t)) is ∙ (ap mended (stands_table v k.0 a.0) ∙ (mended_table (v k.0.0) (v a.0.0) ∙ (sym (stands_table mended_types k.0 a.0) ∙ ap (stands_for mended_types) (sym is))))

  train_mended : (g e : Ground) → IsTrainOf g e → IsTrainOf (mended g) (mended e)
  train_mended g e (inl both) = inl (ap mended both.0 ∙ mended_text, ap mended both.1 ∙ mended_text)
  train_mended g e (inr (inl is)) = inr (inl (ap mended is ∙ mended_list e))
  train_mended g e (inr (inr is)) = inr (inr (mended is.0, ap mended is.1 ∙ mended_table is.0 e))

  collection_mended : (g e : Ground) → IsCollectionOf g e → IsCollectionOf (mended g) (mended e)
  collection_mended g e (inl is) = inl (ap mended is ∙ mended_list e)
  collection_mended g e (inr is) = inr (mended is.0, ap mended is.1 ∙ mended_table is.0 e)

  plain_mended : (g : Ground) → IsNumberOrText g → IsNumberOrText (mended g)
  plain_mended g (inl is) = inl (ap mended is ∙ mended_number)
  plain_mended g (inr is) = inr (ap mended is ∙ mended_text)

  holds_mended : (n : ℕ) (d : Demand) → DemandIn n d → Holds v d → Holds mended_types d
  holds_mended n (demand.Is a t) i h =
      ap mended h ∙ (ap (λ u. mended (stands_for v u)) (sym (roll-out-Term t)) ∙ (stands_mended n (out-Term t) i.1 ∙ ap (stands_for mended_types) (roll-out-Term t)))
  holds_mended n (demand.Equal a b) i h = ap mended h
  holds_mended n (demand.Train a e) i h = train_mended (v a.0) (v e.0) h
  holds_mended n (demand.Collection a e) i h = collection_mended (v a.0) (v e.0) h
  holds_mended n (demand.NumberOrText a) i h = plain_mended (v a.0) h

  pub meets_mended : (n : ℕ) (demands : List Demand) → All (DemandIn n) demands → MeetsAll v demands → MeetsAll mended_types demands
  meets_mended n demands inside m k d h = holds_mended n (get_or demands k d) (inside k d h) (m k d h)
