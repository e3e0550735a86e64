-- Names that are added with the values to which they are set.
use Rattle.std.proofs.Common.{◌≡◌, ◌≢◌, ◌<◌, ◌≤◌, ◌+◌, zero, suc, get_or, arith, length, List, [], ◌∷◌, ◌++◌, Option, None, Some, Err, option_map, ℕ, drop, refl, sym, ap, ◌∙◌, append_assoc}
use Rattle.std.proofs.lemmas.List.{append-nil}
use Rattle.std.specs.Prelude.{slice_get}
use Rattle.abc_state.proofs.Parts.{at_place, past_end, none_behind}
use Rattle.abc_value.specs.Forms.{both}
use Rattle.abc_value.specs.Tree.{Tree}
use Rattle.abc_tree.specs.declared.commands.Unit.{Unit as Routine}
use Rattle.abc_tree.specs.declared.formulas.Bound.{Bound}
use Rattle.abc_meaning.specs.State.{State}
use Rattle.abc_meaning.specs.Here.{Here}
use Rattle.abc_meaning.specs.Bindings.{Bindings, bindings, bind, set_names}
use Rattle.abc_meaning.specs.Calls.{with_bindings}
use Rattle.abc_state.specs.declared.halt.Halt.{Halt}
use Rattle.abc_state.specs.declared.halt.Halt.TheVariants.{Fault, Wrong}
use Rattle.abc_state.specs.Agrees.{Halts}
use Rattle.abc_acts.specs.Words.{GivesNames, formal_frame}
use Rattle.abc_acts.specs.inner.Binding.{Adds, bindings_all}

added_to : (o q : Option Bindings) (found new : Bindings) → option_map (λ bs. found ++ bs) o ≡ Some new
    → option_map (λ bs. found ++ bs) (both (λ xs ys. xs ++ ys) o q) ≡ option_map (λ bs. new ++ bs) q
added_to None q found new h = absurd (cc)
added_to (Some bs) None found new h = refl
added_to (Some bs) (Some cs) found new h =
    let e : found ++ bs ≡ new = cc in ap (λ l. Some l) (sym (append_assoc found bs cs) ∙ ap (λ l. l ++ cs) e)

-- one part is added, and then the others
pub part_added : (p : Bound) (ps : List Bound) (v : Tree) (vs : List Tree) (found new : Bindings) → option_map (λ bs. found ++ bs) (bindings p v) ≡ Some new
    → option_map (λ bs. found ++ bs) (bindings_all (p ∷ ps) (v ∷ vs)) ≡ option_map (λ bs. new ++ bs) (bindings_all ps vs)
part_added p ps v vs found new h = added_to (bindings p v) (bindings_all ps vs) found new h

none_of : (o q : Option Bindings) → o ≡ None → both (λ xs ys. xs ++ ys) o q ≡ None
none_of None q h = refl
none_of (Some bs) q h = absurd (cc)

-- nothing is added where nothing is
pub none_added : (o : Option Bindings) (found : Bindings) → option_map (λ bs. found ++ bs) o ≡ None → o ≡ None
none_added None found h = refl
none_added (Some bs) found h = absurd (cc)

-- where the next part can't be added, neither can all
pub part_halts : (p : Bound) (ps : List Bound) (v : Tree) (vs : List Tree) (o : Option Bindings) (old found new : Bindings) (h : Halt)
    → option_map (λ bs. old ++ bs) o ≡ option_map (λ bs. found ++ bs) (bindings_all (p ∷ ps) (v ∷ vs)) → Adds (Err h) (bindings p v) found new → Adds (Err h) o old new
part_halts p ps v vs o old found new (Fault f) e k = k
part_halts p ps v vs o old found new Wrong e k = none_added o old (e ∙ ap (option_map (λ bs. found ++ bs)) (none_of (bindings p v) (bindings_all ps vs) k))

-- nothing is set where the names can't be added, and no call begins
pub bind_halts : (here : Here) (bound : Bound) (v : Tree) (old new : Bindings) (h : Halt) (s : State) → Adds (Err h) (bindings bound v) old new → Halts here.line h s (bind here bound v s)
bind_halts here bound v old new (Fault f) s k = λ n. absurd (n k)
bind_halts here bound v old new Wrong s k = ap (λ o. set_names here o s) k

pub frame_halts : (u : Routine) (bounds : List Bound) (vs : List Tree) (old new : Bindings) (h : Halt) → bounds ≡ u.formals → Adds (Err h) (bindings_all bounds vs) old new → GivesNames (Err h) (formal_frame u vs)
frame_halts u bounds vs old new (Fault f) e k = k
frame_halts u bounds vs old new Wrong e k = ap (λ bs. option_map (λ all. with_bindings all []) (bindings_all bs vs)) (sym e) ∙ ap (option_map (λ all. with_bindings all [])) k

-- what is of another count matches nothing
pub apart_by_count : (ps : List Bound) (vs : List Tree) → length ps ≢ length vs → bindings_all ps vs ≡ None
apart_by_count [] [] h = absurd (h refl)
apart_by_count [] (v ∷ vs) h = refl
apart_by_count (p ∷ ps) [] h = refl
apart_by_count (p ∷ ps) (v ∷ vs) h = none_of_rest (bindings p v) (bindings_all ps vs) (apart_by_count ps vs (λ e. h (ap (λ n. suc n) e)))
  where
    none_of_rest : (o q : Option Bindings) → q ≡ None → both (λ xs ys. xs ++ ys) o q ≡ None
    none_of_rest None q h = refl
    none_of_rest (Some bs) None h = refl
    none_of_rest (Some bs) (Some cs) h = absurd (cc)

-- ---- at a place of the row

pub drop_at : {A : Type 0} (xs : List A) (i : ℕ) (x : A) → i < length xs → x ≡ get_or xs i x → drop i xs ≡ x ∷ drop (i + 1) xs
drop_at [] i x l h = absurd (omega arith)
drop_at (y ∷ xs) zero x l h = ap (λ z. z ∷ xs) (sym h)
drop_at (y ∷ xs) (suc i) x l h = drop_at xs i x (omega arith) h ∙ ap (λ n. x ∷ drop n (y ∷ xs)) (let e : suc (i + 1) ≡ suc i + 1 = omega arith in e)

pub more_behind : {A : Type 0} (xs : List A) (i n : ℕ) → length (drop i xs) ≡ suc n → i < length xs
more_behind [] zero n h = absurd (omega (arith, h))
more_behind [] (suc i) n h = absurd (omega (arith, h))
more_behind (x ∷ xs) zero n h = omega arith
more_behind (x ∷ xs) (suc i) n h = let l = more_behind xs i n h in omega arith

module _ (parts : List Bound) (vs : List Tree) (i : ℕ) (p : Bound) (old found : Bindings) (o : Option Bindings) (l : i < length parts) (is : p ≡ get_or parts i p)
    (adds : option_map (λ bs. old ++ bs) o ≡ option_map (λ bs. found ++ bs) (bindings_all (drop i parts) (drop i vs))) where
  pub field_missing : slice_get vs i ≡ None → o ≡ None
  field_missing k =
      none_added o old (adds ∙ ap (λ ps. option_map (λ bs. found ++ bs) (bindings_all ps (drop i vs))) (drop_at parts i p l is)
      ∙ ap (λ ws. option_map (λ bs. found ++ bs) (bindings_all (p ∷ drop (i + 1) parts) ws)) (past_end vs i k))

  at_both : (v : Tree) → slice_get vs i ≡ Some v → option_map (λ bs. old ++ bs) o ≡ option_map (λ bs. found ++ bs) (bindings_all (p ∷ drop (i + 1) parts) (v ∷ drop (i + 1) vs))
  at_both v k =
      adds ∙ ap (λ ps. option_map (λ bs. found ++ bs) (bindings_all ps (drop i vs))) (drop_at parts i p l is)
      ∙ ap (λ ws. option_map (λ bs. found ++ bs) (bindings_all (p ∷ drop (i + 1) parts) ws)) (at_place vs i v k)

  pub field_halts : (v : Tree) (h : Halt) (new : Bindings) → slice_get vs i ≡ Some v → Adds (Err h) (bindings p v) found new → Adds (Err h) o old new
  field_halts v h new k a = part_halts p (drop (i + 1) parts) v (drop (i + 1) vs) o old found new h (at_both v k) a

  pub field_added : (v : Tree) (new : Bindings) → slice_get vs i ≡ Some v → option_map (λ bs. found ++ bs) (bindings p v) ≡ Some new
      → option_map (λ bs. old ++ bs) o ≡ option_map (λ bs. new ++ bs) (bindings_all (drop (i + 1) parts) (drop (i + 1) vs))
  field_added v new k a = at_both v k ∙ part_added p (drop (i + 1) parts) v (drop (i + 1) vs) found new a

module _ (parts : List Bound) (vs : List Tree) (i : ℕ) (old found : Bindings) (o : Option Bindings) (l : length parts ≤ i)
    (adds : option_map (λ bs. old ++ bs) o ≡ option_map (λ bs. found ++ bs) (bindings_all (drop i parts) (drop i vs))) where
  pub fields_added : slice_get vs i ≡ None → option_map (λ bs. old ++ bs) o ≡ Some found
  fields_added k =
      adds ∙ ap (λ ps. option_map (λ bs. found ++ bs) (bindings_all ps (drop i vs))) (none_behind parts i l) ∙ ap (λ ws. option_map (λ bs. found ++ bs) (bindings_all [] ws)) (past_end vs i k)
      ∙ ap (λ l. Some l) (append-nil found)

  pub field_behind : (v : Tree) → slice_get vs i ≡ Some v → o ≡ None
  field_behind v k =
      none_added o old (adds ∙ ap (λ ps. option_map (λ bs. found ++ bs) (bindings_all ps (drop i vs))) (none_behind parts i l)
      ∙ ap (λ ws. option_map (λ bs. found ++ bs) (bindings_all [] ws)) (at_place vs i v k))
