-- Acts in steps: what is shown of each step is shown of the act.
use Rattle.std.proofs.Common.{◌<◌, ◌+◌, length, get_or, drop, map, true, false, ◌≡◌, ℕ, List, [], ◌∷◌, Option, Some, None, Result, refl, sym, subst, ap, ◌∙◌}
use Rattle.abc_value.specs.Tree.{Tree}
use Rattle.abc_value.specs.declared.faults.RunFault.TheVariants.{NoValue}
use Rattle.abc_frames.specs.Maps.{Frame}
use Rattle.abc_meaning.specs.State.{State, Step, Address, Formal, stops, faulty, wrong, after}
use Rattle.abc_meaning.specs.Here.{Here, look}
use Rattle.abc_meaning.specs.Changing.{Change, Part, changed, assigned, fielded, put, put_fields, put_parts}
use Rattle.abc_meaning.specs.PutBack.{put_back, put_one}
use Rattle.std.specs.Prelude.{is_some, unwrap_or}
use Rattle.abc_state.specs.declared.run.Formal.{Formal as HeldFormal}
use Rattle.abc_state.specs.Views.{formal_of}
use Rattle.abc_acts.specs.inner.Fields.{fields_at}
use Rattle.abc_acts.proofs.Rows.{drop_step}
use Rattle.abc_state.specs.declared.halt.Halt.{Halt}
use Rattle.abc_state.specs.declared.halt.Halt.TheVariants.{Fault, Wrong}
use Rattle.abc_state.specs.Agrees.{Halts, Agrees}
use Rattle.abc_acts.specs.Words.{leaving_to}
use Rattle.abc_acts.specs.inner.Changing.{Stops, NeedsOld, assigned_at}
use Rattle.abc_acts.proofs.Steps.{nothing_there}

pub left_so : (here : Here) (names ns : Frame) (formals fs : List Formal) (s u t : State) (r : Result (Unit {0}) Halt) → fs ≡ s.formals → ns ≡ s.names → u ≡ record s { names = names; formals = formals }
    → Agrees (λ _. tt) here.line r t (put_back here fs ns u) → Agrees (λ _. tt) here.line r t (leaving_to here names formals s)
left_so here names ns formals fs s u t r p q e h =
    subst (λ x. Agrees (λ _. tt) here.line r t (put_back here s.formals s.names x)) e
    (subst (λ x. Agrees (λ _. tt) here.line r t (put_back here s.formals x u)) q (subst (λ x. Agrees (λ _. tt) here.line r t (put_back here x ns u)) p h))

-- a change that stops leaves the state as it is
pub change_stops : (here : Here) (c : Change) (i : ℕ) (steps : List Step) (s t : State) (v : Tree) (h : Halt) → look here.scope i s ≡ Some v → Stops h (changed c NoValue steps (Some v)) → t ≡ s
    → Halts here.line h t (assigned_at here c i steps s)
change_stops here c i steps s t v (Fault f) is k e = λ n.
    ap (λ o. assigned here i (changed c NoValue steps o) s) is ∙ ap (λ r. assigned here i r s) (k n) ∙ ap (λ u. stops here.line (faulty f) u) (sym e)
change_stops here c i steps s t v Wrong is k e =
    ap (λ o. assigned here i (changed c NoValue steps o) s) is ∙ ap (λ r. assigned here i r s) k ∙ ap (λ u. stops here.line wrong u) (sym e)

-- there is nothing to change
pub none_changes : (here : Here) (c : Change) (i : ℕ) (steps : List Step) (s t : State) → NeedsOld c steps → look here.scope i s ≡ None → t ≡ s → assigned_at here c i steps s ≡ stops here.line (faulty NoValue) t
none_changes here c i steps s t n is e =
    ap (λ o. assigned here i (changed c NoValue steps o) s) is ∙ ap (λ r. assigned here i r s) (nothing_there c NoValue steps n) ∙ ap (λ u. stops here.line (faulty NoValue) u) (sym e)

formal_step : (fs : List HeldFormal) (k : ℕ) (f : HeldFormal) → k < length fs → f ≡ get_or fs k f → drop k fs ≡ f ∷ drop (k + 1) fs
formal_step fs k f l h = drop_step fs k f l h

-- a formal is put back, and then the others
pub puts_back_next : (here : Here) (names : Frame) (fs : List HeldFormal) (k : ℕ) (f : HeldFormal) (s : State) → k < length fs → f ≡ get_or fs k f
    → put_back here (map formal_of (drop k fs)) names s ≡ after (put_one here names (formal_of f) s) (λ _. put_back here (map formal_of (drop (k + 1) fs)) names)
puts_back_next here names fs k f s l h = ap (λ gs. put_back here (map formal_of gs) names s) (formal_step fs k f l h)

put_none : (here : Here) (o : Option (List (Part × Tree))) (s : State) → is_some o ≡ false → put_fields here o s ≡ stops here.line wrong s
put_none here None s h = refl
put_none here (Some ps) s h = absurd (cc)

-- where the fields don't match nothing is put
pub put_lost : (here : Here) (a : Address) (v : Tree) (s : State) → is_some (fielded a v) ≡ false → put here a v s ≡ stops here.line wrong s
put_lost here a v s h = put_none here (fielded a v) s h

put_some : (here : Here) (o : Option (List (Part × Tree))) (s t : State) (r : Result (Unit {0}) Halt) → is_some o ≡ true → Agrees (λ _. tt) here.line r t (put_parts here (unwrap_or o []) s) → Agrees (λ _. tt) here.line r t (put_fields here o s)
put_some here None s t r h k = absurd (cc)
put_some here (Some ps) s t r h k = k

pub put_so : (here : Here) (a : Address) (v : Tree) (s t : State) (r : Result (Unit {0}) Halt) → is_some (fielded a v) ≡ true → Agrees (λ _. tt) here.line r t (put_parts here (fields_at a v) s) → Agrees (λ _. tt) here.line r t (put here a v s)
put_so here a v s t r h k = put_some here (fielded a v) s t r h k
