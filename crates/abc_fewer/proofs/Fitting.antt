-- A unit or command that fits does so on fewer lines, and where calls have other signatures that are allowed, or none.
use Rattle.std.proofs.Common.{◌≡◌, ◌⊎◌, inl, inr, ℕ, ◌≤◌, Bool, true, false, List, [], ◌∷◌, ◌++◌, sym, subst, refl}
use Rattle.std.specs.Prelude.{Option, Some, None, nat_le}
use Rattle.std.specs.List.{Contains}
use Rattle.std.proofs.lemmas.List.Elements.{Contains-append_left, Contains-append_right}
use Rattle.abc_num.specs.declared.types.Ground.{Ground}
use Rattle.abc_tree.specs.Calls.{unit_nodes, command_nodes}
use Rattle.abc_tree.specs.Lined.{Lined, upto}
use Rattle.abc_tree.specs.declared.templates.Template.{Template}
use Rattle.abc_tree.specs.declared.commands.Command.{Command}
use Rattle.abc_tree.specs.declared.commands.Unit.{Unit as Routine}
use Rattle.abc_ground.specs.Seen.{Node, Nodes, node, call, no_nodes, more, nodes, seen_heading, seen_unit, seen_command, unit_upto, command_upto}
use Rattle.abc_ground.specs.Fits.{Signature, Typing, IsGiven, IsAny, CallFits, fits, each_fits}
use Rattle.abc_ground.specs.Calls.{any_allowed, templates, each_templates}
use Rattle.abc_ground.specs.Items.{UnitFits, CommandFits}
use Rattle.abc_ground.proofs.CallsSeen.{unit_is_seen, command_is_seen}
use Rattle.abc_ground.proofs.Heading.{heading_none}
use Rattle.abc_fewer.proofs.Among.{at_first, at_later, no_element}
use Rattle.abc_fewer.proofs.Nodes.{le_less}

-- ---- a call without a signature

given_any : (gives : Bool) (r : Option Ground) (own : List Ground) → IsGiven gives r own → IsAny gives own
given_any true None own h = absurd h
given_any true (Some g) [] h = absurd h
given_any true (Some g) (t ∷ []) h = tt
given_any true (Some g) (t ∷ u ∷ ts) h = absurd h
given_any false None [] h = tt
given_any false None (t ∷ ts) h = absurd h
given_any false (Some g) own h = absurd h

missing_fits : (gives : Bool) (s : Option Signature) (actuals own : List Ground) → CallFits gives s actuals own → CallFits gives None actuals own
missing_fits gives None actuals own h = h
missing_fits gives (Some s) actuals own h = given_any gives s.result own h.1

call_fits : (gives : Bool) (s o : Option Signature) (actuals own : List Ground) → (o ≡ s) ⊎ (o ≡ None) → CallFits gives s actuals own → CallFits gives o actuals own
call_fits gives s o actuals own (inl e) h = subst (λ p. CallFits gives p actuals own) (sym e) h
call_fits gives s o actuals own (inr e) h = subst (λ p. CallFits gives p actuals own) (sym e) (missing_fits gives s actuals own h)

-- ---- on fewer lines

split_none : (one rest : List Ground) → [] ≡ one ++ rest → (one ≡ []) × (rest ≡ [])
split_none [] [] e = (refl, refl)
split_none [] (t ∷ ts) e = absurd (cc)
split_none (t ∷ ts) rest e = absurd (cc)

module _ (A : Template → Option Signature → Type 0) (g : Typing) where
  -- nodes on lines up to n have no types
  abbrev Fit : ℕ → Lined Node → Type 0
  Fit n xs = each_fits (any_allowed A) g (nodes (upto n xs)) [] tt tt

  -- the first of several, and the others
  first_fits : (x : Node) (n : ℕ) (xs : Lined Node) → each_fits (any_allowed A) g (nodes (x ∷ upto n xs)) [] tt tt → fits (any_allowed A) g x [] tt tt
  first_fits x n xs f = subst (λ ts. fits (any_allowed A) g x ts tt tt) (split_none f.0 f.1 f.3).0 f.4

  rest_fits : (x : Node) (n : ℕ) (xs : Lined Node) → each_fits (any_allowed A) g (nodes (x ∷ upto n xs)) [] tt tt → Fit n xs
  rest_fits x n xs f = subst (λ ts. each_fits (any_allowed A) g (nodes (upto n xs)) ts tt tt) (split_none f.0 f.1 f.3).1 f.5

  fewer_fit : (m n : ℕ) → m ≤ n → (xs : Lined Node) → Fit n xs → Fit m xs
  fewer_fit m n le [] h = h
  fewer_fit m n le (x ∷ xs) h = by_tests (nat_le x.0 m) (nat_le x.0 n) refl refl (fewer_fit m n le xs)
    where
      by_tests : (a b : Bool) → nat_le x.0 m ≡ a → nat_le x.0 n ≡ b → (Fit n xs → Fit m xs) → Fit m (x ∷ xs)
      by_tests true false p q rest = absurd (le_less x.0 m n le p q)
      by_tests false false p q rest =
          let f : Fit n xs = rw q at h in
          rw p (rest f)
      by_tests false true p q rest =
          let f : each_fits (any_allowed A) g (nodes (x.1 ∷ upto n xs)) [] tt tt = rw q at h in
          rw p (rest (rest_fits x.1 n xs f))
      by_tests true true p q rest =
          let f : each_fits (any_allowed A) g (nodes (x.1 ∷ upto n xs)) [] tt tt = rw q at h in
          rw p ([], [], tt, refl, first_fits x.1 n xs f, rest (rest_fits x.1 n xs f))

-- ---- at other signatures

module _ (A B : Template → Option Signature → Type 0) where
  -- where the first allows a signature, the second allows it too, or none
  abbrev pub Gives : Template → Option Signature → Type 0
  Gives t s = (o : Option Signature) × B t o × ((o ≡ s) ⊎ (o ≡ None))

  abbrev pub AllGive : List Template → Type 0
  AllGive ts = (t : Template) → Contains ts t → (s : Option Signature) → A t s → Gives t s

  none_gives : AllGive []
  none_gives t at s a = absurd (no_element t at)

  mutual
    node_turns : (g : Typing) (x : Node) (own : List Ground) → AllGive (templates x) → fits (any_allowed A) g x own tt tt → fits (any_allowed B) g x own tt tt
    node_turns g (node r xs) own f h = (h.0, each_turns g xs h.0 f h.1, h.2)
    node_turns g (call gives t front back) own f h =
        let r : Gives t h.2 = f t (Contains-append_right (each_templates front) (t ∷ each_templates back) t (at_first t t (each_templates back) refl)) h.2 h.6 in (
          h.0,
          h.1,
          r.0,
          tt,
          tt,
          each_turns g front h.0 (λ u at. f u (Contains-append_left (each_templates front) (t ∷ each_templates back) u at)) h.5,
          r.1,
          each_turns g back h.1 (λ u at. f u (Contains-append_right (each_templates front) (t ∷ each_templates back) u (at_later t (each_templates back) u at))) h.7,
          call_fits gives h.2 r.0 (h.0 ++ h.1) own r.2 h.8,
        )

    each_turns : (g : Typing) (xs : Nodes) (own : List Ground) → AllGive (each_templates xs) → each_fits (any_allowed A) g xs own tt tt → each_fits (any_allowed B) g xs own tt tt
    each_turns g no_nodes own f h = (h.0, refl)
    each_turns g (more x xs) own f h = (
      h.0,
      h.1,
      tt,
      h.3,
      node_turns g x h.0 (λ u at. f u (Contains-append_left (templates x) (each_templates xs) u at)) h.4,
      each_turns g xs h.1 (λ u at. f u (Contains-append_right (templates x) (each_templates xs) u at)) h.5,
    )

  pub unit_turns : (targets : List ℕ → Ground) (m n : ℕ) → m ≤ n → (unit : Routine) (g : Typing) (s : Signature) → AllGive (unit_nodes m unit) → UnitFits (any_allowed A) targets n unit g s tt tt → UnitFits (any_allowed B) targets m unit g s tt tt
  unit_turns targets m n le unit g s f h = record {
    names = h.names;
    shared = h.shared;
    formals = each_turns g (nodes (seen_heading unit)) s.formals (subst AllGive (sym (heading_none unit)) none_gives) h.formals;
    result = h.result;
    kind_of = h.kind_of;
    body = each_turns g (unit_upto m unit) [] (subst AllGive (sym (unit_is_seen m unit)) f) (fewer_fit A g m n le (seen_unit unit) h.body);
  }

  pub command_turns : (targets : List ℕ → Ground) (m n : ℕ) → m ≤ n → (c : Command) (g : Typing) → AllGive (command_nodes m c) → CommandFits (any_allowed A) targets n c g tt tt → CommandFits (any_allowed B) targets m c g tt tt
  command_turns targets m n le c g f h = record {
    names = h.names;
    targets_are = h.targets_are;
    result = h.result;
    body = each_turns g (command_upto m c) [] (subst AllGive (sym (command_is_seen m c)) f) (fewer_fit A g m n le (seen_command c) h.body);
  }
