-- Units that are called: at which signatures they fit, and that each that is reached is there.
use Rattle.std.proofs.Common.{◌≡◌, ◌∙◌, refl, sym, subst, ℕ, zero, suc, Bool, true, false, List, [], ◌∷◌, ◌++◌, map, length, Option, Some, None, ◌⊎◌, inl, inr, arith}
use Rattle.std.specs.Prelude.{nat_le, option_map, IsSome, cond}
use Rattle.std.specs.List.{AllByRecursion, Contains, filter}
use Rattle.std.specs.Ordering.{match_ordering}
use Rattle.std.specs.declared.cmp.Ordering.{Ordering}
use Rattle.std.specs.declared.cmp.Ordering.TheVariants.{Less, Equal, Greater}
use Rattle.abc_num.specs.Text.{text_cmp}
use Rattle.abc_num.specs.declared.types.Ground.{Ground}
use Rattle.abc_frames.proofs.Merging.{texts_same}
use Rattle.abc_tree.specs.Calls.{Calls, with_call, with_calls, calls_in_unit, calls_in_action, called_upto, command_called_upto}
use Rattle.abc_tree.specs.Lined.{Lined, upto}
use Rattle.abc_tree.specs.Templates.{template_text, template_cmp}
use Rattle.abc_tree.specs.Units.{unit_of}
use Rattle.abc_tree.specs.declared.templates.Template.{Template}
use Rattle.abc_tree.specs.declared.commands.Command.{Command}
use Rattle.abc_tree.specs.declared.commands.Unit.{Unit as Routine}
use Rattle.abc_ground.specs.Seen.{Node, Nodes, node, call, no_nodes, more, nodes}
use Rattle.abc_ground.specs.Fits.{Signature, Typing, fits, each_fits}
use Rattle.abc_ground.specs.Calls.{any_allowed}
use Rattle.abc_ground.specs.Items.{UnitFits, CommandFits}
use Rattle.abc_ground.specs.Groups.{Cut, whole, cut_of, called, Way, LeadsTo, AreTogether}
use Rattle.abc_ground.specs.Typable.{IsUsed, IsOffered, FitsAt, MayWithin, May}
use Rattle.abc_sound.specs.Checked.{ReachesNoMissing}
use Rattle.abc_sound.proofs.Leaving.{Sure, sure, in_either_case}
use Rattle.abc_sound.proofs.Commands.{InLines}
use Rattle.abc_sound.proofs.Expressions.{NodeFits, NodesFit}

-- ---- trees that fit, where their calls may use more

module _ (A B : Template → Option Signature → Type 0) (more_used : (t : Template) (o : Option Signature) → A t o → B t o) where
  mutual
    node_more : (g : Typing) (x : Node) (own : List Ground) → fits (any_allowed A) g x own tt tt → fits (any_allowed B) g x own tt tt
    node_more g (node r xs) own h = (h.0, nodes_more g xs h.0 h.1, h.2)
    node_more g (call gives t front back) own h = (h.0, h.1, h.2, tt, tt, nodes_more g front h.0 h.5, more_used t h.2 h.6, nodes_more g back h.1 h.7, h.8)

    nodes_more : (g : Typing) (xs : Nodes) (own : List Ground) → each_fits (any_allowed A) g xs own tt tt → each_fits (any_allowed B) g xs own tt tt
    nodes_more g no_nodes own h = h
    nodes_more g (more x xs) own h = (h.0, h.1, tt, h.3, node_more g x h.0 h.4, nodes_more g xs h.1 h.5)

  unit_more : (types : List ℕ → Ground) (n : ℕ) (u : Routine) (g : Typing) (s : Signature) → UnitFits (any_allowed A) types n u g s tt tt → UnitFits (any_allowed B) types n u g s tt tt
  unit_more types n u g s h =
      record { names = h.names; shared = h.shared; formals = nodes_more g _ s.formals h.formals; result = h.result; kind_of = h.kind_of; body = nodes_more g _ [] h.body }

  pub command_more : (types : List ℕ → Ground) (n : ℕ) (c : Command) (g : Typing) → CommandFits (any_allowed A) types n c g tt tt → CommandFits (any_allowed B) types n c g tt tt
  command_more types n c g h = record { names = h.names; targets_are = h.targets_are; result = h.result; body = nodes_more g _ [] h.body }

-- ---- units that lead to each other

-- a template is known by its text
cut_same : (w : List Cut) (a b : Template) → template_text a ≡ template_text b → cut_of a w ≡ cut_of b w
cut_same [] a b e = refl
cut_same (x ∷ w) a b e = λ i. match_ordering (text_cmp (template_text x.unit.template) (e i)) (cut_same w a b e i) (Some x) None

module _ (w : List Cut) where
  way_from : (n : ℕ) (a b c : Template) → template_text a ≡ template_text b → Way w n b c → Way w n a c
  way_from zero a b c e h = e ∙ h
  way_from (suc n) a b c e h = (h.0, subst (λ o. Contains (called o) h.0) (sym (cut_same w a b e)) h.1, h.2)

  way_then : (n : ℕ) (a b : Template) (m : ℕ) (c : Template) → Way w n a b → Way w m b c → LeadsTo w a c
  way_then zero a b m c h k = (m, way_from m a b c h k)
  way_then (suc n) a b m c h k = let r = way_then n h.0 b m c h.2 k in (suc r.0, (h.0, h.1, r.1))

  leads_then : (a b c : Template) → LeadsTo w a b → LeadsTo w b c → LeadsTo w a c
  leads_then a b c h k = way_then h.0 a b k.0 c h.1 k.1

  -- itself
  leads_here : (a : Template) → LeadsTo w a a
  leads_here a = (zero, refl)

  together_then : (a b c : Template) → AreTogether w a b → AreTogether w b c → AreTogether w a c
  together_then a b c h k = (leads_then a b c h.0 k.0, leads_then c b a k.1 h.1)

  together_back : (a b : Template) → AreTogether w a b → AreTogether w b a
  together_back a b h = (h.1, h.0)

  module _ (types : List ℕ → Ground) where
    -- the call of a unit that is there is at a signature that the unit may have
    abbrev pub Allowed : Template → Option Signature → Type 0
    Allowed t o = IsSome (cut_of t w) → Sure ((s : Signature) × (o ≡ Some s) × May w types t s)

    -- the unit is there, and each that it leads to
    abbrev pub Present : Template → Type 0
    Present t = (u : Template) → LeadsTo w t u → IsSome (cut_of u w)

    pub offered_allowed : (t : Template) (o : Option Signature) → IsOffered w types t o → Allowed t o
    offered_allowed t o h there = sure (h.there there)

    -- the signatures of a group are used from each of its members alike
    module _ (member : Template → Signature) (n : ℕ) where
      abbrev Uses : Template → Template → Option Signature → Type 0
      Uses home t o = IsUsed w home member (λ u g. MayWithin w types n u g) t o

      moved : (home other : Template) → AreTogether w home other → (t : Template) (o : Option Signature) → Uses home t o → Uses other t o
      moved home other is t o h =
          record { missing = h.missing; inside = λ there k. h.inside there (together_then home other t is k); outside = λ there no. h.outside there (λ k. no (together_then other home t (together_back home other is) k)) }

      abbrev GroupFits : Template → Type 0
      GroupFits home = (m : Template) (c : Cut) → AreTogether w home m → cut_of m w ≡ Some c → FitsAt w types (λ u o. Uses home u o) c (member m)

      -- what the group says of one member it says of each
      group_moved : (home other : Template) → AreTogether w home other → GroupFits home → GroupFits other
      group_moved home other is h m c k e =
          let f = h m c (together_then home other m is k) e in
          (f.0, (f.1.0, unit_more (λ u o. Uses home u o) (λ u o. Uses other u o) (moved home other is) types c.lines c.unit f.1.0 (member m) f.1.1))

      used_allowed : (home : Template) → GroupFits home → (t : Template) (o : Option Signature) → Uses home t o → Allowed t o
      used_allowed home all t o h there =
          in_either_case (AreTogether w home t) ((s : Signature) × (o ≡ Some s) × May w types t s)
          (λ is. sure (member t, h.inside there is, (suc n, (there, (member, refl, group_moved home t is all)))))
          (λ no. let u = h.outside there no in sure (u.0, u.1, (n, u.2)))

    -- a unit fits at each signature that it may have, its calls at such signatures
    pub may_fits : (t : Template) (s : Signature) (c : Cut) → May w types t s → cut_of t w ≡ Some c → (g : Typing) × UnitFits (any_allowed Allowed) types c.lines c.unit g s tt tt
    may_fits t s c h e = by h.0 h.1
      where
        by : (n : ℕ) → MayWithin w types n t s → (g : Typing) × UnitFits (any_allowed Allowed) types c.lines c.unit g s tt tt
        by zero k = absurd k
        by (suc n) k =
            let member : Template → Signature = k.1.0 in
            let f = k.1.2 t c (leads_here t, leads_here t) e in (
              f.1.0,
              unit_more (λ u o. Uses member n t u o) Allowed (used_allowed member n t k.1.2) types c.lines c.unit f.1.0 s
                  (subst (λ s. UnitFits (any_allowed (λ u o. Uses member n t u o)) types c.lines c.unit f.1.0 s tt tt) k.1.1 f.1.1),
            )

-- ---- templates in a list

abbrev IsIn : Template → Calls → Type 0
IsIn u [] = ⊥
IsIn u (x ∷ xs) = (template_text x ≡ template_text u) ⊎ IsIn u xs

in_placed : (u c : Template) (xs : Calls) → IsIn u xs → IsIn u (with_call c xs)
in_placed u c [] h = absurd h
in_placed u c (x ∷ xs) h = by (template_cmp x c) (λ k. in_placed u c xs k) h
  where
    by : (o : Ordering) → (IsIn u xs → IsIn u (with_call c xs)) → IsIn u (x ∷ xs) → IsIn u (match_ordering o (x ∷ with_call c xs) (x ∷ xs) (c ∷ x ∷ xs))
    by Less rest (inl e) = inl e
    by Less rest (inr k) = inr (rest k)
    by Equal rest h = h
    by Greater rest h = inr h

new_placed : (c : Template) (xs : Calls) → IsIn c (with_call c xs)
new_placed c [] = inl refl
new_placed c (x ∷ xs) = by (template_cmp x c) refl (new_placed c xs)
  where
    by : (o : Ordering) → template_cmp x c ≡ o → IsIn c (with_call c xs) → IsIn c (match_ordering o (x ∷ with_call c xs) (x ∷ xs) (c ∷ x ∷ xs))
    by Less e k = inr k
    by Equal e k = inl (texts_same (template_text x) (template_text c) e)
    by Greater e k = inl refl

in_all : (u : Template) (found cs : Calls) → IsIn u found → IsIn u (with_calls found cs)
in_all u found [] h = h
in_all u found (c ∷ cs) h = in_all u (with_call c found) cs (in_placed u c found h)

each_in : (found cs : Calls) → AllByRecursion (λ u. IsIn u (with_calls found cs)) cs
each_in found [] = tt
each_in found (c ∷ cs) = (in_all c (with_call c found) cs (new_placed c found), each_in (with_call c found) cs)

-- one that is written alike
contained : (u : Template) (xs : Calls) → IsIn u xs → (d : Template) × Contains xs d × (template_text d ≡ template_text u)
contained u [] h = absurd h
contained u (x ∷ xs) (inl e) = (x, (0, omega arith, refl), e)
contained u (x ∷ xs) (inr h) = let k = contained u xs h in (k.0, (suc k.1.0, omega (arith, k.1.1), k.1.2), k.2)

all_of : {X : Type 0} (P Q : X → Type 0) (xs : List X) → ((x : X) → P x → Q x) → AllByRecursion P xs → AllByRecursion Q xs
all_of P Q [] f h = tt
all_of P Q (x ∷ xs) f h = (f x h.0, all_of P Q xs f h.1)

-- those on lines up to n
in_lines_of : {X : Type 0} (n : ℕ) (P : X → Type 0) (xs : Lined X) → AllByRecursion P (upto n xs) → InLines n P xs
in_lines_of n P [] h = tt
in_lines_of n P (x ∷ xs) h = by (nat_le x.0 n) refl (λ k. in_lines_of n P xs k) h
  where
    by : (b : Bool) → nat_le x.0 n ≡ b → (AllByRecursion P (upto n xs) → InLines n P xs) → AllByRecursion P (map (λ y. y.1) (cond b (x ∷ filter (λ y. nat_le y.0 n) xs) (filter (λ y. nat_le y.0 n) xs))) → InLines n P (x ∷ xs)
    by true e rest h = (λ _. h.0, rest h.1)
    by false e rest h = (λ is. absurd (differ (sym is ∙ e)), rest h)
      where
        differ : true ≡ false → ⊥
        differ e = cc

nothing_of : (xs ys : List Ground) → [] ≡ xs ++ ys → (xs ≡ []) × (ys ≡ [])
nothing_of [] ys e = (refl, sym e)
nothing_of (x ∷ xs) ys e = absurd (cc)

-- each node of a list that fits no type
pub nodes_bare : (allowed : Template → Option Signature → Type 0) (g : Typing) (xs : List Node) → NodesFit allowed g (nodes xs) [] → AllByRecursion (λ x. NodeFits allowed g x []) xs
nodes_bare allowed g [] h = tt
nodes_bare allowed g (x ∷ xs) h =
    let e = nothing_of h.0 h.1 h.3 in
    (subst (λ ts. NodeFits allowed g x ts) e.0 h.4, nodes_bare allowed g xs (subst (λ ts. NodesFit allowed g (nodes xs) ts) e.1 h.5))

pub lines_fit : (allowed : Template → Option Signature → Type 0) (g : Typing) (n : ℕ) (xs : Lined Node) → NodesFit allowed g (nodes (upto n xs)) [] → InLines n (λ x. NodeFits allowed g x []) xs
lines_fit allowed g n xs h = in_lines_of n (λ x. NodeFits allowed g x []) xs (nodes_bare allowed g (upto n xs) h)

module _ (w : List Cut) (types : List ℕ → Ground) where
  -- what is called from a unit that is there, with all that it leads to, is so too
  pub calls_present : (t : Template) (c : Cut) → Present w types t → cut_of t w ≡ Some c → InLines c.lines (Present w types) (calls_in_unit c.unit)
  calls_present t c h e = in_lines_of c.lines (Present w types) (calls_in_unit c.unit) (all_of _ (Present w types) (upto c.lines (calls_in_unit c.unit)) one (each_in [] (upto c.lines (calls_in_unit c.unit))))
    where
      one : (u : Template) → IsIn u (called_upto c.lines c.unit) → Present w types u
      one u k v l =
          let d = contained u (called_upto c.lines c.unit) k in
          h v (suc l.0, (d.0, subst (λ o. Contains (called o) d.0) (sym e) d.1, way_from w l.0 d.0 u v d.2 l.1))

  pub command_present : (c : Command) (n : ℕ) → ReachesNoMissing w c n → InLines n (Present w types) (calls_in_action c.action)
  command_present c n h = in_lines_of n (Present w types) (calls_in_action c.action) (all_of _ (Present w types) (upto n (calls_in_action c.action)) one (each_in [] (upto n (calls_in_action c.action))))
    where
      one : (u : Template) → IsIn u (command_called_upto n c) → Present w types u
      one u k v l =
          let d = contained u (command_called_upto n c) k in
          h d.0 v d.1 (l.0, way_from w l.0 d.0 u v d.2 l.1)

-- ---- units by their templates

-- a unit whose lines all count
abbrev pub cut : Routine → Cut
cut u = record { unit = u; lines = length u.lines }

pub cut_is : (units : List Routine) (t : Template) → cut_of t (whole units) ≡ option_map cut (unit_of t units)
cut_is [] t = refl
cut_is (u ∷ units) t = by (template_cmp u.template t) (cut_is units t)
  where
    by : (o : Ordering) → cut_of t (whole units) ≡ option_map cut (unit_of t units) → match_ordering o (cut_of t (whole units)) (Some (cut u)) None ≡ option_map cut (match_ordering o (unit_of t units) (Some u) None)
    by Less rest = rest
    by Equal rest = refl
    by Greater rest = refl

pub unit_has : (P : Routine → Type 0) (units : List Routine) (t : Template) (u : Routine) → AllByRecursion P units → unit_of t units ≡ Some u → P u × (template_text u.template ≡ template_text t)
unit_has P [] t u h e = absurd (cc)
unit_has P (x ∷ units) t u h e = by (template_cmp x.template t) refl (λ k. unit_has P units t u h.1 k) e
  where
    found : (y : Routine) → P y → template_text y.template ≡ template_text t → Some y ≡ Some u → P u × (template_text u.template ≡ template_text t)
    found y p q e = let same : y ≡ u = cc in (subst P same p, subst (λ z. template_text z.template ≡ template_text t) same q)

    by : (o : Ordering) → template_cmp x.template t ≡ o → (unit_of t units ≡ Some u → P u × (template_text u.template ≡ template_text t)) → match_ordering o (unit_of t units) (Some x) None ≡ Some u → P u × (template_text u.template ≡ template_text t)
    by Less is rest e = rest e
    by Equal is rest e = found x h.0 (texts_same (template_text x.template) (template_text t) is) e
    by Greater is rest e = absurd (cc)
