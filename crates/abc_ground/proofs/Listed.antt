-- A tree fits at allowed signatures exactly where it fits at a list of such.
use Rattle.std.proofs.Common.{◌≡◌, ◌∙◌, List, [], ◌∷◌, ◌++◌, ap, sym, subst, refl, append_assoc}
use Rattle.std.specs.Prelude.{Option}
use Rattle.abc_num.specs.declared.types.Ground.{Ground}
use Rattle.abc_tree.specs.declared.templates.Template.{Template}
use Rattle.abc_ground.specs.Seen.{Node, Nodes, node, call, no_nodes, more}
use Rattle.abc_ground.specs.Fits.{Signature, Typing, fits, each_fits}
use Rattle.abc_ground.specs.Calls.{templates, each_templates, next_of, any_allowed, AreAllowed}

abbrev pub Sigs : Type 0
Sigs = List (Option Signature)

module _ (allowed : Template → Option Signature → Type 0) where
  both_allowed : (ts us : List Template) (ss vs : Sigs) → AreAllowed allowed ts ss → AreAllowed allowed us vs → AreAllowed allowed (ts ++ us) (ss ++ vs)
  both_allowed [] us [] vs a b = b
  both_allowed [] us (s ∷ ss) vs a b = absurd a
  both_allowed (t ∷ ts) us [] vs a b = absurd a
  both_allowed (t ∷ ts) us (s ∷ ss) vs a b = (a.0, both_allowed ts us ss vs a.1 b)

  -- a list that a tree uses has a signature for each call
  abbrev pub Used : List Template → Sigs → Type 0
  Used [] [] = Unit {0}
  Used (t ∷ ts) (s ∷ ss) = Used ts ss
  Used _ _ = ⊥

  both_used : (ts us : List Template) (ss vs : Sigs) → Used ts ss → Used us vs → Used (ts ++ us) (ss ++ vs)
  both_used [] us [] vs a b = b
  both_used [] us (s ∷ ss) vs a b = absurd a
  both_used (t ∷ ts) us [] vs a b = absurd a
  both_used (t ∷ ts) us (s ∷ ss) vs a b = both_used ts us ss vs a b

  first_allowed : (ts us : List Template) (ss vs : Sigs) → Used ts ss → AreAllowed allowed (ts ++ us) (ss ++ vs) → AreAllowed allowed ts ss
  first_allowed [] us [] vs u a = tt
  first_allowed [] us (s ∷ ss) vs u a = absurd u
  first_allowed (t ∷ ts) us [] vs u a = absurd u
  first_allowed (t ∷ ts) us (s ∷ ss) vs u a = (a.0, first_allowed ts us ss vs u a.1)

  rest_allowed : (ts us : List Template) (ss vs : Sigs) → Used ts ss → AreAllowed allowed (ts ++ us) (ss ++ vs) → AreAllowed allowed us vs
  rest_allowed [] us [] vs u a = a
  rest_allowed [] us (s ∷ ss) vs u a = absurd u
  rest_allowed (t ∷ ts) us [] vs u a = absurd u
  rest_allowed (t ∷ ts) us (s ∷ ss) vs u a = rest_allowed ts us ss vs u a.1

  -- from what is allowed to a list
  abbrev pub Lists : Typing → Node → List Ground → Type 0
  Lists g x own = (ss : Sigs) × AreAllowed allowed (templates x) ss × ((rest : Sigs) → fits next_of g x own (ss ++ rest) rest)

  abbrev pub EachLists : Typing → Nodes → List Ground → Type 0
  EachLists g xs own = (ss : Sigs) × AreAllowed allowed (each_templates xs) ss × ((rest : Sigs) → each_fits next_of g xs own (ss ++ rest) rest)

  mutual
    pub listed : (g : Typing) (x : Node) (own : List Ground) → fits (any_allowed allowed) g x own tt tt → Lists g x own
    listed g (node r xs) own h =
        let l : EachLists g xs h.0 = each_listed g xs h.0 h.1 in
        (l.0, l.1, λ rest. (h.0, l.2 rest, h.2))
    listed g (call gives t front back) own h =
        let f : EachLists g front h.0 = each_listed g front h.0 h.5 in
        let b : EachLists g back h.1 = each_listed g back h.1 h.7 in (
          f.0 ++ h.2 ∷ b.0,
          both_allowed (each_templates front) (t ∷ each_templates back) f.0 (h.2 ∷ b.0) f.1 (h.6, b.1),
          λ rest. (h.0, h.1, h.2, h.2 ∷ (b.0 ++ rest), b.0 ++ rest, subst (λ ss. each_fits next_of g front h.0 ss (h.2 ∷ (b.0 ++ rest))) (sym (append_assoc f.0 (h.2 ∷ b.0) rest)) (f.2 (h.2 ∷ (b.0 ++ rest))), refl, b.2 rest, h.8),
        )

    pub each_listed : (g : Typing) (xs : Nodes) (own : List Ground) → each_fits (any_allowed allowed) g xs own tt tt → EachLists g xs own
    each_listed g no_nodes own h = ([], tt, λ rest. (h.0, refl))
    each_listed g (more x xs) own h =
        let f : Lists g x h.0 = listed g x h.0 h.4 in
        let b : EachLists g xs h.1 = each_listed g xs h.1 h.5 in (
          f.0 ++ b.0,
          both_allowed (templates x) (each_templates xs) f.0 b.0 f.1 b.1,
          λ rest. (h.0, h.1, b.0 ++ rest, h.3, subst (λ ss. fits next_of g x h.0 ss (b.0 ++ rest)) (sym (append_assoc f.0 b.0 rest)) (f.2 (b.0 ++ rest)), b.2 rest),
        )

  -- and back
  abbrev pub Takes : Typing → Node → List Ground → Sigs → Sigs → Type 0
  Takes g x own before after = (ss : Sigs) × (before ≡ ss ++ after) × Used (templates x) ss × (AreAllowed allowed (templates x) ss → fits (any_allowed allowed) g x own tt tt)

  abbrev pub EachTakes : Typing → Nodes → List Ground → Sigs → Sigs → Type 0
  EachTakes g xs own before after = (ss : Sigs) × (before ≡ ss ++ after) × Used (each_templates xs) ss × (AreAllowed allowed (each_templates xs) ss → each_fits (any_allowed allowed) g xs own tt tt)

  mutual
    pub taken : (g : Typing) (x : Node) (own : List Ground) (before after : Sigs) → fits next_of g x own before after → Takes g x own before after
    taken g (node r xs) own before after h =
        let l : EachTakes g xs h.0 before after = each_taken g xs h.0 before after h.1 in
        (l.0, l.1, l.2, λ a. (h.0, l.3 a, h.2))
    taken g (call gives t front back) own before after h =
        let f : EachTakes g front h.0 before h.3 = each_taken g front h.0 before h.3 h.5 in
        let b : EachTakes g back h.1 h.4 after = each_taken g back h.1 h.4 after h.7 in (
          f.0 ++ h.2 ∷ b.0,
          f.1 ∙ (ap (λ ss. f.0 ++ ss) (h.6 ∙ ap (λ ss. h.2 ∷ ss) b.1) ∙ sym (append_assoc f.0 (h.2 ∷ b.0) after)),
          both_used (each_templates front) (t ∷ each_templates back) f.0 (h.2 ∷ b.0) f.2 b.2,
          λ a.
              let c : AreAllowed allowed (t ∷ each_templates back) (h.2 ∷ b.0) = rest_allowed (each_templates front) (t ∷ each_templates back) f.0 (h.2 ∷ b.0) f.2 a in
              (h.0, h.1, h.2, tt, tt, f.3 (first_allowed (each_templates front) (t ∷ each_templates back) f.0 (h.2 ∷ b.0) f.2 a), c.0, b.3 c.1, h.8),
        )

    pub each_taken : (g : Typing) (xs : Nodes) (own : List Ground) (before after : Sigs) → each_fits next_of g xs own before after → EachTakes g xs own before after
    each_taken g no_nodes own before after h = ([], h.1, tt, λ a. (h.0, refl))
    each_taken g (more x xs) own before after h =
        let f : Takes g x h.0 before h.2 = taken g x h.0 before h.2 h.4 in
        let b : EachTakes g xs h.1 h.2 after = each_taken g xs h.1 h.2 after h.5 in (
          f.0 ++ b.0,
          f.1 ∙ (ap (λ ss. f.0 ++ ss) b.1 ∙ sym (append_assoc f.0 b.0 after)),
          both_used (templates x) (each_templates xs) f.0 b.0 f.2 b.2,
          λ a. (h.0, h.1, tt, h.3, f.3 (first_allowed (templates x) (each_templates xs) f.0 b.0 f.2 a), b.3 (rest_allowed (templates x) (each_templates xs) f.0 b.0 f.2 a)),
        )
