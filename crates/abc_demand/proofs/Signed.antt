-- What nodes leave of a list of signatures.
use Rattle.std.proofs.Common.{◌≡◌, ◌∙◌, ℕ, zero, suc, ◌+◌, List, [], ◌∷◌, ◌++◌, length, drop, ap, sym, refl, arith}
use Rattle.std.specs.Prelude.{Option}
use Rattle.abc_num.specs.declared.types.Ground.{Ground}
use Rattle.abc_tree.specs.declared.templates.Template.{Template}
use Rattle.abc_ground.specs.Seen.{Nodes}
use Rattle.abc_ground.specs.Fits.{Signature, Typing, each_fits}
use Rattle.abc_ground.specs.Calls.{each_templates, next_of}
use Rattle.abc_ground.proofs.Listed.{EachTakes, Used, each_taken}

abbrev pub Sigs : Type 0
Sigs = List (Option Signature)

abbrev free : Template → Option Signature → Type 0
free t s = Unit {0}

used_length : (ts : List Template) (ss : Sigs) → Used free ts ss → length ss ≡ length ts
used_length [] [] u = refl
used_length [] (s ∷ ss) u = absurd u
used_length (t ∷ ts) [] u = absurd u
used_length (t ∷ ts) (s ∷ ss) u = ap suc (used_length ts ss u)

drop_front : (ss after : Sigs) → drop (length ss) (ss ++ after) ≡ after
drop_front [] after = refl
drop_front (s ∷ ss) after = drop_front ss after

drop_none : (n : ℕ) → drop {A = Option Signature} n [] ≡ []
drop_none zero = refl
drop_none (suc n) = refl

drop_more : (l : Sigs) (i j : ℕ) → drop j (drop i l) ≡ drop (i + j) l
drop_more l zero j = let e : j ≡ 0 + j = omega arith in ap (λ n. drop n l) e
drop_more [] (suc i) j = ap (drop j) (drop_none (suc i)) ∙ (drop_none j ∙ sym (drop_none (suc i + j)))
drop_more (s ∷ l) (suc i) j = let e : suc (i + j) ≡ suc i + j = omega arith in drop_more l i j ∙ ap (λ n. drop n (s ∷ l)) e

-- what nodes leave of the signatures
pub nodes_leave : (g : Typing) (xs : Nodes) (own : List Ground) (l rest : Sigs) (i : ℕ) → each_fits next_of g xs own (drop i l) rest → rest ≡ drop (i + length (each_templates xs)) l
nodes_leave g xs own l rest i h =
    let t : EachTakes free g xs own (drop i l) rest = each_taken free g xs own (drop i l) rest h in
    sym (drop_front t.0 rest) ∙ (ap (drop (length t.0)) (sym t.1) ∙ (ap (λ n. drop n (drop i l)) (used_length (each_templates xs) t.0 t.2) ∙ drop_more l i (length (each_templates xs))))
