-- One unit more of those that a loop went over.
use Rattle.std.proofs.Common.{◌≡◌, ◌∙◌, ◌<◌, ◌+◌, ◌++◌, ℕ, List, [], ◌∷◌, length, take, get_or, ap, sym, subst}
use Rattle.std.specs.Prelude.{Some}
use Rattle.std.proofs.lemmas.List.{map-append, take_more}
use Rattle.abc_tree.specs.declared.templates.Template.{Template}
use Rattle.abc_ground.specs.Groups.{Cut, cut_of}
use Rattle.abc_principal.specs.declared.member.Member.{Member}
use Rattle.abc_principal.specs.Exact.{cut_in, cuts_of}
use Rattle.abc_check.specs.inner.Groupwise.{AreFound}

pub next_taken : {X : Type 0} (xs : List X) (i : ℕ) (x : X) → i < length xs → x ≡ get_or xs i x → take i xs ++ x ∷ [] ≡ take (i + 1) xs
next_taken xs i x h at = sym (take_more xs i x h ∙ ap (λ y. take i xs ++ y ∷ []) (sym at))

cuts_more : (ms : List Member) (m : Member) → cuts_of (ms ++ m ∷ []) ≡ cuts_of ms ++ cut_in m ∷ []
cuts_more ms m = map-append cut_in ms (m ∷ [])

found_last : (w : List Cut) (ts : List Template) (cs : List Cut) (t : Template) (c : Cut) → AreFound w ts cs → cut_of t w ≡ Some c → AreFound w (ts ++ t ∷ []) (cs ++ c ∷ [])
found_last w [] [] t c f is = (is, tt)
found_last w [] (d ∷ cs) t c f is = absurd f
found_last w (u ∷ ts) [] t c f is = absurd f
found_last w (u ∷ ts) (d ∷ cs) t c f is = (f.0, found_last w ts cs t c f.1 is)

pub found_more : (w : List Cut) (ts : List Template) (i : ℕ) (t : Template) (ms : List Member) (m : Member) → i < length ts → t ≡ get_or ts i t → AreFound w (take i ts) (cuts_of ms) → cut_of t w ≡ Some (cut_in m)
    → AreFound w (take (i + 1) ts) (cuts_of (ms ++ m ∷ []))
found_more w ts i t ms m h at f is =
    subst (λ us. AreFound w us (cuts_of (ms ++ m ∷ []))) (next_taken ts i t h at) (subst (λ cs. AreFound w (take i ts ++ t ∷ []) cs) (sym (cuts_more ms m)) (found_last w (take i ts) (cuts_of ms) t (cut_in m) f is))
