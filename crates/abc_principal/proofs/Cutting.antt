-- Units by their templates: what is found, and what is together.
use Rattle.std.proofs.Common.{◌≡◌, ◌∙◌, refl, ap, sym, subst, ℕ, zero, suc, Bool, true, false, List, [], ◌∷◌, map, length, Option, Some, None, is_some, ◌⊎◌, inl, inr, arith}
use Rattle.std.specs.Prelude.{IsSome, if◌then◌else◌}
use Rattle.std.specs.List.{AllByRecursion, Contains}
use Rattle.std.specs.Ordering.{match_ordering}
use Rattle.std.specs.declared.cmp.Ordering.{Ordering}
use Rattle.std.specs.declared.cmp.Ordering.TheVariants.{Less, Equal, Greater}
use Rattle.std.specs.Cmp.Lexicographic.{nat_list_cmp_total}
use Rattle.std.proofs.lemmas.Cmp.{tied_itself}
use Rattle.std.proofs.lemmas.Map.Lookups.{exact_bytes}
use Rattle.std.proofs.lemmas.List.Elements.{All-contains, All-from_recursion}
use Rattle.abc_num.specs.Text.{text_cmp}
use Rattle.abc_tree.specs.Ordered.{RiseBy}
use Rattle.abc_tree.specs.Templates.{template_text, template_cmp}
use Rattle.abc_tree.specs.declared.templates.Template.{Template}
use Rattle.abc_ground.specs.Fits.{Signature}
use Rattle.abc_ground.specs.Groups.{Cut, cut_of, template_of, called, Way, LeadsTo, AreTogether}
use Rattle.abc_principal.specs.inner.Grouped.{Each}
use Rattle.abc_principal.specs.Calls.{is_called, own_of}

pub some_of : {X : Type 0} (o : Option X) → IsSome o → (x : X) × (o ≡ Some x)
some_of None h = absurd (cc)
some_of (Some x) h = (x, refl)

pub is_there : {X : Type 0} (o : Option X) (x : X) → o ≡ Some x → IsSome o
is_there o x e = ap is_some e

pub not_none : {X : Type 0} (o : Option X) (x : X) → o ≡ Some x → o ≡ None → ⊥
not_none o x e n = let f : Some x ≡ None = sym e ∙ n in cc

pub one_found : {X : Type 0} (o : Option X) (x y : X) → o ≡ Some x → o ≡ Some y → x ≡ y
one_found o x y e f = let g : Some x ≡ Some y = sym e ∙ f in cc

pub behind : {X : Type 0} (y : X) (xs : List X) (x : X) → Contains xs x → Contains (y ∷ xs) x
behind y xs x c = (suc c.0, omega (arith, c.1), c.2)

pub first : {X : Type 0} (x : X) (xs : List X) → Contains (x ∷ xs) x
first x xs = (zero, omega arith, refl)

pub no_element : {X : Type 0} (x : X) → Contains [] x → ⊥
no_element x c = omega (arith, c.1)

pub either : {X : Type 0} (y : X) (xs : List X) (x : X) → Contains (y ∷ xs) x → (y ≡ x) ⊎ Contains xs x
either y xs x (zero, h, e) = inl e
either y xs x (suc i, h, e) = inr (i, omega (arith, h), e)

-- ---- templates that are written alike

itself : (s : List ℕ) → text_cmp s s ≡ Equal
itself s = tied_itself nat_list_cmp_total s

pub called_same : (t : Template) (c : Cut) → is_called t c ≡ true → template_text (template_of c) ≡ template_text t
called_same t c = by (template_cmp (template_of c) t) refl
  where
    by : (o : Ordering) → template_cmp (template_of c) t ≡ o → match_ordering o false true false ≡ true → template_text (template_of c) ≡ template_text t
    by Less e h = absurd (cc)
    by Equal e h = exact_bytes (template_text (template_of c)) (template_text t) e
    by Greater e h = absurd (cc)

pub same_called : (t : Template) (c : Cut) → template_text (template_of c) ≡ template_text t → is_called t c ≡ true
same_called t c e = ap (λ s. match_ordering (text_cmp (template_text (template_of c)) s) false true false) (sym e) ∙ ap (λ o. match_ordering o false true false) (itself (template_text (template_of c)))

pub cut_same : (w : List Cut) (a b : Template) → template_text a ≡ template_text b → cut_of a w ≡ cut_of b w
cut_same [] a b e = refl
cut_same (x ∷ w) a b e = λ i. match_ordering (text_cmp (template_text x.unit.template) (e i)) (cut_same w a b e i) (Some x) None

pub found_text : (t : Template) (w : List Cut) (d : Cut) → cut_of t w ≡ Some d → template_text (template_of d) ≡ template_text t
found_text t [] d e = absurd (cc)
found_text t (x ∷ w) d e = by (template_cmp (template_of x) t) refl (found_text t w d) e
  where
    by : (o : Ordering) → template_cmp (template_of x) t ≡ o → (cut_of t w ≡ Some d → template_text (template_of d) ≡ template_text t) → match_ordering o (cut_of t w) (Some x) None ≡ Some d → template_text (template_of d) ≡ template_text t
    by Less is rest e = rest e
    by Equal is rest e = let f : x ≡ d = cc in subst (λ y. template_text (template_of y) ≡ template_text t) f (exact_bytes (template_text (template_of x)) (template_text t) is)
    by Greater is rest e = absurd (cc)

module _ (w : List Cut) where
  way_from : (n : ℕ) (a b c : Template) → template_text a ≡ template_text b → Way w n b c → Way w n a c
  way_from zero a b c e h = e ∙ h
  way_from (suc n) a b c e h = (h.0, subst (λ o. Contains (called o) h.0) (sym (cut_same w a b e)) h.1, h.2)

  way_to : (n : ℕ) (a b c : Template) → template_text b ≡ template_text c → Way w n a b → Way w n a c
  way_to zero a b c e h = h ∙ e
  way_to (suc n) a b c e h = (h.0, h.1, way_to n h.0 b c e h.2)

  way_then : (n : ℕ) (a b : Template) (m : ℕ) (c : Template) → Way w n a b → Way w m b c → LeadsTo w a c
  way_then zero a b m c h k = (m, way_from m a b c h k)
  way_then (suc n) a b m c h k = let r = way_then n h.0 b m c h.2 k in (suc r.0, (h.0, h.1, r.1))

  leads_then : (a b c : Template) → LeadsTo w a b → LeadsTo w b c → LeadsTo w a c
  leads_then a b c h k = way_then h.0 a b k.0 c h.1 k.1

  pub together_itself : (a : Template) → AreTogether w a a
  together_itself a = ((zero, refl), (zero, refl))

  pub together_then : (a b c : Template) → AreTogether w a b → AreTogether w b c → AreTogether w a c
  together_then a b c h k = (leads_then a b c h.0 k.0, leads_then c b a k.1 h.1)

  -- a template that is written alike is together with the same ones
  pub together_text : (a b c : Template) → template_text b ≡ template_text c → AreTogether w a b → AreTogether w a c
  together_text a b c e h = ((h.0.0, way_to h.0.0 a b c e h.0.1), (h.1.0, way_from h.1.0 c b a (sym e) h.1.1))

-- ---- what stands at the place of a member

own_case : {X : Type 0} (b : Bool) (x y : X) (o : Option X) → (if b then Some x else o) ≡ Some y → ((b ≡ true) × (x ≡ y)) ⊎ (o ≡ Some y)
own_case true x y o e = inl (refl, let f : Some x ≡ Some y = e in cc)
own_case false x y o e = inr e

pub own_found : {X : Type 0} (t : Template) (cs : List Cut) (xs : List X) (x : X) → own_of t cs xs ≡ Some x → (c : Cut) × Contains cs c × (template_text (template_of c) ≡ template_text t)
own_found t [] xs x e = absurd (cc)
own_found t (c ∷ cs) [] x e = absurd (cc)
own_found t (c ∷ cs) (y ∷ xs) x e = by (own_found t cs xs x) (own_case (is_called t c) y x (own_of t cs xs) e)
  where
    by : (own_of t cs xs ≡ Some x → (d : Cut) × Contains cs d × (template_text (template_of d) ≡ template_text t)) → ((is_called t c ≡ true) × (y ≡ x)) ⊎ (own_of t cs xs ≡ Some x) → (d : Cut) × Contains (c ∷ cs) d × (template_text (template_of d) ≡ template_text t)
    by rest (inl h) = (c, first c cs, called_same t c h.0)
    by rest (inr h) = let r = rest h in (r.0, behind c cs r.0 r.1, r.2)

-- of a list that a map made
pub own_made : {X : Type 0} (f : Cut → X) (t : Template) (cs : List Cut) (x : X) → own_of t cs (map f cs) ≡ Some x → (c : Cut) × Contains cs c × (template_text (template_of c) ≡ template_text t) × (x ≡ f c)
own_made f t [] x e = absurd (cc)
own_made f t (c ∷ cs) x e = by (own_made f t cs x) (own_case (is_called t c) (f c) x (own_of t cs (map f cs)) e)
  where
    by : (own_of t cs (map f cs) ≡ Some x → (d : Cut) × Contains cs d × (template_text (template_of d) ≡ template_text t) × (x ≡ f d)) → ((is_called t c ≡ true) × (f c ≡ x)) ⊎ (own_of t cs (map f cs) ≡ Some x) → (d : Cut) × Contains (c ∷ cs) d × (template_text (template_of d) ≡ template_text t) × (x ≡ f d)
    by rest (inl h) = (c, first c cs, called_same t c h.0, sym h.1)
    by rest (inr h) = let r = rest h in (r.0, behind c cs r.0 r.1, r.2, r.3)

pub own_there : {X : Type 0} (t : Template) (cs : List Cut) (xs : List X) (c : Cut) → length xs ≡ length cs → Contains cs c → template_text (template_of c) ≡ template_text t → (x : X) × (own_of t cs xs ≡ Some x)
own_there {X = X} t [] xs c long at e = absurd (no_element c at)
own_there {X = X} t (d ∷ cs) [] c long at e = absurd (omega (arith, long))
own_there {X = X} t (d ∷ cs) (y ∷ xs) c long at e = by (λ k. own_there t cs xs c (omega (arith, long)) k e) (is_called t d) refl (either d cs c at)
  where
    by : (Contains cs c → (x : X) × (own_of t cs xs ≡ Some x)) → (b : Bool) → is_called t d ≡ b → (d ≡ c) ⊎ Contains cs c → (x : X) × ((if b then Some y else own_of t cs xs) ≡ Some x)
    by rest true is h = (y, refl)
    by rest false is (inl h) = absurd (let f : false ≡ true = sym is ∙ same_called t d (ap (λ z. template_text (template_of z)) h ∙ e) in cc)
    by rest false is (inr h) = rest h

pub own_mapped : {X Y : Type 0} (f : X → Y) (t : Template) (cs : List Cut) (xs : List X) (x : X) → own_of t cs xs ≡ Some x → own_of t cs (map f xs) ≡ Some (f x)
own_mapped f t [] xs x e = absurd (cc)
own_mapped f t (c ∷ cs) [] x e = absurd (cc)
own_mapped f t (c ∷ cs) (y ∷ xs) x e = by (is_called t c) (own_mapped f t cs xs x) e
  where
    by : (b : Bool) → (own_of t cs xs ≡ Some x → own_of t cs (map f xs) ≡ Some (f x)) → (if b then Some y else own_of t cs xs) ≡ Some x → (if b then Some (f y) else own_of t cs (map f xs)) ≡ Some (f x)
    by true rest e = let g : y ≡ x = cc in ap (λ z. Some (f z)) g
    by false rest e = rest e

pub none_mapped : {X Y : Type 0} (f : X → Y) (t : Template) (cs : List Cut) (xs : List X) → own_of t cs xs ≡ None → own_of t cs (map f xs) ≡ None
none_mapped f t [] xs e = refl
none_mapped f t (c ∷ cs) [] e = refl
none_mapped f t (c ∷ cs) (y ∷ xs) e = by (is_called t c) (none_mapped f t cs xs) e
  where
    by : (b : Bool) → (own_of t cs xs ≡ None → own_of t cs (map f xs) ≡ None) → (if b then Some y else own_of t cs xs) ≡ None → (if b then Some (f y) else own_of t cs (map f xs)) ≡ None
    by true rest e = absurd (cc)
    by false rest e = rest e

-- ---- something of each member and its signature

pub each_long : (P : Cut → Signature → Type 0) (cs : List Cut) (ss : List Signature) → Each P cs ss → length ss ≡ length cs
each_long P [] [] h = refl
each_long P [] (s ∷ ss) h = absurd h
each_long P (c ∷ cs) [] h = absurd h
each_long P (c ∷ cs) (s ∷ ss) h = let r = each_long P cs ss h.1 in omega (arith, r)

pub each_more : (P Q : Cut → Signature → Type 0) (cs : List Cut) (ss : List Signature) → ((c : Cut) → Contains cs c → (s : Signature) → P c s → Q c s) → Each P cs ss → Each Q cs ss
each_more P Q [] [] f h = tt
each_more P Q [] (s ∷ ss) f h = absurd h
each_more P Q (c ∷ cs) [] f h = absurd h
each_more P Q (c ∷ cs) (s ∷ ss) f h = (f c (first c cs) s h.0, each_more P Q cs ss (λ d at. f d (behind c cs d at)) h.1)

pub each_made : (P : Cut → Signature → Type 0) (f : Cut → Signature) (cs : List Cut) → ((c : Cut) → Contains cs c → P c (f c)) → Each P cs (map f cs)
each_made P f [] h = tt
each_made P f (c ∷ cs) h = (h c (first c cs), each_made P f cs (λ d at. h d (behind c cs d at)))

apart : (c : Cut) (cs : List Cut) (d : Cut) → AllByRecursion (λ y. template_cmp (template_of c) (template_of y) ≡ Less) cs → Contains cs d → template_text (template_of c) ≡ template_text (template_of d) → ⊥
apart c cs d rising at e =
    let less : template_cmp (template_of c) (template_of d) ≡ Less = All-contains (λ y. template_cmp (template_of c) (template_of y) ≡ Less) cs d (All-from_recursion (λ y. template_cmp (template_of c) (template_of y) ≡ Less) cs rising) at in
    let f : Equal ≡ Less = sym (itself (template_text (template_of c))) ∙ (ap (text_cmp (template_text (template_of c))) e ∙ less) in
    cc

pub not_called : (c : Cut) (cs : List Cut) (d : Cut) → AllByRecursion (λ y. template_cmp (template_of c) (template_of y) ≡ Less) cs → Contains cs d → is_called (template_of d) c ≡ false
not_called c cs d rising at = by (is_called (template_of d) c) (λ e. apart c cs d rising at (called_same (template_of d) c e))
  where
    by : (b : Bool) → (b ≡ true → ⊥) → b ≡ false
    by true never = absurd (never refl)
    by false never = refl

pub each_own : (P : Cut → Signature → Type 0) (t : Template) (cs : List Cut) (ss : List Signature) (c : Cut) → RiseBy template_of cs → Each P cs ss → Contains cs c → template_text (template_of c) ≡ template_text t → (s : Signature) × (own_of t cs ss ≡ Some s) × P c s
each_own P t [] ss c rising h at e = absurd (no_element c at)
each_own P t (d ∷ cs) [] c rising h at e = absurd h
each_own P t (d ∷ cs) (s ∷ ss) c rising h at e = by (λ k. each_own P t cs ss c rising.1 h.1 k e) (is_called t d) refl (either d cs c at)
  where
    by : (Contains cs c → (z : Signature) × (own_of t cs ss ≡ Some z) × P c z) → (b : Bool) → is_called t d ≡ b → (d ≡ c) ⊎ Contains cs c → (z : Signature) × ((if b then Some s else own_of t cs ss) ≡ Some z) × P c z
    by rest true is (inl k) = (s, refl, subst (λ y. P y s) k h.0)
    by rest true is (inr k) = absurd (apart d cs c rising.0 k (called_same t d is ∙ sym e))
    by rest false is (inl k) = absurd (let f : false ≡ true = sym is ∙ same_called t d (ap (λ z. template_text (template_of z)) k ∙ e) in cc)
    by rest false is (inr k) = rest k
