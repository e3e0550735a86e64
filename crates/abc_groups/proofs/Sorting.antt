-- Templates that are put in order by their texts.
use Rattle.std.proofs.Common.{◌≡◌, ◌<◌, ◌+◌, ◌++◌, ◌⊎◌, ◌↔◌, inl, inr, ℕ, zero, suc, List, [], ◌∷◌, length, take, get_or, refl, sym, ap, subst, ◌∙◌, arith}
use Rattle.std.specs.List.{AllByRecursion, Contains}
use Rattle.std.specs.List.Sorted.{IsStrictlySortedBy}
use Rattle.std.specs.Map.{keys_of, values_of}
use Rattle.std.specs.BTreeMap.{insert_entry}
use Rattle.std.specs.declared.cmp.Ordering.{Ordering}
use Rattle.std.specs.declared.cmp.Ordering.TheVariants.{Less, Equal, Greater}
use Rattle.std.specs.Ordering.{match_ordering}
use Rattle.std.proofs.lemmas.List.{map-append, take_more}
use Rattle.std.proofs.lemmas.List.Elements.{Contains-append_left, Contains-push, Contains-push_cases}
use Rattle.abc_num.specs.Text.{text_cmp}
use Rattle.abc_tree.specs.Ordered.{RiseBy}
use Rattle.abc_tree.specs.Templates.{template_text}
use Rattle.abc_tree.specs.declared.templates.Template.{Template}
use Rattle.abc_groups.specs.Program.{texts}
use Rattle.abc_groups.specs.inner.Sorted.{IsByText}
use Rattle.abc_groups.proofs.Texts.{one_text}

contains_cons : (y : List ℕ) (ys : List (List ℕ)) (x : List ℕ) → Contains (y ∷ ys) x → (y ≡ x) ⊎ Contains ys x
contains_cons y ys x (zero, h, e) = inl e
contains_cons y ys x (suc i, h, e) = inr (i, omega (arith, h), e)

contains_head : (y : List ℕ) (ys : List (List ℕ)) (x : List ℕ) → y ≡ x → Contains (y ∷ ys) x
contains_head y ys x e = (zero, omega arith, e)

contains_tail : (y : List ℕ) (ys : List (List ℕ)) (x : List ℕ) → Contains ys x → Contains (y ∷ ys) x
contains_tail y ys x c = (suc c.0, omega (arith, c.1), c.2)

abbrev Entries : Type 0
Entries = List (List ℕ × Template)

abbrev put : Entries → List ℕ → Template → Entries
put es k v = insert_entry text_cmp es k v

put_named : (es : Entries) (k : List ℕ) (v : Template) → k ≡ template_text v → AllByRecursion (λ e. e.0 ≡ template_text e.1) es → AllByRecursion (λ e. e.0 ≡ template_text e.1) (put es k v)
put_named [] k v e all = (e, tt)
put_named (f ∷ es) k v e all = by_order (text_cmp k f.0) refl (put_named es k v e all.1)
  where
    by_order : (o : Ordering) → text_cmp k f.0 ≡ o → AllByRecursion (λ e. e.0 ≡ template_text e.1) (put es k v)
        → AllByRecursion (λ (e : List ℕ × Template). e.0 ≡ template_text e.1) (match_ordering o ((k, v) ∷ f ∷ es) ((f.0, v) ∷ es) (f ∷ put es k v))
    by_order Less is more = (e, (all.0, all.1))
    by_order Equal is more = (sym (one_text k f.0 is) ∙ e, all.1)
    by_order Greater is more = (all.0, more)

put_to : (es : Entries) (k : List ℕ) (v : Template) (x : List ℕ) → (Contains (keys_of es) x ⊎ (k ≡ x)) → Contains (keys_of (put es k v)) x
put_to [] k v x (inl c) = absurd (omega (arith, c.1))
put_to [] k v x (inr e) = contains_head k [] x e
put_to (f ∷ es) k v x c = by_order (text_cmp k f.0) refl (put_to es k v x) c
  where
    by_order : (o : Ordering) → text_cmp k f.0 ≡ o → ((Contains (keys_of es) x ⊎ (k ≡ x)) → Contains (keys_of (put es k v)) x) → (Contains (keys_of (f ∷ es)) x ⊎ (k ≡ x))
        → Contains (keys_of (match_ordering o ((k, v) ∷ f ∷ es) ((f.0, v) ∷ es) (f ∷ put es k v))) x
    by_order Less is more (inl c) = contains_tail k (keys_of (f ∷ es)) x c
    by_order Less is more (inr e) = contains_head k (keys_of (f ∷ es)) x e
    by_order Equal is more (inl c) = c
    by_order Equal is more (inr e) = contains_head f.0 (keys_of es) x (sym (one_text k f.0 is) ∙ e)
    by_order Greater is more (inr e) = contains_tail f.0 (keys_of (put es k v)) x (more (inr e))
    by_order Greater is more (inl c) = further (contains_cons f.0 (keys_of es) x c)
      where
        further : ((f.0 ≡ x) ⊎ Contains (keys_of es) x) → Contains (keys_of (f ∷ put es k v)) x
        further (inl e) = contains_head f.0 (keys_of (put es k v)) x e
        further (inr d) = contains_tail f.0 (keys_of (put es k v)) x (more (inl d))

put_from : (es : Entries) (k : List ℕ) (v : Template) (x : List ℕ) → Contains (keys_of (put es k v)) x → Contains (keys_of es) x ⊎ (k ≡ x)
put_from [] k v x c = turned (contains_cons k [] x c)
  where
    turned : ((k ≡ x) ⊎ Contains [] x) → Contains [] x ⊎ (k ≡ x)
    turned (inl e) = inr e
    turned (inr d) = inl d
put_from (f ∷ es) k v x c = by_order (text_cmp k f.0) refl (put_from es k v x) c
  where
    by_order : (o : Ordering) → text_cmp k f.0 ≡ o → (Contains (keys_of (put es k v)) x → Contains (keys_of es) x ⊎ (k ≡ x))
        → Contains (keys_of (match_ordering o ((k, v) ∷ f ∷ es) ((f.0, v) ∷ es) (f ∷ put es k v))) x → Contains (keys_of (f ∷ es)) x ⊎ (k ≡ x)
    by_order Less is more c = turned (contains_cons k (keys_of (f ∷ es)) x c)
      where
        turned : ((k ≡ x) ⊎ Contains (keys_of (f ∷ es)) x) → Contains (keys_of (f ∷ es)) x ⊎ (k ≡ x)
        turned (inl e) = inr e
        turned (inr d) = inl d
    by_order Equal is more c = inl c
    by_order Greater is more c = further (contains_cons f.0 (keys_of (put es k v)) x c)
      where
        deeper : (Contains (keys_of es) x ⊎ (k ≡ x)) → Contains (keys_of (f ∷ es)) x ⊎ (k ≡ x)
        deeper (inl d) = inl (contains_tail f.0 (keys_of es) x d)
        deeper (inr e) = inr e

        further : ((f.0 ≡ x) ⊎ Contains (keys_of (put es k v)) x) → Contains (keys_of (f ∷ es)) x ⊎ (k ≡ x)
        further (inl e) = inl (contains_head f.0 (keys_of es) x e)
        further (inr d) = deeper (more d)

pub by_text_none : IsByText [] []
by_text_none = record { named = tt; known = λ x c. absurd (omega (arith, c.1)); only = λ x c. absurd (omega (arith, c.1)) }

-- one template more
pub by_text_next : (ts : List Template) (i : ℕ) (t : Template) (es es2 : Entries) (k : List ℕ) (v : Template) → i < length ts → t ≡ get_or ts i t → k ≡ template_text t → v ≡ t → es2 ≡ insert_entry text_cmp es k v
    → IsByText (texts (take i ts)) es → IsByText (texts (take (i + 1) ts)) es2
by_text_next ts i t es es2 k v h at key same put_is m =
    let e : texts (take i ts) ++ k ∷ [] ≡ texts (take (i + 1) ts) = ap (λ x. texts (take i ts) ++ x ∷ []) key ∙ sym (ap texts (take_more ts i t h ∙ ap (λ x. take i ts ++ x ∷ []) (sym at)) ∙ map-append template_text (take i ts) (t ∷ [])) in
    subst (λ z. IsByText z es2) e (subst (λ z. IsByText (texts (take i ts) ++ k ∷ []) z) (sym put_is) (record {
      named = put_named es k v (key ∙ ap template_text (sym same)) m.named;
      known = λ x c. put_to es k v x (old_or_new x (Contains-push_cases (texts (take i ts)) k x c));
      only = λ x c. back x (put_from es k v x c);
    }))
  where
    old_or_new : (x : List ℕ) → (Contains (texts (take i ts)) x ⊎ (k ≡ x)) → Contains (keys_of es) x ⊎ (k ≡ x)
    old_or_new x (inl c) = inl (m.known x c)
    old_or_new x (inr e) = inr e

    back : (x : List ℕ) → (Contains (keys_of es) x ⊎ (k ≡ x)) → Contains (texts (take i ts) ++ k ∷ []) x
    back x (inl c) = Contains-append_left (texts (take i ts)) (k ∷ []) x (m.only x c)
    back x (inr e) = subst (Contains (texts (take i ts) ++ k ∷ [])) e (Contains-push (texts (take i ts)) k)

-- the templates of the entries
pub values_named : (es : Entries) → AllByRecursion (λ e. e.0 ≡ template_text e.1) es → texts (values_of es) ≡ keys_of es
values_named [] all = refl
values_named (e ∷ es) all = ap (λ x. x ∷ texts (values_of es)) (sym all.0) ∙ ap (λ (xs : List (List ℕ)). e.0 ∷ xs) (values_named es all.1)

each_less : (s : List ℕ) (ts : List Template) → AllByRecursion (λ y. text_cmp s y ≡ Less) (texts ts) → AllByRecursion (λ t. text_cmp s (template_text t) ≡ Less) ts
each_less s [] all = tt
each_less s (t ∷ ts) all = (all.0, each_less s ts all.1)

pub rise_sorted : (ts : List Template) → IsStrictlySortedBy text_cmp (texts ts) → RiseBy (λ t. t) ts
unfolding IsStrictlySortedBy
rise_sorted [] s = tt
rise_sorted (t ∷ ts) s = (each_less (template_text t) ts s.0, rise_sorted ts s.1)

pub same_texts : (these : List (List ℕ)) (es : Entries) (all : List Template) → IsByText these es → all ≡ values_of es → (x : List ℕ) → (Contains (texts all) x ↔ Contains these x)
same_texts these es all m is x =
    let e : texts all ≡ keys_of es = ap texts is ∙ values_named es m.named in
    (λ c. m.only x (subst (λ z. Contains z x) e c), λ c. subst (λ z. Contains z x) (sym e) (m.known x c))

pub rise_values : (these : List (List ℕ)) (es : Entries) (all : List Template) → IsByText these es → all ≡ values_of es → IsStrictlySortedBy text_cmp (keys_of es) → RiseBy (λ t. t) all
rise_values these es all m is sorted =
    let P : List (List ℕ) → Type 0 = λ xs. IsStrictlySortedBy text_cmp xs in
    rise_sorted all (subst P (sym (ap texts is ∙ values_named es m.named)) sorted)
