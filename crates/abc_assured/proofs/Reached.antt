-- What is reached by calls of units is reached by the texts of their templates.
use Rattle.std.proofs.Common.{◌≡◌, ◌≢◌, ◌≤◌, ℕ, Bool, true, false, zero, suc, List, [], ◌∷◌, length, Option, Some, None, refl, ap, sym, ◌∙◌, subst, arith}
use Rattle.std.specs.Prelude.{IsSome, if◌then◌else◌, nat_le}
use Rattle.std.specs.List.{AllByRecursion, Contains}
use Rattle.std.specs.declared.cmp.Ordering.{Ordering}
use Rattle.std.specs.declared.cmp.Ordering.TheVariants.{Less, Equal, Greater}
use Rattle.std.specs.Ordering.{match_ordering}
use Rattle.std.proofs.lemmas.Bool.Decides.{nat_tests}
use Rattle.abc_num.specs.Text.{text_cmp, text_eq}
use Rattle.abc_tree.specs.Calls.{Calls, calls_in_action, command_called_upto, with_call, with_calls}
use Rattle.abc_tree.specs.Calls as calls
use Rattle.abc_tree.specs.Lined.{Lined, upto}
use Rattle.abc_tree.specs.Ordered.{RiseBy}
use Rattle.abc_tree.specs.Templates.{template_cmp, template_text}
use Rattle.abc_tree.specs.declared.commands.Unit.{Unit as Routine}
use Rattle.abc_tree.specs.declared.templates.Template.{Template}
use Rattle.abc_groups.specs.Program.{LAST_LINE, Program, called as called_in, graph_in, if_any, program_of, texts}
use Rattle.abc_groups.specs.Reach as reach
use Rattle.abc_groups.proofs.Texts.{eq_no, eq_yes, itself, one_text}
use Rattle.abc_ground.specs.Groups as ground
use Rattle.abc_ground.specs.Groups.{Cut, LeadsTo, called, cut_of, whole}
use Rattle.abc_assured.specs.Assured.{AllReached, AreKept}

-- ---- templates that are noted by their texts

-- its text is among these
abbrev IsNoted : Calls → Template → Type 0
IsNoted found t = Contains (texts found) (template_text t)

later : (x : Template) (xs : Calls) (t : Template) → IsNoted xs t → IsNoted (x ∷ xs) t
later x xs t m = (suc m.0, omega (arith, m.1), m.2)

first : (x : Template) (xs : Calls) (t : Template) → template_text x ≡ template_text t → IsNoted (x ∷ xs) t
first x xs t e = (zero, omega arith, e)

noted_here : (t : Template) (found : Calls) → IsNoted (with_call t found) t
noted_here t [] = first t [] t refl
noted_here t (x ∷ xs) = by_order (template_cmp x t) refl (noted_here t xs)
  where
    by_order : (o : Ordering) → template_cmp x t ≡ o → IsNoted (with_call t xs) t → IsNoted (match_ordering o (x ∷ with_call t xs) ((if false then t else x) ∷ xs) (t ∷ x ∷ xs)) t
    by_order Less is rest = later x (with_call t xs) t rest
    by_order Equal is rest = first x xs t (one_text (template_text x) (template_text t) is)
    by_order Greater is rest = first t (x ∷ xs) t refl

still_noted : (u : Template) (found : Calls) (t : Template) → IsNoted found t → IsNoted (with_call u found) t
still_noted u [] t m = absurd (omega (arith, m.1))
still_noted u (x ∷ xs) t m = by_order (template_cmp x u) m (still_noted u xs t)
  where
    by_order : (o : Ordering) → IsNoted (x ∷ xs) t → (IsNoted xs t → IsNoted (with_call u xs) t) → IsNoted (match_ordering o (x ∷ with_call u xs) ((if false then u else x) ∷ xs) (u ∷ x ∷ xs)) t
    by_order Less (zero, lt, e) rest = first x (with_call u xs) t e
    by_order Less (suc i, lt, e) rest = later x (with_call u xs) t (rest (i, omega (arith, lt), e))
    by_order Equal m rest = m
    by_order Greater m rest = later u (x ∷ xs) t m

all_noted : (found xs : Calls) (t : Template) → IsNoted found t → IsNoted (with_calls found xs) t
all_noted found [] t m = m
all_noted found (x ∷ xs) t m = all_noted (with_call x found) xs t (still_noted x found t m)

each_noted : (found xs : Calls) → AllByRecursion (IsNoted (with_calls found xs)) xs
each_noted found [] = tt
each_noted found (x ∷ xs) = (all_noted (with_call x found) xs x (noted_here x found), each_noted (with_call x found) xs)

-- ---- what holds of each call holds of what is called

module _ (P : Template → Type 0) where
  one_kept : (t : Template) (found : Calls) → P t → AllByRecursion P found → AllByRecursion P (with_call t found)
  one_kept t [] p a = (p, tt)
  one_kept t (x ∷ xs) p a = by_order (template_cmp x t) (one_kept t xs p a.1)
    where
      by_order : (o : Ordering) → AllByRecursion P (with_call t xs) → AllByRecursion P (match_ordering o (x ∷ with_call t xs) ((if false then t else x) ∷ xs) (t ∷ x ∷ xs))
      by_order Less rest = (a.0, rest)
      by_order Equal rest = a
      by_order Greater rest = (p, a)

  all_kept : (found xs : Calls) → AllByRecursion P found → AllByRecursion P xs → AllByRecursion P (with_calls found xs)
  all_kept found [] a b = a
  all_kept found (x ∷ xs) a b = all_kept (with_call x found) xs (one_kept x found b.0 a) b.1

  each_contained : (xs : Calls) → AllByRecursion P xs → (t : Template) → Contains xs t → P t
  each_contained [] a t m = absurd (omega (arith, m.1))
  each_contained (x ∷ xs) a t (zero, lt, e) = subst P e a.0
  each_contained (x ∷ xs) a t (suc i, lt, e) = each_contained xs a.1 t (i, omega (arith, lt), e)

  -- on fewer lines too
  fewer : (m n : ℕ) → m ≤ n → (xs : Lined Template) → AllByRecursion P (upto n xs) → AllByRecursion P (upto m xs)
  fewer m n le [] a = tt
  fewer m n le (x ∷ xs) a = by (fewer m n le xs) (nat_le x.0 m) refl (nat_le x.0 n) refl a
    where
      no_more : nat_le x.0 m ≡ true → nat_le x.0 n ≡ false → ⊥
      no_more p q = grind (arith, nat_tests)

      by : (AllByRecursion P (upto n xs) → AllByRecursion P (upto m xs)) → (b : Bool) → nat_le x.0 m ≡ b → (d : Bool) → nat_le x.0 n ≡ d → AllByRecursion P (upto n (x ∷ xs)) → AllByRecursion P (upto m (x ∷ xs))
      by rest true p true q a = let f : AllByRecursion P (x.1 ∷ upto n xs) = rw q at a in rw p (f.0, rest f.1)
      by rest true p false q a = absurd (no_more p q)
      by rest false p true q a = let f : AllByRecursion P (x.1 ∷ upto n xs) = rw q at a in rw p (rest f.1)
      by rest false p false q a = let f : AllByRecursion P (upto n xs) = rw q at a in rw p (rest f)

-- what is called on some lines is, by its text, among what is called on more
called_noted : (m : ℕ) → m ≤ LAST_LINE → (xs : Lined Template) (t : Template) → Contains (with_calls [] (upto m xs)) t → IsNoted (with_calls [] (upto LAST_LINE xs)) t
called_noted m le xs t h =
    let P : Template → Type 0 = IsNoted (with_calls [] (upto LAST_LINE xs)) in
    each_contained P (with_calls [] (upto m xs)) (all_kept P [] (upto m xs) tt (fewer P m LAST_LINE le xs (each_noted [] (upto LAST_LINE xs)))) t h

-- ---- units

abbrev key : Routine → Template
key u = u.template

abbrev Few : List Routine → Type 0
Few units = AllByRecursion (λ u. length u.lines ≤ LAST_LINE) units

abbrev in_graph : List Routine → Program
in_graph units = program_of (graph_in units)

-- the graph tells of a template what is found of it
abbrev Told : List Routine → Template → Option Cut → Type 0
Told units t None = in_graph units (template_text t) ≡ None
Told units t (Some cut) = (in_graph units (template_text t) ≡ Some (texts (calls.called_upto LAST_LINE cut.unit))) × (cut.lines ≤ LAST_LINE)

apart : (s t : List ℕ) (o : Ordering) → text_cmp s t ≡ o → o ≢ Equal → text_eq t s ≡ false
apart s t o e n = eq_no t s (λ same. n (sym e ∙ ap (text_cmp s) same ∙ itself s))

absent : (u : Routine) (us : List Routine) (t : Template) → template_cmp u.template t ≡ Greater → AllByRecursion (λ v. template_cmp u.template v.template ≡ Less) us → in_graph us (template_text t) ≡ None
absent u [] t e h = refl
absent u (v ∷ us) t e h =
    let other : text_eq (template_text t) (template_text v.template) ≡ false = eq_no (template_text t) (template_text v.template) (λ same. absurd (differ (sym e ∙ ap (text_cmp (template_text u.template)) same ∙ h.0))) in
    ap (λ b. if b then Some (texts (calls.called_upto LAST_LINE v)) else in_graph us (template_text t)) other ∙ absent u us t e h.1
  where
    differ : Greater ≡ Less → ⊥
    differ e = cc

lookup : (units : List Routine) → RiseBy key units → Few units → (t : Template) → Told units t (cut_of t (whole units))
lookup [] r f t = refl
lookup (u ∷ us) r f t = by (cut_of t (whole us)) (lookup us r.1 f.1 t) (template_cmp u.template t) refl
  where
    skipped : template_cmp u.template t ≢ Equal → in_graph (u ∷ us) (template_text t) ≡ in_graph us (template_text t)
    skipped n =
        ap (λ b. if b then Some (texts (calls.called_upto LAST_LINE u)) else in_graph us (template_text t))
        (apart (template_text u.template) (template_text t) (template_cmp u.template t) refl n)

    less_apart : Less ≢ Equal
    less_apart e = cc

    greater_apart : Greater ≢ Equal
    greater_apart e = cc

    told_on : (o : Option Cut) → template_cmp u.template t ≢ Equal → Told us t o → Told (u ∷ us) t o
    told_on None n h = skipped n ∙ h
    told_on (Some cut) n h = (skipped n ∙ h.0, h.1)

    by : (found : Option Cut) → Told us t found → (o : Ordering) → template_cmp u.template t ≡ o → Told (u ∷ us) t (match_ordering o found (Some (record { unit = u; lines = length u.lines })) None)
    by found ih Less e = told_on found (λ same. less_apart (sym e ∙ same)) ih
    by found ih Equal e = (
      ap (λ b. if b then Some (texts (calls.called_upto LAST_LINE u)) else in_graph us (template_text t))
          (eq_yes (template_text t) (template_text u.template) (sym (one_text (template_text u.template) (template_text t) e))),
      f.0,
    )
    by found ih Greater e = skipped (λ same. greater_apart (sym e ∙ same)) ∙ absent u us t e r.0

module _ (units : List Routine) (kept : AreKept units) where
  abbrev program : Program
  program = in_graph units

  one_call : (t : Template) (found : Option Cut) → Told units t found → (c : Template) → Contains (called found) c → Contains (called_in program (template_text t)) (template_text c)
  one_call t None told c h = absurd (omega (arith, h.1))
  one_call t (Some cut) told c h =
      subst (λ o. Contains (if_any o) (template_text c)) (sym told.0) (called_noted cut.lines told.1 (calls.calls_in_unit cut.unit) c h)

  way_told : (n : ℕ) (a b : Template) → ground.Way (whole units) n a b → reach.Way (called_in program) n (template_text a) (template_text b)
  way_told zero a b e = e
  way_told (suc n) a b (c, h, q) = (template_text c, one_call a (cut_of a (whole units)) (lookup units kept.rise kept.few a) c h, way_told n c b q)

  there : (u : Template) (found : Option Cut) → Told units u found → program (template_text u) ≢ None → IsSome found
  there u None told h = absurd (h told)
  there u (Some cut) told h = refl

pub all_reached : AllReached
all_reached units c n kept le none t u h leads =
    let seed = called_noted n le (calls_in_action c.action) t h in
    let from : reach.IsFrom (called_in (in_graph units)) (texts (command_called_upto LAST_LINE c)) (template_text u) = (template_text t, seed, (leads.0, way_told units kept leads.0 t u leads.1)) in
    there units kept u (cut_of u (whole units)) (lookup units kept.rise kept.few u) (none (template_text u) from)
