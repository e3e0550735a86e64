-- Units of a workspace: what changes make of them, and that those of a workspace can be spelled.
use Rattle.std.proofs.Common.{◌≡◌, ℕ, zero, suc, ◌+◌, ◌*◌, ◌<◌, ◌≤◌, ◌^◌, length, map, take, Bool, true, false, cond, is_some, List, [], ◌∷◌, ◌++◌, append-nil, append_assoc, Option, None, Some, refl, sym, ap, ◌∙◌, arith, length-append}
use Rattle.std.specs.Prelude.{option_map, option_and_then, slice_get}
use Rattle.std.specs.List.{flat_map, AllByRecursion}
use Rattle.std.specs.declared.cmp.Ordering.{Ordering}
use Rattle.std.specs.declared.cmp.Ordering.TheVariants.{Less, Equal, Greater}
use Rattle.std.specs.Ordering.{match_ordering}
use Rattle.std.proofs.lemmas.List.{take_all}
use Rattle.std.proofs.lemmas.List.Concat.{flat_map-cons}
use Rattle.abc_num.specs.Text.{text_cmp}
use Rattle.abc_num.specs.declared.lines.Line.{Line}
use Rattle.abc_frames.specs.Maps.{Targets}
use Rattle.abc_tree.specs.Templates.{template_text, template_cmp}
use Rattle.abc_tree.specs.Units.{AreRising, unit_of, with_unit, without_unit}
use Rattle.abc_tree.specs.declared.commands.Unit.{Unit as Routine}
use Rattle.abc_tree.specs.declared.templates.Template.{Template}
use Rattle.abc_record.specs.declared.change.Change.{Change}
use Rattle.abc_record.specs.Bytes.{in_four, spelled_text}
use Rattle.abc_record.specs.Spelling.{spelled_line, spelled_change, spelled_changes}
use Rattle.abc_record.specs.Kept.{IsKeptLine, IsKept}
use Rattle.abc_record.proofs.Weights.{four_long, text_long, set_unit_long}
use Rattle.abc_store.specs.Workspace.{Workspace, changed_by, unit_named, without_named, with_routine, IsKeptUnit, AreKeptUnits, set_unit}

-- ---- units by the text of a template

pub without_by_text : (t : Template) (units : List Routine) → without_unit t units ≡ without_named (template_text t) units
without_by_text t [] = refl
without_by_text t (u ∷ units) = ap (λ (later : List Routine). match_ordering (template_cmp u.template t) (u ∷ later) units (u ∷ units)) (without_by_text t units)

pub found_by_text : (t : Template) (units : List Routine) → unit_of t units ≡ unit_named (template_text t) units
found_by_text t [] = refl
found_by_text t (u ∷ units) = ap (λ (later : Option Routine). match_ordering (template_cmp u.template t) later (Some u) None) (found_by_text t units)

-- ---- how many there are

-- as many as there are, where one is replaced, or one more
abbrev so_many : Option Routine → ℕ → ℕ
so_many old n = cond (is_some old) n (suc n)

one_more : (old : Option Routine) (n : ℕ) → suc (so_many old n) ≡ so_many old (suc n)
one_more None n = refl
one_more (Some u) n = refl

many_placed : (o : Ordering) (u new : Routine) (units later : List Routine) (old : Option Routine) → length later ≡ so_many old (length units)
    → length (match_ordering o (u ∷ later) (new ∷ units) (new ∷ u ∷ units)) ≡ so_many (match_ordering o old (Some u) None) (suc (length units))
many_placed Less u new units later old many = ap suc many ∙ one_more old (length units)
many_placed Equal u new units later old many = refl
many_placed Greater u new units later old many = refl

with_many : (new : Routine) (units : List Routine) → length (with_unit new units) ≡ so_many (unit_of new.template units) (length units)
with_many new [] = refl
with_many new (u ∷ units) = many_placed (template_cmp u.template new.template) u new units (with_unit new units) (unit_of new.template units) (with_many new units)

pub replaced_many : (new : Routine) (units : List Routine) → is_some (unit_of new.template units) ≡ true → length (with_unit new units) ≡ length units
replaced_many new units there = with_many new units ∙ ap (λ (b : Bool). cond b (length units) (suc (length units))) there

pub added_many : (new : Routine) (units : List Routine) → is_some (unit_of new.template units) ≡ false → length (with_unit new units) ≡ suc (length units)
added_many new units absent = with_many new units ∙ ap (λ (b : Bool). cond b (length units) (suc (length units))) absent

-- ---- each stays what its lines spell

kept_placed : (o : Ordering) (u new : Routine) (units later : List Routine) → IsKeptUnit u → AreKeptUnits units → IsKeptUnit new → AreKeptUnits later
    → AreKeptUnits (match_ordering o (u ∷ later) (new ∷ units) (new ∷ u ∷ units))
kept_placed Less u new units later k ks n l = (k, l)
kept_placed Equal u new units later k ks n l = (n, ks)
kept_placed Greater u new units later k ks n l = (n, (k, ks))

pub kept_with : (new : Routine) (units : List Routine) → IsKeptUnit new → AreKeptUnits units → AreKeptUnits (with_unit new units)
kept_with new [] n ks = (n, tt)
kept_with new (u ∷ units) n ks = kept_placed (template_cmp u.template new.template) u new units (with_unit new units) ks.0 ks.1 n (kept_with new units n ks.1)

kept_left : (o : Ordering) (u : Routine) (units later : List Routine) → IsKeptUnit u → AreKeptUnits units → AreKeptUnits later → AreKeptUnits (match_ordering o (u ∷ later) units (u ∷ units))
kept_left Less u units later k ks l = (k, l)
kept_left Equal u units later k ks l = ks
kept_left Greater u units later k ks l = (k, ks)

pub kept_without : (text : List ℕ) (units : List Routine) → AreKeptUnits units → AreKeptUnits (without_named text units)
kept_without text [] ks = tt
kept_without text (u ∷ units) ks = kept_left (text_cmp (template_text u.template) text) u units (without_named text units) ks.0 ks.1 (kept_without text units ks.1)

-- ---- put one after the other, in order

all_and_one : {X : Type 0} (P : X → Type 0) (xs : List X) (x : X) → AllByRecursion P xs → P x → AllByRecursion P (xs ++ x ∷ [])
all_and_one P [] x all one = (one, tt)
all_and_one P (y ∷ xs) x all one = (all.0, all_and_one P xs x all.1 one)

-- the template of the first is below that of the second
abbrev IsBelow : Routine → Routine → Type 0
IsBelow u v = template_cmp u.template v.template ≡ Less

-- those in front are below each of the others
abbrev AreBelow : List Routine → List Routine → Type 0
AreBelow front units = AllByRecursion (λ v. AllByRecursion (λ u. IsBelow u v) front) units

none_below : (units : List Routine) → AreBelow [] units
none_below [] = tt
none_below (u ∷ units) = (tt, none_below units)

one_below : (front : List Routine) (u : Routine) (units : List Routine) → AreBelow front units → AllByRecursion (λ v. IsBelow u v) units → AreBelow (front ++ u ∷ []) units
one_below front u [] below all = tt
one_below front u (v ∷ units) below all = (all_and_one (λ w. IsBelow w v) front u below.0 all.0, one_below front u units below.1 all.1)

at_end : (front : List Routine) (new : Routine) → AllByRecursion (λ u. IsBelow u new) front → with_unit new front ≡ front ++ new ∷ []
at_end [] new below = refl
at_end (u ∷ front) new below =
    ap (λ o. match_ordering o (u ∷ with_unit new front) (new ∷ front) (new ∷ u ∷ front)) below.0 ∙ ap (λ (us : List Routine). u ∷ us) (at_end front new below.1)

put_behind : (targets : Targets) (front units : List Routine) → AreRising units → AreKeptUnits units → AreBelow front units
    → changed_by (map set_unit units) (record { targets = targets; units = front }) ≡ Some (record { targets = targets; units = front ++ units })
put_behind targets front [] rising kept below = ap (λ (us : List Routine). Some (record { targets = targets; units = us })) (sym (append-nil front))
put_behind targets front (u ∷ units) rising kept below =
    ap (λ found. option_and_then (changed_by (map set_unit units)) (option_map (with_routine (record { targets = targets; units = front })) found)) kept.0.spelled
    ∙ ap (λ (us : List Routine). changed_by (map set_unit units) (record { targets = targets; units = us })) (at_end front u below.0)
    ∙ put_behind targets (front ++ u ∷ []) units rising.1 kept.1 (one_below front u units below.1 rising.0)
    ∙ ap (λ (us : List Routine). Some (record { targets = targets; units = us })) (append_assoc front (u ∷ []) units)

pub all_put : (targets : Targets) (units : List Routine) → AreRising units → AreKeptUnits units
    → changed_by (map set_unit units) (record { targets = targets; units = [] }) ≡ Some (record { targets = targets; units = units })
all_put targets units rising kept = put_behind targets [] units rising kept (none_below units)

-- ---- their spelling

line_long : (line : Line) → length (spelled_line line) ≡ length line.text + 8
line_long line = omega (arith, length-append (in_four line.indent) (spelled_text line.text), four_long line.indent, text_long line.text)

lines_short : (lines : List Line) → AllByRecursion IsKeptLine lines → length (flat_map spelled_line lines) ≤ length lines * 4104
lines_short [] kept = omega arith
lines_short (line ∷ lines) kept =
    omega (
      arith,
      lines_short lines kept.1,
      ap length (flat_map-cons spelled_line line lines),
      length-append (spelled_line line) (flat_map spelled_line lines),
      line_long line,
      kept.0.short,
    )

unit_short : (unit : Routine) → IsKeptUnit unit → length (spelled_change (set_unit unit)) ≤ 2 ^ 24
unit_short unit kept = omega (arith, set_unit_long unit.lines, lines_short unit.lines kept.lines.2, kept.lines.1)

pub units_short : (units : List Routine) → AreKeptUnits units → length (spelled_changes (map set_unit units)) ≤ length units * 2 ^ 24
units_short [] kept = omega arith
units_short (u ∷ units) kept =
    omega (
      arith,
      units_short units kept.1,
      ap length (flat_map-cons spelled_change (set_unit u) (map set_unit units)),
      length-append (spelled_change (set_unit u)) (spelled_changes (map set_unit units)),
      unit_short u kept.0,
    )

pub each_unit_kept : (units : List Routine) → AreKeptUnits units → AllByRecursion IsKept (map set_unit units)
each_unit_kept [] kept = tt
each_unit_kept (u ∷ units) kept = (kept.0.lines, each_unit_kept units kept.1)

pub so_many_units : (units : List Routine) → length (map set_unit units) ≡ length units
so_many_units [] = refl
so_many_units (u ∷ units) = ap suc (so_many_units units)

-- ---- told one after the other

pub one_told : (told start more : List Change) (units : List Routine) (n : ℕ) (unit : Routine) → told ≡ start ++ map set_unit (take n units) → slice_get units n ≡ Some unit → more ≡ told ++ set_unit unit ∷ []
    → more ≡ start ++ map set_unit (take (n + 1) units)
one_told told start more units n unit is at next =
    let more_is : suc n ≡ n + 1 = omega arith in
    next ∙ ap (λ (cs : List Change). cs ++ set_unit unit ∷ []) is ∙ append_assoc start (map set_unit (take n units)) (set_unit unit ∷ [])
    ∙ ap (λ (cs : List Change). start ++ cs) (taken units n at ∙ ap (λ (k : ℕ). map set_unit (take k units)) more_is)
  where
    taken : (units : List Routine) (n : ℕ) → slice_get units n ≡ Some unit → map set_unit (take n units) ++ set_unit unit ∷ [] ≡ map set_unit (take (suc n) units)
    taken [] n at = absurd (cc)
    taken (u ∷ units) zero at = let same : u ≡ unit = cc in ap (λ (v : Routine). set_unit v ∷ []) (sym same)
    taken (u ∷ units) (suc n) at = ap (λ (cs : List Change). set_unit u ∷ cs) (taken units n at)

pub all_told : (told start : List Change) (units : List Routine) (n : ℕ) → told ≡ start ++ map set_unit (take n units) → length units ≤ n → told ≡ start ++ map set_unit units
all_told told start units n is most = is ∙ ap (λ (us : List Routine). start ++ map set_unit us) (take_all n units most)

pub none_left : (units : List Routine) (n : ℕ) → slice_get units n ≡ None → length units ≤ n
none_left [] n none = omega arith
none_left (u ∷ units) zero none = absurd (cc)
none_left (u ∷ units) (suc n) none = omega (arith, none_left units n none)

some_left : (units : List Routine) (n : ℕ) (unit : Routine) → slice_get units n ≡ Some unit → n < length units
some_left [] n unit is = absurd (cc)
some_left (u ∷ units) zero unit is = omega arith
some_left (u ∷ units) (suc n) unit is = omega (arith, some_left units n unit is)

pub room_left : {A : Type 0} (f : A → Routine) (found : Option A) (units : List Routine) (n : ℕ) → option_map f found ≡ slice_get units n → is_some found ≡ false → length units ≤ n
room_left f None units n is none = none_left units n (sym is)
room_left f (Some x) units n is none = absurd (cc)

pub no_room : {A : Type 0} (f : A → Routine) (found : Option A) (units : List Routine) (n : ℕ) → option_map f found ≡ slice_get units n → is_some found ≡ true → n < length units
no_room f None units n is some = absurd (cc)
no_room f (Some x) units n is some = some_left units n (f x) (sym is)

-- ---- what calls on units give

abbrev kept_of : Targets → List Routine → Workspace
kept_of targets units = record { targets = targets; units = units }

pub dropped : (targets : Targets) (units new : List Routine) (kept : Workspace) (text : List ℕ) (t : Template) → kept_of targets units ≡ kept → new ≡ without_unit t units → template_text t ≡ text
    → kept_of targets new ≡ kept_of kept.targets (without_named text kept.units)
dropped targets units new kept text t view is written =
    ap (kept_of targets) (is ∙ without_by_text t units ∙ ap (λ (s : List ℕ). without_named s units) written) ∙ ap (λ (w : Workspace). kept_of w.targets (without_named text w.units)) view

some_mapped : {A : Type 0} (f : A → Routine) (found : Option A) → is_some (option_map f found) ≡ is_some found
some_mapped f None = refl
some_mapped f (Some x) = refl

pub is_there : {A : Type 0} (f : A → Routine) (found : Option A) (b c : Bool) (old : Option Routine) → option_map f found ≡ old → b ≡ is_some found → b ≡ c → is_some old ≡ c
is_there f found b c old e told is = ap is_some (sym e) ∙ some_mapped f found ∙ sym told ∙ is
