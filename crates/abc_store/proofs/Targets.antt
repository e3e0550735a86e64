-- Changes of targets: what they make, and that those of a workspace can be spelled.
use Rattle.std.proofs.Common.{◌≡◌, ℕ, zero, suc, ◌+◌, ◌*◌, ◌^◌, ◌<◌, ◌≤◌, length, map, Bool, true, false, cond, ◌||◌, is_some, List, [], ◌∷◌, ◌++◌, Option, None, Some, refl, sym, ap, ◌∙◌, subst, arith, length-append}
use Rattle.std.specs.Prelude.{Result, Ok, Err, IfOk}
use Rattle.std.specs.List.{AllByRecursion}
use Rattle.std.specs.List.Sorted.{IsStrictlySortedBy}
use Rattle.std.specs.declared.cmp.Ordering.{Ordering}
use Rattle.std.specs.declared.cmp.Ordering.TheVariants.{Less, Equal, Greater}
use Rattle.std.specs.Ordering.{is_eq, match_ordering}
use Rattle.std.proofs.lemmas.List.Concat.{flat_map-cons}
use Rattle.abc_num.specs.Text.{text_cmp}
use Rattle.abc_value.specs.Tree.{Tree}
use Rattle.abc_value.specs.Regular.{IsRegular}
use Rattle.abc_value.proofs.trees.Making.{regular_sizes}
use Rattle.abc_frames.specs.declared.targets.TargetChange.{TargetChange}
use Rattle.abc_frames.specs.Maps.{Targets, AreRising, AreRegular, with_value, without, is_same, told, changes_of, applied}
use Rattle.abc_frames.specs.inner.Merging.{History, front_of, behind, IsRegularIfAny}
use Rattle.abc_frames.proofs.Merging.{IsFront, kept, first, front, front_changes, rising_behind}
use Rattle.abc_frames.proofs.Applying.{all_applied, fewer, regular_behind}
use Rattle.abc_record.specs.declared.change.Change.{Change}
use Rattle.abc_record.specs.Spelling.{spelled_change, spelled_changes}
use Rattle.abc_record.specs.Kept.{IsKeptName, IsKept, AreKept}
use Rattle.abc_record.proofs.Weights.{set_target_long}
use Rattle.abc_num.specs.declared.limits.TheConstants.{MOST_TARGETS}
use Rattle.abc_store.specs.Workspace.{Workspace, empty, changed_by, AreNamed, set_target, as_change, with_targets, changes_between}

-- ---- what changes make

by_state : (name : List ℕ) (value : Option Tree) (cs : List TargetChange) (ws : Workspace) → ((later : Workspace) → changed_by (map as_change cs) later ≡ Some (with_targets later (applied cs later.targets)))
    → changed_by (map as_change (record { name = name; value = value } ∷ cs)) ws ≡ Some (with_targets ws (applied (record { name = name; value = value } ∷ cs) ws.targets))
by_state name None cs ws later = later (with_targets ws (without name ws.targets))
by_state name (Some value) cs ws later = later (with_targets ws (with_value name value ws.targets))

all_told : (cs : List TargetChange) (ws : Workspace) → changed_by (map as_change cs) ws ≡ Some (with_targets ws (applied cs ws.targets))
all_told [] ws = refl
all_told (c ∷ cs) ws = by_state c.name c.value cs ws (all_told cs)

-- the changes between targets lead to these, with the units that are there
pub lead_to_targets : (before : Workspace) (after : Targets) → AreRising before.targets → AreRising after → AreRegular before.targets → AreRegular after
    → changed_by (changes_between before (with_targets before after)) before ≡ Some (with_targets before after)
lead_to_targets before after s t r q =
    all_told (changes_of before.targets after) before ∙ ap (λ (ts : Targets). Some (with_targets before ts)) (all_applied before.targets after s t r q)

pub lead_there : (before after : Workspace) → AreRising before.targets → AreRising after.targets → AreRegular before.targets → AreRegular after.targets → before.units ≡ after.units
    → changed_by (changes_between before after) before ≡ Some after
lead_there before after s t r q units =
    lead_to_targets before after.targets s t r q ∙ ap (λ us. Some (record { targets = after.targets; units = us })) units

-- all targets, told of none
pub all_of_none : (ts : Targets) → AreRising ts → map as_change (changes_of [] ts) ≡ map set_target ts
unfolding IsStrictlySortedBy
all_of_none [] s = refl
all_of_none (e ∷ es) s =
    ap (map as_change) (front_changes [] (e ∷ es) (e.0, None, Some e.1) [] es (record { before_is = refl; after_is = refl; below_olds = tt; below_news = s.0; some = refl }) tt)
    ∙ ap (λ (cs : List Change). set_target e ∷ cs) (all_of_none es s.1)

pub all_set : (targets : Targets) → AreRising targets → AreRegular targets → changed_by (map set_target targets) empty ≡ Some (record { targets = targets; units = [] })
unfolding IsStrictlySortedBy
all_set targets s r =
    ap (λ (cs : List Change). changed_by cs empty) (sym (all_of_none targets s)) ∙ lead_to_targets empty targets tt s tt r

-- ---- names stay those that can be spelled

set_named : (o : Ordering) (e : List ℕ × Tree) (es later : Targets) (k : List ℕ) (v : Tree) → IsKeptName e.0 → AreNamed es → IsKeptName k → AreNamed later
    → AreNamed (match_ordering o ((k, v) ∷ e ∷ es) ((e.0, v) ∷ es) (e ∷ later))
set_named Less e es later k v f a p l = (p, (f, a))
set_named Equal e es later k v f a p l = (f, a)
set_named Greater e es later k v f a p l = (f, l)

pub named_with : (k : List ℕ) (v : Tree) (ts : Targets) → IsKeptName k → AreNamed ts → AreNamed (with_value k v ts)
named_with k v [] p a = (p, tt)
named_with k v (e ∷ es) p a = set_named (text_cmp k e.0) e es (with_value k v es) k v a.0 a.1 p (named_with k v es p a.1)

left_named : (b : Bool) (e : List ℕ × Tree) (es later : Targets) → IsKeptName e.0 → AreNamed es → AreNamed later → AreNamed (cond b es (e ∷ later))
left_named true e es later f a l = a
left_named false e es later f a l = (f, l)

pub named_without : (k : List ℕ) (ts : Targets) → AreNamed ts → AreNamed (without k ts)
named_without k [] a = tt
named_without k (e ∷ es) a = left_named (is_eq (text_cmp k e.0)) e es (without k es) a.0 a.1 (named_without k es a.1)

-- ---- values stay regular

set_regular : (o : Ordering) (e : List ℕ × Tree) (es later : Targets) (k : List ℕ) (v : Tree) → IsRegular e.1 → AreRegular es → IsRegular v → AreRegular later
    → AreRegular (match_ordering o ((k, v) ∷ e ∷ es) ((e.0, v) ∷ es) (e ∷ later))
set_regular Less e es later k v f a p l = (p, (f, a))
set_regular Equal e es later k v f a p l = (p, a)
set_regular Greater e es later k v f a p l = (f, l)

pub regular_with : (k : List ℕ) (v : Tree) (ts : Targets) → IsRegular v → AreRegular ts → AreRegular (with_value k v ts)
regular_with k v [] p a = (p, tt)
regular_with k v (e ∷ es) p a = set_regular (text_cmp k e.0) e es (with_value k v es) k v a.0 a.1 p (regular_with k v es p a.1)

left_regular : (b : Bool) (e : List ℕ × Tree) (es later : Targets) → IsRegular e.1 → AreRegular es → AreRegular later → AreRegular (cond b es (e ∷ later))
left_regular true e es later f a l = a
left_regular false e es later f a l = (f, l)

pub regular_without : (k : List ℕ) (ts : Targets) → AreRegular ts → AreRegular (without k ts)
regular_without k [] a = tt
regular_without k (e ∷ es) a = left_regular (is_eq (text_cmp k e.0)) e es (without k es) a.0 a.1 (regular_without k es a.1)

-- ---- all targets are spelled

pub each_kept : (ts : Targets) → AreNamed ts → AreRegular ts → AllByRecursion IsKept (map set_target ts)
each_kept [] a r = tt
each_kept (e ∷ es) a r = ((a.0, r.0), each_kept es a.1 r.1)

pub so_many : (ts : Targets) → length (map set_target ts) ≡ length ts
so_many [] = refl
so_many (e ∷ es) = ap suc (so_many es)

pub all_short : (ts : Targets) → AreNamed ts → AreRegular ts → length (spelled_changes (map set_target ts)) ≤ length ts * (5 + 4096 + 2 ^ 28)
all_short [] a r = omega arith
all_short (e ∷ es) a r =
    omega (
      arith,
      all_short es a.1 r.1,
      ap length (flat_map-cons spelled_change (set_target e) (map set_target es)),
      length-append (spelled_change (set_target e)) (spelled_changes (map set_target es)),
      set_target_long e.0 e.1,
      a.0.1,
      (regular_sizes e.1 r.0).1,
    )

-- ---- the changes between two workspaces are spelled

front_named : (n : List ℕ) (was now : Option Tree) (olds news : Targets) → (is_some was || is_some now) ≡ true → AreNamed (kept n was ++ olds) → AreNamed (kept n now ++ news) → IsKeptName n
front_named n None None olds news e a b = absurd (cc)
front_named n (Some v) now olds news e a b = a.0
front_named n None (Some w) olds news e a b = b.0

rest_named : (n : List ℕ) (o : Option Tree) (es : Targets) → AreNamed (kept n o ++ es) → AreNamed es
rest_named n None es a = a
rest_named n (Some v) es a = a.1

front_regular : (n : List ℕ) (o : Option Tree) (es : Targets) → AreRegular (kept n o ++ es) → IsRegularIfAny o
front_regular n None es r = tt
front_regular n (Some v) es r = r.0

-- the changes are no more than the targets of both, and each is spelled
record AreSpelled (before after : Targets) : Type 0 where
  few : length (changes_of before after) ≤ length before + length after
  each : AllByRecursion IsKept (map as_change (changes_of before after))

one_kept : (n : List ℕ) (same : Bool) (now : Option Tree) (cs : List TargetChange) → IsKeptName n → IsRegularIfAny now → AllByRecursion IsKept (map as_change cs)
    → AllByRecursion IsKept (map as_change (cond same [] (record { name = n; value = now } ∷ []) ++ cs))
one_kept n true now cs p r a = a
one_kept n false None cs p r a = (p, a)
one_kept n false (Some v) cs p r a = ((p, r), a)

one_few : (n : List ℕ) (same : Bool) (now : Option Tree) (cs : List TargetChange) → length (cond same [] (record { name = n; value = now } ∷ []) ++ cs) ≤ suc (length cs)
one_few n true now cs = omega arith
one_few n false now cs = omega arith

turn : (before after : Targets) (h : History) (olds news : Targets) → IsFront before after h olds news → AreRising olds → AreNamed before → AreNamed after → AreRegular after
    → AreSpelled olds news → AreSpelled before after
turn before after h olds news f s a b q later =
    let name : IsKeptName h.0 = front_named h.0 h.1 h.2 olds news f.some (subst AreNamed f.before_is a) (subst AreNamed f.after_is b) in
    let now : IsRegularIfAny h.2 = front_regular h.0 h.2 news (subst AreRegular f.after_is q) in
    let is = front_changes before after h olds news f s in
    record {
      few = omega (arith, ap length is, one_few h.0 (is_same h.1 h.2) h.2 (changes_of olds news), later.few, fewer before after h olds news f);
      each = subst (λ (cs : List TargetChange). AllByRecursion IsKept (map as_change cs)) (sym is) (one_kept h.0 (is_same h.1 h.2) h.2 (changes_of olds news) name now later.each);
    }

by_front : (turns : ℕ) (before after : Targets) → length before + length after < turns → AreRising before → AreRising after → AreNamed before → AreNamed after → AreRegular before → AreRegular after
    → (o : Option History) → front_of (first before) (first after) ≡ o → AreSpelled before after
by_front zero before after h s t a b r q o e = absurd (omega arith)
by_front (suc turns) [] [] h s t a b r q None e = record { few = omega arith; each = tt }
by_front (suc turns) (x ∷ xs) [] h s t a b r q None e = absurd (cc)
by_front (suc turns) [] (y ∷ ys) h s t a b r q None e = absurd (cc)
by_front (suc turns) (x ∷ xs) (y ∷ ys) h s t a b r q None e = absurd (cc)
by_front (suc turns) before after h s t a b r q (Some k) e =
    let f = front before after k s t (sym e) in
    let olds = behind k.1 before in
    let news = behind k.2 after in
    turn before after k olds news f (rising_behind k.1 before s) a b q
    (by_front turns olds news (omega (arith, fewer before after k olds news f)) (rising_behind k.1 before s) (rising_behind k.2 after t)
    (rest_named k.0 k.1 olds (subst AreNamed f.before_is a)) (rest_named k.0 k.2 news (subst AreNamed f.after_is b)) (regular_behind k.1 before r) (regular_behind k.2 after q) (front_of (first olds) (first news)) refl)

told_many : (cs : List TargetChange) → length (map as_change cs) ≡ length cs
told_many [] = refl
told_many (c ∷ cs) = ap suc (told_many cs)

pub between_kept : (before after : Targets) → AreNamed before → AreNamed after → length before ≤ MOST_TARGETS → length after ≤ MOST_TARGETS → AreRising before → AreRising after → AreRegular before → AreRegular after
    → AreKept (map as_change (changes_of before after))
between_kept before after a b few most s t r q =
    let all = by_front (suc (length before + length after)) before after (omega arith) s t a b r q (front_of (first before) (first after)) refl in
    (omega (arith, told_many (changes_of before after), all.few, few, most), all.each)

-- ---- what calls give

pub all_given : {A E : Type 0} (items : A → List Change) (r : Result A E) (cs : List TargetChange) (ts : Targets) → IfOk r (λ v. items v ≡ map as_change cs) → cs ≡ changes_of [] ts → AreRising ts
    → IfOk r (λ v. items v ≡ map set_target ts)
all_given items (Ok v) cs ts e told s = e ∙ ap (map as_change) told ∙ all_of_none ts s
all_given items (Err f) cs ts e told s = tt

pub lead_given : {A E : Type 0} (items : A → List Change) (r : Result A E) (cs : List TargetChange) (before : Workspace) (after : Targets) → IfOk r (λ v. items v ≡ map as_change cs) → cs ≡ changes_of before.targets after
    → AreRising before.targets × AreRising after → AreRegular before.targets × AreRegular after → IfOk r (λ v. changed_by (items v) before ≡ Some (with_targets before after))
lead_given items (Ok v) cs before after e told s r = ap (λ ds. changed_by ds before) (e ∙ ap (map as_change) told) ∙ lead_to_targets before after s.0 s.1 r.0 r.1
lead_given items (Err f) cs before after e told s r = tt

pub kept_given : {A E : Type 0} (items : A → List Change) (r : Result A E) (cs : List TargetChange) (before after : Targets) → IfOk r (λ v. items v ≡ map as_change cs) → cs ≡ changes_of before after
    → AreNamed before × AreNamed after → (length before ≤ MOST_TARGETS) × (length after ≤ MOST_TARGETS) → AreRising before × AreRising after → AreRegular before × AreRegular after → IfOk r (λ v. AreKept (items v))
kept_given items (Ok v) cs before after e told n l s r = subst AreKept (sym (e ∙ ap (map as_change) told)) (between_kept before after n.0 n.1 l.0 l.1 s.0 s.1 r.0 r.1)
kept_given items (Err f) cs before after e told n l s r = tt
