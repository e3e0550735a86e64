-- With fewer units, and with fewer lines of them, each unit may have the signatures that it may have with all.
use Rattle.std.proofs.Common.{◌≡◌, ◌∙◌, ◌<◌, ◌≤◌, inl, inr, ℕ, zero, suc, List, map, length, is_some, ap, sym, subst, refl, arith}
use Rattle.std.specs.Prelude.{Option, Some, None, IsSome}
use Rattle.std.specs.List.{Contains}
use Rattle.abc_num.specs.declared.types.Ground.{Ground}
use Rattle.abc_tree.specs.Calls.{called_upto, unit_nodes}
use Rattle.abc_tree.specs.Templates.{template_text}
use Rattle.abc_tree.specs.declared.templates.Template.{Template}
use Rattle.abc_tree.specs.declared.commands.Command.{Command}
use Rattle.abc_tree.specs.declared.commands.Unit.{Unit as Routine}
use Rattle.abc_ground.specs.Fits.{Signature}
use Rattle.abc_ground.specs.Calls.{any_allowed}
use Rattle.abc_ground.specs.Groups.{Cut, cut_of, template_of, called, Way, LeadsTo, AreTogether}
use Rattle.abc_ground.specs.Items.{UnitFits}
use Rattle.abc_ground.specs.Typable.{IsUsed, FitsAt, MayWithin, May, IsOffered, Values, AreTypes, IsTypable, IsTypableWith}
use Rattle.abc_fewer.specs.Fewer.{AreFewer}
use Rattle.abc_fewer.proofs.Among.{Decided, Texts, map_contains, no_element, others, other_stays, fewer_others}
use Rattle.abc_fewer.proofs.Fitting.{Gives, unit_turns, command_turns}
use Rattle.abc_fewer.proofs.Nodes.{nodes_called, called_fewer}
use Rattle.abc_fewer.proofs.Ways.{cut_found, leads_to_text, leads_then, leads_itself, one_call, together_then, together_decided}

some_cut : (o : Option Cut) → IsSome o → (c : Cut) × (o ≡ Some c)
some_cut None h = absurd (cc)
some_cut (Some c) h = (c, refl)

is_there : (o : Option Cut) (c : Cut) → o ≡ Some c → IsSome o
is_there o c e = ap is_some e

not_there : (o : Option Cut) → o ≡ None → IsSome o → ⊥
not_there o e h = let c : (c : Cut) × (o ≡ Some c) = some_cut o h in let f : Some c.0 ≡ None = sym c.1 ∙ e in cc

module _ (low high : List Cut) (fewer : AreFewer low high) where
  there_too : (t : Template) → IsSome (cut_of t low) → IsSome (cut_of t high)
  there_too t there =
      let c : (c : Cut) × (cut_of t low ≡ Some c) = some_cut (cut_of t low) there in
      let d : (d : Cut) × (cut_of t high ≡ Some d) × (d.unit ≡ c.0.unit) × (c.0.lines ≤ d.lines) = fewer t c.0 c.1 in
      is_there (cut_of t high) d.0 d.1

  -- ---- what leads to each other does so with all

  way_more : (n : ℕ) (a b : Template) → Way low n a b → LeadsTo high a b
  way_more zero a b e = (zero, e)
  way_more (suc n) a b (c, at, way) = by_cut (cut_of a low) refl (way_more n c b way)
    where
      by_cut : (o : Option Cut) → cut_of a low ≡ o → LeadsTo high c b → LeadsTo high a b
      by_cut None is rest = absurd (no_element c (subst (λ (o : Option Cut). Contains (called o) c) is at))
      by_cut (Some x) is rest =
          let d : (d : Cut) × (cut_of a high ≡ Some d) × (d.unit ≡ x.unit) × (x.lines ≤ d.lines) = fewer a x is in
          let noted : Contains (map template_text (called_upto d.0.lines x.unit)) (template_text c) = called_fewer x.lines d.0.lines d.3 x.unit c (subst (λ (o : Option Cut). Contains (called o) c) is at) in
          let here : Contains (map template_text (called (cut_of a high))) (template_text c) =
          subst (λ (o : Option Cut). Contains (map template_text (called o)) (template_text c)) (sym d.1) (subst (λ (r : Routine). Contains (map template_text (called_upto d.0.lines r)) (template_text c)) (sym d.2) noted) in
          leads_then high a c b (one_call high a c here) rest

  together_more : (a b : Template) → AreTogether low a b → AreTogether high a b
  together_more a b t = (way_more t.0.0 a b t.0.1, way_more t.1.0 b a t.1.1)

  -- a unit leads to what stands in it as a call
  leads_node : (m : Template) (c : Cut) (u : Template) → cut_of m low ≡ Some c → Contains (unit_nodes c.lines c.unit) u → LeadsTo low m u
  leads_node m c u is at =
      one_call low m u (subst (λ (o : Option Cut). Contains (map template_text (called o)) (template_text u)) (sym is) (nodes_called c.lines c.unit u at))

  -- all units that t leads to are among these
  abbrev Within : Texts → Template → Type 0
  Within ts t = (u : Template) → IsSome (cut_of u low) → LeadsTo low t u → Contains ts (template_text u)

  -- what is called from outside the group of t does not lead back to it
  within_others : (ts : Texts) (t u : Template) → Within ts t → LeadsTo low t u → (AreTogether low t u → ⊥) → Within (others (template_text t) ts) u
  within_others ts t u within leads apart v there more =
      other_stays (template_text t) ts (template_text v) (within v there (leads_then low t u v leads more)) (λ e. apart (leads, leads_to_text low u v t (sym e) more))

  module _ (targets : List ℕ → Ground) where
    abbrev HighMay : ℕ → Template → Signature → Type 0
    HighMay n u g = MayWithin high targets n u g

    abbrev LowMay : ℕ → Template → Signature → Type 0
    LowMay k u g = MayWithin low targets k u g

    -- with all, each member of a group has its signature
    moved : (member : Template → Signature) (may : Template → Signature → Type 0) (t u : Template) → AreTogether high t u → (v : Template) (o : Option Signature) → IsUsed high t member may v o → IsUsed high u member may v o
    moved member may t u both v o used = record {
      missing = used.missing;
      inside = λ some together. used.inside some (together_then high t u v both together);
      outside = λ some apart. used.outside some (λ together. apart (together_then high u t v (both.1, both.0) together));
    }

    fits_moved : (member : Template → Signature) (may : Template → Signature → Type 0) (t u : Template) → AreTogether high t u → (c : Cut) (s : Signature)
        → FitsAt high targets (λ v o. IsUsed high t member may v o) c s → FitsAt high targets (λ v o. IsUsed high u member may v o) c s
    fits_moved member may t u both c s h = (
      h.0,
      (
        h.1.0,
        unit_turns (λ v o. IsUsed high t member may v o) (λ v o. IsUsed high u member may v o) targets c.lines c.lines (omega arith) c.unit h.1.0 s (λ v at o used. (o, moved member may t u both v o used, inl refl)) h.1.1,
      ),
    )

    member_may : (n : ℕ) (t u : Template) (s : Signature) (h : HighMay (suc n) t s) → IsSome (cut_of u high) → AreTogether high t u → HighMay (suc n) u (h.1.0 u)
    member_may n t u s h there both =
        (there, (h.1.0, refl, λ m c together is. fits_moved h.1.0 (HighMay n) t u both c (h.1.0 m) (h.1.2 m c (together_then high t u m both together) is)))

    -- Of which fewer than k units are reached may have what it may have with all, over at most k groups.
    abbrev Stays : ℕ → Type 0
    Stays k = (n : ℕ) (t : Template) (s : Signature) (ts : Texts) → length ts < k → Within ts t → IsSome (cut_of t low) → HighMay n t s → LowMay k t s

    module _ (k : ℕ) (stays : Stays k) (n : ℕ) (t : Template) (s : Signature) (ts : Texts) (few : length ts ≤ k) (within : Within ts t) (there : IsSome (cut_of t low)) (h : HighMay (suc n) t s) where
      abbrev Before : Template → Option Signature → Type 0
      Before u o = IsUsed high t h.1.0 (HighMay n) u o

      abbrev After : Template → Option Signature → Type 0
      After u o = IsUsed low t h.1.0 (LowMay k) u o

      -- a call that leaves the group
      leaving : (u : Template) (o : Option Signature) → IsSome (cut_of u low) → LeadsTo low t u → (AreTogether low t u → ⊥) → Before u o → (g : Signature) × (o ≡ Some g) × LowMay k u g
      leaving u o some leads apart used = by_group (together_decided high t u)
        where
          stay : (i : ℕ) (g : Signature) → HighMay i u g → LowMay k u g
          stay i g may =
              let less : length (others (template_text t) ts) < length ts = fewer_others (template_text t) ts (within t there (leads_itself low t)) in
              stays i u g (others (template_text t) ts) (omega (arith, less, few)) (within_others ts t u within leads apart) some may

          by_group : Decided (AreTogether high t u) → (g : Signature) × (o ≡ Some g) × LowMay k u g
          by_group (inl both) = (h.1.0 u, used.inside (there_too u some) both, stay (suc n) (h.1.0 u) (member_may n t u s h (there_too u some) both))
          by_group (inr never) =
              let r : (g : Signature) × (o ≡ Some g) × HighMay n u g = used.outside (there_too u some) never in
              (r.0, r.1, stay n r.0 r.2)

      used_low : (u : Template) (o : Option Signature) → LeadsTo low t u → Before u o → Gives Before After u o
      used_low u o leads used = by_cut (cut_of u low) refl
        where
          by_cut : (x : Option Cut) → cut_of u low ≡ x → Gives Before After u o
          by_cut None is =
              (None, record { missing = λ none. refl; inside = λ some together. absurd (not_there (cut_of u low) is some); outside = λ some apart. absurd (not_there (cut_of u low) is some) }, inr refl)
          by_cut (Some c) is = (
            o,
            record {
              missing = λ none. absurd (not_there (cut_of u low) none (is_there (cut_of u low) c is));
              inside = λ some together. used.inside (there_too u some) (together_more t u together);
              outside = λ some apart. leaving u o some leads apart used;
            },
            inl refl,
          )

      member_fits : (m : Template) (c : Cut) → AreTogether low t m → cut_of m low ≡ Some c → FitsAt low targets After c (h.1.0 m)
      member_fits m c together is =
          let d : (d : Cut) × (cut_of m high ≡ Some d) × (d.unit ≡ c.unit) × (c.lines ≤ d.lines) = fewer m c is in
          let f : FitsAt high targets Before d.0 (h.1.0 m) = h.1.2 m d.0 (together_more t m together) d.1 in (
            f.0,
            (
              f.1.0,
              unit_turns Before After targets c.lines d.0.lines d.3 c.unit f.1.0 (h.1.0 m) (λ u at o used. used_low u o (leads_then low t m u together.0 (leads_node m c u is at)) used)
                  (subst (λ (r : Routine). UnitFits (any_allowed Before) targets d.0.lines r f.1.0 (h.1.0 m) tt tt) d.2 f.1.1),
            ),
          )

      next_stays : LowMay (suc k) t s
      next_stays = (there, (h.1.0, h.1.1, member_fits))

    stays_within : (k : ℕ) → Stays k
    stays_within zero n t s ts few within there h = absurd (omega (arith, few))
    stays_within (suc k) zero t s ts few within there h = absurd h
    stays_within (suc k) (suc n) t s ts few within there h = next_stays k (stays_within k) n t s ts (omega (arith, few)) within there h

    -- the texts of all units
    abbrev all_texts : Texts
    all_texts = map (λ (c : Cut). template_text (template_of c)) low

    all_within : (t : Template) → Within all_texts t
    all_within t u there leads =
        let c : (c : Cut) × (cut_of u low ≡ Some c) = some_cut (cut_of u low) there in
        let found : Contains low c.0 × (template_text u ≡ template_text (template_of c.0)) = cut_found low u c.0 c.1 in
        subst (λ s. Contains all_texts s) (sym found.1) (map_contains (λ (d : Cut). template_text (template_of d)) low c.0 found.0)

    may_stay : (t : Template) (s : Signature) → IsSome (cut_of t low) → May high targets t s → May low targets t s
    may_stay t s there (n, h) = (suc (length all_texts), stays_within (suc (length all_texts)) n t s all_texts (omega arith) (all_within t) there h)

    offered_stays : (t : Template) (o : Option Signature) → IsOffered high targets t o → Gives (λ u p. IsOffered high targets u p) (λ u p. IsOffered low targets u p) t o
    offered_stays t o offered = by_cut (cut_of t low) refl
      where
        by_cut : (x : Option Cut) → cut_of t low ≡ x → Gives (λ u p. IsOffered high targets u p) (λ u p. IsOffered low targets u p) t o
        by_cut None is = (None, record { missing = λ none. refl; there = λ some. absurd (not_there (cut_of t low) is some) }, inr refl)
        by_cut (Some c) is = (
          o,
          record {
            missing = λ none. absurd (not_there (cut_of t low) none (is_there (cut_of t low) c is));
            there = λ some. let r : (g : Signature) × (o ≡ Some g) × May high targets t g = offered.there (there_too t some) in (r.0, r.1, may_stay t r.0 some r.2);
          },
          inl refl,
        )

  pub types_stay : (values : Values) (targets : List ℕ → Ground) → AreTypes values high targets → AreTypes values low targets
  types_stay values targets types = record {
    proper = types.proper;
    held = types.held;
    units = λ t some. let m : (s : Signature) × May high targets t s = types.units t (there_too t some) in (m.0, may_stay targets t m.0 some m.1);
  }

  pub typable_stays : (values : Values) → IsTypable values high → IsTypable values low
  typable_stays values (targets, types) = (targets, types_stay values targets types)

  pub command_stays : (values : Values) (c : Command) (m n : ℕ) → m ≤ n → IsTypableWith values high c n → IsTypableWith values low c m
  command_stays values c m n le (targets, types, (g, h)) = (
    targets,
    types_stay values targets types,
    (g, command_turns (λ t o. IsOffered high targets t o) (λ t o. IsOffered low targets t o) targets m n le c g (λ t at o offered. offered_stays targets t o offered) h),
  )
