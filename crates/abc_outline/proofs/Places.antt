-- The outline, one line further.
use Rattle.std.proofs.Common.{◌≡◌, ◌≤◌, ℕ, suc, ◌+◌, Bool, true, false, List, [], ◌∷◌, length, Option, Some, refl, ap, sym, ◌∙◌, arith}
use Rattle.std.specs.Prelude.{nat_lt, if◌then◌else◌}
use Rattle.std.proofs.lemmas.Bool.Decides.{nat_tests}
use Rattle.abc_outline.specs.declared.edges.Edges.{Edges}
use Rattle.abc_outline.specs.declared.edges.Role.{Role}
use Rattle.abc_outline.specs.declared.edges.Role.TheVariants as role
use Rattle.abc_outline.specs.declared.edges.Section.{Section}
use Rattle.abc_outline.specs.declared.edges.Setting.{Setting}
use Rattle.abc_outline.specs.declared.edges.Standing.{Standing}
use Rattle.abc_outline.specs.declared.edges.Place.{Place}
use Rattle.abc_outline.specs.declared.outlining.Outline.{Outline}
use Rattle.abc_outline.specs.Outline.{around, begins_at, chain, last, left, next_number, not_deeper, opens_select, outline_of, place_of, role_by, role_of, round_by, section_by, section_of, standing, stands_at, suites, suites_at, suites_below}

-- ---- lines that are left in two steps

not_both : (n i : ℕ) → nat_lt n i ≡ true → nat_lt i n ≡ false
not_both n i h = grind (arith, nat_tests)

pub left_not_deeper : (n : ℕ) (around : List Standing) → left n (not_deeper n around) ≡ left n around
left_not_deeper n [] = refl
left_not_deeper n (line ∷ around) = step (nat_lt n line.edges.indent) refl (left_not_deeper n around)
  where
    step : (b : Bool) → nat_lt n line.edges.indent ≡ b → left n (not_deeper n around) ≡ left n around → left n (if b then not_deeper n around else line ∷ around) ≡ left n (line ∷ around)
    step true e h = h ∙ sym (ap (λ c. if c then line ∷ around else left n around) (not_both n line.edges.indent e))
    step false e h = refl

-- ---- there are no more suites and headings than lines

unfoldable AreFew : ℕ → List Standing → Type 0
AreFew m [] = Unit {0}
AreFew m (line ∷ around) = (line.suites ≤ m) × AreFew m around

few_left : (m n : ℕ) (around : List Standing) → AreFew m around → AreFew m (left n around)
unfolding AreFew
few_left m n [] f = tt
few_left m n (line ∷ around) f = step (nat_lt line.edges.indent n) (few_left m n around f.1)
  where
    step : (b : Bool) → AreFew m (left n around) → AreFew m (if b then line ∷ around else left n around)
    step true h = f
    step false h = h

few_more : (m : ℕ) (around : List Standing) → AreFew m around → AreFew (suc m) around
unfolding AreFew
few_more m [] f = tt
few_more m (line ∷ around) f = (omega (arith, f.0), few_more m around f.1)

few_round : (m : ℕ) (r : Role) (around : List Standing) → AreFew m around → AreFew m (round_by r around)
unfolding AreFew
few_round m role.RefinementHeading around f = tt
few_round m role.UnitHeading around f = f
few_round m role.Alternative around f = f
few_round m role.Command around f = f

few_suites : (m : ℕ) (around : List Standing) → AreFew m around → suites around ≤ m
unfolding AreFew
few_suites m [] f = omega arith
few_suites m (line ∷ around) f = f.0

one_more : (line : Edges) (r : Role) (n : ℕ) → suites_below line r n ≤ n + 1
one_more line role.RefinementHeading n = omega arith
one_more line role.UnitHeading n = omega arith
one_more line role.Alternative n = omega arith
one_more line role.Command n = step (opens_select line role.Command)
  where
    step : (b : Bool) → (if b then n else n + 1) ≤ n + 1
    step true = omega arith
    step false = omega arith

few_chain : (setting : Setting) (above : List Edges) → AreFew (length above) (chain setting above)
unfolding AreFew
few_chain setting [] = tt
few_chain setting (line ∷ above) =
    let round = round_by (role_of setting above line) (left line.indent (chain setting above)) in
    let f = few_round (length above) (role_of setting above line) (left line.indent (chain setting above)) (few_left (length above) line.indent (chain setting above) (few_chain setting above)) in
    let s = few_suites (length above) round f in
    let o = one_more line (role_of setting above line) (suites round) in
    (omega (arith, s, o), few_more (length above) round f)

pub few_suites_round : (setting : Setting) (r : Role) (n : ℕ) (above : List Edges) → suites (round_by r (left n (chain setting above))) ≤ length above
few_suites_round setting r n above =
    few_suites (length above) (round_by r (left n (chain setting above))) (few_round (length above) r (left n (chain setting above)) (few_left (length above) n (chain setting above) (few_chain setting above)))

one_section : (r : Role) (line : Edges) (s : Option Section) → next_number (section_by r line s) ≤ next_number s + 1
one_section role.RefinementHeading line s = omega arith
one_section role.UnitHeading line s = omega arith
one_section role.Alternative line s = omega arith
one_section role.Command line s = omega arith

pub few_sections : (setting : Setting) (above : List Edges) → next_number (section_of setting above) ≤ length above
few_sections setting [] = omega arith
few_sections setting (line ∷ above) =
    let o = one_section (role_of setting above line) line (section_of setting above) in
    let f = few_sections setting above in
    omega (arith, o, f)

-- ---- the next place, by its parts

module _ (setting : Setting) (above : List Edges) (line : Edges) (old : Outline) (e : old ≡ outline_of setting above) (mid round kept : List Standing)
    (level : Bool) (count : ℕ) (r : Role) (section : Option Section)
    (m : mid ≡ not_deeper line.indent old.around) (a : round ≡ left line.indent mid) (l : level ≡ begins_at line.indent mid) (k : kept ≡ round_by r round) (c : count ≡ suites kept)
    (is : r ≡ role_by old.setting old.before round line) (s : section ≡ section_by r line old.section) where
  mid_is : mid ≡ not_deeper line.indent (chain setting above)
  mid_is = m ∙ ap (λ (o : Outline). not_deeper line.indent o.around) e

  round_is : round ≡ left line.indent (chain setting above)
  round_is = a ∙ ap (left line.indent) mid_is ∙ left_not_deeper line.indent (chain setting above)

  role_is : r ≡ role_of setting above line
  role_is = is ∙ ap (λ (o : Outline). role_by o.setting o.before round line) e ∙ ap (λ xs. role_by setting (last above) xs line) round_is

  kept_is : kept ≡ round_by (role_of setting above line) (left line.indent (chain setting above))
  kept_is = k ∙ ap (λ q. round_by q round) role_is ∙ ap (round_by (role_of setting above line)) round_is

  section_is : section ≡ section_of setting (line ∷ above)
  section_is = s ∙ ap (λ (o : Outline). section_by r line o.section) e ∙ ap (λ q. section_by q line (section_of setting above)) role_is

  pub next_place : ◌≡◌ {A = Place} (record { number = old.number + 1; before = old.before; level = level; suites = count; role = r; section = section }) (place_of setting above line)
  next_place =
      ap (λ (o : Outline). record { number = o.number + 1; before = o.before; level = level; suites = count; role = r; section = section }) e
      ∙ ap (λ b. record { number = length above + 1; before = last above; level = b; suites = count; role = r; section = section }) (l ∙ ap (begins_at line.indent) mid_is)
      ∙ ap (λ n. record { number = length above + 1; before = last above; level = stands_at line.indent (chain setting above); suites = n; role = r; section = section }) (c ∙ ap suites kept_is)
      ∙ ap (λ q. record { number = length above + 1; before = last above; level = stands_at line.indent (chain setting above); suites = suites_at setting above line; role = q; section = section }) role_is
      ∙ ap (λ q. record { number = length above + 1; before = last above; level = stands_at line.indent (chain setting above); suites = suites_at setting above line; role = role_of setting above line; section = q }) section_is

  pub next_outline : (new : List Standing) (below : ℕ) → below ≡ suites_below line r count → new ≡ record { edges = line; role = r; suites = below } ∷ kept
      → ◌≡◌ {A = Outline} (record { setting = old.setting; number = old.number + 1; before = Some line; section = section; around = new }) (outline_of setting (line ∷ above))
  next_outline new below b n =
      ap (λ (o : Outline). record { setting = o.setting; number = o.number + 1; before = Some line; section = section; around = new }) e
      ∙ ap (λ k. record { setting = setting; number = k; before = Some line; section = section; around = new }) (one_line above)
      ∙ ap (λ q. record { setting = setting; number = suc (length above); before = Some line; section = q; around = new }) section_is
      ∙ ap (λ xs. record { setting = setting; number = suc (length above); before = Some line; section = section_of setting (line ∷ above); around = xs }) chain_is
    where
      one_line : (above : List Edges) → length above + 1 ≡ suc (length above)
      one_line above = omega arith

      chain_is : new ≡ chain setting (line ∷ above)
      chain_is =
          n ∙ ap (λ k. record { edges = line; role = r; suites = k } ∷ kept) (b ∙ ap (suites_below line r) c)
          ∙ ap (λ q. record { edges = line; role = q; suites = suites_below line q (suites kept) } ∷ kept) role_is
          ∙ ap (λ xs. standing line (role_of setting above line) xs) kept_is
