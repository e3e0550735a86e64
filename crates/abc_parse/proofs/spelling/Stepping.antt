-- One line more at the front: what the steps find is what the lines spell.
use Rattle.std.proofs.Common.{◌≡◌, ℕ, Bool, true, false, List, [], ◌∷◌, Option, Some, None, refl, ap, sym, ◌∙◌, subst}
use Rattle.std.specs.Prelude.{option_map, if◌then◌else◌}
use Rattle.abc_tree.specs.declared.commands.Action.{Action}
use Rattle.abc_tree.specs.declared.commands.ActionNode.{ActionNode}
use Rattle.abc_tree.specs.declared.commands.Refinement.{Refinement}
use Rattle.abc_tree.specs.declared.commands.RefinementKind.{RefinementKind}
use Rattle.abc_faults.specs.declared.sayings.Saying.{Saying}
use Rattle.abc_faults.specs.Facts.{opens}
use Rattle.abc_parse.specs.declared.cutting.Cut.{Cut}
use Rattle.abc_parse.specs.declared.parts.Part.{Part}
use Rattle.abc_parse.specs.declared.parts.Root.{Root}
use Rattle.abc_parse.specs.Parts.{commands, on}
use Rattle.abc_parse.specs.Roots.{kept, parts_of, taken}
use Rattle.abc_parse.specs.Trees.{made_alone, made_over, refined, refinement_of, root, Reads, none, Suited, Sections, same, refinement}
use Rattle.abc_parse.specs.Readings.{cut_by, made, one_more, suite_of, with_roots}
use Rattle.abc_parse.proofs.spelling.Joining.{empty_reads, not_empty_reads, one_cut, one_reading, reads_not_over, reads_not_plain, reads_over, reads_plain}

mapped : {X Y : Type 0} (f : X → Y) (o : Option X) (y : Y) → option_map f o ≡ Some y → (x : X) × (o ≡ Some x) × (f x ≡ y)
mapped f None y e = absurd cc
mapped f (Some x) y e = (x, refl, cc)

unmapped : {X Y : Type 0} (f : X → Y) (o : Option X) → option_map f o ≡ None → o ≡ None
unmapped f None e = refl
unmapped f (Some x) e = absurd cc

-- ---- parts

module _ (line : Saying) (lines : List Saying) (roots : List Root) (r : Reads lines roots) where
  pub made_reads : (new : List Root) → made line roots ≡ Some new → Reads (line ∷ lines) new
  made_reads new e = by (opens line.clause) refl e where
    by : (b : Bool) → opens line.clause ≡ b
        → (if b then option_map (λ part. root line part ∷ kept line.indent roots) (made_over line.clause (taken line.indent roots)) else option_map (λ part. root line part ∷ roots) (made_alone line.clause)) ≡ Some new
        → Reads (line ∷ lines) new
    by true o e =
        let q = mapped (λ (part : Part). root line part ∷ kept line.indent roots) (made_over line.clause (taken line.indent roots)) new e in
        subst (λ (l : List Root). Reads (line ∷ lines) l) q.2 (reads_over line lines roots q.0 r o (sym q.1))
    by false o e =
        let q = mapped (λ (part : Part). root line part ∷ roots) (made_alone line.clause) new e in
        subst (λ (l : List Root). Reads (line ∷ lines) l) q.2 (reads_plain line lines roots q.0 r (sym q.1))

  pub unmade_reads : made line roots ≡ None → (new : List Root) → Reads (line ∷ lines) new → ⊥
  unmade_reads e new s = by (opens line.clause) refl e where
    by : (b : Bool) → opens line.clause ≡ b
        → (if b then option_map (λ part. root line part ∷ kept line.indent roots) (made_over line.clause (taken line.indent roots)) else option_map (λ part. root line part ∷ roots) (made_alone line.clause)) ≡ None
        → ⊥
    by true o e = reads_not_over line lines roots r o (sym (unmapped (λ (part : Part). root line part ∷ kept line.indent roots) (made_over line.clause (taken line.indent roots)) e)) new s
    by false o e = reads_not_plain line lines o (sym (unmapped (λ (part : Part). root line part ∷ roots) (made_alone line.clause) e)) new s

-- ---- suites

pub suits : (line : ℕ) (beside : Option ActionNode) (front : List Saying) (roots : List Root) (suite : List Action) → Reads front roots → suite_of line beside roots ≡ Some suite → Suited line beside front suite
suits line None front roots suite r e = (roots, r, e)
suits line (Some b) front [] suite r e = let z : on line b ∷ [] ≡ suite = cc in (empty_reads front [] r refl, sym z)
suits line (Some b) front (x ∷ roots) suite r e = absurd cc

pub unsuited : (line : ℕ) (beside : Option ActionNode) (front : List Saying) (roots : List Root) (suite : List Action) → Reads front roots → suite_of line beside roots ≡ None → Suited line beside front suite → ⊥
unsuited line None front roots suite r e s =
    let z : None ≡ Some suite = sym e ∙ ap (λ l. commands (parts_of l)) (one_reading r s.1) ∙ s.2 in cc
unsuited line (Some b) front [] suite r e s = cc
unsuited line (Some b) front (x ∷ roots) suite r e s = let z : x ∷ roots ≡ [] = not_empty_reads front (x ∷ roots) r s.0 in cc

-- ---- lines and refinements

-- these lines make parts up to the first refinement heading, and refinements from there on
abbrev pub CutOf : (List ℕ → RefinementKind) → List Saying → Cut → Type 0
CutOf kinds lines cut = (front : List Saying) × Sections kinds lines front cut.refinements × Reads front cut.roots

module _ (kinds : List ℕ → RefinementKind) (line : Saying) (lines : List Saying) (old : Cut) (c : CutOf kinds lines old) where
  pub more_cut : (new : Cut) → one_more kinds line old ≡ Some new → CutOf kinds (line ∷ lines) new
  more_cut new e = by (refined line.clause.head) refl e where
    by : (n : Option (List ℕ)) → refined line.clause.head ≡ n → cut_by kinds line n old ≡ Some new → CutOf kinds (line ∷ lines) new
    by None n e =
        let q = mapped (with_roots old) (made line old.roots) new e in
        subst (CutOf kinds (line ∷ lines)) q.2 (line ∷ c.0, same n c.1, made_reads line c.0 old.roots c.2 q.0 q.1)
    by (Some name) n e =
        let q = mapped (λ (suite : List Action). record { roots = []; refinements = refinement_of kinds name line.clause.line suite ∷ old.refinements }) (suite_of line.clause.line line.clause.beside old.roots) new e in
        subst (CutOf kinds (line ∷ lines)) q.2 ([], refinement n c.1 (suits line.clause.line line.clause.beside c.0 old.roots q.0 c.2 q.1), none)

  -- another cut of the lines would be one of these
  no_same : made line old.roots ≡ None → (front : List Saying) (more : List Refinement) (roots : List Root) → refined line.clause.head ≡ None → Sections kinds (line ∷ lines) front more → Reads front roots → ⊥
  no_same e front more roots n (same m s) r = unmade_reads line c.0 old.roots c.2 e roots (subst (λ (l : List Saying). Reads (line ∷ l) roots) (one_cut kinds s c.1).0 r)
  no_same e front more roots n (refinement {name = name} m s t) r = let z : None ≡ Some name = sym n ∙ m in absurd cc

  no_refinement : suite_of line.clause.line line.clause.beside old.roots ≡ None → (front : List Saying) (more : List Refinement) (name : List ℕ) → refined line.clause.head ≡ Some name → Sections kinds (line ∷ lines) front more → ⊥
  no_refinement e front more name n (same m s) = let z : None ≡ Some name = sym m ∙ n in absurd cc
  no_refinement e front more name n (refinement {suite = suite} m s t) =
      unsuited line.clause.line line.clause.beside c.0 old.roots suite c.2 e (subst (λ (l : List Saying). Suited line.clause.line line.clause.beside l suite) (one_cut kinds s c.1).0 t)

  pub not_cut : one_more kinds line old ≡ None → (new : Cut) → CutOf kinds (line ∷ lines) new → ⊥
  not_cut e new d = by (refined line.clause.head) refl e where
    by : (n : Option (List ℕ)) → refined line.clause.head ≡ n → cut_by kinds line n old ≡ None → ⊥
    by None n e = no_same (unmapped (with_roots old) (made line old.roots) e) d.0 new.refinements new.roots n d.1 d.2
    by (Some name) n e =
        no_refinement (unmapped (λ (suite : List Action). record { roots = []; refinements = refinement_of kinds name line.clause.line suite ∷ old.refinements }) (suite_of line.clause.line line.clause.beside old.roots) e)
        d.0 new.refinements name n d.1
