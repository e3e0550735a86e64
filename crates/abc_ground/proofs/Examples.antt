-- Units that fit, and one that does not, by computing what the rules see of them.
use Rattle.std.proofs.Common.{◌≡◌, ◌∙◌, inl, inr, ℕ, List, [], ◌∷◌, ◌++◌, ap, sym, subst, refl, rules, arith}
use Rattle.std.specs.Prelude.{Option, None, Some, codes, pos}
use Rattle.abc_num.specs.Number.{whole_number}
use Rattle.abc_num.specs.declared.types.Ground.{Ground, out-Ground}
use Rattle.abc_num.specs.declared.types.Ground.TheOpen.{Ground-F}
use Rattle.abc_num.specs.declared.types.Ground.TheVariants as type
use Rattle.abc_terms.proofs.Grounds.{out_number, out_text}
use Rattle.abc_tree.specs.declared.formulas.Expr.{Expr, the_lemmas}
use Rattle.abc_tree.specs.declared.formulas.Expr.TheVariants as e
use Rattle.abc_tree.specs.declared.formulas.Piece.TheVariants as piece
use Rattle.abc_tree.specs.declared.formulas.Bound.{the_lemmas as bounds}
use Rattle.abc_tree.specs.declared.formulas.Bound.TheVariants as b
use Rattle.abc_tree.specs.declared.formulas.Test.{the_lemmas as tests}
use Rattle.abc_tree.specs.declared.formulas.Test.TheVariants as t
use Rattle.abc_tree.specs.declared.operations.Op.TheVariants as op
use Rattle.abc_tree.specs.declared.templates.Template.{Template}
use Rattle.abc_tree.specs.declared.templates.TemplateKind.TheVariants as kind
use Rattle.abc_tree.specs.declared.templates.Word.TheVariants as w
use Rattle.abc_tree.specs.declared.commands.Action.{Action, roll-Action}
use Rattle.abc_tree.specs.declared.commands.ActionNode.{ActionNode, the_lemmas as actions}
use Rattle.abc_tree.specs.declared.commands.ActionNode.TheVariants as n
use Rattle.abc_tree.specs.declared.commands.Unit.{Unit as Routine}
use Rattle.abc_predef.specs.Signatures.{operands}
use Rattle.abc_ground.specs.Seen.{Node, node, leaf, over_two, over, no_nodes, more, nodes, numeral, characters, name, result, row, one_type, any, seen_heading, unit_upto}
use Rattle.abc_ground.specs.Fits.{Signature, Typing, RuleFits, ValueFits, OperandsFit, fits, each_fits}
use Rattle.abc_ground.specs.Items.{UnitFits}

abbrev on : ℕ → ActionNode → Action
on line what = roll-Action (record { line = line; node = what })

abbrev one : Expr
one = e.Number (whole_number (pos 1))

abbrev a : Expr
a = e.Text (piece.Chars (codes "a") ∷ [])

-- HOW TO RETURN first x: RETURN x item 1
abbrev first : Routine
first = record {
  template = record { kind = kind.Function; words = w.Key (codes "first") ∷ w.Place ∷ []; places = 1 };
  formals = b.One (record { 0 = 0 }) ∷ [];
  names = codes "x" ∷ [];
  shared = [];
  body = on 1 (n.Return (e.Apply2 op.Item (e.Name (record { 0 = 0 })) one)) ∷ [];
  refinements = [];
  lines = [];
}

first_seen : unit_upto 1 first ≡ more (over_two one_type (over_two (row op.Item) (leaf (name 0)) (leaf numeral)) (leaf result)) no_nodes
first_seen = search (rules, the_lemmas, bounds, tests, actions)

first_formals : nodes (seen_heading first) ≡ more (leaf (name 0)) no_nodes
first_formals = search (rules, bounds)

-- HOW TO BAD, with the lines: IF 1 = 2:, and WRITE 1^"a"
abbrev bad : Routine
bad = record {
  template = record { kind = kind.Command; words = w.Key (codes "BAD") ∷ []; places = 0 };
  formals = [];
  names = [];
  shared = [];
  body = on 2 (n.If (t.Chain one (record { op = op.Equal; right = e.Number (whole_number (pos 2)) } ∷ [])) (on 3 (n.Write 0 (Some (e.Apply2 op.Join one a)) 0) ∷ [])) ∷ [];
  refinements = [];
  lines = [];
}

bad_seen : unit_upto 2 bad ≡ more (node one_type (more (leaf numeral) (more (leaf numeral) no_nodes))) no_nodes
bad_seen = search (rules, the_lemmas, bounds, tests, actions)

bad_seen_whole : unit_upto 3 bad ≡ more (node one_type (more (leaf numeral) (more (leaf numeral) no_nodes))) (more (over any (over_two (row op.Join) (leaf numeral) (leaf characters))) no_nodes)
bad_seen_whole = search (rules, the_lemmas, bounds, tests, actions)

module _ (uses : Template → Unit {0} → Option Signature → Unit {0} → Type 0) (targets : List ℕ → Ground) where
  -- at each type: the first element of a list of it
  first_fits : (g : Ground) → UnitFits uses targets 1 first (record { names = type.List g ∷ []; result = Some g }) (record { formals = type.List g ∷ []; result = Some g }) tt tt
  first_fits g = record {
    names = refl;
    shared = λ i c. absurd (omega (arith, c.1));
    formals = subst (λ xs. each_fits uses (record { names = type.List g ∷ []; result = Some g }) xs (type.List g ∷ []) tt tt) (sym first_formals)
        (type.List g ∷ [], [], tt, refl, ([], (refl, refl), refl), (refl, refl));
    result = refl;
    kind_of = tt;
    body = subst (λ xs. each_fits uses (record { names = type.List g ∷ []; result = Some g }) xs [] tt tt) (sym first_seen)
        ([], [], tt, refl, (g ∷ g ∷ [], (g ∷ [], g ∷ [], tt, refl, (type.List g ∷ type.Number ∷ [], (type.List g ∷ [], type.Number ∷ [], tt, refl, ([], (refl, refl), refl), (type.Number ∷ [], [], tt, refl, ([], (refl, refl), refl), (refl, refl))), (g, (inr (inl refl), refl), refl)), (g ∷ [], [], tt, refl, ([], (refl, refl), refl), (refl, refl))), (g, (refl, (refl, tt)))), (refl, refl));
  }

  no_text : type.Number ≡ type.Text → ⊥
  no_text same = let f : Ground-F.Number ≡ Ground-F.Text = sym out_number ∙ (ap out-Ground same ∙ out_text) in cc

  -- the heading and the test fit
  bad_fits : UnitFits uses targets 2 bad (record { names = []; result = None }) (record { formals = []; result = None }) tt tt
  bad_fits = record {
    names = refl;
    shared = λ i c. absurd (omega (arith, c.1));
    formals = (refl, refl);
    result = refl;
    kind_of = tt;
    body = subst (λ xs. each_fits uses (record { names = []; result = None }) xs [] tt tt) (sym bad_seen)
        ([], [], tt, refl, (type.Number ∷ type.Number ∷ [], (type.Number ∷ [], type.Number ∷ [], tt, refl, ([], (refl, refl), refl), (type.Number ∷ [], [], tt, refl, ([], (refl, refl), refl), (refl, refl))), (type.Number, (refl, (refl, tt)))), (refl, refl));
  }

  -- a number is of the type of numbers, a text of that of texts
  numeral_type : (g : Typing) (own : List Ground) → fits uses g (leaf numeral) own tt tt → own ≡ type.Number ∷ []
  numeral_type g own h = by_own h.0 own h.1.0 h.2
    where
      by_own : (ps own : List Ground) → ps ≡ [] → RuleFits g numeral ps own → own ≡ type.Number ∷ []
      by_own [] [] e r = absurd r
      by_own [] (t ∷ []) e r = ap (λ u. u ∷ []) r
      by_own [] (t ∷ u ∷ ts) e r = absurd r
      by_own (p ∷ ps) own e r = absurd (cc)

  -- `1^t` has no type
  no_join : (g : Typing) (own : List Ground) (y : Node) → fits uses g (over_two (row op.Join) (leaf numeral) y) own tt tt → ⊥
  no_join g own y h = by_parts h.0 h.1.0 h.1.1 h.1.3 (numeral_type g h.1.0 h.1.4) (operands_of h.0 own h.2)
    where
      operands_of : (ps own : List Ground) → ValueFits op.Join ps own → (e : Ground) × OperandsFit e (operands op.Join) ps
      operands_of ps [] p = absurd p
      operands_of ps (t ∷ []) p = (p.0, p.1)
      operands_of ps (t ∷ u ∷ ts) p = absurd p

      by_parts : (ps one rest : List Ground) → ps ≡ one ++ rest → one ≡ type.Number ∷ [] → ((e : Ground) × OperandsFit e (operands op.Join) ps) → ⊥
      by_parts ps one rest e is r = by_row rest (subst (λ qs. (d : Ground) × OperandsFit d (operands op.Join) qs) (e ∙ ap (λ qs. qs ++ rest) is) r)
        where
          by_row : (rest : List Ground) → ((d : Ground) × OperandsFit d (operands op.Join) (type.Number ∷ rest)) → ⊥
          by_row [] r = r.1
          by_row (q ∷ []) r = no_text r.1.0
          by_row (q ∷ p ∷ qs) r = r.1

  -- with line 3 no names' types and no signature fit
  bad_refused : (g : Typing) (s : Signature) → UnitFits uses targets 3 bad g s tt tt → ⊥
  bad_refused g s fit =
      let h : each_fits uses g (more (node one_type (more (leaf numeral) (more (leaf numeral) no_nodes))) (more (over any (over_two (row op.Join) (leaf numeral) (leaf characters))) no_nodes)) [] tt tt = subst (λ xs. each_fits uses g xs [] tt tt) bad_seen_whole fit.body in
      no_join g h.5.4.1.0 (leaf characters) h.5.4.1.4
