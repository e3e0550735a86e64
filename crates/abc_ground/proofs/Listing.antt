-- Units and commands that fit at what is allowed, and at lists of it.
use Rattle.std.proofs.Common.{◌≡◌, ◌∙◌, ◌↔◌, ℕ, List, [], ◌∷◌, ◌++◌, subst, refl}
use Rattle.std.specs.Prelude.{Option}
use Rattle.std.proofs.lemmas.List.{append-nil}
use Rattle.abc_num.specs.declared.types.Ground.{Ground}
use Rattle.abc_tree.specs.declared.templates.Template.{Template}
use Rattle.abc_tree.specs.declared.commands.Command.{Command}
use Rattle.abc_tree.specs.declared.commands.Unit.{Unit as Routine}
use Rattle.abc_ground.specs.Seen.{Nodes, nodes, seen_heading, unit_upto, command_upto}
use Rattle.abc_ground.specs.Fits.{Signature, Typing, each_fits}
use Rattle.abc_ground.specs.Calls.{each_templates, next_of, any_allowed, AreAllowed}
use Rattle.abc_ground.specs.Items.{UnitFits, CommandFits}
use Rattle.abc_ground.proofs.Listed.{Sigs, EachLists, EachTakes, Used, each_listed, each_taken}
use Rattle.abc_ground.proofs.Heading.{heading_none}

module _ (allowed : Template → Option Signature → Type 0) where
  none_listed : (ss : Sigs) → AreAllowed allowed [] ss → ss ≡ []
  none_listed [] a = refl
  none_listed (s ∷ ss) a = absurd a

  -- nodes without calls fit alike
  quiet_to : (g : Typing) (xs : Nodes) (own : List Ground) (ss : Sigs) → each_templates xs ≡ [] → each_fits (any_allowed allowed) g xs own tt tt → each_fits next_of g xs own ss ss
  quiet_to g xs own ss none h =
      let l : EachLists allowed g xs own = each_listed allowed g xs own h in
      let empty : l.0 ≡ [] = none_listed l.0 (subst (λ ts. AreAllowed allowed ts l.0) none l.1) in
      subst (λ us. each_fits next_of g xs own (us ++ ss) ss) empty (l.2 ss)

  none_used : (ts : List Template) (ss : Sigs) → ts ≡ [] → Used allowed ts ss → AreAllowed allowed ts ss
  none_used [] [] e u = tt
  none_used [] (s ∷ ss) e u = absurd u
  none_used (t ∷ ts) ss e u = absurd (cc)

  quiet_from : (g : Typing) (xs : Nodes) (own : List Ground) (before after : Sigs) → each_templates xs ≡ [] → each_fits next_of g xs own before after → each_fits (any_allowed allowed) g xs own tt tt
  quiet_from g xs own before after none h =
      let t : EachTakes allowed g xs own before after = each_taken allowed g xs own before after h in
      t.3 (none_used (each_templates xs) t.0 none t.2)

  -- all signatures of a list are used
  nodes_to : (g : Typing) (xs : Nodes) (own : List Ground) → each_fits (any_allowed allowed) g xs own tt tt → (ss : Sigs) × AreAllowed allowed (each_templates xs) ss × each_fits next_of g xs own ss []
  nodes_to g xs own h =
      let l : EachLists allowed g xs own = each_listed allowed g xs own h in
      (l.0, l.1, subst (λ us. each_fits next_of g xs own us []) (append-nil l.0) (l.2 []))

  nodes_from : (g : Typing) (xs : Nodes) (own : List Ground) (ss : Sigs) → AreAllowed allowed (each_templates xs) ss → each_fits next_of g xs own ss [] → each_fits (any_allowed allowed) g xs own tt tt
  nodes_from g xs own ss a h =
      let t : EachTakes allowed g xs own ss [] = each_taken allowed g xs own ss [] h in
      t.3 (subst (λ us. AreAllowed allowed (each_templates xs) us) (t.1 ∙ append-nil t.0) a)

  -- at what is allowed exactly where at a list of it, of the calls of these templates
  abbrev pub UnitListed : (List ℕ → Ground) → ℕ → Routine → Typing → Signature → List Template → Type 0
  UnitListed targets n unit g s ts = UnitFits (any_allowed allowed) targets n unit g s tt tt ↔ ((ss : Sigs) × AreAllowed allowed ts ss × UnitFits next_of targets n unit g s ss [])

  abbrev pub CommandListed : (List ℕ → Ground) → ℕ → Command → Typing → List Template → Type 0
  CommandListed targets n c g ts = CommandFits (any_allowed allowed) targets n c g tt tt ↔ ((ss : Sigs) × AreAllowed allowed ts ss × CommandFits next_of targets n c g ss [])

  pub units_listed : (targets : List ℕ → Ground) (n : ℕ) (unit : Routine) (g : Typing) (s : Signature) → UnitListed targets n unit g s (each_templates (unit_upto n unit))
  units_listed targets n unit g s = (
    λ f.
        let r : (ss : Sigs) × AreAllowed allowed (each_templates (unit_upto n unit)) ss × each_fits next_of g (unit_upto n unit) [] ss [] = nodes_to g (unit_upto n unit) [] f.body in
        (r.0, r.1, record { names = f.names; shared = f.shared; formals = quiet_to g (nodes (seen_heading unit)) s.formals r.0 (heading_none unit) f.formals; result = f.result; kind_of = f.kind_of; body = r.2 }),
    λ h.
        record {
          names = h.2.names;
          shared = h.2.shared;
          formals = quiet_from g (nodes (seen_heading unit)) s.formals h.0 h.0 (heading_none unit) h.2.formals;
          result = h.2.result;
          kind_of = h.2.kind_of;
          body = nodes_from g (unit_upto n unit) [] h.0 h.1 h.2.body;
        },
  )

  pub commands_listed : (targets : List ℕ → Ground) (n : ℕ) (c : Command) (g : Typing) → CommandListed targets n c g (each_templates (command_upto n c))
  commands_listed targets n c g = (
    λ f.
        let r : (ss : Sigs) × AreAllowed allowed (each_templates (command_upto n c)) ss × each_fits next_of g (command_upto n c) [] ss [] = nodes_to g (command_upto n c) [] f.body in
        (r.0, r.1, record { names = f.names; targets_are = f.targets_are; result = f.result; body = r.2 }),
    λ h. record { names = h.2.names; targets_are = h.2.targets_are; result = h.2.result; body = nodes_from g (command_upto n c) [] h.0 h.1 h.2.body },
  )
