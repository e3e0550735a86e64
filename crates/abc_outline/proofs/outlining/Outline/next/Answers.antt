use Rattle.std.proofs.Common.{◌≤◌, ap, sym, ◌∙◌, subst, length, arith}
use Rattle.abc_outline.specs.declared.outlining.Outline.{Outline}
use Rattle.abc_outline.specs.Outline.{chain, left, next_number, not_deeper, round_by, suites}
use Rattle.abc_outline.proofs.Places.{few_sections, few_suites_round, left_not_deeper, next_outline, next_place}
use Rattle.abc_outline.proofs.outlining.Outline.next.Goals as goal

pub section_by-section-requires : goal.section_by-section-requires
section_by-section-requires c =
    let r = c.requires in
    let few : next_number c.args.self.now.section ≤ length r.1 = subst (λ s. next_number s ≤ length r.1) (sym (ap (λ (o : Outline). o.section) r.2)) (few_sections r.0 r.1) in
    omega (arith, few, r.3)

pub suites_below-requires : goal.suites_below-requires
suites_below-requires c =
    let r = c.requires in
    let around = c.drop_from.ensures ∙ ap (left c.args.line.indent) (c.drop_deeper.ensures ∙ ap (λ (o : Outline). not_deeper c.args.line.indent o.around) r.2) ∙ left_not_deeper c.args.line.indent (chain r.0 r.1) in
    let few : c.suites-suites.result ≤ length r.1 = subst (λ n. n ≤ length r.1) (sym (c.suites-suites.ensures ∙ ap suites (c.clear_at_heading.ensures ∙ ap (round_by c.role_by-role.result) around)))
    (few_suites_round r.0 c.role_by-role.result c.args.line.indent r.1) in
    omega (arith, few, r.3)

pub returns-clause-place : goal.returns-clause-place
returns-clause-place c setting above e =
    next_place setting above c.args.line c.args.self.now e c.drop_deeper.new.self c.drop_from.new.self c.clear_at_heading.new.self c.begins_at-level.result c.suites-suites.result c.role_by-role.result c.section_by-section.result
    c.drop_deeper.ensures c.drop_from.ensures c.begins_at-level.ensures c.clear_at_heading.ensures c.suites-suites.ensures c.role_by-role.ensures c.section_by-section.ensures

pub returns-clause-above : goal.returns-clause-above
returns-clause-above c setting above e =
    next_outline setting above c.args.line c.args.self.now e c.drop_deeper.new.self c.drop_from.new.self c.clear_at_heading.new.self c.begins_at-level.result c.suites-suites.result c.role_by-role.result c.section_by-section.result
    c.drop_deeper.ensures c.drop_from.ensures c.begins_at-level.ensures c.clear_at_heading.ensures c.suites-suites.ensures c.role_by-role.ensures c.section_by-section.ensures
    c.push.new.self c.suites_below.result c.suites_below.ensures c.in_ok-push.ensures.ok
