-- What is_regular_command and is_regular_unit say, part by part.
use Rattle.std.proofs.Common.{◌≡◌, Bool, true, ◌&&◌, [], length, ap, ◌∙◌}
use Rattle.std.specs.Prelude.{◌==◌, nat_le, nat_lt}
use Rattle.std.specs.List.{list_all}
use Rattle.std.proofs.lemmas.Bool.{and_parts}
use Rattle.abc_num.specs.declared.limits.TheConstants.{MOST_NAMES, MOST_FORMALS}
use Rattle.abc_tree.specs.Regular.{is_regular_template, is_regular_bound}
use Rattle.abc_tree.specs.RegularItems.{parts_of, command_names, exits_of, are_regular_parts, lines_of, do_not_fall, bounds_of, addressed, are_apart, names_of, are_different, has_plain_formals, has_regular_bodies, has_regular_lines, has_single_roles, is_regular_command, is_regular_unit}
use Rattle.abc_tree.specs.declared.templates.TemplateKind.TheVariants as kind
use Rattle.abc_tree.specs.declared.commands.Command.{Command}
use Rattle.abc_tree.specs.declared.commands.Unit.{Unit as Routine}

both : {a b : Bool} → a ≡ true → b ≡ true → (a && b) ≡ true
both {b = b} p q = ap (λ x. x && b) p ∙ q

pub record RegularCommand (c : Command) : Type 0 where
  pub parts : are_regular_parts (command_names c) [] (exits_of kind.Command) (parts_of c.action) ≡ true
  pub lines : do_not_fall (lines_of (parts_of c.action)) ≡ true
  pub apart : are_apart (bounds_of (parts_of c.action)) (addressed (parts_of c.action)) ≡ true
  pub few_names : nat_le (length c.names) MOST_NAMES ≡ true

pub open_command : (c : Command) → is_regular_command c ≡ true → RegularCommand c
unfolding is_regular_command
open_command c h =
    let a = are_regular_parts (command_names c) [] (exits_of kind.Command) (parts_of c.action) in
    let b = do_not_fall (lines_of (parts_of c.action)) in
    let d = are_apart (bounds_of (parts_of c.action)) (addressed (parts_of c.action)) in
    let p = and_parts (a && b && d) (nat_le (length c.names) MOST_NAMES) h in
    let q = and_parts (a && b) d p.0 in
    let r = and_parts a b q.0 in
    record { parts = r.0; lines = r.1; apart = q.1; few_names = p.1 }

pub close_command : (c : Command) → RegularCommand c → is_regular_command c ≡ true
unfolding is_regular_command
close_command c r = both (both (both r.parts r.lines) r.apart) r.few_names

pub record RegularUnit (u : Routine) : Type 0 where
  pub template : is_regular_template u.template ≡ true
  pub places : (length u.formals == u.template.places) ≡ true
  pub few_formals : nat_le (length u.formals) MOST_FORMALS ≡ true
  pub formals : list_all (is_regular_bound (names_of u)) u.formals ≡ true
  pub shared : list_all (λ i. nat_lt i.0 (length u.names)) u.shared ≡ true
  pub few_names : nat_le (length u.names) MOST_NAMES ≡ true
  pub different : are_different u.names ≡ true
  pub plain : has_plain_formals u.template.kind u.formals ≡ true
  pub bodies : has_regular_bodies u ≡ true
  pub lines : has_regular_lines u ≡ true
  pub roles : has_single_roles u ≡ true

pub open_unit : (u : Routine) → is_regular_unit u ≡ true → RegularUnit u
unfolding is_regular_unit
open_unit u h =
    let a = is_regular_template u.template in
    let b = length u.formals == u.template.places in
    let c = nat_le (length u.formals) MOST_FORMALS in
    let d = list_all (is_regular_bound (names_of u)) u.formals in
    let e = list_all (λ i. nat_lt i.0 (length u.names)) u.shared in
    let f = nat_le (length u.names) MOST_NAMES in
    let g = are_different u.names in
    let k = has_plain_formals u.template.kind u.formals in
    let p = and_parts (a && b && c && d && e && f && g && k && has_regular_bodies u && has_regular_lines u) (has_single_roles u) h in
    let q = and_parts (a && b && c && d && e && f && g && k && has_regular_bodies u) (has_regular_lines u) p.0 in
    let r = and_parts (a && b && c && d && e && f && g && k) (has_regular_bodies u) q.0 in
    let y = and_parts (a && b && c && d && e && f && g) k r.0 in
    let z = and_parts (a && b && c && d && e && f) g y.0 in
    let s = and_parts (a && b && c && d && e) f z.0 in
    let t = and_parts (a && b && c && d) e s.0 in
    let v = and_parts (a && b && c) d t.0 in
    let w = and_parts (a && b) c v.0 in
    let x = and_parts a b w.0 in
    record { template = x.0; places = x.1; few_formals = w.1; formals = v.1; shared = t.1; few_names = s.1; different = z.1; plain = y.1; bodies = r.1; lines = q.1; roles = p.1 }

pub close_unit : (u : Routine) → RegularUnit u → is_regular_unit u ≡ true
unfolding is_regular_unit
close_unit u r =
    both (both (both (both (both (both (both (both (both (both r.template r.places) r.few_formals) r.formals) r.shared) r.few_names) r.different) r.plain) r.bodies) r.lines) r.roles
