use Rattle.std.proofs.Common.{rules, ◌≡◌, ◌∙◌, length, is_some, true, false, ap, arith}
use Rattle.abc_tree.specs.Units.{unit_of}
use Rattle.abc_store.specs.Workspace.{Workspace}
use Rattle.abc_store.proofs.Units.{is_there, room_left, no_room, replaced_many, added_many}
use Rattle.abc_store.proofs.contents.Contents.has_room_for.Goals as goal

pub returns-then-is_some-clause-room : goal.returns-then-is_some-clause-room
returns-then-is_some-clause-room c same =
    let told : c.is_some.result ≡ is_some c.get.result = search rules in
    let there = is_there (λ unit. unit.now) c.get.result c.is_some.result true _ (c.get.ensures.unit ∙ ap (λ (w : Workspace). unit_of c.args.unit.now.template w.units) c.self.view_is) told c.if-is_some.true in
    omega (arith, c.requires, replaced_many c.args.unit.now c.args.self.now.units there)

pub returns-clause-room : goal.returns-clause-room
returns-clause-room c none =
    let gone : is_some c.at.result ≡ false = search rules in
    let few = room_left (λ unit. unit.now) c.at.result c.self.inside.units 4095 c.at.ensures.unit gone in
    let same = ap (λ (w : Workspace). length w.units) c.self.view_is in
    let told : c.is_some.result ≡ is_some c.get.result = search rules in
    let absent = is_there (λ unit. unit.now) c.get.result c.is_some.result false _ (c.get.ensures.unit ∙ ap (λ (w : Workspace). unit_of c.args.unit.now.template w.units) c.self.view_is) told c.if-is_some.false in
    omega (arith, few, same, added_many c.args.unit.now c.args.self.now.units absent)

pub returns-clause-none : goal.returns-clause-none
returns-clause-none c there =
    let here : is_some c.at.result ≡ true = search rules in
    let many = no_room (λ unit. unit.now) c.at.result c.self.inside.units 4095 c.at.ensures.unit here in
    let same = ap (λ (w : Workspace). length w.units) c.self.view_is in
    let told : c.is_some.result ≡ is_some c.get.result = search rules in
    let absent = is_there (λ unit. unit.now) c.get.result c.is_some.result false _ (c.get.ensures.unit ∙ ap (λ (w : Workspace). unit_of c.args.unit.now.template w.units) c.self.view_is) told c.if-is_some.false in
    omega (arith, many, same, added_many c.args.unit.now c.args.self.now.units absent)
