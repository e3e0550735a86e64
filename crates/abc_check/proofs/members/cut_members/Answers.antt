use Rattle.std.proofs.Common.{◌≡◌, List, set, refl, sym, subst}
use Rattle.abc_tree.specs.Ordered.{RiseBy}
use Rattle.abc_tree.specs.inner.Search.{IsAt, IsGap}
use Rattle.abc_ground.specs.Groups.{Cut, template_of, with_cut}
use Rattle.abc_principal.specs.declared.member.Member.{Member}
use Rattle.abc_principal.specs.Exact.{cuts_of}
use Rattle.abc_check.proofs.Membering.{cut_rises, cut_replaced, cut_inserted}
use Rattle.abc_check.proofs.members.cut_members.Goals as goal

pub place_of-requires : goal.place_of-requires
place_of-requires c = subst (λ (ms : List Member). RiseBy template_of (cuts_of ms)) (sym c.deref.ensures.value) c.in_ok-members.ensures.rising

pub returns-in-Ok : goal.returns-in-Ok
returns-in-Ok c =
    let all = c.in_ok-members.members.items in
    let at : IsAt template_of (cuts_of all) c.args.unit.now.template c.in-Ok.at = subst (λ (ms : List Member). IsAt template_of (cuts_of ms) c.args.unit.now.template c.in-Ok.at) c.deref.ensures.value c.in-Ok.ensures.found in
    let m : Member = record { unit = c.args.unit; lines = c.args.lines } in
    let cuts : cuts_of (set all c.in-Ok.at m) ≡ with_cut c.args.unit.now c.args.lines c.args.units.now =
    cut_replaced all c.args.units.now c.args.unit.now c.args.lines m c.in_ok-members.ensures.cuts refl (set all c.in-Ok.at m) c.in-Ok.at c.in_ok-members.ensures.rising at refl in
    record {
      cuts = cuts;
      rising = subst (λ (cs : List Cut). RiseBy template_of cs) (sym cuts) (cut_rises c.args.unit.now c.args.lines c.args.units.now (subst (λ (cs : List Cut). RiseBy template_of cs) c.in_ok-members.ensures.cuts c.in_ok-members.ensures.rising));
    }

pub returns-in_ok-insert-in-Err : goal.returns-in_ok-insert-in-Err
returns-in_ok-insert-in-Err c =
    let all = c.in_ok-members.members.items in
    let gap : IsGap template_of (cuts_of all) c.args.unit.now.template c.in-Err.at = subst (λ (ms : List Member). IsGap template_of (cuts_of ms) c.args.unit.now.template c.in-Err.at) c.deref.ensures.value c.in-Err.ensures.absent in
    let cuts : cuts_of c.insert.new.self.items ≡ with_cut c.args.unit.now c.args.lines c.args.units.now =
    cut_inserted all c.args.units.now c.args.unit.now c.args.lines (record { unit = c.args.unit; lines = c.args.lines }) c.in_ok-members.ensures.cuts refl c.insert.new.self.items c.in-Err.at gap c.in_ok-insert-in-Err.ensures.items in
    record {
      cuts = cuts;
      rising = subst (λ (cs : List Cut). RiseBy template_of cs) (sym cuts) (cut_rises c.args.unit.now c.args.lines c.args.units.now (subst (λ (cs : List Cut). RiseBy template_of cs) c.in_ok-members.ensures.cuts c.in_ok-members.ensures.rising));
    }
