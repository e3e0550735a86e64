use Rattle.std.proofs.Common.{◌∙◌, ◌++◌, List, length, map, take, drop, ap, sym, subst}
use Rattle.std.specs.List.{All}
use Rattle.abc_terms.specs.declared.demand.Demand.{Demand}
use Rattle.abc_terms.specs.Nodes.{DemandIn}
use Rattle.abc_terms.specs.Renamed.{number_in, renamed}
use Rattle.abc_unify.specs.Graphs.{IsUnsolvable}
use Rattle.abc_unify.proofs.Faults.{clash_told}
use Rattle.abc_scheme.specs.inner.Places.{placed_vars}
use Rattle.abc_scheme.specs.inner.Copies.{equals}
use Rattle.abc_scheme.proofs.Copies.{asked_in, copied, refused}
use Rattle.abc_scheme.proofs.Later.{later_demands}
use Rattle.abc_scheme.proofs.copying.copy_behind.Goals as goal

pub demand_all-requires : goal.demand_all-requires
demand_all-requires c =
    let s = c.args.scheme.now in
    let given = c.args.given.now in
    let own_is = c.in_ok-own.ensures ∙ ap (λ t. placed_vars (number_in t) (drop (length given) s.own)) c.deref-2.ensures.value in
    let demands_are = c.in_ok-demands.ensures ∙ ap (λ t. map (renamed (number_in t)) s.demands ++ equals given (placed_vars (number_in t) (take (length given) s.own))) c.deref.ensures.value in
    subst (λ (ds : List Demand). All (DemandIn c.fresh_vars.new.g.count) ds) (sym demands_are)
    (asked_in s c.requires.inside c.args.g.now c.fresh_vars.new.g c.in_ok-table.table.items given c.in_ok-own.own.items c.in_ok-table.ensures.made c.in_ok-table.ensures.count c.requires.few c.requires.given c.count-count.ensures.made own_is)

pub returns-clause-ok : goal.returns-clause-ok
returns-clause-ok c =
    let s = c.args.scheme.now in
    let given = c.args.given.now in
    let own_is = c.in_ok-own.ensures ∙ ap (λ t. placed_vars (number_in t) (drop (length given) s.own)) c.deref-2.ensures.value in
    let demands_are = c.in_ok-demands.ensures ∙ ap (λ t. map (renamed (number_in t)) s.demands ++ equals given (placed_vars (number_in t) (take (length given) s.own))) c.deref.ensures.value in
    copied s c.requires.inside c.args.g.now c.fresh_vars.new.g c.in_ok-table.table.items given c.in_ok-own.own.items c.in_ok-table.ensures.made c.in_ok-table.ensures.count c.requires.few c.requires.given c.count-count.ensures.made own_is
    c.demand_all.new.self (ap (λ x. x.count) c.in_ok-demand_all.ensures.ok) (ap (λ x. x.demands) c.in_ok-demand_all.ensures.ok ∙ ap (λ ds. c.fresh_vars.new.g.demands ++ ds) demands_are)

pub returns-clause-later : goal.returns-clause-later
returns-clause-later c = later_demands c.args.g.now c.fresh_vars.new.g c.demand_all.new.self c.in_ok-demands.demands.items c.in_ok-table.ensures.later c.in_ok-demand_all.ensures.ok

pub returns-in_err-demand_all-clause-clash : goal.returns-in_err-demand_all-clause-clash
returns-in_err-demand_all-clause-clash c = λ e.
    let s = c.args.scheme.now in
    let given = c.args.given.now in
    let own_is = c.in_ok-own.ensures ∙ ap (λ t. placed_vars (number_in t) (drop (length given) s.own)) c.deref-2.ensures.value in
    let demands_are = c.in_ok-demands.ensures ∙ ap (λ t. map (renamed (number_in t)) s.demands ++ equals given (placed_vars (number_in t) (take (length given) s.own))) c.deref.ensures.value in
    refused s c.requires.inside c.args.g.now c.fresh_vars.new.g c.in_ok-table.table.items given c.in_ok-own.own.items c.in_ok-table.ensures.made c.in_ok-table.ensures.count c.requires.few c.requires.given c.count-count.ensures.made own_is
    (subst (λ (ds : List Demand). IsUnsolvable (c.fresh_vars.new.g.demands ++ ds)) demands_are (c.demand_all.ensures.clash (clash_told c.demand_all.result c.from_residual-in_err-demand_all.result c.in_err-demand_all.field-0.0 c.in_err-demand_all.was c.from_residual-in_err-demand_all.ensures e)))
