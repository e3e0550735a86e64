use Rattle.std.proofs.Common.{◌≡◌, ◌∙◌, List, length, map, ap, sym, subst, refl}
use Rattle.std.specs.List.{All}
use Rattle.abc_terms.specs.declared.demand.Demand.{Demand}
use Rattle.abc_terms.specs.declared.term.VarId.{VarId}
use Rattle.abc_terms.specs.Nodes.{DemandIn}
use Rattle.abc_terms.specs.Renamed.{number_in, renamed}
use Rattle.abc_unify.specs.Forms.{all_said}
use Rattle.abc_unify.proofs.Deciding.{forms_said_in}
use Rattle.abc_scheme.specs.inner.Places.{placed_vars}
use Rattle.abc_scheme.proofs.Exactness.{kept_exact, kept_inside, known_made}
use Rattle.abc_scheme.proofs.scheme.kept.Goals as goal

pub say_all-requires : goal.say_all-requires
say_all-requires c = (c.args.variables, forms_said_in c.args.variables c.requires.told.0 c.args.all.now c.requires.told.2 c.requires.told.1.each)

pub places-requires-clause-inside : goal.places-requires-clause-inside
places-requires-clause-inside c = known_made c.args.variables c.requires.told.0 c.args.all.now c.requires.told.1

pub renamed_demands-requires : goal.renamed_demands-requires
renamed_demands-requires c =
    let n = c.args.variables in
    let said : c.deref.result.now ≡ all_said c.args.all.now = c.deref.ensures.value ∙ c.in_ok-said.ensures in
    let count : length c.deref-2.result.now ≡ n = ap length c.deref-2.ensures.value ∙ c.in_ok-table.ensures.count in
    let made : All (DemandIn n) (all_said c.args.all.now) = forms_said_in n c.requires.told.0 c.args.all.now c.requires.told.2 c.requires.told.1.each in
    subst (λ m. All (DemandIn m) c.deref.result.now) (sym count) (subst (λ (ds : List Demand). All (DemandIn n) ds) (sym said) made)

pub returns-clause-exact : goal.returns-clause-exact
returns-clause-exact c demands forms solvable ts =
    let all = c.args.all.now in
    let table = c.in_ok-table.table.items in
    let said : c.deref.result.now ≡ all_said all = c.deref.ensures.value ∙ c.in_ok-said.ensures in
    let ds : c.from_vec.result ≡ map (renamed (number_in table)) (all_said all) =
    c.from_vec.ensures ∙ (c.in_ok-demands.ensures ∙ (ap (λ (t : List VarId). map (renamed (number_in t)) c.deref.result.now) c.deref-2.ensures.value ∙ ap (map (renamed (number_in table))) said)) in
    let own : c.from_vec-2.result ≡ placed_vars (number_in table) c.args.wanted.now =
    c.from_vec-2.ensures ∙ (c.in_ok-own.ensures ∙ ap (λ (t : List VarId). placed_vars (number_in t) c.args.wanted.now) c.deref-3.ensures.value) in
    kept_exact c.args.variables demands all table c.args.wanted.now forms solvable c.in_ok-table.ensures.places c.requires.there c.from_vec.result c.from_vec-2.result ds own ts

pub returns-clause-inside : goal.returns-clause-inside
returns-clause-inside c =
    let all = c.args.all.now in
    let table = c.in_ok-table.table.items in
    let said : c.deref.result.now ≡ all_said all = c.deref.ensures.value ∙ c.in_ok-said.ensures in
    let ds : c.from_vec.result ≡ map (renamed (number_in table)) (all_said all) =
    c.from_vec.ensures ∙ (c.in_ok-demands.ensures ∙ (ap (λ (t : List VarId). map (renamed (number_in t)) c.deref.result.now) c.deref-2.ensures.value ∙ ap (map (renamed (number_in table))) said)) in
    let own : c.from_vec-2.result ≡ placed_vars (number_in table) c.args.wanted.now =
    c.from_vec-2.ensures ∙ (c.in_ok-own.ensures ∙ ap (λ (t : List VarId). placed_vars (number_in t) c.args.wanted.now) c.deref-3.ensures.value) in
    kept_inside c.args.variables c.requires.told.0 all table c.args.wanted.now c.requires.told.1 c.requires.told.2 c.in_ok-table.ensures.places c.requires.there
    (record { count = length all; demands = c.from_vec.result; own = c.from_vec-2.result }) refl ds own
