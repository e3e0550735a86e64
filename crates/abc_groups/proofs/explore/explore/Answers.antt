use Rattle.std.proofs.Common.{◌≡◌, ◌∙◌, Some, length, slice_get, refl, sym, ap, arith, vec_len}
use Rattle.std.proofs.lemmas.Option.{slice_get_read}
use Rattle.abc_groups.specs.Program.{texts}
use Rattle.abc_groups.proofs.Exploring.{explored_none, explored_next}
use Rattle.abc_groups.proofs.explore.explore.Goals as goal

pub found-init : goal.found-init
found-init g c = record {
  same = c.in_ok-_seeds.ensures.same;
  different = c.in_ok-_seeds.ensures.different;
  explored = rw (c.new-rows.ensures.items, c.new-there.ensures.items) (explored_none _ _ _ _ (rw c.new-found.ensures.texts at c.in_ok-_seeds.ensures.row));
}

pub found-preserved : goal.found-preserved
found-preserved g c =
    let ts = c.found.found.templates.items in
    let n : vec_len c.found.rows ≡ length c.found.rows.items = omega arith in
    let read : slice_get ts c.len.result ≡ Some c.in-Some.t.now =
    ap (λ xs. slice_get xs c.len.result) (sym c.deref.ensures.value) ∙ slice_get_read c.deref.result.now (length c.deref.result.now) c.len.result c.in-Some.t.now refl c.in-Some.ensures.lookup.3.0 c.in-Some.ensures.lookup.1 in
    record {
      same = c.in_ok-row.ensures.same;
      different = c.in_ok-row.ensures.different;
      explored = rw (c.in_ok-push-2.ensures.items, c.in_ok-push.ensures.items)
          (explored_next (g.P.Program.tells c.args.program.now) (texts c.args.from.now) c.found.found.texts.keys c.found.rows.items c.found.there.items c.found.invariant.explored
          (λ xs. texts xs.items) ts c.len.result c.in-Some.t.now c.found.invariant.same (c.len.ensures ∙ n) read c.in_ok-called.called c.in_ok-called.ensures (texts c.listed-called.result.items) c.listed-called.ensures
          c.is_some.result c.is_some.ensures c.in_ok-row.field-0 c.row-in-Some.new.self.texts.keys (rw c.deref-in-Some.ensures.value at c.in_ok-row.ensures.row));
    }
