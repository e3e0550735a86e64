use Rattle.std.proofs.Common.{◌≡◌, ◌∙◌, ⊎_elim, inr, ◌≤◌, true, false, length, sym, refl, arith}
use Rattle.std.specs.Prelude.{slice_get, sum, map}
use Rattle.abc_terms.specs.Sizes.{size}
use Rattle.std.proofs.lemmas.Option.{slice_get_read}
use Rattle.abc_value.specs.declared.value.Kind.TheVariants as kinds
use Rattle.abc_value.specs.Parts.{kind_of, parts_of, keys_of}
use Rattle.abc_value.proofs.forms.TypesOfValues.{compounds, lists, tables, parts_few, keys_few}
use Rattle.abc_ground.proofs.PartLoops.{all_next, all_at, all_done, each_next, each_at, each_none, each_ended, each_past, none_where, size_below}
use Rattle.abc_ground.proofs.values.+fits.Goals as goal

pub fits_list-returns-in-List : goal.fits_list-returns-in-List
fits_list-returns-in-List t c =
    let v = c.args.v.now in
    let e : kind_of c.args.v.now ≡ kinds.List = sym c.kind.ensures ∙ c.in-List.is in
    (λ h. (lists c.args.v.now c.args.t.now).1 (inr (e, c.fits_parts.ensures.0 h)), λ h. ⊎_elim (λ f. absurd (let g : kinds.List ≡ kinds.Empty = sym e ∙ f in cc)) (λ p. c.fits_parts.ensures.1 p.1) ((lists c.args.v.now c.args.t.now).0 h))

pub fits_compound-returns-in-Compound : goal.fits_compound-returns-in-Compound
fits_compound-returns-in-Compound t c =
    let e : kind_of c.args.v.now ≡ kinds.Compound = sym c.kind.ensures ∙ c.in-Compound.is in
    (λ h. (compounds c.args.v.now c.args.fields.now).1 (e, c.fits_each.ensures.0 h), λ h. c.fits_each.ensures.1 ((compounds c.args.v.now c.args.fields.now).0 h).1)

pub fits_table-returns-then-not-fits_keys : goal.fits_table-returns-then-not-fits_keys
fits_table-returns-then-not-fits_keys t c =
    let e : kind_of c.args.v.now ≡ kinds.Table = sym c.kind.ensures ∙ c.in-Table.is in
    (λ h. absurd (cc), λ h. ⊎_elim (λ f. absurd (let g : kinds.Table ≡ kinds.Empty = sym e ∙ f in cc)) (λ p. absurd (let r : false ≡ true = sym c.if-not-fits_keys.true ∙ c.fits_keys.ensures.1 p.1 in cc)) ((tables c.args.v.now c.args.k.now c.args.a.now).0 h))

pub fits_table-returns-else-not-fits_keys : goal.fits_table-returns-else-not-fits_keys
fits_table-returns-else-not-fits_keys t c =
    let e : kind_of c.args.v.now ≡ kinds.Table = sym c.kind.ensures ∙ c.in-Table.is in
    (λ h. (tables c.args.v.now c.args.k.now c.args.a.now).1 (inr (e, c.fits_keys.ensures.0 c.if-not-fits_keys.false, c.fits_parts.ensures.0 h)), λ h. ⊎_elim (λ f. absurd (let g : kinds.Table ≡ kinds.Empty = sym e ∙ f in cc)) (λ p. c.fits_parts.ensures.1 p.2) ((tables c.args.v.now c.args.k.now c.args.a.now).0 h))

pub fits_parts-returns : goal.fits_parts-returns
fits_parts-returns t c = (λ h. all_done (parts_of c.args.v.now) c.loop-i.i c.args.t.now (omega (arith, parts_few c.args.v.now, c.len-i-end.ensures.length, c.loop-i-test.false)) c.loop-i.invariant, λ h. refl)

pub fits_keys-returns : goal.fits_keys-returns
fits_keys-returns t c = (λ h. all_done (keys_of c.args.v.now) c.loop-i.i c.args.t.now (omega (arith, keys_few c.args.v.now, c.len-i-end.ensures.length, c.loop-i-test.false)) c.loop-i.invariant, λ h. refl)

pub fits_parts-loop-i-preserved : goal.fits_parts-loop-i-preserved
fits_parts-loop-i-preserved t c = all_next (parts_of c.args.v.now) c.loop-i.i c.in-Some.part.now c.args.t.now c.in-Some.ensures c.loop-i.invariant (c.fits_value.ensures.0 c.if-not-fits_value.false)

pub fits_keys-loop-i-preserved : goal.fits_keys-loop-i-preserved
fits_keys-loop-i-preserved t c = all_next (keys_of c.args.v.now) c.loop-i.i c.in-Some.key.now c.args.t.now c.in-Some.ensures c.loop-i.invariant (c.fits_value.ensures.0 c.if-not-fits_value.false)

pub fits_parts-returns-then-not-fits_value : goal.fits_parts-returns-then-not-fits_value
fits_parts-returns-then-not-fits_value t c =
    (λ h. absurd (cc), λ all. absurd (let r : false ≡ true = sym c.if-not-fits_value.true ∙ c.fits_value.ensures.1 (all_at (parts_of c.args.v.now) c.loop-i.i c.in-Some.part.now c.args.t.now c.in-Some.ensures all) in cc))

pub fits_keys-returns-then-not-fits_value : goal.fits_keys-returns-then-not-fits_value
fits_keys-returns-then-not-fits_value t c =
    (λ h. absurd (cc), λ all. absurd (let r : false ≡ true = sym c.if-not-fits_value.true ∙ c.fits_value.ensures.1 (all_at (keys_of c.args.v.now) c.loop-i.i c.in-Some.key.now c.args.t.now c.in-Some.ensures all) in cc))

pub fits_each-loop-i-preserved : goal.fits_each-loop-i-preserved
fits_each-loop-i-preserved t c =
    each_next (parts_of c.args.v.now) c.args.fields.now c.loop-i.i c.in-Some.part.now c.index-fields-i.result c.in-Some.ensures (sym (slice_get_read c.args.fields.now (length c.args.fields.now) c.loop-i.i c.index-fields-i.result refl c.loop-i-test.true c.index-fields-i.is)) c.loop-i.invariant
    (c.fits_value.ensures.0 c.if-not-fits_value.false)

pub fits_each-returns-then-not-fits_value : goal.fits_each-returns-then-not-fits_value
fits_each-returns-then-not-fits_value t c = (
  λ h. absurd (cc),
  λ all. absurd (let r : false ≡ true = sym c.if-not-fits_value.true ∙ c.fits_value.ensures.1 (each_at (parts_of c.args.v.now) c.args.fields.now c.loop-i.i c.in-Some.part.now c.index-fields-i.result c.in-Some.ensures
      (sym (slice_get_read c.args.fields.now (length c.args.fields.now) c.loop-i.i c.index-fields-i.result refl c.loop-i-test.true c.index-fields-i.is)) all) in cc),
)

pub fits_each-returns-in_default : goal.fits_each-returns-in_default
fits_each-returns-in_default t c = (λ h. absurd (cc), λ all. absurd (each_none (parts_of c.args.v.now) c.args.fields.now c.loop-i.i c.in_default.ensures c.loop-i-test.true all))

pub fits_each-returns : goal.fits_each-returns
fits_each-returns t c =
    let xs = parts_of c.args.v.now in
    let ended = none_where (λ v. v.now) c.part-2.result c.is_none.result (slice_get (parts_of c.args.v.now) (length c.args.fields.now)) c.is_none.ensures c.part-2.ensures in
    (λ h. each_ended (parts_of c.args.v.now) c.args.fields.now c.loop-i.i c.loop-i-test.false (ended.0 h) c.loop-i.invariant, λ all. ended.1 (each_past (parts_of c.args.v.now) c.args.fields.now all))

pub fits_each-fits_value-requires : goal.fits_each-fits_value-requires
fits_each-fits_value-requires t c =
    let below : size c.index-fields-i.result ≤ sum (map size c.args.fields.now) = size_below c.args.fields.now c.loop-i.i c.index-fields-i.result c.loop-i-test.true c.index-fields-i.is in
    (omega (arith, below, c.decreases), tt)
