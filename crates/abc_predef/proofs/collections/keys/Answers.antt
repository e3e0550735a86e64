use Rattle.std.proofs.Common.{◌≡◌, slice_get, arith, sym, ap, ◌∙◌, inr, Some, Err}
use Rattle.std.specs.Option.{option_map}
use Rattle.std.proofs.lemmas.Result.{err_from_is_err_and}
use Rattle.abc_value.specs.Sizes.{length_of}
use Rattle.abc_value.specs.Parts.{keys_of}
use Rattle.abc_predef.proofs.TableKeys.{no_keys, more_keys, key_fault, all_keys}
use Rattle.abc_predef.proofs.collections.keys.Goals as goal

pub loop-key-init : goal.loop-key-init
loop-key-init c = no_keys c.args.t.now c.empty-keys.result c.empty-keys.ensures

pub loop-key-smaller : goal.loop-key-smaller
loop-key-smaller c =
    let at : slice_get (keys_of c.args.t.now) (length_of c.loop-key.keys) ≡ Some c.in_ok-key.key =
    ap (slice_get (keys_of c.args.t.now)) (sym c.len.ensures.length) ∙ sym c.key.ensures ∙ ap (option_map (λ v. v.now)) c.in-Some.is ∙ ap Some (sym c.in_ok-key.ensures.ok) in
    let m = more_keys c.args.t.now c.loop-key.keys c.insert.new.self c.in_ok-key.key c.requires c.len-length.ensures.regular c.loop-key.invariant at c.in_ok-insert.ensures.ok in
    omega (arith, m.1, m.2)

pub loop-key-preserved : goal.loop-key-preserved
loop-key-preserved c =
    let at : slice_get (keys_of c.args.t.now) (length_of c.loop-key.keys) ≡ Some c.in_ok-key.key =
    ap (slice_get (keys_of c.args.t.now)) (sym c.len.ensures.length) ∙ sym c.key.ensures ∙ ap (option_map (λ v. v.now)) c.in-Some.is ∙ ap Some (sym c.in_ok-key.ensures.ok) in
    (more_keys c.args.t.now c.loop-key.keys c.insert.new.self c.in_ok-key.key c.requires c.len-length.ensures.regular c.loop-key.invariant at c.in_ok-insert.ensures.ok).0

pub returns-in_err-insert : goal.returns-in_err-insert
returns-in_err-insert c =
    let at : slice_get (keys_of c.args.t.now) (length_of c.loop-key.keys) ≡ Some c.in_ok-key.key =
    ap (slice_get (keys_of c.args.t.now)) (sym c.len.ensures.length) ∙ sym c.key.ensures ∙ ap (option_map (λ v. v.now)) c.in-Some.is ∙ ap Some (sym c.in_ok-key.ensures.ok) in
    let p = err_from_is_err_and c.from_residual-in_err-insert.result c.from_residual-in_err-insert.ensures.1 in
    inr (p.1 ∙ ap Err (p.2 ∙ key_fault c.args.t.now c.loop-key.keys c.in_ok-key.key c.in_err-insert.field-0.0 c.requires c.len-length.ensures.regular c.loop-key.invariant at c.in_err-insert.ensures.sizes))

pub returns : goal.returns
returns c =
    all_keys c.args.t.now c.loop-key.keys c.loop-key.invariant
    (ap (slice_get (keys_of c.args.t.now)) (sym c.len.ensures.length) ∙ sym c.key.ensures ∙ ap (option_map (λ v. v.now)) c.in_default.is)
