use Rattle.std.proofs.Common.{◌≡◌, ◌+◌, ◌++◌, ◌∷◌, [], ℕ, List, length, take, Some, sym, ap, ◌∙◌, append_assoc, arith, slice_get}
use Rattle.std.proofs.Math.Facts.{Fits-of_lt}
use Rattle.std.specs.List.{flat_map}
use Rattle.std.specs.Option.{option_map}
use Rattle.abc_value.specs.Parts.{parts_of, pairs_of, keys_of}
use Rattle.abc_value.proofs.trees.Lower.{part_lower, key_lower}
use Rattle.abc_record.specs.Bytes.{in_four}
use Rattle.abc_record.specs.Spelling.{spelled_value}
use Rattle.abc_record.specs.inner.Writing.{spelled_pair}
use Rattle.abc_record.proofs.Pushing.{regular_length, compound_length, list_length, table_length, compound_spelled, list_spelled, table_spelled, behind_tag, flat_next, piece_more, pair_at, on_ok}
use Rattle.abc_record.proofs.writing.+push.Goals as goal

pub push_parts-overflow_cast-len : goal.push_parts-overflow_cast-len
push_parts-overflow_cast-len t c = Fits-of_lt (omega (arith, regular_length c.args.value.now c.len.ensures.regular, c.len.ensures.length))

pub push_pairs-overflow_cast-len : goal.push_pairs-overflow_cast-len
push_pairs-overflow_cast-len t c = Fits-of_lt (omega (arith, regular_length c.args.value.now c.len.ensures.regular, c.len.ensures.length))

pub push_value-push_parts-requires : goal.push_value-push_parts-requires
push_value-push_parts-requires t c = (omega arith, compound_length c.args.value.now (sym c.kind.ensures ∙ c.in-Compound.is))

pub push_value-push_parts-requires-in-List : goal.push_value-push_parts-requires-in-List
push_value-push_parts-requires-in-List t c = (omega arith, list_length c.args.value.now (sym c.kind.ensures ∙ c.in-List.is))

pub push_value-push_pairs-requires : goal.push_value-push_pairs-requires
push_value-push_pairs-requires t c = (omega arith, table_length c.args.value.now (sym c.kind.ensures ∙ c.in-Table.is))

pub push_value-returns-in_ok-push-in-Compound : goal.push_value-returns-in_ok-push-in-Compound
push_value-returns-in_ok-push-in-Compound t c =
    let v = c.args.value.now in
    on_ok c.push_parts.result c.push_parts.ensures (λ e. behind_tag c.args.bytes.now.items c.push-in-Compound.new.self.items c.push_parts.new.bytes.items _ _ (spelled_value v) 3 c.in_ok-push-in-Compound.ensures.items e (compound_spelled v (sym c.kind.ensures ∙ c.in-Compound.is)))

pub push_value-returns-in_ok-push-in-List : goal.push_value-returns-in_ok-push-in-List
push_value-returns-in_ok-push-in-List t c =
    let v = c.args.value.now in
    on_ok c.push_parts-in-List.result c.push_parts-in-List.ensures (λ e. behind_tag c.args.bytes.now.items c.push-in-List.new.self.items c.push_parts-in-List.new.bytes.items _ _ (spelled_value v) 4 c.in_ok-push-in-List.ensures.items e (list_spelled v (sym c.kind.ensures ∙ c.in-List.is)))

pub push_value-returns-in_ok-push-in-Table : goal.push_value-returns-in_ok-push-in-Table
push_value-returns-in_ok-push-in-Table t c =
    let v = c.args.value.now in
    on_ok c.push_pairs.result c.push_pairs.ensures (λ e. behind_tag c.args.bytes.now.items c.push-in-Table.new.self.items c.push_pairs.new.bytes.items _ _ (spelled_value v) 5 c.in_ok-push-in-Table.ensures.items e (table_spelled v (sym c.kind.ensures ∙ c.in-Table.is)))

pub push_parts-push_value-requires : goal.push_parts-push_value-requires
push_parts-push_value-requires t c =
    let at : slice_get (parts_of c.args.value.now) c.loop-i.i ≡ Some c.in-Some.part.now = sym c.part.ensures ∙ ap (option_map (λ v. v.now)) c.in-Some.is in
    let lower = part_lower c.args.value.now c.loop-i.i c.in-Some.part.now at in
    (omega (arith, lower), tt)

pub push_parts-loop-i-preserved : goal.push_parts-loop-i-preserved
push_parts-loop-i-preserved t c =
    let parts = parts_of c.args.value.now in
    let at : slice_get parts c.loop-i.i ≡ Some c.in-Some.part.now = sym c.part.ensures ∙ ap (option_map (λ v. v.now)) c.in-Some.is in
    piece_more (c.args.bytes.now.items ++ in_four (length parts)) c.loop-i.bytes.items c.push_value.new.bytes.items (flat_map spelled_value (take c.loop-i.i parts)) (spelled_value c.in-Some.part.now) _
    c.loop-i.invariant c.in_ok-push_value.ensures (flat_next spelled_value parts c.loop-i.i c.in-Some.part.now at)

pub push_pairs-push_value-requires : goal.push_pairs-push_value-requires
push_pairs-push_value-requires t c =
    let at : slice_get (keys_of c.args.value.now) c.loop-i.i ≡ Some c.in-Some.key.now = sym c.key.ensures ∙ ap (option_map (λ v. v.now)) c.in-Some.is in
    let lower = key_lower c.args.value.now c.loop-i.i c.in-Some.key.now at in
    (omega (arith, lower), tt)

pub push_pairs-push_value-requires-in-loop-i : goal.push_pairs-push_value-requires-in-loop-i
push_pairs-push_value-requires-in-loop-i t c =
    let at : slice_get (parts_of c.args.value.now) c.loop-i.i ≡ Some c.in-Some-part.associate.now = sym c.part.ensures ∙ ap (option_map (λ v. v.now)) c.in-Some-part.is in
    let lower = part_lower c.args.value.now c.loop-i.i c.in-Some-part.associate.now at in
    (omega (arith, lower), tt)

pub push_pairs-loop-i-preserved : goal.push_pairs-loop-i-preserved
push_pairs-loop-i-preserved t c =
    let v = c.args.value.now in
    let ps = pairs_of v in
    let key = c.in-Some.key.now in
    let associate = c.in-Some-part.associate.now in
    let key_at : slice_get (keys_of v) c.loop-i.i ≡ Some key = sym c.key.ensures ∙ ap (option_map (λ v. v.now)) c.in-Some.is in
    let part_at : slice_get (parts_of v) c.loop-i.i ≡ Some associate = sym c.part.ensures ∙ ap (option_map (λ v. v.now)) c.in-Some-part.is in
    let at = pair_at v c.loop-i.i key associate key_at part_at in
    let both : c.push_value-in-loop-i.new.bytes.items ≡ c.loop-i.bytes.items ++ spelled_pair (key, associate) =
    c.in_ok-push_value-2.ensures ∙ ap (λ (s : List ℕ). s ++ spelled_value associate) c.in_ok-push_value.ensures ∙ append_assoc c.loop-i.bytes.items (spelled_value key) (spelled_value associate) in
    piece_more (c.args.bytes.now.items ++ in_four (length ps)) c.loop-i.bytes.items c.push_value-in-loop-i.new.bytes.items (flat_map spelled_pair (take c.loop-i.i ps)) (spelled_pair (key, associate)) _
    c.loop-i.invariant both (flat_next spelled_pair ps c.loop-i.i (key, associate) at)
