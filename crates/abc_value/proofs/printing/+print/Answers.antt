use Rattle.std.proofs.Common.{◌+◌, ◌<◌, ◌≤◌, [], ◌++◌, length, map, get_or, drop, refl, arith}
use Rattle.std.proofs.lemmas.Result.{err_from_is_err_and}
use Rattle.std.specs.Prelude.{codes}
use Rattle.abc_value.specs.Tree.{trees, pairs}
use Rattle.abc_value.specs.View.{as_pair}
use Rattle.abc_value.specs.Printed.{joined, display, displays, pair_display, pair_displays}
use Rattle.abc_value.specs.inner.Printing.{lead}
use Rattle.abc_value.proofs.ordering.Comparing.{part_below, entry_below}
use Rattle.abc_value.proofs.printed.Appending.{left, says, goes_on, ends, refused, left_more, left_all, displays_count, display_at, pairs_count, pair_at}
use Rattle.abc_value.proofs.printing.+print.Goals as goal

pub add_displays-add_display-requires : goal.add_displays-add_display-requires
add_displays-add_display-requires t c =
    let below = part_below c.args.parts.now c.loop-i.i c.index.result.now (omega arith) c.index.ensures in
    (omega arith, tt)

pub add_pairs-add_pair-requires : goal.add_pairs-add_pair-requires
add_pairs-add_pair-requires t c =
    let below = entry_below c.args.entries.now c.loop-i.i c.index.result.now (omega arith) c.index.ensures in
    (omega (arith, below.0, below.1), tt)

pub add_displays-returns-in_err-separate : goal.add_displays-returns-in_err-separate
add_displays-returns-in_err-separate t c =
    let p = err_from_is_err_and c.from_residual.result c.from_residual.ensures.1 in
    let before = c.args.bytes.now.items in
    let texts = displays (trees c.args.parts.now) in
    let inside : c.loop-i.i < length texts = omega (arith, displays_count c.args.parts.now) in
    let t = get_or texts c.loop-i.i [] in
    let rest = left c.args.separator.now (c.loop-i.i + 1) (drop (c.loop-i.i + 1) texts) in
    let going = says before (joined c.args.separator.now texts) c.loop-i.bytes.items _ (lead c.args.separator.now c.loop-i.i ++ (t ++ rest)) c.args.most c.loop-i.invariant (left_more c.args.separator.now texts c.loop-i.i t inside refl) in
    refused before (joined c.args.separator.now texts) c.loop-i.bytes.items (lead c.args.separator.now c.loop-i.i) (t ++ rest) c.separate.new.bytes.items c.args.most c.from_residual.result _ _ going p.1 p.2 c.in_err-separate.ensures

pub add_displays-returns-in_err-add_display : goal.add_displays-returns-in_err-add_display
add_displays-returns-in_err-add_display t c =
    let p = err_from_is_err_and c.from_residual-in_err-add_display.result c.from_residual-in_err-add_display.ensures.1 in
    let before = c.args.bytes.now.items in
    let texts = displays (trees c.args.parts.now) in
    let inside : c.loop-i.i < length texts = omega (arith, displays_count c.args.parts.now) in
    let t = display c.index.result.now in
    let rest = left c.args.separator.now (c.loop-i.i + 1) (drop (c.loop-i.i + 1) texts) in
    let going = says before (joined c.args.separator.now texts) c.loop-i.bytes.items _ (lead c.args.separator.now c.loop-i.i ++ (t ++ rest)) c.args.most c.loop-i.invariant (left_more c.args.separator.now texts c.loop-i.i t inside (display_at c.args.parts.now c.loop-i.i c.index.result.now (omega arith) c.index.ensures)) in
    let led = goes_on before (joined c.args.separator.now texts) c.loop-i.bytes.items (lead c.args.separator.now c.loop-i.i) (t ++ rest) c.separate.new.bytes.items c.args.most going c.in_ok-separate.ensures in
    refused before (joined c.args.separator.now texts) c.separate.new.bytes.items t rest c.add_display.new.bytes.items c.args.most c.from_residual-in_err-add_display.result _ _ led p.1 p.2 c.in_err-add_display.ensures

pub add_displays-loop-i-preserved : goal.add_displays-loop-i-preserved
add_displays-loop-i-preserved t c =
    let before = c.args.bytes.now.items in
    let texts = displays (trees c.args.parts.now) in
    let inside : c.loop-i.i < length texts = omega (arith, displays_count c.args.parts.now) in
    let t = display c.index.result.now in
    let rest = left c.args.separator.now (c.loop-i.i + 1) (drop (c.loop-i.i + 1) texts) in
    let going = says before (joined c.args.separator.now texts) c.loop-i.bytes.items _ (lead c.args.separator.now c.loop-i.i ++ (t ++ rest)) c.args.most c.loop-i.invariant (left_more c.args.separator.now texts c.loop-i.i t inside (display_at c.args.parts.now c.loop-i.i c.index.result.now (omega arith) c.index.ensures)) in
    let led = goes_on before (joined c.args.separator.now texts) c.loop-i.bytes.items (lead c.args.separator.now c.loop-i.i) (t ++ rest) c.separate.new.bytes.items c.args.most going c.in_ok-separate.ensures in
    goes_on before (joined c.args.separator.now texts) c.separate.new.bytes.items t rest c.add_display.new.bytes.items c.args.most led c.in_ok-add_display.ensures

pub add_displays-returns : goal.add_displays-returns
add_displays-returns t c =
    let texts = displays (trees c.args.parts.now) in
    let past : length texts ≤ c.loop-i.i = omega (arith, displays_count c.args.parts.now) in
    ends c.args.bytes.now.items (joined c.args.separator.now texts) c.loop-i.bytes.items c.args.most (says c.args.bytes.now.items (joined c.args.separator.now texts) c.loop-i.bytes.items _ [] c.args.most c.loop-i.invariant (left_all c.args.separator.now texts c.loop-i.i past))

pub add_pairs-returns-in_err-separate : goal.add_pairs-returns-in_err-separate
add_pairs-returns-in_err-separate t c =
    let p = err_from_is_err_and c.from_residual.result c.from_residual.ensures.1 in
    let before = c.args.bytes.now.items in
    let texts = pair_displays (pairs (map as_pair c.args.entries.now)) in
    let inside : c.loop-i.i < length texts = omega (arith, pairs_count c.args.entries.now) in
    let t = get_or texts c.loop-i.i [] in
    let rest = left (codes "; ") (c.loop-i.i + 1) (drop (c.loop-i.i + 1) texts) in
    let going = says before (joined (codes "; ") texts) c.loop-i.bytes.items _ (lead (codes "; ") c.loop-i.i ++ (t ++ rest)) c.args.most c.loop-i.invariant (left_more (codes "; ") texts c.loop-i.i t inside refl) in
    refused before (joined (codes "; ") texts) c.loop-i.bytes.items (lead (codes "; ") c.loop-i.i) (t ++ rest) c.separate.new.bytes.items c.args.most c.from_residual.result _ _ going p.1 p.2 c.in_err-separate.ensures

pub add_pairs-returns-in_err-add_pair : goal.add_pairs-returns-in_err-add_pair
add_pairs-returns-in_err-add_pair t c =
    let p = err_from_is_err_and c.from_residual-in_err-add_pair.result c.from_residual-in_err-add_pair.ensures.1 in
    let before = c.args.bytes.now.items in
    let texts = pair_displays (pairs (map as_pair c.args.entries.now)) in
    let inside : c.loop-i.i < length texts = omega (arith, pairs_count c.args.entries.now) in
    let t = pair_display (as_pair c.index.result.now) in
    let rest = left (codes "; ") (c.loop-i.i + 1) (drop (c.loop-i.i + 1) texts) in
    let going = says before (joined (codes "; ") texts) c.loop-i.bytes.items _ (lead (codes "; ") c.loop-i.i ++ (t ++ rest)) c.args.most c.loop-i.invariant (left_more (codes "; ") texts c.loop-i.i t inside (pair_at c.args.entries.now c.loop-i.i c.index.result.now (omega arith) c.index.ensures)) in
    let led = goes_on before (joined (codes "; ") texts) c.loop-i.bytes.items (lead (codes "; ") c.loop-i.i) (t ++ rest) c.separate.new.bytes.items c.args.most going c.in_ok-separate.ensures in
    refused before (joined (codes "; ") texts) c.separate.new.bytes.items t rest c.add_pair.new.bytes.items c.args.most c.from_residual-in_err-add_pair.result _ _ led p.1 p.2 c.in_err-add_pair.ensures

pub add_pairs-loop-i-preserved : goal.add_pairs-loop-i-preserved
add_pairs-loop-i-preserved t c =
    let before = c.args.bytes.now.items in
    let texts = pair_displays (pairs (map as_pair c.args.entries.now)) in
    let inside : c.loop-i.i < length texts = omega (arith, pairs_count c.args.entries.now) in
    let t = pair_display (as_pair c.index.result.now) in
    let rest = left (codes "; ") (c.loop-i.i + 1) (drop (c.loop-i.i + 1) texts) in
    let going = says before (joined (codes "; ") texts) c.loop-i.bytes.items _ (lead (codes "; ") c.loop-i.i ++ (t ++ rest)) c.args.most c.loop-i.invariant (left_more (codes "; ") texts c.loop-i.i t inside (pair_at c.args.entries.now c.loop-i.i c.index.result.now (omega arith) c.index.ensures)) in
    let led = goes_on before (joined (codes "; ") texts) c.loop-i.bytes.items (lead (codes "; ") c.loop-i.i) (t ++ rest) c.separate.new.bytes.items c.args.most going c.in_ok-separate.ensures in
    goes_on before (joined (codes "; ") texts) c.separate.new.bytes.items t rest c.add_pair.new.bytes.items c.args.most led c.in_ok-add_pair.ensures

pub add_pairs-returns : goal.add_pairs-returns
add_pairs-returns t c =
    let texts = pair_displays (pairs (map as_pair c.args.entries.now)) in
    let past : length texts ≤ c.loop-i.i = omega (arith, pairs_count c.args.entries.now) in
    ends c.args.bytes.now.items (joined (codes "; ") texts) c.loop-i.bytes.items c.args.most (says c.args.bytes.now.items (joined (codes "; ") texts) c.loop-i.bytes.items _ [] c.args.most c.loop-i.invariant (left_all (codes "; ") texts c.loop-i.i past))
