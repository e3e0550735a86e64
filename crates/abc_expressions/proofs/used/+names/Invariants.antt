use Rattle.std.proofs.Common.{◌≡◌, ◌+◌, ◌*◌, ◌++◌, drop}
use Rattle.abc_expressions.specs.NameTokens.{part_names, names_among, conversion_names}
use Rattle.abc_expressions.proofs.used.+names.Given as goal

abbrev pub decreases-in_conversion : goal.decreases-in_conversion
decreases-in_conversion l = 5 * l.left

abbrev pub decreases-in_part : goal.decreases-in_part
decreases-in_part l = 5 * l.left + 1

abbrev pub decreases-in_parts : goal.decreases-in_parts
decreases-in_parts l = 5 * l.left + 2

abbrev pub decreases-in_token : goal.decreases-in_token
decreases-in_token l = 5 * l.left + 3

abbrev pub decreases-in_tokens : goal.decreases-in_tokens
decreases-in_tokens l = 5 * l.left + 4

abbrev pub invariant-in_parts-loop-part : goal.invariant-in_parts-loop-part
invariant-in_parts-loop-part l = l.names ++ part_names (conversion_names l.left) (drop l.part-index l.parts) ≡ l.fn.names ++ part_names (conversion_names l.left) l.parts

abbrev pub invariant-in_tokens-loop-token : goal.invariant-in_tokens-loop-token
invariant-in_tokens-loop-token l = l.names ++ names_among (conversion_names l.left) (drop l.token-index l.tokens) ≡ l.fn.names ++ names_among (conversion_names l.left) l.tokens
