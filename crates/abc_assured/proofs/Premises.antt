-- What a session runs meets the premises of soundness.
use Rattle.std.proofs.Common.{◌≡◌, ◌≤◌, ℕ, true, List, [], ◌∷◌, arith}
use Rattle.std.specs.Prelude.{◌&&◌, nat_le}
use Rattle.std.specs.List.{AllByRecursion}
use Rattle.std.proofs.lemmas.Bool.{and_parts}
use Rattle.std.proofs.lemmas.Bool.Decides.{nat_tests}
use Rattle.abc_num.specs.declared.limits.TheConstants.{MOST_LINES, MOST_SUITES}
use Rattle.abc_tree.specs.Regular.{Names}
use Rattle.abc_tree.specs.RegularItems as piece
use Rattle.abc_tree.specs.RegularItems.{Exits, Parts, are_regular_parts, command_names, exits_of, is_regular_part, lines_of, parts_of}
use Rattle.abc_tree.specs.declared.templates.TemplateKind.TheVariants as kind
use Rattle.abc_tree.proofs.Opening.{open_command}
use Rattle.abc_assured.specs.Assured.{MeetsPremises}
use Rattle.abc_assured.proofs.Reached.{all_reached}

module _ (names : Names) (commands : List (List ℕ)) (exits : Exits) (n : ℕ) (most : MOST_LINES ≤ n) where
  within : (m : ℕ) → nat_le m MOST_LINES ≡ true → m ≤ n
  within m h = grind (arith, nat_tests)

  -- the lines in regular parts are no greater than lines may be
  lines_end : (parts : Parts) → are_regular_parts names commands exits parts ≡ true → AllByRecursion (λ line. line ≤ n) (lines_of parts)
  lines_end [] h = tt
  lines_end (x ∷ parts) h =
      let q = and_parts (nat_le x.0 MOST_SUITES && is_regular_part names commands exits x.1) (are_regular_parts names commands exits parts) h in
      by x.1 (and_parts (nat_le x.0 MOST_SUITES) (is_regular_part names commands exits x.1) q.0).1 (lines_end parts q.1)
    where
      by : (x : piece.Part) → is_regular_part names commands exits x ≡ true → AllByRecursion (λ line. line ≤ n) (lines_of parts) → AllByRecursion (λ line. line ≤ n) (lines_of ((0, x) ∷ parts))
      by (piece.line m) e rest = (within m (and_parts (nat_le 1 m) (nat_le m MOST_LINES) e).1, rest)
      by (piece.value v) e rest = rest
      by (piece.address a) e rest = rest
      by (piece.example a) e rest = rest
      by (piece.test t) e rest = rest
      by (piece.bound b) e rest = rest
      by piece.quits e rest = rest
      by piece.returns e rest = rest
      by piece.reports e rest = rest
      by (piece.calls t k) e rest = rest
      by (piece.refinement r) e rest = rest
      by piece.early_else e rest = rest

pub premises_met : MeetsPremises
premises_met units targets c n kept read values command most last none = record {
  read = read;
  command = command;
  regular = values;
  ends = lines_end (command_names c) [] (exits_of kind.Command) n most (parts_of c.action) (open_command c command.regular).parts;
  reaches = λ t u h leads. all_reached units c n kept last none t u h leads;
}
