-- What spells a value is read as it.
use Rattle.std.proofs.Common.{◌≡◌, List, [], ◌∷◌, ◌++◌, Option, Some, refl, ap, ◌∙◌}
use Rattle.std.proofs.lemmas.List.{append_assoc}
use Rattle.abc_value.specs.Tree.{Tree}
use Rattle.abc_print.specs.declared.frames.Mark.{Mark}
use Rattle.abc_print.specs.declared.frames.Mark.TheVariants as mark
use Rattle.abc_print.specs.declared.frames.Lexeme.{Lexeme}
use Rattle.abc_print.specs.declared.frames.Frame.{Frame}
use Rattle.abc_print.specs.declared.frames.Frame.TheVariants as f
use Rattle.abc_print.specs.declared.frames.Turn.{Turn}
use Rattle.abc_print.specs.declared.frames.Turn.TheVariants as turn
use Rattle.abc_print.specs.Literals.{fielded, listed, tabled, sign, IsPart, value, enclosed, nothing, elements, associations, AreParts, one, more, ArePairs, one_pair, more_pairs, IsLiteral}
use Rattle.abc_print.specs.inner.Machine.{given, pair_of, run, value_of}

-- the sign between parts goes on in a frame
abbrev GoesOn : Mark → (List Tree → Frame) → List Frame → Type 0
GoesOn m frame stack = (so_far : List Tree) (t : Tree) (us : List Lexeme) → run (sign m ∷ us) (frame so_far ∷ stack) (turn.Behind t) ≡ run us (frame (so_far ++ t ∷ []) ∷ stack) turn.Part

-- and what follows the parts ends them
abbrev EndsIn : List Lexeme → (List Tree → Frame) → List Frame → (List Tree → Option Tree) → Type 0
EndsIn rest frame stack after = (so_far : List Tree) (t : Tree) → run rest (frame so_far ∷ stack) (turn.Behind t) ≡ after (so_far ++ t ∷ [])

abbrev EndsPairs : List Lexeme → List Frame → (List (Tree × Tree) → Option Tree) → Type 0
EndsPairs rest stack after = (so_far : List (Tree × Tree)) (k a : Tree) → run rest (f.Associate so_far k ∷ stack) (turn.Behind a) ≡ after (so_far ++ pair_of k a ∷ [])

abbrev StartsKey : Frame → Turn → List (Tree × Tree) → List Frame → Type 0
StartsKey frame at so_far stack = (us : List Lexeme) → run (sign mark.Bracket ∷ us) (frame ∷ stack) at ≡ run us (f.Key so_far [] ∷ stack) turn.Part

mutual
  unfolding run

  complete_part : {t : Tree} {ls rest : List Lexeme} → IsPart t ls rest → (stack : List Frame) → run ls stack turn.Part ≡ run rest stack (turn.Behind t)
  complete_part value stack = refl
  complete_part (enclosed {rest = rest} ps e) stack =
      complete_parts ps (λ ts. f.Round ts) stack (λ ts. given (fielded ts) (λ v. run rest stack (turn.Behind v))) (λ so_far t us. refl) (λ so_far t. refl) []
      ∙ ap (λ o. given o (λ v. run rest stack (turn.Behind v))) e
  complete_part nothing stack = refl
  complete_part (elements {rest = rest} ps e) stack =
      complete_parts ps (λ ts. f.Elements ts) stack (λ ts. given (listed ts) (λ v. run rest stack (turn.Behind v))) (λ so_far t us. refl) (λ so_far t. refl) []
      ∙ ap (λ o. given o (λ v. run rest stack (turn.Behind v))) e
  complete_part (associations {rest = rest} ps e) stack =
      complete_pairs ps stack (λ qs. given (tabled qs) (λ v. run rest stack (turn.Behind v))) (λ so_far k a. refl) [] (f.Elements []) turn.Part (λ us. refl)
      ∙ ap (λ o. given o (λ v. run rest stack (turn.Behind v))) e

  complete_parts : {m : Mark} {ts : List Tree} {ls rest : List Lexeme} → AreParts m ts ls rest → (frame : List Tree → Frame) (stack : List Frame) (after : List Tree → Option Tree)
      → GoesOn m frame stack → EndsIn rest frame stack after → (so_far : List Tree) → run ls (frame so_far ∷ stack) turn.Part ≡ after (so_far ++ ts)
  complete_parts (one {t = t} p) frame stack after goes end so_far = complete_part p (frame so_far ∷ stack) ∙ end so_far t
  complete_parts (more {t = t} {ts = ts} {us = us} p ps) frame stack after goes end so_far =
      complete_part p (frame so_far ∷ stack) ∙ goes so_far t us ∙ complete_parts ps frame stack after goes end (so_far ++ t ∷ []) ∙ ap after (append_assoc so_far (t ∷ []) ts)

  complete_pairs : {ps : List (Tree × Tree)} {ls rest : List Lexeme} → ArePairs ps ls rest → (stack : List Frame) (after : List (Tree × Tree) → Option Tree)
      → EndsPairs rest stack after → (so_far : List (Tree × Tree)) (frame : Frame) (at : Turn) → StartsKey frame at so_far stack → run ls (frame ∷ stack) at ≡ after (so_far ++ ps)
  complete_pairs (one_pair {k = k} {a = a} {ls = ls} {us = us} keys e p) stack after end so_far frame at start =
      start ls
      ∙ complete_parts keys (λ ts. f.Key so_far ts) stack (λ ts. given (fielded ts) (λ v. run us (f.Associate so_far v ∷ stack) turn.Part)) (λ done t vs. refl) (λ done t. refl) []
      ∙ ap (λ o. given o (λ v. run us (f.Associate so_far v ∷ stack) turn.Part)) e
      ∙ complete_part p (f.Associate so_far k ∷ stack)
      ∙ end so_far k a
  complete_pairs (more_pairs {k = k} {a = a} {ps = ps} {ls = ls} {us = us} keys e p rest_pairs) stack after end so_far frame at start =
      start ls
      ∙ complete_parts keys (λ ts. f.Key so_far ts) stack (λ ts. given (fielded ts) (λ v. run us (f.Associate so_far v ∷ stack) turn.Part)) (λ done t vs. refl) (λ done t. refl) []
      ∙ ap (λ o. given o (λ v. run us (f.Associate so_far v ∷ stack) turn.Part)) e
      ∙ complete_part p (f.Associate so_far k ∷ stack)
      ∙ complete_pairs rest_pairs stack after end (so_far ++ pair_of k a ∷ []) (f.Pairs (so_far ++ pair_of k a ∷ [])) turn.Bracket (λ vs. refl)
      ∙ ap after (append_assoc so_far (pair_of k a ∷ []) ps)

pub complete : (t : Tree) (ls : List Lexeme) → IsLiteral t ls → value_of ls ≡ Some t
unfolding run
complete t ls h = complete_parts h.1 (λ ts. f.Whole ts) [] fielded (λ so_far u us. refl) (λ so_far u. refl) [] ∙ h.2
