-- What is read is spelled.
use Rattle.std.proofs.Common.{◌≡◌, List, [], ◌∷◌, ◌++◌, Option, Some, None, refl, sym, subst}
use Rattle.std.proofs.lemmas.List.{append_assoc}
use Rattle.abc_value.specs.Tree.{Tree}
use Rattle.abc_print.specs.declared.frames.Mark.{Mark}
use Rattle.abc_print.specs.declared.frames.Mark.TheVariants as mark
use Rattle.abc_print.specs.declared.frames.Lexeme.{Lexeme}
use Rattle.abc_print.specs.declared.frames.Lexeme.TheVariants as lexeme
use Rattle.abc_print.specs.declared.frames.Frame.{Frame}
use Rattle.abc_print.specs.declared.frames.Frame.TheVariants as f
use Rattle.abc_print.specs.declared.frames.Turn.{Turn}
use Rattle.abc_print.specs.declared.frames.Turn.TheVariants as turn
use Rattle.abc_print.specs.Literals.{fielded, listed, tabled, sign, IsPart, value, enclosed, nothing, elements, associations, AreParts, one, more, ArePairs, one_pair, more_pairs, IsLiteral}
use Rattle.abc_print.specs.inner.Machine.{given, pair_of, run, value_of, emptied, first_key, later_key, at_part, at_bracket, at_colon, with_field, with_entry, closed, unbracketed, unbraced, behind, at_mark, finished}

-- the parts were read from us on, and what is read as parts from ts on comes behind them
record Sofar (m : Mark) (parts : List Tree) (us ts : List Lexeme) : Type 0 where
  goes_on : (others : List Tree) (rest : List Lexeme) → AreParts m others ts rest → AreParts m (parts ++ others) us rest
  start : parts ≡ [] → us ≡ ts

record SofarPairs (pairs : List (Tree × Tree)) (us ts : List Lexeme) : Type 0 where
  goes_on : (others : List (Tree × Tree)) (rest : List Lexeme) → ArePairs others ts rest → ArePairs (pairs ++ others) us rest

sofar_none : (m : Mark) (ts : List Lexeme) → Sofar m [] ts ts
sofar_none m ts = record { goes_on = λ _ _ p. p; start = λ _. refl }

not_empty : (parts : List Tree) (a : Tree) → parts ++ a ∷ [] ≡ [] → ⊥
not_empty [] a h = cc
not_empty (x ∷ xs) a h = cc

sofar_more : (m : Mark) (parts : List Tree) (a : Tree) (us vs ts : List Lexeme) → Sofar m parts us vs → IsPart a vs (sign m ∷ ts) → Sofar m (parts ++ a ∷ []) us ts
sofar_more m parts a us vs ts h p = record {
  goes_on = λ others rest q. subst (λ (x : List Tree). AreParts m x us rest) (sym (append_assoc parts (a ∷ []) others)) (h.goes_on (a ∷ others) rest (more p q));
  start = λ e. absurd (not_empty parts a e);
}

sofar_all : (m : Mark) (parts : List Tree) (a : Tree) (us vs rest : List Lexeme) → Sofar m parts us vs → IsPart a vs rest → AreParts m (parts ++ a ∷ []) us rest
sofar_all m parts a us vs rest h p = h.goes_on (a ∷ []) rest (one p)

pairs_none : (ts : List Lexeme) → SofarPairs [] ts ts
pairs_none ts = record { goes_on = λ _ _ p. p }

given_some : (o : Option Tree) (go : Tree → Option Tree) (t : Tree) → given o go ≡ Some t → (v : Tree) × (o ≡ Some v) × (go v ≡ Some t)
given_some None go t h = cc
given_some (Some v) go t h = (v, refl, h)

module _ (all : List Lexeme) where
  -- the frames hold what was read up to ts
  abbrev Pending : List Frame → List Lexeme → Type 0
  Pending [] ts = ⊥
  Pending (f.Whole fields ∷ stack) ts = (stack ≡ []) × Sofar mark.Comma fields all ts
  Pending (f.Round fields ∷ stack) ts = (us : List Lexeme) × Sofar mark.Comma fields us ts × Pending stack (sign mark.Open ∷ us)
  Pending (f.Elements es ∷ stack) ts = (us : List Lexeme) × Sofar mark.Semicolon es us ts × Pending stack (sign mark.Brace ∷ us)
  Pending (f.Pairs ps ∷ stack) ts = (us : List Lexeme) × SofarPairs ps us ts × Pending stack (sign mark.Brace ∷ us)
  Pending (f.Key ps fields ∷ stack) ts = (vs : List Lexeme) × Sofar mark.Comma fields vs ts × (us : List Lexeme) × SofarPairs ps us (sign mark.Bracket ∷ vs) × Pending stack (sign mark.Brace ∷ us)
  Pending (f.Associate ps k ∷ stack) ts = (ks : List Tree) × (vs : List Lexeme) × AreParts mark.Comma ks vs (sign mark.Unbracket ∷ sign mark.Colon ∷ ts) × (fielded ks ≡ Some k)
      × (us : List Lexeme) × SofarPairs ps us (sign mark.Bracket ∷ vs) × Pending stack (sign mark.Brace ∷ us)

  abbrev WantsKey : List Frame → List Lexeme → Type 0
  WantsKey (f.Pairs ps ∷ stack) ts = Pending (f.Pairs ps ∷ stack) ts
  WantsKey _ ts = ⊥

  abbrev HasRead : List Frame → Tree → List Lexeme → Type 0
  HasRead stack a ts = (us : List Lexeme) × IsPart a us ts × Pending stack us

  abbrev Stands : List Frame → Turn → List Lexeme → Type 0
  Stands stack turn.Part ts = Pending stack ts
  Stands stack turn.Bracket ts = WantsKey stack ts
  Stands stack turn.Colon ts = (rest : List Lexeme) → ts ≡ sign mark.Colon ∷ rest → Pending stack rest
  Stands stack (turn.Behind a) ts = HasRead stack a ts

  -- one pair more, whose key was read
  pairs_more : (ps : List (Tree × Tree)) (k a : Tree) (ks : List Tree) (us vs ws ts : List Lexeme) → SofarPairs ps us (sign mark.Bracket ∷ vs)
      → AreParts mark.Comma ks vs (sign mark.Unbracket ∷ sign mark.Colon ∷ ws) → fielded ks ≡ Some k → IsPart a ws (sign mark.Semicolon ∷ ts) → SofarPairs (ps ++ pair_of k a ∷ []) us ts
  pairs_more ps k a ks us vs ws ts h keys e p = record {
    goes_on = λ others rest q. subst (λ (x : List (Tree × Tree)). ArePairs x us rest) (sym (append_assoc ps (pair_of k a ∷ []) others)) (h.goes_on (pair_of k a ∷ others) rest (more_pairs keys e p q));
  }

  pairs_all : (ps : List (Tree × Tree)) (k a : Tree) (ks : List Tree) (us vs ws rest : List Lexeme) → SofarPairs ps us (sign mark.Bracket ∷ vs)
      → AreParts mark.Comma ks vs (sign mark.Unbracket ∷ sign mark.Colon ∷ ws) → fielded ks ≡ Some k → IsPart a ws rest → ArePairs (ps ++ pair_of k a ∷ []) us rest
  pairs_all ps k a ks us vs ws rest h keys e p = h.goes_on (pair_of k a ∷ []) rest (one_pair keys e p)

  module _ (ls : List Lexeme) (goes : (stack : List Frame) (at : Turn) (t : Tree) → Stands stack at ls → run ls stack at ≡ Some t → IsLiteral t all) where
    by_unbrace : (stack : List Frame) (t : Tree) → Pending stack (sign mark.Unbrace ∷ ls) → emptied (run ls) stack ≡ Some t → IsLiteral t all
    by_unbrace (f.Elements [] ∷ stack) t h e =
        let same : h.0 ≡ sign mark.Unbrace ∷ ls = h.1.start refl in
        let P : List Lexeme → Type 0 = λ us. Pending stack (sign mark.Brace ∷ us) in
        goes stack (turn.Behind _) t (sign mark.Brace ∷ sign mark.Unbrace ∷ ls, nothing, subst P same h.2) e
    by_unbrace (f.Elements (x ∷ xs) ∷ stack) t h e = cc
    by_unbrace [] t h e = cc
    by_unbrace (f.Whole fields ∷ stack) t h e = cc
    by_unbrace (f.Round fields ∷ stack) t h e = cc
    by_unbrace (f.Pairs ps ∷ stack) t h e = cc
    by_unbrace (f.Key ps fields ∷ stack) t h e = cc
    by_unbrace (f.Associate ps k ∷ stack) t h e = cc

    by_first_key : (stack : List Frame) (t : Tree) → Pending stack (sign mark.Bracket ∷ ls) → first_key (run ls) stack ≡ Some t → IsLiteral t all
    by_first_key (f.Elements [] ∷ stack) t h e =
        let same : h.0 ≡ sign mark.Bracket ∷ ls = h.1.start refl in
        let P : List Lexeme → Type 0 = λ us. Pending stack (sign mark.Brace ∷ us) in
        goes (f.Key [] [] ∷ stack) turn.Part t (ls, sofar_none mark.Comma ls, sign mark.Bracket ∷ ls, pairs_none (sign mark.Bracket ∷ ls), subst P same h.2) e
    by_first_key (f.Elements (x ∷ xs) ∷ stack) t h e = cc
    by_first_key [] t h e = cc
    by_first_key (f.Whole fields ∷ stack) t h e = cc
    by_first_key (f.Round fields ∷ stack) t h e = cc
    by_first_key (f.Pairs ps ∷ stack) t h e = cc
    by_first_key (f.Key ps fields ∷ stack) t h e = cc
    by_first_key (f.Associate ps k ∷ stack) t h e = cc

    by_part : (m : Mark) (stack : List Frame) (t : Tree) → Pending stack (sign m ∷ ls) → at_part m (run ls) stack ≡ Some t → IsLiteral t all
    by_part mark.Open stack t h e = goes (f.Round [] ∷ stack) turn.Part t (ls, sofar_none mark.Comma ls, h) e
    by_part mark.Brace stack t h e = goes (f.Elements [] ∷ stack) turn.Part t (ls, sofar_none mark.Semicolon ls, h) e
    by_part mark.Unbrace stack t h e = by_unbrace stack t h e
    by_part mark.Bracket stack t h e = by_first_key stack t h e
    by_part mark.Close stack t h e = cc
    by_part mark.Unbracket stack t h e = cc
    by_part mark.Comma stack t h e = cc
    by_part mark.Semicolon stack t h e = cc
    by_part mark.Colon stack t h e = cc

    by_later_key : (stack : List Frame) (t : Tree) → WantsKey stack (sign mark.Bracket ∷ ls) → later_key (run ls) stack ≡ Some t → IsLiteral t all
    by_later_key (f.Pairs ps ∷ stack) t h e = goes (f.Key ps [] ∷ stack) turn.Part t (ls, sofar_none mark.Comma ls, h.0, h.1, h.2) e
    by_later_key [] t h e = cc
    by_later_key (f.Whole fields ∷ stack) t h e = cc
    by_later_key (f.Round fields ∷ stack) t h e = cc
    by_later_key (f.Elements es ∷ stack) t h e = cc
    by_later_key (f.Key ps fields ∷ stack) t h e = cc
    by_later_key (f.Associate ps k ∷ stack) t h e = cc

    by_bracket : (m : Mark) (stack : List Frame) (t : Tree) → WantsKey stack (sign m ∷ ls) → at_bracket m (run ls) stack ≡ Some t → IsLiteral t all
    by_bracket mark.Bracket stack t h e = by_later_key stack t h e
    by_bracket mark.Open stack t h e = cc
    by_bracket mark.Close stack t h e = cc
    by_bracket mark.Brace stack t h e = cc
    by_bracket mark.Unbrace stack t h e = cc
    by_bracket mark.Unbracket stack t h e = cc
    by_bracket mark.Comma stack t h e = cc
    by_bracket mark.Semicolon stack t h e = cc
    by_bracket mark.Colon stack t h e = cc

    by_colon : (m : Mark) (stack : List Frame) (t : Tree) → Stands stack turn.Colon (sign m ∷ ls) → at_colon m (run ls) stack ≡ Some t → IsLiteral t all
    by_colon mark.Colon stack t h e = goes stack turn.Part t (h ls refl) e
    by_colon mark.Open stack t h e = cc
    by_colon mark.Close stack t h e = cc
    by_colon mark.Brace stack t h e = cc
    by_colon mark.Unbrace stack t h e = cc
    by_colon mark.Bracket stack t h e = cc
    by_colon mark.Unbracket stack t h e = cc
    by_colon mark.Comma stack t h e = cc
    by_colon mark.Semicolon stack t h e = cc

    by_comma : (stack : List Frame) (a t : Tree) → HasRead stack a (sign mark.Comma ∷ ls) → with_field (run ls) stack a ≡ Some t → IsLiteral t all
    by_comma (f.Whole fields ∷ stack) a t h e = goes (f.Whole (fields ++ a ∷ []) ∷ stack) turn.Part t (h.2.0, sofar_more mark.Comma fields a all h.0 ls h.2.1 h.1) e
    by_comma (f.Round fields ∷ stack) a t h e = goes (f.Round (fields ++ a ∷ []) ∷ stack) turn.Part t (h.2.0, sofar_more mark.Comma fields a h.2.0 h.0 ls h.2.1 h.1, h.2.2) e
    by_comma (f.Key ps fields ∷ stack) a t h e = goes (f.Key ps (fields ++ a ∷ []) ∷ stack) turn.Part t (h.2.0, sofar_more mark.Comma fields a h.2.0 h.0 ls h.2.1 h.1, h.2.2, h.2.3, h.2.4) e
    by_comma [] a t h e = cc
    by_comma (f.Elements es ∷ stack) a t h e = cc
    by_comma (f.Pairs ps ∷ stack) a t h e = cc
    by_comma (f.Associate ps k ∷ stack) a t h e = cc

    by_semicolon : (stack : List Frame) (a t : Tree) → HasRead stack a (sign mark.Semicolon ∷ ls) → with_entry (run ls) stack a ≡ Some t → IsLiteral t all
    by_semicolon (f.Elements es ∷ stack) a t h e = goes (f.Elements (es ++ a ∷ []) ∷ stack) turn.Part t (h.2.0, sofar_more mark.Semicolon es a h.2.0 h.0 ls h.2.1 h.1, h.2.2) e
    by_semicolon (f.Associate ps k ∷ stack) a t h e =
        let q = h.2 in
        goes (f.Pairs (ps ++ pair_of k a ∷ []) ∷ stack) turn.Bracket t (q.4, pairs_more ps k a q.0 q.4 q.1 h.0 ls q.5 q.2 q.3 h.1, q.6) e
    by_semicolon [] a t h e = cc
    by_semicolon (f.Whole fields ∷ stack) a t h e = cc
    by_semicolon (f.Round fields ∷ stack) a t h e = cc
    by_semicolon (f.Pairs ps ∷ stack) a t h e = cc
    by_semicolon (f.Key ps fields ∷ stack) a t h e = cc

    by_close : (stack : List Frame) (a t : Tree) → HasRead stack a (sign mark.Close ∷ ls) → closed (run ls) stack a ≡ Some t → IsLiteral t all
    by_close (f.Round fields ∷ stack) a t h e =
        let v = given_some (fielded (fields ++ a ∷ [])) (λ v. run ls stack (turn.Behind v)) t e in
        goes stack (turn.Behind v.0) t (sign mark.Open ∷ h.2.0, enclosed (sofar_all mark.Comma fields a h.2.0 h.0 (sign mark.Close ∷ ls) h.2.1 h.1) v.1, h.2.2) v.2
    by_close [] a t h e = cc
    by_close (f.Whole fields ∷ stack) a t h e = cc
    by_close (f.Elements es ∷ stack) a t h e = cc
    by_close (f.Pairs ps ∷ stack) a t h e = cc
    by_close (f.Key ps fields ∷ stack) a t h e = cc
    by_close (f.Associate ps k ∷ stack) a t h e = cc

    by_unbracket : (stack : List Frame) (a t : Tree) → HasRead stack a (sign mark.Unbracket ∷ ls) → unbracketed (run ls) stack a ≡ Some t → IsLiteral t all
    by_unbracket (f.Key ps fields ∷ stack) a t h e =
        let q = h.2 in
        let v = given_some (fielded (fields ++ a ∷ [])) (λ k. run ls (f.Associate ps k ∷ stack) turn.Colon) t e in
        let keys = sofar_all mark.Comma fields a q.0 h.0 (sign mark.Unbracket ∷ ls) q.1 h.1 in
        goes (f.Associate ps v.0 ∷ stack) turn.Colon t
        (λ rest same. (fields ++ a ∷ [], q.0, subst (λ (z : List Lexeme). AreParts mark.Comma (fields ++ a ∷ []) q.0 (sign mark.Unbracket ∷ z)) same keys, v.1, q.2, q.3, q.4)) v.2
    by_unbracket [] a t h e = cc
    by_unbracket (f.Whole fields ∷ stack) a t h e = cc
    by_unbracket (f.Round fields ∷ stack) a t h e = cc
    by_unbracket (f.Elements es ∷ stack) a t h e = cc
    by_unbracket (f.Pairs ps ∷ stack) a t h e = cc
    by_unbracket (f.Associate ps k ∷ stack) a t h e = cc

    by_unbraced : (stack : List Frame) (a t : Tree) → HasRead stack a (sign mark.Unbrace ∷ ls) → unbraced (run ls) stack a ≡ Some t → IsLiteral t all
    by_unbraced (f.Elements es ∷ stack) a t h e =
        let v = given_some (listed (es ++ a ∷ [])) (λ v. run ls stack (turn.Behind v)) t e in
        goes stack (turn.Behind v.0) t (sign mark.Brace ∷ h.2.0, elements (sofar_all mark.Semicolon es a h.2.0 h.0 (sign mark.Unbrace ∷ ls) h.2.1 h.1) v.1, h.2.2) v.2
    by_unbraced (f.Associate ps k ∷ stack) a t h e =
        let q = h.2 in
        let v = given_some (tabled (ps ++ pair_of k a ∷ [])) (λ v. run ls stack (turn.Behind v)) t e in
        goes stack (turn.Behind v.0) t (sign mark.Brace ∷ q.4, associations (pairs_all ps k a q.0 q.4 q.1 h.0 (sign mark.Unbrace ∷ ls) q.5 q.2 q.3 h.1) v.1, q.6) v.2
    by_unbraced [] a t h e = cc
    by_unbraced (f.Whole fields ∷ stack) a t h e = cc
    by_unbraced (f.Round fields ∷ stack) a t h e = cc
    by_unbraced (f.Pairs ps ∷ stack) a t h e = cc
    by_unbraced (f.Key ps fields ∷ stack) a t h e = cc

    by_behind : (m : Mark) (stack : List Frame) (a t : Tree) → HasRead stack a (sign m ∷ ls) → behind m (run ls) stack a ≡ Some t → IsLiteral t all
    by_behind mark.Comma stack a t h e = by_comma stack a t h e
    by_behind mark.Semicolon stack a t h e = by_semicolon stack a t h e
    by_behind mark.Close stack a t h e = by_close stack a t h e
    by_behind mark.Unbracket stack a t h e = by_unbracket stack a t h e
    by_behind mark.Unbrace stack a t h e = by_unbraced stack a t h e
    by_behind mark.Open stack a t h e = cc
    by_behind mark.Brace stack a t h e = cc
    by_behind mark.Bracket stack a t h e = cc
    by_behind mark.Colon stack a t h e = cc

    by_mark : (m : Mark) (stack : List Frame) (at : Turn) (t : Tree) → Stands stack at (sign m ∷ ls) → at_mark m (run ls) stack at ≡ Some t → IsLiteral t all
    by_mark m stack turn.Part t h e = by_part m stack t h e
    by_mark m stack turn.Bracket t h e = by_bracket m stack t h e
    by_mark m stack turn.Colon t h e = by_colon m stack t h e
    by_mark m stack (turn.Behind a) t h e = by_behind m stack a t h e

  at_finish : (stack : List Frame) (a t : Tree) → HasRead stack a [] → finished stack a ≡ Some t → IsLiteral t all
  at_finish (f.Whole fields ∷ []) a t h e = (fields ++ a ∷ [], sofar_all mark.Comma fields a all h.0 [] h.2.1 h.1, e)
  at_finish (f.Whole fields ∷ x ∷ stack) a t h e = cc
  at_finish [] a t h e = cc
  at_finish (f.Round fields ∷ stack) a t h e = cc
  at_finish (f.Elements es ∷ stack) a t h e = cc
  at_finish (f.Pairs ps ∷ stack) a t h e = cc
  at_finish (f.Key ps fields ∷ stack) a t h e = cc
  at_finish (f.Associate ps k ∷ stack) a t h e = cc

  sound_from : (ls : List Lexeme) (stack : List Frame) (at : Turn) (t : Tree) → Stands stack at ls → run ls stack at ≡ Some t → IsLiteral t all
  unfolding run
  sound_from [] stack turn.Part t h e = cc
  sound_from [] stack turn.Bracket t h e = cc
  sound_from [] stack turn.Colon t h e = cc
  sound_from [] stack (turn.Behind a) t h e = at_finish stack a t h e
  sound_from (lexeme.Value v ∷ ls) stack turn.Part t h e = sound_from ls stack (turn.Behind v) t (lexeme.Value v ∷ ls, value, h) e
  sound_from (lexeme.Value v ∷ ls) stack turn.Bracket t h e = cc
  sound_from (lexeme.Value v ∷ ls) stack turn.Colon t h e = cc
  sound_from (lexeme.Value v ∷ ls) stack (turn.Behind a) t h e = cc
  sound_from (lexeme.Mark m ∷ ls) stack at t h e = by_mark ls (λ others next u. sound_from ls others next u) m stack at t h e

pub sound : (t : Tree) (ls : List Lexeme) → value_of ls ≡ Some t → IsLiteral t ls
sound t ls e = sound_from ls ls (f.Whole [] ∷ []) turn.Part t (refl, sofar_none mark.Comma ls) e
