-- The table of the words of a text, while it is made.
use Rattle.std.proofs.Common.{◌≡◌, ◌≢◌, ℕ, ◌+◌, ◌*◌, ◌<◌, ◌≤◌, min, List, [], ◌∷◌, ◌++◌, length, take, drop, refl, sym, ap, ◌∙◌, arith, Some, not}
use Rattle.std.specs.List.{filter, position_or_len, before_first, after_first}
use Rattle.std.proofs.lemmas.List.{append_assoc, drop_min, length-drop, length-take-le}
use Rattle.abc_num.specs.declared.limits.TheConstants.{MOST_ELEMENTS}
use Rattle.abc_value.specs.declared.faults.ValueFault.{ValueFault}
use Rattle.abc_value.specs.declared.faults.ValueFault.TheVariants.{Memory}
use Rattle.abc_value.specs.Tree.{Tree, table_of}
use Rattle.abc_value.specs.Sizes.{size_fault}
use Rattle.abc_value.specs.Regular.{AreCharacters}
use Rattle.abc_value.proofs.trees.Itemised.{only_memory}
use Rattle.std.proofs.lemmas.List.Sums.{prefix_len-le-length}
use Rattle.abc_value.proofs.printed.Characters.{characters-drop}
use Rattle.abc_predef.specs.Texts.{is_space, has_characters, words_of, numbered}
use Rattle.abc_predef.specs.inner.Places.{with_word}
use Rattle.abc_predef.proofs.Words.{spent, words_step, with_next, next_is, next_spent, next_full, words_small}

-- words are those in front of the rest
pub record HasWords (b : List ℕ) (words : Tree) (rest : List ℕ) : Type 0 where
  pub done : List (List ℕ)
  pub is : words ≡ table_of (numbered 1 done)
  pub left : words_of b ≡ done ++ words_of rest
  pub room : 0 < length rest → spent done + length rest ≤ length b
  pub full : 2 * length done ≤ spent done
  pub characters : AreCharacters rest
  pub short : length rest ≤ length b

pub no_words : (b : List ℕ) (words : Tree) → AreCharacters b → words ≡ table_of [] → HasWords b words b
no_words b words h e = record { done = []; is = e; left = refl; room = λ _. omega arith; full = omega arith; characters = h; short = omega arith }

module _ (b : List ℕ) (words : Tree) (rest : List ℕ) (n : ℕ) (h : HasWords b words rest) (some : 0 < length rest) (e : n ≡ position_or_len is_space rest) where
  pub end_within : n ≤ length rest
  end_within = omega (arith, e, prefix_len-le-length (λ c. not (is_space c)) rest)

  next : List ℕ
  next = drop (min (n + 1) (length rest)) rest

  left_next : words_of b ≡ with_next h.done (take n rest) ++ words_of (drop (min (n + 1) (length rest)) rest)
  left_next =
      h.left ∙ ap (λ ws. h.done ++ ws) (words_step rest)
      ∙ sym (append_assoc h.done (filter has_characters (before_first is_space rest ∷ [])) (words_of (after_first is_space rest)))
      ∙ ap (λ k. with_next h.done (take k rest) ++ words_of (drop (k + 1) rest)) (sym e)
      ∙ ap (λ c. with_next h.done (take n rest) ++ words_of c) (sym (drop_min (n + 1) rest))

  word_length : length (take n rest) ≡ n
  word_length = length-take-le n rest end_within

  pub words_next : (new : Tree) → new ≡ with_word words (take n rest) → HasWords b new (drop (min (n + 1) (length rest)) rest)
  words_next new is = record {
    done = with_next h.done (take n rest);
    is = is ∙ next_is words h.done (take n rest) h.is;
    left = left_next;
    room = λ more. omega (arith, more, length-drop (min (n + 1) (length rest)) rest, next_spent h.done (take n rest), word_length, h.room some);
    full = next_full h.done (take n rest) h.full;
    characters = characters-drop (min (n + 1) (length rest)) rest h.characters;
    short = omega (arith, length-drop (min (n + 1) (length rest)) rest, h.short);
  }

  pub word_fault : (f : ValueFault) → length b ≤ MOST_ELEMENTS → (f ≢ Memory → size_fault (with_word words (take n rest)) ≡ Some f) → f ≡ Memory
  word_fault f l m =
      only_memory (with_word words (take n rest)) f
      (ap size_fault (next_is words h.done (take n rest) h.is)
      ∙ words_small (with_next h.done (take n rest)) (next_full h.done (take n rest) h.full) (omega (arith, next_spent h.done (take n rest), word_length, end_within, h.room some, l))) m
