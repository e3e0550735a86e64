-- The words and actuals of a call are those that are computed for its tokens.
use Rattle.std.proofs.Common.{◌≡◌, ◌+◌, ℕ, suc, Bool, true, false, List, [], ◌∷◌, ◌++◌, take, drop, Option, Some, None, refl, ap, sym, ◌∙◌, subst, arith}
use Rattle.std.specs.Prelude.{◌↔◌, Err, option_map}
use Rattle.std.specs.List.{prefix_len}
use Rattle.std.proofs.lemmas.Option.{same_Some}
use Rattle.std.proofs.lemmas.List.{append_assoc, take-append-drop}
use Rattle.abc_num.specs.declared.limits.TheConstants.{MOST_BRACKETS}
use Rattle.abc_tree.specs.declared.formulas.Expr.{Expr}
use Rattle.abc_tree.specs.declared.templates.Word.{Word}
use Rattle.abc_tree.specs.declared.templates.Word.TheVariants as w
use Rattle.abc_expressions.specs.declared.lexemes.Lexeme.{Lexeme}
use Rattle.abc_expressions.specs.declared.lexemes.Lexeme.TheVariants as t
use Rattle.abc_expressions.specs.Grammar.{Spells}
use Rattle.abc_expressions.specs.Readings.{single_of, Answers}
use Rattle.abc_expressions.specs.declared.fault.FormulaFault.{FormulaFault}
use Rattle.abc_expressions.specs.declared.fault.FormulaFault.TheVariants as fault
use Rattle.abc_clauses.specs.inner.Views.{is_plain, starts_plain, with_rest, TakesWord}
use Rattle.abc_clauses.specs.Cuts.{Chunk, key, stretch, before_chunks, chunks_of}
use Rattle.abc_clauses.specs.Readings.{both, words_by, words_of}
use Rattle.abc_clauses.specs.Says as says
use Rattle.abc_clauses.specs.Says.{SaysWords, ends_place}
use Rattle.abc_clauses.proofs.Found.{both_told, map_told}
use Rattle.abc_clauses.proofs.Spans.{Begins, NoWords, is_word, single_plain, single_begins}

abbrev Call : Type 0
Call = List Word × List Expr

-- a single expression is the one that is computed
abbrev pub SingleLaw : List (List ℕ) → Type 0
SingleLaw own = (ts : List Lexeme) (a : Expr) → Spells own MOST_BRACKETS 1 a ts [] ↔ (single_of own ts ≡ Some a)

abbrev pub IsThere : List Lexeme → Type 0
IsThere [] = ⊥
IsThere (token ∷ ts) = Unit {0}

begins_there : (ts : List Lexeme) → Begins ts → IsThere ts
begins_there [] b = b
begins_there (token ∷ ts) b = tt

-- ---- chunks of tokens that are put together

-- the chunks begin with a keyword, or there are none
abbrev pub starts_key : List Chunk → Bool
starts_key [] = true
starts_key (key x ∷ chunks) = true
starts_key (stretch ts ∷ chunks) = false

onto : (token : Lexeme) (ts : List Lexeme) → is_word token ≡ false → chunks_of (token ∷ ts) ≡ before_chunks token (chunks_of ts)
onto (t.Keyword x) ts h = cc
onto (t.Name x) ts h = refl
onto (t.Sign sign) ts h = refl
onto (t.Number bytes) ts h = refl
onto (t.Text bytes) ts h = refl
onto t.Other ts h = refl

alone : (token : Lexeme) (chunks : List Chunk) → starts_key chunks ≡ true → before_chunks token chunks ≡ stretch (token ∷ []) ∷ chunks
alone token [] h = refl
alone token (key x ∷ chunks) h = refl
alone token (stretch ts ∷ chunks) h = cc

starts_place : (ts : List Lexeme) → ends_place ts ≡ true → starts_key (chunks_of ts) ≡ true
starts_place [] h = refl
starts_place (t.Keyword x ∷ ts) h = refl
starts_place (t.Name x ∷ ts) h = cc
starts_place (t.Sign sign ∷ ts) h = cc
starts_place (t.Number bytes ∷ ts) h = cc
starts_place (t.Text bytes ∷ ts) h = cc
starts_place (t.Other ∷ ts) h = cc

-- tokens without keywords before a keyword or the end are one chunk
one_chunk : (token : Lexeme) (front rest : List Lexeme) → NoWords (token ∷ front) → ends_place rest ≡ true
    → chunks_of (token ∷ (front ++ rest)) ≡ stretch (token ∷ front) ∷ chunks_of rest
one_chunk token [] rest plain h = onto token rest plain.0 ∙ alone token (chunks_of rest) (starts_place rest h)
one_chunk token (next ∷ front) rest plain h =
    onto token (next ∷ (front ++ rest)) plain.0 ∙ ap (λ cs. before_chunks token cs) (one_chunk next front rest plain.1 h)

front_chunk : (front rest : List Lexeme) → IsThere front → NoWords front → ends_place rest ≡ true → chunks_of (front ++ rest) ≡ stretch front ∷ chunks_of rest
front_chunk [] rest b plain h = absurd b
front_chunk (token ∷ front) rest b plain h = one_chunk token front rest plain h

-- ---- what is said is found

module _ (own : List (List ℕ)) (law : SingleLaw own) where
  pub words_found : {words : List Word} {actuals : List Expr} {ts : List Lexeme} → SaysWords own words actuals ts → words_of own ts ≡ Some (words, actuals)
  words_found says.none = refl
  words_found (says.keyword {x = x} p) = ap (option_map (λ (read : List Word × List Expr). (w.Key x ∷ read.0, read.1))) (words_found p)
  words_found (says.actual {a = a} {words = words} {actuals = actuals} {front = front} {rest = rest} is p h q) =
      ap (λ us. words_of own us) is ∙ ap (λ cs. words_by own cs) (front_chunk front rest (begins_there front (single_begins p)) (single_plain p) h)
      ∙ ap (λ x. both (λ a (read : List Word × List Expr). (w.Place ∷ read.0, a ∷ read.1)) x (words_of own rest)) ((law front a).0 p)
      ∙ ap (λ x. both (λ a (read : List Word × List Expr). (w.Place ∷ read.0, a ∷ read.1)) (Some a) x) (words_found q)

-- ---- what is found is said

-- the tokens of chunks
abbrev join : List Chunk → List Lexeme
join [] = []
join (key x ∷ chunks) = t.Keyword x ∷ join chunks
join (stretch ts ∷ chunks) = ts ++ join chunks

-- no stretch stands before another
abbrev Apart : List Chunk → Type 0
Apart [] = Unit {0}
Apart (key x ∷ chunks) = Apart chunks
Apart (stretch ts ∷ chunks) = (starts_key chunks ≡ true) × Apart chunks

join_before : (token : Lexeme) (chunks : List Chunk) → join (before_chunks token chunks) ≡ token ∷ join chunks
join_before token [] = refl
join_before token (key x ∷ chunks) = refl
join_before token (stretch ts ∷ chunks) = refl

apart_before : (token : Lexeme) (chunks : List Chunk) → Apart chunks → Apart (before_chunks token chunks)
apart_before token [] h = (refl, tt)
apart_before token (key x ∷ chunks) h = (refl, h)
apart_before token (stretch ts ∷ chunks) h = h

joined : (ts : List Lexeme) → join (chunks_of ts) ≡ ts
joined [] = refl
joined (t.Keyword x ∷ ts) = ap (λ us. t.Keyword x ∷ us) (joined ts)
joined (t.Name x ∷ ts) = join_before (t.Name x) (chunks_of ts) ∙ ap (λ us. t.Name x ∷ us) (joined ts)
joined (t.Sign sign ∷ ts) = join_before (t.Sign sign) (chunks_of ts) ∙ ap (λ us. t.Sign sign ∷ us) (joined ts)
joined (t.Number bytes ∷ ts) = join_before (t.Number bytes) (chunks_of ts) ∙ ap (λ us. t.Number bytes ∷ us) (joined ts)
joined (t.Text bytes ∷ ts) = join_before (t.Text bytes) (chunks_of ts) ∙ ap (λ us. t.Text bytes ∷ us) (joined ts)
joined (t.Other ∷ ts) = join_before t.Other (chunks_of ts) ∙ ap (λ us. t.Other ∷ us) (joined ts)

apart : (ts : List Lexeme) → Apart (chunks_of ts)
apart [] = tt
apart (t.Keyword x ∷ ts) = apart ts
apart (t.Name x ∷ ts) = apart_before (t.Name x) (chunks_of ts) (apart ts)
apart (t.Sign sign ∷ ts) = apart_before (t.Sign sign) (chunks_of ts) (apart ts)
apart (t.Number bytes ∷ ts) = apart_before (t.Number bytes) (chunks_of ts) (apart ts)
apart (t.Text bytes ∷ ts) = apart_before (t.Text bytes) (chunks_of ts) (apart ts)
apart (t.Other ∷ ts) = apart_before t.Other (chunks_of ts) (apart ts)

place_ends : (chunks : List Chunk) → starts_key chunks ≡ true → ends_place (join chunks) ≡ true
place_ends [] h = refl
place_ends (key x ∷ chunks) h = refl
place_ends (stretch ts ∷ chunks) h = cc

module _ (own : List (List ℕ)) (law : SingleLaw own) where
  chunks_told : (chunks : List Chunk) → Apart chunks → (call : Call) → words_by own chunks ≡ Some call → SaysWords own call.0 call.1 (join chunks)
  chunks_told [] h call e = subst (λ (c : Call). SaysWords own c.0 c.1 []) (same_Some ([], []) call e) says.none
  chunks_told (key x ∷ chunks) h call e =
      let m = map_told (λ (read : Call). (w.Key x ∷ read.0, read.1)) (words_by own chunks) call e in
      subst (λ (c : Call). SaysWords own c.0 c.1 (t.Keyword x ∷ join chunks)) m.2 (says.keyword (chunks_told chunks h m.0 m.1))
  chunks_told (stretch ts ∷ chunks) h call e =
      let m = both_told (λ a (read : Call). (w.Place ∷ read.0, a ∷ read.1)) (single_of own ts) (words_by own chunks) call e in
      subst (λ (c : Call). SaysWords own c.0 c.1 (ts ++ join chunks)) m.4
      (says.actual refl ((law ts m.0).1 m.2) (place_ends chunks h.0) (chunks_told chunks h.1 m.1 m.3))

  pub words_told : (ts : List Lexeme) (call : Call) → words_of own ts ≡ Some call → SaysWords own call.0 call.1 ts
  words_told ts call e = subst (λ us. SaysWords own call.0 call.1 us) (joined ts) (chunks_told (chunks_of ts) (apart ts) call e)

-- ---- a call that is read word by word

-- how many tokens stand before the next keyword
abbrev plain_length : List Lexeme → ℕ
plain_length [] = 0
plain_length (t.Keyword x ∷ ts) = 0
plain_length (t.Name x ∷ ts) = suc (plain_length ts)
plain_length (t.Sign sign ∷ ts) = suc (plain_length ts)
plain_length (t.Number bytes ∷ ts) = suc (plain_length ts)
plain_length (t.Text bytes ∷ ts) = suc (plain_length ts)
plain_length (t.Other ∷ ts) = suc (plain_length ts)

one_suc : (m n : ℕ) → m ≡ n → 1 + m ≡ suc n
one_suc m n e = ap (λ k. 1 + k) e ∙ omega arith

plain_is : (ts : List Lexeme) → prefix_len is_plain ts ≡ plain_length ts
plain_is [] = refl
plain_is (t.Keyword x ∷ ts) = refl
plain_is (t.Name x ∷ ts) = one_suc (prefix_len is_plain ts) (plain_length ts) (plain_is ts)
plain_is (t.Sign sign ∷ ts) = one_suc (prefix_len is_plain ts) (plain_length ts) (plain_is ts)
plain_is (t.Number bytes ∷ ts) = one_suc (prefix_len is_plain ts) (plain_length ts) (plain_is ts)
plain_is (t.Text bytes ∷ ts) = one_suc (prefix_len is_plain ts) (plain_length ts) (plain_is ts)
plain_is (t.Other ∷ ts) = one_suc (prefix_len is_plain ts) (plain_length ts) (plain_is ts)

plain_front : (ts : List Lexeme) → NoWords (take (plain_length ts) ts)
plain_front [] = tt
plain_front (t.Keyword x ∷ ts) = tt
plain_front (t.Name x ∷ ts) = (refl, plain_front ts)
plain_front (t.Sign sign ∷ ts) = (refl, plain_front ts)
plain_front (t.Number bytes ∷ ts) = (refl, plain_front ts)
plain_front (t.Text bytes ∷ ts) = (refl, plain_front ts)
plain_front (t.Other ∷ ts) = (refl, plain_front ts)

plain_ends : (ts : List Lexeme) → ends_place (drop (plain_length ts) ts) ≡ true
plain_ends [] = refl
plain_ends (t.Keyword x ∷ ts) = refl
plain_ends (t.Name x ∷ ts) = plain_ends ts
plain_ends (t.Sign sign ∷ ts) = plain_ends ts
plain_ends (t.Number bytes ∷ ts) = plain_ends ts
plain_ends (t.Text bytes ∷ ts) = plain_ends ts
plain_ends (t.Other ∷ ts) = plain_ends ts

plain_there : (ts : List Lexeme) → starts_plain ts ≡ true → IsThere (take (plain_length ts) ts)
plain_there [] h = cc
plain_there (t.Keyword x ∷ ts) h = cc
plain_there (t.Name x ∷ ts) h = tt
plain_there (t.Sign sign ∷ ts) h = tt
plain_there (t.Number bytes ∷ ts) h = tt
plain_there (t.Text bytes ∷ ts) h = tt
plain_there (t.Other ∷ ts) h = tt

-- the chunk in front is the stretch of tokens before the next keyword
stretched : (ts : List Lexeme) (n : ℕ) → n ≡ plain_length ts → starts_plain ts ≡ true → chunks_of ts ≡ stretch (take n ts) ∷ chunks_of (drop n ts)
stretched ts n e h =
    subst (λ m. chunks_of ts ≡ stretch (take m ts) ∷ chunks_of (drop m ts)) (sym e)
    (ap (λ us. chunks_of us) (sym (take-append-drop (plain_length ts) ts))
    ∙ front_chunk (take (plain_length ts) ts) (drop (plain_length ts) ts) (plain_there ts h) (plain_front ts) (plain_ends ts))

module _ (own : List (List ℕ)) (ts : List Lexeme) (n : ℕ) (is : n ≡ prefix_len is_plain ts) (plain : starts_plain ts ≡ true) where
  chunk : words_of own ts ≡ both (λ a (read : Call). (w.Place ∷ read.0, a ∷ read.1)) (single_of own (take n ts)) (words_of own (drop n ts))
  chunk = ap (λ cs. words_by own cs) (stretched ts n (is ∙ plain_is ts) plain)

  -- tokens that are no expression begin no call
  pub no_actual : single_of own (take n ts) ≡ None → words_of own ts ≡ None
  no_actual h = chunk ∙ ap (λ x. both (λ a (read : Call). (w.Place ∷ read.0, a ∷ read.1)) x (words_of own (drop n ts))) h

  with_actual : (words : List Word) (actuals : List Expr) (a : Expr) (rest : Option Call)
      → with_rest (words, actuals) (both (λ a (read : Call). (w.Place ∷ read.0, a ∷ read.1)) (Some a) rest) ≡ with_rest (words ++ w.Place ∷ [], actuals ++ a ∷ []) rest
  with_actual words actuals a None = refl
  with_actual words actuals a (Some read) =
      ap (λ (x : List Word). Some (x, actuals ++ a ∷ read.1)) (sym (append_assoc words (w.Place ∷ []) read.0))
      ∙ ap (λ (y : List Expr). Some ((words ++ w.Place ∷ []) ++ read.0, y)) (sym (append_assoc actuals (a ∷ []) read.1))

  -- an expression in front is an actual
  pub one_actual : (words : List Word) (actuals : List Expr) (a : Expr) → single_of own (take n ts) ≡ Some a
      → with_rest (words, actuals) (words_of own ts) ≡ with_rest (words ++ w.Place ∷ [], actuals ++ a ∷ []) (words_of own (drop n ts))
  one_actual words actuals a h =
      ap (with_rest (words, actuals)) chunk
      ∙ ap (λ x. with_rest (words, actuals) (both (λ a (read : Call). (w.Place ∷ read.0, a ∷ read.1)) x (words_of own (drop n ts)))) h
      ∙ with_actual words actuals a (words_of own (drop n ts))

  -- the step that takes it
  pub took : (words new_words : List Word) (actuals new_actuals : List Expr) (a : Expr) (rest : List Lexeme) → single_of own (take n ts) ≡ Some a
      → new_words ≡ words ++ w.Place ∷ [] → new_actuals ≡ actuals ++ a ∷ [] → rest ≡ drop n ts
      → with_rest (words, actuals) (words_of own ts) ≡ with_rest (new_words, new_actuals) (words_of own rest)
  took words new_words actuals new_actuals a rest h p q r =
      one_actual words actuals a h ∙ ap (λ (x : List Word). with_rest (x, actuals ++ a ∷ []) (words_of own (drop n ts))) (sym p)
      ∙ ap (λ (y : List Expr). with_rest (new_words, y) (words_of own (drop n ts))) (sym q) ∙ ap (λ us. with_rest (new_words, new_actuals) (words_of own us)) (sym r)

  pub took_none : {X : Type 0} (view : X → List Lexeme) (old new : Call) (f : FormulaFault) → Answers (Err f) (single_of own (take n ts)) → TakesWord (Err f) view own ts old new
  took_none view old new fault.BadCommand h = no_actual h
  took_none view old new fault.TooMany h = h
  took_none view old new fault.Memory h = tt
