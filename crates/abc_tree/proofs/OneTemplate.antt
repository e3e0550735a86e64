-- Regular templates with one text are one.
use Rattle.std.proofs.Common.{◌≡◌, ◌≢◌, ◌⊎◌, inl, inr, ℕ, Bool, true, false, List, [], ◌∷◌, ◌++◌, map, refl, sym, ap, ◌∙◌, subst, eqb-true, arith}
use Rattle.std.specs.Prelude.{◌==◌, not, codes, bytes_eq}
use Rattle.std.proofs.lemmas.Bool.{and_parts, both_ways, not-true, eqb-false}
use Rattle.abc_tokens.specs.Bytes.{is_small, is_capital, point}
use Rattle.abc_tokens.specs.Words.{goes_on, IsTail, IsWord}
use Rattle.abc_tokens.specs.Kinds.{is_keyword}
use Rattle.abc_tokens.specs.Shape.{is_reserved}
use Rattle.abc_tokens.proofs.WordKinds.{name_told, keyword_told}
use Rattle.abc_tree.specs.Regular.{is_regular_template, has_form, has_command_form, has_name_form, are_command_words, count_places}
use Rattle.abc_tree.specs.Templates.{written, behind, spaced, with_kind, template_text}
use Rattle.abc_tree.specs.declared.templates.Template.{Template}
use Rattle.abc_tree.specs.declared.templates.TemplateKind.{TemplateKind}
use Rattle.abc_tree.specs.declared.templates.TemplateKind.TheVariants as kind
use Rattle.abc_tree.specs.declared.templates.Word.{Word}
use Rattle.abc_tree.specs.declared.templates.Word.TheVariants as word

-- ---- texts without a space, with one space between them

abbrev IsOne : List ℕ → Type 0
IsOne [] = Unit {0}
IsOne (b ∷ bytes) = (b ≢ 32) × IsOne bytes

abbrev AreOnes : List (List ℕ) → Type 0
AreOnes [] = Unit {0}
AreOnes (w ∷ ws) = IsOne w × AreOnes ws

first_same : {X : Type 0} {x y : X} {xs ys : List X} → x ∷ xs ≡ y ∷ ys → x ≡ y
first_same {x = x} e = ap (first x) e
  where
    first : {X : Type 0} → X → List X → X
    first x [] = x
    first x (y ∷ ys) = y

rest_same : {X : Type 0} {x y : X} {xs ys : List X} → x ∷ xs ≡ y ∷ ys → xs ≡ ys
rest_same e = ap rest e
  where
    rest : {X : Type 0} → List X → List X
    rest [] = []
    rest (y ∷ ys) = ys

-- what stands behind a text begins with a space
no_behind : (b : ℕ) (bytes : List ℕ) (ws : List (List ℕ)) → b ≢ 32 → behind ws ≡ b ∷ bytes → ⊥
no_behind b bytes [] n e = cc
no_behind b bytes (w ∷ ws) n e = n (sym (first_same e))

cut : (w v : List ℕ) (ws vs : List (List ℕ)) → IsOne w → IsOne v → w ++ behind ws ≡ v ++ behind vs → (w ≡ v) × (behind ws ≡ behind vs)
cut [] [] ws vs p q e = (refl, e)
cut [] (c ∷ v) ws vs p q e = absurd (no_behind c (v ++ behind vs) ws q.0 e)
cut (b ∷ w) [] ws vs p q e = absurd (no_behind b (w ++ behind ws) vs p.0 (sym e))
cut (b ∷ w) (c ∷ v) ws vs p q e =
    let r = cut w v ws vs p.1 q.1 (rest_same e) in
    (ap (λ x. x ∷ w) (first_same e) ∙ ap (λ x. c ∷ x) r.0, r.1)

behind_one : (ws vs : List (List ℕ)) → AreOnes ws → AreOnes vs → behind ws ≡ behind vs → ws ≡ vs
behind_one [] [] p q e = refl
behind_one [] (v ∷ vs) p q e = cc
behind_one (w ∷ ws) [] p q e = cc
behind_one (w ∷ ws) (v ∷ vs) p q e =
    let r = cut w v ws vs p.0 q.0 (rest_same e) in
    ap (λ x. x ∷ ws) r.0 ∙ ap (λ xs. v ∷ xs) (behind_one ws vs p.1 q.1 r.1)

spaced_one : (w v : List ℕ) (ws vs : List (List ℕ)) → AreOnes (w ∷ ws) → AreOnes (v ∷ vs) → spaced (w ∷ ws) ≡ spaced (v ∷ vs) → w ∷ ws ≡ v ∷ vs
spaced_one w v ws vs p q e =
    let r = cut w v ws vs p.0 q.0 e in
    ap (λ x. x ∷ ws) r.0 ∙ ap (λ xs. v ∷ xs) (behind_one ws vs p.1 q.1 r.1)

-- ---- names and keywords have no space

no_point : (b : ℕ) → b ≡ point → b ≢ 32
no_point b h e = absurd (omega (arith, h, e))

module _ (letter : ℕ → Bool) (no : goes_on letter 32 ≡ false) where
  no_space : (b : ℕ) → goes_on letter b ≡ true → b ≢ 32
  no_space b h e = both_ways (goes_on letter b) (ap (goes_on letter) e ∙ no) h

  tail_one : (bytes : List ℕ) → IsTail letter bytes → IsOne bytes
  tail_one [] h = tt
  tail_one (b ∷ []) h = (no_space b h, tt)
  tail_one (b ∷ c ∷ bytes) (inl h) = (no_space b h.0, tail_one (c ∷ bytes) h.1)
  tail_one (b ∷ c ∷ bytes) (inr h) = (no_point b h.0, tail_one (c ∷ bytes) h.2)

  word_one : letter 32 ≡ false → (bytes : List ℕ) → IsWord letter bytes → IsOne bytes
  word_one n [] h = absurd h
  word_one n (b ∷ bytes) h = ((λ e. both_ways (letter b) (ap letter e ∙ n) h.0), tail_one bytes h.1)

-- a word of a regular template
abbrev IsGood : Word → Type 0
IsGood (word.Key bytes) = IsWord is_small bytes ⊎ IsWord is_capital bytes
IsGood word.Place = Unit {0}

abbrev AreGood : List Word → Type 0
AreGood [] = Unit {0}
AreGood (w ∷ ws) = IsGood w × AreGood ws

good_one : (w : Word) → IsGood w → IsOne (written w)
good_one (word.Key bytes) (inl h) = word_one is_small refl refl bytes h
good_one (word.Key bytes) (inr h) = word_one is_capital refl refl bytes h
good_one word.Place h = (eqb-false 95 32 refl, tt)

good_ones : (ws : List Word) → AreGood ws → AreOnes (map written ws)
good_ones [] h = tt
good_ones (w ∷ ws) h = (good_one w h.0, good_ones ws h.1)

-- a place isn't written as a name or a keyword
no_place : (bytes : List ℕ) → IsWord is_small bytes ⊎ IsWord is_capital bytes → bytes ≢ codes "_"
no_place bytes (inl h) e = let f = subst (IsWord is_small) e h in let g = f.0 in cc
no_place bytes (inr h) e = let f = subst (IsWord is_capital) e h in let g = f.0 in cc

word_same : (w v : Word) → IsGood w → IsGood v → written w ≡ written v → w ≡ v
word_same (word.Key x) (word.Key y) p q e = ap word.Key e
word_same word.Place word.Place p q e = refl
word_same (word.Key x) word.Place p q e = absurd (no_place x p e)
word_same word.Place (word.Key y) p q e = absurd (no_place y q (sym e))

words_same : (ws vs : List Word) → AreGood ws → AreGood vs → map written ws ≡ map written vs → ws ≡ vs
words_same [] [] p q e = refl
words_same [] (v ∷ vs) p q e = cc
words_same (w ∷ ws) [] p q e = cc
words_same (w ∷ ws) (v ∷ vs) p q e = ap (λ x. x ∷ ws) (word_same w v p.0 q.0 (first_same e)) ∙ ap (λ xs. v ∷ xs) (words_same ws vs p.1 q.1 (rest_same e))

-- ---- the forms of templates

command_good : (ws : List Word) → are_command_words ws ≡ true → AreGood ws
command_good [] h = tt
command_good (word.Key bytes ∷ ws) h = let p = and_parts (is_keyword bytes) (are_command_words ws) h in (inr (keyword_told bytes p.0), command_good ws p.1)
command_good (word.Place ∷ []) h = (tt, tt)
command_good (word.Place ∷ word.Place ∷ ws) h = cc
command_good (word.Place ∷ word.Key bytes ∷ ws) h = let p = and_parts (is_keyword bytes) (are_command_words ws) h in (tt, (inr (keyword_told bytes p.0), command_good ws p.1))

name_good : (ws : List Word) → has_name_form ws ≡ true → AreGood ws
name_good [] h = tt
name_good (word.Key bytes ∷ []) h = (inl (name_told bytes h), tt)
name_good (word.Key bytes ∷ word.Place ∷ []) h = (inl (name_told bytes h), (tt, tt))
name_good (word.Key bytes ∷ word.Place ∷ w ∷ ws) h = cc
name_good (word.Key bytes ∷ word.Key more ∷ ws) h = cc
name_good (word.Place ∷ []) h = cc
name_good (word.Place ∷ word.Place ∷ ws) h = cc
name_good (word.Place ∷ word.Key bytes ∷ []) h = cc
name_good (word.Place ∷ word.Key bytes ∷ word.Key more ∷ ws) h = cc
name_good (word.Place ∷ word.Key bytes ∷ word.Place ∷ []) h = (tt, (inl (name_told bytes h), (tt, tt)))
name_good (word.Place ∷ word.Key bytes ∷ word.Place ∷ w ∷ ws) h = cc

-- a command's words begin with a keyword that isn't reserved
record Command (ws : List Word) : Type 0 where
  first : List ℕ
  others : List Word
  is : ws ≡ word.Key first ∷ others
  free : is_reserved first ≡ false
  good : AreGood ws

command_form : (ws : List Word) → has_command_form ws ≡ true → Command ws
command_form [] h = cc
command_form (word.Place ∷ ws) h = cc
command_form (word.Key bytes ∷ ws) h =
    let p = and_parts (not (is_reserved bytes)) (are_command_words (word.Key bytes ∷ ws)) h in
    record { first = bytes; others = ws; is = refl; free = not-true (is_reserved bytes) p.0; good = command_good (word.Key bytes ∷ ws) p.1 }

form_good : (k : TemplateKind) (ws : List Word) → has_form k ws ≡ true → AreGood ws
form_good kind.Command ws h = (command_form ws h).good
form_good kind.Function ws h = name_good ws h
form_good kind.Predicate ws h = name_good ws h

-- the text's words, of which there is one at least
record Shown (k : TemplateKind) (ws : List Word) : Type 0 where
  first : List ℕ
  others : List (List ℕ)
  is : with_kind k (map written ws) ≡ first ∷ others
  ones : AreOnes (first ∷ others)

return_one : IsOne (codes "RETURN")
return_one = (eqb-false 82 32 refl, (eqb-false 69 32 refl, (eqb-false 84 32 refl, (eqb-false 85 32 refl, (eqb-false 82 32 refl, (eqb-false 78 32 refl, tt))))))

report_one : IsOne (codes "REPORT")
report_one = (eqb-false 82 32 refl, (eqb-false 69 32 refl, (eqb-false 80 32 refl, (eqb-false 79 32 refl, (eqb-false 82 32 refl, (eqb-false 84 32 refl, tt))))))

shown : (k : TemplateKind) (ws : List Word) → has_form k ws ≡ true → Shown k ws
shown kind.Command ws h =
    let c = command_form ws h in
    let same : map written ws ≡ c.first ∷ map written c.others = ap (map written) c.is in
    record { first = c.first; others = map written c.others; is = same; ones = subst AreOnes same (good_ones ws c.good) }
shown kind.Function ws h = record { first = codes "RETURN"; others = map written ws; is = refl; ones = (return_one, good_ones ws (name_good ws h)) }
shown kind.Predicate ws h = record { first = codes "REPORT"; others = map written ws; is = refl; ones = (report_one, good_ones ws (name_good ws h)) }

shown_same : (k l : TemplateKind) (ws vs : List Word) → has_form k ws ≡ true → has_form l vs ≡ true → spaced (with_kind k (map written ws)) ≡ spaced (with_kind l (map written vs))
    → with_kind k (map written ws) ≡ with_kind l (map written vs)
shown_same k l ws vs h m e =
    let p = shown k ws h in
    let q = shown l vs m in
    p.is ∙ spaced_one p.first q.first p.others q.others p.ones q.ones (sym (ap spaced p.is) ∙ e ∙ ap spaced q.is) ∙ sym q.is

-- no command is written as a function or a predicate
no_command : (ws : List Word) (reserved : List ℕ) (others : List (List ℕ)) → has_command_form ws ≡ true → is_reserved reserved ≡ true → map written ws ≡ reserved ∷ others → ⊥
no_command ws reserved others h r e =
    let c = command_form ws h in
    let same : c.first ≡ reserved = first_same (sym (ap (map written) c.is) ∙ e) in
    both_ways (is_reserved c.first) c.free (ap is_reserved same ∙ r)

kinds_same : (k l : TemplateKind) (ws vs : List Word) → has_form k ws ≡ true → has_form l vs ≡ true → with_kind k (map written ws) ≡ with_kind l (map written vs)
    → (k ≡ l) × (map written ws ≡ map written vs)
kinds_same kind.Command kind.Command ws vs h m e = (refl, e)
kinds_same kind.Function kind.Function ws vs h m e = (refl, rest_same e)
kinds_same kind.Predicate kind.Predicate ws vs h m e = (refl, rest_same e)
kinds_same kind.Command kind.Function ws vs h m e = absurd (no_command ws (codes "RETURN") (map written vs) h refl e)
kinds_same kind.Command kind.Predicate ws vs h m e = absurd (no_command ws (codes "REPORT") (map written vs) h refl e)
kinds_same kind.Function kind.Command ws vs h m e = absurd (no_command vs (codes "RETURN") (map written ws) m refl (sym e))
kinds_same kind.Predicate kind.Command ws vs h m e = absurd (no_command vs (codes "REPORT") (map written ws) m refl (sym e))
kinds_same kind.Function kind.Predicate ws vs h m e = let f : true ≡ false = ap (bytes_eq (codes "RETURN")) (first_same e) in cc
kinds_same kind.Predicate kind.Function ws vs h m e = let f : true ≡ false = ap (bytes_eq (codes "REPORT")) (first_same e) in cc

pub one_template : (a b : Template) → is_regular_template a ≡ true → is_regular_template b ≡ true → template_text a ≡ template_text b → a ≡ b
one_template a b p q e = λ j. record { kind = k.0 j; words = ws j; places = places j }
  where
    f : (has_form a.kind a.words ≡ true) × ((a.places == count_places a.words) ≡ true)
    f = and_parts (has_form a.kind a.words) (a.places == count_places a.words) p

    g : (has_form b.kind b.words ≡ true) × ((b.places == count_places b.words) ≡ true)
    g = and_parts (has_form b.kind b.words) (b.places == count_places b.words) q

    k : (a.kind ≡ b.kind) × (map written a.words ≡ map written b.words)
    k = kinds_same a.kind b.kind a.words b.words f.0 g.0 (shown_same a.kind b.kind a.words b.words f.0 g.0 e)

    ws : a.words ≡ b.words
    ws = words_same a.words b.words (form_good a.kind a.words f.0) (form_good b.kind b.words g.0) k.1

    places : a.places ≡ b.places
    places = eqb-true a.places (count_places a.words) f.1 ∙ ap count_places ws ∙ sym (eqb-true b.places (count_places b.words) g.1)
