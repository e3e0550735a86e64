-- What the steps of splitting a text do.
use Rattle.std.proofs.Common.{◌≡◌, ◌≢◌, ◌≤◌, ◌<◌, ℕ, suc, ◌+◌, Bool, true, false, List, [], ◌∷◌, ◌++◌, length, take, drop, get_or, Option, Some, None, refl, ap, sym, ◌∙◌, subst, arith, eq-eqb}
use Rattle.std.specs.Prelude.{◌==◌, if◌then◌else◌}
use Rattle.std.proofs.lemmas.Bool.{ne_eqb}
use Rattle.std.proofs.lemmas.List.{append_assoc, length-take-le, drop_all}
use Rattle.std.proofs.Math.Seq.{drop-cons, take-suc}
use Rattle.abc_tokens.specs.Bytes.{backquote, begins}
use Rattle.abc_expressions.specs.declared.texts.Cut.TheVariants as cut
use Rattle.abc_expressions.specs.declared.texts.Found.TheVariants as found
use Rattle.abc_expressions.specs.declared.texts.Part.{Part}
use Rattle.abc_expressions.specs.declared.texts.Part.TheVariants as part
use Rattle.abc_expressions.specs.inner.Machine.{Splitting, conversion_from, before_parts, converted, at_backquote, split}
use Rattle.abc_expressions.specs.inner.Splitting.{IsEndAt, Cuts, glued, flushed}
use Rattle.abc_expressions.specs.Texts.{with_character}
use Rattle.abc_expressions.proofs.TextParts.{split_skip, by_table}

-- ---- a quote

pub quote_end : (q : ℕ) (rest : List ℕ) → length rest ≡ 0 → split q (q ∷ rest) 0 ≡ Some []
quote_end q [] e = by_table q q [] true (q == backquote) (eq-eqb q q refl) refl
quote_end q (c ∷ rest) e = absurd (omega arith)

at_quote_by : (q next : ℕ) (rest : List ℕ) (x : Bool) → (next == q) ≡ x
    → split q (q ∷ next ∷ rest) 0 ≡ (if x then before_parts (with_character q) (split q rest 0) else None)
unfolding split
at_quote_by q next rest x e =
    by_table q q (next ∷ rest) true (q == backquote) (eq-eqb q q refl) refl ∙ ap (λ c. if c then before_parts (with_character q) (split q rest 0) else None) e

pub quote_twice : (q next : ℕ) (rest xs : List ℕ) → xs ≡ next ∷ rest → next ≡ q → Cuts q (q ∷ xs) (cut.Part (found.Character q) 2)
quote_twice q next rest xs is e =
    subst (λ (z : List ℕ). Cuts q (q ∷ z) (cut.Part (found.Character q) 2)) (sym is) (omega arith, omega arith, at_quote_by q next rest true (eq-eqb next q e))

pub quote_lone : (q next : ℕ) (rest xs : List ℕ) → xs ≡ next ∷ rest → (next ≡ q → ⊥) → split q (q ∷ xs) 0 ≡ None
quote_lone q next rest xs is n = ap (λ z. split q (q ∷ z) 0) is ∙ at_quote_by q next rest false (ne_eqb next q n)

-- ---- a backquote

backquote_by : (q : ℕ) (rest : List ℕ) → q ≢ backquote → split q (backquote ∷ rest) 0 ≡ at_backquote rest (split q rest)
backquote_by q rest n = by_table q backquote rest false true (ne_eqb backquote q (λ e. n (sym e))) refl

pub backquote_twice : (q : ℕ) (rest : List ℕ) → q ≢ backquote → begins (λ b. b == backquote) rest ≡ true → Cuts q (backquote ∷ rest) (cut.Part (found.Character backquote) 2)
unfolding split
backquote_twice q [] n h = cc
backquote_twice q (c ∷ rest) n h =
    (omega arith, omega arith, backquote_by q (c ∷ rest) n ∙ ap (λ x. if x then before_parts (with_character backquote) (split q rest 0) else converted (conversion_from [] (c ∷ rest)) (split q (c ∷ rest))) h)

at_conversion : (q : ℕ) (rest : List ℕ) (x : Option (List ℕ)) → q ≢ backquote → begins (λ b. b == backquote) rest ≡ false → conversion_from [] rest ≡ x → split q (backquote ∷ rest) 0 ≡ converted x (split q rest)
at_conversion q rest x n h e =
    backquote_by q rest n
    ∙ ap (λ x. if x then before_parts (with_character backquote) (split q rest 1) else converted (conversion_from [] rest) (split q rest)) h
    ∙ ap (λ x. converted x (split q rest)) e

pub conversion_cut : (q end : ℕ) (rest inner : List ℕ) → q ≢ backquote → begins (λ b. b == backquote) rest ≡ false → IsEndAt rest (Some end) → inner ≡ take end rest
    → Cuts q (backquote ∷ rest) (cut.Part (found.Conversion inner) (end + 2))
conversion_cut q end rest inner n h e is =
    let size : length (take end rest) ≡ end = length-take-le end rest (let l = e.0 in omega arith) in
    let l = e.0 in
    let next : end + 2 ≡ suc (end + 1) = omega arith in (
      omega arith,
      omega arith,
      at_conversion q rest (Some (take end rest)) n h e.1
          ∙ ap (λ z. before_parts (λ parts. part.Conversion z ∷ parts) (split q rest (length (take end rest) + 1))) (sym is)
          ∙ ap (λ k. before_parts (λ parts. part.Conversion inner ∷ parts) (split q rest (k + 1))) size
          ∙ ap (before_parts (λ parts. part.Conversion inner ∷ parts)) (split_skip q rest (end + 1) ∙ ap (λ k. split q (drop k (backquote ∷ rest)) 0) (sym next)),
    )

pub no_conversion : (q : ℕ) (rest : List ℕ) → q ≢ backquote → begins (λ b. b == backquote) rest ≡ false → conversion_from [] rest ≡ None → split q (backquote ∷ rest) 0 ≡ None
no_conversion q rest n h e = at_conversion q rest None n h e

-- ---- another byte

pub plain_cut : (q b : ℕ) (rest bytes : List ℕ) → bytes ≡ b ∷ rest → (b ≡ q → ⊥) → (b ≡ backquote → ⊥) → Cuts q bytes (cut.Part (found.Character b) 1)
plain_cut q b rest bytes is n m =
    subst (λ (z : List ℕ). Cuts q z (cut.Part (found.Character b) 1)) (sym is) (omega arith, omega arith, by_table q b rest false false (ne_eqb b q n) (ne_eqb b backquote m))

pub nothing_left : (q : ℕ) (bytes : List ℕ) → length bytes ≡ 0 → split q bytes 0 ≡ None
unfolding split
nothing_left q [] e = refl
nothing_left q (b ∷ bytes) e = absurd (omega arith)

-- ---- what was found

glue_more : (cs : List ℕ) (c : ℕ) (more : List Part) → glued (cs ++ c ∷ []) more ≡ glued cs (with_character c more)
glue_more [] c more = refl
glue_more (b ∷ cs) c more = ap (with_character b) (glue_more cs c more)

flush_more : (cs inner : List ℕ) (more : List Part) → glued cs (part.Conversion inner ∷ more) ≡ flushed cs ++ part.Conversion inner ∷ more
flush_more [] inner more = refl
flush_more (c ∷ []) inner more = refl
flush_more (c ∷ b ∷ cs) inner more = ap (with_character c) (flush_more (b ∷ cs) inner more)

flush_end : (cs : List ℕ) → glued cs [] ≡ flushed cs
flush_end [] = refl
flush_end (c ∷ []) = refl
flush_end (c ∷ b ∷ cs) = ap (with_character c) (flush_end (b ∷ cs))

pub added_character : (parts : List Part) (cs new : List ℕ) (c : ℕ) (more : List Part) → new ≡ cs ++ c ∷ [] → parts ++ glued new more ≡ parts ++ glued cs (with_character c more)
added_character parts cs new c more is = ap (λ z. parts ++ glued z more) is ∙ ap (λ z. parts ++ z) (glue_more cs c more)

pub added_conversion : (parts all new : List Part) (cs run inner : List ℕ) (more : List Part) → all ≡ parts ++ flushed cs → new ≡ all ++ part.Conversion inner ∷ [] → run ≡ []
    → new ++ glued run more ≡ parts ++ glued cs (part.Conversion inner ∷ more)
added_conversion parts all new cs run inner more ea en er =
    ap (λ z. new ++ glued z more) er ∙ ap (λ z. z ++ more) (en ∙ ap (λ z. z ++ part.Conversion inner ∷ []) ea)
    ∙ append_assoc (parts ++ flushed cs) (part.Conversion inner ∷ []) more ∙ append_assoc parts (flushed cs) (part.Conversion inner ∷ more)
    ∙ ap (λ z. parts ++ z) (sym (flush_more cs inner more))

-- ---- the loop

pub finds_all : (add : List Part → List Part) (x y : Splitting) (all : List Part) → before_parts add x ≡ y → x ≡ Some [] → all ≡ add [] → Some all ≡ y
finds_all add x y all h e g = ap Some g ∙ sym (ap (before_parts add) e) ∙ h

twice : (f g : List Part → List Part) (x : Splitting) → before_parts f (before_parts g x) ≡ before_parts (λ parts. f (g parts)) x
twice f g None = refl
twice f g (Some parts) = refl

pub flush_all : (parts : List Part) (cs : List ℕ) → parts ++ flushed cs ≡ parts ++ glued cs []
flush_all parts cs = ap (λ z. parts ++ z) (sym (flush_end cs))
