-- The order of values is total, and equal values are one value.
use Rattle.std.specs.Prelude.{◌≡◌, ℕ, List, [], ◌∷◌, refl, ◌<◌, ◌≤◌}
use Rattle.std.proofs.Common.{ap, sym, ◌∙◌, arith}
use Rattle.std.specs.declared.cmp.Ordering.{Ordering}
use Rattle.std.specs.declared.cmp.Ordering.TheVariants.{Less, Equal, Greater}
use Rattle.std.specs.Ordering.{nat_cmp, ordering_then, ordering_reverse}
use Rattle.std.proofs.lemmas.Cmp.{ranked}
use Rattle.std.proofs.lemmas.Bool.Decides.{nat_tests}
use Rattle.std.specs.Cmp.Lexicographic.{slice_cmp, nat_list_cmp_total}
use Rattle.abc_num.proofs.Order.{denominator-positive}
use Rattle.abc_num.proofs.OrderLaws.{num_cmp-reverse, num_cmp-trans, num_cmp-same}
use Rattle.abc_value.specs.Tree.{Tree, Trees, Pairs, number, text, compound, list, table, no_trees, more, no_pairs, pair}
use Rattle.abc_value.specs.Order.{order, trees_order, pairs_order, rank}
use Rattle.abc_value.specs.Regular.{IsRegular, AllRegular, AllRegularPairs}

then_reverse : (a b c d : Ordering) → a ≡ ordering_reverse c → b ≡ ordering_reverse d → ordering_then a b ≡ ordering_reverse (ordering_then c d)
then_reverse a b Less d e f = ap (λ r. ordering_then r b) e
then_reverse a b Equal d e f = ap (λ r. ordering_then r b) e ∙ f
then_reverse a b Greater d e f = ap (λ r. ordering_then r b) e

mutual
  pub order-reverse : (t u : Tree) → order t u ≡ ordering_reverse (order u t)
  order-reverse (number m) (number n) = num_cmp-reverse m n
  order-reverse (text bs) (text cs) = nat_list_cmp_total.antisymm bs cs
  order-reverse (compound ts) (compound us) = trees_order-reverse ts us
  order-reverse (list ts) (list us) = trees_order-reverse ts us
  order-reverse (table ps) (table qs) = pairs_order-reverse ps qs
  order-reverse _ _ = refl

  trees_order-reverse : (ts us : Trees) → trees_order ts us ≡ ordering_reverse (trees_order us ts)
  trees_order-reverse no_trees no_trees = refl
  trees_order-reverse no_trees (more u us) = refl
  trees_order-reverse (more t ts) no_trees = refl
  trees_order-reverse (more t ts) (more u us) =
      then_reverse _ _ (order u t) (trees_order us ts) (order-reverse t u) (trees_order-reverse ts us)

  pairs_order-reverse : (ps qs : Pairs) → pairs_order ps qs ≡ ordering_reverse (pairs_order qs ps)
  pairs_order-reverse no_pairs no_pairs = refl
  pairs_order-reverse no_pairs (pair l b qs) = refl
  pairs_order-reverse (pair k a ps) no_pairs = refl
  pairs_order-reverse (pair k a ps) (pair l b qs) =
      then_reverse _ _ (order l k) _ (order-reverse k l) (then_reverse _ _ (order b a) (pairs_order qs ps) (order-reverse a b) (pairs_order-reverse ps qs))

own_reverse : (r : Ordering) → r ≡ ordering_reverse r → r ≡ Equal
own_reverse Less e = cc
own_reverse Equal e = refl
own_reverse Greater e = cc

pub order-refl : (t : Tree) → order t t ≡ Equal
order-refl t = own_reverse (order t t) (order-reverse t t)

then_equal : (a b : Ordering) → ordering_then a b ≡ Equal → (a ≡ Equal) × (b ≡ Equal)
then_equal Less b e = cc
then_equal Equal b e = (refl, e)
then_equal Greater b e = cc

texts-same : (bs cs : List ℕ) → slice_cmp nat_cmp bs cs ≡ Equal → bs ≡ cs
texts-same [] [] e = refl
texts-same [] (c ∷ cs) e = cc
texts-same (b ∷ bs) [] e = cc
texts-same (b ∷ bs) (c ∷ cs) e =
    let p = then_equal _ _ e in
    λ i. ranked b c Equal (sym p.0) i ∷ texts-same bs cs p.1 i

mutual
  unfolding IsRegular AllRegular AllRegularPairs

  pub order-same : (t u : Tree) → IsRegular t → IsRegular u → order t u ≡ Equal → t ≡ u
  order-same (number m) (number n) h k e = ap number (num_cmp-same m n h k e)
  order-same (text bs) (text cs) h k e = ap text (texts-same bs cs e)
  order-same (compound ts) (compound us) h k e = ap compound (trees_order-same ts us h.2 k.2 e)
  order-same (list ts) (list us) h k e = ap list (trees_order-same ts us h.2 k.2 e)
  order-same (table ps) (table qs) h k e = ap table (pairs_order-same ps qs h.3 k.3 e)
  order-same _ _ h k e = cc

  trees_order-same : (ts us : Trees) → AllRegular ts → AllRegular us → trees_order ts us ≡ Equal → ts ≡ us
  trees_order-same no_trees no_trees h k e = refl
  trees_order-same no_trees (more u us) h k e = cc
  trees_order-same (more t ts) no_trees h k e = cc
  trees_order-same (more t ts) (more u us) h k e =
      let p = then_equal _ _ e in
      λ i. more (order-same t u h.0 k.0 p.0 i) (trees_order-same ts us h.1 k.1 p.1 i)

  pairs_order-same : (ps qs : Pairs) → AllRegularPairs ps → AllRegularPairs qs → pairs_order ps qs ≡ Equal → ps ≡ qs
  pairs_order-same no_pairs no_pairs h k e = refl
  pairs_order-same no_pairs (pair l b qs) h k e = cc
  pairs_order-same (pair k a ps) no_pairs h i e = cc
  pairs_order-same (pair k a ps) (pair l b qs) h j e =
      let p = then_equal _ _ e in
      let q = then_equal _ _ p.1 in
      λ i. pair (order-same k l h.0 j.0 p.0 i) (order-same a b h.1 j.1 q.0 i) (pairs_order-same ps qs h.2 j.2 q.1 i)

-- a first comparison that is transitive, and then a second
then_trans : (a b c p q r : Ordering) → (a ≡ Less → b ≡ Less → c ≡ Less) → (a ≡ Equal → c ≡ b) → (b ≡ Equal → c ≡ a) → (p ≡ Less → q ≡ Less → r ≡ Less) → ordering_then a p ≡ Less → ordering_then b q ≡ Less → ordering_then c r ≡ Less
then_trans Less Less c p q r h k l m e f = ap (λ x. ordering_then x r) (h refl refl)
then_trans Less Equal c p q r h k l m e f = ap (λ x. ordering_then x r) (l refl)
then_trans Less Greater c p q r h k l m e f = cc
then_trans Equal Less c p q r h k l m e f = ap (λ x. ordering_then x r) (k refl)
then_trans Equal Equal c p q r h k l m e f = ap (λ x. ordering_then x r) (k refl) ∙ m e f
then_trans Equal Greater c p q r h k l m e f = cc
then_trans Greater b c p q r h k l m e f = cc

nat_cmp-less : (m n : ℕ) → nat_cmp m n ≡ Less → m < n
nat_cmp-less m n e = ranked m n Less (sym e)

nat_cmp-below : (m n : ℕ) → m < n → nat_cmp m n ≡ Less
nat_cmp-below m n h = grind (arith, nat_tests)

rank-le : (t u : Tree) → order t u ≡ Less → rank t ≤ rank u
rank-le (number m) (number n) e = omega arith
rank-le (text bs) (text cs) e = omega arith
rank-le (compound ts) (compound us) e = omega arith
rank-le (list ts) (list us) e = omega arith
rank-le (table ps) (table qs) e = omega arith
rank-le t u e = omega (arith, nat_cmp-less (rank t) (rank u) e)

order-below : (t u : Tree) → rank t < rank u → order t u ≡ Less
order-below (number m) (number n) h = absurd (omega arith)
order-below (text bs) (text cs) h = absurd (omega arith)
order-below (compound ts) (compound us) h = absurd (omega arith)
order-below (list ts) (list us) h = absurd (omega arith)
order-below (table ps) (table qs) h = absurd (omega arith)
order-below t u h = nat_cmp-below (rank t) (rank u) h

mutual
  unfolding IsRegular AllRegular AllRegularPairs

  pub order-trans : (t u v : Tree) → IsRegular t → IsRegular u → IsRegular v → order t u ≡ Less → order u v ≡ Less → order t v ≡ Less
  order-trans (number m) (number n) (number k) ht hu hv e f =
      num_cmp-trans m n k (denominator-positive m ht) (denominator-positive n hu) (denominator-positive k hv) e f
  order-trans (text bs) (text cs) (text ds) ht hu hv e f = nat_list_cmp_total.trans bs cs ds e f
  order-trans (compound ts) (compound us) (compound vs) ht hu hv e f = trees_order-trans ts us vs ht.2 hu.2 hv.2 e f
  order-trans (list ts) (list us) (list vs) ht hu hv e f = trees_order-trans ts us vs ht.2 hu.2 hv.2 e f
  order-trans (table ps) (table qs) (table rs) ht hu hv e f = pairs_order-trans ps qs rs ht.3 hu.3 hv.3 e f
  order-trans t u v ht hu hv e f = order-below t v (omega (arith, rank-le t u e, rank-le u v f))

  trees_order-trans : (ts us vs : Trees) → AllRegular ts → AllRegular us → AllRegular vs → trees_order ts us ≡ Less → trees_order us vs ≡ Less → trees_order ts vs ≡ Less
  trees_order-trans no_trees no_trees vs ht hu hv e f = cc
  trees_order-trans no_trees (more u us) no_trees ht hu hv e f = cc
  trees_order-trans no_trees (more u us) (more v vs) ht hu hv e f = refl
  trees_order-trans (more t ts) no_trees vs ht hu hv e f = cc
  trees_order-trans (more t ts) (more u us) no_trees ht hu hv e f = cc
  trees_order-trans (more t ts) (more u us) (more v vs) ht hu hv e f =
      then_trans _ _ _ _ _ _ (order-trans t u v ht.0 hu.0 hv.0) (λ p. ap (λ x. order x v) (order-same t u ht.0 hu.0 p)) (λ p. ap (λ x. order t x) (sym (order-same u v hu.0 hv.0 p))) (trees_order-trans ts us vs ht.1 hu.1 hv.1) e f

  pairs_order-trans : (ps qs rs : Pairs) → AllRegularPairs ps → AllRegularPairs qs → AllRegularPairs rs → pairs_order ps qs ≡ Less → pairs_order qs rs ≡ Less → pairs_order ps rs ≡ Less
  pairs_order-trans no_pairs no_pairs rs hp hq hr e f = cc
  pairs_order-trans no_pairs (pair l b qs) no_pairs hp hq hr e f = cc
  pairs_order-trans no_pairs (pair l b qs) (pair m c rs) hp hq hr e f = refl
  pairs_order-trans (pair k a ps) no_pairs rs hp hq hr e f = cc
  pairs_order-trans (pair k a ps) (pair l b qs) no_pairs hp hq hr e f = cc
  pairs_order-trans (pair k a ps) (pair l b qs) (pair m c rs) hp hq hr e f =
      then_trans _ _ _ _ _ _ (order-trans k l m hp.0 hq.0 hr.0) (λ p. ap (λ x. order x m) (order-same k l hp.0 hq.0 p)) (λ p. ap (λ x. order k x) (sym (order-same l m hq.0 hr.0 p)))
      (then_trans _ _ _ _ _ _ (order-trans a b c hp.1 hq.1 hr.1) (λ p. ap (λ x. order x c) (order-same a b hp.1 hq.1 p)) (λ p. ap (λ x. order a x) (sym (order-same b c hq.1 hr.1 p))) (pairs_order-trans ps qs rs hp.2 hq.2 hr.2)) e f
