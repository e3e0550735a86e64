-- Terms and demands with other variables in place of theirs.
use Rattle.std.specs.Prelude.{ℕ, List, slice_index_or}
use Rattle.abc_terms.specs.declared.term.VarId.{VarId}
use Rattle.abc_terms.specs.declared.term.Term.{Term, fold-Term}
use Rattle.abc_terms.specs.declared.term.Term.TheOpen.{Term-F}
use Rattle.abc_terms.specs.declared.term.Term.TheViews.{roll-Term}
use Rattle.abc_terms.specs.declared.demand.Demand.{Demand}
use Rattle.abc_terms.specs.declared.demand.Demand.TheVariants as demand

-- the variable of this number
abbrev pub variable : ℕ → VarId
variable n = record { 0 = n }

-- the renamed term from its renamed parts
abbrev pub renamed_step : (ℕ → ℕ) → Term-F Term → Term
renamed_step f (Term-F.Var a) = roll-Term (Term-F.Var (variable (f a.0)))
renamed_step f Term-F.Number = roll-Term Term-F.Number
renamed_step f Term-F.Text = roll-Term Term-F.Text
renamed_step f (Term-F.Compound fields) = roll-Term (Term-F.Compound fields)
renamed_step f (Term-F.List element) = roll-Term (Term-F.List element)
renamed_step f (Term-F.Table key associate) = roll-Term (Term-F.Table key associate)

-- the term with the variable `f i` in place of each variable i
abbrev pub renamed_term : (ℕ → ℕ) → Term → Term
renamed_term f = fold-Term Term (renamed_step f)

-- the demand with the variable `f i` in place of each variable i
abbrev pub renamed : (ℕ → ℕ) → Demand → Demand
renamed f (demand.Is a t) = demand.Is (variable (f a.0)) (renamed_term f t)
renamed f (demand.Equal a b) = demand.Equal (variable (f a.0)) (variable (f b.0))
renamed f (demand.Train a e) = demand.Train (variable (f a.0)) (variable (f e.0))
renamed f (demand.Collection a e) = demand.Collection (variable (f a.0)) (variable (f e.0))
renamed f (demand.NumberOrText a) = demand.NumberOrText (variable (f a.0))

-- the number of the i-th of these variables
abbrev pub number_in : List VarId → ℕ → ℕ
number_in to i = (slice_index_or to i (variable 0)).0
