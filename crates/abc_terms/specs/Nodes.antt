-- Terms whose parts are variables, and the variables that terms and demands name.
use Rattle.std.specs.Prelude.{ℕ, ◌<◌, ◌≤◌, List, [], ◌∷◌, ◌++◌, length}
use Rattle.std.specs.List.{All, Contains, concat}
use Rattle.abc_terms.specs.declared.term.VarId.{VarId}
use Rattle.abc_terms.specs.declared.term.Term.{Term, fold-Term}
use Rattle.abc_terms.specs.declared.term.Term.TheOpen.{Term-F}
use Rattle.abc_terms.specs.declared.term.Term.TheViews.{out-Term}
use Rattle.abc_terms.specs.declared.demand.Demand.{Demand}
use Rattle.abc_terms.specs.declared.demand.Demand.TheVariants as demand

-- these are some of the first n variables
abbrev pub AreIn : ℕ → List VarId → Type 0
AreIn n [] = Unit {0}
AreIn n (x ∷ xs) = (x.0 < n) × AreIn n xs

-- a term of this outer form is one of the first n variables
abbrev pub IsVariableForm : ℕ → Term-F Term → Type 0
IsVariableForm n (Term-F.Var a) = a.0 < n
IsVariableForm n Term-F.Number = ⊥
IsVariableForm n Term-F.Text = ⊥
IsVariableForm n (Term-F.Compound fields) = ⊥
IsVariableForm n (Term-F.List element) = ⊥
IsVariableForm n (Term-F.Table key associate) = ⊥

-- the term is one of the first n variables
abbrev pub IsVariable : ℕ → Term → Type 0
IsVariable n t = IsVariableForm n (out-Term t)

-- a term of this outer form has as parts some of the first n variables, two or more in a compound
abbrev pub IsNodeForm : ℕ → Term-F Term → Type 0
IsNodeForm n (Term-F.Var a) = a.0 < n
IsNodeForm n Term-F.Number = Unit {0}
IsNodeForm n Term-F.Text = Unit {0}
IsNodeForm n (Term-F.Compound fields) = (2 ≤ length fields) × All (IsVariable n) fields
IsNodeForm n (Term-F.List element) = IsVariable n element
IsNodeForm n (Term-F.Table key associate) = IsVariable n key × IsVariable n associate

-- the parts of the term are some of the first n variables, two or more in a compound
abbrev pub IsNode : ℕ → Term → Type 0
IsNode n t = IsNodeForm n (out-Term t)

-- the variables of a term from those of its parts
abbrev pub variables_step : Term-F (List ℕ) → List ℕ
variables_step (Term-F.Var a) = a.0 ∷ []
variables_step Term-F.Number = []
variables_step Term-F.Text = []
variables_step (Term-F.Compound fields) = concat fields
variables_step (Term-F.List element) = element
variables_step (Term-F.Table key associate) = key ++ associate

-- the variables of a term
abbrev pub variables : Term → List ℕ
variables = fold-Term (List ℕ) variables_step

-- the variables that a demand names
abbrev pub named : Demand → List ℕ
named (demand.Is a t) = a.0 ∷ variables t
named (demand.Equal a b) = a.0 ∷ (b.0 ∷ [])
named (demand.Train a e) = a.0 ∷ (e.0 ∷ [])
named (demand.Collection a e) = a.0 ∷ (e.0 ∷ [])
named (demand.NumberOrText a) = a.0 ∷ []

-- the demand is on some of the first n variables, and the parts of its term are variables
abbrev pub DemandIn : ℕ → Demand → Type 0
DemandIn n (demand.Is a t) = (a.0 < n) × IsNode n t
DemandIn n (demand.Equal a b) = (a.0 < n) × (b.0 < n)
DemandIn n (demand.Train a e) = (a.0 < n) × (e.0 < n)
DemandIn n (demand.Collection a e) = (a.0 < n) × (e.0 < n)
DemandIn n (demand.NumberOrText a) = a.0 < n

-- none of the demands names the variable
abbrev pub IsUnnamed : ℕ → List Demand → Type 0
IsUnnamed x demands = All (λ d. Contains (named d) x → ⊥) demands
