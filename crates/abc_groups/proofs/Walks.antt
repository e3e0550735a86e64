-- Ways of calls, one after the other.
use Rattle.std.proofs.Common.{ℕ, zero, suc, List, refl, sym, subst}
use Rattle.std.specs.List.{Contains}
use Rattle.abc_groups.specs.Reach.{DoesCall, Way, Leads, IsFrom}

module _ {X : Type 0} (called : X → List X) where
  pub way_then : (n m : ℕ) (a b c : X) → Way called n a b → Way called m b c → Leads called a c
  way_then zero m a b c e w = (m, subst (λ x. Way called m x c) (sym e) w)
  way_then (suc n) m a b c v w = let r : Leads called v.0 c = way_then n m v.0 b c v.2 w in (suc r.0, (v.0, v.1, r.1))

  pub leads_then : (a b c : X) → Leads called a b → Leads called b c → Leads called a c
  leads_then a b c v w = way_then v.0 w.0 a b c v.1 w.1

  pub leads_self : (a : X) → Leads called a a
  leads_self a = (zero, refl)

  pub leads_call : (a b : X) → DoesCall called a b → Leads called a b
  leads_call a b c = (suc zero, (b, c, refl))

  pub from_more : (seeds : List X) (b c : X) → IsFrom called seeds b → DoesCall called b c → IsFrom called seeds c
  from_more seeds b c f h = (f.0, f.1, leads_then f.0 b c f.2 (leads_call b c h))

  pub from_seed : (seeds : List X) (a : X) → Contains seeds a → IsFrom called seeds a
  from_seed seeds a c = (a, c, leads_self a)

  -- what is closed under calls has all that is reached from it
  pub along : (P : X → Type 0) → ((a b : X) → P a → DoesCall called a b → P b) → (n : ℕ) (a b : X) → Way called n a b → P a → P b
  along P closed zero a b e p = subst P e p
  along P closed (suc n) a b w p = along P closed n w.0 b w.2 (closed a w.0 p w.1)
