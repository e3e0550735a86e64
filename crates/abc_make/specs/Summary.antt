-- What is said of a run on a made input.
use Rattle.std.specs.Prelude.{ℕ, ◌+◌, ◌==◌, ◌&&◌, Bool, not, List, [], ◌∷◌, ◌++◌, length, drop, fold, codes, decimal, nat_eq, nat_lt, if◌then◌else◌}
use Rattle.std.specs.List.{prefix_len, starts_with, ends_with}

-- behind an LF that isn't the end a new line begins
abbrev pub line_from : ℕ → List ℕ → List ℕ → List ℕ
line_from b behind line = if b == 10 && nat_lt 0 (length behind) then behind else line

abbrev pub last_from : List ℕ → List ℕ → List ℕ
last_from line [] = line
last_from line (b ∷ behind) = last_from (line_from b behind line) behind

-- the line that ends a reply, with its LF
abbrev pub reply_line : List ℕ → List ℕ
reply_line reply = last_from reply reply

-- what stands behind the number of a reply line
abbrev pub behind_number : List ℕ → List ℕ
behind_number line = drop (prefix_len (λ b. not (b == 32)) line + 1) line

-- what stands there begins so
abbrev pub begins : List ℕ → List ℕ → Bool
begins word reply = starts_with nat_eq (behind_number (reply_line reply)) word

-- the reply ends so, before its LF
abbrev pub ends_in_ok : List ℕ → Bool
ends_in_ok reply = ends_with nat_eq reply (codes "ok\n")

-- how many replies there are, how many of them end in `ok`, tell of a unit and of a fault, and how many bytes they have
pub record Count : Type 0 where
  pub items : ℕ
  pub oks : ℕ
  pub units : ℕ
  pub faults : ℕ
  pub said : ℕ

abbrev pub nothing_counted : Count
nothing_counted = record { items = 0; oks = 0; units = 0; faults = 0; said = 0 }

-- one more where it holds
abbrev pub more_where : Bool → ℕ → ℕ
more_where t n = if t then n + 1 else n

abbrev pub with_reply : Count → List ℕ → Count
with_reply c reply = record {
  items = c.items + 1;
  oks = more_where (ends_in_ok reply) c.oks;
  units = more_where (begins (codes "unit") reply) c.units;
  faults = more_where (begins (codes "fault") reply) c.faults;
  said = c.said + length reply;
}

-- what is counted with some replies more
abbrev pub counted_from : Count → List (List ℕ) → Count
counted_from c replies = fold with_reply c replies

-- what is counted of some replies
abbrev pub counted : List (List ℕ) → Count
counted replies = counted_from nothing_counted replies

-- what is said of a run with so many values that are put
abbrev pub summary : ℕ → Count → List ℕ
summary n c = codes "made " ++ decimal n ++ codes ": items " ++ decimal c.items ++ codes ", ok " ++ decimal c.oks ++ codes ", units " ++ decimal c.units
    ++ codes ", faults " ++ decimal c.faults ++ codes ", said " ++ decimal c.said ++ codes " bytes\n"
