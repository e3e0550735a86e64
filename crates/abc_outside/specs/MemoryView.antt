-- What the host in memory shows: its world, its stops, and the calls that are to fail.
use Rattle.std.specs.Prelude.{◌≡◌, ◌<◌, ◌+◌, ◌-◌, ◌^◌, ℕ, min, Bool, true, false, List, [], length, map, drop, reverse}
use Rattle.abc_outside.specs.Outside.{Outside, RoseByOne}
use Rattle.abc_outside.specs.Names.{names_of}
use Rattle.abc_outside.specs.Failing.{is_due, one_nearer}
use Rattle.abc_outside.specs.MemoryStop.{Stopped}
use Rattle.abc_outside.specs.declared.failing.CallKind.{CallKind}
use Rattle.abc_outside.specs.declared.failing.Listed.{Listed}
use Rattle.abc_outside.specs.declared.memory.MemoryHost.{MemoryHost}

abbrev pub outside_of : MemoryHost → Outside
outside_of host = record {
  chosen = map names_of host.chosen.items;
  taken = host.taken;
  left = drop host.place host.input.items;
  image = host.image.items;
  said = host.said.items;
  asked = host.asked.items;
  input_faults = host.input_faults;
  store_faults = host.store_faults;
  sink_faults = host.sink_faults;
}

-- the count of the calls on its record
abbrev pub clock_of : MemoryHost → ℕ
clock_of host = length host.steps.items

abbrev pub stopped_of : MemoryHost → ℕ → List ℕ → List ℕ → Type 0
stopped_of host t c s = Stopped host.image.items host.said.items (reverse host.steps.items) t c s

-- what a stop now may leave
abbrev pub MayStop : MemoryHost → List ℕ → List ℕ → Type 0
MayStop host c s = stopped_of host (clock_of host) c s

-- the calls that are to fail
abbrev pub listed_in : MemoryHost → List Listed
listed_in host = host.listed.items

-- how many calls found no memory
abbrev pub starved_in : MemoryHost → ℕ
starved_in host = host.starved

-- how many bytes a say takes at most
abbrev pub most_said_in : MemoryHost → ℕ
most_said_in host = host.most_said

-- the next call of this kind is one of those that are to fail
abbrev pub is_next_listed : CallKind → MemoryHost → Bool
is_next_listed kind host = is_due kind (listed_in host)

-- a call found memory: the count of those that found none did not rise, nor does it stand at its last value
abbrev pub FoundMemory : MemoryHost → MemoryHost → Type 0
FoundMemory old new = starved_in new < min (starved_in old + 1) (2 ^ 64 - 1)

-- A call of this kind. It fails exactly where it is one of those that are to fail, or finds no memory.
pub record IsCalled (kind : CallKind) (failed : Bool) (old new : MemoryHost) : Type 0 where
  pub nearer : listed_in new ≡ map (one_nearer kind) (listed_in old)
  pub listed_fails : is_next_listed kind old ≡ true → failed ≡ true
  pub else_starved : failed ≡ true → is_next_listed kind old ≡ false → RoseByOne (starved_in old) (starved_in new)
  pub no_starving : failed ≡ false → starved_in new ≡ starved_in old
  pub no_input_fault : failed ≡ false → (outside_of new).input_faults ≡ (outside_of old).input_faults
  pub no_store_fault : failed ≡ false → (outside_of new).store_faults ≡ (outside_of old).store_faults
  pub no_sink_fault : failed ≡ false → (outside_of new).sink_faults ≡ (outside_of old).sink_faults
  pub most_said : most_said_in new ≡ most_said_in old

-- a host that was just made
pub record IsMade (of_image of_input : List ℕ) (host : MemoryHost) : Type 0 where
  pub chosen : (outside_of host).chosen ≡ []
  pub taken : (outside_of host).taken ≡ 0
  pub left : (outside_of host).left ≡ of_input
  pub image : (outside_of host).image ≡ of_image
  pub said : (outside_of host).said ≡ []
  pub asked : (outside_of host).asked ≡ []
  pub input_faults : (outside_of host).input_faults ≡ 0
  pub store_faults : (outside_of host).store_faults ≡ 0
  pub sink_faults : (outside_of host).sink_faults ≡ 0
  pub starved : starved_in host ≡ 0
  pub listed : listed_in host ≡ []
  pub most_said : most_said_in host ≡ 2 ^ 64 - 1

-- the world and what may stop are as they were
pub record KeepsWorld (old new : MemoryHost) : Type 0 where
  pub outside : outside_of new ≡ outside_of old
  pub clock : clock_of new ≡ clock_of old
  pub stops : (t : ℕ) (c s : List ℕ) → stopped_of new t c s → stopped_of old t c s
  pub still_stops : (t : ℕ) (c s : List ℕ) → stopped_of old t c s → stopped_of new t c s
  pub starved : starved_in new ≡ starved_in old
