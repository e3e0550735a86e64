-- A session over lines, whatever its items are and whatever comes of them.
use Rattle.std.specs.Prelude.{◌≡◌, ℕ, zero, suc, ◌+◌, Bool, true, false, List, [], ◌∷◌, ◌++◌, length, take, map}
use Rattle.std.specs.List.{concat}

-- what the next item of some lines is: there is none, it is not whole yet, or this one, with the lines left behind it
pub data Next (I L : Type 0) : Type 0 where
  no_item : Next I L
  not_yet : Next I L
  whole_item : I → List L → Next I L

-- what comes of an item: its reply, the work after it, the lines that it left and whether it quits; or it wants a line that is not there
pub data Came (W L : Type 0) : Type 0 where
  came : List ℕ → W → List L → Bool → Came W L
  wants : Came W L

-- how a session ends: its lines are over, an item quits, or it waits for a line
pub data Ending : Type 0 where
  over : Ending
  quit : Ending
  waiting : Ending

-- an item that was served: its reply, and the work after it
pub record Turn (W : Type 0) : Type 0 where
  pub reply : List ℕ
  pub work : W

-- the items that were served, in order, and how the session ends
pub record Session (W : Type 0) : Type 0 where
  pub turns : List (Turn W)
  pub ending : Ending

-- no item is served
abbrev pub ends : {W : Type 0} → Ending → Session W
ends ending = record { turns = []; ending = ending }

-- some turns before those of a session
abbrev pub after_turns : {W : Type 0} → List (Turn W) → Session W → Session W
after_turns turns later = record { turns = turns ++ later.turns; ending = later.ending }

-- one turn before those of a session
abbrev pub then_turn : {W : Type 0} → List ℕ → W → Session W → Session W
then_turn reply work later = record { turns = record { reply = reply; work = work } ∷ later.turns; ending = later.ending }

-- the session from an item on that came to this; where it doesn't quit, it goes on with the work and the lines left
abbrev pub on_came : {W L : Type 0} → Came W L → (W → List L → Session W) → Session W
on_came wants later = ends waiting
on_came (came reply work left true) later = then_turn reply work (ends quit)
on_came (came reply work left false) later = then_turn reply work (later work left)

-- the session of which this is the next item
abbrev pub on_next : {W I L : Type 0} → Next I L → (I → List L → Session W) → Session W
on_next no_item later = ends over
on_next not_yet later = ends waiting
on_next (whole_item item left) later = later item left

-- the session from item k on, over these lines, of at most so many items; the input ends behind the lines, or goes on
abbrev pub session_within : {W I L : Type 0} → (Bool → List L → Next I L) → (Bool → ℕ → W → I → List L → Came W L) → Bool → ℕ → ℕ → W → List L → Session W
session_within next outcome ended zero k work lines = ends waiting
session_within next outcome ended (suc n) k work lines =
    on_next (next ended lines) (λ item left. on_came (outcome ended k work item left) (λ work_new left_new. session_within next outcome ended n (suc k) work_new left_new))

-- the session from item k on, over these lines: each item takes a line at least
unfoldable pub session : {W I L : Type 0} → (Bool → List L → Next I L) → (Bool → ℕ → W → I → List L → Came W L) → Bool → ℕ → W → List L → Session W
session next outcome ended k work lines = session_within next outcome ended (suc (length lines)) k work lines

-- the replies of some turns, and of a session
abbrev pub replies_of : {W : Type 0} → List (Turn W) → List (List ℕ)
replies_of turns = map (λ turn. turn.reply) turns

abbrev pub replies : {W : Type 0} → Session W → List (List ℕ)
replies s = replies_of s.turns

-- all that a session says
abbrev pub output : {W : Type 0} → Session W → List ℕ
output s = concat (replies s)

-- the work after these turns
abbrev pub work_after : {W : Type 0} → W → List (Turn W) → W
work_after start [] = start
work_after start (turn ∷ turns) = work_after turn.work turns

-- the works of a session: the one after k items
abbrev pub works : {W : Type 0} → W → Session W → ℕ → W
works start s k = work_after start (take k s.turns)

-- the work after all items
abbrev pub last_work : {W : Type 0} → W → Session W → W
last_work start s = work_after start s.turns
