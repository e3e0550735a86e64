-- What makes items those of a session that is served while its input comes, and the laws of such sessions.
use Rattle.std.specs.Prelude.{◌≡◌, ◌≤◌, ◌<◌, ℕ, suc, ◌+◌, Bool, true, false, List, [], ◌∷◌, ◌++◌, length}
use Rattle.std.specs.List.{concat}
use Rattle.abc_turns.specs.Session.{Next, no_item, not_yet, whole_item, Came, came, wants, Ending, over, quit, waiting, Turn, Session, ends, after_turns, on_came, on_next, session, replies_of, replies, work_after, works}
use Rattle.abc_turns.specs.Stops.{HasServed}

-- Items take lines from the front, at least one. What they are, and what comes of them, stays so whatever lines follow. None is
-- waited for at the end of the input, and before it there may always be one more.
pub record IsSteady {W I L : Type 0} (next : Bool → List L → Next I L) (outcome : Bool → ℕ → W → I → List L → Came W L) : Type 0 where
  pub shorter : (e : Bool) (lines left : List L) (item : I) → next e lines ≡ whole_item item left → length left < length lines
  pub no_longer : (e : Bool) (k : ℕ) (w v : W) (item : I) (lines left : List L) (r : List ℕ) (q : Bool) → outcome e k w item lines ≡ came r v left q → length left ≤ length lines
  pub item_stays : (e : Bool) (lines left more : List L) (item : I) → next false lines ≡ whole_item item left → next e (lines ++ more) ≡ whole_item item (left ++ more)
  pub came_stays : (e : Bool) (k : ℕ) (w v : W) (item : I) (lines left more : List L) (r : List ℕ) (q : Bool) → outcome false k w item lines ≡ came r v left q → outcome e k w item (lines ++ more) ≡ came r v (left ++ more) q
  pub item_at_end : (lines : List L) → next true lines ≡ not_yet → ⊥
  pub came_at_end : (k : ℕ) (w : W) (item : I) (lines : List L) → outcome true k w item lines ≡ wants → ⊥
  pub goes_on : (lines : List L) → next false lines ≡ no_item → ⊥

-- where the session ends by an item that quits
abbrev pub IfQuit : Ending → Type 0 → Type 0
IfQuit over P = Unit {0}
IfQuit quit P = P
IfQuit waiting P = Unit {0}

-- a session whose turns go on in another; one that quits is that other
pub record IsFrontOf {W : Type 0} (s t : Session W) : Type 0 where
  pub later : List (Turn W)
  pub is : t.turns ≡ s.turns ++ later
  pub quits : IfQuit s.ending (t ≡ s)

-- What some lines settle is a front of every session whose lines go on from there.
abbrev pub Fronts : {W I L : Type 0} → (Bool → List L → Next I L) → (Bool → ℕ → W → I → List L → Came W L) → Type 0
Fronts {W} {I} {L} next outcome =
    (ended : Bool) (k : ℕ) (w : W) (lines more : List L) → IsFrontOf (session next outcome false k w lines) (session next outcome ended k w (lines ++ more))

-- The session is its first item and the session over the lines that are left: no count of items is seen.
abbrev pub Unfolds : {W I L : Type 0} → (Bool → List L → Next I L) → (Bool → ℕ → W → I → List L → Came W L) → Type 0
Unfolds {W} {I} {L} next outcome =
    (ended : Bool) (k : ℕ) (w : W) (lines : List L) → session next outcome ended k w lines
    ≡ on_next (next ended lines) (λ item left. on_came (outcome ended k w item left) (λ v rest. session next outcome ended (suc k) v rest))

-- Without lines it waits.
abbrev pub Waits : {W I L : Type 0} → (Bool → List L → Next I L) → (Bool → ℕ → W → I → List L → Came W L) → Type 0
Waits {W} {I} {L} next outcome = (k : ℕ) (w : W) → session next outcome false k w [] ≡ ends waiting

-- From item k on these lines were used by these turns, none of which quits, and they led to this work: whatever lines follow, and
-- whether the input ends, the session goes on from there. A loop that serves a session holds this of all that it did.
pub record IsUsed {W I L : Type 0} (next : Bool → List L → Next I L) (outcome : Bool → ℕ → W → I → List L → Came W L) (k : ℕ) (start : W) (used : List L) (turns : List (Turn W)) (work : W) : Type 0 where
  pub goes : (ended : Bool) (more : List L) → session next outcome ended k start (used ++ more) ≡ after_turns turns (session next outcome ended (k + length turns) work more)
  pub work_is : work ≡ work_after start turns

-- lines that were used, and then further lines
abbrev pub UsesThen : {W I L : Type 0} → (Bool → List L → Next I L) → (Bool → ℕ → W → I → List L → Came W L) → Type 0
UsesThen {W} {I} {L} next outcome =
    (k : ℕ) (start work last : W) (used more : List L) (turns later : List (Turn W)) → IsUsed next outcome k start used turns work
    → IsUsed next outcome (k + length turns) work more later last → IsUsed next outcome k start (used ++ more) (turns ++ later) last

-- The turns of the lines that were used are those that the session has served; the session over the lines that are left has the rest.
abbrev pub UsedAreServed : {W I L : Type 0} → (Bool → List L → Next I L) → (Bool → ℕ → W → I → List L → Came W L) → Type 0
UsedAreServed {W} {I} {L} next outcome =
    (k : ℕ) (start work : W) (used : List L) (turns : List (Turn W)) (said said_later : List ℕ) → IsUsed next outcome k start used turns work → said_later ≡ said ++ concat (replies_of turns)
    → (ended : Bool) (left : List L)
    → HasServed (works start (session next outcome ended k start (used ++ left))) (replies (session next outcome ended k start (used ++ left)))
    (works work (session next outcome ended (k + length turns) work left)) (replies (session next outcome ended (k + length turns) work left)) (Unit {0}) said said_later
