-- A session as a stop sees it: its workspaces, of which `after k` is the one after k items, and its replies, one an item.
use Rattle.std.specs.Prelude.{◌≡◌, ◌⊎◌, ◌≤◌, ◌<◌, ℕ, suc, ◌+◌, ◌-◌, List, [], ◌∷◌, ◌++◌, length, take, if◌then◌else◌, ◌==◌, nat_lt}
use Rattle.std.specs.List.{concat}
use Rattle.abc_outside.specs.Stop.{Leaves, Now}

-- of how many replies these many bytes hold a byte
abbrev pub heard : List (List ℕ) → ℕ → ℕ
heard [] n = 0
heard (r ∷ rs) n = if n == 0 then 0 else suc (heard rs (n - length r))

-- how many replies these many bytes hold wholly
abbrev pub whole : List (List ℕ) → ℕ → ℕ
whole [] n = 0
whole (r ∷ rs) n = if nat_lt n (length r) then 0 else suc (whole rs (n - length r))

-- A stop in a session: what was said since is a front of the replies, and the image opens to the workspace after k items,
-- which are all of whose reply a byte was said, and at most one more than were said wholly.
pub record IsPoint {W : Type 0} (opens : List ℕ → W → Type 0) (after : ℕ → W) (replies : List (List ℕ)) (said c s : List ℕ) : Type 0 where
  pub count : ℕ
  pub front : s ≡ said ++ take count (concat replies)
  pub inside : count ≤ length (concat replies)
  pub k : ℕ
  pub among : k ≤ length replies
  pub image : opens c (after k)
  pub all_heard : heard replies count ≤ k
  pub one_more : k ≤ whole replies count + 1

-- A stop while an item is committed: nothing of its reply was said, and the image opens to the workspace before it or to the
-- one after it.
pub record IsInCommit {W : Type 0} (opens : List ℕ → W → Type 0) (old new : W) (said c s : List ℕ) : Type 0 where
  pub nothing_said : s ≡ said
  pub image : opens c old ⊎ opens c new

-- A stop while the reply of an item is said: a front of it was said, and the image opens to the workspace after the item.
pub record IsInSaying {W : Type 0} (opens : List ℕ → W → Type 0) (new : W) (reply said c s : List ℕ) : Type 0 where
  pub count : ℕ
  pub inside : count ≤ length reply
  pub front : s ≡ said ++ take count reply
  pub image : opens c new

-- a stop while an item is served
pub data IsInItem {W : Type 0} (opens : List ℕ → W → Type 0) (old new : W) (reply said c s : List ℕ) : Type 0 where
  in_commit : IsInCommit opens old new said c s → IsInItem opens old new reply said c s
  in_saying : IsInSaying opens new reply said c s → IsInItem opens old new reply said c s

-- Some of the items were served, and these workspaces and replies are left. Where the host tells what was said, the
-- replies of those that were served were said.
pub record HasServed {W : Type 0} (after : ℕ → W) (replies : List (List ℕ)) (after_left : ℕ → W) (left : List (List ℕ)) (tells_said : Type 0) (said said_later : List ℕ) : Type 0 where
  pub done : List (List ℕ)
  pub split : replies ≡ done ++ left
  pub moved : (k : ℕ) → after_left k ≡ after (length done + k)
  pub is_said : tells_said → said_later ≡ said ++ concat done

-- A session that stands between two items: the replies of the first k were said and no byte more, and a stop now leaves an
-- image that opens to the workspace after them.
pub record IsBetween {W : Type 0} (opens : List ℕ → W → Type 0) (after : ℕ → W) (replies : List (List ℕ)) (said said_now : List ℕ) (now : List ℕ → List ℕ → Type 0) : Type 0 where
  pub k : ℕ
  pub among : k ≤ length replies
  pub said_is : said_now ≡ said ++ concat (take k replies)
  pub image : (c s : List ℕ) → now c s → opens c (after k)

-- A session whose store failed: the replies of the first k items were said and no byte more, and a stop now leaves an image
-- that opens to the workspace after them, or after one item more.
pub record IsBroken {W : Type 0} (opens : List ℕ → W → Type 0) (after : ℕ → W) (replies : List (List ℕ)) (said said_now : List ℕ) (now : List ℕ → List ℕ → Type 0) : Type 0 where
  pub k : ℕ
  pub among : k ≤ length replies
  pub said_is : said_now ≡ said ++ concat (take k replies)
  pub image : (c s : List ℕ) → now c s → opens c (after k) ⊎ opens c (after (suc k))

-- A session whose sink failed: after the replies of the first k items a front of the next one was said, and not all of it; a
-- stop now leaves an image that opens to the workspace after that item.
pub record IsCutShort {W : Type 0} (opens : List ℕ → W → Type 0) (after : ℕ → W) (replies : List (List ℕ)) (said said_now : List ℕ) (now : List ℕ → List ℕ → Type 0) : Type 0 where
  pub k : ℕ
  pub among : k < length replies
  pub count : ℕ
  pub said_is : said_now ≡ said ++ take count (concat replies)
  pub begun : length (concat (take k replies)) ≤ count
  pub cut : count < length (concat (take (suc k) replies))
  pub image : (c s : List ℕ) → now c s → opens c (after (suc k))

-- No item is served: a stop leaves what was said then, and an image that opens to this workspace.
abbrev pub IsIdle : {H W : Type 0} (clock : H → ℕ) (stopped : H → ℕ → List ℕ → List ℕ → Type 0) (said : H → List ℕ) (opens : List ℕ → W → Type 0) (work : W) → H → H → Type 0
IsIdle clock stopped said opens work old new = Leaves clock stopped old new (λ c s. (s ≡ said old) × opens c work)

-- Items of these replies are served one after the other, from one host to the last: it has ended before an item, or was
-- broken off in it, or served it, so that its whole reply was said, and went on. In each item a stop leaves what it may.
abbrev pub Serves : {H W : Type 0} (clock : H → ℕ) (stopped : H → ℕ → List ℕ → List ℕ → Type 0) (said : H → List ℕ) (opens : List ℕ → W → Type 0) (after : ℕ → W) (replies : List (List ℕ)) → H → H → Type 0
Serves clock stopped said opens after [] old new = IsIdle clock stopped said opens (after 0) old new
Serves {H} clock stopped said opens after (r ∷ rs) old new =
    IsIdle clock stopped said opens (after 0) old new
    ⊎ (Leaves clock stopped old new (IsInItem opens (after 0) (after 1) r (said old))
    ⊎ ((mid : H) × Leaves clock stopped old mid (IsInItem opens (after 0) (after 1) r (said old)) × (said mid ≡ said old ++ r) × Serves clock stopped said opens (λ k. after (suc k)) rs mid new))

-- A stop at any moment of a session is a point of it, wherever the session ends: from the items alone.
abbrev pub StopsArePoints : {H W : Type 0} (clock : H → ℕ) (stopped : H → ℕ → List ℕ → List ℕ → Type 0) (said : H → List ℕ) (opens : List ℕ → W → Type 0) → Type 0
StopsArePoints {H} {W} clock stopped said opens =
    (after : ℕ → W) (replies : List (List ℕ)) (old new : H) → Serves clock stopped said opens after replies old new
    → ((c s : List ℕ) → stopped old (clock old) c s → (s ≡ said old) × opens c (after 0))
    → (c s : List ℕ) → stopped new (clock old) c s → IsPoint opens after replies (said old) c s

-- a stop in the first item is a point of the session
abbrev pub ItemsArePoints : {W : Type 0} (opens : List ℕ → W → Type 0) → Type 0
ItemsArePoints {W} opens =
    (after : ℕ → W) (r : List ℕ) (rs : List (List ℕ)) (said c s : List ℕ) → IsInItem opens (after 0) (after 1) r said c s → IsPoint opens after (r ∷ rs) said c s

-- a point of what is left is a point of the whole
abbrev pub LaterPointsArePoints : {W : Type 0} (opens : List ℕ → W → Type 0) → Type 0
LaterPointsArePoints {W} opens =
    (after after_left : ℕ → W) (replies left : List (List ℕ)) (first said c s : List ℕ)
    → HasServed after replies after_left left (Unit {0}) first said → IsPoint opens after_left left said c s → IsPoint opens after replies first c s

-- after all of xs, and m bytes of what follows, at most all of xs and `heard rs m` replies are heard
abbrev pub HeardPast : Type 0
HeardPast = (xs rs : List (List ℕ)) (m : ℕ) → heard (xs ++ rs) (length (concat xs) + m) ≤ length xs + heard rs m

-- and at least all of xs and `whole rs m` replies are whole
abbrev pub WholePast : Type 0
WholePast = (xs rs : List (List ℕ)) (m : ℕ) → length xs + whole rs m ≤ whole (xs ++ rs) (length (concat xs) + m)

-- the endings of what is left are endings of the whole
abbrev pub LaterIsBetween : {H W : Type 0} (clock : H → ℕ) (stopped : H → ℕ → List ℕ → List ℕ → Type 0) (opens : List ℕ → W → Type 0) → Type 0
LaterIsBetween {H} {W} clock stopped opens =
    (after after_left : ℕ → W) (replies left : List (List ℕ)) (first said said_now : List ℕ) (host : H)
    → HasServed after replies after_left left (Unit {0}) first said → IsBetween opens after_left left said said_now (Now clock stopped host) → IsBetween opens after replies first said_now (Now clock stopped host)

abbrev pub LaterIsBroken : {H W : Type 0} (clock : H → ℕ) (stopped : H → ℕ → List ℕ → List ℕ → Type 0) (opens : List ℕ → W → Type 0) → Type 0
LaterIsBroken {H} {W} clock stopped opens =
    (after after_left : ℕ → W) (replies left : List (List ℕ)) (first said said_now : List ℕ) (host : H)
    → HasServed after replies after_left left (Unit {0}) first said → IsBroken opens after_left left said said_now (Now clock stopped host) → IsBroken opens after replies first said_now (Now clock stopped host)

abbrev pub LaterIsCutShort : {H W : Type 0} (clock : H → ℕ) (stopped : H → ℕ → List ℕ → List ℕ → Type 0) (opens : List ℕ → W → Type 0) → Type 0
LaterIsCutShort {H} {W} clock stopped opens =
    (after after_left : ℕ → W) (replies left : List (List ℕ)) (first said said_now : List ℕ) (host : H)
    → HasServed after replies after_left left (Unit {0}) first said → IsCutShort opens after_left left said said_now (Now clock stopped host) → IsCutShort opens after replies first said_now (Now clock stopped host)
