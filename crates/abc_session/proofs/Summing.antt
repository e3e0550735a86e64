-- A run on a made input.
use Rattle.std.proofs.Common.{rules, ◌≡◌, ◌⊎◌, inl, inr, ⊎_elim, ◌≤◌, ℕ, List, [], ◌++◌, length, take, refl, sym, ◌∙◌, ap, subst, arith}
use Rattle.std.specs.Prelude.{Some, None, Result, Ok, Err, IfOk}
use Rattle.std.proofs.lemmas.Bool.{cases_lt}
use Rattle.std.proofs.lemmas.List.{append-nil, take_all}
use Rattle.abc_outside.specs.Outside.{Outside, RoseByOne, Rose}
use Rattle.abc_outside.specs.Stop.{Leaves}
use Rattle.abc_outside.proofs.Leaves.{weaken, at_each}
use Rattle.abc_journal.specs.declared.layout.Bounds.{Bounds}
use Rattle.abc_turns.specs.Session.{replies}
use Rattle.abc_make.specs.Input.{made_input}
use Rattle.abc_make.specs.Summary.{Count, counted, summary}
use Rattle.abc_store.specs.Commit.{Work}
use Rattle.abc_reader.specs.Asking.{Asked}
use Rattle.abc_reader.proofs.Asks.{none_asked}
use Rattle.abc_words.specs.Words.{on_made, reading}
use Rattle.abc_session.specs.declared.status.TheConstants.{COMPLETE, USAGE, SINK_FAULT, MEMORY, INPUT_TOO_LONG}
use Rattle.abc_session.specs.Product.{product_bounds}
use Rattle.abc_session.specs.Session.{session_of}
use Rattle.abc_session.specs.Told.{WithTold}
use Rattle.abc_session.proofs.Told.{by_all, with_weaker}
use Rattle.abc_session.specs.Settled.{AsksSettled}
use Rattle.abc_session.specs.Run.{store_in, made_in, made_named, IsStart, IsComplete, IsSummary, SaidWhole, SaidInPart, IsMadeRun, IsStatus, NoneRose, HasCause, IsRun}

-- a complete session over the made input is summed up by what was counted of its replies
pub is_summary : (count steps : ℕ) (line : List ℕ) (tally : Count) (bounds : Bounds) (old new : Outside) → bounds ≡ product_bounds → old.image ≡ [] → old.left ≡ made_input count → IsComplete bounds steps old new
    → ((work : Work) → IsStart old.image work → WithTold bounds steps work old.left (λ types. tally ≡ counted (replies (session_of types bounds steps work old.left)))) → line ≡ summary count tally → IsSummary count steps line
is_summary count steps line tally bounds old new same fresh input complete counts is =
    let start = complete.start in
    record {
      start = start;
      is_start = subst (λ (i : List ℕ). IsStart i start) fresh complete.is_start;
      is = with_weaker product_bounds steps start (made_input count) (λ types. tally ≡ counted (replies (session_of types product_bounds steps start (made_input count))))
          (λ types. line ≡ summary count (counted (replies (session_of types product_bounds steps start (made_input count))))) (λ types told. is ∙ ap (summary count) told)
          (subst (λ (l : List ℕ). WithTold product_bounds steps start l (λ types. tally ≡ counted (replies (session_of types product_bounds steps start l)))) input
          (subst (λ b. WithTold b steps start old.left (λ types. tally ≡ counted (replies (session_of types b steps start old.left)))) same (counts start complete.is_start)));
    }

pub if_ok : {A E : Type 0} (P Q : A → Type 0) (r : Result A E) → ((x : A) → P x → Q x) → IfOk r P → IfOk r Q
if_ok P Q (Ok x) f p = f x p
if_ok P Q (Err e) f p = tt

-- one of the statuses of a run on a made input
abbrev IsMadeStatus : ℕ → Type 0
IsMadeStatus status = (status ≡ COMPLETE) ⊎ (status ≡ SINK_FAULT) ⊎ (status ≡ MEMORY)

is_status : (status : ℕ) → IsMadeStatus status → IsStatus status
is_status status (inl is) = inr (inl is)
is_status status (inr (inl is)) = inr (inr (inr (inr (inl is))))
is_status status (inr (inr is)) = inr (inr (inr (inr (inr (inr (inl is))))))

not_usage : (status : ℕ) → IsMadeStatus status → status ≡ USAGE → ⊥
not_usage status (inl is) usage = let e : 0 ≡ 2 = sym is ∙ usage in absurd (cc e)
not_usage status (inr (inl is)) usage = let e : 5 ≡ 2 = sym is ∙ usage in absurd (cc e)
not_usage status (inr (inr is)) usage = let e : 7 ≡ 2 = sym is ∙ usage in absurd (cc e)

not_long : (status : ℕ) → IsMadeStatus status → status ≡ INPUT_TOO_LONG → ⊥
not_long status (inl is) long = let e : 0 ≡ 8 = sym is ∙ long in absurd (cc e)
not_long status (inr (inl is)) long = let e : 5 ≡ 8 = sym is ∙ long in absurd (cc e)
not_long status (inr (inr is)) long = let e : 7 ≡ 8 = sym is ∙ long in absurd (cc e)

-- where no count rose, the sink did not fail
none_rose : (old new : Outside) (status : ℕ) → IsMadeStatus status → (status ≡ SINK_FAULT → RoseByOne old.sink_faults new.sink_faults) → NoneRose old new
    → (status ≡ COMPLETE) ⊎ (status ≡ USAGE) ⊎ (status ≡ INPUT_TOO_LONG) ⊎ (status ≡ MEMORY)
none_rose old new status (inl is) cause none = inl is
none_rose old new status (inr (inl is)) cause none = let rose : Rose old.sink_faults new.sink_faults = omega (arith, cause is) in absurd (none.sink_faults rose)
none_rose old new status (inr (inr is)) cause none = inr (inr (inr is))

module _ {H : Type 0} (tells_said : Type 0) (tell : H → Outside) (clock : H → ℕ) (stopped : H → ℕ → List ℕ → List ℕ → Type 0) (count steps : ℕ) where
  -- for want of memory nothing is done
  pub made_idle : (host : H) → ((c s : List ℕ) → stopped host (clock host) c s → s ≡ (tell host).said) → IsMadeRun tells_said tell clock stopped count steps host host MEMORY
  made_idle host says = record {
    status_is = inr (inr refl);
    whole = search rules;
    in_part = search rules;
    nothing = λ _. refl;
    rest = search rules;
    stops = λ told c s stop. (subst (λ t. stopped host (clock host) c t) (says c s stop) stop, inl (says c s stop));
  }

  -- so many bytes of the summary were said
  said_so_far : (line said s : List ℕ) (n : ℕ) → IsSummary count steps line → n ≤ length line → s ≡ said ++ take n line → SaidInPart count steps said s ⊎ SaidWhole count steps said s
  said_so_far line said s n is within front = ⊎_elim
      (λ short. inl (record { line = line; is_summary = is; bytes = n; short = short; said_is = front }))
      (λ all. inr (record { line = line; is_summary = is; said_is = front ∙ ap (λ (l : List ℕ). said ++ l) (take_all n line all) }))
      (cases_lt n (length line))

  -- while the summary is said a stop leaves an image that it might have left before
  pub saying_summary : (old new : H) (line : List ℕ) → IsSummary count steps line → ((c s : List ℕ) → stopped old (clock old) c s → s ≡ (tell old).said)
      → Leaves clock stopped old new (λ c s. (n : ℕ) × (n ≤ length line) × (s ≡ (tell old).said ++ take n line) × stopped old (clock old) c (tell old).said)
      → (c s : List ℕ) → stopped new (clock old) c s
      → stopped old (clock old) c (tell old).said × ((s ≡ (tell old).said) ⊎ SaidInPart count steps (tell old).said s ⊎ SaidWhole count steps (tell old).said s)
  saying_summary old new line is says leaves =
      at_each clock stopped old new _
      (weaken clock stopped old new (λ c s. stopped old (clock old) c (tell old).said × ((s ≡ (tell old).said) ⊎ SaidInPart count steps (tell old).said s ⊎ SaidWhole count steps (tell old).said s)) _ leaves
      (λ c s p. (p.3, inr (said_so_far line (tell old).said s p.0 is p.1 p.2))))
      (λ c s stop. (subst (λ t. stopped old (clock old) c t) (says c s stop) stop, inl (says c s stop)))

-- the words ask for a made input
pub made_run : {H : Type 0} (tells_chosen tells_image tells_input tells_said : Type 0) (tell : H → Outside) (clock : H → ℕ) (stopped : H → ℕ → List ℕ → List ℕ → Type 0) (bounds : Bounds) (words : List (List ℕ)) (count steps : ℕ)
    (old new : H) (status : ℕ) → reading words ≡ Some (on_made count steps) → HasCause tells_image tells_input bounds (tell old) (tell new) status → IsMadeRun tells_said tell clock stopped count steps old new status
    → IsRun tells_chosen tells_image tells_input tells_said tell clock stopped bounds words steps old new status
made_run tells_chosen tells_image tells_input tells_said tell clock stopped bounds words count steps old new status reads cause made = record {
  complete = λ unmade. absurd (is_made unmade);
  status_is = is_status status made.status_is;
  usage = λ is. absurd (not_usage status made.status_is is);
  unread = λ none. absurd (cc (reads, none));
  cause = cause;
  refused = λ unmade. absurd (is_made unmade);
  waits = λ told told_input work start is. absurd (not_long status made.status_is is);
  most_taken = inr made.rest.taken;
  completeness = λ told kept opens none. none_rose (tell old) (tell new) status made.status_is cause.sink_fault none;
  usage_nothing = λ is. absurd (not_usage status made.status_is is);
  unread_nothing = λ none. absurd (cc (reads, none));
  untouched = λ unmade. absurd (is_made unmade);
  untouched_stops = λ unmade. absurd (is_made unmade);
  chosen = λ told named is. absurd (cc (ap store_in reads, is));
  none_chosen = λ _. made.rest.chosen;
  asked = λ told told_said told_input work start. by_all bounds steps work (tell old).left (λ types. Asked (AsksSettled types bounds steps work (tell old).left (length (tell old).said)) (tell old).asked (tell new).asked) (λ types.
      subst (λ (a : List (ℕ × ℕ)). Asked (AsksSettled types bounds steps work (tell old).left (length (tell old).said)) (tell old).asked a) (sym made.rest.asked) (none_asked _ _));
  asks_rise = λ told. record { extra = []; is = made.rest.asked ∙ sym (append-nil (tell old).asked); rises = omega arith };
  stands = λ unmade. absurd (is_made unmade);
  headline = λ unmade. absurd (is_made unmade);
  last = λ unmade. absurd (is_made unmade);
  made = λ n is. subst (λ m. IsMadeRun tells_said tell clock stopped m steps old new status) (one_count n is) made;
}
  where
    is_made : made_named words ≡ None → ⊥
    is_made unmade = absurd (cc (ap made_in reads, unmade))

    one_count : (n : ℕ) → made_named words ≡ Some n → count ≡ n
    one_count n is = some_is n (sym (ap made_in reads) ∙ is)
      where
        some_is : (n : ℕ) → Some count ≡ Some n → count ≡ n
        some_is n e = cc
