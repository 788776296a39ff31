-- The notes take in an entry.
use Rattle.std.proofs.Common.{◌≡◌, ◌==◌, ◌<◌, ◌≤◌, ◌+◌, ◌-◌, ◌⊎◌, inl, inr, ℕ, Bool, true, false, cond}
use Rattle.std.proofs.Common.{ltb, set, get_or, List, [], ◌∷◌, length, replicate, refl, sym, ap, ◌∙◌, subst, Option, Some, None}
use Rattle.std.proofs.Common.{IfSome, arith, length-set}
use Rattle.std.proofs.lemmas.Bool.{cases_lt, eq-eqb, eqb-true, false≢true, lt-ltb}
use Rattle.std.proofs.lemmas.List.{get_or-replicate, length-replicate}
use Rattle.sgx_types.specs.Counts.{count_below}
use Rattle.sgx_rules.specs.declared.entries.Action.TheVariants as actions
use Rattle.sgx_types.specs.declared.names.Actor.{Actor}
use Rattle.sgx_types.specs.declared.names.Actor.TheVariants as actors
use Rattle.sgx_rules.specs.declared.entries.Answer.{Answer}
use Rattle.sgx_rules.specs.declared.entries.Entry.{Entry}
use Rattle.sgx_rules.specs.declared.entries.Event.{Event}
use Rattle.sgx_rules.specs.declared.entries.Event.TheVariants.{Did}
use Rattle.sgx_types.specs.declared.names.Cpu.{Cpu}
use Rattle.sgx_types.specs.declared.names.TheConstants.{LAST_EPOCH}
use Rattle.sgx_rules.specs.Epochs.{epoch, is_in_before, is_track, last_track}
use Rattle.sgx_rules.specs.inner.Epochs.{noted, noted_after}
use Rattle.sgx_rules.specs.Processors.{Enters, Keeps, Leaves, Move, Seat, Stay, is_by, move_by, stay, stay_after, stay_from}
use Rattle.sgx_rules.specs.Rules.{Along}
use Rattle.sgx_rules.proofs.Keystone.{IsNoted, all_noted}
use Rattle.sgx_types.proofs.CountLaws.{count_below-none}
use Rattle.sgx_types.proofs.Lists.{get_or-set_if}
use Rattle.driver_laws.specs.inner.Tracking.{CanTrack, TrackTells, TrackingRule}
use Rattle.epoch_words.specs.declared.seen.Seen.{Seen}
use Rattle.epoch_words.specs.inner.Rule.{at}
use Rattle.epoch_words.specs.inner.Seen.{HasRoom, IsInside, entered, left, seen, starting_at, tracked}
use Rattle.epoch_words.specs.inner.Seen as words
use Rattle.epoch_notes.specs.declared.notes.Inside.{Inside}
use Rattle.epoch_notes.specs.inner.Notes.{IsIn, NotesView, TellsEntries, after_enter, after_leave, seen_of, since, TableId}
use Rattle.epoch_notes.specs.inner.Notes.{word_by}
use Rattle.epoch_notes.proofs.WordLaws.{before_track, has_room, is_counted, word_entered, is_newer, word_left, word_none}
use Rattle.epoch_notes.proofs.WordLaws.{word_tracked, word_with}

-- ---- along a run

track_of : (first : ℕ) (past : List Entry) (ev : Event) (n : ℕ) → is_track ev n ≡ true → TrackTells first past ev → CanTrack first past n
track_of first past (Did (actions.Track enclave) answer) n is can = subst (CanTrack first past) (eqb-true enclave n is) can
track_of first past _ n is can = absurd (false≢true is)

-- no epoch is above the last
pub limited : (first : ℕ) (past : List Entry) → Along (TrackingRule first) past → first ≤ LAST_EPOCH
    → (n : ℕ) → epoch first past n ≤ LAST_EPOCH
limited first [] along low n = low
limited first (e ∷ past) along low n = by_track (is_track e.event n) refl (limited first past along.1 low n)
  where
    by_track : (b : Bool) → is_track e.event n ≡ b → epoch first past n ≤ LAST_EPOCH
        → cond b (epoch first past n + 1) (epoch first past n) ≤ LAST_EPOCH
    by_track false is h = h
    by_track true is h =
        let can = track_of first past e.event n is along.0.track in
        below (cases_lt (epoch first past n) LAST_EPOCH) can
      where
        below : (epoch first past n < LAST_EPOCH) ⊎ (LAST_EPOCH ≤ epoch first past n) → CanTrack first past n
            → epoch first past n + 1 ≤ LAST_EPOCH
        below (inl lt) can = omega (arith, lt)
        below (inr le) can =
            let same : epoch first past n ≡ LAST_EPOCH = omega (arith, h, le) in
            absurd (false≢true (sym can.not_last ∙ eq-eqb _ _ same))

-- who is inside has noted the epoch of now or the one before
abbrev pub IsNear : ℕ → List Entry → ℕ → Stay → Type 0
IsNear first past m t = epoch first past t.seat.enclave ≤ m + 1

near_more : (first : ℕ) (e : Entry) (past : List Entry) (p : ℕ) → p < 16 → (t : Stay) → stay past p ≡ Some t
    → TrackTells first past e.event → IsNear first past (noted first past p) t → IsNear first (e ∷ past) (noted first past p) t
near_more first e past p low t inside tells near = by_track (is_track e.event t.seat.enclave) refl
  where
    m : ℕ
    m = noted first past p

    by_track : (b : Bool) → is_track e.event t.seat.enclave ≡ b
        → cond b (epoch first past t.seat.enclave + 1) (epoch first past t.seat.enclave) ≤ m + 1
    by_track false is = near
    by_track true is =
        let can = track_of first past e.event t.seat.enclave is tells in
        let off : is_in_before t.seat.enclave (last_track past t.seat.enclave) (stay past p) ≡ false =
        count_below-none (λ q. is_in_before t.seat.enclave (last_track past t.seat.enclave) (stay past q)) 16 can.none_older p low in
        let noted_one : IsNoted first past m t = rw inside at (all_noted first past p) in
        let here : (t.seat.enclave == t.seat.enclave) ≡ true = eq-eqb t.seat.enclave t.seat.enclave refl in
        let lt : ltb m (epoch first past t.seat.enclave) ≡ false =
        sym (before_track first past t.seat.enclave m t noted_one refl) ∙ (sym (rw (inside, here) refl) ∙ off) in
        over lt (cases_lt m (epoch first past t.seat.enclave))
      where
        over : ltb m (epoch first past t.seat.enclave) ≡ false
            → (m < epoch first past t.seat.enclave) ⊎ (epoch first past t.seat.enclave ≤ m)
            → epoch first past t.seat.enclave + 1 ≤ m + 1
        over not_below (inl x) = absurd (false≢true (sym not_below ∙ lt-ltb _ _ x))
        over not_below (inr x) = omega (arith, x)

pub track_keeps : (e : Event) → (move_by e ≡ Keeps) ⊎ ((n : ℕ) → is_track e n ≡ false)
track_keeps (Did (actions.Track enclave) answer) = inl refl
track_keeps _ = inr (λ n. refl)

pub all_near : (first : ℕ) (past : List Entry) → Along (TrackingRule first) past → (p : ℕ) → p < 16
    → IfSome (stay past p) (IsNear first past (noted first past p))
all_near first [] along p low = tt
all_near first (e ∷ past) along p low =
    by_move (is_by p e.actor) (move_by e.event) (track_keeps e.event) (stay past p) refl (all_near first past along.1 p low)
  where
    more : (o : Option Stay) → stay past p ≡ o → IfSome o (IsNear first past (noted first past p))
        → IfSome o (IsNear first (e ∷ past) (noted first past p))
    more None is h = tt
    more (Some t) is h = near_more first e past p low t is along.0.track h

    by_move : (b : Bool) (mv : Move) → (mv ≡ Keeps) ⊎ ((n : ℕ) → is_track e.event n ≡ false) → (o : Option Stay) → stay past p ≡ o
        → IfSome o (IsNear first past (noted first past p))
        → IfSome (stay_after mv b past o) (IsNear first (e ∷ past) (noted_after mv b (epoch first past) (noted first past p)))
    by_move b Keeps k o is h = more o is h
    by_move false Leaves k o is h = more o is h
    by_move true Leaves k o is h = tt
    by_move false (Enters seat) k o is h = more o is h
    by_move true (Enters seat) (inl k) o is h = cc
    by_move true (Enters seat) (inr k) o is h = rw (k seat.enclave) (omega arith)

-- ---- lists

-- .. by the numbers of enclaves, from 1 on
place_test : (a b : ℕ) → 1 ≤ a → 1 ≤ b → ((a - 1) == (b - 1)) ≡ (a == b)
place_test a b la lb = by_test (a == b) refl
  where
    by_test : (x : Bool) → (a == b) ≡ x → ((a - 1) == (b - 1)) ≡ x
    by_test true is = eq-eqb (a - 1) (b - 1) (let same = eqb-true a b is in omega (arith, same))
    by_test false is = apart_by ((a - 1) == (b - 1)) refl
      where
        apart_by : (y : Bool) → ((a - 1) == (b - 1)) ≡ y → y ≡ false
        apart_by false k = refl
        apart_by true k =
            let same : a ≡ b = let low = eqb-true (a - 1) (b - 1) k in omega (arith, low, la, lb) in
            absurd (false≢true (sym is ∙ eq-eqb a b same))

-- ---- one entry more

module _ (n : NotesView) (first : ℕ) (past : List Entry) (tells : TellsEntries first past n) where
  -- the words, where that of one enclave is set
  words_set : (enclave : ℕ) → 1 ≤ enclave → enclave ≤ n.words.words → (s : Seen) → (c : ℕ) → 1 ≤ c
      → c ≤ n.words.words → at (set n.seen (enclave - 1) s) (c - 1) ≡ cond (enclave == c) s (word_by first past c)
  words_set enclave low high s c lc hc =
      get_or-set_if n.seen (enclave - 1) (c - 1) s (seen 0 0 0) (let wide = tells.wide in omega (arith, wide, low, high))
      ∙ (ap (λ b. cond b s (at n.seen (c - 1))) (place_test enclave c low lc) ∙ ap (cond (enclave == c) s) (tells.words c lc hc))

  -- a word that stays, but for one enclave's
  as_one : (enclave c : ℕ) (step : Seen → Seen) → cond (enclave == c) (step (word_by first past enclave)) (word_by first past c)
      ≡ cond (enclave == c) (step (word_by first past c)) (word_by first past c)
  as_one enclave c step = by_test (enclave == c) refl
    where
      by_test : (b : Bool) → (enclave == c) ≡ b → cond b (step (word_by first past enclave)) (word_by first past c)
          ≡ cond b (step (word_by first past c)) (word_by first past c)
      by_test true is = ap (λ x. step (word_by first past x)) (eqb-true enclave c is)
      by_test false is = refl

  words_stepped : (enclave : ℕ) → 1 ≤ enclave → enclave ≤ n.words.words → (step : Seen → Seen) → (c : ℕ) → 1 ≤ c → c ≤ n.words.words
      → at (set n.seen (enclave - 1) (step (seen_of n enclave))) (c - 1)
      ≡ cond (enclave == c) (step (word_by first past c)) (word_by first past c)
  words_stepped enclave low high step c lc hc =
      words_set enclave low high (step (seen_of n enclave)) c lc hc
      ∙ (ap (λ x. cond (enclave == c) (step x) (word_by first past c)) (tells.words enclave low high) ∙ as_one enclave c step)

  -- what is noted of processors, where that of one is set
  inside_set : (q : ℕ) → q < length n.inside → (x : Option Inside) → (p : ℕ) → p < length n.inside
      → get_or (set n.inside q x) p None ≡ cond (q == p) x (since (stay past p) (noted first past p))
  inside_set q low x p lp = get_or-set_if n.inside q p x None low ∙ ap (cond (q == p) x) (tells.inside p lp)

  -- ---- a processor enters

  module _ (cpu : Cpu) (ev : Event) (few : length n.inside ≤ 16) (low : cpu.0 < length n.inside)
      (calm : (c : ℕ) → is_track ev c ≡ false) where
    abbrev e : Entry
    e = record { actor = actors.Cpu cpu; event = ev }

    below : cpu.0 < 16
    below = omega (arith, low, few)

    module _ (seat : Seat) (moves : move_by ev ≡ Enters seat) (out : stay past cpu.0 ≡ None) (le : 1 ≤ seat.enclave)
        (he : seat.enclave ≤ n.words.words) where
      abbrev x : Inside
      x = record { enclave = seat.enclave; epoch = (seen_of n seat.enclave).epoch }

      pub room_now : HasRoom (seen_of n seat.enclave)
      room_now = subst HasRoom (sym (tells.words seat.enclave le he)) (has_room first past seat.enclave cpu.0 below out)

      entered_word : (c : ℕ) → word_by first (e ∷ past) c ≡ word_with first past c cpu.0 (Some (stay_from past seat))
      entered_word c = rw (moves, calm c) refl

      entered_since : (p : ℕ) → since (stay (e ∷ past) p) (noted first (e ∷ past) p)
          ≡ cond (cpu.0 == p) (Some x) (since (stay past p) (noted first past p))
      entered_since p = rw moves (by_test (cpu.0 == p))
        where
          by_test : (b : Bool)
              → since (cond b (Some (stay_from past seat)) (stay past p)) (cond b (epoch first past seat.enclave) (noted first past p))
              ≡ cond b (Some x) (since (stay past p) (noted first past p))
          by_test true = ap (λ (s : Seen). Some (record { enclave = seat.enclave; epoch = s.epoch })) (sym (tells.words seat.enclave le he))
          by_test false = refl

      pub tells_entered : TellsEntries first (e ∷ past) (after_enter n cpu.0 seat.enclave)
      tells_entered = record {
        wide = length-set n.seen (seat.enclave - 1) _ ∙ tells.wide;
        words = λ c lc hc.
            words_stepped seat.enclave le he entered c lc hc
            ∙ (sym (word_entered first past c cpu.0 below seat out) ∙ sym (entered_word c));
        inside = λ p lp.
            inside_set cpu.0 low (Some x) p (rw (length-set n.inside cpu.0 (Some x)) at lp) ∙ sym (entered_since p);
      }

    -- ---- a processor leaves

    module _ (moves : move_by ev ≡ Leaves) (t : Stay) (inside : stay past cpu.0 ≡ Some t)
        (near : epoch first past t.seat.enclave ≤ noted first past cpu.0 + 1)
        (le : 1 ≤ t.seat.enclave) (he : t.seat.enclave ≤ n.words.words) where
      abbrev y : Inside
      y = record { enclave = t.seat.enclave; epoch = noted first past cpu.0 }

      pub is_noted : get_or n.inside cpu.0 None ≡ Some y
      is_noted = tells.inside cpu.0 low ∙ ap (λ o. since o (noted first past cpu.0)) inside

      pub is_in : IsIn n y
      is_in = record {
        low = le;
        high = he;
        counted = subst (λ s. IsInside s (noted first past cpu.0)) (sym (tells.words t.seat.enclave le he))
            (is_counted first past t.seat.enclave cpu.0 below t inside near refl);
      }

      left_word : (c : ℕ) → word_by first (e ∷ past) c ≡ word_with first past c cpu.0 None
      left_word c = rw (moves, calm c) refl

      left_since : (p : ℕ) → since (stay (e ∷ past) p) (noted first (e ∷ past) p)
          ≡ cond (cpu.0 == p) None (since (stay past p) (noted first past p))
      left_since p = rw moves (by_test (cpu.0 == p))
        where
          by_test : (b : Bool) → since (cond b None (stay past p)) (noted first past p)
              ≡ cond b None (since (stay past p) (noted first past p))
          by_test true = refl
          by_test false = refl

      pub tells_left : TellsEntries first (e ∷ past) (after_leave n cpu.0)
      tells_left = record {
        wide = rw is_noted (length-set n.seen (t.seat.enclave - 1) (left (seen_of n t.seat.enclave) (noted first past cpu.0)) ∙ tells.wide);
        words = λ c lc hc.
            rw is_noted
            (words_stepped t.seat.enclave le he (λ s. left s (noted first past cpu.0)) c lc hc
            ∙ (sym (word_left first past c cpu.0 below t inside near) ∙ sym (left_word c)));
        inside = λ p lp. inside_set cpu.0 low None p (rw (length-set n.inside cpu.0 None) at lp) ∙ sym (left_since p);
      }

  -- ---- an epoch begins

  module _ (a : Actor) (enclave : ℕ) (answer : Answer) (le : 1 ≤ enclave) (he : enclave ≤ n.words.words)
      (can : CanTrack first past enclave) where
    abbrev track : Entry
    track = record { actor = a; event = Did (actions.Track enclave) answer }

    pub may_track : epoch first past enclave ≤ LAST_EPOCH → words.CanTrack (seen_of n enclave)
    may_track limited_now = subst words.CanTrack (sym (tells.words enclave le he))
        (can.none_older, by_last (cases_lt (epoch first past enclave) LAST_EPOCH))
      where
        by_last : (epoch first past enclave < LAST_EPOCH) ⊎ (LAST_EPOCH ≤ epoch first past enclave) → epoch first past enclave < LAST_EPOCH
        by_last (inl lt) = lt
        by_last (inr ge) =
            let same : epoch first past enclave ≡ LAST_EPOCH = omega (arith, ge, limited_now) in
            absurd (false≢true (sym can.not_last ∙ eq-eqb _ _ same))

    pub tells_tracked : TellsEntries first (track ∷ past) (record n { seen = set n.seen (enclave - 1) (tracked (seen_of n enclave)) })
    tells_tracked = record {
      wide = length-set n.seen (enclave - 1) _ ∙ tells.wide;
      words = λ c lc hc.
          words_stepped enclave le he tracked c lc hc ∙ sym (word_tracked first past c enclave can.none_older);
      inside = tells.inside;
    }

  -- ---- every other entry

  pub tells_same : (e : Entry) → ((p : ℕ) → stay (e ∷ past) p ≡ stay past p) → ((p : ℕ) → noted first (e ∷ past) p ≡ noted first past p)
      → ((c : ℕ) → word_by first (e ∷ past) c ≡ word_by first past c) → TellsEntries first (e ∷ past) n
  tells_same e stays notes same = record {
    wide = tells.wide;
    words = λ c lc hc. tells.words c lc hc ∙ sym (same c);
    inside = λ p lp. tells.inside p lp ∙ (λ i. since (sym (stays p) i) (sym (notes p) i));
  }

  pub tells_quiet : (e : Entry) → move_by e.event ≡ Keeps → ((c : ℕ) → is_track e.event c ≡ false) → TellsEntries first (e ∷ past) n
  tells_quiet e keeps calm = tells_same e (λ p. rw keeps refl) (λ p. rw keeps refl) (λ c. rw (keeps, calm c) refl)

  stays_by : (mv : Move) (o : Option Stay) → stay_after mv false past o ≡ o
  stays_by (Enters seat) o = refl
  stays_by Leaves o = refl
  stays_by Keeps o = refl

  notes_by : (mv : Move) (m : ℕ) → noted_after mv false (epoch first past) m ≡ m
  notes_by (Enters seat) m = refl
  notes_by Leaves m = refl
  notes_by Keeps m = refl

  word_still : (mv : Move) (c : ℕ)
      → seen (epoch first past c) (count_below (λ p. is_in_before c (last_track past c) (stay_after mv false past (stay past p))) 16)
      (count_below (λ p. is_newer c (last_track past c) (stay_after mv false past (stay past p))) 16)
      ≡ word_by first past c
  word_still (Enters seat) c = refl
  word_still Leaves c = refl
  word_still Keeps c = refl

  -- no processor's entry
  abbrev pub IsOthers : Actor → Type 0
  IsOthers (actors.Cpu p) = ⊥
  IsOthers a = Unit {0}

  pub tells_other : (a : Actor) (ev : Event) → IsOthers a → ((c : ℕ) → is_track ev c ≡ false)
      → TellsEntries first (record { actor = a; event = ev } ∷ past) n
  tells_other actors.Builder ev is calm =
      tells_same (record { actor = actors.Builder; event = ev }) (λ p. stays_by (move_by ev) (stay past p))
      (λ p. notes_by (move_by ev) (noted first past p)) (λ c. rw (calm c) (word_still (move_by ev) c))
  tells_other actors.Reclaimer ev is calm =
      tells_same (record { actor = actors.Reclaimer; event = ev }) (λ p. stays_by (move_by ev) (stay past p))
      (λ p. notes_by (move_by ev) (noted first past p)) (λ c. rw (calm c) (word_still (move_by ev) c))
  tells_other (actors.Cpu p) ev is calm = absurd is

-- ---- none yet

none : Option Inside
none = None

pub tells_none : (first cpus : ℕ) (words : TableId) → TellsEntries first []
    (record { words = words; seen = replicate words.words (starting_at first); inside = replicate cpus None })
unfolding none
tells_none first cpus words = record {
  wide = length-replicate words.words (starting_at first);
  words = λ c lc hc. get_or-replicate words.words (c - 1) (starting_at first) (seen 0 0 0) (omega (arith, lc, hc))
      ∙ sym (word_none first c);
  inside = λ p lp. get_or-replicate cpus p none none (subst (λ n. p < n) (length-replicate cpus none) lp);
}
