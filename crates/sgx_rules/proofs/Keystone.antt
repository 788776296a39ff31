-- Epochs tell what places tell: who was inside at the first track behind a block, and who since before the last track.
use Rattle.std.proofs.Common.{◌≡◌, ℕ, ◌+◌, ◌<◌, ◌≤◌, ◌==◌, ◌&&◌, Bool, true, false, cond, ltb, leb, refl, sym}
use Rattle.std.proofs.Common.{◌∙◌, arith, ◌⊎◌, inl, inr, Option, Some, None, IfSome, is_some, List, [], ◌∷◌, length}
use Rattle.std.proofs.lemmas.Bool.{ltb-true, ltb-false, lt-ltb, le-ltb, lt-leb, le-leb, false≢true, eqb-true, cases_lt}
use Rattle.sgx_rules.specs.declared.entries.Entry.{Entry}
use Rattle.sgx_rules.specs.declared.entries.Event.{Event}
use Rattle.sgx_rules.specs.declared.entries.Event.TheVariants.{Did}
use Rattle.sgx_rules.specs.declared.entries.Action.TheVariants.{Track, Block}
use Rattle.sgx_types.specs.Counts.{earlier_or, count_below}
use Rattle.sgx_rules.specs.Frames.{Before, Content, Put, put_by, made_before, content, enclave_in, held_after, is_put, is_block}
use Rattle.sgx_rules.specs.Processors.{Move, Enters, Leaves, Keeps, Stay, move_by, is_by, stay, stay_after}
use Rattle.sgx_rules.specs.Epochs.{epoch, is_track, epoch_in, last_track, is_before, is_in_before}
use Rattle.sgx_rules.specs.inner.Epochs.{noted, noted_after, block_epoch}
use Rattle.sgx_rules.specs.Epochs.{older_at}
use Rattle.sgx_rules.specs.Eviction.{block_place, track_behind, keeps_back, number_kept_back, kept_back, kept_back_from}
use Rattle.sgx_rules.specs.Eviction.{is_drained, is_drained_from}
use Rattle.sgx_rules.specs.inner.ByEpochs.{notes, number_up_to, number_noting, up_to_block, kept_back_by_epochs, passed_block}
use Rattle.sgx_rules.specs.inner.ByEpochs.{is_drained_by_epochs, IsTrackedBlock, EpochsTellPlaces}
use Rattle.sgx_types.proofs.CountLaws.{count_below-agrees}

-- how many tracks of an enclave stand behind a place
abbrev pub tracks_behind : List Entry → ℕ → ℕ → ℕ
tracks_behind [] enclave from = 0
tracks_behind (e ∷ past) enclave from = cond (is_track e.event enclave && ltb from (length past)) 1 0 + tracks_behind past enclave from

pub none_behind : (past : List Entry) (enclave from : ℕ) → length past ≤ from + 1 → tracks_behind past enclave from ≡ 0
none_behind [] enclave from h = refl
none_behind (e ∷ past) enclave from h =
    by_test (is_track e.event enclave) (ltb from (length past)) refl (none_behind past enclave from (omega arith))
  where
    by_test : (b c : Bool) → ltb from (length past) ≡ c → tracks_behind past enclave from ≡ 0
        → cond (b && c) 1 0 + tracks_behind past enclave from ≡ 0
    by_test true true e z = absurd (omega (arith, ltb-true _ _ e))
    by_test true false e z = omega arith
    by_test false c e z = omega arith

-- a stay began before the end, and its noted epoch is as many tracks old as stand behind its entry
pub record IsNoted (first : ℕ) (past : List Entry) (m : ℕ) (t : Stay) : Type 0 where
  pub below : t.entered < length past
  pub counted : m + tracks_behind past t.seat.enclave t.entered ≡ epoch first past t.seat.enclave

track_keeps : (e : Event) → (move_by e ≡ Keeps) ⊎ ((n : ℕ) → is_track e n ≡ false)
track_keeps (Did (Track enclave) answer) = inl refl
track_keeps _ = inr (λ n. refl)

IsNoted-more : (first : ℕ) (e : Entry) (past : List Entry) (m : ℕ) (t : Stay) → IsNoted first past m t → IsNoted first (e ∷ past) m t
IsNoted-more first e past m t h = by_test (is_track e.event t.seat.enclave) refl
  where
    by_test : (b : Bool) → is_track e.event t.seat.enclave ≡ b → IsNoted first (e ∷ past) m t
    by_test true is = record { below = omega arith; counted = rw (is, lt-ltb t.entered (length past) h.below) (omega arith) }
    by_test false is = record { below = omega arith; counted = rw is (omega arith) }

pub all_noted : (first : ℕ) (past : List Entry) (p : ℕ) → IfSome (stay past p) (IsNoted first past (noted first past p))
all_noted first [] p = tt
all_noted first (e ∷ past) p =
    by_move (is_by p e.actor) (move_by e.event) (track_keeps e.event) (stay past p) (noted first past p) (all_noted first past p)
  where
    more : (o : Option Stay) (m : ℕ) → IfSome o (IsNoted first past m) → IfSome o (IsNoted first (e ∷ past) m)
    more None m h = tt
    more (Some t) m h = IsNoted-more first e past m t h

    by_move : (b : Bool) (mv : Move) → (mv ≡ Keeps) ⊎ ((n : ℕ) → is_track e.event n ≡ false) → (o : Option Stay) (m : ℕ)
        → IfSome o (IsNoted first past m)
        → IfSome (stay_after mv b past o) (IsNoted first (e ∷ past) (noted_after mv b (epoch first past) m))
    by_move b Keeps k o m h = more o m h
    by_move false Leaves k o m h = more o m h
    by_move true Leaves k o m h = tt
    by_move false (Enters seat) k o m h = more o m h
    by_move true (Enters seat) (inl k) o m h = cc
    by_move true (Enters seat) (inr k) o m h =
        record {
          below = omega arith;
          counted = rw (k seat.enclave, none_behind past seat.enclave (length past) (omega arith))
              (omega arith);
        }

at_most_one : (b : Bool) → cond b 1 0 ≤ 1
at_most_one true = omega arith
at_most_one false = omega arith

-- the first track behind a place: what entered before it has as many tracks behind it, what entered later has fewer
pub record IsFirstTrack (past : List Entry) (enclave j k : ℕ) : Type 0 where
  pub after : j < k
  pub below : k < length past
  pub reached : (m : ℕ) → m < k → tracks_behind past enclave j ≤ tracks_behind past enclave m
  pub missed : (m : ℕ) → k ≤ m → tracks_behind past enclave m < tracks_behind past enclave j

-- what the first track behind a place, or none, says
abbrev pub FirstTrack : List Entry → ℕ → ℕ → Option ℕ → Type 0
FirstTrack past enclave j None = tracks_behind past enclave j ≡ 0
FirstTrack past enclave j (Some k) = IsFirstTrack past enclave j k

pub first_track : (past : List Entry) (enclave j : ℕ) → FirstTrack past enclave j (track_behind past enclave j)
first_track [] enclave j = refl
first_track (e ∷ past) enclave j =
    by_cases (track_behind past enclave j) (is_track e.event enclave) refl (ltb j (length past)) refl (first_track past enclave j)
  where
    by_cases : (o : Option ℕ) (b : Bool) → is_track e.event enclave ≡ b → (c : Bool) → ltb j (length past) ≡ c → FirstTrack past enclave j o
        → FirstTrack (e ∷ past) enclave j (earlier_or o (b && c) (length past))
    by_cases (Some k) true is c lt h = record {
      after = h.after;
      below = omega arith;
      reached = λ m le.
          let low : m < length past = omega (arith, h.below) in
          let low_j : j < length past = omega (arith, h.below, h.after) in
          rw (is, lt-ltb m _ low, lt-ltb j _ low_j) (omega (arith, h.reached m le));
      missed = λ m le.
          let low_j : j < length past = omega (arith, h.below, h.after) in
          rw (is, lt-ltb j _ low_j) (omega (arith, h.missed m le, at_most_one (ltb m (length past))));
    }
    by_cases (Some k) false is c lt h = record {
      after = h.after;
      below = omega arith;
      reached = λ m le. rw is (omega (arith, h.reached m le));
      missed = λ m le. rw is (omega (arith, h.missed m le));
    }
    by_cases None true is true lt h = record {
      after = ltb-true _ _ lt;
      below = omega arith;
      reached = λ m le. rw (is, lt, lt-ltb m _ le) (omega (arith, h));
      missed = λ m le.
          let none = none_behind (e ∷ past) enclave m (omega arith) in
          let one : 1 ≤ tracks_behind (e ∷ past) enclave j = rw (is, lt) (omega arith) in
          omega (arith, none, one);
    }
    by_cases None true is false lt h = rw (is, lt) (omega (arith, h))
    by_cases None false is c lt h = rw is (omega (arith, h))

-- where a frame was blocked: the epoch of its enclave then, which is as many tracks old as stand behind
pub record IsBlockedAt (first : ℕ) (past : List Entry) (n enclave j b : ℕ) : Type 0 where
  pub below : j < length past
  pub counted : b + tracks_behind past enclave j ≡ epoch first past enclave

abbrev pub BlockedAt : ℕ → List Entry → ℕ → ℕ → Option ℕ → Option ℕ → Type 0
BlockedAt first past n enclave (Some j) (Some b) = IsBlockedAt first past n enclave j b
BlockedAt first past n enclave None None = Unit {0}
BlockedAt first past n enclave _ _ = ⊥

-- a block puts nothing and tracks nothing
record IsBlockOnly (e : Event) : Type 0 where
  pub puts : (before : Before) → put_by e before ≡ None
  pub tracks : (n : ℕ) → is_track e n ≡ false

block_only : (e : Event) → IsBlockOnly e ⊎ ((n : ℕ) → is_block e n ≡ false)
block_only (Did (Block f) answer) = inl (record { puts = λ before. refl; tracks = λ n. refl })
block_only _ = inr (λ n. refl)

held_same : (put : Option Put) (n : ℕ) (c : Content) → is_put put n ≡ false → held_after put n c ≡ c
held_same None n c h = refl
held_same (Some put) n c h = rw h

BlockedAt-more : (first : ℕ) (e : Entry) (past : List Entry) (n enclave : ℕ) (j b : Option ℕ) → BlockedAt first past n enclave j b
    → BlockedAt first (e ∷ past) n enclave j b
BlockedAt-more first e past n enclave None None h = tt
BlockedAt-more first e past n enclave None (Some b) h = h
BlockedAt-more first e past n enclave (Some j) None h = h
BlockedAt-more first e past n enclave (Some j) (Some b) h = by_test (is_track e.event enclave) refl
  where
    by_test : (t : Bool) → is_track e.event enclave ≡ t → IsBlockedAt first (e ∷ past) n enclave j b
    by_test true is = record { below = omega arith; counted = rw (is, lt-ltb j (length past) h.below) (omega arith) }
    by_test false is = record { below = omega arith; counted = rw is (omega arith) }

pub blocked_at : (first : ℕ) (past : List Entry) (n enclave : ℕ) → enclave_in (content past n) ≡ Some enclave
    → BlockedAt first past n enclave (block_place past n) (block_epoch first past n)
blocked_at first [] n enclave h = tt
blocked_at first (e ∷ past) n enclave h =
    by_cases (is_block e.event n) refl (block_only e.event) (is_put (put_by e.event (made_before past)) n) refl (block_place past n)
    (block_epoch first past n)
    (blocked_at first past n enclave)
  where
    by_cases : (b : Bool) → is_block e.event n ≡ b → IsBlockOnly e.event ⊎ ((m : ℕ) → is_block e.event m ≡ false) → (c : Bool)
        → is_put (put_by e.event (made_before past)) n ≡ c
        → (j b' : Option ℕ) → (enclave_in (content past n) ≡ Some enclave → BlockedAt first past n enclave j b')
        → BlockedAt first (e ∷ past) n enclave (cond b (Some (length past)) (cond c None j))
        (cond b (Some (epoch_in first past n)) (cond c None b'))
    by_cases true is (inl only) c put j b before = record {
      below = omega arith;
      counted =
          let here : enclave_in (content past n) ≡ Some enclave = rw (only.puts (made_before past)) at h in
          rw (here, only.tracks enclave, none_behind past enclave (length past) (omega arith)) (omega arith);
    }
    by_cases true is (inr none) c put j b before = absurd (false≢true (sym (none n) ∙ is))
    by_cases false is k true put j b before = tt
    by_cases false is k false put j b before =
        BlockedAt-more first e past n enclave j b (before (rw (held_same (put_by e.event (made_before past)) n (content past n) put) at h))

-- a stay keeps a blocked page back exactly where its noted epoch is at most the block's
pub keeps_back-noted : (first : ℕ) (past : List Entry) (n enclave j b : ℕ) → IsBlockedAt first past n enclave j b → (o : Option ℕ)
    → FirstTrack past enclave j o
    → (m : ℕ) (s : Option Stay) → IfSome s (IsNoted first past m) → keeps_back enclave o s ≡ notes enclave (λ i. leb i b) m s
keeps_back-noted first past n enclave j b at None f m None h = refl
keeps_back-noted first past n enclave j b at (Some k) f m None h = refl
keeps_back-noted first past n enclave j b at None f m (Some t) h = by_enclave ((t.seat.enclave == enclave)) refl
  where
    by_enclave : (is : Bool) → (t.seat.enclave == enclave) ≡ is → is ≡ (is && leb m b)
    by_enclave false e = refl
    by_enclave true e =
        let same = eqb-true _ _ e in
        sym (le-leb m b (omega (arith, f, at.counted, rw same at h.counted)))
keeps_back-noted first past n enclave j b at (Some k) f m (Some t) h = by_enclave ((t.seat.enclave == enclave)) refl
  where
    by_place : (is : Bool) → ltb t.entered k ≡ is → t.seat.enclave ≡ enclave → is ≡ leb m b
    by_place true e same = sym (le-leb m b (omega (arith, at.counted, rw same at h.counted, f.reached t.entered (ltb-true _ _ e))))
    by_place false e same = sym (lt-leb m b (omega (arith, at.counted, rw same at h.counted, f.missed t.entered (ltb-false _ _ e))))

    by_enclave : (is : Bool) → (t.seat.enclave == enclave) ≡ is → (is && ltb t.entered k) ≡ (is && leb m b)
    by_enclave false e = refl
    by_enclave true e = by_place (ltb t.entered k) refl (eqb-true _ _ e)

-- the enclave was tracked behind the block exactly where its epoch is above the block's
pub tracked_since : (first : ℕ) (past : List Entry) (n enclave j b : ℕ) → IsBlockedAt first past n enclave j b → (o : Option ℕ)
    → FirstTrack past enclave j o
    → ltb b (epoch first past enclave) ≡ is_some o
tracked_since first past n enclave j b at None f = le-ltb b _ (omega (arith, f, at.counted))
tracked_since first past n enclave j b at (Some k) f = lt-ltb b _ (omega (arith, at.counted, f.missed k (omega arith)))

pub record IsLastTrack (past : List Entry) (enclave k : ℕ) : Type 0 where
  pub below : k < length past
  pub reached : (m : ℕ) → m < k → 0 < tracks_behind past enclave m
  pub passed : (m : ℕ) → k ≤ m → tracks_behind past enclave m ≡ 0

abbrev pub LastTrack : List Entry → ℕ → Option ℕ → Type 0
LastTrack past enclave None = (m : ℕ) → tracks_behind past enclave m ≡ 0
LastTrack past enclave (Some k) = IsLastTrack past enclave k

pub last_track_is : (past : List Entry) (enclave : ℕ) → LastTrack past enclave (last_track past enclave)
last_track_is [] enclave = λ m. refl
last_track_is (e ∷ past) enclave = by_cases (is_track e.event enclave) refl (last_track past enclave) (last_track_is past enclave)
  where
    by_cases : (b : Bool) → is_track e.event enclave ≡ b → (o : Option ℕ) → LastTrack past enclave o
        → LastTrack (e ∷ past) enclave (cond b (Some (length past)) o)
    by_cases true is o h = record {
      below = omega arith;
      reached = λ m lt. rw (is, lt-ltb m (length past) lt) (omega arith);
      passed = λ m le. none_behind (e ∷ past) enclave m (omega arith);
    }
    by_cases false is None h = λ m. rw is (omega (arith, h m))
    by_cases false is (Some k) h = record {
      below = omega (arith, h.below);
      reached = λ m lt. rw is (omega (arith, h.reached m lt));
      passed = λ m le. rw is (omega (arith, h.passed m le));
    }

-- the older ones are inside since before the last track
pub older_by_places : (first : ℕ) (past : List Entry) (enclave : ℕ)
    → older_at past enclave ≡ number_noting first past enclave (λ m. ltb m (epoch first past enclave))
older_by_places first past enclave = by_track (last_track past enclave) (last_track_is past enclave)
  where
    agree : (o : Option ℕ) → LastTrack past enclave o → (m : ℕ) (t : Stay) → IsNoted first past m t → t.seat.enclave ≡ enclave
        → is_before o t.entered ≡ ltb m (epoch first past enclave)
    agree None h m t n same = sym (le-ltb m _ (omega (arith, rw same at n.counted, h t.entered)))
    agree (Some k) h m t n same = by_place (cases_lt t.entered k)
      where
        by_place : (t.entered < k) ⊎ (k ≤ t.entered) → ltb t.entered k ≡ ltb m (epoch first past enclave)
        by_place (inl lt) = lt-ltb _ _ lt ∙ sym (lt-ltb m _ (omega (arith, rw same at n.counted, h.reached t.entered lt)))
        by_place (inr le) = le-ltb _ _ le ∙ sym (le-ltb m _ (omega (arith, rw same at n.counted, h.passed t.entered le)))

    by_enclave : (o : Option ℕ) → LastTrack past enclave o → (m : ℕ) (t : Stay) → IsNoted first past m t → (is : Bool)
        → (t.seat.enclave == enclave) ≡ is
        → (is && is_before o t.entered) ≡ (is && ltb m (epoch first past enclave))
    by_enclave o h m t n false e = refl
    by_enclave o h m t n true e = agree o h m t n (eqb-true _ _ e)

    by_stay : (o : Option ℕ) → LastTrack past enclave o → (m : ℕ) (s : Option Stay) → IfSome s (IsNoted first past m)
        → is_in_before enclave o s ≡ notes enclave (λ i. ltb i (epoch first past enclave)) m s
    by_stay o h m None n = refl
    by_stay o h m (Some t) n = by_enclave o h m t n (t.seat.enclave == enclave) refl

    by_track : (o : Option ℕ) → LastTrack past enclave o
        → count_below (λ p. is_in_before enclave o (stay past p)) 16 ≡ number_noting first past enclave
        (λ m. ltb m (epoch first past enclave))
    by_track o h = count_below-agrees _ _ (λ p. by_stay o h (noted first past p) (stay past p) (all_noted first past p)) 16

-- as many keep a blocked page back as epochs say
pub kept_back_count : (first : ℕ) (past : List Entry) (n enclave j b : ℕ) → IsBlockedAt first past n enclave j b
    → number_kept_back past enclave j ≡ number_up_to first past enclave b
kept_back_count first past n enclave j b at =
    count_below-agrees _ _
    (λ p. keeps_back-noted first past n enclave j b at (track_behind past enclave j) (first_track past enclave j) _ (stay past p)
    (all_noted first past p))
    16

pub kept_back_is : (first : ℕ) (past : List Entry) (n : ℕ) → kept_back past n ≡ kept_back_by_epochs first past n
kept_back_is first past n = by_enclave (enclave_in (content past n)) refl
  where
    by_block : (enclave : ℕ) (j b : Option ℕ) → BlockedAt first past n enclave j b
        → kept_back_from past (Some enclave) j ≡ up_to_block first past (Some enclave) b
    by_block enclave None None at = refl
    by_block enclave None (Some b) at = absurd at
    by_block enclave (Some j) None at = absurd at
    by_block enclave (Some j) (Some b) at = kept_back_count first past n enclave j b at

    by_enclave : (c : Option ℕ) → enclave_in (content past n) ≡ c
        → kept_back_from past c (block_place past n) ≡ up_to_block first past c (block_epoch first past n)
    by_enclave None h = refl
    by_enclave (Some enclave) h = by_block enclave (block_place past n) (block_epoch first past n) (blocked_at first past n enclave h)

-- .. and the page is drained exactly where they say so
pub drained_is : (first : ℕ) (past : List Entry) (n : ℕ) → is_drained past n ≡ is_drained_by_epochs first past n
drained_is first past n = by_enclave (enclave_in (content past n)) refl
  where
    by_block : (enclave : ℕ) (j b : Option ℕ) → BlockedAt first past n enclave j b
        → is_drained_from past (Some enclave) j ≡ passed_block first past (Some enclave) b
    by_block enclave None None at = refl
    by_block enclave None (Some b) at = absurd at
    by_block enclave (Some j) None at = absurd at
    by_block enclave (Some j) (Some b) at =
        rw (tracked_since first past n enclave j b at _ (first_track past enclave j), kept_back_count first past n enclave j b at)

    by_enclave : (c : Option ℕ) → enclave_in (content past n) ≡ c
        → is_drained_from past c (block_place past n) ≡ passed_block first past c (block_epoch first past n)
    by_enclave None h = refl
    by_enclave (Some enclave) h = by_block enclave (block_place past n) (block_epoch first past n) (blocked_at first past n enclave h)

-- who entered before the first track behind a block
pub entered_is : (first : ℕ) (past : List Entry) (n enclave b k p : ℕ) (s : Stay) → IsTrackedBlock first past n enclave b k
    → stay past p ≡ Some s → s.seat.enclave ≡ enclave
    → ltb s.entered k ≡ leb (noted first past p) b
entered_is first past n enclave b k p s at is same =
    let blocked : IsBlockedAt first past n enclave at.place b = rw (at.blocked, at.epoch) at (blocked_at first past n enclave at.page) in
    let first_one : IsFirstTrack past enclave at.place k = rw at.tracked at (first_track past enclave at.place) in
    let noted_one : IsNoted first past (noted first past p) s = rw is at (all_noted first past p) in
    by_place blocked first_one noted_one (ltb s.entered k) refl
  where
    by_place : IsBlockedAt first past n enclave at.place b → IsFirstTrack past enclave at.place k
        → IsNoted first past (noted first past p) s
        → (before : Bool) → ltb s.entered k ≡ before → before ≡ leb (noted first past p) b
    by_place blocked f h true e =
        sym (le-leb _ b (omega (arith, blocked.counted, rw same at h.counted, f.reached s.entered (ltb-true _ _ e))))
    by_place blocked f h false e =
        sym (lt-leb _ b (omega (arith, blocked.counted, rw same at h.counted, f.missed s.entered (ltb-false _ _ e))))

pub epochs_tell : (first : ℕ) (past : List Entry) → EpochsTellPlaces first past
epochs_tell first past = record {
  entered = entered_is first past;
  kept_back = kept_back_is first past;
  drained = drained_is first past;
  older = older_by_places first past;
}
