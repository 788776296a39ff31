-- What an entry that can be taken in asks of the seat, and what the notes tell behind it.
use Rattle.std.proofs.Common.{◌≡◌, ◌==◌, ◌≤◌, ◌<◌, ◌-◌, ◌⊎◌, inl, inr, ℕ, Bool, true, false}
use Rattle.std.proofs.Common.{if◌then◌else◌, set, get_or, List, [], ◌∷◌, ◌++◌, length, refl, sym, ap, ◌∙◌, subst}
use Rattle.std.proofs.Common.{Option, Some, None, IfSome, is_some, arith}
use Rattle.std.proofs.lemmas.Bool.{false≢true}
use Rattle.sgx_rules.specs.declared.entries.Action.{Action}
use Rattle.sgx_rules.specs.declared.entries.Action.TheVariants as actions
use Rattle.sgx_types.specs.declared.names.Actor.{Actor}
use Rattle.sgx_types.specs.declared.names.Actor.TheVariants as actors
use Rattle.sgx_rules.specs.declared.entries.Answer.{Answer}
use Rattle.sgx_rules.specs.declared.entries.Cause.{Cause}
use Rattle.sgx_rules.specs.declared.entries.Entry.{Entry}
use Rattle.sgx_rules.specs.declared.entries.Event.{Event}
use Rattle.sgx_rules.specs.declared.entries.Event.TheVariants.{Age, Bus, Did, Kick, Refused}
use Rattle.sgx_types.specs.declared.names.Cpu.{Cpu}
use Rattle.sgx_types.specs.declared.names.Frame.{Frame}
use Rattle.sgx_rules.specs.inner.Enclaves.{created, created_by}
use Rattle.sgx_rules.specs.Epochs.{is_track}
use Rattle.sgx_rules.specs.inner.Epochs.{noted}
use Rattle.sgx_rules.specs.Flat.{FlatEnclave, as_initialised}
use Rattle.sgx_rules.specs.Rules.{Along}
use Rattle.sgx_rules.specs.Processors.{Enters, Keeps, Leaves, Move, Seat, Stay, is_by, move_by, stay, stay_after}
use Rattle.driver_laws.specs.inner.Tracking.{CanMoveFrom, CanTrack, StayTells, TrackTells, TrackingRule}
use Rattle.epoch_words.specs.inner.Seen.{HasRoom, tracked}
use Rattle.epoch_words.specs.inner.Seen as words
use Rattle.epoch_notes.specs.inner.Notes.{CanNote, IsIn, IsOfCpus, NotesView, TellsEntries, after_enter, after_leave, seen_of}
use Rattle.epoch_notes.proofs.NoteLaws.{IsNear, all_near, is_in, is_noted, limited, may_track, room_now, tells_entered}
use Rattle.epoch_notes.proofs.NoteLaws.{tells_left}
use Rattle.epoch_notes.proofs.NoteLaws.{tells_other, tells_quiet, tells_tracked, track_keeps}

-- ---- enclaves that were created stay so

created_still : (ev : Event) (n : ℕ) (o : Option FlatEnclave) → is_some o ≡ true → is_some (created_by ev n o) ≡ true
created_still (Did (actions.Create enclave f base size) answer) n o h = by_test (n == enclave)
  where
    by_test : (b : Bool) → is_some (if b then Some (record { base = base; size = size; is_init = false }) else o) ≡ true
    by_test true = refl
    by_test false = h
created_still (Did (actions.Init enclave expect) answer) n o h = by_test (n == enclave) o h
  where
    by_test : (b : Bool) (x : Option FlatEnclave) → is_some x ≡ true → is_some (if b then as_initialised x else x) ≡ true
    by_test true (Some x) k = refl
    by_test true None k = k
    by_test false x k = k
created_still _ n o h = h

pub created_more : (es past : List Entry) (n : ℕ) → is_some (created past n) ≡ true → is_some (created (es ++ past) n) ≡ true
created_more [] past n h = h
created_more (e ∷ es) past n h = created_still e.event n (created (es ++ past) n) (created_more es past n h)

-- whose enclave is one of these is so of who is inside
abbrev IsMade : List Entry → Stay → Type 0
IsMade past t = is_some (created past t.seat.enclave) ≡ true

stays_made : (first : ℕ) (past : List Entry) → Along (TrackingRule first) past → (p : ℕ) → IfSome (stay past p) (IsMade past)
stays_made first [] along p = tt
stays_made first (e ∷ past) along p = by_actor e.actor along.0.stay (stays_made first past along.1 p)
  where
    kept : (o : Option Stay) → IfSome o (IsMade past) → IfSome o (IsMade (e ∷ past))
    kept None h = tt
    kept (Some t) h = created_still e.event t.seat.enclave (created past t.seat.enclave) h

    by_others : (mv : Move) → IfSome (stay past p) (IsMade past) → IfSome (stay_after mv false past (stay past p)) (IsMade (e ∷ past))
    by_others (Enters seat) h = kept (stay past p) h
    by_others Leaves h = kept (stay past p) h
    by_others Keeps h = kept (stay past p) h

    by_own : (q : Cpu) (mv : Move) → CanMoveFrom past (stay past q.0) mv → (b : Bool) → IfSome (stay past p) (IsMade past)
        → IfSome (stay_after mv b past (stay past p)) (IsMade (e ∷ past))
    by_own q mv tells false h = by_others mv h
    by_own q (Enters seat) tells true h = created_still e.event seat.enclave (created past seat.enclave) tells.1
    by_own q Leaves tells true h = tt
    by_own q Keeps tells true h = kept (stay past p) h

    by_actor : (a : Actor) → StayTells past a e.event → IfSome (stay past p) (IsMade past)
        → IfSome (stay_after (move_by e.event) (is_by p a) past (stay past p)) (IsMade (e ∷ past))
    by_actor actors.Builder tells h = by_others (move_by e.event) h
    by_actor actors.Reclaimer tells h = by_others (move_by e.event) h
    by_actor (actors.Cpu q) tells h = by_own q (move_by e.event) tells (q.0 == p) h

-- ---- one entry

calm_of : (ev : Event) (mv : Move) → move_by ev ≡ mv → (mv ≡ Keeps → ⊥) → (c : ℕ) → is_track ev c ≡ false
calm_of ev mv is moves c = by_kind (track_keeps ev)
  where
    by_kind : (move_by ev ≡ Keeps) ⊎ ((n : ℕ) → is_track ev n ≡ false) → is_track ev c ≡ false
    by_kind (inl keeps) = absurd (moves (sym is ∙ keeps))
    by_kind (inr calm) = calm c

some_stay : (o : Option Stay) → is_some o ≡ true → (t : Stay) × (o ≡ Some t)
some_stay None h = absurd (false≢true h)
some_stay (Some t) h = (t, refl)

module _ (n : NotesView) (e : Entry) (can : CanNote n (e ∷ [])) where
  past : List Entry
  past = can.past

  first : ℕ
  first = can.first

  module _ (cpu : Cpu) (by : e.actor ≡ actors.Cpu cpu) where
    whole : record { actor = actors.Cpu cpu; event = e.event } ≡ e
    whole = λ i. record { actor = sym by i; event = e.event }

    pub low : cpu.0 < length n.inside
    low = subst (IsOfCpus (length n.inside)) by (can.actors 0 e (omega arith))

    tells_stay : CanMoveFrom can.past (stay can.past cpu.0) (move_by e.event)
    tells_stay = subst (λ a. StayTells can.past a e.event) by can.rule.0.stay

    -- it enters
    module _ (seat : Seat) (moves : move_by e.event ≡ Enters seat) where
      asks : CanMoveFrom can.past (stay can.past cpu.0) (Enters seat)
      asks = subst (CanMoveFrom can.past (stay can.past cpu.0)) moves tells_stay

      pub has_word : (1 ≤ seat.enclave) × (seat.enclave ≤ n.words.words)
      has_word = can.enclaves seat.enclave (created_more (e ∷ []) can.past seat.enclave asks.1)

      differs : Enters seat ≡ Keeps → ⊥
      differs same = cc

      pub room : HasRoom (seen_of n seat.enclave)
      room =
          room_now n can.first can.past can.tells cpu e.event can.few low (calm_of e.event (Enters seat) moves differs) seat moves asks.0
          has_word.0 has_word.1

      pub entered_tells : TellsEntries can.first (e ∷ can.past) (after_enter n cpu.0 seat.enclave)
      entered_tells =
          subst (λ x. TellsEntries can.first (x ∷ can.past) (after_enter n cpu.0 seat.enclave)) whole
          (tells_entered n can.first can.past can.tells cpu e.event can.few low (calm_of e.event (Enters seat) moves differs) seat moves
          asks.0 has_word.0 has_word.1)

    -- it leaves
    module _ (moves : move_by e.event ≡ Leaves) where
      asked : is_some (stay can.past cpu.0) ≡ true
      asked = subst (CanMoveFrom can.past (stay can.past cpu.0)) moves tells_stay

      differs_too : Leaves ≡ Keeps → ⊥
      differs_too same = cc

      at : (t : Stay) × (stay can.past cpu.0 ≡ Some t)
      at = some_stay (stay can.past cpu.0) asked

      below : cpu.0 < 16
      below = let few = can.few in let l = low in omega (arith, few, l)

      near : IsNear can.first can.past (noted can.first can.past cpu.0) at.0
      near = subst (λ o. IfSome o (IsNear can.first can.past (noted can.first can.past cpu.0))) at.1
          (all_near can.first can.past can.rule.1 cpu.0 below)

      has_a_word : (1 ≤ at.0.seat.enclave) × (at.0.seat.enclave ≤ n.words.words)
      has_a_word =
          can.enclaves at.0.seat.enclave
          (created_more (e ∷ []) can.past at.0.seat.enclave
          (subst (λ o. IfSome o (IsMade can.past)) at.1 (stays_made can.first can.past can.rule.1 cpu.0)))

      pub counted : IfSome (get_or n.inside cpu.0 None) (IsIn n)
      counted =
          subst (λ o. IfSome o (IsIn n))
          (sym (is_noted n can.first can.past can.tells cpu e.event can.few low
          (calm_of e.event Leaves moves differs_too) moves at.0 at.1 near
          has_a_word.0 has_a_word.1))
          (is_in n can.first can.past can.tells cpu e.event can.few low (calm_of e.event Leaves moves differs_too) moves at.0 at.1 near
          has_a_word.0 has_a_word.1)

      pub left_tells : TellsEntries can.first (e ∷ can.past) (after_leave n cpu.0)
      left_tells =
          subst (λ x. TellsEntries can.first (x ∷ can.past) (after_leave n cpu.0)) whole
          (tells_left n can.first can.past can.tells cpu e.event can.few low (calm_of e.event Leaves moves differs_too) moves at.0 at.1 near
          has_a_word.0 has_a_word.1)

  -- an epoch begins
  module _ (enclave : ℕ) (answer : Answer) (is : e.event ≡ Did (actions.Track enclave) answer) where
    can_begin : CanTrack can.first can.past enclave
    can_begin = subst (TrackTells can.first can.past) is can.rule.0.track

    pub word_there : (1 ≤ enclave) × (enclave ≤ n.words.words)
    word_there = can.enclaves enclave (created_more (e ∷ []) can.past enclave can_begin.made)

    pub may_begin : words.CanTrack (seen_of n enclave)
    may_begin =
        may_track n can.first can.past can.tells e.actor enclave answer word_there.0 word_there.1 can_begin
        (limited can.first can.past can.rule.1 can.begun enclave)

    pub tracked_tells : TellsEntries can.first (e ∷ can.past) (record n { seen = set n.seen (enclave - 1) (tracked (seen_of n enclave)) })
    tracked_tells =
        subst (λ x. TellsEntries can.first (x ∷ can.past) (record n { seen = set n.seen (enclave - 1) (tracked (seen_of n enclave)) }))
        (λ i. record { actor = e.actor; event = sym is i })
        (tells_tracked n can.first can.past can.tells e.actor enclave answer word_there.0 word_there.1 can_begin)

  -- nothing changes
  pub quiet_tells : move_by e.event ≡ Keeps → ((c : ℕ) → is_track e.event c ≡ false) → TellsEntries can.first (e ∷ can.past) n
  quiet_tells keeps calm = tells_quiet n can.first can.past can.tells e keeps calm

  -- an entry of the builder or of the reclaimer that begins no epoch
  pub other_tells : ((cpu : Cpu) → e.actor ≡ actors.Cpu cpu → ⊥) → ((c : ℕ) → is_track e.event c ≡ false)
      → TellsEntries can.first (e ∷ can.past) n
  other_tells other calm = by_actor e.actor refl
    where
      by_actor : (a : Actor) → e.actor ≡ a → TellsEntries can.first (e ∷ can.past) n
      by_actor (actors.Cpu cpu) is = absurd (other cpu is)
      by_actor actors.Builder is =
          subst (λ x. TellsEntries can.first (x ∷ can.past) n) (λ i. record { actor = sym is i; event = e.event })
          (tells_other n can.first can.past can.tells actors.Builder e.event tt calm)
      by_actor actors.Reclaimer is =
          subst (λ x. TellsEntries can.first (x ∷ can.past) n) (λ i. record { actor = sym is i; event = e.event })
          (tells_other n can.first can.past can.tells actors.Reclaimer e.event tt calm)

-- ---- what events do

-- what enters an enclave
pub enters_by : (ev : Event) (action : Action) (answer : Answer) (enclave : ℕ) → ev ≡ Did action answer
    → ((tcs : ℕ) × (tf : Frame) × (sf : Frame) × (action ≡ actions.Enter enclave tcs tf sf))
    ⊎ ((tcs : ℕ) × (tf : Frame) × (sf : Frame) × (action ≡ actions.Resume enclave tcs tf sf))
    → (seat : Seat) × (move_by ev ≡ Enters seat) × (seat.enclave ≡ enclave)
enters_by ev action answer enclave is (inl (tcs, tf, sf, by)) =
    (record { enclave = enclave; tcs = tcs; tcs_frame = tf.0; ssa_frame = sf.0 }, ap move_by (is ∙ ap (λ a. Did a answer) by), refl)
enters_by ev action answer enclave is (inr (tcs, tf, sf, by)) =
    (record { enclave = enclave; tcs = tcs; tcs_frame = tf.0; ssa_frame = sf.0 }, ap move_by (is ∙ ap (λ a. Did a answer) by), refl)

-- .. and what leaves one
pub leaves_by : (ev : Event) (action : Action) (answer : Answer) → ev ≡ Did action answer
    → (action ≡ actions.Exit) ⊎ ((cause : Cause) × (action ≡ actions.Aex cause)) → move_by ev ≡ Leaves
leaves_by ev action answer is (inl by) = ap move_by (is ∙ ap (λ a. Did a answer) by)
leaves_by ev action answer is (inr (cause, by)) = ap move_by (is ∙ ap (λ a. Did a answer) by)

-- what does neither, and begins no epoch
pub record IsQuiet (ev : Event) : Type 0 where
  pub keeps : move_by ev ≡ Keeps
  pub calm : (c : ℕ) → is_track ev c ≡ false

pub no_instruction : (ev : Event) → ((action : Action) (answer : Answer) → ev ≡ Did action answer → ⊥) → IsQuiet ev
no_instruction (Did action answer) none = absurd (none action answer refl)
no_instruction (Refused action why) none = record { keeps = refl; calm = λ c. refl }
no_instruction (Age page look) none = record { keeps = refl; calm = λ c. refl }
no_instruction (Kick cpu) none = record { keeps = refl; calm = λ c. refl }
no_instruction (Bus page why) none = record { keeps = refl; calm = λ c. refl }

pub other_action : (action : Action) (answer : Answer)
    → ((enclave tcs : ℕ) (tf sf : Frame) → action ≡ actions.Enter enclave tcs tf sf → ⊥)
    → ((enclave tcs : ℕ) (tf sf : Frame) → action ≡ actions.Resume enclave tcs tf sf → ⊥) → (action ≡ actions.Exit → ⊥)
    → ((cause : Cause) → action ≡ actions.Aex cause → ⊥) → ((enclave : ℕ) → action ≡ actions.Track enclave → ⊥)
    → IsQuiet (Did action answer)
other_action (actions.Enter enclave tcs tf sf) answer enters resumes exits aex tracks = absurd (enters enclave tcs tf sf refl)
other_action (actions.Resume enclave tcs tf sf) answer enters resumes exits aex tracks = absurd (resumes enclave tcs tf sf refl)
other_action actions.Exit answer enters resumes exits aex tracks = absurd (exits refl)
other_action (actions.Aex cause) answer enters resumes exits aex tracks = absurd (aex cause refl)
other_action (actions.Track enclave) answer enters resumes exits aex tracks = absurd (tracks enclave refl)
other_action _ answer enters resumes exits aex tracks = record { keeps = refl; calm = λ c. refl }

-- who moves begins no epoch
pub moves_calm : (ev : Event) (mv : Move) → move_by ev ≡ mv → (mv ≡ Keeps → ⊥) → (c : ℕ) → is_track ev c ≡ false
moves_calm = calm_of
