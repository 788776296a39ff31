-- What the tries of a page give of epochs and of the machine's answers.
use Rattle.std.proofs.Common.{◌≡◌, ℕ, ◌+◌, ◌<◌, ◌≤◌, ◌==◌, ◌&&◌, ◌||◌, not, Bool, true, false}
use Rattle.std.proofs.Common.{if◌then◌else◌, zero, suc, refl, sym, ◌∙◌, ap, subst, List, [], ◌∷◌, ◌++◌, Option, Some}
use Rattle.std.proofs.Common.{None, length, nat_lt, arith}
use Rattle.std.proofs.lemmas.Bool.{eqb-true, false≢true, not-false}
use Rattle.sgx_types.specs.Making.{Making}
use Rattle.sgx_rules.specs.Rules.{RefusalRule}
use Rattle.sgx_rules.proofs.Keystone.{blocked_at, BlockedAt, first_track, FirstTrack, tracks_behind}
use Rattle.sgx_rules.specs.declared.entries.Action.TheVariants.{EwbStart}
use Rattle.sgx_rules.specs.declared.entries.Entry.{Entry}
use Rattle.sgx_rules.specs.declared.entries.Event.{Event}
use Rattle.sgx_rules.specs.declared.entries.Event.TheVariants.{Did, Refused}
use Rattle.sgx_types.specs.declared.names.Page.{Page}
use Rattle.sgx_rules.specs.declared.refusals.Refusal.{Refusal}
use Rattle.sgx_rules.specs.inner.Epochs.{block_epoch}
use Rattle.sgx_rules.specs.Epochs.{epoch, is_in_before, is_track, last_track, older_at}
use Rattle.sgx_rules.specs.Eviction.{is_drained, keeps_back, number_kept_back, track_behind}
use Rattle.sgx_types.specs.Counts.{earlier_or}
use Rattle.sgx_rules.specs.Frames.{Content, content, Free, Holds, is_free, IsLoading, IsVa, SecsOf}
use Rattle.sgx_rules.specs.Processors.{stay}
use Rattle.sgx_rules.specs.Sights.{drain_sight_at, sight_at, slot_sight_at, use_sight_at}
use Rattle.sgx_types.specs.Cases.{first_of_row}
use Rattle.sgx_rules.specs.Table.{DrainSight, ewbstart_row, FrameSight, is_busy, is_out_of_range, is_own, is_va}
use Rattle.sgx_rules.specs.Table.{SlotSight, UseSight}
use Rattle.sgx_rules.proofs.Contents.{page_enclave}
use Rattle.sgx_types.proofs.CountLaws.{count_below-zero}
use Rattle.driver_rules.specs.Passes.{keepers, keepers_behind, keepers_from, keepers_in, keeps_from}
use Rattle.driver_rules.specs.Places.{frame_leaving}
use Rattle.driver_rules.proofs.ReclaimLaws.{other_secs}
use Rattle.driver_laws.specs.inner.Sound.{IsSound}
use Rattle.driver_laws.specs.inner.Tracks.{IsCalm, IsTracked, IsUntracked, IsWaiting, TryTells}
use Rattle.driver_laws.proofs.TrackLaws.{drained_waiting, first_last, last_low, own_holds, waiting_holds}
use Rattle.driver_laws.specs.inner.Counted.{is_own_there}
use Rattle.sgx_rules.specs.declared.refusals.Refusal.TheVariants as why

-- ---- the block's epoch

blocked_then : (first : ℕ) (past : List Entry) (n e j t : ℕ) (o : Option ℕ) → BlockedAt first past n e (Some j) o
    → tracks_behind past e j ≡ t → (b : ℕ) × (o ≡ Some b) × (b + t ≡ epoch first past e)
blocked_then first past n e j t None h k = absurd h
blocked_then first past n e j t (Some b) h k = (b, refl, ap (λ x. b + x) (sym k) ∙ h.counted)

-- the epoch of the block of a waiting page, by the tracks behind it
block_then : (first : ℕ) (past : List Entry) (g : Page) (f j t : ℕ) → IsSound past → IsWaiting past g f j
    → tracks_behind past g.enclave j ≡ t → (b : ℕ) × (block_epoch first past f ≡ Some b) × (b + t ≡ epoch first past g.enclave)
block_then first past g f j t s w k =
    let at = blocked_at first past f g.enclave
    (page_enclave (content past f) g (own_holds (content past f) g (waiting_holds past g f j s w) w.own)) in
    blocked_then first past f g.enclave j t (block_epoch first past f)
    (subst (λ o. BlockedAt first past f g.enclave o (block_epoch first past f)) w.blocked at) k

-- with no track since the block it is the enclave's epoch, which the first refusal tells
pub block_epoch_now : (first : ℕ) (past : List Entry) (g : Page) (u : IsUntracked past g) → IsSound past
    → block_epoch first past u.frame ≡ Some (epoch first past g.enclave)
block_epoch_now first past g u s =
    let behind : tracks_behind past g.enclave u.block ≡ 0 =
    subst (λ o. FirstTrack past g.enclave u.block o) u.none (first_track past g.enclave u.block) in
    let b = block_then first past g u.frame u.block 0 s u.waiting behind in
    b.1 ∙ ap Some (omega (arith, b.2))

-- one track stands behind a place where the first is the last
one_behind : (past : List Entry) (e j k : ℕ) → track_behind past e j ≡ Some k → last_track past e ≡ Some k → tracks_behind past e j ≡ 1
one_behind [] e j k h l = cc
one_behind (x ∷ past) e j k h l =
    by_cases (is_track x.event e) (track_behind past e j) refl (nat_lt j (length past)) h l (one_behind past e j k) (first_track past e j)
    (first_last past e j k)
  where
    at_end : (c : Bool) → (if c then Some (length past) else None) ≡ Some k → tracks_behind past e j ≡ 0
        → (if c then 1 else 0) + tracks_behind past e j ≡ 1
    at_end true h zero_behind = omega (arith, zero_behind)
    at_end false h zero_behind = cc

    by_cases : (b : Bool) (o : Option ℕ) → track_behind past e j ≡ o → (c : Bool) → earlier_or o (b && c) (length past) ≡ Some k
        → (if b then Some (length past) else last_track past e) ≡ Some k
        → (track_behind past e j ≡ Some k → last_track past e ≡ Some k → tracks_behind past e j ≡ 1)
        → FirstTrack past e j (track_behind past e j)
        → (track_behind past e j ≡ Some k → (m : ℕ) × (last_track past e ≡ Some m) × (k ≤ m))
        → (if b && c then 1 else 0) + tracks_behind past e j ≡ 1
    by_cases true (Some i) is c h l before front later =
        let last = later (is ∙ h) in
        let low = last_low past e last.0 last.1 in
        let same : length past ≡ k = cc in
        let end : k ≤ last.0 = last.2 in
        absurd (omega (arith, low, same, end))
    by_cases true None is c h l before front later = at_end c h (subst (λ o. FirstTrack past e j o) is front)
    by_cases false (Some i) is c h l before front later = omega (arith, before (is ∙ h) l)
    by_cases false None is c h l before front later = cc

-- behind the one track it is the epoch before
pub block_epoch_before : (first : ℕ) (past : List Entry) (g : Page) (t : IsTracked past g) → IsSound past
    → (b : ℕ) × (block_epoch first past t.frame ≡ Some b) × (b + 1 ≡ epoch first past g.enclave)
block_epoch_before first past g t s =
    block_then first past g t.frame t.block 1 s t.waiting (one_behind past g.enclave t.block t.track t.first t.last)

-- ---- the track and the third try

-- the track of a page's tries is refused for no older processor
pub none_older : (past : List Entry) (e : ℕ) → IsCalm past e → older_at past e ≡ 0
none_older past e calm = count_below-zero (λ p. is_in_before e (last_track past e) (stay past p)) 16 calm

none_keeps : (past : List Entry) (e from p count : ℕ) → keepers_from past e from p count ≡ [] → (q : ℕ) → p ≤ q → q < p + count
    → keeps_from past e from q ≡ false
none_keeps past e from p zero h q low high = absurd (omega (arith, low, high))
none_keeps past e from p (suc count) h q low high =
    by_test (keeps_from past e from p) refl h (λ k more. none_keeps past e from (p + 1) count k q more (omega (arith, high)))
  where
    by_place : (keeps_from past e from p ≡ false) → (p + 1 ≤ q → keeps_from past e from q ≡ false) → (c : Bool) → (p == q) ≡ c
        → keeps_from past e from q ≡ false
    by_place none later true same = ap (keeps_from past e from) (sym (eqb-true p q same)) ∙ none
    by_place none later false other = later (grind arith)

    by_test : (b : Bool) → keeps_from past e from p ≡ b → (if b then p ∷ [] else []) ++ keepers_from past e from (p + 1) count ≡ []
        → (keepers_from past e from (p + 1) count ≡ [] → p + 1 ≤ q → keeps_from past e from q ≡ false)
        → keeps_from past e from q ≡ false
    by_test true is k later = cc
    by_test false is k later = by_place is (later k) (p == q) refl

-- a tracked page that nobody keeps back is drained, so that its last try is not refused for want of a track
pub drained_then : (past : List Entry) (g : Page) (t : IsTracked past g) → IsSound past → keepers past g ≡ []
    → is_drained past t.frame ≡ true
drained_then past g t s none =
    let all : keepers past g ≡ keepers_from past g.enclave t.block 0 16 =
    ap (λ p. keepers_in past g.enclave (frame_leaving p)) t.waiting.leaving ∙ ap (keepers_behind past g.enclave) t.waiting.blocked in
    let counted : number_kept_back past g.enclave t.block ≡ 0
    =
    count_below-zero (λ p. keeps_back g.enclave (track_behind past g.enclave t.block) (stay past p)) 16
    (λ p low. none_keeps past g.enclave t.block 0 16 (sym all ∙ none) p (omega arith) (omega (arith, low))) in
    drained_waiting past g t.frame t.block s t.waiting ∙ rw (counted, t.first) refl

-- ---- what the row of a try says

skip : (b : Bool) (refusal : Refusal) (rest found : Option Refusal) → (Some refusal ≡ found → ⊥)
    → (if b then Some refusal else rest) ≡ found → (b ≡ false) × (rest ≡ found)
skip true refusal rest found other h = absurd (other h)
skip false refusal rest found other h = (refl, h)

-- what the row asks before the slot's version
abbrev is_early : Refusal → Bool
is_early (why.SlotOccupied version) = false
is_early why.VersionSpent = false
is_early _ = true

-- of two tests the first holds where both do, and the second fails where the first holds and not both
both_first : (a b : Bool) → (a && not b) ≡ true → (a ≡ true) × (b ≡ false)
both_first true true h = absurd (false≢true h)
both_first true false h = (refl, refl)
both_first false b h = absurd (false≢true h)

not_both : (a b : Bool) → (a && not b) ≡ false → a ≡ true → b ≡ true
not_both true true h k = refl
not_both true false h k = absurd (false≢true (sym h))
not_both false b h k = absurd (false≢true k)

not_drained_row : (s : FrameSight) (uses : UseSight) (slot : SlotSight) (d : DrainSight) (spent : Bool) (e o : ℕ)
    → first_of_row (ewbstart_row s uses slot d spent) ≡ Some (why.NotTracked e o)
    → (s.is_blocked ≡ true) × (d.is_drained ≡ false) × (is_own s.content ≡ true)
not_drained_row s uses slot d spent e o h =
    let a = skip (is_out_of_range s slot) why.BadRange _ (Some (why.NotTracked e o)) (λ x. cc) h in
    let b = skip (is_busy s || slot.is_busy || uses.is_in_use) why.Conflict _ (Some (why.NotTracked e o)) (λ x. cc) a.1 in
    let c = skip (is_free s.content) why.PgInvld _ (Some (why.NotTracked e o)) (λ x. cc) b.1 in
    let k = skip (not (is_va slot.frame.content) || uses.is_its_own) why.BadKind _ (Some (why.NotTracked e o)) (λ x. cc) c.1 in
    let m = skip (not (uses.children == 0)) (why.ChildPresent uses.children) _ (Some (why.NotTracked e o)) (λ x. cc) k.1 in
    let l = skip (is_own s.content && not s.is_blocked) why.PageNotBlocked _ (Some (why.NotTracked e o)) (λ x. cc) m.1 in
    let both = both_first (is_own s.content) d.is_drained (by_test (is_own s.content && not d.is_drained) l.1) in
    (not_both (is_own s.content) s.is_blocked l.0 both.0, both.1, both.0)
  where
    by_test : (b : Bool)
        → (if b then Some (why.NotTracked d.epoch d.kept_back) else if not (slot.version == 0) then Some
        (why.SlotOccupied slot.version) else if spent then Some why.VersionSpent else None) ≡ Some (why.NotTracked e o) → b ≡ true
    by_test false k = by_slot (slot.version == 0) k
      where
        by_spent : (x : Bool) → (if x then Some why.VersionSpent else None) ≡ Some (why.NotTracked e o) → false ≡ true
        by_spent true y = cc
        by_spent false y = cc

        by_slot : (x : Bool)
            → (if not x then Some (why.SlotOccupied slot.version) else if spent then Some why.VersionSpent else None) ≡ Some
            (why.NotTracked e o) → false ≡ true
        by_slot true y = by_spent spent y
        by_slot false y = cc
    by_test true k = refl

-- a row that comes so far finds a TCS or REG page drained
drained_row : (s : FrameSight) (uses : UseSight) (slot : SlotSight) (d : DrainSight) (spent : Bool) (found : Option Refusal)
    → ((r : Refusal) → is_early r ≡ true → Some r ≡ found → ⊥) → first_of_row (ewbstart_row s uses slot d spent) ≡ found
    → is_own s.content ≡ true → d.is_drained ≡ true
drained_row s uses slot d spent found late h own =
    let a = skip (is_out_of_range s slot) why.BadRange _ found (late why.BadRange refl) h in
    let b = skip (is_busy s || slot.is_busy || uses.is_in_use) why.Conflict _ found (late why.Conflict refl) a.1 in
    let c = skip (is_free s.content) why.PgInvld _ found (late why.PgInvld refl) b.1 in
    let k = skip (not (is_va slot.frame.content) || uses.is_its_own) why.BadKind _ found (late why.BadKind refl) c.1 in
    let n = skip (not (uses.children == 0)) (why.ChildPresent uses.children) _ found (late (why.ChildPresent uses.children) refl) k.1 in
    let l = skip (is_own s.content && not s.is_blocked) why.PageNotBlocked _ found (late why.PageNotBlocked refl) n.1 in
    let m = skip (is_own s.content && not d.is_drained) (why.NotTracked d.epoch d.kept_back) _ found
    (late (why.NotTracked d.epoch d.kept_back) refl) l.1 in
    not_both (is_own s.content) d.is_drained m.0 own

own_content : (c : Content) → is_own_there c ≡ true → is_own c ≡ true
own_content (Holds page kind perm) h = refl
own_content Free h = absurd (false≢true h)
own_content (IsLoading page) h = absurd (false≢true h)
own_content (IsVa n) h = absurd (false≢true h)
own_content (SecsOf e) h = absurd (false≢true (sym (other_secs e) ∙ h))

-- a try tells what is so where it is answered by its row
pub try_tells : (k : Making) (past : List Entry) (e : Entry) → RefusalRule k past e → TryTells past e.event
try_tells k past e h = by_event e.event h
  where
    none_late : (r : Refusal) → is_early r ≡ true → Some r ≡ None → ⊥
    none_late r early is = cc

    occupied_late : (version : ℕ) (r : Refusal) → is_early r ≡ true → Some r ≡ Some (why.SlotOccupied version) → ⊥
    occupied_late version r early is =
        let same : r ≡ why.SlotOccupied version = cc in absurd (false≢true (sym (ap is_early same) ∙ early))

    by_event : (ev : Event) → RefusalRule k past (record { actor = e.actor; event = ev }) → TryTells past ev
    by_event (Did (EwbStart f slot) answer) m =
        λ own. drained_row (sight_at k.frames past f.0) (use_sight_at k.frames past f.0 slot) (slot_sight_at k.frames past slot)
        (drain_sight_at k.first_epoch past f.0) _ None none_late m.0 (own_content (content past f.0) own)
    by_event (Refused (EwbStart f slot) (why.NotTracked epoch older)) m =
        not_drained_row (sight_at k.frames past f.0) (use_sight_at k.frames past f.0 slot) (slot_sight_at k.frames past slot)
        (drain_sight_at k.first_epoch past f.0) _ epoch older m
    by_event (Refused (EwbStart f slot) (why.SlotOccupied version)) m =
        λ own. drained_row (sight_at k.frames past f.0) (use_sight_at k.frames past f.0 slot) (slot_sight_at k.frames past slot)
        (drain_sight_at k.first_epoch past f.0) _ (Some (why.SlotOccupied version)) (occupied_late version) m
        (own_content (content past f.0) own)
    by_event _ m = tt
