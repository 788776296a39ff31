-- Tracks, blocks and stays, one entry longer.
use Rattle.std.proofs.Common.{◌≡◌, ℕ, ◌+◌, ◌<◌, ◌≤◌, ◌==◌, ◌&&◌, ◌||◌, not, Bool, true, false}
use Rattle.std.proofs.Common.{if◌then◌else◌, refl, sym, ◌∙◌, ap, List, [], ◌∷◌, Option, Some, None}
use Rattle.std.proofs.Common.{length, nat_lt, is_some, arith}
use Rattle.std.proofs.lemmas.Bool.{eqb-true, eq-eqb, false≢true, and_right}
use Rattle.sgx_types.proofs.Pages.{same_pages}
use Rattle.sgx_types.proofs.Truths.{both_true}
use Rattle.sgx_rules.specs.declared.entries.Action.TheVariants.{Add, Block, Create, Eld, EldStart, Epa, Ewb}
use Rattle.sgx_rules.specs.declared.entries.Answer.TheVariants.{Moved}
use Rattle.sgx_rules.specs.declared.entries.Entry.{Entry}
use Rattle.sgx_rules.specs.declared.entries.Event.{Event}
use Rattle.sgx_rules.specs.declared.entries.Event.TheVariants.{Age, Did, Refused}
use Rattle.sgx_rules.specs.declared.entries.Look.{Look}
use Rattle.sgx_types.specs.declared.names.Page.{Page}
use Rattle.sgx_types.specs.declared.names.VaSlot.{VaSlot}
use Rattle.sgx_rules.specs.Epochs.{is_before, is_in_before, is_track, last_track}
use Rattle.sgx_rules.specs.Eviction.{block_place, is_drained, is_drained_from, keeps_back, number_kept_back, track_behind}
use Rattle.sgx_types.specs.Counts.{earlier_or}
use Rattle.sgx_rules.specs.Frames.{Content, content, Free, Holds, is_block, is_blocked, is_page, is_put, IsLoading, IsVa, made_before}
use Rattle.sgx_rules.specs.Frames.{put_by, SecsOf, stands}
use Rattle.sgx_types.specs.Pages.{is_own_page, same_page, secs_page, va_page}
use Rattle.sgx_rules.specs.Processors.{Enters, is_by, Keeps, Leaves, Move, move_by, Stay, stay, stay_after}
use Rattle.sgx_rules.proofs.Contents.{page_enclave}
use Rattle.sgx_types.proofs.CountLaws.{count_below-none, count_below-zero}
use Rattle.driver_laws.specs.inner.Kinds.{CanMove}
use Rattle.driver_rules.specs.Places.{Absent, after_look, Away, back_from, Leaving, Loading, Place, place}
use Rattle.driver_rules.proofs.ReclaimLaws.{other_secs}
use Rattle.driver_laws.specs.inner.Sound.{IsSound, stands_in}
use Rattle.driver_laws.specs.inner.Tracks.{IsCalm, IsTracked, IsWaiting, moves_from}
use Rattle.driver_laws.proofs.SoundLaws.{entry_of}
use Rattle.driver_laws.proofs.PlaceLaws.{of_same}
use Rattle.driver_laws.proofs.StillLaws.{free_apart, load_apart}
use Rattle.sgx_rules.specs.declared.entries.Look.TheVariants as looks

-- ---- places of tracks and blocks

-- the last track stands before the end
pub last_low : (past : List Entry) (n k : ℕ) → last_track past n ≡ Some k → k < length past
last_low [] n k h = cc
last_low (e ∷ past) n k h = by_track (is_track e.event n) h (last_low past n k)
  where
    by_track : (b : Bool) → (if b then Some (length past) else last_track past n) ≡ Some k → (last_track past n ≡ Some k → k < length past)
        → k < length (e ∷ past)
    by_track true is before = let same : length past ≡ k = cc in omega (arith, same)
    by_track false is before = let low = before is in omega (arith, low)

-- a first track behind a place is not behind the last one
pub first_last : (past : List Entry) (n from k : ℕ) → track_behind past n from ≡ Some k → (l : ℕ) × (last_track past n ≡ Some l) × (k ≤ l)
first_last [] n from k h = cc
first_last (e ∷ past) n from k h = by_earlier (track_behind past n from) refl (is_track e.event n) h (first_last past n from k)
  where
    later : (b : Bool) (l : ℕ) → last_track past n ≡ Some l → k ≤ l
        → (m : ℕ) × ((if b then Some (length past) else last_track past n) ≡ Some m) × (k ≤ m)
    later true l is low = let under = last_low past n l is in (length past, refl, omega (arith, low, under))
    later false l is low = (l, is, low)

    at_end : (b c : Bool) → (if b && c then Some (length past) else None) ≡ Some k
        → (m : ℕ) × ((if b then Some (length past) else last_track past n) ≡ Some m) × (k ≤ m)
    at_end true true is = let same : length past ≡ k = cc in (length past, refl, omega (arith, same))
    at_end true false is = cc
    at_end false c is = cc

    by_earlier : (o : Option ℕ) → track_behind past n from ≡ o → (b : Bool)
        → earlier_or o (b && nat_lt from (length past)) (length past) ≡ Some k
        → (track_behind past n from ≡ Some k → (l : ℕ) × (last_track past n ≡ Some l) × (k ≤ l))
        → (m : ℕ) × ((if b then Some (length past) else last_track past n) ≡ Some m) × (k ≤ m)
    by_earlier (Some j) is b got more = let before = more (is ∙ got) in later b before.0 before.1 before.2
    by_earlier None is b got more = at_end b (nat_lt from (length past)) got

-- a block stands before the end
pub block_low : (past : List Entry) (f b : ℕ) → block_place past f ≡ Some b → b < length past
block_low [] f b h = cc
block_low (e ∷ past) f b h = by_cases (is_block e.event f) (is_put (put_by e.event (made_before past)) f) h (block_low past f b)
  where
    by_cases : (x y : Bool) → (if x then Some (length past) else if y then None else block_place past f) ≡ Some b
        → (block_place past f ≡ Some b → b < length past) → b < length (e ∷ past)
    by_cases true y is before = let same : length past ≡ b = cc in omega (arith, same)
    by_cases false true is before = cc
    by_cases false false is before = let low = before is in omega (arith, low)

-- a frame is blocked where it has a place of a block
pub blocked_place : (past : List Entry) (f : ℕ) → is_blocked past f ≡ is_some (block_place past f)
blocked_place [] f = refl
blocked_place (e ∷ past) f = by_cases (is_block e.event f) (is_put (put_by e.event (made_before past)) f) (blocked_place past f)
  where
    by_cases : (x y : Bool) → is_blocked past f ≡ is_some (block_place past f)
        → (x || (not y && is_blocked past f)) ≡ is_some (if x then Some (length past) else if y then None else block_place past f)
    by_cases true y before = refl
    by_cases false true before = refl
    by_cases false false before = before

-- ---- one entry longer

-- an entry that tracks nothing leaves the tracks
pub last_kept : (past : List Entry) (e : Entry) (n : ℕ) → is_track e.event n ≡ false → last_track (e ∷ past) n ≡ last_track past n
last_kept past e n none = rw none refl

pub behind_kept : (past : List Entry) (e : Entry) (n from : ℕ) → is_track e.event n ≡ false
    → track_behind (e ∷ past) n from ≡ track_behind past n from
behind_kept past e n from none = rw none (by_earlier (track_behind past n from))
  where
    by_earlier : (o : Option ℕ) → earlier_or o false (length past) ≡ o
    by_earlier None = refl
    by_earlier (Some k) = refl

-- .. and nobody who enters did so before the last one
pub calm_kept : (past : List Entry) (e : Entry) (n : ℕ) → is_track e.event n ≡ false → IsCalm past n → IsCalm (e ∷ past) n
calm_kept past e n none calm p low = rw (last_kept past e n none) (by_move (move_by e.event) (is_by p e.actor))
  where
    fresh : (o : Option ℕ) → last_track past n ≡ o → is_before o (length past) ≡ false
    fresh None is = refl
    fresh (Some k) is = let under = last_low past n k is in grind arith

    by_move : (m : Move) (own : Bool) → is_in_before n (last_track past n) (stay_after m own past (stay past p)) ≡ false
    by_move (Enters seat) true =
        and_right (seat.enclave == n) (is_before (last_track past n) (length past)) (fresh (last_track past n) refl)
    by_move (Enters seat) false = calm p low
    by_move Leaves true = refl
    by_move Leaves false = calm p low
    by_move Keeps own = calm p low

-- ---- a page that waits

-- its frame holds it
pub waiting_holds : (past : List Entry) (g : Page) (f b : ℕ) → IsSound past → IsWaiting past g f b → stands (content past f) g ≡ true
waiting_holds past g f b s w = s.places.frames g f ∙ ap (λ p. stands_in p f) w.leaving ∙ eq-eqb f f refl

-- .. as a TCS or REG page
pub own_holds : (c : Content) (g : Page) → stands c g ≡ true → is_own_page g ≡ true → is_page c g ≡ true
own_holds (Holds page kind perm) g h own = h
own_holds Free g h own = absurd (false≢true h)
own_holds (IsLoading page) g h own = absurd (false≢true h)
own_holds (IsVa n) g h own = absurd (false≢true (ap is_own_page (same_pages (va_page n) g h) ∙ own))
own_holds (SecsOf e) g h own =
    absurd (false≢true (sym (other_secs e) ∙ ap is_own_page (same_pages (secs_page e) g h) ∙ own))

-- a page elsewhere is another page
place_apart : (past : List Entry) (page g : Page) (p : Place) (f : ℕ) → place past page ≡ p → place past g ≡ Leaving f → (p ≡ Leaving f → ⊥)
    → same_page page g ≡ false
place_apart past page g p f at leaving apart = by_test (same_page page g) refl
  where
    by_test : (b : Bool) → same_page page g ≡ b → same_page page g ≡ false
    by_test true is = absurd (apart (sym (of_same (place past) p page g at is) ∙ leaving))
    by_test false is = is

-- a page that is leaving stays so as long as it has not gone out
pub waiting_kept : (past : List Entry) (e : Entry) (g : Page) (f b : ℕ) → IsSound past → CanMove past e.event → moves_from e.event f ≡ false
    → IsWaiting past g f b → IsWaiting (e ∷ past) g f b
waiting_kept past e g f b s can stays w = by_event e.event can stays
  where
    holds : stands (content past f) g ≡ true
    holds = waiting_holds past g f b s w

    absent : Absent ≡ Leaving f → ⊥
    absent h = cc

    away : (slot : VaSlot) → Away slot ≡ Leaving f → ⊥
    away slot h = cc

    loads : (n : ℕ) (slot : VaSlot) → Loading n slot ≡ Leaving f → ⊥
    loads n slot h = cc

    apart : (n : ℕ) → (n == f) ≡ false → n ≡ f → ⊥
    apart n other same = false≢true (sym other ∙ eq-eqb n f same)

    frame : {n : ℕ} → Leaving n ≡ Leaving f → n ≡ f
    frame h = cc

    looked : (look : Look) (p : Place) → p ≡ Leaving f → after_look look p ≡ Leaving f
    looked looks.Taken p h = ap (λ q. after_look looks.Taken q) h
    looked looks.Young p h = h
    looked looks.Held p h = h
    looked looks.NoRoom p h = h

    either : (x : Bool) (p : Place) → p ≡ Leaving f → place past g ≡ Leaving f → (if x then p else place past g) ≡ Leaving f
    either true p h k = h
    either false p h k = k

    by_event : (ev : Event) → CanMove past ev → moves_from ev f ≡ false → IsWaiting (entry_of e.actor ev ∷ past) g f b
    by_event (Did (Epa n) answer) k m =
        record {
          leaving = rw (place_apart past _ g Absent f k.1 w.leaving absent) w.leaving;
          blocked = rw (free_apart past g f n.0 holds k.0) w.blocked;
          own = w.own;
        }
    by_event (Did (Create enclave n base size) answer) k m =
        record {
          leaving = rw (place_apart past _ g Absent f k.1 w.leaving absent) w.leaving;
          blocked = rw (free_apart past g f n.0 holds k.0) w.blocked;
          own = w.own;
        }
    by_event (Did (Add enclave number n kind perm init) answer) k m =
        record {
          leaving = rw (place_apart past _ g Absent f k.1 w.leaving absent) w.leaving;
          blocked = rw
              (free_apart past g f n.0 holds k.0) w.blocked;
          own = w.own;
        }
    by_event (Did (EldStart n page slot) answer) k m =
        record {
          leaving = rw (place_apart past page g (Away k.1) f k.2 w.leaving (away k.1)) w.leaving;
          blocked = rw
              (free_apart past g f n.0 holds k.0) w.blocked;
          own = w.own;
        }
    by_event (Did (Eld n) (Moved page version tag)) k m =
        record {
          leaving = rw (place_apart past page g (Loading n.0 k.0) f k.1 w.leaving (loads n.0 k.0)) w.leaving;
          blocked = rw
              (load_apart past g page f n.0 k.0 s holds k.1) w.blocked;
          own = w.own;
        }
    by_event (Refused (Eld n) refusal) k m =
        record {
          leaving = ap (back_from n.0) w.leaving;
          blocked = rw (load_apart past g k.0 f n.0 k.1 s holds k.2) w.blocked;
          own = w.own;
        }
    by_event (Age page look) k m =
        record {
          leaving = either (same_page page g) (after_look look (place past g))
              (looked look (place past g) w.leaving) w.leaving;
          blocked = w.blocked;
          own = w.own;
        }
    by_event (Did (Ewb n) (Moved page version tag)) k m =
        record {
          leaving = rw (place_apart past page g (Leaving n.0) f k.0 w.leaving (λ h. apart n.0 m (frame h))) w.leaving;
          blocked = rw m w.blocked;
          own = w.own;
        }
    by_event (Did (Ewb n) answer) k m = absurd k
    by_event (Did (Block n) answer) k m = record { leaving = w.leaving; blocked = rw m w.blocked; own = w.own }
    by_event (Did (Eld n) answer) k m = absurd k
    by_event _ k m = record { leaving = w.leaving; blocked = w.blocked; own = w.own }

-- ---- drained

-- what is asked of the frame of a waiting page
pub drained_waiting : (past : List Entry) (g : Page) (f b : ℕ) → IsSound past → IsWaiting past g f b
    → is_drained past f ≡ (is_some (track_behind past g.enclave b) && (number_kept_back past g.enclave b == 0))
drained_waiting past g f b s w =
    ap (λ e. is_drained_from past e (block_place past f))
    (page_enclave (content past f) g (own_holds (content past f) g (waiting_holds past g f b s w) w.own))
    ∙ ap (is_drained_from past (Some g.enclave)) w.blocked

-- inside since before a place
keeps_before : (n k : ℕ) (o : Option Stay) → keeps_back n (Some k) o ≡ is_in_before n (Some k) o
keeps_before n k None = refl
keeps_before n k (Some s) = refl

-- a page that is not drained though nobody is inside since before the last track: there is no track since its block
pub none_since : (past : List Entry) (g : Page) (f b : ℕ) → IsSound past → IsCalm past g.enclave → IsWaiting past g f b
    → is_drained past f ≡ false → track_behind past g.enclave b ≡ None
none_since past g f b s calm w not_drained = by_track (track_behind past g.enclave b) refl
  where
    gone : (n k l : ℕ) (o : Option Stay) → k ≤ l → is_in_before n (Some l) o ≡ false → is_in_before n (Some k) o ≡ false
    gone n k l None low h = refl
    gone n k l (Some t) low h = by_enclave (t.seat.enclave == n) h
      where
        by_enclave : (x : Bool) → (x && nat_lt t.entered l) ≡ false → (x && nat_lt t.entered k) ≡ false
        by_enclave true i = grind arith
        by_enclave false i = refl

    by_track : (o : Option ℕ) → track_behind past g.enclave b ≡ o → track_behind past g.enclave b ≡ None
    by_track None is = is
    by_track (Some k) is =
        let later = first_last past g.enclave b k is in
        let none : number_kept_back past g.enclave b ≡ 0 =
        count_below-zero (λ p. keeps_back g.enclave (track_behind past g.enclave b) (stay past p)) 16
        (λ p low. ap (λ t. keeps_back g.enclave t (stay past p)) is ∙ keeps_before g.enclave k (stay past p)
        ∙ gone g.enclave k later.0 (stay past p) later.2 (sym (ap (λ t. is_in_before g.enclave t (stay past p)) later.1) ∙ calm p low)) in
        absurd (false≢true (sym not_drained ∙ drained_waiting past g f b s w ∙ rw (none, is) refl))

-- where the one track since its block drained a page, nobody is inside since before it
pub calm_drained : (past : List Entry) (g : Page) (t : IsTracked past g) → IsSound past → is_drained past t.frame ≡ true
    → IsCalm past g.enclave
calm_drained past g t s drained p low =
    let asked = both_true (is_some (track_behind past g.enclave t.block)) (number_kept_back past g.enclave t.block == 0)
    (sym (drained_waiting past g t.frame t.block s t.waiting) ∙ drained) in
    let none = count_below-none (λ q. keeps_back g.enclave (track_behind past g.enclave t.block) (stay past q)) 16
    (eqb-true (number_kept_back past g.enclave t.block) 0 asked.1) p low in
    ap (λ k. is_in_before g.enclave k (stay past p)) t.last ∙ sym (keeps_before g.enclave t.track (stay past p)) ∙ sym
    (ap (λ k. keeps_back g.enclave k (stay past p)) t.first) ∙ none
