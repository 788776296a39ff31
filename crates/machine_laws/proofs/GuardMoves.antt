-- What blocks, tracks, write-out and reload leave of a guarded state is guarded.
use Rattle.std.proofs.Common.{◌≡◌, ℕ, ◌+◌, ◌<◌, ◌≤◌, ◌==◌, ◌||◌, ◌&&◌, ◌⊎◌, inl, inr, not, Bool}
use Rattle.std.proofs.Common.{true, false, cond, ltb, leb, refl, sym, ap, subst, ◌∙◌, arith, Option, Some, None, IfSome, nat_lt}
use Rattle.std.proofs.Common.{IsSomeAnd, List, is_some}
use Rattle.std.specs.List.{All}
use Rattle.std.proofs.lemmas.Bool.{cond_both, false≢true, eqb-true, eq-eqb, ltb-true, ltb-false, leb-false, cases_lt}
use Rattle.std.proofs.lemmas.Option.{IfSome_then}
use Rattle.sgx_rules.specs.Flat.{enclave_sight_of}
use Rattle.sgx_types.specs.declared.names.Kind.{Kind}
use Rattle.sgx_types.specs.declared.names.Page.{Page}
use Rattle.sgx_types.specs.declared.names.Perm.{Perm}
use Rattle.sgx_types.specs.declared.names.SlotAt.{SlotAt}
use Rattle.sgx_types.specs.declared.names.TheConstants.{SECS_NUMBER}
use Rattle.sgx_rules.specs.Epochs.{epoch_of}
use Rattle.sgx_rules.specs.Frames.{Content, Free, IsVa, SecsOf, Holds, IsLoading, enclave_in, is_child, is_free, reloaded, reloaded_as}
use Rattle.sgx_rules.specs.Processors.{Seat}
use Rattle.sgx_rules.specs.Sights.{children_under}
use Rattle.sgx_types.specs.Pages.{is_own_page, is_va_page}
use Rattle.sgx_types.specs.inner.Places.{same_place}
use Rattle.sgx_rules.specs.Starts.{slot_in}
use Rattle.sgx_rules.specs.inner.Starts.{BareStart}
use Rattle.sgx_rules.specs.Table.{is_loading, is_made, is_out_of_range, is_own, is_va, is_valid, block_row, track_row, ewbstart_row}
use Rattle.sgx_types.specs.Cases.{first_of_row}
use Rattle.sgx_rules.specs.Table.{eldstart_row}
use Rattle.sgx_rules.proofs.Contents.{free_there}
use Rattle.sgx_rules.proofs.Rows.{none_holds}
use Rattle.sgx_types.proofs.Truths.{apart, both_true, neither, not_false}
use Rattle.sgx_types.proofs.CountLaws.{any_below-some, count_below-none}
use Rattle.cached_translations.specs.declared.cache.Translation.{Translation}
use Rattle.machine_copies.specs.inner.Away.{SecsIsIn, array_in}
use Rattle.machine_copies.proofs.SecsLaws.{start_covers}
use Rattle.machine_laws.specs.inner.State.{State, sight, is_noting, number_noting, epoch_in, track_sight, slot_sight, drain_sight}
use Rattle.machine_laws.specs.inner.State.{has_passed, is_busy_at, is_in_use, is_known, load_sight}
use Rattle.machine_laws.specs.inner.State.{place_at, slot_of_found, started, use_sight}
use Rattle.machine_laws.specs.inner.State.{is_version_spent, after_block, after_track, after_ewbstart, after_eldstart, after_ewb}
use Rattle.machine_laws.specs.inner.State.{after_eld, version_at}
use Rattle.machine_laws.specs.inner.State.{after_failed_eld}
use Rattle.machine_laws.specs.inner.Stands.{IsTranslation, IsSeated, IsSound}
use Rattle.machine_laws.specs.inner.Guarded.{FramesKept, IsNamedRight, IsNoEarlier, HasNoted}
use Rattle.machine_laws.specs.inner.Guarded.{IsDrainedAt, IsOpen, WritesOut, Loads, IsGuarded}
use Rattle.machine_laws.specs.inner.Steps.{CanBring}
use Rattle.machine_laws.proofs.TestLaws.{there_at, there_then, equal, each_there}
use Rattle.machine_laws.proofs.SoundLaws.{seat_at}
use Rattle.machine_laws.proofs.GuardCpus.{noted_at, unblocked}
use Rattle.machine_laws.proofs.GuardLaws.{each_frame, free_kept, guarded_beside, guarded_frame, kept_less, kept_out, kept_settled, no_slot}
use Rattle.machine_laws.proofs.GuardLaws.{no_start, open_still, opened_still, secs_is_in, stays_in}
use Rattle.machine_laws.proofs.ApartLaws.{ended_apart, started_apart}

-- ---- block and track

-- two facts of each translation give a third
pub all_both : (P Q R : Translation → Type 0) → ((t : Translation) → P t → Q t → R t) → (xs : List Translation) → All P xs → All Q xs
    → All R xs
all_both P Q R both xs h k i d low = both _ (h i d low) (k i d low)

-- a block is at its enclave's epoch, and no processor inside has noted a later one
pub guarded_block : (s : State) (f : ℕ) → first_of_row (block_row (sight s f)) ≡ None → IsSound s → IsGuarded s
    → IsGuarded (after_block s f)
guarded_block s f allowed sound h = record {
  few = h.few;
  noted = each_there s.inside (λ p. HasNoted s.epoch (after_block s f).blocked (s.noted p) (s.cache p))
      (λ p seat is. noted p seat (seat_at s sound p seat is) (noted_at s h p seat is));
  blocks = λ n. cond_both (f == n) (Some (epoch_in s n)) (s.blocked n) (λ o. IfSome o (λ b. b ≤ epoch_in s n)) (λ _. omega arith)
      (λ _. h.blocks n);
  sealing = λ n is own.
      cond_both (f == n) (Some (epoch_in s n)) (s.blocked n)
      (λ o. IsSomeAnd o (IsDrainedAt s.inside s.noted (enclave_in (s.content n)) (epoch_in s n)))
      (λ e. absurd (false≢true (sym idle ∙ ap s.is_sealing (eqb-true f n e) ∙ is))) (λ _. h.sealing n is own);
  taken = λ g busy. let k = h.taken g busy in record { cpu = k.cpu; by = k.by };
  opened = opened_still s (after_block s f) refl refl refl (λ g is. is) h;
  written = h.written;
  loaded = h.loaded;
  held = h.held;
  apart = h.apart;
  kinds = h.kinds;
  goes_out = h.goes_out;
  kept = h.kept;
}
  where
    idle : s.is_sealing f ≡ false
    idle = (neither (s.is_sealing f) (is_loading (s.content f)) (none_holds (block_row (sight s f)) allowed).1.0).0

    later : (seat : Seat) (m : ℕ) → m ≤ s.epoch seat.enclave → (n : ℕ) → enclave_in (s.content n) ≡ Some seat.enclave
        → IsNoEarlier m (s.blocked n) → IsNoEarlier m ((after_block s f).blocked n)
    later seat m ahead n ours before =
        cond_both (f == n) (Some (epoch_in s n)) (s.blocked n) (IsNoEarlier m) (λ _. rw ours ahead) (λ _. before)

    noted : (p : ℕ) (seat : Seat) → IsSeated s.content s.is_sealing s.words (s.cache p) seat
        → HasNoted s.epoch s.blocked (s.noted p) (s.cache p) seat → HasNoted s.epoch (after_block s f).blocked (s.noted p) (s.cache p) seat
    noted p seat at k = record {
      not_ahead = k.not_ahead;
      not_behind = k.not_behind;
      tcs = later seat (s.noted p) k.not_ahead seat.tcs_frame at.tcs.ours k.tcs;
      ssa = later seat (s.noted p) k.not_ahead seat.ssa_frame at.ssa.ours k.ssa;
      cache =
          all_both (λ t. IsTranslation seat.enclave t (s.content t.frame.0) (s.is_sealing t.frame.0))
          (λ t. IsNoEarlier (s.noted p) (s.blocked t.frame.0)) (λ t. IsNoEarlier (s.noted p) ((after_block s f).blocked t.frame.0))
          (λ t x. later seat (s.noted p) k.not_ahead t.frame.0 (ap enclave_in x.page)) (s.cache p) at.cache k.cache;
    }

-- .. where that is the count of the processors inside an enclave, none of them passes
pub none_inside : (s : State) → IsGuarded s → (enclave : ℕ) (test : ℕ → Bool) → number_noting s enclave test ≡ 0 → (p : ℕ) (seat : Seat)
    → s.inside p ≡ Some seat → seat.enclave ≡ enclave → test (s.noted p) ≡ false
none_inside s h enclave test none p seat is same = by_number (cases_lt p 16)
  where
    in_range : p < 16 → test (s.noted p) ≡ false
    in_range low =
        rw (is, eq-eqb seat.enclave enclave same) at (count_below-none (λ q. is_noting enclave test (s.inside q) (s.noted q)) 16 none p low)

    by_number : (p < 16) ⊎ (16 ≤ p) → test (s.noted p) ≡ false
    by_number (inl low) = in_range low
    by_number (inr high) = absurd (cc (h.few p high, is))

-- a track, as nobody inside is older than the epoch that ends
pub guarded_track : (s : State) (enclave : ℕ) → first_of_row (track_row (track_sight s enclave)) ≡ None → IsGuarded s
    → IsGuarded (after_track s enclave)
guarded_track s enclave allowed h = record {
  few = h.few;
  noted = each_there s.inside (λ p. HasNoted (after_track s enclave).epoch s.blocked (s.noted p) (s.cache p))
      (λ p seat is. noted p seat is (noted_at s h p seat is));
  blocks = λ n. IfSome_then (s.blocked n) (h.blocks n) (λ b k. omega (arith, k, more (enclave_in (s.content n))));
  sealing = λ n is own. there_then (s.blocked n) (h.sealing n is own)
      (λ b k. record { tracked = omega (arith, k.tracked, more (enclave_in (s.content n))); left = k.left });
  taken = λ g busy. let k = h.taken g busy in record { cpu = k.cpu; by = k.by };
  opened = opened_still s (after_track s enclave) refl refl refl (λ g is. is) h;
  written = h.written;
  loaded = h.loaded;
  held = h.held;
  apart = h.apart;
  kinds = h.kinds;
  goes_out = h.goes_out;
  kept = h.kept;
}
  where
    more : (c : Option ℕ) → epoch_of s.epoch c ≤ epoch_of (after_track s enclave).epoch c
    more None = omega arith
    more (Some e) = cond_both (enclave == e) (s.epoch e + 1) (s.epoch e) (λ v. s.epoch e ≤ v) (λ _. omega arith) (λ _. omega arith)

    none : number_noting s enclave (λ m. ltb m (s.epoch enclave)) ≡ 0
    none = eqb-true _ _ (not_false _ (none_holds (track_row (track_sight s enclave)) allowed).1.1.1.0)

    noted : (p : ℕ) (seat : Seat) → s.inside p ≡ Some seat → HasNoted s.epoch s.blocked (s.noted p) (s.cache p) seat
        → HasNoted (after_track s enclave).epoch s.blocked (s.noted p) (s.cache p) seat
    noted p seat is k = record {
      not_ahead = omega (arith, k.not_ahead, more (Some seat.enclave));
      not_behind =
          cond_both (enclave == seat.enclave) (s.epoch seat.enclave + 1) (s.epoch seat.enclave) (λ v. v ≤ s.noted p + 1)
          (λ e.
          let same = sym (eqb-true _ _ e) in
          let young = none_inside s h enclave (λ m. ltb m (s.epoch enclave)) none p seat is same in
          rw same (omega (arith, ltb-false _ _ young)))
          (λ _. k.not_behind);
      tcs = k.tcs;
      ssa = k.ssa;
      cache = k.cache;
    }

-- ---- write-out and reload

-- what the start of EWB shows
pub record StartsOut (s : State) (f : ℕ) (slot : SlotAt) : Type 0 where
  pub low : f < s.frames
  pub slot_idle : s.is_slot_named slot ≡ false
  pub slot_stays : s.is_sealing slot.frame.0 ≡ false
  pub idle : s.is_sealing f ≡ false
  pub still : is_loading (s.content f) ≡ false
  pub there : is_valid (s.content f) ≡ true
  pub paged : is_va (s.content slot.frame.0) ≡ true
  pub other : (f == slot.frame.0) ≡ false
  pub unused : is_in_use s f ≡ false
  pub childless : children_under s.frames s.content (s.content f) ≡ 0
  pub within : slot.index < 512
  pub blocked : is_own (s.content f) ≡ true → is_some (s.blocked f) ≡ true
  pub drained : is_own (s.content f) ≡ true → has_passed s (enclave_in (s.content f)) (s.blocked f) ≡ true

-- what is neither free nor loading is there
valid_there : (c : Content) → is_free c ≡ false → is_loading c ≡ false → is_valid c ≡ true
valid_there Free free waits = cc free
valid_there (IsVa number) free waits = refl
valid_there (SecsOf enclave) free waits = refl
valid_there (Holds page kind perm) free waits = refl
valid_there (IsLoading page) free waits = cc waits

-- where two are not both so and the first is, the second is not
second : (b c : Bool) → (b && c) ≡ false → b ≡ true → c ≡ false
second true c k is = k
second false c k is = cc is

-- a start that is not out of range is of a frame of the EPC
in_epc : (s : State) (f : ℕ) (slot : SlotAt) → is_out_of_range (sight s f) (slot_sight s slot) ≡ false → f < s.frames
in_epc s f slot within =
    let inner = neither (leb s.frames f || leb s.frames slot.frame.0) (ltb 511 slot.index) within in
    leb-false s.frames f (neither (leb s.frames f) (leb s.frames slot.frame.0) inner.0).0

-- .. and of a slot of its page
in_page : (s : State) (f : ℕ) (slot : SlotAt) → is_out_of_range (sight s f) (slot_sight s slot) ≡ false → slot.index < 512
in_page s f slot within =
    let low = ltb-false 511 slot.index (neither (leb s.frames f || leb s.frames slot.frame.0) (ltb 511 slot.index) within).1 in
    omega (arith, low)

pub starts_out : (s : State) (f : ℕ) (slot : SlotAt)
    → first_of_row (ewbstart_row (sight s f) (use_sight s f slot) (slot_sight s slot) (drain_sight s f) (is_version_spent s)) ≡ None
    → StartsOut s f slot
starts_out s f slot allowed =
    let none = none_holds (ewbstart_row (sight s f) (use_sight s f slot) (slot_sight s slot) (drain_sight s f) (is_version_spent s)) allowed
    in
    let uses = neither _ (is_in_use s f) none.1.0 in
    let busy = neither (s.is_sealing f || is_loading (s.content f)) (is_busy_at s slot) uses.0 in
    let idle = neither (s.is_sealing f) (is_loading (s.content f)) busy.0 in
    let kinds = neither (not (is_va (s.content slot.frame.0))) (f == slot.frame.0) none.1.1.1.0 in
    let paged = not_false (is_va (s.content slot.frame.0)) kinds.0 in
    let slots = neither (s.is_slot_named slot) (s.is_sealing slot.frame.0) (second (is_va (s.content slot.frame.0)) _ busy.1 paged) in
    record {
      low = in_epc s f slot none.0;
      slot_idle = slots.0;
      slot_stays = slots.1;
      idle = idle.0;
      still = idle.1;
      there = valid_there (s.content f) none.1.1.0 idle.1;
      paged = paged;
      other = kinds.1;
      unused = uses.1;
      childless = eqb-true _ 0 (not_false _ none.1.1.1.1.0);
      within = in_page s f slot none.0;
      blocked = λ own. not_false _ (second (is_own (s.content f)) _ none.1.1.1.1.1.0 own);
      drained = λ own. not_false _ (second (is_own (s.content f)) _ none.1.1.1.1.1.1.0 own);
    }

-- what the start of ELDU shows
pub record StartsIn (s : State) (f : ℕ) (page : Page) (slot : SlotAt) : Type 0 where
  pub low : f < s.frames
  pub slot_idle : s.is_slot_named slot ≡ false
  pub slot_stays : s.is_sealing slot.frame.0 ≡ false
  pub free : s.content f ≡ Free
  pub known : is_known s page ≡ true
  pub secs : is_own_page page ≡ true → SecsIsIn s.frames s.content s.is_sealing page.enclave
  pub paged : is_va (s.content slot.frame.0) ≡ true
  pub within : slot.index < 512

pub starts_in : (s : State) (f : ℕ) (page : Page) (slot : SlotAt)
    → first_of_row (eldstart_row (sight s f) (load_sight s page) (slot_sight s slot)) ≡ None
    → StartsIn s f page slot
starts_in s f page slot allowed =
    let none = none_holds (eldstart_row (sight s f) (load_sight s page) (slot_sight s slot)) allowed in
    let busy = neither (s.is_sealing f || is_loading (s.content f)) (is_busy_at s slot) none.1.1.1.1.0 in
    let paged = not_false (is_va (s.content slot.frame.0)) none.1.1.1.1.1.1.0 in
    let slots = neither (s.is_slot_named slot) (s.is_sealing slot.frame.0) (second (is_va (s.content slot.frame.0)) _ busy.1 paged) in
    record {
      low = in_epc s f slot none.0;
      slot_idle = slots.0;
      slot_stays = slots.1;
      free = free_there (s.content f) (s.is_sealing f) busy.0 none.1.1.1.1.1.0;
      known = not_false _ none.1.0;
      secs = λ own. secs_is_in s page.enclave (rw own at none.1.1.0) (rw own at none.1.1.1.0);
      paged = paged;
      within = in_page s f slot none.0;
    }

-- the slot that a start finds in a version array page
found_slot : (c : Content) (index : ℕ) → is_va c ≡ true
    → (c ≡ IsVa (slot_of_found (slot_in c index)).va) × (index ≡ (slot_of_found (slot_in c index)).index)
found_slot (IsVa number) index is = (refl, refl)
found_slot Free index is = cc is
found_slot (SecsOf enclave) index is = cc is
found_slot (Holds page kind perm) index is = cc is
found_slot (IsLoading page) index is = cc is

-- a frame whose enclave was tracked behind its block, with nobody left from before, is drained
pub tracked_drained : (s : State) (f b : ℕ) → IsGuarded s → s.blocked f ≡ Some b
    → has_passed s (enclave_in (s.content f)) (s.blocked f) ≡ true
    → IsDrainedAt s.inside s.noted (enclave_in (s.content f)) (epoch_in s f) b
tracked_drained s f b h is passed = by_enclave (enclave_in (s.content f)) (rw is at passed)
  where
    by_enclave : (c : Option ℕ) → has_passed s c (Some b) ≡ true → IsDrainedAt s.inside s.noted c (epoch_of s.epoch c) b
    by_enclave None k = cc k
    by_enclave (Some enclave) k =
        let both = both_true (ltb b (s.epoch enclave)) (number_noting s enclave (λ m. leb m b) == 0) k in
        record {
          tracked = ltb-true _ _ both.0;
          left =
              each_there s.inside (λ p seat. Some enclave ≡ Some seat.enclave → b < s.noted p)
              (λ p seat at same.
              let here : seat.enclave ≡ enclave = cc in
              leb-false _ _ (none_inside s h enclave (λ m. leb m b) (eqb-true _ _ both.1) p seat at here));
        }

-- an open start whose slot lies in a frame uses what the frame holds
uses_of : (s : State) (f : ℕ) (x : BareStart) → IsOpen s x → s.is_slot_named x.at ≡ true → f ≡ x.at.frame.0 → is_in_use s f ≡ true
uses_of s f x o marked same =
    let there : is_va (s.content f) ≡ true = ap (λ m. is_va (s.content m)) same ∙ ap is_va o.held in
    let any = any_below-some (λ index. s.is_slot_named (place_at f index)) 512 x.at.index o.within
    (subst (λ m. s.is_slot_named (place_at m x.at.index) ≡ true) (sym same) marked) in
    rw (there, any) refl

-- what is drained, or has no uses, starts to go out
pub guarded_ewbstart : (s : State) (f : ℕ) (slot : SlotAt)
    → first_of_row (ewbstart_row (sight s f) (use_sight s f slot) (slot_sight s slot) (drain_sight s f) (is_version_spent s)) ≡ None
    → IsGuarded s → IsGuarded (after_ewbstart s f slot)
guarded_ewbstart s f slot allowed h = record {
  few = h.few;
  noted = h.noted;
  blocks = h.blocks;
  sealing =
      each_frame f (λ n. t.is_sealing n ≡ true → is_own (s.content n) ≡ true
      → IsSomeAnd (s.blocked n) (IsDrainedAt s.inside s.noted (enclave_in (s.content n)) (epoch_in s n)))
      (λ _ own. there_at (s.blocked f) (IsDrainedAt s.inside s.noted (enclave_in (s.content f)) (epoch_in s f)) (k.blocked own)
      (λ b is. tracked_drained s f b h is (k.drained own))) (λ n e. rw e (h.sealing n));
  taken = λ g busy. let k = h.taken g busy in record { cpu = k.cpu; by = k.by };
  opened = each_frame f (λ n. IfSome (t.start n) (IsOpen t)) (rw here new) (λ n e. rw e (old n (s.start n) refl));
  written = each_frame f (λ n. t.is_sealing n ≡ true → IsSomeAnd (t.start n) WritesOut) (λ _. rw here refl) (λ n e. rw e (h.written n));
  loaded = λ n g.
      each_frame f (λ m. s.content m ≡ IsLoading g → IsSomeAnd (t.start m) (Loads g))
      (λ waits. absurd (false≢true (sym k.still ∙ ap is_loading waits)))
      (λ m e. rw e (h.loaded m g)) n;
  held = each_frame f (λ n. is_some (t.start n) ≡ true → (t.is_sealing n || is_loading (s.content n)) ≡ true) (λ _. rw here refl)
      (λ n e. rw e (h.held n));
  apart = started_apart s.frames s.start s.is_slot_named f (started s slot s.next_version None) k.low (no_start s f h k.idle k.still)
      k.slot_idle h.apart;
  kinds = h.kinds;
  goes_out = each_frame f (λ n. t.is_sealing n ≡ true → is_valid (s.content n) ≡ true) (λ _. k.there) (λ n e. rw e (h.goes_out n));
  kept = record {
    covered = start_covers s.frames s.content s.is_sealing f (λ e is. ap (children_under s.frames s.content) (sym is) ∙ k.childless) counted
        h.kept.covered;
    bounded = h.kept.bounded;
    arrays = h.kept.arrays;
    named = h.kept.named;
  };
}
  where
    t : State
    t = after_ewbstart s f slot

    k : StartsOut s f slot
    k = starts_out s f slot allowed

    here : (f == f) ≡ true
    here = equal f f refl

    new : IsOpen t (started s slot s.next_version None)
    new =
        let found = found_slot (s.content slot.frame.0) slot.index k.paged in
        record { held = found.0; index = found.1; within = k.within; stays = rw k.other k.slot_stays; loads = tt }

    old : (n : ℕ) (o : Option BareStart) → s.start n ≡ o → IfSome o (IsOpen t)
    old n None is = tt
    old n (Some x) is =
        let o : IsOpen s x = rw is at (h.opened n) in
        let other = apart f x.at.frame.0 (λ same. false≢true (sym k.unused ∙ uses_of s f x o (h.apart.marked n x is) same)) in
        open_still s t x refl (rw other refl) (λ g is. is) o

    counted : (e m : ℕ) → is_child (s.content m) e ≡ true → m < s.frames
    counted e m is = by_number (cases_lt m s.frames)
      where
        by_number : (m < s.frames) ⊎ (s.frames ≤ m) → m < s.frames
        by_number (inl low) = low
        by_number (inr high) = absurd (false≢true (ap (λ c. is_child c e) (sym (h.kept.bounded m high)) ∙ is))

-- a free frame starts to wait for a page
pub guarded_eldstart : (s : State) (f : ℕ) (page : Page) (slot : SlotAt)
    → first_of_row (eldstart_row (sight s f) (load_sight s page) (slot_sight s slot)) ≡ None
    → IsGuarded s → IsGuarded (after_eldstart s f page slot)
guarded_eldstart s f page slot allowed h =
    let t = after_eldstart s f page slot in
    let k = starts_in s f page slot allowed in
    let found = found_slot (s.content slot.frame.0) slot.index k.paged in
    let here : (f == f) ≡ true = equal f f refl in
    guarded_beside (record s { content = t.content; blocked = t.blocked; start = t.start; is_slot_named = t.is_slot_named }) s.words
    s.enclaves s.measure s.acc s.version_in s.next_version (λ e is. is)
    (guarded_frame s f t.content t.blocked s.is_sealing t.start t.is_slot_named h (record {
      same = λ n e. record { held = rw e refl; blocked_at = rw e refl; sealing = refl; start_of = rw e refl };
      elsewhere = no_slot s f Free k.free refl;
      unblocked = rw here refl;
      settled = stays_in s f h (rw k.free refl);
      opened = rw here (record { held = found.0; index = found.1; within = k.within; stays = k.slot_stays; loads = k.known });
      loaded = λ g waits. let is : IsLoading page ≡ IsLoading g = rw here at waits in let same : page ≡ g = cc in
          rw here (ap Some same);
      held = λ _. rw here refl;
      apart = started_apart s.frames s.start s.is_slot_named f (started s slot (version_at s slot) (Some page))
          k.low (no_start s f h (stays_in s f h (rw k.free refl)) (rw k.free refl)) k.slot_idle h.apart;
      kept = free_kept s f (IsLoading page) k.low h k.free
          (λ e is. let both = both_true (is_own_page page) (page.enclave == e) is in
          subst (SecsIsIn s.frames s.content s.is_sealing) (eqb-true page.enclave e both.1) (k.secs both.0))
          (λ number. by_kind number _ (page.enclave == 0) k.known) (λ number n here there. cc here) tt;
    }))
  where
    by_kind : (number : ℕ) (otherwise_known va : Bool) → cond va (nat_lt page.number s.vas_made) otherwise_known ≡ true
        → cond va (Some page.number) None ≡ Some number → number < s.vas_made
    by_kind number b false known is = cc is
    by_kind number b true known is =
        let same : page.number ≡ number = cc is in
        let low = ltb-true page.number s.vas_made known in omega (arith, low, same)

-- a frame that waits for a page has no slots for open starts
waits_apart : (s : State) (f : ℕ) (g : Page) → s.content f ≡ IsLoading g → IsGuarded s → (x : BareStart) → IsOpen s x → f ≡ x.at.frame.0 → ⊥
waits_apart s f g waits h x o same =
    let both : IsLoading g ≡ IsVa x.slot.va = sym waits ∙ ap s.content same ∙ o.held in cc both

-- a frame whose start has ended
ended : (s : State) (f : ℕ) (content : ℕ → Content) (blocked : ℕ → Option ℕ) (is_sealing : ℕ → Bool) (start : BareStart)
    → s.start f ≡ Some start → IsGuarded s
    → ((n : ℕ) → (f == n) ≡ false → (content n ≡ s.content n) × (blocked n ≡ s.blocked n) × (is_sealing n ≡ s.is_sealing n))
    → ((x : BareStart) → IsOpen s x → f ≡ x.at.frame.0 → ⊥) → blocked f ≡ None → is_sealing f ≡ false
    → ((g : Page) → content f ≡ IsLoading g → ⊥) → FramesKept s.frames s.vas_made content is_sealing
    → IsGuarded (record s {
      content = content;
      blocked = blocked;
      is_sealing = is_sealing;
      start = λ n. cond (f == n) None (s.start n);
      is_slot_named = λ slot. cond (same_place start.at slot) false (s.is_slot_named slot);
    })
ended s f content blocked is_sealing start is h same elsewhere unblocked settled done kept =
    guarded_frame s f content blocked is_sealing (λ n. cond (f == n) None (s.start n))
    (λ slot. cond (same_place start.at slot) false (s.is_slot_named slot)) h
    (record {
      same = λ n e. let k = same n e in record { held = k.0; blocked_at = k.1; sealing = k.2; start_of = rw e refl };
      elsewhere = elsewhere;
      unblocked = unblocked;
      settled = settled;
      opened = rw (equal f f refl) tt;
      loaded = λ g waits. absurd (done g waits);
      held = λ some. let no : false ≡ true = rw (equal f f refl) at some in absurd (false≢true no);
      apart = ended_apart s.frames s.start s.is_slot_named f start is h.apart;
      kept = kept;
    })

-- .. which is free then
freed : (s : State) (f : ℕ) (start : BareStart) → s.start f ≡ Some start → ((x : BareStart) → IsOpen s x → f ≡ x.at.frame.0 → ⊥)
    → FramesKept s.frames s.vas_made (λ n. cond (f == n) Free (s.content n)) (λ n. cond (f == n) false (s.is_sealing n)) → IsGuarded s
    → IsGuarded (after_failed_eld s f start)
freed s f start is elsewhere kept h =
    let t = after_failed_eld s f start in
    let here : (f == f) ≡ true = equal f f refl in
    guarded_beside
    (record s {
      content = t.content;
      blocked = t.blocked;
      is_sealing = t.is_sealing;
      start = t.start;
      is_slot_named = t.is_slot_named;
    }) t.words s.enclaves s.measure s.acc s.version_in s.next_version (λ e is. is)
    (ended s f t.content t.blocked t.is_sealing start is h (λ n e. (rw e refl, rw e refl, rw e refl)) elsewhere (rw here refl)
    (rw here refl) (λ g waits. let free : Free ≡ IsLoading g = rw here at waits in cc free) kept)

-- what a frame held is out
pub guarded_ewb : (s : State) (f : ℕ) (start : BareStart) → s.start f ≡ Some start → s.is_sealing f ≡ true → IsGuarded s
    → IsGuarded (after_ewb s f start)
guarded_ewb s f start is leaving h =
    let t = after_failed_eld s f start in
    guarded_beside t t.words t.enclaves t.measure t.acc (after_ewb s f start).version_in t.next_version (λ e is. is)
    (freed s f start is (λ x o same. false≢true (sym o.stays ∙ ap s.is_sealing (sym same) ∙ leaving))
    (kept_out s.frames s.vas_made s.content s.is_sealing f leaving h.kept) h)

-- a load is refused
pub guarded_failed_eld : (s : State) (f : ℕ) (start : BareStart) (g : Page) → s.start f ≡ Some start → s.content f ≡ IsLoading g
    → IsGuarded s
    → IsGuarded (after_failed_eld s f start)
guarded_failed_eld s f start g is waits h =
    freed s f start is (waits_apart s f g waits h)
    (kept_settled s.frames s.vas_made (λ n. cond (f == n) Free (s.content n)) s.is_sealing f
    (kept_less s.frames s.vas_made s.content s.is_sealing f Free (h.apart.below f start is) (λ e. rw waits refl)
    (stays_in s f h (rw waits refl)) (λ e is. cc is) (λ k is. cc is) (λ k n here there. cc here) tt h.kept)) h

-- what a page is in a frame when it is back
record ComesAs (page : Page) (c : Content) : Type 0 where
  pub child : (e : ℕ) → is_child c e ≡ true → is_child (IsLoading page) e ≡ true
  pub array : (number : ℕ) → array_in c ≡ Some number → array_in (IsLoading page) ≡ Some number
  pub held : (number : ℕ) → c ≡ IsVa number → (is_va_page page ≡ true) × (page.number ≡ number)
  pub named : IsNamedRight c
  pub done : (g : Page) → c ≡ IsLoading g → ⊥

comes_as : (s : State) (page : Page) → is_known s page ≡ true → ComesAs page (reloaded page (s.added page))
comes_as s page known = by_name (page.enclave == 0) refl (page.number == SECS_NUMBER) refl (s.added page) known
  where
    by_name : (va : Bool) → (page.enclave == 0) ≡ va → (last : Bool) → (page.number == SECS_NUMBER) ≡ last → (o : Option (Kind × Perm))
        → cond va (nat_lt page.number s.vas_made) (cond (not va && last) (is_made (enclave_sight_of (s.enclaves page.enclave)))
        (is_made (enclave_sight_of (s.enclaves page.enclave)) && is_some o)) ≡ true
        → ComesAs page (cond va (IsVa page.number) (cond (not va && last) (SecsOf page.enclave) (reloaded_as page o)))
    by_name true e last d o known = record {
      child = λ n is. cc is;
      array = λ number is. rw e is;
      held = λ number is. (e, cc is);
      named = tt;
      done = λ g is. cc is;
    }
    by_name false e true d o known =
        record { child = λ n is. cc is; array = λ number is. cc is; held = λ number is. cc is; named = e; done = λ g is. cc is }
    by_name false e false d None known =
        absurd (false≢true (both_true (is_made (enclave_sight_of (s.enclaves page.enclave))) false known).1)
    by_name false e false d (Some x) known =
        let own : is_own_page page ≡ true = rw (e, d) refl in
        record {
          child = λ n is. rw (own, is) refl;
          array = λ number is. cc is;
          held = λ number is. cc is;
          named = own;
          done = λ g is. cc is;
        }

-- a page is back, which no frame holds if it is a version array page
pub guarded_eld : (s : State) (f : ℕ) (start : BareStart) (page : Page) (plain : List ℕ)
    → s.start f ≡ Some start → s.content f ≡ IsLoading page → is_known s page ≡ true → CanBring s f
    → IsGuarded s → IsGuarded (after_eld s f start (reloaded page (s.added page)) plain)
guarded_eld s f start page plain is waits known bring h =
    let t = after_eld s f start (reloaded page (s.added page)) plain in
    let here : (f == f) ≡ true = equal f f refl in
    let k = comes_as s page known in
    guarded_beside (record s { content = t.content; blocked = t.blocked; start = t.start; is_slot_named = t.is_slot_named }) t.words
    s.enclaves s.measure s.acc t.version_in s.next_version (λ e is. is)
    (ended s f t.content t.blocked s.is_sealing start is h (λ n e. (rw e refl, rw e refl, refl)) (waits_apart s f page waits h)
    (rw here refl) (stays_in s f h (rw waits refl)) (λ w again. k.done w (rw here at again))
    (kept_less s.frames s.vas_made s.content s.is_sealing f (reloaded page (s.added page)) (h.apart.below f start is) (λ e. rw waits refl)
    (stays_in s f h (rw waits refl)) (λ e is. rw waits (k.child e is)) (λ number is. rw waits (k.array number is))
    (λ number n here there. let its = k.held number here in absurd (bring.away page waits its.0 n (there ∙ ap IsVa (sym its.1)))) k.named
    h.kept))
