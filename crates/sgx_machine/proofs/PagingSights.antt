-- What the rows of block, track, write-out and reload see of the machine's parts is what they see of the state.
use Rattle.machine_laws.proofs.Contents.{waits_for}
use Rattle.secs_state.specs.inner.Sights.{sight_of}
use Rattle.sgx_rules.specs.Flat.{enclave_sight_of}
use Rattle.std.proofs.Common.{◌≡◌, ℕ, zero, suc, ◌+◌, ◌-◌, ◌<◌, ◌≤◌, ◌==◌, ◌&&◌, ◌||◌, Bool, true, false, cond}
use Rattle.std.proofs.Common.{refl, sym, ap, subst, ◌∙◌, arith, Option, Some, None, IfSome, is_some, List, [], ◌∷◌, length, get_or}
use Rattle.std.specs.Prelude.{count_by, nat_lt, nat_le, slice_get, slice_index_or}
use Rattle.std.specs.List.{list_any}
use Rattle.std.specs.Option.{option_and_then, IsSomeAnd, option_map}
use Rattle.std.proofs.lemmas.Bool.{ne_eqb, false≢true}
use Rattle.std.proofs.lemmas.List.Sums.{sum_by-cons}
use Rattle.sgx_types.specs.declared.names.Page.{Page}
use Rattle.sgx_types.specs.declared.names.SlotAt.{SlotAt}
use Rattle.sgx_types.specs.declared.names.Kind.{Kind}
use Rattle.sgx_types.specs.declared.names.Kind.TheVariants as kinds
use Rattle.sgx_types.specs.declared.names.Perm.{Perm}
use Rattle.sgx_rules.specs.declared.refusals.Refusal.{Refusal}
use Rattle.sgx_types.specs.Counts.{any_below, count_below}
use Rattle.sgx_rules.specs.Epochs.{epoch_of}
use Rattle.sgx_rules.specs.Frames.{Content, Free, IsVa, SecsOf, Holds, IsLoading, enclave_in, page_there}
use Rattle.sgx_types.specs.Pages.{is_secs_page, is_va_page, secs_page, va_page}
use Rattle.sgx_types.specs.Cases.{first_of_row}
use Rattle.sgx_rules.specs.Table.{DrainSight, SlotSight, UseSight, track_row}
use Rattle.sgx_rules.specs.Table.{ewbstart_row, eldstart_row, is_loading, is_made, is_va}
use Rattle.sgx_types.proofs.CountLaws.{any_below-none, count_below-agrees, count_below-zero}
use Rattle.epcm_entry.specs.declared.entry_view.EntryView.{EntryView}
use Rattle.epcm_entry.specs.declared.entry_view.EntryView.TheVariants as views
use Rattle.epcm_entry.specs.inner.Epc.{entry_at}
use Rattle.epcm_entry.specs.inner.EntryView.{block_of, goes_out}
use Rattle.epcm_entry.specs.inner.Sights.{held, content_of, sight_in}
use Rattle.cached_translations.specs.declared.processor.Processor.{Processor}
use Rattle.cached_translations.specs.declared.processor.Mode.{Mode}
use Rattle.cached_translations.specs.declared.processor.Mode.TheVariants as modes
use Rattle.secs_state.specs.inner.Secs.{SecsState, added_at, page_count}
use Rattle.secs_state.specs.inner.Table.{enclave_at}
use Rattle.secs_state.proofs.Columns.{added_below}
use Rattle.sgx_rules.specs.inner.Starts.{BareStart}
use Rattle.machine_laws.specs.inner.Stands.{IsFramed}
use Rattle.machine_laws.specs.inner.Guarded.{IsGuarded, WritesOut, Loads}
use Rattle.track_epoch.specs.inner.Tracking.{Tracking}
use Rattle.track_epoch.specs.inner.Tracks.{track_of}
use Rattle.version_array.specs.inner.Versions.{is_spent_at}
use Rattle.evict_reload.specs.inner.Sights as parts
use Rattle.evict_reload.specs.inner.Sights.{AreVaPages, IsNumbered, drain_of}
use Rattle.version_array.specs.declared.va_page.SlotState.{SlotState}
use Rattle.version_array.specs.inner.Slots.{IsVaTable, empty_slot, is_any_busy, is_busy_at}
use Rattle.version_array.specs.inner.Slots.{page_at, page_slots, slot_in, slots_of, version_in}
use Rattle.machine_laws.proofs.TestLaws.{none_there}
use Rattle.evict_reload.specs.inner.Effects as effects
use Rattle.machine_laws.specs.inner.State.{State, sight, is_noting, number_noting, epoch_in, number_up_to, has_passed}
use Rattle.machine_laws.specs.inner.State.{is_in_use, load_sight, place_at, version_at, secs_sight, slot_sight, track_sight, use_sight}
use Rattle.machine_laws.specs.inner.State.{drain_sight, is_version_spent}
use Rattle.sgx_machine.specs.inner.Parts.{Parts, idle, cpu_at, seat_of_mode, noted_by, is_noted, added_in, enclave_of}
use Rattle.sgx_machine.specs.inner.Parts.{state_of}
use Rattle.sgx_machine.specs.inner.Whole.{IsNamedFor, IsTable, IsTracked}
use Rattle.sgx_machine.proofs.Columns.{numbered}

-- ---- counts

-- a count below a number, of which the least is counted apart
count_first : (test : ℕ → Bool) (n : ℕ) → count_below test (suc n) ≡ cond (test 0) 1 0 + count_below (λ p. test (suc p)) n
unfolding count_below
count_first test zero = refl
count_first test (suc n) = omega (arith, count_first test n)

-- the items of a list that pass, counted by their places
pub count_places : {X : Type 0} (test : X → Bool) (d : X) → test d ≡ false → (xs : List X) (n : ℕ) → length xs ≤ n
    → count_by test xs ≡ count_below (λ p. test (get_or xs p d)) n
count_places test d fails [] n few = sym (count_below-zero (λ p. test (get_or [] p d)) n (λ p low. fails))
count_places test d fails (x ∷ xs) zero few = absurd (omega arith)
count_places {X} test d fails (x ∷ xs) (suc n) few =
    let rest : count_by test xs ≡ count_below (λ p. test (get_or xs p d)) n = count_places test d fails xs n (omega (arith, few)) in
    let first : count_below (λ p. test (get_or (x ∷ xs) p d)) (suc n) ≡ cond (test x) 1 0 + count_below (λ p. test (get_or xs p d)) n =
    count_first (λ p. test (get_or (x ∷ xs) p d)) n in
    sum_by-cons {X = X} (λ y. cond (test y) 1 0) x xs ∙ ap (λ k. cond (test x) 1 0 + k) rest ∙ sym first

noting_same : (e : ℕ) (test : ℕ → Bool) (mode : Mode) → is_noted e test mode ≡ is_noting e test (seat_of_mode mode) (noted_by mode)
noting_same e test modes.Outside = refl
noting_same e test (modes.Inside enclave tcs tf sf epoch) = refl

-- the processors inside an enclave with an epoch that passes are those that its track notes
pub number_seen : (d : Parts) (e : ℕ) (t : Tracking) (test : ℕ → Bool) → length d.cpus ≤ 16 → IsTracked d.tracks d.cpus
    → track_of d.tracks e ≡ Some t → count_by test t.noted ≡ number_noting (state_of d) e test
number_seen d e t test few tracked found =
    tracked e t found test
    ∙ count_places (λ (c : Processor). is_noted e test c.mode) idle refl d.cpus 16 few
    ∙ count_below-agrees (λ p. is_noted e test (cpu_at d p).mode) (λ p. is_noting e test ((state_of d).inside p) ((state_of d).noted p))
    (λ p. noting_same e test (cpu_at d p).mode) 16

-- ---- tracks

-- an enclave from 1 to 8 has a track
abbrev pub HasTrack : Parts → ℕ → Type 0
HasTrack d e = (t : Tracking) × (track_of d.tracks e ≡ Some t)

item_there : (tracks : List Tracking) (i : ℕ) → i < length tracks → (t : Tracking) × (slice_get tracks i ≡ Some t)
item_there [] i low = absurd (omega arith)
item_there (t ∷ tracks) zero low = (t, refl)
item_there (t ∷ tracks) (suc i) low = item_there tracks i (omega arith)

pub track_there : (d : Parts) (e : ℕ) → length d.tracks ≡ 8 → 1 ≤ e → e ≤ 8 → HasTrack d e
track_there d e eight first last =
    let k = item_there d.tracks (e - 1) (omega (arith, eight, first, last)) in
    (k.0, rw (ne_eqb e 0 (λ none. omega (arith, first, none))) k.1)

-- ---- pages in frames

-- an enclave to which a page was added has a number from 1 to 8
pub added_numbered : (table : List (Option SecsState)) (g : Page) → length table ≡ 8
    → is_some (added_in (enclave_at table g.enclave) g.number) ≡ true → (1 ≤ g.enclave) × (g.enclave ≤ 8)
added_numbered table g eight is = by_state (enclave_at table g.enclave) refl is
  where
    by_state : (o : Option SecsState) → enclave_at table g.enclave ≡ o → is_some (added_in o g.number) ≡ true
        → (1 ≤ g.enclave) × (g.enclave ≤ 8)
    by_state None at k = cc k
    by_state (Some x) at k = numbered table g.enclave x eight at

-- a page in a frame is of an enclave from 1 to 8
pub frame_numbered : (d : Parts) (f : ℕ) → length d.secs ≡ 8 → IsFramed (state_of d) → IsNumbered ((state_of d).content f)
frame_numbered d f eight framed = by_content ((state_of d).content f) (framed f)
  where
    by_content : (c : Content) → ((g : Page) (kind : Kind) (perm : Perm) → c ≡ Holds g kind perm → is_some ((state_of d).added g) ≡ true)
        → IsNumbered c
    by_content Free h = tt
    by_content (IsVa number) h = tt
    by_content (SecsOf enclave) h = tt
    by_content (Holds page kind perm) h = added_numbered d.secs page eight (h page kind perm refl)
    by_content (IsLoading page) h = tt

-- what a page was added as, by either name
pub added_same : (table : List (Option SecsState)) (g : Page) → parts.added_in table g ≡ added_in (enclave_at table g.enclave) g.number
added_same table g = by_state (enclave_at table g.enclave)
  where
    by_state : (o : Option SecsState) → option_and_then (λ (x : SecsState). added_at x g.number) o ≡ added_in o g.number
    by_state None = refl
    by_state (Some x) = refl

-- the epoch at which the page in a frame is blocked
pub epoch_seen : (d : Parts) (f : ℕ) → length d.tracks ≡ 8 → IsNumbered ((state_of d).content f)
    → effects.epoch_of d.tracks (enclave_in ((state_of d).content f)) ≡ epoch_in (state_of d) f
epoch_seen d f eight numbered = by_enclave (enclave_in ((state_of d).content f)) numbered
  where
    by_enclave : (o : Option ℕ) → IfSome o (λ e. (1 ≤ e) × (e ≤ 8)) → effects.epoch_of d.tracks o ≡ epoch_of (state_of d).epoch o
    by_enclave None h = refl
    by_enclave (Some e) h = let t = track_there d e eight h.0 h.1 in rw t.1 refl

-- ---- the rows

-- the row of a track
pub track_row_at : (d : Parts) (e : ℕ) → length d.secs ≡ 8 → length d.tracks ≡ 8 → length d.cpus ≤ 16 → IsTracked d.tracks d.cpus
    → first_of_row (track_row (parts.track_sight d.epc d.secs d.tracks e)) ≡ first_of_row (track_row (track_sight (state_of d) e))
track_row_at d e eight places few tracked = by_state (enclave_at d.secs e) refl
  where
    absent : (o : Option Tracking) → first_of_row (track_row (parts.track_seen None (secs_sight (state_of d) e) o)) ≡ first_of_row
        (track_row (record (track_sight (state_of d) e) { enclave = None }))
    absent None = refl
    absent (Some t) = refl

    by_state : (o : Option SecsState) → enclave_at d.secs e ≡ o
        → first_of_row (track_row (parts.track_seen (option_map sight_of o) (secs_sight (state_of d) e) (track_of d.tracks e)))
        ≡ first_of_row
        (track_row (record (track_sight (state_of d) e) { enclave = enclave_sight_of (enclave_of o) }))
    by_state None at = absent (track_of d.tracks e)
    by_state (Some x) at =
        let number = numbered d.secs e x eight at in
        let t = track_there d e places number.0 number.1 in
        let older = number_seen d e t.0 (λ n. nat_lt n t.0.epoch) few tracked t.1 in
        rw (t.1, older) refl

-- ---- slots

-- a frame that holds no version array page has no slot
no_page : (d : Parts) (n : ℕ) → AreVaPages d.epc d.va.pages → is_va (held (entry_at d.epc n)) ≡ false → page_at d.va.pages n ≡ None
no_page d n pages none = none_there (page_at d.va.pages n) (pages n ∙ none)

pub no_slot : (d : Parts) (slot : SlotAt) → AreVaPages d.epc d.va.pages → is_va (held (entry_at d.epc slot.frame.0)) ≡ false
    → slot_in d.va.pages slot ≡ empty_slot
no_slot d slot pages none =
    ap (λ page. slice_index_or (page_slots page) slot.index empty_slot) (no_page d slot.frame.0 pages none)

-- the slot that a row names
pub slot_seen : (d : Parts) (slot : SlotAt) → AreVaPages d.epc d.va.pages
    → parts.slot_sight d.epc d.va.pages slot ≡ slot_sight (state_of d) slot
slot_seen d slot pages = λ i. record {
  frame = sight_in d.epc slot.frame.0;
  is_beyond = nat_lt 511 slot.index;
  is_busy = busy (is_va (held (entry_at d.epc slot.frame.0))) refl i;
  version = version (is_va (held (entry_at d.epc slot.frame.0))) refl i;
}
  where
    busy : (b : Bool) → is_va (held (entry_at d.epc slot.frame.0)) ≡ b
        → (is_busy_at d.va.pages slot || (b && goes_out (entry_at d.epc slot.frame.0)))
        ≡ (b && (is_busy_at d.va.pages slot || goes_out (entry_at d.epc slot.frame.0)))
    busy true va = refl
    busy false none = ap (λ (x : SlotState). x.busy || false) (no_slot d slot pages none)

    version : (b : Bool) → is_va (held (entry_at d.epc slot.frame.0)) ≡ b
        → version_in d.va.pages slot ≡ cond b (version_in d.va.pages slot) 0
    version true va = refl
    version false none = ap (λ (x : SlotState). x.version) (no_slot d slot pages none)

-- .. and its version
pub version_seen : (d : Parts) (slot : SlotAt) → AreVaPages d.epc d.va.pages → version_in d.va.pages slot ≡ version_at (state_of d) slot
version_seen d slot pages = ap (λ (s : SlotSight). s.version) (slot_seen d slot pages)

-- a test below a number, of which the least is tested apart
any_first : (test : ℕ → Bool) (n : ℕ) → any_below test (suc n) ≡ (test 0 || any_below (λ p. test (suc p)) n)
unfolding any_below
any_first test zero = refl
any_first test (suc n) =
    ap (λ b. test (suc n) || b) (any_first test n) ∙ swap (test (suc n)) (test 0) (any_below (λ p. test (suc p)) n)
  where
    swap : (a b c : Bool) → (a || (b || c)) ≡ (b || (a || c))
    swap true true c = refl
    swap true false c = refl
    swap false true c = refl
    swap false false c = refl

-- the marks of a page, by its list and by its indices
any_marked : (slots : List SlotState) (n : ℕ) → length slots ≤ n
    → list_any (λ (s : SlotState). s.busy) slots ≡ any_below (λ i. (slice_index_or slots i empty_slot).busy) n
any_marked [] n few = sym (any_below-none (λ i. (slice_index_or [] i empty_slot).busy) n (λ k low. refl))
any_marked (x ∷ xs) zero few = absurd (omega arith)
any_marked (x ∷ xs) (suc n) few =
    ap (λ b. x.busy || b) (any_marked xs n (omega (arith, few)))
    ∙ sym (any_first (λ i. (slice_index_or (x ∷ xs) i empty_slot).busy) n)

-- the uses of what a frame holds
pub use_seen : (d : Parts) (f : ℕ) (slot : SlotAt) → IsVaTable d.va.pages → AreVaPages d.epc d.va.pages
    → parts.use_sight d.epc d.va.pages f slot ≡ use_sight (state_of d) f slot
use_seen d f slot is pages = λ i. record {
  is_in_use = used (is_va (held (entry_at d.epc f))) refl i;
  is_its_own = f == slot.frame.0;
  children = (use_sight (state_of d) f slot).children;
}
  where
    used : (b : Bool) → is_va (held (entry_at d.epc f)) ≡ b
        → (b && is_any_busy d.va.pages f) ≡ (b && any_below (λ index. is_busy_at d.va.pages (place_at f index)) 512)
    used true va =
        let sized : length (slots_of d.va.pages f) ≡ 512 = is.sized f (pages f ∙ va) in
        any_marked (slots_of d.va.pages f) 512 (omega (arith, sized))
    used false none = refl

-- .. of a version array page alone
pub in_use_seen : (d : Parts) (f : ℕ) → IsVaTable d.va.pages → AreVaPages d.epc d.va.pages → is_va (held (entry_at d.epc f)) ≡ true
    → is_any_busy d.va.pages f ≡ is_in_use (state_of d) f
in_use_seen d f is pages va =
    let sized : length (slots_of d.va.pages f) ≡ 512 = is.sized f (pages f ∙ va) in
    rw va (any_marked (slots_of d.va.pages f) 512 (omega (arith, sized)))

-- a page that is to be loaded
pub load_seen : (d : Parts) (page : Page) → parts.load_sight d.epc d.va.made d.secs page ≡ load_sight (state_of d) page
load_seen d page = λ i. record {
  is_known = known (is_va_page page) (is_secs_page page) i;
  secs = (load_sight (state_of d) page).secs;
}
  where
    made : (o : Option SecsState) → is_some o ≡ is_made (enclave_sight_of (enclave_of o))
    made None = refl
    made (Some x) = refl

    added : (o : Option SecsState) → is_some (option_and_then (λ (x : SecsState). added_at x page.number) o)
        ≡ (is_made (enclave_sight_of (enclave_of o)) && is_some (added_in o page.number))
    added None = refl
    added (Some x) = refl

    known : (va inner : Bool)
        → cond va (nat_lt page.number d.va.made) (cond inner (is_some (enclave_at d.secs page.enclave)) (parts.is_added d.secs page))
        ≡ cond va (nat_lt page.number d.va.made) (cond inner (is_made (enclave_sight_of (enclave_of (enclave_at d.secs page.enclave))))
        (is_made (enclave_sight_of (enclave_of (enclave_at d.secs page.enclave)))
        && is_some (added_in (enclave_at d.secs page.enclave) page.number)))
    known true inner = refl
    known false true = made (enclave_at d.secs page.enclave)
    known false false = added (enclave_at d.secs page.enclave)

-- the tracking of a blocked page, by its enclave's track
drain_at : (d : Parts) (page : Page) (b : ℕ) → length d.tracks ≡ 8 → length d.cpus ≤ 16 → IsTracked d.tracks d.cpus
    → (1 ≤ page.enclave) × (page.enclave ≤ 8)
    → parts.drain_from b (track_of d.tracks page.enclave) ≡ record {
      epoch = (state_of d).epoch page.enclave;
      kept_back = number_up_to (state_of d) (Some page.enclave) (Some b);
      is_drained = has_passed (state_of d) (Some page.enclave) (Some b);
    }
drain_at d page b places few tracked number =
    let t = track_there d page.enclave places number.0 number.1 in
    rw (t.1, number_seen d page.enclave t.0 (λ m. nat_le m b) few tracked t.1) refl

-- what the start of EWB sees of a frame, by its entry
abbrev ewbstart_by : Bool → EntryView → UseSight → SlotSight → DrainSight → Bool → Option Refusal
ewbstart_by beyond v uses slot drain spent = first_of_row
    (ewbstart_row (record { is_beyond = beyond; content = held v; is_sealing = goes_out v; is_blocked = is_some (block_of v) })
    uses slot drain
    spent)

abbrev drain_by : State → EntryView → DrainSight
drain_by s v = record {
  epoch = epoch_of s.epoch (enclave_in (held v));
  kept_back = number_up_to s (enclave_in (held v)) (block_of v);
  is_drained = has_passed s (enclave_in (held v)) (block_of v);
}

-- the row of the start of EWB: of a frame that holds no blocked page it does not see the tracking
pub ewbstart_row_at : (d : Parts) (f : ℕ) (slot : SlotAt) → length d.tracks ≡ 8 → length d.cpus ≤ 16 → IsTracked d.tracks d.cpus
    → IsNumbered ((state_of d).content f) → IsVaTable d.va.pages → AreVaPages d.epc d.va.pages
    → first_of_row (ewbstart_row (sight_in d.epc f) (parts.use_sight d.epc d.va.pages f slot) (parts.slot_sight d.epc d.va.pages slot)
    (parts.drain_sight d.epc d.tracks f) (is_spent_at d.versions))
    ≡ first_of_row (ewbstart_row (sight (state_of d) f) (use_sight (state_of d) f slot) (slot_sight (state_of d) slot)
    (drain_sight (state_of d) f) (is_version_spent (state_of d)))
ewbstart_row_at d f slot places few tracked numbered is pages =
    ap (λ uses. first_of_row (ewbstart_row (sight_in d.epc f) uses (parts.slot_sight d.epc d.va.pages slot)
    (parts.drain_sight d.epc d.tracks f) (is_spent_at d.versions))) (use_seen d f slot is pages)
    ∙ ap (λ sees. first_of_row (ewbstart_row (sight_in d.epc f) (use_sight (state_of d) f slot) sees
    (parts.drain_sight d.epc d.tracks f) (is_spent_at d.versions))) (slot_seen d slot pages)
    ∙ by_entry (use_sight (state_of d) f slot) (slot_sight (state_of d) slot) (nat_le (length d.epc) f) (is_spent_at d.versions)
    (entry_at d.epc f) numbered
  where
    by_entry : (uses : UseSight) (sees : SlotSight) (beyond spent : Bool) (v : EntryView) → IsNumbered (held v)
        → ewbstart_by beyond v uses sees (drain_of d.tracks v) spent ≡ ewbstart_by beyond v uses sees (drain_by (state_of d) v) spent
    by_entry uses sees beyond spent views.Free h = refl
    by_entry uses sees beyond spent (views.Loading page) h = refl
    by_entry uses sees beyond spent (views.Valid page kinds.Secs perm None sealing) h = refl
    by_entry uses sees beyond spent (views.Valid page kinds.Va perm None sealing) h = refl
    by_entry uses sees beyond spent (views.Valid page kinds.Tcs perm None sealing) h = refl
    by_entry uses sees beyond spent (views.Valid page kinds.Reg perm None sealing) h = refl
    by_entry uses sees beyond spent (views.Valid page kinds.Secs perm (Some b) sealing) h = refl
    by_entry uses sees beyond spent (views.Valid page kinds.Va perm (Some b) sealing) h = refl
    by_entry uses sees beyond spent (views.Valid page kinds.Tcs perm (Some b) sealing) h = ap (λ drain.
        ewbstart_by beyond (views.Valid page kinds.Tcs perm (Some b) sealing) uses sees drain spent)
        (drain_at d page b places few tracked h)
    by_entry uses sees beyond spent (views.Valid page kinds.Reg perm (Some b) sealing) h = ap (λ drain.
        ewbstart_by beyond (views.Valid page kinds.Reg perm (Some b) sealing) uses sees drain spent)
        (drain_at d page b places few tracked h)

-- the row of the start of ELDU
pub eldstart_row_at : (d : Parts) (f : ℕ) (page : Page) (slot : SlotAt) → AreVaPages d.epc d.va.pages
    → first_of_row (eldstart_row (sight_in d.epc f) (parts.load_sight d.epc d.va.made d.secs page) (parts.slot_sight d.epc d.va.pages slot))
    ≡ first_of_row (eldstart_row (sight (state_of d) f) (load_sight (state_of d) page) (slot_sight (state_of d) slot))
eldstart_row_at d f page slot pages =
    ap (λ load. first_of_row (eldstart_row (sight_in d.epc f) load (parts.slot_sight d.epc d.va.pages slot))) (load_seen d page)
    ∙ ap (λ sees. first_of_row (eldstart_row (sight_in d.epc f) (load_sight (state_of d) page) sees)) (slot_seen d slot pages)

-- ---- the page that goes out of a frame

-- a frame whose page goes out holds what the entry names
pub leaving_page : (d : Parts) (f : ℕ) (page : Page) (kind : Kind) (perm : Perm) (blocked : Option ℕ) (sealing : Bool)
    → ((n : ℕ) → IsNamedFor (entry_at d.epc n)) → entry_at d.epc f ≡ views.Valid page kind perm blocked sealing
    → page_there ((state_of d).content f) ≡ Some page
leaving_page d f page kind perm blocked sealing named at =
    ap (λ v. page_there (held v)) at ∙ by_kind kind (subst IsNamedFor at (named f))
  where
    by_kind : (kind : Kind) → IsNamedFor (views.Valid page kind perm blocked sealing) → page_there (content_of page kind perm) ≡ Some page
    by_kind kinds.Tcs h = refl
    by_kind kinds.Reg h = refl
    by_kind kinds.Va h = ap Some (let same : va_page page.number ≡ page = λ i. record { enclave = sym h i; number = page.number } in same)
    by_kind kinds.Secs h = ap Some (let same : secs_page page.enclave
        ≡ page = λ i. record { enclave = page.enclave; number = sym h i } in same)

-- a page that was added has a number of its enclave
pub page_below : (d : Parts) (g : Page) (x : SecsState) → IsTable d.secs → enclave_at d.secs g.enclave ≡ Some x
    → is_some ((state_of d).added g) ≡ true → g.number < page_count x.size
page_below d g x table found added =
    let there : is_some (added_at x g.number) ≡ true = ap (λ o. is_some (added_in o g.number)) (sym found) ∙ added in
    added_below x g.number (table.own g.enclave x found).sound (λ none. false≢true (ap is_some (sym none) ∙ there))

some_there : (o : Option BareStart) (P : BareStart → Type 0) → IsSomeAnd o P → is_some o ≡ true
some_there None P h = absurd h
some_there (Some x) P h = refl

-- a frame whose page goes out, and one that loads, has a start
pub start_out : (s : State) (f : ℕ) → IsGuarded s → s.is_sealing f ≡ true → is_some (s.start f) ≡ true
start_out s f guarded leaves = some_there (s.start f) WritesOut (guarded.written f leaves)

pub start_in : (s : State) (f : ℕ) → IsGuarded s → is_loading (s.content f) ≡ true → is_some (s.start f) ≡ true
start_in s f guarded loads = let w = waits_for (s.content f) loads in some_there (s.start f) (Loads w.0) (guarded.loaded f w.0 w.1)

-- .. and it loads the page for which the frame waits
pub loads_in : (s : State) (f : ℕ) (start : BareStart) → IsGuarded s → is_loading (s.content f) ≡ true → s.start f ≡ Some start
    → is_some start.loads ≡ true
loads_in s f start guarded loads opened =
    let w = waits_for (s.content f) loads in
    let told : start.loads ≡ Some w.0 = rw opened at (guarded.loaded f w.0 w.1) in ap is_some told
