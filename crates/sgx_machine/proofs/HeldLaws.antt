-- What is in frames stays as the machine's type says of it: where entries stay, where one frame's entry changes, and where an enclave's
-- state is written.
use Rattle.std.proofs.Common.{◌≡◌, ℕ, ◌+◌, ◌-◌, ◌<◌, ◌≤◌, ◌==◌, ◌&&◌, Bool, true, false, cond, refl, sym, ap, subst, ◌∙◌, arith}
use Rattle.std.proofs.Common.{Option, Some, None, IfSome, is_some, List, length, length-set, replicate}
use Rattle.std.specs.Option.{option_map}
use Rattle.std.proofs.lemmas.Bool.{cond_both, eq-eqb, eqb-true, false≢true}
use Rattle.sgx_types.specs.declared.names.Frame.{Frame}
use Rattle.sgx_types.specs.declared.names.Kind.{Kind}
use Rattle.sgx_types.specs.declared.names.Page.{Page}
use Rattle.sgx_types.specs.declared.names.Perm.{Perm}
use Rattle.sgx_types.specs.Pages.{is_own_page, is_va_page}
use Rattle.sgx_types.proofs.Truths.{apart}
use Rattle.sgx_types.specs.declared.names.TheConstants.{MOST_FRAMES}
use Rattle.sgx_types.proofs.CountLaws.{count_below-zero}
use Rattle.sgx_types.proofs.LeastLaws.{least_is}
use Rattle.sgx_rules.specs.Frames.{Content, Free, IsVa, SecsOf, Holds, IsLoading, children, is_child, is_secs_of}
use Rattle.sgx_rules.specs.Table.{is_va}
use Rattle.epcm_entry.specs.declared.entry_view.EntryView.{EntryView}
use Rattle.epcm_entry.specs.inner.Epc.{EpcFrame, entry_at, with_words}
use Rattle.epcm_entry.specs.inner.Sights.{held, held_in}
use Rattle.epcm_entry.proofs.Columns.{entry_at-with_words, length-with_words}
use Rattle.secs_state.specs.inner.Resident.{AreCounted, IsCountedIn}
use Rattle.secs_state.specs.inner.Secs.{SecsState}
use Rattle.secs_state.specs.inner.Table.{enclave_at, with_enclave}
use Rattle.secs_state.proofs.Columns.{enclave_at-with_enclave}
use Rattle.version_array.specs.inner.Slots.{VaArrays, empty_page, up_to, with_page}
use Rattle.version_array.specs.declared.va_page.SlotState.{SlotState}
use Rattle.std.proofs.lemmas.List.{length-append, length-replicate}
use Rattle.evict_reload.specs.inner.Effects.{SameBeside, beside}
use Rattle.evict_reload.specs.inner.Sights.{AreCountedIn, AreVaPages, HaveEnclaves, owner_in}
use Rattle.secs_state.proofs.Counted.{counted_put}
use Rattle.sgx_machine.specs.inner.Whole.{AreHeld, IsNamedFor}

-- ---- places for version array pages

-- there are no more than the EPC may have frames
pub few_places : (va : VaArrays) → length va.pages ≡ cond (va.made == 0) 0 MOST_FRAMES → length va.pages ≤ MOST_FRAMES
few_places va places = rw places (by_test (va.made == 0))
  where
    by_test : (b : Bool) → cond b 0 MOST_FRAMES ≤ MOST_FRAMES
    by_test true = omega arith
    by_test false = omega arith

-- .. and as many once one is made
pub places_made : (va : VaArrays) (f : ℕ) → length va.pages ≡ cond (va.made == 0) 0 MOST_FRAMES
    → length (with_page va.pages f) ≡ cond (va.made + 1 == 0) 0 MOST_FRAMES
places_made va f places =
    rw (apart (va.made + 1) 0 (λ none. omega (arith, none)))
    (omega (
      arith,
      length-set (up_to MOST_FRAMES va.pages) f (Some empty_page),
      length-append va.pages (replicate (MOST_FRAMES - length va.pages) no_page),
      length-replicate (MOST_FRAMES - length va.pages) no_page,
      few_places va places,
    ))
  where
    no_page : Option (List SlotState)
    no_page = None

-- once one was made the frames of the EPC have their places
pub placed : (va : VaArrays) (f : ℕ) → length va.pages ≡ cond (va.made == 0) 0 MOST_FRAMES → 0 < va.made → f < MOST_FRAMES
    → f < length va.pages
placed va f places some low = rw (places, apart va.made 0 (λ none. omega (arith, none, some))) low

-- ---- entries that hold what they held

module _ (epc epc' : List EpcFrame) (frames : length epc' ≡ length epc) (same : (n : ℕ) → held_in epc' n ≡ held_in epc n) where
  pub counted_same : (secs : List (Option SecsState)) → AreCountedIn epc secs → AreCountedIn epc' secs
  counted_same secs counted =
      subst (λ count. AreCounted count (held_in epc') secs) (sym frames)
      (subst (λ hold. AreCounted (length epc) hold secs) (sym (let all : held_in epc' ≡ held_in epc = λ i n. same n i in all)) counted)

  pub owned_same : (secs : List (Option SecsState)) → HaveEnclaves epc secs → HaveEnclaves epc' secs
  owned_same secs owned n = rw (same n) (owned n)

  pub held_same : (secs : List (Option SecsState)) (va va' : VaArrays) → AreVaPages epc' va'.pages
      → length va'.pages ≡ cond (va'.made == 0) 0 MOST_FRAMES → ((n : ℕ) → IsNamedFor (entry_at epc' n)) → AreHeld epc secs va
      → AreHeld epc' secs va'
  held_same secs va va' pages places named h = record {
    pages = pages;
    places = places;
    small = rw frames h.small;
    counted = counted_same secs h.counted;
    owned = owned_same secs h.owned;
    named = named;
  }

-- .. and have not changed at all
pub held_still : (epc epc' : List EpcFrame) (secs : List (Option SecsState)) (va : VaArrays) → length epc' ≡ length epc
    → ((n : ℕ) → entry_at epc' n ≡ entry_at epc n) → AreHeld epc secs va → AreHeld epc' secs va
held_still epc epc' secs va frames same h =
    held_same epc epc' frames (λ n. ap held (same n)) secs va va (λ n. h.pages n ∙ ap (λ v. is_va (held v)) (sym (same n)))
    h.places (λ n. subst IsNamedFor (sym (same n)) (h.named n)) h

-- .. but for the words of a frame
pub held_words : (epc : List EpcFrame) (f : ℕ) (words : List ℕ) (secs : List (Option SecsState)) (va : VaArrays) → AreHeld epc secs va
    → AreHeld (with_words epc f words) secs va
held_words epc f words secs va h =
    held_still epc (with_words epc f words) secs va (length-with_words epc f words) (λ n. entry_at-with_words epc f n words) h

-- ---- a frame's entry becomes another

pub named_put : (epc epc' : List EpcFrame) (f : ℕ) (v : EntryView) → ((n : ℕ) → entry_at epc' n ≡ cond (f == n) v (entry_at epc n))
    → IsNamedFor v → ((n : ℕ) → IsNamedFor (entry_at epc n)) → (n : ℕ) → IsNamedFor (entry_at epc' n)
named_put epc epc' f v put named h n =
    subst IsNamedFor (sym (put n)) (cond_both (f == n) v (entry_at epc n) IsNamedFor (λ _. named) (λ _. h n))

pub owned_put : (epc epc' : List EpcFrame) (secs secs' : List (Option SecsState)) (f : ℕ) (v : EntryView)
    → ((n : ℕ) → entry_at epc' n ≡ cond (f == n) v (entry_at epc n))
    → IfSome (owner_in (held v)) (λ e. is_some (enclave_at secs' e) ≡ true)
    → ((e : ℕ) → is_some (enclave_at secs e) ≡ true → is_some (enclave_at secs' e) ≡ true) → HaveEnclaves epc secs → HaveEnclaves epc' secs'
owned_put epc epc' secs secs' f v put owned still h n =
    subst (λ w. IfSome (owner_in (held w)) (λ e. is_some (enclave_at secs' e) ≡ true)) (sym (put n))
    (cond_both (f == n) v (entry_at epc n) (λ w. IfSome (owner_in (held w)) (λ e. is_some (enclave_at secs' e) ≡ true)) (λ _. owned)
    (λ _. more (owner_in (held_in_entry n)) (h n)))
  where
    held_in_entry : ℕ → Content
    held_in_entry n = held (entry_at epc n)

    more : (o : Option ℕ) → IfSome o (λ e. is_some (enclave_at secs e) ≡ true) → IfSome o (λ e. is_some (enclave_at secs' e) ≡ true)
    more None k = tt
    more (Some e) k = still e k

pub held_put : (epc epc' : List EpcFrame) (secs secs' : List (Option SecsState)) (va va' : VaArrays) (f : ℕ) (v : EntryView)
    → length epc' ≡ length epc → ((n : ℕ) → entry_at epc' n ≡ cond (f == n) v (entry_at epc n)) → AreVaPages epc' va'.pages
    → length va'.pages ≡ cond (va'.made == 0) 0 MOST_FRAMES → AreCountedIn epc' secs'
    → IfSome (owner_in (held v)) (λ e. is_some (enclave_at secs' e) ≡ true)
    → ((e : ℕ) → is_some (enclave_at secs e) ≡ true → is_some (enclave_at secs' e) ≡ true) → IsNamedFor v → AreHeld epc secs va
    → AreHeld epc' secs' va'
held_put epc epc' secs secs' va va' f v frames put pages places counted owned still named h = record {
  pages = pages;
  places = places;
  small = rw frames h.small;
  counted = counted;
  owned = owned_put epc epc' secs secs' f v put owned still h.owned;
  named = named_put epc epc' f v put named h.named;
}

-- ---- enclaves' states that count as they did

pub record CountsAs (x y : SecsState) : Type 0 where
  pub children : y.children ≡ x.children
  pub frame : y.frame ≡ x.frame

pub counts_as : (frames : ℕ) (holds : ℕ → Content) (e : ℕ) (x y : SecsState) → CountsAs x y → IsCountedIn frames holds e x
    → IsCountedIn frames holds e y
counts_as frames holds e x y same h =
    record { children = same.children ∙ h.children; frame = ap (option_map (λ (f : Frame). f.0)) same.frame ∙ h.frame }

module _ (table : List (Option SecsState)) (e : ℕ) (x y : SecsState) (eight : length table ≡ 8) (first : 1 ≤ e) (last : e ≤ 8)
    (found : enclave_at table e ≡ Some x) where
  -- an enclave that is there stays
  pub still_there : (n : ℕ) → is_some (enclave_at table n) ≡ true → is_some (enclave_at (with_enclave table e y) n) ≡ true
  still_there n is =
      rw (enclave_at-with_enclave table e n y eight first last)
      (cond_both (e == n) (Some y) (enclave_at table n) (λ o. is_some o ≡ true) (λ _. refl) (λ _. is))

  pub counted_written : (frames : ℕ) (holds : ℕ → Content) → CountsAs x y → AreCounted frames holds table
      → AreCounted frames holds (with_enclave table e y)
  counted_written frames holds same h n =
      rw (enclave_at-with_enclave table e n y eight first last)
      (cond_both (e == n) (Some y) (enclave_at table n) (λ o. IfSome o (IsCountedIn frames holds n))
      (λ is. counts_as frames holds n x y same
      (subst (λ o. IfSome o (IsCountedIn frames holds n)) (ap (enclave_at table) (sym (eqb-true e n is)) ∙ found) (h n)))
      (λ _. h n))

  pub held_written : (epc : List EpcFrame) (va : VaArrays) → CountsAs x y → AreHeld epc table va → AreHeld epc (with_enclave table e y) va
  held_written epc va same h = record {
    pages = h.pages;
    places = h.places;
    small = h.small;
    counted = counted_written (length epc) (held_in epc) same h.counted;
    owned = λ n. more (owner_in (held_in epc n)) (h.owned n);
    named = h.named;
  }
    where
      more : (o : Option ℕ) → IfSome o (λ k. is_some (enclave_at table k) ≡ true)
          → IfSome o (λ k. is_some (enclave_at (with_enclave table e y) k) ≡ true)
      more None k = tt
      more (Some m) k = still_there m k

-- ---- tables that differ in counts alone

pub still_beside : (old new : List (Option SecsState)) → SameBeside old new → (e : ℕ) → is_some (enclave_at old e) ≡ true
    → is_some (enclave_at new e) ≡ true
still_beside old new same e is = by_states (enclave_at new e) (enclave_at old e) (same.each e) is
  where
    by_states : (o p : Option SecsState) → option_map beside o ≡ option_map beside p → is_some p ≡ true → is_some o ≡ true
    by_states None None k there = there
    by_states None (Some x) k there = cc k
    by_states (Some y) p k there = refl

-- ---- a new enclave

-- no frame holds or loads a page of an enclave that was not created, nor its SECS
pub none_owned : (epc : List EpcFrame) (table : List (Option SecsState)) (e n : ℕ) → HaveEnclaves epc table → enclave_at table e ≡ None
    → (is_child (held_in epc n) e ≡ false) × (is_secs_of (held_in epc n) e ≡ false)
none_owned epc table e n owned absent = by_content (held_in epc n) (owned n)
  where
    never : (b : Bool) → (b && false) ≡ false
    never true = refl
    never false = refl

    other : (k : ℕ) → is_some (enclave_at table k) ≡ true → (k == e) ≡ false
    other k is = apart k e (λ same. false≢true (sym (ap is_some (ap (enclave_at table) same ∙ absent)) ∙ is))

    by_content : (c : Content) → IfSome (owner_in c) (λ k. is_some (enclave_at table k) ≡ true)
        → (is_child c e ≡ false) × (is_secs_of c e ≡ false)
    by_content Free owned = (refl, refl)
    by_content (IsVa number) owned = (refl, refl)
    by_content (SecsOf enclave) owned = (refl, other enclave owned)
    by_content (Holds page kind perm) owned = (other page.enclave owned, refl)
    by_content (IsLoading page) owned = (by_kind (is_va_page page) refl owned, refl)
      where
        by_kind : (b : Bool) → is_va_page page ≡ b
            → IfSome (cond b None (Some page.enclave)) (λ k. is_some (enclave_at table k) ≡ true)
            → (is_own_page page && (page.enclave == e)) ≡ false
        by_kind true va owned = rw va refl
        by_kind false va owned = rw (other page.enclave owned) (never (is_own_page page))

-- how many frames hold or load pages of an enclave
pub children_there : (epc : List EpcFrame) (table : List (Option SecsState)) (e : ℕ) (x : SecsState) → AreCountedIn epc table
    → enclave_at table e ≡ Some x → x.children ≡ children (length epc) (held_in epc) e
children_there epc table e x counted found =
    let k : IsCountedIn (length epc) (held_in epc) e x = subst (λ o. IfSome o (IsCountedIn (length epc) (held_in epc) e)) found
    (counted e) in
    k.children

pub children_none : (epc : List EpcFrame) (table : List (Option SecsState)) (e : ℕ) → HaveEnclaves epc table → enclave_at table e ≡ None
    → 0 ≡ children (length epc) (held_in epc) e
children_none epc table e owned absent =
    sym (count_below-zero (λ n. is_child (held_in epc n) e) (length epc) (λ n low. (none_owned epc table e n owned absent).0))

module _ (epc epc' : List EpcFrame) (table : List (Option SecsState)) (e f : ℕ) (y : SecsState) (low : f < length epc)
    (free : held_in epc f ≡ Free) (frames : length epc' ≡ length epc)
    (put : (n : ℕ) → held_in epc' n ≡ cond (f == n) (SecsOf e) (held_in epc n)) (absent : enclave_at table e ≡ None)
    (owned : HaveEnclaves epc table) where
  -- the new enclave has its SECS in the frame, and no page
  new_counted : y.children ≡ 0 → y.frame ≡ Some (record { 0 = f }) → IsCountedIn (length epc) (held_in epc') e y
  new_counted none here = record {
    children = none ∙ sym (count_below-zero (λ n. is_child (held_in epc' n) e) (length epc) (λ n less. childless n));
    frame = ap (option_map (λ (k : Frame). k.0)) here
        ∙ sym (least_is (λ n. is_secs_of (held_in epc' n) e) (length epc) f
        (record { below = low; passes = passes; least = λ j less. earlier j less }));
  }
    where
      childless : (n : ℕ) → is_child (held_in epc' n) e ≡ false
      childless n = rw (put n) (cond_both (f == n) (SecsOf e) (held_in epc n) (λ c. is_child c e ≡ false) (λ _. refl)
          (λ _. (none_owned epc table e n owned absent).0))

      passes : is_secs_of (held_in epc' f) e ≡ true
      passes = rw (put f, eq-eqb f f refl) (eq-eqb e e refl)

      earlier : (j : ℕ) → j < f → is_secs_of (held_in epc' j) e ≡ false
      earlier j less = rw (put j, apart f j (λ same. omega (arith, less, same))) (none_owned epc table e j owned absent).1

  created_counted : length table ≡ 8 → 1 ≤ e → e ≤ 8 → y.children ≡ 0 → y.frame ≡ Some (record { 0 = f }) → AreCountedIn epc table
      → AreCounted (length epc) (held_in epc') (with_enclave table e y)
  created_counted eight first last none here h n =
      rw (enclave_at-with_enclave table e n y eight first last)
      (cond_both (e == n) (Some y) (enclave_at table n) (λ o. IfSome o (IsCountedIn (length epc) (held_in epc') n))
      (λ is. subst (λ k. IsCountedIn (length epc) (held_in epc') k y) (eqb-true e n is) (new_counted none here))
      (λ other. old (enclave_at table n) other (h n)))
    where
      old : (o : Option SecsState) → (e == n) ≡ false → IfSome o (IsCountedIn (length epc) (held_in epc) n)
          → IfSome o (IsCountedIn (length epc) (held_in epc') n)
      old None other k = tt
      old (Some x) other k =
          counted_put (length epc) (held_in epc) (held_in epc') f (SecsOf e) n x x low put (rw free refl) other refl
          (rw free refl) k

  pub created_in : length table ≡ 8 → 1 ≤ e → e ≤ 8 → y.children ≡ 0 → y.frame ≡ Some (record { 0 = f }) → AreCountedIn epc table
      → AreCountedIn epc' (with_enclave table e y)
  created_in eight first last none here h =
      subst (λ count. AreCounted count (held_in epc') (with_enclave table e y)) (sym frames)
      (created_counted eight first last none here h)

-- ---- a frame that comes to hold no page of an enclave's

pub array_counted : (epc epc' : List EpcFrame) (table : List (Option SecsState)) (f k : ℕ) → f < length epc → held_in epc f ≡ Free
    → length epc' ≡ length epc → ((n : ℕ) → held_in epc' n ≡ cond (f == n) (IsVa k) (held_in epc n)) → AreCountedIn epc table
    → AreCountedIn epc' table
array_counted epc epc' table f k low free frames put h =
    subst (λ count. AreCounted count (held_in epc') table) (sym frames) (λ n. each n (enclave_at table n) (h n))
  where
    each : (n : ℕ) (o : Option SecsState) → IfSome o (IsCountedIn (length epc) (held_in epc) n)
        → IfSome o (IsCountedIn (length epc) (held_in epc') n)
    each n None h = tt
    each n (Some x) h =
        counted_put (length epc) (held_in epc) (held_in epc') f (IsVa k) n x x low put (rw free refl) refl refl (rw free refl) h

-- ---- a page that is added

-- one enclave's counts are right by another state of it, and those of the others stay
pub added_in_counts : (epc epc' : List EpcFrame) (table : List (Option SecsState)) (f : ℕ) (page : Page) (kind : Kind) (perm : Perm)
    (y : SecsState) → f < length epc → held_in epc f ≡ Free → length epc' ≡ length epc
    → ((n : ℕ) → held_in epc' n ≡ cond (f == n) (Holds page kind perm) (held_in epc n)) → length table ≡ 8 → 1 ≤ page.enclave
    → page.enclave ≤ 8 → IsCountedIn (length epc') (held_in epc') page.enclave y → AreCountedIn epc table
    → AreCountedIn epc' (with_enclave table page.enclave y)
added_in_counts epc epc' table f page kind perm y low free frames put eight first last own h n =
    rw (enclave_at-with_enclave table page.enclave n y eight first last)
    (cond_both (page.enclave == n) (Some y) (enclave_at table n) (λ o. IfSome o (IsCountedIn (length epc') (held_in epc') n))
    (λ is. subst (λ k. IsCountedIn (length epc') (held_in epc') k y) (eqb-true page.enclave n is) own)
    (λ other. old (enclave_at table n) other (h n)))
  where
    old : (o : Option SecsState) → (page.enclave == n) ≡ false → IfSome o (IsCountedIn (length epc) (held_in epc) n)
        → IfSome o (IsCountedIn (length epc') (held_in epc') n)
    old None other k = tt
    old (Some x) other k =
        subst (λ count. IsCountedIn count (held_in epc') n x) (sym frames)
        (counted_put (length epc) (held_in epc) (held_in epc') f (Holds page kind perm) n x x low put (rw free refl) refl refl
        (rw (free, other) refl) k)
