-- What rows see of a page that was taken, where driver and machine agree.
use Rattle.std.proofs.Common.{◌≡◌, ℕ, ◌<◌, ◌≤◌, ◌==◌, ◌&&◌, ◌||◌, Bool, true, false, refl, sym, ◌∙◌, ap, subst, List}
use Rattle.std.proofs.Common.{Option, Some, None, nat_le, leb, arith}
use Rattle.std.proofs.lemmas.Bool.{eq-eqb, eqb-true, false≢true, leb-false, leb-true}
use Rattle.std.proofs.lemmas.Option.{none-some, same_Some}
use Rattle.sgx_types.proofs.CountLaws.{any_below-none}
use Rattle.sgx_types.proofs.Pages.{same_page-refl, same_pages}
use Rattle.sgx_types.proofs.Truths.{neither}
use Rattle.sgx_types.specs.Counts.{any_below}
use Rattle.sgx_types.specs.Making.{Making}
use Rattle.sgx_types.specs.Pages.{is_own_page, same_page, secs_page, va_page}
use Rattle.sgx_types.specs.declared.names.Page.{Page}
use Rattle.sgx_types.specs.declared.names.SlotAt.{SlotAt}
use Rattle.sgx_types.specs.declared.names.VaSlot.{VaSlot}
use Rattle.sgx_rules.proofs.Busy.{idle_free, StaysIn}
use Rattle.sgx_rules.proofs.Contents.{free_is, IsHeld}
use Rattle.sgx_rules.proofs.Keystone.{epochs_tell}
use Rattle.sgx_rules.specs.declared.entries.Entry.{Entry}
use Rattle.sgx_rules.specs.inner.ByEpochs.{up_to_block}
use Rattle.sgx_rules.specs.inner.Epochs.{block_epoch}
use Rattle.sgx_rules.specs.inner.Slots.{IsIdle}
use Rattle.sgx_rules.specs.Epochs.{epoch, epoch_in, epoch_of}
use Rattle.sgx_rules.specs.Eviction.{kept_back}
use Rattle.sgx_rules.specs.Frames.{Content, content, enclave_in, Free, Holds, is_free, is_sealing, IsLoading, IsVa, SecsOf, stands}
use Rattle.sgx_rules.specs.Rules.{Along, FitsRule}
use Rattle.sgx_rules.specs.Sights.{children_under, drain_sight_at, use_sight_at}
use Rattle.sgx_rules.specs.Sights.{is_in_use as is_in_use_at}
use Rattle.sgx_rules.specs.Slots.{is_busy_of, is_of_va, is_va_of, names_slot, open_slot}
use Rattle.sgx_rules.specs.Slots.{slot_of as slot_of_start}
use Rattle.sgx_rules.specs.Starts.{open_start, slot_found, slot_in, Start}
use Rattle.sgx_rules.specs.Table.{is_va, SlotSight}
use Rattle.job_grammar.specs.Jobs.{JobView}
use Rattle.sgx_types.specs.Pages.{frame_at}
use Rattle.machine_laws.proofs.ColumnLaws.{blocked_is, content_is, epoch_is}
use Rattle.machine_laws.proofs.ShapeLaws.{drained_by, noting_agrees}
use Rattle.machine_laws.specs.inner.Columns.{HasColumns}
use Rattle.machine_laws.specs.inner.State.{drain_sight, is_in_use, number_up_to, place_at, use_sight}
use Rattle.sgx_machine.specs.inner.Parts.{Parts, state_of}
use Rattle.driver_rules.specs.Places.{Absent, Away, frame_here, Here, is_here, Leaving, Loading, Place, place}
use Rattle.driver_rules.specs.Targets.{at_frame, slot_here}
use Rattle.driver_laws.proofs.AloneLaws.{free_none}
use Rattle.driver_laws.proofs.DueLaws.{IsWithin}
use Rattle.driver_laws.proofs.RowLaws.{own_held}
use Rattle.driver_laws.proofs.StillLaws.{holds_here}
use Rattle.driver_laws.proofs.WithinLaws.{within_past}
use Rattle.driver_laws.specs.inner.Sound.{is_write_start, IsSound, stands_in}
use Rattle.driver_tables.specs.declared.driver.Driver.{Driver}
use Rattle.driver_tables.proofs.PartLaws.{held_within}
use Rattle.driver_tables.proofs.SightLaws.{slot_is}
use Rattle.driver_tables.specs.inner.Agrees.{Agrees}

-- what stands in a frame uses it
pub stands_used : (c : Content) (g : Page) → stands c g ≡ true → is_free c ≡ false
stands_used Free g h = absurd (false≢true h)
stands_used (IsLoading page) g h = absurd (false≢true h)
stands_used (IsVa number) g h = refl
stands_used (SecsOf enclave) g h = refl
stands_used (Holds page kind perm) g h = refl

-- ---- slots that are found

-- a slot whose page is here is found by the frame of that page
pub record IsHereAt (past : List Entry) (slot : VaSlot) (at : SlotAt) : Type 0 where
  pub found : slot_found (content past) at ≡ Some slot
  pub here : is_here (place past (va_page slot.va)) ≡ true
  pub array : content past at.frame.0 ≡ IsVa slot.va
  pub index : at.index ≡ slot.index

-- a frame in which one of the few version array pages stands holds that
array_there : (past : List Entry) (n va : ℕ) → IsSound past → va < 9 → stands (content past n) (va_page va) ≡ true
    → content past n ≡ IsVa va
array_there past n va s few h = by_content (content past n) refl h
  where
    by_content : (c : Content) → content past n ≡ c → stands c (va_page va) ≡ true → content past n ≡ IsVa va
    by_content (IsVa k) is stood = is ∙ ap (λ (g : Page). IsVa g.number) (same_pages (va_page k) (va_page va) stood)
    by_content (Holds page kind perm) is stood =
        absurd (false≢true (sym (ap is_own_page (same_pages page (va_page va) stood)) ∙ s.held n page kind perm is))
    by_content (SecsOf e) is stood =
        let last : 4294967295 ≡ va = ap (λ (g : Page). g.number) (same_pages (secs_page e) (va_page va) stood) in
        absurd (omega (arith, few, last))
    by_content Free is stood = absurd (false≢true stood)
    by_content (IsLoading page) is stood = absurd (false≢true stood)

pub here_at : (past : List Entry) (slot : VaSlot) (at : SlotAt) → IsSound past → slot.va < 9 → slot_here past slot ≡ Some at
    → IsHereAt past slot at
here_at past slot at s few told = by_place (place past (va_page slot.va)) refl told
  where
    by_frame : (n : ℕ) → place past (va_page slot.va) ≡ Here n → record { frame = frame_at n; index = slot.index } ≡ at
        → IsHereAt past slot at
    by_frame n is same = record {
      found = ap (λ c. slot_in c at.index) held ∙ ap (λ i. Some (record { va = slot.va; index = i })) (sym index);
      here = ap is_here is;
      array = held;
      index = sym index;
    }
      where
        index : slot.index ≡ at.index
        index = ap (λ (x : SlotAt). x.index) same

        frame : n ≡ at.frame.0
        frame = ap (λ (x : SlotAt). x.frame.0) same

        held : content past at.frame.0 ≡ IsVa slot.va
        held =
            array_there past at.frame.0 slot.va s few
            (holds_here past (va_page slot.va) (Here n) at.frame.0 s is (eq-eqb n at.frame.0 frame))

    by_place : (p : Place) → place past (va_page slot.va) ≡ p → at_frame slot.index (frame_here p) ≡ Some at → IsHereAt past slot at
    by_place (Here n) is h = by_frame n is (same_Some (record { frame = frame_at n; index = slot.index }) at h)
    by_place Absent is h = cc
    by_place (Leaving n) is h = cc
    by_place (Loading n t) is h = cc
    by_place (Away t) is h = cc

-- .. and one whose page is here has its frame
pub has_frame : (past : List Entry) (slot : VaSlot) → is_here (place past (va_page slot.va)) ≡ true
    → (at : SlotAt) × (slot_here past slot ≡ Some at)
has_frame past slot here = by_place (place past (va_page slot.va)) here
  where
    by_place : (p : Place) → is_here p ≡ true → (at : SlotAt) × (at_frame slot.index (frame_here p) ≡ Some at)
    by_place (Here n) h = (record { frame = frame_at n; index = slot.index }, refl)
    by_place Absent h = cc
    by_place (Leaving n) h = cc
    by_place (Loading n t) h = cc
    by_place (Away t) h = cc

-- ---- where driver and machine agree

module _ (made : Making) (j : JobView) (past : List Entry) (d : Driver) (m : Parts) (a : Agrees made j past d m) where
  pub columns : HasColumns (state_of m) past
  columns = a.follows.shape.columns

  pub frames_are : (state_of m).frames ≡ j.epc
  frames_are = ap (λ (x : Making). x.frames) a.follows.shape.making ∙ a.frames

  -- the entries fit the machine's frames
  pub fits : Along (FitsRule (state_of m).frames) past
  fits = subst (λ (x : Making). Along (FitsRule x.frames) past) (sym a.follows.shape.making) a.follows.frames

  -- what is used is a frame of the machine's
  pub used_within : (n : ℕ) → is_free (content past n) ≡ false → nat_le (state_of m).frames n ≡ false
  used_within n used = held_within m n (ap is_free (content_is columns n) ∙ used)

  pub leaving_within : (g : Page) (f : ℕ) → place past g ≡ Leaving f → nat_le (state_of m).frames f ≡ false
  leaving_within g f at =
      used_within f (stands_used (content past f) g (holds_here past g (Leaving f) f a.sound at (eq-eqb f f refl)))

  -- past the frames of the EPC nothing is held, and no start is open
  pub none_past : (n : ℕ) → j.epc ≤ n → content past n ≡ Free
  none_past n beyond = by_test (is_free (content past n)) refl
    where
      by_test : (b : Bool) → is_free (content past n) ≡ b → content past n ≡ Free
      by_test true is = free_is (content past n) is
      by_test false is =
          let low : n < (state_of m).frames = leb-false (state_of m).frames n (used_within n is) in
          absurd (omega (arith, low, beyond, frames_are))

  pub within : IsWithin j.epc past
  within = within_past j.epc past a.sound none_past

  pub starts_within : (n : ℕ) (x : Start) → open_start past n ≡ Some x → n < j.epc
  starts_within n x opened = by_test (nat_le j.epc n) refl
    where
      by_test : (b : Bool) → nat_le j.epc n ≡ b → n < j.epc
      by_test false is = leb-false j.epc n is
      by_test true is = absurd (none-some x (sym (free_none past n a.sound (none_past n (leb-true j.epc n is))) ∙ opened))

  -- ---- tracking

  kept_back_by : (n : ℕ) → number_up_to (state_of m) (enclave_in ((state_of m).content n)) ((state_of m).blocked n) ≡ kept_back past n
  kept_back_by n =
      rw (content_is columns n, blocked_is columns n)
      (by_block (enclave_in (content past n)) (block_epoch (state_of m).first_epoch past n)
      ∙ sym ((epochs_tell (state_of m).first_epoch past).kept_back n))
    where
      by_block : (c b : Option ℕ) → number_up_to (state_of m) c b ≡ up_to_block (state_of m).first_epoch past c b
      by_block None b = refl
      by_block (Some enclave) None = refl
      by_block (Some enclave) (Some b) = noting_agrees (state_of m) past columns enclave (λ k. leb k b)

  epoch_by : (n : ℕ) → epoch_of (state_of m).epoch (enclave_in ((state_of m).content n)) ≡ epoch_in (state_of m).first_epoch past n
  epoch_by n = rw (content_is columns n) (by_enclave (enclave_in (content past n)))
    where
      by_enclave : (c : Option ℕ) → epoch_of (state_of m).epoch c ≡ epoch_of (epoch (state_of m).first_epoch past) c
      by_enclave None = refl
      by_enclave (Some enclave) = epoch_is columns enclave

  pub drain_sees : (n : ℕ) → drain_sight (state_of m) n ≡ drain_sight_at (state_of m).first_epoch past n
  drain_sees n i = record {
    epoch = epoch_by n i;
    kept_back = kept_back_by n i;
    is_drained = drained_by (state_of m) past columns n i;
  }

  -- ---- the uses of a frame

  uses_by : (f : ℕ) (at : SlotAt) → is_in_use (state_of m) f ≡ is_in_use_at (state_of m).frames past (content past f)
      → use_sight (state_of m) f at ≡ use_sight_at (state_of m).frames past f at
  uses_by f at same i = record {
    is_in_use = same i;
    is_its_own = f == at.frame.0;
    children = children_under (state_of m).frames (columns.frames i).content ((columns.frames i).content f);
  }

  -- a TCS or REG page has no slots
  pub uses_own : (g : Page) (f : ℕ) (at : SlotAt) → is_own_page g ≡ true → place past g ≡ Leaving f
      → use_sight (state_of m) f at ≡ use_sight_at (state_of m).frames past f at
  uses_own g f at own leaving = uses_by f at (none (content_is columns f ∙ held.holds)
      ∙ sym (ap (is_in_use_at (state_of m).frames past) held.holds))
    where
      held : IsHeld (content past f) g
      held = own_held (content past f) g own (holds_here past g (Leaving f) f a.sound leaving (eq-eqb f f refl))

      none : (state_of m).content f ≡ Holds g held.kind held.perm → is_in_use (state_of m) f ≡ false
      none is = ap (λ c. is_va c && any_below (λ index. (state_of m).is_slot_named (place_at f index)) 512) is

  -- of a page that leaves with no start open no start names a slot
  module _ (g : Page) (f : ℕ) (leaving : place past g ≡ Leaving f) (none : open_start past f ≡ None) where
    gone : (h : Page) → same_page h g ≡ true → is_here (place past h) ≡ false
    gone h same = ap (λ (p : Page). is_here (place past p)) (same_pages h g same) ∙ ap is_here leaving

    -- no start names one of its slots
    unnamed : (va : ℕ) → is_here (place past (va_page va)) ≡ false → (n : ℕ) → is_of_va (open_slot past n) va ≡ false
    unnamed va away n = by_start (open_start past n) refl
      where
        by_test : (x : Start) (b : Bool) → open_start past n ≡ Some x → (x.slot.va == va) ≡ b → b ≡ false
        by_test x false opened is = refl
        by_test x true opened is =
            absurd (false≢true (sym away ∙ ap (λ k. is_here (place past (va_page k))) (sym (eqb-true x.slot.va va is))
            ∙ a.sound.arrays.named n x opened))

        by_start : (o : Option Start) → open_start past n ≡ o → is_of_va (slot_of_start o) va ≡ false
        by_start None opened = refl
        by_start (Some x) opened = by_test x (x.slot.va == va) opened refl

    idle : (va index : ℕ) → is_here (place past (va_page va)) ≡ false → IsIdle past (record { va = va; index = index })
    idle va index away n = by_slot (open_slot past n) (unnamed va away n)
      where
        by_both : (b c : Bool) → b ≡ false → (b && c) ≡ false
        by_both false c is = refl
        by_both true c is = absurd (false≢true (sym is))

        by_slot : (o : Option VaSlot) → is_of_va o va ≡ false → names_slot o (record { va = va; index = index }) ≡ false
        by_slot None is = refl
        by_slot (Some s) is = by_both (s.va == va) (s.index == index) is

    stays : (va : ℕ) → content past f ≡ IsVa va → same_page (va_page va) g ≡ true → StaysIn past va
    stays va held same n = by_content (content past n) refl
      where
        still : is_sealing past f ≡ false
        still = a.pages.sealing f ∙ ap is_write_start none

        by_number : (k : ℕ) (b : Bool) → (k == va) ≡ b → content past n ≡ IsVa k → (b && is_sealing past n) ≡ false
        by_number k false is at = refl
        by_number k true is at =
            let stood : stands (content past n) (va_page va) ≡ true =
            ap (λ c. stands c (va_page va)) (at ∙ ap IsVa (eqb-true k va is)) ∙ same_page-refl (va_page va) in
            let placed : stands_in (Leaving f) n ≡ true =
            sym (ap (λ p. stands_in p n) (ap (place past) (same_pages (va_page va) g same) ∙ leaving)) ∙ sym
            (a.sound.places.frames (va_page va) n) ∙ stood in
            ap (is_sealing past) (sym (eqb-true f n placed)) ∙ still

        by_content : (c : Content) → content past n ≡ c → (is_va_of c va && is_sealing past n) ≡ false
        by_content (IsVa k) is = by_number k (k == va) refl is
        by_content Free is = refl
        by_content (SecsOf enclave) is = refl
        by_content (Holds page kind perm) is = refl
        by_content (IsLoading page) is = refl

    unused : (va : ℕ) → content past f ≡ IsVa va → same_page (va_page va) g ≡ true → is_in_use (state_of m) f ≡ false
    unused va held same =
        ap (λ c. is_va c && any_below (λ index. (state_of m).is_slot_named (place_at f index)) 512) there
        ∙ any_below-none (λ index. (state_of m).is_slot_named (place_at f index)) 512 (λ index low. free index low)
      where
        there : (state_of m).content f ≡ IsVa va
        there = content_is columns f ∙ held

        free : (index : ℕ) → index < 512 → (state_of m).is_slot_named (place_at f index) ≡ false
        free index low =
            (neither ((state_of m).is_slot_named (place_at f index)) ((state_of m).is_sealing f)
            (sym (ap (λ c. is_va c && ((state_of m).is_slot_named (place_at f index) || (state_of m).is_sealing f)) there)
            ∙ ap (λ (x : SlotSight). x.is_busy) (slot_is made j past d m a (place_at f index) low)
            ∙ ap (λ c. is_busy_of (state_of m).frames past (slot_in c index)) held
            ∙ idle_free (state_of m).frames past (record { va = va; index = index }) (idle va index (gone (va_page va) same))
            (stays va held same))).0

    pub uses_aside : (at : SlotAt) → use_sight (state_of m) f at ≡ use_sight_at (state_of m).frames past f at
    uses_aside at =
        uses_by f at (by_content (content past f) refl (holds_here past g (Leaving f) f a.sound leaving (eq-eqb f f refl)))
      where
        plain : (c : Content) → content past f ≡ c → is_va c ≡ false → is_in_use (state_of m) f ≡ false
        plain c is none_va =
            ap (λ x. is_va x && any_below (λ index. (state_of m).is_slot_named (place_at f index)) 512) (content_is columns f ∙ is)
            ∙ ap (λ b. b && any_below (λ index. (state_of m).is_slot_named (place_at f index)) 512) none_va

        by_content : (c : Content) → content past f ≡ c → stands c g ≡ true
            → is_in_use (state_of m) f ≡ is_in_use_at (state_of m).frames past (content past f)
        by_content (IsVa va) is stood =
            unused va is stood
            ∙ sym (ap (is_in_use_at (state_of m).frames past) is
            ∙ any_below-none (λ n. is_of_va (open_slot past n) va) (state_of m).frames (λ n low. unnamed va (gone (va_page va) stood) n))
        by_content Free is stood = plain Free is refl ∙ sym (ap (is_in_use_at (state_of m).frames past) is)
        by_content (SecsOf e) is stood = plain (SecsOf e) is refl ∙ sym (ap (is_in_use_at (state_of m).frames past) is)
        by_content (Holds page kind perm) is stood =
            plain (Holds page kind perm) is refl ∙ sym (ap (is_in_use_at (state_of m).frames past) is)
        by_content (IsLoading page) is stood = plain (IsLoading page) is refl ∙ sym (ap (is_in_use_at (state_of m).frames past) is)
