-- A keeper that gives a slot to a page that goes out agrees with the entries, and so where a try finds the slot in use.
use Rattle.std.proofs.Common.{◌≡◌, ℕ, ◌==◌, ◌&&◌, ◌||◌, not, Bool, true, false, if◌then◌else◌, refl, sym, ◌⊎◌, inl, inr}
use Rattle.std.proofs.Common.{◌∙◌, ap, subst, List, ◌∷◌, Some, None, length, nat_le, nat_lt}
use Rattle.std.proofs.lemmas.Bool.{false≢true, or_left, or_right}
use Rattle.std.proofs.lemmas.Option.{none-some, same_Some}
use Rattle.sgx_types.proofs.Pages.{same_pages, same_slots}
use Rattle.sgx_types.proofs.Truths.{both_true}
use Rattle.sgx_rules.specs.declared.entries.Action.TheVariants.{EwbStart}
use Rattle.sgx_types.specs.declared.names.Actor.{Actor}
use Rattle.sgx_rules.specs.declared.entries.Answer.{Answer}
use Rattle.sgx_rules.specs.declared.entries.Entry.{Entry}
use Rattle.sgx_rules.specs.declared.entries.Event.TheVariants.{Did, Refused}
use Rattle.sgx_types.specs.declared.names.Frame.{Frame}
use Rattle.sgx_types.specs.declared.names.Page.{Page}
use Rattle.sgx_types.specs.declared.names.SlotAt.{SlotAt}
use Rattle.sgx_types.specs.declared.names.VaSlot.{VaSlot}
use Rattle.sgx_rules.specs.Frames.{Content, content, Free, Holds, IsLoading, IsVa, SecsOf, vas_made}
use Rattle.sgx_types.specs.Pages.{same_page, same_slot, va_page}
use Rattle.sgx_rules.specs.Slots.{names_slot, slot_of as starts_slot, version_in}
use Rattle.sgx_rules.specs.inner.Slots.{IsIdle}
use Rattle.sgx_rules.specs.Starts.{open_start, slot_found, slot_in, started, version_told}
use Rattle.driver_slots.specs.inner.Keeper.{HasSame, is_ours, is_out}
use Rattle.driver_slots.specs.inner.Keeper.{Keeper}
use Rattle.job_grammar.specs.Jobs.{JobView}
use Rattle.driver_rules.specs.Places.{Absent, Away, Here, is_here, Leaving, Loading, Place}
use Rattle.driver_rules.specs.Places.{place}
use Rattle.driver_rules.specs.Spares.{was_occupied}
use Rattle.driver_laws.specs.inner.Agrees.{Keeping, ShowsSlots, stays}
use Rattle.driver_laws.specs.inner.Keeps.{GivesIf, TakesIf}
use Rattle.driver_laws.specs.inner.Kinds.{CanMove}
use Rattle.driver_laws.specs.inner.Sound.{is_absent, IsSound, slot_at, slot_of}
use Rattle.sgx_rules.proofs.Busy.{idle_started}
use Rattle.driver_laws.proofs.SlotLaws.{same_slot-refl}
use Rattle.driver_laws.proofs.SoundLaws.{entry_of}
use Rattle.driver_laws.proofs.SlotMoves.{slot_started, slot_started_other}
use Rattle.driver_laws.proofs.AloneLaws.{alone}
use Rattle.driver_laws.proofs.KeeperRests.{out_is_ours, shows_same}
use Rattle.sgx_rules.specs.declared.refusals.Refusal.TheVariants as why

-- ---- a page goes out

-- a slot is taken where it is the keeper's: by each slot of the keeper
pub record IsMore (old new : Keeper) (slot : VaSlot) : Type 0 where
  pub pages : HasSame old new
  pub was_in : is_ours old slot ≡ true → is_out old slot ≡ false
  pub out : (t : VaSlot) → is_ours old t ≡ true → is_out new t ≡ (same_slot slot t || is_out old t)

pub is_more : (old new : Keeper) (slot : VaSlot) → TakesIf old slot new → IsMore old new slot
is_more old new slot takes = by_ours (is_ours old slot) refl
  where
    by_ours : (b : Bool) → is_ours old slot ≡ b → IsMore old new slot
    by_ours true ours = let t = takes.0 ours in record { pages = t.pages; was_in = λ k. t.was_in; out = λ u k. t.out u }
    by_ours false not_ours = let same = takes.1 not_ours in
        record {
          pages = same.pages;
          was_in = λ k. absurd (false≢true (sym not_ours ∙ k));
          out = λ u k. same.out u ∙ by_test u k (same_slot slot u) refl;
        }
      where
        by_test : (u : VaSlot) → is_ours old u ≡ true → (b : Bool) → same_slot slot u ≡ b → is_out old u ≡ (b || is_out old u)
        by_test u k true is = absurd (false≢true (sym not_ours ∙ ap (is_ours old) (same_slots slot u is) ∙ k))
        by_test u k false is = refl

-- .. is out no more where it is the keeper's
pub record IsLess (old new : Keeper) (slot : VaSlot) : Type 0 where
  pub pages : HasSame old new
  pub out : (t : VaSlot) → is_ours old t ≡ true → is_out new t ≡ (not (same_slot slot t) && is_out old t)

pub is_less : (old new : Keeper) (slot : VaSlot) → GivesIf old slot new → IsLess old new slot
is_less old new slot gives = by_ours (is_ours old slot) refl
  where
    by_ours : (b : Bool) → is_ours old slot ≡ b → IsLess old new slot
    by_ours true ours = let t = gives.0 ours in record { pages = t.pages; out = λ u k. t.out u }
    by_ours false not_ours = let same = gives.1 not_ours in
        record { pages = same.pages; out = λ u k. same.out u ∙ by_test u k (same_slot slot u) refl }
      where
        by_test : (u : VaSlot) → is_ours old u ≡ true → (b : Bool) → same_slot slot u ≡ b → is_out old u ≡ (not b && is_out old u)
        by_test u k true is = absurd (false≢true (sym not_ours ∙ ap (is_ours old) (same_slots slot u is) ∙ k))
        by_test u k false is = refl

-- the page of a slot in which a start finds a place was made
pub found_made : (past : List Entry) (slot : VaSlot) → IsSound past → is_here (place past (va_page slot.va)) ≡ true
    → nat_lt slot.va (vas_made past) ≡ true
found_made past slot sound here = sound.made (va_page slot.va) ∙ by_place (place past (va_page slot.va)) here
  where
    by_place : (p : Place) → is_here p ≡ true → not (is_absent p) ≡ true
    by_place (Here n) h = refl
    by_place Absent h = absurd (false≢true h)
    by_place (Leaving n) h = absurd (false≢true h)
    by_place (Loading n t) h = absurd (false≢true h)
    by_place (Away t) h = absurd (false≢true h)

-- a slot that is found has the index that was named
pub found_index : (past : List Entry) (at : SlotAt) (slot : VaSlot) → slot_found (content past) at ≡ Some slot → slot.index ≡ at.index
found_index past at slot found = by_content (content past at.frame.0) found
  where
    by_content : (c : Content) → slot_in c at.index ≡ Some slot → slot.index ≡ at.index
    by_content (IsVa va) h = sym (ap (λ (t : VaSlot). t.index) (same_Some (record { va = va; index = at.index }) slot h))
    by_content Free h = absurd (none-some slot h)
    by_content (SecsOf e) h = absurd (none-some slot h)
    by_content (Holds page kind perm) h = absurd (none-some slot h)
    by_content (IsLoading page) h = absurd (none-some slot h)

-- the keeper's slots are each one of 512
pub ours_within : (k : Keeping) (j : JobView) (keeper : Keeper) (past : List Entry) (s : VaSlot) → ShowsSlots k j keeper past
    → is_ours keeper s ≡ true → nat_lt s.index 512 ≡ true
ours_within k j keeper past s shows ours =
    (both_true (nat_le (k.firsts s.va) s.index) (nat_lt s.index 512)
    (both_true (nat_lt s.va (vas_made past)) _ (sym (shows.ours s) ∙ ours)).1).1

pub shows_ewbstart : (k : Keeping) (j : JobView) (old new : Keeper) (past : List Entry) (a : Actor) (f : Frame) (to : SlotAt)
    (answer : Answer) → CanMove past (Did (EwbStart f to) answer) → open_start past f.0 ≡ None → nat_lt to.index 512 ≡ true
    → IsSound past → (slot : VaSlot) → slot_found (content past) to ≡ Some slot → is_here (place past (va_page slot.va)) ≡ true
    → IsMore old new slot → ShowsSlots k j old past → ShowsSlots k j new (entry_of a (Did (EwbStart f to) answer) ∷ past)
shows_ewbstart k j old new past a f to answer can none low sound slot found here more s = record {
  ours = λ t. more.pages.ours t ∙ s.ours t;
  placed = λ g t at. by_placed g t (same_page page g) refl at;
  within = λ g t at. by_within g t (same_page page g) refl at;
  tried = s.tried;
  added = λ va. more.pages.added va ∙ s.added va;
  made = s.made;
  out = λ t is. let ours = sym (more.pages.ours t) ∙ out_is_ours new t is in
      by_out t (same_slot slot t) refl (sym (more.out t ours) ∙ is);
  used = λ g t at ours. let k = sym (more.pages.ours t) ∙ ours in more.out t k ∙ by_used g t k (same_page page g) refl at;
  kept = λ t stay ours. let k = sym (more.pages.ours t) ∙ ours in
      more.out t k ∙ or_right (same_slot slot t) (is_out old t) (s.kept t stay k);
  alone = λ g t at ours. by_alone g t (sym (more.pages.ours t) ∙ ours) (same_page page g) refl at;
  empty = λ t ours free. let k = sym (more.pages.ours t) ∙ ours in
      by_empty t k (same_slot slot t) refl (is_out old t) refl (sym (more.out t k) ∙ free);
  here = λ t ours free. let k = sym (more.pages.ours t) ∙ ours in
      by_here t k (same_slot slot t) (is_out old t) refl (sym (more.out t k) ∙ free);
}
  where
    page : Page
    page = can.0.0

    at : place past page ≡ Leaving f.0
    at = can.0.1

    entry : Entry
    entry = entry_of a (Did (EwbStart f to) answer)

    before : slot_of past page ≡ None
    before = ap (slot_at (open_start past)) at ∙ ap starts_slot none

    mine : slot_of (entry ∷ past) page ≡ Some slot
    mine = slot_started past a f to slot answer page found at

    others : (g : Page) → same_page page g ≡ false → slot_of (entry ∷ past) g ≡ slot_of past g
    others g = slot_started_other past a f to answer page g sound at

    apart : (g : Page) (t : VaSlot) (b : Bool) → same_page page g ≡ b → slot_of past g ≡ Some t → same_page page g ≡ false
    apart g t true is k = absurd (none-some t (sym before ∙ ap (slot_of past) (same_pages page g is) ∙ k))
    apart g t false is k = is

    its : (g : Page) (t : VaSlot) → same_page page g ≡ true → slot_of (entry ∷ past) g ≡ Some t → slot ≡ t
    its g t is k = same_Some slot t (sym mine ∙ ap (slot_of (entry ∷ past)) (same_pages page g is) ∙ k)

    by_placed : (g : Page) (t : VaSlot) (b : Bool) → same_page page g ≡ b → slot_of (entry ∷ past) g ≡ Some t
        → nat_lt t.va (vas_made past) ≡ true
    by_placed g t true is k =
        subst (λ (u : VaSlot). nat_lt u.va (vas_made past) ≡ true) (its g t is k) (found_made past slot sound here)
    by_placed g t false is k = s.placed g t (sym (others g is) ∙ k)

    by_within : (g : Page) (t : VaSlot) (b : Bool) → same_page page g ≡ b → slot_of (entry ∷ past) g ≡ Some t → nat_lt t.index 512 ≡ true
    by_within g t true is k =
        subst (λ (u : VaSlot). nat_lt u.index 512 ≡ true) (its g t is k) (ap (λ n. nat_lt n 512) (found_index past to slot found) ∙ low)
    by_within g t false is k = s.within g t (sym (others g is) ∙ k)

    by_stay : (t : VaSlot) → is_ours old t ≡ true → is_out old t ≡ false → (b : Bool) → stays k past t ≡ b → stays k past t ≡ false
    by_stay t ours free true is = absurd (false≢true (sym free ∙ s.kept t is ours))
    by_stay t ours free false is = is

    by_alone : (g : Page) (t : VaSlot) → is_ours old t ≡ true → (b : Bool) → same_page page g ≡ b → slot_of (entry ∷ past) g ≡ Some t
        → stays k past t ≡ false
    by_alone g t ours true is h =
        let one : slot ≡ t = its g t is h in
        let free = ap (is_out old) (sym one) ∙ more.was_in (ap (is_ours old) one ∙ ours) in
        by_stay t ours free (stays k past t) refl
    by_alone g t ours false is h = s.alone g t (sym (others g is) ∙ h) ours

    by_owner : (t : VaSlot) → ((g : Page) × (slot_of past g ≡ Some t)) ⊎ (stays k past t ≡ true)
        → ((g : Page) × (slot_of (entry ∷ past) g ≡ Some t)) ⊎ (stays k past t ≡ true)
    by_owner t (inl owner) = inl (owner.0, others owner.0 (apart owner.0 t (same_page page owner.0) refl owner.1) ∙ owner.1)
    by_owner t (inr stay) = inr stay

    by_out : (t : VaSlot) (b : Bool) → same_slot slot t ≡ b → (b || is_out old t) ≡ true
        → ((g : Page) × (slot_of (entry ∷ past) g ≡ Some t)) ⊎ (stays k past t ≡ true)
    by_out t true is h = inl (page, mine ∙ ap Some (same_slots slot t is))
    by_out t false is h = by_owner t (s.out t h)

    by_used : (g : Page) (t : VaSlot) → is_ours old t ≡ true → (b : Bool) → same_page page g ≡ b → slot_of (entry ∷ past) g ≡ Some t
        → (same_slot slot t || is_out old t) ≡ true
    by_used g t ours true is h =
        or_left (same_slot slot t) (is_out old t) (subst (λ u. same_slot slot u ≡ true) (its g t is h) (same_slot-refl slot))
    by_used g t ours false is h = or_right (same_slot slot t) (is_out old t) (s.used g t (sym (others g is) ∙ h) ours)

    by_empty : (t : VaSlot) → is_ours old t ≡ true → (b : Bool) → same_slot slot t ≡ b → (c : Bool) → is_out old t ≡ c → (b || c) ≡ false
        → (version_in past t ≡ 0) × IsIdle (entry ∷ past) t
    by_empty t ours true is c free h = absurd (false≢true (sym h))
    by_empty t ours false is true free h = absurd (false≢true (sym h))
    by_empty t ours false is false free h =
        let old_one = s.empty t ours free in (
          old_one.0,
          subst
              (λ o. (n : ℕ)
              → names_slot (starts_slot (if f.0 == n then started a (length past) to answer None o else open_start past n)) t ≡ false)
              (sym found)
              (idle_started past f.0
              (record { at = to; slot = slot; version = version_told answer; loads = None; place = length past; actor = a }) t is
              old_one.1),
        )

    by_here : (t : VaSlot) → is_ours old t ≡ true → (b c : Bool) → is_out old t ≡ c → (b || c) ≡ false
        → is_here (place past (va_page t.va)) ≡ true
    by_here t ours true c free h = absurd (false≢true (sym h))
    by_here t ours false true free h = absurd (false≢true (sym h))
    by_here t ours false false free h = s.here t ours free

-- ---- a try finds its slot in use

pub shows_occupied : (k : Keeping) (j : JobView) (old new : Keeper) (past : List Entry) (a : Actor) (f : Frame) (to : SlotAt) (version : ℕ)
    (slot : VaSlot) → k.keeps ≡ true → slot_found (content past) to ≡ Some slot → nat_lt slot.va (vas_made past) ≡ true
    → IsMore old new slot → ShowsSlots k j old past
    → ShowsSlots k j new (entry_of a (Refused (EwbStart f to) (why.SlotOccupied version)) ∷ past)
shows_occupied k j old new past a f to version slot keeps found there more s = record {
  ours = λ t. more.pages.ours t ∙ s.ours t;
  placed = s.placed;
  within = s.within;
  tried = λ t stay. by_tried t (same_slot slot t) refl stay;
  added = λ va. more.pages.added va ∙ s.added va;
  made = s.made;
  out = λ t is. let ours = sym (more.pages.ours t) ∙ out_is_ours new t is in
      by_out t (same_slot slot t) refl (sym (more.out t ours) ∙ is);
  used = λ g t at ours. let o = sym (more.pages.ours t) ∙ ours in
      more.out t o ∙ or_right (same_slot slot t) (is_out old t) (s.used g t at o);
  kept = λ t stay ours. let o = sym (more.pages.ours t) ∙ ours in more.out t o ∙ by_kept t o (same_slot slot t) refl stay;
  alone = λ g t at ours. let o = sym (more.pages.ours t) ∙ ours in by_alone g t at o (same_slot slot t) refl;
  empty = λ t ours free. let o = sym (more.pages.ours t) ∙ ours in
      s.empty t o (by_free (same_slot slot t) (is_out old t) (sym (more.out t o) ∙ free));
  here = λ t ours free. let o = sym (more.pages.ours t) ∙ ours in
      s.here t o (by_free (same_slot slot t) (is_out old t) (sym (more.out t o) ∙ free));
}
  where
    entry : Entry
    entry = entry_of a (Refused (EwbStart f to) (why.SlotOccupied version))

    now : (t : VaSlot) (b : Bool) → same_slot slot t ≡ b → stays k (entry ∷ past) t ≡ (k.keeps && (if b then true else was_occupied past t))
    now t b is = rw (found, is) refl

    by_tried : (t : VaSlot) (b : Bool) → same_slot slot t ≡ b → stays k (entry ∷ past) t ≡ true → nat_lt t.va (vas_made past) ≡ true
    by_tried t true is stay = ap (λ (u : VaSlot). nat_lt u.va (vas_made past)) (sym (same_slots slot t is)) ∙ there
    by_tried t false is stay = s.tried t (sym (now t false is) ∙ stay)

    by_free : (b c : Bool) → (b || c) ≡ false → c ≡ false
    by_free true c h = absurd (false≢true (sym h))
    by_free false c h = h

    by_owner : (t : VaSlot) → same_slot slot t ≡ false → ((g : Page) × (slot_of past g ≡ Some t)) ⊎ (stays k past t ≡ true)
        → ((g : Page) × (slot_of (entry ∷ past) g ≡ Some t)) ⊎ (stays k (entry ∷ past) t ≡ true)
    by_owner t is (inl owner) = inl owner
    by_owner t is (inr stay) = inr (now t false is ∙ stay)

    by_out : (t : VaSlot) (b : Bool) → same_slot slot t ≡ b → (b || is_out old t) ≡ true
        → ((g : Page) × (slot_of (entry ∷ past) g ≡ Some t)) ⊎ (stays k (entry ∷ past) t ≡ true)
    by_out t true is h = inr (now t true is ∙ ap (λ b. b && true) keeps)
    by_out t false is h = by_owner t is (s.out t h)

    by_kept : (t : VaSlot) → is_ours old t ≡ true → (b : Bool) → same_slot slot t ≡ b → stays k (entry ∷ past) t ≡ true
        → (same_slot slot t || is_out old t) ≡ true
    by_kept t ours true is stay = or_left (same_slot slot t) (is_out old t) is
    by_kept t ours false is stay = or_right (same_slot slot t) (is_out old t) (s.kept t (sym (now t false is) ∙ stay) ours)

    by_alone : (g : Page) (t : VaSlot) → slot_of past g ≡ Some t → is_ours old t ≡ true → (b : Bool) → same_slot slot t ≡ b
        → stays k (entry ∷ past) t ≡ false
    by_alone g t at ours true is =
        let one = same_slots slot t is in
        absurd (false≢true (sym (more.was_in (ap (is_ours old) one ∙ ours)) ∙ ap (is_out old) one ∙ s.used g t at ours))
    by_alone g t at ours false is = now t false is ∙ s.alone g t at ours

-- .. and a keeper that does not keep it out
pub shows_unkept : (k : Keeping) (j : JobView) (keeper : Keeper) (past : List Entry) (a : Actor) (f : Frame) (to : SlotAt) (version : ℕ)
    → k.keeps ≡ false → ShowsSlots k j keeper past
    → ShowsSlots k j keeper (entry_of a (Refused (EwbStart f to) (why.SlotOccupied version)) ∷ past)
shows_unkept k j keeper past a f to version keeps s =
    shows_same k j keeper past (entry_of a (Refused (EwbStart f to) (why.SlotOccupied version))) s refl s.made (λ g. refl)
    (λ t. ap (λ b. b && was_occupied (entry_of a (Refused (EwbStart f to) (why.SlotOccupied version)) ∷ past) t) keeps
    ∙ sym (ap (λ b. b && was_occupied past t) keeps))
    (λ t ours free. record { version = refl; idle = λ h. h; here = λ h. h })
