-- A keeper that gets back the slot of a page that came back agrees with the entries.
use Rattle.std.proofs.Common.{◌≡◌, ℕ, ◌&&◌, not, Bool, true, false, if◌then◌else◌, refl, sym, ◌⊎◌, inl, inr}
use Rattle.std.proofs.Common.{◌∙◌, ap, subst, List, ◌∷◌, Some, nat_lt}
use Rattle.std.proofs.lemmas.Bool.{false≢true}
use Rattle.std.proofs.lemmas.Option.{none-some, same_Some}
use Rattle.sgx_types.proofs.Pages.{same_page-refl, same_pages, same_slots}
use Rattle.sgx_rules.specs.declared.entries.Action.TheVariants.{Eld}
use Rattle.sgx_types.specs.declared.names.Actor.{Actor}
use Rattle.sgx_rules.specs.declared.entries.Answer.TheVariants.{Moved}
use Rattle.sgx_rules.specs.declared.entries.Entry.{Entry}
use Rattle.sgx_rules.specs.declared.entries.Event.TheVariants.{Did}
use Rattle.sgx_types.specs.declared.names.Frame.{Frame}
use Rattle.sgx_types.specs.declared.names.Page.{Page}
use Rattle.sgx_types.specs.declared.names.VaSlot.{VaSlot}
use Rattle.sgx_rules.specs.Frames.{vas_made}
use Rattle.sgx_types.specs.Pages.{same_page, same_slot, va_page}
use Rattle.sgx_rules.specs.Slots.{names_slot, open_slot, version_in}
use Rattle.sgx_rules.specs.inner.Slots.{IsIdle}
use Rattle.sgx_rules.specs.Starts.{open_start, Start}
use Rattle.driver_slots.specs.inner.Keeper.{is_ours, is_out}
use Rattle.driver_slots.specs.inner.Keeper.{Keeper}
use Rattle.job_grammar.specs.Jobs.{JobView}
use Rattle.driver_rules.specs.Places.{is_here, Loading}
use Rattle.driver_rules.specs.Places.{place}
use Rattle.driver_laws.specs.inner.Agrees.{Keeping, ShowsSlots, stays}
use Rattle.driver_laws.specs.inner.Sound.{IsSound, slot_at, slot_of}
use Rattle.sgx_rules.proofs.Busy.{idle_ended, idle_freed}
use Rattle.driver_laws.proofs.HereLaws.{here_more}
use Rattle.driver_laws.proofs.SlotLaws.{same_slot-refl}
use Rattle.driver_laws.proofs.SoundLaws.{entry_of, load_start, named}
use Rattle.driver_laws.proofs.SlotMoves.{slot_back, slot_back_other}
use Rattle.driver_laws.proofs.AloneLaws.{alone}
use Rattle.driver_laws.proofs.KeeperRests.{out_is_ours}
use Rattle.driver_laws.proofs.KeeperTakes.{IsLess}

-- ---- a page comes back

pub shows_eld : (k : Keeping) (j : JobView) (old new : Keeper) (past : List Entry) (a : Actor) (f : Frame) (page : Page) (version : ℕ)
    (tag : List ℕ) (slot : VaSlot) → place past page ≡ Loading f.0 slot → IsSound past → is_here (place past (va_page slot.va)) ≡ true
    → IsLess old new slot → ShowsSlots k j old past → ShowsSlots k j new (entry_of a (Did (Eld f) (Moved page version tag)) ∷ past)
shows_eld k j old new past a f page version tag slot loading sound here less s = record {
  ours = λ t. less.pages.ours t ∙ s.ours t;
  placed = λ g t at. by_placed g t (same_page page g) refl at;
  within = λ g t at. by_within g t (same_page page g) refl at;
  tried = s.tried;
  added = λ va. less.pages.added va ∙ s.added va;
  made = s.made;
  out = λ t is. let ours = sym (less.pages.ours t) ∙ out_is_ours new t is in
      by_out t (same_slot slot t) refl (sym (less.out t ours) ∙ is);
  used = λ g t at ours. let k = sym (less.pages.ours t) ∙ ours in less.out t k ∙ by_used g t k (same_page page g) refl at;
  kept = λ t stay ours. let k = sym (less.pages.ours t) ∙ ours in
      less.out t k ∙ rw (given_apart t stay k (same_slot slot t) refl) (s.kept t stay k);
  alone = λ g t at ours. by_alone g t (sym (less.pages.ours t) ∙ ours) (same_page page g) refl at;
  empty = λ t ours free. let k = sym (less.pages.ours t) ∙ ours in by_empty t k (same_slot slot t) refl (sym (less.out t k) ∙ free);
  here = λ t ours free. let k = sym (less.pages.ours t) ∙ ours in
      here_more (place past) page f.0 (va_page t.va) (by_here t k (same_slot slot t) refl (sym (less.out t k) ∙ free));
}
  where
    entry : Entry
    entry = entry_of a (Did (Eld f) (Moved page version tag))

    start : (x : Start) × (open_start past f.0 ≡ Some x) × (x.slot ≡ slot)
    start = load_start past f.0 page slot sound loading

    names : open_slot past f.0 ≡ Some slot
    names = named past f.0 start.0 start.1 ∙ ap Some start.2

    mine : slot_of past page ≡ Some slot
    mine = ap (slot_at (open_start past)) loading

    others : (g : Page) → same_page page g ≡ false → slot_of (entry ∷ past) g ≡ slot_of past g
    others g = slot_back_other past a f page g version tag slot sound loading

    none_now : (g : Page) (t : VaSlot) → same_page page g ≡ true → slot_of (entry ∷ past) g ≡ Some t → ⊥
    none_now g t is at = none-some t (sym (slot_back past a f page version tag) ∙ ap (slot_of (entry ∷ past)) (same_pages page g is) ∙ at)

    -- a slot that stays out is no page's
    given_apart : (t : VaSlot) → stays k past t ≡ true → is_ours old t ≡ true → (b : Bool) → same_slot slot t ≡ b → same_slot slot t ≡ false
    given_apart t stay ours true is =
        absurd (false≢true (sym (s.alone page t (mine ∙ ap Some (same_slots slot t is)) ours) ∙ stay))
    given_apart t stay ours false is = is

    by_alone : (g : Page) (t : VaSlot) → is_ours old t ≡ true → (b : Bool) → same_page page g ≡ b → slot_of (entry ∷ past) g ≡ Some t
        → stays k past t ≡ false
    by_alone g t ours true is h = absurd (none_now g t is h)
    by_alone g t ours false is h = s.alone g t (sym (others g is) ∙ h) ours

    -- the page of another slot is another page
    apart : (g : Page) (t : VaSlot) (b : Bool) → same_page page g ≡ b → same_slot slot t ≡ false → slot_of past g ≡ Some t
        → same_page page g ≡ false
    apart g t true is other h =
        let equal = same_Some slot t (sym mine ∙ ap (slot_of past) (same_pages page g is) ∙ h) in
        absurd (false≢true (sym other ∙ subst (λ u. same_slot slot u ≡ true) equal (same_slot-refl slot)))
    apart g t false is other h = is

    -- .. and the slot of another page is another slot
    slots_apart : (g : Page) (t : VaSlot) (b : Bool) → same_slot slot t ≡ b → same_page page g ≡ false → slot_of past g ≡ Some t
        → same_slot slot t ≡ false
    slots_apart g t true is other h =
        let owner : page ≡ g = sound.apart page g t (mine ∙ ap Some (same_slots slot t is)) h in
        absurd (false≢true (sym other ∙ subst (λ p. same_page page p ≡ true) owner (same_page-refl page)))
    slots_apart g t false is other h = is

    by_placed : (g : Page) (t : VaSlot) (b : Bool) → same_page page g ≡ b → slot_of (entry ∷ past) g ≡ Some t
        → nat_lt t.va (vas_made past) ≡ true
    by_placed g t true is h = absurd (none_now g t is h)
    by_placed g t false is h = s.placed g t (sym (others g is) ∙ h)

    by_within : (g : Page) (t : VaSlot) (b : Bool) → same_page page g ≡ b → slot_of (entry ∷ past) g ≡ Some t → nat_lt t.index 512 ≡ true
    by_within g t true is h = absurd (none_now g t is h)
    by_within g t false is h = s.within g t (sym (others g is) ∙ h)

    by_owner : (t : VaSlot) → same_slot slot t ≡ false → ((g : Page) × (slot_of past g ≡ Some t)) ⊎ (stays k past t ≡ true)
        → ((g : Page) × (slot_of (entry ∷ past) g ≡ Some t)) ⊎ (stays k past t ≡ true)
    by_owner t is (inl owner) = inl (owner.0, others owner.0 (apart owner.0 t (same_page page owner.0) refl is owner.1) ∙ owner.1)
    by_owner t is (inr stay) = inr stay

    by_out : (t : VaSlot) (b : Bool) → same_slot slot t ≡ b → (not b && is_out old t) ≡ true
        → ((g : Page) × (slot_of (entry ∷ past) g ≡ Some t)) ⊎ (stays k past t ≡ true)
    by_out t true is h = absurd (false≢true h)
    by_out t false is h = by_owner t is (s.out t h)

    by_used : (g : Page) (t : VaSlot) → is_ours old t ≡ true → (b : Bool) → same_page page g ≡ b → slot_of (entry ∷ past) g ≡ Some t
        → (not (same_slot slot t) && is_out old t) ≡ true
    by_used g t ours true is h = absurd (none_now g t is h)
    by_used g t ours false is h =
        let was : slot_of past g ≡ Some t = sym (others g is) ∙ h in
        rw (slots_apart g t (same_slot slot t) refl is was) (s.used g t was ours)

    by_empty : (t : VaSlot) → is_ours old t ≡ true → (b : Bool) → same_slot slot t ≡ b → (not b && is_out old t) ≡ false
        → ((if names_slot (open_slot past f.0) t then 0 else version_in past t) ≡ 0) × IsIdle (entry ∷ past) t
    by_empty t ours true is h = (rw (names, is) refl, idle_freed past f.0 t alone_by)
      where
        alone_by : (n : ℕ) (x : Start) → open_start past n ≡ Some x → x.slot ≡ t → f.0 ≡ n
        alone_by n x is_open same =
            (alone past sound).apart f.0 n start.0 x start.1 is_open (start.2 ∙ same_slots slot t is ∙ sym same)
    by_empty t ours false is h = let was = s.empty t ours h in (rw (names, is) was.0, idle_ended past f.0 t was.1)

    by_here : (t : VaSlot) → is_ours old t ≡ true → (b : Bool) → same_slot slot t ≡ b → (not b && is_out old t) ≡ false
        → is_here (place past (va_page t.va)) ≡ true
    by_here t ours true is h = ap (λ (u : VaSlot). is_here (place past (va_page u.va))) (sym (same_slots slot t is)) ∙ here
    by_here t ours false is h = s.here t ours h
