-- A keeper with one version array page more agrees with the entries.
use Rattle.std.proofs.Common.{◌≡◌, ℕ, ◌==◌, ◌&&◌, ◌||◌, ◌+◌, Bool, true, false, if◌then◌else◌, refl, sym, ◌⊎◌, inl, inr}
use Rattle.std.proofs.Common.{◌∙◌, ap, List, ◌∷◌, Some, nat_le, nat_lt}
use Rattle.std.proofs.lemmas.Bool.{eqb-true, false≢true}
use Rattle.std.proofs.Math.Bool.{or-false}
use Rattle.sgx_types.proofs.Truths.{lt_more, lt_one, lt_self, lt_other, lt_last}
use Rattle.sgx_rules.specs.declared.entries.Action.TheVariants.{Epa}
use Rattle.sgx_types.specs.declared.names.Actor.{Actor}
use Rattle.sgx_rules.specs.declared.entries.Answer.{Answer}
use Rattle.sgx_rules.specs.declared.entries.Entry.{Entry}
use Rattle.sgx_rules.specs.declared.entries.Event.TheVariants.{Did}
use Rattle.sgx_types.specs.declared.names.Frame.{Frame}
use Rattle.sgx_types.specs.declared.names.Page.{Page}
use Rattle.sgx_types.specs.declared.names.VaSlot.{VaSlot}
use Rattle.sgx_rules.specs.Frames.{vas_made}
use Rattle.sgx_types.specs.Pages.{same_page, va_page}
use Rattle.sgx_rules.specs.Slots.{names_slot, open_slot, version_in}
use Rattle.sgx_rules.specs.inner.Slots.{IsIdle}
use Rattle.driver_slots.specs.inner.Keeper.{Adds, is_added, is_ours, is_out}
use Rattle.driver_slots.specs.inner.Keeper.{Keeper}
use Rattle.job_grammar.specs.Jobs.{JobView}
use Rattle.driver_rules.specs.Places.{Here, is_here}
use Rattle.driver_rules.specs.Places.{place}
use Rattle.driver_laws.specs.inner.Agrees.{has_pages, Keeping, ShowsSlots, stays}
use Rattle.driver_laws.specs.inner.Kinds.{CanMove}
use Rattle.driver_laws.specs.inner.Used.{VersionsStand}
use Rattle.driver_laws.specs.inner.Sound.{IsSound, slot_of}
use Rattle.sgx_rules.proofs.Busy.{named_by}
use Rattle.driver_laws.proofs.HereLaws.{here_more}
use Rattle.driver_laws.proofs.SoundLaws.{entry_of, named}
use Rattle.driver_laws.proofs.SlotMoves.{same_epa, SameSlots}
use Rattle.driver_laws.proofs.AloneLaws.{alone}
use Rattle.driver_laws.proofs.KeeperTakes.{found_made}

-- ---- the version array pages

-- one more is made, before the first page is added
pub shows_epa : (k : Keeping) (j : JobView) (old new : Keeper) (past : List Entry) (a : Actor) (f : Frame) (answer : Answer)
    → CanMove past (Did (Epa f) answer) → has_pages past ≡ false → IsSound past → VersionsStand past
    → Adds old (vas_made past) (k.firsts (vas_made past)) new → ShowsSlots k j old past
    → ShowsSlots k j new (entry_of a (Did (Epa f) answer) ∷ past)
shows_epa k j old new past a f answer can none sound stand adds s = record {
  ours = λ t. adds.ours t ∙ by_ours t (vas_made past == t.va) refl;
  placed = λ g t at. more t (s.placed g t (sym (same g) ∙ at));
  within = λ g t at. s.within g t (sym (same g) ∙ at);
  tried = λ t stay. more t (s.tried t stay);
  added = λ va. adds.added va ∙ by_added va (vas_made past == va) refl;
  made = λ h. absurd (false≢true (sym none ∙ h));
  out = λ t is. by_owner t (s.out t (sym (adds.out t) ∙ is));
  used = λ g t at ours. let was = sym (same g) ∙ at in adds.out t ∙ s.used g t was (old_ours t (s.placed g t was) ours);
  kept = λ t stay ours. adds.out t ∙ s.kept t stay (old_ours t (s.tried t stay) ours);
  alone = λ g t at ours. let was = sym (same g) ∙ at in s.alone g t was (old_ours t (s.placed g t was) ours);
  empty = λ t ours free. by_empty t ours (sym (adds.out t) ∙ free) (nat_lt t.va (vas_made past)) refl;
  here = λ t ours free. by_here t ours (sym (adds.out t) ∙ free) (nat_lt t.va (vas_made past)) refl;
}
  where
    made : ℕ
    made = vas_made past

    entry : Entry
    entry = entry_of a (Did (Epa f) answer)

    same : SameSlots past entry
    same = same_epa past a f answer can

    more : (t : VaSlot) → nat_lt t.va made ≡ true → nat_lt t.va (made + 1) ≡ true
    more t low = lt_more t.va made low

    by_owner : (t : VaSlot) → ((g : Page) × (slot_of past g ≡ Some t)) ⊎ (stays k past t ≡ true)
        → ((g : Page) × (slot_of (entry ∷ past) g ≡ Some t)) ⊎ (stays k past t ≡ true)
    by_owner t (inl owner) = inl (owner.0, same owner.0 ∙ owner.1)
    by_owner t (inr stay) = inr stay

    by_ours : (t : VaSlot) (b : Bool) → (made == t.va) ≡ b
        → (is_ours old t || ((made == t.va) && (nat_le (k.firsts made) t.index && nat_lt t.index 512)))
        ≡ (nat_lt t.va (made + 1) && (nat_le (k.firsts t.va) t.index && nat_lt t.index 512))
    by_ours t true is =
        let one : made ≡ t.va = eqb-true made t.va is in
        let high : nat_lt t.va made ≡ false = lt_self t.va made one in
        let low : nat_lt t.va (made + 1) ≡ true = lt_one t.va made one in
        rw (is, s.ours t, high, low) (ap (λ n. nat_le (k.firsts n) t.index && nat_lt t.index 512) one)
    by_ours t false is =
        let same_low : nat_lt t.va (made + 1) ≡ nat_lt t.va made = lt_other t.va made is in
        rw (is, s.ours t, same_low) (or-false _)

    by_added : (va : ℕ) (b : Bool) → (made == va) ≡ b → ((made == va) || is_added old va) ≡ nat_lt va (made + 1)
    by_added va true is = let one : made ≡ va = eqb-true made va is in rw is (sym (lt_one va made one))
    by_added va false is = rw (is, s.added va) (sym (lt_other va made is))

    left : (b c : Bool) → (b && c) ≡ true → b ≡ true
    left true c h = refl
    left false c h = h

    right : (b c : Bool) → (b && c) ≡ true → c ≡ true
    right true c h = h
    right false c h = absurd (false≢true h)

    new_ours : (t : VaSlot) → is_ours new t ≡ true
        → (nat_lt t.va (made + 1) && (nat_le (k.firsts t.va) t.index && nat_lt t.index 512)) ≡ true
    new_ours t ours = sym (by_ours t (made == t.va) refl) ∙ sym (adds.ours t) ∙ ours

    old_ours : (t : VaSlot) → nat_lt t.va made ≡ true → is_ours new t ≡ true → is_ours old t ≡ true
    old_ours t low ours =
        s.ours t ∙ ap (λ b. b && (nat_le (k.firsts t.va) t.index && nat_lt t.index 512)) low
        ∙ right (nat_lt t.va (made + 1)) (nat_le (k.firsts t.va) t.index && nat_lt t.index 512) (new_ours t ours)

    -- a slot of the new page is no page's, and no start names it
    no_version : (t : VaSlot) → nat_lt t.va made ≡ false → (b : Bool) → (version_in past t == 0) ≡ b → version_in past t ≡ 0
    no_version t high true is = eqb-true (version_in past t) 0 is
    no_version t high false is = let owner = stand t is in absurd (false≢true (sym high ∙ s.placed owner.0 t owner.1))

    no_start : (t : VaSlot) → nat_lt t.va made ≡ false → (n : ℕ) (b : Bool) → names_slot (open_slot past n) t ≡ b
        → names_slot (open_slot past n) t ≡ false
    no_start t high n true is =
        let x = named_by past t n is in
        absurd (false≢true (sym high ∙ found_made past t sound
        (ap (λ (u : VaSlot). is_here (place past (va_page u.va))) (sym x.names) ∙ sound.arrays.named n x.start x.opened)))
    no_start t high n false is = is

    by_empty : (t : VaSlot) → is_ours new t ≡ true → is_out old t ≡ false → (b : Bool) → nat_lt t.va made ≡ b
        → (version_in past t ≡ 0) × IsIdle past t
    by_empty t ours free true low = s.empty t (old_ours t low ours) free
    by_empty t ours free false high =
        (no_version t high (version_in past t == 0) refl, λ n. no_start t high n (names_slot (open_slot past n) t) refl)

    by_here : (t : VaSlot) → is_ours new t ≡ true → is_out old t ≡ false → (b : Bool) → nat_lt t.va made ≡ b
        → is_here (if same_page (va_page made) (va_page t.va) then Here f.0 else place past (va_page t.va)) ≡ true
    by_here t ours free true low = here_more (place past) (va_page made) f.0 (va_page t.va) (s.here t (old_ours t low ours) free)
    by_here t ours free false high =
        let below = left (nat_lt t.va (made + 1)) (nat_le (k.firsts t.va) t.index && nat_lt t.index 512) (new_ours t ours) in
        let one : (made == t.va) ≡ true = lt_last t.va made high below in
        rw one refl
