-- The keeper of the version slots agrees with the entries, behind an entry of any kind.
use Rattle.std.proofs.Common.{◌≡◌, ℕ, ◌&&◌, not, nat_le, nat_lt, arith, Bool, true, false, refl, sym, ◌∙◌, ap, subst}
use Rattle.std.proofs.Common.{List, [], ◌∷◌, Some}
use Rattle.std.proofs.lemmas.Bool.{false≢true}
use Rattle.std.proofs.lemmas.Option.{none-some, same_Some}
use Rattle.sgx_types.proofs.Pages.{same_page-refl}
use Rattle.sgx_rules.specs.declared.entries.Action.TheVariants.{Add, Create, Eld, EldStart, Epa, Ewb, EwbStart}
use Rattle.sgx_rules.specs.declared.entries.Answer.TheVariants.{Moved}
use Rattle.sgx_rules.specs.declared.entries.Entry.{Entry}
use Rattle.sgx_rules.specs.declared.entries.Event.{Event}
use Rattle.sgx_rules.specs.declared.entries.Event.TheVariants.{Age, Did, Refused}
use Rattle.sgx_types.specs.declared.names.Frame.{Frame}
use Rattle.sgx_types.specs.declared.names.SlotAt.{SlotAt}
use Rattle.sgx_types.specs.declared.names.VaSlot.{VaSlot}
use Rattle.sgx_rules.specs.Frames.{Content, content, Free, Holds, IsLoading, IsVa, SecsOf, stands, vas_made}
use Rattle.sgx_types.specs.Pages.{va_page}
use Rattle.sgx_rules.specs.Starts.{slot_found, slot_in}
use Rattle.driver_slots.specs.inner.Keeper.{Keeper, new_keeper}
use Rattle.job_grammar.specs.Jobs.{JobView}
use Rattle.driver_rules.specs.Places.{Absent, Away, Here, is_here, Leaving, Loading, Place, place}
use Rattle.driver_laws.specs.inner.Agrees.{Keeping, ShowsSlots}
use Rattle.driver_laws.specs.inner.Keeps.{ArraysFirst, GivesIf, IsSameOut, KeeperMoves, LeavesFull, OccupiedMoves}
use Rattle.driver_laws.specs.inner.Kinds.{CanMove}
use Rattle.driver_laws.specs.inner.Sound.{is_absent, IsSound, stands_in}
use Rattle.driver_laws.specs.inner.Used.{StartTells, VersionsStand}
use Rattle.driver_laws.proofs.KeeperGives.{shows_eld}
use Rattle.driver_laws.proofs.KeeperGrows.{shows_epa}
use Rattle.driver_laws.proofs.KeeperRests.{shows_add, shows_age, shows_create, shows_eldstart}
use Rattle.driver_laws.proofs.KeeperTakes.{is_less, is_more}
use Rattle.driver_laws.proofs.KeeperRests.{shows_ewb, shows_refused}
use Rattle.driver_laws.proofs.KeeperTakes.{shows_ewbstart, shows_occupied, shows_unkept}
use Rattle.driver_laws.proofs.SoundLaws.{entry_of, load_start, named}
use Rattle.sgx_rules.specs.declared.entries.Look.TheVariants as looks
use Rattle.sgx_rules.specs.declared.refusals.Refusal.TheVariants as why

-- the same slots are out
same_shows : (k : Keeping) (j : JobView) (old new : Keeper) (past : List Entry) → IsSameOut old new → ShowsSlots k j old past
    → ShowsSlots k j new past
same_shows k j old new past same s = record {
  ours = λ t. same.pages.ours t ∙ s.ours t;
  placed = s.placed;
  within = s.within;
  tried = s.tried;
  added = λ va. same.pages.added va ∙ s.added va;
  made = s.made;
  out = λ t is. s.out t (sym (same.out t) ∙ is);
  used = λ g t at ours. same.out t ∙ s.used g t at (sym (same.pages.ours t) ∙ ours);
  kept = λ t stay ours. same.out t ∙ s.kept t stay (sym (same.pages.ours t) ∙ ours);
  alone = λ g t at ours. s.alone g t at (sym (same.pages.ours t) ∙ ours);
  empty = λ t ours free. s.empty t (sym (same.pages.ours t) ∙ ours) (sym (same.out t) ∙ free);
  here = λ t ours free. s.here t (sym (same.pages.ours t) ∙ ours) (sym (same.out t) ∙ free);
}

-- no slot is out at first
pub first_shows : (k : Keeping) (j : JobView) (pages : ℕ) → ShowsSlots k j (new_keeper pages) []
first_shows k j pages = record {
  ours = λ t. ap (λ b. b && (nat_le (k.firsts t.va) t.index && nat_lt t.index 512)) (none_below t.va);
  placed = λ g t at. absurd (none-some t at);
  within = λ g t at. absurd (none-some t at);
  tried = λ t stay. absurd (false≢true (by_keeps k.keeps ∙ stay));
  added = none_below;
  made = λ h. absurd (false≢true h);
  out = λ t is. absurd (false≢true is);
  used = λ g t at. absurd (none-some t at);
  kept = λ t stay ours. absurd (false≢true ours);
  alone = λ g t at. absurd (none-some t at);
  empty = λ t ours. absurd (false≢true ours);
  here = λ t ours. absurd (false≢true ours);
}
  where
    none_below : (n : ℕ) → false ≡ nat_lt n 0
    none_below n = grind arith

    by_keeps : (b : Bool) → false ≡ (b && false)
    by_keeps true = refl
    by_keeps false = refl

-- the page of a slot that is found was made
found_there : (past : List Entry) (at : SlotAt) (slot : VaSlot) → IsSound past → slot_found (content past) at ≡ Some slot
    → nat_lt slot.va (vas_made past) ≡ true
found_there past at slot sound found = by_content (content past at.frame.0) refl found
  where
    by_place : (p : Place) → stands_in p at.frame.0 ≡ true → not (is_absent p) ≡ true
    by_place (Here n) h = refl
    by_place (Leaving n) h = refl
    by_place (Loading n t) h = refl
    by_place (Away t) h = refl
    by_place Absent h = absurd (false≢true h)

    stood : (va : ℕ) → content past at.frame.0 ≡ IsVa va → nat_lt va (vas_made past) ≡ true
    stood va is =
        let there : stands (content past at.frame.0) (va_page va) ≡ true =
        ap (λ c. stands c (va_page va)) is ∙ same_page-refl (va_page va) in
        sound.made (va_page va) ∙ by_place (place past (va_page va)) (sym (sound.places.frames (va_page va) at.frame.0) ∙ there)

    by_content : (c : Content) → content past at.frame.0 ≡ c → slot_in c at.index ≡ Some slot → nat_lt slot.va (vas_made past) ≡ true
    by_content (IsVa va) is h =
        let one = same_Some (record { va = va; index = at.index }) slot h in
        ap (λ (t : VaSlot). nat_lt t.va (vas_made past)) (sym one) ∙ stood va is
    by_content Free is h = absurd (none-some slot h)
    by_content (SecsOf e) is h = absurd (none-some slot h)
    by_content (Holds page kind perm) is h = absurd (none-some slot h)
    by_content (IsLoading page) is h = absurd (none-some slot h)

pub stays_shown : (k : Keeping) (j : JobView) (old new : Keeper) (past : List Entry) (e : Entry) → IsSound past → CanMove past e.event
    → StartTells past e.event → VersionsStand past → ArraysFirst j past e.event → LeavesFull old e.event
    → KeeperMoves k past e.event old new → ShowsSlots k j old past → ShowsSlots k j new (e ∷ past)
stays_shown k j old new past e s can told stand first full moves shows = by_event e.event can told first full moves
  where
    same : IsSameOut old new → ShowsSlots k j new past
    same m = same_shows k j old new past m shows

    -- the keeper's slots of a page that leaves are out still
    full_now : IsSameOut old new → (ev : Event) → LeavesFull old ev → LeavesFull new ev
    full_now m (Age page looks.Taken) f = λ is t its ours. m.out t ∙ f is t its (sym (m.pages.ours t) ∙ ours)
    full_now m (Age page looks.Young) f = f
    full_now m (Age page looks.Held) f = f
    full_now m (Age page looks.NoRoom) f = f
    full_now m _ f = tt

    by_keeps : (f : Frame) (to : SlotAt) (version : ℕ) (b : Bool) → k.keeps ≡ b → OccupiedMoves b past to old new
        → ShowsSlots k j new (entry_of e.actor (Refused (EwbStart f to) (why.SlotOccupied version)) ∷ past)
    by_keeps f to version true is m =
        shows_occupied k j old new past e.actor f to version m.0 is m.1 (found_there past to m.0 s m.1) (is_more old new m.0 m.2) shows
    by_keeps f to version false is m = shows_unkept k j new past e.actor f to version is (same m)

    by_event : (ev : Event) → CanMove past ev → StartTells past ev → ArraysFirst j past ev → LeavesFull old ev
        → KeeperMoves k past ev old new → ShowsSlots k j new (entry_of e.actor ev ∷ past)
    by_event (Did (Epa f) answer) c t a l m = shows_epa k j old new past e.actor f answer c a s stand m shows
    by_event (Did (Create n f base size) answer) c t a l m = shows_create k j new past e.actor n f base size answer c (same m)
    by_event (Did (Add n number f kind perm init) answer) c t a l m =
        shows_add k j new past e.actor n number f kind perm init answer c a (same m)
    by_event (Did (EwbStart f to) answer) c t a l m =
        let slot : c.1 ≡ m.0 = same_Some c.1 m.0 (sym c.2 ∙ m.1) in
        shows_ewbstart k j old new past e.actor f to answer c t.0 t.2 s m.0 m.1
        (subst (λ (u : VaSlot). is_here (place past (va_page u.va)) ≡ true) slot c.3) (is_more old new m.0 m.2) shows
    by_event (Did (Ewb f) (Moved page version tag)) c t a l m = shows_ewb k j new past e.actor f page version tag c s (same m)
    by_event (Did (EldStart f page to) answer) c t a l m = shows_eldstart k j new past e.actor f page to answer c s (same m)
    by_event (Did (Eld f) (Moved page version tag)) c t a l m =
        let start = load_start past f.0 page c.0 s c.1 in
        let slot : m.0 ≡ c.0 = same_Some m.0 c.0 (sym m.1 ∙ named past f.0 start.0 start.1 ∙ ap Some start.2) in
        let here = subst (λ (u : VaSlot). is_here (place past (va_page u.va)) ≡ true) start.2 (s.arrays.named f.0 start.0 start.1) in
        shows_eld k j old new past e.actor f page version tag c.0 c.1 s here
        (is_less old new c.0 (subst (λ u. GivesIf old u new) slot m.2)) shows
    by_event (Refused (Eld f) refusal) c t a l m = shows_refused k j new past e.actor f refusal c s (same m)
    by_event (Refused (EwbStart f to) (why.SlotOccupied version)) c t a l m = by_keeps f to version k.keeps refl m
    by_event (Age page look) c t a l m =
        shows_age k j new past e.actor page look s (full_now m (Age page look) l) (same m)
    by_event (Did (Ewb f) answer) c t a l m = absurd c
    by_event (Did (Eld f) answer) c t a l m = absurd c
    by_event _ c t a l m = let before = same m in
        record {
          ours = before.ours;
          placed = before.placed;
          within = before.within;
          tried = before.tried;
          added = before.added;
          made = before.made;
          out = before.out;
          used = before.used;
          kept = before.kept;
          alone = before.alone;
          empty = before.empty;
          here = before.here;
        }
