-- Slots stay used, one entry longer.
use Rattle.std.proofs.Common.{◌≡◌, ℕ, ◌<◌, ◌==◌, Bool, true, false, if◌then◌else◌, refl, sym, ◌∙◌, ap, subst}
use Rattle.std.proofs.Common.{List, [], ◌∷◌, Option, Some, None, length}
use Rattle.std.proofs.lemmas.Bool.{false≢true}
use Rattle.sgx_rules.specs.declared.entries.Action.TheVariants.{Add, Create, Eld, EldStart, Epa, Ewb, EwbStart}
use Rattle.sgx_types.specs.declared.names.Actor.{Actor}
use Rattle.sgx_rules.specs.declared.entries.Answer.{Answer}
use Rattle.sgx_rules.specs.declared.entries.Answer.TheVariants.{Moved}
use Rattle.sgx_rules.specs.declared.entries.Entry.{Entry}
use Rattle.sgx_rules.specs.declared.entries.Event.{Event}
use Rattle.sgx_rules.specs.declared.entries.Event.TheVariants.{Age, Did, Refused}
use Rattle.sgx_rules.specs.declared.entries.Look.{Look}
use Rattle.sgx_types.specs.declared.names.Frame.{Frame}
use Rattle.sgx_types.specs.declared.names.Page.{Page}
use Rattle.sgx_types.specs.declared.names.SlotAt.{SlotAt}
use Rattle.sgx_types.specs.declared.names.VaSlot.{VaSlot}
use Rattle.sgx_rules.specs.declared.refusals.Refusal.{Refusal}
use Rattle.sgx_types.specs.Pages.{page_at, same_page, same_slot, secs_page, va_page}
use Rattle.sgx_rules.specs.Frames.{vas_made}
use Rattle.sgx_rules.specs.Slots.{names_slot, open_slot, slot_of as slot_of_start, version_in}
use Rattle.sgx_rules.specs.Starts.{open_start, Start, started, version_told}
use Rattle.driver_rules.specs.Places.{after_look, gone_to, Here, Place, place}
use Rattle.driver_laws.specs.inner.Kinds.{CanMove}
use Rattle.driver_laws.specs.inner.Sound.{IsSound, slot_at, slot_outside}
use Rattle.driver_laws.specs.inner.Used.{SlotsAreFilled, SlotsAreUsed, StartTells, WritesHaveDrawn}
use Rattle.driver_laws.proofs.SlotLaws.{other_slot, outside_here, outside_loading, outside_refused, outside_taken, same_slot-refl}
use Rattle.driver_laws.proofs.SoundLaws.{entry_of, load_start, named}
use Rattle.sgx_rules.specs.declared.entries.Look.TheVariants as looks

-- ---- versions that were drawn

drawn_opened : (opened : ℕ → Option Start) (f : ℕ) (x : Start) → (x.loads ≡ None → 0 < x.version) → WritesHaveDrawn opened
    → WritesHaveDrawn (λ n. if f == n then Some x else opened n)
drawn_opened opened f x new h n y = by_frame (f == n)
  where
    by_frame : (b : Bool) → (if b then Some x else opened n) ≡ Some y → y.loads ≡ None → 0 < y.version
    by_frame true k writes =
        let same : x ≡ y = cc in subst (λ (z : Start). 0 < z.version) same (new (ap (λ (z : Start). z.loads) same ∙ writes))
    by_frame false k writes = h n y k writes

drawn_closed : (opened : ℕ → Option Start) (f : ℕ) → WritesHaveDrawn opened → WritesHaveDrawn (λ n. if f == n then None else opened n)
drawn_closed opened f h n y = by_frame (f == n)
  where
    by_frame : (b : Bool) → (if b then None else opened n) ≡ Some y → y.loads ≡ None → 0 < y.version
    by_frame true k writes = cc
    by_frame false k writes = h n y k writes

-- ---- slots that are filled

-- a page went out under a version
filled_out : (at : Page → Place) (opened : ℕ → Option Start) (version : VaSlot → ℕ) (f : ℕ) (a : Page) (x : Start) (its : Option VaSlot)
    (v : ℕ) → opened f ≡ Some x → its ≡ Some x.slot → 0 < v → SlotsAreFilled at version
    → SlotsAreFilled (λ g. if same_page a g then gone_to (slot_of_start (opened f)) (at g) else at g)
    (λ s. if names_slot its s then v else version s)
filled_out at opened version f a x its v is_open names some h g slot = rw names (by_slot (same_slot x.slot slot) (same_page a g) refl)
  where
    its_own : slot_outside (gone_to (slot_of_start (opened f)) (at g)) ≡ Some slot → same_slot x.slot slot ≡ true
    its_own k = told (sym (ap (λ y. slot_outside (gone_to (slot_of_start y) (at g))) is_open) ∙ k)
      where
        told : Some x.slot ≡ Some slot → same_slot x.slot slot ≡ true
        told e = let same : x.slot ≡ slot = cc in subst (λ t. same_slot x.slot t ≡ true) same (same_slot-refl x.slot)

    by_slot : (b c : Bool) → same_slot x.slot slot ≡ b → slot_outside (if c then gone_to (slot_of_start (opened f)) (at g) else at g)
        ≡ Some slot
        → 0 < (if b then v else version slot)
    by_slot true c is k = some
    by_slot false true is k = absurd (false≢true (sym is ∙ its_own k))
    by_slot false false is k = h g slot k

-- a page came back from its slot
filled_back : (at : Page → Place) (version : VaSlot → ℕ) (f : ℕ) (a : Page) (mine : VaSlot)
    (its : Option VaSlot) → ((g : Page) (slot : VaSlot) → same_page a g ≡ false → slot_outside (at g) ≡ Some slot
    → same_slot mine slot ≡ false) → its ≡ Some mine → SlotsAreFilled at version
    → SlotsAreFilled (λ g. if same_page a g then Here f else at g) (λ s. if names_slot its s then 0 else version s)
filled_back at version f a mine its apart names h g slot = rw names (by_page (same_page a g) refl)
  where
    by_page : (b : Bool) → same_page a g ≡ b → slot_outside (if b then Here f else at g) ≡ Some slot
        → 0 < (if same_slot mine slot then 0 else version slot)
    by_page true is k = cc
    by_page false is k = rw (apart g slot is k) (h g slot k)

-- ---- one entry more

pub first_used : SlotsAreUsed []
first_used = record {
  filled = λ g slot h. cc;
  drawn = λ n x h. cc;
}

unmoved : (b : Bool) (p : Place) (slot : VaSlot) → slot_outside (if b then p else p) ≡ Some slot → slot_outside p ≡ Some slot
unmoved true p slot k = k
unmoved false p slot k = k

outside_looked : (past : List Entry) (page g : Page) (look : Look) (slot : VaSlot)
    → slot_outside (if same_page page g then after_look look (place past g) else place past g) ≡ Some slot
    → slot_outside (place past g) ≡ Some slot
outside_looked past page g looks.Taken slot = outside_taken (place past) page g slot
outside_looked past page g looks.Young slot = unmoved (same_page page g) (place past g) slot
outside_looked past page g looks.Held slot = unmoved (same_page page g) (place past g) slot
outside_looked past page g looks.NoRoom slot = unmoved (same_page page g) (place past g) slot

used_out : (past : List Entry) (a : Actor) (f : Frame) (page : Page) (version : ℕ) (tag : List ℕ)
    → StartTells past (Did (Ewb f) (Moved page version tag)) → IsSound past → SlotsAreUsed past
    → SlotsAreUsed (entry_of a (Did (Ewb f) (Moved page version tag)) ∷ past)
used_out past a f page version tag told s u =
    let x = told.0 in
    let is_open = told.1 in
    record {
      filled =
          filled_out (place past) (open_start past) (version_in past) f.0 page x (open_slot past f.0) version is_open
          (named past f.0 x is_open)
          (subst (λ v. 0 < v) (sym told.3) (u.drawn f.0 x is_open told.2)) u.filled;
      drawn = drawn_closed (open_start past) f.0 u.drawn;
    }

used_loading : (past : List Entry) (a : Actor) (f : Frame) (page : Page) (to : SlotAt) (answer : Answer)
    → CanMove past (Did (EldStart f page to) answer) → SlotsAreUsed past
    → SlotsAreUsed (entry_of a (Did (EldStart f page to) answer) ∷ past)
used_loading past a f page to answer can u = record {
  filled = λ g t k. u.filled g t (outside_loading (place past) page f.0 can.1 can.2 g t k);
  drawn = subst (λ o. WritesHaveDrawn (λ n. if f.0 == n then started a (length past) to answer (Some page) o else open_start past n))
      (sym can.3) (drawn_opened (open_start past) f.0 new (λ h. cc) u.drawn);
}
  where
    new : Start
    new = record { at = to; slot = can.1; version = version_told answer; loads = Some page; place = length past; actor = a }

used_back : (past : List Entry) (a : Actor) (f : Frame) (page : Page) (version : ℕ) (tag : List ℕ)
    → CanMove past (Did (Eld f) (Moved page version tag)) → IsSound past → SlotsAreUsed past
    → SlotsAreUsed (entry_of a (Did (Eld f) (Moved page version tag)) ∷ past)
used_back past a f page version tag can s u =
    let slot = can.0 in
    let loading = can.1 in
    let start = load_start past f.0 page slot s loading in
    record {
      filled =
          filled_back (place past) (version_in past) f.0 page slot (open_slot past f.0)
          (λ g t other k. other_slot (place past) (open_start past) page g slot t s.apart (ap (slot_at (open_start past)) loading) other k)
          (named past f.0 start.0 start.1 ∙ ap Some start.2) u.filled;
      drawn = drawn_closed (open_start past) f.0 u.drawn;
    }

used_refused : (past : List Entry) (a : Actor) (f : Frame) (refusal : Refusal) → CanMove past (Refused (Eld f) refusal) → IsSound past
    → SlotsAreUsed past → SlotsAreUsed (entry_of a (Refused (Eld f) refusal) ∷ past)
used_refused past a f refusal can s u =
    let start = load_start past f.0 can.0 can.1 s can.2 in
    record {
      filled = λ g slot k. u.filled g slot (outside_refused (place past) f.0 g slot k);
      drawn = drawn_closed (open_start past) f.0 u.drawn;
    }

pub stays_used : (past : List Entry) (e : Entry) → IsSound past → CanMove past e.event → StartTells past e.event → SlotsAreUsed past
    → SlotsAreUsed (e ∷ past)
stays_used past e s can told u = by_event e.event can told
  where
    by_event : (ev : Event) → CanMove past ev → StartTells past ev → SlotsAreUsed (entry_of e.actor ev ∷ past)
    by_event (Did (Add n number f kind perm init) answer) c t = record {
      filled = λ g slot k. u.filled g slot (outside_here (place past) (page_at n number) f.0 g slot k);
      drawn = u.drawn;
    }
    by_event (Did (Epa f) answer) c t = record {
      filled = λ g slot k. u.filled g slot (outside_here (place past) (va_page (vas_made past)) f.0 g slot k);
      drawn = u.drawn;
    }
    by_event (Did (Create n f base size) answer) c t = record {
      filled = λ g slot k. u.filled g slot (outside_here (place past) (secs_page n) f.0 g slot k);
      drawn = u.drawn;
    }
    by_event (Age page look) c t =
        record { filled = λ g slot k. u.filled g slot (outside_looked past page g look slot k); drawn = u.drawn }
    by_event (Did (EwbStart f to) answer) c t =
        let new : Start =
        record { at = to; slot = c.1; version = version_told answer; loads = None; place = length past; actor = e.actor } in
        record {
          filled = u.filled;
          drawn = subst (λ o. WritesHaveDrawn (λ n. if f.0 == n then started e.actor (length past) to answer None o else open_start past n))
              (sym c.2) (drawn_opened (open_start past) f.0 new (λ h. t.1) u.drawn);
        }
    by_event (Did (Ewb f) (Moved page version tag)) c t = used_out past e.actor f page version tag t s u
    by_event (Did (EldStart f page slot) answer) c t = used_loading past e.actor f page slot answer c u
    by_event (Did (Eld f) (Moved page version tag)) c t = used_back past e.actor f page version tag c s u
    by_event (Refused (Eld f) refusal) c t = used_refused past e.actor f refusal c s u
    by_event (Did (Ewb f) answer) c t = absurd c
    by_event (Did (Eld f) answer) c t = absurd c
    by_event _ c t = record { filled = u.filled; drawn = u.drawn }
