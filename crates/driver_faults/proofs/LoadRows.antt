-- A load of a page that is away, into the least free frame, is refused only where its slot holds no version.
use Rattle.std.proofs.Common.{◌≡◌, ℕ, ◌<◌, ◌==◌, ◌&&◌, not, Bool, true, false, if◌then◌else◌, refl, sym, ap, subst}
use Rattle.std.proofs.Common.{◌∙◌, List, Option, Some, is_some, nat_le, nat_lt, arith}
use Rattle.std.proofs.lemmas.Bool.{eq-eqb, false≢true, ltb-true}
use Rattle.std.proofs.lemmas.Option.{same_Some}
use Rattle.sgx_types.proofs.Pages.{same_pages}
use Rattle.sgx_types.proofs.Truths.{apart}
use Rattle.sgx_rules.specs.declared.entries.Action.TheVariants.{EldStart}
use Rattle.sgx_types.specs.declared.names.Actor.{Actor}
use Rattle.sgx_rules.specs.declared.entries.Entry.{Entry}
use Rattle.sgx_types.specs.declared.names.Kind.{Kind}
use Rattle.sgx_types.specs.declared.names.Page.{Page}
use Rattle.sgx_types.specs.declared.names.Perm.{Perm}
use Rattle.sgx_types.specs.declared.names.SlotAt.{SlotAt}
use Rattle.sgx_types.specs.declared.names.VaSlot.{VaSlot}
use Rattle.sgx_types.specs.declared.names.TheConstants.{SECS_NUMBER}
use Rattle.sgx_types.specs.Pages.{is_own_page, is_va_page, secs_page, va_page}
use Rattle.sgx_rules.specs.Flat.{enclave_sight_of, settled}
use Rattle.sgx_rules.specs.Frames.{added, Content, content, Free, Holds, IsLoading, IsVa, least_free, SecsOf, stands, vas_made}
use Rattle.sgx_types.specs.Making.{Making}
use Rattle.sgx_rules.specs.Rules.{Along, FitsRule}
use Rattle.sgx_rules.specs.Sights.{sight_at}
use Rattle.sgx_types.specs.Cases.{first_of_row}
use Rattle.sgx_rules.specs.Table.{FrameSight, LoadSight, SlotSight, eldstart_row, is_made, is_va}
use Rattle.sgx_rules.specs.declared.refusals.Refusal.{Refusal}
use Rattle.sgx_rules.specs.Starts.{open_start, slot_found, slot_in}
use Rattle.sgx_rules.specs.inner.Enclaves.{created}
use Rattle.sgx_types.specs.Pages.{frame_at}
use Rattle.job_grammar.specs.Jobs.{JobView, va_pages}
use Rattle.machine_laws.specs.inner.State.{State, is_known, load_sight, row_of, secs_sight, sight, slot_sight, version_at}
use Rattle.machine_laws.proofs.ColumnLaws.{added_is, enclave_is, sight_is, vas_is}
use Rattle.machine_laws.proofs.MoveSights.{secs_sees}
use Rattle.sgx_machine.specs.inner.Parts.{Parts, state_of}
use Rattle.driver_list.specs.inner.Places.{IsPlaced}
use Rattle.driver_rules.specs.Places.{Absent, Away, Here, is_here, Leaving, Loading, Place, frame_here, place}
use Rattle.driver_rules.specs.Targets.{at_frame, slot_here}
use Rattle.driver_laws.specs.inner.Agrees.{drivers}
use Rattle.driver_laws.specs.inner.Sound.{is_absent, slot_at}
use Rattle.driver_laws.specs.inner.Used.{load_left, slot_with}
use Rattle.driver_laws.proofs.RowLaws.{array_within, load_goes, secs_settled}
use Rattle.driver_laws.proofs.SoundLaws.{own_none}
use Rattle.driver_laws.proofs.StillLaws.{holds_here}
use Rattle.driver_laws.proofs.WithinLaws.{least_found}
use Rattle.driver_tables.proofs.PartLaws.{added_created, seen_made}
use Rattle.driver_tables.proofs.SightLaws.{slot_is}
use Rattle.driver_tables.specs.declared.driver.Driver.{Driver}
use Rattle.driver_tables.proofs.TargetLaws.{array_of}
use Rattle.driver_tables.specs.inner.Agrees.{Agrees}

-- ---- arithmetic

not_past : (frames f : ℕ) → f < frames → nat_le frames f ≡ false
not_past frames f low = grind (arith, low)

not_beyond : (n : ℕ) → nat_lt n 512 ≡ true → nat_lt 511 n ≡ false
not_beyond n low = grind (arith, low)

-- ---- a slot by its frame

-- a version array page with a small number stands in a frame that holds it
array_held : (c : Content) (va : ℕ) → (va == SECS_NUMBER) ≡ false
    → ((page : Page) (kind : Kind) (perm : Perm) → c ≡ Holds page kind perm → is_own_page page ≡ true) → stands c (va_page va) ≡ true
    → c ≡ IsVa va
array_held (IsVa k) va small own h = ap (λ (g : Page). IsVa g.number) (same_pages (va_page k) (va_page va) h)
array_held (SecsOf e) va small own h =
    let one : SECS_NUMBER ≡ va = ap (λ (g : Page). g.number) (same_pages (secs_page e) (va_page va) h) in
    absurd (false≢true (sym small ∙ eq-eqb va SECS_NUMBER (sym one)))
array_held (Holds page kind perm) va small own h =
    absurd (false≢true (ap is_own_page (sym (same_pages page (va_page va) h)) ∙ own page kind perm refl))
array_held Free va small own h = absurd (false≢true h)
array_held (IsLoading page) va small own h = absurd (false≢true h)

-- what is found where a slot is named by the frame of its version array page
pub record IsFoundAt (past : List Entry) (slot : VaSlot) (to : SlotAt) : Type 0 where
  pub array : content past to.frame.0 ≡ IsVa slot.va
  pub found : slot_found (content past) to ≡ Some slot
  pub here : is_here (place past (va_page slot.va)) ≡ true
  pub index : to.index ≡ slot.index

-- ---- what the row sees

row_as : (x x' : FrameSight) (load : LoadSight) (y y' : SlotSight) (o : Option Refusal) → x ≡ x' → y ≡ y'
    → first_of_row (eldstart_row x' load y') ≡ o → first_of_row (eldstart_row x load y) ≡ o
row_as x x' load y y' o ex ey h = rw (ex, ey) h

-- a page is known that was made, created with its enclave, or added to one
known_by : (s : State) (past : List Entry) (g : Page) → s.vas_made ≡ vas_made past → s.enclaves g.enclave ≡ created past g.enclave
    → s.added g ≡ added past g
    → (is_some (s.enclaves g.enclave) ≡ true → is_made (enclave_sight_of (s.enclaves g.enclave)) ≡ true)
    → (is_some (s.added g) ≡ true → is_some (s.enclaves g.enclave) ≡ true)
    → (va secs : Bool)
    → (if va then nat_lt g.number (vas_made past) else if not va && secs then is_some (created past g.enclave) else is_some (added past g))
    ≡ true
    → (if va then nat_lt g.number s.vas_made
    else if not va && secs then is_made (enclave_sight_of (s.enclaves g.enclave))
    else is_made (enclave_sight_of (s.enclaves g.enclave)) && is_some (s.added g)) ≡ true
known_by s past g vas enclave page seen made true secs h = ap (λ n. nat_lt g.number n) vas ∙ h
known_by s past g vas enclave page seen made false true h = seen (ap is_some enclave ∙ h)
known_by s past g vas enclave page seen made false false h =
    let there = ap is_some page ∙ h in rw (seen (made there), there) refl

module _ (made : Making) (j : JobView) (past : List Entry) (d : Driver) (m : Parts) (r : Agrees made j past d m) where
  pub frames_are : (state_of m).frames ≡ j.epc
  frames_are = ap (λ (k : Making). k.frames) r.follows.shape.making ∙ r.frames

  -- the number of the version array page of a slot is small
  small : (slot : VaSlot) → IsPlaced d.states.counts (va_page slot.va) → (slot.va == SECS_NUMBER) ≡ false
  small slot placed = apart slot.va SECS_NUMBER (λ same.
      let low : slot.va < d.states.counts.arrays = placed.array refl in
      let of_job : d.states.counts.arrays ≡ va_pages j = ap (λ c. c.arrays) (r.shows.counts ∙ r.shows.of_job) in
      let arrays = r.shows.arrays in let few = r.shows.few_arrays in omega (arith, same, low, of_job, arrays, few))

  -- a slot whose version array page is here is found in that page's frame
  pub slot_stands : (slot : VaSlot) (to : SlotAt) → IsPlaced d.states.counts (va_page slot.va) → slot_here past slot ≡ Some to
      → IsFoundAt past slot to
  slot_stands slot to placed told = by_place (place past (va_page slot.va)) refl told
    where
      by_frame : (n : ℕ) → place past (va_page slot.va) ≡ Here n
          → IsFoundAt past slot (record { frame = frame_at n; index = slot.index })
      by_frame n at = record {
        array = held;
        found = ap (λ c. slot_in c slot.index) held;
        here = ap is_here at;
        index = refl;
      }
        where
          held : content past n ≡ IsVa slot.va
          held =
              array_held (content past n) slot.va (small slot placed) (r.sound.held n)
              (holds_here past (va_page slot.va) (Here n) n r.sound at (eq-eqb n n refl))

      by_place : (p : Place) → place past (va_page slot.va) ≡ p → at_frame slot.index (frame_here p) ≡ Some to → IsFoundAt past slot to
      by_place (Here n) at h =
          subst (IsFoundAt past slot) (same_Some (record { frame = frame_at n; index = slot.index }) to h) (by_frame n at)
      by_place Absent at h = cc
      by_place (Leaving n) at h = cc
      by_place (Loading n t) at h = cc
      by_place (Away t) at h = cc

  -- the load of a page that is away, by its slot where that is now: its SECS is here, if it needs one
  pub load_row : (a : Actor) (g : Page) (slot : VaSlot) (to : SlotAt) (f : ℕ) → place past g ≡ Away slot → slot_here past slot ≡ Some to
      → (is_own_page g ≡ true → is_here (place past (secs_page g.enclave)) ≡ true) → least_free j.epc (content past) ≡ Some f
      → first_of_row (row_of (state_of m) a (EldStart (frame_at f) g to)) ≡ first_of_row (load_left (version_at (state_of m) to))
  load_row a g slot to f at told secs_here least =
      row_as (sight s f) (sight_at s.frames past f) (load_sight s g) (slot_sight s to) (slot_with s.frames past to (version_at s to))
      (first_of_row (load_left (version_at s to))) (sight_is r.follows.shape.columns f)
      (slot_is made j past d m r to (ltb-true to.index 512 within))
      (load_goes s.frames past g slot to f (load_sight s g) (version_at s to) r.sound r.pages.sealing at its.found its.here
      (least_found (content past) j.epc f least).free low
      (array_within s.frames past to.frame.0 frames_fit (ap is_va its.array)) (not_beyond to.index within) known
      (secs (is_own_page g) refl))
    where
      s : State
      s = state_of m

      its : IsFoundAt past slot to
      its = slot_stands slot to (array_of (drivers j) j d past r.shows g slot r.sound at) told

      within : nat_lt to.index 512 ≡ true
      within = ap (λ n. nat_lt n 512) its.index ∙ r.shows.slots.within g slot (ap (slot_at (open_start past)) at)

      low : nat_le s.frames f ≡ false
      low = ap (λ n. nat_le n f) frames_are ∙ not_past j.epc f (least_found (content past) j.epc f least).low

      frames_fit : Along (FitsRule s.frames) past
      frames_fit = subst (λ n. Along (FitsRule n) past) (r.frames ∙ sym frames_are) r.follows.frames

      known : is_known s g ≡ true
      known =
          known_by s past g (vas_is r.follows.shape.columns) (enclave_is r.follows.shape.columns g.enclave)
          (added_is r.follows.shape.columns g) (seen_made (s.enclaves g.enclave)) (added_created m g) (is_va_page g)
          (g.number == SECS_NUMBER)
          (r.sound.made g ∙ ap (λ p. not (is_absent p)) at)

      secs : (b : Bool) → is_own_page g ≡ b → (if b then secs_sight s g.enclave else settled) ≡ settled
      secs false other = refl
      secs true own =
          secs_sees s past r.follows.shape.columns g.enclave
          ∙ secs_settled s.frames past g.enclave r.sound r.pages.sealing frames_fit (own_none g own).1 (secs_here own)
