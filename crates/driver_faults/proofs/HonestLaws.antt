-- A load from an honest store ends with the page back.
use Rattle.std.proofs.Common.{◌≡◌, ℕ, Bool, true, false, refl, sym, ◌∙◌, ap, subst, List, Option, None, Some}
use Rattle.std.proofs.lemmas.Option.{same_Some}
use Rattle.sgx_types.proofs.Pages.{same_pages}
use Rattle.sgx_rules.specs.declared.entries.Entry.{Entry}
use Rattle.sgx_types.specs.declared.names.Cpu.{Cpu}
use Rattle.sgx_types.specs.declared.names.Page.{Page}
use Rattle.sgx_types.specs.declared.names.VaSlot.{VaSlot}
use Rattle.sgx_rules.specs.Frames.{is_this}
use Rattle.sgx_rules.specs.PageBytes.{header_at}
use Rattle.sgx_types.specs.Pages.{same_page}
use Rattle.sgx_rules.specs.Fresh.{Out, last_out}
use Rattle.sgx_types.specs.Making.{Making}
use Rattle.sgx_types.specs.Sealed.{Sealed}
use Rattle.sgx_rules.specs.Slots.{version_in}
use Rattle.sgx_rules.specs.Starts.{Start, open_start}
use Rattle.sgx_rules.specs.inner.Starts.{BareStart}
use Rattle.seal_record.specs.Cipher.{tag}
use Rattle.machine_laws.proofs.MoveEnds.{headers_agree}
use Rattle.machine_laws.specs.inner.State.{State}
use Rattle.machine_laws.specs.inner.Steps.{IsComing}
use Rattle.machine_laws.proofs.SlotLaws.{started_as}
use Rattle.sgx_machine.specs.inner.Parts.{Parts, state_of}
use Rattle.backing_store.specs.Calls.{Call}
use Rattle.job_grammar.specs.Jobs.{JobView}
use Rattle.driver_rules.specs.Places.{Loading, place}
use Rattle.driver_rules.specs.inner.Reclaims.{is_refused}
use Rattle.driver_laws.specs.inner.Sound.{load_slot, slot_if, slot_outside, version_out}
use Rattle.driver_tables.specs.declared.driver.Driver.{Driver}
use Rattle.driver_tables.specs.inner.Tables.{place_in}
use Rattle.driver_tables.specs.inner.Agrees.{Agrees}
use Rattle.history_rules.specs.Given.{gift}
use Rattle.history_rules.specs.inner.Honest.{GiftsAreLast, IsLastPut}
use Rattle.history_rules.specs.Stored.{StoreCalls}
use Rattle.history_rules.proofs.HonestLaws.{last_sealed, load_at}
use Rattle.sgx_types.specs.declared.names.Actor.TheVariants as actors
use Rattle.sgx_rules.specs.inner.Enclaves.{EnclavesAreFlat}
use Rattle.sgx_rules.proofs.Busy.{IsBareOf}
use Rattle.driver_faults.specs.declared.answers.Loaded.{Loaded}
use Rattle.driver_faults.specs.inner.Finishing.{CanFinish, FindsVersion, IsBack, IsFinished}
use Rattle.driver_faults.proofs.OwnRecords.{own_record}

-- a version that is told
out_of : (o : Option Out) (version : ℕ) → version_out o ≡ Some version → (x : Out) × (o ≡ Some x) × (x.version ≡ version)
out_of None version h = cc
out_of (Some x) version h = (x, refl, same_Some x.version version h)

-- the page and the slot of the open start of a load
pub start_of : (x : Start) (g : Page) (slot : VaSlot) → load_slot (Some x) g ≡ Some slot → (x.loads ≡ Some g) × (x.slot ≡ slot)
start_of x g slot h = by_loads x.loads refl h
  where
    by_page : (page : Page) (b : Bool) → same_page page g ≡ b → slot_if b x.slot ≡ Some slot → (Some page ≡ Some g) × (x.slot ≡ slot)
    by_page page true is k = (ap Some (same_pages page g is), same_Some x.slot slot k)
    by_page page false is k = cc

    by_loads : (l : Option Page) → x.loads ≡ l → slot_if (is_this l g) x.slot ≡ Some slot → (l ≡ Some g) × (x.slot ≡ slot)
    by_loads None is k = cc
    by_loads (Some page) is k = by_page page (same_page page g) refl k

module _ (made : Making) (j : JobView) (past : List Entry) (calls : List Call) (d d' : Driver) (m : Parts) (t : State) (cpu : Cpu)
    (page : Page) (loaded : Loaded) (can : CanFinish cpu page d m) (r : Agrees made j past d m) (store : StoreCalls made.key past calls)
    (gifts : GiftsAreLast past calls) (finds : FindsVersion past can.frame.0 can.slot) (seen : EnclavesAreFlat past)
    (given : gift past calls can.frame.0 ≡ Some can.kept)
    (is : IsFinished cpu page can.slot can.frame can.kept d (state_of m) loaded d' t) where
  abbrev s : State
  s = state_of m

  abbrev coming : IsComing s can.frame.0
  coming = is.reloaded.coming

  pub at : place past page ≡ Loading can.frame.0 can.slot
  at =
      sym (r.shows.states page can.tables.placed)
      ∙ ap place_in can.tables.loading

  pub out : (x : Out) × (last_out past page ≡ Some x) × (x.version ≡ version_in past can.slot)
  out = out_of (last_out past page) (version_in past can.slot) (r.sound.versions page can.slot (ap slot_outside at))

  put : IsLastPut made.key past calls page out.0.version
  put = last_sealed made.key past calls store page out.0 out.1

  kept : can.kept ≡ put.rec
  kept = same_Some can.kept put.rec (sym given ∙ gifts page can.frame.0 can.slot at ∙ put.put)

  its : IsBareOf (open_start past can.frame.0) coming.start
  its = started_as s past r.follows.shape.columns can.frame.0 coming.start coming.opened

  opened : open_start past can.frame.0 ≡ Some its.start
  opened = its.opened

  start : (its.start.loads ≡ Some page) × (its.start.slot ≡ can.slot)
  start =
      start_of its.start page can.slot
      (sym (ap (λ o. load_slot o page) opened) ∙ load_at past can.frame.0 page can.slot r.sound at)

  pub its_page : coming.page ≡ page
  its_page = same_Some coming.page page (sym coming.loads ∙ sym (ap (λ (y : BareStart). y.loads) its.same) ∙ start.0)

  pub version : coming.start.version ≡ out.0.version
  version =
      sym (ap (λ (y : BareStart). y.version) its.same) ∙ finds its.start opened ∙ sym out.2

  headed : put.rec.header ≡ coming.header
  headed =
      same_Some put.rec.header coming.header
      (sym put.sealed.header ∙ ap (header_at past) (sym its_page)
      ∙ sym (headers_agree s past r.follows.shape.columns seen coming.page) ∙ coming.headed)

  tagged : put.rec.tag ≡ tag s.key coming.start.version put.rec.header put.rec.cipher
  tagged =
      put.sealed.tagged
      ∙ ap (λ (k : Making). tag k.key out.0.version put.rec.header put.rec.cipher) (sym r.follows.shape.making)
      ∙ ap (λ v. tag s.key v put.rec.header put.rec.cipher) (sym version)

  done : is_refused is.entry.event ≡ false
  done =
      own_record s t (actors.Cpu cpu) can.frame can.kept is.entry is.reloaded (ap (λ (x : Sealed). x.header) kept ∙ headed)
      (subst (λ (x : Sealed). x.tag ≡ tag s.key coming.start.version x.header x.cipher) (sym kept) tagged)

  pub honest_back : IsBack loaded
  honest_back = subst IsBack (sym (is.ends.1 done).0) tt
