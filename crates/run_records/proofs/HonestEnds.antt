-- A run over an honest store stays honest with the ends of loads and of write-outs: each page comes back, and a version array page with
-- the versions with which it went out.
use Rattle.std.proofs.Common.{◌≡◌, ℕ, ◌<◌, Bool, true, false, List, ◌∷◌, Option, Some, None, is_some}
use Rattle.std.proofs.Common.{IfSome, MatchOption, refl, sym, ap, subst, ◌∙◌, arith}
use Rattle.std.specs.Option.{IsSomeAnd}
use Rattle.std.proofs.lemmas.Bool.{false≢true}
use Rattle.std.proofs.lemmas.Option.{same_Some}
use Rattle.sgx_types.proofs.Pages.{same_page-refl}
use Rattle.sgx_types.specs.declared.names.Actor.TheVariants as actors
use Rattle.sgx_rules.specs.declared.entries.Action.TheVariants.{Eld}
use Rattle.sgx_rules.specs.declared.entries.Answer.TheVariants.{Moved}
use Rattle.sgx_rules.specs.declared.entries.Entry.{Entry}
use Rattle.sgx_rules.specs.declared.refusals.Refusal.{Refusal}
use Rattle.sgx_types.specs.declared.names.Cpu.{Cpu}
use Rattle.sgx_types.specs.declared.names.Frame.{Frame}
use Rattle.sgx_types.specs.declared.names.Page.{Page}
use Rattle.sgx_types.specs.declared.names.TheConstants.{SECS_NUMBER}
use Rattle.sgx_types.specs.Pages.{is_own_page, is_va_page, secs_page, va_page}
use Rattle.sgx_rules.specs.Frames.{Content, content, Free, Holds, IsLoading, IsVa, SecsOf, page_there, stands}
use Rattle.sgx_rules.specs.Fresh.{Out, last_out}
use Rattle.sgx_rules.specs.PageBytes.{va_words}
use Rattle.sgx_rules.specs.Slots.{version_in}
use Rattle.sgx_rules.specs.inner.Starts.{BareStart}
use Rattle.sgx_types.specs.Cases.{first_of_row}
use Rattle.sgx_types.specs.Making.{Making}
use Rattle.sgx_types.specs.Sealed.{Sealed}
use Rattle.sgx_types.proofs.Lists.{map_below}
use Rattle.epcm_entry.specs.inner.Words.{words_of as words_in}
use Rattle.job_grammar.specs.Jobs.{JobView, va_pages}
use Rattle.seal_record.specs.Cipher.{cipher}
use Rattle.seal_record.proofs.CipherLaws.{cipher_twice}
use Rattle.backing_store.specs.Calls.{Call, Put}
use Rattle.backing_store.specs.inner.Calls.{with_call}
use Rattle.driver_list.specs.inner.Places.{IsPlaced}
use Rattle.machine_laws.specs.inner.Columns.{HasAllVersions, slot_of as slot_at_index}
use Rattle.machine_laws.specs.inner.Histories.{BringsArrayIn}
use Rattle.machine_laws.specs.inner.State.{State, place_at}
use Rattle.machine_laws.specs.inner.Steps.{HasBytesOf, IsComing, IsReloaded, IsWrittenOut, commit_row, did_by, refused_by, slots_in}
use Rattle.machine_laws.proofs.ColumnLaws.{content_is}
use Rattle.sgx_machine.specs.inner.Parts.{Parts, state_of}
use Rattle.driver_rules.specs.Places.{Absent, Away, Here, Leaving, Loading, Place, place}
use Rattle.driver_rules.specs.Stops.{is_bus}
use Rattle.driver_rules.specs.Turns.{Loads, last_of}
use Rattle.driver_laws.specs.inner.Sound.{is_absent, load_slot, stands_in}
use Rattle.driver_tables.specs.declared.driver.Driver.{Driver}
use Rattle.driver_tables.specs.inner.Tables.{place_in}
use Rattle.driver_tables.specs.inner.Agrees.{Agrees}
use Rattle.due_tables.specs.declared.turns.Turns.{Turns}
use Rattle.history_rules.specs.Given.{gift}
use Rattle.history_rules.specs.Honest.{IsHonest, last_put}
use Rattle.history_rules.specs.Stored.{StoreCalls}
use Rattle.history_rules.proofs.HonestLaws.{load_at}
use Rattle.driver_faults.specs.declared.answers.Loaded.{Loaded}
use Rattle.driver_faults.specs.inner.Finishing.{CanFinish, FindsVersion, IsBack, IsFinished}
use Rattle.driver_faults.proofs.HonestLaws.{honest_back, its_page, out as last_out_of, start_of, version as version_found}
use Rattle.driver_pass.specs.declared.stages.Taken.{Taken}
use Rattle.driver_pass.specs.inner.Viewed.{PassView, sealing_in}
use Rattle.driver_reclaim.specs.inner.Stored.{IsStored, KeepsArrays, StoredSays}
use Rattle.run_laws.specs.inner.Books.{FindsVersion as FindsBy, IsHonestEntry, KeepsBook}
use Rattle.run_laws.specs.inner.Honest.{IsArrayPut, IsHonestBook, PutsArray}
use Rattle.run_laws.specs.inner.Loads.{entry_in}
use Rattle.run_laws.proofs.HonestBook.{last_array}
use Rattle.run_records.specs.inner.Honest.{StaysHonest}
use Rattle.run_records.proofs.LoadRecords.{given, same_entry}
use Rattle.run_records.proofs.QuietLaws.{IsQuiet, quiet_honest}

-- ---- the end of a load

-- it tells of no page that was lost, starts no load and ends no write-out
end_quiet : (s t : State) (cpu : Cpu) (f : Frame) (rec : Sealed) (e : Entry) → IsReloaded s (actors.Cpu cpu) f rec e t → IsQuiet e.event
end_quiet s t cpu f rec e is = by_row _ _ (first_of_row (commit_row s f.0 is.coming rec)) is.row
  where
    by_row : (X : Type 0) (Y : Refusal → Type 0) (o : Option Refusal) → MatchOption o
        ((e ≡ did_by (actors.Cpu cpu) (Eld f) (Moved is.coming.page is.coming.start.version rec.tag)) × X)
        (λ refusal. (e ≡ refused_by (actors.Cpu cpu) (Eld f) refusal) × Y refusal) → IsQuiet e.event
    by_row X Y None k =
        subst (λ (x : Entry). IsQuiet x.event) (sym k.0)
        (record { back = refl; finds = λ past. tt; puts = λ key past calls. tt })
    by_row X Y (Some refusal) k =
        subst (λ (x : Entry). IsQuiet x.event) (sym k.0)
        (record { back = refl; finds = λ past. tt; puts = λ key past calls. tt })

-- of a load that a processor has still to end, over an honest store
module _ (made : Making) (j : JobView) (past : List Entry) (calls : List Call) (d d' : Driver) (m m' : Parts) (t : Turns) (cpu : Cpu)
    (page : Page) (n : ℕ) (loaded : Loaded) (can : CanFinish cpu page d m) (k : KeepsBook made j past (Some calls) d m t)
    (keys : made.key ≡ j.key) (last : last_of past cpu.0 ≡ Loads n page)
    (is : IsFinished cpu page can.slot can.frame can.kept d (state_of m) loaded d' (state_of m')) (honest : IsHonest calls) where
  abbrev s : State
  s = state_of m

  r : Agrees made j past d m
  r = k.agrees

  book : IsHonestBook made past m calls
  book = k.honest honest

  store : StoreCalls made.key past calls
  store = subst (λ key. StoreCalls key past calls) (sym keys) k.store.store

  gave : gift past calls can.frame.0 ≡ Some can.kept
  gave = given made j past calls d d' m m' t cpu page n loaded can k keys last is

  at : place past page ≡ Loading can.frame.0 can.slot
  at = sym (r.shows.states page can.tables.placed) ∙ ap place_in can.tables.loading

  -- its start found the version of its slot
  finds : FindsVersion past can.frame.0 can.slot
  finds x opened =
      let start = start_of x page can.slot
      (sym (ap (λ o. load_slot o page) opened) ∙ load_at past can.frame.0 page can.slot r.sound at) in
      book.found can.frame.0 x opened (ap is_some start.0) ∙ ap (version_in past) start.1

  end_back : IsBack loaded
  end_back = honest_back made j past calls d d' m (state_of m') cpu page loaded can r store book.gifts finds k.flat gave is

  abbrev coming : IsComing s can.frame.0
  coming = is.reloaded.coming

  out : (x : Out) × (last_out past page ≡ Some x) × (x.version ≡ version_in past can.slot)
  out = last_out_of made j past calls d d' m (state_of m') cpu page loaded can r store book.gifts finds k.flat gave is

  coming_page : coming.page ≡ page
  coming_page = its_page made j past calls d d' m (state_of m') cpu page loaded can r store book.gifts finds k.flat gave is

  coming_version : coming.start.version ≡ out.0.version
  unfolding out
  coming_version = version_found made j past calls d d' m (state_of m') cpu page loaded can r store book.gifts finds k.flat gave is

  put : last_put calls page ≡ Some can.kept
  put = sym (book.gifts page can.frame.0 can.slot at) ∙ gave

  -- where it loads a version array page, its record is the last one put of that page
  brings : BringsArrayIn made.key past s can.frame.0 can.kept
  brings start number opened loads = record {
    words = last_one.words;
    last = last_one.last;
    under = subst (λ o. IfSome o (λ (x : Out). x.version ≡ start.version)) (sym its_out) version;
    back = (λ i. words_in (cipher made.key (sym version i) (same_rec i).cipher)) ∙ last_one.back;
  }
    where
      same_start : coming.start ≡ start
      same_start = same_Some coming.start start (sym coming.opened ∙ opened)

      named : va_page number ≡ page
      named =
          same_Some (va_page number) page
          (sym loads ∙ ap (λ (x : BareStart). x.loads) (sym same_start) ∙ coming.loads ∙ ap Some coming_page)

      its_out : last_out past (va_page number) ≡ Some out.0
      its_out = ap (last_out past) named ∙ out.1

      last_one : IsArrayPut made.key past calls number out.0.version
      last_one = last_array made.key number past calls store.calls_are book.puts out.0 its_out

      version : out.0.version ≡ start.version
      version = sym coming_version ∙ ap (λ (x : BareStart). x.version) same_start

      same_rec : can.kept ≡ last_one.rec
      same_rec = same_Some can.kept last_one.rec (sym put ∙ ap (last_put calls) (sym named) ∙ last_one.put)

  end_entry : IsHonestEntry made past m (entry_in loaded) m' calls
  end_entry =
      subst (λ (e : Entry). IsHonestEntry made past m e m' calls)
      (sym (same_entry made j past calls d d' m m' t cpu page n loaded can k keys last is))
      (quiet_honest made past m m' is.entry calls (end_quiet s (state_of m') cpu can.frame can.kept is.entry is.reloaded)
      (λ all. is.carries.arrays made past r.follows all (λ done. brings)))

-- .. where the store tells its calls
pub ended_back : (made : Making) (j : JobView) (past : List Entry) (told : Option (List Call)) (d d' : Driver) (m m' : Parts) (t : Turns)
    (cpu : Cpu) (page : Page) (n : ℕ) (loaded : Loaded) (can : CanFinish cpu page d m) → KeepsBook made j past told d m t
    → made.key ≡ j.key → last_of past cpu.0 ≡ Loads n page
    → IsFinished cpu page can.slot can.frame can.kept d (state_of m) loaded d' (state_of m')
    → IfSome told (λ calls. IsHonest calls → IsBack loaded)
ended_back made j past None d d' m m' t cpu page n loaded can k keys last is = tt
ended_back made j past (Some calls) d d' m m' t cpu page n loaded can k keys last is =
    λ honest. end_back made j past calls d d' m m' t cpu page n loaded can k keys last is honest

pub ended_honest : (made : Making) (j : JobView) (past : List Entry) (told : Option (List Call)) (d d' : Driver) (m m' : Parts) (t : Turns)
    (cpu : Cpu) (page : Page) (n : ℕ) (loaded : Loaded) (can : CanFinish cpu page d m) → KeepsBook made j past told d m t
    → made.key ≡ j.key → last_of past cpu.0 ≡ Loads n page
    → IsFinished cpu page can.slot can.frame can.kept d (state_of m) loaded d' (state_of m')
    → StaysHonest made past m (entry_in loaded) m' told
ended_honest made j past None d d' m m' t cpu page n loaded can k keys last is = tt
ended_honest made j past (Some calls) d d' m m' t cpu page n loaded can k keys last is =
    λ honest. end_entry made j past calls d d' m m' t cpu page n loaded can k keys last is honest

-- ---- the end of a write-out

slots_same : (s : State) (past : List Entry) (f number : ℕ) → s.content f ≡ IsVa number → HasAllVersions s past
    → slots_in s f ≡ va_words past number
slots_same s past f number held all =
    map_below (λ index. s.version_in (place_at f index)) (λ index. version_in past (slot_at_index number index)) 512 (all f number held)

-- a page that stands in a frame is not absent
not_absent : (p : Place) (n : ℕ) → stands_in p n ≡ true → is_absent p ≡ false
not_absent Absent n h = cc
not_absent (Here f) n h = refl
not_absent (Leaving f) n h = refl
not_absent (Loading f slot) n h = refl
not_absent (Away slot) n h = refl

-- a page of an enclave is no version array page
own_no_array : (page : Page) → is_own_page page ≡ true → is_va_page page ≡ true → ⊥
own_no_array page own va = false≢true (sym (rw va refl) ∙ own)

module _ (made : Making) (j : JobView) (past : List Entry) (d : Driver) (m m' : Parts) (r : Agrees made j past d m) (e : Entry) (f : Frame)
    (rec : Sealed) (out : IsWrittenOut (state_of m) actors.Reclaimer f e rec (state_of m')) (all : HasAllVersions (state_of m) past)
    (va : is_va_page out.leaving.page ≡ true) where
  -- a SECS has no number of a version array page
  no_secs : (enclave : ℕ) → (state_of m).content f.0 ≡ SecsOf enclave → secs_page enclave ≡ out.leaving.page → ⊥
  no_secs enclave held named =
      let there : stands (content past f.0) (secs_page enclave) ≡ true =
      ap (λ c. stands c (secs_page enclave)) (sym (content_is r.follows.shape.columns f.0) ∙ held) ∙ same_page-refl (secs_page enclave) in
      let placed : IsPlaced d.states.counts (secs_page enclave) =
      r.shows.placed (secs_page enclave)
      (not_absent (place past (secs_page enclave)) f.0 (sym (r.sound.places.frames (secs_page enclave) f.0) ∙ there)) in
      let low : SECS_NUMBER < d.states.counts.arrays = placed.array (ap is_va_page named ∙ va) in
      let of_job : d.states.counts.arrays ≡ va_pages j = ap (λ c. c.arrays) (r.shows.counts ∙ r.shows.of_job) in
      let arrays = r.shows.arrays in let few = r.shows.few_arrays in omega (arith, low, of_job, arrays, few)

  -- its bytes are its slots
  words : words_in out.leaving.bytes ≡ va_words past out.leaving.page.number
  words = by_content ((state_of m).content f.0) refl out.leaving.held out.leaving.kept
    where
      by_content : (c : Content) → (state_of m).content f.0 ≡ c → page_there c ≡ Some out.leaving.page
          → HasBytesOf (state_of m) f.0 c out.leaving.bytes → words_in out.leaving.bytes ≡ va_words past out.leaving.page.number
      by_content (IsVa number) held there kept =
          kept.1 ∙ slots_same (state_of m) past f.0 number held all
          ∙ ap (λ (g : Page). va_words past g.number) (same_Some (va_page number) out.leaving.page there)
      by_content (SecsOf enclave) held there kept =
          absurd (no_secs enclave held (same_Some (secs_page enclave) out.leaving.page there))
      by_content (Holds page kind perm) held there kept =
          absurd (own_no_array page
          (r.sound.held f.0 page kind perm (sym (content_is r.follows.shape.columns f.0) ∙ held))
          (ap is_va_page (same_Some page out.leaving.page there) ∙ va))
      by_content Free held there kept = absurd kept
      by_content (IsLoading page) held there kept = absurd kept

  put_words : words_in (cipher made.key out.leaving.start.version rec.cipher) ≡ va_words past out.leaving.page.number
  put_words =
      (λ i. words_in (cipher (keyed i) out.leaving.start.version (ciphered i)))
      ∙ ap words_in (cipher_twice (state_of m).key out.leaving.start.version out.leaving.bytes out.leaving.sized) ∙ words
    where
      keyed : made.key ≡ (state_of m).key
      keyed = ap (λ (x : Making). x.key) (sym r.follows.shape.making)

      ciphered : rec.cipher ≡ cipher (state_of m).key out.leaving.start.version out.leaving.bytes
      ciphered = ap (λ (x : Sealed). x.cipher) out.sealed

-- the entry, where its record was put
stored_entry : (made : Making) (j : JobView) (past : List Entry) (calls : List Call) (d : Driver) (m m' : Parts) (e : Entry) (one : Page)
    (f : Frame) (rec : Sealed) (failed : Bool) → Agrees made j past d m
    → IsWrittenOut (state_of m) actors.Reclaimer f e rec (state_of m') → KeepsArrays (state_of m) e (state_of m')
    → IsHonestEntry made past m e m' (Put one rec failed ∷ calls)
stored_entry made j past calls d m m' e one f rec failed r out arrays = record {
  back = λ book. subst (λ (x : Entry). is_bus x.event ≡ false) (sym out.entry) refl;
  finds = λ book. subst (λ (x : Entry). FindsBy past x.event) (sym out.entry) tt;
  puts = λ book. subst (λ (x : Entry). PutsArray made.key past x.event (Put one rec failed ∷ calls)) (sym out.entry)
      (put_words made j past d m m' r e f rec out book.arrays);
  arrays = λ book. arrays made past r.follows book.arrays;
}

pub stored_honest : (made : Making) (j : JobView) (past : List Entry) (told told' : Option (List Call)) (d d' : Driver) (m m' : Parts)
    (t : Turns) (v : PassView) (faults faults' : ℕ) (e : Entry) → KeepsBook made j past told d m t
    → StoredSays v (state_of m) d told faults e (state_of m') d' told' faults' → KeepsArrays (state_of m) e (state_of m')
    → StaysHonest made past m e m' told'
stored_honest made j past told told' d d' m m' t v faults faults' e k says arrays = by_page (sealing_in v) says
  where
    by_told : (one : Page) (rec : Sealed) (failed : Bool) (o : Option (List Call))
        → ((calls : List Call) → IsHonestEntry made past m e m' (Put one rec failed ∷ calls))
        → StaysHonest made past m e m' (with_call (Put one rec failed) o)
    by_told one rec failed None h = tt
    by_told one rec failed (Some calls) h = λ honest. h calls

    by_page : (o : Option Taken) → IsSomeAnd o (λ one. IsStored one (state_of m) d told faults e (state_of m') d' told' faults')
        → StaysHonest made past m e m' told'
    by_page None is = absurd is
    by_page (Some one) is =
        subst (StaysHonest made past m e m') (sym is.call) (by_told one.page is.rec is.failed told
        (λ calls. stored_entry made j past calls d m m' e one.page one.frame is.rec is.failed k.agrees is.out arrays))
