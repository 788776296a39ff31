-- What enclave_build's instructions answer, as a step of the machine.
use Rattle.std.proofs.Common.{◌≡◌, ℕ, ◌+◌, ◌*◌, ◌<◌, ◌==◌, Bool, true, false, not, cond, refl, sym, ap, subst, ◌∙◌, arith}
use Rattle.std.proofs.Common.{◌⊎◌, inl, inr, Option, Some, None, IfSome, List, length, get_or, set, is_some, ⊎_elim}
use Rattle.std.proofs.lemmas.Option.{cond_some}
use Rattle.sgx_rules.specs.declared.entries.Entry.{Entry}
use Rattle.sgx_types.specs.declared.names.Actor.{Actor}
use Rattle.sgx_rules.specs.declared.entries.Action.TheVariants.{Add, Extend, Init}
use Rattle.sgx_types.specs.declared.lawful.PageInit.{PageInit}
use Rattle.sgx_types.specs.declared.names.Frame.{Frame}
use Rattle.sgx_types.specs.declared.names.Page.{Page}
use Rattle.sgx_types.specs.declared.names.Kind.{Kind}
use Rattle.sgx_types.specs.declared.names.Kind.TheVariants as kinds
use Rattle.sgx_types.specs.declared.names.Perm.{Perm}
use Rattle.sgx_rules.specs.declared.refusals.Refusal.{Refusal}
use Rattle.sgx_rules.specs.declared.refusals.Refusal.TheVariants as why
use Rattle.sgx_types.specs.Pages.{page_at}
use Rattle.sgx_rules.specs.Frames.{Content, Free, IsVa, SecsOf, Holds, IsLoading, enclave_in}
use Rattle.sgx_types.specs.Cases.{first_of_row}
use Rattle.sgx_rules.specs.Table.{EnclaveSight, SecsSight, add_row, extend_row, init_row}
use Rattle.sgx_rules.specs.Flat.{enclave_sight_of}
use Rattle.epcm_entry.specs.inner.Epc.{EpcFrame, entry_at, bytes_at, with_page}
use Rattle.epcm_entry.specs.inner.Sights.{held, held_in, sight_in}
use Rattle.secs_state.specs.inner.Resident.{IsCountedIn}
use Rattle.epcm_entry.proofs.Columns.{entry_at-with_entry, length-with_entry}
use Rattle.epcm_entry.specs.inner.EntryView.{holding}
use Rattle.sgx_types.specs.declared.names.TheConstants.{MOST_FRAMES}
use Rattle.secs_state.specs.inner.Secs.{SecsState, added_at}
use Rattle.secs_state.specs.inner.Table.{enclave_at, with_enclave}
use Rattle.secs_state.specs.inner.Sights.{sight_of}
use Rattle.measure_log.specs.declared.measure.Measure.{Measure}
use Rattle.measure_log.specs.Blocks.{eextend_block, chunk_of}
use Rattle.measure_log.specs.Measure.{measurement_of}
use Rattle.measure_log.specs.inner.Measure.{HoldsLog}
use Rattle.measure_log.specs.Rule.{IsOther}
use Rattle.sgx_rules.specs.Frames.{page_of}
use Rattle.enclave_build.specs.inner.Build.{Appends, with_added, with_resident, block_in, chunk_block, is_expected, measured_row}
use Rattle.enclave_build.specs.inner.Build.{unless_measured}
use Rattle.version_array.specs.inner.Slots.{VaArrays, with_page as with_va_page}
use Rattle.version_array.proofs.TableLaws.{IsVaTable-with_page}
use Rattle.evict_reload.proofs.PageLaws.{pages-with_va}
use Rattle.sgx_machine.specs.declared.machine.Machine.TheInside.{Inside}
use Rattle.machine_laws.specs.inner.State.{State, row_of, secs_sight, is_closed, after_epa, after_add}
use Rattle.sgx_machine.specs.inner.Parts.{Parts, enclave_of, added_in, state_of}
use Rattle.sgx_machine.specs.inner.Whole.{IsTable, IsWhole, parts_of}
use Rattle.machine_laws.specs.inner.Steps.{IsStep, IsExtended, IsJudged, refused_by}
use Rattle.sgx_machine.proofs.Columns.{get_or-default, numbered, through}
use Rattle.sgx_machine.proofs.HeldLaws.{array_counted, held_put, places_made}
use Rattle.sgx_machine.proofs.KeptStates.{kept_epa}
use Rattle.sgx_machine.proofs.BuildBridge.{Takes, epa_state, adds, add_state, extend_state}
use Rattle.sgx_machine.proofs.WholeMachines.{Leaves, kept_of, done_step, refused_step}

-- an enclave that is there has a place for its measurement
pub measure_place : (d : Parts) (e : ℕ) (x : SecsState) → IsTable d.secs → enclave_at d.secs e ≡ Some x → length d.measures ≡ 9
    → e < length d.measures
measure_place d e x table found nine = let number = numbered d.secs e x table.places found in omega (arith, number.1, nine)

-- a measurement that was read from its place
pub measure_there : (measures : List (Option Measure)) (e : ℕ) (read : Option Measure) (y : Measure) → e < length measures
    → read ≡ get_or measures e read → Some y ≡ read → get_or measures e None ≡ Some y
measure_there measures e read y low at is = get_or-default measures e None read low ∙ sym at ∙ sym is

-- an enclave that is there counts its resident pages
pub counted_there : (m : Inside) → IsWhole m → (e : ℕ) (x : SecsState) → enclave_at m.secs e ≡ Some x
    → IsCountedIn (length m.epc) (held_in m.epc) x.enclave x
counted_there m h e x found =
    let own = (h.table.own e x found).number in
    subst (λ k. IsCountedIn (length m.epc) (held_in m.epc) k x) (sym own)
    (subst (λ o. IfSome o (IsCountedIn (length m.epc) (held_in m.epc) e)) found (h.held.counted e))

-- ---- epa

-- a version array page is put into a frame, and into the table
pub epa_leaves : (m : Inside) → IsWhole m → (f : ℕ) (page : Page) (perm : Perm) (epc : List EpcFrame) (va : VaArrays)
    → Takes m.epc f → page.number ≡ m.va.made → page.enclave ≡ 0 → epc ≡ with_page m.epc f page kinds.Va perm
    → va ≡ record { pages = with_va_page m.va.pages f; made = m.va.made + 1 }
    → Leaves (record (parts_of m) { epc = epc; va = va }) (after_epa (state_of (parts_of m)) f)
epa_leaves m h f page perm epc va k numbered none put paged =
    let few : f < MOST_FRAMES = omega (arith, k.low, h.held.small) in
    let entries : (n : ℕ) → entry_at (with_page m.epc f page kinds.Va perm) n
    ≡ cond (f == n) (holding page kinds.Va perm) (entry_at m.epc n) =
    λ n. entry_at-with_entry m.epc f n _ k.low in
    rw (put, paged)
    (record {
      state = epa_state (parts_of m) f page perm h.held.small k numbered;
      kept = kept_epa (state_of (parts_of m)) f k.low k.free (kept_of m h);
      processors = h.processors;
      places = h.places;
      table = h.table;
      track_places = h.track_places;
      tracked = h.tracked;
      slots = IsVaTable-with_page m.va.pages f few h.slots;
      held = held_put m.epc (with_page m.epc f page kinds.Va perm) m.secs m.secs m.va _ f (holding page kinds.Va perm)
          (length-with_entry m.epc f _) entries (pages-with_va m.epc m.va.pages f page perm h.held.pages k.low few)
          (places_made m.va f h.held.places)
          (array_counted m.epc (with_page m.epc f page kinds.Va perm) m.secs f page.number k.low k.free (length-with_entry m.epc f _)
          (λ n. ap held (entries n) ∙ through held (f == n) (holding page kinds.Va perm) (entry_at m.epc n)) h.held.counted)
          tt (λ e is. is) none h.held;
      start_places = h.start_places ∙ sym (length-with_entry m.epc f _);
    })

-- ---- add

-- the row of `add`, of an enclave that is there
pub add_row_at : (d : Parts) (a : Actor) (e number : ℕ) (f : Frame) (kind : Kind) (perm : Perm) (init : PageInit) (x : SecsState)
    → enclave_at d.secs e ≡ Some x → x.enclave ≡ e
    → first_of_row (row_of (state_of d) a (Add e number f kind perm init)) ≡ first_of_row
    (add_row number kind perm init (Some (sight_of x)) (secs_sight (state_of d) x.enclave) (is_some (added_at x number))
    (sight_in d.epc f.0))
add_row_at d a e number f kind perm init x found ours =
    ap (λ o. first_of_row (add_row number kind perm init (enclave_sight_of (enclave_of o)) (secs_sight (state_of d) e)
    (is_some (added_in o number))
    (sight_in d.epc f.0))) found
    ∙ ap (λ k. first_of_row (add_row number kind perm init (Some (sight_of x)) (secs_sight (state_of d) k) (is_some (added_at x number))
    (sight_in d.epc f.0))) (sym ours)

pub add_written : (d : Parts) (g : Page) (f : ℕ) (kind : Kind) (perm : Perm) (init : PageInit) (x x' : SecsState) (longer : Measure)
    (epc : List EpcFrame) → IsTable d.secs → enclave_at d.secs g.enclave ≡ Some x → length d.measures ≡ 9
    → None ≡ first_of_row (add_row g.number kind perm init (Some (sight_of x)) (secs_sight (state_of d) x.enclave)
    (is_some (added_at x g.number))
    (sight_in d.epc f))
    → epc ≡ with_added d.epc f (page_at x.enclave g.number) kind perm init → x' ≡ with_resident x g.number kind perm
    → state_of (record d { epc = epc; secs = with_enclave d.secs g.enclave x'; measures = set d.measures g.enclave (Some longer) })
    ≡ after_add (state_of d) g f kind perm init longer
add_written d g f kind perm init x x' longer epc table found nine allowed put resident =
    let page : epc ≡ with_added d.epc f g kind perm init = put
    ∙ ap (λ e. with_added d.epc f (page_at e g.number) kind perm init) (table.own g.enclave x found).number in
    rw (page, resident) (add_state d g f kind perm init x longer
    (adds d f g.enclave g.number kind perm init _ x (table.own g.enclave x found).number (sym allowed)) found table
    (measure_place d g.enclave x table found nine))

-- the counts of an enclave that a page was added to, by what was written
pub counts_as_added : (epc epc' : List EpcFrame) (y y' : SecsState) (e : ℕ) → epc ≡ epc' → y ≡ y' → y.enclave ≡ e
    → IsCountedIn (length epc) (held_in epc) y.enclave y → IsCountedIn (length epc') (held_in epc') e y'
counts_as_added epc epc' y y' e frames same ours h =
    subst (λ (k : List EpcFrame). IsCountedIn (length k) (held_in k) e y') frames
    (subst (λ (z : SecsState). IsCountedIn (length epc) (held_in epc) e z) same
    (subst (λ k. IsCountedIn (length epc) (held_in epc) k y) ours h))

-- ---- extend

-- a page that a frame holds is of its enclave
enclave_held : (c : Content) (g : Page) → page_of c ≡ Some g → enclave_in c ≡ Some g.enclave
enclave_held (Holds page kind perm) g is = let same : page ≡ g = cc is in ap (λ (q : Page). Some q.enclave) same
enclave_held Free g is = cc is
enclave_held (IsVa number) g is = cc is
enclave_held (SecsOf enclave) g is = cc is
enclave_held (IsLoading page) g is = cc is

-- .. and its block is that of its number
block_held : (c : Content) (bytes : List ℕ) (chunk : ℕ) (g : Page) → page_of c ≡ Some g
    → block_in c bytes chunk ≡ eextend_block (4096 * g.number + 256 * chunk) (chunk_of bytes chunk)
block_held (Holds page kind perm) bytes chunk g is =
    let same : page ≡ g = cc is in ap (λ (q : Page). eextend_block (4096 * q.number + 256 * chunk) (chunk_of bytes chunk)) same
block_held Free bytes chunk g is = cc is
block_held (IsVa number) bytes chunk g is = cc is
block_held (SecsOf enclave) bytes chunk g is = cc is
block_held (IsLoading page) bytes chunk g is = cc is

-- the state of the enclave of the page in a frame
pub owner : (d : Parts) (f : ℕ) (g : Page) (x : SecsState) → IsTable d.secs → page_of (held (entry_at d.epc f)) ≡ Some g
    → enclave_at d.secs g.enclave ≡ Some x → IfSome (enclave_in (held (entry_at d.epc f))) (λ enclave. enclave ≡ x.enclave)
owner d f g x table here found = rw (enclave_held (held (entry_at d.epc f)) g here) (sym (table.own g.enclave x found).number)

-- the row of `extend`, of a page of an enclave that is there
pub extend_row_at : (d : Parts) (a : Actor) (f : Frame) (chunk : ℕ) (g : Page) (x : SecsState)
    → page_of (held (entry_at d.epc f.0)) ≡ Some g → enclave_at d.secs g.enclave ≡ Some x
    → first_of_row (row_of (state_of d) a (Extend f chunk)) ≡ first_of_row (extend_row chunk x.is_init (sight_in d.epc f.0))
extend_row_at d a f chunk g x here found =
    ap (λ o. first_of_row (extend_row chunk (is_closed (state_of d) o) (sight_in d.epc f.0)))
    (enclave_held (held (entry_at d.epc f.0)) g here)
    ∙ ap (λ o. first_of_row (extend_row chunk (is_closed (record (state_of d) { enclaves = λ e. enclave_of o }) (Some g.enclave))
    (sight_in d.epc f.0))) found

pub extend_done : (d : Parts) (f chunk : ℕ) (g : Page) (x : SecsState) (y longer : Measure) → IsTable d.secs
    → page_of (held (entry_at d.epc f)) ≡ Some g → enclave_at d.secs g.enclave ≡ Some x → length d.measures ≡ 9
    → get_or d.measures g.enclave None ≡ Some y → Appends y longer (chunk_block d.epc f chunk)
    → IsExtended (state_of d) f chunk (state_of (record d { measures = set d.measures g.enclave (Some longer) }))
extend_done d f chunk g x y longer table here found nine there appends = record {
  page = g;
  held = here;
  longer = longer;
  log = rw there (rw (block_held (held (entry_at d.epc f)) (bytes_at d.epc f) chunk g here) at appends);
  state = extend_state d g.enclave longer (measure_place d g.enclave x table found nine);
}

-- ---- init

-- the row of `init`, of an enclave that is there
pub init_row_at : (d : Parts) (a : Actor) (e : ℕ) (expect : Option (List ℕ)) (x : SecsState) → enclave_at d.secs e ≡ Some x → x.enclave ≡ e
    → first_of_row (row_of (state_of d) a (Init e expect)) ≡ first_of_row (init_row (Some (sight_of x)) (secs_sight (state_of d) x.enclave))
init_row_at d a e expect x found ours =
    ap (λ o. first_of_row (init_row (enclave_sight_of (enclave_of o)) (secs_sight (state_of d) e))) found
    ∙ ap (λ k. first_of_row (init_row (Some (sight_of x)) (secs_sight (state_of d) k))) (sym ours)

-- a refusal tells a measurement, or is one of the row
told : (r : Refusal) → ((made : List ℕ) × (r ≡ why.BadMeasure made)) ⊎ (unless_measured (Some r) ≡ Some r)
told (why.BadMeasure made) = inl (made, refl)
told r = inr refl

-- a measurement that is told is that of the log
told_measure : (o : EnclaveSight) (secs : SecsSight) (expect : Option (List ℕ)) (made digest : List ℕ)
    → first_of_row (init_row (Some o) secs) ≡ None
    → Some (why.BadMeasure made) ≡ first_of_row (measured_row o secs expect digest) → made ≡ digest
told_measure o secs expect made digest unjudged is = by_tests secs.is_away secs.is_sealing o.is_init unjudged is
  where
    by_tests : (a b i : Bool) → cond a (Some why.Absent) (cond b (Some why.Conflict) (cond i (Some why.IsInit) None)) ≡ None
        → Some (why.BadMeasure made) ≡ cond a (Some why.Absent) (cond b (Some why.Conflict) (cond i (Some why.IsInit)
        (cond (not (is_expected expect digest)) (Some (why.BadMeasure digest)) None)))
        → made ≡ digest
    by_tests true b i none k = cc none
    by_tests false true i none k = cc none
    by_tests false false true none k = cc none
    by_tests false false false none k = let same : why.BadMeasure digest ≡ why.BadMeasure made = (cond_some _ _ _ (sym k)).1 in cc same

pub init_refused : (s : State) (a : Actor) (enclave : ℕ) (expect : Option (List ℕ)) (o : EnclaveSight) (secs : SecsSight) (y : Measure)
    (r : Refusal) (e : Entry) (t : State) → first_of_row (row_of s a (Init enclave expect)) ≡ first_of_row (init_row (Some o) secs)
    → s.measure enclave ≡ Some y
    → unless_measured (Some r) ≡ first_of_row (init_row (Some o) secs) → ((made : List ℕ) → r ≡ why.BadMeasure made → IsOther expect made)
    → ((log : List ℕ) → HoldsLog y log → Some r ≡ first_of_row (measured_row o secs expect (measurement_of log)))
    → e ≡ refused_by a (Init enclave expect) r → t ≡ s → IsStep s a (Init enclave expect) e t
init_refused s a enclave expect o secs y r e t row there refusal other measured entry same = ⊎_elim by_measure by_row (told r)
  where
    by_row : unless_measured (Some r) ≡ Some r → IsStep s a (Init enclave expect) e t
    by_row k = refused_step _ _ _ r (row ∙ sym refusal ∙ k) (entry, same)

    by_measure : ((made : List ℕ) × (r ≡ why.BadMeasure made)) → IsStep s a (Init enclave expect) e t
    by_measure k =
        let unjudged : first_of_row (init_row (Some o) secs) ≡ None = sym refusal ∙ ap (λ q. unless_measured (Some q)) k.1 in
        let judged : IsJudged s a enclave expect e t = record {
          digest = k.0;
          finished = rw there (λ log holds. told_measure o secs expect k.0 (measurement_of log) unjudged
              (ap Some (sym k.1) ∙ measured log holds));
          judged = inr (other k.0 k.1, entry ∙ ap (refused_by a (Init enclave expect)) k.1, same);
        } in
        done_step _ _ _ (row ∙ unjudged) judged
