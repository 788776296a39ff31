-- One instruction of the machine, or the commit of one: its entry and the state after it, exactly by its row.
use Rattle.std.specs.Prelude.{ℕ, ◌≡◌, ◌<◌, ◌≤◌, ◌+◌, ◌*◌, ◌/◌, ◌^◌, ◌⊎◌, Bool, true, false, if◌then◌else◌, List, Option, Some, None}
use Rattle.std.specs.Prelude.{MatchOption, length, map, unwrap_or}
use Rattle.std.specs.Option.{IsSomeAnd}
use Rattle.sgx_rules.specs.declared.entries.Entry.{Entry}
use Rattle.sgx_rules.specs.declared.entries.Event.TheVariants.{Did, Refused}
use Rattle.sgx_types.specs.declared.names.Actor.{Actor}
use Rattle.sgx_types.specs.declared.names.Actor.TheVariants as actors
use Rattle.sgx_rules.specs.declared.entries.Action.{Action}
use Rattle.sgx_rules.specs.declared.entries.Action.TheVariants.{Epa, Create, Add, Extend, Init, Enter, Resume, Exit, Aex, Fill}
use Rattle.sgx_rules.specs.declared.entries.Action.TheVariants.{Load, Store}
use Rattle.sgx_rules.specs.declared.entries.Action.TheVariants.{Xadd, Set, Plus, Pf, OutLoad, OutStore, Block, Track, EwbStart}
use Rattle.sgx_rules.specs.declared.entries.Action.TheVariants.{Ewb}
use Rattle.sgx_rules.specs.declared.entries.Action.TheVariants.{EldStart, Eld}
use Rattle.sgx_rules.specs.declared.entries.Answer.{Answer}
use Rattle.sgx_rules.specs.declared.entries.Answer.TheVariants as answers
use Rattle.sgx_rules.specs.declared.refusals.Refusal.{Refusal}
use Rattle.sgx_rules.specs.declared.refusals.Refusal.TheVariants as why
use Rattle.sgx_types.specs.declared.lawful.PageInit.{PageInit}
use Rattle.sgx_types.specs.declared.names.Frame.{Frame}
use Rattle.sgx_types.specs.declared.names.Kind.{Kind}
use Rattle.sgx_types.specs.declared.names.Page.{Page}
use Rattle.sgx_types.specs.declared.names.Perm.{Perm}
use Rattle.sgx_types.specs.Pages.{is_secs_page, is_va_page, page_at, no_perm}
use Rattle.sgx_rules.specs.Frames.{Content, IsLoading, IsVa, SecsOf, Holds, page_of, page_there, reloaded}
use Rattle.sgx_rules.specs.PageBytes.{secs_bytes, secs_header, va_header}
use Rattle.std.specs.List.{range_with_len}
use Rattle.sgx_types.specs.declared.record.Header.{Header}
use Rattle.sgx_types.specs.Cases.{first_of_row}
use Rattle.sgx_rules.specs.Table.{Row, fault_of, perm_in}
use Rattle.sgx_rules.specs.Flat.{FlatEnclave, all_ones, is_processors, sum_of}
use Rattle.sgx_rules.specs.Sights.{seat_of}
use Rattle.sgx_types.specs.Layouts.{flags_of, bytes_of, zeros}
use Rattle.sgx_types.specs.Sealed.{Sealed, header_of}
use Rattle.sgx_rules.specs.inner.Starts.{BareStart}
use Rattle.epcm_entry.specs.inner.Words.{words_of}
use Rattle.seal_record.specs.Cipher.{cipher, sealed, tag}
use Rattle.seal_record.specs.inner.Row.{eld_row}
use Rattle.measure_log.specs.declared.measure.Measure.{Measure}
use Rattle.measure_log.specs.Blocks.{ecreate_block, eadd_block, eextend_block, chunk_of}
use Rattle.measure_log.specs.inner.Measure.{HoldsLog, TakesIn, FinishesTo}
use Rattle.measure_log.specs.Rule.{IsExpected, IsOther}
use Rattle.machine_laws.specs.inner.State.{State, is_known, place_at, row_of, version_at, added_inside, cssa_in, saved_word}
use Rattle.machine_laws.specs.inner.State.{word_at, with_acc, after_epa, after_create, after_add}
use Rattle.machine_laws.specs.inner.State.{after_extend, after_init, after_enter, after_resume, after_exit, after_aex, after_fill}
use Rattle.machine_laws.specs.inner.State.{after_store}
use Rattle.machine_laws.specs.inner.State.{after_xadd, after_block, after_track, after_ewbstart, after_eldstart, after_ewb}
use Rattle.machine_laws.specs.inner.State.{after_eld}
use Rattle.machine_laws.specs.inner.State.{after_failed_eld}

abbrev pub did_by : Actor → Action → Answer → Entry
did_by actor action answer = record { actor = actor; event = Did action answer }

abbrev pub refused_by : Actor → Action → Refusal → Entry
refused_by actor action refusal = record { actor = actor; event = Refused action refusal }

-- the instructions but the two commits, and whose actor each is
abbrev pub CanApply : ℕ → Actor → Action → Type 0
CanApply cpus actor (Epa f) = Unit {0}
CanApply cpus actor (Create enclave f base size) = Unit {0}
CanApply cpus actor (Add enclave number f kind perm init) = Unit {0}
CanApply cpus actor (Extend f chunk) = Unit {0}
CanApply cpus actor (Init enclave expect) = Unit {0}
CanApply cpus actor (Block f) = Unit {0}
CanApply cpus actor (Track enclave) = Unit {0}
CanApply cpus actor (EwbStart f slot) = Unit {0}
CanApply cpus actor (EldStart f page slot) = Unit {0}
CanApply cpus (actors.Cpu p) (Enter enclave tcs tf sf) = p.0 < cpus
CanApply cpus (actors.Cpu p) (Resume enclave tcs tf sf) = p.0 < cpus
CanApply cpus (actors.Cpu p) Exit = p.0 < cpus
CanApply cpus (actors.Cpu p) (Aex cause) = p.0 < cpus
CanApply cpus (actors.Cpu p) (Fill number f) = p.0 < cpus
CanApply cpus (actors.Cpu p) (Load off) = p.0 < cpus
CanApply cpus (actors.Cpu p) (Store off value) = p.0 < cpus
CanApply cpus (actors.Cpu p) (Xadd off value) = p.0 < cpus
CanApply cpus (actors.Cpu p) (Set value) = p.0 < cpus
CanApply cpus (actors.Cpu p) (Plus value) = p.0 < cpus
CanApply cpus (actors.Cpu p) (Pf op off) = p.0 < cpus
CanApply cpus (actors.Cpu p) (OutLoad enclave off) = p.0 < cpus
CanApply cpus (actors.Cpu p) (OutStore enclave off value) = p.0 < cpus
CanApply cpus _ _ = ⊥

-- how many version array pages may be made, whoever asks: fewer than 2 ^ 32
abbrev pub CanMove : State → Action → Type 0
CanMove s (Epa f) = s.vas_made < 2 ^ 32
CanMove s _ = Unit {0}

-- the instructions of processors alone: those that programs see, and the fill of a translation
abbrev pub is_of_cpus : Action → Bool
is_of_cpus (Fill number f) = true
is_of_cpus action = is_processors action

-- whose actor is no processor of any machine: there are 16 at most
abbrev pub IsNoProcessor : Actor → Type 0
IsNoProcessor (actors.Cpu p) = 16 ≤ p.0
IsNoProcessor _ = Unit {0}

-- the instructions that may need memory
abbrev pub MayNeedMemory : Action → Type 0
MayNeedMemory (Epa f) = Unit {0}
MayNeedMemory (Create enclave f base size) = Unit {0}
MayNeedMemory _ = ⊥

-- what an instruction that its row allows answers, but for `init`
abbrev pub answer_of : State → Actor → Action → Answer
answer_of s actor (Epa f) = answers.Va s.vas_made
answer_of s actor (Enter enclave tcs tf sf) = answers.Cssa (cssa_in s tf.0)
answer_of s actor (Resume enclave tcs tf sf) = answers.Value (saved_word s sf.0)
answer_of s (actors.Cpu p) (Load off) = answers.Value (word_at s p.0 off)
answer_of s (actors.Cpu p) (Xadd off value) = answers.Value (word_at s p.0 off)
answer_of s (actors.Cpu p) (Plus value) = answers.Value (sum_of (s.acc p.0) value)
answer_of s (actors.Cpu p) (Pf op off) = answers.Pf (fault_of (added_inside s (s.inside p.0) (off / 4096)))
answer_of s (actors.Cpu p) (OutLoad enclave off) = answers.Value all_ones
answer_of s actor (EwbStart f slot) = answers.Version s.next_version
answer_of s actor (EldStart f page slot) = answers.Version (version_at s slot)
answer_of s actor action = answers.Plain

-- the state after an instruction that its row allows, but for those that measure
abbrev pub after_of : State → Actor → Action → State
after_of s actor (Epa f) = after_epa s f.0
after_of s (actors.Cpu p) (Enter enclave tcs tf sf) = after_enter s p.0 (seat_of enclave tcs tf.0 sf.0)
after_of s (actors.Cpu p) (Resume enclave tcs tf sf) = after_resume s p.0 (seat_of enclave tcs tf.0 sf.0)
after_of s (actors.Cpu p) Exit = after_exit s p.0
after_of s (actors.Cpu p) (Aex cause) = after_aex s p.0
after_of s (actors.Cpu p) (Fill number f) =
    after_fill s p.0 (record { number = number; frame = f; perm = unwrap_or (perm_in (s.content f.0)) no_perm })
after_of s (actors.Cpu p) (Store off value) = after_store s p.0 off value
after_of s (actors.Cpu p) (Xadd off value) = after_xadd s p.0 off value
after_of s (actors.Cpu p) (Set value) = with_acc s p.0 value
after_of s (actors.Cpu p) (Plus value) = with_acc s p.0 (sum_of (s.acc p.0) value)
after_of s actor (Block f) = after_block s f.0
after_of s actor (Track enclave) = after_track s enclave
after_of s actor (EwbStart f slot) = after_ewbstart s f.0 slot
after_of s actor (EldStart f page slot) = after_eldstart s f.0 page slot
after_of s actor action = s

-- a new enclave's measurement has taken in the block of ECREATE
pub record IsCreated (s : State) (enclave f base size : ℕ) (s' : State) : Type 0 where
  pub begun : Measure
  pub log : HoldsLog begun (ecreate_block size)
  pub state : s' ≡ after_create s enclave f base size begun

-- the enclave's measurement takes in the block of EADD
pub record IsAdded (s : State) (g : Page) (f : ℕ) (kind : Kind) (perm : Perm) (init : PageInit) (s' : State) : Type 0 where
  pub longer : Measure
  pub log : IsSomeAnd (s.measure g.enclave) (λ measure. TakesIn measure (eadd_block (4096 * g.number) (flags_of kind perm)) longer)
  pub state : s' ≡ after_add s g f kind perm init longer

-- the measurement of the enclave of the page in a frame takes in the block of EEXTEND of a chunk of the page's bytes
pub record IsExtended (s : State) (f chunk : ℕ) (s' : State) : Type 0 where
  pub page : Page
  pub held : page_of (s.content f) ≡ Some page
  pub longer : Measure
  pub log : IsSomeAnd (s.measure page.enclave) (λ measure.
      TakesIn measure (eextend_block (4096 * page.number + 256 * chunk) (chunk_of (bytes_of (s.words f)) chunk)) longer)
  pub state : s' ≡ after_extend s page.enclave longer

-- the enclave's measurement finishes to a digest: where it is as expected the enclave is initialised, else nothing changes
pub record IsJudged (s : State) (actor : Actor) (enclave : ℕ) (expect : Option (List ℕ)) (e : Entry) (s' : State) : Type 0 where
  pub digest : List ℕ
  pub finished : IsSomeAnd (s.measure enclave) (λ measure. FinishesTo measure digest)
  pub judged : (IsExpected expect digest × (e ≡ did_by actor (Init enclave expect) (answers.Hash digest)) × (s' ≡ after_init s enclave))
      ⊎ (IsOther expect digest × (e ≡ refused_by actor (Init enclave expect) (why.BadMeasure digest)) × (s' ≡ s))

-- an instruction that its row allows is done, but for an `init` whose measurement is not as expected
abbrev pub IsDone : State → Actor → Action → Entry → State → Type 0
IsDone s actor (Create enclave f base size) e s' =
    (e ≡ did_by actor (Create enclave f base size) answers.Plain) × IsCreated s enclave f.0 base size s'
IsDone s actor (Add enclave number f kind perm init) e s' =
    (e ≡ did_by actor (Add enclave number f kind perm init) answers.Plain) × IsAdded s (page_at enclave number) f.0 kind perm init s'
IsDone s actor (Extend f chunk) e s' = (e ≡ did_by actor (Extend f chunk) answers.Plain) × IsExtended s f.0 chunk s'
IsDone s actor (Init enclave expect) e s' = IsJudged s actor enclave expect e s'
IsDone s actor action e s' = (e ≡ did_by actor action (answer_of s actor action)) × (s' ≡ after_of s actor action)

-- .. and any other is refused by the first case that holds, and changes nothing
abbrev pub IsStep : State → Actor → Action → Entry → State → Type 0
IsStep s actor action e s' = MatchOption (first_of_row (row_of s actor action)) (IsDone s actor action e s')
    (λ refusal. (e ≡ refused_by actor action refusal) × (s' ≡ s))

-- ---- the commits

-- the header of a page, by what the state knows of its enclave
abbrev pub header_by : Option FlatEnclave → Option (Kind × Perm) → Page → Option Header
header_by (Some enclave) (Some x) g = Some (header_of enclave.base g x.0 x.1)
header_by _ _ g = None

abbrev pub header_in : State → Page → Option Header
header_in s g =
    if is_va_page g then Some (va_header g.number)
    else if is_secs_page g then Some (secs_header g.enclave)
    else header_by (s.enclaves g.enclave) (s.added g) g

-- the digest of an enclave's measurement where it is initialised, and zero before
abbrev pub IsDigest : Bool → Option Measure → List ℕ → Type 0
IsDigest false measure digest = digest ≡ zeros 32
IsDigest true measure digest = IsSomeAnd measure (λ m. FinishesTo m digest)

-- the bytes of an enclave's SECS
pub record HasSecsBytes (s : State) (e : ℕ) (plain : List ℕ) : Type 0 where
  pub enclave : FlatEnclave
  pub made : s.enclaves e ≡ Some enclave
  pub digest : List ℕ
  pub finished : IsDigest enclave.is_init (s.measure e) digest
  pub bytes : plain ≡ secs_bytes enclave digest

-- the versions in the slots of the version array page in a frame
abbrev pub slots_in : State → ℕ → List ℕ
slots_in s f = map (λ index. s.version_in (place_at f index)) (range_with_len 0 512)

-- the bytes of what a frame holds: of its slots or of the frame's words, which are those of the bytes, or of the SECS
abbrev pub HasBytesOf : State → ℕ → Content → List ℕ → Type 0
HasBytesOf s f (IsVa number) bytes = (bytes ≡ bytes_of (slots_in s f)) × (words_of bytes ≡ slots_in s f)
HasBytesOf s f (SecsOf enclave) bytes = HasSecsBytes s enclave bytes
HasBytesOf s f (Holds page kind perm) bytes = (bytes ≡ bytes_of (s.words f)) × (words_of bytes ≡ s.words f)
HasBytesOf s f _ bytes = ⊥

-- a page that has started to go out of a frame
pub record IsLeaving (s : State) (f : ℕ) : Type 0 where
  pub start : BareStart
  pub opened : s.start f ≡ Some start
  pub page : Page
  pub held : page_there (s.content f) ≡ Some page
  pub header : Header
  pub headed : header_in s page ≡ Some header
  pub bytes : List ℕ
  pub sized : length bytes ≡ 4096
  pub kept : HasBytesOf s f (s.content f) bytes

-- what is sealed of it: its bytes, under the machine's key, the version that was drawn and the page's header
pub record SealsPage (s : State) (f : ℕ) (by : List ℕ) (under : ℕ) (headed : Header) (bytes : List ℕ) : Type 0 where
  pub leaving : IsLeaving s f
  pub key : by ≡ s.key
  pub version : under ≡ leaving.start.version
  pub header : headed ≡ leaving.header
  pub plain : bytes ≡ leaving.bytes

-- the commit of EWB: the page is out
pub record IsWrittenOut (s : State) (actor : Actor) (f : Frame) (e : Entry) (rec : Sealed) (s' : State) : Type 0 where
  pub leaving : IsLeaving s f.0
  pub sealed : rec ≡ sealed s.key leaving.start.version leaving.header leaving.bytes
  pub entry : e ≡ did_by actor (Ewb f) (answers.Moved leaving.page leaving.start.version rec.tag)
  pub state : s' ≡ after_ewb s f.0 leaving.start

-- the load into a frame may end, whatever record is brought: no frame holds the version array page for which it waits
pub record CanBring (s : State) (f : ℕ) : Type 0 where
  pub away : (page : Page) → s.content f ≡ IsLoading page → is_va_page page ≡ true → (n : ℕ) → s.content n ≡ IsVa page.number → ⊥

-- a page for which a frame waits
pub record IsComing (s : State) (f : ℕ) : Type 0 where
  pub start : BareStart
  pub opened : s.start f ≡ Some start
  pub page : Page
  pub loads : start.loads ≡ Some page
  pub known : is_known s page ≡ true
  pub header : Header
  pub headed : header_in s page ≡ Some header

-- .. and its header
abbrev pub IsComingHeader : State → ℕ → Header → Type 0
IsComingHeader s f header = (coming : IsComing s f) × (header ≡ coming.header)

-- the row of the commit of ELDU, where this record was brought
abbrev pub commit_row : (s : State) (f : ℕ) → IsComing s f → Sealed → Row
commit_row s f coming rec = eld_row rec (tag s.key coming.start.version rec.header rec.cipher) (Some coming.header)

-- the load into a frame may end with a record: it does not bring a version array page that a frame holds
abbrev pub CanEnd : State → ℕ → Sealed → Type 0
CanEnd s f rec = (coming : IsComing s f) → first_of_row (commit_row s f coming rec) ≡ None → CanBring s f

-- the commit of ELDU: the page is back with the bytes of the record, or the record is none of its own
pub record IsReloaded (s : State) (actor : Actor) (f : Frame) (rec : Sealed) (e : Entry) (s' : State) : Type 0 where
  pub coming : IsComing s f.0
  pub row : MatchOption (first_of_row (commit_row s f.0 coming rec))
      ((e ≡ did_by actor (Eld f) (answers.Moved coming.page coming.start.version rec.tag))
      × (s' ≡ after_eld s f.0 coming.start (reloaded coming.page (s.added coming.page)) (cipher s.key coming.start.version rec.cipher)))
      (λ refusal. (e ≡ refused_by actor (Eld f) refusal) × (s' ≡ after_failed_eld s f.0 coming.start))
