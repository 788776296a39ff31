-- The machine's state is what the entries make it, with the flat memory and the measurement logs that they make.
use Rattle.std.specs.Prelude.{ℕ, ◌≡◌, ◌+◌, Bool, true, false, List, [], Option, Some, None, IfSome, is_some, length}
use Rattle.std.specs.List.{All}
use Rattle.std.specs.Option.{IsSomeAnd}
use Rattle.sgx_rules.specs.declared.entries.Entry.{Entry}
use Rattle.sgx_types.specs.declared.names.Page.{Page}
use Rattle.sgx_types.specs.declared.names.Kind.{Kind}
use Rattle.sgx_types.specs.declared.names.Kind.TheVariants as kinds
use Rattle.sgx_types.specs.declared.names.Perm.{Perm}
use Rattle.sgx_types.specs.Pages.{is_va_page, page_at}
use Rattle.sgx_rules.specs.Frames.{Content, Holds, content, enclave_in, is_page, page_there}
use Rattle.sgx_rules.specs.Processors.{Seat, Stay, stay}
use Rattle.sgx_rules.specs.Table.{TcsSight, is_reg, is_tcs}
use Rattle.sgx_rules.specs.Flat.{FlatCpu, FlatEnclave, FlatMemory, Inside, added_as, flat, tcs_fields}
use Rattle.sgx_rules.specs.Rules.{Along}
use Rattle.sgx_rules.specs.inner.Rules.{KeepsRules}
use Rattle.measure_log.specs.declared.measure.Measure.{Measure}
use Rattle.measure_log.specs.inner.Measure.{HoldsLog}
use Rattle.measure_log.specs.Rule.{log, MeasureRule}
use Rattle.cached_translations.specs.declared.cache.Translation.{Translation}
use Rattle.machine_laws.specs.inner.Columns.{HasAllVersions, HasColumns}
use Rattle.machine_laws.specs.inner.State.{State, making_of}

abbrev pub inside_of_stay : Option Stay → Option Inside
inside_of_stay None = None
inside_of_stay (Some t) = Some (record { enclave = t.seat.enclave; tcs = t.seat.tcs })

-- a created enclave's measurement has taken in its log, and one that was not created has no log
abbrev pub IsMeasuring : Option FlatEnclave → Option Measure → List ℕ → Type 0
IsMeasuring None measure log = log ≡ []
IsMeasuring (Some x) measure log = IsSomeAnd measure (λ m. HoldsLog m log)

-- ---- what flat memory has

-- the enclaves, what their pages were added as, and which TCS pages are busy
pub record EnclavesSeen : Type 0 where
  pub enclaves : ℕ → Option FlatEnclave
  pub added : Page → Option (Kind × Perm)
  pub is_busy : Page → Bool

abbrev pub enclaves_seen : State → EnclavesSeen
enclaves_seen s = record { enclaves = s.enclaves; added = s.added; is_busy = s.is_busy }

abbrev pub enclaves_flat : FlatMemory → EnclavesSeen
enclaves_flat m = record { enclaves = m.enclaves; added = λ g. added_as (m.pages g); is_busy = m.is_busy }

-- a processor of flat memory: where the entries have it, with the accumulator that the state has
abbrev pub cpu_shown : State → List Entry → ℕ → FlatCpu
cpu_shown s past p = record { inside = inside_of_stay (stay past p); acc = s.acc p }

-- frames that hold pages have these pages' flat words
abbrev pub HasWords : (ℕ → Content) → (ℕ → List ℕ) → FlatMemory → Type 0
HasWords content words m =
    (n : ℕ) (g : Page) (kind : Kind) (perm : Perm) → content n ≡ Holds g kind perm
    → m.pages g ≡ Some (record { kind = kind; perm = perm; words = words n })

-- flat memory has what the state has, and the measurements have taken in the logs
pub record Shows (s : State) (past : List Entry) (m : FlatMemory) : Type 0 where
  pub enclaves : enclaves_seen s ≡ enclaves_flat m
  pub cpus : (p : ℕ) → m.cpus p ≡ cpu_shown s past p
  pub words : HasWords s.content s.words m
  pub measure : (e : ℕ) → IsMeasuring (s.enclaves e) (s.measure e) (log past e)

-- the state stands for the entries, with the flat memory that they make
pub record Stands (s : State) (past : List Entry) : Type 0 where
  pub columns : HasColumns s past
  pub versions : HasAllVersions s past
  pub memory : Shows s past (flat past)

-- ---- what every state keeps

-- a frame that a processor inside uses holds a page of its enclave, which is not on its way out
pub record IsUsable (enclave : ℕ) (held : Content) (sealing : Bool) : Type 0 where
  pub ours : enclave_in held ≡ Some enclave
  pub settled : sealing ≡ false

-- a translation leads to its page, with that page's permissions
pub record IsTranslation (enclave : ℕ) (t : Translation) (held : Content) (sealing : Bool) : Type 0 where
  pub page : held ≡ Holds (page_at enclave t.number) kinds.Reg t.perm
  pub settled : sealing ≡ false

-- the state save page into which an asynchronous exit saves, by the fields of the TCS page
abbrev pub next_save : ℕ → TcsSight → Page
next_save enclave fields = page_at enclave (fields.ossa + fields.cssa)

-- a stay inside, by what the frames hold, which are on their way out, and the words in the TCS frame: the one frame holds
-- the TCS page, the other the state save page that CSSA names
pub record IsSeated (content : ℕ → Content) (is_sealing : ℕ → Bool) (words : ℕ → List ℕ) (held : List Translation) (seat : Seat) : Type 0
  where
    pub tcs : IsUsable seat.enclave (content seat.tcs_frame) (is_sealing seat.tcs_frame)
    pub tcs_page : is_page (content seat.tcs_frame) (page_at seat.enclave seat.tcs) ≡ true
    pub tcs_kind : is_tcs (content seat.tcs_frame) ≡ true
    pub ssa : IsUsable seat.enclave (content seat.ssa_frame) (is_sealing seat.ssa_frame)
    pub ssa_page : is_page (content seat.ssa_frame) (next_save seat.enclave (tcs_fields (words seat.tcs_frame))) ≡ true
    pub ssa_kind : is_reg (content seat.ssa_frame) ≡ true
    pub cache : All (λ t. IsTranslation seat.enclave t (content t.frame.0) (is_sealing t.frame.0)) held

-- two seats by one TCS page
abbrev pub AreByOneTcs : Seat → Seat → Type 0
AreByOneTcs one other = (one.enclave ≡ other.enclave) × (one.tcs ≡ other.tcs)

pub record IsSound (s : State) : Type 0 where
  pub seated : (p : ℕ) → IfSome (s.inside p) (IsSeated s.content s.is_sealing s.words (s.cache p))
  -- a TCS page by which a processor is inside is busy, and only one processor is inside by it
  pub busy : (p : ℕ) → IfSome (s.inside p) (λ seat. s.is_busy (page_at seat.enclave seat.tcs) ≡ true)
  pub apart : (p q : ℕ) (one other : Seat) → s.inside p ≡ Some one → s.inside q ≡ Some other → AreByOneTcs one other → p ≡ q
  -- each frame has 512 words
  pub sized : (n : ℕ) → length (s.words n) ≡ 512

-- each created enclave has a running measurement
abbrev pub IsMeasured : State → Type 0
IsMeasured s = (e : ℕ) → is_some (s.enclaves e) ≡ true → is_some (s.measure e) ≡ true

-- each page in a frame was added to its enclave
abbrev pub IsFramed : State → Type 0
IsFramed s = (n : ℕ) (g : Page) (kind : Kind) (perm : Perm) → s.content n ≡ Holds g kind perm → is_some (s.added g) ≡ true

-- the enclave of each page in a frame was created, a SECS's too
abbrev pub HasEnclaves : State → Type 0
HasEnclaves s = (n : ℕ) (g : Page) → page_there (s.content n) ≡ Some g → is_va_page g ≡ false → is_some (s.enclaves g.enclave) ≡ true

-- a state that stands for entries which keep the rules
pub record StandsWithRules (s : State) (past : List Entry) : Type 0 where
  pub stands : Stands s past
  pub rules : KeepsRules (making_of s) past
  pub measure : Along MeasureRule past
