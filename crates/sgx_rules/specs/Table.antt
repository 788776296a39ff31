-- The instruction table: for each instruction the refusals in their order, as a function of what it looks at. The
-- machine reads what an instruction looks at from its own state, the rule on refusals from the entries, and flat memory
-- from itself, so that no row can mean two things.
use Rattle.std.specs.Prelude.{ℕ, ◌==◌, ◌+◌, ◌-◌, ◌%◌, ◌&&◌, ◌||◌, Bool, true, false}
use Rattle.std.specs.Prelude.{Option, Some, None, List, nat_lt, not, is_none}
use Rattle.sgx_rules.specs.declared.refusals.Refusal.{Refusal}
use Rattle.sgx_rules.specs.declared.refusals.Refusal.TheVariants as why
use Rattle.sgx_types.specs.declared.names.Kind.{Kind}
use Rattle.sgx_types.specs.declared.names.Kind.TheVariants as kinds
use Rattle.sgx_types.specs.declared.names.Perm.{Perm}
use Rattle.sgx_types.specs.declared.lawful.PageInit.{PageInit}
use Rattle.sgx_types.specs.Lawful.{is_addable, is_enclave, is_lawful, is_lawful_perm, is_within}
use Rattle.sgx_rules.specs.declared.entries.AccessOp.{AccessOp}
use Rattle.sgx_rules.specs.declared.entries.AccessOp.TheVariants as accesses
use Rattle.sgx_rules.specs.declared.entries.PfWhy.{PfWhy}
use Rattle.sgx_rules.specs.declared.entries.PfWhy.TheVariants as faults
use Rattle.sgx_types.specs.Pages.{page_at}
use Rattle.sgx_rules.specs.Frames.{Content, Free, IsVa, SecsOf, Holds, IsLoading, is_page, is_free}
use Rattle.sgx_types.specs.Cases.{Case, when, ◌otherwise◌, allowed}

-- a row: the cases in which an instruction is refused, each with its reason, in the order of the checks; the first
-- case that holds decides
abbrev pub Row : Type 0
Row = List (Case Refusal)

-- ---- what an instruction sees of a frame

pub record FrameSight : Type 0 where
  pub is_beyond : Bool
  pub content : Content
  pub is_sealing : Bool
  pub is_blocked : Bool

abbrev pub is_loading : Content → Bool
is_loading (IsLoading page) = true
is_loading _ = false

abbrev pub is_valid : Content → Bool
is_valid Free = false
is_valid (IsLoading page) = false
is_valid _ = true

abbrev pub is_tcs : Content → Bool
is_tcs (Holds page kinds.Tcs perm) = true
is_tcs _ = false

abbrev pub is_reg : Content → Bool
is_reg (Holds page kinds.Reg perm) = true
is_reg _ = false

abbrev pub is_secs : Content → Bool
is_secs (SecsOf enclave) = true
is_secs _ = false

abbrev pub is_va : Content → Bool
is_va (IsVa number) = true
is_va _ = false

-- the permissions of the page in a frame, None where no page is there
abbrev pub perm_in : Content → Option Perm
perm_in (Holds page kind perm) = Some perm
perm_in _ = None

abbrev pub allows_read : Option Perm → Bool
allows_read None = false
allows_read (Some perm) = perm.r

abbrev pub allows_write : Option Perm → Bool
allows_write None = false
allows_write (Some perm) = perm.w

abbrev pub allows_update : Option Perm → Bool
allows_update None = false
allows_update (Some perm) = perm.r && perm.w

-- loading or sealing
abbrev pub is_busy : FrameSight → Bool
is_busy s = s.is_sealing || is_loading s.content

-- ---- building an enclave

abbrev pub epa_row : FrameSight → Row
epa_row s =
    when s.is_beyond why.BadRange
    otherwise when (is_busy s) why.Conflict
    otherwise when (is_valid s.content) why.FrameBusy
    otherwise allowed

abbrev pub create_row : ℕ → ℕ → ℕ → Bool → FrameSight → Row
create_row enclave base size is_created s =
    when (s.is_beyond || not (is_enclave enclave) || not (is_lawful base size)) why.BadRange
    otherwise when is_created why.PageExists
    otherwise when (is_busy s) why.Conflict
    otherwise when (is_valid s.content) why.FrameBusy
    otherwise allowed

-- what is known of an enclave that was created
pub record EnclaveSight : Type 0 where
  pub size : ℕ
  pub is_init : Bool

-- what is seen of an enclave's SECS: that no frame holds it, or that it is on its way out of its frame
pub record SecsSight : Type 0 where
  pub is_away : Bool
  pub is_sealing : Bool

abbrev pub add_row : ℕ → Kind → Perm → PageInit → Option EnclaveSight → SecsSight → Bool → FrameSight → Row
add_row number kind perm init None secs is_added s =
    when s.is_beyond why.BadRange
    otherwise when true why.Absent
    otherwise allowed
add_row number kind perm init (Some enclave) secs is_added s =
    when s.is_beyond why.BadRange
    otherwise when secs.is_away why.Absent
    otherwise when secs.is_sealing why.Conflict
    otherwise when enclave.is_init why.IsInit
    otherwise when (not (is_addable kind init)) why.BadKind
    otherwise when (not (is_lawful_perm kind perm)) why.BadPerm
    otherwise when (not (is_within enclave.size number init)) why.BadRange
    otherwise when is_added why.PageExists
    otherwise when (is_busy s) why.Conflict
    otherwise when (is_valid s.content) why.FrameBusy
    otherwise allowed

-- `extend` of a chunk of 256 bytes of the page in a frame, by whether its enclave is initialised
abbrev pub extend_row : ℕ → Bool → FrameSight → Row
extend_row chunk is_init s =
    when (s.is_beyond || nat_lt 15 chunk) why.BadRange
    otherwise when (is_busy s) why.Conflict
    otherwise when (not (is_valid s.content)) why.PgInvld
    otherwise when (not (is_tcs s.content || is_reg s.content)) why.BadKind
    otherwise when is_init why.IsInit
    otherwise allowed

-- without the measurement, which is compared last
abbrev pub init_row : Option EnclaveSight → SecsSight → Row
init_row None secs = when true why.Absent otherwise allowed
init_row (Some enclave) secs =
    when secs.is_away why.Absent
    otherwise when secs.is_sealing why.Conflict
    otherwise when enclave.is_init why.IsInit
    otherwise allowed

-- ---- entry and exit

-- what the bytes of a TCS page say: OSSA in pages, and how many state save frames are used and there
pub record TcsSight : Type 0 where
  pub ossa : ℕ
  pub cssa : ℕ
  pub nssa : ℕ

-- what `enter` and `resume` see
pub record EnterSight : Type 0 where
  pub is_inside : Bool
  pub enclave : Option EnclaveSight
  pub tcs : FrameSight
  pub tcs_busy : Bool
  pub fields : TcsSight
  pub ssa : FrameSight

-- the state save frame: a page of the enclave that may be read and written
abbrev pub ssa_row : ℕ → ℕ → FrameSight → Row
ssa_row enclave number s =
    when (is_busy s) why.Conflict
    otherwise when (not (is_page s.content (page_at enclave number))) why.Absent
    otherwise when (not (is_reg s.content)) why.BadKind
    otherwise when s.is_blocked why.Blocked
    otherwise when (not (allows_update (perm_in s.content))) why.NoPerm
    otherwise allowed

abbrev pub is_made : Option EnclaveSight → Bool
is_made None = false
is_made (Some enclave) = true

abbrev pub is_ready : Option EnclaveSight → Bool
is_ready None = false
is_ready (Some enclave) = enclave.is_init

-- an entry by a TCS page, with what is asked of its CSSA, and the page into which or from which the state goes
abbrev pub entry_row : ℕ → ℕ → EnterSight → Case Refusal → ℕ → Row
entry_row enclave tcs s saves saved =
    when s.is_inside why.WrongMode
    otherwise when (s.tcs.is_beyond || s.ssa.is_beyond) why.BadRange
    otherwise when (not (is_made s.enclave)) why.Absent
    otherwise when (not (is_ready s.enclave)) why.NotInit
    otherwise when (is_busy s.tcs) why.Conflict
    otherwise when (not (is_page s.tcs.content (page_at enclave tcs))) why.Absent
    otherwise when (not (is_tcs s.tcs.content)) why.BadKind
    otherwise when s.tcs.is_blocked why.Blocked
    otherwise when s.tcs_busy why.TcsBusy
    otherwise saves
    otherwise ssa_row enclave saved s.ssa

-- `enter` needs a state save frame that is not in use, the one that CSSA names
abbrev pub enter_row : ℕ → ℕ → EnterSight → Row
enter_row enclave tcs s = entry_row enclave tcs s (when (s.fields.cssa == s.fields.nssa) why.NoFrame) (s.fields.ossa + s.fields.cssa)

-- `resume` needs one in use, and takes the last
abbrev pub resume_row : ℕ → ℕ → EnterSight → Row
resume_row enclave tcs s = entry_row enclave tcs s (when (s.fields.cssa == 0) why.NoSaved) (s.fields.ossa + s.fields.cssa - 1)

-- `exit`, `aex`, `set` and `plus`: what a processor does inside an enclave alone
abbrev pub inside_row : Bool → Row
inside_row is_inside =
    when (not is_inside) why.WrongMode
    otherwise allowed

-- `outload` and `outstore`: what it does outside alone
abbrev pub outside_row : Bool → Row
outside_row is_inside =
    when is_inside why.WrongMode
    otherwise allowed

-- ---- translations and accesses

-- `fill` of a page, by the enclave that the processor is inside
abbrev pub fill_row : ℕ → Option ℕ → FrameSight → Row
fill_row number None s =
    when true why.WrongMode
    otherwise allowed
fill_row number (Some enclave) s =
    when s.is_beyond why.BadRange
    otherwise when (is_busy s) why.Conflict
    otherwise when (not (is_page s.content (page_at enclave number))) why.Absent
    otherwise when s.is_blocked why.Blocked
    otherwise when (not (is_reg s.content)) why.BadKind
    otherwise allowed

-- an access at an offset in bytes, with the permissions of the translation that is held, and whether they allow it
abbrev pub access_row : ℕ → Bool → Option Perm → Bool → Row
access_row off is_inside translation is_allowed =
    when (not is_inside) why.WrongMode
    otherwise when (not (off % 8 == 0)) why.BadRange
    otherwise when (is_none translation) why.Miss
    otherwise when (not is_allowed) why.NoPerm
    otherwise allowed

abbrev pub load_row : ℕ → Bool → Option Perm → Row
load_row off is_inside translation = access_row off is_inside translation (allows_read translation)

abbrev pub store_row : ℕ → Bool → Option Perm → Row
store_row off is_inside translation = access_row off is_inside translation (allows_write translation)

abbrev pub xadd_row : ℕ → Bool → Option Perm → Row
xadd_row off is_inside translation = access_row off is_inside translation (allows_update translation)

abbrev pub allows : Perm → AccessOp → Bool
allows perm accesses.Load = perm.r
allows perm accesses.Store = perm.w
allows perm accesses.Xadd = perm.r && perm.w

abbrev pub is_reg_that_allows : Kind → Perm → AccessOp → Bool
is_reg_that_allows kinds.Reg perm op = allows perm op
is_reg_that_allows _ perm op = false

-- an access can succeed: its page was added as a REG page, with the permission
abbrev pub is_lawful_access : Option (Kind × Perm) → AccessOp → Bool
is_lawful_access None op = false
is_lawful_access (Some x) op = is_reg_that_allows x.0 x.1 op

-- why no reload can help an access, by the page's kind
abbrev pub fault_by_kind : Kind → PfWhy
fault_by_kind kinds.Reg = faults.NoPerm
fault_by_kind _ = faults.WrongType

-- .. of a page that was added or not
abbrev pub fault_of : Option (Kind × Perm) → PfWhy
fault_of None = faults.Absent
fault_of (Some x) = fault_by_kind x.0

-- `pf` tells that an access cannot succeed, by what its page was added as
abbrev pub pf_row : AccessOp → ℕ → Bool → Option (Kind × Perm) → Row
pf_row op off is_inside added =
    when (not is_inside) why.WrongMode
    otherwise when (not (off % 8 == 0)) why.BadRange
    otherwise when (is_lawful_access added op) why.NoFault
    otherwise allowed

-- ---- block, track, write-out and reload

abbrev pub block_row : FrameSight → Row
block_row s =
    when s.is_beyond why.BadRange
    otherwise when (is_busy s) why.Conflict
    otherwise when (is_free s.content) why.PgInvld
    otherwise when (is_secs s.content) why.PgIsSecs
    otherwise when (is_va s.content) why.NotBlockable
    otherwise when s.is_blocked why.BlkState
    otherwise allowed

-- what `track` sees of its enclave and of the enclave's SECS: how many processors inside have an older epoch, and whether the epoch is the
-- last
pub record TrackSight : Type 0 where
  pub enclave : Option EnclaveSight
  pub secs : SecsSight
  pub older : ℕ
  pub is_spent : Bool

abbrev pub track_row : TrackSight → Row
track_row s =
    when (not (is_made s.enclave)) why.Absent
    otherwise when s.secs.is_away why.Absent
    otherwise when s.secs.is_sealing why.Conflict
    otherwise when (not (s.older == 0)) (why.PrevTrk s.older)
    otherwise when s.is_spent why.EpochSpent
    otherwise allowed

-- what is seen of a slot: its frame, whether it is busy, and the version in it
pub record SlotSight : Type 0 where
  pub frame : FrameSight
  pub is_beyond : Bool
  pub is_busy : Bool
  pub version : ℕ

-- a frame or a slot past its end
abbrev pub is_out_of_range : FrameSight → SlotSight → Bool
is_out_of_range s slot = s.is_beyond || slot.frame.is_beyond || slot.is_beyond

-- a TCS or REG page is in the frame
abbrev pub is_own : Content → Bool
is_own (Holds page kind perm) = true
is_own _ = false

-- what is seen of the tracking of the page in a frame: the enclave's epoch, how many processors inside have an epoch at
-- or below the block's, and whether none of its translations can be left
pub record DrainSight : Type 0 where
  pub epoch : ℕ
  pub kept_back : ℕ
  pub is_drained : Bool

-- what is seen of the uses of what a frame holds. Of a version array page: whether one of its slots is busy, and whether the slot
-- that is to take its version is its own. Of a SECS: how many frames hold or load a TCS or REG page of its enclave
pub record UseSight : Type 0 where
  pub is_in_use : Bool
  pub is_its_own : Bool
  pub children : ℕ

-- the start of EWB, by whether the last version was drawn
abbrev pub ewbstart_row : FrameSight → UseSight → SlotSight → DrainSight → Bool → Row
ewbstart_row s uses slot drain is_spent =
    when (is_out_of_range s slot) why.BadRange
    otherwise when (is_busy s || slot.is_busy || uses.is_in_use) why.Conflict
    otherwise when (is_free s.content) why.PgInvld
    otherwise when (not (is_va slot.frame.content) || uses.is_its_own) why.BadKind
    otherwise when (not (uses.children == 0)) (why.ChildPresent uses.children)
    otherwise when (is_own s.content && not s.is_blocked) why.PageNotBlocked
    otherwise when (is_own s.content && not drain.is_drained) (why.NotTracked drain.epoch drain.kept_back)
    otherwise when (not (slot.version == 0)) (why.SlotOccupied slot.version)
    otherwise when is_spent why.VersionSpent
    otherwise allowed

-- what is seen of a page that is to be loaded: whether there is one of this name, and for a TCS or REG page the SECS of its enclave
pub record LoadSight : Type 0 where
  pub is_known : Bool
  pub secs : SecsSight

-- the start of ELDU
abbrev pub eldstart_row : FrameSight → LoadSight → SlotSight → Row
eldstart_row s page slot =
    when (is_out_of_range s slot) why.BadRange
    otherwise when (not page.is_known) why.Absent
    otherwise when page.secs.is_away why.Absent
    otherwise when page.secs.is_sealing why.Conflict
    otherwise when (is_busy s || slot.is_busy) why.Conflict
    otherwise when (is_valid s.content) why.FrameBusy
    otherwise when (not (is_va slot.frame.content)) why.BadKind
    otherwise when (slot.version == 0) why.SlotEmpty
    otherwise allowed
