-- What tracking and open starts keep of every state: no processor can still use the translation of a page that goes out,
-- and each frame that is busy has its start.
use Rattle.std.specs.Prelude.{ℕ, ◌≡◌, ◌+◌, ◌<◌, ◌≤◌, ◌==◌, ◌||◌, Bool, true, false, Option, Some, None, IfSome, is_some, List}
use Rattle.std.specs.List.{All}
use Rattle.std.specs.Option.{IsSomeAnd}
use Rattle.sgx_types.specs.declared.names.Kind.{Kind}
use Rattle.sgx_types.specs.declared.names.Kind.TheVariants as kinds
use Rattle.sgx_types.specs.declared.names.Page.{Page}
use Rattle.sgx_types.specs.declared.names.SlotAt.{SlotAt}
use Rattle.sgx_types.specs.Pages.{is_own_page, page_at}
use Rattle.sgx_rules.specs.Frames.{Content, Free, Holds, IsLoading, IsVa, SecsOf, enclave_in}
use Rattle.sgx_rules.specs.Processors.{Seat}
use Rattle.sgx_rules.specs.inner.Starts.{BareStart}
use Rattle.sgx_rules.specs.Table.{is_loading, is_own, is_valid}
use Rattle.machine_copies.specs.inner.Away.{ArraysApart, SecsCovers}
use Rattle.cached_translations.specs.declared.cache.Translation.{Translation}
use Rattle.machine_laws.specs.inner.State.{State, epoch_in, is_known}

-- ---- tracking

-- a block, if there is one, was no earlier than this epoch
abbrev pub IsNoEarlier : ℕ → Option ℕ → Type 0
IsNoEarlier epoch blocked = IfSome blocked (λ b. epoch ≤ b)

-- a processor inside has noted its enclave's epoch or the one before it, and the frames that it uses were blocked no earlier
pub record HasNoted (epoch : ℕ → ℕ) (blocked : ℕ → Option ℕ) (noted : ℕ) (held : List Translation) (seat : Seat) : Type 0 where
  pub not_ahead : noted ≤ epoch seat.enclave
  pub not_behind : epoch seat.enclave ≤ noted + 1
  pub tcs : IsNoEarlier noted (blocked seat.tcs_frame)
  pub ssa : IsNoEarlier noted (blocked seat.ssa_frame)
  pub cache : All (λ t. IsNoEarlier noted (blocked t.frame.0)) held

-- the enclave of a page that was blocked at an epoch was tracked since, and every processor inside it entered after that
pub record IsDrainedAt (inside : ℕ → Option Seat) (noted : ℕ → ℕ) (enclave : Option ℕ) (now b : ℕ) : Type 0 where
  pub tracked : b < now
  pub left : (p : ℕ) → IfSome (inside p) (λ seat. enclave ≡ Some seat.enclave → b < noted p)

-- ---- TCS pages

-- a processor is inside by this TCS page
pub record IsTakenIn (s : State) (g : Page) : Type 0 where
  pub cpu : ℕ
  pub by : IsSomeAnd (s.inside cpu) (λ seat. page_at seat.enclave seat.tcs ≡ g)

-- ---- frames

-- what a frame holds has a name of its kind: no enclave has the number 0, and a TCS or REG page is neither a SECS nor a version array page
abbrev pub IsNamedRight : Content → Type 0
IsNamedRight (SecsOf enclave) = (enclave == 0) ≡ false
IsNamedRight (Holds page kind perm) = is_own_page page ≡ true
IsNamedRight _ = Unit {0}

-- of what frames hold: the pages of an enclave are there only while its SECS is in, no frame beyond the EPC holds anything, each version
-- array page that one holds or waits for was made, and one frame at most holds it
pub record FramesKept (frames vas : ℕ) (content : ℕ → Content) (is_sealing : ℕ → Bool) : Type 0 where
  pub covered : SecsCovers frames content is_sealing
  pub bounded : (n : ℕ) → frames ≤ n → content n ≡ Free
  pub arrays : ArraysApart vas content
  pub named : (n : ℕ) → IsNamedRight (content n)

-- ---- starts

-- the kinds of the pages of an enclave's own memory
abbrev pub IsPaged : Kind → Type 0
IsPaged kinds.Tcs = Unit {0}
IsPaged kinds.Reg = Unit {0}
IsPaged _ = ⊥

-- a start finds its slot still where it found it, in a version array page that is not on its way out, and loads a page that there is
pub record IsOpen (s : State) (start : BareStart) : Type 0 where
  pub held : s.content start.at.frame.0 ≡ IsVa start.slot.va
  pub index : start.at.index ≡ start.slot.index
  pub within : start.at.index < 512
  pub stays : s.is_sealing start.at.frame.0 ≡ false
  pub loads : IfSome start.loads (λ g. is_known s g ≡ true)

-- an open start names the slot
pub record IsNamed (opened : ℕ → Option BareStart) (slot : SlotAt) : Type 0 where
  pub frame : ℕ
  pub start : BareStart
  pub is_open : opened frame ≡ Some start
  pub names : start.at ≡ slot

-- open starts are of some of so many frames, each has its slot for itself, and their slots are those that are marked
pub record AreApart (frames : ℕ) (opened : ℕ → Option BareStart) (is_slot_named : SlotAt → Bool) : Type 0 where
  pub below : (n : ℕ) (x : BareStart) → opened n ≡ Some x → n < frames
  pub marked : (n : ℕ) (x : BareStart) → opened n ≡ Some x → is_slot_named x.at ≡ true
  pub named : (slot : SlotAt) → is_slot_named slot ≡ true → IsNamed opened slot
  pub alone : (m n : ℕ) (x y : BareStart) → opened m ≡ Some x → opened n ≡ Some y → x.at ≡ y.at → m ≡ n

abbrev pub WritesOut : BareStart → Type 0
WritesOut start = start.loads ≡ None

abbrev pub Loads : Page → BareStart → Type 0
Loads g start = start.loads ≡ Some g

pub record IsGuarded (s : State) : Type 0 where
  -- there are 16 processors at most
  pub few : (p : ℕ) → 16 ≤ p → s.inside p ≡ None
  pub noted : (p : ℕ) → IfSome (s.inside p) (HasNoted s.epoch s.blocked (s.noted p) (s.cache p))
  -- no block is of an epoch to come
  pub blocks : (n : ℕ) → IfSome (s.blocked n) (λ b. b ≤ epoch_in s n)
  -- a TCS or REG page on its way out was blocked, and is drained
  pub sealing : (n : ℕ) → s.is_sealing n ≡ true → is_own (s.content n) ≡ true → IsSomeAnd (s.blocked n)
      (IsDrainedAt s.inside s.noted (enclave_in (s.content n)) (epoch_in s n))
  -- a TCS page is busy only where a processor is inside by it
  pub taken : (g : Page) → s.is_busy g ≡ true → IsTakenIn s g
  pub opened : (n : ℕ) → IfSome (s.start n) (IsOpen s)
  pub written : (n : ℕ) → s.is_sealing n ≡ true → IsSomeAnd (s.start n) WritesOut
  pub loaded : (n : ℕ) (g : Page) → s.content n ≡ IsLoading g → IsSomeAnd (s.start n) (Loads g)
  -- a frame with an open start is busy: the page in it is on its way out, or it waits for one
  pub held : (n : ℕ) → is_some (s.start n) ≡ true → (s.is_sealing n || is_loading (s.content n)) ≡ true
  -- the open starts are of frames of the EPC, no two of them name one slot, and a slot is busy exactly where one names it
  pub apart : AreApart s.frames s.start s.is_slot_named
  -- a page of an enclave is a TCS or a REG page, and has not the number of its SECS
  pub kinds : (g : Page) → IfSome (s.added g) (λ x. IsPaged x.0 × (is_own_page g ≡ true))
  -- what goes out is there
  pub goes_out : (n : ℕ) → s.is_sealing n ≡ true → is_valid (s.content n) ≡ true
  pub kept : FramesKept s.frames s.vas_made s.content s.is_sealing
