-- What the rules give an actor next, and the entries that this allows.
use Rattle.std.specs.Prelude.{ℕ, ◌≡◌, ◌⊎◌, Bool, true, false, List, ◌∷◌, Option, Some, None}
use Rattle.sgx_rules.specs.declared.entries.Event.{Event}
use Rattle.sgx_rules.specs.declared.entries.Event.TheVariants.{Age, Bus, Did, Kick, Refused}
use Rattle.sgx_rules.specs.declared.entries.Action.{Action}
use Rattle.sgx_rules.specs.declared.entries.BusWhy.{BusWhy}
use Rattle.sgx_rules.specs.declared.entries.Look.{Look}
use Rattle.sgx_types.specs.declared.names.Page.{Page}
use Rattle.sgx_types.specs.declared.names.SlotAt.{SlotAt}
use Rattle.script_rules.specs.Script.{action_of}
use Rattle.sgx_types.specs.Pages.{frame_at}
use Rattle.driver_rules.specs.declared.waits.Why.{Why}
use Rattle.sgx_rules.specs.declared.entries.Action.TheVariants as actions
use Rattle.sgx_rules.specs.declared.entries.BusWhy.TheVariants as reasons
use Rattle.sgx_rules.specs.declared.entries.Look.TheVariants as looks
use Rattle.sgx_rules.specs.declared.refusals.Refusal.TheVariants as refusals

-- the first step for a page, or for another one that has to be back before it: that is on its way out, or another processor brings it
-- back; or its record is asked for, to be loaded by its slot into the least free frame
pub data Fetch : Type 0 where
  WaitsFor : (target : Page) → Fetch
  Asks : (target : Page) → (slot : Option SlotAt) → (free : Option ℕ) → Fetch

pub data Due : Type 0 where
  -- nothing, since the run was stopped
  Stopped : Due
  -- nothing more
  Finished : Due
  -- no entry yet
  Waits : (why : Why) → Due
  -- the end of its open start: `ewb` or `eld`
  Ends : (action : Action) → Due
  -- this instruction
  Makes : (action : Action) → Due
  -- an entry that tells why a page did not come back
  Reports : (page : Page) → (why : BusWhy) → Due
  -- the first step for a page that is outside. Without a free frame it waits, and nothing is asked, unless a last put failed
  Fetches : (page : Page) → (fetch : Fetch) → Due
  -- a look at this page, which is held or not, and young or not
  LooksAt : (page : Page) → (held : Bool) → (young : Bool) → Due
  -- a try to write out this page of a frame, into a slot of the driver's choice
  TriesOut : (page : Page) → (frame : ℕ) → Due
  -- a kick of each of these processors, in their order
  KicksAll : (cpus : List ℕ) → Due

-- ---- where the store decides

-- the load of a page by its slot into a frame
abbrev pub load_by : Page → Option SlotAt → ℕ → Option Action
load_by g None f = None
load_by g (Some slot) f = Some (actions.EldStart (frame_at f) g slot)

-- the last put of the page failed, or of the one that has to be back before it
abbrev pub IsLost : Page → Fetch → Page → Type 0
IsLost g (WaitsFor target) page = page ≡ g
IsLost g (Asks target slot free) page = (page ≡ g) ⊎ (page ≡ target)

-- what may come of asking for a record: an earlier put of it failed; or the get fails, or finds none; or the load starts, or finds no
-- version in the slot. Without a free frame nothing is asked
abbrev pub IsFetch : Page → Fetch → Event → Type 0
IsFetch g fetch (Bus page reasons.PutFailed) = IsLost g fetch page
IsFetch g (Asks target slot (Some f)) (Bus page reasons.GetFailed) = page ≡ target
IsFetch g (Asks target slot (Some f)) (Bus page reasons.NoRecord) = page ≡ target
IsFetch g (Asks target slot (Some f)) (Did action answer) = load_by target slot f ≡ Some action
IsFetch g (Asks target slot (Some f)) (Refused action refusals.SlotEmpty) = load_by target slot f ≡ Some action
IsFetch g _ event = ⊥

-- a held page is told as held, else a young one as young; another one is taken, or the store has no room for it
abbrev pub is_look : Bool → Bool → Look → Bool
is_look true young looks.Held = true
is_look false true looks.Young = true
is_look false false looks.NoRoom = true
is_look false false looks.Taken = true
is_look _ _ _ = false

abbrev pub IsLook : Page → Bool → Bool → Event → Type 0
IsLook page held young (Age g look) = (g ≡ page) × (is_look held young look ≡ true)
IsLook page held young _ = ⊥

-- ---- the entries that are allowed

abbrev pub IsTryOf : ℕ → Event → Type 0
IsTryOf n (Did (actions.EwbStart f slot) answer) = f.0 ≡ n
IsTryOf n (Refused (actions.EwbStart f slot) refusal) = f.0 ≡ n
IsTryOf n _ = ⊥

-- a kick of the first of these
abbrev pub IsKickOf : List ℕ → Event → Type 0
IsKickOf (p ∷ ps) (Kick cpu) = cpu.0 ≡ p
IsKickOf _ _ = ⊥

-- an actor's entry is what is due: an instruction is done or refused
abbrev pub IsNext : Due → Event → Type 0
IsNext Stopped event = ⊥
IsNext Finished event = ⊥
IsNext (Waits why) event = ⊥
IsNext (Ends action) event = action_of event ≡ Some action
IsNext (Makes action) event = action_of event ≡ Some action
IsNext (Reports page why) event = event ≡ Bus page why
IsNext (Fetches g fetch) event = IsFetch g fetch event
IsNext (LooksAt page held young) event = IsLook page held young event
IsNext (TriesOut g n) event = IsTryOf n event
IsNext (KicksAll cpus) event = IsKickOf cpus event

-- an instruction, or a wait where a frame that it takes is not there
abbrev pub makes_or : Why → Option Action → Due
makes_or why None = Waits why
makes_or why (Some action) = Makes action
