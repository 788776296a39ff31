-- What an entry does to the tables.
use Rattle.std.specs.Prelude.{◌||◌, ℕ, ◌≡◌, ◌<◌, ◌+◌, ◌^◌, Bool, true, false, if◌then◌else◌, List, Option, None, Some}
use Rattle.std.specs.Prelude.{IfSome, drop, is_some, slice_set}
use Rattle.sgx_rules.specs.declared.entries.Action.TheVariants as actions
use Rattle.sgx_types.specs.declared.names.Actor.{Actor}
use Rattle.sgx_types.specs.declared.names.Actor.TheVariants as actors
use Rattle.sgx_rules.specs.declared.entries.BusWhy.TheVariants as reasons
use Rattle.sgx_rules.specs.declared.entries.Cause.{Cause}
use Rattle.sgx_rules.specs.declared.entries.Cause.TheVariants as causes
use Rattle.sgx_rules.specs.declared.entries.Entry.{Entry}
use Rattle.sgx_rules.specs.declared.entries.Event.{Event}
use Rattle.sgx_rules.specs.declared.entries.Event.TheVariants.{Did, Refused, Kick, Bus}
use Rattle.sgx_types.specs.declared.names.Page.{Page}
use Rattle.sgx_rules.specs.declared.refusals.Refusal.{Refusal}
use Rattle.sgx_rules.specs.declared.refusals.Refusal.TheVariants as why
use Rattle.sgx_types.specs.Pages.{page_at}
use Rattle.cached_translations.specs.declared.processor.Mode.{Mode}
use Rattle.cached_translations.specs.declared.processor.Mode.TheVariants.{Inside, Outside}
use Rattle.job_grammar.specs.Jobs.{JobView}
use Rattle.script_rules.specs.declared.cursor.BuildCursor.{BuildCursor}
use Rattle.script_rules.specs.inner.Cursor.{IsCursor, left}
use Rattle.script_rules.specs.Script.{is_reply}
use Rattle.driver_rules.specs.Stops.{is_bus, spends}
use Rattle.due_tables.specs.declared.cpu_turns.CpuTurn.{CpuTurn}
use Rattle.due_tables.specs.declared.cpu_turns.Interruption.{Interruption}
use Rattle.due_tables.specs.declared.cpu_turns.Last.{Last}
use Rattle.due_tables.specs.declared.cpu_turns.Last.TheVariants as ways
use Rattle.due_tables.specs.declared.tcs_turns.TcsTurn.{TcsTurn}
use Rattle.due_tables.specs.declared.turns.Turns.{Turns}
use Rattle.due_tables.specs.inner.CpuTurns.{turn_at}
use Rattle.due_tables.specs.inner.TcsTurns.{tcs_at, with_less, with_more}

-- ---- a processor's own entry

-- an exit takes a kick away
abbrev pub exits : Event → Bool
exits (Did actions.Exit answer) = true
exits (Did (actions.Aex cause) answer) = true
exits _ = false

abbrev pub broken_in : Mode → Bool → Option Interruption
broken_in Outside for_page = None
broken_in (Inside enclave tcs tf sf epoch) for_page = Some (record { enclave = enclave; tcs = tcs; for_page = for_page })

abbrev pub broken_by : Cause → Mode → Option Interruption
broken_by causes.Fault before = broken_in before true
broken_by causes.Kick before = broken_in before false
broken_by _ before = None

-- the interruption behind an event of a processor that stood so before it
abbrev pub broken_after : Event → Mode → Option Interruption → Option Interruption
broken_after (Did (actions.Enter enclave tcs tf sf) answer) before i = None
broken_after (Did (actions.Resume enclave tcs tf sf) answer) before i = None
broken_after (Did actions.Exit answer) before i = None
broken_after (Did (actions.Aex cause) answer) before i = broken_by cause before
broken_after _ before i = i

-- the page that a processor loads
abbrev pub page_loaded : Last → Option Page
page_loaded (ways.Loads f page) = Some page
page_loaded _ = None

abbrev pub failed_by : Option Page → Refusal → Last
failed_by (Some page) (why.MacFail given computed) = ways.Fails page reasons.Mac
failed_by (Some page) (why.BadHeader enclave address flags) = ways.Fails page reasons.Header
failed_by _ refusal = ways.WasEnded

-- a start that found no version in the slot
abbrev pub start_failed : Page → Refusal → Last
start_failed page why.SlotEmpty = ways.Fails page reasons.Slot
start_failed page refusal = ways.WasEnded

abbrev pub last_after : Event → Last → Last
last_after (Did (actions.EldStart f page slot) answer) last = ways.Loads f page
last_after (Refused (actions.EldStart f page slot) refusal) last = start_failed page refusal
last_after (Refused (actions.Eld f) refusal) last = failed_by (page_loaded last) refusal
last_after (Bus page why) last = ways.WasEnded
last_after _ last = ways.Other

abbrev pub turn_after : Event → Mode → CpuTurn → CpuTurn
turn_after event before x = record {
  replied = if is_reply (is_some x.interruption) event then x.replied + 1 else x.replied;
  is_kicked = if exits event then false else x.is_kicked;
  interruption = broken_after event before x.interruption;
  last = last_after event x.last;
}

-- ---- the processors

abbrev pub kicked : CpuTurn → CpuTurn
kicked x = record x { is_kicked = true }

-- a kick of a processor
abbrev pub with_kick : Event → List CpuTurn → List CpuTurn
with_kick (Kick cpu) turns = slice_set turns cpu.0 (kicked (turn_at turns cpu.0))
with_kick _ turns = turns

abbrev pub with_own : Actor → Event → Mode → List CpuTurn → List CpuTurn
with_own (actors.Cpu p) event before turns = slice_set turns p.0 (turn_after event before (turn_at turns p.0))
with_own _ event before turns = turns

-- ---- state save pages

-- the TCS page by which the actor's processor is inside
abbrev pub page_inside : Mode → Option Page
page_inside Outside = None
page_inside (Inside enclave tcs tf sf epoch) = Some (page_at enclave tcs)

abbrev pub page_left : Actor → Mode → Option Page
page_left (actors.Cpu p) before = page_inside before
page_left _ before = None

abbrev pub more_if : Option Page → List (List (Option TcsTurn)) → List (List (Option TcsTurn))
more_if None turns = turns
more_if (Some g) turns = with_more turns g

abbrev pub saves_after : Event → Option Page → List (List (Option TcsTurn)) → List (List (Option TcsTurn))
saves_after (Did (actions.Aex cause) answer) inside turns = more_if inside turns
saves_after (Did (actions.Resume enclave tcs tf sf) answer) inside turns = with_less turns (page_at enclave tcs)
saves_after _ inside turns = turns

-- ---- the builder

-- one step fewer is left
pub record IsStepped (j : JobView) (old new : BuildCursor) : Type 0 where
  pub within : IsCursor j new
  pub steps : left j new ≡ drop 1 (left j old)

abbrev pub IsBuilt : JobView → Actor → BuildCursor → BuildCursor → Type 0
IsBuilt j actors.Builder old new = IsStepped j old new
IsBuilt j _ old new = new ≡ old

-- ---- enclaves

abbrev pub inits_after : Event → List Bool → List Bool
inits_after (Did (actions.Init enclave expect) answer) inits = slice_set inits enclave true
inits_after _ inits = inits

-- ---- the entry

-- by an entry, before which its processor stood so
pub record IsNoted (j : JobView) (old : Turns) (before : Mode) (e : Entry) (new : Turns) : Type 0 where
  pub cursor : IsBuilt j e.actor old.cursor new.cursor
  pub inits : new.inits ≡ inits_after e.event old.inits
  pub cpus : new.cpus ≡ with_kick e.event (with_own e.actor e.event before old.cpus)
  pub tcs : new.tcs ≡ saves_after e.event (page_left e.actor before) old.tcs
  pub last : new.last ≡ Some e.actor
  pub spent : new.is_spent ≡ (if spends e.event then true else old.is_spent)
  pub loss : new.has_loss ≡ (is_bus e.event || old.has_loss)

-- ---- what the code asks

-- the processor of an entry is one of the job
abbrev pub IsAmong : ℕ → Actor → Type 0
IsAmong cpus (actors.Cpu p) = p.0 < cpus
IsAmong cpus _ = Unit {0}

-- no count is near its type's end
pub record AreFew (t : Turns) : Type 0 where
  pub replied : (p : ℕ) → (turn_at t.cpus p).replied < 2 ^ 63
  pub saved : (g : Page) → IfSome (tcs_at t.tcs g) (λ turn. turn.saved < 2 ^ 63)
