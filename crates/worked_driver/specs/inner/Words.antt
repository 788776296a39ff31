-- Short words for jobs and entries of one enclave, by which the worked traces are written: slots are of the version array page in frame 0,
-- and tags are left empty, since none of the rules here looks at them.
use Rattle.std.specs.Prelude.{ℕ, List, [], ◌∷◌, true, false, None}
use Rattle.sgx_rules.specs.declared.entries.AccessOp.{AccessOp}
use Rattle.sgx_rules.specs.declared.entries.Action.{Action}
use Rattle.sgx_rules.specs.declared.entries.Action.TheVariants as actions
use Rattle.sgx_types.specs.declared.names.Actor.{Actor}
use Rattle.sgx_types.specs.declared.names.Actor.TheVariants.{Reclaimer}
use Rattle.sgx_rules.specs.declared.entries.Answer.TheVariants as answers
use Rattle.sgx_rules.specs.declared.entries.BusWhy.{BusWhy}
use Rattle.sgx_rules.specs.declared.entries.Cause.{Cause}
use Rattle.sgx_rules.specs.declared.entries.Entry.{Entry}
use Rattle.sgx_rules.specs.declared.entries.Event.TheVariants as events
use Rattle.sgx_rules.specs.declared.entries.Look.{Look}
use Rattle.sgx_types.specs.declared.lawful.PageInit.TheVariants as inits
use Rattle.sgx_rules.specs.declared.entries.PfWhy.{PfWhy}
use Rattle.sgx_types.specs.declared.names.Kind.TheVariants as kinds
use Rattle.sgx_types.specs.declared.names.Perm.{Perm}
use Rattle.sgx_types.specs.declared.names.SlotAt.{SlotAt}
use Rattle.sgx_rules.specs.declared.refusals.Refusal.{Refusal}
use Rattle.sgx_rules.specs.declared.refusals.Refusal.TheVariants as why
use Rattle.sgx_types.specs.Pages.{no_perm, page_at}
use Rattle.measure_log.specs.Rule.{measurement}
use Rattle.sgx_types.specs.Pages.{frame_at}
use Rattle.worked_traces.specs.inner.Traces.{cpu, rw_perm, did}

abbrev pub r_perm : Perm
r_perm = record { r = true; w = false; x = false }

-- a slot of the version array page in frame 0
abbrev pub slot_at : ℕ → SlotAt
slot_at i = record { frame = frame_at 0; index = i }

abbrev pub refused : Actor → Action → Refusal → Entry
refused actor action refusal = record { actor = actor; event = events.Refused action refusal }

-- ---- the build

abbrev pub create : Actor → ℕ → Entry
create actor f = did actor (actions.Create 1 (frame_at f) 0x10000 0x10000) answers.Plain

-- a TCS page with one state save page, ossa
abbrev pub add_tcs : Actor → ℕ → ℕ → ℕ → Entry
add_tcs actor n f ossa = did actor (actions.Add 1 n (frame_at f) kinds.Tcs no_perm (inits.Tcs ossa 1)) answers.Plain

-- a page of words with this value, to be read and written
abbrev pub add_reg : Actor → ℕ → ℕ → ℕ → Entry
add_reg actor n f value = did actor (actions.Add 1 n (frame_at f) kinds.Reg rw_perm (inits.Words value)) answers.Plain

-- .. or only to be read
abbrev pub add_read_only : Actor → ℕ → ℕ → ℕ → Entry
add_read_only actor n f value = did actor (actions.Add 1 n (frame_at f) kinds.Reg r_perm (inits.Words value)) answers.Plain

abbrev pub extend : Actor → ℕ → ℕ → Entry
extend actor f chunk = did actor (actions.Extend (frame_at f) chunk) answers.Plain

abbrev pub init : Actor → Entry
init actor = did actor (actions.Init 1 None) (answers.Hash [])

-- .. and answers its measurement, as the entries before say
abbrev pub measured_init : Actor → List Entry → Entry
measured_init actor past = did actor (actions.Init 1 None) (answers.Hash (measurement past 1))

-- ---- processors

abbrev pub enter : Actor → ℕ → ℕ → ℕ → ℕ → Entry
enter actor tcs tf sf cssa = did actor (actions.Enter 1 tcs (frame_at tf) (frame_at sf)) (answers.Cssa cssa)

abbrev pub resume : Actor → ℕ → ℕ → ℕ → ℕ → Entry
resume actor tcs tf sf acc = did actor (actions.Resume 1 tcs (frame_at tf) (frame_at sf)) (answers.Value acc)

abbrev pub aex : Actor → Cause → Entry
aex actor cause = did actor (actions.Aex cause) answers.Plain

abbrev pub fill : Actor → ℕ → ℕ → Entry
fill actor n f = did actor (actions.Fill n (frame_at f)) answers.Plain

abbrev pub load : Actor → ℕ → ℕ → Entry
load actor off value = did actor (actions.Load off) (answers.Value value)

abbrev pub xadd : Actor → ℕ → ℕ → ℕ → Entry
xadd actor off value old = did actor (actions.Xadd off value) (answers.Value old)

abbrev pub store : Actor → ℕ → ℕ → Entry
store actor off value = did actor (actions.Store off value) answers.Plain

abbrev pub pf : Actor → AccessOp → ℕ → PfWhy → Entry
pf actor op off reason = did actor (actions.Pf op off) (answers.Pf reason)

abbrev pub plus : Actor → ℕ → ℕ → Entry
plus actor value acc = did actor (actions.Plus value) (answers.Value acc)

abbrev pub outload : Actor → ℕ → Entry
outload actor off = did actor (actions.OutLoad 1 off) (answers.Value 18446744073709551615)

abbrev pub set : Actor → ℕ → Entry
set actor value = did actor (actions.Set value) answers.Plain

abbrev pub exit : Actor → Entry
exit actor = did actor actions.Exit answers.Plain

-- a load of page n into frame f begins, from slot i with this version
abbrev pub start_back : Actor → ℕ → ℕ → ℕ → ℕ → Entry
start_back actor f n i version = did actor (actions.EldStart (frame_at f) (page_at 1 n) (slot_at i)) (answers.Version version)

-- .. and ends
abbrev pub back : Actor → ℕ → ℕ → ℕ → Entry
back actor f n version = did actor (actions.Eld (frame_at f)) (answers.Moved (page_at 1 n) version [])

-- .. or is refused for its tag: the two differ, and that is all that a rule here asks of them
abbrev pub back_refused : Actor → ℕ → Entry
back_refused actor f = refused actor (actions.Eld (frame_at f)) (why.MacFail [] (0 ∷ []))

abbrev pub bus : ℕ → ℕ → BusWhy → Entry
bus p n reason = record { actor = cpu p; event = events.Bus (page_at 1 n) reason }

-- ---- the reclaimer

abbrev pub age : ℕ → Look → Entry
age n look = record { actor = Reclaimer; event = events.Age (page_at 1 n) look }

abbrev pub kick : ℕ → Entry
kick p = record { actor = Reclaimer; event = events.Kick (record { 0 = p }) }

abbrev pub block : Actor → ℕ → Entry
block actor f = did actor (actions.Block (frame_at f)) answers.Plain

-- .. is refused, since it is blocked already
abbrev pub block_refused : Actor → ℕ → Entry
block_refused actor f = refused actor (actions.Block (frame_at f)) why.BlkState

abbrev pub track : Actor → Entry
track actor = did actor (actions.Track 1) answers.Plain

abbrev pub track_refused : Actor → Entry
track_refused actor = refused actor (actions.Track 1) why.EpochSpent

-- .. is refused, since so many processors inside are older
abbrev pub track_kept : Actor → ℕ → Entry
track_kept actor older = refused actor (actions.Track 1) (why.PrevTrk older)

-- a track of an enclave that is not there, done or refused
abbrev pub other_track_done : Actor → Entry
other_track_done actor = did actor (actions.Track 2) answers.Plain

abbrev pub other_track : Actor → Entry
other_track actor = refused actor (actions.Track 2) why.Absent

-- a write-out of frame f into slot i begins, with this version
abbrev pub start_out : Actor → ℕ → ℕ → ℕ → Entry
start_out actor f i version = did actor (actions.EwbStart (frame_at f) (slot_at i)) (answers.Version version)

-- .. is refused, at this epoch, so many processors keeping the page back
abbrev pub try_refused : Actor → ℕ → ℕ → ℕ → ℕ → Entry
try_refused actor f i epoch older = refused actor (actions.EwbStart (frame_at f) (slot_at i)) (why.NotTracked epoch older)

-- .. since a write-out of the frame, or into the slot, has begun
abbrev pub busy_out : Actor → ℕ → ℕ → Entry
busy_out actor f i = refused actor (actions.EwbStart (frame_at f) (slot_at i)) why.Conflict

-- .. or is refused, since the last version was drawn
abbrev pub last_version : Actor → ℕ → ℕ → Entry
last_version actor f i = refused actor (actions.EwbStart (frame_at f) (slot_at i)) why.VersionSpent

-- .. and ends
abbrev pub out : Actor → ℕ → ℕ → ℕ → Entry
out actor f n version = did actor (actions.Ewb (frame_at f)) (answers.Moved (page_at 1 n) version [])
