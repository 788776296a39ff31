-- The rules Refusal, Flat, Fits, Stale, Evict and Fresh as tests of an entry, each of which passes only where its rule holds; when Sealed
-- and Measure say nothing; and a test that passes only where Refusal is broken.
use Rattle.std.specs.Prelude.{ℕ, ◌==◌, ◌/◌, ◌&&◌, ◌||◌, not, Bool, true, false, List, Option, Some, None, is_none}
use Rattle.std.specs.Prelude.{is_some, nat_lt}
use Rattle.sgx_rules.specs.declared.entries.Action.{Action}
use Rattle.sgx_rules.specs.declared.entries.Action.TheVariants.{Epa, Create, Add, Extend, Init, Enter, Resume, Exit, Aex, Fill}
use Rattle.sgx_rules.specs.declared.entries.Action.TheVariants.{Load, Store}
use Rattle.sgx_rules.specs.declared.entries.Action.TheVariants.{Xadd, Set, Plus, Pf, OutLoad, OutStore, Block, Track, EwbStart}
use Rattle.sgx_rules.specs.declared.entries.Action.TheVariants.{Ewb}
use Rattle.sgx_rules.specs.declared.entries.Action.TheVariants.{EldStart, Eld}
use Rattle.sgx_types.specs.declared.names.Actor.{Actor}
use Rattle.sgx_types.specs.declared.names.Actor.TheVariants as actors
use Rattle.sgx_rules.specs.declared.entries.Answer.{Answer}
use Rattle.sgx_rules.specs.declared.entries.Answer.TheVariants as answers
use Rattle.sgx_rules.specs.declared.entries.Entry.{Entry}
use Rattle.sgx_rules.specs.declared.entries.Event.{Event}
use Rattle.sgx_rules.specs.declared.entries.Event.TheVariants.{Did, Refused}
use Rattle.sgx_rules.specs.declared.entries.PfWhy.{PfWhy}
use Rattle.sgx_rules.specs.declared.entries.PfWhy.TheVariants as faults
use Rattle.sgx_types.specs.declared.names.Page.{Page}
use Rattle.sgx_rules.specs.declared.refusals.Refusal.{Refusal}
use Rattle.sgx_rules.specs.declared.refusals.Refusal.TheVariants as why
use Rattle.sgx_rules.specs.Eviction.{is_drained}
use Rattle.sgx_rules.specs.Flat.{accepts, flat, flat_answer, is_visible}
use Rattle.sgx_rules.specs.Frames.{Content, Holds, content, is_free, is_this, stands, vas_made}
use Rattle.sgx_rules.specs.Fresh.{Out, last_out}
use Rattle.sgx_types.specs.Making.{Making}
use Rattle.sgx_rules.specs.Processors.{holds_number, translations}
use Rattle.sgx_rules.specs.Rules.{case_of, seen_answer}
use Rattle.sgx_rules.specs.Sights.{row_at}
use Rattle.sgx_rules.specs.Slots.{next_version, version_at, version_in}
use Rattle.sgx_rules.specs.Starts.{Start, open_start}
use Rattle.sgx_types.specs.Cases.{first_of_row}
use Rattle.job_grammar.specs.Jobs.{JobView}
use Rattle.script_rules.specs.Machines.{machine_of}
use Rattle.driver_rules.specs.inner.Same.{same_numbers}
use Rattle.history_rules.specs.declared.rules.Rule.{Rule}
use Rattle.history_rules.specs.declared.rules.Rule.TheVariants as rules

-- the first case of the row that holds, as the entries before a place say
abbrev pub case_at : Making → List Entry → Actor → Action → Option Refusal
case_at k past actor action = first_of_row (row_at k past actor action)

-- ---- Refusal

-- this page is in the frame, and its write-out has started
abbrev pub is_ended_out : Content → Option Start → Page → Bool
is_ended_out held None page = false
is_ended_out held (Some start) page = stands held page && is_none start.loads

-- a load of this page has started
abbrev pub is_ended_in : Option Start → Page → Bool
is_ended_in None page = false
is_ended_in (Some start) page = is_this start.loads page

abbrev pub is_formed : List Entry → Action → Answer → Bool
is_formed past (Epa f) (answers.Va k) = k == vas_made past
is_formed past (Create enclave f base size) answers.Plain = true
is_formed past (Add enclave number f kind perm init) answers.Plain = true
is_formed past (Extend f chunk) answers.Plain = true
is_formed past (Init enclave expect) (answers.Hash digest) = true
is_formed past (Enter enclave tcs tf sf) (answers.Cssa cssa) = true
is_formed past (Resume enclave tcs tf sf) (answers.Value acc) = true
is_formed past Exit answers.Plain = true
is_formed past (Aex cause) answers.Plain = true
is_formed past (Fill number f) answers.Plain = true
is_formed past (Load off) (answers.Value word) = true
is_formed past (Store off value) answers.Plain = true
is_formed past (Xadd off value) (answers.Value word) = true
is_formed past (Set value) answers.Plain = true
is_formed past (Plus value) (answers.Value acc) = true
is_formed past (Pf op off) (answers.Pf fault) = true
is_formed past (OutLoad enclave off) (answers.Value word) = true
is_formed past (OutStore enclave off value) answers.Plain = true
is_formed past (Block f) answers.Plain = true
is_formed past (Track enclave) answers.Plain = true
is_formed past (EwbStart f slot) (answers.Version version) = true
is_formed past (Ewb f) (answers.Moved page version tag) = is_ended_out (content past f.0) (open_start past f.0) page
is_formed past (EldStart f page slot) (answers.Version version) = version == version_at past slot
is_formed past (Eld f) (answers.Moved page version tag) = is_ended_in (open_start past f.0) page
is_formed past action answer = false

-- both are the same case, or none
abbrev pub is_case : Option Refusal → Option Refusal → Bool
is_case None None = true
is_case (Some (why.NotTracked epoch older)) (Some (why.NotTracked e o)) = (epoch == e) && (older == o)
is_case (Some (why.PrevTrk older)) (Some (why.PrevTrk o)) = older == o
is_case (Some why.Absent) (Some why.Absent) = true
is_case (Some why.BlkState) (Some why.BlkState) = true
is_case (Some why.Conflict) (Some why.Conflict) = true
is_case (Some why.EpochSpent) (Some why.EpochSpent) = true
is_case (Some why.VersionSpent) (Some why.VersionSpent) = true
is_case _ _ = false

-- a load was refused for two tags that differ
abbrev pub is_unfit : Option Start → Refusal → Bool
is_unfit (Some start) (why.MacFail given computed) = is_some start.loads && not (same_numbers given computed)
is_unfit _ _ = false

abbrev pub keeps_refusal : Making → List Entry → Actor → Event → Bool
keeps_refusal k past actor (Did action answer) = is_none (case_at k past actor action) && is_formed past action answer
keeps_refusal k past actor (Refused (Ewb f) refusal) = false
keeps_refusal k past actor (Refused (Eld f) refusal) = is_unfit (open_start past f.0) refusal
keeps_refusal k past actor (Refused action refusal) = is_case (case_at k past actor action) (case_of action refusal)
keeps_refusal k past actor _ = true

-- an instruction was done where a case of its row holds, or a write-out ended that had not started
abbrev pub is_misdone : JobView → List Entry → Actor → Event → Bool
is_misdone j past actor (Did (Ewb f) answer) = is_none (open_start past f.0)
is_misdone j past actor (Did action answer) = is_some (case_at (machine_of j) past actor action)
is_misdone j past actor _ = false

-- ---- Flat

abbrev pub same_fault : PfWhy → PfWhy → Bool
same_fault faults.Absent faults.Absent = true
same_fault faults.WrongType faults.WrongType = true
same_fault faults.NoPerm faults.NoPerm = true
same_fault _ _ = false

abbrev pub same_answer : Answer → Answer → Bool
same_answer answers.Plain answers.Plain = true
same_answer (answers.Cssa a) (answers.Cssa b) = a == b
same_answer (answers.Value a) (answers.Value b) = a == b
same_answer (answers.Pf a) (answers.Pf b) = same_fault a b
same_answer _ _ = false

abbrev pub keeps_flat : List Entry → Actor → Event → Bool
keeps_flat past actor (Did action answer) =
    not (is_visible action)
    || (accepts (flat past) actor action && same_answer (seen_answer action answer) (flat_answer (flat past) actor action))
keeps_flat past actor _ = true

-- ---- Fits

abbrev pub names_frames : ℕ → Action → Bool
names_frames frames (Epa f) = nat_lt f.0 frames
names_frames frames (Create enclave f base size) = nat_lt f.0 frames
names_frames frames (Add enclave number f kind perm init) = nat_lt f.0 frames
names_frames frames (Extend f chunk) = nat_lt f.0 frames
names_frames frames (Enter enclave tcs tf sf) = nat_lt tf.0 frames && nat_lt sf.0 frames
names_frames frames (Resume enclave tcs tf sf) = nat_lt tf.0 frames && nat_lt sf.0 frames
names_frames frames (Fill number f) = nat_lt f.0 frames
names_frames frames (Block f) = nat_lt f.0 frames
names_frames frames (EwbStart f slot) = nat_lt f.0 frames && nat_lt slot.frame.0 frames
names_frames frames (Ewb f) = nat_lt f.0 frames
names_frames frames (EldStart f page slot) = nat_lt f.0 frames && nat_lt slot.frame.0 frames
names_frames frames (Eld f) = nat_lt f.0 frames
names_frames frames _ = true

abbrev pub takes_free : List Entry → Action → Bool
takes_free past (Epa f) = is_free (content past f.0)
takes_free past (Create enclave f base size) = is_free (content past f.0)
takes_free past (Add enclave number f kind perm init) = is_free (content past f.0)
takes_free past (EldStart f page slot) = is_free (content past f.0)
takes_free past _ = true

abbrev pub keeps_fits : ℕ → List Entry → Event → Bool
keeps_fits frames past (Did action answer) = names_frames frames action && takes_free past action
keeps_fits frames past _ = true

-- ---- Stale

abbrev pub holds_page_at : List Entry → Actor → ℕ → Bool
holds_page_at past (actors.Cpu p) off = holds_number (translations past p.0) (off / 4096)
holds_page_at past _ off = false

abbrev pub keeps_stale : List Entry → Actor → Event → Bool
keeps_stale past actor (Did (Load off) answer) = holds_page_at past actor off
keeps_stale past actor (Did (Store off value) answer) = holds_page_at past actor off
keeps_stale past actor (Did (Xadd off value) answer) = holds_page_at past actor off
keeps_stale past actor _ = true

-- ---- Evict

abbrev pub goes_out : List Entry → ℕ → Content → Bool
goes_out past n (Holds page kind perm) = is_drained past n
goes_out past n _ = false

abbrev pub is_write_out : Option Start → ℕ → Bool
is_write_out None version = false
is_write_out (Some start) version = (start.version == version) && is_none start.loads

abbrev pub keeps_evict : List Entry → Event → Bool
keeps_evict past (Did (EwbStart f slot) answer) = goes_out past f.0 (content past f.0)
keeps_evict past (Did (Ewb f) (answers.Moved page version tag)) = is_write_out (open_start past f.0) version
keeps_evict past (Did (Ewb f) answer) = false
keeps_evict past _ = true

-- ---- Fresh

abbrev pub is_rising : ℕ → List Entry → Event → Bool
is_rising first past (Did (EwbStart f slot) (answers.Version version)) = version == next_version first past
is_rising first past (Did (EwbStart f slot) answer) = false
is_rising first past _ = true

abbrev pub is_out : Option Out → ℕ → List ℕ → Bool
is_out None version tag = false
is_out (Some out) version tag = (out.version == version) && same_numbers out.tag tag

abbrev pub is_in_slot : List Entry → Option Start → ℕ → Bool
is_in_slot past None version = false
is_in_slot past (Some start) version = version_in past start.slot == version

abbrev pub is_reload : List Entry → Event → Bool
is_reload past (Did (Eld f) (answers.Moved page version tag)) =
    is_out (last_out past page) version tag && is_in_slot past (open_start past f.0) version
is_reload past (Did (Eld f) answer) = false
is_reload past _ = true

abbrev pub keeps_fresh : ℕ → List Entry → Event → Bool
keeps_fresh first past event = is_rising first past event && is_reload past event

-- ---- together

abbrev pub is_of_six : Rule → Bool
is_of_six rules.Refusal = true
is_of_six rules.Flat = true
is_of_six rules.Fits = true
is_of_six rules.Stale = true
is_of_six rules.Evict = true
is_of_six rules.Fresh = true
is_of_six _ = false

-- the six rules hold of an entry
abbrev pub keeps_six : JobView → List Entry → Actor → Event → Bool
keeps_six j past actor event =
    keeps_refusal (machine_of j) past actor event
    && (keeps_flat past actor event
    && (keeps_fits j.epc past event
    && (keeps_stale past actor event && (keeps_evict past event && keeps_fresh j.start_version past event))))

-- an entry of which Sealed or Measure may say something
abbrev pub tells_digest : Event → Bool
tells_digest (Did (Init enclave expect) answer) = true
tells_digest (Refused (Init enclave expect) refusal) = true
tells_digest (Did (Ewb f) answer) = true
tells_digest _ = false

-- .. and so do Sealed and Measure, which say nothing of it
abbrev pub is_lawful : JobView → List Entry → Actor → Event → Bool
is_lawful j past actor event = keeps_six j past actor event && not (tells_digest event)
