-- A machine of eight frames with an enclave of three pages, by whose entries the definitions are evaluated. Entries stand newest first.
use Rattle.std.specs.Prelude.{ℕ, List, [], ◌∷◌, None, replicate}
use Rattle.sgx_rules.specs.declared.entries.Action.{Action}
use Rattle.sgx_rules.specs.declared.entries.Action.TheVariants as actions
use Rattle.sgx_types.specs.declared.names.Actor.{Actor}
use Rattle.sgx_types.specs.declared.names.Actor.TheVariants.{Builder, Cpu, Reclaimer}
use Rattle.sgx_rules.specs.declared.entries.Answer.TheVariants as answers
use Rattle.sgx_rules.specs.declared.entries.Entry.{Entry}
use Rattle.sgx_rules.specs.declared.entries.Event.TheVariants.{Refused}
use Rattle.sgx_types.specs.declared.lawful.PageInit.TheVariants as inits
use Rattle.sgx_types.specs.declared.names.Frame.{Frame}
use Rattle.sgx_types.specs.declared.names.Kind.TheVariants as kinds
use Rattle.sgx_types.specs.declared.names.Page.{Page}
use Rattle.sgx_types.specs.declared.names.SlotAt.{SlotAt}
use Rattle.sgx_rules.specs.declared.refusals.Refusal.{Refusal}
use Rattle.sgx_types.specs.Pages.{no_perm}
use Rattle.sgx_types.specs.Making.{Making}
use Rattle.sgx_types.specs.Pages.{frame_at}
use Rattle.worked_traces.specs.inner.Traces.{did, rw_perm}

abbrev pub making : Making
making = record { frames = 8; cpus = 1; key = replicate 32 0; first_epoch = 1; first_version = 1 }

-- the slot of this index in a frame
abbrev pub slot_at : ℕ → ℕ → SlotAt
slot_at n index = record { frame = frame_at n; index = index }

abbrev pub refused : Actor → Action → Refusal → Entry
refused actor action why = record { actor = actor; event = Refused action why }

abbrev pub cpu : Actor
cpu = Cpu (record { 0 = 0 })

-- a tag, by one byte of it: no rule of this crate looks into tags
abbrev pub some_tag : ℕ → List ℕ
some_tag byte = replicate 32 byte

-- ---- the entries that the traces share

abbrev pub epa : ℕ → ℕ → Entry
epa n number = did Builder (actions.Epa (frame_at n)) (answers.Va number)

abbrev pub block : ℕ → Entry
block n = did Reclaimer (actions.Block (frame_at n)) answers.Plain

abbrev pub track : Entry
track = did Reclaimer (actions.Track 1) answers.Plain

-- what a frame holds starts to go out under a version, with this slot
abbrev pub starts_out : ℕ → SlotAt → ℕ → Entry
starts_out n at version = did Reclaimer (actions.EwbStart (frame_at n) at) (answers.Version version)

-- .. and is out
abbrev pub is_out : ℕ → Page → ℕ → Entry
is_out n page version = did Reclaimer (actions.Ewb (frame_at n)) (answers.Moved page version (some_tag version))

abbrev pub keeps_in : ℕ → SlotAt → Refusal → Entry
keeps_in n at why = refused Reclaimer (actions.EwbStart (frame_at n) at) why

-- a page starts to come into a frame
abbrev pub starts_in : ℕ → Page → SlotAt → ℕ → Entry
starts_in n page at version = did cpu (actions.EldStart (frame_at n) page at) (answers.Version version)

-- .. and is in
abbrev pub comes_in : ℕ → Page → ℕ → Entry
comes_in n page version = did cpu (actions.Eld (frame_at n)) (answers.Moved page version (some_tag version))

abbrev pub keeps_out : ℕ → Page → SlotAt → Refusal → Entry
keeps_out n page at why = refused cpu (actions.EldStart (frame_at n) page at) why

-- an enclave of a TCS page, its state save page and a page of sevens in the frames 2 to 4, its SECS in frame 1 and a version array
-- page in frame 0; a processor is inside with a translation of the page of sevens
abbrev pub ready : List Entry
ready =
    did cpu (actions.Fill 2 (frame_at 4)) answers.Plain
    ∷ did cpu (actions.Enter 1 0 (frame_at 2) (frame_at 3)) (answers.Cssa 0)
    ∷ did Builder (actions.Init 1 None) (answers.Hash (replicate 32 9))
    ∷ did Builder (actions.Add 1 2 (frame_at 4) kinds.Reg rw_perm (inits.Words 7)) answers.Plain
    ∷ did Builder (actions.Add 1 1 (frame_at 3) kinds.Reg rw_perm (inits.Words 0)) answers.Plain
    ∷ did Builder (actions.Add 1 0 (frame_at 2) kinds.Tcs no_perm (inits.Tcs 1 1)) answers.Plain
    ∷ did Builder (actions.Create 1 (frame_at 1) 0x10000 0x10000) answers.Plain
    ∷ epa 0 0
    ∷ []
