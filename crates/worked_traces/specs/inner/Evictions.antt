-- The page of the small job goes out and comes back, and traces that are wrong in one place of it. Entries stand newest first.
use Rattle.std.specs.Prelude.{ℕ, List, ◌∷◌, replicate}
use Rattle.sgx_rules.specs.declared.entries.Action.TheVariants as actions
use Rattle.sgx_types.specs.declared.names.Actor.TheVariants.{Reclaimer}
use Rattle.sgx_rules.specs.declared.entries.Answer.TheVariants as answers
use Rattle.sgx_rules.specs.declared.entries.Entry.{Entry}
use Rattle.sgx_types.specs.declared.names.Page.{Page}
use Rattle.sgx_types.specs.declared.names.SlotAt.{SlotAt}
use Rattle.sgx_types.specs.Pages.{page_at}
use Rattle.sgx_types.specs.Pages.{frame_at}
use Rattle.worked_traces.specs.inner.Traces.{did, first_build, first_trace}

-- the page of sevens
abbrev pub sevens : Page
sevens = page_at 1 2

-- the first slot of the version array
abbrev pub first_slot : SlotAt
first_slot = record { frame = frame_at 0; index = 0 }

-- the reclaimer blocks frame 4 and tracks the enclave
abbrev pub block : Entry
block = did Reclaimer (actions.Block (frame_at 4)) answers.Plain

abbrev pub track : Entry
track = did Reclaimer (actions.Track 1) answers.Plain

-- what is in frame 4 starts to go out, and its version is drawn
abbrev pub start_out : Entry
start_out = did Reclaimer (actions.EwbStart (frame_at 4) first_slot) (answers.Version 1)

-- it has gone out under a version
abbrev pub end_out : ℕ → Entry
end_out version = did Reclaimer (actions.Ewb (frame_at 4)) (answers.Moved sevens version (replicate 32 0))

-- the page of sevens starts to come into frame 5, and its slot has this version
abbrev pub start_in : ℕ → Entry
start_in version = did Reclaimer (actions.EldStart (frame_at 5) sevens first_slot) (answers.Version version)

-- this page of the enclave has come into it under a version
abbrev pub end_in : ℕ → ℕ → Entry
end_in number version = did Reclaimer (actions.Eld (frame_at 5)) (answers.Moved (page_at 1 number) version (replicate 32 0))

-- ---- right

-- after the run the page goes out
abbrev pub gone_out : List Entry
gone_out = end_out 1 ∷ start_out ∷ track ∷ block ∷ first_trace

-- .. and comes back into another frame
abbrev pub came_back : List Entry
came_back = end_in 2 1 ∷ start_in 1 ∷ gone_out

-- ---- wrong

-- no track before the write-out
abbrev pub no_track : List Entry
no_track = start_out ∷ block ∷ first_trace

-- the write-out tells a version that was not drawn
abbrev pub other_version_out : List Entry
other_version_out = end_out 2 ∷ start_out ∷ track ∷ block ∷ first_trace

-- the start of the load tells a version that is not in the slot
abbrev pub other_version_in : List Entry
other_version_in = start_in 2 ∷ gone_out

-- another page comes back than the one that the frame waits for
abbrev pub other_page_in : List Entry
other_page_in = end_in 1 1 ∷ start_in 1 ∷ gone_out

-- the page starts to come back a second time, from the same slot
abbrev pub second_start : List Entry
second_start = did Reclaimer (actions.EldStart (frame_at 4) sevens first_slot) (answers.Version 1) ∷ start_in 1 ∷ gone_out

-- the reclaimer enters the enclave
abbrev pub enter_by_reclaimer : List Entry
enter_by_reclaimer = did Reclaimer (actions.Enter 1 0 (frame_at 2) (frame_at 3)) (answers.Cssa 0) ∷ first_build
