-- Blocks, tracks and slots at a small machine: page 2 of enclave 1 is in frame 4, and processor 0 is inside with a translation
-- of it.
use Rattle.std.proofs.Common.{◌≡◌, ℕ, Bool, true, false, List, [], ◌∷◌, Some, None, refl}
use Rattle.sgx_rules.specs.declared.entries.Entry.{Entry}
use Rattle.sgx_rules.specs.declared.entries.Event.TheVariants.{Did, Refused}
use Rattle.sgx_types.specs.declared.names.Actor.{Actor}
use Rattle.sgx_types.specs.declared.names.Actor.TheVariants.{Builder, Cpu, Reclaimer}
use Rattle.sgx_rules.specs.declared.entries.Action.{Action}
use Rattle.sgx_rules.specs.declared.entries.Action.TheVariants as actions
use Rattle.sgx_rules.specs.declared.entries.Answer.{Answer}
use Rattle.sgx_rules.specs.declared.entries.Answer.TheVariants as answers
use Rattle.sgx_rules.specs.declared.entries.Cause.TheVariants as causes
use Rattle.sgx_types.specs.declared.lawful.PageInit.TheVariants as inits
use Rattle.sgx_rules.specs.declared.refusals.Refusal.TheVariants as why
use Rattle.sgx_types.specs.declared.names.Frame.{Frame}
use Rattle.sgx_types.specs.declared.names.Kind.TheVariants as kinds
use Rattle.sgx_types.specs.declared.names.Perm.{Perm}
use Rattle.sgx_types.specs.declared.names.SlotAt.{SlotAt}
use Rattle.sgx_types.specs.declared.names.VaSlot.{VaSlot}
use Rattle.sgx_types.specs.Counts.{any_below, count_below}
use Rattle.sgx_types.specs.Pages.{page_at}
use Rattle.sgx_rules.specs.Frames.{Free, IsVa, IsLoading, Holds, content, is_sealing}
use Rattle.sgx_rules.specs.Epochs.{epoch, older_at}
use Rattle.sgx_rules.specs.inner.Epochs.{newer_at, block_epoch}
use Rattle.sgx_rules.specs.Eviction.{is_drained, kept_back}
use Rattle.sgx_rules.specs.Slots.{version_in, is_slot_busy, next_version}
use Rattle.sgx_rules.specs.Starts.{open_start}

abbrev frame : ℕ → Frame
frame n = record { 0 = n }

abbrev first_at : SlotAt
first_at = record { frame = frame 0; index = 0 }

abbrev first_slot : VaSlot
first_slot = record { va = 0; index = 0 }

abbrev perm : Bool → Perm
perm b = record { r = b; w = b; x = false }

abbrev did : Actor → Action → Answer → Entry
did actor action answer = record { actor = actor; event = Did action answer }

abbrev cpu : ℕ → Actor
cpu p = Cpu (record { 0 = p })

-- newest first
abbrev entered : List Entry
entered =
    did (cpu 0) (actions.Fill 2 (frame 4)) answers.Plain
    ∷ did (cpu 0) (actions.Enter 1 0 (frame 2) (frame 3)) (answers.Cssa 0)
    ∷ did Builder (actions.Add 1 2 (frame 4) kinds.Reg (perm true) (inits.Words 7)) answers.Plain
    ∷ did Builder (actions.Add 1 1 (frame 3) kinds.Reg (perm true) (inits.Words 0)) answers.Plain
    ∷ did Builder (actions.Add 1 0 (frame 2) kinds.Tcs (perm false) (inits.Tcs 1 1)) answers.Plain
    ∷ did Builder (actions.Create 1 (frame 1) 0x10000 0x10000) answers.Plain
    ∷ did Builder (actions.Epa (frame 0)) (answers.Va 0)
    ∷ []

abbrev blocked : List Entry
blocked = did Reclaimer (actions.Block (frame 4)) answers.Plain ∷ entered

abbrev tracked : List Entry
tracked = did Reclaimer (actions.Track 1) answers.Plain ∷ blocked

abbrev left : List Entry
left = did (cpu 0) (actions.Aex causes.Kick) answers.Plain ∷ tracked

-- before the track all who are inside keep the page back
not_tracked : kept_back blocked 4 ≡ 1
unfolding count_below
not_tracked = refl

first_epoch : epoch 1 blocked 1 ≡ 1
first_epoch = refl

-- .. then those who were inside at the track
still_inside : is_drained tracked 4 ≡ false
unfolding count_below
still_inside = refl

kept_by_one : kept_back tracked 4 ≡ 1
unfolding count_below
kept_by_one = refl

second_epoch : epoch 1 tracked 1 ≡ 2
second_epoch = refl

-- .. and none once it has left, also where it came back since
drained : is_drained left 4 ≡ true
unfolding count_below
drained = refl

drained_though_inside : is_drained (did (cpu 0) (actions.Resume 1 0 (frame 2) (frame 3)) (answers.Value 0) ∷ left) 4 ≡ true
unfolding count_below
drained_though_inside = refl

-- a processor inside is older behind a track, and another that came since is not
older_one : older_at (did (cpu 1) (actions.Enter 1 5 (frame 6) (frame 7)) (answers.Cssa 0) ∷ tracked) 1 ≡ 1
unfolding count_below
older_one = refl

newer_one : newer_at (did (cpu 1) (actions.Enter 1 5 (frame 6) (frame 7)) (answers.Cssa 0) ∷ tracked) 1 ≡ 1
unfolding count_below
newer_one = refl

-- the slot is busy from the start to the commit, which leaves the version in it
abbrev started : List Entry
started = did Reclaimer (actions.EwbStart (frame 4) first_at) (answers.Version 1) ∷ left

abbrev out : List Entry
out = did Reclaimer (actions.Ewb (frame 4)) (answers.Moved (page_at 1 2) 1 []) ∷ started

busy_slot : is_slot_busy 6 started first_slot ≡ true
unfolding any_below
busy_slot = refl

sealing : is_sealing started 4 ≡ true
sealing = refl

filled_slot : version_in out first_slot ≡ 1
filled_slot = refl

free_slot : is_slot_busy 6 out first_slot ≡ false
unfolding any_below
free_slot = refl

free_frame : content out 4 ≡ Free
free_frame = refl

next_is_two : next_version 1 out ≡ 2
next_is_two = refl

-- a reload into another frame; where it is refused the slot keeps its version, and else it is empty
abbrev loading : List Entry
loading = did (cpu 0) (actions.EldStart (frame 5) (page_at 1 2) first_at) (answers.Version 1) ∷ out

abbrev refused : List Entry
refused = record { actor = cpu 0; event = Refused (actions.Eld (frame 5)) (why.MacFail [] []) } ∷ loading

abbrev reloaded : List Entry
reloaded = did (cpu 0) (actions.Eld (frame 5)) (answers.Moved (page_at 1 2) 1 []) ∷ loading

frame_loads : content loading 5 ≡ IsLoading (page_at 1 2)
frame_loads = refl

keeps_version : version_in refused first_slot ≡ 1
keeps_version = refl

free_again : content refused 5 ≡ Free
free_again = refl

not_busy_again : is_slot_busy 6 refused first_slot ≡ false
unfolding any_below
not_busy_again = refl

-- where the starts of two frames named one slot, the commit of one leaves it busy by the other
abbrev two_named : List Entry
two_named =
    did Reclaimer (actions.Ewb (frame 4)) (answers.Moved (page_at 1 2) 1 [])
    ∷ did Reclaimer (actions.EwbStart (frame 5) first_at) (answers.Version 2)
    ∷ started

busy_by_other : is_slot_busy 6 two_named first_slot ≡ true
unfolding any_below
busy_by_other = refl

-- .. of a frame that is one of so many
not_busy_below : is_slot_busy 5 two_named first_slot ≡ false
unfolding any_below
not_busy_below = refl

-- a start knows the place of its entry and its actor
knows_place : open_start two_named 5
    ≡ Some (record { at = first_at; slot = first_slot; version = 2; loads = None; place = 11; actor = Reclaimer })
knows_place = refl

emptied : version_in reloaded first_slot ≡ 0
emptied = refl

page_is_back : content reloaded 5 ≡ Holds (page_at 1 2) kinds.Reg (perm true)
page_is_back = refl

-- the old block counts no more
not_blocked : block_epoch 1 reloaded 5 ≡ None
not_blocked = refl

-- each version array page has a number of its own, in the order in which they were made
abbrev second_array : List Entry
second_array = did Builder (actions.Epa (frame 6)) (answers.Va 1) ∷ reloaded

one_has_zero : content second_array 0 ≡ IsVa 0
one_has_zero = refl

next_has_one : content second_array 6 ≡ IsVa 1
next_has_one = refl
