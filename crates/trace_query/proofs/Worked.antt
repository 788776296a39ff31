-- Questions to small lists of entries, worked out.
use Rattle.std.proofs.Common.{◌≡◌, ℕ, true, false, List, [], ◌∷◌, length, Some, None, refl}
use Rattle.flat_words.specs.Words.{word}
use Rattle.sgx_types.specs.declared.lawful.PageInit.TheVariants as inits
use Rattle.sgx_types.specs.declared.names.Actor.TheVariants.{Builder, Cpu, Reclaimer}
use Rattle.sgx_types.specs.declared.names.Perm.{Perm}
use Rattle.sgx_types.specs.declared.names.Frame.{Frame}
use Rattle.sgx_types.specs.declared.names.Kind.TheVariants as kinds
use Rattle.sgx_types.specs.declared.names.Page.{Page}
use Rattle.sgx_types.specs.Pages.{page_at, no_perm}
use Rattle.sgx_rules.specs.declared.entries.Action.{Action}
use Rattle.sgx_rules.specs.declared.entries.Action.TheVariants as actions
use Rattle.sgx_rules.specs.declared.entries.Answer.{Answer}
use Rattle.sgx_rules.specs.declared.entries.Answer.TheVariants as answers
use Rattle.sgx_rules.specs.declared.entries.Entry.{Entry}
use Rattle.sgx_rules.specs.declared.entries.Event.TheVariants.{Did, Refused}
use Rattle.sgx_rules.specs.declared.refusals.Refusal.TheVariants as why
use Rattle.trace_places.specs.declared.moves.Where.{Where}
use Rattle.trace_places.specs.declared.moves.Where.TheVariants.{Nowhere, At, Loading, Sealed}
use Rattle.trace_places.specs.Places.{place_of}
use Rattle.trace_query.specs.declared.page_moves.Move.{Move}
use Rattle.trace_query.specs.Moves.{first_entries, moves}
use Rattle.trace_query.specs.Spans.{cachers}

abbrev frame : ℕ → Frame
frame n = record { 0 = n }

abbrev did : Action → Answer → Entry
did action answer = record { actor = Reclaimer; event = Did action answer }

abbrev two : Page
two = page_at 1 2

-- page 2 of enclave 1 is added, goes out, and comes back at the second try; an instruction in between moves nothing
abbrev entries : List Entry
entries =
    did (actions.Eld (frame 3)) (answers.Moved two 7 [])
    ∷ did (actions.EldStart (frame 3) two (record { frame = frame 0; index = 0 })) (answers.Version 7)
    ∷ record { actor = Reclaimer; event = Refused (actions.Eld (frame 3)) (why.MacFail [] []) }
    ∷ did (actions.EldStart (frame 3) two (record { frame = frame 0; index = 0 })) (answers.Version 7)
    ∷ did (actions.Ewb (frame 4)) (answers.Moved two 7 [])
    ∷ did (actions.Block (frame 4)) answers.Plain
    ∷ did (actions.Add 1 2 (frame 4) kinds.Reg (record { r = true; w = true; x = false }) (inits.Words 7)) answers.Plain
    ∷ []

abbrev to : ℕ → Where → Move
to place there = record { place = place; to = there }

moves_of_two : moves entries two
    ≡ to 1 (At (frame 4)) ∷ to 3 (Sealed 7) ∷ to 4 (Loading (frame 3)) ∷ to 5 (Sealed 7)
    ∷ to 6 (Loading (frame 3)) ∷ to 7 (At (frame 3)) ∷ []
moves_of_two = refl

none_of_three : moves entries (page_at 1 3) ≡ []
none_of_three = refl

first_three : length (first_entries 3 entries) ≡ 3
first_three = refl

before_all : place_of (first_entries 0 entries) two ≡ Nowhere
before_all = refl

behind_two : place_of (first_entries 2 entries) two ≡ At (frame 4)
behind_two = refl

behind_three : place_of (first_entries 3 entries) two ≡ Sealed 7
behind_three = refl

behind_all : place_of (first_entries 7 entries) two ≡ At (frame 3)
behind_all = refl

-- ---- the trace of a whole run

abbrev read_write : Perm
read_write = record { r = true; w = true; x = false }

abbrev built : Action → Answer → Entry
built action answer = record { actor = Builder; event = Did action answer }

abbrev ran : Action → Answer → Entry
ran action answer = record { actor = Cpu (record { 0 = 0 }); event = Did action answer }

-- an enclave of three pages is built, and processor 0 enters it, loads a word, and leaves
abbrev run : List Entry
run =
    ran actions.Exit answers.Plain
    ∷ ran (actions.Load 0x2000) (answers.Value 7)
    ∷ ran (actions.Fill 2 (frame 4)) answers.Plain
    ∷ ran (actions.Enter 1 0 (frame 2) (frame 3)) (answers.Cssa 0)
    ∷ built (actions.Init 1 None) (answers.Hash [])
    ∷ built (actions.Add 1 2 (frame 4) kinds.Reg read_write (inits.Words 7)) answers.Plain
    ∷ built (actions.Add 1 1 (frame 3) kinds.Reg read_write (inits.Words 0)) answers.Plain
    ∷ built (actions.Add 1 0 (frame 2) kinds.Tcs no_perm (inits.Tcs 1 1)) answers.Plain
    ∷ built (actions.Create 1 (frame 1) 0x10000 0x10000) answers.Plain
    ∷ built (actions.Epa (frame 0)) (answers.Va 0)
    ∷ []

run_moves : moves run two ≡ to 5 (At (frame 4)) ∷ []
run_moves = refl

at_nine : place_of (first_entries 9 run) two ≡ At (frame 4)
at_nine = refl

cached_at_nine : cachers (first_entries 9 run) two ≡ record { 0 = 0 } ∷ []
cached_at_nine = refl

cached_at_ten : cachers (first_entries 10 run) two ≡ []
cached_at_ten = refl

word_at_nine : word (first_entries 9 run) two 0 ≡ Some 7
unfolding lib.Count.ones
word_at_nine = refl

word_at_first : word (first_entries 0 run) two 0 ≡ None
word_at_first = refl
