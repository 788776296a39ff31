-- The blocks byte by byte, the log of a small build, and what its `init` may answer.
use Rattle.std.proofs.Common.{◌≡◌, ℕ, true, false, List, [], ◌∷◌, ◌++◌, replicate, ◌==◌, Some, None, refl, ap}
use Rattle.std.specs.Prelude.{if◌then◌else◌, take, length}
use Rattle.std.specs.List.{flat_map}
use Rattle.std.specs.Int.{w64, to_le_bytes}
use Rattle.sgx_rules.specs.declared.entries.Entry.{Entry}
use Rattle.sgx_types.specs.declared.names.Actor.TheVariants.{Builder}
use Rattle.sgx_rules.specs.declared.entries.Action.{Action}
use Rattle.sgx_rules.specs.declared.entries.Action.TheVariants.{Epa, Create, Add, Extend, Init}
use Rattle.sgx_rules.specs.declared.entries.Answer.TheVariants.{Plain, Hash}
use Rattle.sgx_rules.specs.declared.entries.Event.TheVariants.{Did, Refused}
use Rattle.sgx_types.specs.declared.lawful.PageInit.TheVariants.{Words}
use Rattle.sgx_rules.specs.declared.refusals.Refusal.TheVariants as why
use Rattle.sgx_types.specs.declared.names.Frame.{Frame}
use Rattle.sgx_types.specs.declared.names.Page.{Page}
use Rattle.sgx_types.specs.declared.names.Kind.TheVariants.{Reg}
use Rattle.sgx_types.specs.declared.names.Perm.{Perm}
use Rattle.sgx_rules.specs.Flat.{flat_bytes, flat, words_of}
use Rattle.measure_log.specs.Blocks.{ecreate_block, eadd_block, eextend_block, chunk_of}
use Rattle.measure_log.specs.Log.{log_of}
use Rattle.measure_log.specs.Rule.{log, measurement, MeasureRule}

-- ECREATE of an enclave of 65536 bytes
ecreate_worked : ecreate_block 0x10000 ≡ (0x45 ∷ 0x43 ∷ 0x52 ∷ 0x45 ∷ 0x41 ∷ 0x54 ∷ 0x45 ∷ 0 ∷ 1 ∷ 0 ∷ 0 ∷ 0 ∷ 0 ∷ 0 ∷ 1 ∷ 0 ∷ 0 ∷ 0 ∷ 0 ∷ 0
    ∷ []) ++ replicate 44 0
unfolding ecreate_block
ecreate_worked = refl

-- EADD of page 2 with R and W
eadd_worked : eadd_block 0x2000 0x203 ≡ (0x45 ∷ 0x41 ∷ 0x44 ∷ 0x44 ∷ 0 ∷ 0 ∷ 0 ∷ 0 ∷ 0 ∷ 0x20 ∷ 0 ∷ 0 ∷ 0 ∷ 0 ∷ 0 ∷ 0 ∷ 3 ∷ 2 ∷ 0 ∷ 0 ∷ 0
    ∷ 0 ∷ 0 ∷ 0 ∷ []) ++ replicate 40 0
unfolding eadd_block
eadd_worked = refl

-- EEXTEND of chunk 1 of page 2
eextend_worked : (chunk : List ℕ) → eextend_block 0x2100
    chunk ≡ (0x45 ∷ 0x45 ∷ 0x58 ∷ 0x54 ∷ 0x45 ∷ 0x4e ∷ 0x44 ∷ 0 ∷ 0 ∷ 0x21 ∷ 0 ∷ 0 ∷ 0 ∷ 0 ∷ 0 ∷ 0 ∷ []) ++ replicate 48 0 ++ chunk
unfolding eextend_block
eextend_worked chunk = refl

-- a build, newest first: a refused create, an extend of a frame without a page and another enclave's create go to no log of enclave 1
abbrev did : Action → Entry
did action = record { actor = Builder; event = Did action Plain }

abbrev refused : Action → Entry
refused action = record { actor = Builder; event = Refused action why.FrameBusy }

abbrev frame : ℕ → Frame
frame n = record { 0 = n }

abbrev page_two : Page
page_two = record { enclave = 1; number = 2 }

abbrev writable : Perm
writable = record { r = true; w = true; x = false }

abbrev built : List Entry
built =
    did (Extend (frame 5) 0) ∷ did (Add 2 3 (frame 4) Reg writable (Words 1)) ∷ did (Add 1 2 (frame 2) Reg writable (Words 7)) ∷ did
    (Create 2 (frame 3) 0x10000 0x2000)
    ∷ did (Create 1 (frame 1) 0x10000 0x10000) ∷ refused (Create 1 (frame 0) 0x10000 0x10000) ∷ did (Epa (frame 0)) ∷ []

abbrev build : List Entry
build = did (Extend (frame 2) 1) ∷ built

-- frame 2 holds page 2 of enclave 1, whose bytes are given
log_worked : (bytes : Page → List ℕ)
    → log_of (λ past f. if f == 2 then Some page_two else None) (λ past page. bytes page) build 1 ≡ ecreate_block 0x10000
    ++ eadd_block 0x2000 0x203 ++ eextend_block 0x2100 (chunk_of (bytes page_two) 1)
log_worked bytes = refl

-- by the entries: each word of page 2 is 7
abbrev page_bytes : List ℕ
page_bytes = flat_map (to_le_bytes w64) (replicate 512 7)

words_worked : words_of (flat built) page_two ≡ replicate 512 7
unfolding lib.Count.ones
words_worked = refl

bytes_worked : flat_bytes built page_two ≡ page_bytes
bytes_worked = ap (flat_map (to_le_bytes w64)) words_worked

first_bytes : take 9 page_bytes ≡ 7 ∷ 0 ∷ 0 ∷ 0 ∷ 0 ∷ 0 ∷ 0 ∷ 0 ∷ 7 ∷ []
first_bytes = refl

all_bytes : length page_bytes ≡ 4096
all_bytes = refl

entries_worked : log build 1 ≡ ecreate_block 0x10000 ++ eadd_block 0x2000 0x203 ++ eextend_block 0x2100 (chunk_of page_bytes 1)
entries_worked = ap (λ bytes. ecreate_block 0x10000 ++ eadd_block 0x2000 0x203 ++ eextend_block 0x2100 (chunk_of bytes 1)) bytes_worked

-- `init` answers the measurement, and no other digest
init_worked : MeasureRule build (record { actor = Builder; event = Did (Init 1 None) (Hash (measurement build 1)) })
init_worked = (refl, tt)

expected_worked : MeasureRule build (record {
  actor = Builder;
  event = Did (Init 1 (Some (measurement build 1))) (Hash (measurement build 1));
})
expected_worked = (refl, refl)

other_answer : (digest : List ℕ) → (digest ≡ measurement build 1 → ⊥)
    → MeasureRule build (record { actor = Builder; event = Did (Init 1 None) (Hash digest) }) → ⊥
other_answer digest other keeps = let is : Hash digest ≡ Hash (measurement build 1) = keeps.0 in other cc

-- it is not refused for its measurement where none is expected, nor where this one is
abbrev refused_for : List ℕ → Entry
refused_for expect = record { actor = Builder; event = Refused (Init 1 (Some expect)) (why.BadMeasure (measurement build 1)) }

unexpected : MeasureRule build (record { actor = Builder; event = Refused (Init 1 None) (why.BadMeasure (measurement build 1)) }) → ⊥
unexpected keeps = keeps.1

expected : MeasureRule build (refused_for (measurement build 1)) → ⊥
expected keeps = keeps.1 refl

differs : (wanted : List ℕ) → (wanted ≡ measurement build 1 → ⊥) → MeasureRule build (refused_for wanted)
differs wanted other = (refl, other)
