-- Flat memory at a small script: entries and exits by one TCS page with two state save frames, and accesses.
use Rattle.std.proofs.Common.{◌≡◌, ℕ, ◌==◌, Bool, true, false, List, [], ◌∷◌, replicate, Option, Some, None, refl}
use Rattle.std.specs.Prelude.{if◌then◌else◌}
use Rattle.sgx_types.specs.declared.names.Actor.{Actor}
use Rattle.sgx_types.specs.declared.names.Actor.TheVariants.{Builder, Cpu}
use Rattle.sgx_rules.specs.declared.entries.Action.{Action}
use Rattle.sgx_rules.specs.declared.entries.Action.TheVariants as actions
use Rattle.sgx_rules.specs.declared.entries.Answer.{Answer}
use Rattle.sgx_rules.specs.declared.entries.Answer.TheVariants as answers
use Rattle.sgx_rules.specs.declared.entries.Cause.TheVariants as causes
use Rattle.sgx_rules.specs.declared.entries.AccessOp.TheVariants as accesses
use Rattle.sgx_rules.specs.declared.entries.PfWhy.TheVariants as faults
use Rattle.sgx_types.specs.declared.lawful.PageInit.TheVariants as inits
use Rattle.sgx_rules.specs.declared.refusals.Refusal.{Refusal}
use Rattle.sgx_rules.specs.declared.refusals.Refusal.TheVariants as why
use Rattle.sgx_types.specs.declared.names.Frame.{Frame}
use Rattle.sgx_types.specs.declared.names.Kind.TheVariants as kinds
use Rattle.sgx_types.specs.declared.names.Page.{Page}
use Rattle.sgx_types.specs.declared.names.Perm.{Perm}
use Rattle.sgx_types.specs.Pages.{same_page, page_at}
use Rattle.sgx_types.specs.Cases.{first_of_row}
use Rattle.sgx_rules.specs.Flat.{FlatMemory, FlatPage, fresh, first_words, flat_cpu_row, accepts, flat_answer, memory_after}

abbrev frame : ℕ → Frame
frame n = record { 0 = n }

abbrev cpu : ℕ → Actor
cpu p = Cpu (record { 0 = p })

abbrev perm : Bool → Bool → Perm
perm r w = record { r = r; w = w; x = false }

-- a TCS page 0 with the state save frames 1 and 2; page 3 of sevens can only be read
abbrev pages : Page → Option FlatPage
pages g =
    if same_page g (page_at 1 0) then Some (record { kind = kinds.Tcs; perm = perm false false; words = first_words (inits.Tcs 1 2) })
    else if same_page g (page_at 1 1) then Some (record { kind = kinds.Reg; perm = perm true true; words = replicate 512 0 })
    else if same_page g (page_at 1 2) then Some (record { kind = kinds.Reg; perm = perm true true; words = replicate 512 0 })
    else if same_page g (page_at 1 3) then Some (record { kind = kinds.Reg; perm = perm true false; words = replicate 512 7 })
    else None

abbrev built : FlatMemory
built = record fresh {
  enclaves = λ n. if n == 1 then Some (record { base = 0x10000; size = 0x10000; is_init = true }) else None;
  pages = pages;
}

abbrev enter : Action
enter = actions.Enter 1 0 (frame 2) (frame 3)

abbrev resume : Action
resume = actions.Resume 1 0 (frame 2) (frame 3)

-- the memory after what processor 0 does, from the first on
abbrev after : List Action → FlatMemory → FlatMemory
after [] m = m
after (action ∷ actions) m = after actions (memory_after (cpu 0) action m)

abbrev refusal : Action → FlatMemory → Option Refusal
refusal action m = first_of_row (flat_cpu_row m 0 action)

abbrev answer : Action → FlatMemory → Answer
answer action m = flat_answer m (cpu 0) action

abbrev timer : Action
timer = actions.Aex causes.Timer

-- enters, and is taken out by its timer, twice
abbrev twice : FlatMemory
twice = after (enter ∷ actions.Set 11 ∷ timer ∷ enter ∷ actions.Plus 1 ∷ timer ∷ []) built

first_entry : answer enter built ≡ answers.Cssa 0
first_entry = refl

second_entry : answer enter (after (enter ∷ actions.Set 11 ∷ timer ∷ []) built) ≡ answers.Cssa 1
second_entry = refl

-- the second entry began with CSSA in the accumulator
plus_answers : answer (actions.Plus 1) (after (enter ∷ actions.Set 11 ∷ timer ∷ enter ∷ []) built) ≡ answers.Value 2
plus_answers = refl

no_third_entry : refusal enter twice ≡ Some why.NoFrame
no_third_entry = refl

first_resumption : answer resume twice ≡ answers.Value 2
first_resumption = refl

second_resumption : answer resume (after (resume ∷ actions.Exit ∷ []) twice) ≡ answers.Value 11
second_resumption = refl

no_third_resumption : refusal resume (after (resume ∷ actions.Exit ∷ resume ∷ actions.Exit ∷ []) twice) ≡ Some why.NoSaved
no_third_resumption = refl

busy_while_inside : refusal enter (record (after (enter ∷ []) built) { cpus = fresh.cpus }) ≡ Some why.TcsBusy
busy_while_inside = refl

-- ---- accesses of processor 0 inside

abbrev inside : FlatMemory
inside = after (enter ∷ []) built

load_answers : answer (actions.Load 0x3008) inside ≡ answers.Value 7
load_answers = refl

-- the word at byte 8 of page 1, and its neighbour
stored_word : answer (actions.Load 0x1008) (after (actions.Store 0x1008 9 ∷ []) inside) ≡ answers.Value 9
stored_word = refl

neighbour : answer (actions.Load 0x1000) (after (actions.Store 0x1008 9 ∷ []) inside) ≡ answers.Value 0
neighbour = refl

-- an exchange answers the old word, and counts mod 2^64
xadd_answers : answer (actions.Xadd 0x1000 1) (after (actions.Xadd 0x1000 0xffffffffffffffff ∷ []) inside) ≡ answers.Value
    0xffffffffffffffff
xadd_answers = refl

xadd_wraps : answer (actions.Load 0x1000) (after (actions.Xadd 0x1000 0xffffffffffffffff ∷ actions.Xadd 0x1000 1 ∷ []) inside)
    ≡ answers.Value 0
xadd_wraps = refl

no_store : refusal (actions.Store 0x3000 1) inside ≡ Some why.NoPerm
no_store = refl

-- a page that was never added, and a TCS page
no_page : refusal (actions.Load 0x4000) inside ≡ Some why.Miss
no_page = refl

no_tcs : refusal (actions.Load 0x0) inside ≡ Some why.Miss
no_tcs = refl

-- why a reload cannot help
fault_of_store : answer (actions.Pf accesses.Store 0x3000) inside ≡ answers.Pf faults.NoPerm
fault_of_store = refl

fault_of_tcs : answer (actions.Pf accesses.Load 0) inside ≡ answers.Pf faults.WrongType
fault_of_tcs = refl

fault_of_absent : answer (actions.Pf accesses.Load 0x4000) inside ≡ answers.Pf faults.Absent
fault_of_absent = refl

no_fault : refusal (actions.Pf accesses.Load 0x3000) inside ≡ Some why.NoFault
no_fault = refl

-- outside, memory reads as ones, and nothing is kept
ones : answer (actions.OutLoad 1 0x3000) built ≡ answers.Value 0xffffffffffffffff
ones = refl

dropped : answer (actions.Load 0x1000) (after (actions.OutStore 1 0x1000 5 ∷ enter ∷ []) built) ≡ answers.Value 0
dropped = refl

no_outside_load_inside : refusal (actions.OutLoad 1 0x3000) inside ≡ Some why.WrongMode
no_outside_load_inside = refl

-- the saved word stands in the state save page, and is read there
saved_in_page : answer (actions.Load 0x1000) (after (enter ∷ actions.Set 11 ∷ timer ∷ enter ∷ []) built) ≡ answers.Value 11
saved_in_page = refl

no_other_actor : accepts inside Builder (actions.Load 0x3000) ≡ false
no_other_actor = refl
