-- What is kept of each processor: its enclave, and the page numbers that it holds.
use Rattle.std.specs.Prelude.{ℕ, ◌+◌, ◌≤◌, ◌==◌, ◌||◌, Bool, false, nat_eq, nat_lt, if◌then◌else◌, List, [], ◌∷◌, ◌++◌, length}
use Rattle.std.specs.Prelude.{map, drop, IsSome, IsSomeAnd, Option, Some, None, vec_len, vec_capacity}
use Rattle.std.specs.HashMap.{get}
use Rattle.sgx_rules.specs.declared.entries.Entry.{Entry}
use Rattle.sgx_rules.specs.declared.entries.Event.{Event}
use Rattle.sgx_rules.specs.declared.entries.Event.TheVariants.{Did}
use Rattle.sgx_rules.specs.declared.entries.Action.TheVariants.{Enter, Resume, Exit, Aex, Fill}
use Rattle.sgx_types.specs.declared.names.Actor.{Actor}
use Rattle.sgx_types.specs.declared.names.Actor.TheVariants as actors
use Rattle.sgx_rules.specs.Processors.{Stay, stay, BareTranslation, translations}
use Rattle.trace_query.specs.declared.steps.Step.{Step}
use Rattle.trace_query.specs.declared.steps.Step.TheVariants.{Turns, Fills}
use Rattle.trace_query.specs.declared.processors.Filled.{Filled}
use Rattle.trace_query.specs.declared.processors.Processor.{Processor}
use Rattle.trace_query.specs.declared.processors.Processors.{Processors}

-- the enclave that a processor is inside, and the numbers that it holds there, oldest first
pub record Sight : Type 0 where
  pub enclave : Option ℕ
  pub numbers : List ℕ

abbrev pub outside : Sight
outside = record { enclave = None; numbers = [] }

abbrev pub sight_by : Option Stay → List BareTranslation → Sight
sight_by None held = outside
sight_by (Some here) held = record { enclave = Some here.seat.enclave; numbers = map (λ x. x.number) held }

abbrev pub sight : List Entry → ℕ → Sight
sight past p = sight_by (stay past p) (translations past p)

-- ---- one entry more

abbrev pub step_of : ℕ → Event → Option Step
step_of p (Did (Enter enclave tcs tf sf) answer) = Some (Turns p (Some enclave))
step_of p (Did (Resume enclave tcs tf sf) answer) = Some (Turns p (Some enclave))
step_of p (Did Exit answer) = Some (Turns p None)
step_of p (Did (Aex cause) answer) = Some (Turns p None)
step_of p (Did (Fill number f) answer) = Some (Fills p number)
step_of p event = None

-- what an entry is to the caches
abbrev pub step_by : Actor → Event → Option Step
step_by (actors.Cpu p) event = step_of p.0 event
step_by actor event = None

abbrev pub is_among : List ℕ → ℕ → Bool
is_among [] n = false
is_among (m ∷ ms) n = (m == n) || is_among ms n

-- at most 64 are held
abbrev pub newest : List ℕ → List ℕ
newest ns = if nat_lt 64 (length ns) then drop 1 ns else ns

abbrev pub first_of : List ℕ → Option ℕ
first_of [] = None
first_of (n ∷ ns) = Some n

-- the number that goes
abbrev pub dropped : List ℕ → Option ℕ
dropped ns = if nat_lt 64 (length ns) then first_of ns else None

abbrev pub filled_in : Option ℕ → List ℕ → ℕ → Option Filled
filled_in None ns n = None
filled_in (Some enclave) ns n =
    if is_among ns n then None else Some (record { enclave = enclave; dropped = dropped (ns ++ n ∷ []) })

-- what a fill changes, None where it changes nothing
abbrev pub filled : Sight → ℕ → Option Filled
filled s n = filled_in s.enclave s.numbers n

abbrev pub sight_with : Option Filled → ℕ → Sight → Sight
sight_with None n s = s
sight_with (Some change) n s = record { enclave = s.enclave; numbers = newest (s.numbers ++ n ∷ []) }

abbrev pub sight_filled : ℕ → Sight → Sight
sight_filled n s = sight_with (filled s n) n s

abbrev pub sight_after : Option Step → ℕ → Sight → Sight
sight_after None q s = s
sight_after (Some (Turns p to)) q s = if p == q then record { enclave = to; numbers = [] } else s
sight_after (Some (Fills p number)) q s = if p == q then sight_filled number s else s

-- ---- what is kept

abbrev pub sight_of : Option Processor → Sight
sight_of None = outside
sight_of (Some p) = record { enclave = p.enclave; numbers = p.numbers.items }

abbrev pub sight_in : Processors → ℕ → Sight
sight_in known p = sight_of (get nat_eq known.processors p)

-- there is a place for the processor
abbrev pub HasPlace : Processors → ℕ → Type 0
HasPlace known p = IsSome (get nat_eq known.processors p)

-- a number more needs no memory
abbrev pub HasRoomFor : Processors → ℕ → Type 0
HasRoomFor known p = IsSomeAnd (get nat_eq known.processors p) (λ x. vec_len x.numbers + 1 ≤ vec_capacity x.numbers)
