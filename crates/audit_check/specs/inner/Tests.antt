-- What is looked at to ask a machine for an entry.
use Rattle.std.specs.Prelude.{ℕ, ◌≡◌, ◌<◌, ◌≤◌, ◌⊎◌, ◌^◌, ◌&&◌, nat_lt, not, Bool, true, false, Option, None, Some, map}
use Rattle.sgx_rules.specs.declared.entries.Action.{Action}
use Rattle.sgx_rules.specs.declared.entries.Action.TheVariants.{Epa, Ewb, Eld}
use Rattle.sgx_types.specs.declared.names.Actor.{Actor}
use Rattle.sgx_types.specs.declared.names.Actor.TheVariants as actors
use Rattle.sgx_rules.specs.declared.entries.Answer.TheVariants.{Moved}
use Rattle.sgx_rules.specs.declared.entries.Event.{Event}
use Rattle.sgx_rules.specs.declared.entries.Event.TheVariants.{Did}
use Rattle.sgx_types.specs.declared.names.Page.{Page}
use Rattle.sgx_types.specs.Pages.{same_page}
use Rattle.machine_laws.specs.inner.State.{State}
use Rattle.machine_laws.specs.inner.Steps.{is_of_cpus}
use Rattle.sgx_machine.specs.declared.starts.Start as starts
use Rattle.audit_machine.specs.inner.Asked.{is_processor}

-- a processor of a machine with so many, or none of any machine
abbrev pub IsActor : ℕ → Actor → Type 0
IsActor cpus (actors.Cpu p) = (p.0 < cpus) ⊎ (16 ≤ p.0)
IsActor cpus _ = Unit {0}

-- an instruction of processors by who is none of them
abbrev pub is_outsiders : ℕ → Actor → Action → Bool
is_outsiders cpus actor action = is_of_cpus action && not (is_processor cpus actor)

-- one version array page more than can be numbered
abbrev pub is_epa : Action → Bool
is_epa (Epa f) = true
is_epa action = false

abbrev pub is_one_too_many : ℕ → Action → Bool
is_one_too_many made action = is_epa action && not (nat_lt made (2 ^ 32))

-- the end of a start
abbrev pub is_commit : Action → Bool
is_commit (Ewb f) = true
is_commit (Eld f) = true
is_commit action = false

-- the page that an event tells of as moved
abbrev pub page_moved : Event → Option Page
page_moved (Did action (Moved page version tag)) = Some page
page_moved event = None

-- it tells of this one
abbrev pub tells_page : Event → Page → Bool
tells_page (Did action (Moved moved version tag)) page = same_page moved page
tells_page event page = false

-- the page that a start loads, and the version that it found
abbrev pub load_of : Option starts.Start → Option (Page × ℕ)
load_of None = None
load_of (Some start) = map_load start.loads start.version
  where
    map_load : Option Page → ℕ → Option (Page × ℕ)
    map_load None version = None
    map_load (Some page) version = Some (page, version)
