-- The numbers of the statuses, and how commands end inside.
use Rattle.std.specs.Prelude.{ℕ, ◌≡◌, List, Option}
use Rattle.io_edges.specs.Sinks.{followed_by, GivesPart}
use Rattle.run_jobs.specs.declared.ends.End.{End}
use Rattle.page_commands.specs.declared.status.Status.{Status}
use Rattle.page_commands.specs.declared.status.Status.TheVariants as statuses
use Rattle.page_commands.specs.Commands.{MayStandIn, status_of}

-- the exit status of the program
abbrev pub number_of : Status → ℕ
number_of statuses.Done = 0
number_of statuses.BadJob = 1
number_of statuses.BadWords = 2
number_of statuses.ReadFault = 3
number_of statuses.WriteFault = 4
number_of statuses.Memory = 5
number_of statuses.AuditNo = 6
number_of statuses.Bus = 7
number_of statuses.BadTrace = 8
number_of statuses.Spent = 9

-- a run that ended so: its status, where its texts were given, and else a fault or want of memory
abbrev pub IsGiven : End → Status → Type 0 → Type 0
IsGiven end statuses.WriteFault Given = Unit {0}
IsGiven end statuses.Memory Given = Unit {0}
IsGiven end status Given = (status ≡ status_of end) × Given

-- a sink got this text, or a proper front of it, or nothing
abbrev pub IsTextGiven : List ℕ → Status → Option (List ℕ) → Option (List ℕ) → Type 0
IsTextGiven text statuses.Done out out' = out' ≡ followed_by out text
IsTextGiven text statuses.WriteFault out out' = GivesPart out out' text
IsTextGiven text statuses.Memory out out' = out' ≡ out
IsTextGiven text status out out' = ⊥

-- how a command may end that has read no job
abbrev pub IsUnrun : Status → Type 0
IsUnrun statuses.BadJob = Unit {0}
IsUnrun status = MayStandIn status
