-- How a command ends.
use Rattle.std.specs.Prelude.{ℕ, ◌≡◌, List}
use Rattle.command_words.specs.declared.command.Command.{Command}
use Rattle.command_words.specs.declared.command.Command.TheVariants as commands
use Rattle.io_edges.specs.Faults.{HasRisen}
use Rattle.run_jobs.specs.declared.ends.End.{End}
use Rattle.run_jobs.specs.declared.ends.End.TheVariants as ends
use Rattle.page_commands.specs.declared.status.Status.{Status}
use Rattle.page_commands.specs.declared.status.Status.TheVariants as statuses
use Rattle.page_commands.specs.Runs.{HasJob}

-- no fault was counted
abbrev pub NoFault : ℕ → ℕ → Type 0
NoFault old new = HasRisen old new → ⊥

-- no job is run
abbrev pub RunsNone : Command → Type 0
RunsNone commands.Run = ⊥
RunsNone (commands.Demo number size) = ⊥
RunsNone command = Unit {0}

-- a job is read
abbrev pub ReadsJob : Command → Type 0
ReadsJob commands.Run = Unit {0}
ReadsJob (commands.Tell telling) = Unit {0}
ReadsJob command = ⊥

-- an old trace is read only to be shown, or behind a job
abbrev pub MayReadOld : Command → List ℕ → Type 0
MayReadOld (commands.Tell telling) bytes = HasJob bytes
MayReadOld (commands.Show showing) bytes = Unit {0}
MayReadOld command bytes = ⊥

-- the status of a run whose texts were given
abbrev pub status_of : End → Status
status_of ends.Done = statuses.Done
status_of ends.Bus = statuses.Bus
status_of ends.Spent = statuses.Spent

-- some run ended so
abbrev pub HasEnded : Status → Type 0
HasEnded status = (end : End) × (status ≡ status_of end)

-- a fault or want of memory, which may come in the place of any other ending
abbrev pub MayStandIn : Status → Type 0
MayStandIn statuses.ReadFault = Unit {0}
MayStandIn statuses.WriteFault = Unit {0}
MayStandIn statuses.Memory = Unit {0}
MayStandIn _ = ⊥

-- how `run` may end
abbrev pub IsRunEnd : Status → Type 0
IsRunEnd statuses.BadWords = ⊥
IsRunEnd statuses.BadTrace = ⊥
IsRunEnd statuses.AuditNo = ⊥
IsRunEnd status = Unit {0}

-- .. and `demo`
abbrev pub IsDemoEnd : Status → Type 0
IsDemoEnd statuses.BadJob = ⊥
IsDemoEnd statuses.ReadFault = ⊥
IsDemoEnd status = IsRunEnd status
