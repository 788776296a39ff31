-- What an auditor keeps between two entries of a trace, and what it says of the next one.
use Rattle.std.specs.Prelude.{◌≡◌, ◌<◌, ◌^◌, true, List, ◌∷◌, Option, None, Some, length}
use Rattle.sgx_rules.specs.declared.entries.Action.{Action}
use Rattle.sgx_rules.specs.declared.entries.Entry.{Entry}
use Rattle.sgx_types.specs.declared.names.Frame.{Frame}
use Rattle.sgx_rules.specs.Starts.{open_start}
use Rattle.sgx_rules.specs.inner.Starts.{bare_start}
use Rattle.cached_translations.specs.declared.processor.Mode.{Mode}
use Rattle.seal_record.specs.inner.Sealing.{made_by}
use Rattle.job_grammar.specs.Jobs.{JobView}
use Rattle.script_rules.specs.Machines.{machine_of}
use Rattle.script_rules.specs.Script.{action_of}
use Rattle.machine_laws.specs.inner.Histories.{StandsWithAllRules}
use Rattle.machine_laws.specs.inner.Steps.{IsStep}
use Rattle.sgx_machine.specs.declared.starts.Start as starts
use Rattle.sgx_machine.specs.inner.Parts.{Parts, start_of, state_of}
use Rattle.history_rules.specs.declared.rules.Rule.{Rule}
use Rattle.history_rules.specs.Histories.{FailsHere}
use Rattle.history_rules.specs.inner.Histories.{GoesOn}
use Rattle.due_notes.specs.inner.Arrays.{KeepsKeeper}
use Rattle.due_notes.specs.inner.Plain.{is_plain}
use Rattle.due_tables.specs.inner.Entries.{EntersApart}
use Rattle.due_tables.specs.inner.Holding.{mode_of}
use Rattle.audit_tables.specs.inner.Shown.{ShowsTrace}
use Rattle.audit_machine.specs.inner.Kept.{KeepsRecords, records_of}
use Rattle.audit_tables.specs.inner.Followed.{frame_begun, frame_ended}
use Rattle.driver_pass.specs.inner.Noted.{gone_by}
use Rattle.driver_pass.specs.inner.Standing.{StandsAt}
use Rattle.driver_pass.specs.inner.Viewed.{PassView}
use Rattle.audit_trace.specs.declared.auditing.Auditing.{Auditing}

-- each part stands for the entries so far, which keep each rule
pub record KeepsAudit (j : JobView) (past : List Entry) (a : Auditing) : Type 0 where
  pub trace : ShowsTrace j past a.driver a.machine a.turns
  -- the keeper of the slots has room for the version array pages that are still to be made
  pub arrays : KeepsKeeper j a.driver.slots past
  -- the reclaimer's pass is as far as the entries are
  pub pass : StandsAt j.start_epoch j past a.pass
  -- each page that is outside has the record with which it went out last
  pub records : KeepsRecords j.key past (records_of a.records)

pub record IsAuditing (j : JobView) (a : Auditing) : Type 0 where
  pub past : List Entry
  pub keeps : KeepsAudit j past a
  pub few : length past < 2 ^ 63

-- ---- the next entry

-- the entry keeps each rule, and all stands for the longer list; or it breaks this rule first
abbrev pub IsJudged : JobView → List Entry → Entry → Auditing → Option Rule → Type 0
IsJudged j past e new None = KeepsAudit j (e ∷ past) new
IsJudged j past e new (Some rule) = FailsHere j past (Some e) rule

-- the machine stands in all for the entries with this one, which is its own
pub record IsTaken (j : JobView) (past : List Entry) (old : Parts) (e : Entry) (new : Parts) : Type 0 where
  pub stands : StandsWithAllRules (machine_of j) (state_of new) (e ∷ past) (made_by j.key (e ∷ past))
  pub cpus : length new.cpus ≡ length old.cpus
  pub step : (action : Action) → action_of e.event ≡ Some action → is_plain action ≡ true
      → IsStep (state_of old) e.actor action e (state_of new)
  -- who enters names two frames
  pub enters : EntersApart e.event

-- ---- an entry that keeps each rule

-- machine, pass and records have gone on with it, and the tables stand before it still
pub record CanFollow (j : JobView) (a : Auditing) (before : Mode) (start : Option starts.Start) (e : Entry) : Type 0 where
  pub past : List Entry
  -- the machine and the pass before it
  pub m : Parts
  pub v : PassView
  pub trace : ShowsTrace j past a.driver m a.turns
  pub arrays : KeepsKeeper j a.driver.slots past
  pub taken : IsTaken j past m e a.machine
  pub pass : StandsAt j.start_epoch j past v
  pub gone : a.pass ≡ gone_by a.driver m e.actor e.event v
  pub goes_on : GoesOn j (e ∷ past)
  pub records : KeepsRecords j.key (e ∷ past) (records_of a.records)
  pub stood : before ≡ mode_of m e.actor
  pub ended : (f : Frame) → frame_ended e.event ≡ Some f → start_of start ≡ bare_start (open_start past f.0)
  pub begun : (f : Frame) → frame_begun e.event ≡ Some f → start_of start ≡ bare_start (open_start (e ∷ past) f.0)
  pub few : length past < 2 ^ 63
