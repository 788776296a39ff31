-- A machine and the records that are kept stand for the entries so far, which keep the processor's rules; and what comes of the next one.
use Rattle.std.specs.Prelude.{ℕ, ◌≡◌, false, List, ◌∷◌, Option, None, Some, length}
use Rattle.sgx_rules.specs.declared.entries.Action.{Action}
use Rattle.sgx_rules.specs.declared.entries.Entry.{Entry}
use Rattle.sgx_types.specs.declared.names.Page.{Page}
use Rattle.sgx_rules.specs.inner.Starts.{BareStart}
use Rattle.seal_record.specs.inner.Sealing.{made_by}
use Rattle.job_grammar.specs.Jobs.{JobView}
use Rattle.script_rules.specs.Script.{action_of}
use Rattle.machine_laws.specs.inner.Histories.{StandsWithAllRules}
use Rattle.machine_laws.specs.inner.State.{State}
use Rattle.machine_laws.specs.inner.Steps.{IsStep}
use Rattle.sgx_machine.specs.inner.Parts.{Parts, state_of}
use Rattle.history_rules.specs.declared.rules.Rule.{Rule}
use Rattle.history_rules.specs.inner.Histories.{is_machines}
use Rattle.history_machine.specs.Histories.{FailsAmong}
use Rattle.audit_machine.specs.inner.Asked.{made_for}
use Rattle.audit_machine.specs.inner.Kept.{KeepsRecords, Records}
use Rattle.audit_check.specs.inner.Tests.{is_commit, is_outsiders}

-- all stands for these entries of a trace, on a machine of a job with so many processors
pub record Checked (j : JobView) (cpus : ℕ) (past : List Entry) (m : Parts) (kept : Records) : Type 0 where
  pub stands : StandsWithAllRules (made_for j cpus) (state_of m) past (made_by j.key past)
  pub records : KeepsRecords j.key past kept

-- .. for those of some trace
pub record CanCheck (m : Parts) (kept : Records) : Type 0 where
  pub j : JobView
  pub cpus : ℕ
  pub past : List Entry
  pub checked : Checked j cpus past m kept

-- ---- the next entry

-- it keeps the processor's rules, and all stands for the longer list. What its row decides the machine has made, but for what
-- processors alone may do and another did
pub record IsTakenWith (j : JobView) (cpus : ℕ) (past : List Entry) (m : Parts) (e : Entry) (t : Parts) (kept : Records) : Type 0 where
  pub checked : Checked j cpus (e ∷ past) t kept
  pub step : (action : Action) → action_of e.event ≡ Some action → is_commit action ≡ false
      → is_outsiders (length m.cpus) e.actor action ≡ false → IsStep (state_of m) e.actor action e (state_of t)

-- .. or it breaks this one of them first
abbrev pub IsAnswered : JobView → ℕ → List Entry → Parts → Entry → Parts → Records → Option Rule → Type 0
IsAnswered j cpus past m e t kept None = IsTakenWith j cpus past m e t kept
IsAnswered j cpus past m e t kept (Some rule) = FailsAmong is_machines j past (Some e) rule

-- ---- a load

-- a frame waits for a page, and its start found this version
pub record Loads (s : State) (n : ℕ) (page : Page) (version : ℕ) : Type 0 where
  pub start : BareStart
  pub opened : s.start n ≡ Some start
  pub loads : start.loads ≡ Some page
  pub found : start.version ≡ version
