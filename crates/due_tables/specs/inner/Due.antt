-- What the answers say, and when the actors can be asked.
use Rattle.std.specs.Prelude.{ℕ, ◌≡◌, ◌+◌, ◌≤◌, if◌then◌else◌, true, List, Option, None, Some, length}
use Rattle.sgx_rules.specs.declared.entries.Action.{Action}
use Rattle.sgx_rules.specs.declared.entries.Action.TheVariants as actions
use Rattle.sgx_rules.specs.declared.entries.Entry.{Entry}
use Rattle.sgx_types.specs.declared.names.Page.{Page}
use Rattle.sgx_types.specs.Pages.{is_own_page}
use Rattle.sgx_rules.specs.Frames.{frame_of}
use Rattle.sgx_rules.specs.Processors.{stay}
use Rattle.job_grammar.specs.declared.jobs.PageLine.{PageLine}
use Rattle.job_grammar.specs.declared.jobs.PageLine.TheVariants as lines
use Rattle.job_grammar.specs.Jobs.{JobView, lines_at, tcs_line}
use Rattle.script_rules.specs.Script.{is_seated_at, saved_frames}
use Rattle.machine_laws.specs.inner.Columns.{HasColumns}
use Rattle.sgx_machine.specs.inner.Parts.{Parts, state_of}
use Rattle.driver_rules.specs.Dues.{Due, Ends, Finished, Makes, Reports, Stopped, Waits}
use Rattle.driver_rules.specs.Places.{Here, Leaving, Place, place}
use Rattle.driver_rules.specs.Turns.{fetches}
use Rattle.driver_laws.specs.inner.Agrees.{Keeping}
use Rattle.driver_laws.specs.inner.Counted.{AddsAreBuilt}
use Rattle.driver_laws.specs.inner.Sound.{IsSound}
use Rattle.driver_tables.specs.declared.driver.Driver.{Driver}
use Rattle.driver_tables.specs.inner.Tables.{ShowsTables}
use Rattle.due_tables.specs.declared.dues.BuilderDue.{BuilderDue}
use Rattle.due_tables.specs.declared.dues.BuilderDue.TheVariants as builders
use Rattle.due_tables.specs.declared.dues.CpuDue.{CpuDue}
use Rattle.due_tables.specs.declared.dues.CpuDue.TheVariants as dues
use Rattle.due_tables.specs.declared.steps.CpuStep.{CpuStep}
use Rattle.due_tables.specs.declared.steps.CpuStep.TheVariants as steps
use Rattle.due_tables.specs.declared.turns.Turns.{Turns}
use Rattle.due_tables.specs.inner.Shown.{ShowsTurns}

-- what is due to the builder, as the rules have it
abbrev pub building_in : BuilderDue → Due
building_in builders.Stopped = Stopped
building_in builders.Finished = Finished
building_in (builders.Waits why) = Waits why
building_in (builders.Makes action) = Makes action

-- the instruction that a processor makes by its step
abbrev pub made_by : CpuStep → Action
made_by (steps.Enter enclave tcs tf sf) = actions.Enter enclave tcs tf sf
made_by (steps.Resume enclave tcs tf sf) = actions.Resume enclave tcs tf sf
made_by steps.Exit = actions.Exit
made_by (steps.Aex cause) = actions.Aex cause
made_by (steps.Fill number f) = actions.Fill number f
made_by (steps.Load off) = actions.Load off
made_by (steps.Store off value) = actions.Store off value
made_by (steps.Xadd off value) = actions.Xadd off value
made_by (steps.Set value) = actions.Set value
made_by (steps.Plus value) = actions.Plus value
made_by (steps.Pf op off) = actions.Pf op off
made_by (steps.OutLoad enclave off) = actions.OutLoad enclave off
made_by (steps.OutStore enclave off value) = actions.OutStore enclave off value

-- what is due to a processor, as the rules have it. What comes of a page that is needed is said by where it is
abbrev pub due_in : JobView → List Entry → CpuDue → Due
due_in j past dues.Stopped = Stopped
due_in j past dues.Finished = Finished
due_in j past (dues.Waits why) = Waits why
due_in j past (dues.Ends f) = Ends (actions.Eld f)
due_in j past (dues.Makes step) = Makes (made_by step)
due_in j past (dues.Reports why page) = Reports page why
due_in j past (dues.Needs page) = fetches j.epc past page (place past page)

-- ---- state save pages

-- no more of them are in use than the line has
abbrev pub IsWithin : ℕ → Option PageLine → Type 0
IsWithin n (Some (lines.Tcs page ossa nssa plain)) = n ≤ nssa
IsWithin n _ = Unit {0}

-- how many are in use, with the one that a processor inside by the TCS page takes when it leaves
abbrev pub in_use : List Entry → ℕ → Page → ℕ
in_use past p g = if is_seated_at g (stay past p) then saved_frames past g + 1 else saved_frames past g

-- ---- the frame of a page

-- the frame in which a page stands: it is here, or on its way out
abbrev pub standing : Place → Option ℕ
standing (Here f) = Some f
standing (Leaving f) = Some f
standing _ = None

-- ---- what the entries of a driver keep

pub record IsOrderly (j : JobView) (past : List Entry) : Type 0 where
  -- a TCS or REG page is in the frame into which it was last put
  pub frames : (g : Page) → is_own_page g ≡ true → frame_of past g ≡ standing (place past g)
  -- no TCS page has more state save pages in use than it has, nor would have when a processor leaves by it
  pub room : (p : ℕ) (g : Page) → IsWithin (in_use past p g) (tcs_line (lines_at j.enclaves g.enclave) g.number)

-- ---- when the actors can be asked

-- the driver's tables and the machine show the entries, whichever slots are kept: a driver's tables do where it agrees with the machine,
-- and an auditor's do too
pub record IsShown (k : Keeping) (j : JobView) (past : List Entry) (d : Driver) (m : Parts) : Type 0 where
  pub columns : HasColumns (state_of m) past
  pub frames : (state_of m).frames ≡ j.epc
  pub cpus : length m.cpus ≡ d.cpus
  -- frames, places and list fit each other, and no more pages were added, or made, than the build has steps for
  pub sound : IsSound past
  pub built : AddsAreBuilt j past
  pub shows : ShowsTables k j d past

-- driver, machine and these tables stand for the same entries
pub record IsReady (j : JobView) (d : Driver) (m : Parts) (t : Turns) : Type 0 where
  pub keeping : Keeping
  pub past : List Entry
  pub shown : IsShown keeping j past d m
  pub shows : ShowsTurns j past t
