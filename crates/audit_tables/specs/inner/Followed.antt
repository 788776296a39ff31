-- When the driver's tables can follow an entry of a trace, and what is so of them then.
use Rattle.std.specs.Prelude.{◌≡◌, true, List, ◌∷◌, Option, None, Some}
use Rattle.sgx_rules.specs.declared.entries.Action.{Action}
use Rattle.sgx_rules.specs.declared.entries.Action.TheVariants.{EwbStart, Ewb, EldStart, Eld}
use Rattle.sgx_rules.specs.declared.entries.Entry.{Entry}
use Rattle.sgx_rules.specs.declared.entries.Event.{Event}
use Rattle.sgx_rules.specs.declared.entries.Event.TheVariants.{Did, Refused}
use Rattle.sgx_types.specs.declared.names.Frame.{Frame}
use Rattle.sgx_rules.specs.Starts.{open_start}
use Rattle.sgx_rules.specs.inner.Starts.{bare_start}
use Rattle.cached_translations.specs.declared.processor.Mode.{Mode}
use Rattle.job_grammar.specs.Jobs.{JobView}
use Rattle.script_rules.specs.Script.{action_of}
use Rattle.machine_laws.specs.inner.Steps.{IsStep}
use Rattle.sgx_machine.specs.declared.starts.Start as starts
use Rattle.sgx_machine.specs.inner.Parts.{Parts, start_of, state_of}
use Rattle.driver_laws.specs.inner.Agrees.{auditors}
use Rattle.driver_tables.specs.declared.driver.Driver.{Driver}
use Rattle.driver_tables.specs.inner.Tables.{ShowsTables}
use Rattle.history_rules.specs.inner.Histories.{GoesOn}
use Rattle.due_tables.specs.declared.turns.Turns.{Turns}
use Rattle.due_tables.specs.inner.Holding.{mode_of}
use Rattle.due_notes.specs.inner.Arrays.{KeepsKeeper}
use Rattle.due_notes.specs.inner.Plain.{is_plain}
use Rattle.audit_tables.specs.inner.Shown.{ShowsTrace}

-- the frame of the start that an event ends
abbrev pub frame_ended : Event → Option Frame
frame_ended (Did (Ewb f) answer) = Some f
frame_ended (Did (Eld f) answer) = Some f
frame_ended (Refused (Eld f) refusal) = Some f
frame_ended event = None

-- .. and that of the start that it opens
abbrev pub frame_begun : Event → Option Frame
frame_begun (Did (EwbStart f at) answer) = Some f
frame_begun (Did (EldStart f page at) answer) = Some f
frame_begun event = None

-- an entry of a trace which keeps each rule with it. Before it the tables showed the trace; `start` is the open start that it ends, or that
-- it has opened
pub record TablesCanFollow (t : Turns) (d : Driver) (before : Mode) (start : Option starts.Start) (e : Entry) : Type 0 where
  pub j : JobView
  pub past : List Entry
  -- the machine before it and behind it
  pub m : Parts
  pub m' : Parts
  pub trace : ShowsTrace j past d m t
  pub arrays : KeepsKeeper j d.slots past
  pub goes_on : GoesOn j (e ∷ past)
  -- the machine made it, where it is an instruction that moves no page
  pub step : (action : Action) → action_of e.event ≡ Some action → is_plain action ≡ true
      → IsStep (state_of m) e.actor action e (state_of m')
  pub stood : before ≡ mode_of m e.actor
  pub ended : (f : Frame) → frame_ended e.event ≡ Some f → start_of start ≡ bare_start (open_start past f.0)
  pub begun : (f : Frame) → frame_begun e.event ≡ Some f → start_of start ≡ bare_start (open_start (e ∷ past) f.0)

-- the tables behind the entry
pub record IsFollowed (j : JobView) (past : List Entry) (old : Driver) (e : Entry) (new : Driver) : Type 0 where
  -- they show it
  pub shows : ShowsTables auditors j new (e ∷ past)
  -- who holds which pages is as before
  pub own : new.active.own ≡ old.active.own
  pub arrays : KeepsKeeper j new.slots (e ∷ past)
