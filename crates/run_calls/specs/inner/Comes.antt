-- That an entry comes with the last call of a store.
use Rattle.std.specs.Prelude.{◌≡◌, List, Option, None, Some}
use Rattle.sgx_types.specs.declared.names.Actor.TheVariants as actors
use Rattle.sgx_rules.specs.declared.entries.BusWhy.{BusWhy}
use Rattle.sgx_rules.specs.declared.entries.BusWhy.TheVariants as reasons
use Rattle.sgx_rules.specs.declared.entries.Entry.{Entry}
use Rattle.sgx_rules.specs.declared.entries.Event.TheVariants.{Bus}
use Rattle.sgx_types.specs.declared.names.Cpu.{Cpu}
use Rattle.sgx_types.specs.declared.names.Page.{Page}
use Rattle.backing_store.specs.Calls.{Call}
use Rattle.run_calls.specs.inner.Stores.{StoreMoves}
use Rattle.driver_tables.specs.declared.driver.Driver.{Driver}
use Rattle.driver_faults.specs.declared.answers.FaultAnswer.{FaultAnswer}
use Rattle.driver_faults.specs.declared.answers.FaultAnswer.TheVariants as answers
use Rattle.driver_faults.specs.declared.answers.Loaded.{Loaded}
use Rattle.driver_faults.specs.declared.answers.Loaded.TheVariants as ends
use Rattle.driver_reclaim.specs.declared.turns.PassTurn.{PassTurn}
use Rattle.driver_reclaim.specs.declared.turns.PassTurn.TheVariants as turns
use Rattle.history_rules.specs.Calls.{ComesWith, before}

-- behind an entry the calls are these: the last is the one that it comes with, those before it were there, and the tables move with it
pub record Comes (e : Entry) (calls longer : List Call) (d d' : Driver) : Type 0 where
  pub comes : ComesWith e.event longer
  pub earlier : before e.event longer ≡ calls
  pub moves : StoreMoves e longer d d'

-- nothing was asked, and nothing has changed
pub record IsNoCall (calls longer : List Call) (d d' : Driver) : Type 0 where
  pub calls_are : longer ≡ calls
  pub tables : d' ≡ d

-- a store that told its calls tells them
abbrev pub Tells : Option (List Call) → (List Call → Type 0) → Type 0
Tells None are = ⊥
Tells (Some calls) are = are calls

-- a bus of a processor
abbrev pub bus_of : Cpu → Page → BusWhy → Entry
bus_of cpu page why = record { actor = actors.Cpu cpu; event = Bus page why }

-- the answer for the page that is asked for; behind a refused start comes the bus that tells it
abbrev pub AnswerComes : Cpu → Page → FaultAnswer → List Call → List Call → Driver → Driver → Type 0
AnswerComes cpu page (answers.Started e work) calls longer d d' = Comes e calls longer d d'
AnswerComes cpu page (answers.Bus why) calls longer d d' = Comes (bus_of cpu page why) calls longer d d'
AnswerComes cpu page (answers.Slot e) calls longer d d' =
    Comes e calls longer d d' × Comes (bus_of cpu page reasons.Slot) longer longer d' d'
AnswerComes cpu page answer calls longer d d' = IsNoCall calls longer d d'

-- the end of a load, and where it was refused the bus behind it
abbrev pub EndComes : Cpu → Page → Loaded → List Call → Driver → Driver → Type 0
EndComes cpu page (ends.Here e) calls d d' = Comes e calls calls d d'
EndComes cpu page (ends.Bus e why) calls d d' = Comes e calls calls d d' × Comes (bus_of cpu page why) calls calls d' d'

-- a turn of a pass: its entry, or no call
abbrev pub TurnComes : PassTurn → List Call → List Call → Driver → Driver → Type 0
TurnComes (turns.One e) calls longer d d' = Comes e calls longer d d'
TurnComes (turns.Seal e) calls longer d d' = Comes e calls longer d d'
TurnComes (turns.Spent e) calls longer d d' = Comes e calls longer d d'
TurnComes turn calls longer d d' = IsNoCall calls longer d d'
