-- Which entries are readable: those that a trace's text tells, and its readers answer.
use Rattle.std.specs.Prelude.{◌≡◌, ◌<◌, Bool, true, false, List}
use Rattle.std.specs.List.{AllByRecursion}
use Rattle.sgx_rules.specs.declared.entries.Entry.{Entry}
use Rattle.sgx_rules.specs.declared.entries.Event.{Event}
use Rattle.sgx_rules.specs.declared.entries.Event.TheVariants as events
use Rattle.sgx_rules.specs.declared.entries.BusWhy.{BusWhy}
use Rattle.sgx_rules.specs.declared.entries.BusWhy.TheVariants as stops
use Rattle.sgx_types.specs.declared.names.Actor.{Actor}
use Rattle.sgx_types.specs.declared.names.Actor.TheVariants as actors
use Rattle.trace_text.specs.declared.edition.Edition.{Edition}
use Rattle.trace_text.specs.declared.edition.Edition.TheVariants as editions
use Rattle.trace_text.specs.Fields.{AllFit, answer_form, event_fields, form_of}

abbrev pub FitsActor : Actor → Type 0
FitsActor (actors.Cpu p) = p.0 < 16
FitsActor actor = Unit {0}

-- the first edition has no word for a slot without a version
abbrev pub IsKnown : Edition → BusWhy → Type 0
IsKnown edition stops.Slot = edition ≡ editions.Two
IsKnown edition stop = Unit {0}

-- a done instruction has an answer of its form
abbrev pub IsTold : Edition → Event → Type 0
IsTold edition (events.Did action answer) = answer_form answer ≡ form_of edition action
IsTold edition (events.Bus page stop) = IsKnown edition stop
IsTold edition event = Unit {0}

-- looks and kicks are the reclaimer's, and a page stops a processor
abbrev pub may_make : Actor → Event → Bool
may_make actors.Reclaimer (events.Age page look) = true
may_make actor (events.Age page look) = false
may_make actors.Reclaimer (events.Kick cpu) = true
may_make actor (events.Kick cpu) = false
may_make (actors.Cpu p) (events.Bus page stop) = true
may_make actor (events.Bus page stop) = false
may_make actor event = true

pub record IsReadable (edition : Edition) (e : Entry) : Type 0 where
  pub actor : FitsActor e.actor
  pub event : AllFit (event_fields e.event)
  pub told : IsTold edition e.event
  pub own : may_make e.actor e.event ≡ true

abbrev pub AreReadable : Edition → List Entry → Type 0
AreReadable edition entries = AllByRecursion (IsReadable edition) entries
