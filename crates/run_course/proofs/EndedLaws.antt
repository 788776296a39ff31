-- Who was ended, behind an entry that refuses no load's end.
use Rattle.std.proofs.Common.{◌≡◌, ℕ, Bool, true, false, if◌then◌else◌, List, ◌∷◌, Option, sym, ap}
use Rattle.std.proofs.lemmas.Bool.{false≢true}
use Rattle.sgx_rules.specs.declared.entries.Action.TheVariants.{Eld, EldStart}
use Rattle.sgx_rules.specs.declared.entries.BusWhy.{BusWhy}
use Rattle.sgx_rules.specs.declared.entries.Entry.{Entry}
use Rattle.sgx_rules.specs.declared.entries.Event.{Event}
use Rattle.sgx_rules.specs.declared.entries.Event.TheVariants.{Bus, Did, Refused}
use Rattle.sgx_types.specs.declared.names.Page.{Page}
use Rattle.sgx_rules.specs.Processors.{is_by}
use Rattle.sgx_rules.specs.Starts.{Start, open_start}
use Rattle.driver_rules.specs.Turns.{Fails, Last, last_by, last_of}
use Rattle.due_tables.specs.inner.Ending.{EndsAreTold, IsForRecord, NoneFails}
use Rattle.due_tables.proofs.EndLaws.{ends_go_on}

-- a load, or the start of one, that was refused
abbrev pub is_failed : Event → Bool
is_failed (Refused (Eld f) refusal) = true
is_failed (Refused (EldStart f page slot) refusal) = true
is_failed event = false

-- no other entry is one of which a reason has still to be told
pub for_record : (past : List Entry) (event : Event) → is_failed event ≡ false → IsForRecord past event
for_record past (Refused (Eld f) refusal) h = absurd (false≢true (sym h))
for_record past (Refused (EldStart f page slot) refusal) h = absurd (false≢true (sym h))
for_record past event h = tt

abbrev is_fails : Last → Bool
is_fails (Fails page why) = true
is_fails last = false

fails_none : (event : Event) (opened : ℕ → Option Start) (page : Page) (why : BusWhy) → is_failed event ≡ false
    → last_by event opened ≡ Fails page why → ⊥
fails_none (Did (EldStart f g slot) answer) opened page why h is = false≢true (ap is_fails is)
fails_none (Refused (Eld f) refusal) opened page why h is = false≢true (sym h)
fails_none (Refused (EldStart f g slot) refusal) opened page why h is = false≢true (sym h)
fails_none (Bus g reason) opened page why h is = false≢true (ap is_fails is)
fails_none event opened page why h is = false≢true (ap is_fails is)

-- .. and nobody fails by it
pub none_fail : (past : List Entry) (e : Entry) → is_failed e.event ≡ false → NoneFails past → NoneFails (e ∷ past)
none_fail past e h none p page why = by_own (is_by p e.actor)
  where
    by_own : (b : Bool) → (if b then last_by e.event (open_start past) else last_of past p) ≡ Fails page why → ⊥
    by_own true is = fails_none e.event (open_start past) page why h is
    by_own false is = none p page why is

pub ends_told : (past : List Entry) (e : Entry) → is_failed e.event ≡ false → EndsAreTold past → EndsAreTold (e ∷ past)
ends_told past e h ends = ends_go_on past e (for_record past e.event h) ends
