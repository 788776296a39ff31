-- What a run's write-outs made and what its reloads were given, by its entries and calls, and what is supposed of them.
use Rattle.std.specs.Prelude.{ℕ, ◌==◌, if◌then◌else◌, List, [], ◌∷◌, ◌++◌, Option, Some, None, length}
use Rattle.sgx_rules.specs.declared.entries.Action.TheVariants.{Ewb, EldStart, Eld}
use Rattle.sgx_rules.specs.declared.entries.Answer.TheVariants.{Moved}
use Rattle.sgx_rules.specs.declared.entries.Entry.{Entry}
use Rattle.sgx_rules.specs.declared.entries.Event.{Event}
use Rattle.sgx_rules.specs.declared.entries.Event.TheVariants.{Did, Refused}
use Rattle.sgx_types.specs.Sealed.{Sealed}
use Rattle.sgx_rules.specs.Starts.{Start, open_start}
use Rattle.seal_record.specs.Records.{Given as GivenRecord, Made, Unforged}
use Rattle.seal_record.specs.Sealing.{made_with}
use Rattle.backing_store.specs.Calls.{Call, Given, Got, Put}
use Rattle.history_rules.specs.Calls.{before}

-- ---- made

-- the record that a write-out puts, with the version that it tells. What an entry adds stands behind `++`, also where it is nothing
abbrev pub made_more : Event → List Call → List Made
made_more (Did (Ewb f) (Moved page version tag)) (Put g rec failed ∷ calls) = made_with version rec ∷ []
made_more _ calls = []

-- the records that the done write-outs put, each with its version, in order
abbrev pub made_in : List Entry → List Call → List Made
made_in [] calls = []
made_in (e ∷ past) calls = made_in past (before e.event calls) ++ made_more e.event calls

-- ---- given

-- the record that was got last
abbrev pub got_last : List Call → Option Sealed
got_last (Got page (Given rec) ∷ calls) = Some rec
got_last _ = None

abbrev pub gift_after : Event → List Call → ℕ → Option Sealed → Option Sealed
gift_after (Did (EldStart f page slot) answer) calls n was = if f.0 == n then got_last calls else was
gift_after (Did (Eld f) answer) calls n was = if f.0 == n then None else was
gift_after (Refused (Eld f) why) calls n was = if f.0 == n then None else was
gift_after _ calls n was = was

-- the record that was given for the open start of a load into a frame
abbrev pub gift : List Entry → List Call → ℕ → Option Sealed
gift [] calls n = None
gift (e ∷ past) calls n = gift_after e.event calls n (gift past (before e.event calls) n)

-- a record that the end of a load looks at, under the version that its start found, with how many records were made before
abbrev pub record_looked_at : Option Start → List Made → Option Sealed → List GivenRecord
record_looked_at (Some start) made (Some rec) =
    record { made = length made; version = start.version; header = rec.header; cipher = rec.cipher; tag = rec.tag } ∷ []
record_looked_at _ made _ = []

abbrev pub given_more : Event → (ℕ → Option Start) → List Made → (ℕ → Option Sealed) → List GivenRecord
given_more (Did (Eld f) answer) opened made gifts = record_looked_at (opened f.0) made (gifts f.0)
given_more (Refused (Eld f) why) opened made gifts = record_looked_at (opened f.0) made (gifts f.0)
given_more _ opened made gifts = []

-- the records that the ends of loads looked at, in order
abbrev pub given_in : List Entry → List Call → List GivenRecord
given_in [] calls = []
given_in (e ∷ past) calls =
    given_in past (before e.event calls)
    ++ given_more e.event (open_start past) (made_in past (before e.event calls)) (gift past (before e.event calls))

-- ---- the premise on a run

-- no record of the run was forged, and no two of its records share a tag
abbrev pub UnforgedRun : List ℕ → List Entry → List Call → Type 0
UnforgedRun key past calls = Unforged key (made_in past calls) (given_in past calls)
