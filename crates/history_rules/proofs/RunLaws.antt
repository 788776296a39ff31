-- What is supposed of a run, and what its calls are, is so of the run without its last entry.
use Rattle.std.proofs.Common.{◌≤◌, ℕ, List, [], ◌∷◌, ◌++◌, length, get_or, Option, Some, None, arith}
use Rattle.std.specs.List.{All}
use Rattle.std.proofs.lemmas.List.{length-append}
use Rattle.std.proofs.lemmas.List.Elements.{All-append, All-nil, All-push}
use Rattle.sgx_rules.specs.declared.entries.Action.TheVariants.{Eld}
use Rattle.sgx_rules.specs.declared.entries.Entry.{Entry}
use Rattle.sgx_rules.specs.declared.entries.Event.{Event}
use Rattle.sgx_rules.specs.declared.entries.Event.TheVariants.{Did, Refused}
use Rattle.sgx_types.specs.Sealed.{Sealed}
use Rattle.sgx_rules.specs.Starts.{Start, open_start}
use Rattle.seal_record.specs.Records.{Given as GivenRecord, Made}
use Rattle.seal_record.proofs.RecordLaws.{Unforged-before}
use Rattle.io_edges.specs.declared.plans.PlanLine.{PlanLine}
use Rattle.job_grammar.specs.Jobs.{JobView}
use Rattle.backing_store.specs.Calls.{Call}
use Rattle.history_rules.specs.Calls.{before}
use Rattle.history_rules.specs.Given.{UnforgedRun, gift, given_in, given_more, record_looked_at, made_in, made_more}
use Rattle.history_rules.specs.Stored.{StoreCalls, StoreTrue}

-- a given record tells a number of records, which had been made
abbrev TellsUpTo : List Made → GivenRecord → Type 0
TellsUpTo records one = one.made ≤ length records

looked_early : (start : Option Start) (records : List Made) (rec : Option Sealed)
    → All (TellsUpTo records) (record_looked_at start records rec)
looked_early None records rec = All-nil _
looked_early (Some start) records None = All-nil _
looked_early (Some start) records (Some rec) = All-push (TellsUpTo records) [] _ (All-nil _) (omega arith)

-- what an entry adds tells at most the records made before it
more_early : (event : Event) (opened : ℕ → Option Start) (records : List Made) (gifts : ℕ → Option Sealed)
    → All (TellsUpTo records) (given_more event opened records gifts)
more_early (Did (Eld f) answer) opened records gifts = looked_early (opened f.0) records (gifts f.0)
more_early (Refused (Eld f) why) opened records gifts = looked_early (opened f.0) records (gifts f.0)
more_early event opened records gifts = All-nil _

-- .. and still does when more are made
still_early : (records more : List Made) (given : List GivenRecord) → All (TellsUpTo records) given
    → All (TellsUpTo (records ++ more)) given
still_early records more given h =
    λ k d low. (let early : (get_or given k d).made ≤ length records = h k d low in omega (arith, length-append records more))

given_early : (past : List Entry) (calls : List Call) → All (TellsUpTo (made_in past calls)) (given_in past calls)
given_early [] calls = All-nil _
given_early (e ∷ past) calls =
    let up = before e.event calls in
    still_early (made_in past up) (made_more e.event calls) (given_in (e ∷ past) calls)
    (All-append (TellsUpTo (made_in past up)) (given_in past up) _ (given_early past up)
    (more_early e.event (open_start past) (made_in past up) (gift past up)))

pub unforged_before : (key : List ℕ) (e : Entry) (past : List Entry) (calls : List Call) → UnforgedRun key (e ∷ past) calls
    → UnforgedRun key past (before e.event calls)
unforged_before key e past calls whole =
    let up = before e.event calls in
    Unforged-before key (made_in past up) (made_more e.event calls) (given_in past up)
    (given_more e.event (open_start past) (made_in past up) (gift past up)) (given_early past up) whole

pub stored_before : (key : List ℕ) (e : Entry) (past : List Entry) (calls : List Call) → StoreCalls key (e ∷ past) calls
    → StoreCalls key past (before e.event calls)
stored_before key e past calls h = record { calls_are = h.calls_are.1; records = h.records.1 }

pub told_before : (j : JobView) (e : Entry) (past : List Entry) (plans : List PlanLine) (calls : List Call)
    → StoreTrue j (e ∷ past) plans (Some calls) → StoreTrue j past plans (Some (before e.event calls))
told_before j e past plans calls h = (h.0, stored_before j.key e past calls h.1)
