-- The records that write-outs give, as a list that is computed from the entries.
use Rattle.std.specs.Prelude.{ℕ, List, [], ◌∷◌, ◌++◌, Option, Some, None}
use Rattle.sgx_rules.specs.declared.entries.Action.TheVariants.{Ewb}
use Rattle.sgx_rules.specs.declared.entries.Answer.TheVariants as answers
use Rattle.sgx_rules.specs.declared.entries.Entry.{Entry}
use Rattle.sgx_rules.specs.declared.entries.Event.{Event}
use Rattle.sgx_rules.specs.declared.entries.Event.TheVariants.{Did}
use Rattle.sgx_types.specs.Sealed.{Sealed}
use Rattle.seal_record.specs.Records.{Made}
use Rattle.seal_record.specs.Sealing.{record_at, made_with}

abbrev pub more_made : ℕ → Option Sealed → List Made → List Made
more_made version None before = before
more_made version (Some rec) before = before ++ made_with version rec ∷ []

abbrev pub made_after : List ℕ → Event → List Entry → List Made → List Made
made_after key (Did (Ewb f) (answers.Moved page version tag)) past before = more_made version (record_at key version past page) before
made_after key _ past before = before

-- the records of the done write-outs, in order: each is of the page's bytes there
abbrev pub made_by : List ℕ → List Entry → List Made
made_by key [] = []
made_by key (e ∷ past) = made_after key e.event past (made_by key past)
