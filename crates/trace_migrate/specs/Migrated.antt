-- The entries of a text of the first edition, as the second has them: the version array pages that were made have their numbers.
use Rattle.std.specs.Prelude.{ℕ, List, [], ◌∷◌}
use Rattle.sgx_rules.specs.declared.entries.Action.TheVariants.{Epa}
use Rattle.sgx_rules.specs.declared.entries.Answer.TheVariants as answers
use Rattle.sgx_rules.specs.declared.entries.Entry.{Entry}
use Rattle.sgx_rules.specs.declared.entries.Event.{Event}
use Rattle.sgx_rules.specs.declared.entries.Event.TheVariants.{Did}
use Rattle.sgx_rules.specs.Frames.{vas_made}

-- a done EPA answers how many pages were made before it
abbrev pub numbered_event : ℕ → Event → Event
numbered_event made (Did (Epa f) answer) = Did (Epa f) (answers.Va made)
numbered_event made event = event

-- entries that stand newest first
abbrev pub numbered_anew : List Entry → List Entry
numbered_anew [] = []
numbered_anew (e ∷ past) = record { actor = e.actor; event = numbered_event (vas_made past) e.event } ∷ numbered_anew past
