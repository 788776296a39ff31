-- The tally of a trace: how much there was to judge, which refusals stand in it, and where its driver was first refused what a right
-- driver never is. Entries stand newest first.
use Rattle.std.specs.Prelude.{ℕ, ◌+◌, ◌&&◌, Bool, false, bytes_eq, if◌then◌else◌, List, [], ◌∷◌, length, Option, Some, None}
use Rattle.sgx_rules.specs.declared.entries.Entry.{Entry}
use Rattle.sgx_rules.specs.declared.entries.Event.{Event}
use Rattle.sgx_rules.specs.declared.entries.Event.TheVariants.{Refused}
use Rattle.sgx_rules.specs.declared.entries.Action.{Action}
use Rattle.sgx_rules.specs.declared.refusals.Refusal.{Refusal}
use Rattle.text_words.specs.Words.{Words}
use Rattle.trace_text.specs.TraceText.{action_name, refusal_name}
use Rattle.trace_tally.specs.declared.counts.Counts.{Counts}
use Rattle.trace_tally.specs.declared.refusals.RefusalCount.{RefusalCount}
use Rattle.trace_tally.specs.Tests.{is_written, is_entered_then, is_cached_now, is_reloaded, is_again, is_odd}

-- ---- counts

abbrev pub more_if : Bool → ℕ → ℕ
more_if is count = if is then count + 1 else count

-- how many entries are so, by the entries before them
abbrev pub times : (List Entry → Event → Bool) → List Entry → ℕ
times is [] = 0
times is (e ∷ past) = more_if (is past e.event) (times is past)

abbrev pub counts : List Entry → Counts
counts past = record {
  written = times is_written past;
  entered = times is_entered_then past;
  cached = times is_cached_now past;
  reloaded = times is_reloaded past;
  again = times is_again past;
}

-- ---- refusals

-- the words are one and the same
abbrev pub same_name : Words → Words → Bool
same_name (a ∷ []) (b ∷ []) = bytes_eq a b
same_name first other = false

-- they are refusals of one kind: their instructions have one name, and so have they
abbrev pub is_of : RefusalCount → Action → Refusal → Bool
is_of row action why =
    same_name (action_name row.action) (action_name action) && same_name (refusal_name row.why) (refusal_name why)

abbrev pub one_more : RefusalCount → RefusalCount
one_more row = record { action = row.action; why = row.why; count = row.count + 1; place = row.place }

-- one refusal more, at this place
abbrev pub with_refusal : Action → Refusal → ℕ → List RefusalCount → List RefusalCount
with_refusal action why place [] = record { action = action; why = why; count = 1; place = place } ∷ []
with_refusal action why place (row ∷ rows) =
    if is_of row action why then one_more row ∷ rows else row ∷ with_refusal action why place rows

abbrev pub refusals_with : Event → ℕ → List RefusalCount → List RefusalCount
refusals_with (Refused action why) place rows = with_refusal action why place rows
refusals_with event place rows = rows

-- the refusals of each kind: the first one, how many there are, and the place of the first one, by these places
abbrev pub refusals : List Entry → List RefusalCount
refusals [] = []
refusals (e ∷ past) = refusals_with e.event (length past) (refusals past)

-- ---- the driver

abbrev pub first_or : Option ℕ → Bool → ℕ → Option ℕ
first_or (Some place) is here = Some place
first_or None is here = if is then Some here else None

-- the place of the first entry that is so
abbrev pub first_place : (List Entry → Event → Bool) → List Entry → Option ℕ
first_place is [] = None
first_place is (e ∷ past) = first_or (first_place is past) (is past e.event) (length past)

-- where the driver was first refused what a right one never is
abbrev pub odd_place : List Entry → Option ℕ
odd_place past = first_place is_odd past
