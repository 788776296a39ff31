-- Which rule an entry breaks, and none before it.
use Rattle.std.specs.Prelude.{ℕ, ◌-◌, ◌&&◌, Bool, true, false, not, List, [], ◌∷◌, drop, length}
use Rattle.sgx_rules.specs.declared.entries.Entry.{Entry}
use Rattle.job_grammar.specs.Jobs.{JobView}
use Rattle.driver_rules.specs.inner.Decided.{all_along, is_ended, keeps_age, keeps_kick, keeps_script}
use Rattle.history_rules.specs.declared.rules.Rule.{Rule}
use Rattle.history_rules.specs.declared.rules.Rule.TheVariants as rules
use Rattle.worked_driver.specs.inner.Lawful.{is_lawful, is_misdone, keeps_six}
use Rattle.worked_driver.specs.inner.Settled.{is_settled}

-- Refusal, Flat, Fits, Stale, Evict, Fresh, Sealed and Measure hold of an entry and of those before it
abbrev pub keeps_machines : JobView → List Entry → Entry → Bool
keeps_machines j past e = is_lawful j past e.actor e.event && is_settled j past

-- this rule is false of an entry behind others, and of the eleven rules none that is named before it
abbrev pub breaks_first : Rule → JobView → List Entry → Entry → Bool
breaks_first rules.Script j past e = not (keeps_script j past e)
breaks_first rules.Refusal j past e = keeps_script j past e && is_misdone j past e.actor e.event
breaks_first rules.Age j past e = keeps_script j past e && (keeps_machines j past e && not (keeps_age j past e))
breaks_first rules.Kick j past e = keeps_script j past e && (keeps_machines j past e && (keeps_age j past e && not (keeps_kick j past e)))
breaks_first _ j past e = false

-- the rules Script, Age and Kick hold at each entry
abbrev pub keeps_all : JobView → List Entry → Bool
keeps_all j [] = true
keeps_all j (e ∷ past) = (keeps_script j past e && (keeps_age j past e && keeps_kick j past e)) && keeps_all j past

-- the six rules hold of an entry and of those before it
abbrev pub keeps_six_there : JobView → List Entry → Entry → Bool
keeps_six_there j past e = keeps_six j past e.actor e.event && is_settled j past

-- Refusal, Flat, Fits, Stale, Evict and Fresh hold at each entry and at the end
abbrev pub keeps_all_six : JobView → List Entry → Bool
keeps_all_six j past = is_settled j past && all_along (keeps_six_there j) past

-- all eleven rules hold of an entry, which tells no digest, and of those before it
abbrev pub keeps_eleven : JobView → List Entry → Entry → Bool
keeps_eleven j past e = keeps_machines j past e && (keeps_script j past e && (keeps_age j past e && keeps_kick j past e))

-- .. at each entry and at the end
abbrev pub is_history : JobView → List Entry → Bool
is_history j past = (is_settled j past && is_ended j past) && all_along (keeps_eleven j) past

-- .. at each entry before this one, which breaks this rule and none before it
abbrev pub breaks_at_last : Rule → JobView → List Entry → Entry → Bool
breaks_at_last rule j past e = breaks_first rule j past e && all_along (keeps_eleven j) past

-- the first so many entries of a trace
abbrev pub first_of : ℕ → List Entry → List Entry
first_of n past = drop (length past - n) past
