-- Whether a run is at its end, by what machine and tables show.
use Rattle.std.specs.Prelude.{ℕ, zero, suc, ◌==◌, ◌&&◌, ◌||◌, Bool, true, false, Option, Some, None, length}
use Rattle.cached_translations.specs.declared.processor.Mode.{Mode}
use Rattle.cached_translations.specs.declared.processor.Mode.TheVariants.{Inside, Outside}
use Rattle.job_grammar.specs.Jobs.{JobView}
use Rattle.script_rules.specs.declared.steps.BuildStep.{BuildStep}
use Rattle.script_rules.specs.Script.{script_of}
use Rattle.sgx_machine.specs.inner.Parts.{Parts, cpu_at}
use Rattle.due_tables.specs.declared.cpu_turns.CpuTurn.{CpuTurn}
use Rattle.due_tables.specs.declared.cpu_turns.Last.{Last}
use Rattle.due_tables.specs.declared.cpu_turns.Last.TheVariants as ways
use Rattle.due_tables.specs.declared.turns.Turns.{Turns}
use Rattle.due_tables.specs.inner.Asked.{next_step}
use Rattle.due_tables.specs.inner.CpuTurns.{turn_at}

abbrev pub was_ended : Last → Bool
was_ended ways.WasEnded = true
was_ended last = false

abbrev pub stands_outside : Mode → Bool
stands_outside Outside = true
stands_outside (Inside enclave tcs tf sf epoch) = false

-- a processor has replies to so many operations, or was ended
abbrev pub done_by : ℕ → CpuTurn → Mode → Bool
done_by ops x mode = was_ended x.last || ((x.replied == ops) && stands_outside mode)

abbrev pub is_done_by : JobView → Turns → Parts → ℕ → Bool
is_done_by j t m p = done_by (length (script_of j p)) (turn_at t.cpus p) (cpu_at m p).mode

-- each of so many processors
abbrev pub are_done_by : JobView → Turns → Parts → ℕ → Bool
are_done_by j t m zero = true
are_done_by j t m (suc p) = is_done_by j t m p && are_done_by j t m p

abbrev pub none_left : Option BuildStep → Bool
none_left None = true
none_left (Some step) = false

abbrev pub is_ended_by : JobView → Turns → Parts → ℕ → Bool
is_ended_by j t m cpus = t.is_spent || (none_left (next_step j t) && are_done_by j t m cpus)
