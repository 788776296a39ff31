-- The tables say what the entries say.
use Rattle.std.specs.Prelude.{ℕ, ◌≡◌, ◌<◌, ◌≤◌, Bool, true, false, if◌then◌else◌, ◌∷◌, List, [], Option, None, Some, drop, length, map}
use Rattle.std.specs.Prelude.{slice_index_or}
use Rattle.sgx_types.specs.declared.names.Actor.{Actor}
use Rattle.sgx_rules.specs.declared.entries.Entry.{Entry}
use Rattle.sgx_types.specs.declared.names.Page.{Page}
use Rattle.job_grammar.specs.Jobs.{JobView, lines_at, tcs_line, va_pages}
use Rattle.job_grammar.specs.inner.Valid.{IsValid}
use Rattle.script_rules.specs.inner.Cursor.{IsCursor, left}
use Rattle.script_rules.specs.Script.{build_of, built, is_initialised, replied, saved_frames}
use Rattle.driver_rules.specs.Needs.{interruption}
use Rattle.driver_rules.specs.Stops.{is_bus, is_spent, has_loss}
use Rattle.driver_rules.specs.Turns.{is_kicked, last_of}
use Rattle.driver_tables.specs.inner.Counts.{page_counts}
use Rattle.due_tables.specs.declared.cpu_turns.CpuTurn.{CpuTurn}
use Rattle.due_tables.specs.declared.turns.Turns.{Turns}
use Rattle.due_tables.specs.inner.CpuTurns.{interruption_told, last_told, turn_at}
use Rattle.due_tables.specs.inner.TcsTurns.{tcs_at, tcs_by}

-- whose the last entry of all is
abbrev pub last_actor : List Entry → Option Actor
last_actor [] = None
last_actor (e ∷ past) = Some e.actor

pub record ShowsCpu (past : List Entry) (p : ℕ) (turn : CpuTurn) : Type 0 where
  pub replied : turn.replied ≡ replied past p
  pub kicked : turn.is_kicked ≡ is_kicked past p
  pub interruption : interruption_told turn.interruption ≡ interruption past p
  pub last : last_told turn.last ≡ last_of past p

pub record ShowsTurns (j : JobView) (past : List Entry) (t : Turns) : Type 0 where
  pub valid : IsValid j
  -- the steps of the builder that are left
  pub within : IsCursor j t.cursor
  pub steps : left j t.cursor ≡ drop (built past) (build_of j)
  -- which enclaves are initialised
  pub inits : (e : ℕ) → e ≤ 8 → slice_index_or t.inits e false ≡ is_initialised past e
  pub numbered : length t.inits ≡ 9
  -- how its entries left each processor
  pub cpus : (p : ℕ) → p < length j.scripts → ShowsCpu past p (turn_at t.cpus p)
  pub each : length t.cpus ≡ length j.scripts
  -- of each TCS page its line, and how many of its state save pages are in use
  pub saves : (g : Page) → tcs_at t.tcs g ≡ tcs_by (tcs_line (lines_at j.enclaves g.enclave) g.number) (saved_frames past g)
  pub places : map length t.tcs ≡ va_pages j ∷ page_counts j
  pub last : t.last ≡ last_actor past
  pub spent : t.is_spent ≡ is_spent past
  pub loss : t.has_loss ≡ has_loss past
