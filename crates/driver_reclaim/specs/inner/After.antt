-- What a pass stands for behind a turn, before it is decided whether it works.
use Rattle.std.specs.Prelude.{ℕ, ◌≡◌, List, [], ◌∷◌, false}
use Rattle.sgx_types.specs.declared.names.Actor.TheVariants as actors
use Rattle.sgx_rules.specs.declared.entries.Entry.{Entry}
use Rattle.sgx_rules.specs.declared.entries.Event.TheVariants.{Kick}
use Rattle.sgx_types.specs.declared.names.Cpu.{Cpu}
use Rattle.job_grammar.specs.Jobs.{JobView}
use Rattle.driver_rules.specs.Dues.{KicksAll}
use Rattle.driver_rules.specs.Passes.{pass, pass_after}
use Rattle.driver_rules.specs.Spares.{outs_kept}
use Rattle.driver_rules.specs.inner.Reclaims.{going_due}
use Rattle.driver_pass.specs.inner.Standing.{StandsAt, StandsFor}
use Rattle.driver_pass.specs.inner.Viewed.{PassView}
use Rattle.driver_reclaim.specs.declared.turns.PassTurn.{PassTurn}
use Rattle.driver_reclaim.specs.declared.turns.PassTurn.TheVariants as turns
use Rattle.driver_reclaim.specs.inner.Answers.{by_reclaimer}

abbrev pub cpu_of : ℕ → Cpu
cpu_of p = record { 0 = p }

-- behind the kicks of these processors, one after another
abbrev pub kicked_past : List ℕ → List Entry → List Entry
kicked_past [] past = past
kicked_past (p ∷ ps) past = kicked_past ps (by_reclaimer (Kick (cpu_of p)) ∷ past)

abbrev pub StandsBehind : ℕ → JobView → List Entry → Entry → PassView → Type 0
StandsBehind first j past e v = StandsFor first (e ∷ past) v (pass_after j past actors.Reclaimer e.event (pass j past))

-- behind its one entry, behind all the kicks that were due, or as before where it waits
abbrev pub StandsAfter : ℕ → JobView → List Entry → PassTurn → PassView → Type 0
StandsAfter first j past (turns.One e) v = StandsBehind first j past e v
StandsAfter first j past (turns.Seal e) v = StandsBehind first j past e v
StandsAfter first j past (turns.Spent e) v = StandsBehind first j past e v
StandsAfter first j past (turns.Kicks bits) v =
    (ps : List ℕ) → going_due j past (outs_kept j past) false ≡ KicksAll ps → StandsAt first j (kicked_past ps past) v
StandsAfter first j past (turns.Again why) v = StandsAt first j past v
