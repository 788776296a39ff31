-- A processor has an open start exactly where it is to end a load.
use Rattle.std.proofs.Common.{◌≡◌, ℕ, Bool, true, false, if◌then◌else◌, refl, sym, ◌∙◌, ap, List, [], ◌∷◌, Option}
use Rattle.std.proofs.Common.{Some, None}
use Rattle.std.proofs.lemmas.Bool.{false≢true}
use Rattle.sgx_rules.specs.declared.entries.Action.TheVariants as actions
use Rattle.sgx_types.specs.declared.names.Actor.TheVariants as actors
use Rattle.sgx_rules.specs.declared.entries.Entry.{Entry}
use Rattle.sgx_rules.specs.declared.entries.Event.{Event}
use Rattle.sgx_rules.specs.declared.entries.Event.TheVariants.{Bus, Did, Refused}
use Rattle.sgx_types.specs.declared.names.Cpu.{Cpu}
use Rattle.sgx_types.specs.declared.names.Page.{Page}
use Rattle.sgx_rules.specs.declared.refusals.Refusal.{Refusal}
use Rattle.sgx_rules.specs.Processors.{is_by}
use Rattle.sgx_rules.specs.Rules.{Along}
use Rattle.sgx_rules.specs.Starts.{open_start, Start}
use Rattle.job_grammar.specs.Jobs.{JobView}
use Rattle.driver_rules.specs.Scripts.{ScriptRule}
use Rattle.driver_rules.specs.inner.Stops.{frame_started}
use Rattle.driver_rules.specs.Stops.{last_event}
use Rattle.driver_rules.specs.Turns.{fails_with, last_by, last_of, load_of, start_fails}
use Rattle.driver_laws.specs.inner.Tracks.{is_reclaimers}
use Rattle.driver_laws.specs.inner.Started.{frame_loaded}
use Rattle.driver_laws.proofs.OwnLaws.{script_own}
use Rattle.sgx_rules.specs.declared.refusals.Refusal.TheVariants as why

pub fails_none : (o : Option Page) (r : Refusal) → frame_loaded (fails_with o r) ≡ None
fails_none (Some page) (why.MacFail given computed) = refl
fails_none (Some page) (why.BadHeader enclave address flags) = refl
fails_none (Some page) _ = refl
fails_none None r = refl

-- a start that is refused opens nothing
pub start_none : (page : Page) (r : Refusal) → frame_loaded (start_fails page r) ≡ None
start_none page why.SlotEmpty = refl
start_none page _ = refl

last_same : (ev : Event) (opened : ℕ → Option Start) → is_reclaimers ev ≡ false → frame_started (Some ev) ≡ frame_loaded (last_by ev opened)
last_same (Did (actions.EldStart f page slot) answer) opened own = refl
last_same (Did (actions.EwbStart f slot) answer) opened own = cc
last_same (Refused (actions.EldStart f page slot) r) opened own = sym (start_none page r)
last_same (Refused (actions.Eld f) r) opened own = sym (fails_none (load_of (opened f.0)) r)
last_same (Bus page reason) opened own = refl
last_same _ opened own = refl

pub open_loads : (j : JobView) (past : List Entry) (c : Cpu) → Along (ScriptRule j) past
    → frame_started (last_event past (actors.Cpu c)) ≡ frame_loaded (last_of past c.0)
open_loads j [] c script = refl
open_loads j (e ∷ past) c script = by_own (is_by c.0 e.actor) refl (open_loads j past c script.1)
  where
    by_mine : (b : Bool) → is_reclaimers e.event ≡ b → is_by c.0 e.actor ≡ true → is_reclaimers e.event ≡ false
    by_mine false is mine = is
    by_mine true is mine = absurd (false≢true (sym (ap (is_by c.0) (script_own j past e script.0 is)) ∙ mine))

    by_own : (b : Bool) → is_by c.0 e.actor ≡ b → frame_started (last_event past (actors.Cpu c)) ≡ frame_loaded (last_of past c.0)
        → frame_started (if b then Some e.event else last_event past (actors.Cpu c))
        ≡ frame_loaded (if b then last_by e.event (open_start past) else last_of past c.0)
    by_own true mine before = last_same e.event (open_start past) (by_mine (is_reclaimers e.event) refl mine)
    by_own false other before = before
