-- Behind an entry of another actor the reclaimer's pass stands for what it stood for.
use Rattle.std.proofs.Common.{◌≡◌, ◌≤◌, true, false, refl, sym, ◌∙◌, ap, subst, List, ◌∷◌}
use Rattle.std.proofs.lemmas.Bool.{false≢true}
use Rattle.sgx_types.specs.declared.names.Actor.{Actor}
use Rattle.sgx_types.specs.declared.names.Actor.TheVariants as actors
use Rattle.sgx_rules.specs.declared.entries.Entry.{Entry}
use Rattle.sgx_rules.specs.declared.entries.Action.TheVariants as actions
use Rattle.sgx_rules.specs.declared.entries.Event.{Event}
use Rattle.sgx_rules.specs.declared.entries.Event.TheVariants.{Refused}
use Rattle.driver_laws.specs.inner.Tracks.{is_reclaimers}
use Rattle.sgx_types.specs.Making.{Making}
use Rattle.job_grammar.specs.Jobs.{JobView}
use Rattle.sgx_machine.specs.inner.Parts.{Parts}
use Rattle.driver_rules.specs.Passes.{pass, pass_after}
use Rattle.driver_rules.specs.Spares.{outs_kept}
use Rattle.driver_laws.specs.inner.Agrees.{drivers}
use Rattle.driver_laws.proofs.OwnLaws.{script_own}
use Rattle.driver_tables.specs.declared.driver.Driver.{Driver}
use Rattle.driver_tables.specs.inner.Agrees.{Agrees}
use Rattle.driver_tables.specs.inner.Asked.{IsNextOf}
use Rattle.driver_tables.proofs.TellsLaws.{agrees_tell}
use Rattle.driver_pass.specs.inner.Noted.{gone_by}
use Rattle.driver_pass.specs.inner.Standing.{StandsAt, StandsFor, TellsEpoch}
use Rattle.driver_pass.specs.inner.Viewed.{PassView}
use Rattle.driver_pass.proofs.GoLaws.{entry_goes}
use Rattle.due_notes.specs.inner.Plain.{is_reclaimer}

-- a pass that goes on with another actor's entry is as it was
same_view : (d : Driver) (m : Parts) (a : Actor) (event : Event) (v : PassView) → is_reclaimer a ≡ false → gone_by d m a event v ≡ v
same_view d m actors.Builder event v other = refl
same_view d m (actors.Cpu p) event v other = refl
same_view d m actors.Reclaimer event v other = cc

pub passes_stay : (made : Making) (j : JobView) (past : List Entry) (d d' : Driver) (m m' : Parts) (e : Entry) (v : PassView)
    → j.marks.scan ≤ 64 → Agrees made j past d m → IsNextOf made j past d m e d' m' → is_reclaimer e.actor ≡ false
    → StandsAt made.first_epoch j past v
    → StandsFor made.first_epoch (e ∷ past) v (pass_after j past e.actor e.event (pass j past))
passes_stay made j past d d' m m' e v short r n other stands =
    subst (λ w. StandsFor made.first_epoch (e ∷ past) w (pass_after j past e.actor e.event (pass j past)))
    (same_view d m e.actor e.event v other)
    (entry_goes (drivers j) made j past d m (agrees_tell made j past d m r short) v (outs_kept j past) e n.age
    (none_told e.actor e.event other
    (script_own j past e n.script)) (script_own j past e n.script) n.can stands)
  where
    -- a try is the reclaimer's
    none_told : (a : Actor) (event : Event) → is_reclaimer a ≡ false → (is_reclaimers event ≡ true → a ≡ actors.Reclaimer)
        → TellsEpoch made.first_epoch past event
    none_told a (Refused (actions.EwbStart f slot) refusal) not own = absurd (false≢true (sym not ∙ ap is_reclaimer (own refl)))
    none_told a event not own = tt
