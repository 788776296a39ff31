-- Who was ended was told why.
use Rattle.std.proofs.Common.{◌≡◌, sym, ap, ◌∙◌, List, ◌∷◌, Some}
use Rattle.std.proofs.lemmas.Bool.{false≢true}
use Rattle.std.proofs.lemmas.Option.{same_Some}
use Rattle.sgx_rules.specs.declared.entries.Action.TheVariants.{Eld, EldStart}
use Rattle.sgx_rules.specs.declared.entries.Entry.{Entry}
use Rattle.sgx_rules.specs.declared.entries.Event.{Event}
use Rattle.sgx_rules.specs.declared.entries.Event.TheVariants.{Refused}
use Rattle.sgx_types.specs.declared.names.Actor.{Actor}
use Rattle.sgx_types.specs.declared.names.Actor.TheVariants as actors
use Rattle.sgx_types.specs.declared.names.Frame.{Frame}
use Rattle.sgx_types.specs.declared.names.Page.{Page}
use Rattle.sgx_types.specs.declared.names.SlotAt.{SlotAt}
use Rattle.sgx_rules.specs.declared.refusals.Refusal.{Refusal}
use Rattle.sgx_rules.specs.declared.refusals.Refusal.TheVariants as why
use Rattle.sgx_rules.specs.Ends.{DoesNotFit, IsNotBack}
use Rattle.sgx_rules.specs.Rules.{RefusalRule}
use Rattle.sgx_rules.specs.Starts.{open_start}
use Rattle.sgx_types.specs.Making.{Making}
use Rattle.job_grammar.specs.Jobs.{JobView}
use Rattle.driver_rules.specs.Dues.{Asks, Due, Ends, Fetch, Fetches, Finished, IsFetch, IsNext, KicksAll, LooksAt, Makes, Reports, Stopped}
use Rattle.driver_rules.specs.Dues.{TriesOut, Waits}
use Rattle.driver_rules.specs.Scripts.{IsActors, ScriptRule}
use Rattle.driver_rules.specs.Turns.{WasEnded, builder_due, cpu_due, fails_with, load_of, start_fails}
use Rattle.driver_laws.proofs.OwnLaws.{Plain, build_plain, due_plain, is_paging}
use Rattle.due_tables.specs.inner.Ending.{EndsAreTold, IsForRecord}
use Rattle.due_tables.proofs.EndLaws.{ends_go_on}

-- a refused start is a step of a fetch only where it found no version
module _ (f : Frame) (page : Page) (at : SlotAt) where
  for_slot : (g : Page) (fetch : Fetch) (refusal : Refusal) → IsFetch g fetch (Refused (EldStart f page at) refusal)
      → start_fails page refusal ≡ WasEnded → ⊥
  for_slot g (Asks target slot (Some n)) why.SlotEmpty next ended = cc
  for_slot g _ refusal next ended = next

  start_due : (j : JobView) (past : List Entry) (due : Due) (refusal : Refusal) → Plain j past due
      → IsNext due (Refused (EldStart f page at) refusal) → start_fails page refusal ≡ WasEnded → ⊥
  start_due j past Stopped refusal plain next ended = next
  start_due j past Finished refusal plain next ended = next
  start_due j past (Waits reason) refusal plain next ended = next
  start_due j past (Makes action) refusal plain next ended =
      let same : EldStart f page at ≡ action = same_Some _ _ next in false≢true (sym plain ∙ ap is_paging (sym same))
  start_due j past (Ends action) refusal plain next ended =
      let same : EldStart f page at ≡ Eld plain.0 = same_Some _ _ (next ∙ ap Some plain.1) in cc
  start_due j past (Reports g reason) refusal plain next ended = cc
  start_due j past (Fetches g fetch) refusal plain next ended = for_slot g fetch refusal next ended
  start_due j past (LooksAt g held young) refusal plain next ended = next
  start_due j past (TriesOut g n) refusal plain next ended = next
  start_due j past (KicksAll cpus) refusal plain next ended = plain

  start_told : (j : JobView) (past : List Entry) (actor : Actor) (refusal : Refusal)
      → IsActors j past actor (Refused (EldStart f page at) refusal) → start_fails page refusal ≡ WasEnded → ⊥
  start_told j past actors.Builder refusal next = start_due j past (builder_due j past) refusal (build_plain j past) next
  start_told j past (actors.Cpu p) refusal next = start_due j past (cpu_due j past p.0) refusal (due_plain j past p.0) next.1
  start_told j past actors.Reclaimer refusal next = λ ended. false≢true (sym next)

for_record : (k : Making) (j : JobView) (past : List Entry) (e : Entry) → RefusalRule k past e → ScriptRule j past e
    → IsForRecord past e.event
for_record k j past e h script = by_event e.event h script.next
  where
    unfit : (g : Page) (r : Refusal) → DoesNotFit past g r → fails_with (Some g) r ≡ WasEnded → ⊥
    unfit g (why.MacFail given computed) d same = cc
    unfit g (why.BadHeader enclave address flags) d same = cc
    unfit g r d same = absurd d

    by_event : (event : Event) → RefusalRule k past (record { actor = e.actor; event = event }) → IsActors j past e.actor event
        → IsForRecord past event
    by_event (Refused (Eld f) r) k next = λ ended.
        let back : IsNotBack past f.0 r = k in
        let loaded : load_of (open_start past f.0) ≡ Some back.page = ap load_of back.ends.opened ∙ back.ends.loads in
        unfit back.page r back.unfit (ap (λ o. fails_with o r) (sym loaded) ∙ ended)
    by_event (Refused (EldStart f page at) r) k next = start_told f page at j past e.actor r next
    by_event event k next = tt

pub ends_told : (k : Making) (j : JobView) (past : List Entry) (e : Entry) → RefusalRule k past e → ScriptRule j past e → EndsAreTold past
    → EndsAreTold (e ∷ past)
ends_told k j past e h script told = ends_go_on past e (for_record k j past e h script) told
