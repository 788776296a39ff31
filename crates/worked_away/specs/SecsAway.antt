-- An enclave's pages go out, then its SECS, which comes back before them; and traces that are wrong in one place of it.
use Rattle.std.specs.Prelude.{List, ◌∷◌}
use Rattle.sgx_rules.specs.declared.entries.Action.TheVariants as actions
use Rattle.sgx_types.specs.declared.names.Actor.TheVariants.{Reclaimer}
use Rattle.sgx_rules.specs.declared.entries.Answer.TheVariants as answers
use Rattle.sgx_rules.specs.declared.entries.Entry.{Entry}
use Rattle.sgx_rules.specs.declared.refusals.Refusal.TheVariants as why
use Rattle.sgx_types.specs.Pages.{page_at, secs_page}
use Rattle.worked_away.specs.Machine.{block, cpu, comes_in, is_out, keeps_in, keeps_out, ready, refused, slot_at}
use Rattle.worked_away.specs.Machine.{starts_in}
use Rattle.worked_away.specs.Machine.{starts_out, track}
use Rattle.worked_traces.specs.inner.Traces.{did}

-- the SECS cannot go while pages of its enclave are there
abbrev pub with_children : List Entry
with_children = keeps_in 1 (slot_at 0 0) (why.ChildPresent 3) ∷ ready

-- the pages are blocked and drained
abbrev pub drained : List Entry
drained = track ∷ block 4 ∷ block 3 ∷ block 2 ∷ did cpu actions.Exit answers.Plain ∷ with_children

-- .. and out
abbrev pub pages_out : List Entry
pages_out =
    is_out 4 (page_at 1 2) 3 ∷ starts_out 4 (slot_at 0 2) 3
    ∷ is_out 3 (page_at 1 1) 2 ∷ starts_out 3 (slot_at 0 1) 2
    ∷ is_out 2 (page_at 1 0) 1 ∷ starts_out 2 (slot_at 0 0) 1
    ∷ drained

-- .. then the SECS
abbrev pub secs_out : List Entry
secs_out = is_out 1 (secs_page 1) 4 ∷ starts_out 1 (slot_at 0 3) 4 ∷ pages_out

-- without it nothing of the enclave comes or goes
abbrev pub nothing_goes : List Entry
nothing_goes =
    keeps_out 2 (page_at 1 0) (slot_at 0 0) why.Absent ∷ refused Reclaimer (actions.Track 1) why.Absent ∷ secs_out

-- it is back, and then a page
abbrev pub secs_in : List Entry
secs_in = comes_in 1 (secs_page 1) 4 ∷ starts_in 1 (secs_page 1) (slot_at 0 3) 4 ∷ nothing_goes

abbrev pub child_comes : List Entry
child_comes = keeps_in 1 (slot_at 0 3) (why.ChildPresent 1) ∷ starts_in 2 (page_at 1 0) (slot_at 0 0) 1 ∷ secs_in

-- ---- wrong

-- the SECS goes while a page is there
abbrev pub goes_with_children : List Entry
goes_with_children = starts_out 1 (slot_at 0 0) 1 ∷ ready

-- a page comes in without its SECS
abbrev pub comes_without_secs : List Entry
comes_without_secs = starts_in 2 (page_at 1 0) (slot_at 0 0) 1 ∷ secs_out

-- an enclave is tracked while its SECS is on its way out
abbrev pub tracked_on_its_way : List Entry
tracked_on_its_way = track ∷ starts_out 1 (slot_at 0 3) 4 ∷ pages_out

-- the SECS comes back under a version that its slot does not have
abbrev pub other_version : List Entry
other_version = starts_in 1 (secs_page 1) (slot_at 0 3) 3 ∷ nothing_goes
