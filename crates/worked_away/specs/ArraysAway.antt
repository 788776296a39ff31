-- A version array page goes out with the version of a page in it, and comes back into another frame; and traces that are wrong in one
-- place of it.
use Rattle.std.specs.Prelude.{List, ◌∷◌}
use Rattle.sgx_rules.specs.declared.entries.Action.TheVariants as actions
use Rattle.sgx_rules.specs.declared.entries.Answer.TheVariants as answers
use Rattle.sgx_rules.specs.declared.entries.Cause.TheVariants as causes
use Rattle.sgx_rules.specs.declared.entries.Entry.{Entry}
use Rattle.sgx_rules.specs.declared.refusals.Refusal.TheVariants as why
use Rattle.sgx_types.specs.Pages.{page_at, va_page}
use Rattle.worked_away.specs.Machine.{block, cpu, epa, comes_in, is_out, keeps_in, keeps_out, ready, refused, slot_at}
use Rattle.sgx_types.specs.Pages.{frame_at}
use Rattle.worked_away.specs.Machine.{starts_in, starts_out, some_tag, track}
use Rattle.worked_traces.specs.inner.Traces.{did}

-- a second version array page is made, and the page of sevens goes out into its first slot
abbrev pub page_out : List Entry
page_out =
    is_out 4 (page_at 1 2) 1 ∷ starts_out 4 (slot_at 5 0) 1
    ∷ track ∷ block 4 ∷ did cpu (actions.Aex causes.Kick) answers.Plain ∷ epa 5 1 ∷ ready

-- a version array page takes no slot of its own; it goes out into one of the other
abbrev pub array_out : List Entry
array_out = is_out 5 (va_page 1) 2 ∷ starts_out 5 (slot_at 0 0) 2 ∷ keeps_in 5 (slot_at 5 1) why.BadKind ∷ page_out

-- it is back in another frame, and the page of sevens comes back by the version in it
abbrev pub array_in : List Entry
array_in =
    comes_in 6 (va_page 1) 2 ∷ starts_in 6 (va_page 1) (slot_at 0 0) 2
    ∷ keeps_out 4 (page_at 1 2) (slot_at 5 0) why.BadKind ∷ array_out

abbrev pub page_in : List Entry
page_in = comes_in 4 (page_at 1 2) 1 ∷ starts_in 4 (page_at 1 2) (slot_at 6 0) 1 ∷ array_in

-- it goes out again, and its old record does not bring it back
abbrev pub array_kept_out : List Entry
array_kept_out =
    refused cpu (actions.Eld (frame_at 6)) (why.MacFail (some_tag 2) (some_tag 4))
    ∷ starts_in 6 (va_page 1) (slot_at 0 0) 3 ∷ is_out 6 (va_page 1) 3 ∷ starts_out 6 (slot_at 0 0) 3 ∷ page_in

-- ---- wrong

-- EPA tells another number
abbrev pub other_number : List Entry
other_number = epa 5 0 ∷ ready

-- a version array page goes out while one of its slots is busy
abbrev pub goes_in_use : List Entry
goes_in_use =
    starts_out 5 (slot_at 0 0) 2 ∷ starts_out 4 (slot_at 5 0) 1
    ∷ track ∷ block 4 ∷ did cpu (actions.Aex causes.Kick) answers.Plain ∷ epa 5 1 ∷ ready

-- a page takes a slot of one that is on its way out
abbrev pub slot_on_its_way : List Entry
slot_on_its_way =
    starts_out 4 (slot_at 5 0) 2 ∷ starts_out 5 (slot_at 0 0) 1
    ∷ track ∷ block 4 ∷ did cpu (actions.Aex causes.Kick) answers.Plain ∷ epa 5 1 ∷ ready

-- the slot of the page of sevens is another in another version array page
abbrev pub other_array : List Entry
other_array = starts_in 4 (page_at 1 2) (slot_at 0 0) 1 ∷ array_in
