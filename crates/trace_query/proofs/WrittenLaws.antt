-- What is kept of the words of pages is that of one entry more.
use Rattle.std.proofs.Common.{◌≡◌, ◌+◌, ◌++◌, List, ◌∷◌, length, ap, ◌∙◌, arith}
use Rattle.std.specs.HashMap.{get}
use Rattle.flat_machine.specs.inner.Parts.{memory_of}
use Rattle.flat_words.specs.Writes.{touched, page_added}
use Rattle.sgx_rules.specs.declared.entries.Entry.{Entry}
use Rattle.sgx_rules.specs.Flat.{flat, event_after}
use Rattle.sgx_types.specs.declared.names.Page.{Page}
use Rattle.trace_query.specs.declared.page_words.PageWords.{PageWords}
use Rattle.trace_query.specs.declared.page_words.Taken.{Taken}
use Rattle.sgx_types.specs.Pages.{same_page}
use Rattle.trace_query.specs.inner.WordLists.{changes_in}
use Rattle.trace_query.specs.inner.Written.{WordsFollow, Takes, NotesWord, WordsStay, noted, added_with, added_in}

pub follows_kept : (old new : PageWords) (past : List Entry) → WordsStay old new → WordsFollow old past → WordsFollow new past
follows_kept old new past keeps f = record {
  memory = keeps.memory ∙ f.memory;
  added = λ g. keeps.added g ∙ f.added g;
  lists = λ w. keeps.lists w ∙ f.lists w;
  len = keeps.len ∙ f.len;
}

-- a page is noted as added
pub record NotesPage (old : PageWords) (taken : Taken) (new : PageWords) : Type 0 where
  pub added : (g : Page) → added_in new g ≡ added_with taken.page old.len g (added_in old g)
  pub memory : new.flat ≡ old.flat
  pub lists : new.lists ≡ old.lists
  pub len : new.len ≡ old.len

-- the place goes on by one
pub record Counts (old new : PageWords) : Type 0 where
  pub memory : new.flat ≡ old.flat
  pub added : new.added ≡ old.added
  pub lists : new.lists ≡ old.lists
  pub len : new.len ≡ old.len + 1

pub follows_more : (old took counted paged one two : PageWords) (e : Entry) (past : List Entry) (taken : Taken) → WordsFollow old past
    → Takes old (event_after e.actor e.event (memory_of old.flat)) (touched (memory_of old.flat) e.actor e.event)
    (page_added (memory_of old.flat) e.actor e.event) taken took
    → Counts took counted → NotesPage counted taken paged → NotesWord paged taken.writes.first one → NotesWord one taken.writes.second two
    → WordsFollow two (e ∷ past)
follows_more old took counted paged one two e past taken f takes counts page first second =
    let after : memory_of took.flat ≡ flat (e ∷ past) = takes.memory ∙ ap (event_after e.actor e.event) f.memory in
    let paged_memory : memory_of paged.flat ≡ flat (e ∷ past)
    = ap memory_of page.memory ∙ ap memory_of counts.memory ∙ after in
    let one_memory : memory_of one.flat ≡ flat (e ∷ past) = ap memory_of first.memory ∙ paged_memory in
    let writes : taken.writes ≡ touched (flat past) e.actor e.event
    = takes.writes ∙ ap (λ m. touched m e.actor e.event) f.memory in
    let new_page = takes.page ∙ ap (λ m. page_added m e.actor e.event) f.memory in
    let place : counted.len ≡ length past + 1 = omega (arith, counts.len, takes.len, f.len) in
    let paged_place : paged.len ≡ length past + 1 = page.len ∙ place in
    let one_place : one.len ≡ length past + 1 = first.len ∙ paged_place in
    record {
      memory = ap memory_of second.memory ∙ one_memory;
      added = λ g.
          ap (λ known. get same_page known g) (second.added ∙ first.added)
          ∙ page.added g
          ∙ ap (λ known. added_with taken.page counted.len g (get same_page known g)) counts.added
          ∙ (λ i. added_with (new_page i) (place i) g ((takes.added g ∙ f.added g) i));
      lists = λ w.
          second.lists w
          ∙ (λ i. (first.lists w i ++ noted (one_place i) (one_memory i) (writes i).second w))
          ∙ (λ i.
          ((ap (λ known. changes_in known w) (page.lists ∙ counts.lists) ∙ takes.lists w ∙ f.lists w) i
          ++ noted (paged_place i) (paged_memory i) (writes i).first w)
          ++ noted (length past + 1) (flat (e ∷ past)) (touched (flat past) e.actor e.event).second w);
      len = omega (arith, second.len, one_place);
    }
