-- The lists of changes, by word.
use Rattle.std.specs.Prelude.{ℕ, ◌==◌, ◌&&◌, Bool, List, IsSome}
use Rattle.std.specs.HashMap.{get}
use Rattle.std.specs.List.Sorted.{IsNonDecreasingBy}
use Rattle.flat_words.specs.declared.writes.WordAt.{WordAt}
use Rattle.sgx_types.specs.declared.names.Page.{Page}
use Rattle.trace_query.specs.declared.word_lists.Change.{Change}
use Rattle.trace_query.specs.declared.word_lists.WordLists.{WordLists}
use Rattle.trace_spans.specs.inner.Last.{last_from}
use Rattle.trace_spans.specs.inner.Listed.{items_of, HasSpare}

-- the keys are those of the same word
abbrev pub same_word : WordAt → WordAt → Bool
same_word a b = (a.enclave == b.enclave) && ((a.number == b.number) && (a.index == b.index))

-- a word of a page
abbrev pub word_at : Page → ℕ → WordAt
word_at g k = record { enclave = g.enclave; number = g.number; index = k }

-- the changes of a word: none where there is no list
abbrev pub changes_in : WordLists → WordAt → List Change
changes_in known w = items_of (get same_word known.lists w)

-- a word has a list, be it an empty one
abbrev pub HasWordList : WordLists → WordAt → Type 0
HasWordList known w = IsSome (get same_word known.lists w)

-- so many changes more of a word need no memory
abbrev pub HasWordRoom : WordLists → WordAt → ℕ → Type 0
HasWordRoom known w k = HasSpare (get same_word known.lists w) k

-- changes stand by the places at which they were made
abbrev pub ChangesRise : List Change → Type 0
ChangesRise changes = IsNonDecreasingBy (λ change. change.place) changes

-- the value of a word that had this one first, behind its last change up to a place
abbrev pub value_at : ℕ → List Change → ℕ → ℕ
value_at first changes n = last_from (λ change. change.place) (λ change. change.value) first changes n
