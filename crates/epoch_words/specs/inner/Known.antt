-- What contracts see of the words, of the hardware seat and of a pass.
use Rattle.std.specs.Prelude.{ℕ, ◌-◌, List, slice_set}
pub use Rattle.atomic_table.specs.Seated.{TableId}
use Rattle.epoch_words.specs.declared.seen.Seen.{Seen}
use Rattle.epoch_words.specs.inner.Rule.{at}

-- how many enclaves have a word. They are numbered from 1
abbrev pub enclaves : TableId → ℕ
enclaves words = words.words

-- to which words a seat or a pass belongs, and what it has last seen of each enclave, enclave 1 first
pub record Known : Type 0 where
  pub words : TableId
  pub seen : List Seen

abbrev pub known : TableId → List Seen → Known
known words all = record { words = words; seen = all }

-- what it has last seen of an enclave
abbrev pub seen_of : Known → ℕ → Seen
seen_of k enclave = at k.seen (enclave - 1)

-- it has seen this of an enclave
abbrev pub learnt : Known → ℕ → Seen → Known
learnt k enclave s = known k.words (slice_set k.seen (enclave - 1) s)
