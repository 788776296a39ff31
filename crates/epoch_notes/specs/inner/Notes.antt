-- What the words of a run say by its entries, and who is inside which enclave since which epoch.
use Rattle.std.specs.Prelude.{ℕ, ◌≡◌, ◌≤◌, ◌<◌, ◌-◌, ◌++◌, All, true, List, Option, Some, None, is_some, length}
use Rattle.std.specs.Prelude.{slice_index_or, slice_set}
use Rattle.sgx_types.specs.declared.names.Actor.{Actor}
use Rattle.sgx_types.specs.declared.names.Actor.TheVariants as actors
use Rattle.sgx_rules.specs.declared.entries.Entry.{Entry}
use Rattle.sgx_types.specs.declared.names.TheConstants.{LAST_EPOCH}
use Rattle.sgx_rules.specs.inner.Enclaves.{created}
use Rattle.sgx_rules.specs.Epochs.{epoch, older_at}
use Rattle.sgx_rules.specs.inner.Epochs.{newer_at, noted}
use Rattle.sgx_rules.specs.Processors.{Stay, stay}
use Rattle.sgx_rules.specs.Rules.{Along}
use Rattle.driver_laws.specs.inner.Tracking.{TrackingRule}
pub use Rattle.atomic_table.specs.Seated.{TableId}
use Rattle.epoch_words.specs.declared.seen.Seen.{Seen}
use Rattle.epoch_words.specs.inner.Rule.{at}
use Rattle.epoch_words.specs.inner.Seen.{IsInside, entered, left, seen}
use Rattle.epoch_notes.specs.declared.notes.Inside.{Inside}

-- to which words the seat belongs, what they say, enclave 1 first, and who is inside, processor 0 first
pub record NotesView : Type 0 where
  pub words : TableId
  pub seen : List Seen
  pub inside : List (Option Inside)

-- ---- by the entries

-- the word of an enclave: its epoch, how many processors are inside since before it began, and how many others
abbrev pub word_by : ℕ → List Entry → ℕ → Seen
word_by first past enclave = seen (epoch first past enclave) (older_at past enclave) (newer_at past enclave)

abbrev pub since : Option Stay → ℕ → Option Inside
since None epoch = None
since (Some s) epoch = Some (record { enclave = s.seat.enclave; epoch = epoch })

-- the words, and what is noted of processors, say what the entries say
pub record TellsEntries (first : ℕ) (past : List Entry) (n : NotesView) : Type 0 where
  pub wide : length n.seen ≡ n.words.words
  pub words : (enclave : ℕ) → 1 ≤ enclave → enclave ≤ n.words.words → at n.seen (enclave - 1) ≡ word_by first past enclave
  pub inside : (p : ℕ) → p < length n.inside → slice_index_or n.inside p None ≡ since (stay past p) (noted first past p)

-- ---- one entry more

abbrev pub IsOfCpus : ℕ → Actor → Type 0
IsOfCpus cpus (actors.Cpu p) = p.0 < cpus
IsOfCpus cpus _ = Unit {0}

-- entries, the newest first, can be taken in: they come next in a run whose entries tell who is inside and which epochs begin, and the
-- words say what the entries before them say
pub record CanNote (n : NotesView) (new : List Entry) : Type 0 where
  pub first : ℕ
  pub past : List Entry
  pub tells : TellsEntries first past n
  pub rule : Along (TrackingRule first) (new ++ past)
  pub begun : first ≤ LAST_EPOCH
  -- each enclave that was created has a word
  pub enclaves : (enclave : ℕ) → is_some (created (new ++ past) enclave) ≡ true → (1 ≤ enclave) × (enclave ≤ n.words.words)
  -- each processor is one of those that are noted
  pub few : length n.inside ≤ 16
  pub actors : All (λ e. IsOfCpus (length n.inside) e.actor) new

-- ---- the steps

abbrev pub seen_of : NotesView → ℕ → Seen
seen_of n enclave = at n.seen (enclave - 1)

-- a processor has entered an enclave
abbrev pub after_enter : NotesView → ℕ → ℕ → NotesView
after_enter n p enclave = record n {
  seen = slice_set n.seen (enclave - 1) (entered (seen_of n enclave));
  inside = slice_set n.inside p (Some (record { enclave = enclave; epoch = (seen_of n enclave).epoch }));
}

-- what is noted of a processor is of an enclave that has a word, which counts it
pub record IsIn (n : NotesView) (x : Inside) : Type 0 where
  pub low : 1 ≤ x.enclave
  pub high : x.enclave ≤ n.words.words
  pub counted : IsInside (seen_of n x.enclave) x.epoch

abbrev pub without : NotesView → Option Inside → List Seen
without n None = n.seen
without n (Some x) = slice_set n.seen (x.enclave - 1) (left (seen_of n x.enclave) x.epoch)

-- .. has left the one that it was inside
abbrev pub after_leave : NotesView → ℕ → NotesView
after_leave n p = record n { seen = without n (slice_index_or n.inside p None); inside = slice_set n.inside p None }
