-- Which words flat memory writes when it takes an entry, and which page it adds.
use Rattle.std.specs.Prelude.{ℕ, ◌+◌, ◌/◌, ◌==◌, ◌&&◌, ◌||◌, Bool, false, if◌then◌else◌, Option, Some, None, slice_index}
use Rattle.sgx_types.specs.declared.names.Actor.{Actor}
use Rattle.sgx_types.specs.declared.names.Actor.TheVariants.{Cpu}
use Rattle.sgx_types.specs.declared.names.Page.{Page}
use Rattle.sgx_types.specs.Pages.{same_page, page_at}
use Rattle.sgx_rules.specs.declared.entries.Action.{Action}
use Rattle.sgx_rules.specs.declared.entries.Action.TheVariants.{Add, Resume, Aex, Store, Xadd}
use Rattle.sgx_rules.specs.declared.entries.Event.{Event}
use Rattle.sgx_rules.specs.declared.entries.Event.TheVariants.{Did}
use Rattle.sgx_rules.specs.Flat.{FlatMemory, Inside, accepts, fields_in, word_index, first_words}
use Rattle.flat_words.specs.declared.writes.WordAt.{WordAt}
use Rattle.flat_words.specs.declared.writes.Writes.{Writes}
use Rattle.flat_words.specs.declared.writes.NewPage.{NewPage}

-- ---- words

abbrev pub is_word : Option WordAt → Page → ℕ → Bool
is_word None g k = false
is_word (Some w) g k = same_page g (page_at w.enclave w.number) && (w.index == k)

-- a word is among those that may be written
abbrev pub is_touched : Writes → Page → ℕ → Bool
is_touched writes g k = is_word writes.first g k || is_word writes.second g k

abbrev pub nothing : Writes
nothing = record { first = None; second = None }

-- the word of a TCS page that has CSSA and NSSA
abbrev pub state_word : ℕ → ℕ → WordAt
state_word enclave tcs = record { enclave = enclave; number = tcs; index = 3 }

-- the first word of the state save page that CSSA names, and the word that has CSSA
abbrev pub save_words : FlatMemory → Option Inside → Writes
save_words m None = nothing
save_words m (Some i) =
    let fields = fields_in m i.enclave i.tcs in
    record {
      first = Some (record { enclave = i.enclave; number = fields.ossa + fields.cssa; index = 0 });
      second = Some (state_word i.enclave i.tcs);
    }

-- the word at an offset in the enclave that a processor is inside
abbrev pub word_at_offset : Option Inside → ℕ → Writes
word_at_offset None off = nothing
word_at_offset (Some i) off = record {
  first = Some (record { enclave = i.enclave; number = off / 4096; index = word_index off });
  second = None;
}

-- what an instruction of a processor may write
abbrev pub cpu_writes : FlatMemory → ℕ → Action → Writes
cpu_writes m p (Resume enclave tcs tf sf) = record { first = Some (state_word enclave tcs); second = None }
cpu_writes m p (Aex cause) = save_words m (m.cpus p).inside
cpu_writes m p (Store off value) = word_at_offset (m.cpus p).inside off
cpu_writes m p (Xadd off value) = word_at_offset (m.cpus p).inside off
cpu_writes m p _ = nothing

-- .. and of any actor
abbrev pub writes_of : FlatMemory → Actor → Action → Writes
writes_of m (Cpu p) action = cpu_writes m p.0 action
writes_of m _ action = nothing

-- what an entry may write of the pages that were added before it
abbrev pub touched : FlatMemory → Actor → Event → Writes
touched m actor (Did action answer) = if accepts m actor action then writes_of m actor action else nothing
touched m actor _ = nothing

-- ---- pages

abbrev pub new_page : Action → Option NewPage
new_page (Add enclave number f kind perm init) = Some (record { enclave = enclave; number = number; init = init })
new_page _ = None

-- the page that an entry adds
abbrev pub page_added : FlatMemory → Actor → Event → Option NewPage
page_added m actor (Did action answer) = if accepts m actor action then new_page action else None
page_added m actor _ = None

-- a word that is not written, where this page is added
abbrev pub word_with : Option NewPage → Page → ℕ → Option ℕ → Option ℕ
word_with None g k before = before
word_with (Some x) g k before =
    if same_page g (page_at x.enclave x.number) then Some (slice_index (first_words x.init) k) else before
