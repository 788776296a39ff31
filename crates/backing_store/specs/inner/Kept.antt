-- What the planned store is kept as.
use Rattle.std.specs.Prelude.{◌≡◌, ℕ, ◌+◌, ◌≤◌, List, length, reverse, count_by, Option, Some, None, vec_len}
use Rattle.std.specs.Prelude.{vec_capacity}
use Rattle.sgx_types.specs.declared.names.Page.{Page}
use Rattle.backing_store.specs.declared.calls.StoreCall.{StoreCall}
use Rattle.backing_store.specs.declared.ledger.Ledger.{Ledger}
use Rattle.backing_store.specs.declared.page_places.PageCounts.{PageCounts}
use Rattle.backing_store.specs.declared.page_places.PagePlaces.{PagePlaces}
use Rattle.backing_store.specs.inner.Places.{counts_of, place_of, room_of}
use Rattle.backing_store.specs.inner.Store.{StoreState, new_store, is_room, is_put, is_get, is_get_of, spare_of, records_of, nth}
use Rattle.backing_store.specs.inner.Store.{IsStore}

-- the lists are kept with their oldest first
abbrev pub state_of : Ledger → StoreState
state_of l = record { plans = l.plans.items; calls = reverse l.calls.items; puts = reverse l.puts.items }

-- there is none before memory was given
abbrev pub store_of : Option Ledger → StoreState
store_of None = new_store
store_of (Some l) = state_of l

abbrev pub counts_in : Page → List StoreCall → PageCounts
counts_in page calls = record { gets = count_by (is_get_of page) calls; puts = length (records_of page calls) }

-- these many rooms, gets and puts are among the calls, there is place for so many records, and this is known by page
pub record Counts (calls : List StoreCall) (rooms gets puts blanks : ℕ) (known : PagePlaces) : Type 0 where
  pub are_rooms : rooms ≡ count_by is_room calls
  pub are_gets : gets ≡ count_by is_get calls
  pub are_puts : puts ≡ count_by is_put calls
  pub are_spare : blanks ≡ spare_of calls
  pub counts : (page : Page) → counts_of known page ≡ counts_in page calls
  pub places : (page : Page) (n : ℕ) → place_of known page n ≡ nth n (records_of page calls)

-- there is room for the puts of all blanks and so many calls more
pub record LedgerHasRoom (more : ℕ) (l : Ledger) : Type 0 where
  pub calls : vec_len l.calls + vec_len l.blanks + more ≤ vec_capacity l.calls
  pub puts : vec_len l.puts + vec_len l.blanks + more ≤ vec_capacity l.puts
  pub known : vec_len l.blanks + more ≤ room_of l.known

pub record IsKept (l : Ledger) : Type 0 where
  pub counted : Counts (reverse l.calls.items) l.rooms l.gets (vec_len l.puts) (vec_len l.blanks) l.known
  pub room : LedgerHasRoom 0 l

-- .. and each of its calls was answered by the rules
pub record IsKeptByRule (l : Ledger) : Type 0 where
  pub kept : IsKept l
  pub by_rule : IsStore (state_of l)

abbrev pub IsKeptIn : Option Ledger → Type 0
IsKeptIn None = Unit {0}
IsKeptIn (Some l) = IsKeptByRule l
