-- Each column of a state that stands for entries, as the entries and flat memory have it.
use Rattle.std.proofs.Common.{◌≡◌, ℕ, ◌||◌, ◌&&◌, not, Bool, true, false, cond, refl, sym, ap, ◌∙◌, Some, None, List}
use Rattle.std.proofs.Common.{[], ◌∷◌, map, is_some}
use Rattle.sgx_rules.specs.declared.entries.Entry.{Entry}
use Rattle.sgx_types.specs.declared.names.Page.{Page}
use Rattle.sgx_rules.specs.inner.Enclaves.{EnclavesAreFlat, created}
use Rattle.sgx_rules.specs.Epochs.{epoch, epoch_in}
use Rattle.sgx_rules.specs.inner.Epochs.{block_epoch, noted}
use Rattle.sgx_rules.specs.Flat.{added_as, flat}
use Rattle.sgx_rules.specs.Frames.{added, content, is_block, is_blocked, is_put, is_sealing, made_before, put_by, vas_made}
use Rattle.sgx_rules.specs.Processors.{stay, translations}
use Rattle.sgx_rules.specs.Sights.{sight_at}
use Rattle.sgx_rules.specs.Slots.{next_version}
use Rattle.sgx_rules.specs.Starts.{open_start}
use Rattle.sgx_rules.specs.inner.Starts.{bare_start}
use Rattle.machine_laws.specs.inner.Columns.{HasColumns, noted_inside, without_perm, seat_of_stay}
use Rattle.machine_laws.specs.inner.Stands.{Stands, inside_of_stay}
use Rattle.machine_laws.specs.inner.State.{State, sight}

-- ---- by the entries

pub content_is : {s : State} {past : List Entry} → HasColumns s past → (n : ℕ) → s.content n ≡ content past n
content_is h n i = (h.frames i).content n

pub blocked_is : {s : State} {past : List Entry} → HasColumns s past → (n : ℕ) → s.blocked n ≡ block_epoch s.first_epoch past n
blocked_is h n i = (h.frames i).blocked n

pub sealing_is : {s : State} {past : List Entry} → HasColumns s past → (n : ℕ) → s.is_sealing n ≡ is_sealing past n
sealing_is h n i = (h.frames i).is_sealing n

pub start_is : {s : State} {past : List Entry} → HasColumns s past → (n : ℕ) → s.start n ≡ bare_start (open_start past n)
start_is h n i = (h.frames i).start n

pub inside_is : {s : State} {past : List Entry} → HasColumns s past → (p : ℕ) → s.inside p ≡ seat_of_stay (stay past p)
inside_is h p i = (h.cpus i).inside p

pub noted_is : {s : State} {past : List Entry} → HasColumns s past → (p : ℕ)
    → s.noted p ≡ noted_inside (stay past p) (noted s.first_epoch past p)
noted_is h p i = (h.cpus i).noted p

pub translations_are : {s : State} {past : List Entry} → HasColumns s past → (p : ℕ) → map without_perm (s.cache p) ≡ translations past p
translations_are h p i = (h.cpus i).translations p

pub next_version_is : {s : State} {past : List Entry} → HasColumns s past → s.next_version ≡ next_version s.first_version past
next_version_is h = h.next_version

pub vas_is : {s : State} {past : List Entry} → HasColumns s past → s.vas_made ≡ vas_made past
vas_is h i = (h.enclaves i).vas_made

pub epoch_is : {s : State} {past : List Entry} → HasColumns s past → (e : ℕ) → s.epoch e ≡ epoch s.first_epoch past e
epoch_is h e i = (h.enclaves i).epoch e

pub enclave_is : {s : State} {past : List Entry} → HasColumns s past → (e : ℕ) → s.enclaves e ≡ created past e
enclave_is h e i = (h.enclaves i).enclaves e

pub added_is : {s : State} {past : List Entry} → HasColumns s past → (g : Page) → s.added g ≡ added past g
added_is h g i = (h.enclaves i).added g

-- a page was blocked since it came into its frame exactly where its block has an epoch
has_block : (first : ℕ) (past : List Entry) (n : ℕ) → is_some (block_epoch first past n) ≡ is_blocked past n
has_block first [] n = refl
has_block first (e ∷ past) n = by_event (is_block e.event n) (is_put (put_by e.event (made_before past)) n) (has_block first past n)
  where
    by_event : (b c : Bool) → is_some (block_epoch first past n) ≡ is_blocked past n
        → is_some (cond b (Some (epoch_in first past n)) (cond c None (block_epoch first past n))) ≡ (b || (not c && is_blocked past n))
    by_event true c before = refl
    by_event false true before = refl
    by_event false false before = before

pub is_blocked_is : {s : State} {past : List Entry} → HasColumns s past → (n : ℕ) → is_some (s.blocked n) ≡ is_blocked past n
is_blocked_is {s} {past} h n = ap is_some (blocked_is h n) ∙ has_block s.first_epoch past n

-- what a row sees of a frame
pub sight_is : {s : State} {past : List Entry} → HasColumns s past → (n : ℕ) → sight s n ≡ sight_at s.frames past n
sight_is h n = rw (content_is h n, sealing_is h n, is_blocked_is h n) refl

-- ---- in flat memory that has the enclaves and pages of the entries

pub enclave_seen : {s : State} {past : List Entry} → HasColumns s past → EnclavesAreFlat past → (e : ℕ)
    → s.enclaves e ≡ (flat past).enclaves e
enclave_seen h seen e = enclave_is h e ∙ seen.enclaves e

pub page_seen : {s : State} {past : List Entry} → HasColumns s past → EnclavesAreFlat past → (g : Page)
    → s.added g ≡ added_as ((flat past).pages g)
page_seen h seen g = added_is h g ∙ seen.pages g

-- ---- in flat memory

pub enclave_flat : {s : State} {past : List Entry} → Stands s past → (e : ℕ) → s.enclaves e ≡ (flat past).enclaves e
enclave_flat h e i = (h.memory.enclaves i).enclaves e

pub added_flat : {s : State} {past : List Entry} → Stands s past → (g : Page) → s.added g ≡ added_as ((flat past).pages g)
added_flat h g i = (h.memory.enclaves i).added g

pub busy_flat : {s : State} {past : List Entry} → Stands s past → (g : Page) → s.is_busy g ≡ (flat past).is_busy g
busy_flat h g i = (h.memory.enclaves i).is_busy g

pub acc_flat : {s : State} {past : List Entry} → Stands s past → (p : ℕ) → ((flat past).cpus p).acc ≡ s.acc p
acc_flat h p i = (h.memory.cpus p i).acc

pub inside_flat : {s : State} {past : List Entry} → Stands s past → (p : ℕ) → ((flat past).cpus p).inside ≡ inside_of_stay (stay past p)
inside_flat h p i = (h.memory.cpus p i).inside

-- flat memory has the enclaves and pages that the entries made
pub enclaves_are_flat : {s : State} {past : List Entry} → Stands s past → EnclavesAreFlat past
enclaves_are_flat h = record {
  enclaves = λ e. sym (enclave_is h.columns e) ∙ enclave_flat h e;
  pages = λ g. sym (added_is h.columns g) ∙ added_flat h g;
}
