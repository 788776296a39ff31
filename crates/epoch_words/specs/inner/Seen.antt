-- What the tracking word of an enclave says: its epoch, how many processors are inside that entered before its last track,
-- and how many that entered since.
use Rattle.std.specs.Prelude.{◌≡◌, ℕ, ◌+◌, ◌-◌, ◌*◌, ◌/◌, ◌%◌, ◌^◌, ◌<◌, ◌≤◌, ◌==◌, ◌⊎◌}
use Rattle.std.specs.Prelude.{if◌then◌else◌}
use Rattle.epoch_words.specs.declared.seen.Seen.{Seen}
use Rattle.sgx_types.specs.declared.names.TheConstants.{LAST_EPOCH, PROCESSORS}

abbrev pub seen : ℕ → ℕ → ℕ → Seen
seen epoch older newer = record { epoch = epoch; older = older; newer = newer }

-- ---- the word: bits 63 to 24 are the epoch, 23 to 12 the older processors, 11 to 0 the newer ones

abbrev pub word_of : Seen → ℕ
word_of s = s.epoch * 2 ^ 24 + s.older * 2 ^ 12 + s.newer

abbrev pub seen_in : ℕ → Seen
seen_in word = seen (word / 2 ^ 24) (word / 2 ^ 12 % 2 ^ 12) (word % 2 ^ 12)

-- the epoch has 40 bits, and at most 16 processors are inside
pub record IsLawful (s : Seen) : Type 0 where
  pub limited : s.epoch ≤ LAST_EPOCH
  pub few : s.older + s.newer ≤ PROCESSORS

-- ---- the kinds of change

-- no processor is inside
abbrev pub starting_at : ℕ → Seen
starting_at epoch = seen epoch 0 0

-- there is room for a processor more
abbrev pub HasRoom : Seen → Type 0
HasRoom s = s.older + s.newer < PROCESSORS

-- one has entered
abbrev pub entered : Seen → Seen
entered s = seen s.epoch s.older (s.newer + 1)

-- a processor is inside that entered at an epoch, which is this one or the one before
abbrev pub IsInside : Seen → ℕ → Type 0
IsInside s epoch = ((epoch ≡ s.epoch) × (0 < s.newer)) ⊎ ((epoch + 1 ≡ s.epoch) × (0 < s.older))

-- one that entered at an epoch has left
abbrev pub left : Seen → ℕ → Seen
left s epoch = if epoch == s.epoch then seen s.epoch s.older (s.newer - 1) else seen s.epoch (s.older - 1) s.newer

-- a new epoch may begin: no older processor is inside, and the epoch is not the last
abbrev pub CanTrack : Seen → Type 0
CanTrack s = (s.older ≡ 0) × (s.epoch < LAST_EPOCH)

-- it has begun, and whoever is inside entered before it
abbrev pub tracked : Seen → Seen
tracked s = seen (s.epoch + 1) s.newer 0

-- one of the three
abbrev pub Changes : Seen → Seen → Type 0
Changes s t = (HasRoom s × (t ≡ entered s)) ⊎ ((epoch : ℕ) × IsInside s epoch × (t ≡ left s epoch)) ⊎ (CanTrack s × (t ≡ tracked s))

-- ---- the order

-- s is not ahead of t: its epoch is not greater, and at the same epoch it has no fewer older processors
pub record IsNotAhead (s t : Seen) : Type 0 where
  pub epoch : s.epoch ≤ t.epoch
  pub older : s.epoch ≡ t.epoch → t.older ≤ s.older
