-- What the rules give of versions, starts and records: each version is drawn once, each slot has one start, and each record is one
-- page's.
use Rattle.std.specs.Prelude.{ℕ, ◌≡◌, ◌<◌, ◌≤◌, true, List, [], ◌∷◌, Some, None, false}
use Rattle.std.specs.List.{Any}
use Rattle.sgx_rules.specs.declared.entries.Action.TheVariants.{Ewb}
use Rattle.sgx_rules.specs.declared.entries.Answer.TheVariants.{Moved}
use Rattle.sgx_rules.specs.declared.entries.Entry.{Entry}
use Rattle.sgx_rules.specs.declared.entries.Event.{Event}
use Rattle.sgx_rules.specs.declared.entries.Event.TheVariants.{Did}
use Rattle.sgx_types.specs.declared.names.Page.{Page}
use Rattle.sgx_rules.specs.inner.Enclaves.{is_there}
use Rattle.sgx_rules.specs.Frames.{IsLoading, IsVa, content, is_sealing}
use Rattle.sgx_rules.specs.Rules.{Along, EvictRule, FlatRule, RefusalRule}
use Rattle.sgx_rules.specs.PageBytes.{header_at}
use Rattle.sgx_types.specs.Pages.{same_slot}
use Rattle.sgx_rules.specs.Slots.{is_slot_busy, next_version, version_in}
use Rattle.sgx_rules.specs.Starts.{Start, open_start}
use Rattle.seal_record.specs.Cipher.{tag}
use Rattle.seal_record.specs.Records.{Made, made_of, tag_of}
use Rattle.sgx_rules.specs.Fresh.{FreshRule, Out, last_out}
use Rattle.sgx_types.specs.Making.{Making}
use Rattle.seal_record.specs.inner.Sealing.{made_by}

-- ---- the rules together

-- the rules on instructions and versions
pub record KeepsMoves (k : Making) (past : List Entry) : Type 0 where
  pub refusal : Along (RefusalRule k) past
  pub flat : Along FlatRule past
  pub evict : Along EvictRule past
  pub fresh : Along (FreshRule k.first_version) past

-- ---- pages that went out

-- a page went out under a version
pub record Gone : Type 0 where
  pub page : Page
  pub version : ℕ

abbrev pub gone_after : Event → List Gone → List Gone
gone_after (Did (Ewb f) (Moved page version tag)) before = record { page = page; version = version } ∷ before
gone_after _ before = before

-- the pages that went out, the last first
abbrev pub gone : List Entry → List Gone
gone [] = []
gone (e ∷ past) = gone_after e.event (gone past)

abbrev pub IsGone : List Entry → Gone → Type 0
IsGone past x = Any (λ one. one ≡ x) (gone past)

-- each version is drawn once, and is below the next
pub record DrawnOnce (first : ℕ) (past : List Entry) : Type 0 where
  pub from : (n : ℕ) (x : Start) → open_start past n ≡ Some x → x.loads ≡ None → first ≤ x.version
  pub started : (n : ℕ) (x : Start) → open_start past n ≡ Some x → x.loads ≡ None → x.version < next_version first past
  pub apart : (m n : ℕ) (x y : Start) → open_start past m ≡ Some x → open_start past n ≡ Some y → x.loads ≡ None → y.loads ≡ None
      → x.version ≡ y.version → m ≡ n
  pub ended : (x : Gone) → IsGone past x → (first ≤ x.version) × (x.version < next_version first past)
  pub not_open : (n : ℕ) (x : Start) (y : Gone) → open_start past n ≡ Some x → x.loads ≡ None → IsGone past y → x.version ≡ y.version → ⊥
  pub once : (x y : Gone) → IsGone past x → IsGone past y → x.version ≡ y.version → x ≡ y

-- ---- starts

-- a slot is found still where a start found it, in a version array page that is not on its way out
pub record IsFound (past : List Entry) (x : Start) : Type 0 where
  pub held : content past x.at.frame.0 ≡ IsVa x.slot.va
  pub index : x.at.index ≡ x.slot.index
  pub stays : is_sealing past x.at.frame.0 ≡ false

-- an open start, of one of so many frames, has its slot for itself: of a load the slot has its version and there is such a page, of a
-- write-out it is empty
pub record StartsApart (frames : ℕ) (past : List Entry) : Type 0 where
  pub below : (n : ℕ) (x : Start) → open_start past n ≡ Some x → n < frames
  pub busy : (n : ℕ) (x : Start) → open_start past n ≡ Some x → is_slot_busy frames past x.slot ≡ true
  pub alone : (m n : ℕ) (x y : Start) → open_start past m ≡ Some x → open_start past n ≡ Some y → same_slot x.slot y.slot ≡ true → m ≡ n
  pub found : (n : ℕ) (x : Start) (g : Page) → open_start past n ≡ Some x → x.loads ≡ Some g
      → (version_in past x.slot ≡ x.version) × (0 < x.version)
  pub there : (n : ℕ) (x : Start) (g : Page) → open_start past n ≡ Some x → x.loads ≡ Some g → is_there past g ≡ true
  pub loading : (n : ℕ) (x : Start) (g : Page) → open_start past n ≡ Some x → x.loads ≡ Some g → content past n ≡ IsLoading g
  pub empty : (n : ℕ) (x : Start) → open_start past n ≡ Some x → x.loads ≡ None → version_in past x.slot ≡ 0
  pub leaving : (n : ℕ) (x : Start) → open_start past n ≡ Some x → x.loads ≡ None → is_sealing past n ≡ true
  pub where_found : (n : ℕ) (x : Start) → open_start past n ≡ Some x → IsFound past x

-- ---- records

-- a record that was made is of a page that went out under its version, has the page's header, and carries its own tag
pub record IsOfPage (key : List ℕ) (past : List Entry) (one : Made) : Type 0 where
  pub page : Page
  pub gone : IsGone past (record { page = page; version = one.version })
  pub header : header_at past page ≡ Some one.header
  pub tagged : one.tag ≡ tag_of key (made_of one)

abbrev pub IsMade : List ℕ → List Entry → Made → Type 0
IsMade key past one = Any (λ other. other ≡ one) (made_by key past)

-- the record of a page's last write-out
pub record IsLastMade (key : List ℕ) (past : List Entry) (g : Page) (o : Out) (one : Made) : Type 0 where
  pub made : IsMade key past one
  pub version : one.version ≡ o.version
  pub tag : one.tag ≡ o.tag

pub record MadeOnce (key : List ℕ) (past : List Entry) : Type 0 where
  pub own : (one : Made) → IsMade key past one → IsOfPage key past one
  pub once : (one other : Made) → IsMade key past one → IsMade key past other → one.version ≡ other.version → one ≡ other
  pub last : (g : Page) (o : Out) → last_out past g ≡ Some o → (one : Made) × IsLastMade key past g o one
