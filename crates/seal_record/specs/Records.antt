-- The records that EWB made and those that ELD was given, and what is supposed of their tags.
use Rattle.std.specs.Prelude.{ℕ, ◌≡◌, ◌⊎◌, List, take}
use Rattle.std.specs.List.{All, Any}
use Rattle.sgx_types.specs.declared.record.Header.{Header}
use Rattle.seal_record.specs.Cipher.{tag}

-- a record that a done EWB gave out, with its version
pub record Made : Type 0 where
  pub version : ℕ
  pub header : Header
  pub cipher : List ℕ
  pub tag : List ℕ

-- a record that the commit of an ELD looked at, with the version in its slot, and how many records had been made before
pub record Given : Type 0 where
  pub made : ℕ
  pub version : ℕ
  pub header : Header
  pub cipher : List ℕ
  pub tag : List ℕ

-- what a tag speaks of
pub record Tagged : Type 0 where
  pub version : ℕ
  pub header : Header
  pub cipher : List ℕ

-- its tag
abbrev pub tag_of : List ℕ → Tagged → List ℕ
tag_of key it = tag key it.version it.header it.cipher

-- what a made record's tag speaks of
abbrev pub made_of : Made → Tagged
made_of made = record { version = made.version; header = made.header; cipher = made.cipher }

-- .. and a given record's
abbrev pub given_of : Given → Tagged
given_of given = record { version = given.version; header = given.header; cipher = given.cipher }

-- a given record fits: its tag is the tag of its version, header and cipher
abbrev pub IsFitting : List ℕ → Given → Type 0
IsFitting key given = given.tag ≡ tag_of key (given_of given)

-- one of these records has this tag
abbrev pub CarriesTag : List Made → List ℕ → Type 0
CarriesTag made digest = Any (λ one. one.tag ≡ digest) made

-- a version, header and cipher are those of a made record, or of a given record that fits
abbrev pub IsAmong : List ℕ → List Made → List Given → Tagged → Type 0
IsAmong key made given it = Any (λ one. made_of one ≡ it) made ⊎ Any (λ one. IsFitting key one × (given_of one ≡ it)) given

-- no record was forged, and no two share a tag
pub record Unforged (key : List ℕ) (made : List Made) (given : List Given) : Type 0 where
  -- each given record that fits carries the tag of a record that had been made before
  pub carried : All (λ one. IsFitting key one → CarriesTag (take one.made made) one.tag) given
  -- two versions, headers and ciphers that have one tag are the same
  pub apart : (one other : Tagged) → IsAmong key made given one → IsAmong key made given other → tag_of key one ≡ tag_of key other
      → one ≡ other
