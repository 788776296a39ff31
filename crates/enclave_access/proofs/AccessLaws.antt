-- Where the translations of a cache lead, and what fills and stores leave of that.
use Rattle.std.proofs.Common.{◌≡◌, ℕ, ◌<◌, ◌/◌, Bool, true, false, cond, ltb, is_some, List, [], ◌∷◌, ◌++◌}
use Rattle.std.proofs.Common.{Option, Some, None, length, length-set, drop, refl}
use Rattle.std.proofs.lemmas.List.Elements.{All-push, All-drop}
use Rattle.sgx_types.specs.declared.names.Frame.{Frame}
use Rattle.sgx_types.specs.declared.names.Perm.{Perm}
use Rattle.epcm_entry.specs.inner.Epc.{EpcFrame}
use Rattle.cached_translations.specs.declared.cache.Translation.{Translation}
use Rattle.cached_translations.specs.declared.processor.Processor.{Processor}
use Rattle.cached_translations.specs.inner.Translations.{translation_of, newest, with_translation}
use Rattle.cached_translations.proofs.TranslationLaws.{translation_of-all}
use Rattle.enclave_access.specs.inner.Access.{LeadsBelow, translation_at, with_filled, with_word_in, with_stored}

-- the translation of the page at an offset leads to a frame below the number
pub leads_below : (cache : List Translation) (off frames : ℕ) (t : Translation) → LeadsBelow cache frames
    → translation_at cache off ≡ Some t → t.frame.0 < frames
leads_below cache off frames t below found = translation_of-all (λ (x : Translation). x.frame.0 < frames) cache (off / 4096) t found below

newest_below : (cache : List Translation) (frames : ℕ) → LeadsBelow cache frames → LeadsBelow (newest cache) frames
newest_below cache frames below = by_test (ltb 64 (length cache))
  where
    by_test : (b : Bool) → LeadsBelow (cond b (drop 1 cache) cache) frames
    by_test true = All-drop (λ (x : Translation). x.frame.0 < frames) 1 cache below
    by_test false = below

translation_below : (cache : List Translation) (t : Translation) (frames : ℕ) → LeadsBelow cache frames → t.frame.0 < frames
    → LeadsBelow (with_translation cache t) frames
translation_below cache t frames below low = by_test (is_some (translation_of cache t.number))
  where
    by_test : (b : Bool) → LeadsBelow (cond b cache (newest (cache ++ t ∷ []))) frames
    by_test true = below
    by_test false = newest_below (cache ++ t ∷ []) frames (All-push (λ (x : Translation). x.frame.0 < frames) cache t below low)

-- a fill of a frame below the number leaves them so
pub filled_below : (cpu : Processor) (number : ℕ) (frame : Frame) (perm : Option Perm) (frames : ℕ) → LeadsBelow cpu.cache frames
    → frame.0 < frames
    → LeadsBelow (with_filled cpu number frame perm).cache frames
filled_below cpu number frame None frames below low = below
filled_below cpu number frame (Some perm) frames below low = translation_below cpu.cache _ frames below low

-- a store leaves the number of frames
pub length_stored : (epc : List EpcFrame) (cache : List Translation) (off value : ℕ) → length (with_stored epc cache off value) ≡ length epc
length_stored epc cache off value = by_case (translation_at cache off)
  where
    by_case : (o : Option Translation) → length (with_word_in epc o off value) ≡ length epc
    by_case None = refl
    by_case (Some t) = length-set epc t.frame.0 _
