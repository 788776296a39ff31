-- The frame that holds an enclave's SECS, by the entries as they are kept.
use Rattle.std.proofs.Common.{◌≡◌, ℕ, ◌<◌, ◌≤◌, Bool, true, false, sym, ap, ◌∙◌, arith, length, get_or, List, Some, None}
use Rattle.sgx_rules.specs.Frames.{is_secs_of, secs_frame}
use Rattle.sgx_types.proofs.LeastLaws.{least_is, none_least}
use Rattle.epcm_entry.specs.declared.entry_view.EntryView.{EntryView}
use Rattle.epcm_entry.specs.declared.entry_view.EntryView.TheVariants.{Free}
use Rattle.epcm_entry.specs.inner.Epc.{EpcFrame, frames_of}
use Rattle.epcm_entry.specs.inner.Sights.{held, held_in}
use Rattle.epcm_entry.proofs.Frames.{frame-frames_of, length-frames_of}

module _ (entries : List EntryView) (pages : List (List (List ℕ))) (same : length pages ≡ length entries) (e : ℕ) where
  abbrev at : ℕ → Bool
  at k = is_secs_of (held (get_or entries k Free)) e

  seen : (k : ℕ) → k < length entries → is_secs_of (held_in (frames_of entries pages) k) e ≡ at k
  seen k low = ap (λ (x : EpcFrame). is_secs_of (held x.entry) e) (frame-frames_of entries pages k same low)

  pub secs_found : (k : ℕ) → k < length entries → at k ≡ true → ((j : ℕ) → j < k → at j ≡ false)
      → Some k ≡ secs_frame (length (frames_of entries pages)) (held_in (frames_of entries pages)) e
  secs_found k low here before =
      let size = length-frames_of entries pages same in
      sym (least_is (λ n. is_secs_of (held_in (frames_of entries pages) n) e) (length (frames_of entries pages)) k
      (record {
        below = omega (arith, low, size);
        passes = seen k low ∙ here;
        least = λ j less. seen j (omega (arith, low, less))
            ∙ before j less;
      }))

  pub secs_none : (end : ℕ) → length entries ≤ end → ((j : ℕ) → j < end → at j ≡ false)
      → None ≡ secs_frame (length (frames_of entries pages)) (held_in (frames_of entries pages)) e
  secs_none end all before =
      let size = length-frames_of entries pages same in
      sym (none_least (λ n. is_secs_of (held_in (frames_of entries pages) n) e) (length (frames_of entries pages))
      (λ j low. seen j (omega (arith, low, size)) ∙ before j (omega (arith, low, size, all))))
