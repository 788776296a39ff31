use Rattle.std.proofs.Common.{◌≡◌, ℕ, ◌<◌, false, get_or}
use Rattle.epcm_entry.specs.declared.entry_view.EntryView.TheVariants as views
use Rattle.epcm_entry.specs.inner.Sights.{held}
use Rattle.sgx_rules.specs.Frames.{is_secs_of}
use Rattle.epcm_entry.proofs.epc.Epc.secs_frame.Given as goal

abbrev pub invariant-loop-number : goal.invariant-loop-number
invariant-loop-number l = (k : ℕ) → k < l.number → is_secs_of (held (get_or l.entry-items k views.Free)) l.enclave ≡ false
