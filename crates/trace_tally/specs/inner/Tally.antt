-- When a tally is that of entries.
use Rattle.std.specs.Prelude.{◌≡◌, List, length}
use Rattle.sgx_rules.specs.declared.entries.Entry.{Entry}
use Rattle.trace_tally.specs.declared.counts.Counts.{Counts}
use Rattle.trace_tally.specs.declared.counts.Seen.{Seen}
use Rattle.trace_tally.specs.declared.tally.Tally.{Tally}
use Rattle.trace_tally.specs.Tally.{more_if, counts, refusals, odd_place}
use Rattle.trace_tally.specs.inner.Sights.{Knows}

abbrev pub counts_with : Seen → Counts → Counts
counts_with seen before = record {
  written = more_if seen.written before.written;
  entered = more_if seen.entered before.entered;
  cached = more_if seen.cached before.cached;
  reloaded = more_if seen.reloaded before.reloaded;
  again = more_if seen.again before.again;
}

pub record TallyFollows (known : Tally) (past : List Entry) : Type 0 where
  pub sights : Knows known.sights past
  pub len : known.len ≡ length past
  pub counts : known.counts ≡ counts past
  pub refusals : known.refusals.items ≡ refusals past
  pub odd : known.odd ≡ odd_place past
