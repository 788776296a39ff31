-- What is true of every table of places.
use Rattle.std.specs.Prelude.{◌≡◌, ℕ, ◌+◌, ◌<◌, ◌^◌, length, sum, take, slice_index}
use Rattle.driver_list.specs.declared.places.Places.TheInside.{Inside}
use Rattle.driver_list.specs.inner.Places.{PageCounts, total}

-- how many pages have places
abbrev pub counts_of : Inside → PageCounts
counts_of p = record { own = p.counts.items; arrays = p.arrays }

-- behind the SECSs and the version array pages, each enclave's range begins where those before it end
pub record AreRangesKept (p : Inside) : Type 0 where
  pub few : total (counts_of p) < 2 ^ 32
  pub sized : length p.firsts.items ≡ length p.counts.items
  pub firsts : (before : ℕ) → before < length p.counts.items → slice_index p.firsts.items before ≡
      length p.counts.items + p.arrays + sum (take before p.counts.items)
