use Rattle.std.proofs.Common.{◌≡◌, ◌+◌, ◌<◌, ◌≤◌, ℕ, length, sum, take, get_or, vec_capacity}
use Rattle.driver_list.proofs.places.Places.new.Given as goal

abbrev pub invariant-loop-count : goal.invariant-loop-count
invariant-loop-count l = record {
  counts : l.by_enclave.items ≡ take l.count-index l.counts;
  total : l.total ≡ length l.counts + l.arrays + sum l.by_enclave.items;
  sized : length l.firsts.items ≡ length l.by_enclave.items;
  firsts : (before : ℕ) → before < length l.by_enclave.items → get_or l.firsts.items before 0 ≡
      length l.counts + l.arrays + sum (take before l.by_enclave.items);
  room : (length l.counts ≤ vec_capacity l.by_enclave) × (length l.counts ≤ vec_capacity l.firsts);
}
