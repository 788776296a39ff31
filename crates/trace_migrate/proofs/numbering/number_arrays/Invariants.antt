-- The entries before a place are numbered, and those from it on are as they were.
use Rattle.std.proofs.Common.{◌≡◌, ◌≤◌, ◌++◌, length, take, drop, reverse}
use Rattle.sgx_rules.specs.Frames.{vas_made}
use Rattle.trace_migrate.proofs.NumberLaws.{along}
use Rattle.trace_migrate.proofs.numbering.number_arrays.Given as goal

abbrev pub invariant-loop-at : goal.invariant-loop-at
invariant-loop-at l = record {
  entries : l.entries ≡ along (take l.at l.fn.entries) ++ drop l.at l.fn.entries;
  made : l.made ≡ vas_made (reverse (take l.at l.fn.entries));
  few : l.made ≤ l.at;
  end : l.at-end ≡ length l.fn.entries;
}
