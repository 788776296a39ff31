use Rattle.std.proofs.Common.{◌≡◌, ◌%◌, ◌^◌, take}
use Rattle.std.specs.List.{sum_by}
use Rattle.page_commands.specs.Summary.{loaded_value}
use Rattle.page_commands.proofs.summary.sum_of_loads.Given as goal

abbrev pub invariant-loop-entry : goal.invariant-loop-entry
invariant-loop-entry l = l.sum ≡ sum_by loaded_value (take l.entry-index l.entries) % 2 ^ 64
