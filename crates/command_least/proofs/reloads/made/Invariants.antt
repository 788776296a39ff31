use Rattle.std.proofs.Common.{◌≡◌, ◌≤◌, reverse, take}
use Rattle.command_least.specs.Accesses.{made}
use Rattle.command_least.specs.inner.Reloads.{AreRegs}
use Rattle.command_least.proofs.reloads.made.Given as goal

abbrev pub invariant-loop-entry : goal.invariant-loop-entry
invariant-loop-entry l = record {
  regs : AreRegs (reverse (take l.entry-index l.entries)) l.regs;
  count : l.count ≡ made (reverse (take l.entry-index l.entries));
  few : l.count ≤ l.entry-index;
}
